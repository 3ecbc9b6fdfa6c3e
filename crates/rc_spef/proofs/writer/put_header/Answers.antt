use Rattle.rc_spef.proofs.Lines.{header_parts}
use Rattle.rc_spef.proofs.Puts.{puts_then, puts_is}
use Rattle.rc_spef.proofs.writer.put_header.Goals as goal

pub returns : goal.returns
returns g c =
    puts_is (puts_then c.put.ensures (puts_then (puts_is c.put-2.ensures c.bytes.ensures) (puts_then c.put-3.ensures (puts_then c.put-4.ensures (puts_then c.put-5.ensures (puts_then c.put-6.ensures (puts_then c.put-7.ensures (puts_then c.put-8.ensures c.put-9.ensures)))))))) (header_parts c.args.spef.now)
