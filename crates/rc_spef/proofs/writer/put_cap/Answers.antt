use Rattle.rc_spef.proofs.Lines.{cap_parts}
use Rattle.rc_spef.proofs.Puts.{puts_then, puts_is}
use Rattle.rc_spef.proofs.writer.put_cap.Goals as goal

pub returns : goal.returns
returns g c =
    puts_is (puts_then c.put_number.ensures (puts_then c.put_end.ensures (puts_then c.put_second.ensures c.put_amount.ensures))) (cap_parts c.args.number c.args.cap.now.a c.args.cap.now.b c.args.cap.now.value.0)
