use Rattle.rc_spef.proofs.Puts.{puts_then}
use Rattle.rc_spef.proofs.writer.put_end.Goals as goal

pub returns : goal.returns
returns g c =
    puts_then c.put.ensures (puts_then c.put_number.ensures c.put_sub.ensures)
