use Rattle.rc_spef.proofs.Puts.{puts_then}
use Rattle.rc_spef.proofs.writer.put_amount.Goals as goal

pub returns : goal.returns
returns g c =
    puts_then c.put.ensures (puts_then c.put_value.ensures c.put-2.ensures)
