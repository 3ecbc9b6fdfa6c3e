use Rattle.rc_spef.proofs.Puts.{puts_then}
use Rattle.rc_spef.proofs.writer.put_resistor.Goals as goal

pub returns : goal.returns
returns g c =
    puts_then c.put_number.ensures (puts_then c.put_end.ensures (puts_then c.put_end-2.ensures c.put_amount.ensures))
