use Rattle.rc_spef.proofs.Puts.{puts_then}
use Rattle.rc_spef.proofs.writer.put_port.Goals as goal

pub returns : goal.returns
returns g c =
    puts_then c.put.ensures (puts_then c.put_number.ensures (puts_then c.put_direction.ensures c.put-2.ensures))
