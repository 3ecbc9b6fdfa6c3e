use Rattle.rc_spef.proofs.Lines.{conn_parts}
use Rattle.rc_spef.proofs.Puts.{puts_then, puts_is}
use Rattle.rc_spef.proofs.writer.put_conn.Goals as goal

pub returns : goal.returns
returns g c =
    puts_is (puts_then c.put_kind.ensures (puts_then c.put_end.ensures (puts_then c.put_direction.ensures c.put_cell.ensures))) (conn_parts c.args.conn.now)
