use Rattle.std.proofs.Common.{ap}
use Rattle.std.specs.List.{flat_map}
use Rattle.rc_spef.specs.Text.{lines_text, net_block}
use Rattle.rc_spef.proofs.Puts.{puts_then, puts_is}
use Rattle.rc_spef.proofs.Lines.{spef_parts}
use Rattle.rc_spef.proofs.writer.put_spef.Goals as goal

pub returns : goal.returns
returns g c =
    let nets = puts_is c.put_nets.ensures (ap (λ nets. lines_text (flat_map net_block nets)) c.items.ensures) in
    puts_is (puts_then c.put_head.ensures nets) (spef_parts c.args.spef.now)
