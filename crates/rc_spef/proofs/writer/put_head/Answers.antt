use Rattle.std.proofs.Common.{ap}
use Rattle.rc_spef.specs.Text.{lines_text, name_map, ports_text}
use Rattle.rc_spef.proofs.Puts.{puts_then, puts_is}
use Rattle.rc_spef.proofs.Lines.{head_parts}
use Rattle.rc_spef.proofs.writer.put_head.Goals as goal

pub returns : goal.returns
returns g c =
    let names = puts_is c.put_names.ensures (ap (λ names. lines_text (name_map names)) c.items.ensures) in
    let ports = puts_is c.put_ports.ensures (ap (λ ports. lines_text (ports_text ports)) c.items-2.ensures) in
    puts_is (puts_then c.put_header.ensures (puts_then names ports)) (head_parts c.args.spef.now)
