use Rattle.std.proofs.Common.{ap, [], ◌∷◌}
use Rattle.std.specs.Prelude.{codes, map}
use Rattle.std.specs.List.{enumerate_from}
use Rattle.rc_spef.specs.Text.{lines_text, section, keyword, conn_line, cap_line, resistor_line}
use Rattle.rc_spef.proofs.Puts.{puts_then, puts_is}
use Rattle.rc_spef.proofs.Lines.{net_parts}
use Rattle.rc_spef.proofs.writer.put_net.Goals as goal

pub returns : goal.returns
returns g c =
    let conns = puts_is c.put_conns.ensures (ap (λ conns. lines_text (section (keyword (codes "*CONN") ∷ []) (map conn_line conns))) c.items.ensures) in
    let caps = puts_is c.put_caps.ensures (ap (λ caps. lines_text (section (keyword (codes "*CAP") ∷ []) (map cap_line (enumerate_from 1 caps)))) c.items-2.ensures) in
    let res = puts_is c.put_resistors.ensures (ap (λ res. lines_text (section (keyword (codes "*RES") ∷ []) (map resistor_line (enumerate_from 1 res)))) c.items-3.ensures) in
    puts_is (puts_then c.put.ensures (puts_then c.put_number.ensures (puts_then c.put_amount.ensures (puts_then conns (puts_then caps (puts_then res c.put-2.ensures)))))) (net_parts c.args.net.now)
