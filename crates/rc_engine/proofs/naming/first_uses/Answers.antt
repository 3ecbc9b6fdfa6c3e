-- The components of one net more join those before them.
use Rattle.std.proofs.Common.{List, ℕ, [], ◌∷◌, ◌++◌, take, ap, sym, ◌∙◌}
use Rattle.std.specs.Prelude.{fold}
use Rattle.std.specs.List.{flat_map}
use Rattle.std.proofs.lemmas.List.{take_more, append-nil}
use Rattle.std.proofs.lemmas.Grind.{flat_map-append}
use Rattle.std.proofs.lemmas.List.Sums.{fold-append}
use Rattle.rc_layout.specs.declared.net.Net.{Net}
use Rattle.rc_layout.specs.declared.net.Conn.{Conn}
use Rattle.rc_engine.specs.Names.{with_conn, first_uses}
use Rattle.rc_engine.proofs.naming.first_uses.Goals as goal

pub loop-net-init : goal.loop-net-init
unfolding first_uses
loop-net-init c = c.new-uses.ensures.empty

pub loop-net-preserved : goal.loop-net-preserved
unfolding first_uses
loop-net-preserved c =
    let net = c.net-item.result in
    let before = take c.loop-net.net-index c.args.nets.now in
    c.in_ok-enter_uses.ensures
    ∙ ap (λ (conns : List Conn). fold with_conn c.loop-net.uses.keys conns) c.items.ensures
    ∙ ap (λ (keys : List ℕ). fold with_conn keys net.conns) c.loop-net.invariant
    ∙ sym (fold-append with_conn [] (flat_map (λ (n : Net). n.conns) before) net.conns)
    ∙ ap (λ (conns : List Conn). fold with_conn [] (flat_map (λ (n : Net). n.conns) before ++ conns)) (sym (append-nil net.conns))
    ∙ ap (fold with_conn []) (sym (flat_map-append (λ (n : Net). n.conns) before (net ∷ [])))
    ∙ ap (λ (n : Net). fold with_conn [] (flat_map (λ (n : Net). n.conns) (before ++ n ∷ []))) c.net-item.is
    ∙ ap (λ (nets : List Net). fold with_conn [] (flat_map (λ (n : Net). n.conns) nets)) (sym (take_more c.args.nets.now c.loop-net.net-index net c.loop-net-test.true))
