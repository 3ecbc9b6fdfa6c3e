use Rattle.std.proofs.Common.{◌++◌, ℕ, List, ap, sym, ◌∙◌}
use Rattle.std.proofs.lemmas.List.{append-nil}
use Rattle.rc_windows.proofs.Listed.{place_told, gap_told}
use Rattle.rc_windows.proofs.places.push_place.Goals as goal

pub returns-in_ok-push-in-Ok : goal.returns-in_ok-push-in-Ok
returns-in_ok-push-in-Ok c =
    let here = place_told c.args.list.now c.args.number c.in-Ok.place c.requires.rising c.in-Ok.ensures.bound c.in-Ok.ensures.ok in
    c.in_ok-push-in-Ok.ensures.items ∙ ap (λ (ks : List ℕ). c.args.places.now.items ++ ks) (sym here)

pub returns-in-Err : goal.returns-in-Err
returns-in-Err c =
    let none = gap_told c.args.list.now c.args.number c.in-Err.field-0 c.requires.rising c.in-Err.ensures.position in
    sym (ap (λ (ks : List ℕ). c.args.places.now.items ++ ks) none ∙ append-nil c.args.places.now.items)
