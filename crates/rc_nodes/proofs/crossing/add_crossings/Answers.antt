use Rattle.std.proofs.Common.{true, false, subst, sym}
use Rattle.std.proofs.lemmas.Result.{err_from_is_err_and}
use Rattle.rc_nodes.specs.Crossings.{centrelines_of, HaveSamePlaces}
use Rattle.rc_nodes.proofs.Reached.{found_crossings, full_crossings}
use Rattle.rc_nodes.proofs.crossing.add_crossings.Goals as goal

pub returns-in_err-add_common-clause-full : goal.returns-in_err-add_common-clause-full
returns-in_err-add_common-clause-full c =
    let p = err_from_is_err_and c.from_residual-in_err-add_common.result c.from_residual-in_err-add_common.ensures.1 in
    rw (p.1, p.2) (full_crossings c.args.room c.args.items.now c.deref.result.now c.deref-2.result.now c.args.nodes.now.items c.in_err-add_common.field-0.0 c.requires
    (subst (HaveSamePlaces (centrelines_of true c.args.items.now)) (sym c.deref.ensures.value) c.in_ok-levels.ensures.places)
    (subst (HaveSamePlaces (centrelines_of false c.args.items.now)) (sym c.deref-2.ensures.value) c.in_ok-uprights.ensures.places)
    c.in_err-add_common.ensures.full)

pub returns-clause-found : goal.returns-clause-found
returns-clause-found c =
    found_crossings c.args.items.now c.deref.result.now c.deref-2.result.now c.args.nodes.now.items c.add_common.new.nodes.items c.requires
    (subst (HaveSamePlaces (centrelines_of true c.args.items.now)) (sym c.deref.ensures.value) c.in_ok-levels.ensures.places)
    (subst (HaveSamePlaces (centrelines_of false c.args.items.now)) (sym c.deref-2.ensures.value) c.in_ok-uprights.ensures.places)
    c.in_ok-add_common.ensures.found
