use Rattle.std.proofs.Common.{◌∙◌}
use Rattle.std.proofs.lemmas.Result.{err_from_is_err_and}
use Rattle.rc_nodes.proofs.Halved.{found_in_steps, full_across, full_below, full_above}
use Rattle.rc_nodes.proofs.crossing.+add_common.Goals as goal

pub returns-in_err-add_across-clause-full : goal.returns-in_err-add_across-clause-full
returns-in_err-add_across-clause-full t c =
    let p = err_from_is_err_and c.from_residual-in_err-add_across.result c.from_residual-in_err-add_across.ensures.1 in
    rw (p.1, p.2) (full_across c.args.room c.rows_of-all.result c.rows_of.result c.rows_of-2.result c.args.levels.now c.args.uprights.now c.halves.result.0.now c.halves.result.1.now c.in_ok-below.below.items c.in_ok-above.above.items c.args.nodes.now.items c.in_err-add_across.field-0.0
    (record {
      parts = c.halves.ensures.all;
      below_is = c.in_ok-below.ensures.are;
      above_is = c.in_ok-above.ensures.are;
      in_lower = c.rows_of.ensures;
      in_upper = c.rows_of-2.ensures;
    })
    c.in_err-add_across.ensures.full)

pub returns-in_err-add_common-clause-full : goal.returns-in_err-add_common-clause-full
returns-in_err-add_common-clause-full t c =
    let p = err_from_is_err_and c.from_residual-in_err-add_common.result c.from_residual-in_err-add_common.ensures.1 in
    rw (p.1, p.2) (full_below c.args.room c.rows_of-all.result c.rows_of.result c.rows_of-2.result c.args.levels.now c.args.uprights.now c.halves.result.0.now c.halves.result.1.now c.deref.result.now c.in_ok-above.above.items c.args.nodes.now.items c.add_across.new.nodes.items c.in_err-add_common.field-0.0
    (record {
      parts = c.halves.ensures.all;
      below_is = c.deref.ensures.value ∙ c.in_ok-below.ensures.are;
      above_is = c.in_ok-above.ensures.are;
      in_lower = c.rows_of.ensures;
      in_upper = c.rows_of-2.ensures;
    })
    c.in_ok-add_across.ensures.found c.in_err-add_common.ensures.full)

pub returns-in_err-add_common-2-clause-full : goal.returns-in_err-add_common-2-clause-full
returns-in_err-add_common-2-clause-full t c =
    let p = err_from_is_err_and c.from_residual-in_err-add_common-2.result c.from_residual-in_err-add_common-2.ensures.1 in
    rw (p.1, p.2) (full_above c.args.room c.rows_of-all.result c.rows_of.result c.rows_of-2.result c.args.levels.now c.args.uprights.now c.halves.result.0.now c.halves.result.1.now c.deref.result.now c.deref-2.result.now c.args.nodes.now.items c.add_across.new.nodes.items c.add_common.new.nodes.items c.in_err-add_common-2.field-0.0
    (record {
      parts = c.halves.ensures.all;
      below_is = c.deref.ensures.value ∙ c.in_ok-below.ensures.are;
      above_is = c.deref-2.ensures.value ∙ c.in_ok-above.ensures.are;
      in_lower = c.rows_of.ensures;
      in_upper = c.rows_of-2.ensures;
    })
    c.in_ok-add_across.ensures.found c.in_ok-add_common.ensures.found c.in_err-add_common-2.ensures.full)

pub returns-clause-found : goal.returns-clause-found
returns-clause-found t c =
    found_in_steps c.rows_of-all.result c.rows_of.result c.rows_of-2.result c.args.levels.now c.args.uprights.now c.halves.result.0.now c.halves.result.1.now c.deref.result.now c.deref-2.result.now c.args.nodes.now.items c.add_across.new.nodes.items c.add_common.new.nodes.items c.add_common-2.new.nodes.items
    (record {
      parts = c.halves.ensures.all;
      below_is = c.deref.ensures.value ∙ c.in_ok-below.ensures.are;
      above_is = c.deref-2.ensures.value ∙ c.in_ok-above.ensures.are;
      in_lower = c.rows_of.ensures;
      in_upper = c.rows_of-2.ensures;
    })
    c.in_ok-add_across.ensures.found c.in_ok-add_common.ensures.found c.in_ok-add_common-2.ensures.found
