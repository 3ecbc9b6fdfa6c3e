use Rattle.std.proofs.Common.{subst, ◌∙◌}
use Rattle.std.proofs.lemmas.Result.{err_from_is_err_and}
use Rattle.rc_nodes.specs.Crossings.{Adds, Either, IsFull, IsMeeting}
use Rattle.rc_nodes.proofs.crossing.add_across.Goals as goal

pub returns-in_err-add_all_meetings-clause-full : goal.returns-in_err-add_all_meetings-clause-full
returns-in_err-add_all_meetings-clause-full c =
    let p = err_from_is_err_and c.from_residual-in_err-add_all_meetings.result c.from_residual-in_err-add_all_meetings.ensures.1 in
    rw (p.1, p.2) (subst (λ l. IsFull c.args.room (Either c.args.nodes.now.items (IsMeeting c.args.levels.now l)) c.in_err-add_all_meetings.field-0.0) (c.deref.ensures.value ∙ c.in_ok-across.ensures.are) c.in_err-add_all_meetings.ensures.full)

pub returns-clause-found : goal.returns-clause-found
returns-clause-found c =
    subst (λ l. Adds (IsMeeting c.args.levels.now l) c.args.nodes.now.items c.add_all_meetings.new.nodes.items) (c.deref.ensures.value ∙ c.in_ok-across.ensures.are) c.in_ok-add_all_meetings.ensures.found
