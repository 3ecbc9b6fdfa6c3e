-- Nothing is appended.
use Rattle.std.proofs.Common.{[], ◌++◌, ap, sym, ◌∙◌}
use Rattle.std.specs.List.{cons_option}
use Rattle.std.proofs.lemmas.List.{append-nil}
use Rattle.rc_engine.proofs.any.push_any.Goals as goal

pub returns-in-None : goal.returns-in-None
returns-in-None g c = sym (append-nil c.args.list.now) ∙ ap (λ item. c.args.list.now ++ cons_option item []) (sym c.in-None.is)
