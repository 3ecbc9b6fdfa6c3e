-- The windows are those of the edit.
use Rattle.std.proofs.Common.{◌∙◌, ◌≤◌, ◌+◌, ◌*◌, ℕ, List, length, sym, subst}
use Rattle.rc_layout.specs.Layouts.{with_put}
use Rattle.rc_engine.proofs.Editing.{edit_windows_are}
use Rattle.rc_engine.proofs.engine.Engine.edit.Goals as goal

pub returns-in-Ok-swept_with-clause-windows : goal.returns-in-Ok-swept_with-clause-windows
returns-in-Ok-swept_with-clause-windows g c = c.in-Ok-swept_with.ensures.windows ∙ sym (edit_windows_are c.args.self.now.frame c.args.self.now.layout (with_put c.args.self.now.layout c.args.number c.in-Ok.chosen.0) c.args.number c.args.paths.now c.in-Ok.ensures.is)

pub returns-in-Ok-swept_with-clause-spent : goal.returns-in-Ok-swept_with-clause-spent
returns-in-Ok-swept_with-clause-spent g c = subst (λ (ks : List ℕ). g.M.Meter.drawn c.swept_with.new.meter ≤ g.M.Meter.drawn c.args.meter.now + 2 * length ks) (sym (edit_windows_are c.args.self.now.frame c.args.self.now.layout (with_put c.args.self.now.layout c.args.number c.in-Ok.chosen.0) c.args.number c.args.paths.now c.in-Ok.ensures.is)) c.swept_with.ensures.spent

pub returns-in-Err-swept_with-clause-spent : goal.returns-in-Err-swept_with-clause-spent
returns-in-Err-swept_with-clause-spent g c = subst (λ (ks : List ℕ). g.M.Meter.drawn c.swept_with.new.meter ≤ g.M.Meter.drawn c.args.meter.now + 2 * length ks) (sym (edit_windows_are c.args.self.now.frame c.args.self.now.layout (with_put c.args.self.now.layout c.args.number c.in-Ok.chosen.0) c.args.number c.args.paths.now c.in-Ok.ensures.is)) c.swept_with.ensures.spent
