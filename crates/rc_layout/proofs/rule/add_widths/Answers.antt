-- An entry that is refused is the first.
use Rattle.std.proofs.Common.{subst, Err, List, ℕ, ℤ}
use Rattle.rc_layout.specs.Entries.{with_width}
use Rattle.rc_layout.specs.Refusals.{Leaves}
use Rattle.rc_layout.proofs.Throughs.{leaves_refused}
use Rattle.rc_layout.proofs.rule.add_widths.Goals as goal

pub returns-in-Err : goal.returns-in-Err
returns-in-Err c =
    let step = with_width c.args.process.now.layers c.args.factor c.args.line in
    let refused = rw c.in-Err.is at c.add_width.ensures in
    leaves_refused (Unit {0}) step c.args.widths.now c.loop-entry.widths c.add_width.new.widths c.add_width.new.widths c.in-Err.fault c.args.entries.now
    c.loop-entry.entry-index c.entry-item.result c.loop-entry-test.true c.loop-entry.invariant
    (subst (λ (x : List ℕ × ℤ). Leaves {T = Unit {0}} (Err c.in-Err.fault) c.add_width.new.widths (step c.loop-entry.widths x)) c.entry-item.is refused)
