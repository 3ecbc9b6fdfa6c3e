-- The widths so far are added.
use Rattle.std.proofs.Common.{◌≡◌, take, Ok}
use Rattle.rc_layout.specs.Entries.{with_width}
use Rattle.rc_layout.specs.Refusals.{through}
use Rattle.rc_layout.proofs.rule.add_widths.Given as goal

abbrev pub invariant-loop-entry : goal.invariant-loop-entry
invariant-loop-entry l = through (with_width l.process.layers l.factor l.line) l.initial.widths (take l.entry-index l.entries) ≡ Ok l.widths
