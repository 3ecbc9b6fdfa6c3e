use Rattle.std.proofs.Common.{◌≡◌}
use Rattle.rc_rules.specs.Rows.{nothing}
use Rattle.rc_rules.proofs.state.nothing.Given as goal

abbrev pub invariant-loop-made : goal.invariant-loop-made
invariant-loop-made g l = l.list ≡ nothing l._made
