-- The kinds so far are there.
use Rattle.std.proofs.Common.{◌≡◌, take, Ok}
use Rattle.rc_layout.specs.Scope.{layer_named}
use Rattle.rc_layout.specs.Refusals.{through, adds}
use Rattle.rc_layout.proofs.own_via.put_kinds.Given as goal

abbrev pub invariant-loop-name : goal.invariant-loop-name
invariant-loop-name l = through (adds (layer_named l.process.layers l.line)) l.initial.kinds (take l.name-index l.names) ≡ Ok l.kinds
