use Rattle.std.proofs.Common.{◌≡◌, ◌-◌}
use Rattle.std.specs.Prelude.{is_some, find}
use Rattle.std.specs.List.{range_with_len}
use Rattle.rc_geom.specs.Plane.{plane_of}
use Rattle.rc_geom.specs.Line.{square_of}
use Rattle.rc_geom.specs.Context.{over, layer_count}
use Rattle.rc_column.proofs.stack.Stack.over.Given as goal

-- the lowest is that of the layers that are left
abbrev pub invariant-loop-above : goal.invariant-loop-above
invariant-loop-above l =
    over (plane_of l.self.tiles) l.layer (square_of l.self.line.axis l.self.line.at l.place.at)
    ≡ find (λ above. is_some (plane_of l.self.tiles above (square_of l.self.line.axis l.self.line.at l.place.at))) (range_with_len l.above (layer_count - l.above))
