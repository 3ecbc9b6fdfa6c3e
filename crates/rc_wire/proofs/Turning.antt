-- The last step of a path, turned.
use Rattle.std.proofs.Common.{◌≡◌, List, [], ◌∷◌, ◌++◌, refl, ap}
use Rattle.rc_geom.specs.declared.orient.Orient.{Orient}
use Rattle.rc_wire.specs.declared.path.Step.{Step}
use Rattle.rc_wire.specs.Paths.{turned, last_turned}

pub last_is : (orient : Orient) (step : Step) (steps : List Step) → last_turned orient (steps ++ step ∷ []) ≡ steps ++ turned orient step ∷ []
unfolding last_turned
last_is orient step [] = refl
last_is orient step (first ∷ []) = refl
last_is orient step (first ∷ second ∷ steps) = ap (λ more. first ∷ more) (last_is orient step (second ∷ steps))

pub of_none : (orient : Orient) → last_turned orient [] ≡ []
unfolding last_turned
of_none orient = refl
