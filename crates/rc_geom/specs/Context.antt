-- The nearest layers with metal over a square.
use Rattle.std.specs.Prelude.{ℕ, ◌+◌, ◌-◌, Bool, Option, Some, None, List, is_some, if◌then◌else◌, fold, find}
use Rattle.std.specs.List.{range_with_len}
use Rattle.rc_geom.specs.declared.rect.Pt.{Pt}
use Rattle.rc_geom.specs.Plane.{Plane}

-- how many routing layers there are
abbrev pub layer_count : ℕ
layer_count = 32

-- the last element that passes
abbrev pub last_that : (ℕ → Bool) → List ℕ → Option ℕ
last_that p xs = fold (λ last x. if p x then Some x else last) None xs

-- the highest layer below with metal over the square, of any net
abbrev pub under : Plane → ℕ → Pt → Option ℕ
under plane layer p = last_that (λ below. is_some (plane below p)) (range_with_len 0 layer)

-- the lowest layer above with metal over the square, of any net
abbrev pub over : Plane → ℕ → Pt → Option ℕ
over plane layer p = find (λ above. is_some (plane above p)) (range_with_len (layer + 1) (layer_count - (layer + 1)))
