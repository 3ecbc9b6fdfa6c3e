-- Where two neighbouring nodes part the unit squares between them.
use Rattle.std.specs.Prelude.{ℕ, ℤ, pos, negsuc, ◌+ℤ◌, ◌-ℤ◌, ◌≤ℤ◌, ◌^◌, ◌-◌, unsigned_abs}
use Rattle.std.specs.Int.{int_div_euclid}

-- half of lo + hi + 1, rounded down
abbrev pub middle : ℤ → ℤ → ℤ
middle lo hi = int_div_euclid (lo +ℤ hi +ℤ pos 1) (pos 2)

-- twice the distance from the middle of the unit square [s, s + 1) to z
abbrev pub reach_to : ℤ → ℤ → ℕ
reach_to s z = unsigned_abs ((s +ℤ s +ℤ pos 1) -ℤ (z +ℤ z))

-- a coordinate of a layout: it is within 2^29 of 0
pub record IsCoordinate (z : ℤ) : Type 0 where
  pub low : negsuc (2 ^ 29 - 1) ≤ℤ z
  pub high : z ≤ℤ pos (2 ^ 29)
