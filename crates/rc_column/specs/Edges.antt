-- Where tiles begin and end.
use Rattle.std.specs.Prelude.{◌≡◌, ◌⊎◌, ◌<ℤ◌, ◌≤ℤ◌, ℕ, ℤ, Option, Some, None, MatchOption, IfSome, int_le, if◌then◌else◌}
use Rattle.rc_geom.specs.declared.tile.Tile.{Tile}
use Rattle.rc_geom.specs.Sums.{first_place, end_place, first_line, end_line}

-- of an edge, or none, and a place the first one
abbrev pub sooner_of : Option ℤ → ℤ → Option ℤ
sooner_of None place = Some place
sooner_of (Some first) place = if int_le first place then Some first else Some place

-- of an edge, or none, and a place the first one that lies above the other place
abbrev pub sooner : Option ℤ → ℤ → ℤ → Option ℤ
sooner edge place after = if int_le place after then edge else sooner_of edge place

-- the edge once both ends of a tile are looked at
abbrev pub sooner_ends : Option ℤ → ℤ → ℤ → ℤ → Option ℤ
sooner_ends edge low high after = sooner (sooner edge low after) high after

-- the place doesn't lie between the other one and the edge; without an edge it doesn't lie above the other one
abbrev pub IsClear : ℤ → Option ℤ → ℤ → Type 0
IsClear after edge z = MatchOption edge (z ≤ℤ after) (λ e. (z ≤ℤ after) ⊎ (e ≤ℤ z))

-- the place lies before the edge, where there is one
abbrev pub IsBefore : Option ℤ → ℤ → Type 0
IsBefore edge z = IfSome edge (λ e. z <ℤ e)

-- on the lines of the axis the tile begins and ends at no place between the two
pub record Passes (axis : ℕ) (after : ℤ) (edge : Option ℤ) (t : Tile) : Type 0 where
  pub begins : IsClear after edge (first_place axis t.rect)
  pub ends : IsClear after edge (end_place axis t.rect)

-- no line of the axis between the two is the tile's first one, or the first one past it
pub record PassesLines (axis : ℕ) (after : ℤ) (edge : Option ℤ) (t : Tile) : Type 0 where
  pub begins : IsClear after edge (first_line axis t.rect)
  pub ends : IsClear after edge (end_line axis t.rect)

-- the line of the axis is the tile's first one, or the one past its last
abbrev pub BordersLine : ℕ → ℤ → Tile → Type 0
BordersLine axis at t = (first_line axis t.rect ≡ at) ⊎ (end_line axis t.rect ≡ at)
