-- The tiles that have squares on a line.
use Rattle.std.specs.Prelude.{◌≡◌, ◌⊎◌, ◌<ℤ◌, ◌≤ℤ◌, ℕ, ℤ, Bool, ◌&&◌, int_le, int_lt}
use Rattle.rc_geom.specs.declared.rect.Rect.{Rect}
use Rattle.rc_geom.specs.declared.tile.Tile.{Tile}
use Rattle.rc_geom.specs.Sums.{first_line, end_line, first_place, end_place}

-- the tile has squares on the line of the axis that stands there
abbrev pub crosses : ℕ → ℤ → Tile → Bool
crosses axis at t = int_le (first_line axis t.rect) at && int_lt at (end_line axis t.rect)

-- the tile begins before the places of the rectangle, or not before their end
abbrev pub IsOutside : ℕ → Rect → Tile → Type 0
IsOutside axis r t = (first_place axis t.rect <ℤ first_place axis r) ⊎ (end_place axis r ≤ℤ first_place axis t.rect)

-- where a tile of the layer begins behind a place of a line, it begins no sooner than at the other place
abbrev pub BeginsBeyond : ℕ → ℕ → ℤ → ℤ → Tile → Type 0
BeginsBeyond axis layer along next t =
    t.layer ≡ layer → along <ℤ first_place axis t.rect → next ≤ℤ first_place axis t.rect
