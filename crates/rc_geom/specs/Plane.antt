-- The plane: what stands on each unit square of each layer.
use Rattle.std.specs.Prelude.{◌≡◌, ◌≢◌, ◌<◌, ℕ, Bool, false, IsTrue, List, Option, Some, None, nat_lt, ◌==◌, ◌&&◌, if◌then◌else◌, option_map, All, Any, AllPairs, fold}
use Rattle.rc_geom.specs.declared.rect.Pt.{Pt}
use Rattle.rc_geom.specs.declared.rect.Rect.{Rect}
use Rattle.rc_geom.specs.declared.tile.Tile.{Tile}
use Rattle.rc_geom.specs.Rects.{covers, SharesSquare, IsInside}

-- metal: its net and its node; node 0 is grounded
abbrev pub Metal : Type 0
Metal = ℕ × ℕ

abbrev pub is_grounded : Metal → Bool
is_grounded a = a.1 == 0

-- the metal of each unit square of each layer
abbrev pub Plane : Type 0
Plane = ℕ → Pt → Option Metal

-- the tile lies on that layer and covers the square
abbrev pub claims : ℕ → Pt → Tile → Bool
claims layer p t = (t.layer == layer) && covers t.rect p

-- of two tiles the one of less rank, the first where they tie
abbrev pub least_of : Option Tile → Tile → Tile
least_of None t = t
least_of (Some best) t = if nat_lt t.rank best.rank then t else best

-- the owner among some tiles, and among one more
abbrev pub next_owner : ℕ → Pt → Option Tile → Tile → Option Tile
next_owner layer p best t = if claims layer p t then Some (least_of best t) else best

-- of the tiles that cover the square on that layer, the one of least rank, the first among equals
abbrev pub owner : List Tile → ℕ → Pt → Option Tile
owner tiles layer p = fold (next_owner layer p) None tiles

-- each square has the net and node of its owner
abbrev pub plane_of : List Tile → Plane
plane_of tiles layer p = option_map (λ t. (t.net, t.node)) (owner tiles layer p)

-- two tiles cover one square of a layer
abbrev pub Overlaps : Tile → Tile → Type 0
Overlaps a b = (a.layer ≡ b.layer) × SharesSquare a.rect b.rect

-- overlapping tiles of one net differ in rank
abbrev pub RanksDiffer : List Tile → Type 0
RanksDiffer tiles = AllPairs (λ a b. a.net ≡ b.net → Overlaps a b → a.rank ≢ b.rank) tiles

-- tiles of different nets share no unit square
abbrev pub NetsApart : List Tile → Type 0
NetsApart tiles = AllPairs (λ a b. a.net ≢ b.net → ¬ Overlaps a b) tiles

-- no square is the tile's: each that it covers is covered by one of the others of less rank
abbrev pub NeverOwns : Tile → List Tile → Type 0
NeverOwns t others =
    (p : Pt) → IsTrue (covers t.rect p) → Any (λ o. IsTrue (claims t.layer p o) × (o.rank < t.rank)) others

-- all tiles lie in the rectangle
abbrev pub HoldsTiles : Rect → List Tile → Type 0
HoldsTiles r tiles = All (λ t. IsInside t.rect r) tiles

-- all metal lies in the rectangle
abbrev pub HoldsMetal : Rect → Plane → Type 0
HoldsMetal r plane = (layer : ℕ) (p : Pt) → covers r p ≡ false → plane layer p ≡ None
