-- What the parts of a path draw.
use Rattle.std.specs.Prelude.{ℕ, ℤ, pos, ◌+ℤ◌, ◌-ℤ◌, int_lt, ◌||◌, Bool, Option, Some, None, if◌then◌else◌}
use Rattle.std.specs.Ordering.{int_eq}
use Rattle.rc_geom.specs.declared.rect.Pt.{Pt}
use Rattle.rc_geom.specs.declared.rect.Rect.{Rect}
use Rattle.rc_geom.specs.declared.orient.Orient.{Orient}
use Rattle.rc_layout.specs.declared.item.Item.{Item}
use Rattle.rc_layout.specs.declared.item.ItemKind.{ItemKind}
use Rattle.rc_layout.specs.declared.item.ItemKind.TheVariants.{Piece, Pad, Patch}
use Rattle.rc_layout.specs.declared.stroke.Stop.{Stop}
use Rattle.rc_layout.specs.declared.stroke.Stroke.{Stroke}
use Rattle.rc_layout.specs.Items.{lower_half, upper_half}
use Rattle.rc_geom.specs.Orients.{spanned}
use Rattle.rc_layout.specs.Units.{moved, turned_rect, low_corner}

-- ---- pieces

-- how far a piece goes on behind its lower end, and behind its upper end
abbrev pub behind_lower : Stroke → Option ℤ → ℤ
behind_lower stroke (Some ext) = ext
behind_lower stroke None = if stroke.bare then pos 0 else lower_half stroke.width

abbrev pub behind_upper : Stroke → Option ℤ → ℤ
behind_upper stroke (Some ext) = ext
behind_upper stroke None = if stroke.bare then pos 0 else upper_half stroke.width

-- the piece from a stop to one further right: floor(w/2) of its width lies below the centreline, the rest above
abbrev pub level_piece : Stroke → Stop → Stop → Item
level_piece stroke a b = record {
  kind = Piece;
  layer = stroke.layer;
  rect = record {
    x0 = a.at.x -ℤ behind_lower stroke a.ext;
    y0 = a.at.y -ℤ lower_half stroke.width;
    x1 = b.at.x +ℤ behind_upper stroke b.ext;
    y1 = a.at.y +ℤ upper_half stroke.width;
  };
  a = a.at;
  b = b.at;
  width = stroke.width;
}

-- the piece from a stop to one further up: floor(w/2) of its width lies left of the centreline, the rest right
abbrev pub upright_piece : Stroke → Stop → Stop → Item
upright_piece stroke a b = record {
  kind = Piece;
  layer = stroke.layer;
  rect = record {
    x0 = a.at.x -ℤ lower_half stroke.width;
    y0 = a.at.y -ℤ behind_lower stroke a.ext;
    x1 = a.at.x +ℤ upper_half stroke.width;
    y1 = b.at.y +ℤ behind_upper stroke b.ext;
  };
  a = a.at;
  b = b.at;
  width = stroke.width;
}

-- two points share a coordinate
abbrev pub are_in_line : Pt → Pt → Bool
are_in_line p q = int_eq p.x q.x || int_eq p.y q.y

-- the piece between two stops in a line, the lower end first; none between equal points
unfoldable pub piece : Stroke → Stop → Stop → Option Item
piece stroke p q =
    if int_lt p.at.x q.at.x then Some (level_piece stroke p q)
    else if int_lt q.at.x p.at.x then Some (level_piece stroke q p)
    else if int_lt p.at.y q.at.y then Some (upright_piece stroke p q)
    else if int_lt q.at.y p.at.y then Some (upright_piece stroke q p)
    else None

-- ---- pads and patches

-- a rectangle with a point for its centreline
abbrev pub spot : ItemKind → ℕ → Rect → Pt → Item
spot kind layer rect at = record { kind = kind; layer = layer; rect = rect; a = at; b = at; width = pos 0 }

-- a pad of a via: its rectangle, turned, and moved to the point
abbrev pub pad : Orient → Pt → ℕ × Rect → Item
pad orient at (layer, rect) = spot Pad layer (moved at (turned_rect orient rect)) at

-- the patch on a layer between two corners, as seen from a point; none where they leave no area
unfoldable pub patch : ℕ → Pt → Pt → Pt → Option Item
patch layer at p q =
    if int_eq p.x q.x || int_eq p.y q.y then None
    else Some (spot Patch layer (moved at (spanned p q)) at)

-- the patch of a rectangle that stands alone has its lower left corner for its point
abbrev pub lone_patch : ℕ → Rect → Item
lone_patch layer rect = spot Patch layer rect (low_corner rect)
