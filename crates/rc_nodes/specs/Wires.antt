-- The wires of a net: the metal between neighbouring nodes on a line.
use Rattle.std.specs.Prelude.{◌≡◌, ◌<◌, ◌↔◌, ℕ, ℤ, pos, ◌≤ℤ◌, List, [], ◌∷◌, ◌++◌, ◌==◌, ◌&&◌, Bool, true, not, filter, map, fold, nat_lt, Contains, IsTrue, if◌then◌else◌}
use Rattle.std.specs.List.{flat_map, list_any}
use Rattle.std.specs.List.Sorted.{IsStrictlySortedBy}
use Rattle.std.specs.declared.cmp.Ordering.{Ordering}
use Rattle.std.specs.Int.{int_max}
use Rattle.std.specs.Ordering.{int_eq, nat_cmp, on, then_cmp}
use Rattle.rc_geom.specs.declared.rect.Pt.{Pt}
use Rattle.rc_geom.specs.declared.rect.Rect.{Rect}
use Rattle.rc_geom.specs.Rects.{touches}
use Rattle.rc_layout.specs.declared.item.Item.{Item}
use Rattle.rc_layout.specs.Items.{is_piece, is_level, is_on}
use Rattle.rc_nodes.specs.declared.node.Node.{Node}
use Rattle.rc_nodes.specs.declared.line.Tap.{Tap}
use Rattle.rc_nodes.specs.declared.wire.Wire.{Wire}
use Rattle.rc_nodes.specs.Nodes.{IsNumber, numbered}
use Rattle.rc_nodes.specs.Lines.{lies_on}

-- ---- what they are

abbrev pub same_point : Pt → Pt → Bool
same_point p q = int_eq p.x q.x && int_eq p.y q.y

-- the line from one node to another, as a closed rectangle of no area
abbrev pub line_to : Node → Node → Rect
line_to a b = record { x0 = a.at.x; y0 = a.at.y; x1 = b.at.x; y1 = b.at.y }

-- the node c lies on the line from a to b, and is neither of them
abbrev pub is_between : Node → Node → Node → Bool
is_between a b c = (c.layer == a.layer) && touches (line_to a b) c.at && (not (same_point c.at a.at) && not (same_point c.at b.at))

-- the pieces that run over both nodes
abbrev pub runs_over : Node → Node → Item → Bool
runs_over a b item = is_piece item && (is_on item a.layer a.at && is_on item b.layer b.at)

abbrev pub pieces_over : List Item → Node → Node → List Item
pieces_over items a b = filter (runs_over a b) items

abbrev pub greatest_width : List Item → ℤ
greatest_width items = fold int_max (pos 0) (map (λ item. item.width) items)

-- the wire over some pieces, which run over both of two numbered nodes: the lower node stands first, and none lies between
-- them; it is as wide as the widest piece. Without a piece there is no wire
abbrev pub wire_over : List Node → ℕ × Node → ℕ × Node → List Item → List Wire
wire_over nodes lower upper [] = []
wire_over nodes lower upper (piece ∷ pieces) =
    if nat_lt lower.0 upper.0 && not (list_any (is_between lower.1 upper.1) nodes)
    then record { lower = lower.0; upper = upper.0; width = greatest_width (piece ∷ pieces) } ∷ []
    else []

abbrev pub wire_between : List Item → List Node → ℕ × Node → ℕ × Node → List Wire
wire_between items nodes lower upper = wire_over nodes lower upper (pieces_over items lower.1 upper.1)

-- the wires of a net's items, by the lower node, then by the upper one
unfoldable pub wires_of : List Item → List Node → List Wire
wires_of items nodes = flat_map (λ lower. flat_map (λ upper. wire_between items nodes lower upper) (numbered nodes)) (numbered nodes)

-- ---- the same by the numbers of the nodes on each piece

-- the node of that number is on the centreline of the item
abbrev pub IsOn : List Node → Item → ℕ → Type 0
IsOn nodes item n = (node : Node) × IsNumber nodes n node × IsTrue (is_on item node.layer node.at)

-- a piece runs over both nodes, and over none between them
pub record IsSegment (items : List Item) (nodes : List Node) (wire : Wire) : Type 0 where
  pub item : Item
  pub drawn : Contains items item
  pub piece : IsTrue (is_piece item)
  pub width : wire.width ≡ item.width
  pub lower : IsOn nodes item wire.lower
  pub upper : IsOn nodes item wire.upper
  pub order : wire.lower < wire.upper
  pub between : (n : ℕ) → wire.lower < n → n < wire.upper → ¬ IsOn nodes item n

-- both wires are between the same nodes
abbrev pub same_ends : Wire → Wire → Bool
same_ends a b = (a.lower == b.lower) && (a.upper == b.upper)

-- and no such piece is wider
pub record IsWire (items : List Item) (nodes : List Node) (wire : Wire) : Type 0 where
  pub segment : IsSegment items nodes wire
  pub widest : (other : Wire) → IsSegment items nodes other → IsTrue (same_ends other wire) → other.width ≤ℤ wire.width

-- wires stand by the lower, then by the upper node
abbrev pub ends_cmp : Wire → Wire → Ordering
ends_cmp = then_cmp (on (λ wire. wire.lower) nat_cmp) (on (λ wire. wire.upper) nat_cmp)

-- these are the wires of a net's items, one for each two nodes, in order
pub record AreWires (items : List Item) (nodes : List Node) (wires : List Wire) : Type 0 where
  pub order : IsStrictlySortedBy ends_cmp wires
  pub all : (wire : Wire) → Contains wires wire ↔ IsWire items nodes wire

-- ---- how they are found

-- from each tap to the next
abbrev pub segment_to : ℤ → Tap → List Tap → List Wire
segment_to width tap [] = []
segment_to width tap (next ∷ later) = record { lower = tap.node; upper = next.node; width = width } ∷ []

abbrev pub segments : ℤ → List Tap → List Wire
segments width [] = []
segments width (tap ∷ later) = segment_to width tap later ++ segments width later

abbrev pub item_segments : List Tap → List Tap → Item → List Wire
item_segments rows columns item =
    if is_piece item then segments item.width (filter (lies_on item) (if is_level item then rows else columns)) else []

-- of sorted wires the last one between each two nodes, which is the widest
abbrev pub is_end : Wire → List Wire → Bool
is_end wire [] = true
is_end wire (next ∷ later) = not (same_ends wire next)

abbrev pub widest : List Wire → List Wire
widest [] = []
widest (wire ∷ later) = if is_end wire later then wire ∷ widest later else widest later
