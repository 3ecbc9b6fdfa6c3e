-- How the crossings of a net's centrelines are found.
use Rattle.std.specs.Prelude.{◌≡◌, ◌<◌, ◌⊎◌, ◌↔◌, ℕ, ℤ, ◌≤ℤ◌, List, [], ◌∷◌, ◌==◌, ◌&&◌, ◌||◌, Bool, true, false, not, nat_lt, int_lt, int_le, map, filter, length, Contains, if◌then◌else◌}
use Rattle.std.specs.List.{AllByRecursion}
use Rattle.std.specs.List.Sorted.{IsPermutation, IsSorted}
use Rattle.std.specs.Int.{int_max, int_min}
use Rattle.std.specs.Ordering.{int_eq}
use Rattle.rc_keys.specs.declared.fault.Fault.{Fault}
use Rattle.rc_keys.specs.declared.fault.Fault.TheVariants.{Refused, NoMemory}
use Rattle.rc_keys.specs.declared.fault.Refusal.TheVariants.{Limit}
use Rattle.rc_keys.specs.declared.code.Quantity.TheVariants.{Nodes}
use Rattle.rc_layout.specs.declared.item.Item.{Item}
use Rattle.rc_layout.specs.Items.{along}
use Rattle.rc_nodes.specs.declared.node.Node.{Node}
use Rattle.rc_nodes.specs.declared.centreline.Centreline.{Centreline}
use Rattle.rc_nodes.specs.declared.centreline.Rows.{Rows}
use Rattle.rc_nodes.specs.contracts.centreline.CentrelineOrd.TheImpl as order
use Rattle.rc_nodes.specs.Nodes.{AreInOrder, is_level_piece, is_upright_piece}
use Rattle.rc_nodes.specs.Lines.{across}

-- ---- centrelines

-- the item is a horizontal piece, or a vertical one
abbrev pub runs : Bool → Item → Bool
runs true item = is_level_piece item
runs false item = is_upright_piece item

-- its centreline
abbrev pub centreline_of : Item → Centreline
centreline_of item = record { layer = item.layer; line = across item item.a; from = along item item.a; to = along item item.b }

-- the centrelines of the pieces of an axis
abbrev pub centrelines_of : Bool → List Item → List Centreline
centrelines_of level items = map centreline_of (filter (runs level) items)

-- the same in another order
abbrev pub IsMoved : Bool → List Item → List Centreline → Type 0
IsMoved level items centrelines = IsPermutation (centrelines_of level items) centrelines

abbrev pub IsInOrder : List Centreline → Type 0
IsInOrder centrelines = IsSorted order.ghosts.cmp centrelines

-- a centreline is on a lower layer than another, or on the same one and no later line
abbrev pub IsRowLe : Centreline → Centreline → Type 0
IsRowLe a b = (a.layer < b.layer) ⊎ ((a.layer ≡ b.layer) × (a.line ≤ℤ b.line))

-- centrelines stand by layer, then by line
abbrev pub InRows : List Centreline → Type 0
InRows [] = Unit {0}
InRows (first ∷ later) = AllByRecursion (IsRowLe first) later × InRows later

-- a place of a line lies on one of the centrelines
pub record HasPlace (centrelines : List Centreline) (number : ℕ) (row place : ℤ) : Type 0 where
  pub centreline : Centreline
  pub member : Contains centrelines centreline
  pub layer : centreline.layer ≡ number
  pub line : centreline.line ≡ row
  pub low : centreline.from ≤ℤ place
  pub high : place ≤ℤ centreline.to

-- ---- those of one line that overlap, as one

abbrev pub overlaps : Centreline → Centreline → Bool
overlaps a b = (a.layer == b.layer) && int_eq a.line b.line && (int_le a.from b.to && int_le b.from a.to)

abbrev pub joined : Centreline → Centreline → Centreline
joined a b = record { layer = a.layer; line = a.line; from = int_min a.from b.from; to = int_max a.to b.to }

abbrev pub merged_onto : Centreline → List Centreline → List Centreline
merged_onto last [] = last ∷ []
merged_onto last (next ∷ later) = if overlaps last next then merged_onto (joined last next) later else last ∷ merged_onto next later

abbrev pub merged : List Centreline → List Centreline
merged [] = []
merged (first ∷ later) = merged_onto first later

-- each place lies on one of the ones just where it lies on one of the others
abbrev pub HaveSamePlaces : List Centreline → List Centreline → Type 0
HaveSamePlaces xs ys = (layer : ℕ) (line place : ℤ) → HasPlace xs layer line place ↔ HasPlace ys layer line place

-- ---- where a horizontal one meets vertical ones

-- a centreline of the other axis stands before all that the probe can meet, or behind them
abbrev pub starts_before : Centreline → Centreline → Bool
starts_before probe other = nat_lt other.layer probe.layer || ((other.layer == probe.layer) && int_lt other.line probe.from)

abbrev pub ends_before : Centreline → Centreline → Bool
ends_before probe other = nat_lt probe.layer other.layer || ((probe.layer == other.layer) && int_lt probe.to other.line)

-- they have a point in common
abbrev pub is_met : Centreline → Centreline → Bool
is_met probe other =
    (other.layer == probe.layer) && (int_le probe.from other.line && int_le other.line probe.to) && (int_le other.from probe.line && int_le probe.line other.to)

-- and that point, where the probe is horizontal
abbrev pub meeting : Centreline → Centreline → Node
meeting probe other = record { layer = probe.layer; at = record { x = other.line; y = probe.line } }

abbrev pub meetings : List Centreline → Centreline → List Node
meetings others probe = map (meeting probe) (filter (is_met probe) others)

-- a horizontal and a vertical centreline have the node in common
pub record IsMeeting (levels uprights : List Centreline) (node : Node) : Type 0 where
  pub level : Centreline
  pub upright : Centreline
  pub of_levels : Contains levels level
  pub of_uprights : Contains uprights upright
  pub met : is_met level upright ≡ true
  pub is : meeting level upright ≡ node

-- ---- parts of rows

-- the rows lie between the first and the last
pub record AreWithin (rows : Rows) (levels : List Centreline) : Type 0 where
  pub first : (level : Centreline) → Contains levels level → IsRowLe rows.first level
  pub last : (level : Centreline) → Contains levels level → IsRowLe level rows.last

-- a vertical centreline crosses all rows from the first to the last
abbrev pub is_across : Rows → Centreline → Bool
is_across rows upright =
    (upright.layer == rows.first.layer) && (upright.layer == rows.last.layer) && (int_le upright.from rows.first.line && int_le rows.last.line upright.to)

-- it doesn't end before the first, nor begins behind the last
abbrev pub reaches : Rows → Centreline → Bool
reaches rows upright = not (ends_before upright rows.first) && not (starts_before upright rows.last)

-- it reaches a part of the rows, and doesn't cross all of them
unfoldable pub is_beside : Rows → Rows → Centreline → Bool
is_beside all part upright = not (is_across all upright) && reaches part upright

-- ---- what is found

-- the new list has what the old one has, and what passes
abbrev pub Adds : (Node → Type 0) → List Node → List Node → Type 0
Adds Passes old new = (node : Node) → Contains new node ↔ (Contains old node ⊎ Passes node)

-- there are more different nodes that pass than there is room for
pub record IsCrowded (room : ℕ) (Passes : Node → Type 0) : Type 0 where
  pub nodes : List Node
  pub order : AreInOrder nodes
  pub pass : (node : Node) → Contains nodes node → Passes node
  pub many : room < length nodes

-- why no more are looked for: there are too many, or want of memory
abbrev pub IsFull : ℕ → (Node → Type 0) → Fault → Type 0
IsFull room Passes (Refused refusal) = (refusal ≡ Limit Nodes) × IsCrowded room Passes
IsFull room Passes NoMemory = Unit {0}

-- those in the list, and those that pass
abbrev pub Either : List Node → (Node → Type 0) → Node → Type 0
Either nodes Passes node = Contains nodes node ⊎ Passes node
