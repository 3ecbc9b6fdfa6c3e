-- Nodes by the rows or the columns on which they lie.
use Rattle.std.specs.Prelude.{ℕ, ℤ, List, ◌==◌, ◌&&◌, Bool, true, false, int_le, map, if◌then◌else◌}
use Rattle.std.specs.Ordering.{int_eq, is_lt}
use Rattle.std.specs.List.Sorted.{IsPermutation, IsStrictlySortedBy}
use Rattle.rc_geom.specs.declared.rect.Pt.{Pt}
use Rattle.rc_layout.specs.declared.item.Item.{Item}
use Rattle.rc_layout.specs.Items.{is_level, along}
use Rattle.rc_nodes.specs.declared.node.Node.{Node}
use Rattle.rc_nodes.specs.declared.line.Tap.{Tap}
use Rattle.rc_nodes.specs.contracts.line.TapOrd.TheImpl as order
use Rattle.rc_nodes.specs.Nodes.{numbered}

-- a numbered node on its row, or on its column
abbrev pub tap_of : Bool → ℕ × Node → Tap
tap_of level numbered =
    let p = numbered.1.at in
    record {
      layer = numbered.1.layer;
      line = if level then p.y else p.x;
      along = if level then p.x else p.y;
      node = numbered.0;
    }

-- taps stand by layer, then by line, then along it
abbrev pub InLine : List Tap → Type 0
InLine taps = IsStrictlySortedBy order.ghosts.cmp taps

-- these are the taps of all nodes, in order
pub record AreTaps (level : Bool) (nodes : List Node) (taps : List Tap) : Type 0 where
  pub moved : IsPermutation (map (tap_of level) (numbered nodes)) taps
  pub order : InLine taps

-- the taps of all rows, and of all columns
pub record Lined : Type 0 where
  pub rows : List Tap
  pub columns : List Tap

-- they are those of the nodes
pub record AreLined (nodes : List Node) (lined : Lined) : Type 0 where
  pub rows : AreTaps true nodes lined.rows
  pub columns : AreTaps false nodes lined.columns

-- where the line of an item stands across its axis
abbrev pub across : Item → Pt → ℤ
across item p = if is_level item then p.y else p.x

-- the tap lies on the centreline of an item
abbrev pub lies_on : Item → Tap → Bool
lies_on item tap =
    (tap.layer == item.layer) && int_eq tap.line (across item item.a) && (int_le (along item item.a) tap.along && int_le tap.along (along item item.b))

-- the tap comes before all that can lie on the centreline
abbrev pub starts_before : Item → Tap → Bool
starts_before item tap =
    is_lt (order.ghosts.cmp tap (record { layer = item.layer; line = across item item.a; along = along item item.a; node = 0 }))
