-- What holds of a linked layout.
use Rattle.std.specs.Prelude.{◌≡◌, ◌<◌, ◌≤◌, ◌+◌, ◌-◌, ◌^◌, ◌++◌, ℕ, pos, ◌≤ℤ◌, true, All, Contains, Option, Some, None, IfSome, IsSome, List, length, slice_get}
use Rattle.std.specs.Str.{bytes_eq}
use Rattle.std.specs.List.{find}
use Rattle.rc_geom.specs.declared.rect.Pt.{Pt}
use Rattle.rc_geom.specs.declared.orient.Orient.{Orient}
use Rattle.rc_def.specs.Sound.{NamesDiffer}
use Rattle.rc_lef.specs.declared.tech.Layer.{Layer}
use Rattle.rc_lef.specs.declared.cell.Macro.{Macro}
use Rattle.rc_lef.specs.declared.via.Via.{Via}
use Rattle.rc_lef.specs.Facts.{IsUsable, IsVia, IsSound, routing_count, cut_count}
use Rattle.rc_layout.specs.declared.net.Net.{Net}
use Rattle.rc_layout.specs.declared.net.Conn.{Conn}
use Rattle.rc_layout.specs.declared.net.Conn.TheVariants as conns
use Rattle.rc_layout.specs.declared.part.Comp.{Comp}
use Rattle.rc_layout.specs.declared.part.Port.{Port}
use Rattle.rc_layout.specs.declared.part.Rule.{Rule}
use Rattle.rc_layout.specs.declared.parts.Parts.{Parts}
use Rattle.rc_layout.specs.Entries.{fits_at}
use Rattle.rc_layout.specs.Items.{IsPoint}
use Rattle.rc_layout.specs.Layouts.{Wired, shape_count}
use Rattle.rc_layout.specs.Nets.{IsWellFormed, IsTied}
use Rattle.rc_layout.specs.Ranges.{IsParts}
use Rattle.rc_layout.specs.Wide.{HasCoordinates}
use Rattle.rc_layout.specs.Widths.{has_number}

-- ---- what a net names

-- the technology has that routing layer
abbrev pub HasRouting : List Layer → ℕ → Type 0
HasRouting layers number = IsSome (find (λ layer. has_number number layer.kind) layers)

abbrev pub IsPinOf : Option Macro → ℕ → Type 0
IsPinOf None pin = ⊥
IsPinOf (Some cell) pin = pin < length cell.pins

-- the pin is one of the component's cell
abbrev pub HasPin : Parts → Option Comp → ℕ → Type 0
HasPin parts None pin = ⊥
HasPin parts (Some comp) pin = IsPinOf (slice_get parts.tech.macros comp.cell) pin

abbrev pub HasConn : Parts → Conn → Type 0
HasConn parts (conns.Pin comp pin) = HasPin parts (slice_get parts.comps comp) pin
HasConn parts (conns.Port port) = port < length parts.ports

abbrev pub IsStanding : Parts → List (ℕ × Pt) → Pt → Option Via → Type 0
IsStanding parts points at None = ⊥
IsStanding parts points at (Some via) =
    (via.usable ≡ true) × IsUsable (routing_count parts.tech) (cut_count parts.tech) via × Contains points (via.lower, at) × Contains points (via.upper, at)

-- the via is there and usable, and both its ends are points of the net
abbrev pub HasVia : Parts → List (ℕ × Pt) → ℕ × Pt → Type 0
HasVia parts points (number, at) = IsStanding parts points at (slice_get parts.vias number)

abbrev pub HasRule : Parts → Option (List ℕ) → Type 0
HasRule parts rule = IfSome rule (λ name. IsSome (find (λ rule. bytes_eq name rule.name) parts.rules))

-- what the net names is there
pub record Belongs (parts : Parts) (net : Net) : Type 0 where
  pub formed : IsWellFormed net
  pub item_layers : All (λ item. HasRouting parts.tech.layers item.layer) net.items
  pub point_layers : All (λ point. HasRouting parts.tech.layers point.0) net.points
  pub rule : HasRule parts net.rule
  pub conns : All (HasConn parts) net.conns
  pub vias : All (HasVia parts net.points) net.vias

-- ---- what nets may name

-- a component's cell is there, and where it is placed, all rectangles of its pins lie within the coordinates of a layout
abbrev pub FitsAt : Option Macro → Option (Pt × Orient) → Type 0
FitsAt None at = ⊥
FitsAt (Some cell) at = IfSome at (λ p. IsPoint p.0 × (fits_at cell p.1 p.0 ≡ true))

abbrev pub IsPlaced : Parts → Comp → Type 0
IsPlaced parts comp = FitsAt (slice_get parts.tech.macros comp.cell) comp.at

-- the rectangles of a die pin lie on layers that are there, and within the coordinates
abbrev pub IsPort : Parts → Port → Type 0
IsPort parts port = All (λ r. HasRouting parts.tech.layers r.0 × HasCoordinates r.1) port.rects

abbrev pub IsRule : Rule → Type 0
IsRule rule = All (λ w. pos 1 ≤ℤ w.1) rule.widths

-- vias that can be used join routing layers that are there; widths are above 0
pub record AreSound (parts : Parts) : Type 0 where
  pub tech : IsSound parts.tech
  pub factor : 1 ≤ parts.factor
  pub vias : All (IsVia (routing_count parts.tech) (cut_count parts.tech)) parts.vias
  pub rules : All IsRule parts.rules
  pub comps : All (IsPlaced parts) parts.comps
  pub ports : All (IsPort parts) parts.ports

-- ---- a layout

-- the facts of a layout
pub record IsLayout (wired : Wired) : Type 0 where
  pub parts : IsParts wired.parts
  pub sound : AreSound wired.parts
  pub nets : All (Belongs wired.parts) wired.nets
  pub tied : All IsTied wired.nets
  pub grounded : All (Belongs wired.parts) wired.grounded
  pub names : NamesDiffer (λ net. net.name) (wired.nets ++ wired.grounded)
  pub few_nets : length wired.nets + length wired.grounded ≤ 2 ^ 20
  pub few_comps : length wired.parts.comps ≤ 2 ^ 20
  pub few_ports : length wired.parts.ports ≤ 2 ^ 20
  pub few_shapes : shape_count wired.nets + shape_count wired.grounded ≤ 2 ^ 22

-- ---- edits

-- what a net that takes the place of another has: it belongs and is tied, has that one's name, and of so many shapes as
-- there are when those of the other go and its own come, there aren't too many
pub record IsCandidate (wired : Wired) (old net : Net) : Type 0 where
  pub belongs : Belongs wired.parts net
  pub tied : IsTied net
  pub name : net.name ≡ old.name
  pub few_shapes : shape_count wired.nets + shape_count wired.grounded - length old.items + length net.items ≤ 2 ^ 22
