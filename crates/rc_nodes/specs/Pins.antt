-- Where the pins of a net's connections lie.
use Rattle.std.specs.Prelude.{ℕ, pos, ◌≤ℤ◌, ◌^◌, All, List, [], map, Option, Some, None, IfSome, slice_get}
use Rattle.std.specs.Option.{option_map_or}
use Rattle.rc_geom.specs.declared.rect.Pt.{Pt}
use Rattle.rc_geom.specs.declared.rect.Rect.{Rect}
use Rattle.rc_geom.specs.declared.orient.Orient.{Orient}
use Rattle.rc_lef.specs.declared.cell.Macro.{Macro}
use Rattle.rc_lef.specs.declared.cell.MacroPin.{MacroPin}
use Rattle.rc_layout.specs.Entries.{cell_rect}
use Rattle.rc_layout.specs.Items.{IsPoint}
use Rattle.rc_layout.specs.Wide.{HasCoordinates}
use Rattle.rc_layout.specs.declared.net.Conn.{Conn}
use Rattle.rc_layout.specs.declared.net.Conn.TheVariants as conns
use Rattle.rc_layout.specs.declared.part.Comp.{Comp}
use Rattle.rc_layout.specs.declared.part.Port.{Port}
use Rattle.rc_layout.specs.declared.parts.Parts.{Parts}

-- ---- their rectangles

-- a rectangle of a cell with its layer, where the cell is placed
abbrev pub placed_rect : Macro → Pt × Orient → ℕ × Rect → ℕ × Rect
placed_rect cell place drawn = (drawn.0, cell_rect cell place.1 place.0 drawn.1)

-- those of a pin of a cell, where a component is placed; none where it isn't
abbrev pub placed_rects : Macro → Option (Pt × Orient) → MacroPin → List (ℕ × Rect)
placed_rects cell None pin = []
placed_rects cell (Some place) pin = map (placed_rect cell place) pin.rects

abbrev pub rects_in : Comp → Option Macro → ℕ → List (ℕ × Rect)
rects_in comp None number = []
rects_in comp (Some cell) number = option_map_or (placed_rects cell comp.at) (slice_get cell.pins number) []

abbrev pub comp_rects : List Macro → Option Comp → ℕ → List (ℕ × Rect)
comp_rects cells None number = []
comp_rects cells (Some comp) number = rects_in comp (slice_get cells comp.cell) number

abbrev pub port_rects : Option Port → List (ℕ × Rect)
port_rects None = []
port_rects (Some port) = port.rects

-- the rectangles of what a net connects: those of a component's pin are placed with it, those of a die pin are placed already
abbrev pub conn_rects : Parts → Conn → List (ℕ × Rect)
conn_rects parts (conns.Pin comp number) = comp_rects parts.tech.macros (slice_get parts.comps comp) number
conn_rects parts (conns.Port port) = port_rects (slice_get parts.ports port)

-- ---- that they can be placed, as in each linked layout

-- the cell is at most 2^29 wide and high
pub record IsCellSize (cell : Macro) : Type 0 where
  pub wide : pos 0 ≤ℤ cell.w
  pub narrow : cell.w ≤ℤ pos (2 ^ 29)
  pub high : pos 0 ≤ℤ cell.h
  pub low : cell.h ≤ℤ pos (2 ^ 29)

-- the cell, the place and the rectangle lie within the coordinates of a layout, and so does the placed rectangle
pub record CanPlaceRect (cell : Macro) (place : Pt × Orient) (rect : Rect) : Type 0 where
  pub origin : IsPoint cell.origin
  pub size : IsCellSize cell
  pub at : IsPoint place.0
  pub drawn : HasCoordinates rect
  pub placed : HasCoordinates (cell_rect cell place.1 place.0 rect)

abbrev pub CanPlacePin : Macro → Option (Pt × Orient) → MacroPin → Type 0
CanPlacePin cell None pin = Unit {0}
CanPlacePin cell (Some place) pin = All (λ drawn. CanPlaceRect cell place drawn.1) pin.rects

abbrev pub CanPlaceIn : Comp → Option Macro → ℕ → Type 0
CanPlaceIn comp None number = Unit {0}
CanPlaceIn comp (Some cell) number = IfSome (slice_get cell.pins number) (CanPlacePin cell comp.at)

abbrev pub CanPlaceOf : List Macro → Option Comp → ℕ → Type 0
CanPlaceOf cells None number = Unit {0}
CanPlaceOf cells (Some comp) number = CanPlaceIn comp (slice_get cells comp.cell) number

-- the rectangles of what a net connects can be placed
abbrev pub CanPlaceConn : Parts → Conn → Type 0
CanPlaceConn parts (conns.Pin comp number) = CanPlaceOf parts.tech.macros (slice_get parts.comps comp) number
CanPlaceConn parts (conns.Port port) = Unit {0}
