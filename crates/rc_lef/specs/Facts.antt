-- What holds of every technology that LEF files define.
use Rattle.std.specs.Prelude.{◌≡◌, ◌⊎◌, ◌<◌, ◌≤◌, ◌^◌, ℕ, ℤ, pos, ◌≤ℤ◌, ◌<ℤ◌, true, All, Option, Some, None, List, [], length}
use Rattle.std.specs.List.{filter_map, range_with_len}
use Rattle.rc_geom.specs.Context.{layer_count}
use Rattle.rc_geom.specs.Split.{IsCoordinate}
use Rattle.rc_geom.specs.declared.rect.Pt.{Pt}
use Rattle.rc_geom.specs.declared.rect.Rect.{Rect}
use Rattle.rc_keys.specs.Tables.{are_new}
use Rattle.rc_lef.specs.declared.tech.Layer.{Layer}
use Rattle.rc_lef.specs.declared.tech.LayerKind.{LayerKind}
use Rattle.rc_lef.specs.declared.tech.LayerKind.TheVariants as kinds
use Rattle.rc_lef.specs.declared.via.Via.{Via}
use Rattle.rc_lef.specs.declared.cell.Macro.{Macro}
use Rattle.rc_lef.specs.declared.cell.MacroPin.{MacroPin}
use Rattle.rc_lef.specs.declared.ndr.Ndr.{Ndr}
use Rattle.rc_lef.specs.Technology.{Technology, name_of_layer, name_of_via, name_of_macro, name_of_rule}

-- ---- names, and how many things there are

-- the things of each list have different names
pub record IsDistinct (tech : Technology) : Type 0 where
  pub layers : are_new name_of_layer [] tech.layers ≡ true
  pub vias : are_new name_of_via [] tech.vias ≡ true
  pub macros : are_new name_of_macro [] tech.macros ≡ true
  pub rules : are_new name_of_rule [] tech.rules ≡ true

-- each list has at most so many things, and so has the list of pins of each macro
pub record HasAtMost (count : ℕ) (tech : Technology) : Type 0 where
  pub layers : length tech.layers ≤ count
  pub vias : length tech.vias ≤ count
  pub macros : length tech.macros ≤ count
  pub rules : length tech.rules ≤ count
  pub pins : All (λ (cell : Macro). length cell.pins ≤ count) tech.macros

-- ---- points, rectangles and widths

-- both coordinates are within 2^29 of 0
pub record IsPoint (p : Pt) : Type 0 where
  pub x : IsCoordinate p.x
  pub y : IsCoordinate p.y

-- a rectangle that has an area, by its lower left and its upper right corner, which are within 2^29 of 0
pub record IsShape (r : Rect) : Type 0 where
  pub left : IsCoordinate r.x0
  pub below : IsCoordinate r.y0
  pub right : IsCoordinate r.x1
  pub above : IsCoordinate r.y1
  pub wide : r.x0 <ℤ r.x1
  pub high : r.y0 <ℤ r.y1

-- a width is above 0 and at most 2^29
abbrev pub IsWidth : ℤ → Type 0
IsWidth z = (pos 1 ≤ℤ z) × (z ≤ℤ pos (2 ^ 29))

-- ---- layers

abbrev pub routing_number : LayerKind → Option ℕ
routing_number (kinds.Routing number) = Some number
routing_number (kinds.Cut number) = None
routing_number kinds.Other = None

abbrev pub cut_number : LayerKind → Option ℕ
cut_number (kinds.Routing number) = None
cut_number (kinds.Cut number) = Some number
cut_number kinds.Other = None

-- the numbers of the layers of a kind, in order of the list
abbrev pub numbers_of : (LayerKind → Option ℕ) → List Layer → List ℕ
numbers_of number layers = filter_map (λ (layer : Layer). number layer.kind) layers

-- how many layers of a kind there are
abbrev pub routing_count : Technology → ℕ
routing_count tech = length (numbers_of routing_number tech.layers)

abbrev pub cut_count : Technology → ℕ
cut_count tech = length (numbers_of cut_number tech.layers)

-- numbers that count up from 0, and of which there are at most 32
pub record CountUp (numbers : List ℕ) : Type 0 where
  pub are : numbers ≡ range_with_len 0 (length numbers)
  pub few : length numbers ≤ layer_count

-- wires have a width, and other layers have none
abbrev pub HasWidth : LayerKind → ℤ → Type 0
HasWidth (kinds.Routing number) width = (number < layer_count) × IsWidth width
HasWidth (kinds.Cut number) width = (number < layer_count) × (width ≡ pos 0)
HasWidth kinds.Other width = width ≡ pos 0

-- ---- vias, where there are so many routing and so many cut layers

abbrev pub IsPad : ℕ → ℕ → ℕ × Rect → Type 0
IsPad lower upper (layer, rect) = ((layer ≡ lower) ⊎ (layer ≡ upper)) × IsShape rect

-- a via that can be used joins two routing layers by cuts on one cut layer
pub record IsUsable (routing_layers cut_layers : ℕ) (via : Via) : Type 0 where
  pub order : via.lower < via.upper
  pub upper : via.upper < routing_layers
  pub cut : via.cut < cut_layers
  pub cuts : 1 ≤ via.cuts
  pub pads : All (IsPad via.lower via.upper) via.pads

abbrev pub IsVia : ℕ → ℕ → Via → Type 0
IsVia routing cuts via = via.usable ≡ true → IsUsable routing cuts via

-- ---- nondefault rules and macros, where there are so many routing layers

-- a rectangle on a routing layer
abbrev pub IsDrawn : ℕ → ℕ × Rect → Type 0
IsDrawn routing (layer, rect) = (layer < routing) × IsShape rect

-- a width on a routing layer
abbrev pub IsRuled : ℕ → ℕ × ℤ → Type 0
IsRuled routing (layer, width) = (layer < routing) × IsWidth width

abbrev pub IsPin : ℕ → MacroPin → Type 0
IsPin routing pin = All (IsDrawn routing) pin.rects

pub record IsCell (routing : ℕ) (cell : Macro) : Type 0 where
  pub origin : IsPoint cell.origin
  pub wide : IsWidth cell.w
  pub high : IsWidth cell.h
  pub pins : All (IsPin routing) cell.pins

abbrev pub IsRule : ℕ → Ndr → Type 0
IsRule routing rule = All (IsRuled routing) rule.widths

-- ---- the technology

-- layers are numbered in order of their list, and every number lies in its range
pub record IsInRange (tech : Technology) : Type 0 where
  pub routing : CountUp (numbers_of routing_number tech.layers)
  pub cuts : CountUp (numbers_of cut_number tech.layers)
  pub layers : All (λ (layer : Layer). HasWidth layer.kind layer.width) tech.layers
  pub vias : All (IsVia (routing_count tech) (cut_count tech)) tech.vias
  pub cells : All (IsCell (routing_count tech)) tech.macros
  pub rules : All (IsRule (routing_count tech)) tech.rules

pub record IsSound (tech : Technology) : Type 0 where
  pub distinct : IsDistinct tech
  pub few : HasAtMost (2 ^ 30) tech
  pub ranges : IsInRange tech
