-- What nets of a layout connect can be placed.
use Rattle.std.proofs.Common.{◌≡◌, ℕ, List, get_or, refl, arith}
use Rattle.std.proofs.lemmas.Int.{ints}
use Rattle.std.proofs.lemmas.List.Sums.{AllPass-from_list_all}
use Rattle.std.specs.Prelude.{All, Option, Some, None, IfSome, slice_get, true}
use Rattle.std.specs.List.{list_all}
use Rattle.rc_geom.specs.declared.orient.Orient.{Orient}
use Rattle.rc_geom.specs.declared.rect.Pt.{Pt}
use Rattle.rc_geom.specs.declared.rect.Rect.{Rect}
use Rattle.rc_geom.specs.Bounds.{is_within}
use Rattle.rc_lef.specs.declared.cell.Macro.{Macro}
use Rattle.rc_lef.specs.declared.cell.MacroPin.{MacroPin}
use Rattle.rc_lef.specs.Facts.{IsCell, IsPin, routing_count}
use Rattle.rc_layout.specs.declared.net.Conn.{Conn}
use Rattle.rc_layout.specs.declared.net.Conn.TheVariants as conns
use Rattle.rc_layout.specs.declared.part.Comp.{Comp}
use Rattle.rc_layout.specs.declared.parts.Parts.{Parts}
use Rattle.rc_layout.specs.Entries.{cell_rect}
use Rattle.rc_layout.specs.Facts.{AreSound, FitsAt, IsPlaced}
use Rattle.rc_layout.specs.Items.{IsPoint}
use Rattle.rc_layout.proofs.FactsItems.{corners_are}
use Rattle.rc_layout.proofs.FactsVias.{at_number}
use Rattle.rc_nodes.specs.Pins.{CanPlaceConn, CanPlaceIn, CanPlaceOf, CanPlacePin, IsCellSize}

size_is : (routing : ℕ) (cell : Macro) → IsCell routing cell → IsCellSize cell
size_is routing cell is =
    let wide = is.wide.0 in
    let high = is.high.0 in
    record { wide = omega (arith, ints, wide); narrow = is.wide.1; high = omega (arith, ints, high); low = is.high.1 }

-- the rectangles of a pin that lie within the coordinates where the cell stands
pin_can : (routing : ℕ) (cell : Macro) (place : Pt × Orient) (pin : MacroPin) → IsCell routing cell → IsPin routing pin → IsPoint place.0
    → list_all (λ (rect : ℕ × Rect). is_within (cell_rect cell place.1 place.0 rect.1)) pin.rects ≡ true → CanPlacePin cell (Some place) pin
pin_can routing cell place pin is drawn at fits = λ k d within.
    let shape = (drawn k d within).1 in
    record {
      origin = record { x = is.origin.x; y = is.origin.y };
      size = size_is routing cell is;
      at = at;
      drawn = record { left = shape.left; below = shape.below; right = shape.right; above = shape.above };
      placed = corners_are (cell_rect cell place.1 place.0 (get_or pin.rects k d).1) (AllPass-from_list_all (λ (rect : ℕ × Rect). is_within (cell_rect cell place.1 place.0 rect.1)) pin.rects fits k d within);
    }

module _ (routing : ℕ) (number : ℕ) where
  of_pin : (cell : Macro) (place : Option (Pt × Orient)) (o : Option MacroPin) → ((pin : MacroPin) → o ≡ Some pin → slice_get cell.pins number ≡ Some pin) → IsCell routing cell → FitsAt (Some cell) place → IfSome o (CanPlacePin cell place)
  of_pin cell place None stands is fits = tt
  of_pin cell None (Some pin) stands is fits = tt
  of_pin cell (Some place) (Some pin) stands is fits =
      let there = stands pin refl in
      pin_can routing cell place pin is (at_number (IsPin routing) cell.pins number pin is.pins there) fits.0
      (at_number (λ (pin : MacroPin). list_all (λ (rect : ℕ × Rect). is_within (cell_rect cell place.1 place.0 rect.1)) pin.rects ≡ true) cell.pins number pin
      (AllPass-from_list_all (λ (pin : MacroPin). list_all (λ (rect : ℕ × Rect). is_within (cell_rect cell place.1 place.0 rect.1)) pin.rects) cell.pins fits.1) there)

  of_cell : (comp : Comp) (o : Option Macro) → ((cell : Macro) → o ≡ Some cell → IsCell routing cell) → FitsAt o comp.at → CanPlaceIn comp o number
  of_cell comp None is fits = tt
  of_cell comp (Some cell) is fits = of_pin cell comp.at (slice_get cell.pins number) (λ pin there. there) (is cell refl) fits

  of_comp : (cells : List Macro) (o : Option Comp) → ((cell : Macro) (k : ℕ) → slice_get cells k ≡ Some cell → IsCell routing cell) → ((comp : Comp) → o ≡ Some comp → FitsAt (slice_get cells comp.cell) comp.at) → CanPlaceOf cells o number
  of_comp cells None is fits = tt
  of_comp cells (Some comp) is fits = of_cell comp (slice_get cells comp.cell) (λ cell there. is cell comp.cell there) (fits comp refl)

-- what a net connects
can_place : (parts : Parts) (conn : Conn) → AreSound parts → CanPlaceConn parts conn
can_place parts (conns.Port port) sound = tt
can_place parts (conns.Pin comp pin) sound =
    of_comp (routing_count parts.tech) pin parts.tech.macros (slice_get parts.comps comp)
    (λ cell k there. at_number (IsCell (routing_count parts.tech)) parts.tech.macros k cell sound.tech.ranges.cells there)
    (λ c there. at_number (IsPlaced parts) parts.comps comp c sound.comps there)

pub all_can_place : (parts : Parts) (conns : List Conn) → AreSound parts → All (CanPlaceConn parts) conns
all_can_place parts conns sound = λ k d within. can_place parts (get_or conns k d) sound
