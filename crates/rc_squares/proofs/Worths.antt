-- What the parts of faces add to a key.
use Rattle.std.proofs.Common.{◌≡◌, ◌+◌, ◌+ℤ◌, ℕ, zero, suc, ℤ, pos, Bool, true, false, cond, Option, Some, None, List, [], ◌∷◌, ◌++◌, All, eqb, refl, ap, sym, ◌∙◌, subst, arith}
use Rattle.std.specs.Prelude.{option_map, MatchOption, fold, ◌&&◌}
use Rattle.std.specs.List.{list_any}
use Rattle.std.specs.Option.{option_to_list, option_map_or}
use Rattle.std.proofs.lemmas.Bool.{eqb-true, and_parts, or_parts}
use Rattle.std.proofs.lemmas.List.Elements.{All-contains}
use Rattle.rc_geom.specs.declared.rect.Pt.{Pt}
use Rattle.rc_geom.specs.declared.rect.Rect.{Rect}
use Rattle.rc_geom.specs.declared.key.Key.{Key}
use Rattle.rc_geom.specs.declared.tile.Tile.{Tile}
use Rattle.rc_geom.specs.declared.tile.Side.{Side}
use Rattle.rc_geom.specs.Rects.{covers}
use Rattle.rc_geom.specs.Plane.{Metal, Plane, claims, next_owner, least_of, owner, plane_of}
use Rattle.rc_geom.specs.Line.{square_of, axis_of}
use Rattle.rc_geom.specs.Rates.{Rates, rate_of}
use Rattle.rc_geom.specs.Parts.{Part, parts, same_key, worth_at}
use Rattle.rc_geom.specs.Sums.{IsNeutral, numbers, both_directions, extent, first_line, end_line, first_place, end_place}
use Rattle.rc_geom.specs.Extraction.{parts_of, sum_in}
use Rattle.rc_geom.specs.Laws.{IsOwner}
use Rattle.rc_geom.proofs.Owners.{owners_are_least}
use Rattle.rc_geom.proofs.Totals.{total_same, total_nothing}
use Rattle.rc_squares.specs.Sides.{line_at, place_at, parts_on, side_of}
use Rattle.rc_squares.specs.Worths.{part_worth, side_worth, square_worth, lines_worth, layers_worth}
use Rattle.rc_squares.proofs.Squares.{face_of_none}

-- ---- the parts of one face

first_part : (b : Bool) (v : ℕ) → cond b (0 + v) 0 ≡ cond b v 0
first_part true v = omega arith
first_part false v = refl

next_part : (b : Bool) (sum v : ℕ) → cond b (sum + v) sum ≡ sum + cond b v 0
next_part true sum v = refl
next_part false sum v = omega arith

two_parts : (worth : ℕ → ℕ) (key : Key) (own shared : Option (Part ℕ)) → worth_at numbers worth key (option_to_list own ++ option_to_list shared) ≡ part_worth worth key own + part_worth worth key shared
two_parts worth key None None = omega arith
two_parts worth key None (Some b) = first_part (same_key b.key key) (worth b.amount) ∙ omega arith
two_parts worth key (Some a) None = first_part (same_key a.key key) (worth a.amount) ∙ omega arith
two_parts worth key (Some a) (Some b) =
    next_part (same_key b.key key) (cond (same_key a.key key) (0 + worth a.amount) 0) (worth b.amount)
    ∙ ap (λ (n : ℕ). n + cond (same_key b.key key) (worth b.amount) 0) (first_part (same_key a.key key) (worth a.amount))

pub side_worth_is : (worth : ℕ → ℕ) (plane : Plane) (rates : Rates ℕ) (layer : ℕ) (key : Key) (side : Side) (p : Pt) (own shared : Option (Part ℕ)) → option_to_list own ++ option_to_list shared ≡ parts_on plane rates layer side p → side_worth worth plane rates layer key side p ≡ part_worth worth key own + part_worth worth key shared
unfolding side_worth
side_worth_is worth plane rates layer key side p own shared is = ap (worth_at numbers worth key) (sym is) ∙ two_parts worth key own shared

-- ---- squares without metal

no_parts : (plane : Plane) (rates : Rates ℕ) (layer : ℕ) (side : Side) (p : Pt) → plane layer p ≡ None → parts_on plane rates layer side p ≡ []
no_parts plane rates layer side p bare =
    ap (λ o. option_map_or (λ face. parts face (rate_of rates plane layer (square_of (axis_of side) (line_at (axis_of side) p) (place_at (axis_of side) p)) face)) o [])
    (face_of_none (rates.cap layer) (rates.reach layer) plane layer side p bare)

pub side_bare : (worth : ℕ → ℕ) (plane : Plane) (rates : Rates ℕ) (layer : ℕ) (key : Key) (side : Side) (p : Pt) → plane layer p ≡ None → side_worth worth plane rates layer key side p ≡ 0
unfolding side_worth
side_bare worth plane rates layer key side p bare = ap (worth_at numbers worth key) (no_parts plane rates layer side p bare)

pub square_is : (worth : ℕ → ℕ) (plane : Plane) (rates : Rates ℕ) (layer : ℕ) (key : Key) (axis : ℕ) (p : Pt) → square_worth worth plane rates layer key axis p ≡ side_worth worth plane rates layer key (side_of axis false) p + side_worth worth plane rates layer key (side_of axis true) p
unfolding square_worth
square_is worth plane rates layer key axis p = refl

pub square_sides : (worth : ℕ → ℕ) (plane : Plane) (rates : Rates ℕ) (layer : ℕ) (key : Key) (axis : ℕ) (p : Pt) (low high : Side) → low ≡ side_of axis false → high ≡ side_of axis true → square_worth worth plane rates layer key axis p ≡ side_worth worth plane rates layer key low p + side_worth worth plane rates layer key high p
square_sides worth plane rates layer key axis p low high low_is high_is =
    square_is worth plane rates layer key axis p
    ∙ (ap (λ (s : Side). side_worth worth plane rates layer key s p + side_worth worth plane rates layer key (side_of axis true) p) (sym low_is)
    ∙ ap (λ (s : Side). side_worth worth plane rates layer key low p + side_worth worth plane rates layer key s p) (sym high_is))

pub square_bare : (worth : ℕ → ℕ) (plane : Plane) (rates : Rates ℕ) (layer : ℕ) (key : Key) (axis : ℕ) (p : Pt) → plane layer p ≡ None → square_worth worth plane rates layer key axis p ≡ 0
square_bare worth plane rates layer key axis p bare =
    let low = side_bare worth plane rates layer key (side_of axis false) p bare in
    let high = side_bare worth plane rates layer key (side_of axis true) p bare in
    square_is worth plane rates layer key axis p ∙ omega (arith, low, high)

pub ruleset square_steps = (square_is, square_bare)

-- ---- what all tiles have, metal has

from_owner : (P : ℕ → Type 0) (tiles : List Tile) (layer : ℕ) (p : Pt) (own : Metal) (o : Option Tile) → All (λ (t : Tile). P t.layer) tiles → MatchOption o (All (λ u. claims layer p u ≡ false) tiles) (IsOwner tiles layer p) → option_map {U = Metal} (λ (t : Tile). (t.net, t.node)) o ≡ Some own → P layer
from_owner P tiles layer p own None all is metal = absurd (cc)
from_owner P tiles layer p own (Some t) all is metal =
    let same : t.layer ≡ layer = eqb-true t.layer layer (and_parts (eqb t.layer layer) (covers t.rect p) is.covering).0 in
    subst P same (All-contains (λ (u : Tile). P u.layer) tiles t all is.member)

pub metal_has : (P : ℕ → Type 0) (tiles : List Tile) (layer : ℕ) (p : Pt) (own : Metal) → All (λ (t : Tile). P t.layer) tiles → plane_of tiles layer p ≡ Some own → P layer
metal_has P tiles layer p own all metal = from_owner P tiles layer p own (owner tiles layer p) all (owners_are_least tiles layer p) metal

-- ---- layers without tiles

unclaimed : (layer : ℕ) (p : Pt) (best : Option Tile) (t : Tile) → eqb t.layer layer ≡ false → next_owner layer p best t ≡ best
unclaimed layer p best t other = ap (λ b. cond (b && covers t.rect p) (Some (least_of best t)) best) other

no_owner : (tiles : List Tile) (layer : ℕ) (p : Pt) → list_any (λ (t : Tile). eqb t.layer layer) tiles ≡ false → owner tiles layer p ≡ None
no_owner [] layer p none = refl
no_owner (t ∷ ts) layer p none =
    let parts = or_parts (eqb t.layer layer) (list_any (λ (u : Tile). eqb u.layer layer) ts) none in
    ap (λ o. fold (next_owner layer p) o ts) (unclaimed layer p None t parts.0) ∙ no_owner ts layer p parts.1

-- every number will do
abbrev any_number : ℕ → Bool
any_number _ = true

numbers_neutral : IsNeutral numbers any_number
numbers_neutral = record { start = refl; closed = λ a b _ _. refl; before = λ n _. omega arith; after = λ n _. omega arith }

pub layer_bare : (worth : ℕ → ℕ) (tiles : List Tile) (rates : Rates ℕ) (layer : ℕ) (key : Key) (axis : ℕ) (r : Rect) (n : ℕ) → list_any (λ (t : Tile). eqb t.layer layer) tiles ≡ false → lines_worth worth (plane_of tiles) rates layer key axis r n ≡ 0
layer_bare worth tiles rates layer key axis r n none =
    total_nothing numbers any_number numbers_neutral n _ (λ j _. total_nothing numbers any_number numbers_neutral (extent (first_place axis r) (end_place axis r)) _ (λ k _.
    square_bare worth (plane_of tiles) rates layer key axis (square_of axis (first_line axis r +ℤ pos j) (first_place axis r +ℤ pos k))
    (ap (option_map {U = Metal} (λ (t : Tile). (t.net, t.node))) (no_owner tiles layer (square_of axis (first_line axis r +ℤ pos j) (first_place axis r +ℤ pos k)) none))))

-- ---- the sums of the definitions

pub square_same : (worth : ℕ → ℕ) (plane : Plane) (rates : Rates ℕ) (layer : ℕ) (key : Key) (axis : ℕ) (at along : ℤ) → both_directions numbers (λ up. worth_at numbers worth key (parts_of plane rates axis layer at along up)) ≡ square_worth worth plane rates layer key axis (square_of axis at along)
unfolding square_worth side_worth
square_same worth plane rates layer key zero at along = refl
square_same worth plane rates layer key (suc a) at along = refl

pub sum_in_layers : (worth : ℕ → ℕ) (plane : Plane) (rates : Rates ℕ) (key : Key) (axis : ℕ) (r : Rect) → sum_in numbers worth plane rates axis r key ≡ layers_worth worth plane rates key axis r 32
sum_in_layers worth plane rates key axis r =
    total_same numbers 32 _ _ (λ layer _. total_same numbers (extent (first_line axis r) (end_line axis r)) _ _ (λ j _. total_same numbers (extent (first_place axis r) (end_place axis r)) _ _ (λ k _.
    square_same worth plane rates layer key axis (first_line axis r +ℤ pos j) (first_place axis r +ℤ pos k))))
