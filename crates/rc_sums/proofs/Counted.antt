-- The faces of a line count: their thickness and the gap that they see are at least 1; and what metal has, its tiles have.
use Rattle.std.proofs.Common.{◌≡◌, ◌≤◌, ◌+◌, ◌<◌, ℕ, zero, suc, ℤ, pos, ◌+ℤ◌, Bool, true, false, List, [], ◌∷◌, ◌++◌, Option, Some, None, All, length, get_or, ⊎_elim, refl, ap, sym, ◌∙◌, subst, arith}
use Rattle.std.specs.Prelude.{filter, option_map, ◌==◌, IfSome, MatchOption, is_some}
use Rattle.std.specs.Option.{option_to_list, ForSome}
use Rattle.std.specs.List.{range_with_len, flat_map}
use Rattle.std.proofs.lemmas.Bool.{and_parts, eqb-true, true≢false, eq-eqb, cases_lt}
use Rattle.std.proofs.lemmas.Int.{ints}
use Rattle.std.proofs.lemmas.List.{append-nil}
use Rattle.std.proofs.lemmas.List.Concat.{flat_map-append}
use Rattle.std.proofs.lemmas.List.Elements.{All-nil, All-cons, All-append, All-contains}
use Rattle.rc_geom.specs.declared.tile.Tile.{Tile}
use Rattle.rc_geom.specs.declared.rect.Pt.{Pt}
use Rattle.rc_geom.specs.Rects.{covers}
use Rattle.rc_geom.specs.Plane.{Metal, claims, owner, plane_of}
use Rattle.rc_geom.specs.Line.{Line, ray, line_of, square_of}
use Rattle.rc_geom.specs.Faces.{Face, Seen, face_at, sight}
use Rattle.rc_geom.specs.Sums.{extent}
use Rattle.rc_geom.specs.Laws.{IsOwner}
use Rattle.rc_geom.proofs.Totals.{range_more}
use Rattle.rc_geom.proofs.Rays.{faces_are_thick, face_tells, sight_tells}
use Rattle.rc_geom.proofs.Owners.{owners_are_least}
use Rattle.rc_column.specs.declared.run.Run.{Run}
use Rattle.rc_geom.proofs.Halos.{owner_kept}
use Rattle.rc_column.specs.Runs.{AreRuns, crosses_line}
use Rattle.rc_column.proofs.Layers.{claims_crosses}
use Rattle.rc_column.specs.Rows.{no_run}
use Rattle.rc_column.specs.declared.face.Face.{Face as FoundFace}
use Rattle.rc_column.specs.Found.{found, place_faces, faces_between}
use Rattle.rc_sums.specs.Worths.{IsCounted, IsBareOr}

none_some : (d : ℕ) → None ≡ Some d → ⊥
none_some d e = cc

same_some : (a b : ℕ) → Some a ≡ Some b → a ≡ b
same_some a b e = cc

gap_counts : (reach : ℕ) (line : Line) (up : Bool) (z : ℤ) (s : Option Seen) → s ≡ sight reach (ray up line z) → ForSome (option_map {T = Seen} (λ seen. seen.0) s) (λ d. 1 ≤ d)
gap_counts reach line up z None is = λ d e. absurd (none_some d e)
gap_counts reach line up z (Some seen) is = λ d e.
    let tells = sight_tells reach (ray up line z) seen.0 seen.1 (sym is) in
    subst (λ (n : ℕ). 1 ≤ n) (same_some seen.0 d e) tells.least

option_counts : (cap reach : ℕ) (line : Line) (up : Bool) (z : ℤ) → 1 ≤ cap → (o : Option Face) → face_at cap reach line up z ≡ o → All IsCounted (option_to_list (option_map (found z up) o))
option_counts cap reach line up z big None is = All-nil IsCounted
option_counts cap reach line up z big (Some face) is =
    let thick = subst (λ (o : Option Face). IfSome o (λ f. (1 ≤ f.thick) × (f.thick ≤ cap))) is (faces_are_thick cap reach line up z big) in
    let tells = face_tells cap reach line up z face is in
    All-cons IsCounted (found z up face) [] (record { thick = thick.0; gap = gap_counts reach line up z face.sight tells.2 }) (All-nil IsCounted)

place_counts : (cap reach : ℕ) (line : Line) (z : ℤ) → 1 ≤ cap → All IsCounted (place_faces cap reach line z)
place_counts cap reach line z big =
    All-append IsCounted (option_to_list (option_map (found z false) (face_at cap reach line false z))) (option_to_list (option_map (found z true) (face_at cap reach line true z)))
    (option_counts cap reach line false z big (face_at cap reach line false z) refl) (option_counts cap reach line true z big (face_at cap reach line true z) refl)

lists_count : (n : ℕ) (h : ℕ → List FoundFace) → ((k : ℕ) → All IsCounted (h k)) → All IsCounted (flat_map h (range_with_len 0 n))
lists_count zero h each = All-nil IsCounted
lists_count (suc n) h each =
    let one : suc n ≡ n + 1 = omega arith in
    let more : flat_map h (range_with_len 0 (suc n)) ≡ flat_map h (range_with_len 0 n) ++ h n =
    ap (λ (k : ℕ). flat_map h (range_with_len 0 k)) one ∙ (ap (flat_map h) (range_more n) ∙ (flat_map-append h (range_with_len 0 n) (n ∷ []) ∙ ap (λ xs. flat_map h (range_with_len 0 n) ++ xs) (append-nil (h n)))) in
    subst (All IsCounted) (sym more) (All-append IsCounted (flat_map h (range_with_len 0 n)) (h n) (lists_count n h each) (each n))

pub faces_count : (cap reach : ℕ) (line : Line) (lo hi : ℤ) → 1 ≤ cap → All IsCounted (faces_between cap reach line lo hi)
unfolding faces_between
faces_count cap reach line lo hi big = lists_count (extent lo hi) (λ k. place_faces cap reach line (lo +ℤ pos k)) (λ k. place_counts cap reach line (lo +ℤ pos k) big)

-- ---- what all tiles have, metal has

from_owner : (P : ℕ → Type 0) (tiles : List Tile) (layer : ℕ) (p : Pt) (o : Option Tile) → All (λ (t : Tile). P t.layer) tiles → MatchOption o (All (λ u. claims layer p u ≡ false) tiles) (IsOwner tiles layer p) → is_some (option_map {U = Metal} (λ (t : Tile). (t.net, t.node)) o) ≡ true → P layer
from_owner P tiles layer p None all is metal = absurd (true≢false (sym metal))
from_owner P tiles layer p (Some t) all is metal =
    let same : t.layer ≡ layer = eqb-true t.layer layer (and_parts (t.layer == layer) (covers t.rect p) is.covering).0 in
    subst P same (All-contains (λ (u : Tile). P u.layer) tiles t all is.member)

pub metal_has : (P : ℕ → Type 0) (tiles : List Tile) → All (λ (t : Tile). P t.layer) tiles → (layer : ℕ) (p : Pt) → is_some (plane_of tiles layer p) ≡ true → P layer
metal_has P tiles all layer p metal = from_owner P tiles layer p (owner tiles layer p) all (owners_are_least tiles layer p) metal

-- ---- lines without metal

pub bare_or : (line : Line) (runs : List Run) (b : Bool) → AreRuns line runs → b ≡ (length runs == 0) → IsBareOr b line
bare_or line runs true are is =
    let none : length runs ≡ 0 = eqb-true (length runs) 0 (sym is) in
    λ z. are.outside z (λ k d less. absurd (omega arith))
bare_or line runs false are is = ⊎_elim
    (λ (some : 0 < length runs).
    let run = get_or runs 0 no_run in
    (run.lo, ap is_some (are.inside 0 no_run run.lo some (omega (arith, ints)) (are.places 0 no_run some))))
    (λ (none : length runs ≤ 0). absurd (true≢false (sym (eq-eqb (length runs) 0 (omega arith)) ∙ sym is)))
    (cases_lt 0 (length runs))

pub metal_of_line : (line : Line) (b : Bool) → b ≡ false → IsBareOr b line → (z : ℤ) × (is_some (line z) ≡ true)
metal_of_line line b is h = subst (λ (c : Bool). IsBareOr c line) is h

pub bare_of_line : (line : Line) (b : Bool) → b ≡ true → IsBareOr b line → (z : ℤ) → line z ≡ None
bare_of_line line b is h = subst (λ (c : Bool). IsBareOr c line) is h

-- ---- the tiles that have squares on a line

claims_line : (layer axis : ℕ) (at z : ℤ) (t : Tile) → claims layer (square_of axis at z) t ≡ true → crosses_line axis at t ≡ true
claims_line layer axis at z t does = (and_parts (t.layer == layer) (crosses_line axis at t) (claims_crosses layer axis at z t does)).1

-- show the line
pub crossing_lines : (tiles : List Tile) (layer axis : ℕ) (at : ℤ) → line_of (plane_of (filter (crosses_line axis at) tiles)) layer axis at ≡ line_of (plane_of tiles) layer axis at
crossing_lines tiles layer axis at =
    λ i z. ap (option_map {U = Metal} (λ (t : Tile). (t.net, t.node))) (owner_kept tiles (crosses_line axis at) layer (square_of axis at z) (claims_line layer axis at z)) i
