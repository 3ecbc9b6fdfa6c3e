-- What the faces of single squares add, and their sums.
use Rattle.std.proofs.Common.{◌≡◌, ◌≤◌, ◌+ℤ◌, ℕ, ℤ, zero, suc, pos, Bool, true, false, List, [], Option, Some, None, refl, ap, sym, ◌∙◌, subst, arith}
use Rattle.std.specs.Prelude.{IfSome, option_map}
use Rattle.std.specs.Option.{ForSome, option_and_then, option_map_or}
use Rattle.rc_geom.specs.declared.key.Key.{Key}
use Rattle.rc_geom.specs.declared.rect.Pt.{Pt}
use Rattle.rc_geom.specs.declared.rect.Rect.{Rect}
use Rattle.rc_geom.specs.declared.tile.Side.{Side}
use Rattle.rc_geom.specs.Plane.{Plane}
use Rattle.rc_geom.specs.Line.{Line, ray, line_of, square_of, axis_of, is_up}
use Rattle.rc_geom.specs.Faces.{Face, Seen, sight}
use Rattle.rc_geom.specs.Rates.{Rates, rate_of}
use Rattle.rc_geom.specs.Parts.{Part, parts, part_for, node_key, shared_key, foreign_metal, worth_at}
use Rattle.rc_geom.specs.Sums.{Adding, IsNeutral, extent, first_line, end_line, first_place, end_place}
use Rattle.rc_geom.specs.Extraction.{parts_of}
use Rattle.rc_geom.proofs.Areas.{two_nothings, no_parts, worth_sound}
use Rattle.rc_geom.proofs.Rays.{faces_are_thick, face_tells, sight_tells}
use Rattle.rc_geom.proofs.Totals.{total_none, total_suc, total_sound}
use Rattle.rc_tally.specs.Amounts.{IsAmount, repeated}
use Rattle.rc_tally.specs.Tallies.{Sum, sums, sum_sound}
use Rattle.rc_rules.specs.Raters.{KeepsRules}
use Rattle.rc_squares.specs.Sides.{line_at, place_at, side_of, face_on}
use Rattle.rc_squares.proofs.Squares.{its_place}
use Rattle.rc_sums.specs.Entering.{one}
use Rattle.rc_sums.specs.Worths.{columns_added}
use Rattle.rc_sums.proofs.Sums.{sums_are_amounts}
use Rattle.rc_sums.proofs.Enters.{part_added}
use Rattle.rc_sums.proofs.Faces.{worth_two}
use Rattle.rc_sums.proofs.Strips.{AllParts, columns_are_sum}
use Rattle.rc_plain.specs.Squares.{face_added, side_added, place_added, places_added, lines_added, layers_added}

-- ---- a face

-- once an amount is the amount
once : {V : Type 0} (adding : Adding V) (sound : V → Bool) → IsNeutral adding sound → (v : V) → sound v ≡ true → repeated adding 1 v ≡ v
unfolding repeated
once adding sound laws v of_v = total_suc adding 0 1 (λ _. v) (omega arith) ∙ (ap (λ w. adding.plus w v) (total_none adding (λ _. v)) ∙ laws.before v of_v)

part_once : {V : Type 0} (adding : Adding V) (sound : V → Bool) → IsNeutral adding sound → (v : V) → sound v ≡ true → (key : Option Key) (q : Key) → worth_at (sums adding) one q (part_for v key) ≡ part_added adding 1 v key q
part_once adding sound laws v of_v None q = refl
part_once {V = W} adding sound laws v of_v (Some key) q =
    let worth : W → Sum W = λ w. record { count = 1; value = w } in
    ap (λ (w : W). worth_at (sums adding) (λ (_ : W). worth w) q (part_for v (Some key))) (sym (once adding sound laws v of_v))

-- the own part of a face and its shared part
pub face_adds : {V : Type 0} (adding : Adding V) (fits sound : V → Bool) → IsAmount adding fits sound → (plane : Plane) (rates : Rates V) (layer : ℕ) (p : Pt) (face : Face) (ground share : V) (own seen : Option Key) → (ground, share) ≡ rate_of rates plane layer p face → own ≡ node_key face.own → seen ≡ option_and_then (shared_key face.own) (foreign_metal face.own face.sight) → sound ground ≡ true → sound share ≡ true → (q : Key) → face_added adding plane rates layer p face q ≡ (sums adding).plus (part_added adding 1 ground own q) (part_added adding 1 share seen q)
face_adds {V = W} adding fits sound laws plane rates layer p face ground share own seen rate is_own is_seen of_ground of_share q =
    let neutral = (sums_are_amounts adding fits sound laws).additive.neutral in
    let own' = node_key face.own in
    let seen' = option_and_then (shared_key face.own) (foreign_metal face.own face.sight) in
    ap (λ (r : W × W). worth_at (sums adding) one q (parts face r)) (sym rate)
    ∙ (worth_two (sums adding) (sum_sound sound) neutral one q ground share own' seen' of_ground of_share
    ∙ (ap (λ (k : Option Key). (sums adding).plus (worth_at (sums adding) one q (part_for ground k)) (worth_at (sums adding) one q (part_for share seen'))) (sym is_own)
    ∙ (ap (λ (k : Option Key). (sums adding).plus (worth_at (sums adding) one q (part_for ground own)) (worth_at (sums adding) one q (part_for share k))) (sym is_seen)
    ∙ (ap (λ (s : Sum W). (sums adding).plus s (worth_at (sums adding) one q (part_for share seen))) (part_once adding sound laws.additive.neutral ground of_ground own q)
    ∙ ap ((sums adding).plus (part_added adding 1 ground own q)) (part_once adding sound laws.additive.neutral share of_share seen q)))))

-- amounts of layers with rules are sound
pub rate_sound : {V : Type 0} (has_rules : ℕ → Type 0) (rates : Rates V) (adding : Adding V) (sound : V → Bool) → KeepsRules has_rules rates adding sound → (plane : Plane) (layer : ℕ) (p : Pt) (face : Face) (ground share : V) → has_rules layer → (ground, share) ≡ rate_of rates plane layer p face → (sound ground ≡ true) × (sound share ≡ true)
rate_sound {V = W} has_rules rates adding sound keeps plane layer p face ground share rules rate = (
  ap (λ (r : W × W). sound r.0) rate ∙ keeps.own layer _ _ _ _ rules,
  ap (λ (r : W × W). sound r.1) rate ∙ keeps.share layer _ _ _ _ rules,
)

none_some : (d : ℕ) → None ≡ Some d → ⊥
none_some d e = cc

same_some : (a b : ℕ) → Some a ≡ Some b → a ≡ b
same_some a b e = cc

gap_counts : (reach : ℕ) (line : Line) (up : Bool) (z : ℤ) (s : Option Seen) → s ≡ sight reach (ray up line z) → ForSome (option_map {T = Seen} (λ seen. seen.0) s) (λ d. 1 ≤ d)
gap_counts reach line up z None is = λ d e. absurd (none_some d e)
gap_counts reach line up z (Some seen) is = λ d e.
    let tells = sight_tells reach (ray up line z) seen.0 seen.1 (sym is) in
    subst (λ (n : ℕ). 1 ≤ n) (same_some seen.0 d e) tells.least

-- its thickness counts, and the gap to what it sees
pub face_counts : (cap reach : ℕ) (plane : Plane) (layer : ℕ) (side : Side) (p : Pt) (face : Face) → 1 ≤ cap → face_on cap reach plane layer side p ≡ Some face → (1 ≤ face.thick) × ForSome (option_map {T = Seen} (λ seen. seen.0) face.sight) (λ d. 1 ≤ d)
face_counts cap reach plane layer side p face big is =
    let line = line_of plane layer (axis_of side) (line_at (axis_of side) p) in
    let z = place_at (axis_of side) p in
    let thick = subst (λ (o : Option Face). IfSome o (λ f. (1 ≤ f.thick) × (f.thick ≤ cap))) is (faces_are_thick cap reach line (is_up side) z big) in
    let tells = face_tells cap reach line (is_up side) z face is in
    (thick.0, gap_counts reach line (is_up side) z face.sight tells.2)

-- ---- a side of a square

pub side_of_face : {V : Type 0} (adding : Adding V) (plane : Plane) (rates : Rates V) (layer : ℕ) (side : Side) (p : Pt) (face : Face) → face_on (rates.cap layer) (rates.reach layer) plane layer side p ≡ Some face → (q : Key) → side_added adding plane rates layer side p q ≡ face_added adding plane rates layer p face q
side_of_face {V = W} adding plane rates layer side p face is q =
    let there = square_of (axis_of side) (line_at (axis_of side) p) (place_at (axis_of side) p) in
    ap (λ (o : Option Face). worth_at (sums adding) one q (option_map_or (λ f. parts f (rate_of rates plane layer there f)) o [])) is
    ∙ ap (λ (s : Pt). worth_at (sums adding) one q (parts face (rate_of rates plane layer s face))) (its_place side p)

pub side_of_none : {V : Type 0} (adding : Adding V) (plane : Plane) (rates : Rates V) (layer : ℕ) (side : Side) (p : Pt) → face_on (rates.cap layer) (rates.reach layer) plane layer side p ≡ None → (q : Key) → side_added adding plane rates layer side p q ≡ (sums adding).none
side_of_none {V = W} adding plane rates layer side p is q =
    let there = square_of (axis_of side) (line_at (axis_of side) p) (place_at (axis_of side) p) in
    ap (λ (o : Option Face). worth_at (sums adding) one q (option_map_or (λ f. parts f (rate_of rates plane layer there f)) o [])) is

-- ---- a square

side_worth : {V : Type 0} (adding : Adding V) (plane : Plane) (rates : Rates V) (axis layer : ℕ) (at along : ℤ) (up : Bool) (q : Key) → side_added adding plane rates layer (side_of axis up) (square_of axis at along) q ≡ worth_at (sums adding) one q (parts_of plane rates axis layer at along up)
side_worth adding plane rates zero layer at along true q = refl
side_worth adding plane rates zero layer at along false q = refl
side_worth adding plane rates (suc n) layer at along true q = refl
side_worth adding plane rates (suc n) layer at along false q = refl

pub place_is : {V : Type 0} (adding : Adding V) (plane : Plane) (rates : Rates V) (axis layer : ℕ) (at along : ℤ) (p : Pt) (low high : Side) → p ≡ square_of axis at along → low ≡ side_of axis false → high ≡ side_of axis true → (q : Key) → place_added adding plane rates axis layer at along q ≡ (sums adding).plus (side_added adding plane rates layer low p q) (side_added adding plane rates layer high p q)
unfolding place_added
place_is adding plane rates axis layer at along p low high is is_low is_high q =
    let add = (sums adding).plus in
    let here = square_of axis at along in
    let two = λ (l h : Side) (s : Pt). add (side_added adding plane rates layer l s q) (side_added adding plane rates layer h s q) in
    ap (λ v. add v (worth_at (sums adding) one q (parts_of plane rates axis layer at along true))) (sym (side_worth adding plane rates axis layer at along false q))
    ∙ (ap (add (side_added adding plane rates layer (side_of axis false) here q)) (sym (side_worth adding plane rates axis layer at along true q))
    ∙ (ap (λ (s : Pt). two (side_of axis false) (side_of axis true) s) (sym is)
    ∙ (ap (λ (l : Side). two l (side_of axis true) p) (sym is_low)
    ∙ ap (λ (h : Side). two low h p) (sym is_high))))

-- a square without metal
pub place_bare : {V : Type 0} (adding : Adding V) (fits sound : V → Bool) → IsAmount adding fits sound → (plane : Plane) (rates : Rates V) (axis layer : ℕ) (at along : ℤ) → plane layer (square_of axis at along) ≡ None → (q : Key) → place_added adding plane rates axis layer at along q ≡ (sums adding).none
unfolding place_added
place_bare {V = W} adding fits sound laws plane rates axis layer at along bare q =
    two_nothings (sums adding) (sum_sound sound) (sums_are_amounts adding fits sound laws).additive.neutral (λ up. worth_at (sums adding) one q (parts_of plane rates axis layer at along up))
    (λ up. ap (λ (ps : List (Part W)). worth_at (sums adding) one q ps) (no_parts plane rates axis layer at along up bare))

-- ---- what is added is sound

worths_sound : {V : Type 0} (adding : Adding V) (fits sound : V → Bool) → IsAmount adding fits sound → (plane : Plane) (rates : Rates V) (axis : ℕ) → AllParts sound (λ v. v) plane rates axis → (layer : ℕ) (at along : ℤ) (up : Bool) (q : Key) → sound (worth_at (sums adding) one q (parts_of plane rates axis layer at along up)).value ≡ true
worths_sound adding fits sound laws plane rates axis each layer at along up q =
    worth_sound (sums adding) (sum_sound sound) (sums_are_amounts adding fits sound laws).additive.neutral one q (parts_of plane rates axis layer at along up) (each layer at along up)

pub side_sound : {V : Type 0} (adding : Adding V) (fits sound : V → Bool) → IsAmount adding fits sound → (plane : Plane) (rates : Rates V) (axis : ℕ) → AllParts sound (λ v. v) plane rates axis → (layer : ℕ) (at along : ℤ) (up : Bool) (p : Pt) (side : Side) → p ≡ square_of axis at along → side ≡ side_of axis up → (q : Key) → sound (side_added adding plane rates layer side p q).value ≡ true
side_sound {V = W} adding fits sound laws plane rates axis each layer at along up p side is is_side q =
    ap (λ (s : Side). sound (side_added adding plane rates layer s p q).value) is_side
    ∙ (ap (λ (s : Pt). sound (side_added adding plane rates layer (side_of axis up) s q).value) is
    ∙ (ap (λ (s : Sum W). sound s.value) (side_worth adding plane rates axis layer at along up q)
    ∙ worths_sound adding fits sound laws plane rates axis each layer at along up q))

pub place_sound : {V : Type 0} (adding : Adding V) (fits sound : V → Bool) → IsAmount adding fits sound → (plane : Plane) (rates : Rates V) (axis : ℕ) → AllParts sound (λ v. v) plane rates axis → (layer : ℕ) (at along : ℤ) (q : Key) → sound (place_added adding plane rates axis layer at along q).value ≡ true
unfolding place_added
place_sound adding fits sound laws plane rates axis each layer at along q =
    laws.additive.neutral.closed (worth_at (sums adding) one q (parts_of plane rates axis layer at along false)).value (worth_at (sums adding) one q (parts_of plane rates axis layer at along true)).value
    (worths_sound adding fits sound laws plane rates axis each layer at along false q) (worths_sound adding fits sound laws plane rates axis each layer at along true q)

pub places_sound : {V : Type 0} (adding : Adding V) (fits sound : V → Bool) → IsAmount adding fits sound → (plane : Plane) (rates : Rates V) (axis : ℕ) → AllParts sound (λ v. v) plane rates axis → (layer : ℕ) (at low : ℤ) (n : ℕ) (q : Key) → sound (places_added adding plane rates axis layer at low n q).value ≡ true
unfolding places_added
places_sound adding fits sound laws plane rates axis each layer at low n q =
    total_sound (sums adding) (sum_sound sound) (sums_are_amounts adding fits sound laws).additive.neutral n (λ k. place_added adding plane rates axis layer at (low +ℤ pos k) q)
    (λ k. place_sound adding fits sound laws plane rates axis each layer at (low +ℤ pos k) q)

pub lines_sound : {V : Type 0} (adding : Adding V) (fits sound : V → Bool) → IsAmount adding fits sound → (plane : Plane) (rates : Rates V) (axis : ℕ) → AllParts sound (λ v. v) plane rates axis → (layer : ℕ) (r : Rect) (n : ℕ) (q : Key) → sound (lines_added adding plane rates axis layer r n q).value ≡ true
unfolding lines_added
lines_sound adding fits sound laws plane rates axis each layer r n q =
    let long = extent (first_place axis r) (end_place axis r) in
    total_sound (sums adding) (sum_sound sound) (sums_are_amounts adding fits sound laws).additive.neutral n (λ j. places_added adding plane rates axis layer (first_line axis r +ℤ pos j) (first_place axis r) long q)
    (λ j. places_sound adding fits sound laws plane rates axis each layer (first_line axis r +ℤ pos j) (first_place axis r) long q)

-- ---- none so far, and all

pub no_places : {V : Type 0} (adding : Adding V) (plane : Plane) (rates : Rates V) (axis layer : ℕ) (at low : ℤ) (q : Key) → places_added adding plane rates axis layer at low 0 q ≡ (sums adding).none
unfolding places_added
no_places adding plane rates axis layer at low q = total_none (sums adding) (λ k. place_added adding plane rates axis layer at (low +ℤ pos k) q)

pub no_lines : {V : Type 0} (adding : Adding V) (plane : Plane) (rates : Rates V) (axis layer : ℕ) (r : Rect) (q : Key) → lines_added adding plane rates axis layer r 0 q ≡ (sums adding).none
unfolding lines_added
no_lines adding plane rates axis layer r q = total_none (sums adding) (λ j. places_added adding plane rates axis layer (first_line axis r +ℤ pos j) (first_place axis r) (extent (first_place axis r) (end_place axis r)) q)

pub no_layers : {V : Type 0} (adding : Adding V) (plane : Plane) (rates : Rates V) (axis : ℕ) (r : Rect) (q : Key) → layers_added adding plane rates axis r 0 q ≡ (sums adding).none
unfolding layers_added
no_layers adding plane rates axis r q = total_none (sums adding) (λ layer. lines_added adding plane rates axis layer r (extent (first_line axis r) (end_line axis r)) q)

-- the layers of a rectangle add what its columns add
pub layers_are_columns : {V : Type 0} (adding : Adding V) (fits sound : V → Bool) → IsAmount adding fits sound → (plane : Plane) (rates : Rates V) (axis : ℕ) (r : Rect) → AllParts sound (λ v. v) plane rates axis → (q : Key) → layers_added adding plane rates axis r 32 q ≡ columns_added (sums adding) one plane rates axis (first_line axis r) (end_line axis r) (first_place axis r) (end_place axis r) q
unfolding layers_added lines_added places_added place_added
layers_are_columns adding fits sound laws plane rates axis r each q =
    sym (columns_are_sum (sums adding) (sum_sound sound) (sums_are_amounts adding fits sound laws).additive one plane rates axis r q each)
