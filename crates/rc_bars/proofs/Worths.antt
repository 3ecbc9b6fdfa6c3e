-- What the ends of bars add to a key.
use Rattle.std.proofs.Common.{◌≡◌, ℕ, zero, suc, ℤ, pos, ◌≤ℤ◌, ◌<ℤ◌, ◌-ℤ◌, Bool, true, false, cond, List, [], ◌∷◌, ◌++◌, Option, Some, None, refl, ap, sym, subst, ◌∙◌, arith}
use Rattle.std.specs.Prelude.{is_some, int_lt, int_le, ◌&&◌}
use Rattle.std.specs.Option.{option_map_or}
use Rattle.std.specs.List.{range_with_len, flat_map, AllByRecursion as ByRecursion}
use Rattle.std.proofs.lemmas.List.{append-nil}
use Rattle.std.proofs.lemmas.List.Concat.{flat_map-append}
use Rattle.std.proofs.lemmas.List.Elements.{recursion_from_All}
use Rattle.std.proofs.lemmas.Bool.{and_parts}
use Rattle.std.proofs.lemmas.Int.{ints}
use Rattle.rc_geom.specs.declared.key.Key.{Key}
use Rattle.rc_geom.specs.Plane.{Metal, Plane}
use Rattle.rc_geom.specs.Line.{line_of, square_of}
use Rattle.rc_geom.specs.Faces.{Face}
use Rattle.rc_geom.specs.Rates.{Rates, rate_of}
use Rattle.rc_geom.specs.Parts.{Part, parts, worth_at}
use Rattle.rc_geom.specs.Sums.{Adding, IsAdditive, total}
use Rattle.rc_geom.specs.Extraction.{parts_of, face_of}
use Rattle.rc_geom.proofs.Bounds.{lt_tells, le_tells}
use Rattle.rc_geom.proofs.Totals.{range_more, total_none, total_suc}
use Rattle.rc_geom.proofs.Areas.{no_parts}
use Rattle.rc_geom.proofs.Words.{parts_are_sound}
use Rattle.rc_bars.specs.declared.bar.Bar.{Bar}
use Rattle.rc_bars.specs.Bars.{IsWholeRun}
use Rattle.rc_bars.specs.Columns.{Layers, low_face, high_face, rated, low_parts, high_parts}
use Rattle.rc_bars.specs.Laws.{IsSoundLayer}
use Rattle.rc_bars.proofs.Adds.{inside, worth_of, worth_append}
use Rattle.rc_bars.proofs.Ends.{IsBelow, IsAbove, low_face_is, high_face_is, no_low_face, no_high_face, metal_over, parts_are, no_parts_there}

-- each part has a sound worth
abbrev pub AreSound : {V W : Type 0} → (W → Bool) → (V → W) → List (Part V) → Type 0
AreSound sound worth ps = ByRecursion (λ part. sound (worth part.amount) ≡ true) ps

pub both_sound : {V W : Type 0} (sound : W → Bool) (worth : V → W) (ps rs : List (Part V)) → AreSound sound worth ps → AreSound sound worth rs → AreSound sound worth (ps ++ rs)
both_sound sound worth [] rs of_ps of_rs = of_rs
both_sound sound worth (p ∷ ps) rs of_ps of_rs = (of_ps.0, both_sound sound worth ps rs of_ps.1 of_rs)

pub chosen_sound : {V W : Type 0} (sound : W → Bool) (worth : V → W) (c : Bool) (ps : List (Part V)) → AreSound sound worth ps → AreSound sound worth (cond c ps [])
chosen_sound sound worth true ps of_ps = of_ps
chosen_sound sound worth false ps of_ps = tt

pub rated_sound : {V W : Type 0} (sound : W → Bool) (worth : V → W) (rates : Rates V) (layer : ℕ) → IsSoundLayer sound worth rates layer → (metal : Layers) (face : Face) → AreSound sound worth (rated rates layer metal face)
rated_sound {V = X} sound worth rates layer of_layer metal face =
    recursion_from_All (λ (part : Part X). sound (worth part.amount) ≡ true) (rated rates layer metal face)
    (parts_are_sound sound worth face _ (of_layer.own _ _ _ _) (of_layer.share _ _ _ _))

pub low_sound : {V W : Type 0} (sound : W → Bool) (worth : V → W) (rates : Rates V) (low high : ℤ) (metal : Layers) (below : Option Bar) (b : Bar) → IsSoundLayer sound worth rates b.layer → AreSound sound worth (low_parts rates low high metal below b)
low_sound sound worth rates low high metal below b of_layer =
    chosen_sound sound worth (int_le low b.lo && int_lt b.lo high) (rated rates b.layer metal (low_face (rates.cap b.layer) (rates.reach b.layer) below b)) (rated_sound sound worth rates b.layer of_layer metal (low_face (rates.cap b.layer) (rates.reach b.layer) below b))

pub high_sound : {V W : Type 0} (sound : W → Bool) (worth : V → W) (rates : Rates V) (low high : ℤ) (metal : Layers) (b : Bar) (above : Option Bar) → IsSoundLayer sound worth rates b.layer → AreSound sound worth (high_parts rates low high metal b above)
high_sound sound worth rates low high metal b above of_layer =
    chosen_sound sound worth (int_lt low b.hi && int_le b.hi high) (rated rates b.layer metal (high_face (rates.cap b.layer) (rates.reach b.layer) b above)) (rated_sound sound worth rates b.layer of_layer metal (high_face (rates.cap b.layer) (rates.reach b.layer) b above))

-- what the upper end of the last bar adds, if there is one
abbrev pub waiting_for : {V : Type 0} → Rates V → ℤ → ℤ → Layers → Option Bar → Option Bar → List (Part V)
waiting_for rates low high under above t = option_map_or (λ p. high_parts rates low high under p above) t []

-- ---- sums over squares

-- what a square of a layer adds in a direction
abbrev pub square_worth : {V W : Type 0} → Adding W → (V → W) → Plane → Rates V → ℕ → ℤ → Key → ℕ → Bool → ℤ → W
square_worth adding worth plane rates axis at q layer up z = worth_at adding worth q (parts_of plane rates axis layer at z up)

pub bare_worth : {V W : Type 0} (adding : Adding W) (worth : V → W) (plane : Plane) (rates : Rates V) (axis : ℕ) (at : ℤ) (q : Key) (layer : ℕ) (up : Bool) (z : ℤ) → line_of plane layer axis at z ≡ None → square_worth adding worth plane rates axis at q layer up z ≡ adding.none
bare_worth adding worth plane rates axis at q layer up z bare = ap (worth_at adding worth q) (no_parts plane rates axis layer at z up bare)

pub low_inner : {V W : Type 0} (adding : Adding W) (worth : V → W) (plane : Plane) (rates : Rates V) (axis : ℕ) (at : ℤ) (q : Key) (layer : ℕ) (b : Bar) → IsWholeRun (line_of plane layer axis at) b → (z : ℤ) → b.lo <ℤ z → z <ℤ b.hi → square_worth adding worth plane rates axis at q layer false z ≡ adding.none
low_inner adding worth plane rates axis at q layer b run z above below =
    ap (worth_at adding worth q) (no_parts_there plane rates axis layer at z false (no_low_face (rates.cap layer) (rates.reach layer) (line_of plane layer axis at) b z run above below))

pub high_inner : {V W : Type 0} (adding : Adding W) (worth : V → W) (plane : Plane) (rates : Rates V) (axis : ℕ) (at : ℤ) (q : Key) (layer : ℕ) (b : Bar) → IsWholeRun (line_of plane layer axis at) b → (z : ℤ) → b.lo ≤ℤ z → z <ℤ (b.hi -ℤ pos 1) → square_worth adding worth plane rates axis at q layer true z ≡ adding.none
high_inner adding worth plane rates axis at q layer b run z above below =
    ap (worth_at adding worth q) (no_parts_there plane rates axis layer at z true (no_high_face (rates.cap layer) (rates.reach layer) (line_of plane layer axis at) b z run above below))

face_sound : {V W : Type 0} (adding : Adding W) (sound : W → Bool) → IsAdditive adding sound → (worth : V → W) (plane : Plane) (rates : Rates V) (axis : ℕ) (at : ℤ) (q : Key) (layer : ℕ) (z : ℤ) → IsSoundLayer sound worth rates layer → (o : Option Face) → sound (worth_at adding worth q (option_map_or (λ face. parts face (rate_of rates plane layer (square_of axis at z) face)) o [])) ≡ true
face_sound adding sound laws worth plane rates axis at q layer z of_layer None = laws.neutral.start
face_sound adding sound laws worth plane rates axis at q layer z of_layer (Some face) =
    worth_of adding sound laws worth q adding.none (parts face (rate_of rates plane layer (square_of axis at z) face)) laws.neutral.start (rated_sound sound worth rates layer of_layer (metal_over plane axis at z) face)

-- squares are sound where layers with metal are
pub square_sound : {V W : Type 0} (adding : Adding W) (sound : W → Bool) → IsAdditive adding sound → (worth : V → W) (plane : Plane) (rates : Rates V) (axis : ℕ) (at : ℤ) (q : Key) (layer : ℕ) (up : Bool) (z : ℤ) → (o : Option Metal) → line_of plane layer axis at z ≡ o → (is_some (line_of plane layer axis at z) ≡ true → IsSoundLayer sound worth rates layer) → sound (square_worth adding worth plane rates axis at q layer up z) ≡ true
square_sound adding sound laws worth plane rates axis at q layer up z None is of_layer = ap sound (bare_worth adding worth plane rates axis at q layer up z is) ∙ laws.neutral.start
square_sound adding sound laws worth plane rates axis at q layer up z (Some m) is of_layer =
    face_sound adding sound laws worth plane rates axis at q layer z (of_layer (ap is_some is)) (face_of plane rates axis layer at z up)

-- ---- the ends of bars

-- what is added where a test passes
chosen : {V W : Type 0} (adding : Adding W) (worth : V → W) (q : Key) (c : Bool) (xs ys : List (Part V)) → (c ≡ true → xs ≡ ys) → cond c (worth_at adding worth q xs) adding.none ≡ worth_at adding worth q (cond c ys [])
chosen adding worth q true xs ys same = ap (worth_at adding worth q) (same refl)
chosen adding worth q false xs ys same = refl

pub low_end : {V W : Type 0} (adding : Adding W) (worth : V → W) (plane : Plane) (rates : Rates V) (axis : ℕ) (at low high : ℤ) (q : Key) (b : Bar) (below : Option Bar) (metal : Layers) → IsWholeRun (line_of plane b.layer axis at) b → IsBelow (line_of plane b.layer axis at) b below → (low ≤ℤ b.lo → b.lo <ℤ high → (k : ℕ) → metal k ≡ metal_over plane axis at b.lo k) → cond (inside low high b.lo) (square_worth adding worth plane rates axis at q b.layer false b.lo) adding.none ≡ worth_at adding worth q (low_parts rates low high metal below b)
low_end adding worth plane rates axis at low high q b below metal run is_below over =
    let face = low_face (rates.cap b.layer) (rates.reach b.layer) below b in
    chosen adding worth q (inside low high b.lo) (parts_of plane rates axis b.layer at b.lo false) (rated rates b.layer metal face)
    (λ within.
    let both = and_parts (int_le low b.lo) (int_lt b.lo high) within in
    parts_are plane rates axis b.layer at b.lo false metal face (low_face_is (rates.cap b.layer) (rates.reach b.layer) (line_of plane b.layer axis at) b below run is_below)
    (over (le_tells low b.lo both.0) (lt_tells b.lo high both.1)))

-- a square before an end lies between two rows where the end lies between them, or is the second
end_test : (low high z : ℤ) → inside low high (z -ℤ pos 1) ≡ (int_lt low z && int_le z high)
end_test low high z = grind (arith, ints)

pub high_end : {V W : Type 0} (adding : Adding W) (worth : V → W) (plane : Plane) (rates : Rates V) (axis : ℕ) (at low high : ℤ) (q : Key) (layer : ℕ) (p : Bar) (above : Option Bar) (metal : Layers) → p.layer ≡ layer → IsWholeRun (line_of plane p.layer axis at) p → IsAbove (line_of plane layer axis at) p above → (low <ℤ p.hi → p.hi ≤ℤ high → (k : ℕ) → metal k ≡ metal_over plane axis at (p.hi -ℤ pos 1) k) → cond (inside low high (p.hi -ℤ pos 1)) (square_worth adding worth plane rates axis at q layer true (p.hi -ℤ pos 1)) adding.none ≡ worth_at adding worth q (high_parts rates low high metal p above)
high_end adding worth plane rates axis at low high q layer p above metal of_layer run is_above over =
    let face = high_face (rates.cap p.layer) (rates.reach p.layer) p above in
    let here : IsAbove (line_of plane p.layer axis at) p above = subst (λ (l : ℕ). IsAbove (line_of plane l axis at) p above) (sym of_layer) is_above in
    ap (λ (l : ℕ). cond (inside low high (p.hi -ℤ pos 1)) (square_worth adding worth plane rates axis at q l true (p.hi -ℤ pos 1)) adding.none) (sym of_layer)
    ∙ (ap (λ c. cond c (square_worth adding worth plane rates axis at q p.layer true (p.hi -ℤ pos 1)) adding.none) (end_test low high p.hi)
    ∙ chosen adding worth q (int_lt low p.hi && int_le p.hi high) (parts_of plane rates axis p.layer at (p.hi -ℤ pos 1) true) (rated rates p.layer metal face)
    (λ within.
    let both = and_parts (int_lt low p.hi) (int_le p.hi high) within in
    parts_are plane rates axis p.layer at (p.hi -ℤ pos 1) true metal face (high_face_is (rates.cap p.layer) (rates.reach p.layer) (line_of plane p.layer axis at) p above run here)
    (over (lt_tells low p.hi both.0) (le_tells p.hi high both.1))))

-- ---- lists joined end to end

lists_more : {X : Type 0} (n m : ℕ) (f : ℕ → List X) → m ≡ suc n → flat_map f (range_with_len 0 m) ≡ flat_map f (range_with_len 0 n) ++ f n
lists_more n m f is =
    let more : range_with_len 0 m ≡ range_with_len 0 n ++ n ∷ [] = ap (range_with_len 0) (omega arith) ∙ range_more n in
    ap (flat_map f) more ∙ (flat_map-append f (range_with_len 0 n) (n ∷ []) ∙ ap (λ xs. flat_map f (range_with_len 0 n) ++ xs) (append-nil (f n)))

pub lists_sound : {V W : Type 0} (sound : W → Bool) (worth : V → W) (n : ℕ) (f : ℕ → List (Part V)) → ((k : ℕ) → AreSound sound worth (f k)) → AreSound sound worth (flat_map f (range_with_len 0 n))
lists_sound sound worth zero f each = tt
lists_sound {V = X} sound worth (suc n) f each =
    subst (λ (ps : List (Part X)). AreSound sound worth ps) (sym (lists_more n (suc n) f refl))
    (both_sound sound worth (flat_map f (range_with_len 0 n)) (f n) (lists_sound sound worth n f each) (each n))

pub worth_lists : {V W : Type 0} (adding : Adding W) (sound : W → Bool) → IsAdditive adding sound → (worth : V → W) (q : Key) (n : ℕ) (f : ℕ → List (Part V)) → ((k : ℕ) → AreSound sound worth (f k)) → worth_at adding worth q (flat_map f (range_with_len 0 n)) ≡ total adding n (λ k. worth_at adding worth q (f k))
worth_lists adding sound laws worth q zero f each = sym (total_none adding (λ k. worth_at adding worth q (f k)))
worth_lists adding sound laws worth q (suc n) f each =
    ap (worth_at adding worth q) (lists_more n (suc n) f refl)
    ∙ (worth_append adding sound laws worth q (flat_map f (range_with_len 0 n)) (f n) (lists_sound sound worth n f each) (each n)
    ∙ (ap (λ v. adding.plus v (worth_at adding worth q (f n))) (worth_lists adding sound laws worth q n f each)
    ∙ sym (total_suc adding n (suc n) (λ k. worth_at adding worth q (f k)) (omega arith))))
