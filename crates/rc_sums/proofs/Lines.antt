-- What the faces of a line add, as a list and as a sum over places.
use Rattle.std.proofs.Common.{◌≡◌, ◌⊎◌, inl, inr, ℕ, zero, suc, ℤ, pos, ◌≤ℤ◌, ◌<ℤ◌, ◌+ℤ◌, ◌+◌, Bool, true, false, cond, List, [], ◌∷◌, ◌++◌, Option, Some, None, refl, ap, sym, ◌∙◌, arith}
use Rattle.std.specs.Prelude.{option_map, fold, int_le, int_lt, ◌&&◌}
use Rattle.std.specs.Option.{option_to_list, option_map_or}
use Rattle.std.specs.List.{range_with_len, flat_map}
use Rattle.std.proofs.lemmas.List.{append-nil}
use Rattle.std.proofs.lemmas.List.Concat.{flat_map-append}
use Rattle.std.proofs.lemmas.List.Sums.{fold_push, fold-append}
use Rattle.std.proofs.lemmas.Bool.{cond_both, cond-true, cond-false, and_from}
use Rattle.std.proofs.lemmas.Int.{ints}
use Rattle.rc_geom.specs.declared.key.Key.{Key}
use Rattle.rc_geom.specs.Plane.{Plane}
use Rattle.rc_geom.specs.Line.{line_of, square_of}
use Rattle.rc_geom.specs.Faces.{Face, Seen, face_at}
use Rattle.rc_geom.specs.Rates.{Rates, rate_of}
use Rattle.rc_geom.specs.Parts.{worth_at, parts}
use Rattle.rc_geom.specs.Sums.{Adding, IsNeutral, IsAdditive, total, both_directions, extent}
use Rattle.rc_geom.specs.Extraction.{parts_of}
use Rattle.rc_geom.proofs.Bounds.{le_passes, lt_passes, lt_fails}
use Rattle.rc_geom.proofs.Totals.{range_more, total_none, total_suc, total_same, total_between_same, total_within}
use Rattle.rc_geom.proofs.Areas.{two_nothings}
use Rattle.rc_column.specs.declared.face.Face.{Face as FoundFace}
use Rattle.rc_column.specs.Found.{face_value, found, place_faces, faces_between}
use Rattle.rc_sums.specs.Worths.{face_within, faces_within, line_added}

le_fails : (a b : ℤ) → b <ℤ a → int_le a b ≡ false
le_fails a b h = grind (arith, ints)

and_last : (a b : Bool) → b ≡ false → (a && b) ≡ false
and_last true b h = h
and_last false b h = refl

-- ---- sums over lists

abbrev pub added_up : {X W : Type 0} → Adding W → (X → W) → List X → W
added_up adding f xs = fold (λ sum x. adding.plus sum (f x)) adding.none xs

sound_from : {X W : Type 0} (adding : Adding W) (sound : W → Bool) → IsNeutral adding sound → (f : X → W) → ((x : X) → sound (f x) ≡ true) → (s : W) (xs : List X) → sound s ≡ true → sound (fold (λ sum x. adding.plus sum (f x)) s xs) ≡ true
sound_from adding sound laws f of_f s [] of_s = of_s
sound_from adding sound laws f of_f s (x ∷ xs) of_s = sound_from adding sound laws f of_f (adding.plus s (f x)) xs (laws.closed s (f x) of_s (of_f x))

pub added_sound : {X W : Type 0} (adding : Adding W) (sound : W → Bool) → IsNeutral adding sound → (f : X → W) → ((x : X) → sound (f x) ≡ true) → (xs : List X) → sound (added_up adding f xs) ≡ true
added_sound adding sound laws f of_f xs = sound_from adding sound laws f of_f adding.none xs laws.start

added_from : {X W : Type 0} (adding : Adding W) (sound : W → Bool) → IsAdditive adding sound → (f : X → W) → ((x : X) → sound (f x) ≡ true) → (s : W) (xs : List X) → sound s ≡ true → fold (λ sum x. adding.plus sum (f x)) s xs ≡ adding.plus s (added_up adding f xs)
added_from adding sound laws f of_f s [] of_s = sym (laws.neutral.after s of_s)
added_from adding sound laws f of_f s (x ∷ xs) of_s =
    added_from adding sound laws f of_f (adding.plus s (f x)) xs (laws.neutral.closed s (f x) of_s (of_f x))
    ∙ (laws.regroup s (f x) (added_up adding f xs) of_s (of_f x) (added_sound adding sound laws.neutral f of_f xs)
    ∙ ap (adding.plus s) (sym (added_from adding sound laws f of_f (adding.plus adding.none (f x)) xs (laws.neutral.closed adding.none (f x) laws.neutral.start (of_f x)) ∙ ap (λ v. adding.plus v (added_up adding f xs)) (laws.neutral.before (f x) (of_f x)))))

pub added_append : {X W : Type 0} (adding : Adding W) (sound : W → Bool) → IsAdditive adding sound → (f : X → W) → ((x : X) → sound (f x) ≡ true) → (xs ys : List X) → added_up adding f (xs ++ ys) ≡ adding.plus (added_up adding f xs) (added_up adding f ys)
added_append adding sound laws f of_f xs ys =
    fold-append (λ sum x. adding.plus sum (f x)) adding.none xs ys
    ∙ added_from adding sound laws f of_f (added_up adding f xs) ys (added_sound adding sound laws.neutral f of_f xs)

pub added_push : {X W : Type 0} (adding : Adding W) (f : X → W) (xs : List X) (x : X) → added_up adding f (xs ++ x ∷ []) ≡ adding.plus (added_up adding f xs) (f x)
added_push adding f xs x = fold_push (λ sum y. adding.plus sum (f y)) adding.none xs x

pub added_one : {X W : Type 0} (adding : Adding W) (sound : W → Bool) → IsNeutral adding sound → (f : X → W) → ((x : X) → sound (f x) ≡ true) → (x : X) → added_up adding f (x ∷ []) ≡ f x
added_one adding sound laws f of_f x = laws.before (f x) (of_f x)

-- the sum of lists that are joined is that of their sums
added_lists : {X W : Type 0} (adding : Adding W) (sound : W → Bool) → IsAdditive adding sound → (f : X → W) → ((x : X) → sound (f x) ≡ true) → (n : ℕ) (h : ℕ → List X) → added_up adding f (flat_map h (range_with_len 0 n)) ≡ total adding n (λ k. added_up adding f (h k))
added_lists adding sound laws f of_f zero h = sym (total_none adding (λ k. added_up adding f (h k)))
added_lists adding sound laws f of_f (suc n) h =
    let one : suc n ≡ n + 1 = omega arith in
    let more : flat_map h (range_with_len 0 (suc n)) ≡ flat_map h (range_with_len 0 n) ++ h n =
    ap (λ (k : ℕ). flat_map h (range_with_len 0 k)) one ∙ (ap (flat_map h) (range_more n) ∙ (flat_map-append h (range_with_len 0 n) (n ∷ []) ∙ ap (λ xs. flat_map h (range_with_len 0 n) ++ xs) (append-nil (h n)))) in
    ap (added_up adding f) more
    ∙ (added_append adding sound laws f of_f (flat_map h (range_with_len 0 n)) (h n)
    ∙ (ap (λ v. adding.plus v (added_up adding f (h n))) (added_lists adding sound laws f of_f n h)
    ∙ sym (total_suc adding n (suc n) (λ k. added_up adding f (h k)) (omega arith))))

-- ---- one place

-- an optional element's worth
abbrev worth_or : {X W : Type 0} → Adding W → (X → W) → Option X → W
worth_or adding f o = option_map_or f o adding.none

added_option : {X W : Type 0} (adding : Adding W) (sound : W → Bool) → IsNeutral adding sound → (f : X → W) → ((x : X) → sound (f x) ≡ true) → (o : Option X) → added_up adding f (option_to_list o) ≡ worth_or adding f o
added_option adding sound laws f of_f None = refl
added_option adding sound laws f of_f (Some x) = laws.before (f x) (of_f x)

sight_back : (s : Option Seen) → option_map (λ d. (d, (option_map_or {T = Seen} (λ seen. seen.1.0) s 0, option_map_or {T = Seen} (λ seen. seen.1.1) s 0))) (option_map {T = Seen} (λ seen. seen.0) s) ≡ s
sight_back None = refl
sight_back (Some seen) = refl

-- the face that a value of the code describes is the one that it tells
value_of_found : (z : ℤ) (up : Bool) (face : Face) → face_value (found z up face) ≡ face
value_of_found z up face = λ i. record { own = face.own; thick = face.thick; sight = sight_back face.sight i }

-- what the square adds in a direction, where it lies between the two places
abbrev pub place_worth : {V W : Type 0} → Adding W → (V → W) → Plane → Rates V → ℕ → ℕ → ℤ → ℤ → ℤ → Key → ℤ → Bool → W
place_worth adding worth plane rates axis layer at low high q z up =
    cond (int_le low z && int_lt z high) (worth_at adding worth q (parts_of plane rates axis layer at z up)) adding.none

same_cond : {W : Type 0} (b : Bool) (x : W) → cond b x x ≡ x
same_cond true x = refl
same_cond false x = refl

found_worth : {V W : Type 0} (adding : Adding W) (worth : V → W) (plane : Plane) (rates : Rates V) (axis layer : ℕ) (at low high z : ℤ) (up : Bool) (q : Key) (o : Option Face) → worth_or adding (λ f. face_within adding worth plane rates axis layer at low high f q) (option_map (found z up) o) ≡ cond (int_le low z && int_lt z high) (worth_at adding worth q (option_map_or (λ face. parts face (rate_of rates plane layer (square_of axis at z) face)) o [])) adding.none
found_worth adding worth plane rates axis layer at low high z up q None = sym (same_cond (int_le low z && int_lt z high) adding.none)
found_worth adding worth plane rates axis layer at low high z up q (Some face) =
    ap (λ (f : Face). cond (int_le low z && int_lt z high) (worth_at adding worth q (parts f (rate_of rates plane layer (square_of axis at z) f))) adding.none) (value_of_found z up face)

place_added : {V W : Type 0} (adding : Adding W) (sound : W → Bool) → IsAdditive adding sound → (worth : V → W) (plane : Plane) (rates : Rates V) (axis layer : ℕ) (at low high : ℤ) (q : Key) → ((f : FoundFace) → sound (face_within adding worth plane rates axis layer at low high f q) ≡ true) → (z : ℤ) → added_up adding (λ f. face_within adding worth plane rates axis layer at low high f q) (place_faces (rates.cap layer) (rates.reach layer) (line_of plane layer axis at) z) ≡ both_directions adding (place_worth adding worth plane rates axis layer at low high q z)
place_added adding sound laws worth plane rates axis layer at low high q of_f z =
    let f = λ (face : FoundFace). face_within adding worth plane rates axis layer at low high face q in
    let line = line_of plane layer axis at in
    let faces = λ (up : Bool). option_map (found z up) (face_at (rates.cap layer) (rates.reach layer) line up z) in
    let here = λ (up : Bool). added_option adding sound laws.neutral f of_f (faces up) ∙ found_worth adding worth plane rates axis layer at low high z up q (face_at (rates.cap layer) (rates.reach layer) line up z) in
    added_append adding sound laws f of_f (option_to_list (faces false)) (option_to_list (faces true))
    ∙ (ap (λ v. adding.plus v (added_up adding f (option_to_list (faces true)))) (here false)
    ∙ ap (adding.plus (place_worth adding worth plane rates axis layer at low high q z false)) (here true))

-- ---- a line

outside : (low high z : ℤ) → (z <ℤ low) ⊎ (high ≤ℤ z) → (int_le low z && int_lt z high) ≡ false
outside low high z (inl below) = ap (λ b. b && int_lt z high) (le_fails low z below)
outside low high z (inr above) = and_last (int_le low z) (int_lt z high) (lt_fails z high above)

pub faces_are_line : {V W : Type 0} (adding : Adding W) (sound : W → Bool) → IsAdditive adding sound → (worth : V → W) (plane : Plane) (rates : Rates V) (axis layer : ℕ) (at low high lo hi : ℤ) (q : Key) → ((f : FoundFace) → sound (face_within adding worth plane rates axis layer at low high f q) ≡ true) → ((z : ℤ) (up : Bool) → sound (worth_at adding worth q (parts_of plane rates axis layer at z up)) ≡ true) → lo ≤ℤ low → high ≤ℤ hi → faces_within adding worth plane rates axis layer at low high (faces_between (rates.cap layer) (rates.reach layer) (line_of plane layer axis at) lo hi) q ≡ line_added adding worth plane rates axis layer at low high q
unfolding faces_between line_added
faces_are_line {W = X} adding sound laws worth plane rates axis layer at low high lo hi q of_f of_p low_is high_is =
    let f = λ (face : FoundFace). face_within adding worth plane rates axis layer at low high face q in
    let g = place_worth adding worth plane rates axis layer at low high q in
    let plain = λ (z : ℤ) (up : Bool). worth_at adding worth q (parts_of plane rates axis layer at z up) in
    let of_g : (z : ℤ) (up : Bool) → sound (g z up) ≡ true = λ z up. cond_both (int_le low z && int_lt z high) (plain z up) adding.none (λ (s : X). sound s ≡ true) (λ _. of_p z up) (λ _. laws.neutral.start) in
    added_lists adding sound laws f of_f (extent lo hi) (λ k. place_faces (rates.cap layer) (rates.reach layer) (line_of plane layer axis at) (lo +ℤ pos k))
    ∙ (total_same adding (extent lo hi) (λ k. added_up adding f (place_faces (rates.cap layer) (rates.reach layer) (line_of plane layer axis at) (lo +ℤ pos k))) (λ k. both_directions adding (g (lo +ℤ pos k))) (λ k _. place_added adding sound laws worth plane rates axis layer at low high q of_f (lo +ℤ pos k))
    ∙ (total_within adding sound laws.neutral lo low high hi (λ z. both_directions adding (g z)) (λ z. laws.neutral.closed (g z false) (g z true) (of_g z false) (of_g z true)) low_is high_is
    (λ z _ _ out. two_nothings adding sound laws.neutral (g z) (λ up. cond-false (int_le low z && int_lt z high) (plain z up) adding.none (outside low high z out)))
    ∙ total_between_same adding low high (λ z. both_directions adding (g z)) (λ z. both_directions adding (plain z))
    (λ z above below. ap (both_directions adding) (λ i up. cond-true (int_le low z && int_lt z high) (plain z up) adding.none (and_from (int_le low z) (int_lt z high) (le_passes low z above) (lt_passes z high below)) i))))
