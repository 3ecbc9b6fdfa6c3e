-- What a face adds.
use Rattle.std.proofs.Common.{◌≡◌, ℕ, ℤ, Bool, true, false, cond, ◌++◌, Option, Some, None, refl, ap, sym, ◌∙◌}
use Rattle.std.specs.Prelude.{option_map, int_le, int_lt, ◌&&◌}
use Rattle.std.specs.Option.{option_and_then}
use Rattle.std.proofs.lemmas.Bool.{cond_both, cond-true, cond-false}
use Rattle.rc_geom.specs.declared.key.Key.{Key}
use Rattle.rc_geom.specs.Plane.{Metal, Plane}
use Rattle.rc_geom.specs.Line.{square_of}
use Rattle.rc_geom.specs.Faces.{Seen}
use Rattle.rc_geom.specs.Rates.{Rates, rate_of}
use Rattle.rc_geom.specs.Parts.{same_key, worth_at, part_for, node_key, shared_key, foreign_metal, parts}
use Rattle.rc_geom.specs.Sums.{Adding, IsNeutral}
use Rattle.rc_geom.proofs.Areas.{worth_sound}
use Rattle.rc_geom.proofs.Words.{parts_are_sound}
use Rattle.rc_tally.specs.Amounts.{IsAmount}
use Rattle.rc_tally.specs.Tallies.{Sum, sums, sum_sound}
use Rattle.rc_column.specs.declared.face.Face.{Face as FoundFace}
use Rattle.rc_column.specs.Found.{face_value}
use Rattle.rc_rules.specs.Raters.{KeepsRules}
use Rattle.rc_sums.specs.Entering.{many}
use Rattle.rc_sums.specs.Worths.{face_added, face_within}
use Rattle.rc_sums.proofs.Sums.{sums_are_amounts, repeated_sound}
use Rattle.rc_sums.proofs.Enters.{part_added}

pub gap_back : (m : Metal) (o : Option ℕ) → option_map {T = Seen} (λ s. s.0) (option_map (λ d. (d, m)) o) ≡ o
gap_back m None = refl
gap_back m (Some d) = refl

-- ---- two parts

after_first : {W : Type 0} (adding : Adding W) (sound : W → Bool) → IsNeutral adding sound → (b : Bool) (x w : W) → sound x ≡ true → sound w ≡ true → cond b (adding.plus x w) x ≡ adding.plus x (cond b (adding.plus adding.none w) adding.none)
after_first adding sound laws true x w of_x of_w = ap (adding.plus x) (sym (laws.before w of_w))
after_first adding sound laws false x w of_x of_w = sym (laws.after x of_x)

pub one_sound : {V W : Type 0} (adding : Adding W) (sound : W → Bool) → IsNeutral adding sound → (worth : V → W) (q : Key) (a : V) (k : Option Key) → sound (worth a) ≡ true → sound (worth_at adding worth q (part_for a k)) ≡ true
one_sound adding sound laws worth q a None of_a = laws.start
one_sound {W = X} adding sound laws worth q a (Some k) of_a = cond_both (same_key k q) (adding.plus adding.none (worth a)) adding.none (λ (s : X). sound s ≡ true) (λ _. laws.closed adding.none (worth a) laws.start of_a) (λ _. laws.start)

pub worth_two : {V W : Type 0} (adding : Adding W) (sound : W → Bool) → IsNeutral adding sound → (worth : V → W) (q : Key) (a b : V) (k l : Option Key) → sound (worth a) ≡ true → sound (worth b) ≡ true → worth_at adding worth q (part_for a k ++ part_for b l) ≡ adding.plus (worth_at adding worth q (part_for a k)) (worth_at adding worth q (part_for b l))
worth_two adding sound laws worth q a b None l of_a of_b = sym (laws.before (worth_at adding worth q (part_for b l)) (one_sound adding sound laws worth q b l of_b))
worth_two adding sound laws worth q a b (Some k) None of_a of_b = sym (laws.after (worth_at adding worth q (part_for a (Some k))) (one_sound adding sound laws worth q a (Some k) of_a))
worth_two adding sound laws worth q a b (Some k) (Some l) of_a of_b =
    after_first adding sound laws (same_key l q) (worth_at adding worth q (part_for a (Some k))) (worth b) (one_sound adding sound laws worth q a (Some k) of_a) of_b

-- ---- a face

-- the own part of a face and its shared part
pub face_splits : {V : Type 0} (adding : Adding V) (fits sound : V → Bool) → IsAmount adding fits sound → (plane : Plane) (rates : Rates V) (axis layer : ℕ) (at : ℤ) (n : ℕ) (f : FoundFace) (ground share : V) (own seen : Option Key) →
    (ground, share) ≡ rate_of rates plane layer (square_of axis at f.lo) (face_value f) → own ≡ node_key (face_value f).own → seen ≡ option_and_then (shared_key (face_value f).own) (foreign_metal (face_value f).own (face_value f).sight) →
    sound ground ≡ true → sound share ≡ true → (q : Key) →
    face_added (sums adding) (many adding n) plane rates axis layer at f q ≡ (sums adding).plus (part_added adding n ground own q) (part_added adding n share seen q)
face_splits {V = W} adding fits sound laws plane rates axis layer at n f ground share own seen rate is_own is_seen of_ground of_share q =
    let neutral = (sums_are_amounts adding fits sound laws).additive.neutral in
    let face = face_value f in
    let own' = node_key face.own in
    let seen' = option_and_then (shared_key face.own) (foreign_metal face.own face.sight) in
    ap (λ (r : W × W). worth_at (sums adding) (many adding n) q (part_for r.0 own' ++ part_for r.1 seen')) (sym rate)
    ∙ (ap (λ (k : Option Key). worth_at (sums adding) (many adding n) q (part_for ground k ++ part_for share seen')) (sym is_own)
    ∙ (ap (λ (k : Option Key). worth_at (sums adding) (many adding n) q (part_for ground own ++ part_for share k)) (sym is_seen)
    ∙ worth_two (sums adding) (sum_sound sound) neutral (many adding n) q ground share own seen (repeated_sound adding sound laws.additive.neutral n ground of_ground) (repeated_sound adding sound laws.additive.neutral n share of_share)))

pub part_sound : {V : Type 0} (adding : Adding V) (fits sound : V → Bool) → IsAmount adding fits sound → (n : ℕ) (amount : V) (key : Option Key) → sound amount ≡ true → (q : Key) → sound (part_added adding n amount key q).value ≡ true
part_sound adding fits sound laws n amount key of_amount q =
    one_sound (sums adding) (sum_sound sound) (sums_are_amounts adding fits sound laws).additive.neutral (many adding n) q amount key (repeated_sound adding sound laws.additive.neutral n amount of_amount)

-- the amounts of a face are sound
pub ground_sound : {V : Type 0} (has_rules : ℕ → Type 0) (rates : Rates V) (adding : Adding V) (sound : V → Bool) → KeepsRules has_rules rates adding sound → (plane : Plane) (axis layer : ℕ) (at : ℤ) (f : FoundFace) (ground share : V) → has_rules layer → (ground, share) ≡ rate_of rates plane layer (square_of axis at f.lo) (face_value f) → (sound ground ≡ true) × (sound share ≡ true)
ground_sound {V = W} has_rules rates adding sound keeps plane axis layer at f ground share rules rate = (
  ap (λ (r : W × W). sound r.0) rate ∙ keeps.own layer _ _ _ _ rules,
  ap (λ (r : W × W). sound r.1) rate ∙ keeps.share layer _ _ _ _ rules,
)

-- a face of a layer with rules adds sound amounts
pub within_sound : {V : Type 0} (adding : Adding V) (fits sound : V → Bool) → IsAmount adding fits sound → (has_rules : ℕ → Type 0) (rates : Rates V) → KeepsRules has_rules rates adding sound → (plane : Plane) (axis layer : ℕ) (at low high : ℤ) (n : ℕ) → has_rules layer → (f : FoundFace) (q : Key) → sound (face_within (sums adding) (many adding n) plane rates axis layer at low high f q).value ≡ true
within_sound {V = W} adding fits sound laws has_rules rates keeps plane axis layer at low high n rules f q =
    let neutral = (sums_are_amounts adding fits sound laws).additive.neutral in
    let added = face_added (sums adding) (many adding n) plane rates axis layer at f q in
    cond_both (int_le low f.lo && int_lt f.lo high) added ((sums adding).none) (λ (s : Sum W). sound s.value ≡ true)
    (λ _. worth_sound (sums adding) (sum_sound sound) neutral (many adding n) q (parts (face_value f) (rate_of rates plane layer (square_of axis at f.lo) (face_value f)))
    (parts_are_sound (sum_sound sound) (many adding n) (face_value f) (rate_of rates plane layer (square_of axis at f.lo) (face_value f))
    (repeated_sound adding sound laws.additive.neutral n _ (keeps.own layer _ _ _ _ rules))
    (repeated_sound adding sound laws.additive.neutral n _ (keeps.share layer _ _ _ _ rules))))
    (λ _. neutral.start)

-- whether a face is entered
pub inside_worth : {V W : Type 0} (adding : Adding W) (worth : V → W) (plane : Plane) (rates : Rates V) (axis layer : ℕ) (at low high : ℤ) (f : FoundFace) (q : Key) → (int_le low f.lo && int_lt f.lo high) ≡ true → face_within adding worth plane rates axis layer at low high f q ≡ face_added adding worth plane rates axis layer at f q
inside_worth adding worth plane rates axis layer at low high f q h = cond-true (int_le low f.lo && int_lt f.lo high) (face_added adding worth plane rates axis layer at f q) adding.none h

pub outside_worth : {V W : Type 0} (adding : Adding W) (worth : V → W) (plane : Plane) (rates : Rates V) (axis layer : ℕ) (at low high : ℤ) (f : FoundFace) (q : Key) → (int_le low f.lo && int_lt f.lo high) ≡ false → face_within adding worth plane rates axis layer at low high f q ≡ adding.none
outside_worth adding worth plane rates axis layer at low high f q h = cond-false (int_le low f.lo && int_lt f.lo high) (face_added adding worth plane rates axis layer at f q) adding.none h
