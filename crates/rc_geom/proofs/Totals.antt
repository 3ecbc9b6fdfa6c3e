-- Totals over numbers that are counted up.
use Rattle.std.proofs.Common.{◌≡◌, ◌≤◌, ◌<◌, ◌+◌, ◌⊎◌, inl, inr, ℕ, zero, suc, ℤ, pos, negsuc, ◌+ℤ◌, ◌-ℤ◌, ◌≤ℤ◌, ◌<ℤ◌, Bool, true, [], ◌∷◌, ◌++◌, refl, ap, sym, ◌∙◌, arith, map-id}
use Rattle.std.specs.List.{fold, range_with_len}
use Rattle.std.proofs.lemmas.List.FromFn.{map-range_with_len_more}
use Rattle.std.proofs.lemmas.List.Sums.{fold_push}
use Rattle.std.proofs.lemmas.Int.{ints, by_lt_z}
use Rattle.rc_geom.specs.Sums.{Adding, IsNeutral, total, natural, extent, total_between}

-- one number more, counted up
pub range_more : (n : ℕ) → range_with_len 0 (n + 1) ≡ range_with_len 0 n ++ n ∷ []
range_more n = sym (map-id (range_with_len 0 (n + 1))) ∙ (map-range_with_len_more (λ k. k) 0 n n (omega arith) ∙ ap (λ xs. xs ++ n ∷ []) (map-id (range_with_len 0 n)))

pub total_none : {V : Type 0} (adding : Adding V) (f : ℕ → V) → total adding 0 f ≡ adding.none
unfolding total
total_none adding f = refl

pub total_more : {V : Type 0} (adding : Adding V) (n : ℕ) (f : ℕ → V) → total adding (n + 1) f ≡ adding.plus (total adding n f) (f n)
unfolding total
total_more adding n f =
    ap (fold (λ sum k. adding.plus sum (f k)) adding.none) (range_more n) ∙ fold_push (λ sum k. adding.plus sum (f k)) adding.none (range_with_len 0 n) n

pub ruleset total_steps = (total_none, total_more)

-- the step as an induction meets it
pub total_suc : {V : Type 0} (adding : Adding V) (n m : ℕ) (f : ℕ → V) → m ≡ n + 1 → total adding m f ≡ adding.plus (total adding n f) (f n)
total_suc adding n m f h = ap (λ (k : ℕ). total adding k f) h ∙ total_more adding n f

pub total_same : {V : Type 0} (adding : Adding V) (n : ℕ) (f g : ℕ → V) → ((k : ℕ) → k < n → f k ≡ g k) → total adding n f ≡ total adding n g
total_same adding zero f g same = total_none adding f ∙ sym (total_none adding g)
total_same adding (suc n) f g same =
    let before = total_same adding n f g (λ k less. same k (omega arith)) in
    total_suc adding n (suc n) f (omega arith)
    ∙ (ap (λ v. adding.plus v (f n)) before
    ∙ (ap (adding.plus (total adding n g)) (same n (omega arith))
    ∙ sym (total_suc adding n (suc n) g (omega arith))))

-- sound terms have a sound total
pub total_sound : {V : Type 0} (adding : Adding V) (sound : V → Bool) → IsNeutral adding sound → (n : ℕ) (f : ℕ → V) → ((k : ℕ) → sound (f k) ≡ true) → sound (total adding n f) ≡ true
total_sound adding sound laws zero f each = ap sound (total_none adding f) ∙ laws.start
total_sound adding sound laws (suc n) f each =
    ap sound (total_suc adding n (suc n) f (omega arith)) ∙ laws.closed (total adding n f) (f n) (total_sound adding sound laws n f each) (each n)

-- terms that are nothing
pub total_nothing : {V : Type 0} (adding : Adding V) (sound : V → Bool) → IsNeutral adding sound → (n : ℕ) (f : ℕ → V) → ((k : ℕ) → k < n → f k ≡ adding.none) → total adding n f ≡ adding.none
total_nothing adding sound laws zero f nothing = total_none adding f
total_nothing adding sound laws (suc n) f nothing =
    let before = total_nothing adding sound laws n f (λ k less. nothing k (omega arith)) in
    total_suc adding n (suc n) f (omega arith)
    ∙ (ap (λ v. adding.plus v (f n)) before
    ∙ (ap (adding.plus adding.none) (nothing n (omega arith)) ∙ laws.before adding.none laws.start))

-- nothing in front, and nothing at the end
total_lead : {V : Type 0} (adding : Adding V) (sound : V → Bool) → IsNeutral adding sound → (a n : ℕ) (f : ℕ → V) → ((k : ℕ) → k < a → f k ≡ adding.none) → total adding (a + n) f ≡ total adding n (λ k. f (a + k))
total_lead adding sound laws a zero f nothing =
    let e : a + 0 ≡ a = omega arith in
    ap (λ (k : ℕ). total adding k f) e ∙ (total_nothing adding sound laws a f nothing ∙ sym (total_none adding (λ k. f (a + k))))
total_lead adding sound laws a (suc n) f nothing =
    total_suc adding (a + n) (a + suc n) f (omega arith)
    ∙ (ap (λ v. adding.plus v (f (a + n))) (total_lead adding sound laws a n f nothing)
    ∙ sym (total_suc adding n (suc n) (λ k. f (a + k)) (omega arith)))

total_trail : {V : Type 0} (adding : Adding V) (sound : V → Bool) → IsNeutral adding sound → (n b : ℕ) (f : ℕ → V) → ((k : ℕ) → sound (f k) ≡ true) → ((k : ℕ) → n ≤ k → k < n + b → f k ≡ adding.none) → total adding (n + b) f ≡ total adding n f
total_trail adding sound laws n zero f each nothing = let e : n + 0 ≡ n = omega arith in ap (λ (k : ℕ). total adding k f) e
total_trail adding sound laws n (suc b) f each nothing =
    total_suc adding (n + b) (n + suc b) f (omega arith)
    ∙ (ap (adding.plus (total adding (n + b) f)) (nothing (n + b) (omega arith) (omega arith))
    ∙ (laws.after (total adding (n + b) f) (total_sound adding sound laws (n + b) f each)
    ∙ total_trail adding sound laws n b f each (λ k low high. nothing k low (omega arith))))

-- ---- between two whole numbers

pub natural_is : (z : ℤ) → pos 0 ≤ℤ z → pos (natural z) ≡ z
natural_is (pos n) h = refl
natural_is (negsuc n) h = omega (arith, ints)

natural_none : (z : ℤ) → z ≤ℤ pos 0 → natural z ≡ 0
natural_none (pos n) h = omega (arith, ints)
natural_none (negsuc n) h = refl

pub extent_is : (lo hi : ℤ) → lo ≤ℤ hi → pos (extent lo hi) ≡ hi -ℤ lo
extent_is lo hi h = natural_is (hi -ℤ lo) (omega (arith, ints))

pub extent_none : (lo hi : ℤ) → hi ≤ℤ lo → extent lo hi ≡ 0
extent_none lo hi h = natural_none (hi -ℤ lo) (omega (arith, ints))

-- a number that is counted up to lies between
pub counted : (lo hi : ℤ) (k : ℕ) → k < extent lo hi → (lo +ℤ pos k) <ℤ hi
counted lo hi k less = by_lt_z lo hi
    (λ order. let e = extent_is lo hi (omega (arith, ints)) in omega (arith, ints, e))
    (λ order. let e = extent_none lo hi order in absurd (omega (arith, e)))

pub total_between_none : {V : Type 0} (adding : Adding V) (lo hi : ℤ) (f : ℤ → V) → hi ≤ℤ lo → total_between adding lo hi f ≡ adding.none
total_between_none adding lo hi f h = ap (λ (n : ℕ). total adding n (λ k. f (lo +ℤ pos k))) (extent_none lo hi h) ∙ total_none adding (λ k. f (lo +ℤ pos k))

pub total_between_sound : {V : Type 0} (adding : Adding V) (sound : V → Bool) → IsNeutral adding sound → (lo hi : ℤ) (f : ℤ → V) → ((z : ℤ) → sound (f z) ≡ true) → sound (total_between adding lo hi f) ≡ true
total_between_sound adding sound laws lo hi f each = total_sound adding sound laws (extent lo hi) (λ k. f (lo +ℤ pos k)) (λ k. each (lo +ℤ pos k))

pub total_between_nothing : {V : Type 0} (adding : Adding V) (sound : V → Bool) → IsNeutral adding sound → (lo hi : ℤ) (f : ℤ → V) → ((z : ℤ) → lo ≤ℤ z → z <ℤ hi → f z ≡ adding.none) → total_between adding lo hi f ≡ adding.none
total_between_nothing adding sound laws lo hi f nothing =
    total_nothing adding sound laws (extent lo hi) (λ k. f (lo +ℤ pos k)) (λ k less. nothing (lo +ℤ pos k) (omega (arith, ints)) (counted lo hi k less))

pub total_between_same : {V : Type 0} (adding : Adding V) (lo hi : ℤ) (f g : ℤ → V) → ((z : ℤ) → lo ≤ℤ z → z <ℤ hi → f z ≡ g z) → total_between adding lo hi f ≡ total_between adding lo hi g
total_between_same adding lo hi f g same =
    total_same adding (extent lo hi) (λ k. f (lo +ℤ pos k)) (λ k. g (lo +ℤ pos k)) (λ k less. same (lo +ℤ pos k) (omega (arith, ints)) (counted lo hi k less))

-- only the numbers from lo to below hi count, where the others add nothing
within_order : {V : Type 0} (adding : Adding V) (sound : V → Bool) → IsNeutral adding sound → (low lo hi high : ℤ) (f : ℤ → V) → ((z : ℤ) → sound (f z) ≡ true) → low ≤ℤ lo → lo ≤ℤ hi → hi ≤ℤ high → ((z : ℤ) → low ≤ℤ z → z <ℤ high → (z <ℤ lo) ⊎ (hi ≤ℤ z) → f z ≡ adding.none) → total_between adding low high f ≡ total_between adding lo hi f
within_order {V = W} adding sound laws low lo hi high f each left order right nothing =
    let a = extent low lo in
    let n = extent lo hi in
    let b = extent hi high in
    let is_a : pos a ≡ lo -ℤ low = extent_is low lo left in
    let is_n : pos n ≡ hi -ℤ lo = extent_is lo hi order in
    let is_b : pos b ≡ high -ℤ hi = extent_is hi high right in
    let whole : pos (extent low high) ≡ high -ℤ low = extent_is low high (omega (arith, ints)) in
    let all : extent low high ≡ (a + n) + b = omega (arith, ints, is_a, is_n, is_b, whole) in
    let g : ℕ → W = λ k. f (low +ℤ pos k) in
    ap (λ (m : ℕ). total adding m g) all
    ∙ (total_trail adding sound laws (a + n) b g (λ k. each (low +ℤ pos k)) (λ k past less. nothing (low +ℤ pos k) (omega (arith, ints)) (omega (arith, ints, is_a, is_n, is_b)) (inr (omega (arith, ints, is_a, is_n))))
    ∙ (total_lead adding sound laws a n g (λ k less. nothing (low +ℤ pos k) (omega (arith, ints)) (omega (arith, ints, is_a)) (inl (omega (arith, ints, is_a))))
    ∙ total_same adding n (λ k. f (low +ℤ pos (a + k))) (λ k. f (lo +ℤ pos k)) (λ k less. ap f (omega (arith, ints, is_a)))))

pub total_within : {V : Type 0} (adding : Adding V) (sound : V → Bool) → IsNeutral adding sound → (low lo hi high : ℤ) (f : ℤ → V) → ((z : ℤ) → sound (f z) ≡ true) → low ≤ℤ lo → hi ≤ℤ high → ((z : ℤ) → low ≤ℤ z → z <ℤ high → (z <ℤ lo) ⊎ (hi ≤ℤ z) → f z ≡ adding.none) → total_between adding low high f ≡ total_between adding lo hi f
total_within adding sound laws low lo hi high f each left right nothing = by_lt_z lo hi
    (λ order. within_order adding sound laws low lo hi high f each left (omega (arith, ints)) right nothing)
    (λ order.
    total_between_nothing adding sound laws low high f (λ z above below. by_lt_z z lo (λ less. nothing z above below (inl less)) (λ more. nothing z above below (inr (omega (arith, ints)))))
    ∙ sym (total_between_none adding lo hi f order))
