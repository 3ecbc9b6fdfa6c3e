-- The nearest layers with metal.
use Rattle.std.proofs.Common.{◌≡◌, ◌≤◌, ◌<◌, ◌+◌, ◌-◌, ⊎_elim, ℕ, zero, suc, Bool, true, false, cond, Option, Some, None, refl, ap, sym, ◌∙◌, subst, arith}
use Rattle.std.specs.Prelude.{is_some, MatchOption}
use Rattle.std.specs.List.{fold, find, range_with_len}
use Rattle.std.proofs.lemmas.Bool.{true≢false, cases_order}
use Rattle.std.proofs.lemmas.List.Sums.{fold_push}
use Rattle.rc_geom.specs.Context.{layer_count, last_that, under, over}
use Rattle.rc_geom.specs.Laws.{UnderIsHighest, OverIsLowest}
use Rattle.rc_geom.proofs.Bounds.{empty_is}
use Rattle.rc_geom.proofs.Totals.{range_more}

-- the last number below n that passes, and the first one from a on
pub record IsLast (p : ℕ → Bool) (n l : ℕ) : Type 0 where
  pub below : l < n
  pub passes : p l ≡ true
  pub after : (k : ℕ) → l < k → k < n → p k ≡ false

pub record IsFirst (p : ℕ → Bool) (a n l : ℕ) : Type 0 where
  pub from : a ≤ l
  pub below : l < a + n
  pub passes : p l ≡ true
  pub before : (k : ℕ) → a ≤ k → k < l → p k ≡ false

last_step : (p : ℕ → Bool) (n : ℕ) (b : Bool) (o : Option ℕ) → p n ≡ b → MatchOption o ((k : ℕ) → k < n → p k ≡ false) (IsLast p n) → MatchOption (cond b (Some n) o) ((k : ℕ) → k < suc n → p k ≡ false) (IsLast p (suc n))
last_step p n true o is h = record { below = omega arith; passes = is; after = λ k low high. absurd (omega arith) }
last_step p n false None is h = λ k less. ⊎_elim
    (λ (e : k ≡ n). ap p e ∙ is)
    (⊎_elim (λ (small : k < n). h k small) (λ (big : n < k). absurd (omega arith)))
    (cases_order k n)
last_step p n false (Some l) is h = record {
  below = omega (arith, h.below);
  passes = h.passes;
  after = λ k low high. ⊎_elim
      (λ (e : k ≡ n). ap p e ∙ is)
      (⊎_elim (λ (small : k < n). h.after k low small) (λ (big : n < k). absurd (omega arith)))
      (cases_order k n);
}

last_tells : (p : ℕ → Bool) (n : ℕ) → MatchOption (last_that p (range_with_len 0 n)) ((k : ℕ) → k < n → p k ≡ false) (IsLast p n)
last_tells p zero = λ k less. absurd (omega arith)
last_tells p (suc n) =
    let step = λ (last : Option ℕ) (x : ℕ). cond (p x) (Some x) last in
    let one : suc n ≡ n + 1 = omega arith in
    let more : last_that p (range_with_len 0 (suc n)) ≡ cond (p n) (Some n) (last_that p (range_with_len 0 n)) = ap (λ (m : ℕ). last_that p (range_with_len 0 m)) one ∙ (ap (fold step None) (range_more n) ∙ fold_push step None (range_with_len 0 n) n) in
    subst (λ (o : Option ℕ). MatchOption o ((k : ℕ) → k < suc n → p k ≡ false) (IsLast p (suc n))) (sym more)
    (last_step p n (p n) (last_that p (range_with_len 0 n)) refl (last_tells p n))

first_step : (p : ℕ → Bool) (a n : ℕ) (b : Bool) (o : Option ℕ) → p a ≡ b → MatchOption o ((k : ℕ) → a + 1 ≤ k → k < (a + 1) + n → p k ≡ false) (IsFirst p (a + 1) n) → MatchOption (cond b (Some a) o) ((k : ℕ) → a ≤ k → k < a + suc n → p k ≡ false) (IsFirst p a (suc n))
first_step p a n true o is h = record { from = omega arith; below = omega arith; passes = is; before = λ k low high. absurd (omega arith) }
first_step p a n false None is h = λ k low high. ⊎_elim
    (λ (e : k ≡ a). ap p e ∙ is)
    (⊎_elim (λ (small : k < a). absurd (omega arith)) (λ (big : a < k). h k (omega arith) (omega arith)))
    (cases_order k a)
first_step p a n false (Some l) is h = record {
  from = omega (arith, h.from);
  below = omega (arith, h.below);
  passes = h.passes;
  before = λ k low high. ⊎_elim
      (λ (e : k ≡ a). ap p e ∙ is)
      (⊎_elim (λ (small : k < a). absurd (omega arith)) (λ (big : a < k). h.before k (omega arith) high))
      (cases_order k a);
}

first_tells : (p : ℕ → Bool) (a n : ℕ) → MatchOption (find p (range_with_len a n)) ((k : ℕ) → a ≤ k → k < a + n → p k ≡ false) (IsFirst p a n)
first_tells p a zero = λ k low high. absurd (omega arith)
first_tells p a (suc n) = first_step p a n (p a) (find p (range_with_len (a + 1) n)) refl (first_tells p (a + 1) n)

-- only one number is the last, or the first
last_one : (p : ℕ → Bool) (n l m : ℕ) → IsLast p n l → IsLast p n m → l ≡ m
last_one p n l m h k = ⊎_elim (λ e. e)
    (⊎_elim
    (λ (less : l < m). absurd (true≢false (sym k.passes ∙ h.after m less k.below)))
    (λ (more : m < l). absurd (true≢false (sym h.passes ∙ k.after l more h.below))))
    (cases_order l m)

first_one : (p : ℕ → Bool) (a n l m : ℕ) → IsFirst p a n l → IsFirst p a n m → l ≡ m
first_one p a n l m h k = ⊎_elim (λ e. e)
    (⊎_elim
    (λ (less : l < m). absurd (true≢false (sym h.passes ∙ k.before l h.from less)))
    (λ (more : m < l). absurd (true≢false (sym k.passes ∙ h.before m k.from more))))
    (cases_order l m)

last_is : (p : ℕ → Bool) (n : ℕ) (o : Option ℕ) (l : ℕ) → MatchOption o ((k : ℕ) → k < n → p k ≡ false) (IsLast p n) → IsLast p n l → o ≡ Some l
last_is p n None l h last = absurd (true≢false (sym last.passes ∙ h l last.below))
last_is p n (Some m) l h last = ap Some (last_one p n m l h last)

first_is : (p : ℕ → Bool) (a n : ℕ) (o : Option ℕ) (l : ℕ) → MatchOption o ((k : ℕ) → a ≤ k → k < a + n → p k ≡ false) (IsFirst p a n) → IsFirst p a n l → o ≡ Some l
first_is p a n None l h first = absurd (true≢false (sym first.passes ∙ h l first.from first.below))
first_is p a n (Some m) l h first = ap Some (first_one p a n m l h first)

-- ---- layers

pub under_is_highest : UnderIsHighest
under_is_highest plane layer p l =
    let has : ℕ → Bool = λ k. is_some (plane k p) in
    let tells = last_tells has layer in
    let Told : Option ℕ → Type 0 = λ o. MatchOption o ((k : ℕ) → k < layer → has k ≡ false) (IsLast has layer) in (
      λ e.
          let last = subst Told e tells in
          record { below = last.below; metal = last.passes; nearest = λ k low high. empty_is (plane k p) (last.after k low high) },
      λ h. last_is has layer (under plane layer p) l tells (record { below = h.below; passes = h.metal; after = λ k low high. ap is_some (h.nearest k low high) }),
    )

pub over_is_lowest : OverIsLowest
over_is_lowest plane layer p l =
    let has : ℕ → Bool = λ k. is_some (plane k p) in
    let n = layer_count - (layer + 1) in
    let tells = first_tells has (layer + 1) n in
    let Told : Option ℕ → Type 0 = λ o. MatchOption o ((k : ℕ) → layer + 1 ≤ k → k < (layer + 1) + n → has k ≡ false) (IsFirst has (layer + 1) n) in (
      λ e.
          let first = subst Told e tells in
          record { above = omega (arith, first.from); within = omega (arith, first.from, first.below); metal = first.passes; nearest = λ k low high. empty_is (plane k p) (first.before k (omega arith) high) },
      λ h. first_is has (layer + 1) n (over plane layer p) l tells (record { from = omega (arith, h.above); below = omega (arith, h.above, h.within); passes = h.metal; before = λ k low high. ap is_some (h.nearest k (omega arith) high) }),
    )
