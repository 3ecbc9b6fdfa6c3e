-- What is entered into the sums of many keys.
use Rattle.std.proofs.Common.{◌≡◌, ◌≤◌, ◌<◌, ◌+◌, ◌^◌, ℕ, Bool, true, false, cond, Option, Some, Result, Ok, Err, ⊎_elim, ap, sym, ◌∙◌, subst, arith}
use Rattle.std.specs.Prelude.{unwrap_or, IfSome, OnOk}
use Rattle.std.specs.BTreeMap.{BTreeMap, get, Updates, is_at}
use Rattle.std.proofs.lemmas.Bool.{cases_Bool}
use Rattle.rc_geom.specs.declared.key.Key.{Key}
use Rattle.rc_geom.specs.Parts.{Part, same_key}
use Rattle.rc_geom.proofs.KeyTests.{one_key}
use Rattle.rc_squares.specs.declared.sums.Sum.{Sum}
use Rattle.rc_squares.specs.declared.tally.Tally.{Tally}
use Rattle.rc_squares.specs.Worths.{one, amount, part_worth}
use Rattle.rc_squares.specs.Tallies.{KeyOrder, sum_at, IsTally, Enters}

-- the order finds the keys that are one
abbrev pub TellsKeys : KeyOrder → Type 0
TellsKeys order = (a b : Key) → is_at (order a) b ≡ same_key a b

-- ---- one part

abbrev sum_of : Option Sum → Sum
sum_of o = unwrap_or o (record { count = 0; value = 0 })

-- the sum of a key has grown, where the key is the part's
record GrowsAt (order : KeyOrder) (before after : BTreeMap Key Sum) (part : Part ℕ) (q : Key) : Type 0 where
  count : (sum_at order after q).count ≡ (sum_at order before q).count + cond (same_key part.key q) 1 0
  value : (sum_at order after q).value ≡ (sum_at order before q).value + cond (same_key part.key q) part.amount 0
  some : IfSome (get order before q) (λ sum. 1 ≤ sum.count) → IfSome (get order after q) (λ sum. 1 ≤ sum.count)

grows_own : (order : KeyOrder) (before after : BTreeMap Key Sum) (part : Part ℕ) (more : Sum) (q : Key) → get order after q ≡ cond (same_key part.key q) (Some more) (get order before q) → more.count ≡ (sum_at order before part.key).count + 1 → more.value ≡ (sum_at order before part.key).value + part.amount → same_key part.key q ≡ true → GrowsAt order before after part q
grows_own order before after part more q found counts adds same =
    let key : part.key ≡ q = one_key part.key q same in
    let there : get order after q ≡ Some more = found ∙ ap (λ b. cond b (Some more) (get order before q)) same in
    let P : Option Sum → Type 0 = λ o. IfSome o (λ sum. 1 ≤ sum.count) in
    let least : 1 ≤ more.count = omega (arith, counts) in
    record {
      count = ap (λ (o : Option Sum). (sum_of o).count) there ∙ (counts ∙ (ap (λ (k : Key). (sum_at order before k).count + 1) key ∙ ap (λ b. (sum_at order before q).count + cond b 1 0) (sym same)));
      value = ap (λ (o : Option Sum). (sum_of o).value) there ∙ (adds ∙ (ap (λ (k : Key). (sum_at order before k).value + part.amount) key ∙ ap (λ b. (sum_at order before q).value + cond b part.amount 0) (sym same)));
      some = λ _. subst P (sym there) least;
    }

grows_other : (order : KeyOrder) (before after : BTreeMap Key Sum) (part : Part ℕ) (more : Sum) (q : Key) → get order after q ≡ cond (same_key part.key q) (Some more) (get order before q) → same_key part.key q ≡ false → GrowsAt order before after part q
grows_other order before after part more q found same =
    let there : get order after q ≡ get order before q = found ∙ ap (λ b. cond b (Some more) (get order before q)) same in
    let P : Option Sum → Type 0 = λ o. IfSome o (λ sum. 1 ≤ sum.count) in
    let plain : (n : ℕ) → n ≡ n + 0 = λ n. omega arith in
    record {
      count = ap (λ (o : Option Sum). (sum_of o).count) there ∙ (plain (sum_at order before q).count ∙ ap (λ b. (sum_at order before q).count + cond b 1 0) (sym same));
      value = ap (λ (o : Option Sum). (sum_of o).value) there ∙ (plain (sum_at order before q).value ∙ ap (λ b. (sum_at order before q).value + cond b part.amount 0) (sym same));
      some = λ h. subst P (sym there) h;
    }

grows_at : (order : KeyOrder) (before after : BTreeMap Key Sum) (part : Part ℕ) (more : Sum) (q : Key) → get order after q ≡ cond (same_key part.key q) (Some more) (get order before q) → more.count ≡ (sum_at order before part.key).count + 1 → more.value ≡ (sum_at order before part.key).value + part.amount → GrowsAt order before after part q
grows_at order before after part more q found counts adds =
    ⊎_elim (grows_own order before after part more q found counts adds) (grows_other order before after part more q found) (cases_Bool (same_key part.key q))

at_most : (b : Bool) (v : ℕ) → cond b v 0 ≤ v
at_most true v = omega arith
at_most false v = omega arith

pub enters_part : (order : KeyOrder) (before after : Tally) (part : Part ℕ) (more : Sum) → TellsKeys order → IsTally order before → Updates order before.sums after.sums part.key (Some more) → more.count ≡ (sum_at order before.sums part.key).count + 1 → more.value ≡ (sum_at order before.sums part.key).value + part.amount → part.amount < 2 ^ 57 → after.parts ≡ before.parts + 1 → Enters order before after (λ worth key. part_worth worth key (Some part)) 1
enters_part order before after part more tells tally updates counts adds small parts =
    let at = λ (q : Key). grows_at order before.sums after.sums part more q (updates.0 q ∙ ap (λ b. cond b (Some more) (get order before.sums q)) (tells part.key q)) counts adds in
    record {
      count = λ q. (at q).count;
      value = λ q. (at q).value;
      tally = record {
        few = λ q. omega (arith, (at q).count, at_most (same_key part.key q) 1, tally.few q, parts);
        small = λ q. omega (arith, (at q).value, at_most (same_key part.key q) part.amount, tally.small q, parts, small);
        some = λ q. (at q).some (tally.some q);
      };
      parts = omega (arith, parts);
    }

-- ---- one after the other

pub enters_none : (order : KeyOrder) (t : Tally) (added : (ℕ → ℕ) → Key → ℕ) (most : ℕ) → IsTally order t → ((worth : ℕ → ℕ) (q : Key) → added worth q ≡ 0) → Enters order t t added most
enters_none order t added most tally nothing =
    record {
      count = λ q. omega (arith, nothing one q);
      value = λ q. omega (arith, nothing amount q);
      tally = tally;
      parts = omega arith;
    }

pub enters_both : (order : KeyOrder) (a b c : Tally) (f g h : (ℕ → ℕ) → Key → ℕ) (m n most : ℕ) → Enters order a b f m → Enters order b c g n → ((worth : ℕ → ℕ) (q : Key) → h worth q ≡ f worth q + g worth q) → m + n ≤ most → Enters order a c h most
enters_both order a b c f g h m n most first second sum within =
    record {
      count = λ q. omega (arith, first.count q, second.count q, sum one q);
      value = λ q. omega (arith, first.value q, second.value q, sum amount q);
      tally = second.tally;
      parts = omega (arith, first.parts, second.parts);
    }

-- the same by another name
pub enters_same : (order : KeyOrder) (a b : Tally) (f h : (ℕ → ℕ) → Key → ℕ) (m most : ℕ) → Enters order a b f m → ((worth : ℕ → ℕ) (q : Key) → h worth q ≡ f worth q) → m ≤ most → Enters order a b h most
enters_same order a b f h m most enters same within =
    record {
      count = λ q. enters.count q ∙ ap (λ (n : ℕ). (sum_at order a.sums q).count + n) (sym (same one q));
      value = λ q. enters.value q ∙ ap (λ (n : ℕ). (sum_at order a.sums q).value + n) (sym (same amount q));
      tally = enters.tally;
      parts = omega (arith, enters.parts);
    }

-- what follows where a call has succeeded
pub on_ok : {T E : Type 0} (r : Result T E) {P Q : Type 0} → OnOk r P → (P → Q) → OnOk r Q
on_ok (Ok x) h f = f h
on_ok (Err e) h f = h
