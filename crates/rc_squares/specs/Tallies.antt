-- Sums of many keys, and what is entered into them.
use Rattle.std.specs.Prelude.{◌≡◌, ℕ, ◌+◌, ◌*◌, ◌≤◌, ◌^◌, unwrap_or, IfSome}
use Rattle.std.specs.declared.cmp.Ordering.{Ordering}
use Rattle.std.specs.BTreeMap.{BTreeMap, get}
use Rattle.rc_geom.specs.declared.key.Key.{Key}
use Rattle.rc_squares.specs.declared.sums.Sum.{Sum}
use Rattle.rc_squares.specs.declared.tally.Tally.{Tally}
use Rattle.rc_squares.specs.Worths.{one, amount}

abbrev pub KeyOrder : Type 0
KeyOrder = Key → Key → Ordering

-- the sum of a key, nothing where it has none
abbrev pub sum_at : KeyOrder → BTreeMap Key Sum → Key → Sum
sum_at order sums key = unwrap_or (get order sums key) (record { count = 0; value = 0 })

-- no sum is of no part, or of more parts than there are
pub record IsTally (order : KeyOrder) (t : Tally) : Type 0 where
  pub few : (q : Key) → (sum_at order t.sums q).count ≤ t.parts
  pub small : (q : Key) → (sum_at order t.sums q).value ≤ 2 ^ 57 * t.parts
  pub some : (q : Key) → IfSome (get order t.sums q) (λ sum. 1 ≤ sum.count)

-- each key's sum has grown by what is added to it, each part by its worth; these are so many parts at most
pub record Enters (order : KeyOrder) (before after : Tally) (added : (ℕ → ℕ) → Key → ℕ) (most : ℕ) : Type 0 where
  pub count : (q : Key) → (sum_at order after.sums q).count ≡ (sum_at order before.sums q).count + added one q
  pub value : (q : Key) → (sum_at order after.sums q).value ≡ (sum_at order before.sums q).value + added amount q
  pub tally : IsTally order after
  pub parts : after.parts ≤ before.parts + most
