-- Where entries stand in lists with rising keys.
use Rattle.std.specs.Prelude.{◌≡◌, ◌<◌, ◌≤◌, ◌⊎◌, ℕ, List, slice_index_or, length}
use Rattle.std.specs.declared.cmp.Ordering.TheVariants.{Less}
use Rattle.rc_geom.specs.declared.key.Key.{Key}
use Rattle.rc_geom.specs.Sums.{Adding}
use Rattle.rc_tally.specs.declared.entry.Entry.{Entry}
use Rattle.rc_tally.specs.declared.join.Next.{Next}
use Rattle.rc_tally.specs.Tallies.{both, key_order}

-- the entry at place i has the key
pub record IsAt {V : Type 0} (entries : List (Entry V)) (key : Key) (i : ℕ) : Type 0 where
  pub in_range : i < length entries
  pub has_key : (d : Entry V) → (slice_index_or entries i d).key ≡ key

-- the key would go at place i: lower keys before it, and higher keys from it on
pub record IsGapFor {V : Type 0} (entries : List (Entry V)) (key : Key) (i : ℕ) : Type 0 where
  pub in_range : i ≤ length entries
  pub below : (j : ℕ) (d : Entry V) → j < i → key_order (slice_index_or entries j d).key key ≡ Less
  pub above : (j : ℕ) (d : Entry V) → i ≤ j → j < length entries → key_order key (slice_index_or entries j d).key ≡ Less

-- all keys of the list are below that one
abbrev pub AllBelow : {V : Type 0} → List (Entry V) → Key → Type 0
AllBelow {V} entries key = (j : ℕ) (d : Entry V) → j < length entries → key_order (slice_index_or entries j d).key key ≡ Less

-- of two lists the entry at a place of the first, whose key is below that at a place of the second, if there is one
pub record IsOfFirst {V : Type 0} (first second : List (Entry V)) (i j : ℕ) (entry : Entry V) : Type 0 where
  pub within : i < length first
  pub is : slice_index_or first i entry ≡ entry
  pub lower : (d : Entry V) → j < length second → key_order entry.key (slice_index_or second j d).key ≡ Less

-- both entries, which have one key
pub record IsOfBoth {V : Type 0} (adding : Adding V) (first second : List (Entry V)) (i j : ℕ) (entry : Entry V) : Type 0 where
  pub within_first : i < length first
  pub within_second : j < length second
  pub same : (d : Entry V) → (slice_index_or first i d).key ≡ (slice_index_or second j d).key
  pub is : (d : Entry V) → entry ≡ both adding (slice_index_or first i d) (slice_index_or second j d)

-- what comes next in the merge of two lists, and how many entries of each it is made of
abbrev pub IsNext : {V : Type 0} → Adding V → List (Entry V) → List (Entry V) → ℕ → ℕ → Next V → Type 0
IsNext adding a b i j next =
    (IsOfFirst a b i j next.entry × (next.first ≡ 1) × (next.second ≡ 0))
    ⊎ ((IsOfFirst b a j i next.entry × (next.first ≡ 0) × (next.second ≡ 1))
    ⊎ (IsOfBoth adding a b i j next.entry × (next.first ≡ 1) × (next.second ≡ 1)))
