-- Sums of amounts by key.
use Rattle.std.specs.Prelude.{◌≡◌, ◌<◌, ◌≤◌, ◌+◌, ◌^◌, ◌&&◌, ℕ, Bool, true, List, Option, Some, None, IfSome, filter, fold, find, nat_lt, if◌then◌else◌, slice_index_or, length}
use Rattle.std.specs.Option.{option_map_or}
use Rattle.std.specs.Ordering.{nat_cmp}
use Rattle.std.specs.Cmp.Lexicographic.{slice_cmp}
use Rattle.std.specs.declared.cmp.Ordering.{Ordering}
use Rattle.std.specs.declared.cmp.Ordering.TheVariants.{Less}
use Rattle.rc_geom.specs.declared.key.Key.{Key}
use Rattle.rc_geom.specs.Parts.{same_key}
use Rattle.rc_geom.specs.Sums.{Adding}
use Rattle.rc_geom.specs.Laws.{key_numbers}
use Rattle.rc_tally.specs.declared.entry.Entry.{Entry}

-- how many parts, and the sum of their amounts
pub record Sum (V : Type 0) : Type 0 where
  pub count : ℕ
  pub value : V

-- both are added up side by side
abbrev pub sums : {V : Type 0} → Adding V → Adding (Sum V)
sums adding = record {
  none = record { count = 0; value = adding.none };
  plus = λ a b. record { count = a.count + b.count; value = adding.plus a.value b.value };
}

-- a count has 64 bits, and the value fits its kind
abbrev pub sum_fits : {V : Type 0} → (V → Bool) → Sum V → Bool
sum_fits fits s = nat_lt s.count (2 ^ 64) && fits s.value

-- a value alone tells whether a sum is sound
abbrev pub sum_sound : {V : Type 0} → (V → Bool) → Sum V → Bool
sum_sound sound s = sound s.value

-- the entry of a key
abbrev pub entry_at : {V : Type 0} → List (Entry V) → Key → Option (Entry V)
entry_at entries key = find (λ e. same_key e.key key) entries

abbrev pub sum_of : {V : Type 0} → Entry V → Sum V
sum_of e = record { count = e.count; value = e.value }

abbrev pub entry_of : {V : Type 0} → Key → Sum V → Entry V
entry_of key s = record { key = key; count = s.count; value = s.value }

-- the sum of a key, nothing where it has no entry
abbrev pub sum_at : {V : Type 0} → Adding V → List (Entry V) → Key → Sum V
sum_at adding entries key = option_map_or sum_of (entry_at entries key) ((sums adding).none)

-- two entries of a key, added up
abbrev pub both : {V : Type 0} → Adding V → Entry V → Entry V → Entry V
both adding d e = record { key = d.key; count = d.count + e.count; value = adding.plus d.value e.value }

-- the one entry of a key, or the other, or both added up; none where there is neither
abbrev pub joined : {V : Type 0} → Adding V → Option (Entry V) → Option (Entry V) → Option (Entry V)
joined adding None e = e
joined adding (Some d) None = Some d
joined adding (Some d) (Some e) = Some (both adding d e)

-- the key's entry has grown, or is new, and the others are as they were
abbrev pub Grows : {V : Type 0} → Adding V → List (Entry V) → List (Entry V) → Key → Sum V → Type 0
Grows adding before after key more = (q : Key) →
    entry_at after q ≡ (if same_key key q then joined adding (entry_at before key) (Some (entry_of key more)) else entry_at before q)

-- each key has the entry of the one, that of the other, or both added up, and a key of neither has none
abbrev pub Merges : {V : Type 0} → Adding V → List (Entry V) → List (Entry V) → List (Entry V) → Type 0
Merges adding a b after = (q : Key) → entry_at after q ≡ joined adding (entry_at a q) (entry_at b q)

-- the entries of a key, of which a list may have many, added up as they come
abbrev pub gathered : {V : Type 0} → Adding V → List (Entry V) → Key → Option (Entry V)
gathered adding entries key = fold (λ o e. joined adding o (Some e)) None (filter (λ e. same_key e.key key) entries)

-- each key of the list has one entry, with all that the list has of the key, and other keys have none
abbrev pub Gathers : {V : Type 0} → Adding V → List (Entry V) → List (Entry V) → Type 0
Gathers adding list after = (q : Key) → entry_at after q ≡ gathered adding list q

-- each key's sum is the one that is named; an entry has at least one part, and so a key that is named nothing has none
pub record HasSums {V : Type 0} (adding : Adding V) (named : Key → Sum V) (entries : List (Entry V)) : Type 0 where
  pub each : (q : Key) → sum_at adding entries q ≡ named q
  pub some : (q : Key) → IfSome (entry_at entries q) (λ e. 1 ≤ e.count)

-- what two lists have of each key fits an entry
abbrev pub CanMerge : {V : Type 0} → Adding V → (V → Bool) → List (Entry V) → List (Entry V) → Type 0
CanMerge adding fits a b = (q : Key) →
    IfSome (entry_at a q) (λ d. IfSome (entry_at b q) (λ e. (d.count + e.count < 2 ^ 64) × (fits (adding.plus d.value e.value) ≡ true)))

-- what all entries of a list have of each key fits an entry
abbrev pub AllFit : {V : Type 0} → Adding V → (V → Bool) → List (Entry V) → Type 0
AllFit adding fits list = (q : Key) → IfSome (gathered adding list q) (λ e. sum_fits fits (sum_of e) ≡ true)

-- the order of keys: a key of one node before each of two, and among those of one kind by the fields, one after another
abbrev pub key_order : Key → Key → Ordering
key_order a b = slice_cmp nat_cmp (key_numbers a) (key_numbers b)

-- each key is below those behind it
abbrev pub IsRising : {V : Type 0} → List (Entry V) → Type 0
IsRising {V} entries = (i j : ℕ) (d : Entry V) → i < j → j < length entries → key_order (slice_index_or entries i d).key (slice_index_or entries j d).key ≡ Less
