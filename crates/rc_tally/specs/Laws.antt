-- What holds of tallies. Each law is the contract of a function of src/laws.rt.
use Rattle.std.specs.Prelude.{◌≡◌, ◌≤◌, Bool, true, List, [], ◌∷◌, ◌++◌, None, IfSome, All, filter, fold, if◌then◌else◌}
use Rattle.rc_geom.specs.declared.key.Key.{Key}
use Rattle.rc_geom.specs.Parts.{same_key}
use Rattle.rc_geom.specs.Sums.{Adding}
use Rattle.rc_tally.specs.declared.entry.Entry.{Entry}
use Rattle.rc_tally.specs.Tallies.{Sum, sums, sum_of, sum_at, entry_at, Grows, Merges, Gathers, HasSums, IsRising}

-- each entry's value is sound
abbrev pub AreSound : {V : Type 0} → (V → Bool) → List (Entry V) → Type 0
AreSound sound entries = (q : Key) → IfSome (entry_at entries q) (λ e. sound e.value ≡ true)

-- tallies that have the same entry for each key are one; a merge has the sum of both for each key, and no entry for a key
-- of neither; and neither the order nor the grouping of merges matters
pub record MergesAdd {V : Type 0} (adding : Adding V) (sound : V → Bool) : Type 0 where
  pub told_by_keys : (a b : List (Entry V)) → IsRising a → IsRising b → ((q : Key) → entry_at a q ≡ entry_at b q) → a ≡ b
  pub sum : (a b c : List (Entry V)) → AreSound sound a → AreSound sound b → Merges adding a b c → (q : Key) →
      sum_at adding c q ≡ (sums adding).plus (sum_at adding a q) (sum_at adding b q)
  pub neither : (a b c : List (Entry V)) → Merges adding a b c → (q : Key) → entry_at a q ≡ None → entry_at b q ≡ None → entry_at c q ≡ None
  pub swap : (a b c d : List (Entry V)) → AreSound sound a → AreSound sound b → IsRising c → IsRising d →
      Merges adding a b c → Merges adding b a d → c ≡ d
  pub regroup : (a b c left right all all' : List (Entry V)) → AreSound sound a → AreSound sound b → AreSound sound c → IsRising all → IsRising all' →
      Merges adding a b left → Merges adding left c all → Merges adding b c right → Merges adding a right all' → all ≡ all'

-- what the entries of a key add up to
abbrev pub sum_over : {V : Type 0} → Adding V → List (Entry V) → Key → Sum V
sum_over adding entries key = fold (λ s e. (sums adding).plus s (sum_of e)) ((sums adding).none) (filter (λ e. same_key e.key key) entries)

-- each sum that is named is sound
abbrev pub NamesSound : {V : Type 0} → (V → Bool) → (Key → Sum V) → Type 0
NamesSound sound named = (q : Key) → sound (named q).value ≡ true

-- tallies with the same sums are one; an addition adds to the sum of its key alone, a merge to each key's, and a list that
-- is gathered gives each key the sum over its entries; that is also what one addition after the other gives
pub record SumsAreKept {V : Type 0} (adding : Adding V) (sound : V → Bool) : Type 0 where
  pub told_by_sums : (named : Key → Sum V) (a b : List (Entry V)) → IsRising a → IsRising b → HasSums adding named a → HasSums adding named b → a ≡ b
  pub add : (named : Key → Sum V) (before after : List (Entry V)) (key : Key) (more : Sum V) → NamesSound sound named → sound more.value ≡ true → 1 ≤ more.count →
      HasSums adding named before → Grows adding before after key more →
      HasSums adding (λ q. if same_key key q then (sums adding).plus (named q) more else named q) after
  pub merge : (named named' : Key → Sum V) (a b c : List (Entry V)) → NamesSound sound named → NamesSound sound named' →
      HasSums adding named a → HasSums adding named' b → Merges adding a b c →
      HasSums adding (λ q. (sums adding).plus (named q) (named' q)) c
  pub gather : (list after : List (Entry V)) → All (λ e. sound e.value ≡ true) list → All (λ e. 1 ≤ e.count) list → Gathers adding list after →
      HasSums adding (sum_over adding list) after
  pub one_more : (list before after : List (Entry V)) (e : Entry V) → Gathers adding list before → Grows adding before after e.key (sum_of e) →
      Gathers adding (list ++ e ∷ []) after
