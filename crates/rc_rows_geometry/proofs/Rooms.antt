-- What is found or gathered in a list, bounded by what all of the list is.
use Rattle.std.proofs.Common.{◌≡◌, ◌≤◌, ◌<◌, ◌+◌, ◌^◌, ℕ, true, List, [], ◌∷◌, Option, Some, None, subst, arith}
use Rattle.std.specs.Prelude.{All, IfSome, filter, fold, nat_lt}
use Rattle.std.specs.List.{sum_by}
use Rattle.std.proofs.lemmas.Bool.{cond_both, and_from, lt-ltb}
use Rattle.std.proofs.lemmas.List.Elements.{All-head, All-tail}
use Rattle.std.proofs.lemmas.List.Sums.{sum_by-cons}
use Rattle.rc_geom.specs.declared.key.Key.{Key}
use Rattle.rc_geom.specs.Parts.{same_key}
use Rattle.rc_geom.specs.Sums.{numbers}
use Rattle.rc_geom.proofs.KeyTests.{one_key}
use Rattle.rc_tally.specs.declared.entry.Entry.{Entry}
use Rattle.rc_tally.specs.Tallies.{sum_fits, sum_of, entry_at, joined, gathered, CanMerge, AllFit}
use Rattle.rc_rows_geometry.specs.Room.{Fits, small}

-- ---- two tallies

found_has : (P : Entry ℕ → Type 0) (es : List (Entry ℕ)) (q : Key) → All P es → IfSome (entry_at es q) (λ d. P d × (d.key ≡ q))
found_has P [] q all = record {}
found_has P (x ∷ es) q all = cond_both (same_key x.key q) (Some x) (entry_at es q) (λ (o : Option (Entry ℕ)). IfSome o (λ d. P d × (d.key ≡ q)))
    (λ same. (All-head P x es all, one_key x.key q same)) (λ _. found_has P es q (All-tail P x es all))

fits_both : (d : Entry ℕ) (o : Option (Entry ℕ)) → IfSome o (Fits d.count d.value) → IfSome o (λ e. (d.count + e.count < 2 ^ 64) × (small (d.value + e.value) ≡ true))
fits_both d None h = record {}
fits_both d (Some e) h = (omega (arith, h.0), lt-ltb (d.value + e.value) (2 ^ 128) (omega (arith, h.1)))

fits_found : (b : List (Entry ℕ)) (q : Key) (o : Option (Entry ℕ)) → IfSome o (λ d. IfSome (entry_at b d.key) (Fits d.count d.value) × (d.key ≡ q)) → IfSome o (λ d. IfSome (entry_at b q) (λ e. (d.count + e.count < 2 ^ 64) × (small (d.value + e.value) ≡ true)))
fits_found b q None h = record {}
fits_found b q (Some d) h = fits_both d (entry_at b q) (subst (λ (k : Key). IfSome (entry_at b k) (Fits d.count d.value)) h.1 h.0)

pub merges_fit : (a b : List (Entry ℕ)) → All (λ d. IfSome (entry_at b d.key) (Fits d.count d.value)) a → CanMerge numbers small a b
merges_fit a b all q = fits_found b q (entry_at a q) (found_has (λ d. IfSome (entry_at b d.key) (Fits d.count d.value)) a q all)

-- ---- a list

abbrev count_of : Entry ℕ → ℕ
count_of e = e.count

abbrev value_of : Entry ℕ → ℕ
value_of e = e.value

IsWithin : ℕ → ℕ → Option (Entry ℕ) → Type 0
IsWithin m n o = IfSome o (λ e. (e.count ≤ m) × (e.value ≤ n))

more_within : (m n : ℕ) (o : Option (Entry ℕ)) (x : Entry ℕ) → IsWithin m n o → IsWithin (m + x.count) (n + x.value) (joined numbers o (Some x))
unfolding IsWithin
more_within m n None x h = (omega arith, omega arith)
more_within m n (Some d) x h = (omega (arith, h.0), omega (arith, h.1))

wider : (m n m' n' : ℕ) (o : Option (Entry ℕ)) → m ≤ m' → n ≤ n' → IsWithin m n o → IsWithin m' n' o
unfolding IsWithin
wider m n m' n' None low low' h = record {}
wider m n m' n' (Some d) low low' h = (omega (arith, h.0), omega (arith, h.1))

fold_within : (q : Key) (es : List (Entry ℕ)) (o : Option (Entry ℕ)) (m n : ℕ) → IsWithin m n o → IsWithin (m + sum_by count_of es) (n + sum_by value_of es) (fold (λ p e. joined numbers p (Some e)) o (filter (λ e. same_key e.key q) es))
fold_within q [] o m n h = wider m n (m + sum_by count_of []) (n + sum_by value_of []) o (omega arith) (omega arith) h
fold_within q (x ∷ es) o m n h =
    let counts : sum_by count_of (x ∷ es) ≡ x.count + sum_by count_of es = sum_by-cons count_of x es in
    let values : sum_by value_of (x ∷ es) ≡ x.value + sum_by value_of es = sum_by-cons value_of x es in
    let rest = filter (λ (e : Entry ℕ). same_key e.key q) es in
    cond_both (same_key x.key q) (x ∷ rest) rest (λ (xs : List (Entry ℕ)). IsWithin (m + sum_by count_of (x ∷ es)) (n + sum_by value_of (x ∷ es)) (fold (λ p e. joined numbers p (Some e)) o xs))
    (λ _. wider (m + x.count + sum_by count_of es) (n + x.value + sum_by value_of es) _ _ _ (omega arith) (omega arith) (fold_within q es (joined numbers o (Some x)) (m + x.count) (n + x.value) (more_within m n o x h)))
    (λ _. wider (m + sum_by count_of es) (n + sum_by value_of es) _ _ _ (omega arith) (omega arith) (fold_within q es o m n h))

fit_within : (m n : ℕ) (o : Option (Entry ℕ)) → m < 2 ^ 64 → n < 2 ^ 128 → IsWithin m n o → IfSome o (λ e. sum_fits small (sum_of e) ≡ true)
unfolding IsWithin
fit_within m n None few low h = record {}
fit_within m n (Some e) few low h = and_from (nat_lt e.count (2 ^ 64)) (small e.value) (lt-ltb e.count (2 ^ 64) (omega (arith, few, h.0))) (lt-ltb e.value (2 ^ 128) (omega (arith, low, h.1)))

none_within : IsWithin 0 0 None
unfolding IsWithin
none_within = record {}

pub gathered_fit : (es : List (Entry ℕ)) → sum_by count_of es < 2 ^ 64 → sum_by value_of es < 2 ^ 128 → AllFit numbers small es
gathered_fit es few low q = fit_within (sum_by count_of es) (sum_by value_of es) (gathered numbers es q) few low
    (wider (0 + sum_by count_of es) (0 + sum_by value_of es) _ _ (gathered numbers es q) (omega arith) (omega arith) (fold_within q es None 0 0 none_within))
