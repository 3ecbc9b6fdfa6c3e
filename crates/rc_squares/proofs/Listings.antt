-- The sums of all keys as a list.
use Rattle.std.proofs.Common.{◌≡◌, ◌≤◌, ◌^◌, ℕ, Bool, true, false, cond, List, [], ◌∷◌, Option, Some, None, Result, Ok, Err, refl, ap, sym, ◌∙◌, subst, arith}
use Rattle.std.specs.Prelude.{IfSome, IfOk, map, unwrap_or}
use Rattle.std.specs.Option.{option_map_or}
use Rattle.std.specs.List.Sorted.{IsStrictlySortedBy}
use Rattle.std.specs.Map.{lookup, keys_of}
use Rattle.std.specs.BTreeMap.{get, is_at, IsOrdered, IsEmpty}
use Rattle.rc_geom.specs.declared.key.Key.{Key}
use Rattle.rc_geom.specs.declared.rect.Rect.{Rect}
use Rattle.rc_geom.specs.Plane.{Plane}
use Rattle.rc_geom.specs.Rates.{Rates}
use Rattle.rc_geom.specs.Parts.{same_key}
use Rattle.rc_geom.specs.Sums.{numbers}
use Rattle.rc_geom.specs.Extraction.{sum_in}
use Rattle.rc_squares.specs.declared.sums.Sum.{Sum}
use Rattle.rc_squares.specs.declared.entries.Entry.{Entry}
use Rattle.rc_squares.specs.declared.tally.Tally.{Tally}
use Rattle.rc_squares.specs.Tallies.{KeyOrder, sum_at, Enters}
use Rattle.rc_squares.specs.Entries.{entry_of, entry_at, AreSums}
use Rattle.rc_squares.proofs.Tallies.{TellsKeys}

-- an entry says what a sum says, and where there is none there is no sum
record Says (e : Option Entry) (s : Option Sum) : Type 0 where
  count : option_map_or (λ (x : Entry). x.count) e 0 ≡ (unwrap_or s (record { count = 0; value = 0 })).count
  value : option_map_or (λ (x : Entry). x.value) e 0 ≡ (unwrap_or s (record { count = 0; value = 0 })).value
  some : IfSome s (λ x. 1 ≤ x.count) → IfSome e (λ x. 1 ≤ x.count)

says_first : (p : Key × Sum) (same : Bool) (e : Option Entry) (s : Option Sum) → Says e s → Says (cond same (Some (entry_of p)) e) (cond same (Some p.1) s)
says_first p true e s says = record { count = refl; value = refl; some = λ h. h }
says_first p false e s says = says

-- looked up among the entries, a key has its sum
says_at : (order : KeyOrder) → TellsKeys order → (es : List (Key × Sum)) (key : Key) → Says (entry_at (map entry_of es) key) (lookup (is_at (order key)) es)
says_at order tells [] key = record { count = refl; value = refl; some = λ h. h }
says_at order tells (p ∷ es) key =
    let P : Bool → Type 0 = λ b. Says (cond (same_key key p.0) (Some (entry_of p)) (entry_at (map entry_of es) key)) (cond b (Some p.1) (lookup (is_at (order key)) es)) in
    subst P (sym (tells key p.0)) (says_first p (same_key key p.0) (entry_at (map entry_of es) key) (lookup (is_at (order key)) es) (says_at order tells es key))

keys_stay : (es : List (Key × Sum)) → map (λ (e : Entry). e.key) (map entry_of es) ≡ keys_of es
keys_stay [] = refl
keys_stay (p ∷ es) = ap (λ (ks : List Key). p.0 ∷ ks) (keys_stay es)

-- what both axes have entered
pub are_sums : (order : KeyOrder) (plane : Plane) (rates : Rates ℕ) (r : Rect) (a b c : Tally) (entries : List Entry) → TellsKeys order → IsEmpty a.sums → Enters order a b (λ worth key. sum_in numbers worth plane rates 0 r key) (2 ^ 69) → Enters order b c (λ worth key. sum_in numbers worth plane rates 1 r key) (2 ^ 69) → IsOrdered order c.sums → entries ≡ map entry_of c.sums.entries → AreSums order plane rates r entries
are_sums order plane rates r a b c entries tells empty first second ordered listed =
    let none : (q : Key) → get order a.sums q ≡ None = λ q. ap (lookup (is_at (order q))) empty in
    let no_count : (q : Key) → (sum_at order a.sums q).count ≡ 0 = λ q. ap (λ (o : Option Sum). (unwrap_or o (record { count = 0; value = 0 })).count) (none q) in
    let no_value : (q : Key) → (sum_at order a.sums q).value ≡ 0 = λ q. ap (λ (o : Option Sum). (unwrap_or o (record { count = 0; value = 0 })).value) (none q) in
    let says = says_at order tells c.sums.entries in
    let P : List Key → Type 0 = λ ks. IsStrictlySortedBy order ks in
    let Q : List Entry → Type 0 = λ es. AreSums order plane rates r es in
    let sums : AreSums order plane rates r (map entry_of c.sums.entries) = record {
      rising = subst P (sym (keys_stay c.sums.entries)) ordered;
      some = λ key. (says key).some (second.tally.some key);
      count = λ key. (says key).count ∙ omega (arith, first.count key, second.count key, no_count key);
      value = λ key. (says key).value ∙ omega (arith, first.value key, second.value key, no_value key);
    } in
    subst Q (sym listed) sums

-- what follows from two clauses on the value of a call that has succeeded
pub if_ok : {T E : Type 0} (r : Result T E) (P Q R : T → Type 0) → IfOk r P → IfOk r Q → ((x : T) → P x → Q x → R x) → IfOk r R
if_ok (Ok x) P Q R p q f = f x p q
if_ok (Err e) P Q R p q f = p
