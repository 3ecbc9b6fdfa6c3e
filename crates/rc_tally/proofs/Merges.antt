-- Two lists of entries with rising keys are merged, the entry of the lower key first.
use Rattle.std.proofs.Common.{◌≡◌, ℕ, ◌+◌, ◌-◌, ◌<◌, ◌≤◌, ◌^◌, true, false, cond, List, [], ◌∷◌, ◌++◌, length, take, get_or, Option, Some, None, ⊎_elim, sym, ap, refl, ◌∙◌, subst, arith}
use Rattle.std.specs.Prelude.{Bool, min, IfSome}
use Rattle.std.specs.declared.cmp.Ordering.TheVariants.{Less}
use Rattle.std.proofs.lemmas.Bool.{cases_Bool, cases_lt}
use Rattle.std.proofs.lemmas.List.{take_more, take_all, get_or-take, get_or_append_left, get_or_push, length-take, length-append, get_or_default}
use Rattle.rc_geom.specs.declared.key.Key.{Key}
use Rattle.rc_geom.specs.Parts.{same_key}
use Rattle.rc_geom.specs.Sums.{Adding}
use Rattle.rc_geom.proofs.KeyTests.{one_key}
use Rattle.rc_tally.specs.declared.entry.Entry.{Entry}
use Rattle.rc_tally.specs.declared.join.Next.{Next}
use Rattle.rc_tally.specs.Tallies.{entry_at, joined, Merges, CanMerge, IsRising, key_order}
use Rattle.rc_tally.specs.Places.{IsAt, AllBelow, IsOfFirst, IsOfBoth, IsNext}
use Rattle.rc_tally.proofs.Orders.{key_total, less_differs}
use Rattle.rc_tally.proofs.Places.{NoKeyBefore, entry_absent, entry_at_place, same_itself, skip, hit, tail_keys, no_key_before}

-- ---- a list with one more entry

pub push_own : {V : Type 0} (es : List (Entry V)) (e : Entry V) (key : Key) → same_key e.key key ≡ true → NoKeyBefore es key (length es) → entry_at (es ++ e ∷ []) key ≡ Some e
push_own [] e key same none_has = hit e [] key same
push_own (x ∷ es) e key same none_has = skip x (es ++ e ∷ []) key (none_has 0 x (omega arith)) ∙ push_own es e key same (tail_keys x es key (length es) none_has)

pub push_other : {V : Type 0} (es : List (Entry V)) (e : Entry V) (key : Key) → same_key e.key key ≡ false → entry_at (es ++ e ∷ []) key ≡ entry_at es key
push_other [] e key other = skip e [] key other
push_other (x ∷ es) e key other = ap (λ (o : Option (Entry _)). cond (same_key x.key key) (Some x) o) (push_other es e key other)

pushed_at : {V : Type 0} (es : List (Entry V)) (e d : Entry V) → get_or (es ++ e ∷ []) (length es) d ≡ e
pushed_at es e d = get_or_push es e d (length es) refl

rising_push : {V : Type 0} (es : List (Entry V)) (e : Entry V) → IsRising es → AllBelow es e.key → IsRising (es ++ e ∷ [])
rising_push {V = W} es e rising below i j d less within =
    let long : length (es ++ e ∷ []) ≡ length es + 1 = length-append es (e ∷ []) in
    let low : get_or (es ++ e ∷ []) i d ≡ get_or es i d = get_or_append_left es (e ∷ []) d i (omega arith) in
    ⊎_elim
    (λ (inner : j < length es).
    let high : get_or (es ++ e ∷ []) j d ≡ get_or es j d = get_or_append_left es (e ∷ []) d j inner in
    ap (λ (x : Entry W). key_order x.key (get_or (es ++ e ∷ []) j d).key) low ∙ (ap (λ (x : Entry W). key_order (get_or es i d).key x.key) high ∙ rising i j d less inner))
    (λ (last : length es ≤ j).
    let here : j ≡ length es = omega arith in
    let high : get_or (es ++ e ∷ []) j d ≡ e = ap (λ (k : ℕ). get_or (es ++ e ∷ []) k d) here ∙ pushed_at es e d in
    ap (λ (x : Entry W). key_order x.key (get_or (es ++ e ∷ []) j d).key) low ∙ (ap (λ (x : Entry W). key_order (get_or es i d).key x.key) high ∙ below i d (omega arith)))
    (cases_lt j (length es))

below_push : {V : Type 0} (es : List (Entry V)) (e : Entry V) (key : Key) → AllBelow es e.key → key_order e.key key ≡ Less → AllBelow (es ++ e ∷ []) key
below_push {V = W} es e key below low j d within =
    let long : length (es ++ e ∷ []) ≡ length es + 1 = length-append es (e ∷ []) in
    ⊎_elim
    (λ (inner : j < length es).
    ap (λ (x : Entry W). key_order x.key key) (get_or_append_left es (e ∷ []) d j inner) ∙ key_total.trans (get_or es j d).key e.key key (below j d inner) low)
    (λ (last : length es ≤ j).
    let here : j ≡ length es = omega arith in
    ap (λ (x : Entry W). key_order x.key key) (ap (λ (k : ℕ). get_or (es ++ e ∷ []) k d) here ∙ pushed_at es e d) ∙ low)
    (cases_lt j (length es))

-- ---- how far the merge has come

-- so many entries of each list are done, and the keys that have been made are below those that are left
pub record AreMerged {V : Type 0} (adding : Adding V) (a b : List (Entry V)) (i j : ℕ) (done : List (Entry V)) : Type 0 where
  pub first : i ≤ length a
  pub second : j ≤ length b
  pub rising : IsRising done
  pub merges : Merges adding (take i a) (take j b) done
  pub below_first : (d : Entry V) → i < length a → AllBelow done (get_or a i d).key
  pub below_second : (d : Entry V) → j < length b → AllBelow done (get_or b j d).key

pub merged_none : {V : Type 0} (adding : Adding V) (a b : List (Entry V)) → AreMerged adding a b 0 0 []
merged_none adding a b = record {
  first = omega arith;
  second = omega arith;
  rising = λ i j d less within. absurd (omega arith);
  merges = λ q. refl;
  below_first = λ d within j e less. absurd (omega arith);
  below_second = λ d within j e less. absurd (omega arith);
}

-- the same with the lists the other way round, where that is known
is_at : {V : Type 0} (b : List (Entry V)) (i : ℕ) (key : Key) → i < length b → ((d : Entry V) → (get_or b i d).key ≡ key) → IsAt b key i
is_at b i key within has = record { in_range = within; has_key = has }

before_absent : {V : Type 0} (b : List (Entry V)) (i : ℕ) (key : Key) → IsRising b → IsAt b key i → NoKeyBefore (take i b) key (length (take i b))
before_absent b i key rising at j d less =
    let long : length (take i b) ≡ min i (length b) = length-take i b in
    let low : j < i = omega (arith, less, long) in
    ap (λ (x : Entry _). same_key x.key key) (get_or-take i b j d low) ∙ no_key_before b key i rising at j d low

-- the key of the next entry has none so far
not_yet : {V : Type 0} (b : List (Entry V)) (i : ℕ) (key : Key) → IsRising b → IsAt b key i → entry_at (take i b) key ≡ None
not_yet b i key rising at = entry_absent (take i b) key (before_absent b i key rising at)

-- and then it has that one
now_own : {V : Type 0} (b : List (Entry V)) (i : ℕ) (e : Entry V) (key : Key) → e.key ≡ key → IsRising b → i < length b → get_or b i e ≡ e → entry_at (take (i + 1) b) key ≡ Some e
now_own {V = W} b i e key has rising within is =
    let at : IsAt b key i = is_at b i key within (λ d. ap (λ (x : Entry W). x.key) (get_or_default b i d e within ∙ is) ∙ has) in
    ap (λ (es : List (Entry W)). entry_at es key) (take_more b i e within ∙ ap (λ (x : Entry W). take i b ++ x ∷ []) is)
    ∙ push_own (take i b) e key (ap (λ (k : Key). same_key k key) has ∙ same_itself key) (before_absent b i key rising at)

now_other : {V : Type 0} (b : List (Entry V)) (i : ℕ) (e : Entry V) (q : Key) → i < length b → get_or b i e ≡ e → same_key e.key q ≡ false → entry_at (take (i + 1) b) q ≡ entry_at (take i b) q
now_other {V = W} b i e q within is other =
    ap (λ (es : List (Entry W)). entry_at es q) (take_more b i e within ∙ ap (λ (x : Entry W). take i b ++ x ∷ []) is) ∙ push_other (take i b) e q other

none_of_both : {V : Type 0} (adding : Adding V) (o p : Option (Entry V)) → joined adding o p ≡ None → (o ≡ None) × (p ≡ None)
none_of_both adding None None h = (refl, refl)
none_of_both adding None (Some e) h = cc
none_of_both adding (Some d) None h = cc
none_of_both adding (Some d) (Some e) h = cc

-- keys of the new list that the next entry is above of aren't its own
not_made : {V : Type 0} (done : List (Entry V)) (key : Key) → AllBelow done key → entry_at done key ≡ None
not_made done key below = entry_absent done key (λ j d less. less_differs (get_or done j d).key key (below j d less))

merges_first : {V : Type 0} (adding : Adding V) (a b done : List (Entry V)) (i j : ℕ) (e : Entry V) → IsRising a → AllBelow done e.key → IsOfFirst a b i j e → Merges adding (take i a) (take j b) done → Merges adding (take (i + 1) a) (take j b) (done ++ e ∷ [])
merges_first {V = W} adding a b done i j e rising below next merges q =
    let none : entry_at done e.key ≡ None = not_made done e.key below in
    let neither = none_of_both adding (entry_at (take i a) e.key) (entry_at (take j b) e.key) (sym (merges e.key) ∙ none) in
    let made : entry_at (done ++ e ∷ []) e.key ≡ Some e = push_own done e e.key (same_itself e.key) (λ k d less. less_differs (get_or done k d).key e.key (below k d less)) in
    let own : entry_at (done ++ e ∷ []) e.key ≡ joined adding (entry_at (take (i + 1) a) e.key) (entry_at (take j b) e.key) =
    made ∙ sym (ap (λ (o : Option (Entry W)). joined adding o (entry_at (take j b) e.key)) (now_own a i e e.key refl rising next.within next.is) ∙ ap (joined adding (Some e)) neither.1) in
    ⊎_elim
    (λ (same : same_key e.key q ≡ true).
    subst (λ (k : Key). entry_at (done ++ e ∷ []) k ≡ joined adding (entry_at (take (i + 1) a) k) (entry_at (take j b) k)) (one_key e.key q same) own)
    (λ (other : same_key e.key q ≡ false).
    push_other done e q other ∙ (merges q ∙ sym (ap (λ (o : Option (Entry W)). joined adding o (entry_at (take j b) q)) (now_other a i e q next.within next.is other))))
    (cases_Bool (same_key e.key q))

merges_second : {V : Type 0} (adding : Adding V) (a b done : List (Entry V)) (i j : ℕ) (e : Entry V) → IsRising b → AllBelow done e.key → IsOfFirst b a j i e → Merges adding (take i a) (take j b) done → Merges adding (take i a) (take (j + 1) b) (done ++ e ∷ [])
merges_second {V = W} adding a b done i j e rising below next merges q =
    let none : entry_at done e.key ≡ None = not_made done e.key below in
    let neither = none_of_both adding (entry_at (take i a) e.key) (entry_at (take j b) e.key) (sym (merges e.key) ∙ none) in
    let made : entry_at (done ++ e ∷ []) e.key ≡ Some e = push_own done e e.key (same_itself e.key) (λ k d less. less_differs (get_or done k d).key e.key (below k d less)) in
    let own : entry_at (done ++ e ∷ []) e.key ≡ joined adding (entry_at (take i a) e.key) (entry_at (take (j + 1) b) e.key) =
    made ∙ sym (ap (λ (o : Option (Entry W)). joined adding o (entry_at (take (j + 1) b) e.key)) neither.0 ∙ ap (joined adding None) (now_own b j e e.key refl rising next.within next.is)) in
    ⊎_elim
    (λ (same : same_key e.key q ≡ true).
    subst (λ (k : Key). entry_at (done ++ e ∷ []) k ≡ joined adding (entry_at (take i a) k) (entry_at (take (j + 1) b) k)) (one_key e.key q same) own)
    (λ (other : same_key e.key q ≡ false).
    push_other done e q other ∙ (merges q ∙ sym (ap (joined adding (entry_at (take i a) q)) (now_other b j e q next.within next.is other))))
    (cases_Bool (same_key e.key q))

merges_both : {V : Type 0} (adding : Adding V) (a b done : List (Entry V)) (i j : ℕ) (e : Entry V) → IsRising a → IsRising b → AllBelow done e.key → IsOfBoth adding a b i j e → Merges adding (take i a) (take j b) done → Merges adding (take (i + 1) a) (take (j + 1) b) (done ++ e ∷ [])
merges_both {V = W} adding a b done i j e rising_a rising_b below next merges q =
    let x : Entry W = get_or a i e in
    let y : Entry W = get_or b j e in
    let is_x : get_or a i x ≡ x = get_or_default a i x e next.within_first in
    let is_y : get_or b j y ≡ y = get_or_default b j y e next.within_second in
    let key_x : x.key ≡ e.key = sym (ap (λ (z : Entry W). z.key) (next.is e)) in
    let key_y : y.key ≡ e.key = sym (next.same e) ∙ key_x in
    let made : entry_at (done ++ e ∷ []) e.key ≡ Some e = push_own done e e.key (same_itself e.key) (λ k d less. less_differs (get_or done k d).key e.key (below k d less)) in
    let own : entry_at (done ++ e ∷ []) e.key ≡ joined adding (entry_at (take (i + 1) a) e.key) (entry_at (take (j + 1) b) e.key) =
    made ∙ (ap Some (next.is e)
    ∙ sym (ap (λ (o : Option (Entry W)). joined adding o (entry_at (take (j + 1) b) e.key)) (now_own a i x e.key key_x rising_a next.within_first is_x)
    ∙ ap (joined adding (Some x)) (now_own b j y e.key key_y rising_b next.within_second is_y))) in
    ⊎_elim
    (λ (same : same_key e.key q ≡ true).
    subst (λ (k : Key). entry_at (done ++ e ∷ []) k ≡ joined adding (entry_at (take (i + 1) a) k) (entry_at (take (j + 1) b) k)) (one_key e.key q same) own)
    (λ (other : same_key e.key q ≡ false).
    push_other done e q other
    ∙ (merges q
    ∙ sym (ap (λ (o : Option (Entry W)). joined adding o (entry_at (take (j + 1) b) q)) (now_other a i x q next.within_first is_x (ap (λ (k : Key). same_key k q) key_x ∙ other))
    ∙ ap (joined adding (entry_at (take i a) q)) (now_other b j y q next.within_second is_y (ap (λ (k : Key). same_key k q) key_y ∙ other)))))
    (cases_Bool (same_key e.key q))

-- ---- one step of the merge

-- the key at the next place is above that at this one
next_above : {V : Type 0} (a : List (Entry V)) (i : ℕ) (e d : Entry V) (key : Key) → IsRising a → i + 1 < length a → (get_or a i d).key ≡ key → key_order key (get_or a (i + 1) d).key ≡ Less
next_above a i e d key rising within is = subst (λ (k : Key). key_order k (get_or a (i + 1) d).key ≡ Less) is (rising i (i + 1) d (omega arith) within)

below_at : {V : Type 0} (done : List (Entry V)) (k k' : Key) → k ≡ k' → AllBelow done k → AllBelow done k'
below_at done k k' is below = subst (AllBelow done) is below

key_at : {V : Type 0} (a : List (Entry V)) (i : ℕ) (e d : Entry V) → i < length a → get_or a i e ≡ e → (get_or a i d).key ≡ e.key
key_at {V = W} a i e d within is = ap (λ (x : Entry W). x.key) (get_or_default a i d e within ∙ is)

step_first : {V : Type 0} (adding : Adding V) (a b done : List (Entry V)) (i j : ℕ) (e : Entry V) → IsRising a → IsOfFirst a b i j e → AreMerged adding a b i j done → AreMerged adding a b (i + 1) j (done ++ e ∷ [])
step_first {V = W} adding a b done i j e rising next so =
    let below : AllBelow done e.key = below_at done (get_or a i e).key e.key (key_at a i e e next.within next.is) (so.below_first e next.within) in
    record {
      first = omega (arith, next.within);
      second = so.second;
      rising = rising_push done e so.rising below;
      merges = merges_first adding a b done i j e rising below next so.merges;
      below_first = λ d within. below_push done e (get_or a (i + 1) d).key below (next_above a i e d e.key rising within (key_at a i e d next.within next.is));
      below_second = λ d within. below_push done e (get_or b j d).key below (next.lower d within);
    }

step_second : {V : Type 0} (adding : Adding V) (a b done : List (Entry V)) (i j : ℕ) (e : Entry V) → IsRising b → IsOfFirst b a j i e → AreMerged adding a b i j done → AreMerged adding a b i (j + 1) (done ++ e ∷ [])
step_second {V = W} adding a b done i j e rising next so =
    let below : AllBelow done e.key = below_at done (get_or b j e).key e.key (key_at b j e e next.within next.is) (so.below_second e next.within) in
    record {
      first = so.first;
      second = omega (arith, next.within);
      rising = rising_push done e so.rising below;
      merges = merges_second adding a b done i j e rising below next so.merges;
      below_first = λ d within. below_push done e (get_or a i d).key below (next.lower d within);
      below_second = λ d within. below_push done e (get_or b (j + 1) d).key below (next_above b j e d e.key rising within (key_at b j e d next.within next.is));
    }

step_both : {V : Type 0} (adding : Adding V) (a b done : List (Entry V)) (i j : ℕ) (e : Entry V) → IsRising a → IsRising b → IsOfBoth adding a b i j e → AreMerged adding a b i j done → AreMerged adding a b (i + 1) (j + 1) (done ++ e ∷ [])
step_both {V = W} adding a b done i j e rising_a rising_b next so =
    let key_a : (d : Entry W) → (get_or a i d).key ≡ e.key = λ d. sym (ap (λ (z : Entry W). z.key) (next.is d)) in
    let key_b : (d : Entry W) → (get_or b j d).key ≡ e.key = λ d. sym (next.same d) ∙ key_a d in
    let below : AllBelow done e.key = below_at done (get_or a i e).key e.key (key_a e) (so.below_first e next.within_first) in
    record {
      first = omega (arith, next.within_first);
      second = omega (arith, next.within_second);
      rising = rising_push done e so.rising below;
      merges = merges_both adding a b done i j e rising_a rising_b below next so.merges;
      below_first = λ d within. below_push done e (get_or a (i + 1) d).key below (next_above a i e d e.key rising_a within (key_a d));
      below_second = λ d within. below_push done e (get_or b (j + 1) d).key below (next_above b j e d e.key rising_b within (key_b d));
    }

moved : {V : Type 0} (adding : Adding V) (a b done : List (Entry V)) (i j m n i' j' : ℕ) → m ≡ i' → n ≡ j' → AreMerged adding a b i' j' done → AreMerged adding a b m n done
moved adding a b done i j m n i' j' is_m is_n so = subst (λ (k : ℕ). AreMerged adding a b k n done) (sym is_m) (subst (λ (k : ℕ). AreMerged adding a b i' k done) (sym is_n) so)

pub merged_more : {V : Type 0} (adding : Adding V) (a b done : List (Entry V)) (i j : ℕ) (next : Next V) → IsRising a → IsRising b → IsNext adding a b i j next → AreMerged adding a b i j done → AreMerged adding a b (i + next.first) (j + next.second) (done ++ next.entry ∷ [])
merged_more {V = W} adding a b done i j next rising_a rising_b is so =
    let after : List (Entry W) = done ++ next.entry ∷ [] in
    ⊎_elim
    (λ (h : IsOfFirst a b i j next.entry × (next.first ≡ 1) × (next.second ≡ 0)).
    moved adding a b after i j (i + next.first) (j + next.second) (i + 1) j (ap (λ (k : ℕ). i + k) h.1) (let e : next.second ≡ 0 = h.2 in omega arith) (step_first adding a b done i j next.entry rising_a h.0 so))
    (⊎_elim
    (λ (h : IsOfFirst b a j i next.entry × (next.first ≡ 0) × (next.second ≡ 1)).
    moved adding a b after i j (i + next.first) (j + next.second) i (j + 1) (let e : next.first ≡ 0 = h.1 in omega arith) (ap (λ (k : ℕ). j + k) h.2) (step_second adding a b done i j next.entry rising_b h.0 so))
    (λ (h : IsOfBoth adding a b i j next.entry × (next.first ≡ 1) × (next.second ≡ 1)).
    moved adding a b after i j (i + next.first) (j + next.second) (i + 1) (j + 1) (ap (λ (k : ℕ). i + k) h.1) (ap (λ (k : ℕ). j + k) h.2) (step_both adding a b done i j next.entry rising_a rising_b h.0 so)))
    is

-- so many steps are left, fewer with each
pub fewer_left : {V : Type 0} (adding : Adding V) (a b : List (Entry V)) (i j : ℕ) (next : Next V) → IsNext adding a b i j next → (length a - (i + next.first)) + (length b - (j + next.second)) < (length a - i) + (length b - j)
fewer_left adding a b i j next is = ⊎_elim
    (λ (h : IsOfFirst a b i j next.entry × (next.first ≡ 1) × (next.second ≡ 0)). omega (arith, h.0.within, h.1, h.2))
    (⊎_elim
    (λ (h : IsOfFirst b a j i next.entry × (next.first ≡ 0) × (next.second ≡ 1)). omega (arith, h.0.within, h.1, h.2))
    (λ (h : IsOfBoth adding a b i j next.entry × (next.first ≡ 1) × (next.second ≡ 1)). omega (arith, h.0.within_first, h.0.within_second, h.1, h.2)))
    is

-- at the end both lists are done
pub merged_all : {V : Type 0} (adding : Adding V) (a b done : List (Entry V)) (i j : ℕ) → length a ≤ i → length b ≤ j → AreMerged adding a b i j done → Merges adding a b done
merged_all {V = W} adding a b done i j all_a all_b so =
    subst (λ (es : List (Entry W)). Merges adding es b done) (take_all i a all_a)
    (subst (λ (es : List (Entry W)). Merges adding (take i a) es done) (take_all j b all_b) so.merges)

-- ---- what is added up fits

pub fits_next : {V : Type 0} (adding : Adding V) (fits : V → Bool) (a b : List (Entry V)) (i j : ℕ) (d : Entry V) → IsRising a → IsRising b → CanMerge adding fits a b → i < length a → j < length b → (get_or a i d).key ≡ (get_or b j d).key →
    ((get_or a i d).count + (get_or b j d).count < 2 ^ 64) × (fits (adding.plus (get_or a i d).value (get_or b j d).value) ≡ true)
fits_next {V = W} adding fits a b i j d rising_a rising_b can within_a within_b same =
    let x : Entry W = get_or a i d in
    let y : Entry W = get_or b j d in
    let at_a : entry_at a x.key ≡ Some x = entry_at_place a x.key i x rising_a (is_at a i x.key within_a (λ e. ap (λ (z : Entry W). z.key) (get_or_default a i e d within_a))) (get_or_default a i x d within_a) in
    let at_b : entry_at b x.key ≡ Some y = entry_at_place b x.key j y rising_b (is_at b j x.key within_b (λ e. ap (λ (z : Entry W). z.key) (get_or_default b j e d within_b) ∙ sym same)) (get_or_default b j y d within_b) in
    let Fits : Option (Entry W) → Option (Entry W) → Type 0 = λ o p. IfSome o (λ u. IfSome p (λ v. (u.count + v.count < 2 ^ 64) × (fits (adding.plus u.value v.value) ≡ true))) in
    subst (λ (p : Option (Entry W)). Fits (Some x) p) at_b (subst (λ (o : Option (Entry W)). Fits o (entry_at b x.key)) at_a (can x.key))
