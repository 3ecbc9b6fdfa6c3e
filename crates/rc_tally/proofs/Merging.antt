-- Neither the order nor the grouping of merges matters.
use Rattle.std.proofs.Common.{◌≡◌, ℕ, zero, suc, ◌<◌, Bool, true, false, List, [], ◌∷◌, length, get_or, Option, Some, None, ⊎_elim, sym, ap, refl, ◌∙◌, arith}
use Rattle.std.specs.Prelude.{IfSome}
use Rattle.std.specs.Option.{option_map_or}
use Rattle.std.specs.declared.cmp.Ordering.{Ordering}
use Rattle.std.specs.declared.cmp.Ordering.TheVariants.{Less, Equal, Greater}
use Rattle.std.proofs.lemmas.Bool.{cases_Bool, cond_both}
use Rattle.rc_geom.specs.declared.key.Key.{Key}
use Rattle.rc_geom.specs.Parts.{same_key}
use Rattle.rc_geom.specs.Sums.{Adding, IsNeutral, IsAdditive}
use Rattle.rc_geom.proofs.KeyTests.{one_key}
use Rattle.rc_tally.specs.declared.entry.Entry.{Entry}
use Rattle.rc_tally.specs.Tallies.{Sum, sums, sum_of, entry_at, both, joined, Merges, IsRising, key_order}
use Rattle.rc_tally.specs.Laws.{MergesAdd}
use Rattle.rc_tally.proofs.Orders.{key_total, more_differs, more_is_less, equal_is_same}
use Rattle.rc_tally.proofs.Places.{entry_absent, same_itself, skip, hit}

-- ---- rising entries are told by what each key has

rising_tail : {V : Type 0} (x : Entry V) (xs : List (Entry V)) → IsRising (x ∷ xs) → IsRising xs
rising_tail x xs rising i j d less within = rising (suc i) (suc j) d (omega (arith, less)) (omega (arith, within))

head_below : {V : Type 0} (x : Entry V) (xs : List (Entry V)) → IsRising (x ∷ xs) → (j : ℕ) (d : Entry V) → j < length xs → key_order x.key (get_or xs j d).key ≡ Less
head_below x xs rising j d within = rising 0 (suc j) d (omega arith) (omega (arith, within))

-- a key below all isn't found
absent_below : {V : Type 0} (es : List (Entry V)) (key : Key) → ((j : ℕ) (d : Entry V) → j < length es → key_order key (get_or es j d).key ≡ Less) → entry_at es key ≡ None
absent_below es key below = entry_absent es key (λ j d less. more_differs (get_or es j d).key key (below j d less))

all_below : {V : Type 0} (y : Entry V) (ys : List (Entry V)) (key : Key) → IsRising (y ∷ ys) → key_order key y.key ≡ Less → (j : ℕ) (d : Entry V) → j < length (y ∷ ys) → key_order key (get_or (y ∷ ys) j d).key ≡ Less
all_below y ys key rising low zero d within = low
all_below y ys key rising low (suc j) d within = key_total.trans key y.key (get_or ys j d).key low (head_below y ys rising j d (omega (arith, within)))

tail_absent : {V : Type 0} (x : Entry V) (xs : List (Entry V)) → IsRising (x ∷ xs) → entry_at xs x.key ≡ None
tail_absent x xs rising = absent_below xs x.key (head_below x xs rising)

found_first : {V : Type 0} (x : Entry V) (xs : List (Entry V)) → entry_at (x ∷ xs) x.key ≡ Some x
found_first x xs = hit x xs x.key (same_itself x.key)

is_found : {V : Type 0} (x : Entry V) → Some x ≡ None → suc zero ≡ zero
is_found x e = ap (λ (o : Option (Entry _)). option_map_or (λ _. suc zero) o zero) e

tails_agree : {V : Type 0} (x y : Entry V) (xs ys : List (Entry V)) → IsRising (x ∷ xs) → IsRising (y ∷ ys) → x.key ≡ y.key → ((q : Key) → entry_at (x ∷ xs) q ≡ entry_at (y ∷ ys) q) → (q : Key) → entry_at xs q ≡ entry_at ys q
tails_agree x y xs ys rising rising' same agree q = ⊎_elim
    (λ (here : same_key x.key q ≡ true).
    let is : x.key ≡ q = one_key x.key q here in
    ap (entry_at xs) (sym is) ∙ (tail_absent x xs rising ∙ sym (ap (entry_at ys) (sym is ∙ same) ∙ tail_absent y ys rising')))
    (λ (there : same_key x.key q ≡ false).
    sym (skip x xs q there) ∙ (agree q ∙ skip y ys q (ap (λ (k : Key). same_key k q) (sym same) ∙ there)))
    (cases_Bool (same_key x.key q))

heads_equal : {V : Type 0} (x y : Entry V) (xs ys : List (Entry V)) → x.key ≡ y.key → ((q : Key) → entry_at (x ∷ xs) q ≡ entry_at (y ∷ ys) q) → x ≡ y
heads_equal x y xs ys same agree =
    ap (λ (o : Option (Entry _)). option_map_or (λ e. e) o x) (sym (found_first x xs) ∙ (agree x.key ∙ hit y ys x.key (ap (λ (k : Key). same_key k x.key) (sym same) ∙ same_itself x.key)))

same_key_first : {V : Type 0} (x y : Entry V) (xs ys : List (Entry V)) → IsRising (x ∷ xs) → IsRising (y ∷ ys) → ((q : Key) → entry_at (x ∷ xs) q ≡ entry_at (y ∷ ys) q) → (o : Ordering) → key_order x.key y.key ≡ o → x.key ≡ y.key
same_key_first x y xs ys rising rising' agree Less h =
    absurd (omega (arith, is_found x (sym (found_first x xs) ∙ (agree x.key ∙ absent_below (y ∷ ys) x.key (all_below y ys x.key rising' h)))))
same_key_first x y xs ys rising rising' agree Equal h = one_key x.key y.key (equal_is_same x.key y.key h)
same_key_first x y xs ys rising rising' agree Greater h =
    absurd (omega (arith, is_found y (sym (found_first y ys) ∙ (sym (agree y.key) ∙ absent_below (x ∷ xs) y.key (all_below x xs y.key rising (more_is_less x.key y.key h))))))

pub told_by_keys : {V : Type 0} (a b : List (Entry V)) → IsRising a → IsRising b → ((q : Key) → entry_at a q ≡ entry_at b q) → a ≡ b
told_by_keys [] [] rising rising' agree = refl
told_by_keys [] (y ∷ ys) rising rising' agree = absurd (omega (arith, is_found y (sym (found_first y ys) ∙ sym (agree y.key))))
told_by_keys (x ∷ xs) [] rising rising' agree = absurd (omega (arith, is_found x (sym (found_first x xs) ∙ agree x.key)))
told_by_keys {V = W} (x ∷ xs) (y ∷ ys) rising rising' agree =
    let same : x.key ≡ y.key = same_key_first x y xs ys rising rising' agree (key_order x.key y.key) refl in
    ap (λ (e : Entry W). e ∷ xs) (heads_equal x y xs ys same agree)
    ∙ ap (λ (es : List (Entry W)). y ∷ es) (told_by_keys xs ys (rising_tail x xs rising) (rising_tail y ys rising') (tails_agree x y xs ys rising rising' same agree))

-- ---- what a merge has for one key

abbrev pub sum_in : {V : Type 0} → Adding V → Option (Entry V) → Sum V
sum_in adding s = option_map_or sum_of s ((sums adding).none)

entry_is : {V : Type 0} (x y : Entry V) → x.key ≡ y.key → x.count ≡ y.count → x.value ≡ y.value → x ≡ y
entry_is x y key count value = λ i. record { key = key i; count = count i; value = value i }

-- sums are one where both parts are
pub sum_is : {V : Type 0} (a b : Sum V) → a.count ≡ b.count → a.value ≡ b.value → a ≡ b
sum_is a b count value = λ i. record { count = count i; value = value i }

pub found_key : {V : Type 0} (es : List (Entry V)) (q : Key) → IfSome (entry_at es q) (λ e. e.key ≡ q)
found_key [] q = record {}
found_key (x ∷ xs) q = cond_both (same_key x.key q) (Some x) (entry_at xs q) (λ (o : Option (Entry _)). IfSome o (λ e. e.key ≡ q)) (λ same. one_key x.key q same) (λ _. found_key xs q)

pub joined_swap : {V : Type 0} (adding : Adding V) (sound : V → Bool) → IsAdditive adding sound → (q : Key) (s t : Option (Entry V)) → IfSome s (λ e. e.key ≡ q) → IfSome t (λ e. e.key ≡ q) → IfSome s (λ e. sound e.value ≡ true) → IfSome t (λ e. sound e.value ≡ true) → joined adding s t ≡ joined adding t s
joined_swap adding sound laws q None None key_s key_t of_s of_t = refl
joined_swap adding sound laws q (Some e) None key_s key_t of_s of_t = refl
joined_swap adding sound laws q None (Some f) key_s key_t of_s of_t = refl
joined_swap adding sound laws q (Some e) (Some f) key_s key_t of_s of_t =
    ap Some (entry_is (both adding e f) (both adding f e) (key_s ∙ sym key_t) (omega arith) (laws.swap e.value f.value of_s of_t))

pub joined_regroup : {V : Type 0} (adding : Adding V) (sound : V → Bool) → IsAdditive adding sound → (s t u : Option (Entry V)) → IfSome s (λ e. sound e.value ≡ true) → IfSome t (λ e. sound e.value ≡ true) → IfSome u (λ e. sound e.value ≡ true) → joined adding (joined adding s t) u ≡ joined adding s (joined adding t u)
joined_regroup adding sound laws None t u of_s of_t of_u = refl
joined_regroup adding sound laws (Some e) None u of_s of_t of_u = refl
joined_regroup adding sound laws (Some e) (Some f) None of_s of_t of_u = refl
joined_regroup adding sound laws (Some e) (Some f) (Some g) of_s of_t of_u =
    ap Some (entry_is (both adding (both adding e f) g) (both adding e (both adding f g)) refl (omega arith) (laws.regroup e.value f.value g.value of_s of_t of_u))

-- what both have is the sum of what each has
pub joined_sum : {V : Type 0} (adding : Adding V) (sound : V → Bool) → IsNeutral adding sound → (s t : Option (Entry V)) → IfSome s (λ e. sound e.value ≡ true) → IfSome t (λ e. sound e.value ≡ true) → sum_in adding (joined adding s t) ≡ (sums adding).plus (sum_in adding s) (sum_in adding t)
joined_sum adding sound laws None None of_s of_t = sum_is ((sums adding).none) ((sums adding).plus ((sums adding).none) ((sums adding).none)) (omega arith) (sym (laws.after adding.none laws.start))
joined_sum adding sound laws (Some e) None of_s of_t = sum_is (sum_of e) ((sums adding).plus (sum_of e) ((sums adding).none)) (omega arith) (sym (laws.after e.value of_s))
joined_sum adding sound laws None (Some f) of_s of_t = sum_is (sum_of f) ((sums adding).plus ((sums adding).none) (sum_of f)) (omega arith) (sym (laws.before f.value of_t))
joined_sum adding sound laws (Some e) (Some f) of_s of_t = refl

-- ---- the laws

neither_has : {V : Type 0} (adding : Adding V) (a b c : List (Entry V)) → Merges adding a b c → (q : Key) → entry_at a q ≡ None → entry_at b q ≡ None → entry_at c q ≡ None
neither_has adding a b c merges q none none' = merges q ∙ (ap (λ (o : Option (Entry _)). joined adding o (entry_at b q)) none ∙ none')

pub merges_add : {V : Type 0} (adding : Adding V) (sound : V → Bool) → IsAdditive adding sound → MergesAdd adding sound
merges_add {V = W} adding sound laws = record {
  told_by_keys = told_by_keys;
  sum = λ a b c of_a of_b merges q. ap (sum_in adding) (merges q) ∙ joined_sum adding sound laws.neutral (entry_at a q) (entry_at b q) (of_a q) (of_b q);
  neither = neither_has adding;
  swap = λ a b c d of_a of_b rising rising' merges merges'. told_by_keys c d rising rising'
      (λ q. merges q ∙ (joined_swap adding sound laws q (entry_at a q) (entry_at b q) (found_key a q) (found_key b q) (of_a q) (of_b q) ∙ sym (merges' q)));
  regroup = λ a b c left right all all' of_a of_b of_c rising rising' ab ab_c bc a_bc. told_by_keys all all' rising rising'
      (λ q. ab_c q
      ∙ (ap (λ (o : Option (Entry W)). joined adding o (entry_at c q)) (ab q)
      ∙ (joined_regroup adding sound laws (entry_at a q) (entry_at b q) (entry_at c q) (of_a q) (of_b q) (of_c q)
      ∙ sym (a_bc q ∙ ap (joined adding (entry_at a q)) (bc q)))));
}
