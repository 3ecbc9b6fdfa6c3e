-- Tallies by the sums that they have.
use Rattle.std.proofs.Common.{◌≡◌, ◌≤◌, Bool, true, false, cond, List, [], ◌∷◌, ◌++◌, Option, Some, None, sym, ap, refl, ◌∙◌, subst, arith}
use Rattle.std.specs.Prelude.{All, IfSome, filter, fold}
use Rattle.std.proofs.lemmas.Bool.{cond_both}
use Rattle.std.proofs.lemmas.List.Elements.{All-head, All-tail}
use Rattle.rc_geom.specs.declared.key.Key.{Key}
use Rattle.rc_geom.specs.Parts.{same_key}
use Rattle.rc_geom.specs.Sums.{Adding, IsNeutral, IsAdditive}
use Rattle.rc_geom.proofs.KeyTests.{one_key}
use Rattle.rc_tally.specs.declared.entry.Entry.{Entry}
use Rattle.rc_tally.specs.Tallies.{Sum, sums, sum_of, entry_of, sum_at, entry_at, joined, gathered, Grows, Merges, Gathers, HasSums, IsRising}
use Rattle.rc_tally.specs.Laws.{AreSound, NamesSound, sum_over, SumsAreKept}
use Rattle.rc_tally.proofs.Merging.{told_by_keys, sum_in, found_key, joined_sum}
use Rattle.rc_tally.proofs.Gathering.{gathered_append}

-- ---- tallies with the same sums

same_entry : {V : Type 0} (adding : Adding V) (q : Key) (o p : Option (Entry V)) → IfSome o (λ e. e.key ≡ q) → IfSome p (λ e. e.key ≡ q) → IfSome o (λ e. 1 ≤ e.count) → IfSome p (λ e. 1 ≤ e.count) → sum_in adding o ≡ sum_in adding p → o ≡ p
same_entry adding q None None key_o key_p some_o some_p same = refl
same_entry adding q (Some d) None key_o key_p some_o some_p same =
    let count : d.count ≡ 0 = ap (λ (s : Sum _). s.count) same in
    absurd (omega (arith, count, some_o))
same_entry adding q None (Some e) key_o key_p some_o some_p same =
    let count : 0 ≡ e.count = ap (λ (s : Sum _). s.count) same in
    absurd (omega (arith, count, some_p))
same_entry {V = W} adding q (Some d) (Some e) key_o key_p some_o some_p same =
    let key : d.key ≡ e.key = key_o ∙ sym key_p in
    ap Some (λ i. record { key = key i; count = (same i).count; value = (same i).value })

told_by_sums : {V : Type 0} (adding : Adding V) (named : Key → Sum V) (a b : List (Entry V)) → IsRising a → IsRising b → HasSums adding named a → HasSums adding named b → a ≡ b
told_by_sums adding named a b rising rising' has has' = told_by_keys a b rising rising'
    (λ q. same_entry adding q (entry_at a q) (entry_at b q) (found_key a q) (found_key b q) (has.some q) (has'.some q) (has.each q ∙ sym (has'.each q)))

-- ---- sound entries

sound_entry : {V : Type 0} (adding : Adding V) (sound : V → Bool) (o : Option (Entry V)) → sound (sum_in adding o).value ≡ true → IfSome o (λ e. sound e.value ≡ true)
sound_entry adding sound None h = record {}
sound_entry adding sound (Some e) h = h

-- the entries of a tally of sound sums are sound
pub names_sound : {V : Type 0} (adding : Adding V) (sound : V → Bool) (named : Key → Sum V) (a : List (Entry V)) → NamesSound sound named → HasSums adding named a → AreSound sound a
names_sound {V = W} adding sound named a of_named has q = sound_entry adding sound (entry_at a q) (ap (λ (s : Sum W). sound s.value) (has.each q) ∙ of_named q)

joined_some : {V : Type 0} (adding : Adding V) (o p : Option (Entry V)) → IfSome o (λ e. 1 ≤ e.count) → IfSome p (λ e. 1 ≤ e.count) → IfSome (joined adding o p) (λ e. 1 ≤ e.count)
joined_some adding None p h k = k
joined_some adding (Some d) None h k = h
joined_some adding (Some d) (Some e) h k = omega (arith, h, k)

-- ---- what is done carries the sums on

pub add_kept : {V : Type 0} (adding : Adding V) (sound : V → Bool) → IsNeutral adding sound → (named : Key → Sum V) (before after : List (Entry V)) (key : Key) (more : Sum V) → NamesSound sound named → sound more.value ≡ true → 1 ≤ more.count → HasSums adding named before → Grows adding before after key more → HasSums adding (λ q. cond (same_key key q) ((sums adding).plus (named q) more) (named q)) after
add_kept {V = W} adding sound laws named before after key more of_named of_more some has grows =
    let new : Option (Entry W) = Some (entry_of key more) in
    let own : sum_in adding (joined adding (entry_at before key) new) ≡ (sums adding).plus (named key) more =
    joined_sum adding sound laws (entry_at before key) new (names_sound adding sound named before of_named has key) of_more ∙ ap (λ (s : Sum W). (sums adding).plus s more) (has.each key) in
    let at : (q : Key) (b : Bool) → same_key key q ≡ b → sum_in adding (cond b (joined adding (entry_at before key) new) (entry_at before q)) ≡ cond b ((sums adding).plus (named q) more) (named q) =
    λ q b. elim b as (λ b. same_key key q ≡ b → sum_in adding (cond b (joined adding (entry_at before key) new) (entry_at before q)) ≡ cond b ((sums adding).plus (named q) more) (named q)) [
      | true ↦ λ same. own ∙ ap (λ (k : Key). (sums adding).plus (named k) more) (one_key key q same)
      | false ↦ λ other. has.each q
    ] in
    record {
      each = λ q. ap (sum_in adding) (grows q) ∙ at q (same_key key q) refl;
      some = λ q. subst (λ (o : Option (Entry W)). IfSome o (λ e. 1 ≤ e.count)) (sym (grows q))
          (cond_both (same_key key q) (joined adding (entry_at before key) new) (entry_at before q) (λ (o : Option (Entry W)). IfSome o (λ e. 1 ≤ e.count)) (λ _. joined_some adding (entry_at before key) new (has.some key) some) (λ _. has.some q));
    }

pub merge_kept : {V : Type 0} (adding : Adding V) (sound : V → Bool) → IsNeutral adding sound → (named named' : Key → Sum V) (a b c : List (Entry V)) → NamesSound sound named → NamesSound sound named' → HasSums adding named a → HasSums adding named' b → Merges adding a b c → HasSums adding (λ q. (sums adding).plus (named q) (named' q)) c
merge_kept {V = W} adding sound laws named named' a b c of_a of_b has_a has_b merges = record {
  each = λ q. ap (sum_in adding) (merges q)
      ∙ (joined_sum adding sound laws (entry_at a q) (entry_at b q) (names_sound adding sound named a of_a has_a q) (names_sound adding sound named' b of_b has_b q)
      ∙ (ap (λ (s : Sum W). (sums adding).plus s (sum_at adding b q)) (has_a.each q) ∙ ap ((sums adding).plus (named q)) (has_b.each q)));
  some = λ q. subst (λ (o : Option (Entry W)). IfSome o (λ e. 1 ≤ e.count)) (sym (merges q)) (joined_some adding (entry_at a q) (entry_at b q) (has_a.some q) (has_b.some q));
}

-- ---- lists that are gathered

-- from what there is, the entries of a key one after another, and their sums
IsSoundSome : {V : Type 0} → (V → Bool) → Option (Entry V) → Type 0
IsSoundSome sound o = IfSome o (λ e. sound e.value ≡ true)

gathered_sum : {V : Type 0} (adding : Adding V) (sound : V → Bool) → IsNeutral adding sound → (key : Key) (es : List (Entry V)) (o : Option (Entry V)) → All (λ e. sound e.value ≡ true) es → IfSome o (λ e. sound e.value ≡ true) →
    sum_in adding (fold (λ p e. joined adding p (Some e)) o (filter (λ e. same_key e.key key) es)) ≡ fold (λ s e. (sums adding).plus s (sum_of e)) (sum_in adding o) (filter (λ e. same_key e.key key) es)
gathered_sum adding sound laws key [] o of_es of_o = refl
gathered_sum {V = W} adding sound laws key (x ∷ es) o of_es of_o =
    let of_x : sound x.value ≡ true = All-head (λ (e : Entry W). sound e.value ≡ true) x es of_es in
    let of_rest = All-tail (λ (e : Entry W). sound e.value ≡ true) x es of_es in
    let rest = filter (λ (e : Entry W). same_key e.key key) es in
    let one : sum_in adding (joined adding o (Some x)) ≡ (sums adding).plus (sum_in adding o) (sum_of x) = joined_sum adding sound laws o (Some x) of_o of_x in
    elim (same_key x.key key) as (λ b. sum_in adding (fold (λ p e. joined adding p (Some e)) o (cond b (x ∷ rest) rest)) ≡ fold (λ s e. (sums adding).plus s (sum_of e)) (sum_in adding o) (cond b (x ∷ rest) rest)) [
      | true ↦ gathered_sum adding sound laws key es (joined adding o (Some x)) of_rest (sound_more adding sound laws o x of_o of_x) ∙ ap (λ (s : Sum W). fold (λ s e. (sums adding).plus s (sum_of e)) s rest) one
      | false ↦ gathered_sum adding sound laws key es o of_rest of_o
    ]
  where
    sound_more : {V : Type 0} (adding : Adding V) (sound : V → Bool) → IsNeutral adding sound → (o : Option (Entry V)) (e : Entry V) → IfSome o (λ e. sound e.value ≡ true) → sound e.value ≡ true → IfSome (joined adding o (Some e)) (λ e. sound e.value ≡ true)
    sound_more adding sound laws None e of_o of_e = of_e
    sound_more adding sound laws (Some d) e of_o of_e = laws.closed d.value e.value of_o of_e

gathered_some : {V : Type 0} (adding : Adding V) (key : Key) (es : List (Entry V)) (o : Option (Entry V)) → All (λ e. 1 ≤ e.count) es → IfSome o (λ e. 1 ≤ e.count) → IfSome (fold (λ p e. joined adding p (Some e)) o (filter (λ e. same_key e.key key) es)) (λ e. 1 ≤ e.count)
gathered_some adding key [] o some some_o = some_o
gathered_some {V = W} adding key (x ∷ es) o some some_o =
    let one : 1 ≤ x.count = All-head (λ (e : Entry W). 1 ≤ e.count) x es some in
    let rest = filter (λ (e : Entry W). same_key e.key key) es in
    let others = All-tail (λ (e : Entry W). 1 ≤ e.count) x es some in
    elim (same_key x.key key) as (λ b. IfSome (fold (λ p e. joined adding p (Some e)) o (cond b (x ∷ rest) rest)) (λ e. 1 ≤ e.count)) [
      | true ↦ gathered_some adding key es (joined adding o (Some x)) others (joined_some adding o (Some x) some_o one)
      | false ↦ gathered_some adding key es o others some_o
    ]

pub gather_kept : {V : Type 0} (adding : Adding V) (sound : V → Bool) → IsNeutral adding sound → (list after : List (Entry V)) → All (λ e. sound e.value ≡ true) list → All (λ e. 1 ≤ e.count) list → Gathers adding list after → HasSums adding (sum_over adding list) after
gather_kept {V = W} adding sound laws list after of_list some gathers = record {
  each = λ q. ap (sum_in adding) (gathers q) ∙ gathered_sum adding sound laws q list None of_list (record {});
  some = λ q. subst (λ (o : Option (Entry W)). IfSome o (λ e. 1 ≤ e.count)) (sym (gathers q)) (gathered_some adding q list None some (record {}));
}

pub gathers_one_more : {V : Type 0} (adding : Adding V) (list before after : List (Entry V)) (e : Entry V) → Gathers adding list before → Grows adding before after e.key (sum_of e) → Gathers adding (list ++ e ∷ []) after
gathers_one_more {V = W} adding list before after e gathers grows q =
    let o = gathered adding list q in
    let own : (b : Bool) → same_key e.key q ≡ b → cond b (joined adding (entry_at before e.key) (Some e)) (entry_at before q) ≡ fold (λ p d. joined adding p (Some d)) o (cond b (e ∷ []) []) =
    λ b. elim b as (λ b. same_key e.key q ≡ b → cond b (joined adding (entry_at before e.key) (Some e)) (entry_at before q) ≡ fold (λ p d. joined adding p (Some d)) o (cond b (e ∷ []) [])) [
      | true ↦ λ same. ap (λ (p : Option (Entry W)). joined adding p (Some e)) (ap (entry_at before) (one_key e.key q same) ∙ gathers q)
      | false ↦ λ other. gathers q
    ] in
    grows q ∙ (own (same_key e.key q) refl ∙ sym (gathered_append adding list (e ∷ []) q))

pub sums_are_kept : {V : Type 0} (adding : Adding V) (sound : V → Bool) → IsAdditive adding sound → SumsAreKept adding sound
sums_are_kept adding sound laws = record {
  told_by_sums = told_by_sums adding;
  add = add_kept adding sound laws.neutral;
  merge = merge_kept adding sound laws.neutral;
  gather = gather_kept adding sound laws.neutral;
  one_more = gathers_one_more adding;
}
