-- Positions of entries that are brought to the lists of their nets.
use Rattle.std.proofs.Common.{◌≡◌, ◌<◌, ◌+◌, ⊎_elim, ℕ, Bool, true, false, cond, eqb, List, [], ◌∷◌, ◌++◌, length, get_or, set, take, replicate, refl, ap, sym, subst, ◌∙◌, arith, length-set}
use Rattle.std.specs.Prelude.{◌||◌, slice_get, Option, Some, None, Result, Ok, Err, OnOk}
use Rattle.std.specs.List.{cons_option, filter_map}
use Rattle.std.specs.Option.{option_and_then}
use Rattle.std.proofs.lemmas.Bool.{cases_eq, cases_Bool, eq-eqb, eqb-true, true≢false}
use Rattle.std.proofs.lemmas.List.{append-nil, append_assoc, take_more, get_or_default, get_or-set_same, get_or-set_other, get_or-replicate, length-replicate}
use Rattle.std.proofs.lemmas.List.Elements.{filter_map-append}
use Rattle.std.proofs.lemmas.Option.{slice_get-get_or}
use Rattle.rc_geom.specs.declared.key.Key.{Key}
use Rattle.rc_geom.specs.declared.key.Key.TheVariants.{Ground, Pair}
use Rattle.rc_tally.specs.declared.entry.Entry.{Entry}
use Rattle.rc_engine.specs.declared.positions.Position.{Position}
use Rattle.rc_engine.specs.Brought.{own_by, own_of, own_at, owned, owned_at, entry_at, turned_about, has_net, ArePositions, Brings, Joins}
use Rattle.rc_engine.proofs.Steps.{made_more}

abbrev pub Entries : Type 0
Entries = List (Entry ℕ)

abbrev pub Lists : Type 0
Lists = List (List Position)

-- ---- one after another

pub brings_nothing : (tallies : List Entries) (lists : Lists) → Brings tallies lists lists []
brings_nothing tallies lists = record { count = refl; owned = λ earlier own net within. own net within ∙ ap (owned net) (sym (append-nil earlier)) }

pub brings_both : (tallies : List Entries) (before between after : Lists) (first second : Entries) → Brings tallies before between first → Brings tallies between after second → Brings tallies before after (first ++ second)
brings_both tallies before between after first second one two = record {
  count = two.count ∙ one.count;
  owned = λ earlier own net within.
      two.owned (earlier ++ first) (one.owned earlier own) net within ∙ ap (owned net) (append_assoc earlier first second);
}

-- no entries, no positions
pub brought_from_empty : (tallies : List Entries) (n : ℕ) → ArePositions tallies (replicate n []) []
unfolding owned owned_at
brought_from_empty tallies n net within = ap (owned_at tallies net) (get_or-replicate n net [] [] (subst (λ (m : ℕ). net < m) (length-replicate n []) within))

-- ---- one entry

abbrev pub gains : Entries → Option (Entry ℕ) → Entries
gains list own = list ++ cons_option own []

owned_more : (net : ℕ) (earlier : Entries) (e : Entry ℕ) → owned net (earlier ++ e ∷ []) ≡ gains (owned net earlier) (own_of net e)
unfolding owned
owned_more net earlier e = filter_map-append (own_of net) earlier (e ∷ [])

pub owned_at_more : (tallies : List Entries) (net : ℕ) (positions : List Position) (at : Position) → owned_at tallies net (positions ++ at ∷ []) ≡ gains (owned_at tallies net positions) (own_at tallies net at)
unfolding owned_at
owned_at_more tallies net positions at = filter_map-append (own_at tallies net) positions (at ∷ [])

neither : (x y : Bool) (a b : Option (Entry ℕ)) → (x || y) ≡ false → cond x a (cond y b None) ≡ None
neither true y a b is = absurd (true≢false is)
neither false true a b is = absurd (true≢false is)
neither false false a b is = refl

no_net : (net : ℕ) (e : Entry ℕ) (key : Key) → has_net key net ≡ false → own_by net e key ≡ None
no_net net e (Ground n a) is = ap (λ (t : Bool). cond t (Some e) None) is
no_net net e (Pair n a o b) is = neither (eqb n net) (eqb o net) (Some e) (Some (turned_about e (Pair n a o b))) is

-- the list of a net that the key has, and of one that it hasn't
net_more :
    (tallies : List Entries) (net : ℕ) (earlier : Entries) (list after : List Position) (e : Entry ℕ) (at : Position) (t : Bool) → entry_at tallies at ≡ Some e → has_net e.key net ≡ t → owned_at tallies net list ≡ owned net earlier
    → after ≡ cond t (list ++ at ∷ []) list → owned_at tallies net after ≡ owned net (earlier ++ e ∷ [])
net_more tallies net earlier list after e at true there is had put =
    ap (owned_at tallies net) put ∙ owned_at_more tallies net list at ∙ ap (λ (l : Entries). gains l (own_at tallies net at)) had
    ∙ ap (λ (o : Option (Entry ℕ)). gains (owned net earlier) (option_and_then (own_of net) o)) there ∙ sym (owned_more net earlier e)
net_more tallies net earlier list after e at false there is had put =
    ap (owned_at tallies net) put ∙ had ∙ sym (append-nil (owned net earlier)) ∙ ap (gains (owned net earlier)) (sym (no_net net e e.key is)) ∙ sym (owned_more net earlier e)

pub brings_one : (tallies : List Entries) (before after : Lists) (e : Entry ℕ) (at : Position) → entry_at tallies at ≡ Some e → Joins before after e.key at → Brings tallies before after (e ∷ [])
brings_one tallies before after e at there joins = record {
  count = joins.count;
  owned = λ earlier own net within.
      let here : net < length before = subst (λ (n : ℕ). net < n) joins.count within in
      net_more tallies net earlier (get_or before net []) (get_or after net []) e at (has_net e.key net) there refl (own net here) (joins.lists net here);
}

-- ---- in loops

-- the entry at a place of a window
entry_there :
    (tallies : List Entries) (window place : ℕ) (tally entries : Entries) (d : Entry ℕ) → window < length tallies → tally ≡ get_or tallies window tally → entries ≡ tally → place < length entries
    → entry_at tallies (record { window = window; place = place }) ≡ Some (get_or entries place d)
entry_there tallies window place tally entries d within is same there =
    ap (option_and_then (λ (t : Entries). slice_get t place)) (slice_get-get_or tallies window tally within ∙ ap Some (sym is)) ∙ ap (λ (t : Entries). slice_get t place) (sym same)
    ∙ slice_get-get_or entries place d there

-- one entry of a window more
pub enter_more :
    (tallies : List Entries) (start before after : Lists) (window place : ℕ) (tally entries : Entries) (d : Entry ℕ) → window < length tallies → tally ≡ get_or tallies window tally → entries ≡ tally → place < length entries
    → Brings tallies start before (take place (get_or tallies window [])) → Joins before after (get_or entries place d).key (record { window = window; place = place }) → Brings tallies start after (take (place + 1) (get_or tallies window []))
enter_more tallies start before after window place tally entries d within is same there so_far joins =
    let all : entries ≡ get_or tallies window [] = same ∙ is ∙ get_or_default tallies window tally [] within in
    let e = get_or entries place d in
    let one = brings_one tallies before after e (record { window = window; place = place }) (entry_there tallies window place tally entries d within is same there) joins in
    subst (λ (es : Entries). Brings tallies start after es)
    (ap (λ (es : Entries). take place es ++ e ∷ []) (sym all) ∙ sym (take_more entries place d there) ∙ ap (λ (es : Entries). take (place + 1) es) all)
    (brings_both tallies start before after (take place (get_or tallies window [])) (e ∷ []) so_far one)

-- what stands at one position more
pub gathered_more :
    (tallies : List Entries) (net : ℕ) (positions : List Position) (i : ℕ) (d : Position) (before after : Entries) (own : Option (Entry ℕ)) → i < length positions → own ≡ own_at tallies net (get_or positions i d)
    → before ≡ owned_at tallies net (take i positions) → after ≡ gains before own → after ≡ owned_at tallies net (take (i + 1) positions)
unfolding owned_at
gathered_more tallies net positions i d before after own within gives so_far put = made_more (own_at tallies net) positions i d before after own within gives so_far put

-- ---- putting a position to one list, or to two

differs : (n k : ℕ) → (n ≡ k → ⊥) → eqb n k ≡ false
differs n k differ = ⊎_elim (λ same. absurd (differ (eqb-true n k same))) (λ other. other) (cases_Bool (eqb n k))

put_at : (lists : Lists) (n k : ℕ) (at : Position) → n < length lists → get_or (set lists n (get_or lists n [] ++ at ∷ [])) k [] ≡ cond (eqb n k) (get_or lists k [] ++ at ∷ []) (get_or lists k [])
put_at lists n k at within = ⊎_elim
    (λ (same : n ≡ k).
    subst (λ (j : ℕ). get_or (set lists n (get_or lists n [] ++ at ∷ [])) j [] ≡ get_or lists j [] ++ at ∷ []) same (get_or-set_same lists n (get_or lists n [] ++ at ∷ []) [] within)
    ∙ ap (λ (t : Bool). cond t (get_or lists k [] ++ at ∷ []) (get_or lists k [])) (sym (eq-eqb n k same)))
    (λ (differ : n ≡ k → ⊥).
    get_or-set_other lists n k (get_or lists n [] ++ at ∷ []) [] (λ same. differ (sym same))
    ∙ ap (λ (t : Bool). cond t (get_or lists k [] ++ at ∷ []) (get_or lists k [])) (sym (differs n k differ)))
    (cases_eq n k)

pub joins_ground : (lists after : Lists) (n a : ℕ) (at : Position) → n < length lists → after ≡ set lists n (get_or lists n [] ++ at ∷ []) → Joins lists after (Ground n a) at
joins_ground lists after n a at within put = record {
  count = ap length put ∙ length-set lists n (get_or lists n [] ++ at ∷ []);
  lists = λ net here. ap (λ (ls : Lists). get_or ls net []) put ∙ put_at lists n net at within;
}

-- of two different nets each gains the position once
twice : (x y : Bool) (list : List Position) (at : Position) → (x ≡ true → y ≡ true → ⊥) → cond y (cond x (list ++ at ∷ []) list ++ at ∷ []) (cond x (list ++ at ∷ []) list) ≡ cond (x || y) (list ++ at ∷ []) list
twice true true list at apart = absurd (apart refl refl)
twice true false list at apart = refl
twice false true list at apart = refl
twice false false list at apart = refl

pub joins_pair :
    (lists between after : Lists) (n a o b : ℕ) (at : Position) → n < o → o < length lists → between ≡ set lists n (get_or lists n [] ++ at ∷ []) → after ≡ set between o (get_or between o [] ++ at ∷ []) → Joins lists after (Pair n a o b) at
joins_pair lists between after n a o b at order within put put' = record {
  count = ap length put' ∙ length-set between o (get_or between o [] ++ at ∷ []) ∙ long;
  lists = λ net here.
      ap (λ (ls : Lists). get_or ls net []) put' ∙ put_at between o net at (subst (λ (m : ℕ). o < m) (sym long) within)
      ∙ ap (λ (l : List Position). cond (eqb o net) (l ++ at ∷ []) l) (ap (λ (ls : Lists). get_or ls net []) put ∙ put_at lists n net at (omega (arith, order, within)))
      ∙ twice (eqb n net) (eqb o net) (get_or lists net []) at (λ first second. apart (eqb-true n net first) (eqb-true o net second));
}
  where
    long : length between ≡ length lists
    long = ap length put ∙ length-set lists n (get_or lists n [] ++ at ∷ [])

    apart : {net : ℕ} → n ≡ net → o ≡ net → ⊥
    apart first second = omega (arith, first, second, order)

-- ---- answers

pub on_ok : {T E : Type 0} {P Q : Type 0} (r : Result T E) → (P → Q) → OnOk r P → OnOk r Q
on_ok (Ok value) f h = f h
on_ok (Err error) f h = h
