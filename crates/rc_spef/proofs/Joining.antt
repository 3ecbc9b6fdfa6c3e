-- Couplings by their ends, and what a look-up of them tells.
use Rattle.std.proofs.Common.{◌≡◌, ◌∙◌, ℕ, zero, suc, ◌+◌, ◌<◌, ◌≤◌, Bool, true, false, cond, List, [], ◌∷◌, ◌++◌, length, map, take, drop, get_or, refl, ap, sym, subst, arith, Option, Some, None}
use Rattle.std.specs.Prelude.{◌==◌, ◌&&◌, ◌||◌, count_by, filter_map, is_none, is_some}
use Rattle.std.specs.List.{list_all, list_any, cons_option}
use Rattle.std.specs.HashMap.{HashMap, get}
use Rattle.indexmap.specs.IndexMap.{insert_entry}
use Rattle.indexmap.proofs.CallerLemmas.{insert_entry-new}
use Rattle.std.proofs.lemmas.List.{take_more, map-append, take-append-drop}
use Rattle.std.proofs.Math.Seq.{drop-cons}
use Rattle.std.specs.Map.{lookup}
use Rattle.std.proofs.lemmas.Bool.{ne_eqb, eqb-true}
use Rattle.std.proofs.lemmas.List.Sums.{sum_by-append, sum_by_push}
use Rattle.rc_spef.specs.contracts.joint.JointPartialEq.TheImpl.{eq-value as joint_eq}
use Rattle.rc_spef.specs.contracts.name_map.BehindPartialEq.TheImpl.{eq-value as behind_eq}
use Rattle.rc_spef.specs.declared.value.Cap.{Cap}
use Rattle.rc_spef.specs.declared.value.End.{End}
use Rattle.rc_spef.specs.declared.value.DNet.{DNet}
use Rattle.rc_spef.specs.declared.joint.Joint.{Joint}
use Rattle.rc_spef.specs.declared.joint.Entry.{Entry}
use Rattle.rc_spef.specs.declared.name_map.Behind.{Behind}
use Rattle.rc_spef.specs.declared.name_map.Behind.TheVariants as behind
use Rattle.rc_spef.specs.SameTests.{same_sub}
use Rattle.rc_spef.specs.Means.{sub_seen, end_seen}
use Rattle.rc_spef.specs.Balance.{Coupling, coupling_of, couplings, leads, is_turned, is_partner}
use Rattle.rc_spef.specs.BalanceTests.{leads_out, is_single, is_once, has_partner, pair_up}
use Rattle.rc_spef.specs.Joints.{entry_seen, seen, pair_of, same_joint, turned, is_found, finds_partner, passes_out, cap_leads_out, CountsNames, is_counted_once}
use Rattle.rc_spef.proofs.Members.{all_pass, passes, counted, some_counted, count_cons, in_middle, bit, bit_is}
use Rattle.rc_spef.proofs.Balancing.{leads_is, leads_itself}

-- ---- capacitances that are couplings

pub lead_out_same : (name : ℕ) (caps : List Cap) → list_all (cap_leads_out name) caps ≡ list_all (leads_out name) (filter_map coupling_of caps)
lead_out_same name [] = refl
lead_out_same name (cap ∷ caps) = by (coupling_of cap) (lead_out_same name caps)
  where
    by : (c : Option Coupling) → list_all (cap_leads_out name) caps ≡ list_all (leads_out name) (filter_map coupling_of caps) →
        (passes_out name c && list_all (cap_leads_out name) caps) ≡ list_all (leads_out name) (cons_option c (filter_map coupling_of caps))
    by None is = is
    by (Some c) is = ap (λ b. leads_out name c && b) is

pub grounded_same : (caps : List Cap) → list_all (λ cap. is_none cap.b) caps ≡ (length (filter_map coupling_of caps) == 0)
grounded_same [] = refl
grounded_same (cap ∷ caps) = by cap.b (grounded_same caps)
  where
    by : (b : Option End) → list_all (λ cap. is_none cap.b) caps ≡ (length (filter_map coupling_of caps) == 0) →
        (is_none b && list_all (λ cap. is_none cap.b) caps) ≡ (length (cons_option (coupling_of (record cap { b = b })) (filter_map coupling_of caps)) == 0)
    by None is = is
    by (Some end) is = let n : ℕ = length (filter_map coupling_of caps) in sym (ne_eqb (suc n) 0 (λ e. omega arith))

-- ---- joints

behind_same : (s t : Behind) → behind_eq.it s t ≡ same_sub (sub_seen s) (sub_seen t)
behind_same behind.Bare behind.Bare = refl
behind_same behind.Bare (behind.Num n) = refl
behind_same behind.Bare (behind.Word w) = refl
behind_same (behind.Num m) behind.Bare = refl
behind_same (behind.Num m) (behind.Num n) = refl
behind_same (behind.Num m) (behind.Word w) = refl
behind_same (behind.Word v) behind.Bare = refl
behind_same (behind.Word v) (behind.Num n) = refl
behind_same (behind.Word v) (behind.Word w) = refl

pub joint_same : (a b : Joint) → joint_eq.it a b ≡ same_joint a b
unfolding leads
joint_same a b = λ i. ((a.from.name == b.from.name) && behind_same a.from.sub b.from.sub i) && ((a.to.name == b.to.name) && behind_same a.to.sub b.to.sub i)

lookup_same : {X : Type 0} (p q : Joint → Bool) → ((x : Joint) → p x ≡ q x) → (pairs : List (Joint × X)) → lookup p pairs ≡ lookup q pairs
lookup_same p q same [] = refl
lookup_same p q same (pair ∷ pairs) = λ i. cond (same pair.0 i) (Some pair.1) (lookup_same p q same pairs i)

pub found : (pairs : List (Joint × ℕ)) (k : Joint) (entry : Entry) (o : Option ℕ) → k.from ≡ entry.joint.to → k.to ≡ entry.joint.from → o ≡ lookup (joint_eq.it k) pairs → is_found o entry.value ≡ finds_partner pairs entry
unfolding finds_partner
found pairs k entry o from to is =
    let same : k ≡ turned entry.joint = λ i. record { from = from i; to = to i } in
    ap (λ found. is_found found entry.value) (is ∙ lookup_same (joint_eq.it k) (same_joint k) (joint_same k) pairs ∙ ap (λ j. lookup (same_joint j) pairs) same)

-- ---- what a look-up tells of the couplings so far

-- one entry more
one_more : (k : Joint) (e : Entry) (entries : List Entry) → count_by (leads (end_seen k.from) (end_seen k.to)) (seen (e ∷ entries)) ≡ cond (same_joint k e.joint) 1 0 + count_by (leads (end_seen k.from) (end_seen k.to)) (seen entries)
unfolding leads
one_more k e entries = count_cons (leads (end_seen k.from) (end_seen k.to)) (entry_seen e) (seen entries)

none_by : (b : Bool) (value n : ℕ) (more : Option ℕ) → cond b (Some value) more ≡ None → (more ≡ None → n ≡ 0) → cond b 1 0 + n ≡ 0
none_by true value n more none again = absurd cc
none_by false value n more none again = omega (arith, again none)

none_yet : (k : Joint) (entries : List Entry) → lookup (same_joint k) (map pair_of entries) ≡ None → count_by (leads (end_seen k.from) (end_seen k.to)) (seen entries) ≡ 0
none_yet k [] is = refl
none_yet k (e ∷ entries) is = one_more k e entries ∙ none_by (same_joint k e.joint) e.value (count_by (leads (end_seen k.from) (end_seen k.to)) (seen entries)) (lookup (same_joint k) (map pair_of entries)) is (λ none. none_yet k entries none)

some_by : (b : Bool) (value wanted n : ℕ) (more : Option ℕ) → cond b (Some value) more ≡ Some wanted → (more ≡ Some wanted → 1 ≤ n) → 1 ≤ cond b 1 0 + n
some_by true value wanted n more some again = omega arith
some_by false value wanted n more some again = omega (arith, again some)

some_already : (k : Joint) (entries : List Entry) (value : ℕ) → lookup (same_joint k) (map pair_of entries) ≡ Some value → 1 ≤ count_by (leads (end_seen k.from) (end_seen k.to)) (seen entries)
some_already k [] value is = absurd cc
some_already k (e ∷ entries) value is = rw (one_more k e entries) (some_by (same_joint k e.joint) e.value value (count_by (leads (end_seen k.from) (end_seen k.to)) (seen entries)) (lookup (same_joint k) (map pair_of entries)) is (λ some. some_already k entries value some))

pub absent : (k : Joint) (entries : List Entry) (pairs : List (Joint × ℕ)) → pairs ≡ map pair_of entries → None ≡ lookup (joint_eq.it k) pairs → count_by (leads (end_seen k.from) (end_seen k.to)) (seen entries) ≡ 0
absent k entries pairs are none = none_yet k entries (sym (none ∙ ap (λ ps. lookup (joint_eq.it k) ps) are ∙ lookup_same (joint_eq.it k) (same_joint k) (joint_same k) (map pair_of entries)))

pub present : (k : Joint) (entries : List Entry) (pairs : List (Joint × ℕ)) (value : ℕ) → pairs ≡ map pair_of entries → Some value ≡ lookup (joint_eq.it k) pairs → 1 ≤ count_by (leads (end_seen k.from) (end_seen k.to)) (seen entries)
present k entries pairs value are some = some_already k entries value (sym (some ∙ ap (λ ps. lookup (joint_eq.it k) ps) are ∙ lookup_same (joint_eq.it k) (same_joint k) (joint_same k) (map pair_of entries)))

-- ---- couplings one alone between their ends

abbrev pub Apart : List Coupling → Type 0
Apart all = (from to : End) → count_by (leads from to) all ≤ 1

pub apart_more : (all : List Coupling) (c : Coupling) → Apart all → count_by (leads c.from c.to) all ≡ 0 → Apart (all ++ c ∷ [])
apart_more all c apart none from to = rw (sum_by_push (λ d. cond (leads from to d) 1 0) all c) (by (leads from to c) refl)
  where
    by : (b : Bool) → leads from to c ≡ b → count_by (leads from to) all + cond b 1 0 ≤ 1
    by true is =
        let ends = leads_is from to c is in
        let none_here : count_by (leads from to) all ≡ 0 = ap (λ (e : End). count_by (leads e to) all) ends.0 ∙ ap (λ (e : End). count_by (leads c.from e) all) ends.1 ∙ none in
        omega arith
    by false is = omega (arith, apart from to)

pub once : (all : List Coupling) → Apart all → list_all (is_once all) all ≡ true
once all apart = all_pass (is_once all) all (λ c there. one c (counted (leads c.from c.to) all c there (leads_itself c)) (apart c.from c.to))
  where
    one : (c : Coupling) → 1 ≤ count_by (leads c.from c.to) all → count_by (leads c.from c.to) all ≤ 1 → is_once all c ≡ true
    one c some few = let e : count_by (leads c.from c.to) all ≡ 1 = omega arith in rw e refl

pub apart_of : (all : List Coupling) → list_all (is_once all) all ≡ true → Apart all
apart_of all is from to = by (count_by (leads from to) all) refl
  where
    by : (n : ℕ) → count_by (leads from to) all ≡ n → count_by (leads from to) all ≤ 1
    by zero e = omega arith
    by (suc n) e =
        let c = some_counted (leads from to) all (omega arith) in
        let ends = leads_is from to c.0 c.2 in
        let one : count_by (leads c.0.from c.0.to) all ≡ 1 = eqb-true (count_by (leads c.0.from c.0.to) all) 1 (passes (is_once all) all c.0 is c.1) in
        let same : count_by (leads from to) all ≡ 1 = ap (λ (e : End). count_by (leads e to) all) ends.0 ∙ ap (λ (e : End). count_by (leads c.0.from e) all) ends.1 ∙ one in
        omega arith

-- a coupling that stands before among the same couplings
pub twice : (front rest : List Coupling) (c : Coupling) → 1 ≤ count_by (leads c.from c.to) front → list_all (is_once (front ++ c ∷ rest)) (front ++ c ∷ rest) ≡ false
twice front rest c some = by (list_all (is_once (front ++ c ∷ rest)) (front ++ c ∷ rest)) refl
  where
    one : bit (leads c.from c.to c) ≡ 1
    one = bit_is (leads c.from c.to c) (leads_itself c)

    many : 2 ≤ count_by (leads c.from c.to) (front ++ c ∷ rest)
    many = omega (arith, some, one, sum_by-append (λ d. cond (leads c.from c.to d) 1 0) front (c ∷ rest), count_cons (leads c.from c.to) c rest)

    by : (b : Bool) → list_all (is_once (front ++ c ∷ rest)) (front ++ c ∷ rest) ≡ b → b ≡ false
    by false is = refl
    by true is =
        let e : count_by (leads c.from c.to) (front ++ c ∷ rest) ≡ 1 = eqb-true (count_by (leads c.from c.to) (front ++ c ∷ rest)) 1 (passes (is_once (front ++ c ∷ rest)) (front ++ c ∷ rest) c is (in_middle front rest c)) in
        absurd (omega (arith, many, e))

-- ---- partners

no_partner_by : (b d : Bool) (n : ℕ) (any : Bool) → cond b 1 0 + n ≡ 0 → (n ≡ 0 → any ≡ false) → ((b && d) || any) ≡ false
no_partner_by true d n any none again = absurd (omega arith)
no_partner_by false d n any none again = again (omega arith)

no_partner : (c : Coupling) (all : List Coupling) → count_by (is_turned c) all ≡ 0 → list_any (is_partner c) all ≡ false
no_partner c [] none = refl
no_partner c (d ∷ all) none = no_partner_by (is_turned c d) (d.value == c.value) (count_by (is_turned c) all) (list_any (is_partner c) all) (sym (count_cons (is_turned c) d all) ∙ none) (λ less. no_partner c all less)

found_by : (b : Bool) (value n : ℕ) (wanted : ℕ) (more : Option ℕ) (any : Bool) → cond b 1 0 + n ≤ 1 → (n ≡ 0 → any ≡ false) → (n ≤ 1 → is_found more wanted ≡ any) → is_found (cond b (Some value) more) wanted ≡ ((b && (value == wanted)) || any)
found_by true value n wanted more any few none again = last (value == wanted) (none (omega arith))
  where
    last : (b : Bool) → any ≡ false → b ≡ (b || any)
    last true is = refl
    last false is = sym is
found_by false value n wanted more any few none again = again (omega arith)

-- where couplings are apart, the look-up of the other way round tells whether there is a partner
partner_found : (entries : List Entry) (e : Entry) → count_by (is_turned (entry_seen e)) (seen entries) ≤ 1 → is_found (lookup (same_joint (turned e.joint)) (map pair_of entries)) e.value ≡ list_any (is_partner (entry_seen e)) (seen entries)
unfolding leads
partner_found [] e few = refl
partner_found (d ∷ entries) e few =
    found_by (same_joint (turned e.joint) d.joint) d.value (count_by (is_turned (entry_seen e)) (seen entries)) e.value (lookup (same_joint (turned e.joint)) (map pair_of entries)) (list_any (is_partner (entry_seen e)) (seen entries))
    (rw (count_cons (is_turned (entry_seen e)) (entry_seen d) (seen entries)) at few) (λ none. no_partner (entry_seen e) (seen entries) none) (λ less. partner_found entries e less)

all_same : {X : Type 0} (p q : X → Bool) → ((x : X) → p x ≡ q x) → (xs : List X) → list_all p xs ≡ list_all q xs
all_same p q same [] = refl
all_same p q same (x ∷ xs) = λ i. same x i && all_same p q same xs i

list_all_seen : (test : Coupling → Bool) (entries : List Entry) → list_all test (seen entries) ≡ list_all (λ e. test (entry_seen e)) entries
list_all_seen test [] = refl
list_all_seen test (e ∷ entries) = ap (λ b. test (entry_seen e) && b) (list_all_seen test entries)

-- of couplings that stand once each, all are found by the look-up where all have partners
pub partners_found : (entries : List Entry) → list_all (is_once (seen entries)) (seen entries) ≡ true → list_all (finds_partner (map pair_of entries)) entries ≡ list_all (has_partner (seen entries)) (seen entries)
unfolding finds_partner
partners_found entries all = all_same (finds_partner (map pair_of entries)) (λ e. has_partner (seen entries) (entry_seen e)) (λ e. partner_found entries e (few e)) entries ∙ sym (list_all_seen (has_partner (seen entries)) entries)
  where
    few : (e : Entry) → count_by (is_turned (entry_seen e)) (seen entries) ≤ 1
    few e = apart_of (seen entries) all (end_seen e.joint.to) (end_seen e.joint.from)

-- so the tests on what is kept come to those that are defined
pub pair_up_found : (entries : List Entry) (pairs : List (Joint × ℕ)) → pairs ≡ map pair_of entries → list_all (is_once (seen entries)) (seen entries) ≡ true → list_all (finds_partner pairs) entries ≡ pair_up (seen entries)
pair_up_found entries pairs are once = ap (λ ps. list_all (finds_partner ps) entries) are ∙ partners_found entries once ∙ ap (λ b. b && list_all (has_partner (seen entries)) (seen entries)) (sym once)

pub single_counted : {S : Type 0} (counts : HashMap ℕ ℕ S) (nets : List DNet) → CountsNames counts nets → list_all (is_counted_once counts) nets ≡ list_all (is_single nets) nets
unfolding is_single
single_counted counts nets known = all_same (is_counted_once counts) (is_single nets) (λ net. ap (λ n. (length (couplings net) == 0) || (n == 1)) (known net.name)) nets

-- ---- the loop that keeps couplings by their ends

insert_entry_new : {S : Type 0} (m : HashMap Joint ℕ S) (k : Joint) (v : ℕ) → get joint_eq.it m k ≡ None → insert_entry joint_eq.it m.entries k v ≡ m.entries ++ (k, v) ∷ []
insert_entry_new m k v none = insert_entry-new joint_eq.it m k v none

is_none_from : (o : Option ℕ) → is_some o ≡ false → o ≡ None
is_none_from None none = refl
is_none_from (Some x) none = absurd cc

pub kept_more : {S : Type 0} (entries : List Entry) (i : ℕ) (d : Entry) (m : HashMap Joint ℕ S) (next : List (Joint × ℕ)) (o : Option ℕ) → i < length entries → m.entries ≡ map pair_of (take i entries) → o ≡ get joint_eq.it m (get_or entries i d).joint → is_some o ≡ false →
    next ≡ insert_entry joint_eq.it m.entries (get_or entries i d).joint (get_or entries i d).value → next ≡ map pair_of (take (i + 1) entries)
kept_more entries i d m next o within kept old fresh put =
    let e : Entry = get_or entries i d in
    put ∙ insert_entry_new m e.joint e.value (sym old ∙ is_none_from o fresh) ∙ ap (λ ps. ps ++ (e.joint, e.value) ∷ []) kept ∙ sym (ap (map pair_of) (take_more entries i d within) ∙ map-append pair_of (take i entries) (e ∷ []))

pub apart_kept : {S : Type 0} (entries : List Entry) (i : ℕ) (d : Entry) (m : HashMap Joint ℕ S) (o : Option ℕ) → i < length entries → m.entries ≡ map pair_of (take i entries) → o ≡ get joint_eq.it m (get_or entries i d).joint → is_some o ≡ false →
    Apart (seen (take i entries)) → Apart (seen (take (i + 1) entries))
apart_kept entries i d m o within kept old fresh apart =
    let e : Entry = get_or entries i d in
    let none = absent e.joint (take i entries) m.entries kept (sym (is_none_from o fresh) ∙ old) in
    let one : seen (take (i + 1) entries) ≡ seen (take i entries) ++ entry_seen e ∷ [] = ap seen (take_more entries i d within) ∙ map-append entry_seen (take i entries) (e ∷ []) in
    subst Apart (sym one) (apart_more (seen (take i entries)) (entry_seen e) apart none)

found_twice : (entries : List Entry) (i : ℕ) (d : Entry) (pairs : List (Joint × ℕ)) (o : Option ℕ) → i < length entries → pairs ≡ map pair_of (take i entries) → o ≡ lookup (joint_eq.it (get_or entries i d).joint) pairs → is_some o ≡ true → list_all (is_once (seen entries)) (seen entries) ≡ false
found_twice entries i d pairs None within kept old some = absurd cc
found_twice entries i d pairs (Some value) within kept old some =
    let e : Entry = get_or entries i d in
    let before = present e.joint (take i entries) pairs value kept old in
    let split : entries ≡ take i entries ++ e ∷ drop (suc i) entries = sym (take-append-drop i entries) ∙ ap (λ es. take i entries ++ es) (drop-cons entries i d within) in
    let all : seen entries ≡ seen (take i entries) ++ entry_seen e ∷ seen (drop (suc i) entries) = ap seen split ∙ map-append entry_seen (take i entries) (e ∷ drop (suc i) entries) in
    ap (λ cs. list_all (is_once cs) cs) all ∙ twice (seen (take i entries)) (seen (drop (suc i) entries)) (entry_seen e) before

pub twice_kept : {S : Type 0} (entries : List Entry) (i : ℕ) (d : Entry) (m : HashMap Joint ℕ S) (o : Option ℕ) → i < length entries → m.entries ≡ map pair_of (take i entries) → o ≡ get joint_eq.it m (get_or entries i d).joint → is_some o ≡ true → list_all (is_once (seen entries)) (seen entries) ≡ false
twice_kept entries i d m o within kept old some = found_twice entries i d m.entries o within kept old some
