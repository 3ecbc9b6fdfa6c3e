-- Sums of capacitances, one after another.
use Rattle.std.proofs.Common.{◌≡◌, ℕ, ◌+◌, ◌-◌, ◌*◌, ◌^◌, ◌<◌, ◌≤◌, true, false, Bool, cond, All, filter, List, [], ◌∷◌, ◌++◌, append-nil, refl, sym, ap, subst, ◌∙◌, arith, length, take, drop, get_or, Option, Some, None}
use Rattle.std.specs.Prelude.{codes, sum_by, count_by}
use Rattle.std.specs.List.{flat_map}
use Rattle.std.proofs.lemmas.List.{length-append, take_more, take-append-drop}
use Rattle.std.proofs.lemmas.List.Concat.{flat_map-append, flat_map-cons}
use Rattle.std.proofs.lemmas.List.Sums.{sum_by-append, sum_by-cons, sum_by-le, sum_by-le-sum_by, count_by-le-length, length-filter}
use Rattle.std.proofs.lemmas.List.Elements.{All-weaker, filter-append}
use Rattle.std.specs.Fmt.{decimal}
use Rattle.rc_fixed.specs.Decimal.{decimal_text}
use Rattle.rc_spef.specs.declared.value.Spef.{Spef}
use Rattle.rc_spef.specs.declared.value.Cap.{Cap}
use Rattle.rc_spef.specs.declared.value.DNet.{DNet}
use Rattle.rc_spef.specs.declared.value.End.{End}
use Rattle.rc_gen.specs.declared.sums.Sums.{Sums}
use Rattle.rc_gen.specs.Summary.{ground_of, is_counted, coupling_of, cap_value, all_caps, AreSummable, ground, pairs, coupling, summary_text}
use Rattle.rc_gen.specs.Laws.{SmallTotalsSuffice}
use Rattle.rc_gen.specs.Adding.{Adds, HasRoom, nothing}

-- ---- counts of lists in a row

count_by-append : {X : Type 0} (p : X → Bool) (xs ys : List X) → count_by p (xs ++ ys) ≡ count_by p xs + count_by p ys
count_by-append p xs ys =
    let all = sym (length-filter p (xs ++ ys)) ∙ ap length (filter-append p xs ys) ∙ length-append (filter p xs) (filter p ys) in
    rw (length-filter p xs, length-filter p ys) at all

-- the items so far, and one more
take_item : {X : Type 0} (xs : List X) (i : ℕ) (x : X) → i < length xs → x ≡ get_or xs i x → take (i + 1) xs ≡ take i xs ++ x ∷ []
take_item xs i x within is = take_more xs i x within ∙ ap (λ y. take i xs ++ y ∷ []) (sym is)

-- ---- what a capacitance adds

pub ground_within : (cap : Cap) → ground_of cap ≤ cap_value cap
ground_within cap = by_end cap.b
  where
    by_end : (b : Option End) → ground_of (record cap { b = b }) ≤ cap_value cap
    by_end None = omega arith
    by_end (Some to) = omega arith

pub coupling_within : (cap : Cap) → coupling_of cap ≤ cap_value cap
coupling_within cap = by_test (is_counted cap)
  where
    by_test : (b : Bool) → cond b (cap_value cap) 0 ≤ cap_value cap
    by_test true = omega arith
    by_test false = omega arith

-- ---- sums that grow

pub adds_none : (sums : Sums) → Adds sums sums []
adds_none sums = record { ground = omega arith; pairs = omega arith; coupling = omega arith }

pub adds_then : (a b c : Sums) (xs ys : List Cap) → Adds a b xs → Adds b c ys → Adds a c (xs ++ ys)
adds_then a b c xs ys first then = record {
  ground = omega (arith, first.ground, then.ground, sum_by-append ground_of xs ys);
  pairs = omega (arith, first.pairs, then.pairs, count_by-append is_counted xs ys);
  coupling = omega (arith, first.coupling, then.coupling, sum_by-append coupling_of xs ys);
}

-- the room for some more is left behind the first of them
pub room_behind : (a b : Sums) (xs ys : List Cap) → HasRoom a (xs ++ ys) → Adds a b xs → HasRoom b ys
room_behind a b xs ys room adds =
    let ground = sum_by-le-sum_by ground_of cap_value xs ground_within in
    let coupling = sum_by-le-sum_by coupling_of cap_value xs coupling_within in
    let pairs = count_by-le-length is_counted xs in
    let all = sum_by-append cap_value xs ys in
    record {
      ground = omega (arith, room.ground, adds.ground, ground, all);
      pairs = omega (arith, room.pairs, adds.pairs, pairs, length-append xs ys);
      coupling = omega (arith, room.coupling, adds.coupling, coupling, all);
    }

-- and there is room for the first of them
pub room_before : (a : Sums) (xs ys : List Cap) → HasRoom a (xs ++ ys) → HasRoom a xs
room_before a xs ys room =
    let all = sum_by-append cap_value xs ys in
    record {
      ground = omega (arith, room.ground, all);
      pairs = omega (arith, room.pairs, length-append xs ys);
      coupling = omega (arith, room.coupling, all);
    }

-- ---- one capacitance of a list after another

pub room_here : (a b : Sums) (caps : List Cap) (i : ℕ) (cap : Cap) → i < length caps → cap ≡ get_or caps i cap → HasRoom a caps → Adds a b (take i caps) → HasRoom b (cap ∷ [])
room_here a b caps i cap within is room adds =
    let all : HasRoom a (take (i + 1) caps ++ drop (i + 1) caps) = subst (HasRoom a) (sym (take-append-drop (i + 1) caps)) room in
    let here = room_before a (take (i + 1) caps) (drop (i + 1) caps) all in
    room_behind a b (take i caps) (cap ∷ []) (subst (HasRoom a) (take_item caps i cap within is) here) adds

pub adds_more : (a b c : Sums) (caps : List Cap) (i : ℕ) (cap : Cap) → i < length caps → cap ≡ get_or caps i cap → Adds a b (take i caps) → Adds b c (cap ∷ []) → Adds a c (take (i + 1) caps)
adds_more a b c caps i cap within is first then =
    subst (Adds a c) (sym (take_item caps i cap within is)) (adds_then a b c (take i caps) (cap ∷ []) first then)

-- ---- one net after another

pub caps_of_none : all_caps [] ≡ []
unfolding all_caps
caps_of_none = refl

caps_more : (nets : List DNet) (i : ℕ) (net : DNet) → i < length nets → net ≡ get_or nets i net → all_caps (take (i + 1) nets) ≡ all_caps (take i nets) ++ net.caps
unfolding all_caps
caps_more nets i net within is =
    ap (flat_map (λ net. net.caps)) (take_item nets i net within is) ∙ flat_map-append (λ net. net.caps) (take i nets) (net ∷ [])
    ∙ ap (λ caps. flat_map (λ net. net.caps) (take i nets) ++ caps) (append-nil net.caps)

caps_split : (nets : List DNet) (i : ℕ) → all_caps nets ≡ all_caps (take i nets) ++ all_caps (drop i nets)
unfolding all_caps
caps_split nets i = ap (flat_map (λ net. net.caps)) (sym (take-append-drop i nets)) ∙ flat_map-append (λ net. net.caps) (take i nets) (drop i nets)

-- the values of the nets so far and of the next are within those of all
values_within : (nets : List DNet) (i : ℕ) (net : DNet) → i < length nets → net ≡ get_or nets i net → sum_by cap_value (all_caps (take i nets)) + sum_by cap_value net.caps ≤ sum_by cap_value (all_caps nets)
values_within nets i net within is =
    let split = ap (sum_by cap_value) (caps_split nets (i + 1)) ∙ sum_by-append cap_value (all_caps (take (i + 1) nets)) (all_caps (drop (i + 1) nets)) in
    let more = ap (sum_by cap_value) (caps_more nets i net within is) ∙ sum_by-append cap_value (all_caps (take i nets)) net.caps in
    omega (arith, split, more)

pub net_room : (nets : List DNet) (i : ℕ) (net : DNet) (sums : Sums) → i < length nets → net ≡ get_or nets i net → AreSummable nets → Adds nothing sums (all_caps (take i nets)) →
    sums.pairs ≤ i * (2 ^ 64 - 1) → length net.caps < 2 ^ 64 → length nets < 2 ^ 64 → HasRoom sums net.caps
unfolding AreSummable
net_room nets i net sums within is fits adds few small many =
    let ground = sum_by-le-sum_by ground_of cap_value (all_caps (take i nets)) ground_within in
    let coupling = sum_by-le-sum_by coupling_of cap_value (all_caps (take i nets)) coupling_within in
    let values = values_within nets i net within is in
    record {
      ground = omega (arith, adds.ground, ground, values, fits);
      pairs = omega (arith, few, small, many, within);
      coupling = omega (arith, adds.coupling, coupling, values, fits);
    }

pub nets_more : (nets : List DNet) (i : ℕ) (net : DNet) (sums now : Sums) → i < length nets → net ≡ get_or nets i net → Adds nothing sums (all_caps (take i nets)) → Adds sums now net.caps →
    Adds nothing now (all_caps (take (i + 1) nets))
nets_more nets i net sums now within is first then =
    subst (Adds nothing now) (sym (caps_more nets i net within is)) (adds_then nothing sums now (all_caps (take i nets)) net.caps first then)

pub pairs_more : (i : ℕ) (net : DNet) (sums now : Sums) → sums.pairs ≤ i * (2 ^ 64 - 1) → length net.caps < 2 ^ 64 → Adds sums now net.caps → now.pairs ≤ (i + 1) * (2 ^ 64 - 1)
pairs_more i net sums now few small adds =
    let more = count_by-le-length is_counted net.caps in
    omega (arith, few, small, adds.pairs, more)

-- ---- the lines

pub summary_is : (spef : Spef) (count : ℕ) (sums : Sums) → count ≡ length spef.nets → Adds nothing sums (all_caps spef.nets) →
    codes "nets " ++ decimal count ++ codes "\nground " ++ decimal_text sums.ground ++ codes "\ncouplings " ++ decimal sums.pairs ++ codes "\ncoupling " ++ decimal_text sums.coupling ++ codes "\n"
    ≡ summary_text spef
unfolding summary_text ground pairs coupling
summary_is spef count sums many adds =
    let grounded : sums.ground ≡ sum_by ground_of (all_caps spef.nets) = omega (arith, adds.ground) in
    let counted : sums.pairs ≡ count_by is_counted (all_caps spef.nets) = omega (arith, adds.pairs) in
    let coupled : sums.coupling ≡ sum_by coupling_of (all_caps spef.nets) = omega (arith, adds.coupling) in
    rw (grounded, counted, coupled, many) refl

pub adds_zero : (sums : Sums) → sums ≡ nothing → Adds nothing sums (all_caps [])
unfolding all_caps
adds_zero sums is = subst (λ (s : Sums). Adds nothing s []) (sym is) (adds_none nothing)

-- ---- small totals

values_of : (nets : List DNet) → sum_by cap_value (all_caps nets) ≡ sum_by (λ net. sum_by cap_value net.caps) nets
unfolding all_caps
values_of [] = refl
values_of (net ∷ nets) =
    ap (sum_by cap_value) (flat_map-cons (λ net. net.caps) net nets) ∙ sum_by-append cap_value net.caps (flat_map (λ net. net.caps) nets)
    ∙ ap (λ rest. sum_by cap_value net.caps + rest) (values_of nets) ∙ sym (sum_by-cons (λ net. sum_by cap_value net.caps) net nets)

pub small_totals_suffice : SmallTotalsSuffice
unfolding AreSummable
small_totals_suffice nets few small =
    let each : All (λ net. sum_by cap_value net.caps ≤ 2 ^ 128) nets = All-weaker (λ net. sum_by cap_value net.caps < 2 ^ 128) (λ net. sum_by cap_value net.caps ≤ 2 ^ 128) (λ net below. omega (arith, below)) nets small in
    let within = sum_by-le (λ net. sum_by cap_value net.caps) (2 ^ 128) nets each in
    let all = values_of nets in
    omega (arith, within, all, few)
