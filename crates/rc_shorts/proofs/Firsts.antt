-- The short that comes first is the one that is defined.
use Rattle.std.proofs.Common.{◌≡◌, ⊎_elim, List, map, Option, Some, None, refl, sym, ap, ◌∙◌, subst}
use Rattle.std.specs.Prelude.{Contains, IfSome, MatchOption, IsSomeAnd, option_map}
use Rattle.std.specs.List.{list_all}
use Rattle.std.specs.List.Sorted.{IsPermutation}
use Rattle.std.proofs.lemmas.List.Sorted.{IsPermutation-sym, Contains-permutation}
use Rattle.rc_shorts.specs.declared.shape.Shape.{Shape}
use Rattle.rc_shorts.specs.declared.shape.Pair.{Pair}
use Rattle.rc_shorts.specs.declared.shape.Short.{Short}
use Rattle.rc_shorts.specs.Shorts.{are_short, comes_first, pairs, shorts, short_of, first_pair, first_short, HavePlaces, IsShortIn, IsClear, IsFirstPair, IsOfPair}
use Rattle.rc_shorts.specs.Search.{pair_of, Leads}
use Rattle.rc_shorts.proofs.Members.{filter_has, in_filter, map_has, in_map, flat_map_has, in_flat_map, all_pass, all_from, find_nothing, find_only}
use Rattle.rc_shorts.proofs.Orders.{SamePlaces, first_same}

-- a pair that leads all shorts is the first, and where none leads there is none
pub first_from_leads : (shapes : List Shape) (leader : Option Pair) → Leads None (IsShortIn shapes) leader → MatchOption leader (IsClear shapes) (IsFirstPair shapes)
first_from_leads shapes None leads = λ p h. leads.first p h
first_from_leads shapes (Some found) leads = record {
  short = ⊎_elim (λ (never : Some found ≡ None). cc) (λ (is : IsSomeAnd (Some found) (IsShortIn shapes)). is) leads.found;
  first = λ p h. leads.first p h;
}

-- the list of all shorts
pub in_shorts : (shapes : List Shape) (p : Pair) → Contains (shorts shapes) p → IsShortIn shapes p
in_shorts shapes p has =
    let passed = in_filter are_short (pairs shapes) p has in
    let later = in_flat_map (λ later. map (λ earlier. pair_of earlier later) shapes) shapes p passed.0 in
    let earlier = in_map (λ earlier. pair_of earlier later.0) shapes p later.2 in
    record {
      earlier = subst (λ (q : Pair). Contains shapes q.earlier) earlier.2 earlier.1;
      later = subst (λ (q : Pair). Contains shapes q.later) earlier.2 later.1;
      short = passed.1;
    }

pub shorts_have : (shapes : List Shape) (p : Pair) → IsShortIn shapes p → Contains (shorts shapes) p
shorts_have shapes p h =
    filter_has are_short (pairs shapes) p
    (flat_map_has (λ later. map (λ earlier. pair_of earlier later) shapes) shapes p.later p h.later
    (map_has (λ earlier. pair_of earlier p.later) shapes p.earlier h.earlier))
    h.short

-- where no place has two shapes, pairs at the same places are the same
same_pair : (shapes : List Shape) (p q : Pair) → HavePlaces shapes → IsShortIn shapes p → IsShortIn shapes q → SamePlaces p q → p ≡ q
same_pair shapes p q places h k same =
    let earlier = places p.earlier q.earlier h.earlier k.earlier same.earlier_net same.earlier_item in
    let later = places p.later q.later h.later k.later same.later_net same.later_item in
    ap (λ (s : Shape). pair_of s p.later) earlier ∙ ap (λ (s : Shape). pair_of q.earlier s) later

pub first_is : (shapes : List Shape) (found : Option Pair) → HavePlaces shapes → MatchOption found (IsClear shapes) (IsFirstPair shapes) → found ≡ first_pair shapes
unfolding first_pair
first_is shapes None places clear =
    find_nothing (λ pair. list_all (comes_first pair) (shorts shapes)) (shorts shapes) (λ p has. clear p (in_shorts shapes p has))
first_is shapes (Some found) places is =
    find_only (λ pair. list_all (comes_first pair) (shorts shapes)) (shorts shapes) found (shorts_have shapes found is.short)
    (all_from (comes_first found) (shorts shapes) (λ p has. is.first p (in_shorts shapes p has)))
    (λ p has passes.
    let h = in_shorts shapes p has in
    same_pair shapes found p places is.short h
    (first_same found p (is.first p h) (all_pass (comes_first p) (shorts shapes) found passes (shorts_have shapes found is.short))))

pub short_is : (shapes : List Shape) (found : Option Pair) → HavePlaces shapes → MatchOption found (IsClear shapes) (IsFirstPair shapes) → option_map short_of found ≡ first_short shapes
unfolding first_short
short_is shapes found places is = ap (option_map short_of) (first_is shapes found places is)

-- what is told is told of a pair of these shapes
pub of_pair : (shapes : List Shape) (found : Option Pair) (told : Option Short) → told ≡ option_map short_of found → MatchOption found (IsClear shapes) (IsFirstPair shapes) → IfSome told (IsOfPair shapes)
of_pair shapes None told same clear = subst (λ (o : Option Short). IfSome o (IsOfPair shapes)) (sym same) tt
of_pair shapes (Some pair) told same is = subst (λ (o : Option Short). IfSome o (IsOfPair shapes)) (sym same) (record { pair = pair; stands = is.short; told = refl })

-- a short of a list is one of the same shapes in another order
moved_short : (xs ys : List Shape) (p : Pair) → IsPermutation xs ys → IsShortIn ys p → IsShortIn xs p
moved_short xs ys p moved h =
    let back = IsPermutation-sym xs ys moved in
    record {
      earlier = Contains-permutation ys xs p.earlier back h.earlier;
      later = Contains-permutation ys xs p.later back h.later;
      short = h.short;
    }

-- so is the first one
pub moved_first : (xs ys : List Shape) (found : Option Pair) → IsPermutation xs ys → MatchOption found (IsClear ys) (IsFirstPair ys) → MatchOption found (IsClear xs) (IsFirstPair xs)
moved_first xs ys None moved clear = λ p h. clear p (moved_short ys xs p (IsPermutation-sym xs ys moved) h)
moved_first xs ys (Some pair) moved is = record {
  short = moved_short xs ys pair moved is.short;
  first = λ p h. is.first p (moved_short ys xs p (IsPermutation-sym xs ys moved) h);
}
