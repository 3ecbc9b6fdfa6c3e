-- The all of a net between their nodes.
use Rattle.std.proofs.Common.{◌≡◌, ◌≤◌, ◌<◌, ◌+◌, ◌⊎◌, inl, inr, ⊎_elim, ℕ, pos, List, [], ◌∷◌, ◌++◌, take, length, get_or, true, None, Some, refl, ap, sym, ◌∙◌, subst}
use Rattle.std.specs.Prelude.{◌↔◌, Contains, slice_get}
use Rattle.std.specs.List.{dedup}
use Rattle.std.specs.List.Sorted.{IsSorted, IsPermutation}
use Rattle.std.specs.Cmp.{IsTotalOrder}
use Rattle.std.specs.declared.cmp.Ordering.{Ordering}
use Rattle.std.specs.declared.cmp.Ordering.TheVariants.{Less, Equal, Greater}
use Rattle.std.specs.Ordering.{ordering_then, nat_cmp, is_eq, eq_by_cmp}
use Rattle.std.proofs.lemmas.Cmp.{then_total, on_total, nat_cmp_total, eq_by_cmp_equiv}
use Rattle.std.proofs.lemmas.List.{take_more, take_all}
use Rattle.std.proofs.lemmas.List.Elements.{Contains-append_left, Contains-append_right, Contains-append_cases}
use Rattle.std.proofs.lemmas.List.Kept.{IsStrictlySortedBy-dedup, Contains-dedup, Contains-from_dedup}
use Rattle.std.proofs.lemmas.List.Sorted.{IsPermutation-sym, Contains-permutation}
use Rattle.std.proofs.lemmas.Option.{same_Some, slice_get_within, slice_get-get_or, slice_get_past, get_or_from_slice_get}
use Rattle.rc_geom.specs.declared.rect.Pt.{Pt}
use Rattle.rc_lef.specs.declared.via.Via.{Via}
use Rattle.rc_nodes.specs.declared.node.Node.{Node}
use Rattle.rc_nodes.specs.declared.link.ViaLink.{ViaLink}
use Rattle.rc_nodes.specs.Nodes.{AreInOrder, IsNumber}
use Rattle.rc_nodes.specs.Vias.{IsLinkAt, IsLink, link_cmp, AreLinks}
use Rattle.rc_nodes.proofs.Sorted.{nat_equal, contains_none, contains_cases, contains_first, pairs_from_sorted}
use Rattle.rc_nodes.proofs.Words.{one_number}

-- ---- one via

number_stands : (nodes : List Node) (n : ℕ) (node : Node) → IsNumber nodes n node → Contains nodes node
number_stands nodes n node h = (h.0, slice_get_within nodes h.0 node h.2, get_or_from_slice_get nodes h.0 node node h.2)

pub via_at : (vias : List Via) (number : ℕ) (via : Via) → number < length vias → via ≡ get_or vias number via → slice_get vias number ≡ Some via
via_at vias number via lt is = slice_get-get_or vias number via lt ∙ ap Some (sym is)

pub past_vias : (nodes : List Node) (vias : List Via) (placed : ℕ × Pt) (link : ViaLink) → length vias ≤ placed.0 → ¬ IsLinkAt nodes vias placed link
past_vias nodes vias placed link le h = let of = h.of in let none = slice_get_past vias placed.0 le in cc

pub no_such_via : (nodes : List Node) (vias : List Via) (placed : ℕ × Pt) (link : ViaLink) → slice_get vias placed.0 ≡ None → ¬ IsLinkAt nodes vias placed link
no_such_via nodes vias placed link none h = let of = h.of in cc

pub no_lower : (nodes : List Node) (vias : List Via) (placed : ℕ × Pt) (link : ViaLink) (via : Via) → slice_get vias placed.0 ≡ Some via → ¬ Contains nodes (record { layer = via.lower; at = placed.1 }) → ¬ IsLinkAt nodes vias placed link
no_lower nodes vias placed link via of missing h =
    let same = same_Some h.via via (sym h.of ∙ of) in
    missing (subst (λ (l : Via). Contains nodes (record { layer = l.lower; at = placed.1 })) same (number_stands nodes link.lower (record { layer = h.via.lower; at = placed.1 }) h.lower))

pub no_upper : (nodes : List Node) (vias : List Via) (placed : ℕ × Pt) (link : ViaLink) (via : Via) → slice_get vias placed.0 ≡ Some via → ¬ Contains nodes (record { layer = via.upper; at = placed.1 }) → ¬ IsLinkAt nodes vias placed link
no_upper nodes vias placed link via of missing h =
    let same = same_Some h.via via (sym h.of ∙ of) in
    missing (subst (λ (l : Via). Contains nodes (record { layer = l.upper; at = placed.1 })) same (number_stands nodes link.upper (record { layer = h.via.upper; at = placed.1 }) h.upper))

pub only_link : (nodes : List Node) (vias : List Via) (placed : ℕ × Pt) (via : Via) (lower upper : ℕ) (link : ViaLink) → AreInOrder nodes → slice_get vias placed.0 ≡ Some via →
    IsNumber nodes lower (record { layer = via.lower; at = placed.1 }) → IsNumber nodes upper (record { layer = via.upper; at = placed.1 }) → IsLinkAt nodes vias placed link ↔ (record { lower = lower; upper = upper; via = placed.0 } ≡ link)
only_link nodes vias placed via lower upper link order of low high = (
  λ h.
      let same = same_Some h.via via (sym h.of ∙ of) in
      let l = one_number nodes lower link.lower (record { layer = via.lower; at = placed.1 }) order low (subst (λ (l : Via). IsNumber nodes link.lower (record { layer = l.lower; at = placed.1 })) same h.lower) in
      let u = one_number nodes upper link.upper (record { layer = via.upper; at = placed.1 }) order high (subst (λ (l : Via). IsNumber nodes link.upper (record { layer = l.upper; at = placed.1 })) same h.upper) in
      λ i. record { lower = l i; upper = u i; via = h.number i },
  λ is. subst (IsLinkAt nodes vias placed) is (record { number = refl; via = via; of = of; lower = low; upper = high }),
)

-- ---- the loop over all all

abbrev pub not_placed : ℕ × Pt
not_placed = (0, record { x = pos 0; y = pos 0 })

pub no_links : (nodes : List Node) (vias : List Via) (link : ViaLink) → Contains [] link ↔ IsLink nodes vias [] link
no_links nodes vias link = (λ h. absurd (contains_none link h), λ h. absurd (contains_none h.0 h.1))

more_vias : (nodes : List Node) (vias : List Via) (all : List (ℕ × Pt)) (k : ℕ) (link : ViaLink) → k < length all →
    IsLink nodes vias (take (k + 1) all) link ↔ (IsLink nodes vias (take k all) link ⊎ IsLinkAt nodes vias (get_or all k not_placed) link)
more_vias nodes vias all k link lt =
    let next = get_or all k not_placed in
    let front : take (k + 1) all ≡ take k all ++ next ∷ [] = take_more all k not_placed lt in (
      λ h. ⊎_elim
          (λ old. inl (h.0, old, h.2))
          (λ new. ⊎_elim (λ here. inr (subst (λ (v : ℕ × Pt). IsLinkAt nodes vias v link) (sym here) h.2)) (λ none. absurd (contains_none h.0 none)) (contains_cases next [] h.0 new))
          (Contains-append_cases (take k all) (next ∷ []) h.0 (subst (λ l. Contains l h.0) front h.1)),
      λ h. ⊎_elim
          (λ old. (old.0, subst (λ l. Contains l old.0) (sym front) (Contains-append_left (take k all) (next ∷ []) old.0 old.1), old.2))
          (λ new. (next, subst (λ l. Contains l next) (sym front) (Contains-append_right (take k all) (next ∷ []) next (contains_first next [] next refl)), new))
          h,
    )

pub link_more : (nodes : List Node) (vias : List Via) (all : List (ℕ × Pt)) (k : ℕ) (found : ViaLink) (links more : List ViaLink) → k < length all → ((link : ViaLink) → IsLinkAt nodes vias (get_or all k not_placed) link ↔ (found ≡ link)) →
    ((link : ViaLink) → Contains links link ↔ IsLink nodes vias (take k all) link) → more ≡ links ++ found ∷ [] → (link : ViaLink) → Contains more link ↔ IsLink nodes vias (take (k + 1) all) link
link_more nodes vias all k found links more lt one so_far grown link =
    let step = more_vias nodes vias all k link lt in (
      λ h. step.1 (⊎_elim
          (λ old. inl ((so_far link).0 old))
          (λ new. ⊎_elim (λ here. inr ((one link).1 here)) (λ none. absurd (contains_none link none)) (contains_cases found [] link new))
          (Contains-append_cases links (found ∷ []) link (subst (λ l. Contains l link) grown h))),
      λ h. subst (λ l. Contains l link) (sym grown) (⊎_elim
          (λ old. Contains-append_left links (found ∷ []) link ((so_far link).1 old))
          (λ new. Contains-append_right links (found ∷ []) link (contains_first found [] link ((one link).0 new)))
          (step.0 h)),
    )

pub link_same : (nodes : List Node) (vias : List Via) (all : List (ℕ × Pt)) (k : ℕ) (links : List ViaLink) → k < length all → ((link : ViaLink) → ¬ IsLinkAt nodes vias (get_or all k not_placed) link) →
    ((link : ViaLink) → Contains links link ↔ IsLink nodes vias (take k all) link) → (link : ViaLink) → Contains links link ↔ IsLink nodes vias (take (k + 1) all) link
link_same nodes vias all k links lt none so_far link =
    let step = more_vias nodes vias all k link lt in (
      λ h. step.1 (inl ((so_far link).0 h)),
      λ h. ⊎_elim (λ old. (so_far link).1 old) (λ new. absurd (none link new)) (step.0 h),
    )

pub links_done : (nodes : List Node) (vias : List Via) (all : List (ℕ × Pt)) (k : ℕ) (links : List ViaLink) → length all ≤ k →
    ((link : ViaLink) → Contains links link ↔ IsLink nodes vias (take k all) link) → (link : ViaLink) → Contains links link ↔ IsLink nodes vias all link
links_done nodes vias all k links le so_far = subst (λ l. (link : ViaLink) → Contains links link ↔ IsLink nodes vias l link) (take_all k all le) so_far

-- ---- in order, each once

pub link_total : IsTotalOrder link_cmp
link_total = then_total (on_total (λ (l : ViaLink). l.lower) nat_cmp_total) (then_total (on_total (λ (l : ViaLink). l.upper) nat_cmp_total) (on_total (λ (l : ViaLink). l.via) nat_cmp_total))

then_equal : (o q : Ordering) → ordering_then o q ≡ Equal → (o ≡ Equal) × (q ≡ Equal)
then_equal Less q h = cc
then_equal Equal q h = (refl, h)
then_equal Greater q h = cc

link_equal : (a b : ViaLink) → link_cmp a b ≡ Equal → a ≡ b
link_equal a b h =
    let first = then_equal (nat_cmp a.lower b.lower) (ordering_then (nat_cmp a.upper b.upper) (nat_cmp a.via b.via)) h in
    let rest = then_equal (nat_cmp a.upper b.upper) (nat_cmp a.via b.via) first.1 in
    let lower = nat_equal a.lower b.lower first.0 in
    let upper = nat_equal a.upper b.upper rest.0 in
    let via = nat_equal a.via b.via rest.1 in
    λ i. record { lower = lower i; upper = upper i; via = via i }

equal_tells : (o : Ordering) → is_eq o ≡ true → o ≡ Equal
equal_tells Less h = cc
equal_tells Equal h = refl
equal_tells Greater h = cc

pub links_are : (nodes : List Node) (vias : List Via) (all : List (ℕ × Pt)) (links sorted kept : List ViaLink) → ((link : ViaLink) → Contains links link ↔ IsLink nodes vias all link) → IsPermutation links sorted → IsSorted link_cmp sorted →
    kept ≡ dedup (eq_by_cmp link_cmp) sorted → AreLinks nodes vias all kept
links_are nodes vias all links sorted kept has moved order kept_is =
    subst (AreLinks nodes vias all) (sym kept_is) (record {
      order = pairs_from_sorted link_cmp (dedup (eq_by_cmp link_cmp) sorted) (IsStrictlySortedBy-dedup link_total (λ x y. refl) sorted order);
      every = λ link. (
        λ h. (has link).0 (Contains-permutation sorted links link (IsPermutation-sym links sorted moved) (Contains-from_dedup (eq_by_cmp link_cmp) sorted link h)),
        λ h. Contains-dedup (eq_by_cmp_equiv link_total) (λ x y h. link_equal x y (equal_tells (link_cmp x y) h)) sorted link (Contains-permutation links sorted link moved ((has link).1 h)),
      );
    })
