-- The owner of a square.
use Rattle.std.proofs.Common.{◌≡◌, ◌≢◌, ◌≤◌, ◌<◌, ⊎_elim, ℕ, suc, Bool, true, false, cond, List, [], ◌∷◌, ◌++◌, length, get_or, Option, Some, None, refl, ap, sym, ◌∙◌, subst, arith}
use Rattle.std.specs.Prelude.{All, Contains, MatchOption, nat_lt, ◌==◌, option_map, fold}
use Rattle.std.proofs.lemmas.List.{get_or_default}
use Rattle.std.proofs.lemmas.List.Elements.{All-nil, All-cons, All-weaker, All-contains, Contains-append_cases}
use Rattle.std.proofs.lemmas.List.Sorted.{IsPermutation-sym, Contains-permutation}
use Rattle.std.proofs.lemmas.List.Sums.{fold-append}
use Rattle.std.proofs.lemmas.Bool.{and_parts, eqb-true, cases_eq, cases_order, ltb-true, ltb-false, true≢false}
use Rattle.std.proofs.lemmas.Bool.Decides.{nat_tests}
use Rattle.rc_geom.specs.declared.rect.Pt.{Pt}
use Rattle.rc_geom.specs.declared.tile.Tile.{Tile}
use Rattle.rc_geom.specs.Rects.{covers}
use Rattle.rc_geom.specs.Plane.{claims, least_of, next_owner, owner, plane_of, Overlaps, RanksDiffer, NetsApart, NeverOwns}
use Rattle.rc_geom.specs.Laws.{IsOwner, OwnersAreLeast, OrderIsFree, OwnersSuffice}

-- of two owners the one of less rank, the first where they tie
abbrev pub better : Option Tile → Option Tile → Option Tile
better best None = best
better best (Some t) = Some (least_of best t)

-- a tile as the only owner
abbrev pub claim : ℕ → Pt → Tile → Option Tile
claim layer p t = cond (claims layer p t) (Some t) None

pub better_none : (o : Option Tile) → better None o ≡ o
better_none None = refl
better_none (Some t) = refl

pub lesser_assoc : (a b c : Tile) → least_of (Some (least_of (Some a) b)) c ≡ least_of (Some a) (least_of (Some b) c)
lesser_assoc a b c = grind (arith, nat_tests)

better_assoc : (best : Option Tile) (t : Tile) (o : Option Tile) → better (Some (least_of best t)) o ≡ better best (better (Some t) o)
better_assoc best t None = refl
better_assoc None t (Some u) = refl
better_assoc (Some b) t (Some u) = ap Some (lesser_assoc b t u)

step_better : (layer : ℕ) (p : Pt) (best : Option Tile) (t : Tile) (o : Option Tile) → better (next_owner layer p best t) o ≡ better best (better (claim layer p t) o)
step_better layer p best t o =
    elim (claims layer p t) as (λ b. better (cond b (Some (least_of best t)) best) o ≡ better best (better (cond b (Some t) None) o)) [
      | true ↦ better_assoc best t o
      | false ↦ ap (better best) (sym (better_none o))
    ]

-- the owner among some tiles and more
joined : (layer : ℕ) (p : Pt) (best : Option Tile) (ts : List Tile) → fold (next_owner layer p) best ts ≡ better best (owner ts layer p)
joined layer p best [] = refl
joined layer p best (t ∷ ts) =
    joined layer p (next_owner layer p best t) ts
    ∙ (step_better layer p best t (owner ts layer p)
    ∙ ap (better best) (sym (joined layer p (claim layer p t) ts)))

pub owner-cons : (layer : ℕ) (p : Pt) (t : Tile) (ts : List Tile) → owner (t ∷ ts) layer p ≡ better (claim layer p t) (owner ts layer p)
owner-cons layer p t ts = joined layer p (claim layer p t) ts

pub owner-append : (layer : ℕ) (p : Pt) (xs ys : List Tile) → owner (xs ++ ys) layer p ≡ better (owner xs layer p) (owner ys layer p)
owner-append layer p xs ys = fold-append (next_owner layer p) None xs ys ∙ joined layer p (owner xs layer p) ys

-- what an owner is to its tiles
abbrev Tells : List Tile → ℕ → Pt → Option Tile → Type 0
Tells tiles layer p o = MatchOption o (All (λ u. claims layer p u ≡ false) tiles) (IsOwner tiles layer p)

contains_more : (t u : Tile) (ts : List Tile) → Contains ts u → Contains (t ∷ ts) u
contains_more t u ts h = (suc h.0, omega (arith, h.1), h.2)

contains_first : (t : Tile) (ts : List Tile) → Contains (t ∷ ts) t
contains_first t ts = (0, omega arith, refl)

none_claims : (layer : ℕ) (p : Pt) (t : Tile) (ts : List Tile) → All (λ u. claims layer p u ≡ false) ts → All (λ u. claims layer p u ≡ true → t.rank ≤ u.rank) ts
none_claims layer p t ts h = All-weaker (λ u. claims layer p u ≡ false) (λ u. claims layer p u ≡ true → t.rank ≤ u.rank) (λ u misses does. absurd (true≢false (sym does ∙ misses))) ts h

keep_owner : (layer : ℕ) (p : Pt) (t u : Tile) (ts : List Tile) → (claims layer p t ≡ true → u.rank ≤ t.rank) → IsOwner ts layer p u → IsOwner (t ∷ ts) layer p u
keep_owner layer p t u ts lower h = record {
  member = contains_more t u ts h.member;
  covering = h.covering;
  least = All-cons (λ (v : Tile). claims layer p v ≡ true → u.rank ≤ v.rank) t ts lower h.least;
}

new_owner : (layer : ℕ) (p : Pt) (t : Tile) (ts : List Tile) → claims layer p t ≡ true → All (λ u. claims layer p u ≡ true → t.rank ≤ u.rank) ts → IsOwner (t ∷ ts) layer p t
new_owner layer p t ts does least = record {
  member = contains_first t ts;
  covering = does;
  least = All-cons (λ (v : Tile). claims layer p v ≡ true → t.rank ≤ v.rank) t ts (λ _. omega arith) least;
}

choose : (layer : ℕ) (p : Pt) (t u : Tile) (ts : List Tile) → claims layer p t ≡ true → IsOwner ts layer p u → IsOwner (t ∷ ts) layer p (least_of (Some t) u)
choose layer p t u ts does h =
    (elim (nat_lt u.rank t.rank) as (λ b. nat_lt u.rank t.rank ≡ b → IsOwner (t ∷ ts) layer p (cond b u t)) [
      | true ↦ λ less. let r : u.rank < t.rank = ltb-true u.rank t.rank less in keep_owner layer p t u ts (λ _. omega arith) h
      | false ↦ λ more. let r : t.rank ≤ u.rank = ltb-false u.rank t.rank more in new_owner layer p t ts does (All-weaker (λ (v : Tile). claims layer p v ≡ true → u.rank ≤ v.rank) (λ (v : Tile). claims layer p v ≡ true → t.rank ≤ v.rank) (λ v bound c. let s = bound c in omega (arith, s)) ts h.least)
    ]) refl

tells_more : (layer : ℕ) (p : Pt) (t : Tile) (ts : List Tile) (o : Option Tile) (c : Bool) → claims layer p t ≡ c → Tells ts layer p o → Tells (t ∷ ts) layer p (better (cond c (Some t) None) o)
tells_more layer p t ts None true does h = new_owner layer p t ts does (none_claims layer p t ts h)
tells_more layer p t ts None false misses h = All-cons (λ (u : Tile). claims layer p u ≡ false) t ts misses h
tells_more layer p t ts (Some u) true does h = choose layer p t u ts does h
tells_more layer p t ts (Some u) false misses h = keep_owner layer p t u ts (λ does. absurd (true≢false (sym does ∙ misses))) h

pub owners_are_least : OwnersAreLeast
owners_are_least [] layer p = All-nil (λ (u : Tile). claims layer p u ≡ false)
owners_are_least (t ∷ ts) layer p =
    subst (Tells (t ∷ ts) layer p) (sym (owner-cons layer p t ts)) (tells_more layer p t ts (owner ts layer p) (claims layer p t) refl (owners_are_least ts layer p))

-- ---- the order of the tiles

-- two tiles of a list that overlap differ in rank where their nets are one, and don't overlap where they aren't
apart_ranks : (tiles : List Tile) (i j : ℕ) (t u : Tile) → i < j → j < length tiles → get_or tiles i t ≡ t → get_or tiles j t ≡ u → RanksDiffer tiles → t.net ≡ u.net → Overlaps t u → t.rank ≢ u.rank
apart_ranks tiles i j t u less within at_t at_u ranks =
    let R : Tile → Tile → Type 0 = λ a b. a.net ≡ b.net → Overlaps a b → a.rank ≢ b.rank in
    subst (λ (b : Tile). R t b) at_u (subst (λ (a : Tile). R a (get_or tiles j t)) at_t (ranks i j t less within))

pub apart_nets : (tiles : List Tile) (i j : ℕ) (t u : Tile) → i < j → j < length tiles → get_or tiles i t ≡ t → get_or tiles j t ≡ u → NetsApart tiles → t.net ≢ u.net → ¬ Overlaps t u
apart_nets tiles i j t u less within at_t at_u nets =
    let R : Tile → Tile → Type 0 = λ a b. a.net ≢ b.net → ¬ Overlaps a b in
    subst (λ (b : Tile). R t b) at_u (subst (λ (a : Tile). R a (get_or tiles j t)) at_t (nets i j t less within))

-- two tiles of one rank that cover a square of a layer are one tile
pub unique : (tiles : List Tile) (layer : ℕ) (p : Pt) (t u : Tile) → RanksDiffer tiles → NetsApart tiles → Contains tiles t → Contains tiles u → claims layer p t ≡ true → claims layer p u ≡ true → t.rank ≡ u.rank → t ≡ u
unique tiles layer p t u ranks nets in_t in_u does_t does_u same =
    let i = in_t.0 in
    let j = in_u.0 in
    let at_u : get_or tiles j t ≡ u = get_or_default tiles j t u in_u.1 ∙ in_u.2 in
    let at_t : get_or tiles i u ≡ t = get_or_default tiles i u t in_t.1 ∙ in_t.2 in
    let parts_t = and_parts (t.layer == layer) (covers t.rect p) does_t in
    let parts_u = and_parts (u.layer == layer) (covers u.rect p) does_u in
    let layers : t.layer ≡ u.layer = eqb-true t.layer layer parts_t.0 ∙ sym (eqb-true u.layer layer parts_u.0) in
    let over : Overlaps t u = (layers, (p, parts_t.1, parts_u.1)) in
    let back : Overlaps u t = (sym layers, (p, parts_u.1, parts_t.1)) in
    ⊎_elim
    (λ (e : i ≡ j). sym in_t.2 ∙ (ap (λ k. get_or tiles k t) e ∙ at_u))
    (⊎_elim
    (λ (less : i < j). ⊎_elim
    (λ (net : t.net ≡ u.net). absurd (apart_ranks tiles i j t u less in_u.1 in_t.2 at_u ranks net over same))
    (λ (net : t.net ≢ u.net). absurd (apart_nets tiles i j t u less in_u.1 in_t.2 at_u nets net over))
    (cases_eq t.net u.net))
    (λ (more : j < i). ⊎_elim
    (λ (net : u.net ≡ t.net). absurd (apart_ranks tiles j i u t more in_t.1 in_u.2 at_t ranks net back (sym same)))
    (λ (net : u.net ≢ t.net). absurd (apart_nets tiles j i u t more in_t.1 in_u.2 at_t nets net back))
    (cases_eq u.net t.net)))
    (cases_order i j)

-- what the tiles of two lists have in common: each member of the one is a member of the other
abbrev pub IsAmong : List Tile → List Tile → Type 0
IsAmong tiles others = (t : Tile) → Contains tiles t → Contains others t

same_owner : (tiles others : List Tile) (layer : ℕ) (p : Pt) (o q : Option Tile) → RanksDiffer tiles → NetsApart tiles → IsAmong tiles others → IsAmong others tiles → Tells tiles layer p o → Tells others layer p q → q ≡ o
same_owner tiles others layer p None None ranks nets there back h k = refl
same_owner tiles others layer p None (Some u) ranks nets there back h k =
    let misses : claims layer p u ≡ false = All-contains (λ (v : Tile). claims layer p v ≡ false) tiles u h (back u k.member) in
    absurd (true≢false (sym k.covering ∙ misses))
same_owner tiles others layer p (Some t) None ranks nets there back h k =
    let misses : claims layer p t ≡ false = All-contains (λ (v : Tile). claims layer p v ≡ false) others t k (there t h.member) in
    absurd (true≢false (sym h.covering ∙ misses))
same_owner tiles others layer p (Some t) (Some u) ranks nets there back h k =
    let in_u : Contains tiles u = back u k.member in
    let one : t.rank ≤ u.rank = All-contains (λ (v : Tile). claims layer p v ≡ true → t.rank ≤ v.rank) tiles u h.least in_u k.covering in
    let two : u.rank ≤ t.rank = All-contains (λ (v : Tile). claims layer p v ≡ true → u.rank ≤ v.rank) others t k.least (there t h.member) h.covering in
    ap Some (unique tiles layer p u t ranks nets in_u h.member k.covering h.covering (omega arith))

-- lists with the same members have one plane
pub members_decide : (tiles others : List Tile) → RanksDiffer tiles → NetsApart tiles → IsAmong tiles others → IsAmong others tiles → plane_of others ≡ plane_of tiles
members_decide tiles others ranks nets there back = λ i layer p.
    ap (option_map (λ (t : Tile). (t.net, t.node))) (same_owner tiles others layer p (owner tiles layer p) (owner others layer p) ranks nets there back (owners_are_least tiles layer p) (owners_are_least others layer p)) i

pub order_is_free : OrderIsFree
order_is_free tiles others ranks nets moved =
    members_decide tiles others ranks nets (λ t. Contains-permutation tiles others t moved) (λ t. Contains-permutation others tiles t (IsPermutation-sym tiles others moved))

-- ---- tiles that own nothing

-- a tile of more rank than the owner of the others doesn't matter, before it or after it
no_matter_before : (b t : Tile) (o : Option Tile) → b.rank < t.rank → better (Some b) (better (Some t) o) ≡ better (Some b) o
no_matter_before b t None h = ap Some (grind (arith, nat_tests))
no_matter_before b t (Some u) h = ap Some (grind (arith, nat_tests))

no_matter_after : (b : Option Tile) (t u : Tile) → u.rank < t.rank → better b (better (Some t) (Some u)) ≡ better b (Some u)
no_matter_after b t u h = ap (better b) (ap Some (grind (arith, nat_tests)))

left_out_before : (layer : ℕ) (p : Pt) (xs : List Tile) (t u : Tile) (b o : Option Tile) → Tells xs layer p b → Contains xs u → claims layer p u ≡ true → u.rank < t.rank → better b (better (Some t) o) ≡ better b o
left_out_before layer p xs t u None o h inside does less =
    absurd (true≢false (sym does ∙ All-contains (λ (v : Tile). claims layer p v ≡ false) xs u h inside))
left_out_before layer p xs t u (Some b) o h inside does less =
    let least : b.rank ≤ u.rank = All-contains (λ (v : Tile). claims layer p v ≡ true → b.rank ≤ v.rank) xs u h.least inside does in
    no_matter_before b t o (omega arith)

left_out_after : (layer : ℕ) (p : Pt) (ys : List Tile) (t u : Tile) (b o : Option Tile) → Tells ys layer p o → Contains ys u → claims layer p u ≡ true → u.rank < t.rank → better b (better (Some t) o) ≡ better b o
left_out_after layer p ys t u b None h inside does less =
    absurd (true≢false (sym does ∙ All-contains (λ (v : Tile). claims layer p v ≡ false) ys u h inside))
left_out_after layer p ys t u b (Some v) h inside does less =
    let least : v.rank ≤ u.rank = All-contains (λ (w : Tile). claims layer p w ≡ true → v.rank ≤ w.rank) ys u h.least inside does in
    no_matter_after b t v (omega arith)

left_out : (layer : ℕ) (p : Pt) (xs ys : List Tile) (t u : Tile) (b o : Option Tile) → Tells xs layer p b → Tells ys layer p o → Contains (xs ++ ys) u → claims layer p u ≡ true → u.rank < t.rank → better b (better (Some t) o) ≡ better b o
left_out layer p xs ys t u b o h k inside does less = ⊎_elim
    (λ (in_xs : Contains xs u). left_out_before layer p xs t u b o h in_xs does less)
    (λ (in_ys : Contains ys u). left_out_after layer p ys t u b o k in_ys does less)
    (Contains-append_cases xs ys u inside)

without : (layer : ℕ) (p : Pt) (xs ys : List Tile) (t : Tile) (c : Bool) → claims layer p t ≡ c → NeverOwns t (xs ++ ys) → better (owner xs layer p) (better (cond c (Some t) None) (owner ys layer p)) ≡ better (owner xs layer p) (owner ys layer p)
without layer p xs ys t false misses never = ap (better (owner xs layer p)) (better_none (owner ys layer p))
without layer p xs ys t true does never =
    let parts = and_parts (t.layer == layer) (covers t.rect p) does in
    let layers : t.layer ≡ layer = eqb-true t.layer layer parts.0 in
    let found = never p parts.1 in
    let u = found.1 in
    left_out layer p xs ys t u (owner xs layer p) (owner ys layer p) (owners_are_least xs layer p) (owners_are_least ys layer p) (found.0, found.2, found.3) (subst (λ (l : ℕ). claims l p u ≡ true) layers found.4.0) found.4.1

pub owners_suffice : OwnersSuffice
owners_suffice xs ys t never = λ i layer p.
    ap (option_map (λ (t : Tile). (t.net, t.node)))
    (owner-append layer p xs (t ∷ ys)
    ∙ (ap (better (owner xs layer p)) (owner-cons layer p t ys)
    ∙ (without layer p xs ys t (claims layer p t) refl never
    ∙ sym (owner-append layer p xs ys))))
    i
