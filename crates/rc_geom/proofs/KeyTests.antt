-- Keys: their test, and what two metals share.
use Rattle.std.proofs.Common.{◌≡◌, ◌≢◌, ◌<◌, ⊎_elim, Bool, true, false, cond, Some, None, refl, ap, sym, ◌∙◌, subst, arith}
use Rattle.std.specs.Prelude.{◌==◌, ◌&&◌}
use Rattle.std.proofs.lemmas.Bool.{and_parts, and_from, eqb-true, eq-eqb, lt-ltb, le-ltb, cases_order}
use Rattle.rc_geom.specs.declared.key.Key.{Key}
use Rattle.rc_geom.specs.declared.key.Key.TheVariants.{Ground, Pair}
use Rattle.rc_geom.specs.Plane.{Metal}
use Rattle.rc_geom.specs.Parts.{pair_key, same_key}
use Rattle.rc_geom.specs.Laws.{IsInOrder, SharesAreMutual, KeysAreTold}

pub one_key : (a b : Key) → same_key a b ≡ true → a ≡ b
one_key (Ground net node) (Ground net' node') h =
    let both = and_parts (net == net') (node == node') h in
    let e : net ≡ net' = eqb-true net net' both.0 in
    let f : node ≡ node' = eqb-true node node' both.1 in
    cc
one_key (Pair net node other onode) (Pair net' node' other' onode') h =
    let halves = and_parts ((net == net') && (node == node')) ((other == other') && (onode == onode')) h in
    let first = and_parts (net == net') (node == node') halves.0 in
    let second = and_parts (other == other') (onode == onode') halves.1 in
    let e : net ≡ net' = eqb-true net net' first.0 in
    let f : node ≡ node' = eqb-true node node' first.1 in
    let g : other ≡ other' = eqb-true other other' second.0 in
    let i : onode ≡ onode' = eqb-true onode onode' second.1 in
    cc
one_key (Ground net node) (Pair net' node' other' onode') h = cc
one_key (Pair net node other onode) (Ground net' node') h = cc

pub itself : (a : Key) → same_key a a ≡ true
itself (Ground net node) = and_from (net == net) (node == node) (eq-eqb net net refl) (eq-eqb node node refl)
itself (Pair net node other onode) =
    and_from ((net == net) && (node == node)) ((other == other) && (onode == onode))
    (and_from (net == net) (node == node) (eq-eqb net net refl) (eq-eqb node node refl))
    (and_from (other == other) (onode == onode) (eq-eqb other other refl) (eq-eqb onode onode refl))

pub keys_are_told : KeysAreTold
keys_are_told a b = (one_key a b, λ e. ap (same_key a) (sym e) ∙ itself a)

pub pair_low : (a b : Metal) → a.0 < b.0 → pair_key a b ≡ Pair a.0 a.1 b.0 b.1
pair_low a b less = ap (λ (c : Bool). cond c (Pair a.0 a.1 b.0 b.1) (Pair b.0 b.1 a.0 a.1)) (lt-ltb a.0 b.0 less)

pub pair_high : (a b : Metal) → b.0 < a.0 → pair_key a b ≡ Pair b.0 b.1 a.0 a.1
pair_high a b more = ap (λ (c : Bool). cond c (Pair a.0 a.1 b.0 b.1) (Pair b.0 b.1 a.0 a.1)) (le-ltb a.0 b.0 (omega arith))

pair_both : (a b : Metal) → a.0 ≢ b.0 → (pair_key a b ≡ pair_key b a) × IsInOrder (pair_key a b)
pair_both a b apart = ⊎_elim
    (λ (e : a.0 ≡ b.0). absurd (apart e))
    (⊎_elim
    (λ (less : a.0 < b.0). (pair_low a b less ∙ sym (pair_high b a less), subst IsInOrder (sym (pair_low a b less)) less))
    (λ (more : b.0 < a.0). (pair_high a b more ∙ sym (pair_low b a more), subst IsInOrder (sym (pair_high a b more)) more)))
    (cases_order a.0 b.0)

shared_cases : (a b : Metal) (g h : Bool) → (a.1 == 0) ≡ g → (b.1 == 0) ≡ h → pair_key a b ≡ pair_key b a →
    cond h (cond g None (Some (Ground a.0 a.1))) (cond g (cond h None (Some (Ground b.0 b.1))) (Some (pair_key a b))) ≡ cond g (cond h None (Some (Ground b.0 b.1))) (cond h (cond g None (Some (Ground a.0 a.1))) (Some (pair_key b a)))
shared_cases a b true true is_a is_b same = refl
shared_cases a b true false is_a is_b same = refl
shared_cases a b false true is_a is_b same = refl
shared_cases a b false false is_a is_b same = ap Some same

pub shares_are_mutual : SharesAreMutual
shares_are_mutual a b apart =
    let pair = pair_both a b apart in
    (pair.0, pair.1, shared_cases a b (a.1 == 0) (b.1 == 0) refl refl pair.0)
