-- The order of keys.
use Rattle.std.proofs.Common.{◌≡◌, ℕ, Bool, true, false, cond, eqb, ltb, refl, ap, sym, ◌∙◌, arith}
use Rattle.std.specs.Prelude.{◌&&◌}
use Rattle.std.specs.declared.cmp.Ordering.{Ordering}
use Rattle.std.specs.declared.cmp.Ordering.TheVariants.{Less, Equal, Greater}
use Rattle.std.specs.Ordering.{is_eq, ordering_then, nat_cmp}
use Rattle.std.proofs.lemmas.Bool.{ltb-true, ne_eqb}
use Rattle.rc_geom.specs.contracts.key.KeyOrd.TheImpl as block
use Rattle.rc_geom.specs.declared.key.Key.TheVariants.{Ground, Pair}
use Rattle.rc_squares.specs.Tallies.{KeyOrder}
use Rattle.rc_squares.proofs.Tallies.{TellsKeys}

-- the order that keys are compared by
abbrev pub key_order : KeyOrder
key_order = block.ghosts.cmp

of_tests : (less same : Bool) → (less ≡ true → same ≡ false) → is_eq (cond less Less (cond same Equal Greater)) ≡ same
of_tests true same h = sym (h refl)
of_tests false true h = refl
of_tests false false h = refl

is_eq-nat_cmp : (a b : ℕ) → is_eq (nat_cmp a b) ≡ eqb a b
is_eq-nat_cmp a b = of_tests (ltb a b) (eqb a b) (λ less. ne_eqb a b (λ same. omega (arith, ltb-true a b less)))

is_eq-then : (o p : Ordering) → is_eq (ordering_then o p) ≡ (is_eq o && is_eq p)
is_eq-then Less p = refl
is_eq-then Equal p = refl
is_eq-then Greater p = refl

and_regroup : (a b c d : Bool) → (a && (b && (c && d))) ≡ (a && b && (c && d))
and_regroup true b c d = refl
and_regroup false b c d = refl

first_then : (a b : ℕ) (o : Ordering) (same : Bool) → is_eq o ≡ same → is_eq (ordering_then (nat_cmp a b) o) ≡ (eqb a b && same)
first_then a b o same is = is_eq-then (nat_cmp a b) o ∙ (ap (λ s. s && is_eq o) (is_eq-nat_cmp a b) ∙ ap (λ s. eqb a b && s) is)

pub tells_keys : TellsKeys key_order
tells_keys (Ground net node) (Ground net' node') = first_then net net' (nat_cmp node node') (eqb node node') (is_eq-nat_cmp node node')
tells_keys (Ground net node) (Pair net' node' other' onode') = refl
tells_keys (Pair net node other onode) (Ground net' node') = refl
tells_keys (Pair net node other onode) (Pair net' node' other' onode') =
    first_then net net' (ordering_then (nat_cmp node node') (ordering_then (nat_cmp other other') (nat_cmp onode onode'))) (eqb node node' && (eqb other other' && eqb onode onode'))
    (first_then node node' (ordering_then (nat_cmp other other') (nat_cmp onode onode')) (eqb other other' && eqb onode onode')
    (first_then other other' (nat_cmp onode onode') (eqb onode onode') (is_eq-nat_cmp onode onode')))
    ∙ and_regroup (eqb net net') (eqb node node') (eqb other other') (eqb onode onode')
