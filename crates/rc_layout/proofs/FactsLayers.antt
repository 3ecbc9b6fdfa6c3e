-- Routing layers that are there, and how wide wires on them are.
use Rattle.std.proofs.Common.{◌≡◌, ◌∙◌, ⊎_elim, ℕ, ◌+◌, ◌<◌, ◌≤ℤ◌, Bool, true, false, cond, List, [], ◌∷◌, length, get_or, refl, sym, ap, subst, arith}
use Rattle.std.proofs.lemmas.Bool.{eqb-true, eq-eqb, true≢false}
use Rattle.std.proofs.lemmas.List.Elements.{All-head, All-tail}
use Rattle.std.proofs.lemmas.List.FromFn.{get_or-range_with_len}
use Rattle.std.specs.Prelude.{All, Contains, Some, is_some, find, pos}
use Rattle.std.specs.List.{cons_option}
use Rattle.rc_fixed.proofs.Members.{none_in, head_or_tail}
use Rattle.rc_geom.specs.Context.{layer_count}
use Rattle.rc_lef.specs.Technology.{Technology}
use Rattle.rc_lef.specs.Facts.{IsSound, HasWidth, numbers_of, routing_number, routing_count}
use Rattle.rc_lef.specs.Operands.{is_named, kind_named}
use Rattle.rc_lef.specs.declared.tech.Layer.{Layer}
use Rattle.rc_lef.specs.declared.tech.LayerKind.{LayerKind}
use Rattle.rc_lef.specs.declared.tech.LayerKind.TheVariants as kinds
use Rattle.rc_layout.specs.Facts.{HasRouting}
use Rattle.rc_layout.specs.Widths.{has_number, layer_width}

-- ---- a number below that of the routing layers

found_first : (n : ℕ) (layer : Layer) (layers : List Layer) → has_number n layer.kind ≡ true → HasRouting (layer ∷ layers) n
found_first n layer layers is = rw is refl

found_later : (n : ℕ) (layer : Layer) (layers : List Layer) → HasRouting layers n → HasRouting (layer ∷ layers) n
found_later n layer layers has = by (has_number n layer.kind)
  where
    by : (t : Bool) → is_some (cond t (Some layer) (find (λ (layer : Layer). has_number n layer.kind) layers)) ≡ true
    by true = refl
    by false = has

among : (layers : List Layer) (n : ℕ) → Contains (numbers_of routing_number layers) n → HasRouting layers n
among [] n has = absurd (none_in n has)
among (layer ∷ layers) n has = by (among layers n) layer.kind refl has
  where
    by : (Contains (numbers_of routing_number layers) n → HasRouting layers n) → (kind : LayerKind) → layer.kind ≡ kind → Contains (cons_option (routing_number kind) (numbers_of routing_number layers)) n → HasRouting (layer ∷ layers) n
    by rest (kinds.Routing m) is has = ⊎_elim
        (λ (here : m ≡ n). found_first n layer layers (ap (λ (k : LayerKind). has_number n k) is ∙ eq-eqb n m (sym here)))
        (λ (there : Contains (numbers_of routing_number layers) n). found_later n layer layers (rest there))
        (head_or_tail m (numbers_of routing_number layers) n has)
    by rest (kinds.Cut m) is has = found_later n layer layers (rest has)
    by rest kinds.Other is has = found_later n layer layers (rest has)

pub there_has : (tech : Technology) (n : ℕ) → IsSound tech → n < routing_count tech → HasRouting tech.layers n
there_has tech n sound lt =
    let numbers : List ℕ = numbers_of routing_number tech.layers in
    let up = sound.ranges.routing in
    let e : get_or numbers n n ≡ 0 + n = ap (λ (ns : List ℕ). get_or ns n n) up.are ∙ get_or-range_with_len 0 (length numbers) n n lt in
    among tech.layers n (n, lt, omega (arith, e))

pub there_few : (tech : Technology) (n : ℕ) → IsSound tech → n < routing_count tech → n < layer_count
there_few tech n sound lt = let few = sound.ranges.routing.few in omega (arith, lt, few)

-- ---- a layer that is there

routing_kind : (n : ℕ) (kind : LayerKind) → has_number n kind ≡ true → kind ≡ kinds.Routing n
routing_kind n (kinds.Routing m) is = ap kinds.Routing (sym (eqb-true n m is))
routing_kind n (kinds.Cut m) is = absurd (true≢false (sym is))
routing_kind n kinds.Other is = absurd (true≢false (sym is))

-- its number and its width are in range
pub record IsRouting (layers : List Layer) (n : ℕ) : Type 0 where
  pub few : n < layer_count
  pub wide : pos 1 ≤ℤ layer_width layers n

pub routing_is : (layers : List Layer) (n : ℕ) → All (λ (layer : Layer). HasWidth layer.kind layer.width) layers → HasRouting layers n → IsRouting layers n
routing_is [] n all has = absurd (true≢false (sym has))
routing_is (layer ∷ layers) n all has =
    by (routing_is layers n (All-tail (λ (layer : Layer). HasWidth layer.kind layer.width) layer layers all)) (has_number n layer.kind) refl has
  where
    range : HasWidth layer.kind layer.width
    range = All-head (λ (layer : Layer). HasWidth layer.kind layer.width) layer layers all

    by : (HasRouting layers n → IsRouting layers n) → (t : Bool) → has_number n layer.kind ≡ t
        → is_some (cond t (Some layer) (find (λ (layer : Layer). has_number n layer.kind) layers)) ≡ true → IsRouting (layer ∷ layers) n
    by rest true is has =
        let in_range : HasWidth (kinds.Routing n) layer.width = subst (λ (k : LayerKind). HasWidth k layer.width) (routing_kind n layer.kind is) range in
        record { few = in_range.0; wide = rw is in_range.1.0 }
    by rest false is has =
        let later = rest has in
        record { few = later.few; wide = rw is later.wide }

-- the layer of a name is there
pub named_routing : (layers : List Layer) (name : List ℕ) (n : ℕ) → kind_named name layers ≡ Some (kinds.Routing n) → HasRouting layers n
named_routing [] name n is = absurd cc
named_routing (layer ∷ layers) name n is = by (named_routing layers name n) (is_named name layer) is
  where
    by : (kind_named name layers ≡ Some (kinds.Routing n) → HasRouting layers n) → (t : Bool) → cond t (Some layer.kind) (kind_named name layers) ≡ Some (kinds.Routing n)
        → HasRouting (layer ∷ layers) n
    by rest true is =
        let same : layer.kind ≡ kinds.Routing n = cc in
        found_first n layer layers (ap (λ (k : LayerKind). has_number n k) same ∙ eq-eqb n n refl)
    by rest false is = found_later n layer layers (rest is)
