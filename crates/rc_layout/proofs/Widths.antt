-- Widths of layers by their numbers.
use Rattle.std.proofs.Common.{◌≡◌, ◌<◌, ℕ, ℤ, pos, Bool, true, false, cond, List, [], ◌∷◌, ap, ◌∙◌, get_or, arith}
use Rattle.std.specs.Prelude.{All, Option, Some, None, IfSome}
use Rattle.std.specs.List.{find}
use Rattle.std.proofs.lemmas.Int.{ints}
use Rattle.std.proofs.lemmas.List.Elements.{All-head, All-tail}
use Rattle.std.proofs.lemmas.List.FromFn.{get_or-map-range_with_len}
use Rattle.rc_geom.specs.Context.{layer_count}
use Rattle.rc_lef.specs.declared.tech.Layer.{Layer}
use Rattle.rc_layout.specs.Ranges.{IsSpan}
use Rattle.rc_layout.specs.Widths.{has_number, width_of, layer_width, layer_widths}

-- what holds of each item holds of the one that is found
pub found : {X : Type 0} (P : X → Type 0) (p : X → Bool) (xs : List X) → All P xs → IfSome (find p xs) P
found P p [] all = tt
found P p (x ∷ xs) all = by (p x) (found P p xs (All-tail P x xs all))
  where
    by : (b : Bool) → IfSome (find p xs) P → IfSome (cond b (Some x) (find p xs)) P
    by true rest = All-head P x xs all
    by false rest = rest

of_found : (layer : Option Layer) → IfSome layer (λ l. IsSpan l.width) → IsSpan (width_of layer)
of_found (Some layer) is = is
of_found None is = record { low = omega (arith, ints); high = omega (arith, ints) }

pub width_spans : (layers : List Layer) (number : ℕ) → All (λ layer. IsSpan layer.width) layers → IsSpan (layer_width layers number)
width_spans layers number all =
    of_found (find (λ layer. has_number number layer.kind) layers) (found (λ (l : Layer). IsSpan l.width) (λ (layer : Layer). has_number number layer.kind) layers all)

pub width_at_is : (layers : List Layer) (widths : List ℤ) (n : ℕ) → widths ≡ layer_widths layers → n < layer_count → get_or widths n (pos 0) ≡ layer_width layers n
unfolding layer_widths
width_at_is layers widths n is within = ap (λ (ws : List ℤ). get_or ws n (pos 0)) is ∙ get_or-map-range_with_len (layer_width layers) 0 layer_count n n (pos 0) within (omega arith)
