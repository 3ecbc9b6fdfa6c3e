-- One item more in a loop that folds.
use Rattle.std.proofs.Common.{◌≡◌, ◌<◌, ◌+◌, ℕ, List, [], ◌∷◌, ◌++◌, map, length, get_or, take, ap, sym, subst, ◌∙◌}
use Rattle.std.specs.Prelude.{fold, All}
use Rattle.std.specs.List.{flat_map}
use Rattle.std.proofs.lemmas.List.{take_more, append-nil, map-append}
use Rattle.std.proofs.lemmas.List.Sums.{fold-append}
use Rattle.std.proofs.lemmas.List.Elements.{All-append, All-from_recursion}
use Rattle.std.proofs.lemmas.Grind.{flat_map-append}

-- what is folded over all that one item more is mapped to
pub flat_folded : {X Y Z : Type 0} (f : Z → Y → Z) (g : X → List Y) (xs : List X) (i : ℕ) (d : X) (a before after : Z) → i < length xs → before ≡ fold f a (flat_map g (take i xs)) → after ≡ fold f before (g (get_or xs i d)) →
    after ≡ fold f a (flat_map g (take (i + 1) xs))
flat_folded {X} {Y} f g xs i d a before after within so_far more =
    more ∙ ap (λ z. fold f z (g (get_or xs i d))) so_far
    ∙ sym (fold-append f a (flat_map g (take i xs)) (g (get_or xs i d)))
    ∙ ap (λ (ys : List Y). fold f a (flat_map g (take i xs) ++ ys)) (sym (append-nil (g (get_or xs i d))))
    ∙ ap (fold f a) (sym (flat_map-append g (take i xs) (get_or xs i d ∷ [])))
    ∙ ap (λ (zs : List X). fold f a (flat_map g zs)) (sym (take_more xs i d within))

-- the same where each item is mapped to one
pub map_folded : {X Y Z : Type 0} (f : Z → Y → Z) (g : X → Y) (xs : List X) (i : ℕ) (d : X) (a before after : Z) → i < length xs → before ≡ fold f a (map g (take i xs)) → after ≡ f before (g (get_or xs i d)) →
    after ≡ fold f a (map g (take (i + 1) xs))
map_folded {X} {Y} f g xs i d a before after within so_far more =
    more ∙ ap (λ z. f z (g (get_or xs i d))) so_far
    ∙ sym (fold-append f a (map g (take i xs)) (g (get_or xs i d) ∷ []))
    ∙ ap (fold f a) (sym (map-append g (take i xs) (get_or xs i d ∷ [])))
    ∙ ap (λ (zs : List X). fold f a (map g zs)) (sym (take_more xs i d within))

-- what holds of all items so far, and of one more
pub all_more : {X : Type 0} (P : X → Type 0) (xs : List X) (i : ℕ) (d : X) → i < length xs → All P (take i xs) → P (get_or xs i d) → All P (take (i + 1) xs)
all_more P xs i d within so_far holds =
    subst (All P) (sym (take_more xs i d within)) (All-append P (take i xs) (get_or xs i d ∷ []) so_far (All-from_recursion P (get_or xs i d ∷ []) (holds, tt)))

-- what is folded over two lists, one after the other
pub two_folds : {X Y Z : Type 0} (f : Z → Y → Z) (g : X → List Y) (a : Z) (xs ys : List X) → fold f (fold f a (flat_map g xs)) (flat_map g ys) ≡ fold f a (flat_map g (xs ++ ys))
two_folds {X} {Y} f g a xs ys = sym (fold-append f a (flat_map g xs) (flat_map g ys)) ∙ ap (fold f a) (sym (flat_map-append g xs ys))
