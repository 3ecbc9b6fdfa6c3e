-- Layers by name, and new names.
use Rattle.std.proofs.Common.{◌≡◌, ◌∙◌, ◌+◌, ℕ, suc, Bool, true, false, cond, List, [], ◌∷◌, length, get_or, refl, ap, sym, arith}
use Rattle.std.proofs.lemmas.Bool.Decides.{nat_tests}
use Rattle.std.specs.Prelude.{Option, Some, None, ◌||◌, option_map, position, nat_lt}
use Rattle.std.specs.List.{position_or_len, list_any}
use Rattle.std.specs.Str.{bytes_eq}
use Rattle.rc_keys.specs.Tables.{has_name}
use Rattle.rc_lef.specs.declared.tech.Layer.{Layer}
use Rattle.rc_lef.specs.declared.tech.LayerKind.{LayerKind}
use Rattle.rc_lef.specs.Operands.{is_named, kind_named}

-- ---- the first place of a test, from the front

next : {X : Type 0} (test : X → Bool) (x : X) (xs : List X) (b : Bool) → test x ≡ b → position test (x ∷ xs) ≡ cond b (Some 0) (option_map (λ place. 1 + place) (position test xs))
next test x xs true is = let e : nat_lt 0 (suc (length xs)) ≡ true = grind (arith, nat_tests) in rw (is, e) refl
next test x xs false is = rw is (by (position_or_len test xs) (length xs))
  where
    by : (k n : ℕ) → cond (nat_lt (1 + k) (suc n)) (Some (1 + k)) None ≡ option_map (λ place. 1 + place) (cond (nat_lt k n) (Some k) None)
    by k n = let e : nat_lt (1 + k) (suc n) ≡ nat_lt k n = grind (arith, nat_tests) in rw e (if_so (nat_lt k n) k)
      where
        if_so : (b : Bool) (k : ℕ) → cond b (Some (1 + k)) None ≡ option_map (λ place. 1 + place) (cond b (Some k) None)
        if_so true k = refl
        if_so false k = refl

abbrev at_place : List Layer → Layer → ℕ → LayerKind
at_place layers d k = (get_or layers k d).kind

shifted : (x d : Layer) (layers : List Layer) (place : Option ℕ) → option_map (at_place layers d) place ≡ option_map (at_place (x ∷ layers) d) (option_map (λ k. 1 + k) place)
shifted x d layers None = refl
shifted x d layers (Some k) = let e : 1 + k ≡ suc k = omega arith in rw e refl

pub kind_of_place : (name : List ℕ) (layers : List Layer) (d : Layer) → kind_named name layers ≡ option_map (at_place layers d) (position (is_named name) layers)
kind_of_place name [] d = refl
kind_of_place name (x ∷ layers) d = by (is_named name x) refl (kind_of_place name layers d)
  where
    by : (b : Bool) → is_named name x ≡ b → kind_named name layers ≡ option_map (at_place layers d) (position (is_named name) layers) → cond b (Some x.kind) (kind_named name layers) ≡ option_map (at_place (x ∷ layers) d) (position (is_named name) (x ∷ layers))
    by true is more = rw (next (is_named name) x layers true is) refl
    by false is more = rw (next (is_named name) x layers false is) (more ∙ shifted x d layers (position (is_named name) layers))

pub kind_found : (name : List ℕ) (layers : List Layer) (place : Option ℕ) (k : ℕ) (d : Layer) → place ≡ position (is_named name) layers → place ≡ Some k → Some (get_or layers k d).kind ≡ kind_named name layers
kind_found name layers place k d at is = sym (kind_of_place name layers d ∙ ap (option_map (at_place layers d)) (sym at ∙ is))

pub kind_unknown : (name : List ℕ) (layers : List Layer) (place : Option ℕ) → place ≡ position (is_named name) layers → place ≡ None → None ≡ kind_named name layers
kind_unknown name [] place at is = refl
kind_unknown name (x ∷ layers) place at is = sym (kind_of_place name (x ∷ layers) x ∙ ap (option_map (at_place (x ∷ layers) x)) (sym at ∙ is))

-- ---- what isn't known has a new name

neither : (a b : Bool) → (a || b) ≡ false → b ≡ false
neither true b is = absurd cc
neither false b is = is

pub new_name : {T : Type 0} (called : T → List ℕ) (name other : List ℕ) (before xs ys : List T) (known : Bool) → known ≡ (list_any (λ x. bytes_eq name (called x)) before || list_any (λ x. bytes_eq name (called x)) xs) → known ≡ false → other ≡ name → ys ≡ xs → has_name called other ys ≡ false
new_name called name other before xs ys known is no_ named same = rw (named, same) (neither (list_any (λ x. bytes_eq name (called x)) before) (list_any (λ x. bytes_eq name (called x)) xs) (sym is ∙ no_))
