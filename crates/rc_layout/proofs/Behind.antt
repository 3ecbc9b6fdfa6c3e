-- The first of a name in two lists, one behind the other.
use Rattle.std.proofs.Common.{◌≡◌, ℕ, ◌+◌, Bool, true, false, cond, List, [], ◌∷◌, ◌++◌, length, map, refl, sym, ap, ◌∙◌, arith, length-append}
use Rattle.std.specs.Prelude.{Option, Some, None, position}
use Rattle.std.specs.List.{position_from}
use Rattle.std.specs.Str.{bytes_eq}
use Rattle.std.proofs.lemmas.List.{length-map}
use Rattle.std.proofs.lemmas.Iterator.Adapters.{position_from-zero}
use Rattle.rc_keys.proofs.Naming.{position-map}
use Rattle.rc_layout.specs.declared.firsts.Name.{Name}

abbrev pub else_at : Option ℕ → Option ℕ → Option ℕ
else_at (Some k) other = Some k
else_at None other = other

abbrev pub further : ℕ → Option ℕ → Option ℕ
further n (Some k) = Some (n + k)
further n None = None

from_append : {X : Type 0} (p : X → Bool) (i : ℕ) (xs ys : List X) → position_from p i (xs ++ ys) ≡ else_at (position_from p i xs) (position_from p (i + length xs) ys)
from_append p i [] ys = ap (λ j. position_from p j ys) (omega arith)
from_append p i (x ∷ xs) ys = by (p x) (from_append p (i + 1) xs ys ∙ ap (λ j. else_at (position_from p (i + 1) xs) (position_from p j ys)) (omega arith))
  where
    by : (b : Bool) → position_from p (i + 1) (xs ++ ys) ≡ else_at (position_from p (i + 1) xs) (position_from p (i + length (x ∷ xs)) ys)
        → cond b (Some i) (position_from p (i + 1) (xs ++ ys)) ≡ else_at (cond b (Some i) (position_from p (i + 1) xs)) (position_from p (i + length (x ∷ xs)) ys)
    by true rest = refl
    by false rest = rest

from_shift : {X : Type 0} (p : X → Bool) (n i : ℕ) (ys : List X) → position_from p (n + i) ys ≡ further n (position_from p i ys)
from_shift p n i [] = refl
from_shift p n i (y ∷ ys) = by (p y) (ap (λ j. position_from p j ys) (omega arith) ∙ from_shift p n (i + 1) ys)
  where
    by : (b : Bool) → position_from p (n + i + 1) ys ≡ further n (position_from p (i + 1) ys) → cond b (Some (n + i)) (position_from p (n + i + 1) ys) ≡ further n (cond b (Some i) (position_from p (i + 1) ys))
    by true rest = refl
    by false rest = rest

zero_is : {X : Type 0} (p : X → Bool) (xs : List X) → position p xs ≡ position_from p 0 xs
zero_is p xs = position_from-zero p xs

pub position_append : {X : Type 0} (p : X → Bool) (xs ys : List X) → position p (xs ++ ys) ≡ else_at (position p xs) (further (length xs) (position p ys))
position_append p xs ys =
    zero_is p (xs ++ ys) ∙ from_append p 0 xs ys ∙ ap (λ o. else_at o (position_from p (0 + length xs) ys)) (sym (zero_is p xs))
    ∙ ap (else_at (position p xs)) (ap (λ j. position_from p j ys) (omega arith) ∙ from_shift p (length xs) 0 ys ∙ ap (further (length xs)) (sym (zero_is p ys)))

-- where a name stands among things is where it stands among the names of both lists
among : {T : Type 0} (called : T → List ℕ) (own others : List Name) (items now : List T) (name : List ℕ) → map (λ (n : Name). n.text) own ++ map (λ (n : Name). n.text) others ≡ map called items → items ≡ now
    → else_at (position (λ (n : Name). bytes_eq name n.text) own) (further (length own) (position (λ (n : Name). bytes_eq name n.text) others)) ≡ position (λ item. bytes_eq name (called item)) now
among {T} called own others items now name same is =
    let texts = map (λ (n : Name). n.text) own in
    ap (λ o. else_at o (further (length own) (position (λ (n : Name). bytes_eq name n.text) others))) (sym (position-map (bytes_eq name) (λ (n : Name). n.text) own))
    ∙ ap (λ o. else_at (position (bytes_eq name) texts) (further (length own) o)) (sym (position-map (bytes_eq name) (λ (n : Name). n.text) others))
    ∙ ap (λ n. else_at (position (bytes_eq name) texts) (further n (position (bytes_eq name) (map (λ (n : Name). n.text) others)))) (sym (length-map own (λ (n : Name). n.text)))
    ∙ sym (position_append (bytes_eq name) texts (map (λ (n : Name). n.text) others)) ∙ ap (position (bytes_eq name)) same
    ∙ position-map (bytes_eq name) called items ∙ ap (λ (l : List T). position (λ item. bytes_eq name (called item)) l) is

pub in_own : {T : Type 0} (called : T → List ℕ) (own others : List Name) (items now : List T) (name : List ℕ) (k : ℕ) → map (λ (n : Name). n.text) own ++ map (λ (n : Name). n.text) others ≡ map called items → items ≡ now
    → Some k ≡ position (λ (n : Name). bytes_eq name n.text) own → Some k ≡ position (λ item. bytes_eq name (called item)) now
in_own called own others items now name k same is at =
    ap (λ o. else_at o (further (length own) (position (λ (n : Name). bytes_eq name n.text) others))) at ∙ among called own others items now name same is

pub counts : {T : Type 0} (called : T → List ℕ) (own others : List Name) (items : List T) → map (λ (n : Name). n.text) own ++ map (λ (n : Name). n.text) others ≡ map called items → length items ≡ length own + length others
counts called own others items same =
    sym (length-map items called) ∙ ap length (sym same) ∙ length-append (map (λ (n : Name). n.text) own) (map (λ (n : Name). n.text) others)
    ∙ ap (λ n. n + length (map (λ (n : Name). n.text) others)) (length-map own (λ (n : Name). n.text)) ∙ ap (λ n. length own + n) (length-map others (λ (n : Name). n.text))

pub in_others : {T : Type 0} (called : T → List ℕ) (own others : List Name) (items now : List T) (name : List ℕ) (k place : ℕ) → map (λ (n : Name). n.text) own ++ map (λ (n : Name). n.text) others ≡ map called items → items ≡ now
    → None ≡ position (λ (n : Name). bytes_eq name n.text) own → Some k ≡ position (λ (n : Name). bytes_eq name n.text) others → place ≡ length own + k → Some place ≡ position (λ item. bytes_eq name (called item)) now
in_others called own others items now name k place same is gone at e =
    ap (λ p. Some p) e ∙ ap (further (length own)) at ∙ ap (λ o. else_at o (further (length own) (position (λ (n : Name). bytes_eq name n.text) others))) gone
    ∙ among called own others items now name same is

pub in_none : {T : Type 0} (called : T → List ℕ) (own others : List Name) (items now : List T) (name : List ℕ) → map (λ (n : Name). n.text) own ++ map (λ (n : Name). n.text) others ≡ map called items → items ≡ now
    → None ≡ position (λ (n : Name). bytes_eq name n.text) own → None ≡ position (λ (n : Name). bytes_eq name n.text) others → None ≡ position (λ item. bytes_eq name (called item)) now
in_none called own others items now name same is gone none =
    ap (further (length own)) none ∙ ap (λ o. else_at o (further (length own) (position (λ (n : Name). bytes_eq name n.text) others))) gone
    ∙ among called own others items now name same is
