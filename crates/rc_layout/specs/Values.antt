-- What the values of a list are, and which of its refusals stands: laws of `each`.
use Rattle.std.specs.Prelude.{◌≡◌, ◌↔◌, Ok, Err, List, ◌∷◌, ◌++◌}
use Rattle.std.specs.List.{AllZip}
use Rattle.rc_keys.specs.declared.fault.Refusal.{Refusal}
use Rattle.rc_layout.specs.Refusals.{Linked, each}

-- each item has its value, in their order
abbrev pub HaveValues : {A B : Type 0} → (A → Linked B) → List A → List B → Type 0
HaveValues f xs ys = AllZip (λ x y. f x ≡ Ok y) xs ys

-- an item has that refusal, and each item before it has its value
pub record IsFirstRefusal {A B : Type 0} (f : A → Linked B) (xs : List A) (refusal : Refusal) : Type 0 where
  pub before : List A
  pub item : A
  pub behind : List A
  pub values : List B
  pub list : xs ≡ before ++ item ∷ behind
  pub have : HaveValues f before values
  pub refused : f item ≡ Err refusal

-- a list has values exactly where each item has one
abbrev pub EachHasValue : (A B : Type 0) → Type 0
EachHasValue A B = (f : A → Linked B) (xs : List A) (ys : List B) → (each f xs ≡ Ok ys) ↔ HaveValues f xs ys

-- and is refused exactly as its first item that is
abbrev pub EachIsRefused : (A B : Type 0) → Type 0
EachIsRefused A B = (f : A → Linked B) (xs : List A) (r : Refusal) → (each f xs ≡ Err r) ↔ IsFirstRefusal f xs r
