-- A value, or why there is none; and lists, each of whose items has one or the other.
use Rattle.std.specs.Prelude.{◌≡◌, Bool, Result, Ok, Err, Option, Some, None, List, [], ◌∷◌, ◌++◌, if◌then◌else◌}
use Rattle.std.specs.List.{fold}
use Rattle.rc_keys.specs.declared.code.Quantity.TheVariants.{Coords}
use Rattle.rc_keys.specs.declared.fault.Fault.{Fault}
use Rattle.rc_keys.specs.declared.fault.Fault.TheVariants.{Refused, NoMemory}
use Rattle.rc_keys.specs.declared.fault.Refusal.{Refusal}
use Rattle.rc_keys.specs.declared.fault.Refusal.TheVariants.{Limit}

infixr 2 ◌>>=◌ ◌>>◌
abbrev pub Linked : Type 0 → Type 0
Linked A = Result A Refusal

-- the first refusal stands; without one the next value may speak of those before
abbrev pub ◌>>=◌ : {A B : Type 0} → Linked A → (A → Linked B) → Linked B
◌>>=◌ (Ok a) next = next a
◌>>=◌ (Err refusal) next = Err refusal

-- a check without a value
abbrev pub ◌>>◌ : {B : Type 0} → Linked (Unit {0}) → Linked B → Linked B
◌>>◌ (Ok a) next = next
◌>>◌ (Err refusal) next = Err refusal

abbrev pub unless : Bool → Refusal → Linked (Unit {0})
unless holds refusal = if holds then Ok tt else Err refusal

-- a coordinate lies too far out
abbrev pub too_far : Refusal
too_far = Limit Coords

-- what is there, or that refusal
abbrev pub there : {A : Type 0} → Refusal → Option A → Linked A
there refusal (Some a) = Ok a
there refusal None = Err refusal

-- ---- what calls answer, where want of memory is free

-- a value, or its refusal
abbrev pub Links : {A : Type 0} → Result A Fault → Linked A → Type 0
Links (Ok a) meaning = meaning ≡ Ok a
Links (Err (Refused refusal)) meaning = meaning ≡ Err refusal
Links (Err NoMemory) meaning = Unit {0}

-- the same of what a call leaves where it stands
abbrev pub Leaves : {T S : Type 0} → Result T Fault → S → Linked S → Type 0
Leaves (Ok _) now meaning = meaning ≡ Ok now
Leaves (Err (Refused refusal)) now meaning = meaning ≡ Err refusal
Leaves (Err NoMemory) now meaning = Unit {0}

-- ---- lists

-- the next item, unless one before was refused
abbrev pub goes_on : {S A : Type 0} → (S → A → Linked S) → Linked S → A → Linked S
goes_on f so_far x = so_far >>= λ s. f s x

-- what the items make of a state, one after another, or the first refusal
abbrev pub through : {S A : Type 0} → (S → A → Linked S) → S → List A → Linked S
through f s xs = fold (goes_on f) (Ok s) xs

abbrev pub adds : {A B : Type 0} → (A → Linked B) → List B → A → Linked (List B)
adds f done x = f x >>= λ y. Ok (done ++ y ∷ [])

-- the value of each item, or the first refusal
abbrev pub each : {A B : Type 0} → (A → Linked B) → List A → Linked (List B)
each f xs = through (adds f) [] xs

-- what g makes of each value
abbrev pub after : {A B C : Type 0} → (B → C) → (A → Linked B) → A → Linked C
after g f x = f x >>= λ y. Ok (g y)
