-- Small facts about tests and options.
use Rattle.std.proofs.Common.{◌≡◌, Bool, true, false, cond, List, [], ◌∷◌, ◌++◌, refl, sym, append_assoc}
use Rattle.std.specs.Prelude.{Option, Some, None, ◌&&◌, ◌||◌, is_some, is_none}

pub both : (a b : Bool) → (a && b) ≡ true → (a ≡ true) × (b ≡ true)
both true b is = (refl, is)
both false b is = absurd cc

pub neither : (a b : Bool) → (a || b) ≡ false → (a ≡ false) × (b ≡ false)
neither true b is = absurd cc
neither false b is = (refl, is)

pub some_is : {A : Type 0} (x : Option A) → is_none x ≡ false → is_some x ≡ true
some_is (Some x) is = refl
some_is None is = absurd cc

pub none_is : {A : Type 0} (x : Option A) → is_some x ≡ true → is_none x ≡ false
none_is (Some x) is = refl
none_is None is = absurd cc

-- one more, unless it is known
pub joins : {X : Type 0} (known : Bool) (xs ys : List X) (x y : X) → (known ≡ false → x ≡ y) → xs ++ cond known ys (ys ++ x ∷ []) ≡ cond known (xs ++ ys) ((xs ++ ys) ++ y ∷ [])
joins true xs ys x y same = refl
joins false xs ys x y same = rw (same refl) (sym (append_assoc xs ys (y ∷ [])))
