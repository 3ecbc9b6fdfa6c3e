-- Names of things that join others.
use Rattle.std.proofs.Common.{◌≡◌, ◌∙◌, ℕ, Bool, true, false, List, [], ◌++◌, sym}
use Rattle.std.specs.Prelude.{◌&&◌}
use Rattle.rc_keys.specs.Tables.{are_new}
use Rattle.rc_keys.proofs.Naming.{are_new-append}

second : (a b : Bool) → (a && b) ≡ true → b ≡ true
second true b is = is
second false b is = absurd cc

-- things of different names, the later ones behind the earlier ones
pub new_behind : {T : Type 0} (called : T → List ℕ) (xs ys : List T) → are_new called [] (xs ++ ys) ≡ true → are_new called xs ys ≡ true
new_behind called xs ys are = second (are_new called [] xs) (are_new called xs ys) (sym (are_new-append called [] xs ys) ∙ are)
