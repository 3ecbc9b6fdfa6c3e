-- A tile stands in a list where it was read.
use Rattle.std.proofs.Common.{◌≡◌, ◌<◌, ℕ, List, length, get_or, sym, subst}
use Rattle.std.specs.Prelude.{Contains}
use Rattle.std.proofs.lemmas.List.{get_or_default}

pub contains_at : {X : Type 0} (read held : List X) (k : ℕ) (d : X) → held ≡ read → k < length read → Contains held (get_or read k d)
contains_at {X = Y} read held k d same within =
    subst (λ (xs : List Y). Contains xs (get_or read k d)) (sym same) (k, within, get_or_default read k (get_or read k d) d within)
