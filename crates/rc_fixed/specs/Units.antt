-- The units in which a layout counts its lengths.
use Rattle.std.specs.Prelude.{ℕ, List, [], ◌∷◌, Contains}

-- how many units of length a micron may have
abbrev pub units_of_a_micron : List ℕ
units_of_a_micron = 100 ∷ 200 ∷ 400 ∷ 800 ∷ 1000 ∷ 2000 ∷ 4000 ∷ 8000 ∷ 10000 ∷ 20000 ∷ []

-- m is one of them
abbrev pub IsUnits : ℕ → Type 0
IsUnits m = Contains units_of_a_micron m
