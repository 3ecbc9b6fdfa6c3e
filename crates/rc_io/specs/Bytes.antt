-- The bytes that a sink holds, where it tells them.
use Rattle.std.specs.Prelude.{ℕ, List, [], ◌++◌, ◌≡◌, ◌<◌, ◌≤◌, Option, Some, None, length, take}

-- what is held once these bytes are appended
abbrev pub grown : Option (List ℕ) → List ℕ → Option (List ℕ)
grown None bytes = None
grown (Some held) bytes = Some (held ++ bytes)

-- from before to now some first bytes of these were appended, and nothing else
abbrev pub GrewByPrefix : Option (List ℕ) → Option (List ℕ) → List ℕ → Type 0
GrewByPrefix before now bytes =
    (count : ℕ) × (count ≤ length bytes) × (now ≡ grown before (take count bytes))

-- the same, and not all of them
abbrev pub GrewByLess : Option (List ℕ) → Option (List ℕ) → List ℕ → Type 0
GrewByLess before now bytes =
    (count : ℕ) × (count < length bytes) × (now ≡ grown before (take count bytes))

-- appending nothing changes nothing
abbrev pub GrowsByNothing : Type 0
GrowsByNothing = (held : Option (List ℕ)) → grown held [] ≡ held

-- appending twice is appending both at once
abbrev pub GrowsByBoth : Type 0
GrowsByBoth = (held : Option (List ℕ)) (first second : List ℕ)
    → grown (grown held first) second ≡ grown held (first ++ second)
