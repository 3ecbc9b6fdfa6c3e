-- Counts of edits.
use Rattle.std.specs.Prelude.{ℕ, ◌+◌, ◌-◌, ◌^◌, min, max}

-- a count that is raised by so many; it never falls, and stands still at the greatest number of 64 bits
abbrev pub raised : ℕ → ℕ → ℕ
raised count by = max count (min (count + by) (2 ^ 64 - 1))
