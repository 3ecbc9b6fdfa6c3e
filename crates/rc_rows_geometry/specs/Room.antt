-- What fits beside an entry.
use Rattle.std.specs.Prelude.{◌<◌, ◌+◌, ◌^◌, ℕ, Bool, nat_lt}
use Rattle.rc_tally.specs.declared.entry.Entry.{Entry}

-- a value of 128 bits
abbrev pub small : ℕ → Bool
small v = nat_lt v (2 ^ 128)

-- a count and a value fit beside those of the entry
abbrev pub Fits : ℕ → ℕ → Entry ℕ → Type 0
Fits count value e = (e.count + count < 2 ^ 64) × (e.value + value < 2 ^ 128)
