-- Draws of a linear congruential generator modulo 2^31.
use Rattle.std.specs.Prelude.{ℕ, ◌+◌, ◌*◌, ◌/◌, ◌%◌, ◌^◌}
use Rattle.std.specs.Fn.{iterate}

abbrev pub next : ℕ → ℕ
next state = (1103515245 * state + 12345) % 2 ^ 31

-- the state behind so many draws from a seed
unfoldable pub state_after : ℕ → ℕ → ℕ
state_after seed draws = iterate next draws seed

-- a draw is the high bits of its state
abbrev pub drawn : ℕ → ℕ
drawn state = state / 65536

-- an offset of up to 4.9 micron, in steps of 0.1 micron and in units of 1/1000 micron
abbrev pub offset_at : ℕ → ℕ
offset_at state = 100 * (drawn state % 50)

-- the offset of each draw, from 1
abbrev pub offset : ℕ → ℕ → ℕ
offset seed draw = offset_at (state_after seed draw)
