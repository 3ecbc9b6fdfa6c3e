-- Scales: widths or distances that rise.
use Rattle.std.specs.Prelude.{◌≡◌, ◌≤◌, ◌-◌, ◌^◌, ◌&&◌, ℕ, Bool, true, List, [], ◌∷◌, All, length, nat_le, nat_lt, slice_index}

-- each is less than the next one
abbrev pub rises : List ℕ → Bool
rises [] = true
rises (first ∷ []) = true
rises (first ∷ second ∷ others) = nat_lt first second && rises (second ∷ others)

-- 1 to so many that rise strictly
abbrev pub is_scale : ℕ → List ℕ → Bool
is_scale most steps = nat_le 1 (length steps) && nat_le (length steps) most && rises steps

-- a length of one unit to 2^29 units
abbrev pub IsLength : ℕ → Type 0
IsLength units = (1 ≤ units) × (units ≤ 2 ^ 29)

-- at most 32 lengths, which rise strictly
pub record IsScale (steps : List ℕ) : Type 0 where
  pub few : length steps ≤ 32
  pub rising : rises steps ≡ true
  pub each : All IsLength steps

-- the last step, 0 where there is none
abbrev pub last_step : List ℕ → ℕ
last_step steps = slice_index steps (length steps - 1)
