-- What raters keep.
use Rattle.std.specs.Prelude.{◌≡◌, ◌<◌, ◌≤◌, ◌^◌, ℕ, Bool, true, Option, Some, None}
use Rattle.rc_geom.specs.Rates.{Rates}
use Rattle.rc_geom.specs.Sums.{Adding}

-- caps and reaches are from 1 to 2^29; a thickness above the cap rates as the cap, and a gap above the reach as none; a
-- face without a gap shares nothing; and all amounts are sound
pub record KeepsRules {V : Type 0} (has_rules : ℕ → Type 0) (rates : Rates V) (adding : Adding V) (sound : V → Bool) : Type 0 where
  pub cap_least : (layer : ℕ) → has_rules layer → 1 ≤ rates.cap layer
  pub cap_most : (layer : ℕ) → has_rules layer → rates.cap layer ≤ 2 ^ 29
  pub reach_least : (layer : ℕ) → has_rules layer → 1 ≤ rates.reach layer
  pub reach_most : (layer : ℕ) → has_rules layer → rates.reach layer ≤ 2 ^ 29
  pub capped : (layer : ℕ) (under over : Option ℕ) (thick : ℕ) (gap : Option ℕ) → has_rules layer → rates.cap layer < thick →
      rates.rate layer under over thick gap ≡ rates.rate layer under over (rates.cap layer) gap
  pub out_of_reach : (layer : ℕ) (under over : Option ℕ) (thick gap : ℕ) → has_rules layer → rates.reach layer < gap →
      rates.rate layer under over thick (Some gap) ≡ rates.rate layer under over thick None
  pub alone : (layer : ℕ) (under over : Option ℕ) (thick : ℕ) → has_rules layer → (rates.rate layer under over thick None).1 ≡ adding.none
  pub own : (layer : ℕ) (under over : Option ℕ) (thick : ℕ) (gap : Option ℕ) → has_rules layer → sound (rates.rate layer under over thick gap).0 ≡ true
  pub share : (layer : ℕ) (under over : Option ℕ) (thick : ℕ) (gap : Option ℕ) → has_rules layer → sound (rates.rate layer under over thick gap).1 ≡ true
