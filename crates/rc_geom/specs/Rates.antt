-- What faces are rated by.
use Rattle.std.specs.Prelude.{ℕ, Option, option_map}
use Rattle.rc_geom.specs.declared.rect.Pt.{Pt}
use Rattle.rc_geom.specs.Plane.{Plane}
use Rattle.rc_geom.specs.Faces.{Face}
use Rattle.rc_geom.specs.Context.{under, over}

-- by layer the greatest thickness and the greatest gap that count; and by layer, the layers under and over, thickness
-- and gap, the two amounts of a face: its own, and what it shares with the metal that it sees
pub record Rates (V : Type 0) : Type 0 where
  pub cap : ℕ → ℕ
  pub reach : ℕ → ℕ
  pub rate : ℕ → Option ℕ → Option ℕ → ℕ → Option ℕ → V × V

-- the amounts of a face over a square
abbrev pub rate_of : {V : Type 0} → Rates V → Plane → ℕ → Pt → Face → V × V
rate_of rates plane layer p face =
    rates.rate layer (under plane layer p) (over plane layer p) face.thick (option_map (λ seen. seen.0) face.sight)
