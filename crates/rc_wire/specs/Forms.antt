-- The forms that paths have, and the ranges of their numbers.
use Rattle.std.specs.Prelude.{◌≡◌, ◌^◌, ℤ, pos, ◌≤ℤ◌, Bool, true, false, All, None, Some, IfSome, IsSomeAnd, List, ◌∷◌, drop}
use Rattle.rc_geom.specs.declared.rect.Pt.{Pt}
use Rattle.rc_geom.specs.Split.{IsCoordinate}
use Rattle.rc_wire.specs.declared.path.RawPath.{RawPath}
use Rattle.rc_wire.specs.declared.path.Step.{Step}
use Rattle.rc_wire.specs.declared.path.Step.TheVariants as steps
use Rattle.rc_wire.specs.declared.path.Taper.TheVariants as tapers

-- a length of at most 2^29
pub record IsLength (z : ℤ) : Type 0 where
  pub low : pos 0 ≤ℤ z
  pub high : z ≤ℤ pos (2 ^ 29)

-- both coordinates are within 2^29 of 0
pub record IsPoint (p : Pt) : Type 0 where
  pub x : IsCoordinate p.x
  pub y : IsCoordinate p.y

abbrev pub IsStep : Step → Type 0
IsStep (steps.Point at ext) = IsPoint at × IfSome ext IsLength
IsStep (steps.Via name orient) = Unit {0}
IsStep (steps.Patch x0 y0 x1 y1) = IsPoint (record { x = x0; y = y0 }) × IsPoint (record { x = x1; y = y1 })

abbrev pub BeginsAtPoint : List Step → Type 0
BeginsAtPoint (steps.Point at ext ∷ others) = Unit {0}
BeginsAtPoint _ = ⊥

abbrev pub is_point : Step → Bool
is_point (steps.Point at ext) = true
is_point _ = false

abbrev pub is_patch : Step → Bool
is_patch (steps.Patch x0 y0 x1 y1) = true
is_patch _ = false

-- a regular path has no width of its own
pub record IsRegular (path : RawPath) : Type 0 where
  pub width : path.width ≡ None
  pub begins : BeginsAtPoint path.steps
  pub steps : All IsStep path.steps

-- a special path has its width, no nondefault rule and no patch. In a path of width 0 the first point is the only one
pub record IsSpecial (path : RawPath) : Type 0 where
  pub width : IsSomeAnd path.width IsLength
  pub taper : path.taper ≡ tapers.Net
  pub begins : BeginsAtPoint path.steps
  pub steps : All IsStep path.steps
  pub no_patch : All (λ step. is_patch step ≡ false) path.steps
  pub thin : path.width ≡ Some (pos 0) → All (λ step. is_point step ≡ false) (drop 1 path.steps)

-- special paths, or regular ones
abbrev pub IsPathOf : Bool → RawPath → Type 0
IsPathOf true path = IsSpecial path
IsPathOf false path = IsRegular path
