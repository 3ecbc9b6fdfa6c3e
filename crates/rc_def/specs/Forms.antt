-- The forms that the entries of a DEF file have, and the ranges of their numbers.
use Rattle.std.specs.Prelude.{◌≡◌, ◌≤◌, ◌^◌, ℤ, pos, ◌≤ℤ◌, ◌<ℤ◌, All, IfSome, IsSome, List, [], ◌∷◌, length}
use Rattle.rc_geom.specs.declared.rect.Rect.{Rect}
use Rattle.rc_geom.specs.Split.{IsCoordinate}
use Rattle.rc_wire.specs.declared.path.RawPath.{RawPath}
use Rattle.rc_wire.specs.Forms.{IsLength, IsPoint, IsRegular, IsSpecial}
use Rattle.rc_def.specs.declared.design.RawDesign.{RawDesign}
use Rattle.rc_def.specs.declared.entry.RawVia.{RawVia}
use Rattle.rc_def.specs.declared.entry.RawRule.{RawRule}
use Rattle.rc_def.specs.declared.entry.RawComp.{RawComp}
use Rattle.rc_def.specs.declared.entry.RawPort.{RawPort}
use Rattle.rc_def.specs.declared.entry.RawPin.{RawPin}
use Rattle.rc_def.specs.declared.raw_net.RawNet.{RawNet}
use Rattle.rc_def.specs.Sound.{IsSound}

-- a length above 0, of at most 2^29
pub record IsWidth (z : ℤ) : Type 0 where
  pub low : pos 1 ≤ℤ z
  pub high : z ≤ℤ pos (2 ^ 29)

-- a number of rows or columns
pub record IsCount (z : ℤ) : Type 0 where
  pub low : pos 1 ≤ℤ z
  pub high : z ≤ℤ pos 1024

-- a rectangle that has an area, with its corners within 2^29 of 0
pub record IsBox (r : Rect) : Type 0 where
  pub left : IsCoordinate r.x0
  pub below : IsCoordinate r.y0
  pub right : IsCoordinate r.x1
  pub above : IsCoordinate r.y1
  pub wide : r.x0 <ℤ r.x1
  pub high : r.y0 <ℤ r.y1

-- the sizes of a cut, the spacings of cuts, the enclosures of the first and of the third layer, the rows and the columns
abbrev pub IsMade : List ℤ → Type 0
IsMade (cx ∷ cy ∷ sx ∷ sy ∷ bx ∷ by ∷ tx ∷ ty ∷ rows ∷ columns ∷ []) =
    IsWidth cx × IsWidth cy × IsLength sx × IsLength sy × IsLength bx × IsLength by × IsLength tx × IsLength ty × IsCount rows × IsCount columns
IsMade _ = ⊥

-- a via that is made has three layers
pub record IsRawVia (via : RawVia) : Type 0 where
  pub few : length via.rects ≤ 2 ^ 30
  pub rects : All (λ r. IsBox r.1) via.rects
  pub made : IfSome via.made IsMade
  pub layers : IsSome via.made → length via.layers ≡ 3

pub record IsRawRule (rule : RawRule) : Type 0 where
  pub widths : All (λ w. IsWidth w.1) rule.widths

pub record IsRawComp (comp : RawComp) : Type 0 where
  pub at : IfSome comp.at (λ p. IsPoint p.0)

pub record IsRawPort (port : RawPort) : Type 0 where
  pub rects : All (λ r. IsBox r.1) port.rects
  pub at : IfSome port.at (λ p. IsPoint p.0)

pub record IsRawPin (pin : RawPin) : Type 0 where
  pub ports : All IsRawPort pin.ports

-- a net whose paths are regular ones, or special ones
pub record IsRawNet (IsPath : RawPath → Type 0) (net : RawNet) : Type 0 where
  pub few : length net.conns ≤ 2 ^ 30
  pub paths : All IsPath net.paths
  pub rects : All (λ r. IsBox r.1) net.rects
  pub vias : All (λ v. IsPoint v.2) net.vias

-- a design that was read: within each of its six lists the names differ, and each entry has its form
pub record IsRawDesign (design : RawDesign) : Type 0 where
  pub names : IsSound design
  pub some_units : 1 ≤ design.units
  pub few_units : design.units ≤ 2 ^ 29
  pub few_vias : length design.vias ≤ 2 ^ 30
  pub vias : All IsRawVia design.vias
  pub rules : All IsRawRule design.rules
  pub comps : All IsRawComp design.comps
  pub pins : All IsRawPin design.pins
  pub specials : All (IsRawNet IsSpecial) design.specials
  pub nets : All (IsRawNet IsRegular) design.nets
