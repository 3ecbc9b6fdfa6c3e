-- What linking needs of a technology and of a design, by what holds of them.
use Rattle.std.proofs.Common.{ℕ, ℤ, pos, List, subst, sym, get_or, arith}
use Rattle.std.specs.Prelude.{All, Option, Some, None, IfSome, IsSomeAnd, ◌≤ℤ◌}
use Rattle.std.proofs.lemmas.Int.{ints}
use Rattle.rc_lef.specs.declared.cell.Macro.{Macro}
use Rattle.rc_lef.specs.Facts.{IsSound, IsCell, IsWidth, routing_count}
use Rattle.rc_lef.specs.Technology.{Technology}
use Rattle.rc_wire.specs.declared.path.RawPath.{RawPath}
use Rattle.rc_wire.specs.Forms.{IsLength, IsRegular, IsSpecial}
use Rattle.rc_def.specs.declared.design.RawDesign.{RawDesign}
use Rattle.rc_def.specs.declared.raw_net.RawNet.{RawNet}
use Rattle.rc_def.specs.Forms.{IsMade, IsRawDesign}
use Rattle.rc_layout.specs.Layouts.{lists_of}
use Rattle.rc_layout.specs.Names.{DifferInNames}
use Rattle.rc_layout.specs.Ranges.{CanStand, IsPath}

natural : (z : ℤ) → IsWidth z → pos 0 ≤ℤ z
natural z is = let low = is.0 in omega (arith, ints)

cell_stands : (routing : ℕ) (cell : Macro) → IsCell routing cell → CanStand cell
cell_stands routing cell is = record {
  origin = record { x = is.origin.x; y = is.origin.y };
  wide = natural cell.w is.wide;
  narrow = is.wide.1;
  high = natural cell.h is.high;
  low = is.high.1;
  pins = λ k d within. record { rects = λ j e inside. let shape = (is.pins k d within j e inside).1 in record { left = shape.left; below = shape.below; right = shape.right; above = shape.above } };
}

pub cells_stand : (tech : Technology) → IsSound tech → All CanStand tech.macros
cells_stand tech sound k d within = cell_stands (routing_count tech) (get_or tech.macros k d) (sound.ranges.cells k d within)

-- ---- paths

own : (width : Option ℤ) → IsSomeAnd width IsLength → IfSome width (λ w. pos 0 ≤ℤ w)
own (Some w) is = is.low
own None is = tt

special_path : (path : RawPath) → IsSpecial path → IsPath path
special_path path is = record { width = own path.width is.width }

regular_path : (path : RawPath) → IsRegular path → IsPath path
regular_path path is = record { width = subst (λ (width : Option ℤ). IfSome width (λ w. pos 0 ≤ℤ w)) (sym is.width) tt }

pub specials_have : (raw : RawDesign) → IsRawDesign raw → All (λ (net : RawNet). All IsPath net.paths) raw.specials
specials_have raw is k d within j e inside = special_path (get_or (get_or raw.specials k d).paths j e) ((is.specials k d within).paths j e inside)

pub nets_have : (raw : RawDesign) → IsRawDesign raw → All (λ (net : RawNet). All IsPath net.paths) raw.nets
nets_have raw is k d within j e inside = regular_path (get_or (get_or raw.nets k d).paths j e) ((is.nets k d within).paths j e inside)

pub regular_paths : (paths : List RawPath) → All IsRegular paths → All IsPath paths
regular_paths paths all k d within = regular_path (get_or paths k d) (all k d within)

-- ---- entries

pub vias_have : (raw : RawDesign) → IsRawDesign raw → All (λ via. IfSome via.made IsMade) raw.vias
vias_have raw is k d within = (is.vias k d within).made

pub names_have : (raw : RawDesign) → IsRawDesign raw → DifferInNames (lists_of raw)
names_have raw is = record { vias = is.names.vias; rules = is.names.rules; comps = is.names.comps; pins = is.names.pins }
