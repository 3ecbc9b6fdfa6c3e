-- The items of paths (LEF/DEF 5.8 Language Reference, 'NETS' and 'SPECIALNETS', routing points).
use Rattle.std.specs.Prelude.{◌&&◌, ◌++◌, ℕ, ℤ, pos, Bool, true, false, Option, Some, None, Result, Ok, Err, List, [], ◌∷◌, if◌then◌else◌}
use Rattle.std.specs.Ordering.{int_eq}
use Rattle.rc_geom.specs.declared.orient.Orient.{Orient}
use Rattle.rc_geom.specs.declared.orient.Orient.TheVariants as orients
use Rattle.rc_geom.specs.declared.rect.Pt.{Pt}
use Rattle.rc_keys.specs.declared.code.Code.{Code}
use Rattle.rc_keys.specs.declared.code.Code.TheVariants.{E03, E04, E05}
use Rattle.rc_wire.specs.declared.key.Key.{Key}
use Rattle.rc_wire.specs.declared.key.Key.TheVariants as keys
use Rattle.rc_wire.specs.declared.operands.Operands.{Operands}
use Rattle.rc_wire.specs.declared.part.Part.{Part}
use Rattle.rc_wire.specs.declared.part.Part.TheVariants as parts
use Rattle.rc_wire.specs.declared.part.When.TheVariants as whens
use Rattle.rc_wire.specs.declared.item.PathItem.{PathItem}
use Rattle.rc_wire.specs.declared.item.PathItem.TheVariants as items
use Rattle.rc_wire.specs.declared.item.PathStage.{PathStage}
use Rattle.rc_wire.specs.declared.item.PathStage.TheVariants as stages
use Rattle.rc_wire.specs.declared.path.RawPath.{RawPath}
use Rattle.rc_wire.specs.declared.path.Step.{Step}
use Rattle.rc_wire.specs.declared.path.Step.TheVariants as steps
use Rattle.rc_wire.specs.declared.path.Taper.TheVariants as tapers
use Rattle.rc_wire.specs.declared.wiring.Wiring.{Wiring}
use Rattle.rc_keys.specs.Course.{More}
use Rattle.rc_wire.specs.Keys.{is_name, is_orientation}
use Rattle.rc_wire.specs.Items.{Format, or_refused}

-- how an item is written
unfoldable pub form_of : PathItem → List Part
-- layer
form_of items.Layer = parts.Name ∷ []
-- layer width
form_of items.WideLayer = parts.Name ∷ parts.AtLeast0 ∷ []
-- NEW layer
form_of items.Next = parts.First ∷ parts.Name ∷ []
-- NEW layer width
form_of items.WideNext = parts.First ∷ parts.Name ∷ parts.AtLeast0 ∷ []
-- TAPER
form_of items.Taper = parts.First ∷ []
-- TAPERRULE r
form_of items.TaperRule = parts.First ∷ parts.Name ∷ []
-- + SHAPE s
form_of items.Shape = parts.First ∷ parts.Shape ∷ parts.Name ∷ []
-- ( x y ) and ( x y e )
form_of items.Point = parts.First ∷ parts.X ∷ parts.Y ∷ parts.Maybe whens.Extension 1 ∷ parts.Extension ∷ parts.Close ∷ []
-- MASK n
form_of items.Mask = parts.First ∷ parts.Passed ∷ []
-- RECT ( a b c d )
form_of items.Patch = parts.First ∷ parts.Open ∷ parts.Whole ∷ parts.Whole ∷ parts.Whole ∷ parts.Whole ∷ parts.Close ∷ []
-- a via, and its orientation
form_of items.Via = parts.Name ∷ []
form_of items.Orientation = parts.Orientation ∷ []

-- ---- which item a token begins; none, where it ends the list. The code is that of a token that does neither

abbrev pub is_thin : Option ℤ → Bool
is_thin (Some width) = int_eq width (pos 0)
is_thin None = false

-- the first point
abbrev pub begins_first : Key → Result (Option PathItem) Code
begins_first keys.Open = Ok (Some items.Point)
begins_first keys.Style = Err E04
begins_first keys.Virtual = Err E04
begins_first _ = Err E03

abbrev pub begins_head : Bool → Key → Result (Option PathItem) Code
begins_head false keys.Taper = Ok (Some items.Taper)
begins_head false keys.TaperRule = Ok (Some items.TaperRule)
begins_head true keys.Plus = Ok (Some items.Shape)
begins_head _ key = begins_first key

-- a step, or NEW, or the end of the list
abbrev pub begins_step : Wiring → Key → Result (Option PathItem) Code
begins_step v keys.Open = if is_thin v.width then Err E05 else Ok (Some items.Point)
begins_step v keys.Mask = Ok (Some items.Mask)
begins_step v keys.Rect = if v.is_wide then Err E03 else Ok (Some items.Patch)
begins_step v keys.Style = Err E04
begins_step v keys.Virtual = Err E04
begins_step v keys.New = if v.is_wide then Ok (Some items.WideNext) else Ok (Some items.Next)
begins_step v keys.Plus = Ok None
begins_step v keys.Semicolon = Ok None
begins_step v key = if is_name key then Ok (Some items.Via) else Err E03

abbrev pub is_do : Key → Bool
is_do keys.Do = true
is_do _ = false

-- DO behind a via
abbrev pub begins_turned : Wiring → Key → Result (Option PathItem) Code
begins_turned v key = if v.is_wide && is_do key then Err E04 else begins_step v key

abbrev pub begins_in : PathStage → Wiring → Key → Result (Option PathItem) Code
begins_in stages.Layer v key = if is_name key then (if v.is_wide then Ok (Some items.WideLayer) else Ok (Some items.Layer)) else Err E03
begins_in stages.Head v key = begins_head v.is_wide key
begins_in stages.First v key = begins_first key
begins_in stages.Steps v key = begins_step v key
begins_in stages.AfterVia v key = if is_orientation key then Ok (Some items.Orientation) else begins_turned v key
begins_in stages.Turned v key = begins_turned v key

unfoldable pub begins : Wiring → Key → Result (Option PathItem) Code
begins v key = begins_in v.stage v key

-- ---- what an item says of the paths so far

abbrev pub no_paths : Bool → ℕ → Wiring
no_paths is_wide line = record { is_wide = is_wide; line = line; paths = []; stage = stages.Layer; layer = []; width = None; taper = tapers.Net; steps = []; last = None }

abbrev pub path_of : Wiring → RawPath
path_of v = record { layer = v.layer; width = v.width; taper = v.taper; steps = v.steps; line = v.line }

-- the paths of the list, with the open one
abbrev pub paths_of : Wiring → List RawPath
paths_of v = v.paths ++ path_of v ∷ []

-- the open path is complete
abbrev pub with_path : Wiring → Wiring
with_path v = record v { paths = paths_of v; layer = []; taper = tapers.Net; steps = [] }

abbrev pub on_layer : List ℕ → Option ℤ → Wiring → Wiring
on_layer layer width v = record v { layer = layer; width = width; taper = tapers.Net; steps = []; last = None; stage = stages.Head }

abbrev pub one_of : List ℤ → Option ℤ
one_of (z ∷ []) = Some z
one_of _ = None

abbrev pub point_of : List ℤ → Option Pt
point_of (x ∷ y ∷ []) = Some (record { x = x; y = y })
point_of _ = None

abbrev pub orient_of : Key → Orient
orient_of keys.S = orients.S
orient_of keys.W = orients.W
orient_of keys.E = orients.E
orient_of keys.FN = orients.FN
orient_of keys.FS = orients.FS
orient_of keys.FW = orients.FW
orient_of keys.FE = orients.FE
orient_of _ = orients.N

abbrev pub with_point : Option Pt → Option ℤ → Wiring → Wiring
with_point (Some at) ext v = record v { steps = v.steps ++ steps.Point at ext ∷ []; last = Some at; stage = stages.Steps }
with_point None ext v = record v { stage = stages.Steps }

abbrev pub with_patch : List ℤ → Wiring → Wiring
with_patch (x0 ∷ y0 ∷ x1 ∷ y1 ∷ []) v = record v { steps = v.steps ++ steps.Patch x0 y0 x1 y1 ∷ []; stage = stages.Steps }
with_patch _ v = record v { stage = stages.Steps }

abbrev pub with_via : List ℕ → Wiring → Wiring
with_via name v = record v { steps = v.steps ++ steps.Via name orients.N ∷ []; stage = stages.AfterVia }

abbrev pub turned : Orient → Step → Step
turned orient (steps.Via name before) = steps.Via name orient
turned orient step = step

-- the last step, turned
unfoldable pub last_turned : Orient → List Step → List Step
last_turned orient [] = []
last_turned orient (step ∷ []) = turned orient step ∷ []
last_turned orient (step ∷ second ∷ more) = step ∷ last_turned orient (second ∷ more)

abbrev pub with_orientation : Orient → Wiring → Wiring
with_orientation orient v = record v { steps = last_turned orient v.steps; stage = stages.Turned }

unfoldable pub means : PathItem → Wiring → Operands → Wiring
means items.Layer v said = on_layer said.name (one_of said.numbers) v
means items.WideLayer v said = on_layer said.name (one_of said.numbers) v
means items.Next v said = on_layer said.name (one_of said.numbers) (with_path v)
means items.WideNext v said = on_layer said.name (one_of said.numbers) (with_path v)
means items.Taper v said = record v { taper = tapers.Layer; stage = stages.First }
means items.TaperRule v said = record v { taper = tapers.Rule said.name; stage = stages.First }
-- it doesn't count
means items.Shape v said = v
means items.Point v said = with_point (point_of said.numbers) said.extension v
means items.Mask v said = record v { stage = stages.Steps }
means items.Patch v said = with_patch said.numbers v
-- a via is placed as it is, unless its orientation follows
means items.Via v said = with_via said.name v
means items.Orientation v said = with_orientation (orient_of said.chosen) v

-- ---- the format

abbrev pub path_format : Format Wiring PathItem
path_format = record { begins = λ v key word. or_refused word (begins v key); form = form_of; last = λ v. v.last; means = λ item v said. More (means item v said) }
