-- A technology.
use Rattle.std.specs.Prelude.{◌++◌, ℕ, Bool, true, false, List, [], Option, None}
use Rattle.rc_lef.specs.declared.units.Units.{Units}
use Rattle.rc_lef.specs.declared.tech.Layer.{Layer}
use Rattle.rc_lef.specs.declared.via.Via.{Via}
use Rattle.rc_lef.specs.declared.cell.Macro.{Macro}
use Rattle.rc_lef.specs.declared.cell.MacroPin.{MacroPin}
use Rattle.rc_lef.specs.declared.ndr.Ndr.{Ndr}
use Rattle.rc_lef.specs.declared.tech.LayerKind.{LayerKind}
use Rattle.rc_lef.specs.declared.tech.LayerKind.TheVariants as kinds

-- what LEF files define: the units of a micron, and layers, vias, macros and nondefault rules, each in order of first
-- definition
pub record Technology : Type 0 where
  pub units : Option Units
  pub layers : List Layer
  pub vias : List Via
  pub macros : List Macro
  pub rules : List Ndr

-- nothing is defined
abbrev pub no_technology : Technology
no_technology = record { units = None; layers = []; vias = []; macros = []; rules = [] }

abbrev pub is_routing : LayerKind → Bool
is_routing (kinds.Routing number) = true
is_routing _ = false

abbrev pub is_cut : LayerKind → Bool
is_cut (kinds.Cut number) = true
is_cut _ = false

-- ---- names

abbrev pub name_of_layer : Layer → List ℕ
name_of_layer layer = layer.name

abbrev pub name_of_via : Via → List ℕ
name_of_via via = via.name

abbrev pub name_of_macro : Macro → List ℕ
name_of_macro cell = cell.name

abbrev pub name_of_pin : MacroPin → List ℕ
name_of_pin pin = pin.name

abbrev pub name_of_rule : Ndr → List ℕ
name_of_rule rule = rule.name

-- ---- what a file adds

abbrev pub with_more : Technology → Option Units → List Layer → List Via → List Macro → List Ndr → Technology
with_more tech units layers vias macros rules = record {
  units = units;
  layers = tech.layers ++ layers;
  vias = tech.vias ++ vias;
  macros = tech.macros ++ macros;
  rules = tech.rules ++ rules;
}

-- ---- the reader of files, one after the other: what they define, and how many bytes they had
pub record Files : Type 0 where
  pub tech : Technology
  pub bytes : ℕ
