-- What is read of a DEF file so far, and the design that it says.
use Rattle.std.specs.Prelude.{◌&&◌, ℕ, pos, Bool, true, false, Option, Some, None, is_some, List, [], unsigned_abs, unwrap_or}
use Rattle.rc_geom.specs.declared.orient.Orient.TheVariants as orients
use Rattle.rc_keys.specs.Tables.{has_name}
use Rattle.rc_wire.specs.Paths.{no_paths}
use Rattle.rc_def.specs.declared.design.RawDesign.{RawDesign}
use Rattle.rc_def.specs.declared.draft.Draft.{Draft}
use Rattle.rc_def.specs.declared.draft.Header.{Header}
use Rattle.rc_def.specs.declared.draft.Units.{Units}
use Rattle.rc_def.specs.declared.draft.Lists.{Lists}
use Rattle.rc_def.specs.declared.draft.LayerWidth.{LayerWidth}
use Rattle.rc_def.specs.declared.draft.NetDraft.{NetDraft}
use Rattle.rc_def.specs.declared.draft.PinDraft.{PinDraft}
use Rattle.rc_def.specs.declared.draft.ViaDraft.{ViaDraft}
use Rattle.rc_def.specs.declared.entry.RawVia.{RawVia}
use Rattle.rc_def.specs.declared.entry.RawRule.{RawRule}
use Rattle.rc_def.specs.declared.entry.RawComp.{RawComp}
use Rattle.rc_def.specs.declared.entry.RawPin.{RawPin}
use Rattle.rc_def.specs.declared.raw_net.RawNet.{RawNet}
use Rattle.rc_def.specs.declared.item.Section.{Section}
use Rattle.rc_def.specs.declared.item.Section.TheVariants as sections
use Rattle.rc_def.specs.declared.item.Stage.TheVariants as stages

-- ---- nothing

abbrev pub no_header : Header
no_header = record { design = None; units = None; divider = None; bus = None }

abbrev pub no_lists : Lists
no_lists = record { vias = []; rules = []; comps = []; pins = []; specials = []; nets = [] }

abbrev pub no_via : ViaDraft
no_via = record { is_plain = true; has_rule = false; cut = None; layers = None; spacing = None; enclosure = None; rows = None; rects = [] }

abbrev pub no_pin : PinDraft
no_pin = record { dir = None; ports = []; is_open = false; rects = []; at = None }

abbrev pub no_net : NetDraft
no_net = record { power = None; rule = None; conns = []; paths = []; rects = []; vias = []; via = []; orient = orients.N }

abbrev pub nothing_read : Draft
nothing_read = record {
  header = no_header;
  lists = no_lists;
  stage = stages.Top;
  section = sections.Vias;
  skipped = [];
  name = [];
  line = 0;
  via = no_via;
  widths = [];
  cell = [];
  at = None;
  pin = no_pin;
  net = no_net;
  wiring = no_paths false 0;
}

-- ---- names

abbrev pub name_of_via : RawVia → List ℕ
name_of_via via = via.name

abbrev pub name_of_rule : RawRule → List ℕ
name_of_rule rule = rule.name

abbrev pub name_of_comp : RawComp → List ℕ
name_of_comp comp = comp.name

abbrev pub name_of_pin : RawPin → List ℕ
name_of_pin pin = pin.name

abbrev pub name_of_net : RawNet → List ℕ
name_of_net net = net.name

abbrev pub layer_of_width : LayerWidth → List ℕ
layer_of_width width = width.layer

-- whether a section has an entry of a name
abbrev pub has : Section → List ℕ → Lists → Bool
has sections.Vias name lists = has_name name_of_via name lists.vias
has sections.Rules name lists = has_name name_of_rule name lists.rules
has sections.Comps name lists = has_name name_of_comp name lists.comps
has sections.Pins name lists = has_name name_of_pin name lists.pins
has sections.Specials name lists = has_name name_of_net name lists.specials
has sections.Nets name lists = has_name name_of_net name lists.nets

-- ---- the design

-- DESIGN and UNITS must be there
abbrev pub is_complete : Header → Bool
is_complete header = is_some header.design && is_some header.units

abbrev pub units_or_1 : Option Units → Units
units_or_1 (Some units) = units
units_or_1 None = record { in_a_micron = pos 1; line = 0 }

-- the divider is `/` and the bus brackets are `[]` where nothing is said of them
abbrev pub divider_or_default : Option ℕ → ℕ
divider_or_default (Some divider) = divider
divider_or_default None = 47

abbrev pub bus_or_default : Option (ℕ × ℕ) → ℕ × ℕ
bus_or_default (Some bus) = bus
bus_or_default None = (91, 93)

unfoldable pub design_of : Header → Lists → RawDesign
design_of header lists = record {
  design = unwrap_or header.design [];
  divider = divider_or_default header.divider;
  bus_left = (bus_or_default header.bus).0;
  bus_right = (bus_or_default header.bus).1;
  units = unsigned_abs (units_or_1 header.units).in_a_micron;
  units_line = (units_or_1 header.units).line;
  vias = lists.vias;
  rules = lists.rules;
  comps = lists.comps;
  pins = lists.pins;
  specials = lists.specials;
  nets = lists.nets;
}
