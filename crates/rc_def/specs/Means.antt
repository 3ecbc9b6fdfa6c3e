-- What an item of a DEF file says of what is read so far (LEF/DEF 5.8 Language Reference, chapter 'DEF Syntax').
use Rattle.std.specs.Prelude.{◌&&◌, ◌||◌, ◌++◌, ℕ, ℤ, pos, Bool, true, false, Option, Some, None, is_some, List, [], ◌∷◌, map, if◌then◌else◌}
use Rattle.rc_geom.specs.declared.orient.Orient.{Orient}
use Rattle.rc_geom.specs.declared.orient.Orient.TheVariants as orients
use Rattle.rc_geom.specs.declared.rect.Pt.{Pt}
use Rattle.rc_keys.specs.Course.{Turn, More, Done, Close}
use Rattle.rc_wire.specs.declared.key.Key.{Key}
use Rattle.rc_wire.specs.declared.key.Key.TheVariants as keys
use Rattle.rc_wire.specs.declared.operands.Operands.{Operands}
use Rattle.rc_wire.specs.Paths.{one_of, point_of, orient_of, no_paths, paths_of, means as means_of_path}
use Rattle.rc_def.specs.declared.draft.Draft.{Draft}
use Rattle.rc_def.specs.declared.draft.Enclosure.{Enclosure}
use Rattle.rc_def.specs.declared.draft.Header.{Header}
use Rattle.rc_def.specs.declared.draft.NetDraft.{NetDraft}
use Rattle.rc_def.specs.declared.draft.PinDraft.{PinDraft}
use Rattle.rc_def.specs.declared.draft.Units.{Units}
use Rattle.rc_def.specs.declared.draft.ViaDraft.{ViaDraft}
use Rattle.rc_def.specs.declared.draft.ViaLayers.{ViaLayers}
use Rattle.rc_def.specs.declared.entry.RawVia.{RawVia}
use Rattle.rc_def.specs.declared.entry.RawRule.{RawRule}
use Rattle.rc_def.specs.declared.entry.RawComp.{RawComp}
use Rattle.rc_def.specs.declared.entry.RawPin.{RawPin}
use Rattle.rc_def.specs.declared.raw_net.RawNet.{RawNet}
use Rattle.rc_def.specs.declared.item.DefItem.{DefItem}
use Rattle.rc_def.specs.declared.item.DefItem.TheVariants as items
use Rattle.rc_def.specs.declared.item.Section.{Section}
use Rattle.rc_def.specs.declared.item.Section.TheVariants as sections
use Rattle.rc_def.specs.declared.item.Stage.{Stage}
use Rattle.rc_def.specs.declared.item.Stage.TheVariants as stages
use Rattle.rc_def.specs.Drafts.{no_via, no_pin, no_net, name_of_via, name_of_rule, name_of_comp, name_of_pin, name_of_net, layer_of_width}
use Rattle.rc_def.specs.Parts.{with_new, first, rect_of, with_rect, pair_of}

-- ---- statements between the sections

abbrev pub goes : Stage → Draft → Turn Draft
goes stage v = More (record v { stage = stage })

abbrev pub ends : Stage → Draft → Turn Draft
ends stage v = Done (record v { stage = stage })

abbrev pub units_of : Option ℤ → ℕ → Option Units
units_of (Some in_a_micron) line = Some (record { in_a_micron = in_a_micron; line = line })
units_of None line = None

abbrev pub divider_of : List ℕ → Option ℕ
divider_of (divider ∷ []) = Some divider
divider_of _ = None

abbrev pub bus_of : List ℕ → Option (ℕ × ℕ)
bus_of (left ∷ right ∷ []) = Some (left, right)
bus_of _ = None

abbrev pub with_header : Header → Draft → Draft
with_header header v = record v { header = header }

-- the first DIVIDERCHAR and the first BUSBITCHARS count
abbrev pub says : DefItem → Operands → Draft → Draft
says items.Design said v = with_header (record v.header { design = Some said.name }) v
says items.Units said v = with_header (record v.header { units = units_of (one_of said.numbers) said.line }) v
says items.DividerChar said v = with_header (record v.header { divider = first v.header.divider (divider_of said.name) }) v
says items.BusBitChars said v = with_header (record v.header { bus = first v.header.bus (bus_of said.name) }) v
says _ said v = v

abbrev pub statement : DefItem → Operands → Draft → Turn Draft
statement item said v = ends stages.Top (says item said v)

-- ---- the name of an entry

abbrev pub named : Operands → Draft → Draft
named said v = record v { name = said.name; line = said.line }

abbrev pub begins_in : Section → Operands → Draft → Turn Draft
begins_in sections.Vias said v = goes stages.Options (record v { via = no_via })
begins_in sections.Rules said v = goes stages.Options (record v { widths = [] })
begins_in sections.Comps said v = goes stages.Options (record v { cell = said.second; at = None })
begins_in sections.Pins said v = goes stages.Options (record v { pin = no_pin })
begins_in sections.Specials said v = goes stages.Connections (record v { net = no_net })
begins_in sections.Nets said v = goes stages.Connections (record v { net = no_net })

abbrev pub begins_entry : Operands → Draft → Turn Draft
begins_entry said v = begins_in v.section said (named said v)

-- ---- options of vias. Of each the first counts

abbrev pub enclosure_of : List ℤ → Option Enclosure
enclosure_of (x ∷ y ∷ third_x ∷ third_y ∷ []) = Some (record { first = record { x = x; y = y }; third = record { x = third_x; y = third_y } })
enclosure_of _ = None

abbrev pub with_via : ViaDraft → Draft → Draft
with_via via v = record v { via = via }

abbrev pub via_option : DefItem → Operands → Draft → Draft
via_option items.ViaRect said v = with_via (record v.via { rects = with_rect said.name (rect_of said.numbers) v.via.rects }) v
via_option items.ViaRule said v = with_via (record v.via { has_rule = true }) v
via_option items.CutSize said v = with_via (record v.via { cut = first v.via.cut (point_of said.numbers) }) v
via_option items.Layers said v = with_via (record v.via { layers = first v.via.layers (Some (record { first = said.name; cut = said.second; third = said.third })) }) v
via_option items.CutSpacing said v = with_via (record v.via { spacing = first v.via.spacing (point_of said.numbers) }) v
via_option items.Enclosure said v = with_via (record v.via { enclosure = first v.via.enclosure (enclosure_of said.numbers) }) v
via_option items.RowCol said v = with_via (record v.via { rows = first v.via.rows (point_of said.numbers) }) v
via_option _ said v = v

-- an option of the generated form makes a via a generated one
abbrev pub is_generated : ViaDraft → Bool
is_generated via = via.has_rule || is_some via.cut || is_some via.layers || is_some via.spacing || is_some via.enclosure || is_some via.rows

-- rows and columns are 1 and 1 where nothing is said of them
abbrev pub rows_or_1 : Option Pt → Pt
rows_or_1 (Some rows) = rows
rows_or_1 None = record { x = pos 1; y = pos 1 }

-- the numbers of a generated via, where all options but ROWCOL are there
abbrev pub made_by : Bool → Option Pt → Option Pt → Option Enclosure → Pt → Option (List ℤ)
made_by true (Some cut) (Some spacing) (Some enclosure) rows =
    Some (cut.x ∷ cut.y ∷ spacing.x ∷ spacing.y ∷ enclosure.first.x ∷ enclosure.first.y ∷ enclosure.third.x ∷ enclosure.third.y ∷ rows.x ∷ rows.y ∷ [])
made_by _ _ _ _ rows = None

unfoldable pub made_of : ViaDraft → Option (List ℤ)
made_of via = made_by (via.has_rule && is_some via.layers) via.cut via.spacing via.enclosure (rows_or_1 via.rows)

abbrev pub layers_of : Option ViaLayers → List (List ℕ)
layers_of (Some layers) = layers.first ∷ layers.cut ∷ layers.third ∷ []
layers_of None = []

-- rectangles don't count beside the generated form
unfoldable pub via_of : List ℕ → ℕ → ViaDraft → RawVia
via_of name line via = record { name = name; line = line; plain = via.is_plain; rects = if is_generated via then [] else via.rects; layers = layers_of via.layers; made = made_of via }

-- ---- options of nondefault rules: the first width of a layer counts

abbrev pub layer_width_of : Option ℤ → Operands → Draft → Draft
layer_width_of (Some width) said v = record v { widths = with_new layer_of_width v.widths (record { layer = said.name; width = width }) }
layer_width_of None said v = v

abbrev pub layer_width : Operands → Draft → Draft
layer_width said v = layer_width_of (one_of said.numbers) said v

abbrev pub rule_of : Draft → RawRule
rule_of v = record { name = v.name; line = v.line; widths = map pair_of v.widths }

-- ---- options of components and die pins

abbrev pub placement : Option Pt → Key → Option (Pt × Orient)
placement (Some at) key = Some (at, orient_of key)
placement None key = None

-- the first placement of a component counts, and of a port
abbrev pub placed_in : Section → Operands → Draft → Draft
placed_in sections.Pins said v = record v { pin = record v.pin { is_open = true; at = first v.pin.at (placement (point_of said.numbers) said.chosen) } }
placed_in _ said v = record v { at = first v.at (placement (point_of said.numbers) said.chosen) }

abbrev pub placed : Operands → Draft → Draft
placed said v = placed_in v.section said v

abbrev pub comp_of : Draft → RawComp
comp_of v = record { name = v.name; line = v.line; cell = v.cell; at = v.at }

-- INPUT is I and OUTPUT is O; the others are B
abbrev pub direction_of : Key → ℕ
direction_of keys.Input = 73
direction_of keys.Output = 79
direction_of _ = 66

abbrev pub direction_or_both : Option ℕ → ℕ
direction_or_both (Some dir) = dir
direction_or_both None = 66

-- the port that is open joins the others
abbrev pub with_port : PinDraft → PinDraft
with_port pin = if pin.is_open then record pin { ports = pin.ports ++ record { rects = pin.rects; at = pin.at } ∷ []; rects = []; at = None; is_open = false } else pin

abbrev pub begins_port : PinDraft → PinDraft
begins_port pin = record (with_port pin) { is_open = true }

-- a rectangle or a placement before any PORT is in a port of its own
abbrev pub pin_option : DefItem → Operands → Draft → Draft
pin_option items.Direction said v = record v { pin = record v.pin { dir = first v.pin.dir (Some (direction_of said.chosen)) } }
pin_option items.Port said v = record v { pin = begins_port v.pin }
pin_option items.PinRect said v = record v { pin = record v.pin { is_open = true; rects = with_rect said.name (rect_of said.numbers) v.pin.rects } }
pin_option _ said v = v

unfoldable pub pin_of : List ℕ → ℕ → PinDraft → RawPin
pin_of name line pin = record { name = name; line = line; dir = direction_or_both pin.dir; ports = (with_port pin).ports }

-- ---- connections and options of nets

abbrev pub is_power : Key → Bool
is_power keys.Power = true
is_power keys.Ground = true
is_power _ = false

abbrev pub with_net : NetDraft → Draft → Draft
with_net net v = record v { net = net }

abbrev pub with_connection : Operands → Draft → Draft
with_connection said v = with_net (record v.net { conns = v.net.conns ++ (said.name, said.second) ∷ [] }) v

-- the first NONDEFAULTRULE counts, and the first USE
abbrev pub net_option : DefItem → Operands → Draft → Draft
net_option items.NetRule said v = with_net (record v.net { rule = first v.net.rule (Some said.name) }) v
net_option items.Use said v = with_net (record v.net { power = first v.net.power (Some (is_power said.chosen)) }) v
net_option items.NetRect said v = with_net (record v.net { rects = with_rect said.name (rect_of said.numbers) v.net.rects }) v
net_option _ said v = v

abbrev pub with_via_at : Option Pt → NetDraft → NetDraft
with_via_at (Some at) net = record net { vias = net.vias ++ (net.via, net.orient, at) ∷ [] }
with_via_at None net = net

-- VIA v [orient] pt..: one via at each point
abbrev pub net_via : DefItem → Operands → Draft → Turn Draft
net_via items.NetVia said v = goes stages.ViaHead (with_net (record v.net { via = said.name; orient = orients.N }) v)
net_via items.NetViaOrient said v = goes stages.ViaFirst (with_net (record v.net { orient = orient_of said.chosen }) v)
net_via _ said v = goes stages.ViaPoints (with_net (with_via_at (point_of said.numbers) v.net) v)

abbrev pub or_false : Option Bool → Bool
or_false (Some b) = b
or_false None = false

unfoldable pub net_of : List ℕ → ℕ → NetDraft → RawNet
net_of name line net = record { name = name; line = line; power = or_false net.power; rule = net.rule; conns = net.conns; paths = net.paths; rects = net.rects; vias = net.vias }

-- ---- the end of an entry

abbrev pub via_done : Draft → Draft
via_done v = record v { lists = record v.lists { vias = with_new name_of_via v.lists.vias (via_of v.name v.line v.via) }; name = []; via = no_via }

abbrev pub rule_done : Draft → Draft
rule_done v = record v { lists = record v.lists { rules = with_new name_of_rule v.lists.rules (rule_of v) }; name = []; widths = [] }

abbrev pub comp_done : Draft → Draft
comp_done v = record v { lists = record v.lists { comps = with_new name_of_comp v.lists.comps (comp_of v) }; name = []; cell = [] }

abbrev pub pin_done : Draft → Draft
pin_done v = record v { lists = record v.lists { pins = with_new name_of_pin v.lists.pins (pin_of v.name v.line v.pin) }; name = []; pin = no_pin }

abbrev pub special_done : Draft → Draft
special_done v = record v { lists = record v.lists { specials = with_new name_of_net v.lists.specials (net_of v.name v.line v.net) }; name = []; net = no_net }

abbrev pub net_done : Draft → Draft
net_done v = record v { lists = record v.lists { nets = with_new name_of_net v.lists.nets (net_of v.name v.line v.net) }; name = []; net = no_net }

abbrev pub done_in : Section → Draft → Draft
done_in sections.Vias v = via_done v
done_in sections.Rules v = rule_done v
done_in sections.Comps v = comp_done v
done_in sections.Pins v = pin_done v
done_in sections.Specials v = special_done v
done_in sections.Nets v = net_done v

abbrev pub entry_done : Draft → Turn Draft
entry_done v = ends stages.Section (done_in v.section v)

-- ---- paths

abbrev pub open_paths : Bool → Stage → Draft → Turn Draft
open_paths is_wide stage v = goes stage (record v { wiring = no_paths is_wide v.line })

abbrev pub with_paths : Draft → Draft
with_paths v = record v { net = record v.net { paths = v.net.paths ++ paths_of v.wiring }; wiring = no_paths false 0 }

abbrev pub paths : DefItem → Operands → Draft → Turn Draft
paths items.Routed said v = open_paths false stages.Wiring v
paths items.WideRouted said v = open_paths true stages.Paths v
paths items.Shield said v = open_paths true stages.Paths v
paths (items.Path item) said v = goes stages.Wiring (record v { wiring = means_of_path item v.wiring said })
paths items.PathsDone said v = goes stages.Option (with_paths v)
paths _ said v = entry_done (with_paths v)

-- ---- all of them

unfoldable pub means : DefItem → Draft → Operands → Turn Draft
means (items.Token stage) v said = goes stage v
means items.Done v said = statement items.Done said v
means items.Design v said = statement items.Design said v
means items.Units v said = statement items.Units said v
means items.DividerChar v said = statement items.DividerChar said v
means items.BusBitChars v said = statement items.BusBitChars said v
means items.Skip v said = goes stages.Skipped (record v { skipped = said.name })
means (items.Head section) v said = ends stages.Section (record v { section = section })
-- a wrong word behind END is refused at the line of END
means items.End v said = ends stages.EndOfFile (record v { line = said.line })
means items.EndDesign v said = Close v
means items.Entry v said = begins_entry said v
means items.Component v said = begins_entry said v
means items.EntryDone v said = entry_done v
means items.ViaRect v said = goes stages.Options (via_option items.ViaRect said v)
means items.ViaRule v said = goes stages.Options (via_option items.ViaRule said v)
means items.CutSize v said = goes stages.Options (via_option items.CutSize said v)
means items.Layers v said = goes stages.Options (via_option items.Layers said v)
means items.CutSpacing v said = goes stages.Options (via_option items.CutSpacing said v)
means items.Enclosure v said = goes stages.Options (via_option items.Enclosure said v)
means items.RowCol v said = goes stages.Options (via_option items.RowCol said v)
-- POLYGON, ORIGIN, OFFSET and PATTERN are passed over, and the via isn't plain
means items.Unusual v said = goes stages.Passed (with_via (record v.via { is_plain = false }) v)
-- further words are passed over
means items.LayerWidth v said = goes stages.Passed (layer_width said v)
means items.Placed v said = goes stages.Options (placed said v)
means items.Direction v said = goes stages.Options (pin_option items.Direction said v)
means items.Port v said = goes stages.Options (pin_option items.Port said v)
means items.PinRect v said = goes stages.Options (pin_option items.PinRect said v)
means items.Connection v said = goes stages.Connections (with_connection said v)
means items.NetRule v said = goes stages.Options (net_option items.NetRule said v)
means items.Use v said = goes stages.Options (net_option items.Use said v)
means items.NetRect v said = goes stages.Options (net_option items.NetRect said v)
means items.NetVia v said = net_via items.NetVia said v
means items.NetViaOrient v said = net_via items.NetViaOrient said v
means items.NetViaPoint v said = net_via items.NetViaPoint said v
means items.Routed v said = paths items.Routed said v
means items.WideRouted v said = paths items.WideRouted said v
means items.Shield v said = paths items.Shield said v
means (items.Path item) v said = paths (items.Path item) said v
means items.PathsDone v said = paths items.PathsDone said v
means items.PathsEntryDone v said = paths items.PathsEntryDone said v
