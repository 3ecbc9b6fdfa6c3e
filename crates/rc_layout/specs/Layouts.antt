-- The layout that a technology and a design link to.
use Rattle.std.specs.Prelude.{ℕ, ◌+◌, ◌-◌, ◌^◌, nat_le, Option, Some, None, Ok, List, [], ◌∷◌, ◌++◌, map, length, slice_get, slice_set, sum_by}
use Rattle.std.specs.Str.{bytes_eq}
use Rattle.rc_keys.specs.declared.code.Code.TheVariants.{E08, E15}
use Rattle.rc_keys.specs.declared.code.Quantity.TheVariants.{Nets, Comps, Pins, Shapes}
use Rattle.rc_keys.specs.declared.fault.Refusal.TheVariants.{At, Limit}
use Rattle.rc_lef.specs.Technology.{Technology}
use Rattle.rc_lef.specs.declared.ndr.Ndr.{Ndr}
use Rattle.rc_def.specs.declared.design.RawDesign.{RawDesign}
use Rattle.rc_def.specs.declared.raw_net.RawNet.{RawNet}
use Rattle.rc_wire.specs.declared.path.RawPath.{RawPath}
use Rattle.rc_layout.specs.declared.net.Net.{Net}
use Rattle.rc_layout.specs.declared.part.Rule.{Rule}
use Rattle.rc_layout.specs.declared.parts.Parts.{Parts}
use Rattle.rc_layout.specs.declared.lists.Lists.{Lists}
use Rattle.rc_layout.specs.declared.lists.RawLists.{RawLists}
use Rattle.rc_layout.specs.declared.lists.Head.{Head}
use Rattle.rc_layout.specs.declared.given.Tables.{Tables}
use Rattle.rc_layout.specs.declared.wired.Wired as wired
use Rattle.rc_layout.specs.declared.wiring.Wiring.{Wiring}
use Rattle.rc_layout.specs.Entries.{link_via, link_rule, link_comp, link_pin, link_net, link_special, net_rule}
use Rattle.rc_layout.specs.Paths.{paths_drawn}
use Rattle.rc_layout.specs.Scope.{numbered}
use Rattle.rc_layout.specs.Refusals.{Linked, there, unless, through, each, ◌>>=◌, ◌>>◌}
use Rattle.rc_layout.specs.Units.{factor}

-- nets, and grounded nets, over what they may name
abbrev pub Wired : Type 0
Wired = wired.Wired

-- ---- the parts

abbrev pub rule_of : Ndr → Rule
rule_of ndr = record { name = ndr.name; widths = ndr.widths }

-- what the entries before the nets link to
unfoldable pub link_lists : Technology → ℕ → RawLists → Linked Lists
link_lists tech k raw =
    each (link_via tech.layers k) raw.vias >>= λ vias.
    each (link_rule tech.layers k) raw.rules >>= λ rules.
    each (link_comp tech.macros k) raw.comps >>= λ comps.
    each (link_pin tech.layers k) raw.pins >>= λ ports.
    Ok (record { vias = vias; rules = rules; comps = comps; ports = ports })

abbrev pub lists_of : RawDesign → RawLists
lists_of raw = record { vias = raw.vias; rules = raw.rules; comps = raw.comps; pins = raw.pins }

abbrev pub head_of : RawDesign → Head
head_of raw = record {
  design = raw.design;
  divider = raw.divider;
  bus_left = raw.bus_left;
  bus_right = raw.bus_right;
  units = raw.units;
  units_line = raw.units_line;
}

-- vias and nondefault rules of the design stand before those of the technology
abbrev pub tables_of : Technology → Lists → Tables
tables_of tech lists = record { vias = lists.vias ++ tech.vias; rules = lists.rules ++ map rule_of tech.rules; comps = lists.comps; ports = lists.ports }

abbrev pub parts_with : Technology → ℕ → Head → Tables → Parts
parts_with tech k head tables = record {
  tech = tech;
  factor = k;
  design = head.design;
  divider = head.divider;
  bus_left = head.bus_left;
  bus_right = head.bus_right;
  vias = tables.vias;
  rules = tables.rules;
  comps = tables.comps;
  ports = tables.ports;
}

abbrev pub parts_of : Technology → ℕ → Head → Lists → Parts
parts_of tech k head lists = parts_with tech k head (tables_of tech lists)

abbrev pub factor_at : Technology → Head → Linked ℕ
factor_at tech head = there (At E08 head.units_line) (factor tech.units head.units)

unfoldable pub link_parts : Technology → Head → RawLists → Linked Parts
link_parts tech head raw =
    factor_at tech head >>= λ k.
    link_lists tech k raw >>= λ lists.
    Ok (parts_of tech k head lists)

-- ---- the nets

-- the items of a net join those of the grounded net at that place, behind its own
abbrev pub joined_at : ℕ → Net → List Net → List Net
joined_at place net grounded = put (slice_get grounded place)
  where
    put : Option Net → List Net
    put (Some old) = slice_set grounded place (record old { items = old.items ++ net.items })
    put None = grounded

-- a net of the name of a special net joins it, where that is a supply; it is refused at its name where it isn't
abbrev pub net_added : Option (ℕ × RawNet) → Wired → RawNet → Linked Wired
net_added None wired raw = link_net wired.parts raw >>= λ net. Ok (record wired { nets = wired.nets ++ net ∷ [] })
net_added (Some special) wired raw =
    unless special.1.power (At E15 raw.line) >>
    link_net wired.parts raw >>= λ net.
    Ok (record wired { grounded = joined_at special.0 net wired.grounded })

unfoldable pub net_linked : List RawNet → Wired → RawNet → Linked Wired
net_linked specials wired raw = net_added (numbered (λ special. bytes_eq raw.name special.name) specials) wired raw

-- ---- the limits

abbrev pub shape_count : List Net → ℕ
shape_count nets = sum_by (λ net. length net.items) nets

unfoldable pub within_limits : Wired → Linked Wired
within_limits wired =
    unless (nat_le (length wired.nets + length wired.grounded) (2 ^ 20)) (Limit Nets) >>
    unless (nat_le (length wired.parts.comps) (2 ^ 20)) (Limit Comps) >>
    unless (nat_le (length wired.parts.ports) (2 ^ 20)) (Limit Pins) >>
    unless (nat_le (shape_count wired.nets + shape_count wired.grounded) (2 ^ 22)) (Limit Shapes) >>
    Ok wired

-- ---- all together

-- special nets, and then the others
abbrev pub nets_linked : Parts → List RawNet → List RawNet → Linked Wired
nets_linked parts specials nets =
    each (link_special parts) specials >>= λ grounded.
    through (net_linked specials) (record { parts = parts; nets = []; grounded = grounded }) nets

unfoldable pub linked : Technology → RawDesign → Linked Wired
linked tech raw =
    link_parts tech (head_of raw) (lists_of raw) >>= λ parts.
    each (link_special parts) raw.specials >>= λ specials.
    through (net_linked raw.specials) (record { parts = parts; nets = []; grounded = specials }) raw.nets >>= λ wired.
    within_limits wired

-- ---- edits

abbrev pub with_wiring : Net → Wiring → Net
with_wiring net w = record net { points = w.points; vias = w.vias; items = w.items }

abbrev pub with_put : Wired → ℕ → Net → Wired
with_put wired number net = record wired { nets = slice_set wired.nets number net }

-- the net with other paths, and all else as it is. The limit is that of the layout with it: of so many shapes those of the
-- old net go, and the new ones come
unfoldable pub net_anew : Parts → ℕ → Net → List RawPath → Linked Net
net_anew parts shapes old paths =
    net_rule parts old.line old.rule >>= λ rule.
    paths_drawn parts rule paths >>= λ w.
    unless (nat_le (shapes - length old.items + length w.items) (2 ^ 22)) (Limit Shapes) >>
    Ok (with_wiring old w)

abbrev pub net_with : Wired → Net → List RawPath → Linked Net
net_with wired old paths = net_anew wired.parts (shape_count wired.nets + shape_count wired.grounded) old paths
