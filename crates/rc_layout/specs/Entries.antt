-- What each entry of a design links to.
use Rattle.std.specs.Prelude.{ℕ, ℤ, ◌==◌, ◌&&◌, Bool, false, Option, Some, None, is_some, Ok, List, [], ◌∷◌, ◌++◌, codes, slice_get, position, if◌then◌else◌}
use Rattle.std.specs.List.{fold, list_all, list_any}
use Rattle.std.specs.Str.{bytes_eq}
use Rattle.rc_keys.specs.declared.code.Code.TheVariants.{E06}
use Rattle.rc_keys.specs.declared.fault.Refusal.TheVariants.{At}
use Rattle.rc_geom.specs.declared.rect.Pt.{Pt}
use Rattle.rc_geom.specs.declared.rect.Rect.{Rect}
use Rattle.rc_geom.specs.declared.orient.Orient.{Orient}
use Rattle.rc_geom.specs.Orients.{placed_rect}
use Rattle.rc_geom.specs.Bounds.{is_point, is_within}
use Rattle.rc_lef.specs.declared.tech.Layer.{Layer}
use Rattle.rc_lef.specs.declared.tech.LayerKind.{LayerKind}
use Rattle.rc_lef.specs.declared.cell.Macro.{Macro}
use Rattle.rc_lef.specs.declared.cell.Dir.{Dir}
use Rattle.rc_lef.specs.declared.cell.Dir.TheVariants as dirs
use Rattle.rc_lef.specs.declared.via.Via.{Via}
use Rattle.rc_lef.specs.declared.usable.Array.{Array}
use Rattle.rc_lef.specs.Usable.{drawn_via, made_via, unusable}
use Rattle.rc_def.specs.declared.entry.RawVia.{RawVia}
use Rattle.rc_def.specs.declared.entry.RawRule.{RawRule}
use Rattle.rc_def.specs.declared.entry.RawComp.{RawComp}
use Rattle.rc_def.specs.declared.entry.RawPort.{RawPort}
use Rattle.rc_def.specs.declared.entry.RawPin.{RawPin}
use Rattle.rc_def.specs.declared.raw_net.RawNet.{RawNet}
use Rattle.rc_layout.specs.declared.net.Net.{Net}
use Rattle.rc_layout.specs.declared.net.Conn.{Conn}
use Rattle.rc_layout.specs.declared.net.Conn.TheVariants as conns
use Rattle.rc_layout.specs.declared.part.Rule.{Rule}
use Rattle.rc_layout.specs.declared.part.Comp.{Comp}
use Rattle.rc_layout.specs.declared.part.Port.{Port}
use Rattle.rc_layout.specs.Drawn.{lone_patch}
use Rattle.rc_layout.specs.declared.parts.Parts.{Parts}
use Rattle.rc_layout.specs.declared.wiring.Wiring.{Wiring}
use Rattle.rc_layout.specs.Paths.{paths_drawn, with_near, with_via}
use Rattle.rc_layout.specs.Scope.{layer_named, numbered, path_layer, routing_number, rule_named, usable_via}
use Rattle.rc_layout.specs.Refusals.{Linked, there, too_far, unless, through, each, ◌>>=◌, ◌>>◌}
use Rattle.rc_layout.specs.Units.{scaled, scaled_point, scaled_rect, moved, turned_rect}

-- ---- vias

-- the numbers of a via's array, lengths in units of the layout
abbrev pub array_of : ℕ → List ℤ → Option Array
array_of k (cx ∷ cy ∷ sx ∷ sy ∷ bx ∷ by ∷ tx ∷ ty ∷ rows ∷ columns ∷ []) =
    Some (record {
      cut_x = scaled k cx;
      cut_y = scaled k cy;
      space_x = scaled k sx;
      space_y = scaled k sy;
      first_x = scaled k bx;
      first_y = scaled k by;
      third_x = scaled k tx;
      third_y = scaled k ty;
      rows = rows;
      columns = columns;
    })
array_of k _ = None

abbrev pub array_in : ℕ → Option (List ℤ) → Option Array
array_in k None = None
array_in k (Some numbers) = array_of k numbers

-- a via by its rectangles, or by its array where layers are named for it; one of which a part is missing can't be used. (A
-- raw via of which a part of the generated form stands has no rectangles: then the first case gives one that can't be used.)
abbrev pub via_made : RawVia → List (LayerKind × Rect) → List LayerKind → Option Array → Via
via_made raw rects [] None = drawn_via raw.name raw.plain rects
via_made raw rects (first ∷ cut ∷ third ∷ []) (Some array) = made_via raw.name raw.plain first cut third array
via_made raw rects _ _ = unusable raw.name

abbrev pub via_rect : List Layer → ℕ → ℕ → List ℕ × Rect → Linked (LayerKind × Rect)
via_rect layers k line (name, rect) = layer_named layers line name >>= λ kind. Ok (kind, scaled_rect k rect)

unfoldable pub link_via : List Layer → ℕ → RawVia → Linked Via
link_via layers k raw =
    each (via_rect layers k raw.line) raw.rects >>= λ rects.
    each (layer_named layers raw.line) raw.layers >>= λ kinds.
    Ok (via_made raw rects kinds (array_in k raw.made))

-- ---- nondefault rules

abbrev pub on_routing : {A : Type 0} → LayerKind → A → List (ℕ × A)
on_routing {A = A} kind a = on_number (routing_number kind)
  where
    on_number : Option ℕ → List (ℕ × A)
    on_number (Some number) = (number, a) ∷ []
    on_number None = []

abbrev pub with_width : List Layer → ℕ → ℕ → List (ℕ × ℤ) → List ℕ × ℤ → Linked (List (ℕ × ℤ))
with_width layers k line done (name, width) = layer_named layers line name >>= λ kind. Ok (done ++ on_routing kind (scaled k width))

-- widths on other than routing layers are left out
unfoldable pub link_rule : List Layer → ℕ → RawRule → Linked Rule
link_rule layers k raw =
    through (with_width layers k raw.line) [] raw.widths >>= λ widths.
    Ok (record { name = raw.name; widths = widths })

-- ---- components

-- where a rectangle of a cell lies when the cell is placed: moved by the cell's origin, turned with the cell, and moved to
-- where the cell stands
abbrev pub cell_rect : Macro → Orient → Pt → Rect → Rect
cell_rect cell o at rect = moved at (placed_rect o cell.w cell.h (moved cell.origin rect))

-- all rectangles of the cell's pins lie within the coordinates of a layout when the cell stands there
abbrev pub fits_at : Macro → Orient → Pt → Bool
fits_at cell o at = list_all (λ pin. list_all (λ rect. is_within (cell_rect cell o at rect.1)) pin.rects) cell.pins

abbrev pub link_place : ℕ → Macro → Option (Pt × Orient) → Linked (Option (Pt × Orient))
link_place k cell None = Ok None
link_place k cell (Some (at, o)) =
    unless (is_point (scaled_point k at)) too_far >>
    (unless (fits_at cell o (scaled_point k at)) too_far >> Ok (Some (scaled_point k at, o)))

unfoldable pub link_comp : List Macro → ℕ → RawComp → Linked Comp
link_comp cells k raw =
    there (At E06 raw.line) (numbered (λ cell. bytes_eq raw.cell cell.name) cells) >>= λ found.
    link_place k found.1 raw.at >>= λ at.
    Ok (record { name = raw.name; cell = found.0; at = at })

-- ---- die pins

abbrev pub with_near_rects : List (ℕ × Rect) → List (ℕ × Rect) → Linked (List (ℕ × Rect))
with_near_rects done rects = unless (list_all (λ r. is_within r.1) rects) too_far >> Ok (done ++ rects)

-- a rectangle on a routing layer, of a port that is placed, lies within the coordinates already before it is placed
abbrev pub with_port_rect : List Layer → ℕ → ℕ → Bool → List (ℕ × Rect) → List ℕ × Rect → Linked (List (ℕ × Rect))
with_port_rect layers k line is_placed done (name, rect) =
    layer_named layers line name >>= λ kind.
    with_near_rects done (if is_placed then on_routing kind (scaled_rect k rect) else [])

-- and is turned and moved by the placement of its port
abbrev pub with_placed_rect : Pt → Orient → List (ℕ × Rect) → ℕ × Rect → Linked (List (ℕ × Rect))
with_placed_rect at o done (layer, rect) = put (moved at (turned_rect o rect))
  where
    put : Rect → Linked (List (ℕ × Rect))
    put there = unless (is_within there) too_far >> Ok (done ++ (layer, there) ∷ [])

-- a port that isn't placed has no rectangles
abbrev pub with_placed : ℕ → Option (Pt × Orient) → List (ℕ × Rect) → List (ℕ × Rect) → Linked (List (ℕ × Rect))
with_placed k None done rects = Ok done
with_placed k (Some (at, o)) done rects = unless (is_point (scaled_point k at)) too_far >> through (with_placed_rect (scaled_point k at) o) done rects

abbrev pub with_port : List Layer → ℕ → ℕ → List (ℕ × Rect) → RawPort → Linked (List (ℕ × Rect))
with_port layers k line done port =
    through (with_port_rect layers k line (is_some port.at)) [] port.rects >>= λ rects.
    with_placed k port.at done rects

-- the letters I and O; any other is both
abbrev pub direction : ℕ → Dir
direction letter = if letter == 73 then dirs.I else if letter == 79 then dirs.O else dirs.B

unfoldable pub link_pin : List Layer → ℕ → RawPin → Linked Port
link_pin layers k raw =
    through (with_port layers k raw.line) [] raw.ports >>= λ rects.
    Ok (record { name = raw.name; dir = direction raw.dir; rects = rects })

-- ---- connections

abbrev pub port_conn : Parts → ℕ → List ℕ → Linked Conn
port_conn parts line name = there (At E06 line) (position (λ port. bytes_eq name port.name) parts.ports) >>= λ number. Ok (conns.Port number)

-- the pin of that name in a cell
abbrev pub pin_in : Option Macro → List ℕ → Option ℕ
pin_in (Some cell) name = position (λ pin. bytes_eq name pin.name) cell.pins
pin_in None name = None

abbrev pub pin_conn : Parts → ℕ → List ℕ → List ℕ → Linked Conn
pin_conn parts line comp pin =
    there (At E06 line) (numbered (λ c. bytes_eq comp c.name) parts.comps) >>= λ found.
    there (At E06 line) (pin_in (slice_get parts.tech.macros found.1.cell) pin) >>= λ number.
    Ok (conns.Pin found.0 number)

unfoldable pub link_conn : Parts → ℕ → List ℕ × List ℕ → Linked Conn
link_conn parts line (first, second) = if bytes_eq first (codes "PIN") then port_conn parts line second else pin_conn parts line first second

abbrev pub same_conn : Conn → Conn → Bool
same_conn (conns.Pin c p) (conns.Pin d q) = (c == d) && (p == q)
same_conn (conns.Port p) (conns.Port q) = p == q
same_conn _ _ = false

-- what stands again is left out
abbrev pub at_first : List Conn → List Conn
at_first list = fold (λ done c. if list_any (same_conn c) done then done else done ++ c ∷ []) [] list

-- ---- nets

abbrev pub net_of : RawNet → Option (List ℕ) → List Conn → Wiring → Net
net_of raw rule conns w = record {
  name = raw.name;
  line = raw.line;
  rule = rule;
  conns = conns;
  points = w.points;
  vias = w.vias;
  items = w.items;
}

abbrev pub net_rule : Parts → ℕ → Option (List ℕ) → Linked (Option ℕ)
net_rule parts line None = Ok None
net_rule parts line (Some name) = rule_named parts.rules line name >>= λ number. Ok (Some number)

-- a net that isn't special: its rule, its connections, its paths
unfoldable pub link_net : Parts → RawNet → Linked Net
link_net parts raw =
    net_rule parts raw.line raw.rule >>= λ rule.
    each (link_conn parts raw.line) raw.conns >>= λ conns.
    paths_drawn parts rule raw.paths >>= λ w.
    Ok (net_of raw raw.rule (at_first conns) w)

-- a rectangle of a special net
abbrev pub with_rect : Parts → ℕ → Wiring → List ℕ × Rect → Linked Wiring
with_rect parts line w (name, rect) =
    path_layer parts.tech.layers line name >>= λ layer.
    with_near w (lone_patch layer (scaled_rect parts.factor rect))

-- a via of a special net
abbrev pub with_lone_via : Parts → ℕ → Wiring → List ℕ × Orient × Pt → Linked Wiring
with_lone_via parts line w (name, orient, at) =
    usable_via parts.vias line name >>= λ found.
    unless (is_point (scaled_point parts.factor at)) too_far >> with_via found orient (scaled_point parts.factor at) w

-- a special net: its paths, then its rectangles, then its vias
unfoldable pub link_special : Parts → RawNet → Linked Net
link_special parts raw =
    paths_drawn parts None raw.paths >>= λ w.
    through (with_rect parts raw.line) w raw.rects >>= λ w.
    through (with_lone_via parts raw.line) w raw.vias >>= λ w.
    Ok (net_of raw None [] w)
