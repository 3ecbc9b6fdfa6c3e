-- Statements whose operands are lengths: how many, of which range, and what they say.
use Rattle.std.specs.Prelude.{◌==◌, ◌||◌, ◌++◌, ℕ, ℤ, Bool, Option, Some, None, Result, List, [], ◌∷◌, length, if◌then◌else◌}
use Rattle.std.specs.Ordering.{int_eq}
use Rattle.std.specs.Int.{int_min, int_max}
use Rattle.std.specs.List.{list_any}
use Rattle.rc_geom.specs.declared.rect.Pt.{Pt}
use Rattle.rc_geom.specs.declared.rect.Rect.{Rect}
use Rattle.rc_keys.specs.declared.code.Code.{Code}
use Rattle.rc_keys.specs.declared.code.Code.TheVariants.{E03}
use Rattle.rc_keys.specs.Lexemes.{Lexeme}
use Rattle.rc_keys.specs.Course.{Turn, refuse}
use Rattle.rc_lef.specs.declared.key.Key.{Key}
use Rattle.rc_lef.specs.declared.key.Key.TheVariants as keys
use Rattle.rc_lef.specs.declared.length.Range.{Range}
use Rattle.rc_lef.specs.declared.length.Range.TheVariants as ranges
use Rattle.rc_lef.specs.declared.state.Form.{Form}
use Rattle.rc_lef.specs.declared.state.Form.TheVariants as forms
use Rattle.rc_lef.specs.declared.state.Row.{Row}
use Rattle.rc_lef.specs.declared.state.Row.TheVariants as rows
use Rattle.rc_lef.specs.declared.state.State.{State}
use Rattle.rc_lef.specs.declared.state.ViaDraft.{ViaDraft}
use Rattle.rc_lef.specs.declared.state.CellDraft.{CellDraft}
use Rattle.rc_lef.specs.declared.state.PinDraft.{PinDraft}
use Rattle.rc_lef.specs.declared.tech.LayerKind.{LayerKind}
use Rattle.rc_lef.specs.declared.tech.LayerKind.TheVariants as kinds
use Rattle.rc_lef.specs.Operands.{length_at}
use Rattle.rc_lef.specs.Moves.{goes, with_read, or_else}

-- ---- rectangles

abbrev pub is_flat : Pt → Pt → Bool
is_flat p q = int_eq p.x q.x || int_eq p.y q.y

abbrev pub box_between : Pt → Pt → Rect
box_between p q = record { x0 = int_min p.x q.x; y0 = int_min p.y q.y; x1 = int_max p.x q.x; y1 = int_max p.y q.y }

-- the corners of a rectangle come in any order; one of no area is left out
unfoldable pub rect_between : Pt → Pt → Option Rect
rect_between p q = if is_flat p q then None else Some (box_between p q)

abbrev pub rect_of : List ℤ → Option Rect
rect_of (x ∷ y ∷ x' ∷ y' ∷ []) = rect_between (record { x = x; y = y }) (record { x = x'; y = y' })
rect_of _ = None

abbrev pub pair_of : List ℤ → Option Pt
pair_of (x ∷ y ∷ []) = Some (record { x = x; y = y })
pair_of _ = None

abbrev pub pairs_of : List ℤ → Option (Pt × Pt)
pairs_of (x ∷ y ∷ x' ∷ y' ∷ []) = Some (record { x = x; y = y }, record { x = x'; y = y' })
pairs_of _ = None

abbrev pub only_of : List ℤ → Option ℤ
only_of (x ∷ []) = Some x
only_of _ = None

-- ---- the statements

abbrev pub range_of : Form → Range
range_of forms.ViaRect = ranges.Any
range_of forms.Origin = ranges.Any
range_of forms.PinRect = ranges.Any
range_of forms.CutSize = ranges.Above0
range_of forms.RuleWidth = ranges.Above0
range_of forms.Size = ranges.Above0
range_of forms.CutSpacing = ranges.AtLeast0
range_of forms.Enclosure = ranges.AtLeast0

abbrev pub count_of : Form → ℕ
count_of forms.RuleWidth = 1
count_of forms.CutSize = 2
count_of forms.CutSpacing = 2
count_of forms.Origin = 2
count_of forms.Size = 2
count_of forms.ViaRect = 4
count_of forms.Enclosure = 4
count_of forms.PinRect = 4

-- ---- what they say, where a value that is given once is that of its first statement

abbrev pub on_layer : Option LayerKind → Option Rect → List (LayerKind × Rect)
on_layer (Some kind) (Some rect) = (kind, rect) ∷ []
on_layer _ _ = []

abbrev pub rect_in_via : ViaDraft → List ℤ → ViaDraft
rect_in_via via zs = record via { rects = via.rects ++ on_layer via.layer (rect_of zs) }

abbrev pub on_routing_layer : Option LayerKind → Option Rect → List (ℕ × Rect)
on_routing_layer (Some (kinds.Routing number)) (Some rect) = (number, rect) ∷ []
on_routing_layer _ _ = []

abbrev pub rect_in_pin : PinDraft → List ℤ → PinDraft
rect_in_pin pin zs = record pin { rects = pin.rects ++ on_routing_layer pin.layer (rect_of zs) }

abbrev pub has_width : List (ℕ × ℤ) → ℕ → Bool
has_width widths number = list_any (λ (width : ℕ × ℤ). number == width.0) widths

abbrev pub width_joins : List (ℕ × ℤ) → LayerKind → Option ℤ → List (ℕ × ℤ)
width_joins widths (kinds.Routing number) (Some width) = if has_width widths number then widths else widths ++ (number, width) ∷ []
width_joins widths _ _ = widths

abbrev pub cut_size_in : ViaDraft → List ℤ → ViaDraft
cut_size_in via zs = record via { cut_size = or_else via.cut_size (pair_of zs) }

abbrev pub spacing_in : ViaDraft → List ℤ → ViaDraft
spacing_in via zs = record via { spacing = or_else via.spacing (pair_of zs) }

abbrev pub enclosure_in : ViaDraft → List ℤ → ViaDraft
enclosure_in via zs = record via { enclosure = or_else via.enclosure (pairs_of zs) }

abbrev pub origin_in : CellDraft → List ℤ → CellDraft
origin_in cell zs = record cell { origin = or_else cell.origin (pair_of zs) }

abbrev pub size_in : CellDraft → List ℤ → CellDraft
size_in cell zs = record cell { size = or_else cell.size (pair_of zs) }

-- ---- the rows

abbrev pub with_via_rect : State → List ℤ → State
with_via_rect s zs = record s { via = rect_in_via s.via zs }

abbrev pub with_pin_rect : State → List ℤ → State
with_pin_rect s zs = record s { pin = rect_in_pin s.pin zs }

abbrev pub with_rule_width : State → List ℤ → State
with_rule_width s zs = record s { rule = record s.rule { widths = width_joins s.rule.widths s.rule.layer (only_of zs) } }

abbrev pub with_cut_size : State → List ℤ → State
with_cut_size s zs = record s { via = cut_size_in s.via zs }

abbrev pub with_spacing : State → List ℤ → State
with_spacing s zs = record s { via = spacing_in s.via zs }

abbrev pub with_enclosure : State → List ℤ → State
with_enclosure s zs = record s { via = enclosure_in s.via zs }

abbrev pub with_origin : State → List ℤ → State
with_origin s zs = record s { cell = origin_in s.cell zs }

abbrev pub with_size : State → List ℤ → State
with_size s zs = record s { cell = size_in s.cell zs }

abbrev pub with_numbers : Form → State → State
with_numbers forms.ViaRect s = with_via_rect s s.numbers
with_numbers forms.PinRect s = with_pin_rect s s.numbers
with_numbers forms.RuleWidth s = with_rule_width s s.numbers
with_numbers forms.CutSize s = with_cut_size s s.numbers
with_numbers forms.CutSpacing s = with_spacing s s.numbers
with_numbers forms.Enclosure s = with_enclosure s s.numbers
with_numbers forms.Origin s = with_origin s s.numbers
with_numbers forms.Size s = with_size s s.numbers

-- the lengths of a statement are due
abbrev pub numbers_due : Form → State → Turn State
numbers_due form s = goes (rows.Number form) (record s { numbers = [] })

-- BY stands between the two lengths of SIZE
abbrev pub next_row : Form → Row
next_row forms.Size = rows.SizeBy
next_row form = rows.Number form

-- a length of the statement's range
abbrev pub operand : State → Form → Key → Lexeme → Result ℤ Code
operand s form key word = length_at (range_of form) s.units key word.bytes

abbrev pub noted : Form → State → Turn State
noted form s = if length s.numbers == count_of form then goes rows.Due (with_numbers form s) else goes (next_row form) s

unfoldable pub number_row : State → Form → Key → Lexeme → Turn State
number_row s form key word = with_read word (operand s form key word) (λ z. noted form (record s { numbers = s.numbers ++ z ∷ [] }))

unfoldable pub size_by_row : State → Key → Lexeme → Turn State
size_by_row s keys.By word = goes (rows.Number forms.Size) s
size_by_row s _ word = refuse E03 word
