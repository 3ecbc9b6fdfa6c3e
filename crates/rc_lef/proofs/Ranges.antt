-- Files keep every number of a technology in its range.
use Rattle.std.proofs.Common.{◌≡◌, ◌∙◌, ◌+◌, ◌<◌, ◌≤◌, ◌⊎◌, inl, inr, ⊎_elim, ℕ, ℤ, Bool, true, false, cond, List, [], ◌∷◌, ◌++◌, length, get_or, refl, ap, sym, subst, arith}
use Rattle.std.proofs.lemmas.List.{append-nil}
use Rattle.std.proofs.lemmas.List.Elements.{All-nil, All-cons, All-push, All-append, filter_map-append, Contains-get_or}
use Rattle.std.proofs.lemmas.List.FromFn.{get_or-range_with_len}
use Rattle.std.proofs.lemmas.Int.{ints}
use Rattle.std.proofs.Math.ListN.{length-append}
use Rattle.std.proofs.lemmas.List.Recursion.{is_count_by}
use Rattle.std.specs.Prelude.{Option, Some, None, All, Contains, IfSome, is_some, is_none, unwrap_or, not, pos, count_by, nat_lt, ◌&&◌, ◌||◌}
use Rattle.std.specs.List.{filter_map, range_with_len, cons_option, list_any}
use Rattle.rc_fixed.proofs.Members.{none_in, head_or_tail, at_head, in_tail}
use Rattle.rc_fixed.proofs.Tests.{nat_lt_tells}
use Rattle.rc_geom.proofs.Totals.{range_more}
use Rattle.rc_geom.specs.Context.{layer_count}
use Rattle.rc_geom.specs.declared.rect.Pt.{Pt}
use Rattle.rc_geom.specs.declared.rect.Rect.{Rect}
use Rattle.rc_keys.specs.Lexemes.{Lexeme, Remaining}
use Rattle.rc_lef.specs.declared.cell.Macro.{Macro}
use Rattle.rc_lef.specs.declared.cell.MacroPin.{MacroPin}
use Rattle.rc_lef.specs.declared.key.Key.TheVariants as keys
use Rattle.rc_lef.specs.declared.ndr.Ndr.{Ndr}
use Rattle.rc_lef.specs.declared.state.CellDraft.{CellDraft}
use Rattle.rc_lef.specs.declared.state.PinDraft.{PinDraft}
use Rattle.rc_lef.specs.declared.state.ViaDraft.{ViaDraft}
use Rattle.rc_lef.specs.declared.tech.Layer.{Layer}
use Rattle.rc_lef.specs.declared.tech.LayerKind.{LayerKind}
use Rattle.rc_lef.specs.declared.tech.LayerKind.TheVariants as kinds
use Rattle.rc_lef.specs.declared.via.Via.{Via}
use Rattle.rc_lef.specs.Cells.{no_pin, is_pin, pin_of, macro_of}
use Rattle.rc_lef.specs.Facts.{IsPoint, IsShape, IsWidth, IsVia, IsDrawn, IsRuled, IsPin, IsCell, IsRule, HasWidth, CountUp, IsInRange, numbers_of, routing_number, cut_number, routing_count, cut_count}
use Rattle.rc_lef.specs.Moves.{first}
use Rattle.rc_lef.specs.Numbers.{on_routing_layer, rect_of, rect_in_pin, has_width, width_joins}
use Rattle.rc_lef.specs.Phrases.{Part, Word, semicolon, Coordinate, Size, Whole, Above0}
use Rattle.rc_lef.specs.Technology.{Technology, is_routing, is_cut}
use Rattle.rc_lef.specs.LayerBlock.{Purpose, Wires, Cuts, Neither, LayerParts, LayerStatement, Routing, Cut, OfAnother, Width as WidthOfLayer, NoWidth, Other as OtherInLayer, no_parts, knows_layer, layers_of, is_complete, is_for_wires, kind_of, or_0, layer_of, with_new_layer}
use Rattle.rc_lef.specs.Vias.{via_of, no_via}
use Rattle.rc_lef.specs.ViaBlock.{ViaParts, ViaStatement, no_parts as no_via_parts, knows_via, with_new_via}
use Rattle.rc_lef.specs.RuleBlock.{Place, Between, InLayer, InVia, RuleParts, RuleStatement, LayerHead, Width, LayerOther, LayerEnd, ViaHead, ViaPart as ViaInRule, ViaEnd, Skipped, Other, rule_begun, knows_rule}
use Rattle.rc_lef.specs.MacroBlock.{CellStatement, Origin, SizeBy, Obstruction, Timing, Other as OtherInCell, PinStatement, Direction, Output, TriState, Other as OtherInPin, PortStatement, OnLayer, Rect as RectInPort, MaskedRect, Iterated, Other as OtherInPort, MacroParts, MacroStatement, InCell, PinHead, PinPart, PortHead, PortPart, PortEnd, PinEnd, no_parts as no_macro_parts, knows_macro}
use Rattle.rc_lef.specs.File.{Entry, UnitsPart, LayerPart, ViaPart, RulePart, MacroPart, SkippedPart, OtherPart, IsFile}
use Rattle.rc_lef.proofs.Distinct.{all_keep}
use Rattle.rc_lef.proofs.Shapes.{coordinate_near, size_near, width_near, head_said, tail_said, shape_between}
use Rattle.rc_lef.proofs.UsableVias.{IsThere}
use Rattle.rc_lef.proofs.ViaRanges.{first_keeps, or_else_keeps, kind_is, layer_said, corners_near, two_said, IsDraft, via_keeps, draft_is_via}

-- ---- the numbers of layers

joins_option : {X : Type 0} (o : Option X) (rest : List X) (x : X) → Contains rest x → Contains (cons_option o rest) x
joins_option (Some y) rest x has = in_tail y rest x has
joins_option None rest x has = has

listed : {X Y : Type 0} (h : X → Option Y) (xs : List X) (x : X) (y : Y) → Contains xs x → h x ≡ Some y → Contains (filter_map h xs) y
listed h [] x y has is = absurd (none_in x has)
listed h (z ∷ xs) x y has is = ⊎_elim
    (λ (here : z ≡ x). let e : h z ≡ Some y = ap h here ∙ is in rw e (at_head y (filter_map h xs) y refl))
    (λ (there : Contains xs x). joins_option (h z) (filter_map h xs) y (listed h xs x y there is))
    (head_or_tail z xs x has)

-- numbers that count up are below their number
below : (numbers : List ℕ) (n : ℕ) → CountUp numbers → Contains numbers n → n < length numbers
below numbers n up (k, lt, is) =
    let e : get_or numbers k n ≡ 0 + k = ap (λ ns. get_or ns k n) up.are ∙ get_or-range_with_len 0 (length numbers) k n lt in
    let f : n ≡ 0 + k = sym is ∙ e in
    omega (arith, lt, f)

pub layers_there : (tech : Technology) → IsInRange tech → All (λ (layer : Layer). IsThere (routing_count tech) (cut_count tech) layer.kind) tech.layers
layers_there tech is = λ k d within. by (get_or tech.layers k d) (get_or tech.layers k d).kind refl (Contains-get_or tech.layers k d within)
  where
    by : (layer : Layer) (kind : LayerKind) → layer.kind ≡ kind → Contains tech.layers layer → IsThere (routing_count tech) (cut_count tech) kind
    by layer (kinds.Routing n) same has = below (numbers_of routing_number tech.layers) n is.routing (listed (λ (l : Layer). routing_number l.kind) tech.layers layer n has (ap routing_number same))
    by layer (kinds.Cut n) same has = below (numbers_of cut_number tech.layers) n is.cuts (listed (λ (l : Layer). cut_number l.kind) tech.layers layer n has (ap cut_number same))
    by layer kinds.Other same has = tt

routing_counted : (layers : List Layer) → length (numbers_of routing_number layers) ≡ count_by (λ (layer : Layer). is_routing layer.kind) layers
routing_counted layers = is_count_by (λ ls. length (numbers_of routing_number ls)) (λ (layer : Layer). is_routing layer.kind) refl (λ layer rest. by layer.kind (numbers_of routing_number rest)) layers
  where
    by : (kind : LayerKind) (rest : List ℕ) → length (cons_option (routing_number kind) rest) ≡ cond (is_routing kind) (1 + length rest) (length rest)
    by (kinds.Routing n) rest = omega arith
    by (kinds.Cut n) rest = refl
    by kinds.Other rest = refl

cuts_counted : (layers : List Layer) → length (numbers_of cut_number layers) ≡ count_by (λ (layer : Layer). is_cut layer.kind) layers
cuts_counted layers = is_count_by (λ ls. length (numbers_of cut_number ls)) (λ (layer : Layer). is_cut layer.kind) refl (λ layer rest. by layer.kind (numbers_of cut_number rest)) layers
  where
    by : (kind : LayerKind) (rest : List ℕ) → length (cons_option (cut_number kind) rest) ≡ cond (is_cut kind) (1 + length rest) (length rest)
    by (kinds.Routing n) rest = refl
    by (kinds.Cut n) rest = omega arith
    by kinds.Other rest = refl

-- ---- where more layers are there, what lay on layers does so still

via_weaker : (r r' c c' : ℕ) → r ≤ r' → c ≤ c' → (via : Via) → IsVia r c via → IsVia r' c' via
via_weaker r r' c c' more_r more_c via is = λ usable. let u = is usable in record { order = u.order; upper = (let e = u.upper in omega (arith, e, more_r)); cut = (let e = u.cut in omega (arith, e, more_c)); cuts = u.cuts; pads = u.pads }

all_weaker : {X : Type 0} (P Q : X → Type 0) → ((x : X) → P x → Q x) → (xs : List X) → All P xs → All Q xs
all_weaker P Q law xs all = λ k d within. law (get_or xs k d) (all k d within)

drawn_weaker : (r r' : ℕ) → r ≤ r' → (drawn : ℕ × Rect) → IsDrawn r drawn → IsDrawn r' drawn
drawn_weaker r r' more drawn is = let e = is.0 in (omega (arith, e, more), is.1)

cell_weaker : (r r' : ℕ) → r ≤ r' → (cell : Macro) → IsCell r cell → IsCell r' cell
cell_weaker r r' more cell is = record {
  origin = is.origin;
  wide = is.wide;
  high = is.high;
  pins = all_weaker (IsPin r) (IsPin r') (λ (pin : MacroPin) all. all_weaker (IsDrawn r) (IsDrawn r') (drawn_weaker r r' more) pin.rects all) cell.pins is.pins;
}

rule_weaker : (r r' : ℕ) → r ≤ r' → (rule : Ndr) → IsRule r rule → IsRule r' rule
rule_weaker r r' more rule is = all_weaker (IsRuled r) (IsRuled r') (λ (width : ℕ × ℤ) w. let e = w.0 in (omega (arith, e, more), w.1)) rule.widths is

-- ---- one layer more

grown : (t : Technology) (layers : List Layer) → CountUp (numbers_of routing_number layers) → CountUp (numbers_of cut_number layers) → routing_count t ≤ length (numbers_of routing_number layers) → cut_count t ≤ length (numbers_of cut_number layers)
    → All (λ (layer : Layer). HasWidth layer.kind layer.width) layers → IsInRange t → IsInRange (record t { layers = layers })
grown t layers up_r up_c more_r more_c widths is = record {
  routing = up_r;
  cuts = up_c;
  layers = widths;
  vias = all_weaker (IsVia (routing_count t) (cut_count t)) (IsVia (length (numbers_of routing_number layers)) (length (numbers_of cut_number layers))) (via_weaker (routing_count t) (length (numbers_of routing_number layers)) (cut_count t) (length (numbers_of cut_number layers)) more_r more_c) t.vias is.vias;
  cells = all_weaker (IsCell (routing_count t)) (IsCell (length (numbers_of routing_number layers))) (cell_weaker (routing_count t) (length (numbers_of routing_number layers)) more_r) t.macros is.cells;
  rules = all_weaker (IsRule (routing_count t)) (IsRule (length (numbers_of routing_number layers))) (rule_weaker (routing_count t) (length (numbers_of routing_number layers)) more_r) t.rules is.rules;
}

next_number : (numbers : List ℕ) (n : ℕ) → CountUp numbers → n ≡ length numbers → n < layer_count → CountUp (numbers ++ n ∷ [])
next_number numbers n up is few =
    let longer : length (numbers ++ n ∷ []) ≡ length numbers + 1 = length-append numbers (n ∷ []) in
    record {
      are = ap (λ ns. ns ++ n ∷ []) up.are ∙ ap (λ m. range_with_len 0 (length numbers) ++ m ∷ []) is ∙ sym (range_more (length numbers)) ∙ ap (range_with_len 0) (sym longer);
      few = omega (arith, longer, is, few);
    }

-- a layer's number is how many layers of its kind there are, where there is room for one more
abbrev IsNext : Technology → LayerKind → Type 0
IsNext t (kinds.Routing n) = (n ≡ routing_count t) × (n < layer_count)
IsNext t (kinds.Cut n) = (n ≡ cut_count t) × (n < layer_count)
IsNext t kinds.Other = Unit {0}

with_layer : (t : Technology) (name : List ℕ) (kind : LayerKind) (width : ℤ) → IsNext t kind → HasWidth kind width → IsInRange t → IsInRange (record t { layers = t.layers ++ record { name = name; kind = kind; width = width } ∷ [] })
with_layer t name kind width next has is = by kind next has
  where
    by : (kind : LayerKind) → IsNext t kind → HasWidth kind width → IsInRange (record t { layers = t.layers ++ record { name = name; kind = kind; width = width } ∷ [] })
    by (kinds.Routing n) at wide =
        let layer : Layer = record { name = name; kind = kinds.Routing n; width = width } in
        let r : numbers_of routing_number (t.layers ++ layer ∷ []) ≡ numbers_of routing_number t.layers ++ n ∷ [] = filter_map-append (λ (l : Layer). routing_number l.kind) t.layers (layer ∷ []) in
        let c : numbers_of cut_number (t.layers ++ layer ∷ []) ≡ numbers_of cut_number t.layers = filter_map-append (λ (l : Layer). cut_number l.kind) t.layers (layer ∷ []) ∙ append-nil (numbers_of cut_number t.layers) in
        let longer : length (numbers_of routing_number t.layers ++ n ∷ []) ≡ length (numbers_of routing_number t.layers) + 1 = length-append (numbers_of routing_number t.layers) (n ∷ []) in
        grown t (t.layers ++ layer ∷ []) (subst CountUp (sym r) (next_number (numbers_of routing_number t.layers) n is.routing at.0 at.1)) (subst CountUp (sym c) is.cuts)
        (let e = ap length r in omega (arith, e, longer)) (let e = ap length c in omega (arith, e)) (All-push (λ (l : Layer). HasWidth l.kind l.width) t.layers layer is.layers wide) is
    by (kinds.Cut n) at wide =
        let layer : Layer = record { name = name; kind = kinds.Cut n; width = width } in
        let r : numbers_of routing_number (t.layers ++ layer ∷ []) ≡ numbers_of routing_number t.layers = filter_map-append (λ (l : Layer). routing_number l.kind) t.layers (layer ∷ []) ∙ append-nil (numbers_of routing_number t.layers) in
        let c : numbers_of cut_number (t.layers ++ layer ∷ []) ≡ numbers_of cut_number t.layers ++ n ∷ [] = filter_map-append (λ (l : Layer). cut_number l.kind) t.layers (layer ∷ []) in
        let longer : length (numbers_of cut_number t.layers ++ n ∷ []) ≡ length (numbers_of cut_number t.layers) + 1 = length-append (numbers_of cut_number t.layers) (n ∷ []) in
        grown t (t.layers ++ layer ∷ []) (subst CountUp (sym r) is.routing) (subst CountUp (sym c) (next_number (numbers_of cut_number t.layers) n is.cuts at.0 at.1))
        (let e = ap length r in omega (arith, e)) (let e = ap length c in omega (arith, e, longer)) (All-push (λ (l : Layer). HasWidth l.kind l.width) t.layers layer is.layers wide) is
    by kinds.Other at wide =
        let layer : Layer = record { name = name; kind = kinds.Other; width = width } in
        let r : numbers_of routing_number (t.layers ++ layer ∷ []) ≡ numbers_of routing_number t.layers = filter_map-append (λ (l : Layer). routing_number l.kind) t.layers (layer ∷ []) ∙ append-nil (numbers_of routing_number t.layers) in
        let c : numbers_of cut_number (t.layers ++ layer ∷ []) ≡ numbers_of cut_number t.layers = filter_map-append (λ (l : Layer). cut_number l.kind) t.layers (layer ∷ []) ∙ append-nil (numbers_of cut_number t.layers) in
        grown t (t.layers ++ layer ∷ []) (subst CountUp (sym r) is.routing) (subst CountUp (sym c) is.cuts)
        (let e = ap length r in omega (arith, e)) (let e = ap length c in omega (arith, e)) (All-push (λ (l : Layer). HasWidth l.kind l.width) t.layers layer is.layers wide) is

-- ---- LAYER

-- a new layer of a kind that counts finds a number
abbrev HasPlace : Technology → List ℕ → Option Purpose → Type 0
HasPlace tech name (Some Wires) = (knows_layer tech name ≡ true) ⊎ (layers_of is_routing tech < 32)
HasPlace tech name (Some Cuts) = (knows_layer tech name ≡ true) ⊎ (layers_of is_cut tech < 32)
HasPlace tech name (Some Neither) = Unit {0}
HasPlace tech name None = Unit {0}

record IsLayer (tech : Technology) (name : List ℕ) (parts : LayerParts) : Type 0 where
  purpose : HasPlace tech name parts.purpose
  width : IfSome parts.width IsWidth

either : (a : Bool) (n : ℕ) → (a || nat_lt n 32) ≡ true → (a ≡ true) ⊎ (n < 32)
either true n is = inl refl
either false n is = inr (nat_lt_tells n 32 is)

wires_placed : (tech : Technology) (name : List ℕ) (earlier : Option Purpose) → (is_some earlier || (knows_layer tech name || nat_lt (layers_of is_routing tech) 32)) ≡ true → HasPlace tech name earlier → HasPlace tech name (first earlier Wires)
wires_placed tech name None room place = either (knows_layer tech name) (layers_of is_routing tech) room
wires_placed tech name (Some purpose) room place = place

cuts_placed : (tech : Technology) (name : List ℕ) (earlier : Option Purpose) → (is_some earlier || (knows_layer tech name || nat_lt (layers_of is_cut tech) 32)) ≡ true → HasPlace tech name earlier → HasPlace tech name (first earlier Cuts)
cuts_placed tech name None room place = either (knows_layer tech name) (layers_of is_cut tech) room
cuts_placed tech name (Some purpose) room place = place

neither_placed : (tech : Technology) (name : List ℕ) (earlier : Option Purpose) → HasPlace tech name earlier → HasPlace tech name (first earlier Neither)
neither_placed tech name None place = tt
neither_placed tech name (Some purpose) place = place

layer_keeps : (tech : Technology) (name : List ℕ) (before after : LayerParts) (words : List Lexeme) → LayerStatement tech name before words after → IsLayer tech name before → IsLayer tech name after
layer_keeps tech name before after words (Routing are room same) is = rw same (record { purpose = wires_placed tech name before.purpose room is.purpose; width = is.width })
layer_keeps tech name before after words (Cut are room same) is = rw same (record { purpose = cuts_placed tech name before.purpose room is.purpose; width = is.width })
layer_keeps tech name before after words (OfAnother are same) is = rw same (record { purpose = neither_placed tech name before.purpose is.purpose; width = is.width })
layer_keeps tech name before after words (WidthOfLayer width are same) is =
    let rest = tail_said (Word keys.Width) (Above0 tech.units width ∷ semicolon ∷ []) words are in
    let word = head_said (Above0 tech.units width) (semicolon ∷ []) rest.0 rest.1 in
    rw same (record { purpose = is.purpose; width = first_keeps IsWidth before.width width is.width (width_near tech.units word.0.bytes width word.1.2) })
layer_keeps tech name before after words (NoWidth begins not_one over same) is = rw same is
layer_keeps tech name before after words (OtherInLayer other same) is = rw same is

no_room : (b : Bool) (n : ℕ) → b ≡ false → (b ≡ true) ⊎ (n < 32) → n < 32
no_room b n new (inl is) = absurd (let e : false ≡ true = sym new ∙ is in cc)
no_room b n new (inr lt) = lt

new_layer : (tech : Technology) (name : List ℕ) (purpose : Option Purpose) (width : Option ℤ) → knows_layer tech name ≡ false → HasPlace tech name purpose → IfSome width IsWidth → not (is_for_wires purpose && is_none width) ≡ true → IsInRange tech
    → IsInRange (record tech { layers = tech.layers ++ record { name = name; kind = kind_of tech purpose; width = cond (is_for_wires purpose) (or_0 width) (pos 0) } ∷ [] })
new_layer tech name (Some Wires) (Some width) new place wide complete is =
    let few = no_room (knows_layer tech name) (layers_of is_routing tech) new place in
    with_layer tech name (kinds.Routing (layers_of is_routing tech)) width (sym (routing_counted tech.layers), few) (few, wide) is
new_layer tech name (Some Wires) None new place wide complete is = absurd cc
new_layer tech name (Some Cuts) width new place wide complete is =
    let few = no_room (knows_layer tech name) (layers_of is_cut tech) new place in
    with_layer tech name (kinds.Cut (layers_of is_cut tech)) (pos 0) (sym (cuts_counted tech.layers), few) (few, refl) is
new_layer tech name (Some Neither) width new place wide complete is = with_layer tech name kinds.Other (pos 0) tt refl is
new_layer tech name None width new place wide complete is = with_layer tech name kinds.Other (pos 0) tt refl is

layer_joins : (tech : Technology) (name : List ℕ) (parts : LayerParts) → IsLayer tech name parts → is_complete parts ≡ true → IsInRange tech → IsInRange (with_new_layer tech name parts)
layer_joins tech name parts layer complete is = by (knows_layer tech name) refl
  where
    by : (t : Bool) → knows_layer tech name ≡ t → IsInRange (record tech { layers = cond t tech.layers (tech.layers ++ layer_of tech name parts ∷ []) })
    by true known = record { routing = is.routing; cuts = is.cuts; layers = is.layers; vias = is.vias; cells = is.cells; rules = is.rules }
    by false new = new_layer tech name parts.purpose parts.width new layer.purpose layer.width complete is

-- ---- VIA

no_draft : (r c : ℕ) → IsDraft r c no_via
no_draft r c = record { layer = tt; rects = All-nil _; cut_size = tt; layers = tt; spacing = tt; enclosure = tt; counts = tt }

one_more : {X : Type 0} (P : X → Type 0) (known : Bool) (xs : List X) (x : X) → All P xs → P x → All P (cond known xs (xs ++ x ∷ []))
one_more P true xs x all p = all
one_more P false xs x all p = All-push P xs x all p

via_joins : (tech : Technology) (name : List ℕ) (via : ViaDraft) → IsDraft (routing_count tech) (cut_count tech) via → IsInRange tech → IsInRange (with_new_via tech name via)
via_joins tech name via draft is = record {
  routing = is.routing;
  cuts = is.cuts;
  layers = is.layers;
  vias = one_more (IsVia (routing_count tech) (cut_count tech)) (knows_via tech name) tech.vias (via_of name via) is.vias (draft_is_via (routing_count tech) (cut_count tech) name via draft);
  cells = is.cells;
  rules = is.rules;
}

-- ---- NONDEFAULTRULE

abbrev IsPlace : Technology → Place → Type 0
IsPlace tech Between = Unit {0}
IsPlace tech (InLayer name kind) = IsThere (routing_count tech) (cut_count tech) kind
IsPlace tech (InVia name parts) = IsDraft (routing_count tech) (cut_count tech) parts.via

record IsRuleParts (parts : RuleParts) : Type 0 where
  tech : IsInRange parts.tech
  widths : All (IsRuled (routing_count parts.tech)) parts.widths
  place : IsPlace parts.tech parts.place

width_added : (tech : Technology) (widths : List (ℕ × ℤ)) (kind : LayerKind) (width : ℤ) → IsThere (routing_count tech) (cut_count tech) kind → IsWidth width → All (IsRuled (routing_count tech)) widths → All (IsRuled (routing_count tech)) (width_joins widths kind (Some width))
width_added tech widths (kinds.Routing number) width there wide all = one_more (IsRuled (routing_count tech)) (has_width widths number) widths (number, width) all (there, wide)
width_added tech widths (kinds.Cut number) width there wide all = all
width_added tech widths kinds.Other width there wide all = all

rule_keeps : (before after : RuleParts) (words : List Lexeme) → RuleStatement before words after → IsRuleParts before → IsRuleParts after
rule_keeps before after words (LayerHead name kind at are found same) is =
    rw same (record { tech = is.tech; widths = is.widths; place = kind_is (IsThere (routing_count before.tech) (cut_count before.tech)) name before.tech.layers kind (layers_there before.tech is.tech) found })
rule_keeps before after words (Width name kind width at are same) is =
    let rest = tail_said (Word keys.Width) (Size before.tech.units width ∷ semicolon ∷ []) words are in
    let word = head_said (Size before.tech.units width) (semicolon ∷ []) rest.0 rest.1 in
    let there : IsThere (routing_count before.tech) (cut_count before.tech) kind = subst (IsPlace before.tech) at is.place in
    rw same (record { tech = is.tech; widths = width_added before.tech before.widths kind width there (size_near before.tech.units width word.0 word.1) is.widths; place = is.place })
rule_keeps before after words (LayerOther name kind at other same) is = rw same is
rule_keeps before after words (LayerEnd name kind at are same) is = rw same (record { tech = is.tech; widths = is.widths; place = tt })
rule_keeps before after words (ViaHead name at are same) is = rw same (record { tech = is.tech; widths = is.widths; place = no_draft (routing_count before.tech) (cut_count before.tech) })
rule_keeps before after words (ViaInRule name parts next at statement same) is =
    let draft : IsDraft (routing_count before.tech) (cut_count before.tech) parts.via = subst (IsPlace before.tech) at is.place in
    rw same (record { tech = is.tech; widths = is.widths; place = via_keeps (routing_count before.tech) (cut_count before.tech) before.tech (layers_there before.tech is.tech) parts next words statement draft })
rule_keeps before after words (ViaEnd name parts at are same) is =
    let draft : IsDraft (routing_count before.tech) (cut_count before.tech) parts.via = subst (IsPlace before.tech) at is.place in
    rw same (record { tech = via_joins before.tech name parts.via draft is.tech; widths = is.widths; place = tt })
rule_keeps before after words (Skipped at skipped same) is = rw same is
rule_keeps before after words (Other at other same) is = rw same is

-- ---- MACRO

record IsCellDraft (routing : ℕ) (cell : CellDraft) : Type 0 where
  origin : IfSome cell.origin IsPoint
  size : IfSome cell.size (λ size. IsWidth size.x × IsWidth size.y)
  pins : All (IsPin routing) cell.pins

record IsPinDraft (routing cuts : ℕ) (pin : PinDraft) : Type 0 where
  layer : IfSome pin.layer (IsThere routing cuts)
  rects : All (IsDrawn routing) pin.rects

record IsMacroParts (routing cuts : ℕ) (parts : MacroParts) : Type 0 where
  cell : IsCellDraft routing parts.cell
  pin : IsPinDraft routing cuts parts.pin

empty_pin : (r c : ℕ) (name : List ℕ) → IsPinDraft r c (no_pin name)
empty_pin r c name = record { layer = tt; rects = All-nil (IsDrawn r) }

cell_keeps : (r : ℕ) (tech : Technology) (before after : CellDraft) (words : List Lexeme) → CellStatement tech before words after → IsCellDraft r before → IsCellDraft r after
cell_keeps r tech before after words (Origin x y are same) is =
    let u = tech.units in
    let rest = tail_said (Word keys.Origin) (Coordinate u x ∷ Coordinate u y ∷ semicolon ∷ []) words are in
    let two = two_said (Coordinate u x) (Coordinate u y) (semicolon ∷ []) rest.0 rest.1 in
    let near : IsPoint (record { x = x; y = y }) = record { x = coordinate_near u x two.0.0 two.0.1; y = coordinate_near u y two.1.0 two.1.1 } in
    rw same (record { origin = or_else_keeps IsPoint before.origin (record { x = x; y = y }) is.origin near; size = is.size; pins = is.pins })
cell_keeps r tech before after words (SizeBy w h are same) is =
    let u = tech.units in
    let rest = tail_said (Word keys.Size) (Size u w ∷ Word keys.By ∷ Size u h ∷ semicolon ∷ []) words are in
    let two = two_said (Size u w) (Word keys.By) (Size u h ∷ semicolon ∷ []) rest.0 rest.1 in
    let high = head_said (Size u h) (semicolon ∷ []) two.2.0 two.2.1 in
    let wide : IsWidth w × IsWidth h = (size_near u w two.0.0 two.0.1, size_near u h high.0 high.1) in
    rw same (record { origin = is.origin; size = or_else_keeps (λ (size : Pt). IsWidth size.x × IsWidth size.y) before.size (record { x = w; y = h }) is.size wide; pins = is.pins })
cell_keeps r tech before after words (Obstruction skipped same) is = rw same is
cell_keeps r tech before after words (Timing skipped same) is = rw same is
cell_keeps r tech before after words (OtherInCell other same) is = rw same is

pin_keeps : (r c : ℕ) (before after : PinDraft) (words : List Lexeme) → PinStatement before words after → IsPinDraft r c before → IsPinDraft r c after
pin_keeps r c before after words (Direction key dir are of same) is = rw same (record { layer = is.layer; rects = is.rects })
pin_keeps r c before after words (Output are same) is = rw same (record { layer = is.layer; rects = is.rects })
pin_keeps r c before after words (TriState are same) is = rw same (record { layer = is.layer; rects = is.rects })
pin_keeps r c before after words (OtherInPin other same) is = rw same is

drawn : (r c : ℕ) (kind : Option LayerKind) (rect : Option Rect) → IfSome kind (IsThere r c) → ((s : Rect) → rect ≡ Some s → IsShape s) → All (IsDrawn r) (on_routing_layer kind rect)
drawn r c (Some (kinds.Routing number)) (Some rect) there shape = All-cons (IsDrawn r) (number, rect) [] (there, shape rect refl) (All-nil (IsDrawn r))
drawn r c (Some (kinds.Cut number)) (Some rect) there shape = All-nil (IsDrawn r)
drawn r c (Some kinds.Other) (Some rect) there shape = All-nil (IsDrawn r)
drawn r c (Some (kinds.Routing number)) None there shape = All-nil (IsDrawn r)
drawn r c (Some (kinds.Cut number)) None there shape = All-nil (IsDrawn r)
drawn r c (Some kinds.Other) None there shape = All-nil (IsDrawn r)
drawn r c None rect there shape = All-nil (IsDrawn r)

pin_drawn : (r c : ℕ) (pin : PinDraft) (x1 y1 x2 y2 : ℤ) → IsPoint (record { x = x1; y = y1 }) × IsPoint (record { x = x2; y = y2 }) → IsPinDraft r c pin → IsPinDraft r c (rect_in_pin pin (x1 ∷ y1 ∷ x2 ∷ y2 ∷ []))
pin_drawn r c pin x1 y1 x2 y2 near is = record {
  layer = is.layer;
  rects = All-append (IsDrawn r) pin.rects (on_routing_layer pin.layer (rect_of (x1 ∷ y1 ∷ x2 ∷ y2 ∷ []))) is.rects
      (drawn r c pin.layer (rect_of (x1 ∷ y1 ∷ x2 ∷ y2 ∷ [])) is.layer (λ s at. shape_between (record { x = x1; y = y1 }) (record { x = x2; y = y2 }) s near.0 near.1 at));
}

port_keeps : (r c : ℕ) (tech : Technology) → All (λ (layer : Layer). IsThere r c layer.kind) tech.layers → (before after : PinDraft) (words : List Lexeme) → PortStatement tech before words after → IsPinDraft r c before → IsPinDraft r c after
port_keeps r c tech there before after words (OnLayer kind layer name over at are ends same) is = rw same (record { layer = layer_said (IsThere r c) tech.layers kind name there are.1.0; rects = is.rects })
port_keeps r c tech there before after words (RectInPort x1 y1 x2 y2 are plain on same) is =
    let u = tech.units in
    let rest = tail_said (Word keys.Rect) (Coordinate u x1 ∷ Coordinate u y1 ∷ Coordinate u x2 ∷ Coordinate u y2 ∷ semicolon ∷ []) words are in
    rw same (pin_drawn r c before x1 y1 x2 y2 (corners_near u x1 y1 x2 y2 (semicolon ∷ []) rest.0 rest.1) is)
port_keeps r c tech there before after words (MaskedRect x1 y1 x2 y2 are on same) is =
    let u = tech.units in
    let corners : List Part = Coordinate u x1 ∷ Coordinate u y1 ∷ Coordinate u x2 ∷ Coordinate u y2 ∷ semicolon ∷ [] in
    let mask = tail_said (Word keys.Rect) (Word keys.Mask ∷ Whole ∷ corners) words are in
    let number = two_said (Word keys.Mask) Whole corners mask.0 mask.1 in
    rw same (pin_drawn r c before x1 y1 x2 y2 (corners_near u x1 y1 x2 y2 (semicolon ∷ []) number.2.0 number.2.1) is)
port_keeps r c tech there before after words (Iterated rect iterate over at are ends same) is = rw same is
port_keeps r c tech there before after words (OtherInPort other same) is = rw same is

macro_keeps : (tech : Technology) → IsInRange tech → (before after : MacroParts) (words : List Lexeme) → MacroStatement tech before words after → IsMacroParts (routing_count tech) (cut_count tech) before → IsMacroParts (routing_count tech) (cut_count tech) after
macro_keeps tech in_range before after words (InCell cell at statement same) is = rw same (record { cell = cell_keeps (routing_count tech) tech before.cell cell words statement is.cell; pin = is.pin })
macro_keeps tech in_range before after words (PinHead name at are same) is = rw same (record { cell = is.cell; pin = empty_pin (routing_count tech) (cut_count tech) name })
macro_keeps tech in_range before after words (PinPart pin at statement same) is = rw same (record { cell = is.cell; pin = pin_keeps (routing_count tech) (cut_count tech) before.pin pin words statement is.pin })
macro_keeps tech in_range before after words (PortHead at are same) is = rw same (record { cell = is.cell; pin = record { layer = tt; rects = is.pin.rects } })
macro_keeps tech in_range before after words (PortPart pin at statement same) is =
    rw same (record { cell = is.cell; pin = port_keeps (routing_count tech) (cut_count tech) tech (layers_there tech in_range) before.pin pin words statement is.pin })
macro_keeps tech in_range before after words (PortEnd at are same) is = rw same (record { cell = is.cell; pin = is.pin })
macro_keeps tech in_range before after words (PinEnd at are same) is = rw same (record {
  cell = record {
    origin = is.cell.origin;
    size = is.cell.size;
    pins = one_more (IsPin (routing_count tech)) (list_any (is_pin before.pin.name) before.cell.pins) before.cell.pins (pin_of before.pin) is.cell.pins is.pin.rects;
  };
  pin = empty_pin (routing_count tech) (cut_count tech) [];
})

origin_near : (origin : Option Pt) → IfSome origin IsPoint → IsPoint (unwrap_or origin (record { x = pos 0; y = pos 0 }))
origin_near (Some at) is = is
origin_near None is = record { x = record { low = omega (arith, ints); high = omega (arith, ints) }; y = record { low = omega (arith, ints); high = omega (arith, ints) } }

cell_is : (r : ℕ) (name : List ℕ) (size : Pt) (cell : CellDraft) → cell.size ≡ Some size → IsCellDraft r cell → IsCell r (macro_of name size cell)
cell_is r name size cell has is =
    let sides : IsWidth size.x × IsWidth size.y = subst (λ (o : Option Pt). IfSome o (λ (s : Pt). IsWidth s.x × IsWidth s.y)) has is.size in
    record { origin = origin_near cell.origin is.origin; wide = sides.0; high = sides.1; pins = is.pins }

-- ---- entries

entry_keeps : (before after : Technology) (words : List Lexeme) → Entry before words after → IsInRange before → IsInRange after
entry_keeps before after words (UnitsPart units b same) is = rw same (record { routing = is.routing; cuts = is.cuts; layers = is.layers; vias = is.vias; cells = is.cells; rules = is.rules })
entry_keeps before after words (LayerPart name parts b complete same) is =
    let e = all_keep (LayerStatement before name) (IsLayer before name) (layer_keeps before name) b.goes.parts no_parts parts b.goes.each (record { purpose = tt; width = tt }) in
    rw same (layer_joins before name parts e complete is)
entry_keeps before after words (ViaPart name parts b same) is =
    let r = routing_count before in
    let c = cut_count before in
    let e = all_keep (ViaStatement before) (λ (v : ViaParts). IsDraft r c v.via) (via_keeps r c before (layers_there before is)) b.goes.parts no_via_parts parts b.goes.each (no_draft r c) in
    rw same (via_joins before name parts.via e is)
entry_keeps before after words (RulePart name parts b between same) is =
    let e = all_keep RuleStatement IsRuleParts rule_keeps b.goes.parts (rule_begun before) parts b.goes.each (record { tech = is; widths = All-nil (IsRuled (routing_count before)); place = tt }) in
    let t = e.tech in
    rw same (record {
      routing = t.routing;
      cuts = t.cuts;
      layers = t.layers;
      vias = t.vias;
      cells = t.cells;
      rules = one_more (IsRule (routing_count parts.tech)) (knows_rule parts.tech name) parts.tech.rules (record { name = name; widths = parts.widths }) t.rules e.widths;
    })
entry_keeps before after words (MacroPart name parts size b between has same) is =
    let r = routing_count before in
    let c = cut_count before in
    let start : IsMacroParts r c no_macro_parts = record { cell = record { origin = tt; size = tt; pins = All-nil (IsPin r) }; pin = empty_pin r c [] } in
    let e = all_keep (MacroStatement before) (IsMacroParts r c) (macro_keeps before is) b.goes.parts no_macro_parts parts b.goes.each start in
    rw same (record {
      routing = is.routing;
      cuts = is.cuts;
      layers = is.layers;
      vias = is.vias;
      cells = one_more (IsCell r) (knows_macro before name) before.macros (macro_of name size parts.cell) is.cells (cell_is r name size parts.cell has e.cell);
      rules = is.rules;
    })
entry_keeps before after words (SkippedPart skipped same) is = rw same is
entry_keeps before after words (OtherPart other same) is = rw same is

pub file_in_range : (before after : Technology) (text : Remaining) → IsFile before text after → IsInRange before → IsInRange after
file_in_range before after text file is = all_keep Entry IsInRange entry_keeps file.entries.parts before after file.entries.each is
