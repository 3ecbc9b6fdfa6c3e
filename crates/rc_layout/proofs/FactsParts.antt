-- What the nets of a linked layout may name is in its ranges.
use Rattle.std.proofs.Common.{◌≡◌, ◌∙◌, ⊎_elim, ℕ, ℤ, zero, suc, ◌+◌, ◌*◌, ◌/◌, ◌%◌, ◌<◌, ◌≤◌, ◌^◌, ◌≤ℤ◌, Bool, true, false, cond, List, [], ◌∷◌, ◌++◌, length, get_or, refl, sym, ap, subst, arith}
use Rattle.std.proofs.Math.Nat.{mul-le-mul_right}
use Rattle.std.proofs.lemmas.Bool.{eqb-true}
use Rattle.std.proofs.lemmas.Int.{ints}
use Rattle.std.proofs.lemmas.List.FromFn.{get_or-range_with_len}
use Rattle.std.proofs.lemmas.List.Elements.{All-nil, All-cons, All-head, All-tail, All-append, All-push, Contains-get_or}
use Rattle.std.proofs.lemmas.Option.{same_Some, cond_some}
use Rattle.std.specs.Prelude.{All, Contains, Option, Some, None, IfSome, is_some, slice_get, pos, negsuc, ◌==◌, Ok, if◌then◌else◌}
use Rattle.std.specs.List.{list_all, cons_option}
use Rattle.std.specs.Str.{bytes_eq}
use Rattle.rc_fixed.proofs.Members.{none_in, head_or_tail, at_head, in_tail}
use Rattle.rc_keys.specs.declared.code.Code.TheVariants.{E06}
use Rattle.rc_keys.specs.declared.fault.Refusal.TheVariants.{At}
use Rattle.rc_geom.specs.declared.rect.Pt.{Pt}
use Rattle.rc_geom.specs.declared.rect.Rect.{Rect}
use Rattle.rc_geom.specs.declared.orient.Orient.{Orient}
use Rattle.rc_geom.specs.Bounds.{is_point, is_within}
use Rattle.rc_lef.specs.Technology.{Technology}
use Rattle.rc_lef.specs.Lengths.{in_a_micron}
use Rattle.rc_lef.specs.Facts.{IsSound, IsVia, CountUp, numbers_of, routing_number, cut_number, routing_count, cut_count}
use Rattle.rc_lef.specs.Operands.{is_named, kind_named}
use Rattle.rc_lef.specs.Usable.{unusable}
use Rattle.rc_lef.specs.declared.cell.Macro.{Macro}
use Rattle.rc_lef.specs.declared.tech.Layer.{Layer}
use Rattle.rc_lef.specs.declared.tech.LayerKind.{LayerKind}
use Rattle.rc_lef.specs.declared.tech.LayerKind.TheVariants as kinds
use Rattle.rc_lef.specs.declared.units.Units.{Units}
use Rattle.rc_lef.specs.declared.units.Units.TheVariants as units
use Rattle.rc_lef.specs.declared.usable.Array.{Array}
use Rattle.rc_lef.specs.declared.via.Via.{Via}
use Rattle.rc_lef.proofs.UsableVias.{IsThere, IsDrawnThere, IsArray, drawn_is_via, made_is_via}
use Rattle.rc_def.specs.Forms.{IsBox, IsMade, IsWidth, IsRawVia, IsRawRule}
use Rattle.rc_def.specs.declared.entry.RawVia.{RawVia}
use Rattle.rc_def.specs.declared.entry.RawRule.{RawRule}
use Rattle.rc_def.specs.declared.entry.RawComp.{RawComp}
use Rattle.rc_def.specs.declared.entry.RawPort.{RawPort}
use Rattle.rc_def.specs.declared.entry.RawPin.{RawPin}
use Rattle.rc_layout.specs.declared.part.Comp.{Comp}
use Rattle.rc_layout.specs.declared.part.Port.{Port}
use Rattle.rc_layout.specs.declared.part.Rule.{Rule}
use Rattle.rc_layout.specs.Entries.{array_of, array_in, via_made, via_rect, link_via, on_routing, with_width, link_rule, fits_at, link_place, link_comp, with_near_rects, with_port_rect, with_placed_rect, with_placed, with_port, link_pin, direction}
use Rattle.rc_layout.specs.Facts.{HasRouting, FitsAt}
use Rattle.rc_layout.specs.Refusals.{there, unless, too_far, through, each, ◌>>=◌, ◌>>◌}
use Rattle.rc_layout.specs.Scope.{numbered, layer_named}
use Rattle.rc_layout.specs.Units.{factor, scaled, scaled_point, scaled_rect, moved, turned_rect}
use Rattle.rc_layout.specs.Wide.{HasCoordinates}
use Rattle.rc_layout.proofs.FactsChains.{same_ok, bound, passed, was_there, kept, each_is}
use Rattle.rc_layout.proofs.FactsItems.{corners_are, point_is}
use Rattle.rc_layout.proofs.FactsLayers.{named_routing}
use Rattle.rc_layout.proofs.FactsNets.{box_area}
use Rattle.rc_layout.proofs.FactsPaths.{scaled_natural, scaled_width}
use Rattle.rc_layout.proofs.FactsVias.{numbered_is}

-- ---- the factor

pub record IsFactor (k : ℕ) : Type 0 where
  pub some : 1 ≤ k
  pub few : k ≤ 20000

micron_is : (u : Units) → (1 ≤ in_a_micron u) × (in_a_micron u ≤ 20000)
micron_is units.U100 = (omega arith, omega arith)
micron_is units.U200 = (omega arith, omega arith)
micron_is units.U400 = (omega arith, omega arith)
micron_is units.U800 = (omega arith, omega arith)
micron_is units.U1000 = (omega arith, omega arith)
micron_is units.U2000 = (omega arith, omega arith)
micron_is units.U4000 = (omega arith, omega arith)
micron_is units.U8000 = (omega arith, omega arith)
micron_is units.U10000 = (omega arith, omega arith)
micron_is units.U20000 = (omega arith, omega arith)

quotient_is : (m d q r : ℕ) → 1 ≤ m → m ≤ 20000 → 1 ≤ d → r ≡ 0 → d * q + r ≡ m → IsFactor q
quotient_is m zero q r some few one none is = absurd (omega (arith, one))
quotient_is m (suc d) zero r some few one none is = absurd (omega (arith, some, none, is))
quotient_is m (suc d) (suc q) r some few one none is =
    let e : suc q ≤ suc d * suc q = omega arith in
    record { some = omega arith; few = omega (arith, e, is, few) }

pub factor_is : (u : Option Units) (d k : ℕ) → 1 ≤ d → factor u d ≡ Some k → IsFactor k
factor_is None d k one e = absurd cc
factor_is (Some u) d k one e =
    let is = cond_some (in_a_micron u % d == 0) (in_a_micron u / d) k e in
    let m = micron_is u in
    let whole : d * (in_a_micron u / d) + in_a_micron u % d ≡ in_a_micron u = omega (arith, one) in
    subst IsFactor is.1 (quotient_is (in_a_micron u) d (in_a_micron u / d) (in_a_micron u % d) m.0 m.1 one (eqb-true (in_a_micron u % d) 0 is.0) whole)

-- ---- layers by name

joins_option : {X : Type 0} (o : Option X) (rest : List X) (x : X) → Contains rest x → Contains (cons_option o rest) x
joins_option (Some y) rest x has = in_tail y rest x has
joins_option None rest x has = has

listed : (h : LayerKind → Option ℕ) (layers : List Layer) (layer : Layer) (n : ℕ) → Contains layers layer → h layer.kind ≡ Some n → Contains (numbers_of h layers) n
listed h [] layer n has is = absurd (none_in layer has)
listed h (first ∷ layers) layer n has is = ⊎_elim
    (λ (here : first ≡ layer). rw (ap (λ (l : Layer). h l.kind) here ∙ is) (at_head n (numbers_of h layers) n refl))
    (λ (there : Contains layers layer). joins_option (h first.kind) (numbers_of h layers) n (listed h layers layer n there is))
    (head_or_tail first layers layer has)

counted : (numbers : List ℕ) (n : ℕ) → CountUp numbers → Contains numbers n → n < length numbers
counted numbers n up (k, lt, is) =
    let e : get_or numbers k n ≡ 0 + k = ap (λ (ns : List ℕ). get_or ns k n) up.are ∙ get_or-range_with_len 0 (length numbers) k n lt in
    let f : n ≡ 0 + k = sym is ∙ e in
    omega (arith, lt, f)

pub kinds_there : (tech : Technology) → IsSound tech → All (λ (layer : Layer). IsThere (routing_count tech) (cut_count tech) layer.kind) tech.layers
kinds_there tech sound = λ k d within. by (get_or tech.layers k d) (get_or tech.layers k d).kind refl (Contains-get_or tech.layers k d within)
  where
    by : (layer : Layer) (kind : LayerKind) → layer.kind ≡ kind → Contains tech.layers layer → IsThere (routing_count tech) (cut_count tech) kind
    by layer (kinds.Routing n) same has = counted (numbers_of routing_number tech.layers) n sound.ranges.routing (listed routing_number tech.layers layer n has (ap routing_number same))
    by layer (kinds.Cut n) same has = counted (numbers_of cut_number tech.layers) n sound.ranges.cuts (listed cut_number tech.layers layer n has (ap cut_number same))
    by layer kinds.Other same has = tt

kind_of_name : (P : LayerKind → Type 0) (layers : List Layer) (name : List ℕ) (kind : LayerKind) → All (λ (layer : Layer). P layer.kind) layers → kind_named name layers ≡ Some kind → P kind
kind_of_name P [] name kind all e = absurd cc
kind_of_name P (layer ∷ layers) name kind all e =
    by (kind_of_name P layers name kind (All-tail (λ (layer : Layer). P layer.kind) layer layers all)) (is_named name layer) e
  where
    by : (kind_named name layers ≡ Some kind → P kind) → (t : Bool) → cond t (Some layer.kind) (kind_named name layers) ≡ Some kind → P kind
    by rest true e = subst P (same_Some layer.kind kind e) (All-head (λ (layer : Layer). P layer.kind) layer layers all)
    by rest false e = rest e

named_kind : (layers : List Layer) (line : ℕ) (name : List ℕ) (kind : LayerKind) → layer_named layers line name ≡ Ok kind → kind_named name layers ≡ Some kind
named_kind layers line name kind e = was_there (At E06 line) (kind_named name layers) kind e

named_is : (layers : List Layer) (line : ℕ) (name : List ℕ) (kind : LayerKind) → layer_named layers line name ≡ Ok kind → (n : ℕ) → kind ≡ kinds.Routing n → HasRouting layers n
named_is layers line name kind e n is = named_routing layers name n (named_kind layers line name kind e ∙ ap Some is)

-- ---- vias

module _ (tech : Technology) (k : ℕ) (sound : IsSound tech) (is : IsFactor k) where
  rect_there : (line : ℕ) (r : List ℕ × Rect) (after : LayerKind × Rect) → IsBox r.1 → via_rect tech.layers k line r ≡ Ok after → IsDrawnThere (routing_count tech) (cut_count tech) after
  rect_there line r after box e =
      let (kind, named, end) = bound (layer_named tech.layers line r.0) (λ kind. Ok (kind, scaled_rect k r.1)) after e in
      let there = kind_of_name (IsThere (routing_count tech) (cut_count tech)) tech.layers r.0 kind (kinds_there tech sound) (named_kind tech.layers line r.0 kind named) in
      let area = box_area k r.1 is.some box in
      subst (λ (x : LayerKind × Rect). IsDrawnThere (routing_count tech) (cut_count tech) x) (same_ok (kind, scaled_rect k r.1) after end) (there, (area.wide, area.high))

array_is : (k : ℕ) (numbers : List ℤ) (a : Array) → 1 ≤ k → IsMade numbers → array_of k numbers ≡ Some a → IsArray a
array_is k (cx ∷ cy ∷ sx ∷ sy ∷ bx ∷ by ∷ tx ∷ ty ∷ rows ∷ columns ∷ []) a some made e = subst IsArray (same_Some _ a e) (record {
  cut_x = scaled_width k cx some made.0.low;
  cut_y = scaled_width k cy some made.1.low;
  space_x = scaled_natural k sx made.2.low;
  space_y = scaled_natural k sy made.3.low;
  first_x = scaled_natural k bx made.4.low;
  first_y = scaled_natural k by made.5.low;
  third_x = scaled_natural k tx made.6.low;
  third_y = scaled_natural k ty made.7.low;
  rows = made.8.low;
  columns = made.9.low;
})
array_is k _ a some made e = absurd made

array_in_is : (k : ℕ) (o : Option (List ℤ)) (a : Array) → 1 ≤ k → IfSome o IsMade → array_in k o ≡ Some a → IsArray a
array_in_is k (Some numbers) a some made e = array_is k numbers a some made e
array_in_is k None a some made e = absurd cc

no_use : (r c : ℕ) (name : List ℕ) → IsVia r c (unusable name)
no_use r c name = λ is. absurd cc

made_there : (r c : ℕ) (raw : RawVia) (rects : List (LayerKind × Rect)) (layers : List LayerKind) (o : Option Array) → All (IsDrawnThere r c) rects → All (IsThere r c) layers → ((a : Array) → o ≡ Some a → IsArray a)
    → IsVia r c (via_made raw rects layers o)
made_there r c raw rects [] None drawn there array = drawn_is_via r c raw.name raw.plain rects drawn
made_there r c raw rects (first ∷ cut ∷ third ∷ []) (Some a) drawn there array =
    let rest = All-tail (IsThere r c) first (cut ∷ third ∷ []) there in
    made_is_via r c raw.name raw.plain first cut third a (All-head (IsThere r c) first (cut ∷ third ∷ []) there) (All-head (IsThere r c) cut (third ∷ []) rest)
    (All-head (IsThere r c) third [] (All-tail (IsThere r c) cut (third ∷ []) rest)) (array a refl)
made_there r c raw rects _ _ drawn there array = no_use r c raw.name

pub via_is : (tech : Technology) (k : ℕ) (raw : RawVia) (via : Via) → IsSound tech → IsFactor k → IsRawVia raw → link_via tech.layers k raw ≡ Ok via → IsVia (routing_count tech) (cut_count tech) via
unfolding link_via
via_is tech k raw via sound is form e =
    let (rects, drew, more) = bound (each (via_rect tech.layers k raw.line) raw.rects) (λ rects. each (layer_named tech.layers raw.line) raw.layers >>= λ kinds. Ok (via_made raw rects kinds (array_in k raw.made))) via e in
    let (layers, named, end) = bound (each (layer_named tech.layers raw.line) raw.layers) (λ kinds. Ok (via_made raw rects kinds (array_in k raw.made))) via more in
    let drawn = each_is (via_rect tech.layers k raw.line) (λ (r : List ℕ × Rect). IsBox r.1) (IsDrawnThere (routing_count tech) (cut_count tech)) (λ x y box h. rect_there tech k sound is raw.line x y box h) raw.rects rects form.rects drew in
    let there = each_is (layer_named tech.layers raw.line) (λ (name : List ℕ). Unit {0}) (IsThere (routing_count tech) (cut_count tech))
    (λ x y _ h. kind_of_name (IsThere (routing_count tech) (cut_count tech)) tech.layers x y (kinds_there tech sound) (named_kind tech.layers raw.line x y h)) raw.layers layers (λ i d within. tt) named in
    subst (IsVia (routing_count tech) (cut_count tech)) (same_ok (via_made raw rects layers (array_in k raw.made)) via end)
    (made_there (routing_count tech) (cut_count tech) raw rects layers (array_in k raw.made) drawn there (λ a made. array_in_is k raw.made a is.some form.made made))

-- ---- nondefault rules

-- a width above 0 that isn't too wide
pub record IsRuleWidth (z : ℤ) : Type 0 where
  pub some : pos 1 ≤ℤ z
  pub few : z ≤ℤ pos (2 ^ 50)

scaled_few : (k : ℕ) (z : ℤ) → IsFactor k → pos 1 ≤ℤ z → z ≤ℤ pos (2 ^ 29) → IsRuleWidth (scaled k z)
scaled_few k (pos n) is some few =
    let short : n ≤ 2 ^ 29 = omega (arith, ints, few) in
    let most = is.few in
    let e : k * n ≤ 20000 * n = mul-le-mul_right n most in
    record { some = scaled_width k (pos n) is.some some; few = omega (arith, ints, e, short) }
scaled_few k (negsuc n) is some few = absurd (omega (arith, ints, some))

next_width : (layers : List Layer) (k line : ℕ) (s t : List (ℕ × ℤ)) (w : List ℕ × ℤ) → IsFactor k → All (λ (w : ℕ × ℤ). IsRuleWidth w.1) s → IsWidth w.1 → with_width layers k line s w ≡ Ok t → All (λ (w : ℕ × ℤ). IsRuleWidth w.1) t
next_width layers k line s t w is so_far wide e =
    let (kind, named, end) = bound (layer_named layers line w.0) (λ kind. Ok (s ++ on_routing kind (scaled k w.1))) t e in
    subst (λ (ws : List (ℕ × ℤ)). All (λ (w : ℕ × ℤ). IsRuleWidth w.1) ws) (same_ok (s ++ on_routing kind (scaled k w.1)) t end)
    (All-append (λ (w : ℕ × ℤ). IsRuleWidth w.1) s (on_routing kind (scaled k w.1)) so_far (one kind))
  where
    one : (kind : LayerKind) → All (λ (w : ℕ × ℤ). IsRuleWidth w.1) (on_routing kind (scaled k w.1))
    one (kinds.Routing n) = All-cons (λ (w : ℕ × ℤ). IsRuleWidth w.1) (n, scaled k w.1) [] (scaled_few k w.1 is wide.low wide.high) (All-nil (λ (w : ℕ × ℤ). IsRuleWidth w.1))
    one (kinds.Cut n) = All-nil (λ (w : ℕ × ℤ). IsRuleWidth w.1)
    one kinds.Other = All-nil (λ (w : ℕ × ℤ). IsRuleWidth w.1)

pub rule_is_wide : (layers : List Layer) (k : ℕ) (raw : RawRule) (rule : Rule) → IsFactor k → IsRawRule raw → link_rule layers k raw ≡ Ok rule → All (λ (w : ℕ × ℤ). IsRuleWidth w.1) rule.widths
unfolding link_rule
rule_is_wide layers k raw rule is form e =
    let (widths, through_is, end) = bound (through (with_width layers k raw.line) [] raw.widths) (λ widths. Ok (record { name = raw.name; widths = widths })) rule e in
    let are = kept (with_width layers k raw.line) (λ (ws : List (ℕ × ℤ)). All (λ (w : ℕ × ℤ). IsRuleWidth w.1) ws) (λ (w : List ℕ × ℤ). IsWidth w.1) (λ s t x so_far wide h. next_width layers k raw.line s t x is so_far wide h) [] widths raw.widths
    (All-nil (λ (w : ℕ × ℤ). IsRuleWidth w.1)) form.widths through_is in
    subst (λ (r : Rule). All (λ (w : ℕ × ℤ). IsRuleWidth w.1) r.widths) (same_ok (record { name = raw.name; widths = widths }) rule end) are

-- ---- components

place_is : (k : ℕ) (cell : Macro) (o after : Option (Pt × Orient)) → link_place k cell o ≡ Ok after → FitsAt (Some cell) after
place_is k cell None after e = subst (FitsAt (Some cell)) (same_ok None after e) tt
place_is k cell (Some p) after e =
    let near = passed (is_point (scaled_point k p.0)) too_far (unless (fits_at cell p.1 (scaled_point k p.0)) too_far >> Ok (Some (scaled_point k p.0, p.1))) after e in
    let fits = passed (fits_at cell p.1 (scaled_point k p.0)) too_far (Ok (Some (scaled_point k p.0, p.1))) after near.1 in
    subst (FitsAt (Some cell)) (same_ok (Some (scaled_point k p.0, p.1)) after fits.1) (point_is (scaled_point k p.0) near.0, fits.0)

pub comp_is : (cells : List Macro) (k : ℕ) (raw : RawComp) (comp : Comp) → link_comp cells k raw ≡ Ok comp → FitsAt (slice_get cells comp.cell) comp.at
unfolding link_comp
comp_is cells k raw comp e =
    let (found, named, more) = bound (there (At E06 raw.line) (numbered (λ cell. bytes_eq raw.cell cell.name) cells)) (λ found. link_place k found.1 raw.at >>= λ at. Ok (record { name = raw.name; cell = found.0; at = at })) comp e in
    let here = numbered_is (λ cell. bytes_eq raw.cell cell.name) cells found (was_there (At E06 raw.line) (numbered (λ cell. bytes_eq raw.cell cell.name) cells) found named) in
    let (at, placed, end) = bound (link_place k found.1 raw.at) (λ at. Ok (record { name = raw.name; cell = found.0; at = at })) comp more in
    let fits = place_is k found.1 raw.at at placed in
    subst (λ (c : Comp). FitsAt (slice_get cells c.cell) c.at) (same_ok (record { name = raw.name; cell = found.0; at = at }) comp end) (subst (λ (o : Option Macro). FitsAt o at) (sym here) fits)

-- ---- die pins

on_named : (layers : List Layer) (line : ℕ) (name : List ℕ) (kind : LayerKind) (rect : Rect) → layer_named layers line name ≡ Ok kind → All (λ (r : ℕ × Rect). HasRouting layers r.0) (on_routing kind rect)
on_named layers line name (kinds.Routing n) rect e = All-cons (λ (r : ℕ × Rect). HasRouting layers r.0) (n, rect) [] (named_is layers line name (kinds.Routing n) e n refl) (All-nil (λ (r : ℕ × Rect). HasRouting layers r.0))
on_named layers line name (kinds.Cut n) rect e = All-nil (λ (r : ℕ × Rect). HasRouting layers r.0)
on_named layers line name kinds.Other rect e = All-nil (λ (r : ℕ × Rect). HasRouting layers r.0)

next_port_rect : (layers : List Layer) (k line : ℕ) (placed : Bool) (s t : List (ℕ × Rect)) (r : List ℕ × Rect) → All (λ (r : ℕ × Rect). HasRouting layers r.0) s → with_port_rect layers k line placed s r ≡ Ok t → All (λ (r : ℕ × Rect). HasRouting layers r.0) t
next_port_rect layers k line placed s t r so_far e =
    let (kind, named, more) = bound (layer_named layers line r.0) (λ kind. with_near_rects s (if placed then on_routing kind (scaled_rect k r.1) else [])) t e in
    let near = passed (list_all (λ r. is_within r.1) (if placed then on_routing kind (scaled_rect k r.1) else [])) too_far (Ok (s ++ (if placed then on_routing kind (scaled_rect k r.1) else []))) t more in
    subst (λ (rs : List (ℕ × Rect)). All (λ (r : ℕ × Rect). HasRouting layers r.0) rs) (same_ok (s ++ (if placed then on_routing kind (scaled_rect k r.1) else [])) t near.1)
    (All-append (λ (r : ℕ × Rect). HasRouting layers r.0) s (if placed then on_routing kind (scaled_rect k r.1) else []) so_far (one placed kind named))
  where
    one : (t : Bool) (kind : LayerKind) → layer_named layers line r.0 ≡ Ok kind → All (λ (r : ℕ × Rect). HasRouting layers r.0) (if t then on_routing kind (scaled_rect k r.1) else [])
    one true kind named = on_named layers line r.0 kind (scaled_rect k r.1) named
    one false kind named = All-nil (λ (r : ℕ × Rect). HasRouting layers r.0)

abbrev IsPortRect : List Layer → ℕ × Rect → Type 0
IsPortRect layers r = HasRouting layers r.0 × HasCoordinates r.1

next_placed_rect : (layers : List Layer) (at : Pt) (o : Orient) (s t : List (ℕ × Rect)) (r : ℕ × Rect) → All (IsPortRect layers) s → HasRouting layers r.0 → with_placed_rect at o s r ≡ Ok t → All (IsPortRect layers) t
next_placed_rect layers at o s t r so_far has e =
    let near = passed (is_within (moved at (turned_rect o r.1))) too_far (Ok (s ++ (r.0, moved at (turned_rect o r.1)) ∷ [])) t e in
    subst (All (IsPortRect layers)) (same_ok (s ++ (r.0, moved at (turned_rect o r.1)) ∷ []) t near.1)
    (All-push (IsPortRect layers) s (r.0, moved at (turned_rect o r.1)) so_far (has, corners_are (moved at (turned_rect o r.1)) near.0))

placed_are : (layers : List Layer) (k : ℕ) (o : Option (Pt × Orient)) (done rects after : List (ℕ × Rect)) → All (IsPortRect layers) done → All (λ (r : ℕ × Rect). HasRouting layers r.0) rects → with_placed k o done rects ≡ Ok after → All (IsPortRect layers) after
placed_are layers k None done rects after so_far has e = subst (All (IsPortRect layers)) (same_ok done after e) so_far
placed_are layers k (Some p) done rects after so_far has e =
    let near = passed (is_point (scaled_point k p.0)) too_far (through (with_placed_rect (scaled_point k p.0) p.1) done rects) after e in
    kept (with_placed_rect (scaled_point k p.0) p.1) (All (IsPortRect layers)) (λ (r : ℕ × Rect). HasRouting layers r.0) (λ s t x before there h. next_placed_rect layers (scaled_point k p.0) p.1 s t x before there h) done after rects so_far has near.1

next_port : (layers : List Layer) (k line : ℕ) (s t : List (ℕ × Rect)) (port : RawPort) → All (IsPortRect layers) s → with_port layers k line s port ≡ Ok t → All (IsPortRect layers) t
next_port layers k line s t port so_far e =
    let (rects, through_is, end) = bound (through (with_port_rect layers k line (is_some port.at)) [] port.rects) (λ rects. with_placed k port.at s rects) t e in
    let has = kept (with_port_rect layers k line (is_some port.at)) (All (λ (r : ℕ × Rect). HasRouting layers r.0)) (λ (r : List ℕ × Rect). Unit {0}) (λ s t x before _ h. next_port_rect layers k line (is_some port.at) s t x before h) [] rects port.rects
    (All-nil (λ (r : ℕ × Rect). HasRouting layers r.0)) (λ i d within. tt) through_is in
    placed_are layers k port.at s rects t so_far has end

pub port_is : (layers : List Layer) (k : ℕ) (raw : RawPin) (port : Port) → link_pin layers k raw ≡ Ok port → All (λ (r : ℕ × Rect). HasRouting layers r.0 × HasCoordinates r.1) port.rects
unfolding link_pin
port_is layers k raw port e =
    let (rects, through_is, end) = bound (through (with_port layers k raw.line) [] raw.ports) (λ rects. Ok (record { name = raw.name; dir = direction raw.dir; rects = rects })) port e in
    let are = kept (with_port layers k raw.line) (All (IsPortRect layers)) (λ (p : RawPort). Unit {0}) (λ s t x before _ h. next_port layers k raw.line s t x before h) [] rects raw.ports (All-nil (IsPortRect layers)) (λ i d within. tt) through_is in
    subst (λ (p : Port). All (IsPortRect layers) p.rects) (same_ok (record { name = raw.name; dir = direction raw.dir; rects = rects }) port end) are
