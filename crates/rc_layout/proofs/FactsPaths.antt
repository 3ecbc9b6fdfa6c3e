-- Paths, one after another, keep the facts of what is drawn.
use Rattle.std.proofs.Common.{◌≡◌, ◌∙◌, ◌⊎◌, inl, inr, ℕ, ℤ, zero, suc, ◌*◌, ◌≤◌, ◌≤ℤ◌, Bool, true, List, [], ◌∷◌, refl, sym, ap, subst, arith}
use Rattle.std.proofs.lemmas.Bool.{true≢false}
use Rattle.std.proofs.lemmas.Int.{ints}
use Rattle.std.proofs.lemmas.List.Elements.{All-nil, All-head, All-tail}
use Rattle.std.proofs.lemmas.List.Folds.{find_at}
use Rattle.std.proofs.lemmas.Option.{same_Some}
use Rattle.std.specs.Prelude.{All, Option, Some, None, IfSome, IsSomeAnd, option_map, find, slice_get, pos, negsuc, ◌==◌, Ok, drop}
use Rattle.std.specs.List.{position_or_len}
use Rattle.rc_keys.specs.declared.code.Code.TheVariants.{E06}
use Rattle.rc_keys.specs.declared.fault.Refusal.TheVariants.{At}
use Rattle.rc_lef.specs.Operands.{kind_named}
use Rattle.rc_lef.specs.declared.tech.Layer.{Layer}
use Rattle.rc_lef.specs.declared.tech.LayerKind.{LayerKind}
use Rattle.rc_lef.specs.declared.tech.LayerKind.TheVariants as kinds
use Rattle.rc_wire.specs.Forms.{IsLength, IsStep, BeginsAtPoint, IsRegular, IsSpecial, is_point}
use Rattle.rc_wire.specs.declared.path.RawPath.{RawPath}
use Rattle.rc_wire.specs.declared.path.Step.{Step}
use Rattle.rc_wire.specs.declared.path.Step.TheVariants as steps
use Rattle.rc_layout.specs.declared.part.Rule.{Rule}
use Rattle.rc_layout.specs.declared.parts.Parts.{Parts}
use Rattle.rc_layout.specs.declared.stroke.Style.{Style}
use Rattle.rc_layout.specs.declared.wiring.Pen.{Pen}
use Rattle.rc_layout.specs.declared.wiring.Wiring.{Wiring}
use Rattle.rc_layout.specs.Facts.{HasRouting, IsRule, AreSound}
use Rattle.rc_layout.specs.Paths.{no_wiring, stop_of, step_drawn, steps_drawn, taper_rule, style_of, path_drawn, paths_drawn}
use Rattle.rc_layout.specs.Refusals.{Linked, ◌>>=◌}
use Rattle.rc_layout.specs.Scope.{routing_named, path_layer, ruled_width, rule_at, width_on, stroke_on}
use Rattle.rc_layout.specs.Units.{scaled, scaled_point}
use Rattle.rc_layout.proofs.FactsChains.{same_ok, bound, was_there, kept}
use Rattle.rc_layout.proofs.FactsItems.{IsExtension}
use Rattle.rc_layout.proofs.FactsLayers.{routing_is, named_routing}
use Rattle.rc_layout.proofs.FactsWiring.{IsDrawn, IsDrawnItem, IsDrawnPoint, IsDrawnVia, AreTied, IsTiedTo, IsHeld, point_kept, next_point}
use Rattle.rc_layout.proofs.FactsVias.{at_number, next_via, next_patch}

-- ---- lengths in units of the layout

pub scaled_natural : (k : ℕ) (z : ℤ) → pos 0 ≤ℤ z → pos 0 ≤ℤ scaled k z
scaled_natural k (pos n) least = omega (arith, ints)
scaled_natural k (negsuc n) least = absurd (omega (arith, ints, least))

pub scaled_width : (k : ℕ) (z : ℤ) → 1 ≤ k → pos 1 ≤ℤ z → pos 1 ≤ℤ scaled k z
scaled_width zero z some wide = absurd (omega (arith, some))
scaled_width (suc k) (pos zero) some wide = absurd (omega (arith, ints, wide))
scaled_width (suc k) (pos (suc n)) some wide = let e : 1 ≤ suc k * suc n = omega arith in omega (arith, ints, e)
scaled_width (suc k) (negsuc n) some wide = absurd (omega (arith, ints, wide))

-- ---- how wide a path is

pub found_is : {X : Type 0} (P : X → Type 0) (test : X → Bool) (xs : List X) (x : X) → All P xs → find test xs ≡ Some x → P x
found_is P test xs x all e = at_number P xs (position_or_len test xs) x all (sym (find_at test xs) ∙ e)

ruled_wide : (rules : List Rule) (rule : Option ℕ) (n : ℕ) (w : ℤ) → All IsRule rules → ruled_width (rule_at rules rule) n ≡ Some w → pos 1 ≤ℤ w
ruled_wide rules None n w all e = absurd cc
ruled_wide rules (Some k) n w all e = by (slice_get rules k) refl e
  where
    in_rule : (rule : Rule) (o : Option (ℕ × ℤ)) → IsRule rule → find (λ (entry : ℕ × ℤ). n == entry.0) rule.widths ≡ o → option_map (λ (entry : ℕ × ℤ). entry.1) o ≡ Some w → pos 1 ≤ℤ w
    in_rule rule (Some entry) is here e =
        subst (λ (z : ℤ). pos 1 ≤ℤ z) (same_Some entry.1 w e) (found_is (λ (entry : ℕ × ℤ). pos 1 ≤ℤ entry.1) (λ entry. n == entry.0) rule.widths entry is here)
    in_rule rule None is here e = absurd cc

    by : (o : Option Rule) → slice_get rules k ≡ o → ruled_width o n ≡ Some w → pos 1 ≤ℤ w
    by (Some rule) here e = in_rule rule (find (λ (entry : ℕ × ℤ). n == entry.0) rule.widths) (at_number IsRule rules k rule all here) refl e
    by None here e = absurd cc

-- a width of its own is above 0
abbrev pub IsWideStyle : Style → Type 0
IsWideStyle style = IfSome style.own (λ w. pos 1 ≤ℤ w)

pub width_is : (parts : Parts) (style : Style) (n : ℕ) → AreSound parts → IsWideStyle style → HasRouting parts.tech.layers n → pos 1 ≤ℤ width_on parts style n
width_is parts style n sound wide has = own style.own refl wide
  where
    ruled : style.own ≡ None → (o : Option ℤ) → ruled_width (rule_at parts.rules style.rule) n ≡ o → pos 1 ≤ℤ width_on parts style n
    ruled is (Some w) e = rw (is, e) (ruled_wide parts.rules style.rule n w sound.rules e)
    ruled is None e = rw (is, e) (routing_is parts.tech.layers n sound.tech.ranges.layers has).wide

    own : (o : Option ℤ) → style.own ≡ o → IfSome o (λ w. pos 1 ≤ℤ w) → pos 1 ≤ℤ width_on parts style n
    own (Some w) is wide = rw is wide
    own None is wide = ruled is (ruled_width (rule_at parts.rules style.rule) n) refl

-- ---- steps

extension_is : (k : ℕ) (ext : Option ℤ) → IfSome ext IsLength → IsExtension (option_map (scaled k) ext)
extension_is k (Some z) is = scaled_natural k z is.low
extension_is k None is = tt

-- a step has its form, and where it is a point, pieces have a width
abbrev IsNext : Style → Step → Type 0
IsNext style step = IsStep step × (is_point step ≡ true → IsWideStyle style)

next_step :
    (parts : Parts) (line : ℕ) (style : Style) (pen after : Pen) (step : Step) → AreSound parts → IsHeld parts pen → IsNext style step → step_drawn parts line style pen step ≡ Ok after → IsHeld parts after
unfolding step_drawn
next_step parts line style pen after (steps.Point at ext) sound held is e =
    next_point parts line (stroke_on parts style pen.layer) pen after (stop_of parts.factor at ext) refl (width_is parts style pen.layer sound (is.1 refl) held.routing)
    (extension_is parts.factor ext is.0.1) held e
next_step parts line style pen after (steps.Via name orient) sound held is e = next_via parts line pen after name orient sound held e
next_step parts line style pen after (steps.Patch x0 y0 x1 y1) sound held is e =
    next_patch parts pen after (scaled_point parts.factor (record { x = x0; y = y0 })) (scaled_point parts.factor (record { x = x1; y = y1 })) held e

-- what is drawn, with its ends among the points
pub record IsTiedDrawing (parts : Parts) (w : Wiring) : Type 0 where
  pub drawn : IsDrawn parts w
  pub tied : AreTied w

pub steps_kept :
    (parts : Parts) (line : ℕ) (style : Style) (layer : ℕ) (w after : Wiring) (path : List Step) → AreSound parts → HasRouting parts.tech.layers layer → IsTiedDrawing parts w → BeginsAtPoint path → All IsStep path
    → All (λ step. is_point step ≡ true → IsWideStyle style) (drop 1 path) → steps_drawn parts line style layer w path ≡ Ok after → IsTiedDrawing parts after
unfolding steps_drawn
steps_kept parts line style layer w after [] sound has is begins forms wide e = absurd begins
steps_kept parts line style layer w after (steps.Via name orient ∷ others) sound has is begins forms wide e = absurd begins
steps_kept parts line style layer w after (steps.Patch x0 y0 x1 y1 ∷ others) sound has is begins forms wide e = absurd begins
steps_kept parts line style layer w after (steps.Point at ext ∷ others) sound has is begins forms wide e =
    let (v, first, more) = bound _ _ _ e in
    let few = (routing_is parts.tech.layers layer sound.tech.ranges.layers has).few in
    let reached = point_kept parts layer (scaled_point parts.factor at) w v few has is.drawn is.tied first in
    let (pen, rest, end) = bound _ _ _ more in
    let begun : Pen = record { layer = layer; stop = stop_of parts.factor at ext; drawn = v } in
    let form = All-head IsStep (steps.Point at ext) others forms in
    let forms' = All-tail IsStep (steps.Point at ext) others forms in
    let held =
    kept (step_drawn parts line style) (IsHeld parts) (IsNext style) (λ s t x so_far next h. next_step parts line style s t x sound so_far next h) begun pen others
    (record { drawn = reached.drawn; tied = reached.tied; layer = few; routing = has; point = reached.point; ext = extension_is parts.factor ext form.1; here = reached.here })
    (λ k d within. (forms' k d within, wide k d within)) rest in
    subst (λ (u : Wiring). IsTiedDrawing parts u) (same_ok pen.drawn after end) (record { drawn = held.drawn; tied = held.tied })

-- ---- paths

pub routing_there : (layers : List Layer) (line : ℕ) (name : List ℕ) (n : ℕ) → path_layer layers line name ≡ Ok n → HasRouting layers n
routing_there layers line name n e = by (kind_named name layers) refl (was_there (At E06 line) (routing_named layers name) n e)
  where
    by : (o : Option LayerKind) → kind_named name layers ≡ o → routing_named layers name ≡ Some n → HasRouting layers n
    by (Some (kinds.Routing m)) is named =
        let named' : Some m ≡ Some n = rw is at named in
        named_routing layers name n (is ∙ ap (λ (k : ℕ). Some (kinds.Routing k)) (same_Some m n named'))
    by (Some (kinds.Cut m)) is named = absurd (none_some (rw is at named))
      where
        none_some : ◌≡◌ {A = Option ℕ} None (Some n) → ⊥
        none_some e = cc
    by (Some kinds.Other) is named = absurd (none_some (rw is at named))
      where
        none_some : ◌≡◌ {A = Option ℕ} None (Some n) → ⊥
        none_some e = cc
    by None is named = absurd (none_some (rw is at named))
      where
        none_some : ◌≡◌ {A = Option ℕ} None (Some n) → ⊥
        none_some e = cc

regular_style : (parts : Parts) (rule : Option ℕ) (path : RawPath) (style : Style) → path.width ≡ None → style_of parts rule path ≡ Ok style → style.own ≡ None
regular_style parts rule path style is e =
    let e' : (taper_rule parts.rules path.line rule path.taper >>= λ rule. Ok (record { own = None; rule = rule })) ≡ Ok style = rw is at e in
    let (r, tapered, end) = bound (taper_rule parts.rules path.line rule path.taper) (λ rule. Ok (record { own = None; rule = rule })) style e' in
    ap (λ (s : Style). s.own) (sym (same_ok (record { own = None; rule = r }) style end))

special_style : (parts : Parts) (rule : Option ℕ) (path : RawPath) (style : Style) (w : ℤ) → path.width ≡ Some w → style_of parts rule path ≡ Ok style → style.own ≡ Some (scaled parts.factor w)
special_style parts rule path style w is e =
    let e' : ◌≡◌ {A = Linked Style} (Ok (record { own = Some (scaled parts.factor w); rule = None })) (Ok style) = rw is at e in
    ap (λ (s : Style). s.own) (sym (same_ok (record { own = Some (scaled parts.factor w); rule = None }) style e'))

-- a path of a net that isn't special, or one of a special net
abbrev pub IsPath : RawPath → Type 0
IsPath path = IsRegular path ⊎ IsSpecial path

wide_steps : (parts : Parts) (rule : Option ℕ) (path : RawPath) (style : Style) → AreSound parts → IsPath path → style_of parts rule path ≡ Ok style → All (λ step. is_point step ≡ true → IsWideStyle style) (drop 1 path.steps)
wide_steps parts rule path style sound (inl regular) e =
    let own = regular_style parts rule path style regular.width e in
    λ k d within point. subst (λ (o : Option ℤ). IfSome o (λ w. pos 1 ≤ℤ w)) (sym own) tt
wide_steps parts rule path style sound (inr special) e = by path.width refl special.width
  where
    of : (z : ℤ) → path.width ≡ Some z → IsLength z → All (λ step. is_point step ≡ true → IsWideStyle style) (drop 1 path.steps)
    of (pos zero) is long = λ k d within point. absurd (true≢false (sym point ∙ special.thin is k d within))
    of (pos (suc n)) is long =
        λ k d within point. subst (λ (o : Option ℤ). IfSome o (λ w. pos 1 ≤ℤ w)) (sym (special_style parts rule path style (pos (suc n)) is e)) (scaled_width parts.factor (pos (suc n)) sound.factor (omega (arith, ints)))
    of (negsuc n) is long = absurd (let low = long.low in omega (arith, ints, low))

    by : (o : Option ℤ) → path.width ≡ o → IsSomeAnd o IsLength → All (λ step. is_point step ≡ true → IsWideStyle style) (drop 1 path.steps)
    by (Some z) is long = of z is long
    by None is long = absurd long

form_of : (path : RawPath) → IsPath path → BeginsAtPoint path.steps × All IsStep path.steps
form_of path (inl regular) = (regular.begins, regular.steps)
form_of path (inr special) = (special.begins, special.steps)

path_kept : (parts : Parts) (rule : Option ℕ) (w after : Wiring) (path : RawPath) → AreSound parts → IsTiedDrawing parts w → IsPath path → path_drawn parts rule w path ≡ Ok after → IsTiedDrawing parts after
unfolding path_drawn
path_kept parts rule w after path sound is form e =
    let (layer, named, more) = bound _ _ _ e in
    let (style, styled, end) = bound _ _ _ more in
    let has = routing_there parts.tech.layers path.line path.layer layer named in
    let parts_of = form_of path form in
    steps_kept parts path.line style layer w after path.steps sound has is parts_of.0 parts_of.1 (wide_steps parts rule path style sound form styled) end

nothing_drawn : (parts : Parts) → IsTiedDrawing parts no_wiring
nothing_drawn parts = record { drawn = record { items = All-nil (IsDrawnItem parts); points = All-nil (IsDrawnPoint parts); vias = All-nil (IsDrawnVia parts []) }; tied = All-nil (IsTiedTo []) }

-- all paths of a net
pub paths_are : (parts : Parts) (rule : Option ℕ) (paths : List RawPath) (w : Wiring) → AreSound parts → All IsPath paths → paths_drawn parts rule paths ≡ Ok w → IsTiedDrawing parts w
paths_are parts rule paths w sound all e =
    kept (path_drawn parts rule) (IsTiedDrawing parts) IsPath (λ s t x so_far form h. path_kept parts rule s t x sound so_far form h) no_wiring w paths (nothing_drawn parts) all e
