-- What is linked has the names of what was written.
use Rattle.std.proofs.Common.{◌≡◌, ℕ, Bool, true, false, cond, List, [], ◌∷◌, refl, sym, ap, ◌∙◌, subst}
use Rattle.std.specs.Prelude.{Ok, Err, Option, Some, None}
use Rattle.std.proofs.lemmas.Bool.{true≢false}
use Rattle.rc_geom.specs.declared.rect.Rect.{Rect}
use Rattle.rc_lef.specs.declared.cell.Macro.{Macro}
use Rattle.rc_lef.specs.declared.tech.Layer.{Layer}
use Rattle.rc_lef.specs.declared.tech.LayerKind.{LayerKind}
use Rattle.rc_lef.specs.declared.tech.LayerKind.TheVariants as kinds
use Rattle.rc_lef.specs.declared.usable.Array.{Array}
use Rattle.rc_lef.specs.declared.via.Via.{Via}
use Rattle.rc_lef.specs.Technology.{Technology}
use Rattle.rc_lef.specs.Usable.{unusable, can_be_used, used_via, with_cut, first_cut, via_of, drawn_via, made_of, made_via, near_array, in_order, cuts_in}
use Rattle.rc_def.specs.Drafts.{name_of_comp, name_of_pin, name_of_rule, name_of_via}
use Rattle.rc_def.specs.declared.entry.RawVia.{RawVia}
use Rattle.rc_def.specs.declared.entry.RawRule.{RawRule}
use Rattle.rc_def.specs.declared.entry.RawComp.{RawComp}
use Rattle.rc_def.specs.declared.entry.RawPin.{RawPin}
use Rattle.rc_layout.specs.declared.part.Comp.{Comp}
use Rattle.rc_layout.specs.declared.part.Port.{Port}
use Rattle.rc_layout.specs.declared.part.Rule.{Rule}
use Rattle.rc_layout.specs.declared.lists.Lists.{Lists}
use Rattle.rc_layout.specs.declared.lists.RawLists.{RawLists}
use Rattle.rc_layout.specs.Entries.{via_made, link_via, link_rule, link_comp, link_pin, via_rect, array_in, with_width, link_place, with_port}
use Rattle.rc_layout.specs.Layouts.{link_lists}
use Rattle.rc_layout.specs.Names.{DifferInNames, HaveNames}
use Rattle.std.specs.Str.{bytes_eq}
use Rattle.rc_keys.specs.declared.code.Code.TheVariants.{E06}
use Rattle.rc_keys.specs.declared.fault.Refusal.TheVariants.{At}
use Rattle.rc_layout.specs.Scope.{layer_named, numbered}
use Rattle.rc_layout.specs.Refusals.{Linked, each, there, through, ◌>>=◌}
use Rattle.rc_layout.proofs.Eaches.{each_names, ok_is, was_linked}
use Rattle.rc_layout.proofs.Named.{same_names, new_from}

-- what two steps give was given by the first and then by the second
pub bound : {A B : Type 0} (m : Linked A) (f : A → Linked B) (b : B) → (m >>= f) ≡ Ok b → (a : A) × (m ≡ Ok a) × (f a ≡ Ok b)
bound (Ok a) f b e = (a, refl, e)
bound (Err r) f b e = absurd (true≢false (ap was_linked (sym e)))

-- ---- vias

either_named : (name : List ℕ) (b : Bool) (used : Via) → used.name ≡ name → (cond b used (unusable name)).name ≡ name
either_named name true used e = e
either_named name false used e = refl

cut_named : (name : List ℕ) (allowed : Bool) (pads : List (ℕ × Rect)) (cuts : List ℕ) (count : ℕ) (cut : Option ℕ) → (with_cut name allowed pads cuts count cut).name ≡ name
cut_named name allowed pads cuts count None = refl
cut_named name allowed pads cuts count (Some cut) = either_named name (can_be_used allowed pads cuts cut) (used_via name pads cut count) refl

of_named : (name : List ℕ) (allowed : Bool) (pads : List (ℕ × Rect)) (cuts : List ℕ) (count : ℕ) → (via_of name allowed pads cuts count).name ≡ name
unfolding via_of
of_named name allowed pads cuts count = cut_named name allowed pads cuts count (first_cut cuts)

drawn_named : (name : List ℕ) (plain : Bool) (rects : List (LayerKind × Rect)) → (drawn_via name plain rects).name ≡ name
unfolding drawn_via
drawn_named name plain rects = of_named name _ _ _ _

made_of_named : (name : List ℕ) (plain : Bool) (first cut third count : ℕ) (below above : Option Rect) → (made_of name plain first cut third count below above).name ≡ name
made_of_named name plain first cut third count (Some below) (Some above) = of_named name plain (in_order (first, below) (third, above)) (cut ∷ []) count
made_of_named name plain first cut third count (Some below) None = refl
made_of_named name plain first cut third count None above = refl

made_named : (name : List ℕ) (plain : Bool) (first cut third : LayerKind) (a : Array) → (made_via name plain first cut third a).name ≡ name
unfolding made_via
made_named name plain (kinds.Routing first) (kinds.Cut cut) (kinds.Routing third) a =
    made_of_named name plain first cut third (cuts_in a) (near_array a a.first_x a.first_y) (near_array a a.third_x a.third_y)
made_named name plain (kinds.Routing first) (kinds.Cut cut) (kinds.Cut third) a = refl
made_named name plain (kinds.Routing first) (kinds.Cut cut) kinds.Other a = refl
made_named name plain (kinds.Routing first) (kinds.Routing cut) third a = refl
made_named name plain (kinds.Routing first) kinds.Other third a = refl
made_named name plain (kinds.Cut first) cut third a = refl
made_named name plain kinds.Other cut third a = refl

via_named : (raw : RawVia) (rects : List (LayerKind × Rect)) (ks : List LayerKind) (array : Option Array) → (via_made raw rects ks array).name ≡ raw.name
via_named raw rects [] None = drawn_named raw.name raw.plain rects
via_named raw rects [] (Some array) = refl
via_named raw rects (a ∷ []) array = refl
via_named raw rects (a ∷ b ∷ []) array = refl
via_named raw rects (a ∷ b ∷ c ∷ []) None = refl
via_named raw rects (a ∷ b ∷ c ∷ []) (Some array) = made_named raw.name raw.plain a b c array
via_named raw rects (a ∷ b ∷ c ∷ d ∷ ks) array = refl

pub via_keeps : (layers : List Layer) (k : ℕ) (raw : RawVia) (via : Via) → link_via layers k raw ≡ Ok via → via.name ≡ raw.name
unfolding link_via
via_keeps layers k raw via e =
    let first =
    bound (each (via_rect layers k raw.line) raw.rects) (λ rects. each (layer_named layers raw.line) raw.layers >>= λ kinds. Ok (via_made raw rects kinds (array_in k raw.made))) via e in
    let second = bound (each (layer_named layers raw.line) raw.layers) (λ kinds. Ok (via_made raw first.0 kinds (array_in k raw.made))) via first.2 in
    ap (λ (v : Via). v.name) (sym (ok_is (via_made raw first.0 second.0 (array_in k raw.made)) via second.2)) ∙ via_named raw first.0 second.0 (array_in k raw.made)

-- ---- the other entries

pub rule_keeps : (layers : List Layer) (k : ℕ) (raw : RawRule) (rule : Rule) → link_rule layers k raw ≡ Ok rule → rule.name ≡ raw.name
unfolding link_rule
rule_keeps layers k raw rule e =
    let widths = bound (through (with_width layers k raw.line) [] raw.widths) _ rule e in
    ap (λ (r : Rule). r.name) (sym (ok_is _ rule widths.2))

pub comp_keeps : (cells : List Macro) (k : ℕ) (raw : RawComp) (comp : Comp) → link_comp cells k raw ≡ Ok comp → comp.name ≡ raw.name
unfolding link_comp
comp_keeps cells k raw comp e =
    let cell =
    bound (there (At E06 raw.line) (numbered (λ (cell : Macro). bytes_eq raw.cell cell.name) cells)) (λ found. link_place k found.1 raw.at >>= λ at. Ok (record { name = raw.name; cell = found.0; at = at })) comp e in
    let at = bound (link_place k cell.0.1 raw.at) (λ at. Ok (record { name = raw.name; cell = cell.0.0; at = at })) comp cell.2 in
    ap (λ (c : Comp). c.name) (sym (ok_is (record { name = raw.name; cell = cell.0.0; at = at.0 }) comp at.2))

pub pin_keeps : (layers : List Layer) (k : ℕ) (raw : RawPin) (port : Port) → link_pin layers k raw ≡ Ok port → port.name ≡ raw.name
unfolding link_pin
pin_keeps layers k raw port e =
    let rects = bound (through (with_port layers k raw.line) [] raw.ports) _ port e in
    ap (λ (p : Port). p.name) (sym (ok_is _ port rects.2))

-- the four lists
pub lists_keep : (tech : Technology) (k : ℕ) (raw : RawLists) (lists : Lists) → link_lists tech k raw ≡ Ok lists → DifferInNames raw → HaveNames lists
unfolding link_lists
lists_keep tech k raw lists e differ =
    let vias = bound (each (link_via tech.layers k) raw.vias) _ lists e in
    let rules = bound (each (link_rule tech.layers k) raw.rules) _ lists vias.2 in
    let comps = bound (each (link_comp tech.macros k) raw.comps) _ lists rules.2 in
    let ports = bound (each (link_pin tech.layers k) raw.pins) _ lists comps.2 in
    let is = ok_is _ lists ports.2 in
    subst HaveNames is (record {
      vias = same_names (λ via. via.name) name_of_via vias.0 raw.vias (each_names (link_via tech.layers k) (λ via. via.name) name_of_via (via_keeps tech.layers k) raw.vias vias.0 vias.1) (new_from name_of_via raw.vias differ.vias);
      rules = same_names (λ rule. rule.name) name_of_rule rules.0 raw.rules (each_names (link_rule tech.layers k) (λ rule. rule.name) name_of_rule (rule_keeps tech.layers k) raw.rules rules.0 rules.1) (new_from name_of_rule raw.rules differ.rules);
      comps = same_names (λ comp. comp.name) name_of_comp comps.0 raw.comps (each_names (link_comp tech.macros k) (λ comp. comp.name) name_of_comp (comp_keeps tech.macros k) raw.comps comps.0 comps.1) (new_from name_of_comp raw.comps differ.comps);
      ports = same_names (λ port. port.name) name_of_pin ports.0 raw.pins (each_names (link_pin tech.layers k) (λ port. port.name) name_of_pin (pin_keeps tech.layers k) raw.pins ports.0 ports.1) (new_from name_of_pin raw.pins differ.pins);
    })
