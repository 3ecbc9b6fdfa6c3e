-- What a technology and a design link to has the facts of a layout.
use Rattle.std.proofs.Common.{◌≡◌, ◌∙◌, ℕ, ℤ, ◌≤◌, ◌^◌, ◌≤ℤ◌, List, [], ◌++◌, map, length, get_or, sym, ap, subst, arith}
use Rattle.std.proofs.Math.ListN.{length-append}
use Rattle.std.proofs.lemmas.Int.{ints}
use Rattle.std.proofs.lemmas.List.Elements.{All-append, All-map}
use Rattle.std.specs.Prelude.{All, pos, slice_get, Ok}
use Rattle.rc_keys.specs.declared.code.Code.TheVariants.{E08}
use Rattle.rc_keys.specs.declared.fault.Refusal.TheVariants.{At}
use Rattle.rc_geom.specs.declared.rect.Rect.{Rect}
use Rattle.rc_lef.specs.Facts.{IsSound, IsVia, IsShape, HasWidth, IsRuled, routing_count, cut_count}
use Rattle.rc_lef.specs.Technology.{Technology}
use Rattle.rc_lef.specs.declared.ndr.Ndr.{Ndr}
use Rattle.rc_lef.specs.declared.tech.LayerKind.{LayerKind}
use Rattle.rc_lef.specs.declared.tech.LayerKind.TheVariants as kinds
use Rattle.rc_lef.specs.declared.via.Via.{Via}
use Rattle.rc_def.specs.Forms.{IsRawDesign, IsRawVia, IsRawRule}
use Rattle.rc_def.specs.declared.design.RawDesign.{RawDesign}
use Rattle.rc_def.specs.declared.entry.RawComp.{RawComp}
use Rattle.rc_def.specs.declared.entry.RawPin.{RawPin}
use Rattle.rc_layout.specs.declared.lists.Lists.{Lists}
use Rattle.rc_layout.specs.declared.net.Net.{Net}
use Rattle.rc_layout.specs.declared.parts.Parts.{Parts}
use Rattle.rc_layout.specs.declared.part.Comp.{Comp}
use Rattle.rc_layout.specs.declared.part.Port.{Port}
use Rattle.rc_layout.specs.declared.part.Rule.{Rule}
use Rattle.rc_layout.specs.Entries.{link_via, link_rule, link_comp, link_pin, link_special}
use Rattle.rc_layout.specs.Facts.{HasRouting, FitsAt, IsRule, AreSound, IsLayout}
use Rattle.rc_layout.specs.Layouts.{Wired, factor_at, head_of, link_lists, link_parts, lists_of, linked, net_linked, parts_of, rule_of, within_limits}
use Rattle.rc_layout.specs.Ranges.{IsSpan, IsParts}
use Rattle.rc_layout.specs.Refusals.{each, through, ◌>>=◌}
use Rattle.rc_layout.specs.Units.{factor}
use Rattle.rc_layout.specs.Wide.{HasCoordinates, IsNearVia}
use Rattle.rc_layout.proofs.FactsChains.{same_ok, bound, was_there, each_is}
use Rattle.rc_layout.proofs.FactsConns.{each_length}
use Rattle.rc_layout.proofs.FactsLinked.{AreParts, nets_are, limits_are, layout_is}
use Rattle.rc_layout.proofs.FactsParts.{IsFactor, IsRuleWidth, factor_is, via_is, rule_is_wide, comp_is, port_is}

-- ---- what entries before the nets link to

pub record AreLists (tech : Technology) (raw : RawDesign) (lists : Lists) : Type 0 where
  pub vias : All (IsVia (routing_count tech) (cut_count tech)) lists.vias
  pub rules : All (λ (rule : Rule). All (λ (w : ℕ × ℤ). IsRuleWidth w.1) rule.widths) lists.rules
  pub comps : All (λ (comp : Comp). FitsAt (slice_get tech.macros comp.cell) comp.at) lists.comps
  pub ports : All (λ (port : Port). All (λ (r : ℕ × Rect). HasRouting tech.layers r.0 × HasCoordinates r.1) port.rects) lists.ports
  pub many_vias : length lists.vias ≡ length raw.vias
  pub many_comps : length lists.comps ≡ length raw.comps
  pub many_ports : length lists.ports ≡ length raw.pins

lists_are : (tech : Technology) (k : ℕ) (raw : RawDesign) (lists : Lists) → IsSound tech → IsFactor k → IsRawDesign raw → link_lists tech k (lists_of raw) ≡ Ok lists → AreLists tech raw lists
unfolding link_lists
lists_are tech k raw lists sound is form e =
    let (vias, e_vias, more) =
    bound (each (link_via tech.layers k) raw.vias)
    (λ vias. each (link_rule tech.layers k) raw.rules >>= λ rules. each (link_comp tech.macros k) raw.comps >>= λ comps. each (link_pin tech.layers k) raw.pins >>= λ ports. Ok (record { vias = vias; rules = rules; comps = comps; ports = ports })) lists e in
    let (rules, e_rules, more') =
    bound (each (link_rule tech.layers k) raw.rules)
    (λ rules. each (link_comp tech.macros k) raw.comps >>= λ comps. each (link_pin tech.layers k) raw.pins >>= λ ports. Ok (record { vias = vias; rules = rules; comps = comps; ports = ports })) lists more in
    let (comps, e_comps, more'') =
    bound (each (link_comp tech.macros k) raw.comps) (λ comps. each (link_pin tech.layers k) raw.pins >>= λ ports. Ok (record { vias = vias; rules = rules; comps = comps; ports = ports })) lists more' in
    let (ports, e_ports, end) = bound (each (link_pin tech.layers k) raw.pins) (λ ports. Ok (record { vias = vias; rules = rules; comps = comps; ports = ports })) lists more'' in
    subst (λ (l : Lists). AreLists tech raw l) (same_ok (record { vias = vias; rules = rules; comps = comps; ports = ports }) lists end) (record {
      vias = each_is (link_via tech.layers k) IsRawVia (IsVia (routing_count tech) (cut_count tech)) (λ x y f h. via_is tech k x y sound is f h) raw.vias vias form.vias e_vias;
      rules = each_is (link_rule tech.layers k) IsRawRule (λ (rule : Rule). All (λ (w : ℕ × ℤ). IsRuleWidth w.1) rule.widths) (λ x y f h. rule_is_wide tech.layers k x y is f h) raw.rules rules form.rules e_rules;
      comps = each_is (link_comp tech.macros k) (λ (x : RawComp). Unit {0}) (λ (comp : Comp). FitsAt (slice_get tech.macros comp.cell) comp.at) (λ x y _ h. comp_is tech.macros k x y h) raw.comps comps (λ i d within. tt) e_comps;
      ports = each_is (link_pin tech.layers k) (λ (x : RawPin). Unit {0}) (λ (port : Port). All (λ (r : ℕ × Rect). HasRouting tech.layers r.0 × HasCoordinates r.1) port.rects) (λ x y _ h. port_is tech.layers k x y h) raw.pins ports (λ i d within. tt) e_ports;
      many_vias = each_length (link_via tech.layers k) raw.vias vias e_vias;
      many_comps = each_length (link_comp tech.macros k) raw.comps comps e_comps;
      many_ports = each_length (link_pin tech.layers k) raw.pins ports e_ports;
    })

-- ---- the parts

rule_sound : (rule : Rule) → All (λ (w : ℕ × ℤ). IsRuleWidth w.1) rule.widths → IsRule rule
rule_sound rule are = λ k d within. (are k d within).some

rule_span : (rule : Rule) → All (λ (w : ℕ × ℤ). IsRuleWidth w.1) rule.widths → All (λ (w : ℕ × ℤ). IsSpan w.1) rule.widths
rule_span rule are = λ k d within. span (get_or rule.widths k d).1 (are k d within)
  where
    span : (z : ℤ) → IsRuleWidth z → IsSpan z
    span z is = let some = is.some in record { low = omega (arith, ints, some); high = is.few }

tech_rule : (routing : ℕ) (ndr : Ndr) → All (IsRuled routing) ndr.widths → All (λ (w : ℕ × ℤ). IsRuleWidth w.1) (rule_of ndr).widths
tech_rule routing ndr are = λ k d within. wide (get_or ndr.widths k d).1 (are k d within).1
  where
    wide : (z : ℤ) → (pos 1 ≤ℤ z) × (z ≤ℤ pos (2 ^ 29)) → IsRuleWidth z
    wide z is = let few = is.1 in record { some = is.0; few = omega (arith, ints, few) }

layer_span : (kind : LayerKind) (width : ℤ) → HasWidth kind width → IsSpan width
layer_span (kinds.Routing n) width is = let some = is.1.0 in let few = is.1.1 in record { low = omega (arith, ints, some); high = omega (arith, ints, few) }
layer_span (kinds.Cut n) width is = let e = is.1 in record { low = omega (arith, ints, e); high = omega (arith, ints, e) }
layer_span kinds.Other width is = record { low = omega (arith, ints, is); high = omega (arith, ints, is) }

near_via : (r c : ℕ) (via : Via) → IsVia r c via → IsNearVia via
near_via r c via is = λ usable k d within. corners (get_or via.pads k d).1 ((is usable).pads k d within).1
  where
    corners : (rect : Rect) → IsShape rect → HasCoordinates rect
    corners rect shape = record { left = shape.left; below = shape.below; right = shape.right; above = shape.above }

-- all of the parts: their numbers, and what nets may rest on
pub record HaveRanges (parts : Parts) : Type 0 where
  pub sound : AreSound parts
  pub ranges : AreParts parts

pub parts_have : (tech : Technology) (raw : RawDesign) (parts : Parts) → IsSound tech → IsRawDesign raw → link_parts tech (head_of raw) (lists_of raw) ≡ Ok parts → HaveRanges parts
unfolding link_parts
parts_have tech raw parts sound form e =
    let (k, factored, more) = bound (factor_at tech (head_of raw)) (λ k. link_lists tech k (lists_of raw) >>= λ lists. Ok (parts_of tech k (head_of raw) lists)) parts e in
    let (lists, e_lists, end) = bound (link_lists tech k (lists_of raw)) (λ lists. Ok (parts_of tech k (head_of raw) lists)) parts more in
    let is = factor_is tech.units raw.units k form.some_units (was_there (At E08 raw.units_line) (factor tech.units raw.units) k factored) in
    subst HaveRanges (same_ok (parts_of tech k (head_of raw) lists) parts end) (all_of k lists is (lists_are tech k raw lists sound is form e_lists))
  where
    via_facts : (lists : Lists) → AreLists tech raw lists → All (IsVia (routing_count tech) (cut_count tech)) (lists.vias ++ tech.vias)
    via_facts lists are = All-append (IsVia (routing_count tech) (cut_count tech)) lists.vias tech.vias are.vias sound.ranges.vias

    rule_facts : (lists : Lists) → AreLists tech raw lists → All (λ (rule : Rule). All (λ (w : ℕ × ℤ). IsRuleWidth w.1) rule.widths) (lists.rules ++ map rule_of tech.rules)
    rule_facts lists are =
        All-append (λ (rule : Rule). All (λ (w : ℕ × ℤ). IsRuleWidth w.1) rule.widths) lists.rules (map rule_of tech.rules) are.rules
        (All-map (λ (rule : Rule). All (λ (w : ℕ × ℤ). IsRuleWidth w.1) rule.widths) rule_of tech.rules (λ i d within. tech_rule (routing_count tech) (get_or tech.rules i d) (sound.ranges.rules i d within)))

    all_of : (k : ℕ) (lists : Lists) → IsFactor k → AreLists tech raw lists → HaveRanges (parts_of tech k (head_of raw) lists)
    all_of k lists is are = record {
      sound = record {
        tech = sound;
        factor = is.some;
        vias = via_facts lists are;
        rules = λ i d within. rule_sound (get_or (lists.rules ++ map rule_of tech.rules) i d) (rule_facts lists are i d within);
        comps = are.comps;
        ports = are.ports;
      };
      ranges = λ few_comps few_ports. record {
        factor = is.few;
        layers = λ i d within. layer_span (get_or tech.layers i d).kind (get_or tech.layers i d).width (sound.ranges.layers i d within);
        rules = λ i d within. rule_span (get_or (lists.rules ++ map rule_of tech.rules) i d) (rule_facts lists are i d within);
        vias = λ i d within. near_via (routing_count tech) (cut_count tech) (get_or (lists.vias ++ tech.vias) i d) (via_facts lists are i d within);
        few_vias = (let a = length-append lists.vias tech.vias in let b = are.many_vias in let c = form.few_vias in let d = sound.few.vias in omega (arith, a, b, c, d));
        few_comps = few_comps;
        few_ports = few_ports;
        few_pins = sound.few.pins;
      };
    }

-- in the form that the code asks for
pub parts_are : (tech : Technology) (raw : RawDesign) (parts : Parts) → IsSound tech → IsRawDesign raw → length raw.comps ≤ 2 ^ 31 → length raw.pins ≤ 2 ^ 31 → link_parts tech (head_of raw) (lists_of raw) ≡ Ok parts → IsParts parts
unfolding link_parts
parts_are tech raw parts sound form few_comps few_pins e =
    let (k, factored, more) = bound (factor_at tech (head_of raw)) (λ k. link_lists tech k (lists_of raw) >>= λ lists. Ok (parts_of tech k (head_of raw) lists)) parts e in
    let (lists, e_lists, end) = bound (link_lists tech k (lists_of raw)) (λ lists. Ok (parts_of tech k (head_of raw) lists)) parts more in
    let is = factor_is tech.units raw.units k form.some_units (was_there (At E08 raw.units_line) (factor tech.units raw.units) k factored) in
    let are = lists_are tech k raw lists sound is form e_lists in
    let same = same_ok (parts_of tech k (head_of raw) lists) parts end in
    let comps : length parts.comps ≡ length raw.comps = sym (ap (λ (p : Parts). length p.comps) same) ∙ are.many_comps in
    let ports : length parts.ports ≡ length raw.pins = sym (ap (λ (p : Parts). length p.ports) same) ∙ are.many_ports in
    (parts_have tech raw parts sound form e).ranges (omega (arith, comps, few_comps)) (omega (arith, ports, few_pins))

-- ---- the layout

pub linked_is : (tech : Technology) (raw : RawDesign) (wired : Wired) → IsSound tech → IsRawDesign raw → linked tech raw ≡ Ok wired → IsLayout wired
unfolding linked
linked_is tech raw wired sound form e =
    let (parts, e_parts, more) =
    bound (link_parts tech (head_of raw) (lists_of raw))
    (λ parts. each (link_special parts) raw.specials >>= λ specials. through (net_linked raw.specials) (record { parts = parts; nets = []; grounded = specials }) raw.nets >>= λ wired. within_limits wired) wired e in
    let (specials, e_specials, more') =
    bound (each (link_special parts) raw.specials) (λ specials. through (net_linked raw.specials) (record { parts = parts; nets = []; grounded = specials }) raw.nets >>= λ wired. within_limits wired) wired more in
    let (nets, e_nets, end) = bound (through (net_linked raw.specials) (record { parts = parts; nets = []; grounded = specials }) raw.nets) (λ wired. within_limits wired) wired more' in
    let have = parts_have tech raw parts sound form e_parts in
    let so_far = nets_are parts raw.specials raw.nets specials nets have.sound have.ranges form.specials form.nets form.names.specials form.names.nets e_specials e_nets in
    let limits = limits_are nets wired end in
    subst IsLayout limits.1 (layout_is raw.specials raw.nets nets so_far limits.0)

-- the nets that are linked, where they keep the limits
pub limits_give :
    (tech : Technology) (raw : RawDesign) (parts : Parts) (specials : List Net) (wired : Wired) → IsSound tech → IsRawDesign raw → link_parts tech (head_of raw) (lists_of raw) ≡ Ok parts → each (link_special parts) raw.specials ≡ Ok specials
    → through (net_linked raw.specials) (record { parts = parts; nets = []; grounded = specials }) raw.nets ≡ Ok wired → (after : Wired) → within_limits wired ≡ Ok after → IsLayout after
limits_give tech raw parts specials wired sound form e_parts e_specials e_nets after end =
    let have = parts_have tech raw parts sound form e_parts in
    let so_far = nets_are parts raw.specials raw.nets specials wired have.sound have.ranges form.specials form.nets form.names.specials form.names.nets e_specials e_nets in
    let limits = limits_are wired after end in
    subst IsLayout limits.1 (layout_is raw.specials raw.nets wired so_far limits.0)
