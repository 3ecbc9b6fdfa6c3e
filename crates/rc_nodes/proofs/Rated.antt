-- The wires of a net can be rated.
use Rattle.std.proofs.Common.{◌≡◌, ◌≤◌, ◌-◌, ℕ, pos, ◌≤ℤ◌, List, [], ◌++◌, length, get_or, ap, sym, ◌∙◌, subst, arith}
use Rattle.std.specs.Prelude.{All}
use Rattle.std.proofs.lemmas.List.Elements.{All-contains}
use Rattle.std.proofs.lemmas.Option.{slice_get_within, get_or_from_slice_get}
use Rattle.rc_rules.specs.RuleFile.{RuleFile, HasRules}
use Rattle.rc_layout.specs.declared.item.Item.{Item}
use Rattle.rc_layout.specs.Items.{IsItem}
use Rattle.rc_nodes.specs.declared.node.Node.{Node}
use Rattle.rc_nodes.specs.declared.wire.Wire.{Wire}
use Rattle.rc_nodes.specs.Nodes.{AreInOrder, IsNumber}
use Rattle.rc_nodes.specs.Wires.{IsWire, wires_of}
use Rattle.rc_nodes.specs.Resistors.{CanRate, node_of}
use Rattle.rc_nodes.proofs.Bounded.{all_from}
use Rattle.rc_nodes.proofs.Neighbours.{piece_form, runs_tell, wire_tells}

abbrev nowhere : Node
nowhere = record { layer = 0; at = record { x = pos 0; y = pos 0 } }

number_is : (nodes : List Node) (n : ℕ) (node : Node) → IsNumber nodes n node → (1 ≤ n) × (n ≤ length nodes) × (node_of nodes n ≡ node)
number_is nodes n node h =
    let is = h.1 in
    let within = slice_get_within nodes h.0 node h.2 in
    let place : n - 1 ≡ h.0 = omega (arith, is) in
    (omega (arith, is), omega (arith, is, within), ap (λ k. get_or nodes k nowhere) place ∙ get_or_from_slice_get nodes h.0 node nowhere h.2)

rated : (rules : RuleFile) (items : List Item) (nodes : List Node) (wire : Wire) → All IsItem items → All (λ item. HasRules rules item.layer) items → IsWire items nodes wire → CanRate rules nodes wire
rated rules items nodes wire all have w =
    let s = w.segment in
    let low = number_is nodes wire.lower s.lower.0 s.lower.1 in
    let high = number_is nodes wire.upper s.upper.0 s.upper.1 in
    let on = runs_tell s.item s.lower.0 s.lower.2 in
    let layer : s.item.layer ≡ (node_of nodes wire.lower).layer = on.layer ∙ ap (λ (n : Node). n.layer) (sym low.2) in
    let form = piece_form s.item (All-contains IsItem items s.item all s.drawn) s.piece in
    record {
      lower = low.0;
      below = low.1;
      upper = high.0;
      above = high.1;
      width = subst (λ z. pos 1 ≤ℤ z) (sym s.width) form.width;
      rated = subst (HasRules rules) layer (All-contains (λ (item : Item). HasRules rules item.layer) items s.item have s.drawn);
    }

pub wires_rated : (rules : RuleFile) (items : List Item) (nodes : List Node) → AreInOrder nodes → All IsItem items → All (λ item. HasRules rules item.layer) items → All (CanRate rules nodes) (wires_of items nodes)
wires_rated rules items nodes order all have =
    all_from (CanRate rules nodes) (wires_of items nodes) (λ wire in'. rated rules items nodes wire all have (wire_tells items nodes wire order all in'))

-- three lists, one after another
pub in_three : {X : Type 0} (start one two three a b c x y z : List X) → start ≡ [] → one ≡ start ++ a → two ≡ one ++ b → three ≡ two ++ c → a ≡ x → b ≡ y → c ≡ z → three ≡ x ++ y ++ z
in_three {X} start one two three a b c x y z none first second third is_x is_y is_z =
    third
    ∙ (ap (λ l. l ++ c) (second ∙ ap (λ l. l ++ b) (first ∙ ap (λ l. l ++ a) none))
    ∙ (ap (λ l. l ++ b ++ c) is_x ∙ (ap (λ l. x ++ l ++ c) is_y ∙ ap (λ l. x ++ y ++ l) is_z)))
