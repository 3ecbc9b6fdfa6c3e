-- The text of a layout's extraction: its head, and then a block for each net.
use Rattle.std.proofs.Common.{◌≡◌, ℕ, List, [], ◌∷◌, ◌++◌, map, ap, sym, ◌∙◌}
use Rattle.std.specs.List.{flat_map}
use Rattle.std.proofs.lemmas.List.{flat_map_more}
use Rattle.rc_rules.specs.RuleFile.{RuleFile}
use Rattle.rc_layout.specs.Layouts.{Wired}
use Rattle.rc_spef.specs.declared.value.DNet.{DNet}
use Rattle.rc_spef.specs.Laws.{HeadAndBlocks}
use Rattle.rc_spef.specs.Text.{spef_text, head_text, net_text}
use Rattle.rc_engine.specs.Extraction.{extraction, net_value, numbered_nets, value_with}

-- one block more
pub block_more : (start before after : List ℕ) (values next : List DNet) (of : DNet) → before ≡ start ++ flat_map net_text values → after ≡ before ++ net_text of → values ++ of ∷ [] ≡ next → after ≡ start ++ flat_map net_text next
block_more start before after values next of so_far put are =
    put ∙ ap (λ (b : List ℕ). b ++ net_text of) so_far ∙ flat_map_more net_text start values of ∙ ap (λ (vs : List DNet). start ++ flat_map net_text vs) are

-- all blocks behind the head
pub whole_text : (wired : Wired) (rules : RuleFile) (start head whole : List ℕ) → HeadAndBlocks → start ≡ [] → head ≡ start ++ head_text (value_with wired []) →
    whole ≡ head ++ flat_map net_text (map (net_value wired rules) (numbered_nets wired)) → whole ≡ spef_text (extraction wired rules)
unfolding extraction head_text
whole_text wired rules start head whole law none begun all =
    all ∙ ap (λ (b : List ℕ). b ++ flat_map net_text (map (net_value wired rules) (numbered_nets wired))) (begun ∙ ap (λ (b : List ℕ). b ++ head_text (value_with wired [])) none)
    ∙ sym (law (extraction wired rules))
