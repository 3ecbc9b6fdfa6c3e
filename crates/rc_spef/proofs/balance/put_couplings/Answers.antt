use Rattle.std.proofs.Common.{◌≡◌, ◌<◌, ◌≤◌, ◌+◌, ◌++◌, [], ◌∷◌, ℕ, List, Option, Some, None, length, take, get_or, refl, ap, sym, ◌∙◌, append_assoc}
use Rattle.std.specs.Prelude.{filter_map, option_to_list}
use Rattle.std.specs.List.{cons_option}
use Rattle.std.proofs.lemmas.List.{take_more, take_all}
use Rattle.std.proofs.lemmas.List.Elements.{filter_map-append}
use Rattle.rc_spef.specs.declared.value.Cap.{Cap}
use Rattle.rc_spef.specs.Balance.{Coupling, coupling_of, couplings}
use Rattle.rc_spef.specs.Joints.{seen}
use Rattle.rc_spef.proofs.balance.put_couplings.Goals as goal

alone : (c : Option Coupling) → cons_option c [] ≡ option_to_list c
alone None = refl
alone (Some c) = refl

more : (caps : List Cap) (i : ℕ) (cap : Cap) (before now next : List Coupling) → i < length caps → cap ≡ get_or caps i cap → now ≡ before ++ filter_map coupling_of (take i caps) → next ≡ now ++ option_to_list (coupling_of cap) → next ≡ before ++ filter_map coupling_of (take (i + 1) caps)
more caps i cap before now next within is so_far put =
    let one : take (i + 1) caps ≡ take i caps ++ cap ∷ [] = take_more caps i cap within ∙ ap (λ c. take i caps ++ c ∷ []) (sym is) in
    let parts : filter_map coupling_of (take (i + 1) caps) ≡ filter_map coupling_of (take i caps) ++ option_to_list (coupling_of cap) =
    ap (filter_map coupling_of) one ∙ filter_map-append coupling_of (take i caps) (cap ∷ []) ∙ ap (λ cs. filter_map coupling_of (take i caps) ++ cs) (alone (coupling_of cap)) in
    put ∙ ap (λ cs. cs ++ option_to_list (coupling_of cap)) so_far ∙ append_assoc before (filter_map coupling_of (take i caps)) (option_to_list (coupling_of cap)) ∙ ap (λ cs. before ++ cs) (sym parts)

whole : (caps : List Cap) (i : ℕ) (before now : List Coupling) → length caps ≤ i → now ≡ before ++ filter_map coupling_of (take i caps) → now ≡ before ++ filter_map coupling_of caps
whole caps i before now all so_far = so_far ∙ ap (λ cs. before ++ filter_map coupling_of cs) (take_all i caps all)

pub loop-cap-preserved : goal.loop-cap-preserved
loop-cap-preserved c = more c.items-cap-items.result.now c.loop-cap.cap-index c.cap-item.result _ (seen c.loop-cap.entries.items) (seen c.put_coupling.new.entries.items) c.loop-cap-test.true c.cap-item.is c.loop-cap.invariant c.in_ok-put_coupling.ensures

pub returns : goal.returns
unfolding couplings
returns c =
    whole c.items-cap-items.result.now c.loop-cap.cap-index (seen c.args.entries.now.items) (seen c.loop-cap.entries.items) c.loop-cap-test.false c.loop-cap.invariant
    ∙ ap (λ (caps : List Cap). seen c.args.entries.now.items ++ filter_map coupling_of caps) c.items-cap-items.ensures
