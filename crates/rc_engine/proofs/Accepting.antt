-- A layout with a net in the place of another one, as its refusals are looked for.
use Rattle.std.proofs.Common.{◌≡◌, ◌∙◌, ◌<◌, ◌≤◌, ◌^◌, ℕ, List, length, get_or, ap, sym, subst, arith}
use Rattle.std.specs.Prelude.{Option, Some, None, slice_get}
use Rattle.rc_keys.specs.declared.fault.Fault.{Fault}
use Rattle.rc_keys.specs.declared.fault.Refusal.{Refusal}
use Rattle.rc_lef.specs.declared.via.Via.{Via}
use Rattle.rc_rules.specs.RuleFile.{RuleFile}
use Rattle.rc_layout.specs.declared.net.Net.{Net}
use Rattle.rc_layout.specs.Facts.{IsLayout, IsCandidate}
use Rattle.rc_layout.specs.Layouts.{Wired, with_put}
use Rattle.rc_layout.proofs.FactsEdits.{put_candidate}
use Rattle.rc_nodes.specs.LayoutPlane.{drawn_nets}
use Rattle.rc_engine.specs.Measured.{nodes_with, tiles_with, limit_with}
use Rattle.rc_engine.specs.Start.{net_missing, missing_rules, node_count, tile_total, limit_refusal, first_short_refusal, start_refusal, IsRefusal, IsStartFault}
use Rattle.rc_engine.specs.Windows.{HasRatedItems, IsExtractable}
use Rattle.rc_engine.proofs.Edited.{tiles_within}
use Rattle.rc_engine.proofs.Engines.{net_there}
use Rattle.rc_engine.proofs.Lacking.{missing_with, node_count_with, tile_total_with, limit_is, rated_with}
use Rattle.rc_engine.proofs.Refusals.{limits_refuse, limits_hold, nothing_missing, clear_is}

-- the old net, as it is found
pub old_there : (wired : Wired) (nets : List Net) (number : ℕ) (old : Net) → nets ≡ wired.nets → number < length wired.nets → old ≡ get_or nets number old → slice_get wired.nets number ≡ Some old
old_there wired nets number old same within is =
    let count : length nets ≡ length wired.nets = ap length same in
    net_there wired nets number old same (omega (arith, count, within)) is

-- what its layers lack is what the layout lacks
pub lacks : (wired : Wired) (rules : RuleFile) (number : ℕ) (old new : Net) (vias : List Via) (o : Option Refusal) → slice_get wired.nets number ≡ Some old → start_refusal wired rules ≡ None → vias ≡ wired.parts.vias → o ≡ net_missing vias rules new →
    missing_rules (with_put wired number new) rules ≡ o
lacks wired rules number old new vias o there none same is =
    missing_with wired rules number old new there (nothing_missing wired rules none) ∙ ap (λ (vs : List Via). net_missing vs rules new) (sym same) ∙ sym is

-- past a limit
pub past_limits : (wired : Wired) (rules : RuleFile) (number nodes tiles : ℕ) (old new : Net) (fault : Fault) → slice_get wired.nets number ≡ Some old → nodes ≡ node_count wired.nets → tiles ≡ tile_total (drawn_nets wired) →
    missing_rules (with_put wired number new) rules ≡ None → IsRefusal (limit_with nodes tiles old new) fault → IsStartFault (with_put wired number new) rules fault
past_limits wired rules number nodes tiles old new fault there of_nodes of_tiles none is =
    limits_refuse (with_put wired number new) rules fault none (subst (λ (o : Option Refusal). IsRefusal o fault) (limit_is wired number nodes tiles old new there of_nodes of_tiles) is)

-- the totals with the net
pub nodes_are : (wired : Wired) (number nodes all : ℕ) (old new : Net) → slice_get wired.nets number ≡ Some old → nodes ≡ node_count wired.nets → all ≡ nodes_with nodes old new → all ≡ node_count (with_put wired number new).nets
nodes_are wired number nodes all old new there of_nodes is = is ∙ ap (λ (n : ℕ). nodes_with n old new) of_nodes ∙ node_count_with wired number old new there

pub tiles_are : (wired : Wired) (number tiles all : ℕ) (old new : Net) → slice_get wired.nets number ≡ Some old → tiles ≡ tile_total (drawn_nets wired) → all ≡ tiles_with tiles old new → all ≡ tile_total (drawn_nets (with_put wired number new))
tiles_are wired number tiles all old new there of_tiles is = is ∙ ap (λ (n : ℕ). tiles_with n old new) of_tiles ∙ tile_total_with wired number old new there

pub within_limits : (wired : Wired) (nodes tiles : ℕ) → nodes ≡ node_count wired.nets → tiles ≡ tile_total (drawn_nets wired) → nodes ≤ 2 ^ 22 → tiles ≤ 2 ^ 23 → limit_refusal wired ≡ None
within_limits wired nodes tiles of_nodes of_tiles few_nodes few_tiles = limits_hold wired (omega (arith, of_nodes, few_nodes)) (omega (arith, of_tiles, few_tiles))

-- so it can be extracted
pub can_extract : (wired : Wired) (rules : RuleFile) (number tiles : ℕ) (old new : Net) → IsExtractable wired rules → slice_get wired.nets number ≡ Some old → IsCandidate wired old new → HasRatedItems rules new →
    tiles ≡ tile_total (drawn_nets (with_put wired number new)) → tiles ≤ 2 ^ 23 → first_short_refusal (with_put wired number new) ≡ None → IsExtractable (with_put wired number new) rules
can_extract wired rules number tiles old new was there candidate rated of_tiles few clear =
    let after = with_put wired number new in
    let facts : IsLayout after = put_candidate wired number old new was.facts there candidate in
    let least = tiles_within after facts in
    record {
      facts = facts;
      rated = rated_with wired rules number new was.rated rated;
      few = omega (arith, least, of_tiles, few);
      clear = clear_is after clear;
    }
