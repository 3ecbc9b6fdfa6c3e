-- All nets, brought together.
use Rattle.std.proofs.Common.{◌≡◌, List, ℕ, length, map, ap, sym, subst}
use Rattle.std.specs.Prelude.{All}
use Rattle.rc_tally.specs.declared.entry.Entry.{Entry}
use Rattle.rc_layout.specs.declared.net.Net.{Net}
use Rattle.rc_engine.specs.Brought.{HasNets}
use Rattle.rc_engine.specs.Engine.{Engine}
use Rattle.rc_engine.specs.Extraction.{net_value, numbered_nets}
use Rattle.rc_engine.specs.Totals.{AreSums}
use Rattle.rc_engine.proofs.Engines.{engine_sums, tallies_have_nets, whole_value}
use Rattle.rc_engine.proofs.engine.Engine.parasitics.Goals as goal

pub positions_of-requires : goal.positions_of-requires
positions_of-requires c =
    subst (λ (ns : List Net). All (λ (tally : List (Entry ℕ)). All (λ (x : Entry ℕ). HasNets (length ns) x.key) tally) c.items-tallies.result.now) (sym c.nets.ensures)
    (subst (All (λ (tally : List (Entry ℕ)). All (λ (x : Entry ℕ). HasNets (length c.self.inside.layout.nets) x.key) tally)) (sym c.items-tallies.ensures) (tallies_have_nets c.self.inside.layout c.self.inside.rules c.self.inside.tallies (engine_sums _ c.self.invariant.0).totals))

pub returns : goal.returns
returns c =
    whole_value c.value_of.result c.args.self.now _ c.in_ok-nets.nets c.value_of.ensures (ap (λ (e : Engine). e.layout) c.self.view_is)
    (subst (λ (e : Engine). c.in_ok-nets.nets ≡ map (net_value e.layout e.rules) (numbered_nets e.layout)) c.self.view_is c.in_ok-nets.ensures)

pub values_of-requires-clause-sums : goal.values_of-requires-clause-sums
values_of-requires-clause-sums c = subst (λ (ts : List (List (Entry ℕ))). AreSums c.self.inside.layout c.self.inside.rules ts) (sym c.items-tallies.ensures) (engine_sums _ c.self.invariant.0)
