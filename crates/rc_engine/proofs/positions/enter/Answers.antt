-- A position joins the list of the key's net, or of both.
use Rattle.std.proofs.Common.{length, subst, sym}
use Rattle.rc_geom.specs.declared.key.Key.{Key}
use Rattle.rc_engine.specs.Brought.{HasNets, Joins}
use Rattle.rc_engine.proofs.Bringing.{on_ok, joins_ground, joins_pair}
use Rattle.rc_engine.proofs.positions.enter.Goals as goal

pub returns-in-Ground : goal.returns-in-Ground
returns-in-Ground c =
    let before = c.args.lists.now.items in
    let after = c.put.new.lists.items in
    on_ok c.put.result
    (λ put. subst (λ (k : Key). Joins before after k c.args.at) (sym c.in-Ground.is)
    (joins_ground before after c.in-Ground.net c.in-Ground.node c.args.at (subst (HasNets (length before)) c.in-Ground.is c.requires) put))
    c.put.ensures

pub returns-in_ok-put-in-Pair : goal.returns-in_ok-put-in-Pair
returns-in_ok-put-in-Pair c =
    let before = c.args.lists.now.items in
    let between = c.put-in-Pair.new.lists.items in
    let after = c.put-in-Pair-2.new.lists.items in
    let has = subst (HasNets (length before)) c.in-Pair.is c.requires in
    on_ok c.put-in-Pair-2.result
    (λ put. subst (λ (k : Key). Joins before after k c.args.at) (sym c.in-Pair.is)
    (joins_pair before between after c.in-Pair.net c.in-Pair.node c.in-Pair.other c.in-Pair.onode c.args.at has.0 has.1 c.in_ok-put-in-Pair.ensures put))
    c.put-in-Pair-2.ensures
