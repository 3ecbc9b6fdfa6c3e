use Rattle.std.proofs.Common.{◌<◌, ◌≤◌, length, rules}
use Rattle.std.proofs.lemmas.Result.{err_from_is_err_and}
use Rattle.rc_nodes.proofs.Crossed.{no_centreline}
use Rattle.rc_nodes.proofs.Halved.{turn_adds, turn_full, all_turns}
use Rattle.rc_nodes.proofs.crossing.add_all_meetings.Goals as goal

pub returns-in_err-settle-clause-full : goal.returns-in_err-settle-clause-full
returns-in_err-settle-clause-full c =
    let within : c.loop-level.level-index < length c.args.levels.now = search rules in
    let p = err_from_is_err_and c.from_residual-in_err-settle.result c.from_residual-in_err-settle.ensures.1 in
    rw (p.1, p.2) (turn_full c.args.room c.args.levels.now c.args.uprights.now c.loop-level.level-index no_centreline c.args.nodes.now.items c.loop-level.nodes.items c.add_meetings.new.nodes.items c.in_err-settle.field-0.0
    within c.loop-level.invariant c.in_ok-add_meetings.ensures c.in_err-settle.ensures.full)

pub loop-level-preserved : goal.loop-level-preserved
loop-level-preserved c =
    let within : c.loop-level.level-index < length c.args.levels.now = search rules in
    turn_adds c.args.levels.now c.args.uprights.now c.loop-level.level-index no_centreline c.args.nodes.now.items c.loop-level.nodes.items c.add_meetings.new.nodes.items c.settle.new.nodes.items
    within c.loop-level.invariant c.in_ok-add_meetings.ensures c.in_ok-settle.ensures.kept

pub returns-clause-found : goal.returns-clause-found
returns-clause-found c =
    let all : length c.args.levels.now ≤ c.loop-level.level-index = search rules in
    all_turns c.args.levels.now c.args.uprights.now c.loop-level.level-index c.args.nodes.now.items c.loop-level.nodes.items all c.loop-level.invariant
