-- The tiles of one net more.
use Rattle.std.proofs.Common.{ap, length, arith}
use Rattle.rc_nodes.specs.LayoutPlane.{drawn_nets}
use Rattle.rc_engine.proofs.Drawings.{drawn_length, none_measured, drawn_more, drawn_too_many, all_measured, all_counted}
use Rattle.rc_engine.proofs.measured.all_tiles.Goals as goal

pub loop-number-init : goal.loop-number-init
loop-number-init c = record { are = none_measured c.in_ok-tiles.tiles c.in_ok-tiles.ensures; few = omega arith }

pub drawn-requires-clause-number : goal.drawn-requires-clause-number
drawn-requires-clause-number c =
    let long = drawn_length c.args.layout.now in
    let own = ap length c.nets.ensures in
    let rest = ap length c.grounded.ensures in
    let test = c.loop-number-test.true in
    omega (arith, long, own, rest, test)

pub returns-in-Err-clause-fault : goal.returns-in-Err-clause-fault
returns-in-Err-clause-fault c =
    drawn_too_many (drawn_nets c.args.layout.now) c.loop-number.number _ c.loop-number.count c.in-Err.fault c.drawn.ensures.at c.loop-number.invariant.are.counted c.in-Err.ensures.fault

pub loop-number-preserved : goal.loop-number-preserved
loop-number-preserved c =
    record {
      are = drawn_more (drawn_nets c.args.layout.now) c.loop-number.number _ c.loop-number.tiles c.add_tiles.new.tiles c.loop-number.count c.in-Ok.count c.drawn.ensures.at c.loop-number.invariant.are
          c.in-Ok.ensures.tiles c.in-Ok.ensures.count c.in-Ok.ensures.least;
      few = c.in-Ok.ensures.within;
    }

pub returns-clause-tiles : goal.returns-clause-tiles
returns-clause-tiles c =
    let long = drawn_length c.args.layout.now in
    let own = ap length c.nets.ensures in
    let rest = ap length c.grounded.ensures in
    let test = c.loop-number-test.false in
    all_measured (drawn_nets c.args.layout.now) c.loop-number.number c.loop-number.tiles c.loop-number.count (omega (arith, long, own, rest, test)) c.loop-number.invariant.are c.loop-number.invariant.few

pub returns-clause-count : goal.returns-clause-count
returns-clause-count c =
    let long = drawn_length c.args.layout.now in
    let own = ap length c.nets.ensures in
    let rest = ap length c.grounded.ensures in
    let test = c.loop-number-test.false in
    all_counted (drawn_nets c.args.layout.now) c.loop-number.number c.loop-number.tiles c.loop-number.count (omega (arith, long, own, rest, test)) c.loop-number.invariant.are
