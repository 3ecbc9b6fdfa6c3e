use Rattle.std.proofs.Common.{refl, sym, ◌∙◌}
use Rattle.rc_spef.specs.SameTests.{same_resistor}
use Rattle.rc_spef.proofs.Alike.{differs_at, same_at, same_whole, lengths_differ}
use Rattle.rc_spef.proofs.same.same_resistors.Goals as goal

pub loop-k-init : goal.loop-k-init
loop-k-init c = refl

pub returns-then-a-b : goal.returns-then-a-b
returns-then-a-b c = lengths_differ _ c.args.a.now c.args.b.now c.if-a-b.true

pub returns-then-not-same_resistor : goal.returns-then-not-same_resistor
returns-then-not-same_resistor c =
    differs_at (same_resistor c.args.names.ours.now c.args.names.theirs.now) c.args.a.now c.args.b.now c.loop-k.k c.index-a-k.result c.index-b-k.result c.loop-k-test.true c.if-a-b.false c.index-a-k.is c.index-b-k.is c.loop-k.invariant (sym c.same_resistor.ensures ∙ c.if-not-same_resistor.true)

pub loop-k-preserved : goal.loop-k-preserved
loop-k-preserved c =
    same_at (same_resistor c.args.names.ours.now c.args.names.theirs.now) c.args.a.now c.args.b.now c.loop-k.k c.index-a-k.result c.index-b-k.result c.loop-k-test.true c.if-a-b.false c.index-a-k.is c.index-b-k.is c.loop-k.invariant (sym c.same_resistor.ensures ∙ c.if-not-same_resistor.false)

pub returns : goal.returns
returns c = same_whole (same_resistor c.args.names.ours.now c.args.names.theirs.now) c.args.a.now c.args.b.now c.loop-k.k c.loop-k-test.false c.if-a-b.false c.loop-k.invariant
