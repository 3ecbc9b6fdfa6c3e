-- The block of one net more.
use Rattle.std.proofs.Common.{List, ℕ, ◌<◌, ◌≤◌, ◌++◌, map, take, length, ap, arith, ◌∙◌}
use Rattle.std.specs.List.{flat_map}
use Rattle.rc_spef.specs.declared.value.DNet.{DNet}
use Rattle.rc_spef.specs.Text.{net_text}
use Rattle.rc_engine.specs.Extraction.{net_value, numbered_nets}
use Rattle.rc_engine.proofs.Engines.{value_more, values_all}
use Rattle.rc_engine.proofs.Texts.{block_more}
use Rattle.rc_engine.proofs.text.put_blocks.Goals as goal

pub loop-own-preserved : goal.loop-own-preserved
loop-own-preserved c =
    let wired = c.args.layout.now in
    let rules = c.args.rules.now in
    let number = c.loop-own.number in
    let same = c.loop-own.invariant.number in
    let below = c.loop-own-test.true in
    let count = c.requires.count in
    let within : number < length wired.nets = omega (arith, same, below, count) in
    record {
      number = omega (arith, same);
      bytes = block_more c.args.pieces.now.bytes c.loop-own.pieces.bytes c.put_block.new.pieces.bytes (map (net_value wired rules) (take number (numbered_nets wired))) _ c.in_ok-value.value
          c.loop-own.invariant.bytes c.in_ok-put_block.ensures (value_more wired rules number c.in_ok-value.value within c.in_ok-value.ensures);
    }

pub returns : goal.returns
returns c =
    let same = c.loop-own.invariant.number in
    let past = c.loop-own-test.false in
    let count = c.requires.count in
    let whole : length c.args.layout.now.nets ≤ c.loop-own.number = omega (arith, same, past, count) in
    c.loop-own.invariant.bytes ∙ ap (λ (vs : List DNet). c.args.pieces.now.bytes ++ flat_map net_text vs) (values_all c.args.layout.now c.args.rules.now c.loop-own.number whole)
