-- One tally more is set.
use Rattle.std.proofs.Common.{◌≡◌, ◌+◌, ◌∷◌, [], ℕ, refl, ap, ◌∙◌, length, get_or, set, arith, length-append}
use Rattle.rc_engine.proofs.Placing.{put_more, rest_first, put_whole, all_set, all_kept}
use Rattle.rc_engine.proofs.engine.set_tallies.Goals as goal

pub loop-tally-preserved : goal.loop-tally-preserved
loop-tally-preserved c =
    let list = c.args.list.now in
    let before = c.args.tallies.now in
    record {
      put =
          put_more list c.args.new c.loop-tally.rest c.pop.new.self before c.loop-tally.tallies c.swap.new.self c.in-Some.tally c.requires.rising c.requires.range c.loop-tally.invariant.few
          c.loop-tally.invariant.put c.loop-tally.invariant.first c.in-Some.ensures.last
          (c.swap.ensures.list ∙ ap (λ (n : ℕ). set c.loop-tally.tallies (get_or list n 0) c.in-Some.tally) c.len.ensures);
      first = rest_first c.args.new c.loop-tally.rest c.pop.new.self c.in-Some.tally c.loop-tally.invariant.first c.in-Some.ensures.last;
      few = let long : length c.loop-tally.rest ≡ length c.pop.new.self + 1 = ap length c.in-Some.ensures.last ∙ length-append c.pop.new.self (c.in-Some.tally ∷ []) in omega (arith, long, c.loop-tally.invariant.few);
    }

pub returns-clause-set : goal.returns-clause-set
returns-clause-set c =
    let put = put_whole c.args.list.now c.args.new c.loop-tally.rest c.args.tallies.now c.loop-tally.tallies (c.in_default.ensures.empty.0 refl) c.loop-tally.invariant.put in
    all_set [] c.args.list.now c.args.new c.args.tallies.now c.loop-tally.tallies put c.requires.range c.requires.count

pub returns-clause-kept : goal.returns-clause-kept
returns-clause-kept c =
    let put = put_whole c.args.list.now c.args.new c.loop-tally.rest c.args.tallies.now c.loop-tally.tallies (c.in_default.ensures.empty.0 refl) c.loop-tally.invariant.put in
    all_kept [] c.args.list.now c.args.new c.args.tallies.now c.loop-tally.tallies put
