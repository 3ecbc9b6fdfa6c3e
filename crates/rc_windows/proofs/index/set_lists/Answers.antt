use Rattle.std.proofs.Common.{◌≡◌, ◌+◌, ◌∷◌, [], ℕ, refl, ap, ◌∙◌, length, get_or, set, arith, length-append}
use Rattle.rc_windows.proofs.Puts.{put_more, rest_first, put_whole, all_set, all_kept}
use Rattle.rc_windows.proofs.index.set_lists.Goals as goal
use Rattle.rc_windows.proofs.index.set_lists.Goals.{After-drop-rest-inside}

pub loop-tiles-preserved : goal.loop-tiles-preserved
loop-tiles-preserved c =
    let list = c.args.list.now in
    let before = c.args.lists.now in
    record {
      put =
          put_more list c.args.new c.loop-tiles.rest c.pop.new.self before c.loop-tiles.lists c.swap.new.self c.in-Some.tiles c.requires.rising c.requires.range c.loop-tiles.invariant.few
          c.loop-tiles.invariant.put c.loop-tiles.invariant.first c.in-Some.ensures.last
          (c.swap.ensures.list ∙ ap (λ (n : ℕ). set c.loop-tiles.lists (get_or list n 0) c.in-Some.tiles) c.len.ensures);
      first = rest_first c.args.new c.loop-tiles.rest c.pop.new.self c.in-Some.tiles c.loop-tiles.invariant.first c.in-Some.ensures.last;
      few = let long : length c.loop-tiles.rest ≡ length c.pop.new.self + 1 = ap length c.in-Some.ensures.last ∙ length-append c.pop.new.self (c.in-Some.tiles ∷ []) in omega (arith, long, c.loop-tiles.invariant.few);
    }

none_left : (c : After-drop-rest-inside) → c.loop-tiles.rest ≡ []
none_left c = c.in_default.ensures.empty.0 refl

pub returns-clause-set : goal.returns-clause-set
returns-clause-set c =
    let put = put_whole c.args.list.now c.args.new c.loop-tiles.rest c.args.lists.now c.loop-tiles.lists (none_left c) c.loop-tiles.invariant.put in
    all_set c.args.list.now c.args.new c.args.lists.now c.loop-tiles.lists put c.requires.range c.requires.count

pub returns-clause-kept : goal.returns-clause-kept
returns-clause-kept c =
    let put = put_whole c.args.list.now c.args.new c.loop-tiles.rest c.args.lists.now c.loop-tiles.lists (none_left c) c.loop-tiles.invariant.put in
    all_kept c.args.list.now c.args.new c.args.lists.now c.loop-tiles.lists put
