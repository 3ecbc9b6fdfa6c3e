-- What a net has of the windows that it touches is what it has of all.
use Rattle.std.proofs.Common.{◌∙◌, ◌<◌, ◌++◌, List, [], length, map, ap, sym, subst, arith}
use Rattle.std.specs.Prelude.{All, slice_get}
use Rattle.std.proofs.lemmas.List.{append-nil}
use Rattle.rc_geom.specs.declared.rect.Rect.{Rect}
use Rattle.rc_layout.specs.declared.item.Item.{Item}
use Rattle.rc_windows.specs.Frames.{touched, window_count}
use Rattle.rc_engine.specs.Brought.{entries_of, owned}
use Rattle.rc_engine.specs.Engine.{Engine}
use Rattle.rc_engine.specs.Start.{net_rects}
use Rattle.rc_engine.proofs.Accepting.{old_there}
use Rattle.rc_engine.proofs.Edited.{tallies_long}
use Rattle.rc_engine.proofs.OwnWindows.{own_gathered, value_is_among}
use Rattle.rc_engine.proofs.engine.Engine.net_value.Goals as goal

pub gathered-requires : goal.gathered-requires
gathered-requires c = λ k d within.
    let less = subst (All (λ k. k < window_count c.self.inside.grid)) (sym c.items-2.ensures) c.in_ok-windows.ensures.range k d within in
    let long = tallies_long _ c.self.invariant.0 in
    let same = ap length c.items.ensures in
    omega (arith, less, long, same)

pub value_from-requires-clause-entries : goal.value_from-requires-clause-entries
value_from-requires-clause-entries c =
    let net = c.index-nets-net.result in
    let grid = c.self.inside.grid in
    let within = subst (λ (e : Engine). c.args.net < length e.layout.nets) (sym c.self.view_is) c.requires in
    let there = old_there c.self.inside.layout c.nets.result.now c.args.net net c.nets.ensures within c.index-nets-net.is in
    let rects = c.deref.ensures.value ∙ c.in_ok-rects.ensures ∙ ap (map (λ (item : Item). item.rect)) c.items-items.ensures ∙ ap net_rects (sym c.index-nets-net.is) in
    let windows = c.items-2.ensures ∙ c.in_ok-windows.ensures.list ∙ ap (λ (rs : List Rect). touched grid (rs ++ [])) rects ∙ ap (touched grid) (append-nil (net_rects net)) in
    c.deref_mut.ensures.value ∙ c.into_vec-entries.ensures
    ∙ own_gathered _ c.args.net net c.items.result.now c.items-2.result.now c.in_ok-entries.entries c.self.invariant.0 there c.items.ensures windows c.in_ok-entries.ensures
    ∙ ap (λ (e : Engine). owned c.args.net (entries_of e.tallies)) c.self.view_is

pub returns : goal.returns
returns c =
    let within = subst (λ (e : Engine). c.args.net < length e.layout.nets) (sym c.self.view_is) c.requires in
    let there = old_there c.self.inside.layout c.nets.result.now c.args.net c.index-nets-net.result c.nets.ensures within c.index-nets-net.is in
    let known = ap (λ (e : Engine). slice_get e.layout.nets c.args.net) (sym c.self.view_is) ∙ there in
    value_is_among c.value_from.result c.args.self.now.layout c.args.self.now.rules c.args.net c.index-nets-net.result known c.value_from.ensures
