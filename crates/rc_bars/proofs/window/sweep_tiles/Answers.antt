use Rattle.std.proofs.Common.{◌≢◌, ◌<◌, ◌≤◌, ◌^◌, List, All, length, sym, subst}
use Rattle.std.specs.Prelude.{AllPairs}
use Rattle.rc_geom.specs.Context.{layer_count}
use Rattle.rc_geom.specs.Plane.{plane_of}
use Rattle.rc_geom.specs.Sums.{first_line, end_line}
use Rattle.rc_bars.specs.declared.bar.Bar.{Bar}
use Rattle.rc_bars.specs.Bars.{StandForColumns}
use Rattle.rc_bars.specs.Ends.{IsNearBar}
use Rattle.rc_bars.specs.Places.{IsWithin}
use Rattle.rc_bars.proofs.Listed.{layers_have}
use Rattle.rc_bars.proofs.window.sweep_tiles.Goals as goal

pub sweep_bars-requires-clause-stand : goal.sweep_bars-requires-clause-stand
sweep_bars-requires-clause-stand g c = λ _ _. subst (λ (bs : List Bar). StandForColumns (plane_of c.args.tiles.now) g.row.A (first_line g.row.A c.args.area.now) (end_line g.row.A c.args.area.now) bs) (sym c.deref.ensures.value) c.in_ok-bars.ensures.stand

pub sweep_bars-requires-clause-within : goal.sweep_bars-requires-clause-within
sweep_bars-requires-clause-within g c = λ _ _. subst (λ (bs : List Bar). All (IsWithin (first_line g.row.A c.args.area.now) (end_line g.row.A c.args.area.now)) bs) (sym c.deref.ensures.value) c.in_ok-bars.ensures.within

pub sweep_bars-requires-clause-once : goal.sweep_bars-requires-clause-once
sweep_bars-requires-clause-once g c = λ _ _. subst (λ (bs : List Bar). AllPairs (λ a b. a ≢ b) bs) (sym c.deref.ensures.value) c.in_ok-bars.ensures.once

pub sweep_bars-requires-clause-layers : goal.sweep_bars-requires-clause-layers
sweep_bars-requires-clause-layers g c = λ _ _. subst (λ (bs : List Bar). All (λ b. b.layer < layer_count) bs) (sym c.deref.ensures.value) c.in_ok-bars.ensures.layers

pub sweep_bars-requires-clause-near : goal.sweep_bars-requires-clause-near
sweep_bars-requires-clause-near g c = λ _ _. subst (λ (bs : List Bar). All IsNearBar bs) (sym c.deref.ensures.value) c.in_ok-bars.ensures.near

pub sweep_bars-requires-clause-few : goal.sweep_bars-requires-clause-few
sweep_bars-requires-clause-few g c = λ _ _. subst (λ (bs : List Bar). length bs ≤ 2 ^ 30) (sym c.deref.ensures.value) c.in_ok-bars.ensures.few

pub sweep_bars-requires-clause-rules : goal.sweep_bars-requires-clause-rules
sweep_bars-requires-clause-rules g c = λ _ _.
    let has = g.R.Rater.has_rules c.args.rater.now in
    subst (λ (bs : List Bar). All (λ b. has b.layer) bs) (sym c.deref.ensures.value)
    (layers_have has c.args.tiles.now c.in_ok-bars.bars.items c.requires.rules c.in_ok-bars.ensures.from)
