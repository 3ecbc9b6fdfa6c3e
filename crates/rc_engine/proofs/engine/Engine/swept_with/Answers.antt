-- The touched windows of an engine can be swept, and are all that changes.
use Rattle.std.proofs.Common.{◌≡◌, ◌∙◌, ◌≤◌, ◌+◌, ◌*◌, ◌^◌, ℕ, List, [], get_or, length, ap, sym, subst}
use Rattle.std.specs.Prelude.{IfOk, nat_lt}
use Rattle.std.proofs.lemmas.Result.{IfOk-weaker}
use Rattle.rc_geom.specs.declared.tile.Tile.{Tile}
use Rattle.rc_geom.specs.Sums.{numbers}
use Rattle.rc_rules.specs.RuleFile.{HasRules}
use Rattle.rc_rules.specs.LookUp.{rates}
use Rattle.rc_layout.specs.Layouts.{with_put}
use Rattle.rc_windows.specs.Indexes.{changed_list}
use Rattle.rc_windows.specs.Sweeps.{CanSweepBoth}
use Rattle.rc_engine.specs.declared.touching.Resweep.{Resweep}
use Rattle.rc_engine.specs.Engine.{Engine}
use Rattle.rc_engine.specs.Edits.{touched_between, MayReplace, AreChanged}
use Rattle.rc_engine.specs.Windows.{window_of}
use Rattle.rc_engine.proofs.Accepting.{old_there}
use Rattle.rc_engine.proofs.Edited.{changed_can, swept_changes, touched_is}
use Rattle.rc_engine.proofs.engine.Engine.swept_with.Goals as goal

pub sweep_touched-requires-clause-can : goal.sweep_touched-requires-clause-can
sweep_touched-requires-clause-can g c κs within = λ k less.
    subst (λ (ts : List Tile). CanSweepBoth numbers (λ v. nat_lt v (2 ^ 128)) (HasRules c.self.inside.rules) (rates c.self.inside.rules) (window_of c.self.inside.grid k) (changed_list c.self.inside.grid c.args.number ts k (get_or c.self.inside.index k []))) (sym c.requires.tiles)
    (changed_can _ c.args.number c.index-nets-number.result c.args.net.now k c.self.invariant.0 (subst (λ (e : Engine). MayReplace e c.args.number c.args.net.now) (sym c.self.view_is) c.requires.may) (old_there c.self.inside.layout c.nets.result.now c.args.number c.index-nets-number.result c.nets.ensures (subst (λ (e : Engine). MayReplace e c.args.number c.args.net.now) (sym c.self.view_is) c.requires.may).within c.index-nets-number.is) less)

pub returns-clause-windows : goal.returns-clause-windows
returns-clause-windows g c =
    IfOk-weaker c.sweep_touched.result (λ (s : Resweep). s.windows ≡ _) (λ (s : Resweep). s.windows ≡ touched_between c.args.self.now.frame c.args.self.now.layout (with_put c.args.self.now.layout c.args.number c.args.net.now) c.args.number)
    (λ s is. is ∙ touched_is c.self.inside.grid c.self.inside.layout c.args.number c.index-nets-number.result c.args.net.now (old_there c.self.inside.layout c.nets.result.now c.args.number c.index-nets-number.result c.nets.ensures (subst (λ (e : Engine). MayReplace e c.args.number c.args.net.now) (sym c.self.view_is) c.requires.may).within c.index-nets-number.is) ∙ ap (λ (e : Engine). touched_between e.frame e.layout (with_put e.layout c.args.number c.args.net.now) c.args.number) c.self.view_is) c.sweep_touched.ensures.windows

pub returns-clause-changed : goal.returns-clause-changed
returns-clause-changed g c =
    subst (λ (e : Engine). IfOk c.sweep_touched.result (λ (s : Resweep). AreChanged e (with_put e.layout c.args.number c.args.net.now) s.windows s.lists s.tallies)) c.self.view_is
    (swept_changes c.sweep_touched.result _ c.args.number c.index-nets-number.result c.args.net.now c.args.tiles.now c.self.invariant.0 (subst (λ (e : Engine). MayReplace e c.args.number c.args.net.now) (sym c.self.view_is) c.requires.may) (old_there c.self.inside.layout c.nets.result.now c.args.number c.index-nets-number.result c.nets.ensures (subst (λ (e : Engine). MayReplace e c.args.number c.args.net.now) (sym c.self.view_is) c.requires.may).within c.index-nets-number.is) c.requires.tiles
    c.sweep_touched.ensures.windows c.sweep_touched.ensures.increasing c.sweep_touched.ensures.range c.sweep_touched.ensures.lists c.sweep_touched.ensures.tallies c.sweep_touched.ensures.rising)

pub returns-clause-spent : goal.returns-clause-spent
returns-clause-spent g c =
    subst (λ (ks : List ℕ). g.M.Meter.drawn c.sweep_touched.new.meter ≤ g.M.Meter.drawn c.args.meter.now + 2 * length ks) (touched_is c.self.inside.grid c.self.inside.layout c.args.number c.index-nets-number.result c.args.net.now (old_there c.self.inside.layout c.nets.result.now c.args.number c.index-nets-number.result c.nets.ensures (subst (λ (e : Engine). MayReplace e c.args.number c.args.net.now) (sym c.self.view_is) c.requires.may).within c.index-nets-number.is) ∙ ap (λ (e : Engine). touched_between e.frame e.layout (with_put e.layout c.args.number c.args.net.now) c.args.number) c.self.view_is) c.sweep_touched.ensures.spent
