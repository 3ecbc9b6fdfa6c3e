use Rattle.std.proofs.Common.{◌∙◌, true, false, ap, subst, sym}
use Rattle.rc_nodes.specs.Lines.{AreTaps}
use Rattle.rc_nodes.specs.Wires.{widest}
use Rattle.rc_nodes.proofs.Wired.{wires_are}
use Rattle.rc_nodes.proofs.Neighbours.{wires_are_listed}
use Rattle.rc_nodes.proofs.wire.wires.Goals as goal

pub returns : goal.returns
returns c =
    wires_are_listed c.args.items.now c.args.nodes.now c.in_ok-kept.kept c.requires.order c.requires.items
    (wires_are c.args.nodes.now c.args.items.now c.rows.result.now c.columns.result.now c.in_ok-all.all.items c.sort_unstable.new.self.items c.in_ok-kept.kept c.requires.order c.requires.items
    (subst (AreTaps true c.args.nodes.now) (sym c.rows.ensures) c.requires.lines.rows) (subst (AreTaps false c.args.nodes.now) (sym c.columns.ensures) c.requires.lines.columns)
    c.in_ok-all.ensures
    c.sort_unstable.ensures.permutation c.sort_unstable.ensures.sorted (c.in_ok-kept.ensures ∙ ap widest c.deref.ensures.value))
