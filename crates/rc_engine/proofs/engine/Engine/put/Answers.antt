-- An edit in its place leaves an engine.
use Rattle.std.proofs.Common.{◌≡◌, ◌∙◌, ◌<◌, List, length, map, set, ap, sym, subst, arith}
use Rattle.std.specs.Prelude.{All, Some, slice_get}
use Rattle.rc_layout.specs.declared.net.Net.{Net}
use Rattle.rc_layout.specs.Facts.{IsCandidate}
use Rattle.rc_layout.specs.Layouts.{Wired, with_put}
use Rattle.rc_nodes.specs.declared.node.Node.{Node}
use Rattle.rc_nodes.specs.Nodes.{nodes_of}
use Rattle.rc_nodes.specs.LayoutPlane.{drawn_nets}
use Rattle.rc_windows.specs.Frames.{window_count}
use Rattle.rc_engine.specs.Names.{numbering_of}
use Rattle.rc_engine.specs.Start.{node_count, tile_total}
use Rattle.rc_engine.specs.Engine.{Engine, IsEngine}
use Rattle.rc_engine.proofs.Edited.{are_placed, still_engine, nodes_put, names_put, naming_put, tallies_long, windows_are_few}
use Rattle.rc_engine.proofs.Editing.{found_net}
use Rattle.rc_engine.proofs.engine.Engine.put.Goals as goal

pub set_tallies-requires-clause-range : goal.set_tallies-requires-clause-range
set_tallies-requires-clause-range c = λ k d within.
    let less = subst (All (λ k. k < window_count c.args.self.now.frame)) (sym c.items-2.ensures) c.requires.changed.range k d within in
    let long = tallies_long c.args.self.now (subst IsEngine c.self.view_is c.self.invariant.0) in
    let same = ap (λ (e : Engine). length e.tallies) c.self.view_is in
    omega (arith, less, long, same)

pub put-requires-2-clause-fits : goal.put-requires-2-clause-fits
put-requires-2-clause-fits c =
    subst (λ (e : Engine). (old : Net) → slice_get e.layout.nets c.args.number ≡ Some old → IsCandidate e.layout old c.args.edit.net) (sym c.self.view_is) c.requires.may.candidate

pub overflow_cast-self : goal.overflow_cast-self
overflow_cast-self c =
    let is = subst IsEngine c.self.view_is c.self.invariant.0 in
    let few = windows_are_few c.args.self.now.frame c.args.edit.swept.windows is.frame c.requires.changed.increasing c.requires.changed.range in
    let same = c.len.ensures in
    omega (arith, few, same)

pub invariant_of-self : goal.invariant_of-self
invariant_of-self c =
    let e = c.args.self.now in
    let number = c.args.number in
    let net = c.args.edit.net in
    let ks = c.args.edit.swept.windows in
    let is = subst IsEngine c.self.view_is c.self.invariant.0 in
    let old = found_net e.layout.nets number c.requires.may.within in
    let layout : c.put-2.new.self ≡ with_put e.layout number net = c.put-2.ensures ∙ ap (λ (x : Engine). with_put x.layout number net) c.self.view_is in (
      still_engine e _ number net ks c.args.edit.swept.lists c.args.edit.swept.tallies is c.requires.may c.requires.changed layout (ap (λ (x : Engine). x.rules) c.self.view_is) (ap (λ (x : Engine). x.workers) c.self.view_is)
          (ap (λ (x : Engine). x.frame) c.self.view_is)
          (are_placed c.items.result.now ks c.args.edit.swept.lists e.lists c.self.inside.index c.put.new.self c.items.ensures (ap (λ (x : Engine). x.lists) c.self.view_is) c.requires.changed.lists_count c.put.ensures.set c.put.ensures.kept c.put.ensures.count)
          (are_placed c.items-2.result.now ks c.args.edit.swept.tallies e.tallies c.self.inside.tallies c.set_tallies.new.tallies c.items-2.ensures (ap (λ (x : Engine). x.tallies) c.self.view_is) c.requires.changed.tallies_count c.set_tallies.ensures.set
          c.set_tallies.ensures.kept c.set_tallies.ensures.count),
      c.self.invariant.1 ∙ ap (λ (x : Engine). numbering_of x.layout) c.self.view_is ∙ naming_put e number old.0 net old.1 c.requires.may ∙ sym (ap numbering_of layout),
      c.swap.ensures.list ∙ ap (λ (lists : List (List Node)). set lists number c.args.edit.metal.nodes) (c.self.invariant.2 ∙ ap (λ (x : Engine). map nodes_of x.layout.nets) c.self.view_is)
          ∙ ap (set (map nodes_of e.layout.nets) number) c.requires.nodes ∙ sym (nodes_put e.layout.nets number net) ∙ sym (ap (λ (w : Wired). map nodes_of w.nets) layout),
      c.self.invariant.3 ∙ ap (λ (x : Engine). map (λ (n : Net). n.name) x.layout.nets) c.self.view_is ∙ sym (names_put e number old.0 net old.1 c.requires.may) ∙ sym (ap (λ (w : Wired). map (λ (n : Net). n.name) w.nets) layout),
      c.requires.node_count ∙ sym (ap (λ (w : Wired). node_count w.nets) layout),
      c.requires.tile_count ∙ sym (ap (λ (w : Wired). tile_total (drawn_nets w)) layout),
    )
