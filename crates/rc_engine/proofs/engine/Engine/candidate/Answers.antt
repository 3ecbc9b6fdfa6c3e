-- What the paths make of the net, and what refuses it.
use Rattle.std.proofs.Common.{◌≡◌, ◌∙◌, ◌<◌, length, sym, subst, arith}
use Rattle.std.specs.Prelude.{Ok, None}
use Rattle.rc_layout.specs.Layouts.{with_put}
use Rattle.rc_shorts.specs.Exchange.{AreNear}
use Rattle.rc_shorts.specs.OfLayouts.{layout_shapes, net_metal}
use Rattle.rc_shorts.specs.Places.{net_shapes}
use Rattle.rc_engine.specs.Start.{IsRefusal}
use Rattle.rc_engine.specs.Engine.{Engine}
use Rattle.rc_engine.specs.Edits.{edited, edit_refusal, MayReplace}
use Rattle.rc_engine.proofs.Drawings.{nodes_there}
use Rattle.rc_engine.proofs.Editing.{found_net, edited_is, conns_stay, paths_refuse, start_refuses, nothing_refuses_edit}
use Rattle.rc_engine.proofs.engine.Engine.candidate.Goals as goal

pub returns-in-Err-clause-fault : goal.returns-in-Err-clause-fault
returns-in-Err-clause-fault c =
    let old = found_net c.self.inside.layout.nets c.args.number (subst (λ (e : Engine). c.args.number < length e.layout.nets) (sym c.self.view_is) c.requires.number) in
    subst (λ (e : Engine). IsRefusal (edit_refusal e.layout e.rules c.args.number c.args.paths.now) c.in-Err.fault) c.self.view_is
    (paths_refuse c.self.inside.layout c.self.inside.rules c.args.number c.args.paths.now old.0 c.in-Err.fault old.1 (c.in-Err.ensures.is old.0 old.1))

pub accepted_with-requires-clause-old_nodes : goal.accepted_with-requires-clause-old_nodes
accepted_with-requires-clause-old_nodes c = λ old there.
    nodes_there c.self.inside.layout.nets c.items.result.now c.args.number old c.index-items-number.result c.items-nodes.result.now there (c.items.ensures ∙ c.self.invariant.2) c.index-items-number.is c.items-nodes.ensures

pub returns-in-Ok-accepted_with-clause-is : goal.returns-in-Ok-accepted_with-clause-is
returns-in-Ok-accepted_with-clause-is c =
    let old = found_net c.self.inside.layout.nets c.args.number (subst (λ (e : Engine). c.args.number < length e.layout.nets) (sym c.self.view_is) c.requires.number) in
    subst (λ (e : Engine). edited e.layout c.args.number c.args.paths.now ≡ Ok (with_put e.layout c.args.number c.in-Ok.net)) c.self.view_is
    (edited_is c.self.inside.layout c.args.number c.args.paths.now old.0 (Ok c.in-Ok.net) old.1 (c.in-Ok.ensures.is old.0 old.1))

pub returns-in-Ok-accepted_with-clause-may : goal.returns-in-Ok-accepted_with-clause-may
returns-in-Ok-accepted_with-clause-may c =
    subst (λ (e : Engine). MayReplace e c.args.number c.in-Ok.net) c.self.view_is (record {
      within = subst (λ (e : Engine). c.args.number < length e.layout.nets) (sym c.self.view_is) c.requires.number;
      candidate = λ old there. c.in-Ok.ensures.fits old there;
      conns = λ old there. conns_stay c.self.inside.layout old c.in-Ok.net c.args.paths.now (c.in-Ok.ensures.is old there);
      extractable = c.in-Ok-accepted_with.ensures.extractable;
      accepted = c.in-Ok-accepted_with.ensures.clear;
      few_nodes = (let few = c.in-Ok-accepted_with.ensures.few in let is = c.in-Ok-accepted_with.ensures.node_count in omega (arith, few, is));
    })

pub returns-in-Ok-accepted_with-clause-accepted : goal.returns-in-Ok-accepted_with-clause-accepted
returns-in-Ok-accepted_with-clause-accepted c =
    let old = found_net c.self.inside.layout.nets c.args.number (subst (λ (e : Engine). c.args.number < length e.layout.nets) (sym c.self.view_is) c.requires.number) in
    subst (λ (e : Engine). edit_refusal e.layout e.rules c.args.number c.args.paths.now ≡ None) c.self.view_is
    (nothing_refuses_edit c.self.inside.layout (with_put c.self.inside.layout c.args.number c.in-Ok.net) c.self.inside.rules c.args.number c.args.paths.now
    (edited_is c.self.inside.layout c.args.number c.args.paths.now old.0 (Ok c.in-Ok.net) old.1 (c.in-Ok.ensures.is old.0 old.1)) c.in-Ok-accepted_with.ensures.clear)

pub returns-in-Err-accepted_with-clause-fault : goal.returns-in-Err-accepted_with-clause-fault
returns-in-Err-accepted_with-clause-fault c =
    let old = found_net c.self.inside.layout.nets c.args.number (subst (λ (e : Engine). c.args.number < length e.layout.nets) (sym c.self.view_is) c.requires.number) in
    subst (λ (e : Engine). IsRefusal (edit_refusal e.layout e.rules c.args.number c.args.paths.now) c.in-Err-accepted_with.fault) c.self.view_is
    (start_refuses c.self.inside.layout (with_put c.self.inside.layout c.args.number c.in-Ok.net) c.self.inside.rules c.args.number c.args.paths.now c.in-Err-accepted_with.fault
    (edited_is c.self.inside.layout c.args.number c.args.paths.now old.0 (Ok c.in-Ok.net) old.1 (c.in-Ok.ensures.is old.0 old.1)) c.in-Err-accepted_with.ensures.fault)

pub near-requires-clause-items : goal.near-requires-clause-items
near-requires-clause-items c =
    let old = found_net c.self.inside.layout.nets c.args.number (subst (λ (e : Engine). c.args.number < length e.layout.nets) (sym c.self.view_is) c.requires.number) in
    (c.in-Ok.ensures.fits old.0 old.1).tied.formed.items

pub accepted_with-requires-clause-near : goal.accepted_with-requires-clause-near
accepted_with-requires-clause-near c =
    subst (λ (e : Engine). AreNear (layout_shapes e.layout) c.args.number (net_shapes c.args.number (net_metal c.in-Ok.net)) c.items-2.result.now) (sym c.self.view_is)
    (subst (AreNear (layout_shapes c.args.self.now.layout) c.args.number (net_shapes c.args.number (net_metal c.in-Ok.net))) (sym c.items-2.ensures) c.in_ok-near.ensures)
