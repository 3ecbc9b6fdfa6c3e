-- The names of the nets, the components and the die pins, one after another.
use Rattle.std.proofs.Common.{ap, ◌∙◌}
use Rattle.rc_engine.specs.Names.{Numbering}
use Rattle.rc_engine.proofs.Steps.{names_are}
use Rattle.rc_engine.proofs.naming.Naming.names.Goals as goal

pub returns : goal.returns
returns c =
    names_are c.args.layout.now c.nets-2.result.now c.as_slice-comps.result.now c.ports-2.result.now c.in_ok-names.names c.push_nets.new.names c.push_comps.new.names c.push_ports.new.names c.in_ok-names.ensures c.nets-2.ensures c.in_ok-push_nets.ensures
    (c.as_slice-comps.ensures.keys ∙ ap (λ (n : Numbering). n.uses) (c.self.view_is ∙ c.requires)) c.in_ok-push_comps.ensures c.ports-2.ensures c.in_ok-push_ports.ensures
