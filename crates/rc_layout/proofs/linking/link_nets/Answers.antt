-- A net that is refused is the first.
use Rattle.std.proofs.Common.{◌∙◌}
use Rattle.rc_layout.proofs.Whole.{specials_refused, others_refused}
use Rattle.rc_layout.proofs.linking.link_nets.Goals as goal

pub returns-in-Err : goal.returns-in-Err
returns-in-Err c =
    specials_refused c.args.parts c.args.specials c.items.result.now c.args.nets c.in-Err.fault (c.items.ensures ∙ c.in-Ok.ensures) (rw c.in-Err.is at c.link_specials.ensures)

pub returns-in-Err-add_nets : goal.returns-in-Err-add_nets
returns-in-Err-add_nets c =
    others_refused c.args.parts c.args.specials c.items.result.now c.in-Ok.specials c.args.nets c.in-Err-add_nets.fault c.in-Ok-link_specials.grounded c.new.result c.add_nets.new.self (c.items.ensures ∙ c.in-Ok.ensures)
    c.in-Ok.ensures c.new.ensures (rw c.in-Ok-link_specials.is at c.link_specials.ensures) (rw c.in-Err-add_nets.is at c.add_nets.ensures)
