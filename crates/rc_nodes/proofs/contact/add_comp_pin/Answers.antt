use Rattle.std.proofs.Common.{ap, subst}
use Rattle.rc_nodes.specs.Pins.{comp_rects, CanPlaceOf}
use Rattle.rc_nodes.proofs.Touching.{none_hit}
use Rattle.rc_nodes.proofs.contact.add_comp_pin.Goals as goal

pub returns-in-None : goal.returns-in-None
returns-in-None c = none_hit c.args.nodes.now c.args.conn c.args.contacts.now.items _ (ap ((λ o. comp_rects c.args.cells.now o c.args.number)) c.in-None.ensures)

pub add_pin_of-requires-clause-place : goal.add_pin_of-requires-clause-place
add_pin_of-requires-clause-place c = subst (λ o. CanPlaceOf c.args.cells.now o c.args.number) c.in-Some.ensures c.requires.place
