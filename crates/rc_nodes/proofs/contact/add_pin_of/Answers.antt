use Rattle.std.proofs.Common.{ap, subst}
use Rattle.rc_nodes.specs.Pins.{rects_in, CanPlaceIn}
use Rattle.rc_nodes.proofs.Touching.{none_hit}
use Rattle.rc_nodes.proofs.contact.add_pin_of.Goals as goal

pub returns-in-None : goal.returns-in-None
returns-in-None c = none_hit c.args.nodes.now c.args.conn c.args.contacts.now.items _ (ap ((λ o. rects_in c.args.comp.now o c.args.number)) c.in-None.ensures)

pub add_cell_pin-requires-clause-place : goal.add_cell_pin-requires-clause-place
add_cell_pin-requires-clause-place c = subst (λ o. CanPlaceIn c.args.comp.now o c.args.number) c.in-Some.ensures c.requires.place
