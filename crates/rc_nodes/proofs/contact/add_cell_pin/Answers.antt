use Rattle.std.proofs.Common.{[], ap, subst}
use Rattle.std.specs.Prelude.{IfSome}
use Rattle.std.specs.Option.{option_map_or}
use Rattle.rc_nodes.specs.Pins.{placed_rects, CanPlacePin}
use Rattle.rc_nodes.proofs.Touching.{none_hit}
use Rattle.rc_nodes.proofs.contact.add_cell_pin.Goals as goal

pub returns-in-None : goal.returns-in-None
returns-in-None c = none_hit c.args.nodes.now c.args.conn c.args.contacts.now.items _ (ap ((λ o. option_map_or (placed_rects c.args.cell.now c.args.comp.now.at) o [])) c.in-None.ensures)

pub add_placed_pin-requires-clause-place : goal.add_placed_pin-requires-clause-place
add_placed_pin-requires-clause-place c = subst (λ o. IfSome o (CanPlacePin c.args.cell.now c.args.comp.now.at)) c.in-Some.ensures c.requires.place
