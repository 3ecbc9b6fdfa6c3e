use Rattle.std.proofs.Common.{ap}
use Rattle.rc_nodes.specs.Pins.{port_rects}
use Rattle.rc_nodes.proofs.Touching.{none_hit}
use Rattle.rc_nodes.proofs.contact.add_port.Goals as goal

pub returns-in-None : goal.returns-in-None
returns-in-None c = none_hit c.args.nodes.now c.args.conn c.args.contacts.now.items _ (ap (port_rects) c.in-None.ensures)
