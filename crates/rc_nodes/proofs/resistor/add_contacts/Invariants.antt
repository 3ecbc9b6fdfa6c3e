use Rattle.std.proofs.Common.{◌≡◌, ◌++◌, map, take}
use Rattle.rc_nodes.specs.Resistors.{contact_resistor}
use Rattle.rc_nodes.proofs.resistor.add_contacts.Given as goal

abbrev pub invariant-loop-contact : goal.invariant-loop-contact
invariant-loop-contact l = l.all ≡ l.fn.all ++ map (contact_resistor l.rules) (take l.contact-index l.contacts)
