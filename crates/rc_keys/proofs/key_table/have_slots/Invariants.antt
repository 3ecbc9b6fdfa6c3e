use Rattle.rc_keys.specs.Inner.Slots.{HaveSlots}
use Rattle.rc_keys.proofs.key_table.have_slots.Given as goal

abbrev pub invariant-loop-k : goal.invariant-loop-k
invariant-loop-k l = HaveSlots l.words l.slots l.k
