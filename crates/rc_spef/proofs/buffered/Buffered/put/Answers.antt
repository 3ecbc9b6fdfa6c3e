use Rattle.rc_spef.proofs.Puts.{puts_then, held_puts}
use Rattle.rc_spef.proofs.buffered.Buffered.put.Goals as goal

pub returns-then-has_room-2 : goal.returns-then-has_room-2
returns-then-has_room-2 g c =
    puts_then c.empty.ensures.puts (held_puts _ _ c.empty.new.self c.hold-then-has_room-2.new.self c.args.bytes.now c.hold-then-has_room-2.ensures.bytes c.hold-then-has_room-2.ensures.failed)

pub returns-else-has_room-2 : goal.returns-else-has_room-2
returns-else-has_room-2 g c = puts_then c.empty.ensures.puts c.put_long.ensures
