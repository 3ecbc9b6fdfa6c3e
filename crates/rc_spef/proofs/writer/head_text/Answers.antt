use Rattle.std.proofs.Common.{arith}
use Rattle.rc_spef.specs.Text.{head_text}
use Rattle.rc_spef.proofs.Puts.{puts_then, wrote}
use Rattle.rc_spef.proofs.writer.head_text.Goals as goal

pub returns : goal.returns
unfolding head_text
returns g c =
    let w = wrote (g.K.Sink.written c.args.sink.now) (g.K.Sink.written c.finish.new.sink) (g.K.Sink.faults c.args.sink.now) (g.K.Sink.faults c.finish.new.sink) c.new-buffer.result c.finish.new.buffer (head_text c.args.spef.now) c.finish.result
    c.new-buffer.ensures (puts_then c.put_head.ensures c.finish.ensures.puts) (omega arith) c.finish.ensures.ok c.finish.ensures.err in
    record { all = w.all; cut = w.cut; cause = w.cause }
