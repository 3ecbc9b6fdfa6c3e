use Rattle.std.proofs.Common.{[], ◌++◌, take}
use Rattle.std.specs.List.{flat_map}
use Rattle.rc_spef.specs.Buffering.{at_sink, Puts}
use Rattle.rc_spef.specs.Text.{lines_text, net_block}
use Rattle.rc_spef.proofs.writer.put_nets.Given as goal

abbrev pub invariant-loop-net : goal.invariant-loop-net
invariant-loop-net g l = record {
  puts : Puts (at_sink (g.K.Sink.written l.fn.sink) (g.K.Sink.faults l.fn.sink) l.fn.buffer) (at_sink (g.K.Sink.written l.sink) (g.K.Sink.faults l.sink) l.buffer) (lines_text ([] ++ flat_map net_block (take l.net-index l.nets)));
}
