use Rattle.std.proofs.Common.{[], ◌∷◌, ◌++◌, take}
use Rattle.std.specs.Prelude.{codes, map}
use Rattle.rc_spef.specs.Buffering.{at_sink, Puts}
use Rattle.rc_spef.specs.Text.{lines_text, keyword, port_line}
use Rattle.rc_spef.proofs.writer.put_ports.Given as goal

abbrev pub invariant-loop-port : goal.invariant-loop-port
invariant-loop-port g l = record {
  puts : Puts (at_sink (g.K.Sink.written l.fn.sink) (g.K.Sink.faults l.fn.sink) l.fn.buffer) (at_sink (g.K.Sink.written l.sink) (g.K.Sink.faults l.sink) l.buffer) (lines_text (([] ∷ keyword (codes "*PORTS") ∷ []) ++ map port_line (take l.port-index l.ports)));
}
