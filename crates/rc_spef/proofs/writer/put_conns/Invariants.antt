use Rattle.std.proofs.Common.{[], ◌∷◌, ◌++◌, take}
use Rattle.std.specs.Prelude.{codes, map}
use Rattle.rc_spef.specs.Buffering.{at_sink, Puts}
use Rattle.rc_spef.specs.Text.{lines_text, keyword, conn_line}
use Rattle.rc_spef.proofs.writer.put_conns.Given as goal

abbrev pub invariant-loop-conn : goal.invariant-loop-conn
invariant-loop-conn g l = record {
  puts : Puts (at_sink (g.K.Sink.written l.fn.sink) (g.K.Sink.faults l.fn.sink) l.fn.buffer) (at_sink (g.K.Sink.written l.sink) (g.K.Sink.faults l.sink) l.buffer) (lines_text ((keyword (codes "*CONN") ∷ []) ++ map conn_line (take l.conn-index l.conns)));
}
