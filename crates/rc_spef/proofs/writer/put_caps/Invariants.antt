use Rattle.std.proofs.Common.{◌≡◌, [], ◌∷◌, ◌++◌, take}
use Rattle.std.specs.Prelude.{codes, map}
use Rattle.std.specs.List.{enumerate_from}
use Rattle.rc_spef.specs.Buffering.{at_sink, Puts}
use Rattle.rc_spef.specs.Text.{lines_text, keyword, cap_line}
use Rattle.rc_spef.proofs.writer.put_caps.Given as goal

abbrev pub invariant-loop-cap : goal.invariant-loop-cap
invariant-loop-cap g l = record {
  count : l.number ≡ l.cap-index;
  puts : Puts (at_sink (g.K.Sink.written l.fn.sink) (g.K.Sink.faults l.fn.sink) l.fn.buffer) (at_sink (g.K.Sink.written l.sink) (g.K.Sink.faults l.sink) l.buffer) (lines_text ((keyword (codes "*CAP") ∷ []) ++ map cap_line (enumerate_from 1 (take l.cap-index l.caps))));
}
