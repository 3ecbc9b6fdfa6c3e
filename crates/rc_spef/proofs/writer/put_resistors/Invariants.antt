use Rattle.std.proofs.Common.{◌≡◌, [], ◌∷◌, ◌++◌, take}
use Rattle.std.specs.Prelude.{codes, map}
use Rattle.std.specs.List.{enumerate_from}
use Rattle.rc_spef.specs.Buffering.{at_sink, Puts}
use Rattle.rc_spef.specs.Text.{lines_text, keyword, resistor_line}
use Rattle.rc_spef.proofs.writer.put_resistors.Given as goal

abbrev pub invariant-loop-resistor : goal.invariant-loop-resistor
invariant-loop-resistor g l = record {
  count : l.number ≡ l.resistor-index;
  puts : Puts (at_sink (g.K.Sink.written l.fn.sink) (g.K.Sink.faults l.fn.sink) l.fn.buffer) (at_sink (g.K.Sink.written l.sink) (g.K.Sink.faults l.sink) l.buffer) (lines_text ((keyword (codes "*RES") ∷ []) ++ map resistor_line (enumerate_from 1 (take l.resistor-index l.resistors))));
}
