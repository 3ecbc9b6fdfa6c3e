use Rattle.std.proofs.Common.{length, ◌-◌, ◌≡◌, ◌≤◌, take}
use Rattle.rc_io.specs.Bytes.{grown}
use Rattle.rc_io.proofs.write.write_all.Given as goal

abbrev pub invariant-loop-at : goal.invariant-loop-at
invariant-loop-at g l =
    let written = g.K.Sink.written in
    let faults = g.K.Sink.faults in
    record {
      within : l.at ≤ length l.bytes;
      so_far : written l.sink ≡ grown (written l.fn.sink) (take l.at l.bytes);
      untouched : l.at ≡ 0 → l.sink ≡ l.fn.sink;
      later : faults l.fn.sink ≤ faults l.sink;
    }

abbrev pub decreases-loop-at : goal.decreases-loop-at
decreases-loop-at g l = length l.bytes - l.at
