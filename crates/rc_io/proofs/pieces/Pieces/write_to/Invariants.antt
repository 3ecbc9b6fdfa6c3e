-- The pieces so far are written.
use Rattle.std.proofs.Common.{◌≡◌, ◌≤◌, [], take}
use Rattle.std.specs.List.{flat_map}
use Rattle.rc_io.specs.Bytes.{grown}
use Rattle.rc_io.proofs.pieces.Pieces.write_to.Given as goal

abbrev pub invariant-loop-piece : goal.invariant-loop-piece
invariant-loop-piece g l =
    let written = g.K.Sink.written in
    let faults = g.K.Sink.faults in
    record {
      so_far : written l.sink ≡ grown (written l.fn.sink) (flat_map (λ piece. piece.items) (take l.piece-index l.piece-items));
      untouched : l.self.bytes ≡ [] → l.sink ≡ l.fn.sink;
      later : faults l.fn.sink ≤ faults l.sink;
    }
