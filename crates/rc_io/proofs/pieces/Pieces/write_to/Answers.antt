-- One piece more, and where a write fails.
use Rattle.std.proofs.Common.{◌≡◌, ◌++◌, ◌+◌, List, ℕ, [], Vec, Global, take, drop, ap, sym, ◌∙◌, arith}
use Rattle.std.specs.List.{flat_map}
use Rattle.std.proofs.lemmas.Bool.{false≢true}
use Rattle.rc_io.specs.Memory.{GatheredBytes}
use Rattle.rc_io.specs.Bytes.{grown}
use Rattle.rc_io.proofs.Growth.{grown-grown}
use Rattle.rc_io.proofs.Piecewise.{piece_more, around_bytes, prefix_of_all, less_than_all, none_in_piece, on_error}
use Rattle.rc_io.proofs.pieces.Pieces.write_to.Goals as goal

abbrev held : Vec ℕ Global → List ℕ
held piece = piece.items

abbrev bytes_of : GatheredBytes → List ℕ
bytes_of sink = sink.bytes

pub loop-piece-preserved : goal.loop-piece-preserved
loop-piece-preserved g c =
    let pieces = c.deref-piece-items.result.now in
    let i = c.loop-piece.piece-index in
    let bytes = c.deref.result.now in
    let all = c.args.self.now.bytes in
    let before = g.K.Sink.written c.args.sink.now in
    let done : List ℕ = flat_map held (take i pieces) in
    let rest : List ℕ = flat_map held (drop (i + 1) pieces) in
    let are = around_bytes held c.self.inside.pieces.items pieces i c.piece-item.result bytes all (ap bytes_of c.self.view_is) c.deref-piece-items.ensures.value c.loop-piece-test.true c.piece-item.is c.deref.ensures.value in
    record {
      so_far = c.in_ok-write_all.ensures.all ∙ ap (λ held. grown held bytes) c.loop-piece.invariant.so_far ∙ grown-grown before done bytes
          ∙ ap (grown before) (ap (λ (b : List ℕ). done ++ b) c.deref.ensures.value ∙ piece_more held pieces i c.piece-item.result c.loop-piece-test.true c.piece-item.is);
      untouched = λ none. c.in_ok-write_all.ensures.none (none_in_piece done bytes rest all are none) ∙ c.loop-piece.invariant.untouched none;
      later = omega (arith, c.write_all.ensures.cause.later, c.loop-piece.invariant.later);
    }

pub returns-in_err-write_all-clause-prefix : goal.returns-in_err-write_all-clause-prefix
returns-in_err-write_all-clause-prefix g c =
    let pieces = c.deref-piece-items.result.now in
    let i = c.loop-piece.piece-index in
    let bytes = c.deref.result.now in
    let all = c.args.self.now.bytes in
    let done : List ℕ = flat_map held (take i pieces) in
    let rest : List ℕ = flat_map held (drop (i + 1) pieces) in
    let are = around_bytes held c.self.inside.pieces.items pieces i c.piece-item.result bytes all (ap bytes_of c.self.view_is) c.deref-piece-items.ensures.value c.loop-piece-test.true c.piece-item.is c.deref.ensures.value in
    prefix_of_all (g.K.Sink.written c.args.sink.now) (g.K.Sink.written c.loop-piece.sink) (g.K.Sink.written c.write_all.new.sink) done bytes rest all c.loop-piece.invariant.so_far are c.write_all.ensures.prefix

pub returns-in_err-write_all-clause-cut : goal.returns-in_err-write_all-clause-cut
returns-in_err-write_all-clause-cut g c =
    let pieces = c.deref-piece-items.result.now in
    let i = c.loop-piece.piece-index in
    let bytes = c.deref.result.now in
    let all = c.args.self.now.bytes in
    let done : List ℕ = flat_map held (take i pieces) in
    let rest : List ℕ = flat_map held (drop (i + 1) pieces) in
    let are = around_bytes held c.self.inside.pieces.items pieces i c.piece-item.result bytes all (ap bytes_of c.self.view_is) c.deref-piece-items.ensures.value c.loop-piece-test.true c.piece-item.is c.deref.ensures.value in
    on_error c.from_residual.result
    (less_than_all (g.K.Sink.written c.args.sink.now) (g.K.Sink.written c.loop-piece.sink) (g.K.Sink.written c.write_all.new.sink) done bytes rest all c.loop-piece.invariant.so_far are c.in_err-write_all.ensures.cut)

pub returns-in_err-write_all-clause-none : goal.returns-in_err-write_all-clause-none
returns-in_err-write_all-clause-none g c =
    let pieces = c.deref-piece-items.result.now in
    let i = c.loop-piece.piece-index in
    let bytes = c.deref.result.now in
    let all = c.args.self.now.bytes in
    let done : List ℕ = flat_map held (take i pieces) in
    let rest : List ℕ = flat_map held (drop (i + 1) pieces) in
    let are = around_bytes held c.self.inside.pieces.items pieces i c.piece-item.result bytes all (ap bytes_of c.self.view_is) c.deref-piece-items.ensures.value c.loop-piece-test.true c.piece-item.is c.deref.ensures.value in
    λ none. absurd (false≢true (c.in_err-write_all.ensures.nothing (none_in_piece done bytes rest all are none)))

pub returns-in_err-write_all-clause-nothing : goal.returns-in_err-write_all-clause-nothing
returns-in_err-write_all-clause-nothing g c =
    let pieces = c.deref-piece-items.result.now in
    let i = c.loop-piece.piece-index in
    let bytes = c.deref.result.now in
    let all = c.args.self.now.bytes in
    let done : List ℕ = flat_map held (take i pieces) in
    let rest : List ℕ = flat_map held (drop (i + 1) pieces) in
    let are = around_bytes held c.self.inside.pieces.items pieces i c.piece-item.result bytes all (ap bytes_of c.self.view_is) c.deref-piece-items.ensures.value c.loop-piece-test.true c.piece-item.is c.deref.ensures.value in
    λ none. absurd (false≢true (c.in_err-write_all.ensures.nothing (none_in_piece done bytes rest all are none)))
