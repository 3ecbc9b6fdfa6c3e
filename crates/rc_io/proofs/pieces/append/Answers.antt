-- The bytes stand behind those of the last piece, or nothing has changed.
use Rattle.std.proofs.Common.{[], ◌++◌, List, ℕ, Vec, Global, ap, sym, ◌∙◌, ◌+◌, length, append-nil}
use Rattle.std.specs.List.{flat_map}
use Rattle.rc_io.proofs.Piecewise.{last_grows, on_error}
use Rattle.rc_io.proofs.pieces.append.Goals as goal

abbrev held : Vec ℕ Global → List ℕ
held piece = piece.items

pub returns-in_err-extend_from_slice-in-Some-clause-err : goal.returns-in_err-extend_from_slice-in-Some-clause-err
returns-in_err-extend_from_slice-in-Some-clause-err c =
    let pieces = c.args.pieces.now.items in
    let last = c.in-Some.ensures ∙ ap length c.deref.ensures.value in
    let gives = c.in_err-extend_from_slice-in-Some.ensures.items ∙ ap held c.index_mut.ensures.value ∙ sym (append-nil _) in
    on_error c.from_residual.result (last_grows held pieces c.in-Some.at c.extend_from_slice.new.self c.index_mut.result.now [] last gives ∙ append-nil (flat_map held pieces))

pub returns-in_ok-extend_from_slice-in-Some-clause-ok : goal.returns-in_ok-extend_from_slice-in-Some-clause-ok
returns-in_ok-extend_from_slice-in-Some-clause-ok c =
    let bytes = c.args.bytes.now in
    let last = c.in-Some.ensures ∙ ap length c.deref.ensures.value in
    let gives = c.in_ok-extend_from_slice-in-Some.ensures.items ∙ ap (λ (piece : Vec ℕ Global). piece.items ++ bytes) c.index_mut.ensures.value in
    last_grows held c.args.pieces.now.items c.in-Some.at c.extend_from_slice.new.self c.index_mut.result.now bytes last gives
