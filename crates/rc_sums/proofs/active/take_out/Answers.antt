use Rattle.std.proofs.Common.{◌≤◌, ℕ, get_or, refl, sym, ap, ◌∙◌, subst, arith}
use Rattle.rc_column.specs.declared.ends.Mark.{Mark}
use Rattle.rc_column.specs.Columns.{Column}
use Rattle.std.specs.List.{count_by}
use Rattle.rc_column.proofs.Layers.{no_tile}
use Rattle.rc_sums.proofs.EditCounts.{edit_made, no_edit, edits_in_all, kept_edits}
use Rattle.std.specs.Prelude.{filter, take, ◌+◌}
use Rattle.rc_sums.specs.Columns.{leaves}
use Rattle.rc_sums.proofs.Columns.{AreOut, out_none, is_there, out_one, out_other, out_all}
use Rattle.rc_sums.proofs.active.take_out.Goals as goal
use Rattle.rc_sums.proofs.active.take_out.Goals.{then-leaves+in_ok-remove, else-leaves}

pub loop-tile-init : goal.loop-tile-init
loop-tile-init c = record { line = refl; out = out_none c.args.stack.now.tiles; kept = omega arith; edits = omega arith }

pub remove-requires-clause-tile : goal.remove-requires-clause-tile
remove-requires-clause-tile c =
    is_there c.loop-tile.stack.tiles c.args.stack.now.tiles c.args.tiles.now c.args.stack.now.line c.args.next c.loop-tile.tile-index no_tile c.loop-tile-test.true (ap (λ (m : Mark). leaves m c.args.next (get_or c.args.tiles.now c.loop-tile.tile-index no_tile)) (sym c.line-line.ensures) ∙ sym c.if-leaves.ensures) c.requires.held c.loop-tile.invariant.out

pub returns-in_err-remove-clause-line : goal.returns-in_err-remove-clause-line
returns-in_err-remove-clause-line c = c.remove.ensures.line ∙ c.loop-tile.invariant.line

pub loop-tile-preserved : goal.loop-tile-preserved
loop-tile-preserved c =
    elim c.if-leaves.branch [
      | then-leaves+in_ok-remove w ↦ record {
        line = ap (λ (s : Column). s.line) w.stack-is ∙ (w.remove.ensures.line ∙ c.loop-tile.invariant.line);
        out = out_one c.loop-tile.stack.tiles c.if-leaves.stack.tiles c.args.stack.now.tiles c.args.tiles.now c.args.stack.now.line c.args.next c.loop-tile.tile-index no_tile c.loop-tile-test.true (ap (λ (m : Mark). leaves m c.args.next (get_or c.args.tiles.now c.loop-tile.tile-index no_tile)) (sym c.line-line.ensures) ∙ sym w.if-leaves.ensures) c.requires.held c.loop-tile.invariant.out (ap (λ (s : Column). s.tiles) w.stack-is ∙ w.in_ok-remove.ensures.tiles);
        kept = subst (λ (e : ℕ). c.args.edits.now ≤ e) (sym w.edits-is) (kept_edits c.args.edits.now c.loop-tile.edits w.remove.new.edits c.loop-tile.invariant.kept w.remove.ensures.edits);
        edits = subst (λ (e : ℕ). e ≤ c.args.edits.now + count_by (leaves c.args.stack.now.line c.args.next) (take (c.loop-tile.tile-index + 1) c.args.tiles.now)) (sym w.edits-is)
            (edit_made c.args.edits.now c.loop-tile.edits w.remove.new.edits (leaves c.args.stack.now.line c.args.next) c.args.tiles.now c.loop-tile.tile-index no_tile c.loop-tile-test.true (ap (λ (m : Mark). leaves m c.args.next (get_or c.args.tiles.now c.loop-tile.tile-index no_tile)) (sym c.line-line.ensures) ∙ sym w.if-leaves.ensures) c.loop-tile.invariant.edits w.remove.ensures.edits);
      }
      | else-leaves w ↦ record {
        line = ap (λ (s : Column). s.line) w.stack-is ∙ c.loop-tile.invariant.line;
        out = subst (λ (s : Column). AreOut s.tiles c.args.stack.now.tiles (filter (leaves c.args.stack.now.line c.args.next) (take (c.loop-tile.tile-index + 1) c.args.tiles.now))) (sym w.stack-is) (out_other c.loop-tile.stack.tiles c.args.stack.now.tiles c.args.tiles.now c.args.stack.now.line c.args.next c.loop-tile.tile-index no_tile c.loop-tile-test.true (ap (λ (m : Mark). leaves m c.args.next (get_or c.args.tiles.now c.loop-tile.tile-index no_tile)) (sym c.line-line.ensures) ∙ sym w.if-leaves.ensures) c.loop-tile.invariant.out);
        kept = subst (λ (e : ℕ). c.args.edits.now ≤ e) (sym w.edits-is) c.loop-tile.invariant.kept;
        edits = subst (λ (e : ℕ). e ≤ c.args.edits.now + count_by (leaves c.args.stack.now.line c.args.next) (take (c.loop-tile.tile-index + 1) c.args.tiles.now)) (sym w.edits-is)
            (no_edit c.args.edits.now c.loop-tile.edits (leaves c.args.stack.now.line c.args.next) c.args.tiles.now c.loop-tile.tile-index no_tile c.loop-tile-test.true (ap (λ (m : Mark). leaves m c.args.next (get_or c.args.tiles.now c.loop-tile.tile-index no_tile)) (sym c.line-line.ensures) ∙ sym w.if-leaves.ensures) c.loop-tile.invariant.edits);
      }
    ]

pub returns-clause-held : goal.returns-clause-held
returns-clause-held c = out_all c.loop-tile.stack.tiles c.args.stack.now.tiles c.args.tiles.now c.args.stack.now.line c.args.next c.loop-tile.tile-index (omega (arith, c.loop-tile-test.false)) c.requires.held c.loop-tile.invariant.out

pub returns-clause-line : goal.returns-clause-line
returns-clause-line c = c.loop-tile.invariant.line

pub returns-clause-edits : goal.returns-clause-edits
returns-clause-edits c = edits_in_all c.args.edits.now c.loop-tile.edits (leaves c.args.stack.now.line c.args.next) c.args.tiles.now c.loop-tile.tile-index c.loop-tile.invariant.edits

pub returns-in_err-remove-clause-edits : goal.returns-in_err-remove-clause-edits
returns-in_err-remove-clause-edits c =
    edits_in_all c.args.edits.now c.remove.new.edits (leaves c.args.stack.now.line c.args.next) c.args.tiles.now (c.loop-tile.tile-index + 1)
    (edit_made c.args.edits.now c.loop-tile.edits c.remove.new.edits (leaves c.args.stack.now.line c.args.next) c.args.tiles.now c.loop-tile.tile-index no_tile c.loop-tile-test.true (ap (λ (m : Mark). leaves m c.args.next (get_or c.args.tiles.now c.loop-tile.tile-index no_tile)) (sym c.line-line.ensures) ∙ sym c.if-leaves.ensures) c.loop-tile.invariant.edits c.remove.ensures.edits)

pub returns-clause-kept : goal.returns-clause-kept
returns-clause-kept c = c.loop-tile.invariant.kept

pub returns-in_err-remove-clause-kept : goal.returns-in_err-remove-clause-kept
returns-in_err-remove-clause-kept c = kept_edits c.args.edits.now c.loop-tile.edits c.remove.new.edits c.loop-tile.invariant.kept c.remove.ensures.edits
