use Rattle.std.proofs.Common.{◌≤◌, ℕ, get_or, ◌+◌, ◌++◌, List, take, refl, sym, ap, ◌∙◌, subst, arith}
use Rattle.std.specs.Prelude.{filter}
use Rattle.std.proofs.lemmas.List.{take_all}
use Rattle.rc_geom.specs.declared.tile.Tile.{Tile}
use Rattle.rc_column.specs.declared.ends.Mark.{Mark}
use Rattle.rc_column.specs.Columns.{Column}
use Rattle.std.specs.List.{count_by}
use Rattle.rc_column.proofs.Layers.{no_tile}
use Rattle.rc_sums.proofs.EditCounts.{edit_made, no_edit, edits_in_all, kept_edits}
use Rattle.rc_sums.specs.Columns.{leaves}
use Rattle.rc_sums.proofs.Columns.{in_none, in_one, in_other}
use Rattle.rc_sums.proofs.active.put_in.Goals as goal
use Rattle.rc_sums.proofs.active.put_in.Goals.{then-leaves+in_ok-insert, else-leaves}

pub loop-tile-init : goal.loop-tile-init
loop-tile-init c = record { line = refl; in_so_far = in_none c.args.stack.now.tiles; kept = omega arith; edits = omega arith }

pub returns-in_err-insert-clause-line : goal.returns-in_err-insert-clause-line
returns-in_err-insert-clause-line c = c.insert.ensures.line ∙ c.loop-tile.invariant.line

pub loop-tile-preserved : goal.loop-tile-preserved
loop-tile-preserved c =
    elim c.if-leaves.branch [
      | then-leaves+in_ok-insert w ↦ record {
        line = ap (λ (s : Column). s.line) w.stack-is ∙ (w.insert.ensures.line ∙ c.loop-tile.invariant.line);
        in_so_far = ap (λ (s : Column). s.tiles) w.stack-is ∙ (w.in_ok-insert.ensures.tiles ∙ in_one c.args.stack.now.tiles c.loop-tile.stack.tiles (leaves c.args.stack.now.line c.args.last) c.args.tiles.now c.loop-tile.tile-index no_tile c.loop-tile-test.true (ap (λ (m : Mark). leaves m c.args.last (get_or c.args.tiles.now c.loop-tile.tile-index no_tile)) (sym c.line-line.ensures) ∙ sym w.if-leaves.ensures) c.loop-tile.invariant.in_so_far);
        kept = subst (λ (e : ℕ). c.args.edits.now ≤ e) (sym w.edits-is) (kept_edits c.args.edits.now c.loop-tile.edits w.insert.new.edits c.loop-tile.invariant.kept w.insert.ensures.edits);
        edits = subst (λ (e : ℕ). e ≤ c.args.edits.now + count_by (leaves c.args.stack.now.line c.args.last) (take (c.loop-tile.tile-index + 1) c.args.tiles.now)) (sym w.edits-is)
            (edit_made c.args.edits.now c.loop-tile.edits w.insert.new.edits (leaves c.args.stack.now.line c.args.last) c.args.tiles.now c.loop-tile.tile-index no_tile c.loop-tile-test.true (ap (λ (m : Mark). leaves m c.args.last (get_or c.args.tiles.now c.loop-tile.tile-index no_tile)) (sym c.line-line.ensures) ∙ sym w.if-leaves.ensures) c.loop-tile.invariant.edits w.insert.ensures.edits);
      }
      | else-leaves w ↦ record {
        line = ap (λ (s : Column). s.line) w.stack-is ∙ c.loop-tile.invariant.line;
        in_so_far = ap (λ (s : Column). s.tiles) w.stack-is ∙ in_other c.args.stack.now.tiles c.loop-tile.stack.tiles (leaves c.args.stack.now.line c.args.last) c.args.tiles.now c.loop-tile.tile-index no_tile c.loop-tile-test.true (ap (λ (m : Mark). leaves m c.args.last (get_or c.args.tiles.now c.loop-tile.tile-index no_tile)) (sym c.line-line.ensures) ∙ sym w.if-leaves.ensures) c.loop-tile.invariant.in_so_far;
        kept = subst (λ (e : ℕ). c.args.edits.now ≤ e) (sym w.edits-is) c.loop-tile.invariant.kept;
        edits = subst (λ (e : ℕ). e ≤ c.args.edits.now + count_by (leaves c.args.stack.now.line c.args.last) (take (c.loop-tile.tile-index + 1) c.args.tiles.now)) (sym w.edits-is)
            (no_edit c.args.edits.now c.loop-tile.edits (leaves c.args.stack.now.line c.args.last) c.args.tiles.now c.loop-tile.tile-index no_tile c.loop-tile-test.true (ap (λ (m : Mark). leaves m c.args.last (get_or c.args.tiles.now c.loop-tile.tile-index no_tile)) (sym c.line-line.ensures) ∙ sym w.if-leaves.ensures) c.loop-tile.invariant.edits);
      }
    ]

pub returns-clause-held : goal.returns-clause-held
returns-clause-held c = c.loop-tile.invariant.in_so_far ∙ ap (λ (us : List Tile). c.args.stack.now.tiles ++ filter (leaves c.args.stack.now.line c.args.last) us) (take_all c.loop-tile.tile-index c.args.tiles.now (omega (arith, c.loop-tile-test.false)))

pub returns-clause-line : goal.returns-clause-line
returns-clause-line c = c.loop-tile.invariant.line

pub returns-clause-edits : goal.returns-clause-edits
returns-clause-edits c = edits_in_all c.args.edits.now c.loop-tile.edits (leaves c.args.stack.now.line c.args.last) c.args.tiles.now c.loop-tile.tile-index c.loop-tile.invariant.edits

pub returns-in_err-insert-clause-edits : goal.returns-in_err-insert-clause-edits
returns-in_err-insert-clause-edits c =
    edits_in_all c.args.edits.now c.insert.new.edits (leaves c.args.stack.now.line c.args.last) c.args.tiles.now (c.loop-tile.tile-index + 1)
    (edit_made c.args.edits.now c.loop-tile.edits c.insert.new.edits (leaves c.args.stack.now.line c.args.last) c.args.tiles.now c.loop-tile.tile-index no_tile c.loop-tile-test.true (ap (λ (m : Mark). leaves m c.args.last (get_or c.args.tiles.now c.loop-tile.tile-index no_tile)) (sym c.line-line.ensures) ∙ sym c.if-leaves.ensures) c.loop-tile.invariant.edits c.insert.ensures.edits)

pub returns-clause-kept : goal.returns-clause-kept
returns-clause-kept c = c.loop-tile.invariant.kept

pub returns-in_err-insert-clause-kept : goal.returns-in_err-insert-clause-kept
returns-in_err-insert-clause-kept c = kept_edits c.args.edits.now c.loop-tile.edits c.insert.new.edits c.loop-tile.invariant.kept c.insert.ensures.edits
