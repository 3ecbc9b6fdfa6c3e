use Rattle.std.proofs.Common.{◌≡◌, ℕ, ℤ, All, w32, sym, ◌∙◌, subst}
use Rattle.std.proofs.lemmas.Int.{to_z-of_z}
use Rattle.rc_column.specs.Columns.{Column}
use Rattle.rc_column.specs.Runs.{crosses_line}
use Rattle.rc_column.specs.Layers.{AreLayers}
use Rattle.rc_column.proofs.Layers.{layers_moved}
use Rattle.rc_column.proofs.stack.Stack.shift.Goals as goal

pub invariant_of-self : goal.invariant_of-self
invariant_of-self c =
    let s = c.self.inside in
    let to = c.moved-self-inside.result in
    let at : to.at ≡ c.args.column = c.moved-self-inside.ensures.at ∙ to_z-of_z w32 c.args.column c.ranges.column in
    let same : All (λ t. crosses_line s.line.axis c.args.column t ≡ crosses_line s.line.axis s.line.at t) s.tiles.items =
    subst (λ (column : Column). All (λ t. crosses_line column.line.axis c.args.column t ≡ crosses_line column.line.axis column.line.at t) column.tiles) (sym c.self.view_is) c.requires in
    subst (λ (a : ℕ). AreLayers s.tiles.items a to.at s.layers) (sym c.moved-self-inside.ensures.axis)
    (layers_moved s.tiles.items s.line.axis s.line.at to.at s.layers (subst (λ (z : ℤ). All (λ t. crosses_line s.line.axis z t ≡ crosses_line s.line.axis s.line.at t) s.tiles.items) (sym at) same) c.self.invariant)
