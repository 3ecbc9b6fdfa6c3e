use Rattle.std.proofs.Common.{◌≡◌, ℕ, ℤ, List, All, w32, SFits, to_z, of_z, sym, ap, ◌∙◌, subst, rules}
use Rattle.std.specs.Prelude.{filter, ◌++◌}
use Rattle.std.proofs.lemmas.Int.{to_z-of_z}
use Rattle.rc_geom.specs.declared.tile.Tile.{Tile}
use Rattle.rc_column.specs.declared.ends.Mark.{Mark}
use Rattle.rc_column.specs.Runs.{crosses_line}
use Rattle.rc_sums.specs.Columns.{is_on, leaves}
use Rattle.rc_sums.proofs.Enters.{on_ok}
use Rattle.rc_sums.proofs.Columns.{stay_on, come_in, mark_is}
use Rattle.rc_sums.proofs.active.advance.Goals as goal

pub shift-requires : goal.shift-requires
shift-requires c =
    let fits : SFits w32 c.args.next.at = search rules in
    let at : to_z w32 (of_z w32 c.args.next.at) ≡ c.args.next.at = to_z-of_z w32 c.args.next.at fits in
    let kept = c.take_out.new.stack.tiles in
    let old = c.args.stack.now.line in
    let next = c.args.next in
    let all : All (λ t. is_on next t ≡ is_on old t) kept = stay_on kept c.args.tiles.now old next c.in_ok-take_out.ensures.held in
    let here : All (λ t. crosses_line c.take_out.new.stack.line.axis next.at t ≡ is_on c.take_out.new.stack.line t) kept =
    subst (λ (m : Mark). All (λ t. crosses_line m.axis next.at t ≡ is_on m t) kept) (sym c.take_out.ensures.line)
    (subst (λ (a : ℕ). All (λ t. crosses_line a next.at t ≡ is_on old t) kept) c.requires.axis all) in
    subst (λ (z : ℤ). All (λ t. crosses_line c.take_out.new.stack.line.axis z t ≡ is_on c.take_out.new.stack.line t) kept) (sym at) here

pub returns-clause-held : goal.returns-clause-held
returns-clause-held c =
    let fits : SFits w32 c.args.next.at = search rules in
    let at : to_z w32 (of_z w32 c.args.next.at) ≡ c.args.next.at = to_z-of_z w32 c.args.next.at fits in
    let kept = c.take_out.new.stack.tiles in
    let old = c.args.stack.now.line in
    let next = c.args.next in
    let tiles = c.args.tiles.now in
    let line_is : c.shift.new.self.line ≡ next = mark_is c.shift.new.self.line next (c.shift.ensures.axis ∙ (ap (λ (m : Mark). m.axis) c.take_out.ensures.line ∙ sym c.requires.axis)) (c.shift.ensures.column ∙ at) in
    on_ok c.put_in.result c.put_in.ensures.held (λ is.
    come_in kept c.put_in.new.stack.tiles tiles old next c.in_ok-take_out.ensures.held
    (is ∙ (ap (λ (m : Mark). c.shift.new.self.tiles ++ filter (leaves c.shift.new.self.line m) tiles) c.line-last.ensures ∙ (ap (λ (m : Mark). c.shift.new.self.tiles ++ filter (leaves m old) tiles) line_is ∙ ap (λ (us : List Tile). us ++ filter (leaves next old) tiles) c.shift.ensures.tiles))))
