use Rattle.std.proofs.Common.{◌≡◌, ◌≤ℤ◌, ◌<ℤ◌, ℕ, ℤ, refl, sym, ap, ◌∙◌, subst, arith}
use Rattle.std.specs.Prelude.{filter}
use Rattle.std.proofs.lemmas.Int.{ints, to_z-of_z}
use Rattle.std.proofs.lemmas.List.Elements.{All-filter}
use Rattle.rc_geom.specs.declared.tile.Tile.{Tile}
use Rattle.rc_geom.specs.Plane.{plane_of}
use Rattle.rc_geom.specs.Sums.{first_line, end_line, first_place, end_place}
use Rattle.rc_column.specs.declared.ends.Mark.{Mark}
use Rattle.rc_tally.specs.Tallies.{sums}
use Rattle.rc_sums.specs.Entering.{one, HasRoom, Enters}
use Rattle.rc_sums.specs.Worths.{columns_added}
use Rattle.rc_sums.specs.Columns.{SameTiles, is_on}
use Rattle.std.specs.List.{sum_by}
use Rattle.rc_sums.proofs.Members.{members, all_members}
use Rattle.rc_sums.proofs.EditCounts.{first_edits, next_edits, all_edits}
use Rattle.rc_sums.proofs.Columns.{mark_is, column_shows}
use Rattle.rc_sums.proofs.Enters.{enters_none}
use Rattle.rc_sums.proofs.Counted.{metal_has}
use Rattle.rc_sums.proofs.Strips.{rules_sound, no_columns, line_order}
use Rattle.rc_sums.proofs.Loops.{room_behind, enters_columns}
use Rattle.rc_sums.proofs.active.sweep_lines.Goals as goal

pub loop-end-init : goal.loop-end-init
loop-end-init g c =
    let V = g.R.Value.Amount in
    let rater = g.met.R.Rater g.world.𝓛 g.world.𝓜 g.world.𝓡 ((λ s x. x), (λ x. x), (λ x. x), λ x. x) in
    let amount = g.met.R.Value.Amount g.world.𝓛 g.world.𝓜 g.world.𝓡 ((λ s x. x), (λ x. x), (λ x. x), λ x. x) in
    let keeps = rater.laws c.args.rater.now in
    let laws = amount.laws in
    let tiles = c.args.tiles.now in
    let axis = g.row.A in
    let area = c.args.area.now in
    let has = g.R.Rater.has_rules c.args.rater.now in
    let plane = plane_of tiles in
    let rates = g.R.Rater.rates_of c.args.rater.now in
    let low = first_place axis area in
    let high = end_place axis area in
    let first = first_line axis area in
    let end = end_line axis area in
    let before = c.args.tally.now in
    let each = rules_sound has rates V.adding V.sound keeps plane axis (metal_has has tiles c.requires.rules) in
    let col = λ (a b : ℤ). columns_added (sums V.adding) one plane rates axis a b low high in
    let s = c.in_ok-stack.stack in
    let line_is : s.line ≡ c.first_of.result = mark_is s.line c.first_of.result c.in_ok-stack.ensures.axis c.in_ok-stack.ensures.at in
    let at : s.line.at ≡ first = c.in_ok-stack.ensures.at ∙ c.first_of.ensures.at in
    record {
      axis = c.in_ok-stack.ensures.axis ∙ c.first_of.ensures.axis;
      held = λ f. ap (sum_by f) (c.in_ok-stack.ensures.tiles ∙ ap (λ (m : Mark). filter (is_on m) tiles) (sym line_is));
      end_is = c.end_of-end.ensures.at;
      low = omega (arith, ints, at);
      high = omega (arith, ints, at, c.end_of-end.ensures.at, line_order axis area c.requires.area);
      enters = enters_none V.adding V.fits V.sound laws before (col first s.line.at) c.requires.tally
          (λ q. ap (λ (z : ℤ). col first z q) at ∙ no_columns (sums V.adding) one plane rates axis first low high q);
      room = subst (λ (z : ℤ). HasRoom V.adding V.fits V.sound before (col z end)) (sym at) c.requires.room;
      kept = c.column.ensures.kept;
      edits = first_edits c.args.edits.now c.column.new.edits c.first_of.result s.line axis tiles (sym line_is) c.first_of.ensures.axis c.column.ensures.edits;
    }

pub enter_strip-requires-clause-own_rules : goal.enter_strip-requires-clause-own_rules
enter_strip-requires-clause-own_rules g c = λ _ _.
    let has = g.R.Rater.has_rules c.args.rater.now in
    let s = c.loop-end.stack in
    let tiles = c.args.tiles.now in
    let on = filter (is_on s.line) tiles in
    all_members (λ (t : Tile). has t.layer) s.tiles on (members s.tiles on c.loop-end.invariant.held) (All-filter (is_on s.line) (λ (t : Tile). has t.layer) tiles c.requires.rules)

pub enter_strip-requires-clause-lines : goal.enter_strip-requires-clause-lines
enter_strip-requires-clause-lines g c = λ _ _.
    let s = c.loop-end.stack in
    column_shows c.args.tiles.now s.tiles s.line c.requires.ranks c.requires.apart c.loop-end.invariant.held

pub advance-requires-clause-held : goal.advance-requires-clause-held
advance-requires-clause-held g c = c.loop-end.invariant.held

pub loop-end-preserved : goal.loop-end-preserved
loop-end-preserved g c =
    let V = g.R.Value.Amount in
    let rater = g.met.R.Rater g.world.𝓛 g.world.𝓜 g.world.𝓡 ((λ s x. x), (λ x. x), (λ x. x), λ x. x) in
    let amount = g.met.R.Value.Amount g.world.𝓛 g.world.𝓜 g.world.𝓡 ((λ s x. x), (λ x. x), (λ x. x), λ x. x) in
    let keeps = rater.laws c.args.rater.now in
    let laws = amount.laws in
    let tiles = c.args.tiles.now in
    let axis = g.row.A in
    let area = c.args.area.now in
    let has = g.R.Rater.has_rules c.args.rater.now in
    let plane = plane_of tiles in
    let rates = g.R.Rater.rates_of c.args.rater.now in
    let low = first_place axis area in
    let high = end_place axis area in
    let first = first_line axis area in
    let end = end_line axis area in
    let before = c.args.tally.now in
    let each = rules_sound has rates V.adding V.sound keeps plane axis (metal_has has tiles c.requires.rules) in
    let col = λ (a b : ℤ). columns_added (sums V.adding) one plane rates axis a b low high in
    let mark = c.loop-end.stack.line in
    let to = c.in_ok-next.next in
    let next = to.at in
    let s = c.advance.new.stack in
    let line_is : s.line ≡ to = mark_is s.line to c.in_ok-advance.ensures.axis c.in_ok-advance.ensures.at in
    let now = c.loop-end.tally in
    let after = c.enter_strip.new.tally in
    let inv = c.loop-end.invariant in
    let strip_enters : Enters V.adding V.sound now after (col mark.at next) =
    subst (λ (a : ℕ). Enters V.adding V.sound now after (columns_added (sums V.adding) one plane rates a mark.at next (first_place a area) (end_place a area))) inv.axis c.in_ok-next.ensures.enters in
    let behind : mark.at <ℤ next = c.in_ok-next.ensures.behind in
    let up : mark.at ≤ℤ next = omega (arith, ints) in
    let within : next ≤ℤ end = let w = c.in_ok-next.ensures.within in omega (arith, ints, inv.end_is) in
    let low_next : first ≤ℤ next = omega (arith, ints, inv.low) in
    let enters : Enters V.adding V.sound before after (col first next) = enters_columns V.adding V.fits V.sound laws before now after plane rates axis first mark.at next low high each inv.low up c.requires.tally inv.enters strip_enters in
    let room : HasRoom V.adding V.fits V.sound after (col next end) = room_behind V.adding V.fits V.sound laws now after plane rates axis mark.at next end low high each up within inv.enters.tally inv.room strip_enters in
    let at_next = c.in_ok-advance.ensures.at in
    record {
      axis = c.in_ok-advance.ensures.axis ∙ (c.in_ok-next.ensures.axis ∙ inv.axis);
      held = subst (λ (m : Mark). SameTiles s.tiles (filter (is_on m) tiles)) (sym line_is) c.in_ok-advance.ensures.held;
      end_is = inv.end_is;
      low = subst (λ (z : ℤ). first ≤ℤ z) (sym at_next) low_next;
      high = subst (λ (z : ℤ). z ≤ℤ c.end_of-end.result.at) (sym at_next) c.in_ok-next.ensures.within;
      enters = subst (λ (z : ℤ). Enters V.adding V.sound before after (col first z)) (sym at_next) enters;
      room = subst (λ (z : ℤ). HasRoom V.adding V.fits V.sound after (col z end)) (sym at_next) room;
      kept = omega (arith, inv.kept, c.advance.ensures.kept);
      edits = next_edits c.args.edits.now c.loop-end.edits c.advance.new.edits mark to s.line axis tiles inv.axis c.in_ok-next.ensures.axis (sym line_is) behind inv.edits c.advance.ensures.edits;
    }

pub returns-clause-enters : goal.returns-clause-enters
returns-clause-enters g c =
    let V = g.R.Value.Amount in
    let rater = g.met.R.Rater g.world.𝓛 g.world.𝓜 g.world.𝓡 ((λ s x. x), (λ x. x), (λ x. x), λ x. x) in
    let amount = g.met.R.Value.Amount g.world.𝓛 g.world.𝓜 g.world.𝓡 ((λ s x. x), (λ x. x), (λ x. x), λ x. x) in
    let keeps = rater.laws c.args.rater.now in
    let laws = amount.laws in
    let tiles = c.args.tiles.now in
    let axis = g.row.A in
    let area = c.args.area.now in
    let has = g.R.Rater.has_rules c.args.rater.now in
    let plane = plane_of tiles in
    let rates = g.R.Rater.rates_of c.args.rater.now in
    let low = first_place axis area in
    let high = end_place axis area in
    let first = first_line axis area in
    let end = end_line axis area in
    let before = c.args.tally.now in
    let each = rules_sound has rates V.adding V.sound keeps plane axis (metal_has has tiles c.requires.rules) in
    let col = λ (a b : ℤ). columns_added (sums V.adding) one plane rates axis a b low high in
    let inv = c.loop-end.invariant in
    let at_is : c.line.result.at ≡ c.loop-end.stack.line.at = ap (λ (m : Mark). m.at) c.line.ensures in
    let past : c.end_of-end.result.at ≤ℤ c.line.result.at = grind (arith, ints, to_z-of_z, c.loop-end-test.false) in
    let here : c.loop-end.stack.line.at ≡ end = omega (arith, ints, inv.high, inv.end_is, past, at_is) in
    subst (λ (z : ℤ). Enters V.adding V.sound before c.loop-end.tally (col first z)) here inv.enters

pub returns-clause-edits : goal.returns-clause-edits
returns-clause-edits g c = all_edits c.args.edits.now c.loop-end.edits g.row.A c.loop-end.stack.line.at c.args.tiles.now c.loop-end.invariant.edits

pub returns-in_err-next-clause-edits : goal.returns-in_err-next-clause-edits
returns-in_err-next-clause-edits g c = all_edits c.args.edits.now c.loop-end.edits g.row.A c.loop-end.stack.line.at c.args.tiles.now c.loop-end.invariant.edits

pub returns-in_err-advance-clause-edits : goal.returns-in_err-advance-clause-edits
returns-in_err-advance-clause-edits g c =
    let old = c.args.edits.now in
    let mark = c.loop-end.stack.line in
    let to = c.in_ok-next.next in
    let tiles = c.args.tiles.now in
    all_edits old c.advance.new.edits g.row.A to.at tiles
    (next_edits old c.loop-end.edits c.advance.new.edits mark to to g.row.A tiles c.loop-end.invariant.axis c.in_ok-next.ensures.axis refl c.in_ok-next.ensures.behind c.loop-end.invariant.edits c.advance.ensures.edits)

pub returns-clause-kept : goal.returns-clause-kept
returns-clause-kept g c = c.loop-end.invariant.kept

pub returns-in_err-next-clause-kept : goal.returns-in_err-next-clause-kept
returns-in_err-next-clause-kept g c = c.loop-end.invariant.kept

pub returns-in_err-advance-clause-kept : goal.returns-in_err-advance-clause-kept
returns-in_err-advance-clause-kept g c = omega (arith, c.loop-end.invariant.kept, c.advance.ensures.kept)
