use Rattle.std.proofs.Common.{◌≡◌, ◌≤ℤ◌, ◌<ℤ◌, ◌-ℤ◌, pos, All, Some, sym, subst, arith}
use Rattle.std.proofs.lemmas.Int.{ints}
use Rattle.rc_geom.specs.declared.key.Key.{Key}
use Rattle.rc_geom.specs.Plane.{plane_of}
use Rattle.rc_geom.specs.Sums.{first_place, end_place}
use Rattle.rc_geom.specs.Context.{layer_count}
use Rattle.rc_column.specs.declared.ends.Mark.{Mark}
use Rattle.rc_column.specs.Edges.{PassesLines}
use Rattle.rc_column.proofs.Edges.{alike_across}
use Rattle.rc_tally.specs.Tallies.{sums}
use Rattle.rc_sums.specs.Entering.{one, many}
use Rattle.rc_sums.specs.Worths.{column_added, columns_added}
use Rattle.rc_sums.proofs.Enters.{enters_same, room_same}
use Rattle.rc_sums.proofs.Counted.{metal_has}
use Rattle.rc_sums.proofs.Strips.{rules_sound, strip}
use Rattle.rc_sums.proofs.Loops.{room_to}
use Rattle.rc_sums.proofs.active.enter_strip.Goals as goal

pub enter_column-requires-clause-room : goal.enter_column-requires-clause-room
enter_column-requires-clause-room g c = λ _ _.
    let V = g.R.Value.Amount in
    let rater = g.met.R.Rater g.world.𝓛 g.world.𝓜 g.world.𝓡 ((λ s x. x), (λ x. x), (λ x. x), λ x. x) in
    let amount = g.met.R.Value.Amount g.world.𝓛 g.world.𝓜 g.world.𝓡 ((λ s x. x), (λ x. x), (λ x. x), λ x. x) in
    let keeps = rater.laws c.args.rater.now in
    let laws = amount.laws in
    let s = c.args.stack.now in
    let tiles = c.args.tiles.now in
    let axis = s.line.axis in
    let at = s.line.at in
    let next = c.next_mark-next.result.at in
    let end = c.args.end.at in
    let n = c.lines_between.result in
    let has = g.R.Rater.has_rules c.args.rater.now in
    let plane = plane_of tiles in
    let other = plane_of s.tiles in
    let rates = g.R.Rater.rates_of c.args.rater.now in
    let low = first_place axis c.args.area.now in
    let high = end_place axis c.args.area.now in
    let before = c.args.tally.now in
    let behind : at ≤ℤ next = let b = subst (λ (m : Mark). m.at <ℤ next) c.line-line.ensures c.next_mark-next.ensures.behind in omega (arith, ints) in
    let many_is : pos n ≡ next -ℤ at = subst (λ (m : Mark). pos n ≡ next -ℤ m.at) c.line-line.ensures c.lines_between.ensures.is in
    let alike : All (PassesLines axis at (Some next)) tiles = subst (λ (m : Mark). All (PassesLines m.axis m.at (Some next)) tiles) c.line-line.ensures c.next_mark-next.ensures.alike in
    let each = rules_sound has rates V.adding V.sound keeps plane axis (metal_has has tiles c.requires.rules) in
    let own = rules_sound has rates V.adding V.sound keeps other axis (metal_has has s.tiles c.requires.own_rules) in
    let col = columns_added (sums V.adding) one plane rates axis at next low high in
    let mine = column_added (sums V.adding) (many V.adding n) other rates axis at low high layer_count in
    let same : (q : Key) → mine q ≡ col q = λ q. strip V.adding V.sound laws.additive plane other rates axis n at next low high q own many_is c.requires.lines
    (λ z above below layer. alike_across tiles layer axis at z (Some next) alike above below) in
    room_same V.adding V.fits V.sound before col mine
    (room_to V.adding V.fits V.sound laws before plane rates axis at next end low high each behind c.next_mark-next.ensures.within c.requires.tally c.requires.room) same

pub returns-clause-enters : goal.returns-clause-enters
returns-clause-enters g c =
    let V = g.R.Value.Amount in
    let rater = g.met.R.Rater g.world.𝓛 g.world.𝓜 g.world.𝓡 ((λ s x. x), (λ x. x), (λ x. x), λ x. x) in
    let amount = g.met.R.Value.Amount g.world.𝓛 g.world.𝓜 g.world.𝓡 ((λ s x. x), (λ x. x), (λ x. x), λ x. x) in
    let keeps = rater.laws c.args.rater.now in
    let laws = amount.laws in
    let s = c.args.stack.now in
    let tiles = c.args.tiles.now in
    let axis = s.line.axis in
    let at = s.line.at in
    let next = c.next_mark-next.result.at in
    let end = c.args.end.at in
    let n = c.lines_between.result in
    let has = g.R.Rater.has_rules c.args.rater.now in
    let plane = plane_of tiles in
    let other = plane_of s.tiles in
    let rates = g.R.Rater.rates_of c.args.rater.now in
    let low = first_place axis c.args.area.now in
    let high = end_place axis c.args.area.now in
    let before = c.args.tally.now in
    let behind : at ≤ℤ next = let b = subst (λ (m : Mark). m.at <ℤ next) c.line-line.ensures c.next_mark-next.ensures.behind in omega (arith, ints) in
    let many_is : pos n ≡ next -ℤ at = subst (λ (m : Mark). pos n ≡ next -ℤ m.at) c.line-line.ensures c.lines_between.ensures.is in
    let alike : All (PassesLines axis at (Some next)) tiles = subst (λ (m : Mark). All (PassesLines m.axis m.at (Some next)) tiles) c.line-line.ensures c.next_mark-next.ensures.alike in
    let each = rules_sound has rates V.adding V.sound keeps plane axis (metal_has has tiles c.requires.rules) in
    let own = rules_sound has rates V.adding V.sound keeps other axis (metal_has has s.tiles c.requires.own_rules) in
    let col = columns_added (sums V.adding) one plane rates axis at next low high in
    let mine = column_added (sums V.adding) (many V.adding n) other rates axis at low high layer_count in
    let same : (q : Key) → mine q ≡ col q = λ q. strip V.adding V.sound laws.additive plane other rates axis n at next low high q own many_is c.requires.lines
    (λ z above below layer. alike_across tiles layer axis at z (Some next) alike above below) in
    enters_same V.adding V.sound before c.enter_column.new.tally mine col c.in_ok-enter_column.ensures (λ q. sym (same q))
