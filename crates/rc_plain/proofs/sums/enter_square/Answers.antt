use Rattle.std.proofs.Common.{◌≡◌, ◌+ℤ◌, pos, true, false, None, refl, ap, sym, ◌∙◌, arith}
use Rattle.std.specs.Prelude.{is_some}
use Rattle.rc_geom.specs.declared.key.Key.{Key}
use Rattle.rc_geom.specs.declared.rect.Pt.{Pt}
use Rattle.rc_geom.specs.Plane.{plane_of}
use Rattle.rc_geom.specs.Sums.{first_line, first_place}
use Rattle.rc_squares.specs.Sides.{side_of}
use Rattle.rc_sums.proofs.Counted.{metal_has}
use Rattle.rc_sums.proofs.Enters.{enters_none, enters_both, room_first, room_second, on_ok}
use Rattle.rc_sums.proofs.Strips.{rules_sound}
use Rattle.rc_plain.specs.Squares.{side_added, place_added}
use Rattle.rc_plain.proofs.Squares.{place_is, place_bare, side_sound}
use Rattle.rc_plain.proofs.sums.enter_square.Goals as goal

pub returns-then-is_none : goal.returns-then-is_none
returns-then-is_none g c =
    let V = g.R.Value.Amount in
    let rater = g.met.R.Rater g.world.𝓛 g.world.𝓜 g.world.𝓡 ((λ s x. x), (λ x. x), (λ x. x), λ x. x) in
    let amount = g.met.R.Value.Amount g.world.𝓛 g.world.𝓜 g.world.𝓡 ((λ s x. x), (λ x. x), (λ x. x), λ x. x) in
    let keeps = rater.laws c.args.rater.now in
    let laws = amount.laws in
    let has = g.R.Rater.has_rules c.args.rater.now in
    let plane = plane_of c.args.tiles.now in
    let rates = g.R.Rater.rates_of c.args.rater.now in
    let before = c.args.tally.now in
    let at = first_line g.row.A c.args.area.now +ℤ pos c.args.line in
    let along = first_place g.row.A c.args.area.now +ℤ pos c.args.place in
    let bare : plane c.args.layer c.square-at.result ≡ None = grind (arith, c.metal_at.ensures, c.is_none.ensures, c.if-is_none.true) in
    enters_none V.adding V.fits V.sound laws before (place_added V.adding plane rates g.row.A c.args.layer at along) c.requires.tally
    (place_bare V.adding V.fits V.sound laws plane rates g.row.A c.args.layer at along (ap (λ (p : Pt). plane c.args.layer p) (sym c.square-at.ensures.is) ∙ bare))

pub enter_side-requires-clause-rules : goal.enter_side-requires-clause-rules
enter_side-requires-clause-rules g c = λ _ _.
    let metal : is_some (plane_of c.args.tiles.now c.args.layer c.square-at.result) ≡ true = grind (arith, c.metal_at.ensures, c.is_none.ensures, c.if-is_none.false) in
    metal_has (g.R.Rater.has_rules c.args.rater.now) c.args.tiles.now c.requires.rules c.args.layer c.square-at.result metal

pub enter_side-requires-2-clause-rules : goal.enter_side-requires-2-clause-rules
enter_side-requires-2-clause-rules g c = λ _ _.
    let metal : is_some (plane_of c.args.tiles.now c.args.layer c.square-at.result) ≡ true = grind (arith, c.metal_at.ensures, c.is_none.ensures, c.if-is_none.false) in
    metal_has (g.R.Rater.has_rules c.args.rater.now) c.args.tiles.now c.requires.rules c.args.layer c.square-at.result metal

pub enter_side-requires-clause-room : goal.enter_side-requires-clause-room
enter_side-requires-clause-room g c = λ _ _.
    let V = g.R.Value.Amount in
    let rater = g.met.R.Rater g.world.𝓛 g.world.𝓜 g.world.𝓡 ((λ s x. x), (λ x. x), (λ x. x), λ x. x) in
    let amount = g.met.R.Value.Amount g.world.𝓛 g.world.𝓜 g.world.𝓡 ((λ s x. x), (λ x. x), (λ x. x), λ x. x) in
    let keeps = rater.laws c.args.rater.now in
    let laws = amount.laws in
    let has = g.R.Rater.has_rules c.args.rater.now in
    let plane = plane_of c.args.tiles.now in
    let rates = g.R.Rater.rates_of c.args.rater.now in
    let before = c.args.tally.now in
    let at = first_line g.row.A c.args.area.now +ℤ pos c.args.line in
    let along = first_place g.row.A c.args.area.now +ℤ pos c.args.place in
    let here = c.square-at.result in
    let is = c.square-at.ensures.is in
    let each = rules_sound has rates V.adding V.sound keeps plane g.row.A (metal_has has c.args.tiles.now c.requires.rules) in
    let whole = place_added V.adding plane rates g.row.A c.args.layer at along in
    let low = c.side.result in
    let down = side_added V.adding plane rates c.args.layer low here in
    let of_down : (q : Key) → V.sound (down q).value ≡ true = side_sound V.adding V.fits V.sound laws plane rates g.row.A each c.args.layer at along false here low is c.side.ensures in
    let high = side_of g.row.A true in
    let up = side_added V.adding plane rates c.args.layer high here in
    let of_up : (q : Key) → V.sound (up q).value ≡ true = side_sound V.adding V.fits V.sound laws plane rates g.row.A each c.args.layer at along true here high is refl in
    let two = place_is V.adding plane rates g.row.A c.args.layer at along here low high is c.side.ensures refl in
    room_first V.adding V.fits V.sound laws before down up whole c.requires.tally of_down of_up c.requires.room two

pub enter_side-requires-2-clause-room : goal.enter_side-requires-2-clause-room
enter_side-requires-2-clause-room g c = λ _ _.
    let V = g.R.Value.Amount in
    let rater = g.met.R.Rater g.world.𝓛 g.world.𝓜 g.world.𝓡 ((λ s x. x), (λ x. x), (λ x. x), λ x. x) in
    let amount = g.met.R.Value.Amount g.world.𝓛 g.world.𝓜 g.world.𝓡 ((λ s x. x), (λ x. x), (λ x. x), λ x. x) in
    let keeps = rater.laws c.args.rater.now in
    let laws = amount.laws in
    let has = g.R.Rater.has_rules c.args.rater.now in
    let plane = plane_of c.args.tiles.now in
    let rates = g.R.Rater.rates_of c.args.rater.now in
    let before = c.args.tally.now in
    let at = first_line g.row.A c.args.area.now +ℤ pos c.args.line in
    let along = first_place g.row.A c.args.area.now +ℤ pos c.args.place in
    let here = c.square-at.result in
    let is = c.square-at.ensures.is in
    let each = rules_sound has rates V.adding V.sound keeps plane g.row.A (metal_has has c.args.tiles.now c.requires.rules) in
    let whole = place_added V.adding plane rates g.row.A c.args.layer at along in
    let low = c.side.result in
    let down = side_added V.adding plane rates c.args.layer low here in
    let of_down : (q : Key) → V.sound (down q).value ≡ true = side_sound V.adding V.fits V.sound laws plane rates g.row.A each c.args.layer at along false here low is c.side.ensures in
    let high = c.side-2.result in
    let up = side_added V.adding plane rates c.args.layer high here in
    let of_up : (q : Key) → V.sound (up q).value ≡ true = side_sound V.adding V.fits V.sound laws plane rates g.row.A each c.args.layer at along true here high is c.side-2.ensures in
    let two = place_is V.adding plane rates g.row.A c.args.layer at along here low high is c.side.ensures c.side-2.ensures in
    room_second V.adding V.fits V.sound laws before c.enter_side.new.tally down up whole c.requires.tally of_down of_up c.requires.room two c.in_ok-enter_side.ensures

pub returns : goal.returns
returns g c =
    let V = g.R.Value.Amount in
    let rater = g.met.R.Rater g.world.𝓛 g.world.𝓜 g.world.𝓡 ((λ s x. x), (λ x. x), (λ x. x), λ x. x) in
    let amount = g.met.R.Value.Amount g.world.𝓛 g.world.𝓜 g.world.𝓡 ((λ s x. x), (λ x. x), (λ x. x), λ x. x) in
    let keeps = rater.laws c.args.rater.now in
    let laws = amount.laws in
    let has = g.R.Rater.has_rules c.args.rater.now in
    let plane = plane_of c.args.tiles.now in
    let rates = g.R.Rater.rates_of c.args.rater.now in
    let before = c.args.tally.now in
    let at = first_line g.row.A c.args.area.now +ℤ pos c.args.line in
    let along = first_place g.row.A c.args.area.now +ℤ pos c.args.place in
    let here = c.square-at.result in
    let is = c.square-at.ensures.is in
    let each = rules_sound has rates V.adding V.sound keeps plane g.row.A (metal_has has c.args.tiles.now c.requires.rules) in
    let whole = place_added V.adding plane rates g.row.A c.args.layer at along in
    let low = c.side.result in
    let down = side_added V.adding plane rates c.args.layer low here in
    let of_down : (q : Key) → V.sound (down q).value ≡ true = side_sound V.adding V.fits V.sound laws plane rates g.row.A each c.args.layer at along false here low is c.side.ensures in
    let high = c.side-2.result in
    let up = side_added V.adding plane rates c.args.layer high here in
    let of_up : (q : Key) → V.sound (up q).value ≡ true = side_sound V.adding V.fits V.sound laws plane rates g.row.A each c.args.layer at along true here high is c.side-2.ensures in
    let two = place_is V.adding plane rates g.row.A c.args.layer at along here low high is c.side.ensures c.side-2.ensures in
    on_ok c.enter_side-2.result c.enter_side-2.ensures (λ last.
    enters_both V.adding V.fits V.sound laws before c.enter_side.new.tally c.enter_side-2.new.tally down up whole c.requires.tally of_down of_up c.in_ok-enter_side.ensures last two)
