use Rattle.std.proofs.Common.{◌≡◌, ◌+◌, ◌*◌, ◌+ℤ◌, ℕ, ℤ, pos, None, sym, ap, ◌∙◌, arith}
use Rattle.rc_geom.specs.declared.key.Key.{Key}
use Rattle.rc_geom.specs.declared.rect.Pt.{Pt}
use Rattle.rc_geom.specs.Plane.{plane_of}
use Rattle.rc_geom.specs.Line.{square_of}
use Rattle.rc_geom.specs.Sums.{numbers, first_line, first_place}
use Rattle.rc_geom.proofs.Totals.{total_none, total_more}
use Rattle.rc_squares.specs.Worths.{square_worth, line_worth}
use Rattle.rc_squares.proofs.Tallies.{enters_none, enters_both, enters_same}
use Rattle.rc_squares.proofs.Crossed.{line_skips}
use Rattle.rc_squares.proofs.KeyOrders.{key_order}
use Rattle.rc_squares.proofs.pass.enter_line.Goals as goal

pub loop-place-init : goal.loop-place-init
loop-place-init g c =
    let plane = plane_of c.args.tiles.now in
    let rates = g.R.FaceRates.rates_of c.args.rates.now in
    let r = c.args.area.now in
    let at : ℤ = first_line g.row.A r +ℤ pos c.args.line in
    record {
      within = omega arith;
      entered = enters_none key_order c.args.tally.now (λ (worth : ℕ → ℕ) (key : Key). line_worth worth plane rates c.args.layer key g.row.A r at 0) (4 * 0) c.requires.tally
          (λ worth key. total_none numbers (λ k. square_worth worth plane rates c.args.layer key g.row.A (square_of g.row.A at (first_place g.row.A r +ℤ pos k))));
    }

pub loop-place-preserved-in-Some : goal.loop-place-preserved-in-Some
loop-place-preserved-in-Some g c =
    let plane = plane_of c.args.tiles.now in
    let rates = g.R.FaceRates.rates_of c.args.rates.now in
    let r = c.args.area.now in
    let at : ℤ = first_line g.row.A r +ℤ pos c.args.line in
    let n = c.loop-place.place in
    let square : (ℕ → ℕ) → Key → Pt → ℕ = λ worth key p. square_worth worth plane rates c.args.layer key g.row.A p in
    let line : ℕ → (ℕ → ℕ) → Key → ℕ = λ m worth key. line_worth worth plane rates c.args.layer key g.row.A r at m in
    record {
      within = omega (arith, c.loop-place-test.true);
      entered = enters_both key_order c.args.tally.now c.loop-place.tally c.enter_square.new.tally (line n) (λ (worth : ℕ → ℕ) (key : Key). square worth key c.square-at.result) (line (n + 1)) (4 * n) 4 (4 * (n + 1))
          c.loop-place.invariant.entered c.in_ok-enter_square-in-Some.ensures
          (λ worth key. total_more numbers n (λ k. square worth key (square_of g.row.A at (first_place g.row.A r +ℤ pos k)))
          ∙ ap (λ (p : Pt). line n worth key + square worth key p) (sym c.square-at.ensures.is)) (omega arith);
    }

pub loop-place-preserved : goal.loop-place-preserved
loop-place-preserved g c =
    let plane = plane_of c.args.tiles.now in
    let rates = g.R.FaceRates.rates_of c.args.rates.now in
    let r = c.args.area.now in
    let at : ℤ = first_line g.row.A r +ℤ pos c.args.line in
    let n = c.loop-place.place in
    let next = c.next_start-place.result in
    let line : ℕ → (ℕ → ℕ) → Key → ℕ = λ m worth key. line_worth worth plane rates c.args.layer key g.row.A r at m in
    let bare : plane c.args.layer (square_of g.row.A at (first_place g.row.A r +ℤ pos n)) ≡ None = ap (plane c.args.layer) (sym c.square-at.ensures.is) ∙ sym c.in-None.ensures in
    record {
      within = omega (arith, c.next_start-place.ensures.within, c.places-count.ensures.is);
      entered = enters_same key_order c.args.tally.now c.loop-place.tally (line n) (line next) (4 * n) (4 * next)
          c.loop-place.invariant.entered
          (λ worth key. line_skips worth c.args.tiles.now rates c.args.layer key g.row.A r at n next bare c.next_start-place.ensures.starts c.next_start-place.ensures.later)
          (omega (arith, c.next_start-place.ensures.later));
    }
