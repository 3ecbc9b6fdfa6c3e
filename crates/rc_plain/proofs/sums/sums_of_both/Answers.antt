use Rattle.std.proofs.Common.{ℕ, arith}
use Rattle.rc_geom.specs.declared.key.Key.{Key}
use Rattle.rc_geom.specs.Plane.{plane_of}
use Rattle.rc_geom.specs.Extraction.{value_in}
use Rattle.rc_sums.proofs.Counted.{metal_has}
use Rattle.rc_sums.proofs.Strips.{rules_sound}
use Rattle.rc_plain.proofs.BothAxes.{value_sound, can_merge, merged, when_ok}
use Rattle.rc_plain.proofs.sums.sums_of_both.Goals as goal

pub sums_in-requires-clause-counts : goal.sums_in-requires-clause-counts
sums_in-requires-clause-counts g c = λ _ _ q. let most = c.requires.counts q in omega (arith, most)

pub sums_in-requires-clause-values : goal.sums_in-requires-clause-values
sums_in-requires-clause-values g c = λ _ _.
    let V = g.R.Value.Amount in
    let rater = g.met.R.Rater g.world.𝓛 g.world.𝓜 g.world.𝓡 ((λ s x. x), (λ x. x), (λ x. x), λ x. x) in
    let amount = g.met.R.Value.Amount g.world.𝓛 g.world.𝓜 g.world.𝓡 ((λ s x. x), (λ x. x), (λ x. x), λ x. x) in
    let keeps = rater.laws c.args.rater.now in
    let laws = amount.laws in
    let has = g.R.Rater.has_rules c.args.rater.now in
    let plane = plane_of c.args.tiles.now in
    let rates = g.R.Rater.rates_of c.args.rater.now in
    let area = c.args.area.now in
    let each = λ (axis : ℕ). rules_sound has rates V.adding V.sound keeps plane axis (metal_has has c.args.tiles.now c.requires.rules) in
    let parts = λ (q : Key). laws.parts (value_in V.adding plane rates 0 area q) (value_in V.adding plane rates 1 area q) (value_sound V.adding V.fits V.sound laws plane rates 0 area (each 0) q) (value_sound V.adding V.fits V.sound laws plane rates 1 area (each 1) q) (c.requires.values q) in
    λ q. (parts q).0

pub sums_in-requires-2-clause-counts : goal.sums_in-requires-2-clause-counts
sums_in-requires-2-clause-counts g c = λ _ _ q. let most = c.requires.counts q in omega (arith, most)

pub sums_in-requires-2-clause-values : goal.sums_in-requires-2-clause-values
sums_in-requires-2-clause-values g c = λ _ _.
    let V = g.R.Value.Amount in
    let rater = g.met.R.Rater g.world.𝓛 g.world.𝓜 g.world.𝓡 ((λ s x. x), (λ x. x), (λ x. x), λ x. x) in
    let amount = g.met.R.Value.Amount g.world.𝓛 g.world.𝓜 g.world.𝓡 ((λ s x. x), (λ x. x), (λ x. x), λ x. x) in
    let keeps = rater.laws c.args.rater.now in
    let laws = amount.laws in
    let has = g.R.Rater.has_rules c.args.rater.now in
    let plane = plane_of c.args.tiles.now in
    let rates = g.R.Rater.rates_of c.args.rater.now in
    let area = c.args.area.now in
    let each = λ (axis : ℕ). rules_sound has rates V.adding V.sound keeps plane axis (metal_has has c.args.tiles.now c.requires.rules) in
    let parts = λ (q : Key). laws.parts (value_in V.adding plane rates 0 area q) (value_in V.adding plane rates 1 area q) (value_sound V.adding V.fits V.sound laws plane rates 0 area (each 0) q) (value_sound V.adding V.fits V.sound laws plane rates 1 area (each 1) q) (c.requires.values q) in
    λ q. (parts q).1

pub merge-requires : goal.merge-requires
merge-requires g c =
    let V = g.R.Value.Amount in
    can_merge V.adding V.fits (plane_of c.args.tiles.now) (g.R.Rater.rates_of c.args.rater.now) c.args.area.now c.in_ok-across.across c.in_ok-along.along c.in_ok-across.ensures c.in_ok-along.ensures c.requires.counts c.requires.values

pub returns : goal.returns
returns g c =
    let V = g.R.Value.Amount in
    let rater = g.met.R.Rater g.world.𝓛 g.world.𝓜 g.world.𝓡 ((λ s x. x), (λ x. x), (λ x. x), λ x. x) in
    let amount = g.met.R.Value.Amount g.world.𝓛 g.world.𝓜 g.world.𝓡 ((λ s x. x), (λ x. x), (λ x. x), λ x. x) in
    let keeps = rater.laws c.args.rater.now in
    let laws = amount.laws in
    let has = g.R.Rater.has_rules c.args.rater.now in
    let plane = plane_of c.args.tiles.now in
    let rates = g.R.Rater.rates_of c.args.rater.now in
    let area = c.args.area.now in
    let each = λ (axis : ℕ). rules_sound has rates V.adding V.sound keeps plane axis (metal_has has c.args.tiles.now c.requires.rules) in
    when_ok c.merge.result c.merge.ensures (λ tally merges. merged V.adding V.fits V.sound laws plane rates area each c.in_ok-across.across c.in_ok-along.along tally c.in_ok-across.ensures c.in_ok-along.ensures merges)
