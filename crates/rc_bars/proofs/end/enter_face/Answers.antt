use Rattle.std.proofs.Common.{◌≡◌, refl}
use Rattle.std.specs.Option.{option_and_then}
use Rattle.rc_geom.specs.declared.key.Key.{Key}
use Rattle.rc_geom.specs.Parts.{worth_at, shared_key, foreign_metal}
use Rattle.rc_column.specs.Found.{face_value}
use Rattle.rc_tally.specs.Tallies.{sums}
use Rattle.rc_sums.specs.Entering.{many}
use Rattle.rc_sums.proofs.Enters.{part_added, enters_both, room_first, room_second, on_ok}
use Rattle.rc_sums.proofs.Faces.{part_sound}
use Rattle.rc_bars.specs.Columns.{rated}
use Rattle.rc_bars.specs.Masks.{layers_of}
use Rattle.rc_bars.proofs.Rated.{face_rate, rate_sound, rated_splits}
use Rattle.rc_bars.proofs.end.enter_face.Goals as goal

pub enter_part-requires-clause-sound : goal.enter_part-requires-clause-sound
enter_part-requires-clause-sound g c =
    let V = g.R.Value.Amount in
    let rater = g.met.R.Rater g.world.𝓛 g.world.𝓜 g.world.𝓡 ((λ s x. x), (λ x. x), (λ x. x), λ x. x) in
    let amount = g.met.R.Value.Amount g.world.𝓛 g.world.𝓜 g.world.𝓡 ((λ s x. x), (λ x. x), (λ x. x), λ x. x) in
    let keeps = rater.laws c.args.rater.now in
    let laws = amount.laws in
    let face = c.args.face.now in
    let n = c.args.n in
    let layer = c.args.layer in
    let metal = layers_of c.args.metal in
    let rates = g.R.Rater.rates_of c.args.rater.now in
    let ground = c.rate-rate.result.ground in
    let share = c.rate-rate.result.share in
    let looked = face_rate rates layer metal face c.context-under.result.0 c.context-under.result.1 (ground, share) c.rate-rate.ensures c.context-under.ensures.under c.context-under.ensures.over in
    let of_both = rate_sound (g.R.Rater.has_rules c.args.rater.now) rates V.adding V.sound keeps layer _ _ _ _ ground share c.requires.rules c.rate-rate.ensures in
    of_both.0

pub enter_part-requires-2-clause-sound : goal.enter_part-requires-2-clause-sound
enter_part-requires-2-clause-sound g c =
    let V = g.R.Value.Amount in
    let rater = g.met.R.Rater g.world.𝓛 g.world.𝓜 g.world.𝓡 ((λ s x. x), (λ x. x), (λ x. x), λ x. x) in
    let amount = g.met.R.Value.Amount g.world.𝓛 g.world.𝓜 g.world.𝓡 ((λ s x. x), (λ x. x), (λ x. x), λ x. x) in
    let keeps = rater.laws c.args.rater.now in
    let laws = amount.laws in
    let face = c.args.face.now in
    let n = c.args.n in
    let layer = c.args.layer in
    let metal = layers_of c.args.metal in
    let rates = g.R.Rater.rates_of c.args.rater.now in
    let ground = c.rate-rate.result.ground in
    let share = c.rate-rate.result.share in
    let looked = face_rate rates layer metal face c.context-under.result.0 c.context-under.result.1 (ground, share) c.rate-rate.ensures c.context-under.ensures.under c.context-under.ensures.over in
    let of_both = rate_sound (g.R.Rater.has_rules c.args.rater.now) rates V.adding V.sound keeps layer _ _ _ _ ground share c.requires.rules c.rate-rate.ensures in
    of_both.1

pub enter_part-requires-clause-room : goal.enter_part-requires-clause-room
enter_part-requires-clause-room g c =
    let V = g.R.Value.Amount in
    let rater = g.met.R.Rater g.world.𝓛 g.world.𝓜 g.world.𝓡 ((λ s x. x), (λ x. x), (λ x. x), λ x. x) in
    let amount = g.met.R.Value.Amount g.world.𝓛 g.world.𝓜 g.world.𝓡 ((λ s x. x), (λ x. x), (λ x. x), λ x. x) in
    let keeps = rater.laws c.args.rater.now in
    let laws = amount.laws in
    let face = c.args.face.now in
    let n = c.args.n in
    let layer = c.args.layer in
    let metal = layers_of c.args.metal in
    let rates = g.R.Rater.rates_of c.args.rater.now in
    let ground = c.rate-rate.result.ground in
    let share = c.rate-rate.result.share in
    let looked = face_rate rates layer metal face c.context-under.result.0 c.context-under.result.1 (ground, share) c.rate-rate.ensures c.context-under.ensures.under c.context-under.ensures.over in
    let of_both = rate_sound (g.R.Rater.has_rules c.args.rater.now) rates V.adding V.sound keeps layer _ _ _ _ ground share c.requires.rules c.rate-rate.ensures in
    let own = c.own_key.result in
    let seen = option_and_then (shared_key (face_value face).own) (foreign_metal (face_value face).own (face_value face).sight) in
    let of_f = part_sound V.adding V.fits V.sound laws n ground own of_both.0 in
    let of_g = part_sound V.adding V.fits V.sound laws n share seen of_both.1 in
    let h = λ (q : Key). worth_at (sums V.adding) (many V.adding n) q (rated rates layer metal (face_value face)) in
    let splits : (q : Key) → h q ≡ (sums V.adding).plus (part_added V.adding n ground own q) (part_added V.adding n share seen q) = rated_splits V.adding V.fits V.sound laws rates layer n metal face ground share own seen looked c.own_key.ensures refl of_both.0 of_both.1 in
    room_first V.adding V.fits V.sound laws c.args.tally.now (part_added V.adding n ground own) (part_added V.adding n share seen) h c.requires.tally of_f of_g c.requires.room splits

pub enter_part-requires-2-clause-room : goal.enter_part-requires-2-clause-room
enter_part-requires-2-clause-room g c =
    let V = g.R.Value.Amount in
    let rater = g.met.R.Rater g.world.𝓛 g.world.𝓜 g.world.𝓡 ((λ s x. x), (λ x. x), (λ x. x), λ x. x) in
    let amount = g.met.R.Value.Amount g.world.𝓛 g.world.𝓜 g.world.𝓡 ((λ s x. x), (λ x. x), (λ x. x), λ x. x) in
    let keeps = rater.laws c.args.rater.now in
    let laws = amount.laws in
    let face = c.args.face.now in
    let n = c.args.n in
    let layer = c.args.layer in
    let metal = layers_of c.args.metal in
    let rates = g.R.Rater.rates_of c.args.rater.now in
    let ground = c.rate-rate.result.ground in
    let share = c.rate-rate.result.share in
    let looked = face_rate rates layer metal face c.context-under.result.0 c.context-under.result.1 (ground, share) c.rate-rate.ensures c.context-under.ensures.under c.context-under.ensures.over in
    let of_both = rate_sound (g.R.Rater.has_rules c.args.rater.now) rates V.adding V.sound keeps layer _ _ _ _ ground share c.requires.rules c.rate-rate.ensures in
    let own = c.own_key.result in
    let seen = c.seen_key.result in
    let of_f = part_sound V.adding V.fits V.sound laws n ground own of_both.0 in
    let of_g = part_sound V.adding V.fits V.sound laws n share seen of_both.1 in
    let h = λ (q : Key). worth_at (sums V.adding) (many V.adding n) q (rated rates layer metal (face_value face)) in
    let splits : (q : Key) → h q ≡ (sums V.adding).plus (part_added V.adding n ground own q) (part_added V.adding n share seen q) = rated_splits V.adding V.fits V.sound laws rates layer n metal face ground share own seen looked c.own_key.ensures c.seen_key.ensures of_both.0 of_both.1 in
    room_second V.adding V.fits V.sound laws c.args.tally.now c.enter_part.new.tally (part_added V.adding n ground own) (part_added V.adding n share seen) h c.requires.tally of_f of_g c.requires.room splits c.in_ok-enter_part.ensures

pub returns : goal.returns
returns g c =
    let V = g.R.Value.Amount in
    let rater = g.met.R.Rater g.world.𝓛 g.world.𝓜 g.world.𝓡 ((λ s x. x), (λ x. x), (λ x. x), λ x. x) in
    let amount = g.met.R.Value.Amount g.world.𝓛 g.world.𝓜 g.world.𝓡 ((λ s x. x), (λ x. x), (λ x. x), λ x. x) in
    let keeps = rater.laws c.args.rater.now in
    let laws = amount.laws in
    let face = c.args.face.now in
    let n = c.args.n in
    let layer = c.args.layer in
    let metal = layers_of c.args.metal in
    let rates = g.R.Rater.rates_of c.args.rater.now in
    let ground = c.rate-rate.result.ground in
    let share = c.rate-rate.result.share in
    let looked = face_rate rates layer metal face c.context-under.result.0 c.context-under.result.1 (ground, share) c.rate-rate.ensures c.context-under.ensures.under c.context-under.ensures.over in
    let of_both = rate_sound (g.R.Rater.has_rules c.args.rater.now) rates V.adding V.sound keeps layer _ _ _ _ ground share c.requires.rules c.rate-rate.ensures in
    let own = c.own_key.result in
    let seen = c.seen_key.result in
    let of_f = part_sound V.adding V.fits V.sound laws n ground own of_both.0 in
    let of_g = part_sound V.adding V.fits V.sound laws n share seen of_both.1 in
    let h = λ (q : Key). worth_at (sums V.adding) (many V.adding n) q (rated rates layer metal (face_value face)) in
    let splits : (q : Key) → h q ≡ (sums V.adding).plus (part_added V.adding n ground own q) (part_added V.adding n share seen q) = rated_splits V.adding V.fits V.sound laws rates layer n metal face ground share own seen looked c.own_key.ensures c.seen_key.ensures of_both.0 of_both.1 in
    on_ok c.enter_part-2.result c.enter_part-2.ensures (λ last.
    enters_both V.adding V.fits V.sound laws c.args.tally.now c.enter_part.new.tally c.enter_part-2.new.tally (part_added V.adding n ground own) (part_added V.adding n share seen) h c.requires.tally of_f of_g c.in_ok-enter_part.ensures last splits)
