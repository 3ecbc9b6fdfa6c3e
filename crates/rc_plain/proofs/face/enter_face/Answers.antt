use Rattle.std.proofs.Common.{refl}
use Rattle.std.specs.Option.{option_and_then}
use Rattle.rc_geom.specs.Parts.{shared_key, foreign_metal}
use Rattle.rc_geom.specs.Plane.{plane_of}
use Rattle.rc_squares.specs.Found.{face_value}
use Rattle.rc_sums.proofs.Enters.{part_added, enters_both, room_first, room_second, on_ok}
use Rattle.rc_sums.proofs.Faces.{part_sound}
use Rattle.rc_plain.specs.Squares.{face_added}
use Rattle.rc_plain.proofs.Squares.{face_adds, rate_sound}
use Rattle.rc_plain.proofs.face.enter_face.Goals as goal

pub enter_part-requires-clause-sound : goal.enter_part-requires-clause-sound
enter_part-requires-clause-sound g c =
    let V = g.R.Value.Amount in
    let rater = g.met.R.Rater g.world.𝓛 g.world.𝓜 g.world.𝓡 ((λ s x. x), (λ x. x), (λ x. x), λ x. x) in
    (rate_sound (g.R.Rater.has_rules c.args.rater.now) (g.R.Rater.rates_of c.args.rater.now) V.adding V.sound (rater.laws c.args.rater.now) (plane_of c.args.tiles.now) c.args.layer c.args.at (face_value c.args.face) c.rate_of-rate.result.ground c.rate_of-rate.result.share c.requires.rules c.rate_of-rate.ensures).0

pub enter_part-requires-2-clause-sound : goal.enter_part-requires-2-clause-sound
enter_part-requires-2-clause-sound g c =
    let V = g.R.Value.Amount in
    let rater = g.met.R.Rater g.world.𝓛 g.world.𝓜 g.world.𝓡 ((λ s x. x), (λ x. x), (λ x. x), λ x. x) in
    (rate_sound (g.R.Rater.has_rules c.args.rater.now) (g.R.Rater.rates_of c.args.rater.now) V.adding V.sound (rater.laws c.args.rater.now) (plane_of c.args.tiles.now) c.args.layer c.args.at (face_value c.args.face) c.rate_of-rate.result.ground c.rate_of-rate.result.share c.requires.rules c.rate_of-rate.ensures).1

pub enter_part-requires-clause-room : goal.enter_part-requires-clause-room
enter_part-requires-clause-room g c =
    let V = g.R.Value.Amount in
    let rater = g.met.R.Rater g.world.𝓛 g.world.𝓜 g.world.𝓡 ((λ s x. x), (λ x. x), (λ x. x), λ x. x) in
    let amount = g.met.R.Value.Amount g.world.𝓛 g.world.𝓜 g.world.𝓡 ((λ s x. x), (λ x. x), (λ x. x), λ x. x) in
    let keeps = rater.laws c.args.rater.now in
    let laws = amount.laws in
    let has = g.R.Rater.has_rules c.args.rater.now in
    let plane = plane_of c.args.tiles.now in
    let rates = g.R.Rater.rates_of c.args.rater.now in
    let before = c.args.tally.now in
    let face = face_value c.args.face in
    let ground = c.rate_of-rate.result.ground in
    let share = c.rate_of-rate.result.share in
    let own = c.node_key.result in
    let of_both = rate_sound has rates V.adding V.sound keeps plane c.args.layer c.args.at face ground share c.requires.rules c.rate_of-rate.ensures in
    let whole = face_added V.adding plane rates c.args.layer c.args.at face in
    let of_own = part_sound V.adding V.fits V.sound laws 1 ground own of_both.0 in
    let seen = option_and_then (shared_key face.own) (foreign_metal face.own face.sight) in
    room_first V.adding V.fits V.sound laws before (part_added V.adding 1 ground own) (part_added V.adding 1 share seen) whole c.requires.tally of_own (part_sound V.adding V.fits V.sound laws 1 share seen of_both.1) c.requires.room
    (face_adds V.adding V.fits V.sound laws plane rates c.args.layer c.args.at face ground share own seen c.rate_of-rate.ensures c.node_key.ensures refl of_both.0 of_both.1)

pub enter_part-requires-2-clause-room : goal.enter_part-requires-2-clause-room
enter_part-requires-2-clause-room g c =
    let V = g.R.Value.Amount in
    let rater = g.met.R.Rater g.world.𝓛 g.world.𝓜 g.world.𝓡 ((λ s x. x), (λ x. x), (λ x. x), λ x. x) in
    let amount = g.met.R.Value.Amount g.world.𝓛 g.world.𝓜 g.world.𝓡 ((λ s x. x), (λ x. x), (λ x. x), λ x. x) in
    let keeps = rater.laws c.args.rater.now in
    let laws = amount.laws in
    let has = g.R.Rater.has_rules c.args.rater.now in
    let plane = plane_of c.args.tiles.now in
    let rates = g.R.Rater.rates_of c.args.rater.now in
    let before = c.args.tally.now in
    let face = face_value c.args.face in
    let ground = c.rate_of-rate.result.ground in
    let share = c.rate_of-rate.result.share in
    let own = c.node_key.result in
    let of_both = rate_sound has rates V.adding V.sound keeps plane c.args.layer c.args.at face ground share c.requires.rules c.rate_of-rate.ensures in
    let whole = face_added V.adding plane rates c.args.layer c.args.at face in
    let of_own = part_sound V.adding V.fits V.sound laws 1 ground own of_both.0 in
    let seen = c.seen_key.result in
    room_second V.adding V.fits V.sound laws before c.enter_part.new.tally (part_added V.adding 1 ground own) (part_added V.adding 1 share seen) whole c.requires.tally of_own (part_sound V.adding V.fits V.sound laws 1 share seen of_both.1) c.requires.room
    (face_adds V.adding V.fits V.sound laws plane rates c.args.layer c.args.at face ground share own seen c.rate_of-rate.ensures c.node_key.ensures c.seen_key.ensures of_both.0 of_both.1) c.in_ok-enter_part.ensures

pub returns : goal.returns
returns g c =
    let V = g.R.Value.Amount in
    let rater = g.met.R.Rater g.world.𝓛 g.world.𝓜 g.world.𝓡 ((λ s x. x), (λ x. x), (λ x. x), λ x. x) in
    let amount = g.met.R.Value.Amount g.world.𝓛 g.world.𝓜 g.world.𝓡 ((λ s x. x), (λ x. x), (λ x. x), λ x. x) in
    let keeps = rater.laws c.args.rater.now in
    let laws = amount.laws in
    let has = g.R.Rater.has_rules c.args.rater.now in
    let plane = plane_of c.args.tiles.now in
    let rates = g.R.Rater.rates_of c.args.rater.now in
    let before = c.args.tally.now in
    let face = face_value c.args.face in
    let ground = c.rate_of-rate.result.ground in
    let share = c.rate_of-rate.result.share in
    let own = c.node_key.result in
    let of_both = rate_sound has rates V.adding V.sound keeps plane c.args.layer c.args.at face ground share c.requires.rules c.rate_of-rate.ensures in
    let whole = face_added V.adding plane rates c.args.layer c.args.at face in
    let of_own = part_sound V.adding V.fits V.sound laws 1 ground own of_both.0 in
    let seen = c.seen_key.result in
    on_ok c.enter_part-2.result c.enter_part-2.ensures (λ last.
    enters_both V.adding V.fits V.sound laws before c.enter_part.new.tally c.enter_part-2.new.tally (part_added V.adding 1 ground own) (part_added V.adding 1 share seen) whole c.requires.tally of_own (part_sound V.adding V.fits V.sound laws 1 share seen of_both.1) c.in_ok-enter_part.ensures last
    (face_adds V.adding V.fits V.sound laws plane rates c.args.layer c.args.at face ground share own seen c.rate_of-rate.ensures c.node_key.ensures c.seen_key.ensures of_both.0 of_both.1))
