use Rattle.std.proofs.Common.{◌≡◌, true}
use Rattle.rc_geom.specs.Rects.{has_points}
use Rattle.rc_geom.proofs.Commons.{lowest_common_at}
use Rattle.rc_geom.proofs.rect.meets_closed.Goals as goal

pub returns-then-touching : goal.returns-then-touching
returns-then-touching c =
    let room : has_points c.common-part.result ≡ true = cc in
    lowest_common_at c.args.a c.args.b c.common-part.result c.corner.result c.common-part.ensures room c.corner.ensures.x c.corner.ensures.y
