use Rattle.std.proofs.Common.{arith}
use Rattle.std.proofs.lemmas.Int.{ints}
use Rattle.rc_windows.proofs.Meetings.{ends_apart, span_same}
use Rattle.rc_windows.proofs.frame.Frame.rows.Goals as goal

pub windows_of-requires-clause-low : goal.windows_of-requires-clause-low
windows_of-requires-clause-low c = let ends = ends_apart c.args.self.now c.args.rect.now c.requires.near in omega (arith, ints, ends.below)

pub windows_of-requires-clause-high : goal.windows_of-requires-clause-high
windows_of-requires-clause-high c = let ends = ends_apart c.args.self.now c.args.rect.now c.requires.near in omega (arith, ints, ends.above)

pub returns : goal.returns
returns c =
    let frame = c.args.self.now in
    let rect = c.args.rect.now in
    span_same frame.up frame.halo _ rect.y0 _ rect.y1 c.windows_of.result (omega (arith, ints)) (omega (arith, ints)) c.windows_of.ensures
