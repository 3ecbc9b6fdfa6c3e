use Rattle.std.proofs.Common.{rules}
use Rattle.std.proofs.lemmas.Result.{IfOk-weaker}
use Rattle.std.specs.Prelude.{MatchOption, None}
use Rattle.std.specs.List.Sorted.{IsPermutation}
use Rattle.rc_shorts.specs.Shorts.{IsShortIn, IsClear, IsFirstPair}
use Rattle.rc_shorts.specs.Search.{Leads}
use Rattle.rc_shorts.proofs.Firsts.{first_from_leads, moved_first}
use Rattle.rc_shorts.proofs.search.first_pair.Goals as goal

pub returns : goal.returns
returns c =
    let shapes = c.args.shapes.now in
    let sorted = c.deref.result.now in
    let moved : IsPermutation shapes sorted = search rules in
    IfOk-weaker c.leader-2.result (Leads None (IsShortIn sorted)) (λ found. MatchOption found (IsClear shapes) (IsFirstPair shapes))
    (λ found leads. moved_first shapes sorted found moved (first_from_leads sorted found leads)) c.leader-2.ensures
