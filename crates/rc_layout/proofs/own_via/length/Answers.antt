-- A length of the design stays modest in units of the layout.
use Rattle.std.proofs.Common.{rules, w32, w64}
use Rattle.std.proofs.lemmas.Int.{to_z-of_z}
use Rattle.rc_layout.proofs.Modest.{modest}
use Rattle.rc_layout.proofs.own_via.length.Goals as goal

pub returns-clause-modest : goal.returns-clause-modest
returns-clause-modest c =
    rw (to_z-of_z w64 c.scale.result (search rules), c.scale.ensures.is, to_z-of_z w32 c.args.z c.ranges.z)
    (modest c.args.factor c.args.z c.requires.factor c.requires.length.low c.requires.length.high)
