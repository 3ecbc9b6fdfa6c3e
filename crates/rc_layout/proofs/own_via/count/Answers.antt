use Rattle.std.proofs.Common.{◌≡◌, rules, w64}
use Rattle.std.proofs.lemmas.Int.{to_z-of_z}
use Rattle.rc_layout.proofs.Arrays.{few_are}
use Rattle.rc_layout.proofs.own_via.count.Goals as goal

pub returns-clause-few : goal.returns-clause-few
returns-clause-few c =
    let from : c.from.result ≡ c.args.z = search rules in
    rw (to_z-of_z w64 c.from.result (search rules), from) (few_are c.args.z c.requires)
