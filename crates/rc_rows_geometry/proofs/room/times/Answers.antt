use Rattle.std.proofs.Common.{rules, ◌≡◌, ◌<◌, ◌*◌, ◌^◌, ℕ, ap, sym, ◌∙◌, subst}
use Rattle.std.proofs.lemmas.Bool.{lt-ltb}
use Rattle.rc_geom.specs.Sums.{numbers}
use Rattle.rc_tally.specs.Amounts.{repeated}
use Rattle.rc_tally.specs.Numbers.{repeated_numbers}
use Rattle.rc_rows_geometry.proofs.room.times.Goals as goal

pub times-requires : goal.times-requires
times-requires c =
    let product : repeated numbers c.args.n c.args.value ≡ c.args.value * c.args.n = repeated_numbers c.args.n c.args.value in
    let same : c.from.result ≡ c.args.n = search rules in
    let fits : c.args.value * c.from.result < 2 ^ 128 = c.in-Some.ensures.0 in
    lt-ltb (repeated numbers c.args.n c.args.value) (2 ^ 128) (subst (λ (m : ℕ). m < 2 ^ 128) (ap (λ (k : ℕ). c.args.value * k) same ∙ sym product) fits)

pub returns-in-Some : goal.returns-in-Some
returns-in-Some c = c.times.ensures ∙ repeated_numbers c.args.n c.args.value
