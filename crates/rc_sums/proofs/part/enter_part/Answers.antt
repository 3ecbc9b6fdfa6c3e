use Rattle.std.proofs.Common.{rules, ◌≡◌, ◌<◌, ◌+◌, ◌^◌, true, ℕ, sym, ap, ◌∙◌, subst}
use Rattle.std.specs.Prelude.{IfSome}
use Rattle.rc_tally.specs.Amounts.{repeated}
use Rattle.rc_tally.specs.Tallies.{Sum, entry_at, Grows}
use Rattle.rc_sums.specs.Entering.{many}
use Rattle.rc_sums.proofs.Enters.{part_fits, times_fits, count_fits, count_beside, value_beside, part_enters, on_ok, sum_with}
use Rattle.rc_sums.proofs.part.enter_part.Goals as goal

pub times-requires : goal.times-requires
times-requires g c =
    let V = g.V.Amount in
    times_fits V.adding V.fits V.sound g.met.V.Amount.laws c.args.tally.now c.args.n c.args.amount c.args.key c.in-Some.key c.in-Some.is c.requires.sound c.requires.tally c.requires.room

pub add-requires-clause-count : goal.add-requires-clause-count
add-requires-clause-count g c =
    let V = g.V.Amount in
    let count : c.from.result ≡ c.args.n = search rules in
    subst (λ (n : ℕ). IfSome (entry_at c.args.tally.now c.in-Some.key) (λ e. e.count + n < 2 ^ 64)) (sym count)
    (count_beside V.adding (entry_at c.args.tally.now c.in-Some.key) c.args.n
    (count_fits V.adding V.fits V.sound g.met.V.Amount.laws c.args.tally.now c.args.n c.args.amount c.args.key c.in-Some.key c.in-Some.is c.requires.sound c.requires.room))

pub add-requires-clause-value : goal.add-requires-clause-value
add-requires-clause-value g c =
    let V = g.V.Amount in
    subst (λ (v : g.row.V.Denot). IfSome (entry_at c.args.tally.now c.in-Some.key) (λ e. V.fits (V.adding.plus e.value v) ≡ true)) (sym c.times.ensures)
    (value_beside V.adding V.fits (entry_at c.args.tally.now c.in-Some.key) (repeated V.adding c.args.n c.args.amount)
    (part_fits V.adding V.fits V.sound g.met.V.Amount.laws c.args.tally.now c.args.n c.args.amount c.args.key c.in-Some.key c.in-Some.is c.requires.sound c.requires.room))

pub returns-in-Some : goal.returns-in-Some
returns-in-Some g c =
    let V = g.V.Amount in
    let before = c.args.tally.now in
    let after = c.add.new.self in
    let count : c.from.result ≡ c.args.n = search rules in
    let same : sum_with {V = g.row.V.Denot} c.from.result c.times.result ≡ many V.adding c.args.n c.args.amount =
    ap (λ (n : ℕ). sum_with n c.times.result) count ∙ ap (sum_with c.args.n) c.times.ensures in
    on_ok c.add.result c.add.ensures.ok (λ grows.
    part_enters V.adding V.fits V.sound g.met.V.Amount.laws before after c.args.n c.args.amount c.args.key c.in-Some.key c.in-Some.is c.requires.sound c.requires.some c.requires.tally
    (subst (λ (s : Sum g.row.V.Denot). Grows V.adding before after c.in-Some.key s) same grows))
