use Rattle.std.proofs.Common.{ℕ, List, eqb, sym, subst}
use Rattle.std.specs.Prelude.{Contains}
use Rattle.std.specs.List.Sorted.{IsStrictlyIncreasing}
use Rattle.std.proofs.lemmas.List.Filters.{dedup_is}
use Rattle.std.proofs.lemmas.List.Kept.{Contains-dedup_nat, Contains-from_dedup}
use Rattle.std.proofs.lemmas.List.Sorted.{Contains-permutation, IsPermutation-sym}
use Rattle.std.proofs.lemmas.Map.Keys.{IsStrictlyIncreasing-dedup}
use Rattle.rc_bars.proofs.order.in_wide_order.Goals as goal

pub returns-clause-rising : goal.returns-clause-rising
returns-clause-rising c =
    subst IsStrictlyIncreasing (sym (dedup_is eqb c.sort_unstable.new.self.items c.dedup.new.self.items c.dedup.ensures.filtered)) (IsStrictlyIncreasing-dedup c.sort_unstable.new.self.items c.sort_unstable.ensures.sorted)

pub returns-clause-kept : goal.returns-clause-kept
returns-clause-kept c = λ x has.
    let sorted = c.sort_unstable.new.self.items in
    subst (λ (xs : List ℕ). Contains xs x) (sym (dedup_is eqb sorted c.dedup.new.self.items c.dedup.ensures.filtered))
    (Contains-dedup_nat sorted x (Contains-permutation c.args.keys.items sorted x c.sort_unstable.ensures.permutation has))

pub returns-clause-from : goal.returns-clause-from
returns-clause-from c = λ x has.
    let sorted = c.sort_unstable.new.self.items in
    Contains-permutation sorted c.args.keys.items x (IsPermutation-sym c.args.keys.items sorted c.sort_unstable.ensures.permutation)
    (Contains-from_dedup eqb sorted x (subst (λ (xs : List ℕ). Contains xs x) (dedup_is eqb sorted c.dedup.new.self.items c.dedup.ensures.filtered) has))
