use Rattle.std.proofs.Common.{◌≡◌, ◌∙◌, sym, ap, rules, tests}
use Rattle.std.specs.Prelude.{nat_lt, true}
use Rattle.std.proofs.lemmas.List.Sorted.{IsPartitionPoint-from_clause, IsPartitionedBy-ltb}
use Rattle.rc_rules.specs.Scales.{rises}
use Rattle.rc_rules.specs.Rising.{sorted, partition_place}
use Rattle.rc_rules.proofs.scale.Scale.place.Goals as goal

pub returns : goal.returns
returns c =
    let up : rises c.args.self.now ≡ true = ap rises (sym c.self.view_is) ∙ c.self.invariant.rising in
    let same = c.items.ensures ∙ c.self.view_is in
    let point = rw same at (IsPartitionPoint-from_clause (λ step. nat_lt step c.args.length) c.items.result.now c.partition_point.result c.partition_point.ensures.partitioned (rw same (IsPartitionedBy-ltb (λ x. x) c.args.self.now c.args.length (sorted c.args.self.now up))) (λ a r f called. search (rules, tests))) in
    sym (partition_place c.args.self.now c.args.length c.partition_point.result (rw same at c.partition_point.ensures.bound) point)
