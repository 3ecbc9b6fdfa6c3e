use Rattle.std.proofs.Common.{subst}
use Rattle.std.specs.List.Sorted.{IsPermutation}
use Rattle.rc_nodes.proofs.Found.{sorted_taps}
use Rattle.rc_nodes.proofs.line.taps.Goals as goal

pub returns : goal.returns
returns c =
    sorted_taps c.args.level c.args.nodes.now c.sort_unstable.new.self.items
    (subst (λ xs. IsPermutation xs c.sort_unstable.new.self.items) c.in_ok-taps.ensures c.sort_unstable.ensures.permutation)
    c.sort_unstable.ensures.sorted
