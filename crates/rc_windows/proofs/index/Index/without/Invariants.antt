use Rattle.std.proofs.Common.{◌≡◌, ◌≤◌, [], take, map, length, get_or}
use Rattle.rc_windows.specs.Indexes.{others_of}
use Rattle.rc_windows.proofs.index.Index.without.Given as goal

-- the lists of the windows so far
abbrev pub invariant-loop-at : goal.invariant-loop-at
invariant-loop-at l = record {
  is : l.lists.items ≡ map (λ k. others_of l.net (get_or l.self k [])) (take l.at l.list);
  within : l.at ≤ length l.list;
}
