use Rattle.std.proofs.Common.{◌≡◌, ◌++◌, take}
use Rattle.std.specs.List.{flat_map}
use Rattle.rc_windows.specs.Indexes.{places_of}
use Rattle.rc_windows.proofs.places.push_places.Given as goal

-- the places of the numbers so far are appended
abbrev pub invariant-loop-number : goal.invariant-loop-number
invariant-loop-number l = l.places.items ≡ l.initial.places.items ++ flat_map (places_of l.list) (take l.number-index l.numbers)
