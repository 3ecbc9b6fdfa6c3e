-- The values of the nets so far.
use Rattle.std.proofs.Common.{◌≡◌, map, take}
use Rattle.rc_engine.specs.Extraction.{net_value, numbered_nets}
use Rattle.rc_engine.proofs.value.values_of.Given as goal

abbrev pub invariant-loop-own : goal.invariant-loop-own
invariant-loop-own l = record {
  number : l.number ≡ l.own-index;
  values : l.values ≡ map (net_value l.layout l.rules) (take l.number (numbered_nets l.layout));
}
