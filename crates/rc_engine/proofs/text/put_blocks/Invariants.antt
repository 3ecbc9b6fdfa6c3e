-- The blocks of the nets so far.
use Rattle.std.proofs.Common.{◌≡◌, ◌++◌, map, take}
use Rattle.std.specs.List.{flat_map}
use Rattle.rc_spef.specs.Text.{net_text}
use Rattle.rc_engine.specs.Extraction.{net_value, numbered_nets}
use Rattle.rc_engine.proofs.text.put_blocks.Given as goal

abbrev pub invariant-loop-own : goal.invariant-loop-own
invariant-loop-own l = record {
  number : l.number ≡ l.own-index;
  bytes : l.pieces.bytes ≡ l.fn.pieces.bytes ++ flat_map net_text (map (net_value l.layout l.rules) (take l.number (numbered_nets l.layout)));
}
