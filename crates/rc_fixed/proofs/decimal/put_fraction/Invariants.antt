use Rattle.std.proofs.Common.{◌≡◌, ◌+◌, ◌-◌, ◌<◌, ◌≤◌, ◌^◌, ◌++◌, ◌∷◌, take, drop}
use Rattle.rc_fixed.specs.Decimal.{digits_behind}
use Rattle.rc_fixed.proofs.decimal.put_fraction.Given as goal

-- of the fifteen places, those behind `end` are left, for the rest
abbrev pub invariant-loop-rest : goal.invariant-loop-rest
invariant-loop-rest l = record {
  start : l.fn.at + 1 ≤ l.end;
  within : l.end ≤ l.fn.at + 16;
  unit : l.unit ≡ 10 ^ (l.fn.at + 16 - l.end);
  small : l.rest < l.unit;
  text : take l.end l.out ++ digits_behind (l.fn.at + 16 - l.end) l.rest ≡ take l.fn.at l.fn.out ++ 46 ∷ digits_behind 15 l.fn.rest;
  behind : drop l.end l.out ≡ drop l.end l.fn.out;
}

abbrev pub decreases-loop-rest : goal.decreases-loop-rest
decreases-loop-rest l = l.fn.at + 16 - l.end
