-- The names so far.
use Rattle.std.proofs.Common.{◌≡◌, ◌++◌, take, map}
use Rattle.rc_engine.specs.Names.{escaped_in, called}
use Rattle.rc_engine.proofs.naming.push_comps.Given as goal

abbrev pub invariant-loop-comp : goal.invariant-loop-comp
invariant-loop-comp l = l.names ≡ l.initial.names ++ map (λ comp. escaped_in l.layout.parts (called l.layout.parts.comps comp)) (take l.comp-index l.comps)
