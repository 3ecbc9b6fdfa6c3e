-- The nets so far are linked.
use Rattle.std.proofs.Common.{◌≡◌, ◌++◌, Ok}
use Rattle.std.specs.Prelude.{All}
use Rattle.std.specs.Vec.Iter.{into_iter_items}
use Rattle.rc_layout.specs.Layouts.{net_linked}
use Rattle.rc_layout.specs.Ranges.{IsParts, IsPath}
use Rattle.rc_layout.specs.Refusals.{through}
use Rattle.rc_layout.proofs.wired.Wired.add_nets.Given as goal

abbrev pub invariant-loop-raw : goal.invariant-loop-raw
invariant-loop-raw l = record {
  is : through (net_linked l.specials) l.initial.self l.yielded ≡ Ok l.self;
  left : l.fn.raws ≡ l.yielded ++ into_iter_items l.raw-iterator;
  parts : IsParts l.self.parts;
  paths : All (λ raw. All IsPath raw.paths) (into_iter_items l.raw-iterator);
}
