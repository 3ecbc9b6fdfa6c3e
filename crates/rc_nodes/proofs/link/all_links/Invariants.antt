use Rattle.std.proofs.Common.{take}
use Rattle.std.specs.Prelude.{◌↔◌, Contains}
use Rattle.rc_nodes.specs.declared.link.ViaLink.{ViaLink}
use Rattle.rc_nodes.specs.Vias.{IsLink}
use Rattle.rc_nodes.proofs.link.all_links.Given as goal

abbrev pub invariant-loop-k : goal.invariant-loop-k
invariant-loop-k l = (link : ViaLink) → Contains l.links.items link ↔ IsLink l.nodes l.vias (take l.k l.placed) link
