-- The entries have the names of what was written, and the technology's cells can stand.
use Rattle.std.proofs.Common.{sym, subst}
use Rattle.std.specs.Prelude.{All}
use Rattle.rc_lef.specs.Technology.{Technology}
use Rattle.rc_layout.specs.Ranges.{CanStand}
use Rattle.rc_layout.proofs.Linked.{lists_keep}
use Rattle.rc_layout.proofs.Standing.{cells_stand}
use Rattle.rc_layout.proofs.given.link_parts.Goals as goal

pub link_lists-requires-clause-cells : goal.link_lists-requires-clause-cells
link_lists-requires-clause-cells c = subst (λ (t : Technology). All CanStand t.macros) (sym c.new-process.ensures) (cells_stand c.args.tech c.facts.ensures)

pub parts_of-requires-clause-names : goal.parts_of-requires-clause-names
parts_of-requires-clause-names c = lists_keep c.new-process.result c.in-Ok.factor c.args.raw c.in-Ok-link_lists.lists (rw c.in-Ok-link_lists.is at c.link_lists.ensures) c.requires.names
