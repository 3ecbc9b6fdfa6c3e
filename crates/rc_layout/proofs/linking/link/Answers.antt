-- The conditions of each part, by what holds of a technology and of a design; and the layout, part by part.
use Rattle.std.proofs.Common.{sym, Ok, Err}
use Rattle.rc_def.specs.Drafts.{name_of_net}
use Rattle.rc_layout.proofs.FactsLink.{parts_are}
use Rattle.rc_layout.proofs.Named.{new_from}
use Rattle.rc_layout.proofs.Standing.{vias_have, names_have, specials_have, nets_have}
use Rattle.rc_layout.proofs.Whole.{parts_refused, nets_refused, all_linked, limits_keep}
use Rattle.rc_layout.proofs.linking.link.Goals as goal

pub link_parts-requires-clause-made : goal.link_parts-requires-clause-made
link_parts-requires-clause-made c = vias_have c.args.raw c.requires

pub link_parts-requires-clause-names : goal.link_parts-requires-clause-names
link_parts-requires-clause-names c = names_have c.args.raw c.requires

pub link_nets-requires-clause-parts : goal.link_nets-requires-clause-parts
link_nets-requires-clause-parts c =
    parts_are c.args.tech c.args.raw c.in-Ok-link_parts.parts c.facts.ensures c.requires c.in-Ok.ensures.comps c.in-Ok.ensures.pins (rw c.in-Ok-link_parts.is at c.link_parts.ensures)

pub link_nets-requires-clause-names : goal.link_nets-requires-clause-names
link_nets-requires-clause-names c = new_from name_of_net c.args.raw.specials c.requires.names.specials

pub link_nets-requires-clause-specials : goal.link_nets-requires-clause-specials
link_nets-requires-clause-specials c = specials_have c.args.raw c.requires

pub link_nets-requires-clause-nets : goal.link_nets-requires-clause-nets
link_nets-requires-clause-nets c = nets_have c.args.raw c.requires

pub within_limits-requires : goal.within_limits-requires
within_limits-requires c =
    limits_keep c.args.tech c.args.raw c.in-Ok-link_parts.parts c.in-Ok-link_nets.wired c.facts.ensures c.requires (rw c.in-Ok-link_parts.is at c.link_parts.ensures) (rw c.in-Ok-link_nets.is at c.link_nets.ensures)

pub returns-in-Err : goal.returns-in-Err
returns-in-Err c = parts_refused c.args.tech c.args.raw c.in-Err.fault (rw c.in-Err.is at c.link_parts.ensures)

pub returns-in-Err-link_nets : goal.returns-in-Err-link_nets
returns-in-Err-link_nets c =
    nets_refused c.args.tech c.args.raw c.in-Ok-link_parts.parts c.in-Err-link_nets.fault (rw c.in-Ok-link_parts.is at c.link_parts.ensures) (rw c.in-Err-link_nets.is at c.link_nets.ensures)

pub returns-in-Ok-within_limits : goal.returns-in-Ok-within_limits
returns-in-Ok-within_limits c =
    all_linked c.args.tech c.args.raw c.in-Ok-link_parts.parts c.in-Ok-link_nets.wired (Ok c.in-Ok-within_limits.layout) (rw c.in-Ok-link_parts.is at c.link_parts.ensures) (rw c.in-Ok-link_nets.is at c.link_nets.ensures)
    (sym (rw c.in-Ok-within_limits.is at c.within_limits.ensures))

pub returns-in-Err-within_limits : goal.returns-in-Err-within_limits
returns-in-Err-within_limits c =
    all_linked c.args.tech c.args.raw c.in-Ok-link_parts.parts c.in-Ok-link_nets.wired (Err c.in-Err-within_limits.refusal) (rw c.in-Ok-link_parts.is at c.link_parts.ensures) (rw c.in-Ok-link_nets.is at c.link_nets.ensures)
    (sym (rw c.in-Err-within_limits.is at c.within_limits.ensures))
