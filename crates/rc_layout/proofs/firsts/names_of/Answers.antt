-- The name of the next thing is new.
use Rattle.std.proofs.Common.{ap, ◌∙◌}
use Rattle.rc_layout.proofs.Named.{next_new}
use Rattle.rc_layout.proofs.firsts.names_of.Goals as goal

pub put-requires : goal.put-requires
put-requires g c =
    next_new g.T.Named.called c.loop-item.names c.args.items.now c.loop-item.item-index c.item-item.result c.in_ok-text.text c.requires c.loop-item.invariant
    c.loop-item-test.true (c.in_ok-text.ensures.copy ∙ c.name.ensures ∙ ap g.T.Named.called c.item-item.is)
