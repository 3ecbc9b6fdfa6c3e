-- A net by its number, of either kind.
use Rattle.std.proofs.Common.{◌≡◌, ◌-◌, length}
use Rattle.rc_nodes.specs.Nodes.{nodes_of}
use Rattle.rc_engine.proofs.Drawings.{own_nodes_are, own_drawn, grounded_within, grounded_drawn}
use Rattle.rc_engine.proofs.Measures.{own_tied, grounded_formed, nodes_in_order, few_nodes}
use Rattle.rc_engine.proofs.measured.drawn.Goals as goal

pub bounds-grounded-place : goal.bounds-grounded-place
bounds-grounded-place c = grounded_within c.args.layout.now c.nets-nets.result.now c.grounded.result.now c.args.number c.nets-nets.ensures c.grounded.ensures c.if-place-nets.false c.requires.number

pub returns-then-place-nets-clause-at : goal.returns-then-place-nets-clause-at
returns-then-place-nets-clause-at c =
    own_drawn c.args.layout.now c.nets-nets.result.now c.args.lists.now c.args.number c.index-nets-place.result c.index-lists-place.result c.items.result.now c.nets-nets.ensures c.if-place-nets.true c.index-nets-place.is c.requires.lists.are c.index-lists-place.is c.items.ensures

nodes_are : (c : goal.After-items) → c.items.result.now ≡ nodes_of c.index-nets-place.result
nodes_are c =
    own_nodes_are c.args.layout.now c.nets-nets.result.now c.args.lists.now c.args.number c.index-nets-place.result c.index-lists-place.result c.items.result.now c.nets-nets.ensures c.if-place-nets.true c.index-nets-place.is c.requires.lists.are c.index-lists-place.is c.items.ensures

pub returns-then-place-nets-clause-order : goal.returns-then-place-nets-clause-order
returns-then-place-nets-clause-order c =
    nodes_in_order c.index-nets-place.result c.items.result.now (own_tied c.args.layout.now c.nets-nets.result.now c.args.number c.index-nets-place.result c.facts.ensures c.nets-nets.ensures c.if-place-nets.true c.index-nets-place.is) (nodes_are c)

pub returns-then-place-nets-clause-few : goal.returns-then-place-nets-clause-few
returns-then-place-nets-clause-few c =
    few_nodes c.args.layout.now c.nets-nets.result.now c.args.number c.index-nets-place.result c.items.result.now c.nets-nets.ensures c.if-place-nets.true c.index-nets-place.is c.requires.lists.few (nodes_are c)

pub returns-else-place-nets-clause-at : goal.returns-else-place-nets-clause-at
returns-else-place-nets-clause-at c =
    grounded_drawn c.args.layout.now c.nets-nets.result.now c.grounded.result.now c.args.number c.index-grounded-place.result c.nets-nets.ensures c.grounded.ensures c.if-place-nets.false c.requires.number c.index-grounded-place.is

pub returns-else-place-nets-clause-net : goal.returns-else-place-nets-clause-net
returns-else-place-nets-clause-net c =
    grounded_formed c.args.layout.now c.grounded.result.now (c.args.number - length c.nets-nets.result.now) c.index-grounded-place.result c.facts.ensures c.grounded.ensures
    (grounded_within c.args.layout.now c.nets-nets.result.now c.grounded.result.now c.args.number c.nets-nets.ensures c.grounded.ensures c.if-place-nets.false c.requires.number) c.index-grounded-place.is
