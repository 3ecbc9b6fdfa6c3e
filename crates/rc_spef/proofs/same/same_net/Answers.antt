use Rattle.rc_spef.proofs.Alike.{nets_told, found}
use Rattle.rc_spef.proofs.same.same_net.Goals as goal

pub returns : goal.returns
returns c =
    nets_told c.items.result.now c.items-2.result.now c.args.a.now.names c.args.b.now.names c.args.a.now.nets c.args.b.now.nets c.args.i c.args.j c.index-items-i.result c.index-items-j.result c.same.result c.items.ensures c.items-2.ensures
    (found c.items-3.result.now c.args.a.now.nets c.args.i c.index-items-i.result c.items-3.ensures c.requires.i c.index-items-i.is)
    (found c.items-4.result.now c.args.b.now.nets c.args.j c.index-items-j.result c.items-4.ensures c.requires.j c.index-items-j.is) c.same.ensures
