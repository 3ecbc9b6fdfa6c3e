-- One name more.
use Rattle.std.proofs.Common.{◌∙◌, ℕ, ap, map}
use Rattle.std.specs.Global.{Vec}
use Rattle.rc_engine.proofs.NameLists.{name_more, all_names}
use Rattle.rc_engine.proofs.net_names.NetNames.new.Goals as goal

pub loop-net-init : goal.loop-net-init
loop-net-init c = ap (map (λ (k : Vec ℕ). k.items)) c.new-names.ensures.empty

pub loop-net-preserved : goal.loop-net-preserved
loop-net-preserved c =
    name_more c.args.nets.now c.loop-net.net-index c.net-item.result c.loop-net.names.keys c.insert.new.self.keys c.in_ok-from_slice.field-0 c.requires c.loop-net-test.true c.net-item.is c.loop-net.invariant
    (c.in_ok-from_slice.ensures.items ∙ c.bytes.ensures) c.in_ok-insert.ensures.keys

pub returns : goal.returns
returns c = all_names c.args.nets.now c.loop-net.net-index c.loop-net.names.keys c.loop-net-test.false c.loop-net.invariant
