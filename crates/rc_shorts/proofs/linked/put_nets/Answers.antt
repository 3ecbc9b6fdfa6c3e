-- One net more.
use Rattle.std.proofs.Common.{◌<◌, ◌≤◌, ◌+◌, ◌++◌, ◌∙◌, ap, length, rules}
use Rattle.rc_layout.specs.declared.net.Net.{Net}
use Rattle.rc_shorts.specs.OfLayouts.{net_metal}
use Rattle.rc_shorts.specs.Places.{net_shapes}
use Rattle.rc_shorts.proofs.OfLayouts.{net_more, nets_done}
use Rattle.rc_shorts.proofs.linked.put_nets.Goals as goal

pub loop-place-preserved : goal.loop-place-preserved
loop-place-preserved c =
    let within : c.loop-place.place < length c.args.nets.now = search rules in
    let so_far = c.loop-place.list.items in
    net_more c.args.first c.args.nets.now c.loop-place.place c.index-nets-place.result c.args.list.now.items so_far c.put_net.new.list.items within c.loop-place.invariant
    (c.in_ok-put_net.ensures ∙ ap (λ (net : Net). so_far ++ net_shapes (c.args.first + c.loop-place.place) (net_metal net)) c.index-nets-place.is)

pub returns : goal.returns
returns c =
    let all : length c.args.nets.now ≤ c.loop-place.place = search rules in
    nets_done c.args.first c.args.nets.now c.loop-place.place c.args.list.now.items c.loop-place.list.items all c.loop-place.invariant
