use Rattle.std.proofs.Common.{◌<◌, ◌≤◌, length, map, rules, subst, sym}
use Rattle.std.proofs.lemmas.List.{length-map}
use Rattle.rc_nodes.specs.Pins.{conn_rects}
use Rattle.rc_nodes.proofs.Touching.{conns_more, pins_done}
use Rattle.rc_nodes.proofs.contact.all_hits.Goals as goal

pub loop-k-preserved : goal.loop-k-preserved
loop-k-preserved c =
    let within : c.loop-k.k < length c.args.conns.now = search rules in
    conns_more c.args.nodes.now (conn_rects c.args.layout.now.parts) c.args.conns.now c.loop-k.k _ c.loop-k.contacts.items c.add_conn.new.contacts.items within c.loop-k.invariant c.in_ok-add_conn.ensures

pub returns : goal.returns
returns c =
    let all : length c.args.conns.now ≤ c.loop-k.k = search rules in
    pins_done c.args.nodes.now (map (conn_rects c.args.layout.now.parts) c.args.conns.now) c.loop-k.k c.loop-k.contacts.items
    (subst (λ n. n ≤ c.loop-k.k) (sym (length-map c.args.conns.now (conn_rects c.args.layout.now.parts))) all) c.loop-k.invariant
