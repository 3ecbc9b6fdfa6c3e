use Rattle.std.proofs.Common.{◌≡◌, ◌+◌, ◌-◌, ◌<◌, length, arith}
use Rattle.rc_layout.proofs.Behind.{in_own, in_others, in_none, counts}
use Rattle.rc_layout.proofs.firsts.Firsts.place.Goals as goal

pub returns-in-Some-clause-place : goal.returns-in-Some-clause-place
returns-in-Some-clause-place g c =
    let of = c.self.inside in
    in_own g.T.Named.called of.own of.others of.items c.args.self.now c.args.name.now c.in-Some.place c.self.invariant c.self.view_is c.in-Some.ensures.place

pub returns-in-Some-place-clause-place : goal.returns-in-Some-place-clause-place
returns-in-Some-place-clause-place g c =
    let of = c.self.inside in
    let all : length of.items ≡ length of.own + length of.others = counts g.T.Named.called of.own of.others of.items c.self.invariant in
    let within : c.in-Some-place.place < length of.others = c.in-Some-place.ensures.within in
    let items : c.len.result ≡ length of.items = c.len.ensures in
    let others : c.len-in-Some-place.result ≡ length of.others = c.len-in-Some-place.ensures in
    let at : c.len.result - (c.len-in-Some-place.result - c.in-Some-place.place) ≡ length of.own + c.in-Some-place.place = omega (arith, all, within, items, others) in
    in_others g.T.Named.called of.own of.others of.items c.args.self.now c.args.name.now c.in-Some-place.place _ c.self.invariant c.self.view_is
    c.in_default.ensures.place c.in-Some-place.ensures.place at

pub returns-in-None-clause-place : goal.returns-in-None-clause-place
returns-in-None-clause-place g c =
    let of = c.self.inside in
    in_none g.T.Named.called of.own of.others of.items c.args.self.now c.args.name.now c.self.invariant c.self.view_is c.in_default.ensures.place c.in-None.ensures.place
