-- The grounded net has its own items, and then those of the net.
use Rattle.rc_layout.proofs.Joined.{joined}
use Rattle.rc_layout.proofs.wired.join_at.Goals as goal

pub returns : goal.returns
returns c =
    joined c.args.grounded.now c.args.place c.args.net c.swap-old.result _ c.swap-old.new.self c.swap-bare.new.self c.append.new.self c.swap-old.ensures.answer c.swap-old.ensures.list
    c.in_ok-append.ensures.ok.0 c.swap-bare.ensures.list
