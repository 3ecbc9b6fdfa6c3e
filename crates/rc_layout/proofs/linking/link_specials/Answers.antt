-- A special net that is refused is the first.
use Rattle.std.proofs.Common.{subst, Err}
use Rattle.rc_def.specs.declared.raw_net.RawNet.{RawNet}
use Rattle.rc_layout.specs.declared.net.Net.{Net}
use Rattle.rc_layout.specs.Entries.{link_special}
use Rattle.rc_layout.specs.Refusals.{Links}
use Rattle.rc_layout.proofs.Eaches.{each_refused}
use Rattle.rc_layout.proofs.linking.link_specials.Goals as goal

pub returns-in-Err : goal.returns-in-Err
returns-in-Err c =
    let refused = rw c.in-Err.is at c.link_special.ensures in
    each_refused (link_special c.args.parts.now) c.loop-raw.nets c.in-Err.fault c.args.raws.now c.loop-raw.raw-index c.raw-item.result c.loop-raw-test.true c.loop-raw.invariant
    (subst (λ (x : RawNet). Links {A = Net} (Err c.in-Err.fault) (link_special c.args.parts.now x)) c.raw-item.is refused)
