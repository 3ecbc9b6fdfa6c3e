use Rattle.std.proofs.Common.{length, ap, sym}
use Rattle.std.specs.Prelude.{List, ℕ}
use Rattle.rc_windows.proofs.Meetings.{none_from}
use Rattle.rc_windows.proofs.frame.Frame.places.Goals as goal

pub returns-else-meets : goal.returns-else-meets
returns-else-meets c =
    let none = none_from c.args.self.now c.args.rect.now c.reach.result c.meets.result c.requires c.reach.ensures c.meets.ensures c.if-meets.false in
    sym (ap (λ (ks : List ℕ). length ks) none)
