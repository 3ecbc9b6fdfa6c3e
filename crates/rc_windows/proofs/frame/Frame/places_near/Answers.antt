use Rattle.std.proofs.Common.{◌-◌, ◌*◌, ◌∙◌, ap, sym, ℕ}
use Rattle.rc_windows.proofs.Meetings.{ends_apart, met_count}
use Rattle.rc_windows.proofs.frame.Frame.places_near.Goals as goal

pub returns : goal.returns
returns c =
    let frame = c.args.self.now in
    let rect = c.args.rect.now in
    let is = met_count frame rect c.columns.result c.rows.result c.requires.frame (ends_apart frame rect c.requires.near) c.columns.ensures c.rows.ensures in
    ap (λ (n : ℕ). n * c.count-2.result) c.count.ensures ∙ (ap (λ (n : ℕ). (c.columns.result.to - c.columns.result.from) * n) c.count-2.ensures ∙ sym is)
