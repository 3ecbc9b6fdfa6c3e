-- The layout keeps its facts, and the count of shapes goes along.
use Rattle.std.proofs.Common.{◌≡◌, ◌<◌, length, subst, sym, Some}
use Rattle.std.specs.Prelude.{slice_get}
use Rattle.rc_layout.specs.declared.net.Net.{Net}
use Rattle.rc_layout.specs.Facts.{IsCandidate}
use Rattle.rc_layout.specs.Layouts.{Wired}
use Rattle.rc_layout.proofs.FactsEdits.{put_facts}
use Rattle.rc_layout.proofs.layout.Layout.put.Goals as goal

pub invariant_of-self : goal.invariant_of-self
invariant_of-self c =
    let inside = c.self.inside in
    let within = subst (λ (w : Wired). c.args.net < length w.nets) (sym c.self.view_is) c.requires.net in
    let fits = subst (λ (w : Wired). (old : Net) → slice_get w.nets c.args.net ≡ Some old → IsCandidate w old c.args.new) (sym c.self.view_is) c.requires.fits in
    put_facts inside.wired c.args.net c.args.new c.exchange-fewer.new.nets inside.shapes c.exchange-fewer.result c.len-more.result c.self.invariant.0 c.self.invariant.1 within fits
    c.exchange-fewer.ensures.list c.exchange-fewer.ensures.had c.exchange-fewer.ensures.count c.len-more.ensures
