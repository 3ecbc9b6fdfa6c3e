-- The net may take the old one's place.
use Rattle.std.proofs.Common.{◌≡◌, Some, subst}
use Rattle.std.specs.Prelude.{IfOk, slice_get}
use Rattle.rc_layout.specs.declared.net.Net.{Net}
use Rattle.rc_layout.specs.Facts.{IsCandidate}
use Rattle.rc_layout.specs.Layouts.{Wired}
use Rattle.rc_layout.proofs.FactsEdits.{regular_paths, answers_candidate}
use Rattle.rc_layout.proofs.layout.Layout.with_net.Goals as goal

pub draw_anew-requires-clause-paths : goal.draw_anew-requires-clause-paths
draw_anew-requires-clause-paths c = regular_paths c.args.paths.now c.requires.paths

pub returns-clause-fits : goal.returns-clause-fits
returns-clause-fits c =
    let inside = c.self.inside in
    subst (λ (w : Wired). (old : Net) → slice_get w.nets c.args.net ≡ Some old → IfOk c.draw_anew.result (IsCandidate w old)) c.self.view_is
    (answers_candidate inside.wired c.args.net c.args.paths.now c.draw_anew.result inside.shapes c.items.result.now c.net_at-old.result.now c.self.invariant.0 c.self.invariant.1 c.requires.paths c.items.ensures c.net_at-old.ensures.at
    c.draw_anew.ensures)
