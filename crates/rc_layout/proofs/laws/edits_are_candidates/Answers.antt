-- The paths are drawn anew.
use Rattle.rc_layout.proofs.FactsEdits.{edit_candidate}
use Rattle.rc_layout.proofs.laws.edits_are_candidates.Goals as goal

pub returns : goal.returns
returns c = edit_candidate
