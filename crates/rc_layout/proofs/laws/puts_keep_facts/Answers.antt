-- All else stays.
use Rattle.rc_layout.proofs.FactsEdits.{put_candidate}
use Rattle.rc_layout.proofs.laws.puts_keep_facts.Goals as goal

pub returns : goal.returns
returns c = put_candidate
