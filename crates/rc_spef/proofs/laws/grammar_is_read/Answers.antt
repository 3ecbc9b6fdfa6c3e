use Rattle.rc_spef.proofs.Accepted.{accepts}
use Rattle.rc_spef.proofs.Files.{says_one}
use Rattle.rc_spef.proofs.laws.grammar_is_read.Goals as goal

pub returns : goal.returns
returns g = record { accepts = accepts; one = says_one }
