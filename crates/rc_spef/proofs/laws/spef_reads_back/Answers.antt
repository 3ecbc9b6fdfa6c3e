use Rattle.rc_spef.proofs.RoundTrip.{says_its_value, reads_back}
use Rattle.rc_spef.proofs.laws.spef_reads_back.Goals as goal

pub returns : goal.returns
returns g = record { says = says_its_value; back = reads_back }
