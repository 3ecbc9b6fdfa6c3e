use Rattle.rc_fixed.proofs.Reading.{is_plain}
use Rattle.rc_fixed.proofs.laws.decimal_is_plain.Goals as goal

pub returns : goal.returns
returns c = is_plain
