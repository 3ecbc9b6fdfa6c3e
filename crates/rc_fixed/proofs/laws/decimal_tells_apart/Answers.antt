use Rattle.rc_fixed.proofs.Reading.{tells_apart}
use Rattle.rc_fixed.proofs.laws.decimal_tells_apart.Goals as goal

pub returns : goal.returns
returns c = tells_apart
