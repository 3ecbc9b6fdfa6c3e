use Rattle.std.proofs.Common.{arith, ◌∙◌}
use Rattle.std.proofs.lemmas.Fmt.{length-decimal-le_wide}
use Rattle.rc_fixed.proofs.decimal.put_whole.Goals as goal

pub returns-clause-end : goal.returns-clause-end
returns-clause-end c = rw (c.as_bytes-text.ensures.value ∙ c.format.ensures.text) (length-decimal-le_wide 24 c.args.whole (omega arith) c.requires (omega arith))
