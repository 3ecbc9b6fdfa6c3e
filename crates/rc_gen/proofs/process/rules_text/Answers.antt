-- The same bytes.
use Rattle.std.proofs.Common.{refl}
use Rattle.rc_gen.specs.Texts.{rules_text}
use Rattle.rc_gen.proofs.process.rules_text.Goals as goal

pub returns-clause-text : goal.returns-clause-text
unfolding rules_text
returns-clause-text c = refl
