-- The same bytes.
use Rattle.std.proofs.Common.{refl}
use Rattle.rc_gen.specs.Texts.{tech_text}
use Rattle.rc_gen.proofs.process.tech_text.Goals as goal

pub returns-clause-text : goal.returns-clause-text
unfolding tech_text
returns-clause-text c = refl
