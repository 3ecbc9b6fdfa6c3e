-- Memory ran out behind whole replies, and the error stream failed.
use Rattle.std.proofs.Common.{inr}
use Rattle.rc_session.specs.declared.performing.Cut.TheVariants.{NoMemory}
use Rattle.rc_cli.proofs.Told.{cut-whole, first-same}
use Rattle.rc_cli.proofs.session.tell_session.Goals as goal

pub returns-in-Err-NoMemory-clause-cut : goal.returns-in-Err-NoMemory-clause-cut
returns-in-Err-NoMemory-clause-cut g c = λ four. inr (
  c.tell_no_memory.ensures.fault four,
  c.tell_no_memory.ensures.prefix,
  first-same _ _ c.items.result.now c.args.opened.commands _ _ c.items.ensures (cut-whole c.perform-performed.result c.in-Err-NoMemory.field-0 NoMemory _ c.in-Err-NoMemory.is (rw c.in-Err-NoMemory.is at c.in-Err-NoMemory.field-0-is) c.perform-performed.ensures.cut),
)
