use Rattle.std.proofs.Common.{ap, sym}
use Rattle.rc_spef.specs.Text.{sub_text}
use Rattle.rc_spef.proofs.Puts.{puts_then, puts_is}
use Rattle.rc_spef.proofs.writer.put_sub.Goals as goal

pub returns-in-Num : goal.returns-in-Num
returns-in-Num g c =
    puts_is (puts_then c.put-in-Num.ensures c.put_number.ensures) (sym (ap sub_text c.in-Num.is))

pub returns-in-Word : goal.returns-in-Word
returns-in-Word g c =
    puts_is (puts_then c.put-in-Word.ensures ((puts_is c.put-in-Word-2.ensures c.bytes.ensures))) (sym (ap sub_text c.in-Word.is))
