use Rattle.std.proofs.Common.{ap, sym, ◌∷◌, [], ◌++◌, Option, List, ℕ}
use Rattle.rc_spef.specs.Text.{cell_text}
use Rattle.rc_spef.proofs.Puts.{puts_then, puts_is}
use Rattle.rc_spef.proofs.writer.put_cell.Goals as goal

pub returns-in-Some : goal.returns-in-Some
returns-in-Some g c =
    puts_is (puts_then c.put-in-Some.ensures (puts_then (puts_is c.put-in-Some-2.ensures c.bytes.ensures) c.put-in-Some-3.ensures)) (sym (ap (λ (known : Option (List ℕ)). cell_text known ++ 10 ∷ []) c.in-Some.is))
