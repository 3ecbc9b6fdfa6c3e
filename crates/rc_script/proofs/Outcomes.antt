-- What reading a script comes to.
use Rattle.std.proofs.Common.{◌≡◌, ◌∙◌, ℕ, List, ap, sym}
use Rattle.rc_keys.specs.declared.token.Mode.TheVariants as mode
use Rattle.rc_keys.specs.Lexemes.{words_of}
use Rattle.rc_keys.specs.Course.{Reading, reading}
use Rattle.rc_script.specs.declared.reader.State.{State}
use Rattle.rc_script.specs.Rows.{script_turn, script_may_end, script_begin, script_outcome, outcome_of}

pub comes_to : (text : List ℕ) (start : State) (r : Reading State) → start ≡ script_begin → reading script_turn script_may_end start (words_of mode.Lef text) ≡ r → script_outcome text ≡ outcome_of r
unfolding script_outcome
comes_to text start r is reads = ap (λ s. outcome_of (reading script_turn script_may_end s (words_of mode.Lef text))) (sym is) ∙ ap outcome_of reads
