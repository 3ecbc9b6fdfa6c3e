-- What reading a file comes to.
use Rattle.std.proofs.Common.{◌≡◌, ◌∙◌, ℕ, List, ap, sym}
use Rattle.rc_keys.specs.declared.token.Mode.TheVariants as mode
use Rattle.rc_keys.specs.Lexemes.{words_of}
use Rattle.rc_keys.specs.Course.{Reading, reading}
use Rattle.rc_def.specs.declared.reader.State.{State}
use Rattle.rc_def.specs.File.{def_turn, def_may_end, def_begin, def_outcome, outcome_of}

pub comes_to : (text : List ℕ) (start : State) (r : Reading State) → start ≡ def_begin → reading def_turn def_may_end start (words_of mode.Lef text) ≡ r → def_outcome text ≡ outcome_of r
unfolding def_outcome
comes_to text start r is reads = ap (λ s. outcome_of (reading def_turn def_may_end s (words_of mode.Lef text))) (sym is) ∙ ap outcome_of reads
