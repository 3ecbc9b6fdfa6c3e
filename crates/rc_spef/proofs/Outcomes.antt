-- What reading a text comes to.
use Rattle.std.proofs.Common.{◌≡◌, ◌∙◌, ℕ, List, ap, sym}
use Rattle.rc_keys.specs.declared.token.Mode.TheVariants as mode
use Rattle.rc_keys.specs.Lexemes.{words_of}
use Rattle.rc_keys.specs.Course.{Reading, reading}
use Rattle.rc_spef.specs.declared.state.State.{State}
use Rattle.rc_spef.specs.Moves.{spef_begin}
use Rattle.rc_spef.specs.Rows.{spef_turn, spef_may_end, spef_outcome, outcome_of}

pub comes_to : (text : List ℕ) (start : State) (r : Reading State) → start ≡ spef_begin → reading spef_turn spef_may_end start (words_of mode.Spef text) ≡ r → spef_outcome text ≡ outcome_of r
unfolding spef_outcome
comes_to text start r is reads = ap outcome_of (ap (λ (s : State). reading spef_turn spef_may_end s (words_of mode.Spef text)) (sym is) ∙ reads)
