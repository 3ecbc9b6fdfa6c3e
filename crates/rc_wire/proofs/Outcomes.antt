-- What reading a list of paths comes to.
use Rattle.std.proofs.Common.{◌≡◌, ◌∙◌, ℕ, Bool, List, ap, sym}
use Rattle.rc_keys.specs.Lexemes.{Lexeme}
use Rattle.rc_keys.specs.Slices.{Taken, taken}
use Rattle.rc_wire.specs.declared.reader.PathReader.{PathReader}
use Rattle.rc_wire.specs.Reading.{path_turn, path_begin, paths_from, paths_outcome}

pub comes_to : (is_wide : Bool) (line last : ℕ) (start : PathReader) (words : List Lexeme) (r : Taken PathReader) → start ≡ path_begin is_wide line → taken path_turn line start words ≡ r → paths_outcome is_wide line last words ≡ paths_from last r
unfolding paths_outcome
comes_to is_wide line last start words r is comes = ap (λ s. paths_from last (taken path_turn line s words)) (sym is) ∙ ap (paths_from last) comes
