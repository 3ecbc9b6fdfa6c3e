-- A file that is cut.
use Rattle.std.specs.Prelude.{◌≡◌, ◌<◌, ◌≤◌, ℕ, Option, Some, None, Ok, Err, List, [], ◌∷◌, length, take}
use Rattle.rc_keys.specs.declared.fault.Refusal.{Refusal}
use Rattle.rc_keys.specs.declared.token.Mode.TheVariants as mode
use Rattle.rc_keys.specs.declared.token.Token.{Token}
use Rattle.rc_keys.specs.Tokens.{tokens_of}
use Rattle.rc_keys.specs.Lexemes.{lexeme}
use Rattle.rc_keys.specs.Course.{Rows, Parser, Closed, step, begin}
use Rattle.rc_def.specs.declared.design.RawDesign.{RawDesign}
use Rattle.rc_def.specs.File.{def_turn, def_begin, def_outcome}

abbrev pub end_or : {S : Type 0} → Parser S → Token → Option ℕ → Option ℕ
end_or (Closed s) t later = Some t.end
end_or _ t later = later

-- where the token stops that closes what is read of a text
abbrev pub end_in : {S : Type 0} → Rows S → List ℕ → Parser S → List Token → Option ℕ
end_in rows text parser [] = None
end_in rows text parser (t ∷ ts) = end_or (step rows parser (lexeme text t)) t (end_in rows text (step rows parser (lexeme text t)) ts)

-- where the word DESIGN of its END DESIGN stops
abbrev pub end_of : List ℕ → Option ℕ
end_of text = end_in def_turn text (begin def_begin) (tokens_of mode.Lef text)

-- the law of cuts: a text that is accepted is so up to where its END DESIGN stops, with whatever of the rest, and no shorter front of it
-- is
abbrev pub CutsAreRefused : Type 0
CutsAreRefused = (text : List ℕ) (design : RawDesign) → def_outcome text ≡ Ok design → (end : ℕ) × (end_of text ≡ Some end)
    × ((size : ℕ) → size ≤ length text → end ≤ size → def_outcome (take size text) ≡ Ok design)
    × ((size : ℕ) → size ≤ length text → size < end → (refusal : Refusal) × (def_outcome (take size text) ≡ Err refusal))
