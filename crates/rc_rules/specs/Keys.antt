-- What a token of a rule file is among the keywords.
use Rattle.std.specs.Prelude.{ℕ, Bool, true, false, not, ◌&&◌, List, [], ◌∷◌, codes, unwrap_or}
use Rattle.std.specs.Map.{lookup}
use Rattle.std.specs.Str.{bytes_eq}
use Rattle.rc_keys.specs.declared.token.Kind.{Kind}
use Rattle.rc_keys.specs.declared.token.Kind.TheVariants as kinds
use Rattle.rc_keys.specs.Lexemes.{Lexeme}
use Rattle.rc_rules.specs.declared.key.Key.{Key}
use Rattle.rc_rules.specs.declared.key.Key.TheVariants as keys

-- the keywords
unfoldable pub rule_keys : List (List ℕ × Key)
rule_keys =
    (codes ";", keys.Semicolon) ∷ (codes "(", keys.Open) ∷ (codes ")", keys.Close) ∷ (codes "+", keys.Plus) ∷ (codes "-", keys.Minus)
    ∷ (codes "RCXRULES", keys.RcxRules) ∷ (codes "VIA", keys.Via) ∷ (codes "CONTACT", keys.Contact) ∷ (codes "END", keys.End)
    ∷ (codes "RULES", keys.Rules) ∷ (codes "LAYER", keys.Layer) ∷ (codes "WIDTHS", keys.Widths) ∷ (codes "DISTS", keys.Dists)
    ∷ (codes "RES", keys.Res) ∷ (codes "TABLE", keys.Table) ∷ (codes "UNDER", keys.Under) ∷ (codes "OVER", keys.Over)
    ∷ (codes "NONE", keys.Nothing) ∷ (codes "ROW", keys.Row) ∷ []

abbrev pub key_in : Kind → List ℕ → Key
key_in kinds.Quoted bytes = keys.Quoted
key_in kinds.Word bytes = unwrap_or (lookup (bytes_eq bytes) rule_keys) keys.Other

unfoldable pub key_of : Lexeme → Key
key_of word = key_in word.kind word.bytes

-- the five marks
abbrev pub is_mark : Key → Bool
is_mark keys.Semicolon = true
is_mark keys.Open = true
is_mark keys.Close = true
is_mark keys.Plus = true
is_mark keys.Minus = true
is_mark _ = false

abbrev pub is_quoted : Key → Bool
is_quoted keys.Quoted = true
is_quoted _ = false

abbrev pub is_semicolon : Key → Bool
is_semicolon keys.Semicolon = true
is_semicolon _ = false

abbrev pub is_nothing : Key → Bool
is_nothing keys.Nothing = true
is_nothing _ = false

-- a name is a word that is no mark
abbrev pub is_name : Key → Bool
is_name key = not (is_mark key) && not (is_quoted key)
