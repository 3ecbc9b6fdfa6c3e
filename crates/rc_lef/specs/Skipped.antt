-- What is skipped: up to END and a word, or up to ENDEXT.
use Rattle.std.specs.Prelude.{◌≡◌, ◌&&◌, ◌||◌, ◌++◌, ℕ, Bool, true, false, not, List, [], ◌∷◌}
use Rattle.std.specs.Str.{bytes_eq}
use Rattle.rc_keys.specs.Lexemes.{Lexeme}
use Rattle.rc_keys.specs.Phrases.{EndsAtFirst, joined}
use Rattle.rc_lef.specs.declared.key.Key.{Key}
use Rattle.rc_lef.specs.declared.key.Key.TheVariants as keys
use Rattle.rc_lef.specs.Keys.{key_of, is_name, is_quoted}
use Rattle.rc_lef.specs.Phrases.{IsOver}

abbrev pub is_end : Key → Bool
is_end keys.End = true
is_end _ = false

abbrev pub is_end_of_extension : Key → Bool
is_end_of_extension keys.EndExt = true
is_end_of_extension _ = false

-- END and, next to it, this word
abbrev pub are_end_of : List ℕ → Lexeme → Lexeme → Bool
are_end_of name a b = is_end (key_of a) && (not (is_quoted (key_of b)) && bytes_eq b.bytes name)

-- they stand somewhere in these tokens
abbrev pub has_end_of : List ℕ → List Lexeme → Bool
has_end_of name [] = false
has_end_of name (a ∷ []) = false
has_end_of name (a ∷ b ∷ words) = are_end_of name a b || has_end_of name (b ∷ words)

-- tokens up to END and this word, which stand nowhere before
pub record UpToEnd (name : List ℕ) (words : List Lexeme) : Type 0 where
  pub front : List Lexeme
  pub end : Lexeme
  pub last : Lexeme
  pub parts : words ≡ front ++ end ∷ last ∷ []
  pub ends : are_end_of name end last ≡ true
  pub before : has_end_of name (front ++ end ∷ []) ≡ false

abbrev pub is_skipped_by_name : Key → Bool
is_skipped_by_name keys.ViaRule = true
is_skipped_by_name keys.Site = true
is_skipped_by_name keys.Array = true
is_skipped_by_name _ = false

abbrev pub is_skipped_by_word : Key → Bool
is_skipped_by_word keys.PropertyDefinitions = true
is_skipped_by_word keys.Spacing = true
is_skipped_by_word _ = false

abbrev pub ends_extension : Lexeme → Bool
ends_extension word = is_end_of_extension (key_of word)

-- a block that begins with such a keyword is skipped up to END and that word
pub record IsSkippedBlock (keywords : Key → Bool) (words : List Lexeme) : Type 0 where
  pub word : Lexeme
  pub body : List Lexeme
  pub parts : words ≡ word ∷ body
  pub key : keywords (key_of word) ≡ true
  pub ends : UpToEnd word.bytes body

-- what is skipped between the blocks
pub data IsSkipped (words : List Lexeme) : Type 0 where
  -- VIARULE, SITE, ARRAY and a name, up to END and that name
  ByName : (word name : Lexeme) (body : List Lexeme) → words ≡ word ∷ name ∷ body → is_skipped_by_name (key_of word) ≡ true → is_name (key_of name) ≡ true → UpToEnd name.bytes body → IsSkipped words
  -- PROPERTYDEFINITIONS, SPACING, up to END and that word
  ByWord : IsSkippedBlock is_skipped_by_word words → IsSkipped words
  -- BEGINEXT, up to ENDEXT
  Extension : (word : Lexeme) (body : List Lexeme) → words ≡ word ∷ body → key_of word ≡ keys.BeginExt → EndsAtFirst ends_extension body → IsSkipped words

-- ---- up to a statement that begins with END

abbrev pub begins_with_end : List Lexeme → Bool
begins_with_end [] = false
begins_with_end (word ∷ words) = is_end (key_of word)

-- a statement that doesn't begin with END
abbrev pub IsNoEnd : List Lexeme → Type 0
IsNoEnd words = (begins_with_end words ≡ false) × IsOver words

abbrev pub AreNoEnds : List (List Lexeme) → Type 0
AreNoEnds [] = Unit {0}
AreNoEnds (statement ∷ statements) = IsNoEnd statement × AreNoEnds statements

-- such a keyword, statements that don't begin with END, each up to its `;`, and END
pub record IsSkippedStatements (keywords : Key → Bool) (words : List Lexeme) : Type 0 where
  pub word : Lexeme
  pub statements : List (List Lexeme)
  pub end : Lexeme
  pub parts : words ≡ word ∷ (joined statements ++ end ∷ [])
  pub key : keywords (key_of word) ≡ true
  pub each : AreNoEnds statements
  pub ends : is_end (key_of end) ≡ true
