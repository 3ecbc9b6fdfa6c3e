-- Lists of paths, read token by token.
use Rattle.std.specs.Prelude.{◌≡◌, ◌+◌, ◌-◌, ◌↔◌, ℕ, Bool, Option, Some, None, Result, Ok, Err, List, length, map, drop, slice_get}
use Rattle.rc_keys.specs.declared.code.Code.TheVariants.{E16}
use Rattle.rc_keys.specs.declared.fault.Fault.{Fault}
use Rattle.rc_keys.specs.declared.fault.Fault.TheVariants as faults
use Rattle.rc_keys.specs.declared.fault.Refusal.{Refusal}
use Rattle.rc_keys.specs.declared.fault.Refusal.TheVariants.{At}
use Rattle.rc_keys.specs.declared.token.Token.{Token}
use Rattle.rc_keys.specs.Lexemes.{Lexeme, lexeme}
use Rattle.rc_keys.specs.Course.{Turn}
use Rattle.rc_keys.specs.Slices.{Taken, Stops, Refuses, Short, taken}
use Rattle.rc_wire.specs.declared.item.PathItem.{PathItem}
use Rattle.rc_wire.specs.declared.operands.Operands.{Operands}
use Rattle.rc_wire.specs.declared.path.RawPath.{RawPath}
use Rattle.rc_wire.specs.declared.reader.PathReader.{PathReader}
use Rattle.rc_wire.specs.declared.wiring.Wiring.{Wiring}
use Rattle.rc_wire.specs.Parts.{nothing}
use Rattle.rc_wire.specs.Items.{item_turn, AreItems}
use Rattle.rc_wire.specs.Paths.{path_format, no_paths, paths_of}

abbrev pub reader_of : Wiring → Option PathItem → ℕ → Operands → PathReader
reader_of wiring item place said = record { wiring = wiring; item = item; place = place; said = said }

-- what a token does
unfoldable pub path_turn : PathReader → Lexeme → Turn PathReader
path_turn s word = item_turn reader_of path_format s.wiring s.item s.place s.said word

abbrev pub path_begin : Bool → ℕ → PathReader
path_begin is_wide line = reader_of (no_paths is_wide line) None 0 nothing

-- the line of the last token, 1 where there is none
abbrev pub end_line : List Token → ℕ
end_line tokens = line_or_1 (slice_get tokens (length tokens - 1))
  where
    line_or_1 : Option Token → ℕ
    line_or_1 (Some t) = t.line
    line_or_1 None = 1

-- the paths, and how many tokens stand before the one that ends them. Tokens that end too early are refused at this line
abbrev pub paths_from : ℕ → Taken PathReader → Result (List RawPath × ℕ) Refusal
paths_from line (Stops s count) = Ok (paths_of s.wiring, count)
paths_from line (Refuses refusal) = Err refusal
paths_from line Short = Err (At E16 line)

-- what a list of paths comes to: regular ones, or special ones, in a statement of this line. The last line is that of the end
unfoldable pub paths_outcome : Bool → ℕ → ℕ → List Lexeme → Result (List RawPath × ℕ) Refusal
paths_outcome is_wide line last words = paths_from last (taken path_turn line (path_begin is_wide line) words)

abbrev pub words_from : List ℕ → List Token → ℕ → List Lexeme
words_from text tokens at = map (lexeme text) (drop at tokens)

-- the answer is that, with the place of the token that ends the paths; want of memory is free
abbrev pub IsPaths : ℕ → Result (List RawPath × ℕ) Fault → Result (List RawPath × ℕ) Refusal → Type 0
IsPaths at (Ok (paths, place)) outcome = (count : ℕ) × (place ≡ at + count) × (outcome ≡ Ok (paths, count))
IsPaths at (Err (faults.Refused refusal)) outcome = outcome ≡ Err refusal
IsPaths at (Err faults.NoMemory) outcome = Unit {0}

-- ---- the paths as a relation

-- the tokens are a list of paths: regular ones, or special ones, in a statement of this line. So many tokens stand before the
-- one that ends them
pub record IsPathList (is_wide : Bool) (line : ℕ) (words : List Lexeme) (paths : List RawPath) (count : ℕ) : Type 0 where
  pub read : Wiring
  pub items : AreItems path_format line (no_paths is_wide line) words read count
  pub all : paths ≡ paths_of read

-- the law of the two readers: tokens are taken exactly where they are a list of paths, and give what that gives
abbrev pub PathsAreItems : Type 0
PathsAreItems = (is_wide : Bool) (line last : ℕ) (words : List Lexeme) (paths : List RawPath) (count : ℕ) → (paths_outcome is_wide line last words ≡ Ok (paths, count)) ↔ IsPathList is_wide line words paths count

-- what a reader answers is a list of paths, from a token on up to the place that it answers
abbrev pub AnswersPaths : Bool → ℕ → List Lexeme → ℕ → List RawPath × ℕ → Type 0
AnswersPaths is_wide line words at (paths, place) = (count : ℕ) × (place ≡ at + count) × IsPathList is_wide line words paths count
