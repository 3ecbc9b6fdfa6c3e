-- What the lexer goes by, in terms of the pieces of a text.
use Rattle.std.specs.Prelude.{◌≡◌, ◌↔◌, ◌++◌, ◌||◌, ℕ, Bool, true, false, List, [], ◌∷◌, Option, Some, None, slice_index_or}
use Rattle.std.specs.List.{filter}
use Rattle.rc_keys.specs.declared.code.Code.{Code}
use Rattle.rc_keys.specs.declared.code.Code.TheVariants.{E01, E02}
use Rattle.rc_keys.specs.declared.token.Kind.{Kind}
use Rattle.rc_keys.specs.declared.token.Kind.TheVariants as kinds
use Rattle.rc_keys.specs.declared.token.Mode.{Mode}
use Rattle.rc_keys.specs.declared.token.Mode.TheVariants as mode
use Rattle.rc_keys.specs.declared.token.Token.{Token}
use Rattle.rc_keys.specs.Tokens.{tokens_of, fault_of, closed_tokens, fault_so_far}
use Rattle.rc_keys.specs.Lexemes.{Lexeme, Remaining, words_of}
use Rattle.rc_keys.specs.Pieces.{Piece, Word, Quoted, bytes_of, text_of, IsCutUpTo, line_behind, tokens_in, IsBad, EndsBy, AreTokens, is_blank}

-- these are the tokens and the first fault of a text exactly where they are those of the pieces that it is cut into
abbrev pub TokensArePieces : Type 0
TokensArePieces = (m : Mode) (text : List ℕ) (tokens : List Token) (fault : Option (Code × ℕ)) → (tokens_of m text ≡ tokens) × (fault_of m text ≡ fault) ↔ AreTokens m text tokens fault

-- a text is cut into pieces in one way
abbrev pub PiecesAreOne : Type 0
PiecesAreOne = (m : Mode) (text : List ℕ) (pieces others : List Piece) (rest other : List ℕ) (fault another : Option (Code × ℕ)) (line place : ℕ)
    → IsCutUpTo m text pieces rest → EndsBy m rest line fault → IsCutUpTo m text others other → EndsBy m other place another → (pieces ≡ others) × (rest ≡ other)

-- so each text has one list of tokens, and one first fault or none
abbrev pub TokensAreOne : Type 0
TokensAreOne = (m : Mode) (text : List ℕ) → (tokens : List Token) × (fault : Option (Code × ℕ)) × AreTokens m text tokens fault
    × ((others : List Token) (other : Option (Code × ℕ)) → AreTokens m text others other → (others ≡ tokens) × (other ≡ fault))

-- a fault that a text has already, whatever follows it, and the tokens before it
abbrev pub HasFaultSoFar : Mode → List ℕ → List Token → Code → ℕ → Type 0
HasFaultSoFar m text tokens code line =
    (pieces : List Piece) × (rest : List ℕ) × IsCutUpTo m text pieces rest × (tokens ≡ tokens_in [] pieces) × IsBad m rest code × (line ≡ line_behind (text_of pieces))

-- so too the fault of a text that may go on, and the tokens before it
abbrev pub FaultsFollowPieces : Type 0
FaultsFollowPieces = (m : Mode) (text : List ℕ) (tokens : List Token) (code : Code) (line : ℕ)
    → (closed_tokens m text ≡ tokens) × (fault_so_far m text ≡ Some (code, line)) ↔ HasFaultSoFar m text tokens code line

-- and that is the fault of each text that goes on from there, with these tokens before it
abbrev pub FaultsStay : Type 0
FaultsStay = (m : Mode) (text more : List ℕ) (tokens : List Token) (code : Code) (line : ℕ) → HasFaultSoFar m text tokens code line → AreTokens m (text ++ more) tokens (Some (code, line))

-- a token is closed in a text: it is quoted, or a blank stands behind it
abbrev pub is_quoted : Kind → Bool
is_quoted kinds.Word = false
is_quoted kinds.Quoted = true

abbrev pub is_closed_in : List ℕ → Token → Bool
is_closed_in text t = is_quoted t.kind || is_blank (slice_index_or text t.end 0)

-- the closed tokens of a text are those of its tokens that are closed in it
abbrev pub ClosedAreTokens : Type 0
ClosedAreTokens = (m : Mode) (text : List ℕ) → closed_tokens m text ≡ filter (is_closed_in text) (tokens_of m text)

-- what a piece says to a reader, behind this front of the text
abbrev pub lexeme_of : List ℕ → Piece → List Lexeme
lexeme_of front (Word bytes) = record { kind = kinds.Word; bytes = bytes; line = line_behind front } ∷ []
lexeme_of front (Quoted bytes) = record { kind = kinds.Quoted; bytes = bytes; line = line_behind front } ∷ []
lexeme_of front piece = []

abbrev pub lexemes_in : List ℕ → List Piece → List Lexeme
lexemes_in front [] = []
lexemes_in front (piece ∷ pieces) = lexeme_of front piece ++ lexemes_in (front ++ bytes_of piece) pieces

abbrev pub AreWords : Mode → List ℕ → Remaining → Type 0
AreWords m text all = (pieces : List Piece) × (rest : List ℕ) × IsCutUpTo m text pieces rest × (all.words ≡ lexemes_in [] pieces) × EndsBy m rest (line_behind (text_of pieces)) all.fault

-- what there is to read in a text is what its pieces say
abbrev pub WordsArePieces : Type 0
WordsArePieces = (m : Mode) (text : List ℕ) (all : Remaining) → (words_of m text ≡ all) ↔ AreWords m text all

-- ---- worked examples

abbrev word : ℕ → ℕ → ℕ → Token
word start end line = record { kind = kinds.Word; start = start; end = end; line = line }

abbrev quoted : ℕ → ℕ → ℕ → Token
quoted start end line = record { kind = kinds.Quoted; start = start; end = end; line = line }

-- `a;#b "c\"d"e # f`, and in the next line ` ;`: a mark and `#` inside a word, a quote behind a backslash, a word directly behind
-- a quoted text, a comment, and a mark
abbrev pub LefExample : Type 0
LefExample = AreTokens mode.Lef (97 ∷ 59 ∷ 35 ∷ 98 ∷ 32 ∷ 34 ∷ 99 ∷ 92 ∷ 34 ∷ 100 ∷ 34 ∷ 101 ∷ 32 ∷ 35 ∷ 32 ∷ 102 ∷ 10 ∷ 32 ∷ 59 ∷ []) (word 0 4 1 ∷ quoted 6 10 1 ∷ word 11 12 1 ∷ word 18 19 2 ∷ []) None

-- `/ a//b //c`, and in the next line `# "d`: one slash, slashes inside a word, a comment, `#`, and a quote that is not closed
abbrev pub SpefExample : Type 0
SpefExample = AreTokens mode.Spef (47 ∷ 32 ∷ 97 ∷ 47 ∷ 47 ∷ 98 ∷ 32 ∷ 47 ∷ 47 ∷ 99 ∷ 10 ∷ 35 ∷ 32 ∷ 34 ∷ 100 ∷ []) (word 0 1 1 ∷ word 2 6 1 ∷ word 11 12 2 ∷ []) (Some (E02, 2))

-- `a`, and in the next line `b` with a byte behind it that no word may hold, and `c`
abbrev pub ForeignExample : Type 0
ForeignExample = HasFaultSoFar mode.Lef (97 ∷ 10 ∷ 98 ∷ 128 ∷ 32 ∷ 99 ∷ []) (word 0 1 1 ∷ []) E01 2
