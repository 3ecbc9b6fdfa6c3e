-- What a text is cut into: the definition of its tokens, and of its first fault.
--
-- A text is a row of pieces: blanks, comments, words and quoted texts. Its tokens are the words and the quoted texts. A mark,
-- as `;`, is a word of one byte: a token of its own only where a blank, a closing quote or the text's front stands before it,
-- and a blank or the text's end behind it.
--
-- LEF, DEF, rule files and scripts: LEF/DEF 5.8 Language Reference, "Character Information" of LEF and of DEF. SPEF: IEEE 1481,
-- the format of parasitics. Of both this is the part that is read here: block comments of SPEF are none, for one.
use Rattle.std.specs.Prelude.{◌≡◌, ◌≢◌, ◌≤◌, ◌+◌, ◌==◌, ◌&&◌, ◌||◌, ◌++◌, ℕ, Bool, true, false, List, [], ◌∷◌, Option, Some, None, length, nat_lt}
use Rattle.std.specs.List.{All, count_by, flat_map}
use Rattle.rc_keys.specs.declared.code.Code.{Code}
use Rattle.rc_keys.specs.declared.code.Code.TheVariants.{E01, E02}
use Rattle.rc_keys.specs.declared.token.Kind.TheVariants as kinds
use Rattle.rc_keys.specs.declared.token.Mode.{Mode}
use Rattle.rc_keys.specs.declared.token.Mode.TheVariants as mode
use Rattle.rc_keys.specs.declared.token.Token.{Token}

-- tab, line feed, carriage return and space
abbrev pub is_blank : ℕ → Bool
is_blank b = (b == 9) || (b == 10) || (b == 13) || (b == 32)

-- a byte that a word may hold
abbrev pub is_graphic : ℕ → Bool
is_graphic b = nat_lt 32 b && nat_lt b 127

-- ---- pieces

-- a piece; a quoted text stands here without its quotes
pub data Piece : Type 0 where
  Blank : (byte : ℕ) → Piece
  Comment : (bytes : List ℕ) → Piece
  Word : (bytes : List ℕ) → Piece
  Quoted : (bytes : List ℕ) → Piece

abbrev pub bytes_of : Piece → List ℕ
bytes_of (Blank byte) = byte ∷ []
bytes_of (Comment bytes) = bytes
bytes_of (Word bytes) = bytes
bytes_of (Quoted bytes) = 34 ∷ bytes ++ 34 ∷ []

abbrev pub text_of : List Piece → List ℕ
text_of pieces = flat_map bytes_of pieces

abbrev pub BeginsWith : List ℕ → List ℕ → Type 0
BeginsWith front text = (rest : List ℕ) × (text ≡ front ++ rest)

-- the text's end, or such a byte
abbrev pub IsEndOr : (ℕ → Bool) → List ℕ → Type 0
IsEndOr test [] = Unit {0}
IsEndOr test (byte ∷ rest) = test byte ≡ true

-- `#` or `//`
abbrev pub comment_mark : Mode → List ℕ
comment_mark mode.Lef = 35 ∷ []
comment_mark mode.Spef = 47 ∷ 47 ∷ []

-- neither a quote nor a comment begins here
abbrev pub BeginsPlain : Mode → List ℕ → Type 0
BeginsPlain m text = ¬ BeginsWith (34 ∷ []) text × ¬ BeginsWith (comment_mark m) text

abbrev pub AreGraphic : List ℕ → Type 0
AreGraphic bytes = All (λ b. is_graphic b ≡ true) bytes

-- what may stand between two quotes: a backslash takes the next byte with it, and no other quote stands there
pub data IsQuotable : List ℕ → Type 0 where
  nothing : IsQuotable []
  plain : (byte : ℕ) (bytes : List ℕ) → byte ≢ 34 → byte ≢ 92 → IsQuotable bytes → IsQuotable (byte ∷ bytes)
  escaped : (byte : ℕ) (bytes : List ℕ) → IsQuotable bytes → IsQuotable (92 ∷ byte ∷ bytes)

-- a piece, before this text. A word ends before a blank, and a comment before a line end
abbrev pub IsPiece : Mode → Piece → List ℕ → Type 0
IsPiece m (Blank byte) behind = is_blank byte ≡ true
IsPiece m (Comment bytes) behind = BeginsWith (comment_mark m) bytes × All (λ b. b ≢ 10) bytes × IsEndOr (λ b. b == 10) behind
IsPiece m (Word bytes) behind = (bytes ≢ []) × (length bytes ≤ 4096) × AreGraphic bytes × BeginsPlain m (bytes ++ behind) × IsEndOr is_blank behind
IsPiece m (Quoted bytes) behind = (length bytes ≤ 4096) × IsQuotable bytes

abbrev pub ArePieces : Mode → List Piece → List ℕ → Type 0
ArePieces m [] behind = Unit {0}
ArePieces m (piece ∷ pieces) behind = IsPiece m piece (text_of pieces ++ behind) × ArePieces m pieces behind

-- a text is these pieces, one after the other, and a rest behind them
abbrev pub IsCutUpTo : Mode → List ℕ → List Piece → List ℕ → Type 0
IsCutUpTo m text pieces rest = (text ≡ text_of pieces ++ rest) × ArePieces m pieces rest

-- ---- tokens

-- the line of what stands behind this front of a text
abbrev pub line_behind : List ℕ → ℕ
line_behind front = count_by (λ b. b == 10) front + 1

-- the token that a piece is, behind this front of the text
abbrev pub token_of : List ℕ → Piece → List Token
token_of front (Word bytes) = record { kind = kinds.Word; start = length front; end = length front + length bytes; line = line_behind front } ∷ []
token_of front (Quoted bytes) = record { kind = kinds.Quoted; start = length front + 1; end = length front + 1 + length bytes; line = line_behind front } ∷ []
token_of front piece = []

abbrev pub tokens_in : List ℕ → List Piece → List Token
tokens_in front [] = []
tokens_in front (piece ∷ pieces) = token_of front piece ++ tokens_in (front ++ bytes_of piece) pieces

-- ---- faults

-- bytes that do not close the quote before them: they begin what may stand between two quotes
abbrev pub IsUnclosed : List ℕ → Type 0
IsUnclosed bytes = (more : List ℕ) × IsQuotable (bytes ++ more)

-- no piece begins this text, whatever follows it: a byte stands in it that no word may hold, or a token is too long
pub data IsBad (m : Mode) (text : List ℕ) : Code → Type 0 where
  ForeignByte : (word rest : List ℕ) (byte : ℕ) → text ≡ word ++ byte ∷ rest → length word ≤ 4096 → AreGraphic word → is_graphic byte ≡ false → is_blank byte ≡ false → BeginsPlain m text → IsBad m text E01
  LongWord : (word rest : List ℕ) → text ≡ word ++ rest → length word ≡ 4097 → AreGraphic word → BeginsPlain m text → IsBad m text E02
  LongQuoted : (bytes rest : List ℕ) → text ≡ 34 ∷ bytes ++ rest → length bytes ≡ 4097 → IsUnclosed bytes → IsBad m text E02

-- no piece begins this text, which ends here: it does already, or the end stands where a quote is not closed
pub data IsBadAtEnd (m : Mode) (text : List ℕ) : Code → Type 0 where
  Already : (code : Code) → IsBad m text code → IsBadAtEnd m text code
  OpenQuoted : (bytes : List ℕ) → text ≡ 34 ∷ bytes → length bytes ≤ 4096 → IsUnclosed bytes → IsBadAtEnd m text E02

-- behind pieces the text ends, or has this fault, in this line
abbrev pub EndsBy : Mode → List ℕ → ℕ → Option (Code × ℕ) → Type 0
EndsBy m rest line None = rest ≡ []
EndsBy m rest line (Some (code, at)) = IsBadAtEnd m rest code × (at ≡ line)

-- ---- the tokens and the first fault of a text

abbrev pub AreTokens : Mode → List ℕ → List Token → Option (Code × ℕ) → Type 0
AreTokens m text tokens fault = (pieces : List Piece) × (rest : List ℕ) × IsCutUpTo m text pieces rest × (tokens ≡ tokens_in [] pieces) × EndsBy m rest (line_behind (text_of pieces)) fault
