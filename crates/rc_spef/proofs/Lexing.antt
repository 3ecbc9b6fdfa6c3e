-- The tokens of a text of lines.
use Rattle.std.proofs.Common.{◌≡◌, ◌≢◌, ◌∙◌, ℕ, true, false, List, [], ◌∷◌, ◌++◌, length, refl, ap, sym, append-nil, None}
use Rattle.std.specs.Prelude.{◌==◌, ◌&&◌, not}
use Rattle.std.specs.List.{list_all, AllByRecursion, flat_map}
use Rattle.std.proofs.lemmas.Bool.{eqb-false}
use Rattle.std.proofs.lemmas.List.Sums.{AllPass-from_list_all}
use Rattle.std.proofs.lemmas.List.Concat.{flat_map-append}
use Rattle.rc_keys.specs.declared.token.Kind.TheVariants as kinds
use Rattle.rc_keys.specs.declared.token.Mode.TheVariants as mode
use Rattle.rc_keys.specs.Lexemes.{Lexeme, Remaining, words_of}
use Rattle.rc_keys.specs.Pieces.{Piece, Blank, bytes_of, text_of, IsPiece, ArePieces, is_graphic, is_blank, IsQuotable, BeginsPlain, AreGraphic, line_behind}
use Rattle.rc_keys.specs.Pieces as pieces
use Rattle.rc_keys.specs.TokenLaws.{lexeme_of, lexemes_in}
use Rattle.rc_keys.specs.Phrases.{joined}
use Rattle.rc_keys.proofs.TokenLaws.{words_are_pieces}
use Rattle.rc_keys.proofs.Blocks.{joined-append}
use Rattle.rc_spef.specs.Text.{Token, Word, Quoted, shown, line_text, lines_text}
use Rattle.rc_spef.specs.Writable.{is_word, begins_quote, begins_comment, IsShort}
use Rattle.rc_spef.proofs.Digits.{and_both}

-- ---- tokens that can be read back

pub record IsFairWord (word : List ℕ) : Type 0 where
  pub bytes : is_word word ≡ true
  pub quote : begins_quote word ≡ false
  pub comment : begins_comment word ≡ false

abbrev pub IsFair : Token → Type 0
IsFair (Word word) = IsFairWord word
IsFair (Quoted bytes) = IsQuotable bytes

-- ---- a text of lines in pieces

abbrev piece_of : Token → Piece
piece_of (Word bytes) = pieces.Word bytes
piece_of (Quoted bytes) = pieces.Quoted bytes

abbrev line_pieces : List Token → List Piece
line_pieces [] = Blank 10 ∷ []
line_pieces (token ∷ []) = piece_of token ∷ Blank 10 ∷ []
line_pieces (token ∷ next ∷ tokens) = piece_of token ∷ Blank 32 ∷ line_pieces (next ∷ tokens)

abbrev all_pieces : List (List Token) → List Piece
all_pieces lines = flat_map line_pieces lines

shown_piece : (token : Token) → bytes_of (piece_of token) ≡ shown token
shown_piece (Word bytes) = refl
shown_piece (Quoted bytes) = refl

line_whole : (line : List Token) → text_of (line_pieces line) ≡ line_text line
line_whole [] = refl
line_whole (token ∷ []) = ap (λ (bytes : List ℕ). bytes ++ 10 ∷ []) (shown_piece token)
line_whole (token ∷ next ∷ tokens) = rw (shown_piece token, line_whole (next ∷ tokens)) refl

text_whole : (lines : List (List Token)) → text_of (all_pieces lines) ≡ lines_text lines
text_whole [] = refl
text_whole (line ∷ lines) = flat_map-append bytes_of (line_pieces line) (all_pieces lines) ∙ rw (line_whole line, text_whole lines) refl

-- ---- each is a piece

graphic_all : (bytes : List ℕ) → list_all is_graphic bytes ≡ true → AreGraphic bytes
graphic_all bytes all = AllPass-from_list_all is_graphic bytes all

some_bytes : (word : List ℕ) → is_word word ≡ true → word ≢ []
some_bytes word is none = let e : false ≡ true = ap is_word (sym none) ∙ is in absurd cc

-- neither a quote nor a comment begins at a fair word before a blank
begins_plain : (word rest : List ℕ) (blank : ℕ) → IsFairWord word → is_blank blank ≡ true → BeginsPlain mode.Spef (word ++ blank ∷ rest)
begins_plain [] rest blank fair is = absurd (let e : false ≡ true = fair.bytes in cc)
begins_plain (b ∷ []) rest blank fair is = (
  λ quote. let same : b ≡ 34 = cc in absurd (eqb-false b 34 fair.quote same),
  λ comment. let same : blank ≡ 47 = cc in absurd (let e : false ≡ true = ap is_blank (sym same) ∙ is in cc),
)
begins_plain (b ∷ c ∷ word) rest blank fair is = (
  λ quote. let same : b ≡ 34 = cc in absurd (eqb-false b 34 fair.quote same),
  λ comment. let first : b ≡ 47 = cc in let second : c ≡ 47 = cc in absurd (let e : true ≡ false = ap (λ n. (n == 47) && (47 == 47)) (sym first) ∙ ap (λ n. (b == 47) && (n == 47)) (sym second) ∙ fair.comment in cc),
)

token_piece : (token : Token) (blank : ℕ) (behind : List ℕ) → IsFair token → IsShort token → is_blank blank ≡ true → IsPiece mode.Spef (piece_of token) (blank ∷ behind)
token_piece (Word word) blank behind fair short is = (some_bytes word fair.bytes, short, graphic_all word (and_both (not (length word == 0)) (list_all is_graphic word) fair.bytes).1, begins_plain word behind blank fair is, is)
token_piece (Quoted bytes) blank behind fair short is = (short, fair)

line_are : (line : List Token) (rest : List Piece) → AllByRecursion IsFair line → AllByRecursion IsShort line → ArePieces mode.Spef rest [] → ArePieces mode.Spef (line_pieces line ++ rest) []
line_are [] rest fair short are = (refl, are)
line_are (token ∷ []) rest fair short are = (token_piece token 10 (text_of rest ++ []) fair.0 short.0 refl, (refl, are))
line_are (token ∷ next ∷ tokens) rest fair short are =
    (token_piece token 32 (text_of (line_pieces (next ∷ tokens) ++ rest) ++ []) fair.0 short.0 refl, (refl, line_are (next ∷ tokens) rest fair.1 short.1 are))

lines_are : (lines : List (List Token)) → AllByRecursion (AllByRecursion IsFair) lines → AllByRecursion (AllByRecursion IsShort) lines → ArePieces mode.Spef (all_pieces lines) []
lines_are [] fair short = tt
lines_are (line ∷ lines) fair short = line_are line (all_pieces lines) fair.0 short.0 (lines_are lines fair.1 short.1)

-- ---- what the pieces say

-- a token as it is read
abbrev pub IsToken : Token → Lexeme → Type 0
IsToken (Word bytes) word = (word.kind ≡ kinds.Word) × (word.bytes ≡ bytes)
IsToken (Quoted bytes) word = (word.kind ≡ kinds.Quoted) × (word.bytes ≡ bytes)

abbrev pub Tells : List Token → List Lexeme → Type 0
Tells [] [] = Unit {0}
Tells [] (word ∷ words) = ⊥
Tells (token ∷ tokens) [] = ⊥
Tells (token ∷ tokens) (word ∷ words) = IsToken token word × Tells tokens words

abbrev pub TellLines : List (List Token) → List (List Lexeme) → Type 0
TellLines [] [] = Unit {0}
TellLines [] (words ∷ others) = ⊥
TellLines (line ∷ lines) [] = ⊥
TellLines (line ∷ lines) (words ∷ others) = Tells line words × TellLines lines others

-- the tokens of these lines
pub record Written (lines : List (List Token)) (words : List Lexeme) : Type 0 where
  pub each : List (List Lexeme)
  pub whole : words ≡ joined each
  pub tell : TellLines lines each

token_lexeme : (token : Token) (front : List ℕ) → (word : Lexeme) × (lexeme_of front (piece_of token) ≡ word ∷ []) × IsToken token word
token_lexeme (Word bytes) front = (record { kind = kinds.Word; bytes = bytes; line = line_behind front }, refl, (refl, refl))
token_lexeme (Quoted bytes) front = (record { kind = kinds.Quoted; bytes = bytes; line = line_behind front }, refl, (refl, refl))

line_lexemes : (line : List Token) (front : List ℕ) (rest : List Piece) → (words : List Lexeme) × (behind : List ℕ) × (lexemes_in front (line_pieces line ++ rest) ≡ words ++ lexemes_in behind rest) × Tells line words
line_lexemes [] front rest = ([], front ++ 10 ∷ [], refl, tt)
line_lexemes (token ∷ []) front rest =
    let first = token_lexeme token front in
    let behind : List ℕ = (front ++ bytes_of (piece_of token)) ++ 10 ∷ [] in
    (first.0 ∷ [], behind, ap (λ (ws : List Lexeme). ws ++ lexemes_in behind rest) first.1, (first.2, tt))
line_lexemes (token ∷ next ∷ tokens) front rest =
    let first = token_lexeme token front in
    let behind : List ℕ = (front ++ bytes_of (piece_of token)) ++ 32 ∷ [] in
    let others = line_lexemes (next ∷ tokens) behind rest in
    (first.0 ∷ others.0, others.1, ap (λ (ws : List Lexeme). ws ++ lexemes_in behind (line_pieces (next ∷ tokens) ++ rest)) first.1 ∙ ap (λ (ws : List Lexeme). first.0 ∷ ws) others.2, (first.2, others.3))

lines_lexemes : (lines : List (List Token)) (front : List ℕ) → Written lines (lexemes_in front (all_pieces lines))
lines_lexemes [] front = record { each = []; whole = refl; tell = tt }
lines_lexemes (line ∷ lines) front =
    let first = line_lexemes line front (all_pieces lines) in
    let others = lines_lexemes lines first.1 in
    record { each = first.0 ∷ others.each; whole = first.2 ∙ ap (λ (ws : List Lexeme). first.0 ++ ws) others.whole; tell = (first.3, others.tell) }

-- what there is to read in a text of lines is their tokens
pub lexed : (lines : List (List Token)) → AllByRecursion (AllByRecursion IsFair) lines → AllByRecursion (AllByRecursion IsShort) lines → (words : List Lexeme) × (words_of mode.Spef (lines_text lines) ≡ record { words = words; fault = None }) × Written lines words
lexed lines fair short =
    let words : List Lexeme = lexemes_in [] (all_pieces lines) in
    let all : Remaining = record { words = words; fault = None } in
    let whole : lines_text lines ≡ text_of (all_pieces lines) ++ [] = sym (text_whole lines) ∙ sym (append-nil (text_of (all_pieces lines))) in
    (words, (words_are_pieces mode.Spef (lines_text lines) all).1 (all_pieces lines, [], (whole, lines_are lines fair short), refl, refl), lines_lexemes lines [])

-- ---- parts of lines

tell_split : (some others : List (List Token)) (each : List (List Lexeme)) → TellLines (some ++ others) each → (first : List (List Lexeme)) × (second : List (List Lexeme)) × (each ≡ first ++ second) × TellLines some first × TellLines others second
tell_split [] others each tell = ([], each, refl, tt, tell)
tell_split (line ∷ some) others [] tell = absurd tell
tell_split (line ∷ some) others (words ∷ each) tell =
    let more = tell_split some others each tell.1 in
    (words ∷ more.0, more.1, ap (λ (ws : List (List Lexeme)). words ∷ ws) more.2, (tell.0, more.3), more.4)

pub split : (some others : List (List Token)) (words : List Lexeme) → Written (some ++ others) words → (first : List Lexeme) × (second : List Lexeme) × (words ≡ first ++ second) × Written some first × Written others second
split some others words w =
    let parts = tell_split some others w.each w.tell in
    (joined parts.0, joined parts.1, w.whole ∙ ap joined parts.2 ∙ joined-append parts.0 parts.1, record { each = parts.0; whole = refl; tell = parts.3 }, record { each = parts.1; whole = refl; tell = parts.4 })

pub no_line : (words : List Lexeme) → Written [] words → words ≡ []
no_line words w = by w.each w.whole w.tell
  where
    by : (each : List (List Lexeme)) → words ≡ joined each → TellLines [] each → words ≡ []
    by [] is tell = is
    by (ws ∷ each) is tell = absurd tell

pub first_line : (line : List Token) (lines : List (List Token)) (words : List Lexeme) → Written (line ∷ lines) words → (first : List Lexeme) × (others : List Lexeme) × (words ≡ first ++ others) × Tells line first × Written lines others
first_line line lines words w = by w.each w.whole w.tell
  where
    by : (each : List (List Lexeme)) → words ≡ joined each → TellLines (line ∷ lines) each → (first : List Lexeme) × (others : List Lexeme) × (words ≡ first ++ others) × Tells line first × Written lines others
    by [] is tell = absurd tell
    by (ws ∷ each) is tell = (ws, joined each, is, tell.0, record { each = each; whole = refl; tell = tell.1 })
