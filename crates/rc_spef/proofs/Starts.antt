-- Numbers and references are no keywords.
use Rattle.std.proofs.Common.{◌≡◌, ◌∙◌, ℕ, Bool, true, false, cond, drop, List, [], ◌∷◌, length, refl, ap, arith, Some, Ok, Err}
use Rattle.std.specs.Prelude.{◌==◌, ◌&&◌, not, unwrap_or}
use Rattle.std.specs.Int.{IsInRange}
use Rattle.std.specs.List.{list_all}
use Rattle.std.specs.Map.{lookup}
use Rattle.std.specs.Str.{bytes_eq}
use Rattle.std.specs.Str.{all_ascii_digits}
use Rattle.std.proofs.lemmas.Bool.{ne_eqb, eqb-true}
use Rattle.rc_keys.specs.declared.token.Kind.{Kind}
use Rattle.rc_keys.specs.declared.token.Kind.TheVariants as kinds
use Rattle.rc_keys.specs.declared.code.Code.TheVariants.{E03, E04}
use Rattle.rc_keys.specs.Lexemes.{Lexeme}
use Rattle.rc_spef.specs.declared.key.Key.{Key}
use Rattle.rc_spef.specs.declared.key.Key.TheVariants as keys
use Rattle.rc_spef.specs.Keys.{spef_keywords, key_in, key_of, is_quoted}
use Rattle.rc_spef.specs.References.{is_plain, is_entry, begins_star, name_of, name_at}
use Rattle.rc_spef.specs.NetRows.{is_number}
use Rattle.rc_spef.proofs.Digits.{and_both, not_true, first_digit}

-- no keyword begins with a digit
digit_key : (d : ℕ) (ds : List ℕ) → IsInRange 48 57 d → key_in kinds.Word (d ∷ ds) ≡ keys.Other
unfolding spef_keywords
digit_key d ds digit =
    let cstar : (d == 42) ≡ false = ne_eqb d 42 (λ e. omega arith) in
    let cF : (d == 70) ≡ false = ne_eqb d 70 (λ e. omega arith) in
    let cP : (d == 80) ≡ false = ne_eqb d 80 (λ e. omega arith) in
    let cO : (d == 79) ≡ false = ne_eqb d 79 (λ e. omega arith) in
    let cK : (d == 75) ≡ false = ne_eqb d 75 (λ e. omega arith) in
    let ccolon : (d == 58) ≡ false = ne_eqb d 58 (λ e. omega arith) in
    let cI : (d == 73) ≡ false = ne_eqb d 73 (λ e. omega arith) in
    let cB : (d == 66) ≡ false = ne_eqb d 66 (λ e. omega arith) in
    rw (cstar, cF, cP, cO, cK, ccolon, cI, cB) refl

-- and none with `*` and a digit
starred_key : (d : ℕ) (ds : List ℕ) → IsInRange 48 57 d → key_in kinds.Word (42 ∷ d ∷ ds) ≡ keys.Other
unfolding spef_keywords
starred_key d ds digit =
    let cS : (d == 83) ≡ false = ne_eqb d 83 (λ e. omega arith) in
    let cD : (d == 68) ≡ false = ne_eqb d 68 (λ e. omega arith) in
    let cV : (d == 86) ≡ false = ne_eqb d 86 (λ e. omega arith) in
    let cP : (d == 80) ≡ false = ne_eqb d 80 (λ e. omega arith) in
    let cB : (d == 66) ≡ false = ne_eqb d 66 (λ e. omega arith) in
    let cT : (d == 84) ≡ false = ne_eqb d 84 (λ e. omega arith) in
    let cC : (d == 67) ≡ false = ne_eqb d 67 (λ e. omega arith) in
    let cR : (d == 82) ≡ false = ne_eqb d 82 (λ e. omega arith) in
    let cL : (d == 76) ≡ false = ne_eqb d 76 (λ e. omega arith) in
    let cN : (d == 78) ≡ false = ne_eqb d 78 (λ e. omega arith) in
    let cE : (d == 69) ≡ false = ne_eqb d 69 (λ e. omega arith) in
    let cI : (d == 73) ≡ false = ne_eqb d 73 (λ e. omega arith) in
    let cG : (d == 71) ≡ false = ne_eqb d 71 (λ e. omega arith) in
    rw (cS, cD, cV, cP, cB, cT, cC, cR, cL, cN, cE, cI, cG) refl

plain_key : (bytes : List ℕ) → is_plain bytes ≡ true → key_in kinds.Word bytes ≡ keys.Other
plain_key [] is = absurd (let e : false ≡ true = is in cc)
plain_key (d ∷ ds) is = digit_key d ds (first_digit d ds (and_both (not (length (d ∷ ds) == 0)) (all_ascii_digits (d ∷ ds)) is).1)

pub entry_key : (bytes : List ℕ) → is_entry bytes ≡ true → key_in kinds.Word bytes ≡ keys.Other
entry_key [] is = absurd (let e : false ≡ true = is in cc)
entry_key (b ∷ bytes) is =
    let both = and_both (b == 42) (is_plain bytes) is in
    ap (λ n. key_in kinds.Word (n ∷ bytes)) (eqb-true b 42 both.0) ∙ behind bytes both.1
  where
    behind : (bytes : List ℕ) → is_plain bytes ≡ true → key_in kinds.Word (42 ∷ bytes) ≡ keys.Other
    behind [] plain = absurd (let e : false ≡ true = plain in cc)
    behind (d ∷ ds) plain = starred_key d ds (first_digit d ds (and_both (not (length (d ∷ ds) == 0)) (all_ascii_digits (d ∷ ds)) plain).1)

-- a token of another key is no plain number, and no entry
pub no_number : (word : Lexeme) → (key_of word ≡ keys.Other → ⊥) → is_number word ≡ false
unfolding key_of
no_number word other = by word.kind word.bytes other
  where
    plain : (bytes : List ℕ) (b : Bool) → is_plain bytes ≡ b → (key_in kinds.Word bytes ≡ keys.Other → ⊥) → b ≡ false
    plain bytes true is other = absurd (other (plain_key bytes is))
    plain bytes false is other = refl

    by : (kind : Kind) (bytes : List ℕ) → (key_in kind bytes ≡ keys.Other → ⊥) → is_number (record { kind = kind; bytes = bytes; line = 0 }) ≡ false
    by kinds.Quoted bytes other = refl
    by kinds.Word bytes other = plain bytes (is_plain bytes) refl other

pub no_entry : (word : Lexeme) → word.kind ≡ kinds.Word → (key_of word ≡ keys.Other → ⊥) → is_entry word.bytes ≡ false
unfolding key_of
no_entry word kind other = by (is_entry word.bytes) refl
  where
    by : (b : Bool) → is_entry word.bytes ≡ b → b ≡ false
    by false is = refl
    by true is = absurd (other (rw kind (entry_key word.bytes is)))

-- a reference to a name has the form of an entry
pub reference_form : (numbers bytes : List ℕ) (name : ℕ) → name_of numbers bytes ≡ Ok name → is_entry bytes ≡ true
unfolding name_of
reference_form numbers bytes name is = by (begins_star bytes) (is_plain (drop 1 bytes)) is
  where
    by : (a b : Bool) → cond (not a) (Err E04) (cond (not b) (Err E03) (name_at numbers (drop 1 bytes))) ≡ Ok name → (a && b) ≡ true
    by true true read = refl
    by true false read = absurd cc
    by false b read = absurd cc

pub reference_key : (numbers : List ℕ) (word : Lexeme) (name : ℕ) → word.kind ≡ kinds.Word → name_of numbers word.bytes ≡ Ok name → key_of word ≡ keys.Other
unfolding key_of
reference_key numbers word name kind is = rw kind (entry_key word.bytes (reference_form numbers word.bytes name is))

-- a word's key is not that of a quoted token
unquoted : (test : List ℕ → Bool) (entries : List (List ℕ × Key)) → list_all (λ (entry : List ℕ × Key). not (is_quoted entry.1)) entries ≡ true → is_quoted (unwrap_or (lookup test entries) keys.Other) ≡ false
unquoted test [] all = refl
unquoted test (entry ∷ entries) all =
    let both = and_both (not (is_quoted entry.1)) (list_all (λ (entry : List ℕ × Key). not (is_quoted entry.1)) entries) all in
    by (test entry.0) (not_true (is_quoted entry.1) both.0) (unquoted test entries both.1)
  where
    by : (b : Bool) → is_quoted entry.1 ≡ false → is_quoted (unwrap_or (lookup test entries) keys.Other) ≡ false → is_quoted (unwrap_or (cond b (Some entry.1) (lookup test entries)) keys.Other) ≡ false
    by true here rest = here
    by false here rest = rest

all_words : list_all (λ (entry : List ℕ × Key). not (is_quoted entry.1)) spef_keywords ≡ true
unfolding spef_keywords
all_words = refl

pub word_key : (word : Lexeme) → word.kind ≡ kinds.Word → is_quoted (key_of word) ≡ false
unfolding key_of
word_key word kind = rw kind (unquoted (bytes_eq word.bytes) spef_keywords all_words)

-- a keyword is a word
pub keyword_word : (word : Lexeme) (key : Key) → key_of word ≡ key → is_quoted key ≡ false → word.kind ≡ kinds.Word
unfolding key_of
keyword_word word key is other = by word.kind is
  where
    by : (kind : Kind) → key_in kind word.bytes ≡ key → kind ≡ kinds.Word
    by kinds.Word same = refl
    by kinds.Quoted same = let e : is_quoted keys.Quoted ≡ false = ap is_quoted same ∙ other in absurd cc
