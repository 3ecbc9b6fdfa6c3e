-- What all rows of rule files share against statements.
use Rattle.std.proofs.Common.{◌≡◌, ◌∙◌, ◌≤◌, ◌+◌, ℕ, suc, Bool, true, false, cond, List, [], ◌∷◌, ◌++◌, length, refl, ap, arith}
use Rattle.std.proofs.lemmas.Bool.Decides.{nat_tests}
use Rattle.std.proofs.Math.ListN.{length-append}
use Rattle.std.specs.Prelude.{Option, Some, ◌&&◌, ◌==◌, not, nat_le, nat_lt}
use Rattle.rc_keys.specs.declared.fault.Refusal.{Refusal}
use Rattle.rc_keys.specs.Lexemes.{Lexeme}
use Rattle.rc_keys.specs.Course.{Refuse, More}
use Rattle.rc_keys.specs.Statements.{at_line}
use Rattle.rc_keys.specs.Phrases.{Spells}
use Rattle.rc_keys.proofs.Phrasing.{On, Takes}
use Rattle.rc_lef.specs.declared.units.Units.{Units}
use Rattle.rc_lef.specs.Technology.{Technology}
use Rattle.rc_rules.specs.declared.key.Key.{Key}
use Rattle.rc_rules.specs.declared.key.Key.TheVariants as keys
use Rattle.rc_rules.specs.declared.state.Progress.{Progress}
use Rattle.rc_rules.specs.declared.state.State.{State}
use Rattle.rc_rules.specs.declared.state.Stage.{Stage}
use Rattle.rc_rules.specs.declared.state.Row.TheVariants as rows
use Rattle.rc_rules.specs.Keys.{key_of, is_quoted, is_semicolon}
use Rattle.rc_rules.specs.Rising.{front_rises}
use Rattle.rc_rules.specs.Scales.{rises, is_scale}
use Rattle.rc_rules.specs.Rows.{due_row, unquoted, begin_in, end_in, row_in, rules_turn}

-- a state between statements stands for what they say
abbrev pub Stands : Progress → State → Type 0
Stands progress s = (s.row ≡ rows.Begin) × (s.progress ≡ progress)

-- ---- tests

pub both : (a b : Bool) → (a && b) ≡ true → (a ≡ true) × (b ≡ true)
both true b is = (refl, is)
both false b is = absurd cc

pub not_true : (a : Bool) → not a ≡ true → a ≡ false
not_true true is = absurd cc
not_true false is = refl

-- where the first test passes, and otherwise the token is refused
pub first : {S : Type 0} (M D C : S → Type 0) (s : S) (r q : Refusal) (b c : Bool) → On M D C (cond b (More s) (cond c (Refuse r) (Refuse q))) → (b ≡ true) × M s
first M D C s r q true c h = (refl, h)
first M D C s r q false true h = absurd h
first M D C s r q false false h = absurd h

pub semicolon_key : (key : Key) → is_semicolon key ≡ true → key ≡ keys.Semicolon
semicolon_key keys.Semicolon is = refl
semicolon_key _ is = absurd cc

-- a number that is some is no quoted token's
pub unquoted_some : (key : Key) (number : Option ℕ) (n : ℕ) → unquoted key number ≡ Some n → (is_quoted key ≡ false) × (number ≡ Some n)
unquoted_some keys.Quoted number n is = absurd cc
unquoted_some _ number n is = (refl, is)

pub unquoted_is : (key : Key) (number : Option ℕ) → is_quoted key ≡ false → unquoted key number ≡ number
unquoted_is keys.Quoted number un = absurd cc
unquoted_is _ number un = refl

-- ---- how long a list may be

abbrev pub few : ℕ → List ℕ → Bool
few most xs = nat_le (length xs) most

abbrev pub scales : ℕ → List ℕ → Bool
scales most xs = nat_le (length xs) most && rises xs

longer : (xs : List ℕ) (x : ℕ) → length (xs ++ x ∷ []) ≡ suc (length xs)
longer xs x = let e : length (xs ++ x ∷ []) ≡ length xs + 1 = length-append xs (x ∷ []) in omega (arith, e)

pub one_more : (most : ℕ) (xs : List ℕ) (x : ℕ) → nat_lt (length xs) most ≡ few most (xs ++ x ∷ [])
one_more most xs x = let e = longer xs x in rw e (grind (arith, nat_tests))

pub few_none : (most : ℕ) → few most [] ≡ true
few_none most = grind (arith, nat_tests)

fewer_by : (most a b : ℕ) → a ≤ b → nat_le b most ≡ true → nat_le a most ≡ true
fewer_by most a b le is = grind (arith, nat_tests)

pub fewer : (most : ℕ) (xs ys : List ℕ) → few most (xs ++ ys) ≡ true → few most xs ≡ true
fewer most xs ys is = let e = length-append xs ys in fewer_by most (length xs) (length (xs ++ ys)) (omega (arith, e)) is

pub front_scales : (most : ℕ) (xs ys : List ℕ) → scales most (xs ++ ys) ≡ true → scales most xs ≡ true
front_scales most xs ys is =
    let b = both (few most (xs ++ ys)) (rises (xs ++ ys)) is in
    rw (fewer most xs ys b.0, front_rises xs ys b.1) refl

pub scale_is : (most : ℕ) (xs : List ℕ) → nat_le 1 (length xs) ≡ true → scales most xs ≡ true → is_scale most xs ≡ true
scale_is most xs some is = let b = both (few most xs) (rises xs) is in rw (some, b.0, b.1) refl

pub scale_parts : (most : ℕ) (xs : List ℕ) → is_scale most xs ≡ true → (nat_le 1 (length xs) ≡ true) × (scales most xs ≡ true)
scale_parts most xs is =
    let b = both (nat_le 1 (length xs) && few most xs) (rises xs) is in
    let c = both (nat_le 1 (length xs)) (few most xs) b.0 in
    (c.0, rw (c.1, b.1) refl)

pub same_length : (a b : ℕ) → (a == b) ≡ true → a ≡ b
same_length a b is = grind (arith, nat_tests)

pub length_same : (a b : ℕ) → a ≡ b → (a == b) ≡ true
length_same a b is = grind (arith, nat_tests)

pub few_same : (a b : ℕ) → a ≡ b → nat_le a b ≡ true
few_same a b is = grind (arith, nat_tests)

-- ---- parts of a statement, one by one

pub next : {P : Type 0} (Says : P → Lexeme → Type 0) (part : P) (parts : List P) (words : List Lexeme) → Spells Says (part ∷ parts) words → (word : Lexeme) × (rest : List Lexeme) × (words ≡ word ∷ rest) × Says part word × Spells Says parts rest
next Says part parts [] says = absurd says
next Says part parts (word ∷ words) says = (word, words, refl, says.0, says.1)

pub no_more : {P : Type 0} (Says : P → Lexeme → Type 0) (words : List Lexeme) → Spells Says [] words → words ≡ []
no_more Says [] says = refl
no_more Says (word ∷ words) says = absurd says

-- ---- a token by its row

module _ (units : Units) (tech : Technology) (line : ℕ) where
  pub turns : (s : State) (word : Lexeme) → rules_turn units tech s (at_line line word) ≡ row_in units tech s.row s (key_of word) (at_line line word)
  unfolding rules_turn key_of
  turns s word = refl

  pub begins : (s : State) (stage : Stage) (word : Lexeme) → s.row ≡ rows.Begin → s.progress.stage ≡ stage → rules_turn units tech s (at_line line word) ≡ begin_in stage s (key_of word) (at_line line word)
  begins s stage word row is = turns s word ∙ ap (λ r. row_in units tech r s (key_of word) (at_line line word)) row ∙ ap (λ b. begin_in b s (key_of word) (at_line line word)) is

  pub end_turn : (s : State) (stage : Stage) (word : Lexeme) → s.progress.stage ≡ stage → rules_turn units tech (record s { row = rows.End }) (at_line line word) ≡ end_in stage (record s { row = rows.End }) (key_of word) (at_line line word)
  end_turn s stage word is = turns (record s { row = rows.End }) word ∙ ap (λ b. end_in b (record s { row = rows.End }) (key_of word) (at_line line word)) is

  module _ (D C : State → List Lexeme → Type 0) where
    due_key : (M D C : State → Type 0) (s : State) (word : Lexeme) (key : Key) → On M D C (due_row s key word) → (key ≡ keys.Semicolon) × D (record s { row = rows.Begin })
    unfolding due_row
    due_key M D C s word keys.Semicolon h = (refl, h)
    due_key M D C s word _ h = absurd h

    abbrev pub DueFront : State → List Lexeme → Type 0
    DueFront s words = (word : Lexeme) × (rest : List Lexeme) × (words ≡ word ∷ rest) × (key_of word ≡ keys.Semicolon) × D (record s { row = rows.Begin }) rest

    pub due : (s : State) (words : List Lexeme) → Takes (rules_turn units tech) line D C (record s { row = rows.Due }) words → DueFront s words
    due s [] h = absurd h
    due s (word ∷ words) h =
        let e = due_key (λ t. Takes (rules_turn units tech) line D C t words) (λ t. D t words) (λ t. C t words) (record s { row = rows.Due }) (at_line line word) (key_of word) (rw turns at h) in
        (word, words, refl, e.0, e.1)

    pub due_back : (s : State) (word : Lexeme) (rest : List Lexeme) → key_of word ≡ keys.Semicolon → D (record s { row = rows.Begin }) rest → Takes (rules_turn units tech) line D C (record s { row = rows.Due }) (word ∷ rest)
    unfolding due_row
    due_back s word rest is d = rw (turns, is) d
