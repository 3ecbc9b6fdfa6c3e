-- A text as items, one after the other: which item a token begins, how each is written, and what it says.
use Rattle.std.specs.Prelude.{◌≡◌, ◌+◌, ◌++◌, ℕ, Bool, true, false, Option, Some, None, Result, Ok, Err, List, [], ◌∷◌, length, nat_lt, slice_get, if◌then◌else◌}
use Rattle.rc_geom.specs.declared.rect.Pt.{Pt}
use Rattle.rc_keys.specs.declared.code.Code.{Code}
use Rattle.rc_keys.specs.declared.code.Code.TheVariants.{E03}
use Rattle.rc_keys.specs.declared.fault.Refusal.{Refusal}
use Rattle.rc_keys.specs.declared.fault.Refusal.TheVariants.{At}
use Rattle.rc_keys.specs.Lexemes.{Lexeme}
use Rattle.rc_keys.specs.Course.{Turn, Refuse, More, Done, Close, refuse}
use Rattle.rc_keys.specs.Statements.{at_line, first_line}
use Rattle.rc_keys.specs.Phrases.{InTurn}
use Rattle.rc_wire.specs.declared.key.Key.{Key}
use Rattle.rc_wire.specs.declared.part.Part.{Part}
use Rattle.rc_wire.specs.declared.operands.Operands.{Operands}
use Rattle.rc_wire.specs.Keys.{key_of}
use Rattle.rc_wire.specs.Parts.{nothing, past, take}

-- a format of items of the kinds `K`, over what is read so far, a `V`
pub record Format (V K : Type 0) : Type 0 where
  -- which item a token begins; none, where it ends the items. A token that does neither is refused
  pub begins : V → Key → Lexeme → Result (Option K) Refusal
  -- how an item is written
  pub form : K → List Part
  -- the point that `*` refers to
  pub last : V → Option Pt
  -- what is read with an item; whether its statement goes on, or the item ends it, or the text
  pub means : K → V → Operands → Turn V

-- a token is refused at its statement's line
abbrev pub or_refused : {A : Type 0} → Lexeme → Result A Code → Result A Refusal
or_refused word (Ok item) = Ok item
or_refused word (Err code) = Err (At code word.line)

-- ---- the items as a machine: what a token does, between two items or inside one

-- the place of the part that a token stands for
abbrev pub place_of : List Part → ℕ → Key → ℕ
place_of form place key = past form (past form place key) key

module _ {S V K : Type 0} (made : V → Option K → ℕ → Operands → S) (format : Format V K) where
  -- behind an item
  abbrev pub behind : Turn V → Turn S
  behind (Refuse refusal) = Refuse refusal
  behind (More v) = More (made v None 0 nothing)
  behind (Done v) = Done (made v None 0 nothing)
  behind (Close v) = Close (made v None 0 nothing)

  abbrev pub goes_on : V → K → ℕ → Operands → Turn S
  goes_on v item place said = if nat_lt place (length (format.form item)) then More (made v (Some item) place said) else behind (format.means item v said)

  abbrev pub taken : V → K → ℕ → Lexeme → Result Operands Code → Turn S
  taken v item place word (Ok said) = goes_on v item (place + 1) said
  taken v item place word (Err code) = refuse code word

  abbrev pub take_part : V → K → ℕ → Operands → Key → Lexeme → Option Part → Turn S
  take_part v item place said key word (Some part) = taken v item place word (take part said key word.bytes)
  take_part v item place said key word None = refuse E03 word

  -- a token inside an item
  unfoldable pub inside : V → K → ℕ → Operands → Key → Lexeme → Turn S
  inside v item place said key word = take_part v item (place_of (format.form item) place key) said key word (slice_get (format.form item) (place_of (format.form item) place key))

  -- between two items nothing is said; in an item `*` refers to the last point before it
  abbrev pub begun : V → ℕ → Operands → Key → Lexeme → Result (Option K) Refusal → Turn S
  begun v place said key word (Ok (Some item)) = inside v item 0 (record said { last = format.last v; line = word.line }) key word
  begun v place said key word (Ok None) = Close (made v None place said)
  begun v place said key word (Err refusal) = Refuse refusal

  abbrev pub by_item : V → Option K → ℕ → Operands → Key → Lexeme → Turn S
  by_item v (Some item) place said key word = inside v item place said key word
  by_item v None place said key word = begun v place said key word (format.begins v key word)

  -- what a token does
  unfoldable pub item_turn : V → Option K → ℕ → Operands → Lexeme → Turn S
  item_turn v item place said word = by_item v item place said (key_of word) word

-- ---- the items as a relation

-- one of two facts, as a test says
abbrev pub Either : Bool → Type 0 → Type 0 → Type 0
Either true A B = A
Either false A B = B

-- the tokens are the parts of a form from a place on, where parts that may be missing are passed; what is said before them,
-- and what is said with them
abbrev pub Spelled : List Part → ℕ → Operands → List Lexeme → Operands → Type 0
Spelled form place before [] after = ⊥
Spelled form place before (word ∷ words) after =
    (part : Part) × (said : Operands) × (slice_get form (place_of form place (key_of word)) ≡ Some part) × (take part before (key_of word) word.bytes ≡ Ok said)
    × Either (nat_lt (place_of form place (key_of word) + 1) (length form)) (Spelled form (place_of form place (key_of word) + 1) said words after) ((words ≡ []) × (said ≡ after))

-- the tokens are an item of a statement of this line: the first of them begins it, all of them spell it, and that is what it
-- says of what was read before
pub record IsItem {V K : Type 0} (format : Format V K) (line : ℕ) (before : V) (words : List Lexeme) (after : Turn V) : Type 0 where
  pub item : K
  pub first : Lexeme
  pub others : List Lexeme
  pub parts : words ≡ first ∷ others
  pub begins : format.begins before (key_of first) (at_line line first) ≡ Ok (Some item)
  pub said : Operands
  pub spells : Spelled (format.form item) 0 (record nothing { last = format.last before; line = line }) words said
  pub says : format.means item before said ≡ after

-- an item behind which its statement goes on
abbrev pub GoesOn : {V K : Type 0} → Format V K → ℕ → V → List Lexeme → V → Type 0
GoesOn format line before words after = IsItem format line before words (More after)

-- a statement: items one after the other, the last of which ends it
pub record IsStatement {V K : Type 0} (format : Format V K) (before : V) (words : List Lexeme) (after : V) : Type 0 where
  pub front : List Lexeme
  pub last : List Lexeme
  pub parts : words ≡ front ++ last
  pub mid : V
  pub items : InTurn (GoesOn format (first_line words)) before front mid
  pub ends : IsItem format (first_line words) mid last (Done after)

-- the last statement of a text, the last item of which ends the text
pub record IsLast {V K : Type 0} (format : Format V K) (before : V) (words : List Lexeme) (after : V) : Type 0 where
  pub front : List Lexeme
  pub last : List Lexeme
  pub rest : List Lexeme
  pub parts : words ≡ front ++ (last ++ rest)
  pub mid : V
  pub items : InTurn (GoesOn format (first_line words)) before front mid
  pub closes : IsItem format (first_line words) mid last (Close after)

-- a text: statements one after the other, and the one that ends it. Behind that nothing is looked at
pub record IsText {V K : Type 0} (format : Format V K) (before : V) (words : List Lexeme) (after : V) : Type 0 where
  pub front : List Lexeme
  pub rest : List Lexeme
  pub parts : words ≡ front ++ rest
  pub mid : V
  pub statements : InTurn (IsStatement format) before front mid
  pub last : IsLast format mid rest after

-- items in the middle of a statement of this line, and how many tokens they are. The token behind them ends them
pub record AreItems {V K : Type 0} (format : Format V K) (line : ℕ) (before : V) (words : List Lexeme) (after : V) (count : ℕ) : Type 0 where
  pub front : List Lexeme
  pub last : Lexeme
  pub rest : List Lexeme
  pub parts : words ≡ front ++ last ∷ rest
  pub items : InTurn (GoesOn format line) before front after
  pub ends : format.begins after (key_of last) (at_line line last) ≡ Ok None
  pub count_is : count ≡ length front
