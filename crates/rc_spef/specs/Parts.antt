-- How statements of SPEF are written down: keywords, quoted texts, names, references and numbers.
use Rattle.std.specs.Prelude.{◌≡◌, ℕ, true, false, Some, Ok, List, [], ◌∷◌, drop}
use Rattle.std.specs.Str.Parse.{digits_value}
use Rattle.rc_fixed.specs.declared.decimal.Fixed.{Fixed}
use Rattle.rc_fixed.specs.Numeral.{fixed_of}
use Rattle.rc_keys.specs.declared.token.Kind.TheVariants as kinds
use Rattle.rc_keys.specs.Lexemes.{Lexeme}
use Rattle.rc_keys.specs.Phrases.{Spells}
use Rattle.rc_spef.specs.declared.value.End.{End}
use Rattle.rc_spef.specs.declared.value.Dir3.{Dir3}
use Rattle.rc_spef.specs.declared.state.Scale.{Scale}
use Rattle.rc_spef.specs.declared.key.Key.{Key}
use Rattle.rc_spef.specs.Keys.{key_of}
use Rattle.rc_spef.specs.References.{is_plain, is_entry, begins_star, end_of, name_of}
use Rattle.rc_spef.specs.Moves.{shift_of, direction_of}

-- a part of a statement
pub data Part : Type 0 where
  -- a keyword, a word of any kind, and a quoted text
  Word : (key : Key) → Part
  AnyWord : Part
  Quoted : (bytes : List ℕ) → Part
  AnyQuoted : Part
  -- a word of one byte, and one of two
  Byte : (byte : ℕ) → Part
  TwoBytes : (first second : ℕ) → Part
  -- a number of value 1, a plain number, and a value with its scale
  One : Part
  Plain : Part
  Value : (scale : Scale) (value : Fixed) → Part
  -- an entry of the map of names, and a name or a cell
  Entry : (number : ℕ) → Part
  Name : (name : List ℕ) → Part
  -- over the numbers of a map: a reference to a name, and an end
  Reference : (numbers : List ℕ) (name : ℕ) → Part
  EndOf : (numbers : List ℕ) (end : End) → Part
  Direction : (dir : Dir3) → Part

-- a token is that part
abbrev pub Says : Part → Lexeme → Type 0
Says (Word key) word = key_of word ≡ key
Says AnyWord word = word.kind ≡ kinds.Word
Says (Quoted bytes) word = (word.kind ≡ kinds.Quoted) × (word.bytes ≡ bytes)
Says AnyQuoted word = word.kind ≡ kinds.Quoted
Says (Byte byte) word = (word.kind ≡ kinds.Word) × (word.bytes ≡ byte ∷ [])
Says (TwoBytes first second) word = (word.kind ≡ kinds.Word) × (word.bytes ≡ first ∷ second ∷ [])
Says One word = (word.kind ≡ kinds.Word) × (fixed_of 0 word.bytes ≡ Ok (record { 0 = 1000000000000000 }))
Says Plain word = (word.kind ≡ kinds.Word) × (is_plain word.bytes ≡ true)
Says (Value scale value) word = (word.kind ≡ kinds.Word) × (fixed_of (shift_of scale) word.bytes ≡ Ok value)
Says (Entry number) word = (word.kind ≡ kinds.Word) × (is_entry word.bytes ≡ true) × (digits_value 10 (drop 1 word.bytes) ≡ number)
Says (Name name) word = (word.kind ≡ kinds.Word) × (begins_star word.bytes ≡ false) × (word.bytes ≡ name)
Says (Reference numbers name) word = (word.kind ≡ kinds.Word) × (name_of numbers word.bytes ≡ Ok name)
Says (EndOf numbers end) word = (word.kind ≡ kinds.Word) × (end_of numbers word.bytes ≡ Ok end)
Says (Direction dir) word = direction_of (key_of word) ≡ Some dir

-- the tokens are these parts
abbrev pub Are : List Part → List Lexeme → Type 0
Are parts words = Spells Says parts words
