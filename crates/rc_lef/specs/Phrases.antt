-- How statements of LEF are written down: keywords, names and numbers, and what is read over.
use Rattle.std.specs.Prelude.{◌≡◌, ◌&&◌, ℕ, ℤ, Bool, true, false, not, Option, Some, Ok, List, [], ◌∷◌}
use Rattle.rc_keys.specs.Lexemes.{Lexeme}
use Rattle.rc_keys.specs.Phrases.{Spells, EndsAtFirst}
use Rattle.rc_lef.specs.declared.key.Key.{Key}
use Rattle.rc_lef.specs.declared.key.Key.TheVariants as keys
use Rattle.rc_lef.specs.declared.length.Range.{Range}
use Rattle.rc_lef.specs.declared.length.Range.TheVariants as ranges
use Rattle.rc_lef.specs.declared.tech.Layer.{Layer}
use Rattle.rc_lef.specs.declared.tech.LayerKind.{LayerKind}
use Rattle.rc_lef.specs.declared.units.Units.{Units}
use Rattle.rc_lef.specs.Keys.{key_of, is_name, is_quoted}
use Rattle.rc_lef.specs.Lengths.{units_named, length_read, positive}
use Rattle.rc_lef.specs.Operands.{length_at, count_at, whole_at, kind_named, layer_at}

abbrev pub is_semicolon : Key → Bool
is_semicolon keys.Semicolon = true
is_semicolon _ = false

-- a part of a statement
pub data Part : Type 0 where
  -- a keyword
  Word : (key : Key) → Part
  -- a name, any name, one that is none of these keywords, and that of a layer of this kind
  Name : (name : List ℕ) → Part
  AnyName : Part
  AnyBut : (keywords : Key → Bool) → Part
  LayerOf : (layers : List Layer) (kind : LayerKind) → Part
  -- any word but `;`
  Operand : Part
  -- a number of units of a micron, a length in units and of a range, a whole number, and how many rows or columns there are
  InAMicron : (units : Units) → Part
  Length : (range : Range) (units : Option Units) (length : ℤ) → Part
  Whole : Part
  Count : (count : ℕ) → Part
  -- a length above 0 where any word may stand
  Above0 : (units : Option Units) (length : ℤ) → Part

abbrev pub semicolon : Part
semicolon = Word keys.Semicolon

-- lengths: any, above 0, and at least 0
abbrev pub Coordinate : Option Units → ℤ → Part
Coordinate units z = Length ranges.Any units z

abbrev pub Size : Option Units → ℤ → Part
Size units z = Length ranges.Above0 units z

abbrev pub Distance : Option Units → ℤ → Part
Distance units z = Length ranges.AtLeast0 units z

-- a token is that part
abbrev pub Says : Part → Lexeme → Type 0
Says (Word key) word = key_of word ≡ key
Says (Name name) word = (is_name (key_of word) ≡ true) × (word.bytes ≡ name)
Says AnyName word = is_name (key_of word) ≡ true
Says (AnyBut keywords) word = (is_name (key_of word) ≡ true) × (keywords (key_of word) ≡ false)
Says (LayerOf layers kind) word = layer_at (kind_named word.bytes layers) (key_of word) ≡ Ok kind
Says Operand word = (is_quoted (key_of word) ≡ false) × (is_semicolon (key_of word) ≡ false)
Says (InAMicron units) word = (is_quoted (key_of word) ≡ false) × (units_named word.bytes ≡ Some units)
Says (Length range units length) word = length_at range units (key_of word) word.bytes ≡ Ok length
Says Whole word = whole_at (key_of word) word.bytes ≡ Ok tt
Says (Count count) word = count_at (key_of word) word.bytes ≡ Ok count
Says (Above0 units length) word = (is_quoted (key_of word) ≡ false) × (is_semicolon (key_of word) ≡ false) × (positive (length_read units word.bytes) ≡ Ok length)

-- the tokens are these parts
abbrev pub Are : List Part → List Lexeme → Type 0
Are parts words = Spells Says parts words

-- the tokens are read over: up to and including the first `;`
abbrev pub ends_statement : Lexeme → Bool
ends_statement word = is_semicolon (key_of word)

abbrev pub IsOver : List Lexeme → Type 0
IsOver words = EndsAtFirst ends_statement words

abbrev pub begins_otherwise : (Key → Bool) → List Lexeme → Bool
begins_otherwise keywords [] = false
begins_otherwise keywords (word ∷ words) = not (is_quoted (key_of word)) && not (keywords (key_of word))

-- a statement that begins with none of these keywords is read over
abbrev pub IsOther : (Key → Bool) → List Lexeme → Type 0
IsOther keywords words = (begins_otherwise keywords words ≡ true) × IsOver words
