-- How statements of rule files are written down: keywords, layers and numbers.
use Rattle.std.specs.Prelude.{◌≡◌, ℕ, true, false, Option, Some, None, List, codes}
use Rattle.rc_keys.specs.Lexemes.{Lexeme}
use Rattle.rc_keys.specs.Phrases.{Spells}
use Rattle.rc_lef.specs.declared.units.Units.{Units}
use Rattle.rc_lef.specs.Technology.{Technology}
use Rattle.rc_rules.specs.declared.key.Key.{Key}
use Rattle.rc_rules.specs.declared.key.Key.TheVariants as keys
use Rattle.rc_rules.specs.Keys.{key_of, is_name, is_quoted, is_semicolon, is_nothing}
use Rattle.rc_rules.specs.Numbers.{length_of, share_of, resistance_of}
use Rattle.rc_rules.specs.Layers.{routing_named, cut_named}

-- a part of a statement
pub data Part : Type 0 where
  -- a keyword
  Word : (key : Key) → Part
  -- the version of the format
  Version : Part
  -- the name of the routing layer of this number, or of the cut layer
  RoutingLayer : (number : ℕ) → Part
  CutLayer : (number : ℕ) → Part
  -- NONE, or the name of the routing layer of this number
  LayerOrNone : (layer : Option ℕ) → Part
  -- a length of at least one unit; a number for a micron, which is this for one unit; and a resistance by itself
  Length : (length : ℕ) → Part
  Share : (number : ℕ) → Part
  Resistance : (number : ℕ) → Part

abbrev pub semicolon : Part
semicolon = Word keys.Semicolon

abbrev pub IsLayerOrNone : Technology → Option ℕ → Lexeme → Type 0
IsLayerOrNone tech None word = key_of word ≡ keys.Nothing
IsLayerOrNone tech (Some number) word = (is_nothing (key_of word) ≡ false) × (is_name (key_of word) ≡ true) × (routing_named tech word.bytes ≡ Some number)

-- a token is that part
abbrev pub Says : Units → Technology → Part → Lexeme → Type 0
Says units tech (Word key) word = key_of word ≡ key
Says units tech Version word = (is_quoted (key_of word) ≡ false) × (word.bytes ≡ codes "1")
Says units tech (RoutingLayer number) word = (is_name (key_of word) ≡ true) × (routing_named tech word.bytes ≡ Some number)
Says units tech (CutLayer number) word = (is_name (key_of word) ≡ true) × (cut_named tech word.bytes ≡ Some number)
Says units tech (LayerOrNone layer) word = IsLayerOrNone tech layer word
Says units tech (Length length) word = (is_semicolon (key_of word) ≡ false) × (is_quoted (key_of word) ≡ false) × (length_of units word.bytes ≡ Some length)
Says units tech (Share number) word = (is_semicolon (key_of word) ≡ false) × (is_quoted (key_of word) ≡ false) × (share_of units word.bytes ≡ Some number)
Says units tech (Resistance number) word = (is_quoted (key_of word) ≡ false) × (resistance_of word.bytes ≡ Some number)

-- the tokens are these parts
abbrev pub Are : Units → Technology → List Part → List Lexeme → Type 0
Are units tech parts words = Spells (Says units tech) parts words
