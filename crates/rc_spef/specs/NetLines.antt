-- The map of names, the ports, and the nets, statement by statement.
use Rattle.std.specs.Prelude.{◌≡◌, ◌⊎◌, ◌++◌, ℕ, Bool, true, false, Option, Some, None, List, [], ◌∷◌}
use Rattle.rc_fixed.specs.declared.decimal.Fixed.{Fixed}
use Rattle.rc_keys.specs.Lexemes.{Lexeme}
use Rattle.rc_keys.specs.Phrases.{InTurn}
use Rattle.rc_spef.specs.declared.value.SpefPort.{SpefPort}
use Rattle.rc_spef.specs.declared.value.SpefConn.{SpefConn}
use Rattle.rc_spef.specs.declared.value.SpefRes.{SpefRes}
use Rattle.rc_spef.specs.declared.value.DNet.{DNet}
use Rattle.rc_spef.specs.declared.value.Cap.{Cap}
use Rattle.rc_spef.specs.declared.value.End.{End}
use Rattle.rc_spef.specs.declared.value.Dir3.{Dir3}
use Rattle.rc_spef.specs.declared.state.Scale.{Scale}
use Rattle.rc_spef.specs.declared.key.Key.{Key}
use Rattle.rc_spef.specs.declared.key.Key.TheVariants as keys
use Rattle.rc_spef.specs.Keys.{key_of}
use Rattle.rc_spef.specs.References.{is_in_map}
use Rattle.rc_spef.specs.Parts.{Word, AnyWord, Plain, Value, Entry, Name, Reference, EndOf, Direction, Are}

-- ---- *NAME_MAP: the numbers and the names, in their order

pub record Names : Type 0 where
  pub numbers : List ℕ
  pub names : List (List ℕ)

abbrev pub no_names : Names
no_names = record { numbers = []; names = [] }

-- *k name, where no earlier entry has that number
pub record NameLine (before : Names) (words : List Lexeme) (after : Names) : Type 0 where
  pub number : ℕ
  pub name : List ℕ
  pub are : Are (Entry number ∷ Name name ∷ []) words
  pub once : is_in_map before.numbers number ≡ false
  pub then : after ≡ record { numbers = before.numbers ++ number ∷ []; names = before.names ++ name ∷ [] }

-- ---- attributes: only the first cell is kept

abbrev pub first_of : Option (List ℕ) → List ℕ → Option (List ℕ)
first_of None cell = Some cell
first_of (Some earlier) cell = Some earlier

pub data Attribute (before : Option (List ℕ)) (words : List Lexeme) (after : Option (List ℕ)) : Type 0 where
  -- *C x y
  At : Are (Word keys.Coordinates ∷ AnyWord ∷ AnyWord ∷ []) words → after ≡ before → Attribute before words after
  -- *L v
  Loaded : Are (Word keys.Load ∷ AnyWord ∷ []) words → after ≡ before → Attribute before words after
  -- *D cell
  Driven : (cell : List ℕ) → Are (Word keys.DrivingCell ∷ Name cell ∷ []) words → after ≡ first_of before cell → Attribute before words after

-- a statement of fixed parts, and attributes behind them, which say this of the cell
pub record WithAttributes (Fixed : List Lexeme → Type 0) (cell : Option (List ℕ)) (words : List Lexeme) : Type 0 where
  pub head : List Lexeme
  pub tail : List Lexeme
  pub parts : words ≡ head ++ tail
  pub fixed : Fixed head
  pub attributes : InTurn Attribute None tail cell

-- ---- *PORTS: *k D, and attributes

pub record PortLine (numbers : List ℕ) (before : List SpefPort) (words : List Lexeme) (after : List SpefPort) : Type 0 where
  pub name : ℕ
  pub dir : Dir3
  pub cell : Option (List ℕ)
  pub are : WithAttributes (Are (Reference numbers name ∷ Direction dir ∷ [])) cell words
  pub then : after ≡ before ++ record { name = name; dir = dir } ∷ []

-- ---- *CONN

abbrev pub conn_word : Bool → Key
conn_word true = keys.ExternalConn
conn_word false = keys.InternalConn

pub data ConnLine (numbers : List ℕ) (before : List SpefConn) (words : List Lexeme) (after : List SpefConn) : Type 0 where
  -- *P end D, *I end D, and attributes
  Connects : (port : Bool) (end : End) (dir : Dir3) (cell : Option (List ℕ)) → WithAttributes (Are (Word (conn_word port) ∷ EndOf numbers end ∷ Direction dir ∷ [])) cell words
      → after ≡ before ++ record { port = port; end = end; dir = dir; cell = cell } ∷ [] → ConnLine numbers before words after
  -- *N end, and attributes, which is passed over
  Passes : (end : End) (cell : Option (List ℕ)) → WithAttributes (Are (Word keys.InternalNode ∷ EndOf numbers end ∷ [])) cell words → after ≡ before → ConnLine numbers before words after

-- ---- *CAP

pub data CapLine (scale : Scale) (numbers : List ℕ) (before : List Cap) (words : List Lexeme) (after : List Cap) : Type 0 where
  -- n end value
  Grounded : (a : End) (value : Fixed) → Are (Plain ∷ EndOf numbers a ∷ Value scale value ∷ []) words → after ≡ before ++ record { a = a; b = None; value = value } ∷ [] → CapLine scale numbers before words after
  -- n end end value
  Coupled : (a b : End) (value : Fixed) → Are (Plain ∷ EndOf numbers a ∷ EndOf numbers b ∷ Value scale value ∷ []) words → after ≡ before ++ record { a = a; b = Some b; value = value } ∷ [] → CapLine scale numbers before words after

-- ---- *RES: n end end value

pub record ResLine (scale : Scale) (numbers : List ℕ) (before : List SpefRes) (words : List Lexeme) (after : List SpefRes) : Type 0 where
  pub a : End
  pub b : End
  pub value : Fixed
  pub are : Are (Plain ∷ EndOf numbers a ∷ EndOf numbers b ∷ Value scale value ∷ []) words
  pub then : after ≡ before ++ record { a = a; b = b; value = value } ∷ []

-- ---- sections, which may be missing: a keyword and lines in turn

abbrev pub Section : {A : Type 0} → Key → (A → List Lexeme → A → Type 0) → A → List Lexeme → A → Type 0
Section key Line before words after =
    ((words ≡ []) × (after ≡ before)) ⊎ ((first : Lexeme) × (rest : List Lexeme) × (words ≡ first ∷ rest) × (key_of first ≡ key) × InTurn Line before rest after)

-- ---- *D_NET *k total, optionally *V and a word, the sections, and *END

abbrev pub Confidence : List Lexeme → Type 0
Confidence words = (words ≡ []) ⊎ Are (Word keys.Confidence ∷ AnyWord ∷ []) words

pub record NetBlock (cap_scale res_scale : Scale) (numbers : List ℕ) (net : DNet) (words : List Lexeme) : Type 0 where
  pub head : List Lexeme
  pub confidence : List Lexeme
  pub conns : List Lexeme
  pub caps : List Lexeme
  pub resistors : List Lexeme
  pub last : List Lexeme
  pub parts : words ≡ head ++ (confidence ++ (conns ++ (caps ++ (resistors ++ last))))
  pub begins : Are (Word keys.DNet ∷ Reference numbers net.name ∷ Value cap_scale net.total ∷ []) head
  pub told : Confidence confidence
  pub connects : Section keys.Conn (ConnLine numbers) [] conns net.conns
  pub couples : Section keys.Cap (CapLine cap_scale numbers) [] caps net.caps
  pub resists : Section keys.Res (ResLine res_scale numbers) [] resistors net.res
  pub ends : Are (Word keys.End ∷ []) last

pub record NetLine (cap_scale res_scale : Scale) (numbers : List ℕ) (before : List DNet) (words : List Lexeme) (after : List DNet) : Type 0 where
  pub net : DNet
  pub block : NetBlock cap_scale res_scale numbers net words
  pub then : after ≡ before ++ net ∷ []
