-- What the rows of all blocks share.
use Rattle.std.specs.Prelude.{ℕ, Option, Some, None, Result, Ok, Err, List}
use Rattle.rc_keys.specs.declared.code.Code.{Code}
use Rattle.rc_keys.specs.declared.code.Code.TheVariants.{E03}
use Rattle.rc_keys.specs.Lexemes.{Lexeme}
use Rattle.rc_keys.specs.Course.{Turn, More, Done, refuse}
use Rattle.rc_lef.specs.declared.key.Key.{Key}
use Rattle.rc_lef.specs.declared.key.Key.TheVariants as keys
use Rattle.rc_lef.specs.declared.tech.LayerKind.{LayerKind}
use Rattle.rc_lef.specs.Operands.{kind_named, layer_at}
use Rattle.rc_lef.specs.Technology.{Technology}
use Rattle.rc_lef.specs.declared.state.Row.{Row}
use Rattle.rc_lef.specs.declared.state.Row.TheVariants as rows
use Rattle.rc_lef.specs.declared.state.State.{State}

-- the statement goes on in a row
abbrev pub goes : Row → State → Turn State
goes row s = More (record s { row = row })

-- the statement is complete, and the next one begins
abbrev pub ends : State → Turn State
ends s = Done (record s { row = rows.Begin })

-- the first one counts
abbrev pub first : {A : Type 0} → Option A → A → Option A
first (Some earlier) later = Some earlier
first None later = Some later

abbrev pub or_else : {A : Type 0} → Option A → Option A → Option A
or_else (Some earlier) later = Some earlier
or_else None later = later

-- a token is read as a value, or refused
abbrev pub with_read : {A : Type 0} → Lexeme → Result A Code → (A → Turn State) → Turn State
with_read word (Err code) f = refuse code word
with_read word (Ok a) f = f a

-- ---- rows of all blocks

-- up to and including the next `;`
unfoldable pub over_row : State → Key → Turn State
over_row s keys.Semicolon = ends s
over_row s _ = More s

-- a `;` is due
unfoldable pub due_row : State → Key → Lexeme → Turn State
due_row s keys.Semicolon word = ends s
due_row s _ word = refuse E03 word

-- a statement that begins with none of the block's words
abbrev pub other_statement : State → Key → Lexeme → Turn State
other_statement s keys.Semicolon word = ends s
other_statement s keys.Quoted word = refuse E03 word
other_statement s _ word = goes rows.Over s

-- a block is skipped up to END and this word
abbrev pub skips : State → List ℕ → Turn State
skips s name = goes rows.Skip (record s { name = name })

-- ---- the kind of the layer of a name

-- those of the technology before the file come first
unfoldable pub layer_kind : Technology → State → List ℕ → Option LayerKind
layer_kind tech s name = or_else (kind_named name tech.layers) (kind_named name s.layers)

abbrev pub layer_of : Technology → State → Key → Lexeme → Result LayerKind Code
layer_of tech s key word = layer_at (layer_kind tech s word.bytes) key
