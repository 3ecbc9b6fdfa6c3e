-- What the rows do with the tokens of attributes, and of what is passed over.
use Rattle.std.proofs.Common.{◌≡◌, ℕ, false, List, refl}
use Rattle.rc_keys.specs.Lexemes.{Lexeme}
use Rattle.rc_keys.specs.Course.{More, Done}
use Rattle.rc_keys.specs.Statements.{at_line}
use Rattle.rc_spef.specs.declared.state.Row.{Row}
use Rattle.rc_spef.specs.declared.state.Row.TheVariants as rows
use Rattle.rc_spef.specs.declared.key.Key.{Key}
use Rattle.rc_spef.specs.declared.key.Key.TheVariants as keys
use Rattle.rc_spef.specs.Keys.{key_of, is_quoted}
use Rattle.rc_spef.specs.NameRows.{port_tail_row, first_coordinate_row, passed_row, cell_row, with_cell}
use Rattle.rc_spef.specs.NetRows.{conn_tail_row}
use Rattle.rc_spef.specs.Rows.{spef_turn}
use Rattle.rc_spef.specs.Parts.{Says, AnyWord, Name}
use Rattle.rc_spef.proofs.Walks.{Known, Left, at}
use Rattle.rc_spef.proofs.NetTokens.{keyed, with_conns}
use Rattle.rc_spef.proofs.Starts.{word_key}

-- where attributes may stand
pub data TailRow : Row → Type 0 where
  port_tail : TailRow rows.PortTail
  conn_tail : TailRow rows.ConnTail
  node_tail : TailRow rows.NodeTail

abbrev pub back_to : Row → Left → Left
back_to row z = record z { back = row }

pub coordinates_word : (row : Row) → TailRow row → (k : Known) (z : Left) (line : ℕ) (word : Lexeme) → key_of word ≡ keys.Coordinates → spef_turn (at row k z) (at_line line word) ≡ More (at rows.FirstCoordinate k (back_to row z))
unfolding spef_turn port_tail_row conn_tail_row
coordinates_word row port_tail k z line word is = rw (keyed line word, is) refl
coordinates_word row conn_tail k z line word is = rw (keyed line word, is) refl
coordinates_word row node_tail k z line word is = rw (keyed line word, is) refl

pub load_word : (row : Row) → TailRow row → (k : Known) (z : Left) (line : ℕ) (word : Lexeme) → key_of word ≡ keys.Load → spef_turn (at row k z) (at_line line word) ≡ More (at rows.Load k (back_to row z))
unfolding spef_turn port_tail_row conn_tail_row
load_word row port_tail k z line word is = rw (keyed line word, is) refl
load_word row conn_tail k z line word is = rw (keyed line word, is) refl
load_word row node_tail k z line word is = rw (keyed line word, is) refl

pub driven_word : (row : Row) → TailRow row → (k : Known) (z : Left) (line : ℕ) (word : Lexeme) → key_of word ≡ keys.DrivingCell → spef_turn (at row k z) (at_line line word) ≡ More (at rows.Cell k (back_to row z))
unfolding spef_turn port_tail_row conn_tail_row
driven_word row port_tail k z line word is = rw (keyed line word, is) refl
driven_word row conn_tail k z line word is = rw (keyed line word, is) refl
driven_word row node_tail k z line word is = rw (keyed line word, is) refl

first_key : (k : Known) (z : Left) (key : Key) → is_quoted key ≡ false → first_coordinate_row (at rows.FirstCoordinate k z) key ≡ More (at rows.SecondCoordinate k z)
unfolding first_coordinate_row
first_key k z keys.Quoted is = absurd cc
first_key k z _ is = refl

pub first_coordinate : (k : Known) (z : Left) (line : ℕ) (word : Lexeme) → Says AnyWord word → spef_turn (at rows.FirstCoordinate k z) (at_line line word) ≡ More (at rows.SecondCoordinate k z)
unfolding spef_turn
first_coordinate k z line word is = first_key k z (key_of (at_line line word)) (rw (keyed line word) (word_key word is))

passed_key : (row : Row) (k : Known) (z : Left) (key : Key) → is_quoted key ≡ false → passed_row (at row k z) key ≡ Done (at z.back k z)
unfolding passed_row
passed_key row k z keys.Quoted is = absurd cc
passed_key row k z _ is = refl

pub second_coordinate : (k : Known) (z : Left) (line : ℕ) (word : Lexeme) → Says AnyWord word → spef_turn (at rows.SecondCoordinate k z) (at_line line word) ≡ Done (at z.back k z)
unfolding spef_turn
second_coordinate k z line word is = passed_key rows.SecondCoordinate k z (key_of (at_line line word)) (rw (keyed line word) (word_key word is))

pub load_value : (k : Known) (z : Left) (line : ℕ) (word : Lexeme) → Says AnyWord word → spef_turn (at rows.Load k z) (at_line line word) ≡ Done (at z.back k z)
unfolding spef_turn
load_value k z line word is = passed_key rows.Load k z (key_of (at_line line word)) (rw (keyed line word) (word_key word is))

pub confidence_value : (k : Known) (z : Left) (line : ℕ) (word : Lexeme) → Says AnyWord word → spef_turn (at rows.Confidence k z) (at_line line word) ≡ Done (at z.back k z)
unfolding spef_turn
confidence_value k z line word is = passed_key rows.Confidence k z (key_of (at_line line word)) (rw (keyed line word) (word_key word is))

-- the cell of a connection is kept, and other cells aren't
pub conn_cell : (k : Known) (z : Left) (line : ℕ) (word : Lexeme) (name : List ℕ) → Says (Name name) word →
    spef_turn (at rows.Cell k (back_to rows.ConnTail z)) (at_line line word) ≡ Done (at rows.ConnTail (with_conns k (with_cell k.net.conns name)) (back_to rows.ConnTail z))
unfolding spef_turn cell_row
conn_cell k z line word name is = rw (keyed line word, word_key word is.0, is.1, is.2) refl

pub node_cell : (k : Known) (z : Left) (line : ℕ) (word : Lexeme) (name : List ℕ) → Says (Name name) word → spef_turn (at rows.Cell k (back_to rows.NodeTail z)) (at_line line word) ≡ Done (at rows.NodeTail k (back_to rows.NodeTail z))
unfolding spef_turn cell_row
node_cell k z line word name is = rw (keyed line word, word_key word is.0, is.1) refl

pub port_cell : (k : Known) (z : Left) (line : ℕ) (word : Lexeme) (name : List ℕ) → Says (Name name) word → spef_turn (at rows.Cell k (back_to rows.PortTail z)) (at_line line word) ≡ Done (at rows.PortTail k (back_to rows.PortTail z))
unfolding spef_turn cell_row
port_cell k z line word name is = rw (keyed line word, word_key word is.0, is.1) refl
