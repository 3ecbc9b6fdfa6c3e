-- Rows that take tokens, statement by statement.
use Rattle.std.proofs.Common.{◌≡◌, ◌∙◌, ℕ, List, [], ◌∷◌, ◌++◌, refl, ap, sym, None}
use Rattle.std.proofs.lemmas.List.{append-nil}
use Rattle.rc_keys.specs.Lexemes.{Lexeme}
use Rattle.rc_keys.specs.Phrases.{InTurn, joined}
use Rattle.rc_keys.proofs.Phrasing.{Step}
use Rattle.rc_keys.proofs.Blocks.{joined-append, folds-append}
use Rattle.rc_spef.specs.declared.value.SpefPort.{SpefPort}
use Rattle.rc_spef.specs.declared.value.DNet.{DNet}
use Rattle.rc_spef.specs.declared.state.Header.{Header}
use Rattle.rc_spef.specs.declared.state.State.{State}
use Rattle.rc_spef.specs.declared.state.ConnKind.{ConnKind}
use Rattle.rc_spef.specs.declared.state.Row.{Row}
use Rattle.rc_spef.specs.declared.state.Row.TheVariants as rows
use Rattle.rc_spef.specs.Moves.{no_end}
use Rattle.rc_spef.specs.Rows.{spef_turn}

-- what is known of a text so far
pub record Known : Type 0 where
  pub header : Header
  pub map : List ℕ
  pub names : List (List ℕ)
  pub ports : List SpefPort
  pub nets : List DNet
  pub net : DNet

-- what earlier statements left
pub record Left : Type 0 where
  pub back : Row
  pub line : ℕ
  pub name : ℕ
  pub kind : ConnKind

-- the state where a statement may begin
abbrev pub at : Row → Known → Left → State
at row k z = record {
  row = row;
  back = z.back;
  line = z.line;
  header = k.header;
  map = k.map;
  names = k.names;
  ports = k.ports;
  nets = k.nets;
  net = k.net;
  name = z.name;
  kind = z.kind;
  first = no_end;
  second = None;
}

-- the rows take these tokens from one state to another
abbrev pub Walks : State → List Lexeme → State → Type 0
Walks s words t = InTurn (Step spef_turn) s words t

pub nothing : (s : State) → Walks s [] s
nothing s = record { parts = []; whole = refl; each = refl }

pub one : (s t : State) (words : List Lexeme) → Step spef_turn s words t → Walks s words t
one s t words is = record { parts = words ∷ []; whole = sym (append-nil words); each = (t, is, refl) }

pub then : (s t u : State) (some others : List Lexeme) → Walks s some t → Walks t others u → Walks s (some ++ others) u
then s t u some others first second = record {
  parts = first.parts ++ second.parts;
  whole = ap (λ (ws : List Lexeme). ws ++ others) first.whole ∙ ap (λ (ws : List Lexeme). joined first.parts ++ ws) second.whole ∙ sym (joined-append first.parts second.parts);
  each = folds-append (Step spef_turn) first.parts second.parts s t u first.each second.each;
}

-- the rows take these tokens to some state of that kind, with what is known there
abbrev pub Leads : State → List Lexeme → (Row → Type 0) → Known → Type 0
Leads s words Ends k = (row : Row) × (z : Left) × Ends row × Walks s words (at row k z)

abbrev pub Is : Row → Row → Type 0
Is row other = other ≡ row

-- ---- kinds of rows

-- behind the total of a net, before its connections
pub data BeforeConns : Row → Type 0 where
  at_total : BeforeConns rows.NetTail
  at_sections : BeforeConns rows.Sections

-- where a connection may stand
pub data ConnRow : Row → Type 0 where
  first_conn : ConnRow rows.Conns
  behind_conn : ConnRow rows.ConnTail
  behind_node : ConnRow rows.NodeTail

pub data BeforeCaps : Row → Type 0 where
  no_conns : (row : Row) → BeforeConns row → BeforeCaps row
  some_conns : (row : Row) → ConnRow row → BeforeCaps row

pub data BeforeResistors : Row → Type 0 where
  no_caps : (row : Row) → BeforeCaps row → BeforeResistors row
  at_caps : BeforeResistors rows.Caps

pub data BeforeEnd : Row → Type 0 where
  no_resistors : (row : Row) → BeforeResistors row → BeforeEnd row
  at_resistors : BeforeEnd rows.Resistors

-- where a word of the header may stand
pub data HeaderRow : Row → Type 0 where
  at_header : HeaderRow rows.Header
  at_flows : HeaderRow rows.Flows

pub data BeforePorts : Row → Type 0 where
  no_names : (row : Row) → HeaderRow row → BeforePorts row
  at_names : BeforePorts rows.Names

-- where a port may stand
pub data PortRow : Row → Type 0 where
  first_port : PortRow rows.Ports
  behind_port : PortRow rows.PortTail

-- where a net may stand
pub data BeforeNet : Row → Type 0 where
  no_ports : (row : Row) → BeforePorts row → BeforeNet row
  some_ports : (row : Row) → PortRow row → BeforeNet row
  at_nets : BeforeNet rows.Nets
