-- The rows take ports and connections with their attributes, and the header.
use Rattle.std.proofs.Common.{◌≡◌, ◌∙◌, ℕ, List, [], ◌∷◌, ◌++◌, refl, ap, sym, subst, Option, Some, None}
use Rattle.rc_keys.specs.Lexemes.{Lexeme}
use Rattle.rc_spef.specs.declared.value.SpefPort.{SpefPort}
use Rattle.rc_spef.specs.declared.value.SpefConn.{SpefConn}
use Rattle.rc_spef.specs.declared.state.ConnKind.TheVariants as conn_kinds
use Rattle.rc_spef.specs.declared.state.Row.{Row}
use Rattle.rc_spef.specs.declared.state.Row.TheVariants as rows
use Rattle.rc_spef.specs.declared.key.Key.TheVariants as keys
use Rattle.rc_spef.specs.NameRows.{first_cell, with_cell}
use Rattle.rc_spef.specs.Parts.{Word, AnyWord, Name, Reference, EndOf, Direction, Are}
use Rattle.rc_spef.specs.NetLines.{Attribute, PortLine, ConnLine, conn_word as word_of_conn, first_of}
use Rattle.rc_spef.specs.NetLines.Attribute.{At, Loaded, Driven}
use Rattle.rc_spef.specs.NetLines.ConnLine.{Connects, Passes}
use Rattle.rc_spef.proofs.Tails.{cell_of_last}
use Rattle.rc_spef.proofs.Walks.{Known, Left, at, Walks, Is, ConnRow, PortRow, then}
use Rattle.rc_spef.proofs.Walks.ConnRow.{behind_conn, behind_node}
use Rattle.rc_spef.proofs.Walks.PortRow.{behind_port}
use Rattle.rc_spef.proofs.NetTokens.{with_conns, kind_of, conn_word, node_word, conn_end, node_end, conn_direction}
use Rattle.rc_spef.proofs.HeadTokens.{port_name, port_direction}
use Rattle.rc_spef.proofs.TailTokens.{TailRow, back_to, coordinates_word, load_word, driven_word, first_coordinate, second_coordinate, load_value, conn_cell, node_cell, port_cell}
use Rattle.rc_spef.proofs.TailTokens.TailRow.{port_tail, conn_tail, node_tail}
use Rattle.rc_spef.proofs.LineWalks.{Each, taken, two_parts, three_parts, turns_walk}

-- attributes that say nothing of a cell
passed : (row : Row) → TailRow row → (k : Known) (z : Left) (words : List Lexeme) → Are (Word keys.Coordinates ∷ AnyWord ∷ AnyWord ∷ []) words → Walks (at row k z) words (at row k (back_to row z))
passed row tail k z words is =
    let t = three_parts (Word keys.Coordinates) AnyWord AnyWord words is in
    let line : ℕ = t.0.line in
    taken (at row k z) (at row k (back_to row z)) words (t.0 ∷ t.1 ∷ t.2 ∷ []) t.3 (
      at rows.FirstCoordinate k (back_to row z),
      coordinates_word row tail k z line t.0 t.4,
      (at rows.SecondCoordinate k (back_to row z), first_coordinate k (back_to row z) line t.1 t.5, second_coordinate k (back_to row z) line t.2 t.6),
    )

loaded : (row : Row) → TailRow row → (k : Known) (z : Left) (words : List Lexeme) → Are (Word keys.Load ∷ AnyWord ∷ []) words → Walks (at row k z) words (at row k (back_to row z))
loaded row tail k z words is =
    let t = two_parts (Word keys.Load) AnyWord words is in
    let line : ℕ = t.0.line in
    taken (at row k z) (at row k (back_to row z)) words (t.0 ∷ t.1 ∷ []) t.2 (at rows.Load k (back_to row z), load_word row tail k z line t.0 t.3, load_value k (back_to row z) line t.1 t.4)

-- a port's and a node's attributes are passed over
pub port_attribute : (k : Known) → Each Attribute (Is rows.PortTail) (λ (cell : Option (List ℕ)). k)
port_attribute k row z before after words is (At are same) = rw is (rows.PortTail, back_to rows.PortTail z, refl, passed rows.PortTail port_tail k z words are)
port_attribute k row z before after words is (Loaded are same) = rw is (rows.PortTail, back_to rows.PortTail z, refl, loaded rows.PortTail port_tail k z words are)
port_attribute k row z before after words is (Driven cell are same) =
    let t = two_parts (Word keys.DrivingCell) (Name cell) words are in
    rw is (
      rows.PortTail,
      back_to rows.PortTail z,
      refl,
      taken (at rows.PortTail k z) (at rows.PortTail k (back_to rows.PortTail z)) words (t.0 ∷ t.1 ∷ []) t.2
          (at rows.Cell k (back_to rows.PortTail z), driven_word rows.PortTail port_tail k z t.0.line t.0 t.3, port_cell k z t.0.line t.1 cell t.4),
    )

pub node_attribute : (k : Known) → Each Attribute (Is rows.NodeTail) (λ (cell : Option (List ℕ)). k)
node_attribute k row z before after words is (At are same) = rw is (rows.NodeTail, back_to rows.NodeTail z, refl, passed rows.NodeTail node_tail k z words are)
node_attribute k row z before after words is (Loaded are same) = rw is (rows.NodeTail, back_to rows.NodeTail z, refl, loaded rows.NodeTail node_tail k z words are)
node_attribute k row z before after words is (Driven cell are same) =
    let t = two_parts (Word keys.DrivingCell) (Name cell) words are in
    rw is (
      rows.NodeTail,
      back_to rows.NodeTail z,
      refl,
      taken (at rows.NodeTail k z) (at rows.NodeTail k (back_to rows.NodeTail z)) words (t.0 ∷ t.1 ∷ []) t.2
          (at rows.Cell k (back_to rows.NodeTail z), driven_word rows.NodeTail node_tail k z t.0.line t.0 t.3, node_cell k z t.0.line t.1 cell t.4),
    )

-- a connection's cell is kept
abbrev pub with_conn : Known → List SpefConn → SpefConn → Option (List ℕ) → Known
with_conn k before conn cell = with_conns k (before ++ record conn { cell = cell } ∷ [])

first_same : (cell : Option (List ℕ)) (name : List ℕ) → first_of cell name ≡ first_cell cell name
first_same None name = refl
first_same (Some earlier) name = refl

pub conn_attribute : (k : Known) (conns : List SpefConn) (joins : SpefConn) → Each Attribute (Is rows.ConnTail) (with_conn k conns joins)
conn_attribute k conns joins row z before after words is (At are same) = rw (is, same) (rows.ConnTail, back_to rows.ConnTail z, refl, passed rows.ConnTail conn_tail (with_conn k conns joins before) z words are)
conn_attribute k conns joins row z before after words is (Loaded are same) = rw (is, same) (rows.ConnTail, back_to rows.ConnTail z, refl, loaded rows.ConnTail conn_tail (with_conn k conns joins before) z words are)
conn_attribute k conns joins row z before after words is (Driven cell are same) =
    let t = two_parts (Word keys.DrivingCell) (Name cell) words are in
    let now : Known = with_conn k conns joins before in
    let kept : with_cell (conns ++ record joins { cell = before } ∷ []) cell ≡ conns ++ record joins { cell = after } ∷ [] =
    cell_of_last conns (record joins { cell = before }) cell ∙ ap (λ (c : Option (List ℕ)). conns ++ record joins { cell = c } ∷ []) (sym (first_same before cell) ∙ sym same) in
    rw is (
      rows.ConnTail,
      back_to rows.ConnTail z,
      refl,
      subst (λ (all : List SpefConn). Walks (at rows.ConnTail now z) words (at rows.ConnTail (with_conns k all) (back_to rows.ConnTail z))) kept
          (taken (at rows.ConnTail now z) (at rows.ConnTail (with_conns k (with_cell (conns ++ record joins { cell = before } ∷ []) cell)) (back_to rows.ConnTail z)) words (t.0 ∷ t.1 ∷ []) t.2
          (at rows.Cell now (back_to rows.ConnTail z), driven_word rows.ConnTail conn_tail now z t.0.line t.0 t.3, conn_cell now z t.0.line t.1 cell t.4)),
    )

-- ---- connections

pub conn_each : (k : Known) → Each (ConnLine k.map) ConnRow (with_conns k)
conn_each k row z before after words may (Connects port end dir cell is same) =
    let t = three_parts (Word (word_of_conn port)) (EndOf k.map end) (Direction dir) is.head is.fixed in
    let line : ℕ = t.0.line in
    let now : Known = with_conns k before in
    let left : Left = record z { kind = kind_of port; line = line } in
    let joins : SpefConn = record { port = port; end = end; dir = dir; cell = None } in
    let head : Walks (at row now z) is.head (at rows.ConnTail (with_conn k before joins None) left) =
    taken (at row now z) (at rows.ConnTail (with_conn k before joins None) left) is.head (t.0 ∷ t.1 ∷ t.2 ∷ []) t.3 (
      at rows.ConnEnd now left,
      conn_word row may now z line t.0 port t.4,
      (record (at rows.ConnDirection now left) { first = end }, conn_end now left line t.1 end port t.5, conn_direction now left line t.2 end port dir t.6),
    ) in
    let tail = turns_walk Attribute (Is rows.ConnTail) (with_conn k before joins) (conn_attribute k before joins) rows.ConnTail left None cell is.tail refl is.attributes in
    let whole : Walks (at row now z) (is.head ++ is.tail) (at tail.0 (with_conn k before joins cell) tail.1) =
    then (at row now z) (at rows.ConnTail (with_conn k before joins None) left) (at tail.0 (with_conn k before joins cell) tail.1) is.head is.tail head tail.3 in
    (tail.0, tail.1, rw tail.2 behind_conn, rw (is.parts, same) whole)
conn_each k row z before after words may (Passes end cell is same) =
    let t = two_parts (Word keys.InternalNode) (EndOf k.map end) is.head is.fixed in
    let line : ℕ = t.0.line in
    let now : Known = with_conns k before in
    let left : Left = record z { kind = conn_kinds.Node; line = line } in
    let head : Walks (at row now z) is.head (at rows.NodeTail now left) =
    taken (at row now z) (at rows.NodeTail now left) is.head (t.0 ∷ t.1 ∷ []) t.2 (at rows.ConnEnd now left, node_word row may now z line t.0 t.3, node_end now left line t.1 end t.4) in
    let tail = turns_walk Attribute (Is rows.NodeTail) (λ (cell : Option (List ℕ)). now) (node_attribute now) rows.NodeTail left None cell is.tail refl is.attributes in
    let whole : Walks (at row now z) (is.head ++ is.tail) (at tail.0 now tail.1) = then (at row now z) (at rows.NodeTail now left) (at tail.0 now tail.1) is.head is.tail head tail.3 in
    (tail.0, tail.1, rw tail.2 behind_node, rw (is.parts, same) whole)

-- ---- ports

abbrev pub with_ports : Known → List SpefPort → Known
with_ports k ports = record k { ports = ports }

pub port_each : (k : Known) → Each (PortLine k.map) PortRow (with_ports k)
port_each k row z before after words may is =
    let t = two_parts (Reference k.map is.name) (Direction is.dir) is.are.head is.are.fixed in
    let line : ℕ = t.0.line in
    let now : Known = with_ports k before in
    let left : Left = record z { name = is.name; line = line } in
    let done : Known = with_ports k (before ++ record { name = is.name; dir = is.dir } ∷ []) in
    let head : Walks (at row now z) is.are.head (at rows.PortTail done left) =
    taken (at row now z) (at rows.PortTail done left) is.are.head (t.0 ∷ t.1 ∷ []) t.2 (at rows.PortDirection now left, port_name now z row may line t.0 is.name t.3, port_direction now left line t.1 is.dir t.4) in
    let tail = turns_walk Attribute (Is rows.PortTail) (λ (cell : Option (List ℕ)). done) (port_attribute done) rows.PortTail left None is.cell is.are.tail refl is.are.attributes in
    let whole : Walks (at row now z) (is.are.head ++ is.are.tail) (at tail.0 done tail.1) = then (at row now z) (at rows.PortTail done left) (at tail.0 done tail.1) is.are.head is.are.tail head tail.3 in
    (tail.0, tail.1, rw tail.2 behind_port, rw (is.are.parts, is.then) whole)
