-- When two nets of two values are the same: names are compared by their texts, and all else in order.
use Rattle.std.specs.Prelude.{◌-◌, ℕ, Bool, List, [], Option, get_or, map, option_map}
use Rattle.rc_spef.specs.declared.value.SpefConn.{SpefConn}
use Rattle.rc_spef.specs.declared.value.SpefRes.{SpefRes}
use Rattle.rc_spef.specs.declared.value.DNet.{DNet}
use Rattle.rc_spef.specs.declared.value.Cap.{Cap}
use Rattle.rc_spef.specs.declared.value.End.{End}
use Rattle.rc_spef.specs.declared.value.Sub.{Sub}
use Rattle.rc_spef.specs.declared.value.Dir3.{Dir3}

-- the text of a name, which is told by its place from 1
abbrev pub name_text : List (List ℕ) → ℕ → List ℕ
name_text names place = get_or names (place - 1) []

-- a net and its parts, with texts in place of names
pub record NamedEnd : Type 0 where
  pub name : List ℕ
  pub sub : Sub

pub record NamedConn : Type 0 where
  pub port : Bool
  pub end : NamedEnd
  pub dir : Dir3
  pub cell : Option (List ℕ)

pub record NamedCap : Type 0 where
  pub a : NamedEnd
  pub b : Option NamedEnd
  pub value : ℕ

pub record NamedResistor : Type 0 where
  pub a : NamedEnd
  pub b : NamedEnd
  pub value : ℕ

pub record NamedNet : Type 0 where
  pub name : List ℕ
  pub total : ℕ
  pub conns : List NamedConn
  pub caps : List NamedCap
  pub res : List NamedResistor

abbrev pub named_end : List (List ℕ) → End → NamedEnd
named_end names end = record { name = name_text names end.name; sub = end.sub }

abbrev pub named_conn : List (List ℕ) → SpefConn → NamedConn
named_conn names conn = record { port = conn.port; end = named_end names conn.end; dir = conn.dir; cell = conn.cell }

abbrev pub named_cap : List (List ℕ) → Cap → NamedCap
named_cap names cap = record { a = named_end names cap.a; b = option_map (named_end names) cap.b; value = cap.value.0 }

abbrev pub named_resistor : List (List ℕ) → SpefRes → NamedResistor
named_resistor names resistor = record { a = named_end names resistor.a; b = named_end names resistor.b; value = resistor.value.0 }

abbrev pub named_net : List (List ℕ) → DNet → NamedNet
named_net names net = record {
  name = name_text names net.name;
  total = net.total.0;
  conns = map (named_conn names) net.conns;
  caps = map (named_cap names) net.caps;
  res = map (named_resistor names) net.res;
}
