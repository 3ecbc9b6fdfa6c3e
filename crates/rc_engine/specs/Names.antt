-- The names of an extraction: those of the nets, of the components that they connect, and of the die pins.
use Rattle.std.specs.Prelude.{ℕ, ◌+◌, ◌==◌, List, [], ◌∷◌, ◌++◌, length, map, fold, position, slice_get, if◌then◌else◌}
use Rattle.std.specs.List.{flat_map, list_any}
use Rattle.std.specs.Option.{option_map_or}
use Rattle.rc_layout.specs.declared.net.Net.{Net}
use Rattle.rc_layout.specs.declared.net.Conn.{Conn}
use Rattle.rc_layout.specs.declared.net.Conn.TheVariants as conns
use Rattle.rc_layout.specs.declared.part.Comp.{Comp}
use Rattle.rc_layout.specs.declared.parts.Parts.{Parts}
use Rattle.rc_layout.specs.Layouts.{Wired}
use Rattle.rc_spef.specs.Escape.{escaped}

-- ---- which components have a name

-- a component joins those before it where it isn't among them
abbrev pub with_use : List ℕ → ℕ → List ℕ
with_use found comp = if list_any (λ other. comp == other) found then found else found ++ comp ∷ []

abbrev pub with_conn : List ℕ → Conn → List ℕ
with_conn found (conns.Pin comp pin) = with_use found comp
with_conn found (conns.Port port) = found

-- the components that nets connect, each once, in the order of the connections that name them first
unfoldable pub first_uses : List Net → List ℕ
first_uses nets = fold with_conn [] (flat_map (λ net. net.conns) nets)

-- ---- the numbers of names

-- how many nets there are, and the components by first use
pub record Numbering : Type 0 where
  pub nets : ℕ
  pub uses : List ℕ

abbrev pub numbering_of : Wired → Numbering
numbering_of wired = record { nets = length wired.nets; uses = first_uses wired.nets }

-- names are numbered from 1: the nets, then the components, then all die pins
abbrev pub net_name : ℕ → ℕ
net_name net = net + 1

-- a component's place among them, from 1; 0 where no net connects it
abbrev pub place_among : List ℕ → ℕ → ℕ
place_among uses comp = option_map_or (λ place. place + 1) (position (λ other. comp == other) uses) 0

abbrev pub comp_name : Numbering → ℕ → ℕ
comp_name numbering comp = numbering.nets + place_among numbering.uses comp

abbrev pub port_name : Numbering → ℕ → ℕ
port_name numbering port = numbering.nets + length numbering.uses + port + 1

-- ---- the names themselves

-- a name with the bytes escaped that aren't letters, digits or the layout's own
abbrev pub escaped_in : Parts → List ℕ → List ℕ
escaped_in parts name = escaped parts.divider parts.bus_left parts.bus_right name

-- what a component is called, by its number
abbrev pub called : List Comp → ℕ → List ℕ
called comps comp = option_map_or (λ comp. comp.name) (slice_get comps comp) []

unfoldable pub names_of : Wired → List (List ℕ)
names_of wired =
    map (λ net. escaped_in wired.parts net.name) wired.nets
    ++ map (λ comp. escaped_in wired.parts (called wired.parts.comps comp)) (first_uses wired.nets)
    ++ map (λ port. escaped_in wired.parts port.name) wired.parts.ports
