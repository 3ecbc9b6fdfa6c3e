-- What a SPEF text says, as a relation: the parts of a text and the value that they give, after the SPEF chapter of IEEE 1481.
use Rattle.std.specs.Prelude.{◌≡◌, ◌++◌, ℕ, Some, None, List, [], ◌∷◌}
use Rattle.rc_keys.specs.Lexemes.{Lexeme, Remaining}
use Rattle.rc_keys.specs.Phrases.{InTurn}
use Rattle.rc_spef.specs.declared.value.Spef.{Spef}
use Rattle.rc_spef.specs.declared.state.Header.{Header}
use Rattle.rc_spef.specs.declared.state.Scale.{Scale}
use Rattle.rc_spef.specs.declared.key.Key.TheVariants as keys
use Rattle.rc_spef.specs.Moves.{no_header}
use Rattle.rc_spef.specs.Parts.{Word, AnyQuoted, Are}
use Rattle.rc_spef.specs.HeaderLines.{HeaderLine}
use Rattle.rc_spef.specs.NetLines.{no_names, NameLine, PortLine, NetLine, Section}

-- a text: `*SPEF` and a quoted version, words of the header, the map of names, the ports, and nets
pub record IsSpef (text : Remaining) (spef : Spef) : Type 0 where
  pub version : List Lexeme
  pub head : List Lexeme
  pub map : List Lexeme
  pub ports : List Lexeme
  pub blocks : List Lexeme
  pub parts : text.words ≡ version ++ (head ++ (map ++ (ports ++ blocks)))
  pub whole : text.fault ≡ None
  pub begins : Are (Word keys.Spef ∷ AnyQuoted ∷ []) version
  -- the header, with its required words
  pub header : Header
  pub cap_scale : Scale
  pub res_scale : Scale
  pub tells : InTurn HeaderLine no_header head header
  pub design : header.design ≡ Some spef.design
  pub farads : header.cap_scale ≡ Some cap_scale
  pub ohms : header.res_scale ≡ Some res_scale
  pub divider : spef.divider ≡ header.divider
  pub bus_left : spef.bus_left ≡ header.bus_left
  pub bus_right : spef.bus_right ≡ header.bus_right
  -- the sections of the file
  pub numbers : List ℕ
  pub names : Section keys.NameMap NameLine no_names map (record { numbers = numbers; names = spef.names })
  pub pins : Section keys.Ports (PortLine numbers) [] ports spef.ports
  pub nets : InTurn (NetLine cap_scale res_scale numbers) [] blocks spef.nets
