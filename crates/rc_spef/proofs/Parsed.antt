-- What the rows have taken of a text so far says, by the grammar, what is known there.
use Rattle.std.proofs.Common.{◌≡◌, ◌∙◌, ℕ, Bool, true, false, List, [], ◌∷◌, ◌++◌, refl, ap, sym, subst, Option, Some, None, append_assoc, append-nil}
use Rattle.std.specs.Prelude.{◌&&◌, is_some}
use Rattle.std.specs.List.{list_any, AllByRecursion}
use Rattle.std.specs.Str.{bytes_eq}
use Rattle.rc_keys.specs.Lexemes.{Lexeme}
use Rattle.rc_keys.specs.Phrases.{InTurn, joined}
use Rattle.rc_keys.proofs.Blocks.{joined-append, folds-append}
use Rattle.rc_spef.specs.declared.value.SpefConn.{SpefConn}
use Rattle.rc_spef.specs.declared.value.SpefPort.{SpefPort}
use Rattle.rc_spef.specs.declared.value.End.{End}
use Rattle.rc_spef.specs.declared.state.Header.{Header}
use Rattle.rc_spef.specs.declared.state.State.{State}
use Rattle.rc_spef.specs.declared.state.Scale.{Scale}
use Rattle.rc_spef.specs.declared.state.Row.TheVariants as rows
use Rattle.rc_spef.specs.declared.key.Key.{Key}
use Rattle.rc_spef.specs.declared.key.Key.TheVariants as keys
use Rattle.rc_spef.specs.Keys.{key_of}
use Rattle.rc_spef.specs.Moves.{no_header, no_net, scale_or_one}
use Rattle.rc_spef.specs.HeaderRows.{is_complete}
use Rattle.rc_spef.specs.Parts.{Says, Word, AnyQuoted, Value, Reference, EndOf, Direction, Are}
use Rattle.rc_spef.specs.HeaderLines.{HeaderLine}
use Rattle.rc_spef.specs.HeaderLines.HeaderSays.{Flow}
use Rattle.rc_spef.specs.NetLines.{Names, no_names, NameLine, WithAttributes, PortLine, ConnLine, CapLine, ResLine, Section, Confidence, NetLine, conn_word}
use Rattle.rc_spef.proofs.Walks.{Known, Left, at}
use Rattle.rc_spef.proofs.HeadTokens.{noted}

-- ---- statements in turn, and sections

pub turn_more : {A : Type 0} (Line : A → List Lexeme → A → Type 0) (a b c : A) (words line : List Lexeme) → InTurn Line a words b → Line b line c → InTurn Line a (words ++ line) c
turn_more Line a b c words line turn is = record {
  parts = turn.parts ++ line ∷ [];
  whole = ap (λ (ws : List Lexeme). ws ++ line) turn.whole ∙ ap (λ (ws : List Lexeme). joined turn.parts ++ ws) (sym (append-nil line)) ∙ sym (joined-append turn.parts (line ∷ []));
  each = folds-append Line turn.parts (line ∷ []) a b c turn.each (c, is, refl);
}

pub no_turn : {A : Type 0} (Line : A → List Lexeme → A → Type 0) (a b : A) → b ≡ a → InTurn Line a [] b
no_turn Line a b same = record { parts = []; whole = refl; each = sym same }

abbrev pub InSection : {A : Type 0} → Key → (A → List Lexeme → A → Type 0) → A → List Lexeme → A → Type 0
InSection key Line before words after = (first : Lexeme) × (rest : List Lexeme) × (words ≡ first ∷ rest) × (key_of first ≡ key) × InTurn Line before rest after

pub section_more : {A : Type 0} (key : Key) (Line : A → List Lexeme → A → Type 0) (a b c : A) (words line : List Lexeme) → InSection key Line a words b → Line b line c → InSection key Line a (words ++ line) c
section_more key Line a b c words line inside is = (inside.0, inside.1 ++ line, ap (λ (ws : List Lexeme). ws ++ line) inside.2, inside.3, turn_more Line a b c inside.1 line inside.4 is)

pub section_begins : {A : Type 0} (key : Key) (Line : A → List Lexeme → A → Type 0) (a b : A) (word : Lexeme) → key_of word ≡ key → b ≡ a → InSection key Line a (word ∷ []) b
section_begins key Line a b word is same = (word, [], refl, is, no_turn Line a b same)

-- ---- one thing behind another

pub record Behind (P Q : List Lexeme → Type 0) (words : List Lexeme) : Type 0 where
  pub front : List Lexeme
  pub rest : List Lexeme
  pub parts : words ≡ front ++ rest
  pub before : P front
  pub here : Q rest

pub add : (P Q : List Lexeme → Type 0) (words line : List Lexeme) → P words → Q line → Behind P Q (words ++ line)
add P Q words line before here = record { front = words; rest = line; parts = refl; before = before; here = here }

pub none_behind : (P Q : List Lexeme → Type 0) (words : List Lexeme) → P words → Q [] → Behind P Q words
none_behind P Q words before here = record { front = words; rest = []; parts = sym (append-nil words); before = before; here = here }

-- more of what is behind
pub on : (P Q R : List Lexeme → Type 0) (words line : List Lexeme) → Behind P Q words → ((rest : List Lexeme) → Q rest → R (rest ++ line)) → Behind P R (words ++ line)
on P Q R words line b more = record {
  front = b.front;
  rest = b.rest ++ line;
  parts = ap (λ (ws : List Lexeme). ws ++ line) b.parts ∙ append_assoc b.front b.rest line;
  before = b.before;
  here = more b.rest b.here;
}

-- the same in other words
pub so : (P Q R : List Lexeme → Type 0) (words : List Lexeme) → Behind P Q words → ((rest : List Lexeme) → Q rest → R rest) → Behind P R words
so P Q R words b to = record { front = b.front; rest = b.rest; parts = b.parts; before = b.before; here = to b.rest b.here }

-- ---- the parts of a text

pub record Headed (header : Header) (words : List Lexeme) : Type 0 where
  pub version : List Lexeme
  pub head : List Lexeme
  pub parts : words ≡ version ++ head
  pub begins : Are (Word keys.Spef ∷ AnyQuoted ∷ []) version
  pub tells : InTurn HeaderLine no_header head header

pub headed_more : (before after : Header) (words line : List Lexeme) → Headed before words → HeaderLine before line after → Headed after (words ++ line)
headed_more before after words line h is = record {
  version = h.version;
  head = h.head ++ line;
  parts = ap (λ (ws : List Lexeme). ws ++ line) h.parts ∙ append_assoc h.version h.head line;
  begins = h.begins;
  tells = turn_more HeaderLine no_header before after h.head line h.tells is;
}

-- a design flow that may go on
pub record Flowing (header : Header) (words : List Lexeme) : Type 0 where
  pub front : List Lexeme
  pub first : Lexeme
  pub word : Lexeme
  pub others : List Lexeme
  pub parts : words ≡ front ++ (first ∷ word ∷ others)
  pub earlier : Header
  pub headed : Headed earlier front
  pub flows : key_of first ≡ keys.DesignFlow
  pub once : list_any (bytes_eq first.bytes) earlier.seen ≡ false
  pub quoted : AllByRecursion (Says AnyQuoted) (word ∷ others)
  pub now : header ≡ noted earlier first.bytes

pub flowed : (header : Header) (words : List Lexeme) → Flowing header words → Headed header words
flowed header words f =
    subst (Headed header) (sym f.parts) (headed_more f.earlier header f.front (f.first ∷ f.word ∷ f.others) f.headed (record {
      first = f.first;
      rest = f.word ∷ f.others;
      parts = refl;
      once = f.once;
      says = Flow f.word f.others f.flows refl f.quoted f.now;
    }))

all_more : (P : Lexeme → Type 0) (words : List Lexeme) (word : Lexeme) → AllByRecursion P words → P word → AllByRecursion P (words ++ word ∷ [])
all_more P [] word all is = (is, tt)
all_more P (w ∷ words) word all is = (all.0, all_more P words word all.1 is)

pub flowing_more : (header : Header) (words : List Lexeme) (word : Lexeme) → Flowing header words → Says AnyQuoted word → Flowing header (words ++ word ∷ [])
flowing_more header words word f is = record {
  front = f.front;
  first = f.first;
  word = f.word;
  others = f.others ++ word ∷ [];
  parts = ap (λ (ws : List Lexeme). ws ++ word ∷ []) f.parts ∙ append_assoc f.front (f.first ∷ f.word ∷ f.others) (word ∷ []);
  earlier = f.earlier;
  headed = f.headed;
  flows = f.flows;
  once = f.once;
  quoted = (f.quoted.0, all_more (Says AnyQuoted) f.others word f.quoted.1 is);
  now = f.now;
}

-- nothing but a header is known
abbrev pub only : Header → Known
only header = record { header = header; map = []; names = []; ports = []; nets = []; net = no_net }

module _ (k : Known) where
  abbrev pub Complete : List Lexeme → Type 0
  Complete words = Headed k.header words × (is_complete k.header ≡ true)

  abbrev pub names_of : Names
  names_of = record { numbers = k.map; names = k.names }

  abbrev pub cap_scale : Scale
  cap_scale = scale_or_one k.header.cap_scale

  abbrev pub res_scale : Scale
  res_scale = scale_or_one k.header.res_scale

  abbrev pub InNames : List Lexeme → Type 0
  InNames words = InSection keys.NameMap NameLine no_names words names_of

  abbrev pub Named : List Lexeme → Type 0
  Named = Behind Complete (λ words. Section keys.NameMap NameLine no_names words names_of)

  abbrev pub InPorts : List SpefPort → List Lexeme → Type 0
  InPorts ports words = InSection keys.Ports (PortLine k.map) [] words ports

  abbrev pub Ported : List Lexeme → Type 0
  Ported = Behind Named (λ words. Section keys.Ports (PortLine k.map) [] words k.ports)

  -- a port that may have attributes
  abbrev pub OpenPort : List Lexeme → Type 0
  OpenPort words = (before : List SpefPort) × Behind (InPorts before) (λ line. PortLine k.map before line k.ports) words

  abbrev pub Netted : List Lexeme → Type 0
  Netted = Behind Ported (λ words. InTurn (NetLine cap_scale res_scale k.map) [] words k.nets)

  abbrev pub NetHead : List Lexeme → Type 0
  NetHead words = Are (Word keys.DNet ∷ Reference k.map k.net.name ∷ Value cap_scale k.net.total ∷ []) words

  abbrev pub NetTold : List Lexeme → Type 0
  NetTold = Behind NetHead Confidence

  abbrev pub InConns : List SpefConn → List Lexeme → Type 0
  InConns conns words = InSection keys.Conn (ConnLine k.map) [] words conns

  abbrev pub NetConns : List Lexeme → Type 0
  NetConns = Behind NetTold (λ words. Section keys.Conn (ConnLine k.map) [] words k.net.conns)

  -- a connection that may have attributes
  pub record OpenConn (words : List Lexeme) : Type 0 where
    pub earlier : List SpefConn
    pub joins : SpefConn
    pub conns : k.net.conns ≡ earlier ++ joins ∷ []
    pub lines : Behind (InConns earlier) (WithAttributes (Are (Word (conn_word joins.port) ∷ EndOf k.map joins.end ∷ Direction joins.dir ∷ [])) joins.cell) words

  abbrev pub OpenNode : List Lexeme → Type 0
  OpenNode words = (end : End) × (cell : Option (List ℕ)) × Behind (InConns k.net.conns) (WithAttributes (Are (Word keys.InternalNode ∷ EndOf k.map end ∷ [])) cell) words

  abbrev pub InCaps : List Lexeme → Type 0
  InCaps words = InSection keys.Cap (CapLine cap_scale k.map) [] words k.net.caps

  abbrev pub NetCaps : List Lexeme → Type 0
  NetCaps = Behind NetConns (λ words. Section keys.Cap (CapLine cap_scale k.map) [] words k.net.caps)

  abbrev pub InResistors : List Lexeme → Type 0
  InResistors words = InSection keys.Res (ResLine res_scale k.map) [] words k.net.res

  abbrev pub NetResistors : List Lexeme → Type 0
  NetResistors = Behind NetCaps (λ words. Section keys.Res (ResLine res_scale k.map) [] words k.net.res)

-- the scales that a complete header tells
pub told_cap : (h : Header) → is_complete h ≡ true → h.cap_scale ≡ Some (scale_or_one h.cap_scale)
told_cap h is = by (is_some h.design) h.cap_scale (is_some h.res_scale) is
  where
    by : (d : Bool) (o : Option Scale) (r : Bool) → (d && (is_some o && r)) ≡ true → o ≡ Some (scale_or_one o)
    by true (Some s) r is = refl
    by true None r is = absurd cc
    by false o r is = absurd cc

pub told_res : (h : Header) → is_complete h ≡ true → h.res_scale ≡ Some (scale_or_one h.res_scale)
told_res h is = by (is_some h.design) (is_some h.cap_scale) h.res_scale is
  where
    by : (d c : Bool) (o : Option Scale) → (d && (c && is_some o)) ≡ true → o ≡ Some (scale_or_one o)
    by true true (Some s) is = refl
    by true true None is = absurd cc
    by true false o is = absurd cc
    by false c o is = absurd cc

-- ---- what stands, by the row that is due

pub data Upto (s : State) (words : List Lexeme) : Type 0 where
  AtBegin : (k : Known) (z : Left) → k ≡ only no_header → words ≡ [] → s ≡ at rows.Begin k z → Upto s words
  AtHeader : (h : Header) (z : Left) → Headed h words → s ≡ at rows.Header (only h) z → Upto s words
  AtFlows : (h : Header) (z : Left) → Flowing h words → s ≡ at rows.Flows (only h) z → Upto s words
  AtNames : (k : Known) (z : Left) → k.ports ≡ [] → k.nets ≡ [] → Behind (Complete k) (InNames k) words → s ≡ at rows.Names k z → Upto s words
  AtPorts : (k : Known) (z : Left) → k.nets ≡ [] → Behind (Named k) (InPorts k k.ports) words → s ≡ at rows.Ports k z → Upto s words
  AtPortTail : (k : Known) (z : Left) → k.nets ≡ [] → Behind (Named k) (OpenPort k) words → s ≡ at rows.PortTail k z → Upto s words
  AtNets : (k : Known) (z : Left) → Netted k words → s ≡ at rows.Nets k z → Upto s words
  AtNetTail : (k : Known) (z : Left) → k.net.conns ≡ [] → k.net.caps ≡ [] → k.net.res ≡ [] → Behind (Netted k) (NetHead k) words → s ≡ at rows.NetTail k z → Upto s words
  AtSections : (k : Known) (z : Left) → k.net.conns ≡ [] → k.net.caps ≡ [] → k.net.res ≡ [] → Behind (Netted k) (NetTold k) words → s ≡ at rows.Sections k z → Upto s words
  AtConns : (k : Known) (z : Left) → k.net.caps ≡ [] → k.net.res ≡ [] → Behind (Netted k) (Behind (NetTold k) (InConns k k.net.conns)) words → s ≡ at rows.Conns k z → Upto s words
  AtConnTail : (k : Known) (z : Left) → k.net.caps ≡ [] → k.net.res ≡ [] → Behind (Netted k) (Behind (NetTold k) (OpenConn k)) words → s ≡ at rows.ConnTail k z → Upto s words
  AtNodeTail : (k : Known) (z : Left) → k.net.caps ≡ [] → k.net.res ≡ [] → Behind (Netted k) (Behind (NetTold k) (OpenNode k)) words → s ≡ at rows.NodeTail k z → Upto s words
  AtCaps : (k : Known) (z : Left) → k.net.res ≡ [] → Behind (Netted k) (Behind (NetConns k) (InCaps k)) words → s ≡ at rows.Caps k z → Upto s words
  AtResistors : (k : Known) (z : Left) → Behind (Netted k) (Behind (NetCaps k) (InResistors k)) words → s ≡ at rows.Resistors k z → Upto s words
