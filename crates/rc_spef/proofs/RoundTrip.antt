-- The text of a value that can be written says that value.
use Rattle.std.proofs.Common.{◌≡◌, ◌∙◌, ℕ, ◌+◌, ◌^◌, ◌<◌, ◌≤◌, true, false, List, [], ◌∷◌, ◌++◌, length, refl, ap, sym, subst, arith, append-nil, append_assoc, inl, inr, Some, None, map}
use Rattle.std.specs.Prelude.{◌==◌, codes, is_some}
use Rattle.std.specs.List.{AllByRecursion, flat_map, enumerate_from, list_any}
use Rattle.std.specs.Str.{bytes_eq}
use Rattle.std.proofs.lemmas.List.{map-id}
use Rattle.rc_keys.specs.declared.token.Kind.TheVariants as kinds
use Rattle.rc_keys.specs.declared.token.Mode.TheVariants as mode
use Rattle.rc_keys.specs.Lexemes.{Lexeme, words_of}
use Rattle.rc_keys.specs.Phrases.{InTurn}
use Rattle.rc_keys.proofs.Naming.{position_tells}
use Rattle.rc_spef.specs.declared.value.Spef.{Spef}
use Rattle.rc_spef.specs.declared.value.SpefPort.{SpefPort}
use Rattle.rc_spef.specs.declared.state.Header.{Header}
use Rattle.rc_spef.specs.declared.state.Scale.TheVariants as scales
use Rattle.rc_spef.specs.declared.key.Key.{Key}
use Rattle.rc_spef.specs.declared.key.Key.TheVariants as keys
use Rattle.rc_spef.specs.Keys.{key_in, key_of}
use Rattle.rc_spef.specs.References.{is_in_map}
use Rattle.rc_spef.specs.Moves.{no_header}
use Rattle.rc_spef.specs.Text.{Token, Word, Quoted, header, section, keyword, name_line, name_map, name_token, direction, port_line, ports_text, net_block, head_lines, spef_lines, spef_text}
use Rattle.rc_spef.specs.Writable.{IsPlace, IsWritable, is_name}
use Rattle.rc_spef.specs.HeaderLines.{HeaderSays, HeaderLine, is_remark, is_other_unit}
use Rattle.rc_spef.specs.HeaderLines.HeaderSays.{Design, Remark, Flow, Divider, Delimiter, BusApart, OtherUnit, CapUnit, ResUnit}
use Rattle.rc_spef.specs.NetLines.{Names, no_names, NameLine, PortLine, Section, Attribute}
use Rattle.rc_spef.specs.Grammar.{IsSpef}
use Rattle.rc_spef.specs.Laws.{SaysItsValue, ReadsBack}
use Rattle.rc_spef.proofs.Digits.{numbers_to, numbers_more, past_counted}
use Rattle.rc_spef.proofs.Lexing.{IsToken, Tells, Written, split, no_line, first_line, lexed}
use Rattle.rc_spef.proofs.Fair.{SpefFits, spef_fits, spef_fair}
use Rattle.rc_spef.proofs.Spoken.{spelled, k_spef, k_design, k_date, k_vendor, k_program, k_version, k_flow, k_divider, k_delimiter, k_bus, k_time, k_farad, k_ohm, k_induct, k_names, k_ports, k_ff, k_ohms, k_colon, entry_says, name_says, named_says, direction_says, one_says}
use Rattle.rc_spef.proofs.Written.{last_token, one_token, two_tokens, three_tokens, turn_none, turn_more, turns_written, nets_written}
use Rattle.rc_spef.proofs.Files.{says_value}

-- ---- sections behind an empty line

-- a section that has lines: its keyword, and the lines
opened : (spelling : List ℕ) (key : Key) → key_in kinds.Word spelling ≡ key → (line : List Token) (lines : List (List Token)) (words : List Lexeme) → Written (section ([] ∷ keyword spelling ∷ []) (line ∷ lines)) words →
    (word : Lexeme) × (others : List Lexeme) × (words ≡ word ∷ others) × (key_of word ≡ key) × Written (line ∷ lines) others
opened spelling key is line lines words w =
    let blank = first_line [] (keyword spelling ∷ line ∷ lines) words w in
    let head = first_line (keyword spelling) (line ∷ lines) blank.1 blank.4 in
    let t = one_token (Word spelling) head.0 head.3 in
    (t.0, head.1, blank.2 ∙ ap (λ (ws : List Lexeme). ws ++ blank.1) (last_token blank.0 blank.3) ∙ head.2 ∙ ap (λ (ws : List Lexeme). ws ++ head.1) t.1, spelled t.0 spelling key is t.2, head.4)

-- ---- the map of names

not_yet : (count : ℕ) → is_in_map (numbers_to count) (count + 1) ≡ false
not_yet count = sym (position_tells (λ other. other == count + 1) (numbers_to count)) ∙ ap is_some (past_counted count (count + 1) (inr (omega arith)))

names_turn : (names : List (List ℕ)) (count : ℕ) (done : List (List ℕ)) (words : List Lexeme) → count + 1 + length names ≤ 2 ^ 64 → AllByRecursion (λ name. is_name name ≡ true) names → Written (map name_line (enumerate_from (count + 1) names)) words →
    InTurn NameLine (record { numbers = numbers_to count; names = done }) words (record { numbers = numbers_to (count + length names); names = done ++ names })
names_turn [] count done words small fits w =
    let same : count ≡ count + 0 = omega arith in
    subst (λ n. InTurn NameLine (record { numbers = numbers_to count; names = done }) words (record { numbers = numbers_to n; names = done ++ [] })) same
    (subst (λ (names : List (List ℕ)). InTurn NameLine (record { numbers = numbers_to count; names = done }) words (record { numbers = numbers_to count; names = names })) (sym (append-nil done))
    (turn_none NameLine (record { numbers = numbers_to count; names = done }) words (no_line words w)))
names_turn (name ∷ names) count done words small fits w =
    let f = first_line (name_line (count + 1, name)) (map name_line (enumerate_from (count + 1 + 1) names)) words w in
    let t = two_tokens (name_token (count + 1)) (Word name) f.0 f.3 in
    let before : Names = record { numbers = numbers_to count; names = done } in
    let mid : Names = record { numbers = numbers_to (count + 1); names = done ++ name ∷ [] } in
    let line : NameLine before f.0 mid = record {
      number = count + 1;
      name = name;
      are = rw t.2 (entry_says (count + 1) t.0 (omega arith) t.3, (named_says name t.1 fits.0 t.4, tt));
      once = not_yet count;
      then = ap (λ (numbers : List ℕ). record { numbers = numbers; names = done ++ name ∷ [] }) (sym (numbers_more count));
    } in
    let more = names_turn names (count + 1) (done ++ name ∷ []) f.1 (omega arith) fits.1 f.4 in
    let long : count + 1 + length names ≡ count + length (name ∷ names) = omega arith in
    turn_more NameLine before mid (record { numbers = numbers_to (count + length (name ∷ names)); names = done ++ (name ∷ names) }) f.0 f.1 words f.2 line
    (subst (λ n. InTurn NameLine mid f.1 (record { numbers = numbers_to n; names = done ++ (name ∷ names) })) long
    (subst (λ (all : List (List ℕ)). InTurn NameLine mid f.1 (record { numbers = numbers_to (count + 1 + length names); names = all })) (append_assoc done (name ∷ []) names) more))

names_written : (names : List (List ℕ)) (words : List Lexeme) → 1 + length names ≤ 2 ^ 64 → AllByRecursion (λ name. is_name name ≡ true) names → Written (name_map names) words →
    Section keys.NameMap NameLine no_names words (record { numbers = numbers_to (length names); names = names })
names_written [] words small fits w = inl (no_line words w, refl)
names_written (name ∷ names) words small fits w =
    let s = opened (codes "*NAME_MAP") keys.NameMap k_names (name_line (1, name)) (map name_line (enumerate_from 2 names)) words w in
    let turn = names_turn (name ∷ names) 0 [] s.1 (omega arith) fits s.4 in
    let same : 0 + length (name ∷ names) ≡ length (name ∷ names) = omega arith in
    inr (s.0, s.1, s.2, s.3, subst (λ n. InTurn NameLine no_names s.1 (record { numbers = numbers_to n; names = name ∷ names })) same turn)

-- ---- the ports

port_written : (names : List (List ℕ)) → length names < 2 ^ 64 → (before : List SpefPort) (port : SpefPort) (words : List Lexeme) → IsPlace names port.name → Tells (port_line port) words → PortLine (numbers_to (length names)) before words (before ++ port ∷ [])
port_written names small before port words fits is =
    let t = two_tokens (name_token port.name) (direction port.dir) words is in
    record {
      name = port.name;
      dir = port.dir;
      cell = None;
      are = record {
        head = t.0 ∷ t.1 ∷ [];
        tail = [];
        parts = t.2;
        fixed = (name_says names port.name t.0 small fits t.3, (direction_says port.dir t.1 t.4, tt));
        attributes = turn_none Attribute None [] refl;
      };
      then = refl;
    }

ports_written : (names : List (List ℕ)) → length names < 2 ^ 64 → (ports : List SpefPort) (words : List Lexeme) → AllByRecursion (λ port. IsPlace names port.name) ports → Written (ports_text ports) words →
    Section keys.Ports (PortLine (numbers_to (length names))) [] words ports
ports_written names small [] words fits w = inl (no_line words w, refl)
ports_written names small (port ∷ ports) words fits w =
    let s = opened (codes "*PORTS") keys.Ports k_ports (port_line port) (map port_line ports) words w in
    inr (
      s.0,
      s.1,
      s.2,
      s.3,
      subst (λ (all : List SpefPort). InTurn (PortLine (numbers_to (length names))) [] s.1 all) (map-id (port ∷ ports))
          (turns_written (PortLine (numbers_to (length names))) port_line (λ (port : SpefPort). port) (λ port. IsPlace names port.name) (port_written names small) (port ∷ ports) [] s.1 fits s.4),
    )

-- ---- the header

-- the header with one word more
abbrev noted : Header → List ℕ → Header
noted h bytes = record h { seen = h.seen ++ bytes ∷ [] }

head_line : (before : Header) (spelling : List ℕ) (key : Key) → key_in kinds.Word spelling ≡ key → list_any (bytes_eq spelling) before.seen ≡ false → (after : Header) (word : Lexeme) (rest words : List Lexeme) → words ≡ word ∷ rest → IsToken (Word spelling) word →
    HeaderSays key (noted before spelling) rest after → HeaderLine before words after
head_line before spelling key is once after word rest words parts token says = record {
  first = word;
  rest = rest;
  parts = parts;
  once = rw token.1 once;
  says = rw (spelled word spelling key is token, token.1) says;
}

remark_line : (before : Header) (spelling : List ℕ) (key : Key) → key_in kinds.Word spelling ≡ key → is_remark key ≡ true → list_any (bytes_eq spelling) before.seen ≡ false → (text : List ℕ) (words : List Lexeme) → Tells (Word spelling ∷ Quoted text ∷ []) words → HeaderLine before words (noted before spelling)
remark_line before spelling key is remark once text words tells =
    let t = two_tokens (Word spelling) (Quoted text) words tells in
    head_line before spelling key is once (noted before spelling) t.0 (t.1 ∷ []) words t.2 t.3 (Remark remark (t.4.0, tt) refl)

other_unit_line : (before : Header) (spelling : List ℕ) (key : Key) → key_in kinds.Word spelling ≡ key → is_other_unit key ≡ true → list_any (bytes_eq spelling) before.seen ≡ false → (unit : List ℕ) (words : List Lexeme) → Tells (Word spelling ∷ Word (codes "1") ∷ Word unit ∷ []) words → HeaderLine before words (noted before spelling)
other_unit_line before spelling key is other once unit words tells =
    let t = three_tokens (Word spelling) (Word (codes "1")) (Word unit) words tells in
    head_line before spelling key is once (noted before spelling) t.0 (t.1 ∷ t.2 ∷ []) words t.3 t.4 (OtherUnit other (one_says t.1 t.5, (t.6.0, tt)) refl)

design_line : (before : Header) → list_any (bytes_eq (codes "*DESIGN")) before.seen ≡ false → (name : List ℕ) (words : List Lexeme) → Tells (Word (codes "*DESIGN") ∷ Quoted name ∷ []) words → HeaderLine before words (record (noted before (codes "*DESIGN")) { design = Some name })
design_line before once name words tells =
    let t = two_tokens (Word (codes "*DESIGN")) (Quoted name) words tells in
    head_line before (codes "*DESIGN") keys.Design k_design once (record (noted before (codes "*DESIGN")) { design = Some name }) t.0 (t.1 ∷ []) words t.2 t.3 (Design name refl (t.4, tt) refl)

flow_line : (before : Header) → list_any (bytes_eq (codes "*DESIGN_FLOW")) before.seen ≡ false → (a b : List ℕ) (words : List Lexeme) → Tells (Word (codes "*DESIGN_FLOW") ∷ Quoted a ∷ Quoted b ∷ []) words → HeaderLine before words (noted before (codes "*DESIGN_FLOW"))
flow_line before once a b words tells =
    let t = three_tokens (Word (codes "*DESIGN_FLOW")) (Quoted a) (Quoted b) words tells in
    head_line before (codes "*DESIGN_FLOW") keys.DesignFlow k_flow once (noted before (codes "*DESIGN_FLOW")) t.0 (t.1 ∷ t.2 ∷ []) words t.3 t.4 (Flow t.1 (t.2 ∷ []) refl refl (t.5.0, (t.6.0, tt)) refl)

divider_line : (before : Header) → list_any (bytes_eq (codes "*DIVIDER")) before.seen ≡ false → (byte : ℕ) (words : List Lexeme) → Tells (Word (codes "*DIVIDER") ∷ Word (byte ∷ []) ∷ []) words → HeaderLine before words (record (noted before (codes "*DIVIDER")) { divider = byte })
divider_line before once byte words tells =
    let t = two_tokens (Word (codes "*DIVIDER")) (Word (byte ∷ [])) words tells in
    head_line before (codes "*DIVIDER") keys.Divider k_divider once (record (noted before (codes "*DIVIDER")) { divider = byte }) t.0 (t.1 ∷ []) words t.2 t.3 (Divider byte refl (t.4, tt) refl)

delimiter_line : (before : Header) → list_any (bytes_eq (codes "*DELIMITER")) before.seen ≡ false → (words : List Lexeme) → Tells (Word (codes "*DELIMITER") ∷ Word (codes ":") ∷ []) words → HeaderLine before words (noted before (codes "*DELIMITER"))
delimiter_line before once words tells =
    let t = two_tokens (Word (codes "*DELIMITER")) (Word (codes ":")) words tells in
    head_line before (codes "*DELIMITER") keys.Delimiter k_delimiter once (noted before (codes "*DELIMITER")) t.0 (t.1 ∷ []) words t.2 t.3 (Delimiter refl (spelled t.1 (codes ":") keys.Colon k_colon t.4, tt) refl)

bus_line : (before : Header) → list_any (bytes_eq (codes "*BUS_DELIMITER")) before.seen ≡ false → (left right : ℕ) (words : List Lexeme) → Tells (Word (codes "*BUS_DELIMITER") ∷ Word (left ∷ []) ∷ Word (right ∷ []) ∷ []) words →
    HeaderLine before words (record (noted before (codes "*BUS_DELIMITER")) { bus_left = left; bus_right = right })
bus_line before once left right words tells =
    let t = three_tokens (Word (codes "*BUS_DELIMITER")) (Word (left ∷ [])) (Word (right ∷ [])) words tells in
    head_line before (codes "*BUS_DELIMITER") keys.BusDelimiter k_bus once (record (noted before (codes "*BUS_DELIMITER")) { bus_left = left; bus_right = right }) t.0 (t.1 ∷ t.2 ∷ []) words t.3 t.4 (BusApart left right refl (t.5, (t.6, tt)) refl)

farad_line : (before : Header) → list_any (bytes_eq (codes "*C_UNIT")) before.seen ≡ false → (words : List Lexeme) → Tells (Word (codes "*C_UNIT") ∷ Word (codes "1") ∷ Word (codes "FF") ∷ []) words → HeaderLine before words (record (noted before (codes "*C_UNIT")) { cap_scale = Some scales.One })
farad_line before once words tells =
    let t = three_tokens (Word (codes "*C_UNIT")) (Word (codes "1")) (Word (codes "FF")) words tells in
    head_line before (codes "*C_UNIT") keys.CapUnit k_farad once (record (noted before (codes "*C_UNIT")) { cap_scale = Some scales.One }) t.0 (t.1 ∷ t.2 ∷ []) words t.3 t.4
    (CapUnit scales.One refl (one_says t.1 t.5, (spelled t.2 (codes "FF") keys.FemtoFarad k_ff t.6, tt)) refl)

ohm_line : (before : Header) → list_any (bytes_eq (codes "*R_UNIT")) before.seen ≡ false → (words : List Lexeme) → Tells (Word (codes "*R_UNIT") ∷ Word (codes "1") ∷ Word (codes "OHM") ∷ []) words → HeaderLine before words (record (noted before (codes "*R_UNIT")) { res_scale = Some scales.One })
ohm_line before once words tells =
    let t = three_tokens (Word (codes "*R_UNIT")) (Word (codes "1")) (Word (codes "OHM")) words tells in
    head_line before (codes "*R_UNIT") keys.ResUnit k_ohm once (record (noted before (codes "*R_UNIT")) { res_scale = Some scales.One }) t.0 (t.1 ∷ t.2 ∷ []) words t.3 t.4
    (ResUnit scales.One refl (one_says t.1 t.5, (spelled t.2 (codes "OHM") keys.Ohm k_ohms t.6, tt)) refl)

-- the lines of a header behind the first
abbrev units : List (List Token)
units =
    (Word (codes "*T_UNIT") ∷ Word (codes "1") ∷ Word (codes "PS") ∷ [])
    ∷ (Word (codes "*C_UNIT") ∷ Word (codes "1") ∷ Word (codes "FF") ∷ [])
    ∷ (Word (codes "*R_UNIT") ∷ Word (codes "1") ∷ Word (codes "OHM") ∷ [])
    ∷ (Word (codes "*L_UNIT") ∷ Word (codes "1") ∷ Word (codes "HENRY") ∷ [])
    ∷ []

abbrev marks : Spef → List (List Token)
marks spef =
    (Word (codes "*DIVIDER") ∷ Word (spef.divider ∷ []) ∷ [])
    ∷ (Word (codes "*DELIMITER") ∷ Word (codes ":") ∷ [])
    ∷ (Word (codes "*BUS_DELIMITER") ∷ Word (spef.bus_left ∷ []) ∷ Word (spef.bus_right ∷ []) ∷ [])
    ∷ units

abbrev remarks : Spef → List (List Token)
remarks spef =
    (Word (codes "*DATE") ∷ Quoted (codes "Thu Jan 1 00:00:00 1970") ∷ [])
    ∷ (Word (codes "*VENDOR") ∷ Quoted (codes "rcx") ∷ [])
    ∷ (Word (codes "*PROGRAM") ∷ Quoted (codes "rcx") ∷ [])
    ∷ (Word (codes "*VERSION") ∷ Quoted (codes "1") ∷ [])
    ∷ (Word (codes "*DESIGN_FLOW") ∷ Quoted (codes "NAME_SCOPE LOCAL") ∷ Quoted (codes "PIN_CAP NONE") ∷ [])
    ∷ marks spef

-- the header so far, behind these lines
abbrev behind_design : Spef → Header
behind_design spef = record (noted no_header (codes "*DESIGN")) { design = Some spef.design }

abbrev behind_remarks : Spef → Header
behind_remarks spef = noted (noted (noted (noted (noted (behind_design spef) (codes "*DATE")) (codes "*VENDOR")) (codes "*PROGRAM")) (codes "*VERSION")) (codes "*DESIGN_FLOW")

abbrev behind_divider : Spef → Header
behind_divider spef = record (noted (behind_remarks spef) (codes "*DIVIDER")) { divider = spef.divider }

abbrev behind_marks : Spef → Header
behind_marks spef = record (noted (noted (behind_divider spef) (codes "*DELIMITER")) (codes "*BUS_DELIMITER")) { bus_left = spef.bus_left; bus_right = spef.bus_right }

abbrev behind_farads : Spef → Header
behind_farads spef = record (noted (noted (behind_marks spef) (codes "*T_UNIT")) (codes "*C_UNIT")) { cap_scale = Some scales.One }

abbrev behind_ohms : Spef → Header
behind_ohms spef = record (noted (behind_farads spef) (codes "*R_UNIT")) { res_scale = Some scales.One }

abbrev behind_all : Spef → Header
behind_all spef = noted (behind_ohms spef) (codes "*L_UNIT")

units_written : (spef : Spef) (words : List Lexeme) → Written units words → InTurn HeaderLine (behind_marks spef) words (behind_all spef)
units_written spef words w =
    let l1 : List Token = Word (codes "*T_UNIT") ∷ Word (codes "1") ∷ Word (codes "PS") ∷ [] in
    let l2 : List Token = Word (codes "*C_UNIT") ∷ Word (codes "1") ∷ Word (codes "FF") ∷ [] in
    let l3 : List Token = Word (codes "*R_UNIT") ∷ Word (codes "1") ∷ Word (codes "OHM") ∷ [] in
    let l4 : List Token = Word (codes "*L_UNIT") ∷ Word (codes "1") ∷ Word (codes "HENRY") ∷ [] in
    let a = first_line l1 (l2 ∷ l3 ∷ l4 ∷ []) words w in
    let b = first_line l2 (l3 ∷ l4 ∷ []) a.1 a.4 in
    let c = first_line l3 (l4 ∷ []) b.1 b.4 in
    let d = first_line l4 [] c.1 c.4 in
    turn_more HeaderLine (behind_marks spef) (noted (behind_marks spef) (codes "*T_UNIT")) (behind_all spef) a.0 a.1 words a.2 (other_unit_line (behind_marks spef) (codes "*T_UNIT") keys.TimeUnit k_time refl refl (codes "PS") a.0 a.3)
    (turn_more HeaderLine (noted (behind_marks spef) (codes "*T_UNIT")) (behind_farads spef) (behind_all spef) b.0 b.1 a.1 b.2 (farad_line (noted (behind_marks spef) (codes "*T_UNIT")) refl b.0 b.3)
    (turn_more HeaderLine (behind_farads spef) (behind_ohms spef) (behind_all spef) c.0 c.1 b.1 c.2 (ohm_line (behind_farads spef) refl c.0 c.3)
    (turn_more HeaderLine (behind_ohms spef) (behind_all spef) (behind_all spef) d.0 d.1 c.1 d.2 (other_unit_line (behind_ohms spef) (codes "*L_UNIT") keys.InductUnit k_induct refl refl (codes "HENRY") d.0 d.3)
    (turn_none HeaderLine (behind_all spef) d.1 (no_line d.1 d.4)))))

marks_written : (spef : Spef) (words : List Lexeme) → Written (marks spef) words → InTurn HeaderLine (behind_remarks spef) words (behind_all spef)
marks_written spef words w =
    let l1 : List Token = Word (codes "*DIVIDER") ∷ Word (spef.divider ∷ []) ∷ [] in
    let l2 : List Token = Word (codes "*DELIMITER") ∷ Word (codes ":") ∷ [] in
    let l3 : List Token = Word (codes "*BUS_DELIMITER") ∷ Word (spef.bus_left ∷ []) ∷ Word (spef.bus_right ∷ []) ∷ [] in
    let a = first_line l1 (l2 ∷ l3 ∷ units) words w in
    let b = first_line l2 (l3 ∷ units) a.1 a.4 in
    let c = first_line l3 units b.1 b.4 in
    turn_more HeaderLine (behind_remarks spef) (behind_divider spef) (behind_all spef) a.0 a.1 words a.2 (divider_line (behind_remarks spef) refl spef.divider a.0 a.3)
    (turn_more HeaderLine (behind_divider spef) (noted (behind_divider spef) (codes "*DELIMITER")) (behind_all spef) b.0 b.1 a.1 b.2 (delimiter_line (behind_divider spef) refl b.0 b.3)
    (turn_more HeaderLine (noted (behind_divider spef) (codes "*DELIMITER")) (behind_marks spef) (behind_all spef) c.0 c.1 b.1 c.2 (bus_line (noted (behind_divider spef) (codes "*DELIMITER")) refl spef.bus_left spef.bus_right c.0 c.3)
    (units_written spef c.1 c.4)))

remarks_written : (spef : Spef) (words : List Lexeme) → Written (remarks spef) words → InTurn HeaderLine (behind_design spef) words (behind_all spef)
remarks_written spef words w =
    let l1 : List Token = Word (codes "*DATE") ∷ Quoted (codes "Thu Jan 1 00:00:00 1970") ∷ [] in
    let l2 : List Token = Word (codes "*VENDOR") ∷ Quoted (codes "rcx") ∷ [] in
    let l3 : List Token = Word (codes "*PROGRAM") ∷ Quoted (codes "rcx") ∷ [] in
    let l4 : List Token = Word (codes "*VERSION") ∷ Quoted (codes "1") ∷ [] in
    let l5 : List Token = Word (codes "*DESIGN_FLOW") ∷ Quoted (codes "NAME_SCOPE LOCAL") ∷ Quoted (codes "PIN_CAP NONE") ∷ [] in
    let h0 : Header = behind_design spef in
    let h1 : Header = noted h0 (codes "*DATE") in
    let h2 : Header = noted h1 (codes "*VENDOR") in
    let h3 : Header = noted h2 (codes "*PROGRAM") in
    let h4 : Header = noted h3 (codes "*VERSION") in
    let a = first_line l1 (l2 ∷ l3 ∷ l4 ∷ l5 ∷ marks spef) words w in
    let b = first_line l2 (l3 ∷ l4 ∷ l5 ∷ marks spef) a.1 a.4 in
    let c = first_line l3 (l4 ∷ l5 ∷ marks spef) b.1 b.4 in
    let d = first_line l4 (l5 ∷ marks spef) c.1 c.4 in
    let e = first_line l5 (marks spef) d.1 d.4 in
    turn_more HeaderLine h0 h1 (behind_all spef) a.0 a.1 words a.2 (remark_line h0 (codes "*DATE") keys.Date k_date refl refl (codes "Thu Jan 1 00:00:00 1970") a.0 a.3)
    (turn_more HeaderLine h1 h2 (behind_all spef) b.0 b.1 a.1 b.2 (remark_line h1 (codes "*VENDOR") keys.Vendor k_vendor refl refl (codes "rcx") b.0 b.3)
    (turn_more HeaderLine h2 h3 (behind_all spef) c.0 c.1 b.1 c.2 (remark_line h2 (codes "*PROGRAM") keys.Program k_program refl refl (codes "rcx") c.0 c.3)
    (turn_more HeaderLine h3 h4 (behind_all spef) d.0 d.1 c.1 d.2 (remark_line h3 (codes "*VERSION") keys.Version k_version refl refl (codes "1") d.0 d.3)
    (turn_more HeaderLine h4 (behind_remarks spef) (behind_all spef) e.0 e.1 d.1 e.2 (flow_line h4 refl (codes "NAME_SCOPE LOCAL") (codes "PIN_CAP NONE") e.0 e.3) (marks_written spef e.1 e.4)))))

header_written : (spef : Spef) (words : List Lexeme) → Written ((Word (codes "*DESIGN") ∷ Quoted spef.design ∷ []) ∷ remarks spef) words → InTurn HeaderLine no_header words (behind_all spef)
header_written spef words w =
    let a = first_line (Word (codes "*DESIGN") ∷ Quoted spef.design ∷ []) (remarks spef) words w in
    turn_more HeaderLine no_header (behind_design spef) (behind_all spef) a.0 a.1 words a.2 (design_line no_header refl spef.design a.0 a.3) (remarks_written spef a.1 a.4)

-- ---- a whole text

four_parts : (v h n p b : List Lexeme) → (((v ++ h) ++ n) ++ p) ++ b ≡ v ++ (h ++ (n ++ (p ++ b)))
four_parts v h n p b = simp append_assoc

spef_written : (spef : Spef) (words : List Lexeme) → SpefFits spef → Written (spef_lines spef) words → IsSpef (record { words = words; fault = None }) spef
spef_written spef words fits w =
    let small : length spef.names < 2 ^ 64 = omega (arith, fits.few) in
    let numbers : List ℕ = numbers_to (length spef.names) in
    let p = split (head_lines spef) (flat_map net_block spef.nets) words w in
    let q = split (header spef ++ name_map spef.names) (ports_text spef.ports) p.0 p.3 in
    let r = split (header spef) (name_map spef.names) q.0 q.3 in
    let first = first_line (Word (codes "*SPEF") ∷ Quoted (codes "IEEE 1481-1998") ∷ []) ((Word (codes "*DESIGN") ∷ Quoted spef.design ∷ []) ∷ remarks spef) r.0 r.3 in
    let t = two_tokens (Word (codes "*SPEF")) (Quoted (codes "IEEE 1481-1998")) first.0 first.3 in
    let whole : words ≡ (((first.0 ++ first.1) ++ r.1) ++ q.1) ++ p.1 =
    p.2 ∙ ap (λ (ws : List Lexeme). ws ++ p.1) (q.2 ∙ ap (λ (ws : List Lexeme). ws ++ q.1) (r.2 ∙ ap (λ (ws : List Lexeme). ws ++ r.1) first.2)) in
    record {
      version = first.0;
      head = first.1;
      map = r.1;
      ports = q.1;
      blocks = p.1;
      parts = whole ∙ four_parts first.0 first.1 r.1 q.1 p.1;
      whole = refl;
      begins = rw t.2 (spelled t.0 (codes "*SPEF") keys.Spef k_spef t.3, (t.4.0, tt));
      header = behind_all spef;
      cap_scale = scales.One;
      res_scale = scales.One;
      tells = header_written spef first.1 first.4;
      design = refl;
      farads = refl;
      ohms = refl;
      divider = refl;
      bus_left = refl;
      bus_right = refl;
      numbers = numbers;
      names = names_written spef.names r.1 fits.few fits.names r.4;
      pins = ports_written spef.names small spef.ports q.1 fits.ports q.4;
      nets = nets_written spef.names small spef.nets [] p.1 fits.nets p.4;
    }

pub says_its_value : SaysItsValue
unfolding spef_text
says_its_value spef writable =
    let fits = spef_fits spef writable in
    let lex = lexed (spef_lines spef) (spef_fair spef writable fits) writable.tokens in
    rw lex.1 (spef_written spef lex.0 fits lex.2)

pub reads_back : ReadsBack
reads_back spef writable = says_value (spef_text spef) spef (says_its_value spef writable)

-- a text that was written says its value
pub said : (text : List ℕ) (spef : Spef) → IsWritable spef → text ≡ spef_text spef → IsSpef (words_of mode.Spef text) spef
said text spef writable is = rw is (says_its_value spef writable)
