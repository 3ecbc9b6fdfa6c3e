-- Written lines are statements of the grammar.
use Rattle.std.proofs.Common.{◌≡◌, ◌∙◌, ℕ, ◌+◌, ◌^◌, ◌<◌, true, List, [], ◌∷◌, ◌++◌, length, refl, ap, sym, subst, append-nil, append_assoc, inl, inr, Option, Some, None, map}
use Rattle.std.specs.Prelude.{IfSome, codes}
use Rattle.std.specs.Fmt.{decimal}
use Rattle.std.specs.List.{AllByRecursion, flat_map, enumerate_from}
use Rattle.std.proofs.lemmas.List.{map-id}
use Rattle.rc_keys.specs.declared.token.Kind.TheVariants as kinds
use Rattle.rc_keys.specs.Lexemes.{Lexeme}
use Rattle.rc_keys.specs.Phrases.{InTurn}
use Rattle.rc_spef.specs.declared.value.SpefConn.{SpefConn}
use Rattle.rc_spef.specs.declared.value.SpefRes.{SpefRes}
use Rattle.rc_spef.specs.declared.value.DNet.{DNet}
use Rattle.rc_spef.specs.declared.value.Cap.{Cap}
use Rattle.rc_spef.specs.declared.value.End.{End}
use Rattle.rc_spef.specs.declared.state.Scale.TheVariants as scales
use Rattle.rc_spef.specs.declared.key.Key.{Key}
use Rattle.rc_spef.specs.declared.key.Key.TheVariants as keys
use Rattle.rc_spef.specs.Keys.{key_in}
use Rattle.rc_spef.specs.Text.{Token, Word, section, keyword, name_token, direction, end_token, second_end, amount, cell, conn_kind, conn_line, cap_line, resistor_line, net_line, net_block}
use Rattle.rc_spef.specs.Writable.{IsEnd, IsConn, IsCap, IsResistor, is_name}
use Rattle.rc_spef.specs.NetLines.{Attribute, ConnLine, CapLine, ResLine, Section, NetBlock, NetLine}
use Rattle.rc_spef.specs.NetLines.Attribute.{Driven}
use Rattle.rc_spef.specs.NetLines.ConnLine.{Connects}
use Rattle.rc_spef.specs.NetLines.CapLine.{Grounded, Coupled}
use Rattle.rc_spef.proofs.Digits.{numbers_to}
use Rattle.rc_spef.proofs.Lexing.{IsToken, Tells, Written, split, no_line, first_line}
use Rattle.rc_spef.proofs.Fair.{NetFits, numbered_fits}
use Rattle.rc_spef.proofs.Spoken.{spelled, k_net, k_conn, k_cap, k_res, k_end, k_cell, end_says, name_says, number_says, value_says, named_says, direction_says, kind_says}

-- ---- a line, token by token

pub next_token : (token : Token) (tokens : List Token) (words : List Lexeme) → Tells (token ∷ tokens) words → (word : Lexeme) × (others : List Lexeme) × (words ≡ word ∷ others) × IsToken token word × Tells tokens others
next_token token tokens [] is = absurd is
next_token token tokens (word ∷ others) is = (word, others, refl, is.0, is.1)

pub last_token : (words : List Lexeme) → Tells [] words → words ≡ []
last_token [] is = refl
last_token (word ∷ others) is = absurd is

pub one_token : (token : Token) (words : List Lexeme) → Tells (token ∷ []) words → (a : Lexeme) × (words ≡ a ∷ []) × IsToken token a
one_token token words is = let t = next_token token [] words is in (t.0, t.2 ∙ ap (λ (ws : List Lexeme). t.0 ∷ ws) (last_token t.1 t.4), t.3)

pub two_tokens : (p q : Token) (words : List Lexeme) → Tells (p ∷ q ∷ []) words → (a : Lexeme) × (b : Lexeme) × (words ≡ a ∷ b ∷ []) × IsToken p a × IsToken q b
two_tokens p q words is = let t = next_token p (q ∷ []) words is in let u = one_token q t.1 t.4 in (t.0, u.0, t.2 ∙ ap (λ (ws : List Lexeme). t.0 ∷ ws) u.1, t.3, u.2)

pub three_tokens : (p q r : Token) (words : List Lexeme) → Tells (p ∷ q ∷ r ∷ []) words → (a : Lexeme) × (b : Lexeme) × (c : Lexeme) × (words ≡ a ∷ b ∷ c ∷ []) × IsToken p a × IsToken q b × IsToken r c
three_tokens p q r words is = let t = next_token p (q ∷ r ∷ []) words is in let u = two_tokens q r t.1 t.4 in (t.0, u.0, u.1, t.2 ∙ ap (λ (ws : List Lexeme). t.0 ∷ ws) u.2, t.3, u.3, u.4)

four_tokens : (p q r s : Token) (words : List Lexeme) → Tells (p ∷ q ∷ r ∷ s ∷ []) words → (a : Lexeme) × (b : Lexeme) × (c : Lexeme) × (d : Lexeme) × (words ≡ a ∷ b ∷ c ∷ d ∷ []) × IsToken p a × IsToken q b × IsToken r c × IsToken s d
four_tokens p q r s words is = let t = next_token p (q ∷ r ∷ s ∷ []) words is in let u = three_tokens q r s t.1 t.4 in (t.0, u.0, u.1, u.2, t.2 ∙ ap (λ (ws : List Lexeme). t.0 ∷ ws) u.3, t.3, u.4, u.5, u.6)

-- ---- statements in turn

pub turn_none : {A : Type 0} (Line : A → List Lexeme → A → Type 0) (a : A) (words : List Lexeme) → words ≡ [] → InTurn Line a words a
turn_none Line a words none = record { parts = []; whole = none; each = refl }

pub turn_more : {A : Type 0} (Line : A → List Lexeme → A → Type 0) (a b c : A) (first others words : List Lexeme) → words ≡ first ++ others → Line a first b → InTurn Line b others c → InTurn Line a words c
turn_more Line a b c first others words is line more = record { parts = first ∷ more.parts; whole = is ∙ ap (λ (ws : List Lexeme). first ++ ws) more.whole; each = (b, line, more.each) }

-- lines of a list, each of which adds what it says
pub turns_written : {X Y : Type 0} (Line : List Y → List Lexeme → List Y → Type 0) (line : X → List Token) (out : X → Y) (P : X → Type 0) →
    ((before : List Y) (x : X) (words : List Lexeme) → P x → Tells (line x) words → Line before words (before ++ out x ∷ [])) →
    (xs : List X) (before : List Y) (words : List Lexeme) → AllByRecursion P xs → Written (map line xs) words → InTurn Line before words (before ++ map out xs)
turns_written Line line out P each [] before words all w = subst (λ ys. InTurn Line before words ys) (sym (append-nil before)) (turn_none Line before words (no_line words w))
turns_written Line line out P each (x ∷ xs) before words all w =
    let f = first_line (line x) (map line xs) words w in
    let more = turns_written Line line out P each xs (before ++ out x ∷ []) f.1 all.1 f.4 in
    subst (λ ys. InTurn Line before words ys) (append_assoc before (out x ∷ []) (map out xs))
    (turn_more Line before (before ++ out x ∷ []) ((before ++ out x ∷ []) ++ map out xs) f.0 f.1 words f.2 (each before x f.0 all.0 f.3) more)

-- a section under its keyword
pub section_written : {X Y : Type 0} (Line : List Y → List Lexeme → List Y → Type 0) (line : X → List Token) (out : X → Y) (P : X → Type 0) →
    ((before : List Y) (x : X) (words : List Lexeme) → P x → Tells (line x) words → Line before words (before ++ out x ∷ [])) →
    (spelling : List ℕ) (key : Key) → key_in kinds.Word spelling ≡ key → (xs : List X) (words : List Lexeme) → AllByRecursion P xs → Written (section (keyword spelling ∷ []) (map line xs)) words → Section key Line [] words (map out xs)
section_written Line line out P each spelling key is [] words all w = inl (no_line words w, refl)
section_written Line line out P each spelling key is (x ∷ xs) words all w =
    let f = first_line (keyword spelling) (map line (x ∷ xs)) words w in
    let t = one_token (Word spelling) f.0 f.3 in
    inr (t.0, f.1, f.2 ∙ ap (λ (ws : List Lexeme). ws ++ f.1) t.1, spelled t.0 spelling key is t.2, turns_written Line line out P each (x ∷ xs) [] f.1 all f.4)

-- ---- the lines of a net

conn_written : (names : List (List ℕ)) → length names < 2 ^ 64 → (before : List SpefConn) (conn : SpefConn) (words : List Lexeme) → IsConn names conn → Tells (conn_line conn) words → ConnLine (numbers_to (length names)) before words (before ++ conn ∷ [])
conn_written names small before conn words fits is =
    let numbers : List ℕ = numbers_to (length names) in
    let t = next_token (conn_kind conn.port) (end_token conn.end ∷ direction conn.dir ∷ cell conn.cell) words is in
    let u = next_token (end_token conn.end) (direction conn.dir ∷ cell conn.cell) t.1 t.4 in
    let v = next_token (direction conn.dir) (cell conn.cell) u.1 u.4 in
    let whole : words ≡ (t.0 ∷ u.0 ∷ v.0 ∷ []) ++ v.1 = t.2 ∙ ap (λ (ws : List Lexeme). t.0 ∷ ws) (u.2 ∙ ap (λ (ws : List Lexeme). u.0 ∷ ws) v.2) in
    Connects conn.port conn.end conn.dir conn.cell record {
      head = t.0 ∷ u.0 ∷ v.0 ∷ [];
      tail = v.1;
      parts = whole;
      fixed = (kind_says conn.port t.0 t.3, (end_says names conn.end u.0 small fits.end u.3, (direction_says conn.dir v.0 v.3, tt)));
      attributes = cells conn.cell v.1 fits.cell v.4;
    } refl
  where
    cells : (known : Option (List ℕ)) (words : List Lexeme) → IfSome known (λ name. is_name name ≡ true) → Tells (cell known) words → InTurn Attribute None words known
    cells None words fits is = turn_none Attribute None words (last_token words is)
    cells (Some name) words fits is =
        let t = two_tokens (Word (codes "*D")) (Word name) words is in
        turn_more Attribute None (Some name) (Some name) (t.0 ∷ t.1 ∷ []) [] words t.2
        (Driven name (spelled t.0 (codes "*D") keys.DrivingCell k_cell t.3, (named_says name t.1 fits t.4, tt)) refl) (turn_none Attribute (Some name) [] refl)

record CapFits (names : List (List ℕ)) (numbered : ℕ × Cap) : Type 0 where
  number : numbered.0 < 2 ^ 64
  cap : IsCap names numbered.1

record ResistorFits (names : List (List ℕ)) (numbered : ℕ × SpefRes) : Type 0 where
  number : numbered.0 < 2 ^ 64
  resistor : IsResistor names numbered.1

cap_written : (names : List (List ℕ)) → length names < 2 ^ 64 → (before : List Cap) (numbered : ℕ × Cap) (words : List Lexeme) → CapFits names numbered → Tells (cap_line numbered) words →
    CapLine scales.One (numbers_to (length names)) before words (before ++ numbered.1 ∷ [])
cap_written names small before numbered words fits is = by numbered.1.b refl fits.cap.b is
  where
    by : (b : Option End) → numbered.1.b ≡ b → IfSome b (IsEnd names) → Tells (Word (decimal numbered.0) ∷ end_token numbered.1.a ∷ second_end b ++ amount numbered.1.value.0 ∷ []) words →
        CapLine scales.One (numbers_to (length names)) before words (before ++ numbered.1 ∷ [])
    by None same end is =
        let t = three_tokens (Word (decimal numbered.0)) (end_token numbered.1.a) (amount numbered.1.value.0) words is in
        Grounded numbered.1.a numbered.1.value (rw t.3 (number_says numbered.0 t.0 fits.number t.4, (end_says names numbered.1.a t.1 small fits.cap.a t.5, (value_says numbered.1.value t.2 fits.cap.value t.6, tt))))
        (ap (λ (b : Option End). before ++ record { a = numbered.1.a; b = b; value = numbered.1.value } ∷ []) same)
    by (Some b) same end is =
        let t = four_tokens (Word (decimal numbered.0)) (end_token numbered.1.a) (end_token b) (amount numbered.1.value.0) words is in
        Coupled numbered.1.a b numbered.1.value
        (rw t.4 (number_says numbered.0 t.0 fits.number t.5, (end_says names numbered.1.a t.1 small fits.cap.a t.6, (end_says names b t.2 small end t.7, (value_says numbered.1.value t.3 fits.cap.value t.8, tt)))))
        (ap (λ (b : Option End). before ++ record { a = numbered.1.a; b = b; value = numbered.1.value } ∷ []) same)

resistor_written : (names : List (List ℕ)) → length names < 2 ^ 64 → (before : List SpefRes) (numbered : ℕ × SpefRes) (words : List Lexeme) → ResistorFits names numbered → Tells (resistor_line numbered) words →
    ResLine scales.One (numbers_to (length names)) before words (before ++ numbered.1 ∷ [])
resistor_written names small before numbered words fits is =
    let t = four_tokens (Word (decimal numbered.0)) (end_token numbered.1.a) (end_token numbered.1.b) (amount numbered.1.value.0) words is in
    record {
      a = numbered.1.a;
      b = numbered.1.b;
      value = numbered.1.value;
      are = rw t.4 (number_says numbered.0 t.0 fits.number t.5, (end_says names numbered.1.a t.1 small fits.resistor.a t.6, (end_says names numbered.1.b t.2 small fits.resistor.b t.7, (value_says numbered.1.value t.3 fits.resistor.value t.8, tt))));
      then = refl;
    }

numbered_out : {X : Type 0} (xs : List X) (n : ℕ) → map (λ (numbered : ℕ × X). numbered.1) (enumerate_from n xs) ≡ xs
numbered_out [] n = refl
numbered_out (x ∷ xs) n = ap (λ ys. x ∷ ys) (numbered_out xs (n + 1))

five_parts : (a b k r e : List Lexeme) → (((a ++ b) ++ k) ++ r) ++ e ≡ a ++ ([] ++ (b ++ (k ++ (r ++ e))))
five_parts a b k r e = simp append_assoc

pub net_written : (names : List (List ℕ)) → length names < 2 ^ 64 → (net : DNet) (words : List Lexeme) → NetFits names net → Written (net_block net) words → NetBlock scales.One scales.One (numbers_to (length names)) net words
net_written names small net words fits w =
    let numbers : List ℕ = numbers_to (length names) in
    let conn_lines : List (List Token) = section (keyword (codes "*CONN") ∷ []) (map conn_line net.conns) in
    let cap_lines : List (List Token) = section (keyword (codes "*CAP") ∷ []) (map cap_line (enumerate_from 1 net.caps)) in
    let res_lines : List (List Token) = section (keyword (codes "*RES") ∷ []) (map resistor_line (enumerate_from 1 net.res)) in
    let start : List (List Token) = [] ∷ net_line net ∷ conn_lines in
    let p = split (start ++ cap_lines ++ res_lines) (keyword (codes "*END") ∷ []) words w in
    let q = split (start ++ cap_lines) res_lines p.0 p.3 in
    let r = split start cap_lines q.0 q.3 in
    let blank = first_line [] (net_line net ∷ conn_lines) r.0 r.3 in
    let first = first_line (net_line net) conn_lines blank.1 blank.4 in
    let t = three_tokens (Word (codes "*D_NET")) (name_token net.name) (amount net.total.0) first.0 first.3 in
    let last = first_line (keyword (codes "*END")) [] p.1 p.4 in
    let e = one_token (Word (codes "*END")) last.0 last.3 in
    let begun : r.0 ≡ first.0 ++ first.1 = blank.2 ∙ ap (λ (ws : List Lexeme). ws ++ blank.1) (last_token blank.0 blank.3) ∙ first.2 in
    let ended : p.1 ≡ e.0 ∷ [] = last.2 ∙ ap (λ (ws : List Lexeme). last.0 ++ ws) (no_line last.1 last.4) ∙ append-nil last.0 ∙ e.1 in
    let whole : words ≡ (((first.0 ++ first.1) ++ r.1) ++ q.1) ++ p.1 =
    p.2 ∙ ap (λ (ws : List Lexeme). ws ++ p.1) (q.2 ∙ ap (λ (ws : List Lexeme). ws ++ q.1) (r.2 ∙ ap (λ (ws : List Lexeme). ws ++ r.1) begun)) in
    let conns : Section keys.Conn (ConnLine numbers) [] first.1 (map (λ (conn : SpefConn). conn) net.conns) =
    section_written (ConnLine numbers) conn_line (λ (conn : SpefConn). conn) (IsConn names) (conn_written names small) (codes "*CONN") keys.Conn k_conn net.conns first.1 fits.all.conns first.4 in
    let caps : Section keys.Cap (CapLine scales.One numbers) [] r.1 (map (λ (numbered : ℕ × Cap). numbered.1) (enumerate_from 1 net.caps)) =
    section_written (CapLine scales.One numbers) cap_line (λ (numbered : ℕ × Cap). numbered.1) (CapFits names) (cap_written names small) (codes "*CAP") keys.Cap k_cap (enumerate_from 1 net.caps) r.1
    (numbered_fits (IsCap names) (CapFits names) (λ n cap few is. record { number = few; cap = is }) net.caps 1 fits.caps fits.all.caps) r.4 in
    let res : Section keys.Res (ResLine scales.One numbers) [] q.1 (map (λ (numbered : ℕ × SpefRes). numbered.1) (enumerate_from 1 net.res)) =
    section_written (ResLine scales.One numbers) resistor_line (λ (numbered : ℕ × SpefRes). numbered.1) (ResistorFits names) (resistor_written names small) (codes "*RES") keys.Res k_res (enumerate_from 1 net.res) q.1
    (numbered_fits (IsResistor names) (ResistorFits names) (λ n resistor few is. record { number = few; resistor = is }) net.res 1 fits.res fits.all.res) q.4 in
    record {
      head = first.0;
      confidence = [];
      conns = first.1;
      caps = r.1;
      resistors = q.1;
      last = p.1;
      parts = whole ∙ five_parts first.0 first.1 r.1 q.1 p.1;
      begins = rw t.3 (spelled t.0 (codes "*D_NET") keys.DNet k_net t.4, (name_says names net.name t.1 small fits.all.name t.5, (value_says net.total t.2 fits.all.total t.6, tt)));
      told = inl refl;
      connects = subst (λ (all : List SpefConn). Section keys.Conn (ConnLine numbers) [] first.1 all) (map-id net.conns) conns;
      couples = subst (λ (all : List Cap). Section keys.Cap (CapLine scales.One numbers) [] r.1 all) (numbered_out net.caps 1) caps;
      resists = subst (λ (all : List SpefRes). Section keys.Res (ResLine scales.One numbers) [] q.1 all) (numbered_out net.res 1) res;
      ends = rw ended (spelled e.0 (codes "*END") keys.End k_end e.2, tt);
    }

pub nets_written : (names : List (List ℕ)) → length names < 2 ^ 64 → (nets before : List DNet) (words : List Lexeme) → AllByRecursion (NetFits names) nets → Written (flat_map net_block nets) words →
    InTurn (NetLine scales.One scales.One (numbers_to (length names))) before words (before ++ nets)
nets_written names small [] before words fits w = subst (λ (all : List DNet). InTurn (NetLine scales.One scales.One (numbers_to (length names))) before words all) (sym (append-nil before)) (turn_none _ before words (no_line words w))
nets_written names small (net ∷ nets) before words fits w =
    let s = split (net_block net) (flat_map net_block nets) words w in
    let more = nets_written names small nets (before ++ net ∷ []) s.1 fits.1 s.4 in
    subst (λ (all : List DNet). InTurn (NetLine scales.One scales.One (numbers_to (length names))) before words all) (append_assoc before (net ∷ []) nets)
    (turn_more _ before (before ++ net ∷ []) ((before ++ net ∷ []) ++ nets) s.0 s.1 words s.2 (record { net = net; block = net_written names small net s.0 fits.0 s.3; then = refl }) more)
