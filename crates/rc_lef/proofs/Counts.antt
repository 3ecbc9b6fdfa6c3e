-- How many things files define: fewer than their texts have bytes.
use Rattle.std.proofs.Common.{◌≡◌, ◌∙◌, ◌+◌, ◌*◌, ◌≤◌, ℕ, suc, Bool, true, false, cond, List, [], ◌∷◌, ◌++◌, length, get_or, refl, ap, arith}
use Rattle.std.proofs.Math.ListN.{length-append}
use Rattle.std.proofs.lemmas.List.{length-map}
use Rattle.std.specs.Prelude.{Option, Some, None, All}
use Rattle.std.specs.List.{FoldsTo, list_any}
use Rattle.std.proofs.lemmas.List.Elements.{All-push}
use Rattle.rc_keys.specs.declared.token.Mode.{Mode}
use Rattle.rc_keys.specs.declared.token.Place.{Place}
use Rattle.rc_keys.specs.declared.token.Token.{Token}
use Rattle.rc_keys.specs.Lexemes.{Lexeme, lexeme, words_of}
use Rattle.rc_keys.specs.Tokens.{begin, next, after, closed_by, closed_from, closed_at_end, listed, tokens_from}
use Rattle.rc_keys.specs.Phrases.{joined, Spells, Block}
use Rattle.rc_lef.specs.declared.key.Key.TheVariants as keys
use Rattle.rc_lef.specs.declared.cell.Macro.{Macro}
use Rattle.rc_lef.specs.Facts.{HasAtMost}
use Rattle.rc_lef.specs.Technology.{Technology}
use Rattle.rc_lef.specs.Phrases.{Part, Word, Name, Says}
use Rattle.rc_lef.specs.declared.state.CellDraft.{CellDraft}
use Rattle.rc_lef.specs.declared.state.ViaDraft.{ViaDraft}
use Rattle.rc_lef.specs.Cells.{is_pin, pin_of, macro_of}
use Rattle.rc_lef.specs.Vias.{via_of}
use Rattle.rc_lef.specs.LayerBlock.{LayerStatement, no_parts, knows_layer, layer_of}
use Rattle.rc_lef.specs.ViaBlock.{ViaStatement, no_parts as no_via_parts, knows_via, with_new_via}
use Rattle.rc_lef.specs.RuleBlock.{RuleParts, RuleStatement, LayerHead, Width, LayerOther, LayerEnd, ViaHead, ViaPart as ViaInRule, ViaEnd, Skipped, Other, rule_begun, knows_rule}
use Rattle.rc_lef.specs.MacroBlock.{CellStatement, Origin, SizeBy, Obstruction, Timing, Other as OtherInCell, MacroParts, MacroStatement, InCell, PinHead, PinPart, PortHead, PortPart, PortEnd, PinEnd, no_parts as no_macro_parts, knows_macro}
use Rattle.rc_lef.specs.File.{Entry, UnitsPart, LayerPart, ViaPart, RulePart, MacroPart, SkippedPart, OtherPart, IsFile}

-- ---- a text has at most one token more than bytes

one_at_most : (t : Option Token) → length (listed t) ≤ 1
one_at_most None = omega arith
one_at_most (Some t) = omega arith

closed_few : (m : Mode) (p : Place) (bytes : List ℕ) → length (closed_from m p bytes) ≤ length bytes
unfolding closed_from
closed_few m p [] = omega arith
closed_few m p (b ∷ bytes) =
    let one = one_at_most (closed_by p b) in
    let more = closed_few m (next m p b) bytes in
    let e : length (listed (closed_by p b) ++ closed_from m (next m p b) bytes) ≡ length (listed (closed_by p b)) + length (closed_from m (next m p b) bytes) = length-append (listed (closed_by p b)) (closed_from m (next m p b) bytes) in
    omega arith

tokens_few : (m : Mode) (p : Place) (bytes : List ℕ) → length (tokens_from m p bytes) ≤ length bytes + 1
unfolding tokens_from
tokens_few m p bytes =
    let one = one_at_most (closed_at_end (after m p bytes)) in
    let more = closed_few m p bytes in
    let e : length (tokens_from m p bytes) ≡ length (closed_from m p bytes) + length (listed (closed_at_end (after m p bytes))) = length-append (closed_from m p bytes) (listed (closed_at_end (after m p bytes))) in
    omega arith

pub words_few : (m : Mode) (text : List ℕ) → length (words_of m text).words ≤ length text + 1
words_few m text = rw (length-map (tokens_from m begin text) (lexeme text)) (tokens_few m begin text)

-- ---- each block adds at most one thing to a list, and has two tokens or more

pub spelled : {P : Type 0} (Says : P → Lexeme → Type 0) (parts : List P) (words : List Lexeme) → Spells Says parts words → length words ≡ length parts
spelled Says [] [] is = refl
spelled Says [] (word ∷ words) is = absurd is
spelled Says (part ∷ parts) [] is = absurd is
spelled Says (part ∷ parts) (word ∷ words) is = ap suc (spelled Says parts words is.1)

-- twice the lengths of a technology's lists are at most this
pub record IsWithin (count : ℕ) (tech : Technology) : Type 0 where
  pub layers : 2 * length tech.layers ≤ count
  pub vias : 2 * length tech.vias ≤ count
  pub macros : 2 * length tech.macros ≤ count
  pub rules : 2 * length tech.rules ≤ count
  pub pins : All (λ (cell : Macro). 2 * length cell.pins ≤ count) tech.macros

all_weaker : {X : Type 0} (P Q : X → Type 0) → ((x : X) → P x → Q x) → (xs : List X) → All P xs → All Q xs
all_weaker P Q law xs all = λ k d within. law (get_or xs k d) (all k d within)

pub weaker : (a b : ℕ) (t : Technology) → a ≤ b → IsWithin a t → IsWithin b t
weaker a b t le w = record {
  layers = let e = w.layers in omega arith;
  vias = let e = w.vias in omega arith;
  macros = let e = w.macros in omega arith;
  rules = let e = w.rules in omega arith;
  pins = all_weaker (λ (cell : Macro). 2 * length cell.pins ≤ a) (λ (cell : Macro). 2 * length cell.pins ≤ b) (λ (cell : Macro) (e : 2 * length cell.pins ≤ a). omega arith) t.macros w.pins;
}

-- one more, or as many
joins : {X : Type 0} (known : Bool) (xs : List X) (x : X) (k n : ℕ) → 2 ≤ n → 2 * length xs ≤ k → 2 * length (cond known xs (xs ++ x ∷ [])) ≤ k + n
joins true xs x k n two le = omega arith
joins false xs x k n two le = let e = length-append xs (x ∷ []) in omega arith

all_join : {X : Type 0} (P : X → Type 0) (known : Bool) (xs : List X) (x : X) → All P xs → P x → All P (cond known xs (xs ++ x ∷ []))
all_join P true xs x all p = all
all_join P false xs x all p = All-push P xs x all p

add_via : (t : Technology) (name : List ℕ) (via : ViaDraft) (k n : ℕ) → 2 ≤ n → IsWithin k t → IsWithin (k + n) (with_new_via t name via)
add_via t name via k n two w =
    let v = weaker k (k + n) t (omega arith) w in
    record { layers = v.layers; vias = joins (knows_via t name) t.vias (via_of name via) k n two w.vias; macros = v.macros; rules = v.rules; pins = v.pins }

-- what statements add, by how many tokens they have
all_add : {A : Type 0} (Mean : A → List Lexeme → A → Type 0) (P : ℕ → A → Type 0) → ((a b : ℕ) (x : A) → a ≡ b → P a x → P b x) → ((x y : A) (words : List Lexeme) (k : ℕ) → Mean x words y → P k x → P (k + length words) y)
    → (parts : List (List Lexeme)) (x y : A) (k : ℕ) → FoldsTo Mean x parts y → P k x → P (k + length (joined parts)) y
all_add Mean P same_count law [] x y k same p = rw (← same) (same_count k (k + 0) x (omega arith) p)
all_add Mean P same_count law (part ∷ parts) x y k all p =
    let v = all_add Mean P same_count law parts all.0 y (k + length part) all.2 (law x all.0 part k all.1 p) in
    let e = length-append part (joined parts) in
    same_count (k + length part + length (joined parts)) (k + length (part ++ joined parts)) y (omega arith) v

-- the tokens of a block: its head has two, and its statements come with them
two_tokens : {A : Type 0} (Statement : A → List Lexeme → A → Type 0) (End : List Lexeme → Type 0) (p q : Part) (before after : A) (words : List Lexeme) → (b : Block (Spells Says (p ∷ q ∷ [])) Statement End before words after) → 2 + length (joined b.goes.parts) ≤ length words
two_tokens Statement End p q before after words b =
    let e = spelled Says (p ∷ q ∷ []) b.head b.begins in
    let f = ap length b.parts ∙ length-append b.head (b.inside ++ b.last) in
    let g = length-append b.inside b.last in
    let h = ap length b.goes.whole in omega arith

-- ---- statements of a rule and of a macro

rule_adds : (before after : RuleParts) (words : List Lexeme) (k : ℕ) → RuleStatement before words after → IsWithin k before.tech → IsWithin (k + length words) after.tech
rule_adds before after words k (LayerHead name kind at are found same) w = rw same (weaker k (k + length words) before.tech (omega arith) w)
rule_adds before after words k (Width name kind width at are same) w = rw same (weaker k (k + length words) before.tech (omega arith) w)
rule_adds before after words k (LayerOther name kind at is same) w = rw same (weaker k (k + length words) before.tech (omega arith) w)
rule_adds before after words k (LayerEnd name kind at are same) w = rw same (weaker k (k + length words) before.tech (omega arith) w)
rule_adds before after words k (ViaHead name at are same) w = rw same (weaker k (k + length words) before.tech (omega arith) w)
rule_adds before after words k (ViaInRule name parts next at statement same) w = rw same (weaker k (k + length words) before.tech (omega arith) w)
rule_adds before after words k (ViaEnd name parts at are same) w = rw same (add_via before.tech name parts.via k (length words) (let e = spelled Says (Word keys.End ∷ Name name ∷ []) words are in omega arith) w)
rule_adds before after words k (Skipped at is same) w = rw same (weaker k (k + length words) before.tech (omega arith) w)
rule_adds before after words k (Other at is same) w = rw same (weaker k (k + length words) before.tech (omega arith) w)

abbrev HasPins : ℕ → MacroParts → Type 0
HasPins k v = 2 * length v.cell.pins ≤ k

cell_adds : (tech : Technology) (before after : CellDraft) (words : List Lexeme) → CellStatement tech before words after → length after.pins ≡ length before.pins
cell_adds tech before after words (Origin x y are same) = rw same refl
cell_adds tech before after words (SizeBy w h are same) = rw same refl
cell_adds tech before after words (Obstruction is same) = rw same refl
cell_adds tech before after words (Timing is same) = rw same refl
cell_adds tech before after words (OtherInCell is same) = rw same refl

pin_adds : (tech : Technology) (before after : MacroParts) (words : List Lexeme) (k : ℕ) → MacroStatement tech before words after → HasPins k before → HasPins (k + length words) after
pin_adds tech before after words k (InCell cell at statement same) p = rw same (let e = cell_adds tech before.cell cell words statement in omega arith)
pin_adds tech before after words k (PinHead name at are same) p = rw same (omega arith)
pin_adds tech before after words k (PinPart pin at statement same) p = rw same (omega arith)
pin_adds tech before after words k (PortHead at are same) p = rw same (omega arith)
pin_adds tech before after words k (PortPart pin at statement same) p = rw same (omega arith)
pin_adds tech before after words k (PortEnd at are same) p = rw same (omega arith)
pin_adds tech before after words k (PinEnd at are same) p =
    rw same (joins (list_any (is_pin before.pin.name) before.cell.pins) before.cell.pins (pin_of before.pin) k (length words) (let e = spelled Says (Word keys.End ∷ Name before.pin.name ∷ []) words are in omega arith) p)

same_within : (a b : ℕ) (t : Technology) → a ≡ b → IsWithin a t → IsWithin b t
same_within a b t is w = weaker a b t (omega arith) w

-- ---- entries

entry_adds : (before after : Technology) (words : List Lexeme) (k : ℕ) → Entry before words after → IsWithin k before → IsWithin (k + length words) after
entry_adds before after words k (UnitsPart units b same) w = rw same (let v = weaker k (k + length words) before (omega arith) w in record { layers = v.layers; vias = v.vias; macros = v.macros; rules = v.rules; pins = v.pins })
entry_adds before after words k (LayerPart name parts b complete same) w =
    let two = two_tokens (LayerStatement before name) _ (Word keys.Layer) (Name name) no_parts parts words b in
    let v = weaker k (k + length words) before (omega arith) w in
    rw same (record { layers = joins (knows_layer before name) before.layers (layer_of before name parts) k (length words) (omega arith) w.layers; vias = v.vias; macros = v.macros; rules = v.rules; pins = v.pins })
entry_adds before after words k (ViaPart name parts b same) w =
    rw same (add_via before name parts.via k (length words) (let two = two_tokens (ViaStatement before) _ (Word keys.Via) (Name name) no_via_parts parts words b in omega arith) w)
entry_adds before after words k (RulePart name parts b between same) w =
    let two = two_tokens RuleStatement _ (Word keys.NonDefaultRule) (Name name) (rule_begun before) parts words b in
    let n : ℕ = k + length (joined b.goes.parts) in
    let e = all_add RuleStatement (λ j (v : RuleParts). IsWithin j v.tech) (λ i j (v : RuleParts) same_. same_within i j v.tech same_) rule_adds b.goes.parts (rule_begun before) parts k b.goes.each w in
    let v = weaker n (k + length words) parts.tech (omega arith) e in
    rw same (record {
      layers = v.layers;
      vias = v.vias;
      macros = v.macros;
      rules = let r = joins (knows_rule parts.tech name) parts.tech.rules (record { name = name; widths = parts.widths }) n 2 (omega arith) e.rules in omega arith;
      pins = v.pins;
    })
entry_adds before after words k (MacroPart name parts size b between has same) w =
    let two = two_tokens (MacroStatement before) _ (Word keys.Macro) (Name name) no_macro_parts parts words b in
    let v = weaker k (k + length words) before (omega arith) w in
    let p = all_add (MacroStatement before) HasPins (λ i j (u : MacroParts) (same_ : i ≡ j) (h : HasPins i u). omega arith) (pin_adds before) b.goes.parts no_macro_parts parts 0 b.goes.each (omega arith) in
    rw same (record {
      layers = v.layers;
      vias = v.vias;
      macros = joins (knows_macro before name) before.macros (macro_of name size parts.cell) k (length words) (omega arith) w.macros;
      rules = v.rules;
      pins = all_join (λ (cell : Macro). 2 * length cell.pins ≤ k + length words) (knows_macro before name) before.macros (macro_of name size parts.cell) v.pins (omega arith);
    })
entry_adds before after words k (SkippedPart is same) w = rw same (weaker k (k + length words) before (omega arith) w)
entry_adds before after words k (OtherPart is same) w = rw same (weaker k (k + length words) before (omega arith) w)

-- ---- what a file leaves

halved : (n bytes size k : ℕ) → k ≤ n + n + (bytes + 1) → 2 * size ≤ k → size ≤ n + bytes
halved n bytes size k le two = omega arith

doubled : (n : ℕ) (t : Technology) → HasAtMost n t → IsWithin (n + n) t
doubled n t few = record {
  layers = let e = few.layers in omega arith;
  vias = let e = few.vias in omega arith;
  macros = let e = few.macros in omega arith;
  rules = let e = few.rules in omega arith;
  pins = all_weaker (λ (cell : Macro). length cell.pins ≤ n) (λ (cell : Macro). 2 * length cell.pins ≤ n + n) (λ (cell : Macro) (e : length cell.pins ≤ n). omega arith) t.macros few.pins;
}

pub at_most : (n bytes k : ℕ) (t : Technology) → k ≤ n + n + (bytes + 1) → IsWithin k t → HasAtMost (n + bytes) t
at_most n bytes k t le w = record {
  layers = halved n bytes (length t.layers) k le w.layers;
  vias = halved n bytes (length t.vias) k le w.vias;
  macros = halved n bytes (length t.macros) k le w.macros;
  rules = halved n bytes (length t.rules) k le w.rules;
  pins = all_weaker (λ (cell : Macro). 2 * length cell.pins ≤ k) (λ (cell : Macro). length cell.pins ≤ n + bytes) (λ (cell : Macro) (e : 2 * length cell.pins ≤ k). halved n bytes (length cell.pins) k le e) t.macros w.pins;
}

pub fewer : (a b : ℕ) (t : Technology) → a ≤ b → HasAtMost a t → HasAtMost b t
fewer a b t le few = record {
  layers = let e = few.layers in omega arith;
  vias = let e = few.vias in omega arith;
  macros = let e = few.macros in omega arith;
  rules = let e = few.rules in omega arith;
  pins = all_weaker (λ (cell : Macro). length cell.pins ≤ a) (λ (cell : Macro). length cell.pins ≤ b) (λ (cell : Macro) (e : length cell.pins ≤ a). omega arith) t.macros few.pins;
}

-- so many things and so many bytes more
pub file_adds : (m : Mode) (n : ℕ) (before after : Technology) (text : List ℕ) → IsFile before (words_of m text) after → HasAtMost n before → HasAtMost (n + length text) after
file_adds m n before after text file few =
    let w = all_add Entry IsWithin same_within entry_adds file.entries.parts before after (n + n) file.entries.each (doubled n before few) in
    let e = words_few m text in
    let f = ap length file.words ∙ length-append file.front file.rest in
    let g = ap length file.entries.whole in
    at_most n (length text) (n + n + length (joined file.entries.parts)) after (omega arith) w
