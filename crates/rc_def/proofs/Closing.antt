-- Which token closes a DEF file: the word DESIGN behind END, and no other.
use Rattle.std.proofs.Common.{◌≡◌, ◌∙◌, ◌+◌, ℕ, Bool, true, false, cond, List, [], ◌∷◌, length, refl, ap, sym, subst, arith}
use Rattle.std.proofs.lemmas.Bool.Decides.{nat_tests}
use Rattle.std.proofs.lemmas.Slice.Eq.{bytes_eq-Decides}
use Rattle.std.specs.Prelude.{◌&&◌, ◌||◌, ◌==◌, not, Option, Some, None, is_some, Result, Ok, Err, nat_lt, slice_get, unwrap_or}
use Rattle.std.specs.List.{list_all}
use Rattle.std.specs.Map.{lookup}
use Rattle.std.specs.Str.{bytes_eq}
use Rattle.rc_keys.specs.declared.code.Code.{Code}
use Rattle.rc_keys.specs.declared.code.Code.TheVariants.{E16}
use Rattle.rc_keys.specs.declared.token.Kind.{Kind}
use Rattle.rc_keys.specs.declared.token.Kind.TheVariants as kinds
use Rattle.rc_keys.specs.Lexemes.{Lexeme}
use Rattle.rc_keys.specs.Course.{Turn, Refuse, More, Done, Close}
use Rattle.rc_wire.specs.declared.item.PathItem.{PathItem}
use Rattle.rc_wire.specs.declared.key.Key.{Key}
use Rattle.rc_wire.specs.declared.key.Key.TheVariants as keys
use Rattle.rc_wire.specs.declared.operands.Operands.{Operands}
use Rattle.rc_wire.specs.declared.part.Part.{Part}
use Rattle.rc_wire.specs.declared.wiring.Wiring.{Wiring}
use Rattle.rc_wire.specs.Items.{place_of, behind, taken, take_part, inside, begun, by_item, item_turn}
use Rattle.rc_wire.specs.Keys.{def_keys, key_in, key_of, is_name, is_quoted, is_orientation}
use Rattle.rc_wire.specs.Parts.{nothing, take}
use Rattle.rc_wire.specs.Paths.{begins as begins_path}
use Rattle.rc_def.specs.declared.draft.Draft.{Draft}
use Rattle.rc_def.specs.declared.draft.Header.{Header}
use Rattle.rc_def.specs.declared.draft.Lists.{Lists}
use Rattle.rc_def.specs.declared.item.DefItem.{DefItem}
use Rattle.rc_def.specs.declared.item.DefItem.TheVariants as items
use Rattle.rc_def.specs.declared.item.Section.{Section}
use Rattle.rc_def.specs.declared.item.Section.TheVariants as sections
use Rattle.rc_def.specs.declared.item.Stage.{Stage}
use Rattle.rc_def.specs.declared.item.Stage.TheVariants as stages
use Rattle.rc_def.specs.declared.reader.State.{State}
use Rattle.rc_def.specs.Begins as begins
use Rattle.rc_def.specs.Begins.{begins_in}
use Rattle.rc_def.specs.Drafts.{is_complete, has}
use Rattle.rc_def.specs.Items.{form_of}
use Rattle.rc_def.specs.Means.{means, begins_in as begins_entry_in}
use Rattle.rc_def.specs.File.{as_item, def_format, state_of, def_turn}
use Rattle.rc_def.proofs.Cutting.{Halts, ByOneWord}

-- ---- the item that ends a file

abbrev is_end : DefItem → Bool
is_end items.EndDesign = true
is_end _ = false

abbrev is_close : {S : Type 0} → Turn S → Bool
is_close (Close s) = true
is_close _ = false

entry_goes : (section : Section) (said : Operands) (v : Draft) → is_close (begins_entry_in section said v) ≡ false
entry_goes sections.Vias said v = refl
entry_goes sections.Rules said v = refl
entry_goes sections.Comps said v = refl
entry_goes sections.Pins said v = refl
entry_goes sections.Specials said v = refl
entry_goes sections.Nets said v = refl

pub ends_file : (item : DefItem) (v : Draft) (said : Operands) → is_close (means item v said) ≡ is_end item
unfolding means
ends_file items.Entry v said = entry_goes v.section said (record v { name = said.name; line = said.line })
ends_file items.Component v said = entry_goes v.section said (record v { name = said.name; line = said.line })
ends_file _ v said = refl

-- ---- the token that begins it

-- an item is no end
abbrev Goes : Result DefItem Code → Type 0
Goes (Ok item) = is_end item ≡ false
Goes (Err code) = Unit {0}

either : (b : Bool) (x y : Result DefItem Code) → Goes x → Goes y → Goes (cond b x y)
either true x y p q = p
either false x y p q = q

top_goes : (header : Header) (key : Key) → Goes (begins.top header key)
top_goes header keys.Design = either (is_some header.design) _ _ tt refl
top_goes header keys.Units = either (is_some header.units) _ _ tt refl
top_goes header keys.Quoted = tt
top_goes header _ = refl

over_goes : (key : Key) → Goes (begins.over key)
over_goes keys.Semicolon = refl
over_goes _ = refl

skipped_goes : (key : Key) → Goes (Ok (begins.skipped key))
skipped_goes keys.End = refl
skipped_goes _ = refl

skipped_end_by : (b : Bool) (key : Key) → Goes (Ok (cond b items.Done (begins.skipped key)))
skipped_end_by true key = refl
skipped_end_by false key = skipped_goes key

extension_goes : (key : Key) → Goes (begins.extension key)
extension_goes keys.EndExt = refl
extension_goes _ = refl

section_goes : (key : Key) → Goes (begins.section key)
section_goes keys.Minus = refl
section_goes keys.End = refl
section_goes _ = tt

entry_item : (section : Section) → Goes (Ok (begins.entry section))
entry_item sections.Comps = refl
entry_item _ = refl

name_goes : (section : Section) (lists : Lists) (key : Key) (bytes : List ℕ) → Goes (begins.name section lists key bytes)
name_goes section lists key bytes =
    either (not (is_name key)) _ _ tt (either (begins.is_must_join section key) _ _ tt (either (has section bytes lists) _ _ tt (entry_item section)))

options_goes : (key : Key) → Goes (begins.options key)
options_goes keys.Plus = refl
options_goes keys.Semicolon = refl
options_goes _ = tt

opens_goes : (section : Section) → Goes (Ok (begins.opens section))
opens_goes sections.Specials = refl
opens_goes _ = refl

connections_goes : (section : Section) (key : Key) → Goes (begins.connections section key)
connections_goes section keys.Open = opens_goes section
connections_goes section key = options_goes key

connection_goes : (key : Key) → Goes (begins.connection key)
connection_goes keys.Close = refl
connection_goes keys.Semicolon = tt
connection_goes _ = refl

passed_goes : (key : Key) → Goes (begins.passed key)
passed_goes key = either (is_name key) _ _ refl tt

via_option_goes : (key : Key) → Goes (begins.via_option key)
via_option_goes keys.Rect = refl
via_option_goes keys.ViaRule = refl
via_option_goes keys.CutSize = refl
via_option_goes keys.Layers = refl
via_option_goes keys.CutSpacing = refl
via_option_goes keys.Enclosure = refl
via_option_goes keys.RowCol = refl
via_option_goes keys.Polygon = refl
via_option_goes keys.Origin = refl
via_option_goes keys.Offset = refl
via_option_goes keys.Pattern = refl
via_option_goes key = passed_goes key

rule_option_goes : (key : Key) → Goes (begins.rule_option key)
rule_option_goes keys.Layer = refl
rule_option_goes key = passed_goes key

comp_option_goes : (key : Key) → Goes (begins.comp_option key)
comp_option_goes keys.Placed = refl
comp_option_goes keys.Fixed = refl
comp_option_goes keys.Cover = refl
comp_option_goes key = passed_goes key

pin_option_goes : (key : Key) → Goes (begins.pin_option key)
pin_option_goes keys.Direction = refl
pin_option_goes keys.Port = refl
pin_option_goes keys.Layer = refl
pin_option_goes keys.Placed = refl
pin_option_goes keys.Fixed = refl
pin_option_goes keys.Cover = refl
pin_option_goes key = passed_goes key

net_option_goes : (key : Key) → Goes (begins.net_option key)
net_option_goes keys.NonDefaultRule = refl
net_option_goes keys.Routed = refl
net_option_goes keys.Fixed = refl
net_option_goes keys.Cover = refl
net_option_goes keys.NoShield = refl
net_option_goes keys.SubNet = tt
net_option_goes keys.VPin = tt
net_option_goes key = passed_goes key

special_option_goes : (key : Key) → Goes (begins.special_option key)
special_option_goes keys.Use = refl
special_option_goes keys.Routed = refl
special_option_goes keys.Fixed = refl
special_option_goes keys.Cover = refl
special_option_goes keys.Shield = refl
special_option_goes keys.Rect = refl
special_option_goes keys.Via = refl
special_option_goes keys.Polygon = tt
special_option_goes key = passed_goes key

option_goes : (section : Section) (key : Key) → Goes (begins.option section key)
option_goes sections.Vias key = via_option_goes key
option_goes sections.Rules key = rule_option_goes key
option_goes sections.Comps key = comp_option_goes key
option_goes sections.Pins key = pin_option_goes key
option_goes sections.Specials key = special_option_goes key
option_goes sections.Nets key = net_option_goes key

passed_on_goes : (key : Key) → Goes (begins.passed_on key)
passed_on_goes keys.Plus = refl
passed_on_goes keys.Semicolon = refl
passed_on_goes _ = refl

paths_end_goes : (key : Key) → Goes (Ok (begins.paths_end key))
paths_end_goes keys.Plus = refl
paths_end_goes _ = refl

path_goes : (key : Key) (r : Result (Option PathItem) Code) → Goes (begins.path key r)
path_goes key (Ok (Some item)) = refl
path_goes key (Ok None) = paths_end_goes key
path_goes key (Err code) = tt

paths_goes : (w : Wiring) (key : Key) → Goes (begins.paths w key)
paths_goes w keys.Plus = refl
paths_goes w keys.Semicolon = refl
paths_goes w key = path_goes key (begins_path w key)

via_first_goes : (key : Key) → Goes (begins.via_first key)
via_first_goes keys.Open = refl
via_first_goes _ = tt

via_points_goes : (key : Key) → Goes (begins.via_points key)
via_points_goes keys.Open = refl
via_points_goes key = options_goes key

-- behind END at the top
abbrev is_end_of_file : Stage → Bool
is_end_of_file stages.EndOfFile = true
is_end_of_file _ = false

pub stage_goes : (stage : Stage) (v : Draft) (key : Key) (word : Lexeme) → is_end_of_file stage ≡ false → Goes (begins_in stage v key word)
stage_goes stages.Top v key word un = top_goes v.header key
stage_goes stages.Over v key word un = over_goes key
stage_goes stages.EndOfFile v key word un = absurd cc
stage_goes stages.Skipped v key word un = skipped_goes key
stage_goes stages.SkippedEnd v key word un = skipped_end_by (not (is_quoted key) && bytes_eq word.bytes v.skipped) key
stage_goes stages.Extension v key word un = extension_goes key
stage_goes stages.Section v key word un = section_goes key
stage_goes stages.SectionEnd v key word un = either (begins.is_word_of v.section key) _ _ refl tt
stage_goes stages.Name v key word un = name_goes v.section v.lists key word.bytes
stage_goes stages.Connections v key word un = connections_goes v.section key
stage_goes stages.Connection v key word un = connection_goes key
stage_goes stages.Options v key word un = options_goes key
stage_goes stages.Option v key word un = option_goes v.section key
stage_goes stages.Passed v key word un = passed_on_goes key
stage_goes stages.Paths v key word un = paths_goes v.wiring key
stage_goes stages.Wiring v key word un = path_goes key (begins_path v.wiring key)
stage_goes stages.ViaHead v key word un = either (is_orientation key) _ _ refl (via_first_goes key)
stage_goes stages.ViaFirst v key word un = via_first_goes key
stage_goes stages.ViaPoints v key word un = via_points_goes key

-- ---- the word DESIGN has six bytes

abbrev is_design : Key → Bool
is_design keys.Design = true
is_design _ = false

abbrev fits : List ℕ × Key → Bool
fits pair = not (is_design pair.1) || (length pair.0 == 6)

all_fit : list_all fits def_keys ≡ true
unfolding def_keys
all_fit = refl

both : (a b : Bool) → (a && b) ≡ true → (a ≡ true) × (b ≡ true)
both true b is = (refl, is)
both false b is = absurd cc

six : (word bytes : List ℕ) (key : Key) → key ≡ keys.Design → fits (word, key) ≡ true → bytes_eq bytes word ≡ true → length bytes ≡ 6
six word bytes key is fit same =
    let e : (length word == 6) ≡ true = subst (λ k. (not (is_design k) || (length word == 6)) ≡ true) is fit in
    let f : bytes ≡ word = (bytes_eq-Decides bytes word).0 same in
    ap length f ∙ grind (arith, nat_tests)

found_by : (b : Bool) (bytes word : List ℕ) (key : Key) (later : Option Key) → bytes_eq bytes word ≡ b → fits (word, key) ≡ true → cond b (Some key) later ≡ Some keys.Design → (later ≡ Some keys.Design → length bytes ≡ 6) → length bytes ≡ 6
found_by true bytes word key later same fit is again = let e : key ≡ keys.Design = cc in six word bytes key e fit same
found_by false bytes word key later same fit is again = again is

found : (pairs : List (List ℕ × Key)) (bytes : List ℕ) → list_all fits pairs ≡ true → lookup (bytes_eq bytes) pairs ≡ Some keys.Design → length bytes ≡ 6
found [] bytes fit is = absurd cc
found ((word, key) ∷ pairs) bytes fit is =
    let f = both (fits (word, key)) (list_all fits pairs) fit in
    found_by (bytes_eq bytes word) bytes word key (lookup (bytes_eq bytes) pairs) refl f.0 is (λ later. found pairs bytes f.1 later)

or_other : (o : Option Key) → unwrap_or o keys.Other ≡ keys.Design → o ≡ Some keys.Design
or_other (Some key) is = ap (λ k. Some k) is
or_other None is = absurd cc

in_kind : (kind : Kind) (bytes : List ℕ) → key_in kind bytes ≡ keys.Design → (kind ≡ kinds.Word) × (length bytes ≡ 6)
in_kind kinds.Quoted bytes is = absurd cc
in_kind kinds.Word bytes is = (refl, found def_keys bytes all_fit (or_other (lookup (bytes_eq bytes) def_keys) is))

design_word : (w : Lexeme) → key_of w ≡ keys.Design → (w.kind ≡ kinds.Word) × (length w.bytes ≡ 6)
unfolding key_of
design_word w is = in_kind w.kind w.bytes is

-- ---- what a token does that closes a file

abbrev is_end_open : Option DefItem → Bool
is_end_open (Some item) = is_end item
is_end_open None = false

-- the item that ends a file is never open
abbrev pub Inv : State → Type 0
Inv s = is_end_open s.item ≡ false

abbrev Closes : State → Lexeme → Type 0
Closes s w = (s.item ≡ None) × (begins.begins s.draft (key_of w) w ≡ Ok items.EndDesign)

abbrev Kept : Type 0 → Turn State → Type 0
Kept closes (Refuse refusal) = Unit {0}
Kept closes (More t) = Inv t
Kept closes (Done t) = Inv t
Kept closes (Close t) = closes

kept_behind : (closes : Type 0) (turn : Turn Draft) → is_close turn ≡ false → Kept closes (behind state_of def_format turn)
kept_behind closes (Refuse refusal) un = tt
kept_behind closes (More v) un = refl
kept_behind closes (Done v) un = refl
kept_behind closes (Close v) un = absurd cc

kept_on : (closes : Type 0) (v : Draft) (item : DefItem) (place : ℕ) (said : Operands) (b : Bool) → is_end item ≡ false
    → Kept closes (cond b (More (state_of v (Some item) place said)) (behind state_of def_format (means item v said)))
kept_on closes v item place said true un = un
kept_on closes v item place said false un = kept_behind closes (means item v said) (ends_file item v said ∙ un)

kept_taken : (closes : Type 0) (v : Draft) (item : DefItem) (place : ℕ) (w : Lexeme) (r : Result Operands Code) → is_end item ≡ false → Kept closes (taken state_of def_format v item place w r)
kept_taken closes v item place w (Ok said) un = kept_on closes v item (place + 1) said (nat_lt (place + 1) (length (form_of item))) un
kept_taken closes v item place w (Err code) un = tt

kept_part : (closes : Type 0) (v : Draft) (item : DefItem) (place : ℕ) (said : Operands) (key : Key) (w : Lexeme) (part : Option Part) → is_end item ≡ false → Kept closes (take_part state_of def_format v item place said key w part)
kept_part closes v item place said key w (Some part) un = kept_taken closes v item place w (take part said key w.bytes) un
kept_part closes v item place said key w None un = tt

kept_inside : (closes : Type 0) (v : Draft) (item : DefItem) (place : ℕ) (said : Operands) (key : Key) (w : Lexeme) → is_end item ≡ false → Kept closes (inside state_of def_format v item place said key w)
unfolding inside
kept_inside closes v item place said key w un = kept_part closes v item (place_of (form_of item) place key) said key w (slice_get (form_of item) (place_of (form_of item) place key)) un

-- the item that ends a file is one token
end_inside : (v : Draft) (said : Operands) (key : Key) (w : Lexeme) → inside state_of def_format v items.EndDesign 0 said key w ≡ Close (state_of v None 0 nothing)
unfolding inside form_of take means
end_inside v said key w = refl

is_the_end : (item : DefItem) → is_end item ≡ true → item ≡ items.EndDesign
is_the_end items.EndDesign is = refl
is_the_end _ is = absurd cc

kept_item : (closes : Type 0) (v : Draft) (item : DefItem) (said : Operands) (key : Key) (w : Lexeme) (b : Bool) → is_end item ≡ b → (item ≡ items.EndDesign → closes) → Kept closes (inside state_of def_format v item 0 said key w)
kept_item closes v item said key w true is end =
    let e = is_the_end item is in
    subst (λ turn. Kept closes turn) (sym (ap (λ x. inside state_of def_format v x 0 said key w) e ∙ end_inside v said key w)) (end e)
kept_item closes v item said key w false is end = kept_inside closes v item 0 said key w is

kept_begun : (closes : Type 0) (v : Draft) (place : ℕ) (said : Operands) (key : Key) (w : Lexeme) (r : Result DefItem Code) → (r ≡ Ok items.EndDesign → closes) → Kept closes (begun state_of def_format v place said key w (as_item v w r))
kept_begun closes v place said key w (Err code) end = tt
kept_begun closes v place said key w (Ok item) end = kept_item closes v item (record said { last = v.wiring.last; line = w.line }) key w (is_end item) refl (λ e. end (ap (λ x. Ok x) e))

kept_by : (s : State) (w : Lexeme) (item : Option DefItem) → s.item ≡ item → is_end_open item ≡ false → Kept (Closes s w) (by_item state_of def_format s.draft item s.place s.said (key_of w) w)
kept_by s w (Some item) at un = kept_inside (Closes s w) s.draft item s.place s.said (key_of w) w un
kept_by s w None at un = kept_begun (Closes s w) s.draft s.place s.said (key_of w) w (begins.begins s.draft (key_of w) w) (λ e. (at, e))

kept : (s : State) (w : Lexeme) → Inv s → Kept (Closes s w) (def_turn s w)
unfolding def_turn item_turn
kept s w inv = kept_by s w s.item refl inv

-- ---- so DESIGN behind END closes it, and there any other token is refused

end_key : (header : Header) (key : Key) → begins.end header key ≡ Ok items.EndDesign → key ≡ keys.Design
end_key header keys.Design is = refl
end_key header _ is = absurd cc

stage_by : (stage : Stage) (v : Draft) (key : Key) (w : Lexeme) (b : Bool) → is_end_of_file stage ≡ b → begins_in stage v key w ≡ Ok items.EndDesign → (is_end_of_file stage ≡ true) × (key ≡ keys.Design)
stage_by stages.EndOfFile v key w true e is = (refl, end_key v.header key is)
stage_by stage v key w true e is = absurd cc
stage_by stage v key w false e is = let g : is_end items.EndDesign ≡ false = subst Goes is (stage_goes stage v key w e) in absurd cc

closes_at : (v : Draft) (key : Key) (w : Lexeme) → begins.begins v key w ≡ Ok items.EndDesign → (is_end_of_file v.stage ≡ true) × (key ≡ keys.Design)
unfolding begins.begins
closes_at v key w is = stage_by v.stage v key w (is_end_of_file v.stage) refl is

-- in that stage a token closes the file or is refused
end_item : (v : Draft) (w : Lexeme) (r : Result DefItem Code) → ((item : DefItem) → r ≡ Ok item → item ≡ items.EndDesign) → (place : ℕ) (said : Operands) (key : Key) → Halts (begun state_of def_format v place said key w (as_item v w r))
end_item v w (Err code) only place said key = tt
end_item v w (Ok item) only place said key =
    subst Halts (sym (ap (λ x. inside state_of def_format v x 0 (record said { last = v.wiring.last; line = w.line }) key w) (only item refl) ∙ end_inside v (record said { last = v.wiring.last; line = w.line }) key w)) tt

only_by : (b : Bool) (item : DefItem) → cond b (Ok items.EndDesign) (Err E16) ≡ Ok item → item ≡ items.EndDesign
only_by true item is = cc
only_by false item is = absurd cc

only_end : (header : Header) (key : Key) (item : DefItem) → begins.end header key ≡ Ok item → item ≡ items.EndDesign
only_end header keys.Design item is = only_by (is_complete header) item is
only_end header _ item is = absurd cc

only_in : (stage : Stage) (v : Draft) (key : Key) (w : Lexeme) (item : DefItem) → is_end_of_file stage ≡ true → begins_in stage v key w ≡ Ok item → item ≡ items.EndDesign
only_in stages.EndOfFile v key w item e is = only_end v.header key item is
only_in _ v key w item e is = absurd cc

only : (v : Draft) (key : Key) (w : Lexeme) (item : DefItem) → is_end_of_file v.stage ≡ true → begins.begins v key w ≡ Ok item → item ≡ items.EndDesign
unfolding begins.begins
only v key w item e is = only_in v.stage v key w item e is

halts : (s : State) (w : Lexeme) → s.item ≡ None → is_end_of_file s.draft.stage ≡ true → Halts (def_turn s w)
unfolding def_turn item_turn
halts s w at e = rw at (end_item s.draft w (begins.begins s.draft (key_of w) w) (λ item is. only s.draft (key_of w) w item e is) s.place s.said (key_of w))

pub by_one_word : ByOneWord def_turn Inv
by_one_word = record {
  keeps_more = λ s t w inv does. subst (Kept (Closes s w)) does (kept s w inv);
  keeps_done = λ s t w inv does. subst (Kept (Closes s w)) does (kept s w inv);
  word = λ s t w inv does. let c : Closes s w = subst (Kept (Closes s w)) does (kept s w inv) in design_word w (closes_at s.draft (key_of w) w c.1).1;
  others = λ s t w v inv does. let c : Closes s w = subst (Kept (Closes s w)) does (kept s w inv) in halts s v c.0 (closes_at s.draft (key_of w) w c.1).0;
}
