-- The form of a design that was read.
use Rattle.std.proofs.Common.{◌≡◌, ◌+◌, ◌≤◌, ◌^◌, ℕ, ℤ, suc, false, List, length, ap, sym, subst, arith}
use Rattle.std.proofs.lemmas.Int.{ints}
use Rattle.std.proofs.lemmas.List.Elements.{All-nil}
use Rattle.std.specs.Prelude.{IfSome, Option, Some, None, Result, Ok, Err, pos, negsuc, unsigned_abs}
use Rattle.rc_keys.specs.declared.code.Code.{Code}
use Rattle.rc_keys.specs.declared.token.Mode.TheVariants as mode
use Rattle.rc_keys.specs.Course.{Turn}
use Rattle.rc_keys.specs.Lexemes.{Lexeme, words_of}
use Rattle.rc_keys.specs.Statements.{at_line}
use Rattle.rc_wire.specs.Forms.{IsRegular, IsSpecial}
use Rattle.rc_wire.specs.Items.{IsItem}
use Rattle.rc_wire.specs.Keys.{key_of}
use Rattle.rc_wire.proofs.Formed.{no_wiring}
use Rattle.rc_wire.proofs.Keeping.{Leaves, text_keeps}
use Rattle.rc_def.specs.declared.design.RawDesign.{RawDesign}
use Rattle.rc_def.specs.declared.draft.Draft.{Draft}
use Rattle.rc_def.specs.declared.draft.Units.{Units}
use Rattle.rc_def.specs.declared.item.DefItem.{DefItem}
use Rattle.rc_def.specs.Begins.{begins}
use Rattle.rc_def.specs.Drafts.{nothing_read, units_or_1, design_of}
use Rattle.rc_def.specs.File.{as_item, def_format}
use Rattle.rc_def.specs.Forms.{IsWidth, IsRawVia, IsRawRule, IsRawComp, IsRawPin, IsRawNet, IsRawDesign}
use Rattle.rc_def.specs.Sound.{IsSound}
use Rattle.rc_def.specs.Whole.{IsFile}
use Rattle.rc_def.proofs.Entries.{item_leaves}
use Rattle.rc_def.proofs.Fitting.{fits}
use Rattle.rc_def.proofs.Holding.{IsDraft, IsWide, IsAbove0, nothing_via, nothing_pin, nothing_net}
use Rattle.rc_def.proofs.Sized.{few_words}

-- a token that isn't refused begins that
begins_it : (v : Draft) (word : Lexeme) (r : Result DefItem Code) (item : DefItem) → as_item v word r ≡ Ok (Some item) → r ≡ Ok item
begins_it v word (Ok other) item e = cc
begins_it v word (Err code) item e = absurd cc

nothing_holds : IsDraft 0 nothing_read
nothing_holds = record {
  units_is = tt;
  lists_is = record { few = omega arith; vias = All-nil IsRawVia; rules = All-nil IsRawRule; comps = All-nil IsRawComp; pins = All-nil IsRawPin; specials = All-nil (IsRawNet IsSpecial); nets = All-nil (IsRawNet IsRegular) };
  via_is = nothing_via 0;
  widths_is = All-nil IsWide;
  at_is = tt;
  pin_is = nothing_pin;
  net_is = nothing_net 0;
  paths_is = λ e. absurd cc;
  wiring_is = no_wiring false 0;
  kind_is = λ e. absurd cc;
}

keeps : (line n : ℕ) (v : Draft) (words : List Lexeme) (turn : Turn Draft) → IsDraft n v → n + length words ≤ 2 ^ 30 → IsItem def_format line v words turn → Leaves IsDraft (n + length words) turn
keeps line n v words turn h le i =
    let b : begins v (key_of i.first) (at_line line i.first) ≡ Ok i.item = begins_it v (at_line line i.first) (begins v (key_of i.first) (at_line line i.first)) i.item i.begins in
    let e : length words ≡ suc (length i.others) = ap length i.parts in
    let more : n + 1 ≤ n + length words = omega arith in
    subst (λ t. Leaves IsDraft (n + length words) t) i.says
    (item_leaves n (n + length words) line v (key_of i.first) words i.said more le h i.item (fits v (key_of i.first) (at_line line i.first) i.item b) i.spells)

some : (units : Option Units) → IfSome units IsAbove0 → IsWidth (units_or_1 units).in_a_micron
some (Some units) is = is
some None is = record { low = omega (arith, ints); high = omega (arith, ints) }

size : (z : ℤ) → IsWidth z → (1 ≤ unsigned_abs z) × (unsigned_abs z ≤ 2 ^ 29)
size (pos n) w = let a = w.low in let b = w.high in (omega (arith, ints), omega (arith, ints))
size (negsuc n) w = let a = w.low in absurd (omega (arith, ints))

pub form_of_design : (text : List ℕ) (design : RawDesign) → length text ≤ 2 ^ 30 → IsFile (words_of mode.Lef text).words design → IsSound design → IsRawDesign design
unfolding design_of
form_of_design text design le file names =
    let few = few_words mode.Lef text in
    let k = text_keeps def_format IsDraft (2 ^ 30) keeps nothing_read file.read (words_of mode.Lef text).words nothing_holds (omega arith) file.text in
    let h : IsDraft k.0 file.read = k.2 in
    let l = h.lists_is in
    let u = size (units_or_1 file.read.header.units).in_a_micron (some file.read.header.units h.units_is) in
    let few_vias : length file.read.lists.vias ≤ 2 ^ 30 = (let f = l.few in let g = k.1 in omega arith) in
    let sound : IsSound (design_of file.read.header file.read.lists) = subst (λ d. IsSound d) file.says names in
    let is : IsRawDesign (design_of file.read.header file.read.lists) = record {
      names = sound;
      some_units = u.0;
      few_units = u.1;
      few_vias = few_vias;
      vias = l.vias;
      rules = l.rules;
      comps = l.comps;
      pins = l.pins;
      specials = l.specials;
      nets = l.nets;
    } in
    subst (λ d. IsRawDesign d) (sym file.says) is
