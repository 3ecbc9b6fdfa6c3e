-- How many numbers an item says.
use Rattle.std.proofs.Common.{◌≡◌, ◌∙◌, ◌+◌, ℕ, ℤ, Bool, true, false, cond, List, [], ◌∷◌, ◌++◌, length, refl, ap, sym, subst}
use Rattle.std.proofs.lemmas.List.Elements.{All-head}
use Rattle.std.specs.Prelude.{All, IfSome, Option, Some, None, Ok, Err, nat_lt, slice_get}
use Rattle.rc_geom.specs.declared.rect.Pt.{Pt}
use Rattle.rc_geom.specs.Split.{IsCoordinate}
use Rattle.rc_keys.specs.declared.code.Code.{Code}
use Rattle.rc_keys.specs.Lexemes.{Lexeme}
use Rattle.rc_wire.specs.declared.item.PathItem.TheVariants as items
use Rattle.rc_wire.specs.declared.key.Key.{Key}
use Rattle.rc_wire.specs.declared.key.Key.TheVariants as keys
use Rattle.rc_wire.specs.declared.operands.Operands.{Operands}
use Rattle.rc_wire.specs.declared.part.Part.{Part}
use Rattle.rc_wire.specs.declared.part.Part.TheVariants as parts
use Rattle.rc_wire.specs.declared.part.When.TheVariants as whens
use Rattle.rc_wire.specs.Forms.{IsLength, IsPoint}
use Rattle.rc_wire.specs.Items.{Either, Spelled}
use Rattle.rc_wire.specs.Keys.{is_name, key_of}
use Rattle.rc_wire.specs.Parts.{starts, past, number_of, within, is_at_least_0, with_number, with_extension, with_coordinate, from_last, last_x, last_y, with_name, due, as_due, take}
use Rattle.rc_wire.specs.Paths.{form_of}
use Rattle.rc_wire.proofs.Ranges.{Says, start, passes, least_0, number_near, of_x, of_y}

-- ---- none

pub nothing_in : (numbers : List ℤ) → All (λ (z : ℤ). ⊥) numbers → numbers ≡ []
nothing_in [] all = refl
nothing_in (z ∷ numbers) all = absurd (All-head (λ (z : ℤ). ⊥) z numbers all)

pub no_numbers : (said : Operands) → Says (λ (z : ℤ). ⊥) said → said.numbers ≡ []
no_numbers said s = nothing_in said.numbers s.numbers

-- ---- the parts

pub as_part : (p part : Part) (before said : Operands) (key : Key) (bytes : List ℕ) → Some p ≡ Some part → take part before key bytes ≡ Ok said → take p before key bytes ≡ Ok said
as_part p part before said key bytes e t = let f : p ≡ part = cc in subst (λ q. take q before key bytes ≡ Ok said) (sym f) t

pub accepted : (test : Bool) (x said : Operands) (code : Code) → cond test (Ok x) (Err code) ≡ Ok said → x ≡ said
accepted true x said code e = cc
accepted false x said code e = absurd cc

name_took : (before said : Operands) (key : Key) (bytes : List ℕ) → take parts.Name before key bytes ≡ Ok said → said.numbers ≡ before.numbers
unfolding take
name_took before said key bytes e = ap (λ (o : Operands). o.numbers) (sym (accepted (is_name key) (with_name parts.Name before key bytes) said _ e))

pub waited : (before said : Operands) (code : Option Code) → as_due before code ≡ Ok said → before ≡ said
waited before said None e = cc
waited before said (Some code) e = absurd cc

first_took : (before said : Operands) (key : Key) (bytes : List ℕ) → take parts.First before key bytes ≡ Ok said → before ≡ said
unfolding take
first_took before said key bytes e = waited before said (due parts.First key) e

close_took : (before said : Operands) (key : Key) (bytes : List ℕ) → take parts.Close before key bytes ≡ Ok said → said.numbers ≡ before.numbers
unfolding take
close_took before said key bytes e = ap (λ (o : Operands). o.numbers) (sym (waited before said (due parts.Close key) e))

extended : (before said : Operands) (n : Option ℤ) → with_extension before n ≡ Ok said → said.numbers ≡ before.numbers
extended before said None e = absurd cc
extended before said (Some z) e = let f : record before { extension = Some z } ≡ said = cc in ap (λ (o : Operands). o.numbers) (sym f)

extension_took : (before said : Operands) (key : Key) (bytes : List ℕ) → take parts.Extension before key bytes ≡ Ok said → said.numbers ≡ before.numbers
unfolding take
extension_took before said key bytes e = extended before said (within is_at_least_0 (number_of key bytes)) e

-- one number more
pub record OneMore (P : ℤ → Type 0) (before said : Operands) : Type 0 where
  pub number : ℤ
  pub is : P number
  pub numbers : said.numbers ≡ before.numbers ++ number ∷ []
  pub last : said.last ≡ before.last

numbered : (P : ℤ → Type 0) (before said : Operands) (n : Option ℤ) → ((z : ℤ) → n ≡ Some z → P z) → with_number before n ≡ Ok said → OneMore P before said
numbered P before said None each e = absurd cc
numbered P before said (Some z) each e =
    let f : record before { numbers = before.numbers ++ z ∷ [] } ≡ said = cc in
    record { number = z; is = each z refl; numbers = ap (λ (o : Operands). o.numbers) (sym f); last = ap (λ (o : Operands). o.last) (sym f) }

by_last : (before said : Operands) (last : Option ℤ) → IfSome last IsCoordinate → from_last before last ≡ Ok said → OneMore IsCoordinate before said
by_last before said None near e = absurd cc
by_last before said (Some z) near e = numbered IsCoordinate before said (Some z) (λ y same. let f : z ≡ y = cc in subst IsCoordinate f near) e

placed : (before said : Operands) (last : Option ℤ) (key : Key) (bytes : List ℕ) → IfSome last IsCoordinate → with_coordinate before last key bytes ≡ Ok said → OneMore IsCoordinate before said
placed before said last keys.Star bytes near e = by_last before said last near e
placed before said last key bytes near e = numbered IsCoordinate before said (number_of key bytes) (number_near key bytes) e

least_took : (before said : Operands) (key : Key) (bytes : List ℕ) → take parts.AtLeast0 before key bytes ≡ Ok said → OneMore IsLength before said
unfolding take
least_took before said key bytes e =
    numbered IsLength before said (within is_at_least_0 (number_of key bytes)) (λ z is. let p = passes is_at_least_0 (number_of key bytes) z is in least_0 z p.0 (number_near key bytes z p.1)) e

x_took : (before said : Operands) (key : Key) (bytes : List ℕ) → IfSome before.last IsPoint → take parts.X before key bytes ≡ Ok said → OneMore IsCoordinate before said
unfolding take
x_took before said key bytes near e = placed before said (last_x before) key bytes (of_x IsCoordinate before.last (λ z h. h) near) e

y_took : (before said : Operands) (key : Key) (bytes : List ℕ) → IfSome before.last IsPoint → take parts.Y before key bytes ≡ Ok said → OneMore IsCoordinate before said
unfolding take
y_took before said key bytes near e = placed before said (last_y before) key bytes (of_y IsCoordinate before.last (λ z h. h) near) e

-- ---- a layer and a width

abbrev pub One : Operands → Type 0
One said = (z : ℤ) × (said.numbers ≡ z ∷ []) × IsLength z

of_one : (before said : Operands) → before.numbers ≡ [] → OneMore IsLength before said → One said
of_one before said none m = (m.number, m.numbers ∙ ap (λ (list : List ℤ). list ++ m.number ∷ []) none, m.is)

width_last : (words : List Lexeme) (before said : Operands) → before.numbers ≡ [] → Spelled (form_of items.WideLayer) 1 before words said → One said
unfolding form_of
width_last [] before said none spells = absurd spells
width_last (word ∷ words) before said none (part, mid, is, takes, more) =
    subst One more.1 (of_one before mid none (least_took before mid (key_of word) word.bytes (as_part parts.AtLeast0 part before mid (key_of word) word.bytes is takes)))

pub one_number : (last : Option Pt) (line : ℕ) (words : List Lexeme) (said : Operands) → Spelled (form_of items.WideLayer) 0 (start last line) words said → One said
unfolding form_of
one_number last line [] said spells = absurd spells
one_number last line (word ∷ words) said (part, mid, is, takes, more) =
    width_last words mid said (name_took (start last line) mid (key_of word) word.bytes (as_part parts.Name part (start last line) mid (key_of word) word.bytes is takes)) more

-- behind NEW

next_last : (words : List Lexeme) (before said : Operands) → before.numbers ≡ [] → Spelled (form_of items.WideNext) 2 before words said → One said
unfolding form_of
next_last [] before said none spells = absurd spells
next_last (word ∷ words) before said none (part, mid, is, takes, more) =
    subst One more.1 (of_one before mid none (least_took before mid (key_of word) word.bytes (as_part parts.AtLeast0 part before mid (key_of word) word.bytes is takes)))

next_name : (words : List Lexeme) (before said : Operands) → before.numbers ≡ [] → Spelled (form_of items.WideNext) 1 before words said → One said
unfolding form_of
next_name [] before said none spells = absurd spells
next_name (word ∷ words) before said none (part, mid, is, takes, more) =
    next_last words mid said (name_took before mid (key_of word) word.bytes (as_part parts.Name part before mid (key_of word) word.bytes is takes) ∙ none) more

pub one_number_behind : (last : Option Pt) (line : ℕ) (words : List Lexeme) (said : Operands) → Spelled (form_of items.WideNext) 0 (start last line) words said → One said
unfolding form_of
one_number_behind last line [] said spells = absurd spells
one_number_behind last line (word ∷ words) said (part, mid, is, takes, more) =
    let e = first_took (start last line) mid (key_of word) word.bytes (as_part parts.First part (start last line) mid (key_of word) word.bytes is takes) in
    next_name words mid said (ap (λ (o : Operands). o.numbers) (sym e)) more

-- ---- a point

point_closes : (words : List Lexeme) (before said : Operands) → Spelled (form_of items.Point) 5 before words said → said.numbers ≡ before.numbers
unfolding form_of
point_closes [] before said spells = absurd spells
point_closes (word ∷ words) before said (part, mid, is, takes, more) =
    ap (λ (o : Operands). o.numbers) (sym more.1) ∙ close_took before mid (key_of word) word.bytes (as_part parts.Close part before mid (key_of word) word.bytes is takes)

-- behind x and y, an extension or none
abbrev behind_y : Bool → Key → ℕ
behind_y b key = past (form_of items.Point) (cond b 4 5) key

abbrev AtEnd : Bool → Operands → Lexeme → List Lexeme → Operands → Type 0
AtEnd b before word words said =
    (part : Part) × (mid : Operands) × (slice_get (form_of items.Point) (behind_y b (key_of word)) ≡ Some part) × (take part before (key_of word) word.bytes ≡ Ok mid)
    × Either (nat_lt (behind_y b (key_of word) + 1) (length (form_of items.Point))) (Spelled (form_of items.Point) (behind_y b (key_of word) + 1) mid words said) ((words ≡ []) × (mid ≡ said))

at_end : (b : Bool) (before said : Operands) (word : Lexeme) (words : List Lexeme) → AtEnd b before word words said → said.numbers ≡ before.numbers
unfolding form_of
at_end true before said word words (part, mid, is, takes, more) =
    point_closes words mid said more ∙ extension_took before mid (key_of word) word.bytes (as_part parts.Extension part before mid (key_of word) word.bytes is takes)
at_end false before said word words (part, mid, is, takes, more) =
    ap (λ (o : Operands). o.numbers) (sym more.1) ∙ close_took before mid (key_of word) word.bytes (as_part parts.Close part before mid (key_of word) word.bytes is takes)

point_ends : (words : List Lexeme) (before said : Operands) → Spelled (form_of items.Point) 3 before words said → said.numbers ≡ before.numbers
unfolding form_of
point_ends [] before said spells = absurd spells
point_ends (word ∷ words) before said spells = at_end (starts whens.Extension (key_of word)) before said word words spells

-- the numbers of a point, and those before them
abbrev pub Two : Operands → Type 0
Two said = (x : ℤ) × (y : ℤ) × (said.numbers ≡ x ∷ y ∷ []) × IsCoordinate x × IsCoordinate y

of_two : (first second said : Operands) (x : ℤ) → first.numbers ≡ x ∷ [] → IsCoordinate x → OneMore IsCoordinate first second → said.numbers ≡ second.numbers → Two said
of_two first second said x one near m same = (x, m.number, same ∙ m.numbers ∙ ap (λ (list : List ℤ). list ++ m.number ∷ []) one, near, m.is)

point_y : (words : List Lexeme) (before said : Operands) (x : ℤ) → before.numbers ≡ x ∷ [] → IsCoordinate x → IfSome before.last IsPoint → Spelled (form_of items.Point) 2 before words said → Two said
unfolding form_of
point_y [] before said x one near last spells = absurd spells
point_y (word ∷ words) before said x one near last (part, mid, is, takes, more) =
    of_two before mid said x one near (y_took before mid (key_of word) word.bytes last (as_part parts.Y part before mid (key_of word) word.bytes is takes)) (point_ends words mid said more)

point_x : (words : List Lexeme) (before said : Operands) → before.numbers ≡ [] → IfSome before.last IsPoint → Spelled (form_of items.Point) 1 before words said → Two said
unfolding form_of
point_x [] before said none last spells = absurd spells
point_x (word ∷ words) before said none last (part, mid, is, takes, more) =
    let m = x_took before mid (key_of word) word.bytes last (as_part parts.X part before mid (key_of word) word.bytes is takes) in
    point_y words mid said m.number (m.numbers ∙ ap (λ (list : List ℤ). list ++ m.number ∷ []) none) m.is (subst (λ l. IfSome l IsPoint) (sym m.last) last) more

pub two_numbers : (last : Option Pt) (line : ℕ) (words : List Lexeme) (said : Operands) → IfSome last IsPoint → Spelled (form_of items.Point) 0 (start last line) words said → Two said
unfolding form_of
two_numbers last line [] said near spells = absurd spells
two_numbers last line (word ∷ words) said near (part, mid, is, takes, more) =
    let e = first_took (start last line) mid (key_of word) word.bytes (as_part parts.First part (start last line) mid (key_of word) word.bytes is takes) in
    point_x words mid said (ap (λ (o : Operands). o.numbers) (sym e)) (subst (λ (o : Operands). IfSome o.last IsPoint) e near) more
