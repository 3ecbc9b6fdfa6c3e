-- The ranges of what the parts of an item say.
use Rattle.std.proofs.Common.{◌≡◌, ◌+◌, ◌^◌, ◌≤◌, ℕ, ℤ, suc, zero, Bool, true, false, cond, List, [], ◌∷◌, ◌++◌, length, refl, ap, subst, arith}
use Rattle.std.proofs.lemmas.Bool.Decides.{nat_tests}
use Rattle.std.proofs.lemmas.Int.{ints}
use Rattle.std.proofs.lemmas.List.Elements.{All-nil, All-push}
use Rattle.std.specs.Prelude.{◌&&◌, ◌≤ℤ◌, pos, neg_ℤ, int_lt, nat_le, All, IfSome, Option, Some, None, Ok, Err, nat_lt, slice_get, option_map}
use Rattle.std.specs.List.{list_all}
use Rattle.std.specs.Str.Parse.{digits_value}
use Rattle.rc_fixed.specs.Numeral.{whole_of, is_digit, is_negative, without_sign}
use Rattle.rc_geom.specs.declared.rect.Pt.{Pt}
use Rattle.rc_geom.specs.Split.{IsCoordinate}
use Rattle.rc_keys.specs.declared.code.Code.{Code}
use Rattle.rc_keys.specs.declared.code.Code.TheVariants.{E03, E04}
use Rattle.rc_keys.specs.Lexemes.{Lexeme}
use Rattle.rc_wire.specs.declared.key.Key.{Key}
use Rattle.rc_wire.specs.declared.key.Key.TheVariants as keys
use Rattle.rc_wire.specs.declared.operands.Operands.{Operands}
use Rattle.rc_wire.specs.declared.part.Part.{Part}
use Rattle.rc_wire.specs.declared.part.Part.TheVariants as parts
use Rattle.rc_wire.specs.Forms.{IsLength, IsPoint}
use Rattle.rc_wire.specs.Items.{Either, Spelled, place_of}
use Rattle.rc_wire.specs.Keys.{is_name, is_quoted, is_orientation, key_of}
use Rattle.rc_wire.specs.Parts.{nothing, number_of, within, is_at_least_0, is_above_0, is_up_to_1024, with_number, with_extension, with_coordinate, from_last, last_x, last_y, passed, with_name, is_direction, is_divider, is_bus, due, as_due, take}

-- ---- numbers

pub last_and : (a b : Bool) → (a && b) ≡ true → b ≡ true
last_and true b e = e
last_and false b e = absurd cc

chosen : (test : Bool) (x z : ℤ) → cond test (Some x) None ≡ Some z → (test ≡ true) × (x ≡ z)
chosen true x z e = (refl, cc)
chosen false x z e = absurd cc

signed : (negative : Bool) (d : ℕ) → d ≤ 2 ^ 29 → IsCoordinate (cond negative (neg_ℤ (pos d)) (pos d))
signed true zero le = record { low = omega (arith, ints); high = omega (arith, ints) }
signed true (suc d) le = record { low = omega (arith, ints); high = omega (arith, ints) }
signed false d le = record { low = omega (arith, ints); high = omega (arith, ints) }

at_most : (a b : ℕ) → nat_le a b ≡ true → a ≤ b
at_most a b e = grind (arith, nat_tests)

near : (test : Bool) (d : ℕ) (negative : Bool) (z : ℤ) → cond (test && nat_le d (2 ^ 29)) (Some (cond negative (neg_ℤ (pos d)) (pos d))) None ≡ Some z → IsCoordinate z
near test d negative z e =
    let c = chosen (test && nat_le d (2 ^ 29)) (cond negative (neg_ℤ (pos d)) (pos d)) z e in
    subst IsCoordinate c.1 (signed negative d (at_most d (2 ^ 29) (last_and test (nat_le d (2 ^ 29)) c.0)))

whole_near : (text : List ℕ) (z : ℤ) → whole_of text ≡ Some z → IsCoordinate z
unfolding whole_of
whole_near text z e = near (nat_le 1 (length (without_sign text)) && list_all is_digit (without_sign text)) (digits_value 10 (without_sign text)) (is_negative text) z e

quoted_or : (quoted : Bool) (bytes : List ℕ) (z : ℤ) → cond quoted None (whole_of bytes) ≡ Some z → IsCoordinate z
quoted_or true bytes z e = absurd cc
quoted_or false bytes z e = whole_near bytes z e

pub number_near : (key : Key) (bytes : List ℕ) (z : ℤ) → number_of key bytes ≡ Some z → IsCoordinate z
number_near key bytes z e = quoted_or (is_quoted key) bytes z e

-- a number that passes a test
tested : (test : ℤ → Bool) (x z : ℤ) → within test (Some x) ≡ Some z → (test z ≡ true) × (x ≡ z)
tested test x z e = let c = chosen (test x) x z e in (subst (λ y. test y ≡ true) c.1 c.0, c.1)

pub passes : (test : ℤ → Bool) (n : Option ℤ) (z : ℤ) → within test n ≡ Some z → (test z ≡ true) × (n ≡ Some z)
passes test None z e = absurd cc
passes test (Some x) z e = let t = tested test x z e in (t.0, ap (λ y. Some y) t.1)

-- ---- what may stand in the place of a part

-- the numbers that a part may give
abbrev pub Number : Part → ℤ → Type 0
Number parts.Whole z = IsCoordinate z
Number parts.AtLeast0 z = IsLength z
Number parts.Above0 z = (pos 1 ≤ℤ z) × (z ≤ℤ pos (2 ^ 29))
Number parts.UpTo1024 z = (pos 1 ≤ℤ z) × (z ≤ℤ pos 1024)
Number parts.X z = IsCoordinate z
Number parts.Y z = IsCoordinate z
Number _ z = ⊥

pub least_0 : (z : ℤ) → is_at_least_0 z ≡ true → IsCoordinate z → IsLength z
least_0 z e c = record { low = grind (arith, ints); high = c.high }

over_0 : (z : ℤ) → is_above_0 z ≡ true → IsCoordinate z → (pos 1 ≤ℤ z) × (z ≤ℤ pos (2 ^ 29))
over_0 z e c = (grind (arith, ints), c.high)

both : (a b : Bool) → (a && b) ≡ true → (a ≡ true) × (b ≡ true)
both true b e = (refl, e)
both false b e = absurd cc

to_1024 : (z : ℤ) → is_up_to_1024 z ≡ true → (pos 1 ≤ℤ z) × (z ≤ℤ pos 1024)
to_1024 z e = let b = both (int_lt (pos 0) z) (int_lt z (pos 1025)) e in (grind (arith, ints), grind (arith, ints))

-- what is said: its numbers, the last point, and the extension
pub record Says (Q : ℤ → Type 0) (said : Operands) : Type 0 where
  pub numbers : All Q said.numbers
  pub last : IfSome said.last IsPoint
  pub extension : IfSome said.extension IsLength

module _ (Q : ℤ → Type 0) (before said : Operands) (s : Says Q before) where
  numbered : (n : Option ℤ) → ((z : ℤ) → n ≡ Some z → Q z) → with_number before n ≡ Ok said → Says Q said
  numbered None each is = absurd cc
  numbered (Some z) each is =
      let e : record before { numbers = before.numbers ++ z ∷ [] } ≡ said = cc in
      subst (λ o. Says Q o) e (record { numbers = All-push Q before.numbers z s.numbers (each z refl); last = s.last; extension = s.extension })

  extended : (n : Option ℤ) → ((z : ℤ) → n ≡ Some z → IsLength z) → with_extension before n ≡ Ok said → Says Q said
  extended None each is = absurd cc
  extended (Some z) each is =
      let e : record before { extension = Some z } ≡ said = cc in
      subst (λ o. Says Q o) e (record { numbers = s.numbers; last = s.last; extension = each z refl })

  by_last : (last : Option ℤ) → IfSome last Q → from_last before last ≡ Ok said → Says Q said
  by_last None near is = absurd cc
  by_last (Some z) near is = numbered (Some z) (λ y e. let f : z ≡ y = cc in subst Q f near) is

  placed : (last : Option ℤ) (key : Key) (bytes : List ℕ) → ((z : ℤ) → IsCoordinate z → Q z) → IfSome last Q → with_coordinate before last key bytes ≡ Ok said → Says Q said
  placed last keys.Star bytes gives near is = by_last last near is
  placed last key bytes gives near is = numbered (number_of key bytes) (λ z e. gives z (number_near key bytes z e)) is

  kept : before ≡ said → Says Q said
  kept e = subst (λ o. Says Q o) e s

  counted_not : (n : Option ℤ) → passed before n ≡ Ok said → Says Q said
  counted_not None is = absurd cc
  counted_not (Some z) is = kept cc

  waited : (code : Option Code) → as_due before code ≡ Ok said → Says Q said
  waited None is = kept cc
  waited (Some code) is = absurd cc

  -- a part that says no number
  other : (test : Bool) (o : Operands) (code : Code) → o.numbers ≡ before.numbers → o.last ≡ before.last → o.extension ≡ before.extension → cond test (Ok o) (Err code) ≡ Ok said → Says Q said
  other true o code n l x is =
      let e : o ≡ said = cc in
      subst (λ o. Says Q o) e (record { numbers = rw n s.numbers; last = rw l s.last; extension = rw x s.extension })
  other false o code n l x is = absurd cc

  quoted : (test is_one : Bool) (bytes : List ℕ) → cond test (cond is_one (Ok (record before { name = bytes })) (Err E04)) (Err E03) ≡ Ok said → Says Q said
  quoted true is_one bytes is = other is_one (record before { name = bytes }) E04 refl refl refl is
  quoted false is_one bytes is = absurd cc

pub of_x : (Q : ℤ → Type 0) (last : Option Pt) → ((z : ℤ) → IsCoordinate z → Q z) → IfSome last IsPoint → IfSome (option_map (λ (p : Pt). p.x) last) Q
of_x Q None gives near = tt
of_x Q (Some p) gives near = gives p.x near.x

pub of_y : (Q : ℤ → Type 0) (last : Option Pt) → ((z : ℤ) → IsCoordinate z → Q z) → IfSome last IsPoint → IfSome (option_map (λ (p : Pt). p.y) last) Q
of_y Q None gives near = tt
of_y Q (Some p) gives near = gives p.y near.y

pub took : (Q : ℤ → Type 0) (part : Part) (before said : Operands) (key : Key) (bytes : List ℕ) → ((z : ℤ) → Number part z → Q z) → take part before key bytes ≡ Ok said → Says Q before → Says Q said
unfolding take
took Q parts.Name before said key bytes gives is s = other Q before said s (is_name key) (with_name parts.Name before key bytes) E03 refl refl refl is
took Q parts.SecondName before said key bytes gives is s = other Q before said s (is_name key) (with_name parts.SecondName before key bytes) E03 refl refl refl is
took Q parts.ThirdName before said key bytes gives is s = other Q before said s (is_name key) (with_name parts.ThirdName before key bytes) E03 refl refl refl is
took Q parts.Choice before said key bytes gives is s = other Q before said s (is_name key) (with_name parts.Choice before key bytes) E03 refl refl refl is
took Q parts.Orientation before said key bytes gives is s = other Q before said s (is_orientation key) (record before { chosen = key }) E03 refl refl refl is
took Q parts.Direction before said key bytes gives is s = other Q before said s (is_direction key) (record before { chosen = key }) E03 refl refl refl is
took Q parts.Whole before said key bytes gives is s = numbered Q before said s (number_of key bytes) (λ z e. gives z (number_near key bytes z e)) is
took Q parts.Passed before said key bytes gives is s = counted_not Q before said s (number_of key bytes) is
took Q parts.AtLeast0 before said key bytes gives is s =
    numbered Q before said s (within is_at_least_0 (number_of key bytes)) (λ z e. let p = passes is_at_least_0 (number_of key bytes) z e in gives z (least_0 z p.0 (number_near key bytes z p.1))) is
took Q parts.Above0 before said key bytes gives is s =
    numbered Q before said s (within is_above_0 (number_of key bytes)) (λ z e. let p = passes is_above_0 (number_of key bytes) z e in gives z (over_0 z p.0 (number_near key bytes z p.1))) is
took Q parts.UpTo1024 before said key bytes gives is s =
    numbered Q before said s (within is_up_to_1024 (number_of key bytes)) (λ z e. let p = passes is_up_to_1024 (number_of key bytes) z e in gives z (to_1024 z p.0)) is
took Q parts.X before said key bytes gives is s = placed Q before said s (last_x before) key bytes gives (of_x Q before.last gives s.last) is
took Q parts.Y before said key bytes gives is s = placed Q before said s (last_y before) key bytes gives (of_y Q before.last gives s.last) is
took Q parts.Extension before said key bytes gives is s =
    extended Q before said s (within is_at_least_0 (number_of key bytes)) (λ z e. let p = passes is_at_least_0 (number_of key bytes) z e in least_0 z p.0 (number_near key bytes z p.1)) is
took Q parts.Divider before said key bytes gives is s = quoted Q before said s (is_quoted key) (is_divider bytes) bytes is
took Q parts.BusBits before said key bytes gives is s = quoted Q before said s (is_quoted key) (is_bus bytes) bytes is
took Q part before said key bytes gives is s = waited Q before said s (due part key) is

-- ---- items

-- each part of a form gives such numbers alone
abbrev pub Gives : (ℤ → Type 0) → List Part → Type 0
Gives Q [] = Unit {0}
Gives Q (part ∷ parts) = ((z : ℤ) → Number part z → Q z) × Gives Q parts

given_at : (Q : ℤ → Type 0) (form : List Part) (place : ℕ) (part : Part) → Gives Q form → slice_get form place ≡ Some part → (z : ℤ) → Number part z → Q z
given_at Q [] place part g is = absurd cc
given_at Q (head ∷ form) zero part g is = let e : head ≡ part = cc in subst (λ p. (z : ℤ) → Number p z → Q z) e g.0
given_at Q (head ∷ form) (suc place) part g is = given_at Q form place part g.1 is

-- behind a part the form goes on, or ends
behind : (Q : ℤ → Type 0) (form : List Part) (words : List Lexeme) (next : ℕ) (said after : Operands) → (Spelled form next said words after → Says Q said → Says Q after) → (b : Bool) → Either b (Spelled form next said words after) ((words ≡ []) × (said ≡ after)) → Says Q said → Says Q after
behind Q form words next said after again true spells s = again spells s
behind Q form words next said after again false (none, same) s = subst (λ o. Says Q o) same s

spelled : (Q : ℤ → Type 0) (form : List Part) → Gives Q form → (words : List Lexeme) (place : ℕ) (before after : Operands) → Spelled form place before words after → Says Q before → Says Q after
spelled Q form g [] place before after spells s = absurd spells
spelled Q form g (word ∷ words) place before after (part, said, is, takes, more) s =
    let next : ℕ = place_of form place (key_of word) + 1 in
    behind Q form words next said after (λ spells t. spelled Q form g words next said after spells t) (nat_lt next (length form)) more
    (took Q part before said (key_of word) word.bytes (given_at Q form (place_of form place (key_of word)) part g is) takes s)

-- before an item nothing is said but the last point
abbrev pub start : Option Pt → ℕ → Operands
start last line = record nothing { last = last; line = line }

-- what an item says
pub item_says : (Q : ℤ → Type 0) (form : List Part) (last : Option Pt) (line : ℕ) (words : List Lexeme) (after : Operands) → Gives Q form → IfSome last IsPoint → Spelled form 0 (start last line) words after → Says Q after
item_says Q form last line words after g near spells = spelled Q form g words 0 (start last line) after spells (record { numbers = All-nil Q; last = near; extension = tt })
