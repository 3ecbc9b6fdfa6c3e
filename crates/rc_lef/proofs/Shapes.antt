-- Lengths that are read lie in their ranges, and rectangles between such corners are shapes.
use Rattle.std.proofs.Common.{◌≡◌, ◌*◌, ◌≤◌, ◌^◌, ◌<ℤ◌, ◌≤ℤ◌, ℕ, ℤ, Bool, true, false, cond, List, [], ◌∷◌, refl, ap, arith}
use Rattle.std.specs.Prelude.{Option, Some, None, Result, Ok, Err, pos, neg_ℤ, nat_le, int_lt}
use Rattle.std.specs.Ordering.{int_eq}
use Rattle.std.specs.Int.{int_min, int_max}
use Rattle.std.proofs.lemmas.Int.{ints}
use Rattle.rc_fixed.specs.declared.fault.NumFault.TheVariants.{Form, TooLarge}
use Rattle.rc_fixed.specs.Numeral.{is_decimal, is_negative, numerator, denominator, nearest, signed_within, len_of}
use Rattle.rc_fixed.proofs.Tests.{nat_le_tells, int_lt_tells}
use Rattle.rc_geom.specs.Split.{IsCoordinate}
use Rattle.rc_geom.specs.declared.rect.Pt.{Pt}
use Rattle.rc_geom.specs.declared.rect.Rect.{Rect}
use Rattle.rc_keys.specs.declared.code.Code.{Code}
use Rattle.rc_keys.specs.declared.code.Code.TheVariants.{E05}
use Rattle.rc_keys.specs.Lexemes.{Lexeme}
use Rattle.rc_lef.specs.declared.units.Units.{Units}
use Rattle.rc_lef.specs.Keys.{key_of, is_quoted}
use Rattle.rc_lef.specs.Facts.{IsPoint, IsShape, IsWidth}
use Rattle.rc_lef.specs.Lengths.{in_a_micron, length_read, or_malformed, positive, not_negative}
use Rattle.rc_lef.specs.Numbers.{is_flat, box_between, rect_between}
use Rattle.rc_lef.specs.Phrases.{Part, Says, Are, Coordinate, Size, Distance}
use Rattle.rc_lef.proofs.SmallTests.{neither}

-- ---- lengths

signed_near : (t b : Bool) (n : ℕ) (z : ℤ) → nat_le n (2 ^ 29) ≡ t → or_malformed (cond t (Ok (cond b (neg_ℤ (pos n)) (pos n))) (Err TooLarge)) ≡ Ok z → IsCoordinate z
signed_near true true n z le is =
    let e : n ≤ 2 ^ 29 = nat_le_tells n (2 ^ 29) le in
    let s : neg_ℤ (pos n) ≡ z = cc in
    record { low = omega (arith, ints, e, s); high = omega (arith, ints, e, s) }
signed_near true false n z le is =
    let e : n ≤ 2 ^ 29 = nat_le_tells n (2 ^ 29) le in
    let s : pos n ≡ z = cc in
    record { low = omega (arith, ints, e, s); high = omega (arith, ints, e, s) }
signed_near false b n z le is = absurd cc

decimal_near : (d b : Bool) (n : ℕ) (z : ℤ) → or_malformed (cond d (signed_within b n) (Err Form)) ≡ Ok z → IsCoordinate z
decimal_near true b n z is = signed_near (nat_le n (2 ^ 29)) b n z refl is
decimal_near false b n z is = absurd cc

pub length_near : (units : Option Units) (text : List ℕ) (z : ℤ) → length_read units text ≡ Ok z → IsCoordinate z
unfolding length_read len_of
length_near None text z is = absurd cc
length_near (Some units) text z is = decimal_near (is_decimal text) (is_negative text) (nearest (numerator text * in_a_micron units) (denominator text)) z is

above_0 : (r : Result ℤ Code) (z : ℤ) → positive r ≡ Ok z → (r ≡ Ok z) × (pos 1 ≤ℤ z)
above_0 (Err code) z is = absurd cc
above_0 (Ok length) z is = let e = by (int_lt (pos 0) length) refl is in (ap (λ z. Ok z) e.0, e.1)
  where
    by : (t : Bool) → int_lt (pos 0) length ≡ t → cond t (Ok length) (Err E05) ≡ Ok z → (length ≡ z) × (pos 1 ≤ℤ z)
    by true lt same = let e : length ≡ z = cc in let f = int_lt_tells (pos 0) length lt in (e, omega (arith, ints, e, f))
    by false lt same = absurd cc

not_below : (z : ℤ) → int_lt z (pos 0) ≡ false → pos 0 ≤ℤ z
not_below z is = grind (arith, ints)

at_least_0 : (r : Result ℤ Code) (z : ℤ) → not_negative r ≡ Ok z → (r ≡ Ok z) × (pos 0 ≤ℤ z)
at_least_0 (Err code) z is = absurd cc
at_least_0 (Ok length) z is = let e = by (int_lt length (pos 0)) refl is in (ap (λ z. Ok z) e.0, e.1)
  where
    by : (t : Bool) → int_lt length (pos 0) ≡ t → cond t (Err E05) (Ok length) ≡ Ok z → (length ≡ z) × (pos 0 ≤ℤ z)
    by true lt same = absurd cc
    by false lt same = let e : length ≡ z = cc in (e, rw (← e) (not_below length lt))

pub width_near : (units : Option Units) (text : List ℕ) (z : ℤ) → positive (length_read units text) ≡ Ok z → IsWidth z
width_near units text z is = let e = above_0 (length_read units text) z is in let near = length_near units text z e.0 in (e.1, near.high)

-- ---- lengths of statements

unquoted : (q : Bool) (r : Result ℤ Code) (z : ℤ) → cond q (Err E05) r ≡ Ok z → r ≡ Ok z
unquoted true r z is = absurd cc
unquoted false r z is = is

pub coordinate_near : (units : Option Units) (z : ℤ) (word : Lexeme) → Says (Coordinate units z) word → IsCoordinate z
coordinate_near units z word is = length_near units word.bytes z (unquoted (is_quoted (key_of word)) (length_read units word.bytes) z is)

pub size_near : (units : Option Units) (z : ℤ) (word : Lexeme) → Says (Size units z) word → IsWidth z
size_near units z word is = width_near units word.bytes z (unquoted (is_quoted (key_of word)) (positive (length_read units word.bytes)) z is)

pub distance_near : (units : Option Units) (z : ℤ) (word : Lexeme) → Says (Distance units z) word → pos 0 ≤ℤ z
distance_near units z word is = (at_least_0 (length_read units word.bytes) z (unquoted (is_quoted (key_of word)) (not_negative (length_read units word.bytes)) z is)).1

-- the first part of a statement, and the others
pub head_said : (part : Part) (parts : List Part) (words : List Lexeme) → Are (part ∷ parts) words → (word : Lexeme) × Says part word
head_said part parts [] is = absurd is
head_said part parts (word ∷ words) is = (word, is.0)

pub tail_said : (part : Part) (parts : List Part) (words : List Lexeme) → Are (part ∷ parts) words → (rest : List Lexeme) × Are parts rest
tail_said part parts [] is = absurd is
tail_said part parts (word ∷ words) is = (words, is.1)

-- ---- rectangles

picked : (t : Bool) (a b : ℤ) → IsCoordinate a → IsCoordinate b → IsCoordinate (cond t a b)
picked true a b near_a near_b = near_a
picked false a b near_a near_b = near_b

ends_near : (a b : ℤ) → IsCoordinate a → IsCoordinate b → IsCoordinate (int_min a b) × IsCoordinate (int_max a b)
ends_near a b near_a near_b = (picked (int_lt b a) b a near_b near_a, picked (int_lt b a) a b near_a near_b)

ends_differ : (a b : ℤ) → int_eq a b ≡ false → int_min a b <ℤ int_max a b
ends_differ a b is = grind (arith, ints)

flat_or_not : (t : Bool) (p q : Pt) (r : Rect) → is_flat p q ≡ t → IsPoint p → IsPoint q → cond t None (Some (box_between p q)) ≡ Some r → IsShape r
flat_or_not true p q r flat near_p near_q is = absurd cc
flat_or_not false p q r flat near_p near_q is =
    let e : box_between p q ≡ r = cc in
    let sides = neither (int_eq p.x q.x) (int_eq p.y q.y) flat in
    let xs = ends_near p.x q.x near_p.x near_q.x in
    let ys = ends_near p.y q.y near_p.y near_q.y in
    rw (← e) (record { left = xs.0; below = ys.0; right = xs.1; above = ys.1; wide = ends_differ p.x q.x sides.0; high = ends_differ p.y q.y sides.1 })

pub shape_between : (p q : Pt) (r : Rect) → IsPoint p → IsPoint q → rect_between p q ≡ Some r → IsShape r
unfolding rect_between
shape_between p q r near_p near_q is = flat_or_not (is_flat p q) p q r refl near_p near_q is
