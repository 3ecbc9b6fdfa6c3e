-- Where unit squares come to in the eight orientations.
use Rattle.std.proofs.Common.{◌≡◌, ℤ, pos, ◌+ℤ◌, ◌-ℤ◌, ◌≤ℤ◌, ◌<ℤ◌, ap, arith}
use Rattle.std.specs.Prelude.{int_lt}
use Rattle.std.specs.Int.{int_max, int_min}
use Rattle.std.proofs.lemmas.Int.{ints, clamps}
use Rattle.std.proofs.lemmas.Bool.{and_parts}
use Rattle.rc_geom.specs.declared.rect.Pt.{Pt}
use Rattle.rc_geom.specs.declared.rect.Rect.{Rect}
use Rattle.rc_geom.specs.declared.orient.Orient.TheVariants as turns
use Rattle.rc_geom.specs.Orients.{spanned, unit_rect, MovesSquares, PlacesSquares}
use Rattle.rc_geom.proofs.Bounds.{lt_tells, covered, covers_from}

-- ---- one coordinate

-- where the unit from z to z + 1 begins after its ends were moved
abbrev start : (ℤ → ℤ) → ℤ → ℤ
start f z = int_min (f z) (f (z +ℤ pos 1))

-- units are moved to units, one to one, and those between two ends to those between the moved ends
record MovesUnits (f : ℤ → ℤ) : Type 0 where
  one : (z : ℤ) → int_max (f z) (f (z +ℤ pos 1)) ≡ start f z +ℤ pos 1
  low : (a b z : ℤ) → a ≤ℤ z → z <ℤ b → int_min (f a) (f b) ≤ℤ start f z
  high : (a b z : ℤ) → a ≤ℤ z → z <ℤ b → start f z <ℤ int_max (f a) (f b)
  from : (a b z : ℤ) → a <ℤ b → int_min (f a) (f b) ≤ℤ start f z → start f z <ℤ int_max (f a) (f b) → a ≤ℤ z
  to : (a b z : ℤ) → a <ℤ b → int_min (f a) (f b) ≤ℤ start f z → start f z <ℤ int_max (f a) (f b) → z <ℤ b
  once : (y z : ℤ) → start f y ≡ start f z → y ≡ z
  source : ℤ → ℤ
  onto : (y : ℤ) → start f (source y) ≡ y

abbrev kept : ℤ → ℤ
kept z = z

abbrev mirrored : ℤ → ℤ → ℤ
mirrored s z = s -ℤ z

keeps : MovesUnits kept
keeps = record {
  one = λ z. omega (arith, ints, clamps);
  low = λ a b z h k. omega (arith, ints, clamps);
  high = λ a b z h k. omega (arith, ints, clamps);
  from = λ a b z h k l. omega (arith, ints, clamps);
  to = λ a b z h k l. omega (arith, ints, clamps);
  once = λ y z h. omega (arith, ints, clamps);
  source = λ y. y;
  onto = λ y. omega (arith, ints, clamps);
}

mirrors : (s : ℤ) → MovesUnits (mirrored s)
mirrors s = record {
  one = λ z. omega (arith, ints, clamps);
  low = λ a b z h k. omega (arith, ints, clamps);
  high = λ a b z h k. omega (arith, ints, clamps);
  from = λ a b z h k l. omega (arith, ints, clamps);
  to = λ a b z h k l. omega (arith, ints, clamps);
  once = λ y z h. omega (arith, ints, clamps);
  source = λ y. s -ℤ y -ℤ pos 1;
  onto = λ y. omega (arith, ints, clamps);
}

-- ---- both

-- x and y are moved each by itself, or change over
abbrev straight : (ℤ → ℤ) → (ℤ → ℤ) → Pt → Pt
straight f g p = record { x = f p.x; y = g p.y }

abbrev crossed : (ℤ → ℤ) → (ℤ → ℤ) → Pt → Pt
crossed f g p = record { x = f p.y; y = g p.x }

-- a rectangle and a square by their corners
abbrev rect_by : (Pt → Pt) → Rect → Rect
rect_by move r = spanned (move (record { x = r.x0; y = r.y0 })) (move (record { x = r.x1; y = r.y1 }))

abbrev square_by : (Pt → Pt) → Pt → Pt
square_by move p = let r = rect_by move (unit_rect p) in record { x = r.x0; y = r.y0 }

pt_is : (p q : Pt) → p.x ≡ q.x → p.y ≡ q.y → p ≡ q
pt_is p q x y = λ i. record { x = x i; y = y i }

moves_straight : (f g : ℤ → ℤ) → MovesUnits f → MovesUnits g → MovesSquares (rect_by (straight f g)) (square_by (straight f g))
moves_straight f g of_f of_g = record {
  units = λ p i. record { x0 = start f p.x; y0 = start g p.y; x1 = of_f.one p.x i; y1 = of_g.one p.y i };
  inside = λ r p some.
      let both = and_parts (int_lt r.x0 r.x1) (int_lt r.y0 r.y1) some in
      let wide : r.x0 <ℤ r.x1 = lt_tells _ _ both.0 in
      let tall : r.y0 <ℤ r.y1 = lt_tells _ _ both.1 in (
        λ h. let c = covered r p h in covers_from (rect_by (straight f g) r) (square_by (straight f g) p) (record { left = of_f.low r.x0 r.x1 p.x c.left c.right; right = of_f.high r.x0 r.x1 p.x c.left c.right; below = of_g.low r.y0 r.y1 p.y c.below c.above; above = of_g.high r.y0 r.y1 p.y c.below c.above }),
        λ h. let c = covered (rect_by (straight f g) r) (square_by (straight f g) p) h in covers_from r p (record { left = of_f.from r.x0 r.x1 p.x wide c.left c.right; right = of_f.to r.x0 r.x1 p.x wide c.left c.right; below = of_g.from r.y0 r.y1 p.y tall c.below c.above; above = of_g.to r.y0 r.y1 p.y tall c.below c.above }),
      );
  once = λ p q h. pt_is p q (of_f.once p.x q.x (ap (λ (s : Pt). s.x) h)) (of_g.once p.y q.y (ap (λ (s : Pt). s.y) h));
  onto = λ q. (record { x = of_f.source q.x; y = of_g.source q.y }, λ i. record { x = of_f.onto q.x i; y = of_g.onto q.y i });
}

moves_crossed : (f g : ℤ → ℤ) → MovesUnits f → MovesUnits g → MovesSquares (rect_by (crossed f g)) (square_by (crossed f g))
moves_crossed f g of_f of_g = record {
  units = λ p i. record { x0 = start f p.y; y0 = start g p.x; x1 = of_f.one p.y i; y1 = of_g.one p.x i };
  inside = λ r p some.
      let both = and_parts (int_lt r.x0 r.x1) (int_lt r.y0 r.y1) some in
      let wide : r.x0 <ℤ r.x1 = lt_tells _ _ both.0 in
      let tall : r.y0 <ℤ r.y1 = lt_tells _ _ both.1 in (
        λ h. let c = covered r p h in covers_from (rect_by (crossed f g) r) (square_by (crossed f g) p) (record { left = of_f.low r.y0 r.y1 p.y c.below c.above; right = of_f.high r.y0 r.y1 p.y c.below c.above; below = of_g.low r.x0 r.x1 p.x c.left c.right; above = of_g.high r.x0 r.x1 p.x c.left c.right }),
        λ h. let c = covered (rect_by (crossed f g) r) (square_by (crossed f g) p) h in covers_from r p (record { left = of_g.from r.x0 r.x1 p.x wide c.below c.above; right = of_g.to r.x0 r.x1 p.x wide c.below c.above; below = of_f.from r.y0 r.y1 p.y tall c.left c.right; above = of_f.to r.y0 r.y1 p.y tall c.left c.right }),
      );
  once = λ p q h. pt_is p q (of_g.once p.x q.x (ap (λ (s : Pt). s.y) h)) (of_f.once p.y q.y (ap (λ (s : Pt). s.x) h));
  onto = λ q. (record { x = of_g.source q.y; y = of_f.source q.x }, λ i. record { x = of_f.onto q.x i; y = of_g.onto q.y i });
}

pub places_squares : PlacesSquares
places_squares turns.N w h = moves_straight kept kept keeps keeps
places_squares turns.S w h = moves_straight (mirrored w) (mirrored h) (mirrors w) (mirrors h)
places_squares turns.W w h = moves_crossed (mirrored h) kept (mirrors h) keeps
places_squares turns.E w h = moves_crossed kept (mirrored w) keeps (mirrors w)
places_squares turns.FN w h = moves_straight (mirrored w) kept (mirrors w) keeps
places_squares turns.FS w h = moves_straight kept (mirrored h) keeps (mirrors h)
places_squares turns.FW w h = moves_crossed kept kept keeps keeps
places_squares turns.FE w h = moves_crossed (mirrored h) (mirrored w) (mirrors h) (mirrors w)
