-- Sums of amounts: over numbers that are counted up, and over the squares of a rectangle.
use Rattle.std.specs.Prelude.{◌≡◌, ℕ, ℤ, pos, negsuc, zero, suc, ◌+◌, ◌+ℤ◌, ◌-ℤ◌, Bool, true, false, fold}
use Rattle.std.specs.List.{range_with_len}
use Rattle.rc_geom.specs.declared.rect.Rect.{Rect}
use Rattle.rc_geom.specs.Context.{layer_count}

-- amounts that can be added, and the one that stands for nothing
pub record Adding (V : Type 0) : Type 0 where
  pub none : V
  pub plus : V → V → V

-- among sound amounts, which sums don't leave, adding nothing changes nothing
pub record IsNeutral {V : Type 0} (adding : Adding V) (sound : V → Bool) : Type 0 where
  pub start : sound adding.none ≡ true
  pub closed : (a b : V) → sound a ≡ true → sound b ≡ true → sound (adding.plus a b) ≡ true
  pub before : (v : V) → sound v ≡ true → adding.plus adding.none v ≡ v
  pub after : (v : V) → sound v ≡ true → adding.plus v adding.none ≡ v

-- and the order and the grouping don't matter either
pub record IsAdditive {V : Type 0} (adding : Adding V) (sound : V → Bool) : Type 0 where
  pub neutral : IsNeutral adding sound
  pub swap : (a b : V) → sound a ≡ true → sound b ≡ true → adding.plus a b ≡ adding.plus b a
  pub regroup : (a b c : V) → sound a ≡ true → sound b ≡ true → sound c ≡ true →
      adding.plus (adding.plus a b) c ≡ adding.plus a (adding.plus b c)

-- plain numbers
abbrev pub numbers : Adding ℕ
numbers = record { none = 0; plus = λ a b. a + b }

-- f 0, f 1, .. f (n - 1), added in this order
unfoldable pub total : {V : Type 0} → Adding V → ℕ → (ℕ → V) → V
total adding n f = fold (λ sum k. adding.plus sum (f k)) adding.none (range_with_len 0 n)

-- a whole number; 0 where it is negative
abbrev pub natural : ℤ → ℕ
natural (pos n) = n
natural (negsuc _) = 0

-- how many whole numbers there are from lo to below hi
abbrev pub extent : ℤ → ℤ → ℕ
extent lo hi = natural (hi -ℤ lo)

-- f lo, f (lo + 1), .. f (hi - 1), added in this order
abbrev pub total_between : {V : Type 0} → Adding V → ℤ → ℤ → (ℤ → V) → V
total_between adding lo hi f = total adding (extent lo hi) (λ k. f (lo +ℤ pos k))

-- where the lines of an axis stand that cross a rectangle, and where they run in it
abbrev pub first_line : ℕ → Rect → ℤ
first_line zero r = r.y0
first_line (suc _) r = r.x0

abbrev pub end_line : ℕ → Rect → ℤ
end_line zero r = r.y1
end_line (suc _) r = r.x1

abbrev pub first_place : ℕ → Rect → ℤ
first_place zero r = r.x0
first_place (suc _) r = r.y0

abbrev pub end_place : ℕ → Rect → ℤ
end_place zero r = r.x1
end_place (suc _) r = r.y1

-- what both directions add at a place of a line
abbrev pub both_directions : {V : Type 0} → Adding V → (Bool → V) → V
both_directions adding f = adding.plus (f false) (f true)

-- what the squares of a rectangle add on a layer: by lines, by places, by directions
abbrev pub layer_sum : {V : Type 0} → Adding V → ℕ → Rect → (ℤ → ℤ → Bool → V) → V
layer_sum adding axis r f =
    total_between adding (first_line axis r) (end_line axis r) (λ at.
    total_between adding (first_place axis r) (end_place axis r) (λ along. both_directions adding (f at along)))

-- the same of all layers
abbrev pub square_sum : {V : Type 0} → Adding V → ℕ → Rect → (ℕ → ℤ → ℤ → Bool → V) → V
square_sum adding axis r f = total adding layer_count (λ layer. layer_sum adding axis r (f layer))
