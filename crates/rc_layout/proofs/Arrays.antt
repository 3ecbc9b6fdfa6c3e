-- The array of a via by its ten numbers.
use Rattle.std.proofs.Common.{◌≡◌, ℕ, ℤ, pos, negsuc, ◌<◌, ◌^◌, List, [], ◌∷◌, refl, sym, ap, subst, arith}
use Rattle.std.specs.Prelude.{Option, Some, None, option_map, unsigned_abs}
use Rattle.std.proofs.lemmas.Int.{ints}
use Rattle.rc_wire.specs.Forms.{IsLength}
use Rattle.rc_def.specs.Forms.{IsCount, IsMade, IsWidth}
use Rattle.rc_layout.specs.declared.own_via.Sizes.{Sizes}
use Rattle.rc_layout.specs.Entries.{array_of}
use Rattle.rc_layout.specs.Sizes.{array_from, sizes_in, AreSizes}

pub by_sizes : (k : ℕ) (numbers : List ℤ) (sizes : Option Sizes) → sizes ≡ sizes_in numbers → option_map (array_from k) sizes ≡ array_of k numbers
by_sizes k (cx ∷ cy ∷ sx ∷ sy ∷ bx ∷ by ∷ tx ∷ ty ∷ rows ∷ columns ∷ []) sizes e = rw e refl
by_sizes k [] sizes e = rw e refl
by_sizes k (a ∷ []) sizes e = rw e refl
by_sizes k (a ∷ b ∷ []) sizes e = rw e refl
by_sizes k (a ∷ b ∷ c ∷ []) sizes e = rw e refl
by_sizes k (a ∷ b ∷ c ∷ d ∷ []) sizes e = rw e refl
by_sizes k (a ∷ b ∷ c ∷ d ∷ f ∷ []) sizes e = rw e refl
by_sizes k (a ∷ b ∷ c ∷ d ∷ f ∷ g ∷ []) sizes e = rw e refl
by_sizes k (a ∷ b ∷ c ∷ d ∷ f ∷ g ∷ h ∷ []) sizes e = rw e refl
by_sizes k (a ∷ b ∷ c ∷ d ∷ f ∷ g ∷ h ∷ i ∷ []) sizes e = rw e refl
by_sizes k (a ∷ b ∷ c ∷ d ∷ f ∷ g ∷ h ∷ i ∷ j ∷ []) sizes e = rw e refl
by_sizes k (a ∷ b ∷ c ∷ d ∷ f ∷ g ∷ h ∷ i ∷ j ∷ l ∷ m ∷ ns) sizes e = rw e refl

wide_is : (z : ℤ) → IsWidth z → IsLength z
wide_is z is = let low = is.low in record { low = omega (arith, ints); high = is.high }

abbrev got : Sizes → Option Sizes → Sizes
got d (Some s) = s
got d None = d

pub are_sizes : (numbers : List ℤ) (sizes : Sizes) → Some sizes ≡ sizes_in numbers → IsMade numbers → AreSizes sizes
are_sizes (cx ∷ cy ∷ sx ∷ sy ∷ bx ∷ by ∷ tx ∷ ty ∷ rows ∷ columns ∷ []) sizes e is =
    let here : sizes ≡ record { cut_x = cx; cut_y = cy; space_x = sx; space_y = sy; first_x = bx; first_y = by; third_x = tx; third_y = ty; rows = rows; columns = columns } = ap (got sizes) e in
    subst AreSizes (sym here) (record {
      cut_x = wide_is cx is.0;
      cut_y = wide_is cy is.1;
      space_x = is.2;
      space_y = is.3;
      first_x = is.4;
      first_y = is.5;
      third_x = is.6;
      third_y = is.7;
      rows = is.8;
      columns = is.9;
    })
are_sizes [] sizes e is = absurd is
are_sizes (a ∷ []) sizes e is = absurd is
are_sizes (a ∷ b ∷ []) sizes e is = absurd is
are_sizes (a ∷ b ∷ c ∷ []) sizes e is = absurd is
are_sizes (a ∷ b ∷ c ∷ d ∷ []) sizes e is = absurd is
are_sizes (a ∷ b ∷ c ∷ d ∷ f ∷ []) sizes e is = absurd is
are_sizes (a ∷ b ∷ c ∷ d ∷ f ∷ g ∷ []) sizes e is = absurd is
are_sizes (a ∷ b ∷ c ∷ d ∷ f ∷ g ∷ h ∷ []) sizes e is = absurd is
are_sizes (a ∷ b ∷ c ∷ d ∷ f ∷ g ∷ h ∷ i ∷ []) sizes e is = absurd is
are_sizes (a ∷ b ∷ c ∷ d ∷ f ∷ g ∷ h ∷ i ∷ j ∷ []) sizes e is = absurd is
are_sizes (a ∷ b ∷ c ∷ d ∷ f ∷ g ∷ h ∷ i ∷ j ∷ l ∷ m ∷ ns) sizes e is = absurd is

pub few_are : (z : ℤ) → IsCount z → unsigned_abs z < 2 ^ 16
few_are (pos n) is = let high = is.high in omega (arith, ints)
few_are (negsuc n) is = let low = is.low in absurd (omega (arith, ints))
