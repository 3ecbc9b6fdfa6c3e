-- The numbers of a via's array, one by one.
use Rattle.std.specs.Prelude.{ℕ, ℤ, Option, Some, None, List, [], ◌∷◌}
use Rattle.rc_lef.specs.declared.usable.Array.{Array}
use Rattle.rc_wire.specs.Forms.{IsLength}
use Rattle.rc_def.specs.Forms.{IsCount}
use Rattle.rc_layout.specs.declared.own_via.Sizes.{Sizes}
use Rattle.rc_layout.specs.Units.{scaled}

abbrev pub sizes_in : List ℤ → Option Sizes
sizes_in (cx ∷ cy ∷ sx ∷ sy ∷ bx ∷ by ∷ tx ∷ ty ∷ rows ∷ columns ∷ []) =
    Some (record { cut_x = cx; cut_y = cy; space_x = sx; space_y = sy; first_x = bx; first_y = by; third_x = tx; third_y = ty; rows = rows; columns = columns })
sizes_in _ = None

abbrev pub array_from : ℕ → Sizes → Array
array_from k s = record {
  cut_x = scaled k s.cut_x;
  cut_y = scaled k s.cut_y;
  space_x = scaled k s.space_x;
  space_y = scaled k s.space_y;
  first_x = scaled k s.first_x;
  first_y = scaled k s.first_y;
  third_x = scaled k s.third_x;
  third_y = scaled k s.third_y;
  rows = s.rows;
  columns = s.columns;
}

pub record AreSizes (s : Sizes) : Type 0 where
  pub cut_x : IsLength s.cut_x
  pub cut_y : IsLength s.cut_y
  pub space_x : IsLength s.space_x
  pub space_y : IsLength s.space_y
  pub first_x : IsLength s.first_x
  pub first_y : IsLength s.first_y
  pub third_x : IsLength s.third_x
  pub third_y : IsLength s.third_y
  pub rows : IsCount s.rows
  pub columns : IsCount s.columns
