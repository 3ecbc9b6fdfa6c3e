-- Rules keep what is asked of a rater.
use Rattle.std.proofs.Common.{◌≡◌, ◌≤◌, ◌<◌, ◌-◌, ◌*◌, ◌+◌, ◌^◌, ℕ, false, List, [], ◌∷◌, length, refl, ap, arith}
use Rattle.std.proofs.lemmas.Bool.Decides.{nat_tests}
use Rattle.std.specs.Prelude.{Option, Some, None, nat_le, nat_lt, position, slice_index, slice_index_or}
use Rattle.std.specs.List.{All}
use Rattle.std.specs.Option.{option_map_or}
use Rattle.rc_geom.specs.Sums.{numbers}
use Rattle.rc_tally.specs.Amounts.{any_number}
use Rattle.rc_rules.specs.declared.layer.LayerValues.{LayerValues}
use Rattle.rc_rules.specs.Numbers.{IsNumber}
use Rattle.rc_rules.specs.Scales.{IsLength, IsScale, last_step}
use Rattle.rc_rules.specs.Raters.{KeepsRules}
use Rattle.rc_rules.specs.RuleFile.{RuleFile, IsLayer, HasRules}
use Rattle.rc_rules.specs.LookUp.{rates, width_row, distance_column, numbers_at, row_of, row_at, table_for, RatesAreSmall}
use Rattle.rc_rules.specs.Rising.{past_last, at_last}
use Rattle.rc_rules.specs.Looked.{cap_at, reach_at, rate_at, at_or}

some_length : (steps : List ℕ) → (steps ≡ [] → ⊥) → 1 ≤ length steps
some_length [] some = absurd (some refl)
some_length (x ∷ steps) some = omega arith

-- the last length is one
pub last_length : (steps : List ℕ) → (steps ≡ [] → ⊥) → IsScale steps → IsLength (last_step steps)
last_length steps some scale = let h = some_length steps some in scale.each (length steps - 1) 0 (omega (arith, h))

pub last_small : (steps : List ℕ) → IsScale steps → last_step steps ≤ 2 ^ 29
last_small steps scale = at_or (λ n. n ≤ 2 ^ 29) steps (length steps - 1) 0 (λ k d lt. (scale.each k d lt).1) (omega arith)

-- a width past the last one has the row of the last
capped_row : (steps : List ℕ) (thick : ℕ) → (steps ≡ [] → ⊥) → IsScale steps → last_step steps < thick → width_row steps thick ≡ width_row steps (last_step steps)
capped_row steps thick some scale less =
    rw (past_last steps thick scale.rising less, at_last steps some scale.rising) (omega arith)

-- a gap past the last distance has no column
no_column : (steps : List ℕ) (gap : ℕ) → IsScale steps → last_step steps < gap → position (λ step. nat_le gap step) steps ≡ None
no_column steps gap scale less =
    let e : nat_lt (length steps) (length steps) ≡ false = grind (arith, nat_tests) in
    rw (past_last steps gap scale.rising less, e) refl

pub rules_are_kept : (it : RuleFile) → KeepsRules (HasRules it) (rates it) numbers any_number
rules_are_kept it = record {
  cap_least = λ layer h. rw (cap_at it layer h.values h.block) (last_length h.values.widths h.sound.some_width h.sound.widths).0;
  cap_most = λ layer h. rw (cap_at it layer h.values h.block) (last_length h.values.widths h.sound.some_width h.sound.widths).1;
  reach_least = λ layer h. rw (reach_at it layer h.values h.block) (last_length h.values.distances h.sound.some_distance h.sound.distances).0;
  reach_most = λ layer h. rw (reach_at it layer h.values h.block) (last_length h.values.distances h.sound.some_distance h.sound.distances).1;
  capped = λ layer under over thick gap h less.
      let e = cap_at it layer h.values h.block in
      let same = capped_row h.values.widths thick h.sound.some_width h.sound.widths (rw e at less) in
      rw (rate_at it layer h.values under over thick gap h.block, rate_at it layer h.values under over ((rates it).cap layer) gap h.block, e)
      (ap (λ place. numbers_at h.values.distances (option_map_or (λ table. slice_index_or h.values.rows (table * length h.values.widths + place) []) (table_for h.values.pairs under over) []) (distance_column h.values.distances gap)) same);
  out_of_reach = λ layer under over thick gap h less.
      let e = reach_at it layer h.values h.block in
      rw (rate_at it layer h.values under over thick (Some gap) h.block, rate_at it layer h.values under over thick None h.block)
      (ap (numbers_at h.values.distances (row_of h.values under over thick)) (no_column h.values.distances gap h.sound.distances (rw e at less)));
  alone = λ layer under over thick h. rw (rate_at it layer h.values under over thick None h.block) refl;
  own = λ layer under over thick gap h. refl;
  share = λ layer under over thick gap h. refl;
}

-- ---- how large rates are

small_row : (rows : List (List ℕ)) (k : ℕ) → All (All IsNumber) rows → All IsNumber (slice_index_or rows k [])
small_row rows k all = at_or (All IsNumber) rows k [] all (λ j d lt. absurd (omega arith))

small_number : (row : List ℕ) (k : ℕ) → All IsNumber row → slice_index row k ≤ 10 ^ 17
small_number row k all = at_or IsNumber row k 0 all (omega arith)

small_looked : (values : LayerValues) (table : Option ℕ) (thick : ℕ) → IsLayer values → All IsNumber (option_map_or (row_at values thick) table [])
small_looked values (Some table) thick sound = small_row values.rows _ sound.rows
small_looked values None thick sound = λ j d lt. absurd (omega arith)

small_pair : (distances row : List ℕ) (column : Option ℕ) → All IsNumber row → ((numbers_at distances row column).0 < 2 ^ 57) × ((numbers_at distances row column).1 < 2 ^ 57)
small_pair distances row None all = let h = small_number row (2 * length distances) all in (omega (arith, h), omega arith)
small_pair distances row (Some k) all = let g = small_number row (2 * k) all in let h = small_number row (2 * k + 1) all in (omega (arith, g), omega (arith, h))

pub rates_are_small : RatesAreSmall
rates_are_small rules layer under over thick gap h =
    rw (rate_at rules layer h.values under over thick gap h.block)
    (small_pair h.values.distances (row_of h.values under over thick) (distance_column h.values.distances gap) (small_looked h.values (table_for h.values.pairs under over) thick h.sound))

pub ohm_is_small : (values : LayerValues) (k : ℕ) → IsLayer values → slice_index values.resistances k < 2 ^ 57
ohm_is_small values k sound = let h = small_number values.resistances k sound.resistances in omega (arith, h)
