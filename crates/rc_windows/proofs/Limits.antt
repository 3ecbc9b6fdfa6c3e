-- Sums of tiles within the limits.
use Rattle.std.proofs.Common.{◌<◌, ◌≤◌, ◌+◌, ◌*◌, ◌^◌, ℕ, zero, suc, List, length, arith}
use Rattle.std.specs.Prelude.{nat_le, All, Option}
use Rattle.std.proofs.lemmas.Bool.{lt-ltb, le-leb}
use Rattle.std.proofs.lemmas.Int.{ints}
use Rattle.std.proofs.lemmas.Nat.{mul-le}
use Rattle.std.proofs.lemmas.List.Elements.{All-weaker}
use Rattle.std.proofs.lemmas.List.Sums.{sum_by-le}
use Rattle.rc_geom.specs.declared.key.Key.{Key}
use Rattle.rc_geom.specs.declared.tile.Tile.{Tile}
use Rattle.rc_geom.specs.Rects.{IsNearRect}
use Rattle.rc_geom.specs.Plane.{plane_of}
use Rattle.rc_geom.specs.Rates.{Rates}
use Rattle.rc_geom.specs.Sums.{numbers, extent, first_line, end_line}
use Rattle.rc_geom.specs.Extraction.{count_in, value_in, key_value}
use Rattle.rc_geom.specs.Laws.{AmountsAreSound, line_count}
use Rattle.rc_geom.proofs.Totals.{extent_is}
use Rattle.rc_geom.proofs.Counts.{counts_are_bounded, values_follow_counts}
use Rattle.rc_geom.proofs.Entries.{sound_rates_suffice}
use Rattle.rc_tally.specs.Amounts.{any_number}
use Rattle.rc_rules.specs.Raters.{KeepsRules}
use Rattle.rc_rules.specs.RuleFile.{RuleFile, HasRules}
use Rattle.rc_rules.specs.LookUp.{rates}
use Rattle.rc_rules.specs.Kept.{rules_are_kept, rates_are_small}
use Rattle.rc_sweep.specs.declared.window.Window.{Window}
use Rattle.rc_sums.proofs.Counted.{metal_has}
use Rattle.rc_windows.specs.Sweeps.{AreSweepable}
use Rattle.rc_windows.specs.Indexes.{most_places}
use Rattle.rc_windows.specs.Laws.{LimitsSuffice}

-- ---- how many parts

few_lines : (axis : ℕ) (t : Tile) → IsNearRect t.rect → extent (first_line axis t.rect) (end_line axis t.rect) ≤ 2 ^ 30 + 2
few_lines zero t near = let is = extent_is t.rect.y0 t.rect.y1 (omega (arith, ints, near.high)) in omega (arith, ints, is, near.below, near.above)
few_lines (suc n) t near = let is = extent_is t.rect.x0 t.rect.x1 (omega (arith, ints, near.wide)) in omega (arith, ints, is, near.left, near.right)

lines_few : (axis : ℕ) (tiles : List Tile) → All (λ (t : Tile). IsNearRect t.rect) tiles → length tiles ≤ most_places → line_count axis tiles ≤ 2 ^ 27 * (2 ^ 30 + 2)
lines_few axis tiles near few =
    let each = sum_by-le (λ (t : Tile). extent (first_line axis t.rect) (end_line axis t.rect)) (2 ^ 30 + 2) tiles (All-weaker (λ (t : Tile). IsNearRect t.rect) (λ (t : Tile). extent (first_line axis t.rect) (end_line axis t.rect) ≤ 2 ^ 30 + 2) (few_lines axis) tiles near) in
    let all = mul-le (length tiles) (2 ^ 30 + 2) (2 ^ 27) (2 ^ 30 + 2) few (omega arith) in
    omega (arith, each, all)

few_parts : {V : Type 0} (has_rules : ℕ → Type 0) (rates : Rates V) (axis : ℕ) (window : Window) (tiles : List Tile) (key : Key) → AreSweepable has_rules tiles → length tiles ≤ most_places →
    count_in (plane_of tiles) rates axis window.rect key ≤ 2 ^ 60
few_parts has_rules rates axis window tiles key can few =
    let count = counts_are_bounded tiles rates axis window.rect key can.apart in
    let lines = lines_few axis tiles can.near few in
    omega (arith, count, lines)

-- ---- what they add up to

-- amounts of layers with rules are below 2^57
abbrev pub RatesAreSmall : (ℕ → Type 0) → Rates ℕ → Type 0
RatesAreSmall has_rules rates = (layer : ℕ) (under over : Option ℕ) (thick : ℕ) (gap : Option ℕ) → has_rules layer →
    ((rates.rate layer under over thick gap).0 < 2 ^ 57) × ((rates.rate layer under over thick gap).1 < 2 ^ 57)

small_amounts : (has_rules : ℕ → Type 0) (rates : Rates ℕ) (tiles : List Tile) → KeepsRules has_rules rates numbers any_number → RatesAreSmall has_rules rates → AreSweepable has_rules tiles → AmountsAreSound (λ v. nat_le v (2 ^ 57)) (λ v. v) (plane_of tiles) rates
small_amounts has_rules rates tiles keeps are_small can =
    let has = metal_has has_rules tiles can.rules in
    sound_rates_suffice (λ v. nat_le v (2 ^ 57)) (λ v. v) (plane_of tiles) rates (λ layer p metal. keeps.cap_least layer (has layer p metal))
    (λ layer p under over thick gap metal _ _ _.
    let small = are_small layer under over thick gap (has layer p metal) in
    let own = small.0 in
    let share = small.1 in
    (le-leb (rates.rate layer under over thick gap).0 (2 ^ 57) (omega (arith, own)), le-leb (rates.rate layer under over thick gap).1 (2 ^ 57) (omega (arith, share))))

small_value : (has_rules : ℕ → Type 0) (rates : Rates ℕ) (axis : ℕ) (window : Window) (tiles : List Tile) (key : Key) → KeepsRules has_rules rates numbers any_number → RatesAreSmall has_rules rates → AreSweepable has_rules tiles → length tiles ≤ most_places →
    value_in numbers (plane_of tiles) rates axis window.rect key ≤ 2 ^ 57 * 2 ^ 60
small_value has_rules rates axis window tiles key keeps small can few =
    let value = values_follow_counts (2 ^ 57) (plane_of tiles) rates axis window.rect key (small_amounts has_rules rates tiles keeps small can) in
    let count = few_parts has_rules rates axis window tiles key can few in
    let all = mul-le (2 ^ 57) (count_in (plane_of tiles) rates axis window.rect key) (2 ^ 57) (2 ^ 60) (omega arith) count in
    omega (arith, value, all)

pub small_rates_suffice : (has_rules : ℕ → Type 0) (rates : Rates ℕ) → KeepsRules has_rules rates numbers any_number → RatesAreSmall has_rules rates → LimitsSuffice has_rules rates
small_rates_suffice has_rules rates keeps are_small window tiles near few can =
    let value = λ (axis : ℕ) (key : Key). value_in numbers (plane_of tiles) rates axis window.rect key in
    let small = λ (axis : ℕ) (key : Key). small_value has_rules rates axis window tiles key keeps are_small can few in
    record {
      near = can.near;
      layers = can.layers;
      ranks = can.ranks;
      apart = can.apart;
      rules = can.rules;
      window_near = near;
      counts = λ key.
          let a = few_parts has_rules rates 0 window tiles key can few in
          let b = few_parts has_rules rates 1 window tiles key can few in
          omega (arith, a, b);
      rows = λ key. lt-ltb (value 0 key) (2 ^ 128) (let a = small 0 key in omega (arith, a));
      columns = λ key. lt-ltb (value 1 key) (2 ^ 128) (let a = small 1 key in omega (arith, a));
      values = λ key. lt-ltb (key_value numbers (plane_of tiles) rates window.rect key) (2 ^ 128) (let a = small 0 key in let b = small 1 key in omega (arith, a, b));
    }

pub limits_suffice : (rules : RuleFile) → LimitsSuffice (HasRules rules) (rates rules)
limits_suffice rules = small_rates_suffice (HasRules rules) (rates rules) (rules_are_kept rules) (rates_are_small rules)
