-- What the rows rate faces by.
use Rattle.std.proofs.Common.{◌≡◌, ◌<◌, ◌+◌, ◌*◌, ℕ, Bool, true, false, cond, Option, Some, None, min, refl, ap, ◌∙◌, arith}
use Rattle.std.specs.Prelude.{◌==◌, ◌&&◌, nat_le, if◌then◌else◌}
use Rattle.std.proofs.lemmas.Bool.{lt-leb}
use Rattle.rc_geom.specs.Rates.{Rates}
use Rattle.rc_geom.specs.Sums.{numbers}
use Rattle.rc_tally.specs.Amounts.{any_number}
use Rattle.rc_rules.specs.Raters.{KeepsRules}

-- ---- by digits: each amount tells what it was asked for

abbrev pub place_digit : Option ℕ → ℕ
place_digit None = 0
place_digit (Some k) = min (k + 1) 63

abbrev pub gap_digit : Option ℕ → ℕ
gap_digit None = 0
gap_digit (Some d) = if nat_le d 4 then d else 0

abbrev pub digit_own : ℕ → Option ℕ → Option ℕ → ℕ → ℕ → ℕ
digit_own layer under over thick gap =
    thick + 4 * gap + 32 * place_digit under + 2048 * place_digit over + 131072 * min layer 63

abbrev pub digit_share : ℕ → Option ℕ → Option ℕ → ℕ → ℕ → ℕ
digit_share layer under over thick gap = if gap == 0 then 0 else 16777216 + digit_own layer under over thick gap

abbrev pub digit_rate : ℕ → Option ℕ → Option ℕ → ℕ → ℕ → ℕ × ℕ
digit_rate layer under over thick gap = (digit_own layer under over thick gap, digit_share layer under over thick gap)

-- cap 3 and reach 4 on all layers
abbrev pub digit_rates : Rates ℕ
digit_rates = record {
  cap = λ _. 3;
  reach = λ _. 4;
  rate = λ layer under over thick gap. digit_rate layer under over (min thick 3) (gap_digit gap);
}

-- ---- by a table of two widths and two distances, in 10^-5 fF for a face of one unit of 1/1000 micron

abbrev pub by_distance : Option ℕ → ℕ × ℕ → ℕ × ℕ → ℕ → ℕ × ℕ
by_distance None near far far_off = (far_off, 0)
by_distance (Some d) near far far_off = if nat_le d 100 then near else if nat_le d 300 then far else (far_off, 0)

abbrev pub is_first : Option ℕ → Bool
is_first None = false
is_first (Some k) = k == 0

abbrev pub alone_rate : ℕ → Option ℕ → ℕ × ℕ
alone_rate thick gap =
    if nat_le thick 100 then by_distance gap (10, 20) (15, 10) 30 else by_distance gap (20, 30) (25, 20) 40

abbrev pub over_first_rate : ℕ → Option ℕ → ℕ × ℕ
over_first_rate thick gap =
    if nat_le thick 100 then by_distance gap (30, 10) (35, 5) 50 else by_distance gap (40, 20) (45, 10) 60

-- the second layer has numbers of its own where the first one lies below it
abbrev pub table_rates : Rates ℕ
table_rates = record {
  cap = λ _. 200;
  reach = λ _. 300;
  rate = λ layer under over thick gap. if (layer == 1) && is_first under then over_first_rate thick gap else alone_rate thick gap;
}

abbrev pub row_rates : Bool → Rates ℕ
row_rates by_digits = if by_digits then digit_rates else table_rates

-- ---- layers with rules

abbrev pub HasRules : ℕ → Type 0
HasRules layer = layer < 32

-- ---- they keep the rules of raters

digits_keep : KeepsRules HasRules digit_rates numbers any_number
digits_keep = record {
  cap_least = λ layer has. omega arith;
  cap_most = λ layer has. omega arith;
  reach_least = λ layer has. omega arith;
  reach_most = λ layer has. omega arith;
  capped = λ layer under over thick gap has more. let e : min thick 3 ≡ min 3 3 = omega arith in ap (λ (t : ℕ). digit_rate layer under over t (gap_digit gap)) e;
  out_of_reach = λ layer under over thick gap has far. ap (λ (b : Bool). digit_rate layer under over (min thick 3) (cond b gap 0)) (lt-leb gap 4 far);
  alone = λ layer under over thick has. refl;
  own = λ layer under over thick gap has. refl;
  share = λ layer under over thick gap has. refl;
}

far_is_open : (d : ℕ) (near far : ℕ × ℕ) (far_off : ℕ) → 300 < d → by_distance (Some d) near far far_off ≡ by_distance None near far far_off
far_is_open d near far far_off h =
    ap (λ (b : Bool). cond b near (cond (nat_le d 300) far (far_off, 0))) (lt-leb d 100 (omega arith)) ∙ ap (λ (b : Bool). cond b far (far_off, 0)) (lt-leb d 300 h)

open_shares : (b c : Bool) (near far near' far' other other' : ℕ × ℕ) (a d e f : ℕ) → (cond c (cond b (by_distance None near far a) (by_distance None near' far' d)) (cond b (by_distance None other other' e) (by_distance None other other' f))).1 ≡ 0
open_shares true true near far near' far' other other' a d e f = refl
open_shares true false near far near' far' other other' a d e f = refl
open_shares false true near far near' far' other other' a d e f = refl
open_shares false false near far near' far' other other' a d e f = refl

table_keeps : KeepsRules HasRules table_rates numbers any_number
table_keeps = record {
  cap_least = λ layer has. omega arith;
  cap_most = λ layer has. omega arith;
  reach_least = λ layer has. omega arith;
  reach_most = λ layer has. omega arith;
  capped = λ layer under over thick gap has more.
      ap (λ (b : Bool). cond ((layer == 1) && is_first under) (cond b (by_distance gap (30, 10) (35, 5) 50) (by_distance gap (40, 20) (45, 10) 60)) (cond b (by_distance gap (10, 20) (15, 10) 30) (by_distance gap (20, 30) (25, 20) 40))) (lt-leb thick 100 (omega arith));
  out_of_reach = λ layer under over thick gap has far.
      let one = far_is_open gap (30, 10) (35, 5) 50 far in
      let two = far_is_open gap (40, 20) (45, 10) 60 far in
      let three = far_is_open gap (10, 20) (15, 10) 30 far in
      let four = far_is_open gap (20, 30) (25, 20) 40 far in
      λ i. cond ((layer == 1) && is_first under) (cond (nat_le thick 100) (one i) (two i)) (cond (nat_le thick 100) (three i) (four i));
  alone = λ layer under over thick has. open_shares (nat_le thick 100) ((layer == 1) && is_first under) (30, 10) (35, 5) (40, 20) (45, 10) (10, 20) (15, 10) 50 60 30 40;
  own = λ layer under over thick gap has. refl;
  share = λ layer under over thick gap has. refl;
}

pub rates_keep : (by_digits : Bool) → KeepsRules HasRules (row_rates by_digits) numbers any_number
rates_keep true = digits_keep
rates_keep false = table_keeps
