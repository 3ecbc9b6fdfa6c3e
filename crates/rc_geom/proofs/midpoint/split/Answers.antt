use Rattle.std.proofs.Common.{◌≡◌, ◌∙◌, ap, ℤ, to_z, of_z, w32, arith}
use Rattle.std.proofs.lemmas.Int.{ints}
use Rattle.rc_geom.specs.Split.{middle}
use Rattle.rc_geom.proofs.Midpoints.{nearer_low, nearer_high}
use Rattle.rc_geom.proofs.midpoint.split.Goals as goal

-- the answer is the middle of the arguments
is_middle : (c : goal.After-middle_of) → to_z w32 (of_z w32 c.middle_of.result) ≡ middle c.args.lo c.args.hi
is_middle c =
    let lo : to_z w32 (of_z w32 c.args.lo) ≡ c.args.lo = omega (arith, ints) in
    let hi : to_z w32 (of_z w32 c.args.hi) ≡ c.args.hi = omega (arith, ints) in
    let answer : to_z w32 (of_z w32 c.middle_of.result) ≡ c.middle_of.result = omega (arith, ints) in
    answer ∙ (c.middle_of.ensures ∙ (ap (λ (z : ℤ). middle z (to_z w32 (of_z w32 c.args.hi))) lo ∙ ap (middle c.args.lo) hi))

pub returns-clause-low : goal.returns-clause-low
returns-clause-low c = λ order s before. nearer_low c.args.lo c.args.hi s order (omega (arith, ints, is_middle c))

pub returns-clause-high : goal.returns-clause-high
returns-clause-high c = λ order s after. nearer_high c.args.lo c.args.hi s order (omega (arith, ints, is_middle c))
