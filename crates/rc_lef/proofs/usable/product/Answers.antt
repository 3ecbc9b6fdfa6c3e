use Rattle.std.proofs.Common.{◌^◌, ◌*ℤ◌, FitsSigned, w64, refl, arith}
use Rattle.std.proofs.lemmas.Int.{to_z-of_z, fits_signed_mul, unsigned_abs-mul}
use Rattle.std.proofs.Math.Nat.{mul-le-mul}
use Rattle.rc_lef.proofs.usable.product.Goals as goal

pub returns-clause-value : goal.returns-clause-value
returns-clause-value c =
    let fits : FitsSigned w64 (c.args.count *ℤ c.args.length) = fits_signed_mul w64 c.args.count c.args.length (2 ^ 16) (2 ^ 44) c.requires.count c.requires.length (omega arith) in
    rw (to_z-of_z w64 c.args.count c.ranges.count, to_z-of_z w64 c.args.length c.ranges.length, to_z-of_z w64 (c.args.count *ℤ c.args.length) fits) refl

pub returns-clause-small : goal.returns-clause-small
returns-clause-small c = rw (returns-clause-value c, unsigned_abs-mul c.args.count c.args.length) (mul-le-mul c.requires.count c.requires.length)
