-- Each number stands at its place.
use Rattle.std.proofs.Common.{refl, rules, w32, w64}
use Rattle.std.proofs.lemmas.Int.{to_z-of_z}
use Rattle.rc_layout.proofs.own_via.array_from.Goals as goal

pub returns-clause-is : goal.returns-clause-is
returns-clause-is c =
    rw (
      to_z-of_z w64 c.length.result (search rules),
      to_z-of_z w64 c.length-2.result (search rules),
      to_z-of_z w64 c.length-3.result (search rules),
      to_z-of_z w64 c.length-4.result (search rules),
      to_z-of_z w64 c.length-5.result (search rules),
      to_z-of_z w64 c.length-6.result (search rules),
      to_z-of_z w64 c.length-7.result (search rules),
      to_z-of_z w64 c.length-8.result (search rules),
      to_z-of_z w64 c.count.result (search rules),
      to_z-of_z w64 c.count-2.result (search rules),
      c.length.ensures.is,
      c.length-2.ensures.is,
      c.length-3.ensures.is,
      c.length-4.ensures.is,
      c.length-5.ensures.is,
      c.length-6.ensures.is,
      c.length-7.ensures.is,
      c.length-8.ensures.is,
      c.count.ensures.is,
      c.count-2.ensures.is,
      to_z-of_z w32 c.args.sizes.now.cut_x (search rules),
      to_z-of_z w32 c.args.sizes.now.cut_y (search rules),
      to_z-of_z w32 c.args.sizes.now.space_x (search rules),
      to_z-of_z w32 c.args.sizes.now.space_y (search rules),
      to_z-of_z w32 c.args.sizes.now.first_x (search rules),
      to_z-of_z w32 c.args.sizes.now.first_y (search rules),
      to_z-of_z w32 c.args.sizes.now.third_x (search rules),
      to_z-of_z w32 c.args.sizes.now.third_y (search rules),
      to_z-of_z w32 c.args.sizes.now.rows (search rules),
      to_z-of_z w32 c.args.sizes.now.columns (search rules),
    ) refl
