-- How many items the nets of a layout have, where they keep the limits.
use Rattle.std.specs.Prelude.{ℕ, ◌≡◌, ◌+◌, Ok}
use Rattle.rc_layout.specs.Layouts.{Wired, shape_count, within_limits}

pub record IsCountWithin (wired : Wired) (shapes : ℕ) : Type 0 where
  pub within : within_limits wired ≡ Ok wired
  pub count : shapes ≡ shape_count wired.nets + shape_count wired.grounded
