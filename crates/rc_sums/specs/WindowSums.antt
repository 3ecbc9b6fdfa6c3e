-- What the faces of a window add up to.
use Rattle.std.specs.Prelude.{◌≡◌, ◌≤◌, ℕ, List, IfSome}
use Rattle.rc_geom.specs.declared.key.Key.{Key}
use Rattle.rc_geom.specs.declared.rect.Rect.{Rect}
use Rattle.rc_geom.specs.Plane.{Plane}
use Rattle.rc_geom.specs.Rates.{Rates}
use Rattle.rc_geom.specs.Sums.{Adding}
use Rattle.rc_geom.specs.Extraction.{value_in, count_in}
use Rattle.rc_tally.specs.declared.entry.Entry.{Entry}
use Rattle.rc_tally.specs.Tallies.{sum_at, entry_at}

-- for each key the count and the value of the faces of one axis whose squares lie in the rectangle; without an entry they
-- are nothing, and an entry has at least one part
pub record IsWindowSum {V : Type 0} (adding : Adding V) (plane : Plane) (rates : Rates V) (axis : ℕ) (r : Rect) (entries : List (Entry V)) : Type 0 where
  pub count : (key : Key) → (sum_at adding entries key).count ≡ count_in plane rates axis r key
  pub value : (key : Key) → (sum_at adding entries key).value ≡ value_in adding plane rates axis r key
  pub some : (key : Key) → IfSome (entry_at entries key) (λ e. 1 ≤ e.count)
