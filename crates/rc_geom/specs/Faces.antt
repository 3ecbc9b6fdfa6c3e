-- The faces of a line: where a net ends, how thick it is behind that end, and what the end sees.
use Rattle.std.specs.Prelude.{ℕ, ℤ, ◌+◌, Bool, false, not, Option, Some, None, map, is_some, nat_le, ◌==◌, ◌&&◌, if◌then◌else◌, option_map}
use Rattle.std.specs.Option.{option_and_then}
use Rattle.std.specs.List.{range_with_len, prefix_len, position_or_len}
use Rattle.rc_geom.specs.Plane.{Metal}
use Rattle.rc_geom.specs.Line.{Line, Ray, ray}

-- the metal is the net's
abbrev pub is_net : ℕ → Option Metal → Bool
is_net net None = false
is_net net (Some own) = own.0 == net

-- the first square's metal, where the second square isn't of its net
abbrev pub end_of : Ray → Option Metal
end_of ahead = option_and_then (λ own. if is_net own.0 (ahead 1) then None else Some own) (ahead 0)

-- how many squares in a row are the net's, at most cap
abbrev pub thickness : ℕ → ℕ → Ray → ℕ
thickness net cap back = prefix_len (is_net net) (map back (range_with_len 0 cap))

-- how many empty squares follow the first one before metal, among the next reach + 1
abbrev pub gap : ℕ → Ray → ℕ
gap reach ahead = position_or_len is_some (map (λ k. ahead (k + 1)) (range_with_len 0 (reach + 1)))

-- a gap, and the metal behind it
abbrev pub Seen : Type 0
Seen = ℕ × Metal

-- the first metal behind a gap of at least 1 and at most reach
abbrev pub sight : ℕ → Ray → Option Seen
sight reach ahead =
    let d = gap reach ahead in
    if nat_le 1 d && nat_le d reach then option_map (λ metal. (d, metal)) (ahead (d + 1)) else None

-- a face of a line: whose square it ends, how thick that net is there, and what it sees
pub record Face : Type 0 where
  pub own : Metal
  pub thick : ℕ
  pub sight : Option Seen

-- the face of a ray that looks ahead, over the ray that goes back
abbrev pub face_between : ℕ → ℕ → Ray → Ray → Option Face
face_between cap reach ahead back =
    option_map (λ own. record { own = own; thick = thickness own.0 cap back; sight = sight reach ahead }) (end_of ahead)

-- the face at a place of a line, in one direction
abbrev pub face_at : ℕ → ℕ → Line → Bool → ℤ → Option Face
face_at cap reach line up z = face_between cap reach (ray up line z) (ray (not up) line z)
