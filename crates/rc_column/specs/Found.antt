-- The faces of a line as a list.
use Rattle.std.specs.Prelude.{◌≡◌, ◌⊎◌, ◌<ℤ◌, ◌≤ℤ◌, ◌+◌, ◌+ℤ◌, ◌^◌, ◌++◌, pos, negsuc, ℕ, ℤ, Bool, true, false, List, None, option_map}
use Rattle.std.specs.Option.{option_map_or, option_to_list}
use Rattle.std.specs.List.{range_with_len, flat_map}
use Rattle.rc_geom.specs.Line.{Line}
use Rattle.rc_geom.specs.Faces.{Face, Seen, face_at}
use Rattle.rc_geom.specs.Sums.{extent}
use Rattle.rc_column.specs.declared.face.Face.{Face as FoundFace}

-- the face that a value of the code describes
abbrev pub face_value : FoundFace → Face
face_value f = record { own = (f.net, f.node); thick = f.thick; sight = option_map (λ d. (d, (f.onet, f.onode))) f.gap }

-- how the code tells a face at a place of a line, in a direction
abbrev pub found : ℤ → Bool → Face → FoundFace
found z up face = record {
  lo = z;
  hi = z +ℤ pos 1;
  net = face.own.0;
  node = face.own.1;
  up = up;
  thick = face.thick;
  gap = option_map {T = Seen} (λ seen. seen.0) face.sight;
  onet = option_map_or {T = Seen} (λ seen. seen.1.0) face.sight 0;
  onode = option_map_or {T = Seen} (λ seen. seen.1.1) face.sight 0;
}

-- the faces of a place, the one that looks down before the one that looks up
abbrev pub place_faces : ℕ → ℕ → Line → ℤ → List FoundFace
place_faces cap reach line z =
    option_to_list (option_map (found z false) (face_at cap reach line false z))
    ++ option_to_list (option_map (found z true) (face_at cap reach line true z))

-- the faces of the places from lo to below hi, place by place
unfoldable pub faces_between : ℕ → ℕ → Line → ℤ → ℤ → List FoundFace
faces_between cap reach line lo hi = flat_map (λ k. place_faces cap reach line (lo +ℤ pos k)) (range_with_len 0 (extent lo hi))

-- the faces of a line, place by place: all coordinates are within 2^29 + 1 of 0
abbrev pub faces_of : ℕ → ℕ → Line → List FoundFace
faces_of cap reach line = faces_between cap reach line (negsuc (2 ^ 29)) (pos (2 ^ 29 + 1))

-- all metal of the line stands from lo to below hi
abbrev pub HoldsLine : ℤ → ℤ → Line → Type 0
HoldsLine lo hi line = (z : ℤ) → (z <ℤ lo) ⊎ (hi ≤ℤ z) → line z ≡ None
