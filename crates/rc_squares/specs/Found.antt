-- What the code's values stand for.
use Rattle.std.specs.Prelude.{◌≤◌, ℕ, List, ◌++◌, option_map}
use Rattle.std.specs.Option.{ForSome, option_to_list}
use Rattle.rc_geom.specs.Faces.{Face}
use Rattle.rc_geom.specs.Parts.{Part}
use Rattle.rc_squares.specs.declared.faces.Face.{Face as FoundFace}
use Rattle.rc_squares.specs.declared.parts.Part.{Part as FoundPart}
use Rattle.rc_squares.specs.declared.parts.FaceParts.{FaceParts}

-- the face that a value of the code describes
abbrev pub face_value : FoundFace → Face
face_value f = record { own = f.own; thick = f.thick; sight = f.sight }

-- its thickness counts, and the gap to what it sees
pub record IsBounded (cap reach : ℕ) (f : FoundFace) : Type 0 where
  pub thick : 1 ≤ f.thick
  pub capped : f.thick ≤ cap
  pub gap : ForSome f.sight (λ seen. 1 ≤ seen.0)
  pub within : ForSome f.sight (λ seen. seen.0 ≤ reach)

-- a part, and the parts of a face, own before shared
abbrev pub part_value : FoundPart → Part ℕ
part_value p = record { key = p.key; amount = p.amount }

abbrev pub parts_value : FaceParts → List (Part ℕ)
parts_value ps = option_to_list (option_map part_value ps.own) ++ option_to_list (option_map part_value ps.shared)
