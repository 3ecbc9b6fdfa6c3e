-- What stands beside a square, the face on its side, and what that face adds.
use Rattle.std.proofs.Common.{◌≡◌, ◌≤◌, ◌-ℤ◌, ◌+ℤ◌, ℕ, ℤ, pos, Bool, true, false, cond, not, Option, Some, None, List, [], ◌++◌, refl, ap, sym, subst, ◌∙◌, arith}
use Rattle.std.specs.Prelude.{IfSome, option_map}
use Rattle.std.specs.Option.{option_and_then, option_map_or}
use Rattle.std.proofs.lemmas.Int.{ints}
use Rattle.rc_geom.specs.declared.rect.Pt.{Pt}
use Rattle.rc_geom.specs.declared.tile.Side.{Side}
use Rattle.rc_geom.specs.declared.tile.Side.TheVariants.{Left, Right, Down, Up}
use Rattle.rc_geom.specs.Plane.{Metal, Plane}
use Rattle.rc_geom.specs.Line.{Line, Ray, line_of, square_of, axis_of, is_up}
use Rattle.rc_geom.specs.Faces.{Face, Seen, is_net, end_of, thickness, sight}
use Rattle.rc_geom.specs.Rates.{Rates, rate_of}
use Rattle.rc_geom.specs.Parts.{Part, parts, part_for, node_key, shared_key, foreign_metal}
use Rattle.rc_geom.proofs.Rays.{end_is, no_face, face_tells, faces_are_thick, sight_tells}
use Rattle.rc_squares.specs.declared.faces.Face.{Face as FoundFace}
use Rattle.rc_squares.specs.Found.{face_value, IsBounded}
use Rattle.rc_squares.specs.Sides.{line_at, place_at, square_at, ahead, behind, face_on, parts_on}

plus_none : (z : ℤ) → z +ℤ pos 0 ≡ z
plus_none z = omega (arith, ints)

less_none : (z : ℤ) → z -ℤ pos 0 ≡ z
less_none z = omega (arith, ints)

-- a square is at its place of the line through it
pub its_place : (side : Side) (p : Pt) → square_of (axis_of side) (line_at (axis_of side) p) (place_at (axis_of side) p) ≡ p
its_place Left p = refl
its_place Right p = refl
its_place Down p = refl
its_place Up p = refl

-- at distance 0 is the square itself
pub itself : (side : Side) (p : Pt) → square_at (axis_of side) (is_up side) p 0 ≡ p
itself Left p = let P : ℤ → Pt = λ x. record { x = x; y = p.y } in ap P (less_none p.x)
itself Right p = let P : ℤ → Pt = λ x. record { x = x; y = p.y } in ap P (plus_none p.x)
itself Down p = let P : ℤ → Pt = λ y. record { x = p.x; y = y } in ap P (less_none p.y)
itself Up p = let P : ℤ → Pt = λ y. record { x = p.x; y = y } in ap P (plus_none p.y)

-- what a side has behind it is ahead of the side across
pub across : (plane : Plane) (layer : ℕ) (side back : Side) (p : Pt) (k : ℕ) → axis_of back ≡ axis_of side → is_up back ≡ not (is_up side) → plane layer (square_at (axis_of back) (is_up back) p k) ≡ behind plane layer side p k
across plane layer side back p k axis way =
    ap (λ (a : ℕ). plane layer (square_at a (is_up back) p k)) axis
    ∙ ap (λ (up : Bool). plane layer (square_at (axis_of side) up p k)) way

-- a square of metal has a face where the next one isn't of its net
pub face_stands : (cap reach : ℕ) (plane : Plane) (layer : ℕ) (side : Side) (p : Pt) (own : Metal) (thick : ℕ) (seen : Option (ℕ × Metal)) → plane layer p ≡ Some own → is_net own.0 (ahead plane layer side p 1) ≡ false → thick ≡ thickness own.0 cap (behind plane layer side p) → seen ≡ sight reach (ahead plane layer side p) → Some (record { own = own; thick = thick; sight = seen }) ≡ face_on cap reach plane layer side p
face_stands cap reach plane layer side p own thick seen metal ends thick_is seen_is =
    let ray : Ray = ahead plane layer side p in
    let back : Ray = behind plane layer side p in
    let of : Metal → Face = λ m. record { own = m; thick = thickness m.0 cap back; sight = sight reach ray } in
    let end : end_of ray ≡ Some own = end_is ray own (ap (plane layer) (itself side p) ∙ metal) ends in
    let with_thick : ℕ → Option Face = λ n. Some (record { own = own; thick = n; sight = seen }) in
    let with_sight : Option (ℕ × Metal) → Option Face = λ s. Some (record { own = own; thick = thickness own.0 cap back; sight = s }) in
    ap with_thick thick_is ∙ (ap with_sight seen_is ∙ sym (ap (option_map of) end))

end_lacks : (here next : Option Metal) (own : Metal) → here ≡ Some own → is_net own.0 next ≡ true → option_and_then (λ (m : Metal). cond (is_net m.0 next) None (Some m)) here ≡ None
end_lacks here next own metal same =
    ap (option_and_then (λ (m : Metal). cond (is_net m.0 next) None (Some m))) metal ∙ ap (λ b. cond b None (Some own)) same

-- none where it is
pub face_lacks : (cap reach : ℕ) (plane : Plane) (layer : ℕ) (side : Side) (p : Pt) (own : Metal) → plane layer p ≡ Some own → is_net own.0 (ahead plane layer side p 1) ≡ true → None ≡ face_on cap reach plane layer side p
face_lacks cap reach plane layer side p own metal same =
    let ray : Ray = ahead plane layer side p in
    let of : Metal → Face = λ m. record { own = m; thick = thickness m.0 cap (behind plane layer side p); sight = sight reach ray } in
    sym (ap (option_map of) (end_lacks (ray 0) (ray 1) own (ap (plane layer) (itself side p) ∙ metal) same))

-- and none where there is no metal
pub face_of_none : (cap reach : ℕ) (plane : Plane) (layer : ℕ) (side : Side) (p : Pt) → plane layer p ≡ None → face_on cap reach plane layer side p ≡ None
face_of_none cap reach plane layer side p bare =
    no_face cap reach (line_of plane layer (axis_of side) (line_at (axis_of side) p)) (is_up side) (place_at (axis_of side) p) (ap (plane layer) (its_place side p) ∙ bare)

-- what a face sees is behind a gap that counts
gap_bounds : (reach : ℕ) (ray : Ray) (seen : Option Seen) → seen ≡ sight reach ray → (s : Seen) → seen ≡ Some s → (1 ≤ s.0) × (s.0 ≤ reach)
gap_bounds reach ray seen seen_is s e = let t = sight_tells reach ray s.0 s.1 (sym seen_is ∙ e) in (t.least, t.most)

-- the thickness of a face and the gap that it sees are in bounds
pub face_bounds : (cap reach : ℕ) (plane : Plane) (layer : ℕ) (side : Side) (p : Pt) (face : FoundFace) → Some (face_value face) ≡ face_on cap reach plane layer side p → 1 ≤ cap → IsBounded cap reach face
face_bounds cap reach plane layer side p face stands least =
    let line : Line = line_of plane layer (axis_of side) (line_at (axis_of side) p) in
    let P : Option Face → Type 0 = λ o. IfSome o (λ f. (1 ≤ f.thick) × (f.thick ≤ cap)) in
    let thick : (1 ≤ face.thick) × (face.thick ≤ cap) = subst P (sym stands) (faces_are_thick cap reach line (is_up side) (place_at (axis_of side) p) least) in
    let tells = face_tells cap reach line (is_up side) (place_at (axis_of side) p) (face_value face) (sym stands) in
    let gaps = gap_bounds reach (ahead plane layer side p) face.sight tells.2 in
    record { thick = thick.0; capped = thick.1; gap = λ s e. (gaps s e).0; within = λ s e. (gaps s e).1 }

-- the parts of a face are those of its rate
pub parts_stand : (plane : Plane) (rates : Rates ℕ) (layer : ℕ) (side : Side) (p : Pt) (cap reach : ℕ) (face : Face) (rate : ℕ × ℕ) (own shared : List (Part ℕ)) → cap ≡ rates.cap layer → reach ≡ rates.reach layer → Some face ≡ face_on cap reach plane layer side p → rate ≡ rate_of rates plane layer p face → own ≡ part_for rate.0 (node_key face.own) → shared ≡ part_for rate.1 (option_and_then (shared_key face.own) (foreign_metal face.own face.sight)) → own ++ shared ≡ parts_on plane rates layer side p
parts_stand plane rates layer side p cap reach face rate own shared cap_is reach_is stands rate_is own_is shared_is =
    let f : Face → List (Part ℕ) = λ fc. parts fc (rate_of rates plane layer (square_of (axis_of side) (line_at (axis_of side) p) (place_at (axis_of side) p)) fc) in
    let there : Some face ≡ face_on (rates.cap layer) (rates.reach layer) plane layer side p = stands ∙ (ap (λ (c : ℕ). face_on c reach plane layer side p) cap_is ∙ ap (λ (r : ℕ). face_on (rates.cap layer) r plane layer side p) reach_is) in
    ap (λ (xs : List (Part ℕ)). xs ++ shared) own_is
    ∙ (ap (λ (xs : List (Part ℕ)). part_for rate.0 (node_key face.own) ++ xs) shared_is
    ∙ (ap (λ (r : ℕ × ℕ). parts face r) rate_is
    ∙ (ap (λ (q : Pt). parts face (rate_of rates plane layer q face)) (sym (its_place side p))
    ∙ ap (λ o. option_map_or f o []) there)))
