-- What lies too far from a window to matter to it.
use Rattle.std.proofs.Common.{◌≡◌, ◌≤◌, ◌+◌, ◌-◌, ℕ, zero, suc, ℤ, pos, ◌+ℤ◌, ◌-ℤ◌, ◌≤ℤ◌, Bool, true, false, cond, not, List, [], ◌∷◌, Option, Some, None, refl, ap, sym, ◌∙◌, arith}
use Rattle.std.specs.Prelude.{is_some, option_map, filter, ◌==◌}
use Rattle.std.specs.Option.{option_map_or}
use Rattle.std.specs.List.{find, range_with_len}
use Rattle.std.proofs.lemmas.Int.{ints}
use Rattle.std.proofs.lemmas.Bool.{and_parts, true≢false, false_from_ne_true}
use Rattle.rc_geom.specs.declared.rect.Pt.{Pt}
use Rattle.rc_geom.specs.declared.rect.Rect.{Rect}
use Rattle.rc_geom.specs.declared.tile.Tile.{Tile}
use Rattle.rc_geom.specs.Rects.{covers, grow, SharesSquare}
use Rattle.rc_geom.specs.Plane.{Metal, Plane, claims, owner, plane_of}
use Rattle.rc_geom.specs.Line.{Line, square_of, line_of, at_distance}
use Rattle.rc_geom.specs.Faces.{Face, face_at}
use Rattle.rc_geom.specs.Context.{layer_count, last_that}
use Rattle.rc_geom.specs.Rates.{Rates}
use Rattle.rc_geom.specs.Parts.{Part, parts, worth_at}
use Rattle.rc_geom.specs.Sums.{both_directions, total_between, layer_sum, first_line, end_line, first_place, end_place}
use Rattle.rc_geom.specs.Extraction.{face_of, parts_of}
use Rattle.rc_geom.specs.Laws.{HaloReaches, HalosSuffice, HalosKeepFaces, NearTilesSuffice, LinesDecide}
use Rattle.rc_geom.proofs.Bounds.{covers_from}
use Rattle.rc_geom.proofs.Owners.{better, claim, better_none, owner-cons}
use Rattle.rc_geom.proofs.Rays.{faces_are_local, no_face}
use Rattle.rc_geom.proofs.Totals.{total_same, total_between_same}
use Rattle.rc_geom.proofs.Areas.{Crosses, crosses, covers_crossing, no_parts}

-- ---- squares near a window

pub grown_place : (axis : ℕ) (r : Rect) (halo : ℕ) (at along z : ℤ) → Crosses axis r at along → (along -ℤ pos halo) ≤ℤ z → z ≤ℤ (along +ℤ pos halo) → covers (grow r halo) (square_of axis at z) ≡ true
grown_place zero r halo at along z c low high =
    covers_from (grow r halo) (square_of 0 at z) (record { left = omega (arith, ints, c.place_low); right = omega (arith, ints, c.place_high); below = omega (arith, ints, c.line_low); above = omega (arith, ints, c.line_high) })
grown_place (suc n) r halo at along z c low high =
    covers_from (grow r halo) (square_of (suc n) at z) (record { left = omega (arith, ints, c.line_low); right = omega (arith, ints, c.line_high); below = omega (arith, ints, c.place_low); above = omega (arith, ints, c.place_high) })

pub near_low : (up : Bool) (along : ℤ) (k halo : ℕ) → k ≤ halo → (along -ℤ pos halo) ≤ℤ at_distance up along k
near_low true along k halo h = omega (arith, ints)
near_low false along k halo h = omega (arith, ints)

pub near_high : (up : Bool) (along : ℤ) (k halo : ℕ) → k ≤ halo → at_distance up along k ≤ℤ (along +ℤ pos halo)
near_high true along k halo h = omega (arith, ints)
near_high false along k halo h = omega (arith, ints)

-- ---- planes that are alike near a window

-- what a face adds over a column of layers
abbrev added : {V : Type 0} → Rates V → ℕ → (ℕ → Option Metal) → Option Face → List (Part V)
added rates layer stack face =
    option_map_or (λ face. parts face (rates.rate layer (last_that (λ below. is_some (stack below)) (range_with_len 0 layer)) (find (λ above. is_some (stack above)) (range_with_len (layer + 1) (layer_count - (layer + 1)))) face.thick (option_map (λ seen. seen.0) face.sight))) face []

same_parts : {V : Type 0} (plane other : Plane) (rates : Rates V) (axis : ℕ) (window : Rect) (halo layer : ℕ) (at along : ℤ) (up : Bool) → HaloReaches plane rates window halo → ((l : ℕ) (p : Pt) → covers (grow window halo) p ≡ true → plane l p ≡ other l p) → covers window (square_of axis at along) ≡ true → (own : Option Metal) → plane layer (square_of axis at along) ≡ own → parts_of plane rates axis layer at along up ≡ parts_of other rates axis layer at along up
same_parts plane other rates axis window halo layer at along up reaches alike inside None bare =
    let c = crosses axis window at along inside in
    let here : plane layer (square_of axis at along) ≡ other layer (square_of axis at along) = alike layer (square_of axis at along) (grown_place axis window halo at along along c (omega (arith, ints)) (omega (arith, ints))) in
    no_parts plane rates axis layer at along up bare ∙ sym (no_parts other rates axis layer at along up (sym here ∙ bare))
same_parts plane other rates axis window halo layer at along up reaches alike inside (Some own) metal =
    let c = crosses axis window at along inside in
    let halos = reaches layer (square_of axis at along) inside (ap is_some metal) in
    let square = square_of axis at along in
    let stacks = λ (l : ℕ). alike l square (grown_place axis window halo at along along c (omega (arith, ints)) (omega (arith, ints))) in
    let near = λ (d : Bool) (k : ℕ) (small : k ≤ halo). alike layer (square_of axis at (at_distance d along k)) (grown_place axis window halo at along (at_distance d along k) c (near_low d along k halo small) (near_high d along k halo small)) in
    let faces = faces_are_local (rates.cap layer) (rates.reach layer) (line_of plane layer axis at) (line_of other layer axis at) up along
    (λ k most. near up k (omega (arith, halos.0)))
    (λ k less. near (not up) k (omega (arith, halos.1))) in
    ap (added rates layer (λ l. plane l square)) faces
    ∙ ap (λ (stack : ℕ → Option Metal). added rates layer stack (face_of other rates axis layer at along up)) (λ i l. stacks l i)

pub halos_suffice : {V W : Type 0} → HalosSuffice V W
halos_suffice adding worth plane other rates axis window halo key reaches alike =
    let f = λ (layer : ℕ) (at along : ℤ) (up : Bool). worth_at adding worth key (parts_of plane rates axis layer at along up) in
    let g = λ (layer : ℕ) (at along : ℤ) (up : Bool). worth_at adding worth key (parts_of other rates axis layer at along up) in
    let each = λ (layer : ℕ) (at along : ℤ) (inside : covers window (square_of axis at along) ≡ true) (up : Bool).
    ap (worth_at adding worth key) (same_parts plane other rates axis window halo layer at along up reaches alike inside (plane layer (square_of axis at along)) refl) in
    total_same adding layer_count (λ layer. layer_sum adding axis window (f layer)) (λ layer. layer_sum adding axis window (g layer))
    (λ layer _. total_between_same adding (first_line axis window) (end_line axis window)
    (λ at. total_between adding (first_place axis window) (end_place axis window) (λ along. both_directions adding (f layer at along)))
    (λ at. total_between adding (first_place axis window) (end_place axis window) (λ along. both_directions adding (g layer at along)))
    (λ at above below. total_between_same adding (first_place axis window) (end_place axis window)
    (λ along. both_directions adding (f layer at along)) (λ along. both_directions adding (g layer at along))
    (λ along low high.
    let inside = covers_crossing axis window at along (record { line_low = above; line_high = below; place_low = low; place_high = high }) in
    ap (λ v. adding.plus v (f layer at along true)) (each layer at along inside false) ∙ ap (adding.plus (g layer at along false)) (each layer at along inside true))))

-- the face at a square in the window
same_face : {V : Type 0} (plane other : Plane) (rates : Rates V) (axis : ℕ) (window : Rect) (halo layer : ℕ) (at along : ℤ) (up : Bool) → HaloReaches plane rates window halo → ((l : ℕ) (p : Pt) → covers (grow window halo) p ≡ true → plane l p ≡ other l p) → covers window (square_of axis at along) ≡ true → (own : Option Metal) → plane layer (square_of axis at along) ≡ own → face_of plane rates axis layer at along up ≡ face_of other rates axis layer at along up
same_face plane other rates axis window halo layer at along up reaches alike inside None bare =
    let c = crosses axis window at along inside in
    let here : plane layer (square_of axis at along) ≡ other layer (square_of axis at along) = alike layer (square_of axis at along) (grown_place axis window halo at along along c (omega (arith, ints)) (omega (arith, ints))) in
    no_face (rates.cap layer) (rates.reach layer) (line_of plane layer axis at) up along bare
    ∙ sym (no_face (rates.cap layer) (rates.reach layer) (line_of other layer axis at) up along (sym here ∙ bare))
same_face plane other rates axis window halo layer at along up reaches alike inside (Some own) metal =
    let c = crosses axis window at along inside in
    let halos = reaches layer (square_of axis at along) inside (ap is_some metal) in
    let near = λ (d : Bool) (k : ℕ) (small : k ≤ halo). alike layer (square_of axis at (at_distance d along k)) (grown_place axis window halo at along (at_distance d along k) c (near_low d along k halo small) (near_high d along k halo small)) in
    faces_are_local (rates.cap layer) (rates.reach layer) (line_of plane layer axis at) (line_of other layer axis at) up along
    (λ k most. near up k (omega (arith, halos.0)))
    (λ k less. near (not up) k (omega (arith, halos.1)))

abbrev below_of : ℕ → (ℕ → Option Metal) → Option ℕ
below_of layer stack = last_that (λ below. is_some (stack below)) (range_with_len 0 layer)

abbrev above_of : ℕ → (ℕ → Option Metal) → Option ℕ
above_of layer stack = find (λ above. is_some (stack above)) (range_with_len (layer + 1) (layer_count - (layer + 1)))

pub halos_keep_faces : {V : Type 0} → HalosKeepFaces V
halos_keep_faces plane other rates window halo axis layer at along up reaches alike inside =
    let square = square_of axis at along in
    let c = crosses axis window at along inside in
    let stacks = λ (l : ℕ). alike l square (grown_place axis window halo at along along c (omega (arith, ints)) (omega (arith, ints))) in
    record {
      face = same_face plane other rates axis window halo layer at along up reaches alike inside (plane layer square) refl;
      below = ap (below_of layer) (λ i l. stacks l i);
      above = ap (above_of layer) (λ i l. stacks l i);
      adds = same_parts plane other rates axis window halo layer at along up reaches alike inside (plane layer square) refl;
    }

-- ---- lines that are alike

pub lines_decide : {V : Type 0} → LinesDecide V
lines_decide plane other rates axis at at' alike layer along up =
    ap (λ (line : Line). added rates layer (λ l. plane l (square_of axis at along)) (face_at (rates.cap layer) (rates.reach layer) line up along)) (alike layer)
    ∙ ap (λ (stack : ℕ → Option Metal). added rates layer stack (face_of other rates axis layer at' along up)) (λ i l. alike l i along)

-- ---- tiles that are near

kept_owner : (layer : ℕ) (p : Pt) (t : Tile) (ts : List Tile) (keep : Tile → Bool) (b : Bool) → keep t ≡ b → (claims layer p t ≡ true → keep t ≡ true) → owner (filter keep ts) layer p ≡ owner ts layer p → owner (cond b (t ∷ filter keep ts) (filter keep ts)) layer p ≡ owner (t ∷ ts) layer p
kept_owner layer p t ts keep true is needed rest =
    owner-cons layer p t (filter keep ts) ∙ (ap (better (claim layer p t)) rest ∙ sym (owner-cons layer p t ts))
kept_owner layer p t ts keep false is needed rest =
    let misses : claims layer p t ≡ false = false_from_ne_true (claims layer p t) (λ does. true≢false (sym (needed does) ∙ is)) in
    rest
    ∙ (sym (better_none (owner ts layer p))
    ∙ (ap (λ (c : Bool). better (cond c (Some t) None) (owner ts layer p)) (sym misses)
    ∙ sym (owner-cons layer p t ts)))

-- a square keeps its owner where those tiles are left out that don't claim it
pub owner_kept : (tiles : List Tile) (keep : Tile → Bool) (layer : ℕ) (p : Pt) → ((t : Tile) → claims layer p t ≡ true → keep t ≡ true) → owner (filter keep tiles) layer p ≡ owner tiles layer p
owner_kept [] keep layer p needed = refl
owner_kept (t ∷ ts) keep layer p needed = kept_owner layer p t ts keep (keep t) refl (needed t) (owner_kept ts keep layer p needed)

near_owner : (tiles : List Tile) (r : Rect) (keep : Tile → Bool) (layer : ℕ) (p : Pt) → ((t : Tile) → SharesSquare t.rect r → keep t ≡ true) → covers r p ≡ true → owner (filter keep tiles) layer p ≡ owner tiles layer p
near_owner tiles r keep layer p needed inside =
    owner_kept tiles keep layer p (λ t does. needed t (p, (and_parts (t.layer == layer) (covers t.rect p) does).1, inside))

pub near_tiles_suffice : {V W : Type 0} → NearTilesSuffice V W
near_tiles_suffice adding worth tiles keep rates axis window halo key reaches needed =
    halos_suffice adding worth (plane_of tiles) (plane_of (filter keep tiles)) rates axis window halo key reaches
    (λ layer p inside. ap (option_map {U = Metal} (λ (t : Tile). (t.net, t.node))) (sym (near_owner tiles (grow window halo) keep layer p needed inside)))
