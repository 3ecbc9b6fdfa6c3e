-- What an edit leaves as it is, and what the tiles that matter to the windows add up to.
use Rattle.std.proofs.Common.{◌≡◌, ◌<◌, ◌++◌, ⊎_elim, ℕ, ℤ, Bool, true, false, cond, not, List, [], ◌∷◌, Option, Some, None, eqb, refl, ap, sym, subst, ◌∙◌, arith}
use Rattle.std.specs.Prelude.{filter, All, Any, Contains, MatchOption, option_map}
use Rattle.std.specs.List.{list_any}
use Rattle.std.proofs.lemmas.Bool.{cases_Bool, eqb-true, true≢false, false_from_ne_true, and_parts}
use Rattle.std.proofs.lemmas.List.Elements.{All-head, All-tail, All-weaker, All-contains}
use Rattle.std.proofs.lemmas.List.Folds.{list_any-from_Any}
use Rattle.rc_geom.specs.declared.rect.Pt.{Pt}
use Rattle.rc_geom.specs.declared.rect.Rect.{Rect}
use Rattle.rc_geom.specs.declared.tile.Tile.{Tile}
use Rattle.rc_geom.specs.declared.key.Key.{Key}
use Rattle.rc_geom.specs.Rects.{covers, grow}
use Rattle.rc_geom.specs.Plane.{Metal, claims, owner, plane_of}
use Rattle.rc_geom.specs.Faces.{is_net}
use Rattle.rc_geom.specs.Parts.{worth_at}
use Rattle.rc_geom.specs.Rates.{Rates}
use Rattle.rc_geom.specs.Sums.{Adding}
use Rattle.rc_geom.specs.Extraction.{parts_of, sum_in}
use Rattle.rc_geom.specs.Laws.{HaloReaches, IsOwner}
use Rattle.rc_geom.proofs.Totals.{total_same}
use Rattle.rc_geom.proofs.Areas.{worth_sound}
use Rattle.rc_geom.proofs.Owners.{owners_are_least}
use Rattle.rc_geom.proofs.Halos.{near_tiles_suffice, owner_kept, halos_keep_faces}
use Rattle.rc_geom.proofs.FarNets.{far_nets_have_no_parts}
use Rattle.rc_windows.specs.declared.frame.Frame.{Frame}
use Rattle.rc_windows.specs.Frames.{IsFrame, window_count, window_rect, meets, touched}
use Rattle.rc_windows.specs.Indexes.{near_tiles, others_of}
use Rattle.rc_windows.specs.Laws.{NearSumsAdd, LieIn, IsEdit, FarEditsKeepLists, FarEditsKeepSums, FarEditsKeepFaces}
use Rattle.rc_windows.proofs.Meetings.{meets_shares}
use Rattle.rc_windows.proofs.Numbers.{filter_has}
use Rattle.rc_windows.proofs.Partition.{windows_add}

-- ---- sums of the tiles near each window

near_sum : {V W : Type 0} (frame : Frame) (adding : Adding W) (worth : V → W) (tiles : List Tile) (rates : Rates V) (axis k : ℕ) (key : Key) → HaloReaches (plane_of tiles) rates (window_rect frame k) frame.halo →
    sum_in adding worth (plane_of tiles) rates axis (window_rect frame k) key ≡ sum_in adding worth (plane_of (near_tiles frame tiles k)) rates axis (window_rect frame k) key
near_sum frame adding worth tiles rates axis k key reaches =
    near_tiles_suffice adding worth tiles (λ (t : Tile). meets frame t.rect k) rates axis (window_rect frame k) frame.halo key reaches
    (λ t shares. (meets_shares frame t.rect k).1 shares)

pub near_sums_add : {V W : Type 0} (frame : Frame) → IsFrame frame → NearSumsAdd V W frame
near_sums_add {W = Y} frame is adding sound worth tiles rates axis key laws amounts reaches =
    let plane = plane_of tiles in
    let f : ℕ → ℤ → ℤ → Bool → Y = λ layer at along up. worth_at adding worth key (parts_of plane rates axis layer at along up) in
    total_same adding (window_count frame) (λ k. sum_in adding worth (plane_of (near_tiles frame tiles k)) rates axis (window_rect frame k) key) (λ k. sum_in adding worth plane rates axis (window_rect frame k) key)
    (λ k below. sym (near_sum frame adding worth tiles rates axis k key (reaches k below)))
    ∙ windows_add frame is adding sound axis f laws
    (λ layer at along up. worth_sound adding sound laws.neutral worth key (parts_of plane rates axis layer at along up) (amounts axis layer at along up))

-- ---- windows that an edit doesn't touch

-- a window that isn't touched meets no tile of the net
apart : (frame : Frame) (rects : List Rect) (k : ℕ) → k < window_count frame → (Contains (touched frame rects) k → ⊥) → list_any (λ r. meets frame r k) rects ≡ false
apart frame rects k below untouched =
    false_from_ne_true (list_any (λ r. meets frame r k) rects) (λ met. untouched (filter_has (λ j. list_any (λ r. meets frame r j) rects) 0 (window_count frame) k (omega arith) (omega arith) met))

tile_apart : (frame : Frame) (rects : List Rect) (k : ℕ) (t : Tile) → k < window_count frame → (Contains (touched frame rects) k → ⊥) → ((p : Pt) → covers t.rect p ≡ true → Any (λ r. covers r p ≡ true) rects) → meets frame t.rect k ≡ false
tile_apart frame rects k t below untouched inside =
    false_from_ne_true (meets frame t.rect k) (λ met.
    let shared = (meets_shares frame t.rect k).0 met in
    let one = inside shared.0 shared.1 in
    let there : meets frame one.1 k ≡ true = (meets_shares frame one.1 k).1 (shared.0, one.4, shared.2) in
    true≢false (sym (list_any-from_Any (λ r. meets frame r k) rects (one.0, one.1, one.2, one.3, there)) ∙ apart frame rects k below untouched))

-- what is left out before is left out behind
filter_both : (p q : Tile → Bool) (tiles : List Tile) → All (λ t. q t ≡ false → p t ≡ false) tiles → filter p (filter q tiles) ≡ filter p tiles
filter_both p q [] each = refl
filter_both p q (t ∷ tiles) each =
    let rest = filter_both p q tiles (All-tail (λ t. q t ≡ false → p t ≡ false) t tiles each) in
    ⊎_elim
    (λ (kept : q t ≡ true).
    ap (λ (b : Bool). filter p (cond b (t ∷ filter q tiles) (filter q tiles))) kept
    ∙ ap (λ (ts : List Tile). cond (p t) (t ∷ ts) ts) rest)
    (λ (left : q t ≡ false).
    let out : p t ≡ false = All-head (λ t. q t ≡ false → p t ≡ false) t tiles each left in
    ap (λ (b : Bool). filter p (cond b (t ∷ filter q tiles) (filter q tiles))) left
    ∙ (rest ∙ ap (λ (b : Bool). cond b (t ∷ filter p tiles) (filter p tiles)) (sym out)))
    (cases_Bool (q t))

own_net : (a b : ℕ) → not (eqb a b) ≡ false → a ≡ b
own_net a b h = ⊎_elim (λ (same : eqb a b ≡ true). eqb-true a b same) (λ (other : eqb a b ≡ false). absurd (true≢false (sym (ap not other) ∙ h))) (cases_Bool (eqb a b))

far_list : (frame : Frame) (net : ℕ) (rects : List Rect) (tiles : List Tile) (k : ℕ) → k < window_count frame → (Contains (touched frame rects) k → ⊥) → LieIn net rects tiles → near_tiles frame (others_of net tiles) k ≡ near_tiles frame tiles k
far_list frame net rects tiles k below untouched inside =
    filter_both (λ (t : Tile). meets frame t.rect k) (λ (t : Tile). not (eqb t.net net)) tiles
    (All-weaker (λ (t : Tile). t.net ≡ net → (p : Pt) → covers t.rect p ≡ true → Any (λ r. covers r p ≡ true) rects) (λ (t : Tile). not (eqb t.net net) ≡ false → meets frame t.rect k ≡ false)
    (λ t lies left. tile_apart frame rects k t below untouched (lies (own_net t.net net left))) tiles inside)

pub far_edits_keep_lists : (frame : Frame) → FarEditsKeepLists frame
far_edits_keep_lists frame net old new before after k edit below untouched =
    sym (far_list frame net (old ++ new) after k below untouched edit.new_in)
    ∙ (ap (λ (ts : List Tile). near_tiles frame ts k) edit.others
    ∙ far_list frame net (old ++ new) before k below untouched edit.old_in)

pub far_edits_keep_sums : {V W : Type 0} (frame : Frame) → FarEditsKeepSums V W frame
far_edits_keep_sums frame adding worth rates net old new before after k axis key edit below untouched reaches_before reaches_after =
    near_sum frame adding worth after rates axis k key reaches_after
    ∙ (ap (λ (ts : List Tile). sum_in adding worth (plane_of ts) rates axis (window_rect frame k) key) (far_edits_keep_lists frame net old new before after k edit below untouched)
    ∙ sym (near_sum frame adding worth before rates axis k key reaches_before))

-- the plane near a window is that of the tiles that matter to it
near_plane : (frame : Frame) (tiles : List Tile) (k layer : ℕ) (p : Pt) → covers (grow (window_rect frame k) frame.halo) p ≡ true → plane_of (near_tiles frame tiles k) layer p ≡ plane_of tiles layer p
near_plane frame tiles k layer p inside =
    ap (option_map {U = Metal} (λ (t : Tile). (t.net, t.node)))
    (owner_kept tiles (λ (t : Tile). meets frame t.rect k) layer p (λ t does. (meets_shares frame t.rect k).1 (p, (and_parts (eqb t.layer layer) (covers t.rect p) does).1, inside)))

-- near a window that isn't touched the plane stays
far_plane : (frame : Frame) (net : ℕ) (old new : List Rect) (before after : List Tile) (k layer : ℕ) (p : Pt) → IsEdit net old new before after → k < window_count frame → (Contains (touched frame (old ++ new)) k → ⊥) → covers (grow (window_rect frame k) frame.halo) p ≡ true → plane_of after layer p ≡ plane_of before layer p
far_plane frame net old new before after k layer p edit below untouched inside =
    sym (near_plane frame after k layer p inside)
    ∙ (ap (λ (ts : List Tile). plane_of ts layer p) (far_edits_keep_lists frame net old new before after k edit below untouched)
    ∙ near_plane frame before k layer p inside)

-- the owner of a square
owner_tells : (tiles : List Tile) (layer : ℕ) (p : Pt) (t : Tile) → owner tiles layer p ≡ Some t → IsOwner tiles layer p t
owner_tells tiles layer p t is =
    subst (λ (o : Option Tile). MatchOption o (All (λ u. claims layer p u ≡ false) tiles) (IsOwner tiles layer p)) is (owners_are_least tiles layer p)

-- and there the net has no square
own_far : (net : ℕ) (rects : List Rect) (tiles : List Tile) (frame : Frame) (k layer : ℕ) (p : Pt) → k < window_count frame → (Contains (touched frame rects) k → ⊥) → LieIn net rects tiles → covers (grow (window_rect frame k) frame.halo) p ≡ true → (o : Option Tile) → owner tiles layer p ≡ o → is_net net (option_map {U = Metal} (λ (t : Tile). (t.net, t.node)) o) ≡ false
own_far net rects tiles frame k layer p below untouched lies inside None is = refl
own_far net rects tiles frame k layer p below untouched lies inside (Some t) is =
    let told = owner_tells tiles layer p t is in
    let here = (and_parts (eqb t.layer layer) (covers t.rect p) told.covering).1 in
    false_from_ne_true (eqb t.net net) (λ own.
    let misses = tile_apart frame rects k t below untouched (All-contains (λ (t : Tile). t.net ≡ net → (q : Pt) → covers t.rect q ≡ true → Any (λ r. covers r q ≡ true) rects) tiles t lies told.member (eqb-true t.net net own)) in
    true≢false (sym ((meets_shares frame t.rect k).1 (p, here, inside)) ∙ misses))

pub far_edits_keep_faces : {V : Type 0} (frame : Frame) → FarEditsKeepFaces V frame
far_edits_keep_faces frame rates net old new before after k axis layer at along up edit below untouched reaches_before reaches_after inside =
    record {
      same = halos_keep_faces (plane_of after) (plane_of before) rates (window_rect frame k) frame.halo axis layer at along up reaches_after
          (λ l p near. far_plane frame net old new before after k l p edit below untouched near) inside;
      others = far_nets_have_no_parts (plane_of before) rates (window_rect frame k) frame.halo net axis layer at along up reaches_before
          (λ l p near. own_far net (old ++ new) before frame k l p below untouched edit.old_in near (owner before l p) refl) inside;
    }
