-- A net that is far from a window has no parts there.
use Rattle.std.proofs.Common.{◌≡◌, ◌≤◌, ◌+◌, ◌⊎◌, inl, inr, ℕ, ℤ, Bool, true, false, cond, [], ◌++◌, Option, Some, None, refl, ap, sym, ◌∙◌, arith}
use Rattle.std.specs.Prelude.{◌==◌, ◌&&◌, is_some, nat_lt, All}
use Rattle.std.specs.Option.{option_map_or, option_and_then}
use Rattle.std.proofs.lemmas.Int.{ints}
use Rattle.std.proofs.lemmas.Bool.{and_left, and_right, true≢false}
use Rattle.std.proofs.lemmas.List.Elements.{All-nil, All-cons, All-append}
use Rattle.rc_geom.specs.declared.rect.Pt.{Pt}
use Rattle.rc_geom.specs.declared.rect.Rect.{Rect}
use Rattle.rc_geom.specs.declared.key.Key.{Key}
use Rattle.rc_geom.specs.declared.key.Key.TheVariants.{Ground, Pair}
use Rattle.rc_geom.specs.Rects.{covers, grow}
use Rattle.rc_geom.specs.Plane.{Metal, Plane}
use Rattle.rc_geom.specs.Line.{ray, line_of, square_of, at_distance}
use Rattle.rc_geom.specs.Faces.{Face, Seen, is_net}
use Rattle.rc_geom.specs.Context.{layer_count}
use Rattle.rc_geom.specs.Rates.{Rates, rate_of}
use Rattle.rc_geom.specs.Parts.{Part, part_for, parts, node_key, pair_key, shared_key, foreign_metal, same_key, worth_at}
use Rattle.rc_geom.specs.Sums.{Adding, total_between, first_line, end_line, first_place, end_place, both_directions, layer_sum}
use Rattle.rc_geom.specs.Extraction.{face_of, parts_of}
use Rattle.rc_geom.specs.Laws.{HaloReaches, IsOfNet, FarNetsAddNothing, FarNetsHaveNoParts}
use Rattle.rc_geom.proofs.Totals.{total_nothing, total_between_nothing}
use Rattle.rc_geom.proofs.Areas.{two_nothings, crosses, covers_crossing}
use Rattle.rc_geom.proofs.Halos.{grown_place, near_low, near_high}
use Rattle.rc_geom.proofs.Rays.{face_tells, end_tells, ray-start, sight_tells}
use Rattle.rc_geom.proofs.KeyTests.{itself}
use Rattle.rc_geom.proofs.Words.{is_key}

-- ---- keys of other nets

other_net : (m net n : ℕ) → (m == n) ≡ false → net ≡ n → (m == net) ≡ false
other_net m net n h e = ap (λ k. m == k) e ∙ h

node_differs : (n : ℕ) (key : Key) (a : Metal) (g : Bool) → IsOfNet n key → (a.0 == n) ≡ false → is_key key (cond g None (Some (Ground a.0 a.1))) ≡ false
node_differs n key a true of_n h = refl
node_differs n (Ground net node) a false of_n h = and_left (a.0 == net) (a.1 == node) (other_net a.0 net n h of_n)
node_differs n (Pair net node other onode) a false of_n h = refl

pair_parts : (a b : Metal) (net node other onode n : ℕ) → (net ≡ n) ⊎ (other ≡ n) → (a.0 == n) ≡ false → (b.0 == n) ≡ false → same_key (Pair a.0 a.1 b.0 b.1) (Pair net node other onode) ≡ false
pair_parts a b net node other onode n (inl e) h k = and_left ((a.0 == net) && (a.1 == node)) ((b.0 == other) && (b.1 == onode)) (and_left (a.0 == net) (a.1 == node) (other_net a.0 net n h e))
pair_parts a b net node other onode n (inr e) h k = and_right ((a.0 == net) && (a.1 == node)) ((b.0 == other) && (b.1 == onode)) (and_left (b.0 == other) (b.1 == onode) (other_net b.0 other n k e))

pair_differs : (n : ℕ) (key : Key) (a b : Metal) (less : Bool) → IsOfNet n key → (a.0 == n) ≡ false → (b.0 == n) ≡ false → same_key (cond less (Pair a.0 a.1 b.0 b.1) (Pair b.0 b.1 a.0 a.1)) key ≡ false
pair_differs n (Ground net node) a b true of_n h k = refl
pair_differs n (Ground net node) a b false of_n h k = refl
pair_differs n (Pair net node other onode) a b true of_n h k = pair_parts a b net node other onode n of_n h k
pair_differs n (Pair net node other onode) a b false of_n h k = pair_parts b a net node other onode n of_n k h

shared_differs : (n : ℕ) (key : Key) (a b : Metal) (g h : Bool) → IsOfNet n key → (a.0 == n) ≡ false → (b.0 == n) ≡ false →
    is_key key (cond h (cond g None (Some (Ground a.0 a.1))) (cond g (cond h None (Some (Ground b.0 b.1))) (Some (pair_key a b)))) ≡ false
shared_differs n key a b g true of_n not_a not_b = node_differs n key a g of_n not_a
shared_differs n key a b true false of_n not_a not_b = node_differs n key b false of_n not_b
shared_differs n key a b false false of_n not_a not_b = pair_differs n key a b (nat_lt a.0 b.0) of_n not_a not_b

share_differs : (n : ℕ) (key : Key) (a : Metal) (f : Option Metal) → IsOfNet n key → (a.0 == n) ≡ false → ((b : Metal) → f ≡ Some b → (b.0 == n) ≡ false) → is_key key (option_and_then (shared_key a) f) ≡ false
share_differs n key a None of_n not_a others = refl
share_differs n key a (Some b) of_n not_a others = shared_differs n key a b (a.1 == 0) (b.1 == 0) of_n not_a (others b refl)

-- parts for other keys
no_worth : {V W : Type 0} (adding : Adding W) (worth : V → W) (key : Key) (v w : V) (j k : Option Key) → is_key key j ≡ false → is_key key k ≡ false → worth_at adding worth key (part_for v j ++ part_for w k) ≡ adding.none
no_worth adding worth key v w None None h i = refl
no_worth adding worth key v w None (Some k) h i = ap (λ (c : Bool). cond c (adding.plus adding.none (worth w)) adding.none) i
no_worth adding worth key v w (Some j) None h i = ap (λ (c : Bool). cond c (adding.plus adding.none (worth v)) adding.none) h
no_worth adding worth key v w (Some j) (Some k) h i =
    ap (λ (c : Bool). cond (same_key k key) (adding.plus (cond c (adding.plus adding.none (worth v)) adding.none) (worth w)) (cond c (adding.plus adding.none (worth v)) adding.none)) h
    ∙ ap (λ (c : Bool). cond c (adding.plus adding.none (worth w)) adding.none) i

-- ---- faces in the window

-- what a face sees of another net, it sees
foreign_one : (own metal b : Metal) (c : Bool) → cond c None (Some metal) ≡ Some b → metal ≡ b
foreign_one own metal b true h = cc
foreign_one own metal b false h = cc

foreign_seen : (own : Metal) (s : Option Seen) (b : Metal) → foreign_metal own s ≡ Some b → (d : ℕ) × (s ≡ Some (d, b))
foreign_seen own None b h = cc
foreign_seen own (Some s) b h = (s.0, ap Some (λ i. (s.0, foreign_one own s.1 b (s.1.0 == own.0) h i)))

face_adds_nothing : {V W : Type 0} (adding : Adding W) (worth : V → W) (plane : Plane) (rates : Rates V) (axis : ℕ) (window : Rect) (halo n : ℕ) (key : Key) (layer : ℕ) (at along : ℤ) (up : Bool) (o : Option Face) → HaloReaches plane rates window halo → ((l : ℕ) (p : Pt) → covers (grow window halo) p ≡ true → is_net n (plane l p) ≡ false) → IsOfNet n key → covers window (square_of axis at along) ≡ true → face_of plane rates axis layer at along up ≡ o →
    worth_at adding worth key (option_map_or (λ face. parts face (rate_of rates plane layer (square_of axis at along) face)) o []) ≡ adding.none
face_adds_nothing adding worth plane rates axis window halo n key layer at along up None reaches far of_n inside is = refl
face_adds_nothing adding worth plane rates axis window halo n key layer at along up (Some face) reaches far of_n inside is =
    let square = square_of axis at along in
    let line = line_of plane layer axis at in
    let c = crosses axis window at along inside in
    let told = face_tells (rates.cap layer) (rates.reach layer) line up along face is in
    let own : plane layer square ≡ Some face.own = sym (ray-start line up along) ∙ (end_tells (ray up line along) face.own told.0).0 in
    let halos = reaches layer square inside (ap is_some own) in
    let not_own : (face.own.0 == n) ≡ false = sym (ap (is_net n) own) ∙ far layer square (grown_place axis window halo at along along c (omega (arith, ints)) (omega (arith, ints))) in
    let rate = rate_of rates plane layer square face in
    no_worth adding worth key rate.0 rate.1 (node_key face.own) (option_and_then (shared_key face.own) (foreign_metal face.own face.sight))
    (node_differs n key face.own (face.own.1 == 0) of_n not_own)
    (share_differs n key face.own (foreign_metal face.own face.sight) of_n not_own (λ b e.
    let found = foreign_seen face.own face.sight b e in
    let seen = sight_tells (rates.reach layer) (ray up line along) found.0 b (sym told.2 ∙ found.1) in
    let near : found.0 + 1 ≤ halo = omega (arith, halos.0, seen.most) in
    let there = at_distance up along (found.0 + 1) in
    sym (ap (is_net n) seen.behind) ∙ far layer (square_of axis at there) (grown_place axis window halo at along there c (near_low up along (found.0 + 1) halo near) (near_high up along (found.0 + 1) halo near))))

pub far_nets_add_nothing : {V W : Type 0} → FarNetsAddNothing V W
far_nets_add_nothing adding sound worth plane rates axis window halo n key laws reaches far of_n =
    let f = λ (layer : ℕ) (at along : ℤ) (up : Bool). worth_at adding worth key (parts_of plane rates axis layer at along up) in
    total_nothing adding sound laws layer_count (λ layer. layer_sum adding axis window (f layer)) (λ layer _.
    total_between_nothing adding sound laws (first_line axis window) (end_line axis window)
    (λ at. total_between adding (first_place axis window) (end_place axis window) (λ along. both_directions adding (f layer at along)))
    (λ at above below.
    total_between_nothing adding sound laws (first_place axis window) (end_place axis window) (λ along. both_directions adding (f layer at along))
    (λ along low high.
    let inside = covers_crossing axis window at along (record { line_low = above; line_high = below; place_low = low; place_high = high }) in
    two_nothings adding sound laws (f layer at along) (λ up. face_adds_nothing adding worth plane rates axis window halo n key layer at along up (face_of plane rates axis layer at along up) reaches far of_n inside refl))))

-- ---- parts of faces in the window

-- a key that isn't of the net
not_of : (n : ℕ) (o : Option Key) → ((key : Key) → IsOfNet n key → is_key key o ≡ false) → (k : Key) → o ≡ Some k → ¬ IsOfNet n k
not_of n o apart k is of_n = true≢false (sym (ap (is_key k) is ∙ itself k) ∙ apart k of_n)

part_apart : {V : Type 0} (n : ℕ) (v : V) (o : Option Key) → ((key : Key) → IsOfNet n key → is_key key o ≡ false) → All (λ (part : Part V). ¬ IsOfNet n part.key) (part_for v o)
part_apart n v None apart = All-nil (λ part. ¬ IsOfNet n part.key)
part_apart n v (Some k) apart = All-cons (λ part. ¬ IsOfNet n part.key) (record { key = k; amount = v }) [] (not_of n (Some k) apart k refl) (All-nil (λ part. ¬ IsOfNet n part.key))

face_has_no_part : {V : Type 0} (plane : Plane) (rates : Rates V) (axis : ℕ) (window : Rect) (halo n : ℕ) (layer : ℕ) (at along : ℤ) (up : Bool) (o : Option Face) → HaloReaches plane rates window halo → ((l : ℕ) (p : Pt) → covers (grow window halo) p ≡ true → is_net n (plane l p) ≡ false) → covers window (square_of axis at along) ≡ true → face_of plane rates axis layer at along up ≡ o →
    All (λ (part : Part V). ¬ IsOfNet n part.key) (option_map_or (λ face. parts face (rate_of rates plane layer (square_of axis at along) face)) o [])
face_has_no_part plane rates axis window halo n layer at along up None reaches far inside is = All-nil (λ part. ¬ IsOfNet n part.key)
face_has_no_part plane rates axis window halo n layer at along up (Some face) reaches far inside is =
    let square = square_of axis at along in
    let line = line_of plane layer axis at in
    let c = crosses axis window at along inside in
    let told = face_tells (rates.cap layer) (rates.reach layer) line up along face is in
    let own : plane layer square ≡ Some face.own = sym (ray-start line up along) ∙ (end_tells (ray up line along) face.own told.0).0 in
    let halos = reaches layer square inside (ap is_some own) in
    let not_own : (face.own.0 == n) ≡ false = sym (ap (is_net n) own) ∙ far layer square (grown_place axis window halo at along along c (omega (arith, ints)) (omega (arith, ints))) in
    let rate = rate_of rates plane layer square face in
    All-append (λ part. ¬ IsOfNet n part.key) (part_for rate.0 (node_key face.own)) (part_for rate.1 (option_and_then (shared_key face.own) (foreign_metal face.own face.sight)))
    (part_apart n rate.0 (node_key face.own) (λ key of_n. node_differs n key face.own (face.own.1 == 0) of_n not_own))
    (part_apart n rate.1 (option_and_then (shared_key face.own) (foreign_metal face.own face.sight)) (λ key of_n. share_differs n key face.own (foreign_metal face.own face.sight) of_n not_own (λ b e.
    let found = foreign_seen face.own face.sight b e in
    let seen = sight_tells (rates.reach layer) (ray up line along) found.0 b (sym told.2 ∙ found.1) in
    let near : found.0 + 1 ≤ halo = omega (arith, halos.0, seen.most) in
    let there = at_distance up along (found.0 + 1) in
    sym (ap (is_net n) seen.behind) ∙ far layer (square_of axis at there) (grown_place axis window halo at along there c (near_low up along (found.0 + 1) halo near) (near_high up along (found.0 + 1) halo near)))))

pub far_nets_have_no_parts : {V : Type 0} → FarNetsHaveNoParts V
far_nets_have_no_parts plane rates window halo n axis layer at along up reaches far inside =
    face_has_no_part plane rates axis window halo n layer at along up (face_of plane rates axis layer at along up) reaches far inside refl
