-- How many parts the faces of tiles have at most.
use Rattle.std.proofs.Common.{◌≡◌, ◌≢◌, ◌≤◌, ◌<◌, ◌+◌, ◌*◌, ⊎_elim, ℕ, zero, suc, ℤ, pos, ◌+ℤ◌, ◌-ℤ◌, ◌≤ℤ◌, ◌<ℤ◌, Bool, true, false, cond, List, [], ◌∷◌, Option, Some, None, get_or, eqb, refl, ap, sym, subst, ◌∙◌, arith}
use Rattle.std.specs.Prelude.{int_le, int_lt, nat_le, ◌&&◌, option_map, All, Contains, MatchOption}
use Rattle.std.specs.Option.{option_map_or, option_and_then}
use Rattle.std.specs.List.{sum_by, fold}
use Rattle.std.proofs.lemmas.Int.{ints, by_lt_z}
use Rattle.std.proofs.lemmas.Bool.{and_parts, and_from, cases_eq, cases_order, eqb-true, eq-eqb, leb-true, true≢false}
use Rattle.std.proofs.lemmas.List.{get_or_default}
use Rattle.std.proofs.lemmas.List.Elements.{All-contains, All-head, All-tail}
use Rattle.std.proofs.lemmas.List.Sums.{sum_by-cons, get_or-le-sum_by, sum_by-le-sum_by}
use Rattle.rc_geom.specs.declared.rect.Pt.{Pt}
use Rattle.rc_geom.specs.declared.rect.Rect.{Rect}
use Rattle.rc_geom.specs.declared.tile.Tile.{Tile}
use Rattle.rc_geom.specs.declared.key.Key.{Key}
use Rattle.rc_geom.specs.Rects.{covers}
use Rattle.rc_geom.specs.Plane.{Metal, claims, owner, plane_of, NetsApart, Overlaps}
use Rattle.rc_geom.specs.Line.{ray, line_of, square_of, at_distance}
use Rattle.rc_geom.specs.Faces.{Face, is_net}
use Rattle.rc_geom.specs.Context.{layer_count}
use Rattle.rc_geom.specs.Rates.{Rates, rate_of}
use Rattle.rc_geom.specs.Parts.{Part, parts, node_key, shared_key, foreign_metal, same_key, worth_at}
use Rattle.rc_geom.specs.Sums.{numbers, total, total_between, extent, first_line, end_line, first_place, end_place, both_directions, layer_sum}
use Rattle.rc_geom.specs.Extraction.{face_of, parts_of}
use Rattle.rc_geom.specs.Laws.{IsOwner, CountsAreBounded, ValuesFollowCounts}
use Rattle.rc_geom.proofs.Areas.{crosses, covers_crossing, numbers_are_neutral}
use Rattle.rc_geom.proofs.Bounds.{lt_tells, le_tells, lt_passes, le_passes}
use Rattle.rc_geom.proofs.Owners.{owners_are_least, apart_nets}
use Rattle.rc_geom.proofs.Rays.{face_tells, end_tells, ray-start}
use Rattle.rc_geom.proofs.Totals.{total_none, total_suc, extent_is}
use Rattle.rc_geom.proofs.Words.{is_key, two_parts}

-- ---- totals of numbers

total_le : (n : ℕ) (f g : ℕ → ℕ) → ((k : ℕ) → f k ≤ g k) → total numbers n f ≤ total numbers n g
total_le zero f g each = omega (arith, total_none numbers f, total_none numbers g)
total_le (suc n) f g each =
    let before = total_le n f g each in
    let here = each n in
    let a = total_suc numbers n (suc n) f (omega arith) in
    let b = total_suc numbers n (suc n) g (omega arith) in
    omega (arith, before, here, a, b)

total_add : (n : ℕ) (f g : ℕ → ℕ) → total numbers n (λ k. f k + g k) ≡ total numbers n f + total numbers n g
total_add zero f g = omega (arith, total_none numbers (λ k. f k + g k), total_none numbers f, total_none numbers g)
total_add (suc n) f g =
    let before = total_add n f g in
    let a = total_suc numbers n (suc n) (λ k. f k + g k) (omega arith) in
    let b = total_suc numbers n (suc n) f (omega arith) in
    let c = total_suc numbers n (suc n) g (omega arith) in
    omega (arith, before, a, b, c)

times_add : (c a b : ℕ) → c * (a + b) ≡ c * a + c * b
times_add c a b = grind arith

total_times : (n c : ℕ) (f : ℕ → ℕ) → total numbers n (λ k. c * f k) ≡ c * total numbers n f
total_times zero c f = total_none numbers (λ k. c * f k) ∙ (grind arith ∙ ap (λ (v : ℕ). c * v) (sym (total_none numbers f)))
total_times (suc n) c f =
    total_suc numbers n (suc n) (λ k. c * f k) (omega arith)
    ∙ (ap (λ (v : ℕ). v + c * f n) (total_times n c f)
    ∙ (sym (times_add c (total numbers n f) (f n))
    ∙ ap (λ (v : ℕ). c * v) (sym (total_suc numbers n (suc n) f (omega arith)))))

total_0 : (n : ℕ) → total numbers n (λ k. 0) ≡ 0
total_0 zero = total_none numbers (λ k. 0)
total_0 (suc n) = let before = total_0 n in let a = total_suc numbers n (suc n) (λ k. 0) (omega arith) in omega (arith, before, a)

total_swap : (n : ℕ) (h : Tile → ℕ → ℕ) (ts : List Tile) → total numbers n (λ k. sum_by (λ t. h t k) ts) ≡ sum_by (λ t. total numbers n (h t)) ts
total_swap n h [] = total_0 n
total_swap n h (t ∷ ts) =
    ap (total numbers n) (λ i k. sum_by-cons (λ t. h t k) t ts i)
    ∙ (total_add n (h t) (λ k. sum_by (λ t. h t k) ts)
    ∙ (ap (λ (v : ℕ). total numbers n (h t) + v) (total_swap n h ts)
    ∙ sym (sum_by-cons (λ t. total numbers n (h t)) t ts)))

times_le : (c a b : ℕ) → a ≤ b → c * a ≤ c * b
times_le zero a b less = omega arith
times_le (suc c) a b less = let before = times_le c a b less in omega (arith, before)

-- what the tiles add over the numbers, where each adds so much at most
swap_bound : (n c : ℕ) (h : Tile → ℕ → ℕ) (b : Tile → ℕ) (ts : List Tile) → ((t : Tile) → total numbers n (h t) ≤ b t) → total numbers n (λ k. c * sum_by (λ t. h t k) ts) ≤ c * sum_by b ts
swap_bound n c h b ts each =
    let one = total_times n c (λ k. sum_by (λ t. h t k) ts) in
    let two : c * total numbers n (λ k. sum_by (λ t. h t k) ts) ≡ c * sum_by (λ t. total numbers n (h t)) ts = ap (λ (v : ℕ). c * v) (total_swap n h ts) in
    let three = times_le c (sum_by (λ t. total numbers n (h t)) ts) (sum_by b ts) (sum_by-le-sum_by (λ t. total numbers n (h t)) b ts each) in
    omega (arith, one, two, three)

-- ---- places between two others

abbrev as_number : Bool → ℕ
as_number b = cond b 1 0

inside : ℤ → ℤ → ℤ → ℕ
inside a b z = as_number (int_le a z && int_lt z b)

record Few (n e : ℕ) (lo a : ℤ) (s : ℕ) : Type 0 where
  most : s ≤ e
  none : (lo +ℤ pos n) ≤ℤ a → s ≡ 0
  some : a ≤ℤ (lo +ℤ pos n) → pos s ≤ℤ ((lo +ℤ pos n) -ℤ a)

few_step : (n e : ℕ) (lo a : ℤ) (s : ℕ) (b : Bool) → (int_le a (lo +ℤ pos n) && int_lt (lo +ℤ pos n) (a +ℤ pos e)) ≡ b → Few n e lo a s → Few (suc n) e lo a (s + cond b 1 0)
few_step n e lo a s true is few =
    let both = and_parts (int_le a (lo +ℤ pos n)) (int_lt (lo +ℤ pos n) (a +ℤ pos e)) is in
    let low = le_tells a (lo +ℤ pos n) both.0 in
    let high = lt_tells (lo +ℤ pos n) (a +ℤ pos e) both.1 in
    let so_far = few.some low in
    record {
      most = omega (arith, ints, low, high, so_far);
      none = λ past. absurd (omega (arith, ints, low, past));
      some = λ past. omega (arith, ints, so_far);
    }
few_step n e lo a s false is few =
    record {
      most = omega (arith, few.most);
      none = λ past. let before = few.none (omega (arith, ints, past)) in omega (arith, before);
      some = λ past. by_lt_z (lo +ℤ pos n) a
          (λ later. let before = few.none (omega (arith, ints, later)) in omega (arith, ints, before, past))
          (λ here. let before = few.some here in omega (arith, ints, before));
    }

few_inside : (n e : ℕ) (lo a : ℤ) → Few n e lo a (total numbers n (λ k. inside a (a +ℤ pos e) (lo +ℤ pos k)))
unfolding inside
few_inside zero e lo a =
    subst (Few 0 e lo a) (sym (total_none numbers (λ k. inside a (a +ℤ pos e) (lo +ℤ pos k)))) (record { most = omega arith; none = λ past. refl; some = λ past. omega (arith, ints, past) })
few_inside (suc n) e lo a =
    subst (Few (suc n) e lo a) (sym (total_suc numbers n (suc n) (λ k. inside a (a +ℤ pos e) (lo +ℤ pos k)) (omega arith)))
    (few_step n e lo a (total numbers n (λ k. inside a (a +ℤ pos e) (lo +ℤ pos k))) (int_le a (lo +ℤ pos n) && int_lt (lo +ℤ pos n) (a +ℤ pos e)) refl (few_inside n e lo a))

inside_none : (a b z : ℤ) (c : Bool) → (int_le a z && int_lt z b) ≡ c → b ≤ℤ a → as_number c ≡ 0
inside_none a b z true is none =
    let both = and_parts (int_le a z) (int_lt z b) is in
    let low = le_tells a z both.0 in
    let high = lt_tells z b both.1 in
    absurd (omega (arith, ints, low, high, none))
inside_none a b z false is none = refl

inside_is : (a b z : ℤ) → a ≤ℤ z → z <ℤ b → inside a b z ≡ 1
unfolding inside
inside_is a b z low high = ap as_number (and_from (int_le a z) (int_lt z b) (le_passes a z low) (lt_passes z b high))

few_between : (lo hi a b : ℤ) → total_between numbers lo hi (inside a b) ≤ extent a b
unfolding inside
few_between lo hi a b =
    by_lt_z a b
    (λ some.
    let is = extent_is a b (omega (arith, ints, some)) in
    let end : (a +ℤ pos (extent a b)) ≡ b = omega (arith, ints, is) in
    subst (λ (z : ℤ). total_between numbers lo hi (inside a z) ≤ extent a b) end (few_inside (extent lo hi) (extent a b) lo a).most)
    (λ none.
    let zero : total_between numbers lo hi (inside a b) ≡ 0 = ap (total numbers (extent lo hi)) (λ i k. inside_none a b (lo +ℤ pos k) (int_le a (lo +ℤ pos k) && int_lt (lo +ℤ pos k) b) refl none i) ∙ total_0 (extent lo hi) in
    omega (arith, zero))

-- ---- the tiles that a face lies at the end of

abbrev edge : Bool → ℕ → Rect → ℤ
edge true axis r = end_place axis r -ℤ pos 1
edge false axis r = first_place axis r

-- 1 where the tile ends there in that direction, else 0
abbrev ends : ℕ → Bool → ℤ → Tile → ℕ
ends axis up along t = inside (edge up axis t.rect) (edge up axis t.rect +ℤ pos 1) along

-- 1 where the line of the layer crosses the tile, else 0
abbrev lies : ℕ → ℕ → ℤ → Tile → ℕ
lies axis layer at t = as_number (eqb t.layer layer) * inside (first_line axis t.rect) (end_line axis t.rect) at

overlap_apart : (tiles : List Tile) (t u : Tile) → NetsApart tiles → Contains tiles t → Contains tiles u → t.net ≢ u.net → Overlaps t u → ⊥
overlap_apart tiles t u nets in_t in_u differ over =
    let i = in_t.0 in
    let j = in_u.0 in
    let at_u : get_or tiles j t ≡ u = get_or_default tiles j t u in_u.1 ∙ in_u.2 in
    let at_t : get_or tiles i u ≡ t = get_or_default tiles i u t in_t.1 ∙ in_t.2 in
    ⊎_elim
    (λ (e : i ≡ j). differ (ap (λ (v : Tile). v.net) (sym in_t.2 ∙ (ap (λ k. get_or tiles k t) e ∙ at_u))))
    (⊎_elim
    (λ (less : i < j). apart_nets tiles i j t u less in_u.1 in_t.2 at_u nets differ over)
    (λ (more : j < i). apart_nets tiles j i u t more in_t.1 in_u.2 at_t nets (λ same. differ (sym same)) (sym over.0, (over.1.0, over.1.2, over.1.1))))
    (cases_order i j)

metal_of : Tile → Metal
metal_of t = (t.net, t.node)

-- two tiles of one square are of one net
same_net : (tiles : List Tile) (layer : ℕ) (p : Pt) (t u : Tile) → NetsApart tiles → Contains tiles t → Contains tiles u → claims layer p t ≡ true → claims layer p u ≡ true → t.net ≡ u.net
same_net tiles layer p t u nets in_t in_u does_t does_u =
    let parts_t = and_parts (eqb t.layer layer) (covers t.rect p) does_t in
    let parts_u = and_parts (eqb u.layer layer) (covers u.rect p) does_u in
    ⊎_elim
    (λ (same : t.net ≡ u.net). same)
    (λ (differ : t.net ≢ u.net). absurd (overlap_apart tiles t u nets in_t in_u differ (eqb-true t.layer layer parts_t.0 ∙ sym (eqb-true u.layer layer parts_u.0), (p, parts_t.1, parts_u.1))))
    (cases_eq t.net u.net)

-- a square that a tile covers has that tile's net
covered_net : (tiles : List Tile) (layer : ℕ) (p : Pt) (t : Tile) → NetsApart tiles → Contains tiles t → claims layer p t ≡ true → (o : Option Tile) → MatchOption o (All (λ u. claims layer p u ≡ false) tiles) (IsOwner tiles layer p) → is_net t.net (option_map {U = Metal} (λ (u : Tile). (u.net, u.node)) o) ≡ true
covered_net tiles layer p t nets in_t does None told = absurd (true≢false (sym does ∙ All-contains (λ (u : Tile). claims layer p u ≡ false) tiles t told in_t))
covered_net tiles layer p t nets in_t does (Some u) told = eq-eqb u.net t.net (sym (same_net tiles layer p t u nets in_t told.member does told.covering))

-- the tile that owns a square behind which its net ends does so too
ends_there : (tiles : List Tile) (axis layer : ℕ) (at along : ℤ) (up : Bool) (t : Tile) → NetsApart tiles → IsOwner tiles layer (square_of axis at along) t → is_net t.net (plane_of tiles layer (square_of axis at (at_distance up along 1))) ≡ false → ends axis up along t ≡ 1
ends_there tiles axis layer at along true t nets own stop =
    let parts = and_parts (eqb t.layer layer) (covers t.rect (square_of axis at along)) own.covering in
    let c = crosses axis t.rect at along parts.1 in
    by_lt_z (along +ℤ pos 1) (end_place axis t.rect)
    (λ more.
    let next = square_of axis at (along +ℤ pos 1) in
    let there = covers_crossing axis t.rect at (along +ℤ pos 1) (record { line_low = c.line_low; line_high = c.line_high; place_low = omega (arith, ints, c.place_low); place_high = more }) in
    absurd (true≢false (sym (covered_net tiles layer next t nets own.member (and_from (eqb t.layer layer) (covers t.rect next) parts.0 there) (owner tiles layer next) (owners_are_least tiles layer next)) ∙ stop)))
    (λ last. inside_is (end_place axis t.rect -ℤ pos 1) ((end_place axis t.rect -ℤ pos 1) +ℤ pos 1) along (omega (arith, ints, last)) (omega (arith, ints, c.place_high)))
ends_there tiles axis layer at along false t nets own stop =
    let parts = and_parts (eqb t.layer layer) (covers t.rect (square_of axis at along)) own.covering in
    let c = crosses axis t.rect at along parts.1 in
    by_lt_z (first_place axis t.rect) along
    (λ more.
    let next = square_of axis at (along -ℤ pos 1) in
    let there = covers_crossing axis t.rect at (along -ℤ pos 1) (record { line_low = c.line_low; line_high = c.line_high; place_low = omega (arith, ints, more); place_high = omega (arith, ints, c.place_high) }) in
    absurd (true≢false (sym (covered_net tiles layer next t nets own.member (and_from (eqb t.layer layer) (covers t.rect next) parts.0 there) (owner tiles layer next) (owners_are_least tiles layer next)) ∙ stop)))
    (λ first. inside_is (first_place axis t.rect) (first_place axis t.rect +ℤ pos 1) along (omega (arith, ints, c.place_low)) (omega (arith, ints, first)))

counted : (tiles : List Tile) (axis layer : ℕ) (at along : ℤ) (up : Bool) (t : Tile) → IsOwner tiles layer (square_of axis at along) t → ends axis up along t ≡ 1 → 1 ≤ sum_by (λ t. lies axis layer at t * ends axis up along t) tiles
counted tiles axis layer at along up t own ending =
    let parts = and_parts (eqb t.layer layer) (covers t.rect (square_of axis at along)) own.covering in
    let c = crosses axis t.rect at along parts.1 in
    let on : as_number (eqb t.layer layer) ≡ 1 = ap as_number parts.0 in
    let line = inside_is (first_line axis t.rect) (end_line axis t.rect) at c.line_low c.line_high in
    let adds = λ (u : Tile). lies axis layer at u * ends axis up along u in
    let one : adds t ≡ 1 = ap (λ (v : ℕ). v * inside (first_line axis t.rect) (end_line axis t.rect) at * ends axis up along t) on ∙ (ap (λ (v : ℕ). 1 * v * ends axis up along t) line ∙ ap (λ (v : ℕ). 1 * 1 * v) ending) in
    let least = get_or-le-sum_by adds tiles own.member.0 t own.member.1 in
    let there : adds (get_or tiles own.member.0 t) ≡ adds t = ap adds own.member.2 in
    omega (arith, one, least, there)

-- ---- what a face adds

as_most_1 : (b : Bool) → as_number b ≤ 1
as_most_1 true = omega arith
as_most_1 false = omega arith

parts_few : {V : Type 0} (key : Key) (face : Face) (rate : V × V) → worth_at numbers (λ (v : V). 1) key (parts face rate) ≤ 2
parts_few {V} key face rate =
    let one = two_parts numbers (λ _. true) numbers_are_neutral (λ (v : V). 1) key rate.0 rate.1 (node_key face.own) (option_and_then (shared_key face.own) (foreign_metal face.own face.sight)) refl refl in
    let a = as_most_1 (is_key key (node_key face.own)) in
    let b = as_most_1 (is_key key (option_and_then (shared_key face.own) (foreign_metal face.own face.sight))) in
    omega (arith, one, a, b)

abbrev adds : {V : Type 0} → List Tile → Rates V → ℕ → Key → ℕ → ℤ → ℤ → Bool → ℕ
adds {V} tiles rates axis key layer at along up = worth_at numbers (λ (v : V). 1) key (parts_of (plane_of tiles) rates axis layer at along up)

-- the tile that owns a square with metal
owned : (tiles : List Tile) (layer : ℕ) (p : Pt) (own : Metal) (o : Option Tile) → MatchOption o (All (λ u. claims layer p u ≡ false) tiles) (IsOwner tiles layer p) → option_map {U = Metal} (λ (u : Tile). (u.net, u.node)) o ≡ Some own → (t : Tile) × IsOwner tiles layer p t × (t.net ≡ own.0)
owned tiles layer p own None told is = cc
owned tiles layer p own (Some t) told is = (t, told, cc)

face_few : {V : Type 0} (tiles : List Tile) (rates : Rates V) (axis : ℕ) (key : Key) (layer : ℕ) (at along : ℤ) (up : Bool) → NetsApart tiles → (o : Option Face) → face_of (plane_of tiles) rates axis layer at along up ≡ o →
    worth_at numbers (λ (v : V). 1) key (option_map_or (λ face. parts face (rate_of rates (plane_of tiles) layer (square_of axis at along) face)) o []) ≤ 2 * sum_by (λ t. lies axis layer at t * ends axis up along t) tiles
face_few tiles rates axis key layer at along up nets None is = omega arith
face_few tiles rates axis key layer at along up nets (Some face) is =
    let square = square_of axis at along in
    let line = line_of (plane_of tiles) layer axis at in
    let told = face_tells (rates.cap layer) (rates.reach layer) line up along face is in
    let end = end_tells (ray up line along) face.own told.0 in
    let own = owned tiles layer square face.own (owner tiles layer square) (owners_are_least tiles layer square) (sym (ray-start line up along) ∙ end.0) in
    let ending = ends_there tiles axis layer at along up own.0 nets own.1 (ap (λ (n : ℕ). is_net n (plane_of tiles layer (square_of axis at (at_distance up along 1)))) own.2 ∙ end.1) in
    let some = counted tiles axis layer at along up own.0 own.1 ending in
    let few = parts_few key face (rate_of rates (plane_of tiles) layer square face) in
    omega (arith, some, few)

adds_few : {V : Type 0} (tiles : List Tile) (rates : Rates V) (axis : ℕ) (key : Key) → NetsApart tiles → (layer : ℕ) (at along : ℤ) (up : Bool) → adds tiles rates axis key layer at along up ≤ 2 * sum_by (λ t. lies axis layer at t * ends axis up along t) tiles
adds_few tiles rates axis key nets layer at along up = face_few tiles rates axis key layer at along up nets (face_of (plane_of tiles) rates axis layer at along up) refl

-- ---- along a line, over lines, over layers

sum_plus : (f g : Tile → ℕ) (ts : List Tile) → sum_by f ts + sum_by g ts ≡ sum_by (λ t. f t + g t) ts
sum_plus f g [] = refl
sum_plus f g (t ∷ ts) =
    let before = sum_plus f g ts in
    let a = sum_by-cons f t ts in
    let b = sum_by-cons g t ts in
    let c = sum_by-cons (λ t. f t + g t) t ts in
    omega (arith, before, a, b, c)

abbrev both_ends : ℕ → ℤ → Tile → ℕ
both_ends axis along t = ends axis false along t + ends axis true along t

both_few : {V : Type 0} (tiles : List Tile) (rates : Rates V) (axis : ℕ) (key : Key) → NetsApart tiles → (layer : ℕ) (at along : ℤ) → both_directions numbers (adds tiles rates axis key layer at along) ≤ 2 * sum_by (λ t. lies axis layer at t * both_ends axis along t) tiles
both_few tiles rates axis key nets layer at along =
    let down = λ (t : Tile). lies axis layer at t * ends axis false along t in
    let up = λ (t : Tile). lies axis layer at t * ends axis true along t in
    let a = adds_few tiles rates axis key nets layer at along false in
    let b = adds_few tiles rates axis key nets layer at along true in
    let c = sum_plus down up tiles in
    let d : sum_by (λ t. down t + up t) tiles ≡ sum_by (λ t. lies axis layer at t * both_ends axis along t) tiles = ap (λ (f : Tile → ℕ). sum_by f tiles) (λ i t. sym (times_add (lies axis layer at t) (ends axis false along t) (ends axis true along t)) i) in
    omega (arith, a, b, c, d)

times_swap : (a b : ℕ) → a * b ≡ b * a
times_swap a b = grind arith

tile_ends : (axis layer : ℕ) (at lo hi : ℤ) (t : Tile) → total_between numbers lo hi (λ along. lies axis layer at t * both_ends axis along t) ≤ 2 * lies axis layer at t
tile_ends axis layer at lo hi t =
    let n = extent lo hi in
    let low = edge false axis t.rect in
    let high = edge true axis t.rect in
    let one = total_times n (lies axis layer at t) (λ k. both_ends axis (lo +ℤ pos k) t) in
    let two = total_add n (λ k. ends axis false (lo +ℤ pos k) t) (λ k. ends axis true (lo +ℤ pos k) t) in
    let a = (few_inside n 1 lo low).most in
    let b = (few_inside n 1 lo high).most in
    let few : total numbers n (λ k. both_ends axis (lo +ℤ pos k) t) ≤ 2 = omega (arith, two, a, b) in
    let three = times_le (lies axis layer at t) (total numbers n (λ k. both_ends axis (lo +ℤ pos k) t)) 2 few in
    let four = times_swap (lies axis layer at t) 2 in
    omega (arith, one, three, four)

line_few : {V : Type 0} (tiles : List Tile) (rates : Rates V) (axis : ℕ) (key : Key) → NetsApart tiles → (layer : ℕ) (at lo hi : ℤ) → total_between numbers lo hi (λ along. both_directions numbers (adds tiles rates axis key layer at along)) ≤ 2 * sum_by (λ t. 2 * lies axis layer at t) tiles
line_few tiles rates axis key nets layer at lo hi =
    let a = total_le (extent lo hi) (λ k. both_directions numbers (adds tiles rates axis key layer at (lo +ℤ pos k))) (λ k. 2 * sum_by (λ t. lies axis layer at t * both_ends axis (lo +ℤ pos k) t) tiles) (λ k. both_few tiles rates axis key nets layer at (lo +ℤ pos k)) in
    let b = swap_bound (extent lo hi) 2 (λ t k. lies axis layer at t * both_ends axis (lo +ℤ pos k) t) (λ t. 2 * lies axis layer at t) tiles (λ t. tile_ends axis layer at lo hi t) in
    omega (arith, a, b)

abbrev lines : ℕ → Tile → ℕ
lines axis t = extent (first_line axis t.rect) (end_line axis t.rect)

tile_lines : (axis layer : ℕ) (lo hi : ℤ) (t : Tile) → total_between numbers lo hi (λ at. 2 * lies axis layer at t) ≤ 2 * (as_number (eqb t.layer layer) * lines axis t)
tile_lines axis layer lo hi t =
    let n = extent lo hi in
    let on = as_number (eqb t.layer layer) in
    let crossed = λ (k : ℕ). inside (first_line axis t.rect) (end_line axis t.rect) (lo +ℤ pos k) in
    let one = total_times n 2 (λ k. on * crossed k) in
    let two = total_times n on crossed in
    let few : total numbers n crossed ≤ lines axis t = few_between lo hi (first_line axis t.rect) (end_line axis t.rect) in
    let three = times_le on (total numbers n crossed) (lines axis t) few in
    omega (arith, one, two, three)

layer_few : {V : Type 0} (tiles : List Tile) (rates : Rates V) (axis : ℕ) (r : Rect) (key : Key) → NetsApart tiles → (layer : ℕ) → layer_sum numbers axis r (adds tiles rates axis key layer) ≤ 2 * sum_by (λ t. 2 * (as_number (eqb t.layer layer) * lines axis t)) tiles
layer_few tiles rates axis r key nets layer =
    let lo = first_line axis r in
    let n = extent lo (end_line axis r) in
    let a = total_le n (λ k. total_between numbers (first_place axis r) (end_place axis r) (λ along. both_directions numbers (adds tiles rates axis key layer (lo +ℤ pos k) along)))
    (λ k. 2 * sum_by (λ t. 2 * lies axis layer (lo +ℤ pos k) t) tiles) (λ k. line_few tiles rates axis key nets layer (lo +ℤ pos k) (first_place axis r) (end_place axis r)) in
    let b = swap_bound n 2 (λ t k. 2 * lies axis layer (lo +ℤ pos k) t) (λ t. 2 * (as_number (eqb t.layer layer) * lines axis t)) tiles (λ t. tile_lines axis layer lo (end_line axis r) t) in
    omega (arith, a, b)

record One (n j s : ℕ) : Type 0 where
  most : s ≤ 1
  none : n ≤ j → s ≡ 0

one_step : (n j s : ℕ) (b : Bool) → eqb j n ≡ b → One n j s → One (suc n) j (s + as_number b)
one_step n j s true is one =
    let here = eqb-true j n is in
    let none = one.none (omega (arith, here)) in
    record { most = omega (arith, none); none = λ past. absurd (omega (arith, here, past)) }
one_step n j s false is one = record { most = omega (arith, one.most); none = λ past. let none = one.none (omega (arith, past)) in omega (arith, none) }

one_of : (n j : ℕ) → One n j (total numbers n (λ k. as_number (eqb j k)))
one_of zero j = subst (One 0 j) (sym (total_none numbers (λ k. as_number (eqb j k)))) (record { most = omega arith; none = λ past. refl })
one_of (suc n) j =
    subst (One (suc n) j) (sym (total_suc numbers n (suc n) (λ k. as_number (eqb j k)) (omega arith)))
    (one_step n j (total numbers n (λ k. as_number (eqb j k))) (eqb j n) refl (one_of n j))

tile_layers : (axis : ℕ) (t : Tile) → total numbers layer_count (λ layer. 2 * (as_number (eqb t.layer layer) * lines axis t)) ≤ 2 * lines axis t
tile_layers axis t =
    let on = λ (layer : ℕ). as_number (eqb t.layer layer) in
    let one = total_times layer_count 2 (λ layer. on layer * lines axis t) in
    let two : total numbers layer_count (λ layer. on layer * lines axis t) ≡ lines axis t * total numbers layer_count on = ap (total numbers layer_count) (λ i layer. times_swap (on layer) (lines axis t) i) ∙ total_times layer_count (lines axis t) on in
    let three = times_le (lines axis t) (total numbers layer_count on) 1 (one_of layer_count t.layer).most in
    let four = times_swap (lines axis t) 1 in
    omega (arith, one, two, three, four)

sum_twice : (f : Tile → ℕ) (ts : List Tile) → sum_by (λ t. 2 * f t) ts ≡ 2 * sum_by f ts
sum_twice f [] = refl
sum_twice f (t ∷ ts) =
    let before = sum_twice f ts in
    let a = sum_by-cons (λ t. 2 * f t) t ts in
    let b = sum_by-cons f t ts in
    omega (arith, before, a, b)

pub counts_are_bounded : {V : Type 0} → CountsAreBounded V
counts_are_bounded tiles rates axis r key nets =
    let a = total_le layer_count (λ layer. layer_sum numbers axis r (adds tiles rates axis key layer)) (λ layer. 2 * sum_by (λ t. 2 * (as_number (eqb t.layer layer) * lines axis t)) tiles) (λ layer. layer_few tiles rates axis r key nets layer) in
    let b = swap_bound layer_count 2 (λ t layer. 2 * (as_number (eqb t.layer layer) * lines axis t)) (λ t. 2 * lines axis t) tiles (λ t. tile_layers axis t) in
    let c = sum_twice (lines axis) tiles in
    omega (arith, a, b, c)

-- ---- values

worth_step : {V : Type 0} (worth : V → ℕ) (key : Key) (s : ℕ) (part : Part V) → ℕ
worth_step worth key s part = cond (same_key part.key key) (s + worth part.amount) s

step_le : (most s n amount : ℕ) (b : Bool) → s ≤ most * n → amount ≤ most → cond b (s + amount) s ≤ most * cond b (n + 1) n
step_le most s n amount true so_far small = let e = times_add most n 1 in let f = times_swap most 1 in omega (arith, so_far, small, e, f)
step_le most s n amount false so_far small = so_far

fold_le : (most : ℕ) (key : Key) (s n : ℕ) (ps : List (Part ℕ)) → s ≤ most * n → All (λ (part : Part ℕ). nat_le part.amount most ≡ true) ps →
    fold (worth_step (λ v. v) key) s ps ≤ most * fold (worth_step (λ _. 1) key) n ps
unfolding worth_step
fold_le most key s n [] so_far each = so_far
fold_le most key s n (part ∷ ps) so_far each =
    let small = leb-true part.amount most (All-head (λ (part : Part ℕ). nat_le part.amount most ≡ true) part ps each) in
    fold_le most key (cond (same_key part.key key) (s + part.amount) s) (cond (same_key part.key key) (n + 1) n) ps
    (step_le most s n part.amount (same_key part.key key) so_far small)
    (All-tail (λ (part : Part ℕ). nat_le part.amount most ≡ true) part ps each)

worth_le : (most : ℕ) (key : Key) (ps : List (Part ℕ)) → All (λ (part : Part ℕ). nat_le part.amount most ≡ true) ps → worth_at numbers (λ v. v) key ps ≤ most * worth_at numbers (λ _. 1) key ps
unfolding worth_step
worth_le most key ps each = fold_le most key 0 0 ps (omega arith) each

scaled_le : (n most : ℕ) (f g : ℕ → ℕ) → ((k : ℕ) → f k ≤ most * g k) → total numbers n f ≤ most * total numbers n g
scaled_le n most f g each = let a = total_le n f (λ k. most * g k) each in let b = total_times n most g in omega (arith, a, b)

pub values_follow_counts : ValuesFollowCounts
values_follow_counts most plane rates axis r key sound =
    let value = λ (layer : ℕ) (at along : ℤ) (up : Bool). worth_at numbers (λ v. v) key (parts_of plane rates axis layer at along up) in
    let count = λ (layer : ℕ) (at along : ℤ) (up : Bool). worth_at numbers (λ _. 1) key (parts_of plane rates axis layer at along up) in
    let lo = first_line axis r in
    let from = first_place axis r in
    scaled_le layer_count most (λ layer. layer_sum numbers axis r (value layer)) (λ layer. layer_sum numbers axis r (count layer)) (λ layer.
    scaled_le (extent lo (end_line axis r)) most
    (λ k. total_between numbers from (end_place axis r) (λ along. both_directions numbers (value layer (lo +ℤ pos k) along)))
    (λ k. total_between numbers from (end_place axis r) (λ along. both_directions numbers (count layer (lo +ℤ pos k) along))) (λ k.
    scaled_le (extent from (end_place axis r)) most
    (λ j. both_directions numbers (value layer (lo +ℤ pos k) (from +ℤ pos j)))
    (λ j. both_directions numbers (count layer (lo +ℤ pos k) (from +ℤ pos j))) (λ j.
    let each = λ (up : Bool). worth_le most key (parts_of plane rates axis layer (lo +ℤ pos k) (from +ℤ pos j) up) (sound axis layer (lo +ℤ pos k) (from +ℤ pos j) up) in
    let a = each false in
    let b = each true in
    let c = times_add most (count layer (lo +ℤ pos k) (from +ℤ pos j) false) (count layer (lo +ℤ pos k) (from +ℤ pos j) true) in
    omega (arith, a, b, c))))
