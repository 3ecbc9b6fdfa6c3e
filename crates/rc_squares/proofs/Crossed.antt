-- The tiles that have squares on a line decide what its faces add.
use Rattle.std.proofs.Common.{◌≡◌, ◌<◌, ◌≤◌, ◌+◌, ◌-◌, ◌+ℤ◌, ◌<ℤ◌, ◌≤ℤ◌, ℕ, zero, suc, ℤ, pos, Bool, true, false, Option, Some, None, List, All, length, take, get_or, ◌⊎◌, ⊎_elim, inl, inr, eqb, refl, ap, sym, subst, ◌∙◌, arith}
use Rattle.std.specs.Prelude.{filter, option_map, MatchOption, Contains, int_le, int_lt}
use Rattle.std.proofs.lemmas.Bool.{and_parts, and_from, eqb-true, eq-eqb, cases_Bool, true≢false, false_from_ne_true}
use Rattle.std.proofs.lemmas.Int.{ints}
use Rattle.std.proofs.lemmas.List.{take_more}
use Rattle.std.proofs.lemmas.List.Elements.{All-push, All-weaker, All-contains}
use Rattle.rc_geom.specs.declared.rect.Pt.{Pt}
use Rattle.rc_geom.specs.declared.rect.Rect.{Rect}
use Rattle.rc_geom.specs.declared.key.Key.{Key}
use Rattle.rc_geom.specs.declared.tile.Tile.{Tile}
use Rattle.rc_geom.specs.Rects.{covers}
use Rattle.rc_geom.specs.Plane.{Metal, Plane, claims, owner, plane_of}
use Rattle.rc_geom.specs.Line.{line_of, square_of}
use Rattle.rc_geom.specs.Rates.{Rates}
use Rattle.rc_geom.specs.Parts.{Part, worth_at}
use Rattle.rc_geom.specs.Sums.{numbers, total, both_directions, first_line, end_line, first_place}
use Rattle.rc_geom.specs.Laws.{IsOwner}
use Rattle.rc_geom.proofs.Areas.{Crosses, crosses as reaches, covers_crossing}
use Rattle.rc_geom.proofs.Bounds.{le_passes, lt_passes, lt_tells}
use Rattle.rc_geom.proofs.Owners.{owners_are_least}
use Rattle.rc_geom.proofs.Halos.{owner_kept, lines_decide}
use Rattle.rc_geom.proofs.Totals.{total_same, total_suc}
use Rattle.rc_squares.specs.Crossing.{crosses, BeginsBeyond}
use Rattle.rc_squares.specs.Worths.{square_worth, line_worth}
use Rattle.rc_squares.proofs.Worths.{square_same, square_bare}

-- a tile that claims a square of the line lies on the layer and reaches over the square
claimed : (axis layer : ℕ) (at along : ℤ) (t : Tile) → claims layer (square_of axis at along) t ≡ true → (t.layer ≡ layer) × Crosses axis t.rect at along
claimed axis layer at along t does =
    let both = and_parts (eqb t.layer layer) (covers t.rect (square_of axis at along)) does in
    (eqb-true t.layer layer both.0, reaches axis t.rect at along both.1)

claims_from : (axis layer : ℕ) (at along : ℤ) (t : Tile) → t.layer ≡ layer → Crosses axis t.rect at along → claims layer (square_of axis at along) t ≡ true
claims_from axis layer at along t on over = and_from (eqb t.layer layer) (covers t.rect (square_of axis at along)) (eq-eqb t.layer layer on) (covers_crossing axis t.rect at along over)

-- so it crosses the line
claims_cross : (axis layer : ℕ) (at along : ℤ) (t : Tile) → claims layer (square_of axis at along) t ≡ true → crosses axis at t ≡ true
claims_cross axis layer at along t does =
    let over = (claimed axis layer at along t does).1 in
    and_from (int_le (first_line axis t.rect) at) (int_lt at (end_line axis t.rect)) (le_passes (first_line axis t.rect) at over.line_low) (lt_passes at (end_line axis t.rect) over.line_high)

-- so the line has the metal of the tiles that cross it
crossing_line : (axis : ℕ) (tiles : List Tile) (at : ℤ) (layer : ℕ) → line_of (plane_of (filter (crosses axis at) tiles)) layer axis at ≡ line_of (plane_of tiles) layer axis at
crossing_line axis tiles at layer =
    λ i along. ap (option_map {U = Metal} (λ (t : Tile). (t.net, t.node))) (owner_kept tiles (crosses axis at) layer (square_of axis at along) (claims_cross axis layer at along)) i

square_alike : (worth : ℕ → ℕ) (plane other : Plane) (rates : Rates ℕ) (layer : ℕ) (key : Key) (axis : ℕ) (at along : ℤ) → ((l : ℕ) → line_of plane l axis at ≡ line_of other l axis at) → square_worth worth plane rates layer key axis (square_of axis at along) ≡ square_worth worth other rates layer key axis (square_of axis at along)
square_alike worth plane other rates layer key axis at along alike =
    sym (square_same worth plane rates layer key axis at along)
    ∙ (ap (λ (f : Bool → List (Part ℕ)). both_directions numbers (λ up. worth_at numbers worth key (f up))) (λ i up. lines_decide plane other rates axis at at alike layer along up i)
    ∙ square_same worth other rates layer key axis at along)

pub line_crossed : (worth : ℕ → ℕ) (tiles found : List Tile) (rates : Rates ℕ) (layer : ℕ) (key : Key) (axis : ℕ) (r : Rect) (at : ℤ) (n : ℕ) → found ≡ filter (crosses axis at) tiles → line_worth worth (plane_of tiles) rates layer key axis r at n ≡ line_worth worth (plane_of found) rates layer key axis r at n
line_crossed worth tiles found rates layer key axis r at n is =
    total_same numbers n _ _ (λ k _. square_alike worth (plane_of tiles) (plane_of (filter (crosses axis at) tiles)) rates layer key axis at (first_place axis r +ℤ pos k) (λ l. sym (crossing_line axis tiles at l)))
    ∙ ap (λ (ts : List Tile). line_worth worth (plane_of ts) rates layer key axis r at n) (sym is)

-- ---- where the next tile begins

pub begins_more : (axis layer : ℕ) (along next sooner : ℤ) (tiles : List Tile) (i : ℕ) (d : Tile) → i < length tiles → sooner ≤ℤ next → All (BeginsBeyond axis layer along next) (take i tiles) → BeginsBeyond axis layer along sooner (get_or tiles i d) → All (BeginsBeyond axis layer along sooner) (take (i + 1) tiles)
begins_more axis layer along next sooner tiles i d within less so_far last =
    subst (All (BeginsBeyond axis layer along sooner)) (sym (take_more tiles i d within))
    (All-push (BeginsBeyond axis layer along sooner) (take i tiles) (get_or tiles i d)
    (All-weaker (BeginsBeyond axis layer along next) (BeginsBeyond axis layer along sooner) (λ u begins same ahead. let later : next ≤ℤ first_place axis u.rect = begins same ahead in omega (arith, ints)) (take i tiles) so_far)
    last)

-- a square without metal is claimed by none, and a square that none claims has no metal
unclaimed : (layer : ℕ) (p : Pt) (tiles : List Tile) (o : Option Tile) → MatchOption o (All (λ u. claims layer p u ≡ false) tiles) (IsOwner tiles layer p) → option_map {U = Metal} (λ (t : Tile). (t.net, t.node)) o ≡ None → All (λ u. claims layer p u ≡ false) tiles
unclaimed layer p tiles None all bare = all
unclaimed layer p tiles (Some t) owns bare = absurd (cc)

bare_where : (layer : ℕ) (p : Pt) (tiles : List Tile) (o : Option Tile) → MatchOption o (All (λ u. claims layer p u ≡ false) tiles) (IsOwner tiles layer p) → ((t : Tile) → Contains tiles t → claims layer p t ≡ false) → option_map {U = Metal} (λ (t : Tile). (t.net, t.node)) o ≡ None
bare_where layer p tiles None all none = refl
bare_where layer p tiles (Some t) owns none = absurd (true≢false (sym owns.covering ∙ none t owns.member))

lt_or_le : (a b : ℤ) → (a <ℤ b) ⊎ (b ≤ℤ a)
lt_or_le a b = ⊎_elim (λ (less : int_lt a b ≡ true). inl (lt_tells a b less)) (λ (not_less : int_lt a b ≡ false). inr (grind (arith, ints))) (cases_Bool (int_lt a b))

-- behind a square without metal there is none before the next tile begins
bare_before : (axis layer : ℕ) (at here there next : ℤ) (tiles : List Tile) (t : Tile) → claims layer (square_of axis at here) t ≡ false → BeginsBeyond axis layer here next t → here ≤ℤ there → there <ℤ next → claims layer (square_of axis at there) t ≡ false
bare_before axis layer at here there next tiles t misses begins behind before =
    false_from_ne_true (claims layer (square_of axis at there) t) (λ does.
    let over = (claimed axis layer at there t does).1 in
    let on = (claimed axis layer at there t does).0 in
    ⊎_elim (λ (ahead : here <ℤ first_place axis t.rect). let later : next ≤ℤ first_place axis t.rect = begins on ahead in absurd (omega (arith, ints, over.place_low)))
    (λ (begun : first_place axis t.rect ≤ℤ here). absurd (true≢false (sym (claims_from axis layer at here t on (record {
      line_low = over.line_low;
      line_high = over.line_high;
      place_low = begun;
      place_high = omega (arith, ints, over.place_high);
    })) ∙ misses)))
    (lt_or_le here (first_place axis t.rect)))

pub bare_until : (axis layer : ℕ) (at first : ℤ) (n next k : ℕ) (tiles : List Tile) → plane_of tiles layer (square_of axis at (first +ℤ pos n)) ≡ None → All (BeginsBeyond axis layer (first +ℤ pos n) (first +ℤ pos next)) tiles → n ≤ k → k < next → plane_of tiles layer (square_of axis at (first +ℤ pos k)) ≡ None
bare_until axis layer at first n next k tiles bare begins behind before =
    let here = square_of axis at (first +ℤ pos n) in
    let there = square_of axis at (first +ℤ pos k) in
    let misses = unclaimed layer here tiles (owner tiles layer here) (owners_are_least tiles layer here) bare in
    bare_where layer there tiles (owner tiles layer there) (owners_are_least tiles layer there) (λ t inside.
    bare_before axis layer at (first +ℤ pos n) (first +ℤ pos k) (first +ℤ pos next) tiles t
    (All-contains (λ (u : Tile). claims layer here u ≡ false) tiles t misses inside)
    (All-contains (BeginsBeyond axis layer (first +ℤ pos n) (first +ℤ pos next)) tiles t begins inside)
    (omega (arith, ints)) (omega (arith, ints)))

plain : (n : ℕ) → n + 0 ≡ n
plain n = omega arith

-- numbers that are nothing from n on leave the sum as it is
skipped : (f : ℕ → ℕ) (n d : ℕ) → ((k : ℕ) → n ≤ k → k < n + d → f k ≡ 0) → total numbers (n + d) f ≡ total numbers n f
skipped f n zero nothing = ap (λ (m : ℕ). total numbers m f) (omega arith)
skipped f n (suc d) nothing =
    total_suc numbers (n + d) (n + suc d) f (omega arith)
    ∙ (ap (λ (k : ℕ). total numbers (n + d) f + k) (nothing (n + d) (omega arith) (omega arith))
    ∙ (plain (total numbers (n + d) f)
    ∙ skipped f n d (λ k low high. nothing k low (omega arith))))

pub line_skips : (worth : ℕ → ℕ) (tiles : List Tile) (rates : Rates ℕ) (layer : ℕ) (key : Key) (axis : ℕ) (r : Rect) (at : ℤ) (n next : ℕ) → plane_of tiles layer (square_of axis at (first_place axis r +ℤ pos n)) ≡ None → All (BeginsBeyond axis layer (first_place axis r +ℤ pos n) (first_place axis r +ℤ pos next)) tiles → n < next → line_worth worth (plane_of tiles) rates layer key axis r at next ≡ line_worth worth (plane_of tiles) rates layer key axis r at n
line_skips worth tiles rates layer key axis r at n next bare begins later =
    let f : ℕ → ℕ = λ k. square_worth worth (plane_of tiles) rates layer key axis (square_of axis at (first_place axis r +ℤ pos k)) in
    let d : ℕ = next - n in
    let there : next ≡ n + d = omega arith in
    ap (λ (m : ℕ). total numbers m f) there
    ∙ skipped f n d (λ k low high. square_bare worth (plane_of tiles) rates layer key axis (square_of axis at (first_place axis r +ℤ pos k))
    (bare_until axis layer at (first_place axis r) n next k tiles bare begins low (omega arith)))
