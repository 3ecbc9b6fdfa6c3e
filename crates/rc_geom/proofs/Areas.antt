-- Sums over the squares of rectangles.
use Rattle.std.proofs.Common.{◌∷◌, ◌≡◌, ◌+◌, ◌⊎◌, ⊎_elim, ℕ, zero, suc, ℤ, ◌≤ℤ◌, ◌<ℤ◌, Bool, true, false, List, [], Option, Some, None, refl, ap, sym, ◌∙◌, arith, cond}
use Rattle.std.specs.Prelude.{option_map, MatchOption, All}
use Rattle.std.specs.Option.{option_map_or}
use Rattle.std.specs.Int.{int_max, int_min}
use Rattle.std.proofs.lemmas.Int.{ints, clamps}
use Rattle.std.proofs.lemmas.Bool.{false_from_ne_true, true≢false, and_parts, cond_both}
use Rattle.std.specs.List.{fold, AllByRecursion as ByRecursion}
use Rattle.std.proofs.lemmas.List.Elements.{All-contains, recursion_from_All}
use Rattle.rc_geom.specs.declared.rect.Pt.{Pt}
use Rattle.rc_geom.specs.declared.rect.Rect.{Rect}
use Rattle.rc_geom.specs.declared.tile.Tile.{Tile}
use Rattle.rc_geom.specs.declared.key.Key.{Key}
use Rattle.rc_geom.specs.Rects.{covers, IsInside}
use Rattle.rc_geom.specs.Plane.{Metal, Plane, claims, owner, HoldsTiles}
use Rattle.rc_geom.specs.Line.{square_of, line_of}
use Rattle.rc_geom.specs.Rates.{Rates, rate_of}
use Rattle.rc_geom.specs.Parts.{Part, parts, same_key, worth_at}
use Rattle.rc_geom.specs.Sums.{Adding, IsNeutral, numbers, total_between, first_line, end_line, first_place, end_place, both_directions, layer_sum}
use Rattle.rc_geom.specs.Context.{layer_count}
use Rattle.rc_geom.specs.Extraction.{parts_of, value_in, count_in}
use Rattle.rc_geom.specs.Laws.{IsOwner, InnerSumsSuffice, TilesHoldMetal, MetalBounds, ValuesAreBounded}
use Rattle.rc_geom.proofs.Bounds.{covered, covers_from}
use Rattle.rc_geom.proofs.Owners.{owners_are_least}
use Rattle.rc_geom.proofs.Rays.{no_face}
use Rattle.rc_geom.proofs.Totals.{total_same, total_between_sound, total_between_nothing, total_between_same, total_within}

-- ---- the squares of a rectangle, by lines and places

-- a line of an axis crosses the rectangle, and a place of it lies in it
pub record Crosses (axis : ℕ) (r : Rect) (at along : ℤ) : Type 0 where
  pub line_low : first_line axis r ≤ℤ at
  pub line_high : at <ℤ end_line axis r
  pub place_low : first_place axis r ≤ℤ along
  pub place_high : along <ℤ end_place axis r

pub crosses : (axis : ℕ) (r : Rect) (at along : ℤ) → covers r (square_of axis at along) ≡ true → Crosses axis r at along
crosses zero r at along h = let c = covered r (square_of 0 at along) h in record { line_low = c.below; line_high = c.above; place_low = c.left; place_high = c.right }
crosses (suc n) r at along h = let c = covered r (square_of (suc n) at along) h in record { line_low = c.left; line_high = c.right; place_low = c.below; place_high = c.above }

pub covers_crossing : (axis : ℕ) (r : Rect) (at along : ℤ) → Crosses axis r at along → covers r (square_of axis at along) ≡ true
covers_crossing zero r at along c = covers_from r (square_of 0 at along) (record { left = c.place_low; right = c.place_high; below = c.line_low; above = c.line_high })
covers_crossing (suc n) r at along c = covers_from r (square_of (suc n) at along) (record { left = c.line_low; right = c.line_high; below = c.place_low; above = c.place_high })

beside : (axis : ℕ) (r : Rect) (at along : ℤ) → (at <ℤ first_line axis r) ⊎ (end_line axis r ≤ℤ at) → covers r (square_of axis at along) ≡ false
beside axis r at along out = false_from_ne_true (covers r (square_of axis at along)) (λ h. let c = crosses axis r at along h in ⊎_elim (λ (low : at <ℤ first_line axis r). absurd (omega (arith, ints))) (λ (high : end_line axis r ≤ℤ at). absurd (omega (arith, ints))) out)

past : (axis : ℕ) (r : Rect) (at along : ℤ) → (along <ℤ first_place axis r) ⊎ (end_place axis r ≤ℤ along) → covers r (square_of axis at along) ≡ false
past axis r at along out = false_from_ne_true (covers r (square_of axis at along)) (λ h. let c = crosses axis r at along h in ⊎_elim (λ (low : along <ℤ first_place axis r). absurd (omega (arith, ints))) (λ (high : end_place axis r ≤ℤ along). absurd (omega (arith, ints))) out)

-- the ends of an inner rectangle lie within those of the outer one
pub record Within (axis : ℕ) (inner outer : Rect) : Type 0 where
  pub line_low : first_line axis outer ≤ℤ first_line axis inner
  pub line_high : end_line axis inner ≤ℤ end_line axis outer
  pub place_low : first_place axis outer ≤ℤ first_place axis inner
  pub place_high : end_place axis inner ≤ℤ end_place axis outer

within : (axis : ℕ) (inner outer : Rect) → IsInside inner outer → Within axis inner outer
within zero inner outer h = record { line_low = h.below; line_high = h.above; place_low = h.left; place_high = h.right }
within (suc n) inner outer h = record { line_low = h.left; line_high = h.right; place_low = h.below; place_high = h.above }

-- ---- squares that add nothing

pub two_nothings : {V : Type 0} (adding : Adding V) (sound : V → Bool) → IsNeutral adding sound → (f : Bool → V) → ((up : Bool) → f up ≡ adding.none) → both_directions adding f ≡ adding.none
two_nothings adding sound laws f nothing =
    ap (λ v. adding.plus v (f true)) (nothing false)
    ∙ (ap (adding.plus adding.none) (nothing true) ∙ laws.before adding.none laws.start)

-- a part of a line, of sound terms
pub run_sound : {V : Type 0} (adding : Adding V) (sound : V → Bool) → IsNeutral adding sound → (lo hi : ℤ) (f : ℤ → Bool → V) → ((along : ℤ) (up : Bool) → sound (f along up) ≡ true) → sound (total_between adding lo hi (λ along. both_directions adding (f along))) ≡ true
run_sound adding sound laws lo hi f each =
    total_between_sound adding sound laws lo hi (λ along. both_directions adding (f along)) (λ along. laws.closed (f along false) (f along true) (each along false) (each along true))

layer_sum_within : {V : Type 0} (adding : Adding V) (sound : V → Bool) → IsNeutral adding sound → (axis : ℕ) (inner outer : Rect) (f : ℤ → ℤ → Bool → V) → ((at along : ℤ) (up : Bool) → sound (f at along up) ≡ true) → IsInside inner outer → ((at along : ℤ) (up : Bool) → covers outer (square_of axis at along) ≡ true → covers inner (square_of axis at along) ≡ false → f at along up ≡ adding.none) → layer_sum adding axis outer f ≡ layer_sum adding axis inner f
layer_sum_within adding sound laws axis inner outer f each inside nothing =
    let w = within axis inner outer inside in
    let outer_line = λ (at : ℤ). total_between adding (first_place axis outer) (end_place axis outer) (λ along. both_directions adding (f at along)) in
    let inner_line = λ (at : ℤ). total_between adding (first_place axis inner) (end_place axis inner) (λ along. both_directions adding (f at along)) in
    total_within adding sound laws (first_line axis outer) (first_line axis inner) (end_line axis inner) (end_line axis outer) outer_line (λ at. run_sound adding sound laws (first_place axis outer) (end_place axis outer) (f at) (each at)) w.line_low w.line_high
    (λ at above below out. total_between_nothing adding sound laws (first_place axis outer) (end_place axis outer) (λ along. both_directions adding (f at along))
    (λ along low high. two_nothings adding sound laws (f at along) (λ up. nothing at along up (covers_crossing axis outer at along (record { line_low = above; line_high = below; place_low = low; place_high = high })) (beside axis inner at along out))))
    ∙ total_between_same adding (first_line axis inner) (end_line axis inner) outer_line inner_line
    (λ at above below. total_within adding sound laws (first_place axis outer) (first_place axis inner) (end_place axis inner) (end_place axis outer) (λ along. both_directions adding (f at along))
    (λ along. laws.closed (f at along false) (f at along true) (each at along false) (each at along true)) w.place_low w.place_high
    (λ along low high out. two_nothings adding sound laws (f at along) (λ up. nothing at along up
    (covers_crossing axis outer at along (record { line_low = omega (arith, ints, w.line_low); line_high = omega (arith, ints, w.line_high); place_low = low; place_high = high }))
    (past axis inner at along out))))

pub inner_sums_suffice : {V : Type 0} → InnerSumsSuffice V
inner_sums_suffice adding sound axis inner outer f laws each inside nothing =
    total_same adding layer_count (λ layer. layer_sum adding axis outer (f layer)) (λ layer. layer_sum adding axis inner (f layer))
    (λ layer _. layer_sum_within adding sound laws axis inner outer (f layer) (each layer) inside (nothing layer))

-- ---- squares without metal

outside_tile : (r : Rect) (layer : ℕ) (p : Pt) (t : Tile) → IsInside t.rect r → covers r p ≡ false → claims layer p t ≡ true → ⊥
outside_tile r layer p t inside out does =
    let c = covered t.rect p (and_parts _ (covers t.rect p) does).1 in
    true≢false (sym (covers_from r p (record { left = omega (arith, ints, inside.left); right = omega (arith, ints, inside.right); below = omega (arith, ints, inside.below); above = omega (arith, ints, inside.above) })) ∙ out)

unowned : (r : Rect) (tiles : List Tile) (layer : ℕ) (p : Pt) (o : Option Tile) → HoldsTiles r tiles → covers r p ≡ false → MatchOption o (All (λ u. claims layer p u ≡ false) tiles) (IsOwner tiles layer p) → option_map {U = Metal} (λ (t : Tile). (t.net, t.node)) o ≡ None
unowned r tiles layer p None holds out h = refl
unowned r tiles layer p (Some t) holds out h =
    absurd (outside_tile r layer p t (All-contains (λ (u : Tile). IsInside u.rect r) tiles t holds h.member) out h.covering)

pub tiles_hold_metal : TilesHoldMetal
tiles_hold_metal r tiles holds layer p out = unowned r tiles layer p (owner tiles layer p) holds out (owners_are_least tiles layer p)

pub no_parts : {V : Type 0} (plane : Plane) (rates : Rates V) (axis layer : ℕ) (at along : ℤ) (up : Bool) → plane layer (square_of axis at along) ≡ None → parts_of plane rates axis layer at along up ≡ []
no_parts plane rates axis layer at along up bare =
    ap (λ o. option_map_or (λ face. parts face (rate_of rates plane layer (square_of axis at along) face)) o [])
    (no_face (rates.cap layer) (rates.reach layer) (line_of plane layer axis at) up along bare)

bare_square : {V W : Type 0} (adding : Adding W) (worth : V → W) (plane : Plane) (rates : Rates V) (axis layer : ℕ) (at along : ℤ) (up : Bool) (key : Key) → plane layer (square_of axis at along) ≡ None → worth_at adding worth key (parts_of plane rates axis layer at along up) ≡ adding.none
bare_square adding worth plane rates axis layer at along up key bare = ap (worth_at adding worth key) (no_parts plane rates axis layer at along up bare)

-- the least rectangle that both lie in
abbrev hull : Rect → Rect → Rect
hull r s = record { x0 = int_min r.x0 s.x0; y0 = int_min r.y0 s.y0; x1 = int_max r.x1 s.x1; y1 = int_max r.y1 s.y1 }

hull_left : (r s : Rect) → IsInside r (hull r s)
hull_left r s = record { left = omega (arith, ints, clamps); right = omega (arith, ints, clamps); below = omega (arith, ints, clamps); above = omega (arith, ints, clamps) }

hull_right : (r s : Rect) → IsInside s (hull r s)
hull_right r s = record { left = omega (arith, ints, clamps); right = omega (arith, ints, clamps); below = omega (arith, ints, clamps); above = omega (arith, ints, clamps) }

-- parts of sound worth add up to a sound one
worth_from : {V W : Type 0} (adding : Adding W) (sound : W → Bool) → IsNeutral adding sound → (worth : V → W) (key : Key) (sum : W) (ps : List (Part V)) → sound sum ≡ true → ByRecursion (λ part. sound (worth part.amount) ≡ true) ps → sound (fold (λ sum part. cond (same_key part.key key) (adding.plus sum (worth part.amount)) sum) sum ps) ≡ true
worth_from adding sound laws worth key sum [] start each = start
worth_from adding sound laws worth key sum (part ∷ ps) start each =
    worth_from adding sound laws worth key (cond (same_key part.key key) (adding.plus sum (worth part.amount)) sum) ps
    (cond_both (same_key part.key key) (adding.plus sum (worth part.amount)) sum (λ v. sound v ≡ true) (λ _. laws.closed sum (worth part.amount) start each.0) (λ _. start))
    each.1

pub worth_sound : {V W : Type 0} (adding : Adding W) (sound : W → Bool) → IsNeutral adding sound → (worth : V → W) (key : Key) (ps : List (Part V)) → All (λ part. sound (worth part.amount) ≡ true) ps → sound (worth_at adding worth key ps) ≡ true
worth_sound adding sound laws worth key ps each =
    worth_from adding sound laws worth key adding.none ps laws.start (recursion_from_All (λ part. sound (worth part.amount) ≡ true) ps each)

pub metal_bounds : {V W : Type 0} → MetalBounds V W
metal_bounds adding sound worth plane rates axis r s key laws amounts holds_r holds_s =
    let f = λ (layer : ℕ) (at along : ℤ) (up : Bool). worth_at adding worth key (parts_of plane rates axis layer at along up) in
    let each = λ (layer : ℕ) (at along : ℤ) (up : Bool). worth_sound adding sound laws worth key (parts_of plane rates axis layer at along up) (amounts axis layer at along up) in
    sym (inner_sums_suffice adding sound axis r (hull r s) f laws each (hull_left r s) (λ layer at along up _ out. bare_square adding worth plane rates axis layer at along up key (holds_r layer (square_of axis at along) out)))
    ∙ inner_sums_suffice adding sound axis s (hull r s) f laws each (hull_right r s) (λ layer at along up _ out. bare_square adding worth plane rates axis layer at along up key (holds_s layer (square_of axis at along) out))

-- every plain number is sound
pub numbers_are_neutral : IsNeutral numbers (λ _. true)
numbers_are_neutral = record { start = refl; closed = λ a b _ _. refl; before = λ n _. omega arith; after = λ n _. omega arith }

pub values_are_bounded : {V : Type 0} → ValuesAreBounded V
values_are_bounded adding sound plane rates r s key laws amounts holds_r holds_s =
    let values = λ (axis : ℕ). metal_bounds adding sound (λ v. v) plane rates axis r s key laws amounts holds_r holds_s in
    let counts = λ (axis : ℕ). metal_bounds numbers (λ _. true) (λ _. 1) plane rates axis r s key numbers_are_neutral (λ axis' layer at along up k d less. refl) holds_r holds_s in (
      ap (λ v. adding.plus v (value_in adding plane rates 1 r key)) (values 0) ∙ ap (adding.plus (value_in adding plane rates 0 s key)) (values 1),
      ap (λ (n : ℕ). n + count_in plane rates 1 r key) (counts 0) ∙ ap (λ (n : ℕ). count_in plane rates 0 s key + n) (counts 1),
    )
