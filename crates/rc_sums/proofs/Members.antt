-- Lists with the same tiles.
use Rattle.std.proofs.Common.{◌≡◌, ◌≤◌, ◌<◌, ◌+◌, ⊎_elim, ℕ, zero, suc, ℤ, Bool, true, false, cond, List, [], ◌∷◌, ◌++◌, length, get_or, All, refl, ap, sym, ◌∙◌, arith}
use Rattle.std.specs.Prelude.{◌&&◌, ◌==◌, not, filter, Contains}
use Rattle.std.specs.List.{sum_by, remove, position_or_len}
use Rattle.std.specs.Ordering.{int_eq}
use Rattle.std.proofs.lemmas.Bool.{cases_Bool, eqb-true, cond-true, cond-false}
use Rattle.std.proofs.lemmas.Int.{ints}
use Rattle.std.proofs.lemmas.List.Sums.{sum_by-cons, sum_by-append}
use Rattle.std.proofs.lemmas.List.Sorted.{IsPermutation-filter_both, sum_by-IsPermutation}
use Rattle.std.proofs.lemmas.List.Elements.{All-weaker, All-contains, All-contains_itself}
use Rattle.rc_geom.specs.declared.tile.Tile.{Tile}
use Rattle.rc_geom.specs.Plane.{plane_of, RanksDiffer, NetsApart}
use Rattle.rc_geom.proofs.Owners.{members_decide}
use Rattle.rc_column.specs.Layers.{same_tile, without}
use Rattle.rc_column.proofs.Layers.{same_itself}
use Rattle.rc_sums.specs.Columns.{SameTiles}

-- ---- tiles that are one

int_eq_is : (a b : ℤ) → int_eq a b ≡ true → a ≡ b
int_eq_is a b h = grind (arith, ints)

tile_is : (a b : Tile) → a.net ≡ b.net → a.node ≡ b.node → a.layer ≡ b.layer → a.rect.x0 ≡ b.rect.x0 → a.rect.y0 ≡ b.rect.y0 → a.rect.x1 ≡ b.rect.x1 → a.rect.y1 ≡ b.rect.y1 → a.rank ≡ b.rank → a ≡ b
tile_is a b net node layer x0 y0 x1 y1 rank = λ i. record { net = net i; node = node i; layer = layer i; rect = record { x0 = x0 i; y0 = y0 i; x1 = x1 i; y1 = y1 i }; rank = rank i }

record Eight (a b c d e f g h : Bool) : Type 0 where
  pub one : a ≡ true
  pub two : b ≡ true
  pub three : c ≡ true
  pub four : d ≡ true
  pub five : e ≡ true
  pub six : f ≡ true
  pub seven : g ≡ true
  pub eight : h ≡ true

eight_parts : (a b c d e f g h : Bool) → (a && b && (c && d) && (e && f && (g && h))) ≡ true → Eight a b c d e f g h
eight_parts a b c d e f g h p = record { one = grind arith; two = grind arith; three = grind arith; four = grind arith; five = grind arith; six = grind arith; seven = grind arith; eight = grind arith }

same_is : (a b : Tile) → same_tile a b ≡ true → a ≡ b
same_is a b h =
    let p = eight_parts (a.net == b.net) (a.node == b.node) (a.layer == b.layer) (a.rank == b.rank) (int_eq a.rect.x0 b.rect.x0) (int_eq a.rect.y0 b.rect.y0) (int_eq a.rect.x1 b.rect.x1) (int_eq a.rect.y1 b.rect.y1) h in
    tile_is a b (eqb-true a.net b.net p.one) (eqb-true a.node b.node p.two) (eqb-true a.layer b.layer p.three) (int_eq_is a.rect.x0 b.rect.x0 p.five) (int_eq_is a.rect.y0 b.rect.y0 p.six) (int_eq_is a.rect.x1 b.rect.x1 p.seven) (int_eq_is a.rect.y1 b.rect.y1 p.eight) (eqb-true a.rank b.rank p.four)

-- ---- how often a tile is in a list

abbrev pub once : Tile → Tile → ℕ
once t u = cond (same_tile u t) 1 0

pub once_same : (t u : Tile) → same_tile u t ≡ true → once t u ≡ 1
once_same t u h = cond-true (same_tile u t) 1 0 h

once_other : (t u : Tile) → same_tile u t ≡ false → once t u ≡ 0
once_other t u h = cond-false (same_tile u t) 1 0 h

pub contains_some : (ts : List Tile) (t : Tile) → 1 ≤ sum_by (once t) ts → Contains ts t
contains_some [] t some = absurd (omega (arith, some))
contains_some (x ∷ xs) t some = ⊎_elim
    (λ (same : same_tile x t ≡ true). (0, omega arith, same_is x t same))
    (λ (other : same_tile x t ≡ false).
    let rest : 1 ≤ sum_by (once t) xs = omega (arith, some, sum_by-cons (once t) x xs, once_other t x other) in
    let there = contains_some xs t rest in
    (suc there.0, (let within = there.1 in omega (arith, within)), there.2))
    (cases_Bool (same_tile x t))

some_at : (ts : List Tile) (t : Tile) (k : ℕ) → k < length ts → get_or ts k t ≡ t → 1 ≤ sum_by (once t) ts
some_at [] t k within is = absurd (omega (arith, within))
some_at (x ∷ xs) t zero within is = omega (arith, sum_by-cons (once t) x xs, once_same t x (ap (λ (u : Tile). same_tile u t) is ∙ same_itself t))
some_at (x ∷ xs) t (suc k) within is = omega (arith, sum_by-cons (once t) x xs, some_at xs t k (omega (arith, within)) is)

some_contained : (ts : List Tile) (t : Tile) → Contains ts t → 1 ≤ sum_by (once t) ts
some_contained ts t there = some_at ts t there.0 there.1 there.2

pub members : (a b : List Tile) → SameTiles a b → (t : Tile) → Contains a t → Contains b t
members a b same t there = contains_some b t (omega (arith, some_contained a t there, same (once t)))

pub same_back : (a b : List Tile) → SameTiles a b → SameTiles b a
same_back a b same f = sym (same f)

pub all_members : (P : Tile → Type 0) (a b : List Tile) → ((t : Tile) → Contains a t → Contains b t) → All P b → All P a
all_members P a b within all = All-weaker (λ (t : Tile). Contains a t) P (λ t there. All-contains P b t all (within t there)) a (All-contains_itself a)

-- ---- a tile is taken out

pub sum_without : (f : Tile → ℕ) (t : Tile) (ts : List Tile) → 1 ≤ sum_by (once t) ts → sum_by f ts ≡ f t + sum_by f (without t ts)
sum_without f t [] some = absurd (omega (arith, some))
sum_without f t (x ∷ xs) some = ⊎_elim
    (λ (same : same_tile x t ≡ true).
    let here : without t (x ∷ xs) ≡ xs = ap (λ b. remove (x ∷ xs) (cond (not b) (1 + position_or_len (λ u. same_tile u t) xs) 0)) same in
    sum_by-cons f x xs ∙ (ap (λ (u : Tile). f u + sum_by f xs) (same_is x t same) ∙ ap (λ (us : List Tile). f t + sum_by f us) (sym here)))
    (λ (other : same_tile x t ≡ false).
    let rest : 1 ≤ sum_by (once t) xs = omega (arith, some, sum_by-cons (once t) x xs, once_other t x other) in
    let one_more : 1 + position_or_len (λ u. same_tile u t) xs ≡ suc (position_or_len (λ u. same_tile u t) xs) = omega arith in
    let there : without t (x ∷ xs) ≡ x ∷ without t xs = ap (λ b. remove (x ∷ xs) (cond (not b) (1 + position_or_len (λ u. same_tile u t) xs) 0)) other ∙ ap (remove (x ∷ xs)) one_more in
    let before = sum_without f t xs rest in
    let after : sum_by f (without t (x ∷ xs)) ≡ f x + sum_by f (without t xs) = ap (sum_by f) there ∙ sum_by-cons f x (without t xs) in
    omega (arith, sum_by-cons f x xs, before, after))
    (cases_Bool (same_tile x t))

-- ---- the planes of the same tiles

pub same_plane : (tiles others : List Tile) → RanksDiffer tiles → NetsApart tiles → SameTiles tiles others → plane_of others ≡ plane_of tiles
same_plane tiles others ranks nets same = members_decide tiles others ranks nets (members tiles others same) (members others tiles (same_back tiles others same))

-- ---- tests

pub sum_parted : (f : Tile → ℕ) (p : Tile → Bool) (ts : List Tile) → sum_by f (filter p ts) + sum_by f (filter (λ t. not (p t)) ts) ≡ sum_by f ts
sum_parted f p ts =
    let rest = λ (t : Tile). not (p t) in
    sym (sum_by-append f (filter p ts) (filter rest ts)) ∙ sum_by-IsPermutation f ts (filter p ts ++ filter rest ts) (IsPermutation-filter_both p rest (λ t. refl) ts)

both_step : (p q : Tile → Bool) (t : Tile) (ts : List Tile) (b c : Bool) → p t ≡ b → q t ≡ c → filter q (filter p ts) ≡ filter (λ u. p u && q u) ts → filter q (filter p (t ∷ ts)) ≡ filter (λ u. p u && q u) (t ∷ ts)
both_step p q t ts false c is_p is_q same =
    ap (λ b. filter q (cond b (t ∷ filter p ts) (filter p ts))) is_p ∙ (same ∙ ap (λ b. cond (b && q t) (t ∷ filter (λ u. p u && q u) ts) (filter (λ u. p u && q u) ts)) (sym is_p))
both_step p q t ts true true is_p is_q same =
    ap (λ b. filter q (cond b (t ∷ filter p ts) (filter p ts))) is_p ∙ (ap (λ b. cond b (t ∷ filter q (filter p ts)) (filter q (filter p ts))) is_q
    ∙ (ap (λ (us : List Tile). t ∷ us) same
    ∙ (ap (λ b. cond b (t ∷ filter (λ u. p u && q u) ts) (filter (λ u. p u && q u) ts)) (sym is_q)
    ∙ ap (λ b. cond (b && q t) (t ∷ filter (λ u. p u && q u) ts) (filter (λ u. p u && q u) ts)) (sym is_p))))
both_step p q t ts true false is_p is_q same =
    ap (λ b. filter q (cond b (t ∷ filter p ts) (filter p ts))) is_p ∙ (ap (λ b. cond b (t ∷ filter q (filter p ts)) (filter q (filter p ts))) is_q
    ∙ (same
    ∙ (ap (λ b. cond b (t ∷ filter (λ u. p u && q u) ts) (filter (λ u. p u && q u) ts)) (sym is_q)
    ∙ ap (λ b. cond (b && q t) (t ∷ filter (λ u. p u && q u) ts) (filter (λ u. p u && q u) ts)) (sym is_p))))

-- what passes one test and then another passes both
pub filter_both : (p q : Tile → Bool) (ts : List Tile) → filter q (filter p ts) ≡ filter (λ u. p u && q u) ts
filter_both p q [] = refl
filter_both p q (t ∷ ts) = both_step p q t ts (p t) (q t) refl refl (filter_both p q ts)

and_swap : (b c : Bool) → (b && c) ≡ (c && b)
and_swap true true = refl
and_swap true false = refl
and_swap false true = refl
and_swap false false = refl

pub filter_swap : (p q : Tile → Bool) (ts : List Tile) → filter q (filter p ts) ≡ filter p (filter q ts)
filter_swap p q ts = filter_both p q ts ∙ (ap (λ (r : Tile → Bool). filter r ts) (λ i t. and_swap (p t) (q t) i) ∙ sym (filter_both q p ts))
