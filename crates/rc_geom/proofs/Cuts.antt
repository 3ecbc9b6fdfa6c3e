-- Sums over rectangles that are cut in two.
use Rattle.std.proofs.Common.{◌≡◌, ◌+◌, ℕ, zero, suc, ℤ, pos, ◌+ℤ◌, ◌-ℤ◌, ◌≤ℤ◌, Bool, true, false, ap, sym, ◌∙◌, arith}
use Rattle.std.proofs.lemmas.Int.{ints}
use Rattle.rc_geom.specs.declared.rect.Rect.{Rect}
use Rattle.rc_geom.specs.Sums.{Adding, IsAdditive, total, extent, total_between, first_line, end_line, first_place, end_place, both_directions, layer_sum, square_sum}
use Rattle.rc_geom.specs.Context.{layer_count}
use Rattle.rc_geom.specs.Laws.{CutsAdd, LayersSwap}
use Rattle.rc_geom.proofs.Areas.{run_sound}
use Rattle.rc_geom.proofs.Totals.{total_none, total_suc, total_same, total_sound, total_between_same, total_between_sound, total_between_nothing, extent_is}

-- the terms from 0, and those after the first a of them
pub total_split : {V : Type 0} (adding : Adding V) (sound : V → Bool) → IsAdditive adding sound → (a n : ℕ) (f : ℕ → V) → ((k : ℕ) → sound (f k) ≡ true) → total adding (a + n) f ≡ adding.plus (total adding a f) (total adding n (λ k. f (a + k)))
total_split adding sound laws a zero f each =
    let e : a + 0 ≡ a = omega arith in
    ap (λ (k : ℕ). total adding k f) e
    ∙ (sym (laws.neutral.after (total adding a f) (total_sound adding sound laws.neutral a f each)) ∙ ap (adding.plus (total adding a f)) (sym (total_none adding (λ k. f (a + k)))))
total_split adding sound laws a (suc n) f each =
    total_suc adding (a + n) (a + suc n) f (omega arith)
    ∙ (ap (λ v. adding.plus v (f (a + n))) (total_split adding sound laws a n f each)
    ∙ (laws.regroup (total adding a f) (total adding n (λ k. f (a + k))) (f (a + n)) (total_sound adding sound laws.neutral a f each) (total_sound adding sound laws.neutral n (λ k. f (a + k)) (λ k. each (a + k))) (each (a + n))
    ∙ ap (adding.plus (total adding a f)) (sym (total_suc adding n (suc n) (λ k. f (a + k)) (omega arith)))))

-- two sums of two
pub crossed : {V : Type 0} (adding : Adding V) (sound : V → Bool) → IsAdditive adding sound → (a b c d : V) → sound a ≡ true → sound b ≡ true → sound c ≡ true → sound d ≡ true → adding.plus (adding.plus a b) (adding.plus c d) ≡ adding.plus (adding.plus a c) (adding.plus b d)
crossed adding sound laws a b c d of_a of_b of_c of_d =
    laws.regroup a b (adding.plus c d) of_a of_b (laws.neutral.closed c d of_c of_d)
    ∙ (ap (adding.plus a) (sym (laws.regroup b c d of_b of_c of_d) ∙ (ap (λ v. adding.plus v d) (laws.swap b c of_b of_c) ∙ laws.regroup c b d of_c of_b of_d))
    ∙ sym (laws.regroup a c (adding.plus b d) of_a of_c (laws.neutral.closed b d of_b of_d)))

pub total_plus : {V : Type 0} (adding : Adding V) (sound : V → Bool) → IsAdditive adding sound → (n : ℕ) (f g : ℕ → V) → ((k : ℕ) → sound (f k) ≡ true) → ((k : ℕ) → sound (g k) ≡ true) → total adding n (λ k. adding.plus (f k) (g k)) ≡ adding.plus (total adding n f) (total adding n g)
total_plus adding sound laws zero f g of_f of_g =
    total_none adding (λ k. adding.plus (f k) (g k))
    ∙ (sym (laws.neutral.before adding.none laws.neutral.start)
    ∙ (ap (λ v. adding.plus v adding.none) (sym (total_none adding f)) ∙ ap (adding.plus (total adding 0 f)) (sym (total_none adding g))))
total_plus adding sound laws (suc n) f g of_f of_g =
    total_suc adding n (suc n) (λ k. adding.plus (f k) (g k)) (omega arith)
    ∙ (ap (λ v. adding.plus v (adding.plus (f n) (g n))) (total_plus adding sound laws n f g of_f of_g)
    ∙ (crossed adding sound laws (total adding n f) (total adding n g) (f n) (g n) (total_sound adding sound laws.neutral n f of_f) (total_sound adding sound laws.neutral n g of_g) (of_f n) (of_g n)
    ∙ (ap (λ v. adding.plus v (adding.plus (total adding n g) (g n))) (sym (total_suc adding n (suc n) f (omega arith)))
    ∙ ap (adding.plus (total adding (suc n) f)) (sym (total_suc adding n (suc n) g (omega arith))))))

pub total_between_split : {V : Type 0} (adding : Adding V) (sound : V → Bool) → IsAdditive adding sound → (lo mid hi : ℤ) (f : ℤ → V) → ((z : ℤ) → sound (f z) ≡ true) → lo ≤ℤ mid → mid ≤ℤ hi → total_between adding lo hi f ≡ adding.plus (total_between adding lo mid f) (total_between adding mid hi f)
total_between_split adding sound laws lo mid hi f each low high =
    let a = extent lo mid in
    let n = extent mid hi in
    let is_a : pos a ≡ mid -ℤ lo = extent_is lo mid low in
    let is_n : pos n ≡ hi -ℤ mid = extent_is mid hi high in
    let whole : pos (extent lo hi) ≡ hi -ℤ lo = extent_is lo hi (omega (arith, ints)) in
    let all : extent lo hi ≡ a + n = omega (arith, ints, is_a, is_n, whole) in
    ap (λ (m : ℕ). total adding m (λ k. f (lo +ℤ pos k))) all
    ∙ (total_split adding sound laws a n (λ k. f (lo +ℤ pos k)) (λ k. each (lo +ℤ pos k))
    ∙ ap (adding.plus (total_between adding lo mid f)) (total_same adding n (λ k. f (lo +ℤ pos (a + k))) (λ k. f (mid +ℤ pos k)) (λ k _. ap f (omega (arith, ints, is_a)))))

pub total_between_plus : {V : Type 0} (adding : Adding V) (sound : V → Bool) → IsAdditive adding sound → (lo hi : ℤ) (f g : ℤ → V) → ((z : ℤ) → sound (f z) ≡ true) → ((z : ℤ) → sound (g z) ≡ true) → total_between adding lo hi (λ z. adding.plus (f z) (g z)) ≡ adding.plus (total_between adding lo hi f) (total_between adding lo hi g)
total_between_plus adding sound laws lo hi f g of_f of_g = total_plus adding sound laws (extent lo hi) (λ k. f (lo +ℤ pos k)) (λ k. g (lo +ℤ pos k)) (λ k. of_f (lo +ℤ pos k)) (λ k. of_g (lo +ℤ pos k))

-- ---- two orders

pub layers_swap : {V : Type 0} → LayersSwap V
layers_swap adding sound zero lo hi f laws each =
    total_none adding (λ layer. total_between adding lo hi (f layer))
    ∙ sym (total_between_nothing adding sound laws.neutral lo hi (λ z. total adding 0 (λ layer. f layer z)) (λ z _ _. total_none adding (λ layer. f layer z)))
layers_swap adding sound (suc n) lo hi f laws each =
    total_suc adding n (suc n) (λ layer. total_between adding lo hi (f layer)) (omega arith)
    ∙ (ap (λ v. adding.plus v (total_between adding lo hi (f n))) (layers_swap adding sound n lo hi f laws each)
    ∙ (sym (total_between_plus adding sound laws lo hi (λ z. total adding n (λ layer. f layer z)) (f n) (λ z. total_sound adding sound laws.neutral n (λ layer. f layer z) (λ layer. each layer z)) (each n))
    ∙ total_between_same adding lo hi (λ z. adding.plus (total adding n (λ layer. f layer z)) (f n z)) (λ z. total adding (suc n) (λ layer. f layer z)) (λ z _ _. sym (total_suc adding n (suc n) (λ layer. f layer z) (omega arith)))))

-- ---- rectangles

-- lines from a to b, and places from c to d
abbrev block : {V : Type 0} → Adding V → ℤ → ℤ → ℤ → ℤ → (ℤ → ℤ → Bool → V) → V
block adding a b c d f = total_between adding a b (λ at. total_between adding c d (λ along. both_directions adding (f at along)))

cut_lines : {V : Type 0} (adding : Adding V) (sound : V → Bool) → IsAdditive adding sound → (a mid b c d : ℤ) (f : ℤ → ℤ → Bool → V) → ((at along : ℤ) (up : Bool) → sound (f at along up) ≡ true) → a ≤ℤ mid → mid ≤ℤ b → block adding a b c d f ≡ adding.plus (block adding a mid c d f) (block adding mid b c d f)
cut_lines adding sound laws a mid b c d f each low high =
    total_between_split adding sound laws a mid b (λ at. total_between adding c d (λ along. both_directions adding (f at along))) (λ at. run_sound adding sound laws.neutral c d (f at) (each at)) low high

cut_places : {V : Type 0} (adding : Adding V) (sound : V → Bool) → IsAdditive adding sound → (a b c mid d : ℤ) (f : ℤ → ℤ → Bool → V) → ((at along : ℤ) (up : Bool) → sound (f at along up) ≡ true) → c ≤ℤ mid → mid ≤ℤ d → block adding a b c d f ≡ adding.plus (block adding a b c mid f) (block adding a b mid d f)
cut_places adding sound laws a b c mid d f each low high =
    let whole = λ (at : ℤ). total_between adding c d (λ along. both_directions adding (f at along)) in
    let first = λ (at : ℤ). total_between adding c mid (λ along. both_directions adding (f at along)) in
    let second = λ (at : ℤ). total_between adding mid d (λ along. both_directions adding (f at along)) in
    total_between_same adding a b whole (λ at. adding.plus (first at) (second at))
    (λ at _ _. total_between_split adding sound laws c mid d (λ along. both_directions adding (f at along)) (λ along. laws.neutral.closed (f at along false) (f at along true) (each at along false) (each at along true)) low high)
    ∙ total_between_plus adding sound laws a b first second (λ at. run_sound adding sound laws.neutral c mid (f at) (each at)) (λ at. run_sound adding sound laws.neutral mid d (f at) (each at))

layer_sound : {V : Type 0} (adding : Adding V) (sound : V → Bool) → IsAdditive adding sound → (axis : ℕ) (r : Rect) (f : ℤ → ℤ → Bool → V) → ((at along : ℤ) (up : Bool) → sound (f at along up) ≡ true) → sound (layer_sum adding axis r f) ≡ true
layer_sound adding sound laws axis r f each =
    total_between_sound adding sound laws.neutral (first_line axis r) (end_line axis r) (λ at. total_between adding (first_place axis r) (end_place axis r) (λ along. both_directions adding (f at along))) (λ at. run_sound adding sound laws.neutral (first_place axis r) (end_place axis r) (f at) (each at))

-- what holds of each layer holds of all
all_layers : {V : Type 0} (adding : Adding V) (sound : V → Bool) → IsAdditive adding sound → (axis : ℕ) (r s t : Rect) (f : ℕ → ℤ → ℤ → Bool → V) → ((layer : ℕ) (at along : ℤ) (up : Bool) → sound (f layer at along up) ≡ true) → ((layer : ℕ) → layer_sum adding axis r (f layer) ≡ adding.plus (layer_sum adding axis s (f layer)) (layer_sum adding axis t (f layer))) → square_sum adding axis r f ≡ adding.plus (square_sum adding axis s f) (square_sum adding axis t f)
all_layers adding sound laws axis r s t f each cut =
    let first = λ (layer : ℕ). layer_sum adding axis s (f layer) in
    let second = λ (layer : ℕ). layer_sum adding axis t (f layer) in
    total_same adding layer_count (λ layer. layer_sum adding axis r (f layer)) (λ layer. adding.plus (first layer) (second layer)) (λ layer _. cut layer)
    ∙ total_plus adding sound laws layer_count first second (λ layer. layer_sound adding sound laws axis s (f layer) (each layer)) (λ layer. layer_sound adding sound laws axis t (f layer) (each layer))

pub cuts_add : {V : Type 0} → CutsAdd V
cuts_add adding sound zero r f z laws each = record {
  column = λ low high. all_layers adding sound laws 0 r (record r { x1 = z }) (record r { x0 = z }) f each (λ layer. cut_places adding sound laws r.y0 r.y1 r.x0 z r.x1 (f layer) (each layer) low high);
  row = λ low high. all_layers adding sound laws 0 r (record r { y1 = z }) (record r { y0 = z }) f each (λ layer. cut_lines adding sound laws r.y0 z r.y1 r.x0 r.x1 (f layer) (each layer) low high);
}
cuts_add adding sound (suc n) r f z laws each = record {
  column = λ low high. all_layers adding sound laws (suc n) r (record r { x1 = z }) (record r { x0 = z }) f each (λ layer. cut_lines adding sound laws r.x0 z r.x1 r.y0 r.y1 (f layer) (each layer) low high);
  row = λ low high. all_layers adding sound laws (suc n) r (record r { y1 = z }) (record r { y0 = z }) f each (λ layer. cut_places adding sound laws r.x0 r.x1 r.y0 z r.y1 (f layer) (each layer) low high);
}
