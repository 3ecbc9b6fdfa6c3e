-- The rows of a design, one after another.
use Rattle.std.proofs.Common.{◌≡◌, ℕ, zero, suc, ◌+◌, ◌*◌, List, [], ◌∷◌, ◌++◌, refl, ap, sym, ◌∙◌, arith, append-nil, append_assoc}
use Rattle.std.specs.Fn.{iterate}
use Rattle.std.specs.List.{range_with_len, flat_map}
use Rattle.std.proofs.lemmas.List.{map-id}
use Rattle.std.proofs.lemmas.List.FromFn.{map-range_with_len_more}
use Rattle.std.proofs.lemmas.List.Concat.{flat_map-append}
use Rattle.rc_gen.specs.Draws.{next, state_after, offset_at}
use Rattle.rc_gen.specs.Texts.{wire_text, across, upright, row_text, rows_text}

iterate_more : (h : ℕ → ℕ) (k s : ℕ) → iterate h (suc k) s ≡ h (iterate h k s)
iterate_more h zero s = refl
iterate_more h (suc k) s = iterate_more h k (h s)

pub no_draw : (seed : ℕ) → state_after seed 0 ≡ seed
unfolding state_after
no_draw seed = refl

one_draw : (seed k : ℕ) → state_after seed (suc k) ≡ next (state_after seed k)
unfolding state_after
one_draw seed k = iterate_more next k seed

-- the two draws of a row
pub first_draw : (seed row : ℕ) → state_after seed (2 * row + 1) ≡ next (state_after seed (2 * row))
first_draw seed row =
    let behind : 2 * row + 1 ≡ suc (2 * row) = omega arith in
    ap (state_after seed) behind ∙ one_draw seed (2 * row)

pub second_draw : (seed row : ℕ) → state_after seed (2 * row + 2) ≡ next (next (state_after seed (2 * row)))
second_draw seed row =
    let behind : 2 * row + 2 ≡ suc (2 * row + 1) = omega arith in
    ap (state_after seed) behind ∙ one_draw seed (2 * row + 1) ∙ ap next (first_draw seed row)

pub row_is : (seed row state : ℕ) → state ≡ state_after seed (2 * row) →
    wire_text (across row (offset_at (next state))) ++ wire_text (upright row (offset_at (next (next state)))) ≡ row_text seed row
row_is seed row state is = rw (is, first_draw seed row, second_draw seed row) refl

pub state_next : (seed row state now : ℕ) → state ≡ state_after seed (2 * row) → now ≡ next (next state) → now ≡ state_after seed (2 * (row + 1))
state_next seed row state now is then =
    let behind : 2 * (row + 1) ≡ 2 * row + 2 = omega arith in
    then ∙ ap (λ s. next (next s)) is ∙ sym (second_draw seed row) ∙ ap (state_after seed) (sym behind)

pub no_rows : (seed : ℕ) → rows_text seed 0 ≡ []
unfolding rows_text
no_rows seed = refl

range_more : (n : ℕ) → range_with_len 0 (n + 1) ≡ range_with_len 0 n ++ n ∷ []
range_more n = sym (map-id (range_with_len 0 (n + 1))) ∙ (map-range_with_len_more (λ k. k) 0 n n (omega arith) ∙ ap (λ xs. xs ++ n ∷ []) (map-id (range_with_len 0 n)))

pub more_rows : (seed rows : ℕ) → rows_text seed (rows + 1) ≡ rows_text seed rows ++ row_text seed rows
unfolding rows_text
more_rows seed rows =
    ap (flat_map (row_text seed)) (range_more rows) ∙ flat_map-append (row_text seed) (range_with_len 0 rows) (rows ∷ [])
    ∙ ap (λ text. flat_map (row_text seed) (range_with_len 0 rows) ++ text) (append-nil (row_text seed rows))

-- ---- the text of the rows so far

pub before_rows : (seed : ℕ) (text : List ℕ) → text ≡ text ++ rows_text seed 0
before_rows seed text = sym (ap (λ rows. text ++ rows) (no_rows seed) ∙ append-nil text)

pub rows_step : (seed row state : ℕ) (before so_far now : List ℕ) → so_far ≡ before ++ rows_text seed row → state ≡ state_after seed (2 * row) →
    now ≡ so_far ++ wire_text (across row (offset_at (next state))) ++ wire_text (upright row (offset_at (next (next state)))) →
    now ≡ before ++ rows_text seed (row + 1)
rows_step seed row state before so_far now was at then =
    then ∙ append_assoc so_far (wire_text (across row (offset_at (next state)))) (wire_text (upright row (offset_at (next (next state)))))
    ∙ ap (λ text. so_far ++ text) (row_is seed row state at) ∙ ap (λ text. text ++ row_text seed row) was
    ∙ append_assoc before (rows_text seed row) (row_text seed row) ∙ ap (λ text. before ++ text) (sym (more_rows seed row))

-- ---- parts of a text, one behind another

pub six_parts : (a b c d e f : List ℕ) → a ++ b ++ c ++ d ++ e ++ f ≡ a ++ (b ++ c ++ d ++ e ++ f)
six_parts a b c d e f = simp append_assoc
