-- How often a column is changed.
use Rattle.std.proofs.Common.{◌≡◌, ◌≤◌, ◌<◌, ◌+◌, ◌*◌, ℕ, ℤ, ◌<ℤ◌, Bool, true, false, cond, List, [], ◌∷◌, length, take, get_or, refl, ap, sym, ◌∙◌, subst, arith}
use Rattle.std.specs.Prelude.{◌&&◌, not, int_le, int_lt}
use Rattle.std.specs.List.{sum_by, count_by}
use Rattle.std.proofs.lemmas.Bool.{true≢false}
use Rattle.std.proofs.lemmas.Int.{ints}
use Rattle.std.proofs.lemmas.List.Sums.{sum_by-cons, sum_by-le, sum_by-take-le, count_by_more_yes, count_by_more_no}
use Rattle.rc_geom.specs.declared.tile.Tile.{Tile}
use Rattle.rc_geom.specs.Sums.{first_line, end_line}
use Rattle.rc_column.specs.declared.ends.Mark.{Mark}
use Rattle.rc_column.specs.EditCounts.{raised}
use Rattle.rc_sums.specs.Columns.{is_on, leaves}

abbrev pub bit : Bool → ℕ
bit b = cond b 1 0

-- one edit where the tile begins no later than the line, and one where it ends no later
abbrev pub due : ℕ → ℤ → Tile → ℕ
due axis at t = bit (int_le (first_line axis t.rect) at) + bit (int_le (end_line axis t.rect) at)

-- ---- edits in a loop

pub edit_made : (old now after : ℕ) (p : Tile → Bool) (ts : List Tile) (i : ℕ) (d : Tile) → i < length ts → p (get_or ts i d) ≡ true → now ≤ old + count_by p (take i ts) → after ≡ raised now 1 → after ≤ old + count_by p (take (i + 1) ts)
edit_made old now after p ts i d within passes few is =
    let more = count_by_more_yes p ts i d within passes in
    omega (arith, more, few, is)

pub no_edit : (old now : ℕ) (p : Tile → Bool) (ts : List Tile) (i : ℕ) (d : Tile) → i < length ts → p (get_or ts i d) ≡ false → now ≤ old + count_by p (take i ts) → now ≤ old + count_by p (take (i + 1) ts)
no_edit old now p ts i d within stays few =
    let more = count_by_more_no p ts i d within stays in
    omega (arith, more, few)

pub edits_in_all : (old now : ℕ) (p : Tile → Bool) (ts : List Tile) (i : ℕ) → now ≤ old + count_by p (take i ts) → now ≤ old + count_by p ts
edits_in_all old now p ts i few =
    let part : count_by p (take i ts) ≤ count_by p ts = sum_by-take-le (λ (t : Tile). cond (p t) 1 0) ts i in
    omega (arith, part, few)

-- ---- edits in all

-- a tile comes in where it begins, and goes out where it ends
weigh : (b e c f : Bool) → (b ≡ true → c ≡ true) → (e ≡ true → f ≡ true) → bit b + bit e + bit ((b && not e) && not (c && not f)) + bit ((c && not f) && not (b && not e)) ≤ bit c + bit f
weigh true e false f h k = absurd (true≢false (sym (h refl)))
weigh true true true false h k = absurd (true≢false (sym (k refl)))
weigh false true c false h k = absurd (true≢false (sym (k refl)))
weigh true true true true h k = omega arith
weigh true false true true h k = omega arith
weigh true false true false h k = omega arith
weigh false true true true h k = omega arith
weigh false true false true h k = omega arith
weigh false false true true h k = omega arith
weigh false false true false h k = omega arith
weigh false false false true h k = omega arith
weigh false false false false h k = omega arith

below_later : (z a b : ℤ) → a <ℤ b → int_le z a ≡ true → int_le z b ≡ true
below_later z a b less h = grind (arith, ints)

past_end : (z a : ℤ) → int_lt a z ≡ not (int_le z a)
past_end z a = grind (arith, ints)

on_is : (line : Mark) (t : Tile) → is_on line t ≡ (int_le (first_line line.axis t.rect) line.at && not (int_le (end_line line.axis t.rect) line.at))
on_is line t = ap (λ b. int_le (first_line line.axis t.rect) line.at && b) (past_end (end_line line.axis t.rect) line.at)

tile_due : (axis : ℕ) (a b : ℤ) (t : Tile) (on on' : Bool) → a <ℤ b → on ≡ (int_le (first_line axis t.rect) a && not (int_le (end_line axis t.rect) a)) → on' ≡ (int_le (first_line axis t.rect) b && not (int_le (end_line axis t.rect) b)) → due axis a t + bit (on && not on') + bit (on' && not on) ≤ due axis b t
tile_due axis a b t on on' less is is' =
    let w = weigh (int_le (first_line axis t.rect) a) (int_le (end_line axis t.rect) a) (int_le (first_line axis t.rect) b) (int_le (end_line axis t.rect) b) (below_later (first_line axis t.rect) a b less) (below_later (end_line axis t.rect) a b less) in
    subst (λ o. due axis a t + bit (o && not on') + bit (on' && not o) ≤ due axis b t) (sym is)
    (subst (λ o'. due axis a t + bit ((int_le (first_line axis t.rect) a && not (int_le (end_line axis t.rect) a)) && not o') + bit (o' && not (int_le (first_line axis t.rect) a && not (int_le (end_line axis t.rect) a))) ≤ due axis b t) (sym is') w)

pub edits_due : (line next : Mark) (ts : List Tile) → next.axis ≡ line.axis → line.at <ℤ next.at → sum_by (due line.axis line.at) ts + count_by (leaves line next) ts + count_by (leaves next line) ts ≤ sum_by (due line.axis next.at) ts
edits_due line next [] axis less = omega arith
edits_due line next (t ∷ ts) axis less =
    let rest = edits_due line next ts axis less in
    let on_next : is_on next t ≡ (int_le (first_line line.axis t.rect) next.at && not (int_le (end_line line.axis t.rect) next.at)) = on_is next t ∙ ap (λ (a : ℕ). int_le (first_line a t.rect) next.at && not (int_le (end_line a t.rect) next.at)) axis in
    let here = tile_due line.axis line.at next.at t (is_on line t) (is_on next t) less (on_is line t) on_next in
    let one = sum_by-cons (due line.axis line.at) t ts in
    let two = sum_by-cons (λ (u : Tile). cond (leaves line next u) 1 0) t ts in
    let three = sum_by-cons (λ (u : Tile). cond (leaves next line u) 1 0) t ts in
    let four = sum_by-cons (due line.axis next.at) t ts in
    omega (arith, rest, here, one, two, three, four)

on_weighs : (b e : Bool) → bit (b && not e) ≤ bit b + bit e
on_weighs true true = omega arith
on_weighs true false = omega arith
on_weighs false true = omega arith
on_weighs false false = omega arith

pub first_due : (line : Mark) (ts : List Tile) → count_by (is_on line) ts ≤ sum_by (due line.axis line.at) ts
first_due line [] = omega arith
first_due line (t ∷ ts) =
    let rest = first_due line ts in
    let here : bit (is_on line t) ≤ due line.axis line.at t = subst (λ o. bit o ≤ due line.axis line.at t) (sym (on_is line t)) (on_weighs (int_le (first_line line.axis t.rect) line.at) (int_le (end_line line.axis t.rect) line.at)) in
    let one = sum_by-cons (λ (u : Tile). cond (is_on line u) 1 0) t ts in
    let two = sum_by-cons (due line.axis line.at) t ts in
    omega (arith, rest, here, one, two)

bit_small : (b : Bool) → bit b ≤ 1
bit_small true = omega arith
bit_small false = omega arith

-- each tile is due twice at most
pub due_twice : (axis : ℕ) (at : ℤ) (ts : List Tile) → sum_by (due axis at) ts ≤ 2 * length ts
due_twice axis at ts =
    let most = sum_by-le (due axis at) 2 ts (λ k d within.
    let t = get_or ts k d in
    let one = bit_small (int_le (first_line axis t.rect) at) in
    let two = bit_small (int_le (end_line axis t.rect) at) in
    omega (arith, one, two)) in
    omega (arith, most)

-- ---- edits of a sweep

pub kept_edits : (old now after : ℕ) → old ≤ now → after ≡ raised now 1 → old ≤ after
kept_edits old now after kept is = omega (arith, kept, is)

pub first_edits : (old now : ℕ) (first line : Mark) (axis : ℕ) (ts : List Tile) → first ≡ line → first.axis ≡ axis → now ≤ old + count_by (is_on first) ts → now ≤ old + sum_by (due axis line.at) ts
first_edits old now first line axis ts is same few =
    let most = first_due first ts in
    let there : sum_by (due first.axis first.at) ts ≡ sum_by (due axis line.at) ts = ap (λ (a : ℕ). sum_by (due a first.at) ts) same ∙ ap (λ (m : Mark). sum_by (due axis m.at) ts) is in
    omega (arith, few, most, there)

pub next_edits : (old now after : ℕ) (line to new : Mark) (axis : ℕ) (ts : List Tile) → line.axis ≡ axis → to.axis ≡ line.axis → to ≡ new → line.at <ℤ to.at → now ≤ old + sum_by (due axis line.at) ts → after ≤ now + count_by (leaves line to) ts + count_by (leaves to line) ts → after ≤ old + sum_by (due axis new.at) ts
next_edits old now after line to new axis ts same to_axis is less few made =
    let most = edits_due line to ts to_axis less in
    let here : sum_by (due line.axis line.at) ts ≡ sum_by (due axis line.at) ts = ap (λ (a : ℕ). sum_by (due a line.at) ts) same in
    let there : sum_by (due line.axis to.at) ts ≡ sum_by (due axis new.at) ts = ap (λ (a : ℕ). sum_by (due a to.at) ts) same ∙ ap (λ (m : Mark). sum_by (due axis m.at) ts) is in
    omega (arith, few, made, most, here, there)

pub all_edits : (old now axis : ℕ) (at : ℤ) (ts : List Tile) → now ≤ old + sum_by (due axis at) ts → now ≤ old + 2 * length ts
all_edits old now axis at ts few =
    let most = due_twice axis at ts in
    omega (arith, few, most)
