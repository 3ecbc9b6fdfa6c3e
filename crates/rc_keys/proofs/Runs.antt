-- Blanks, and the bytes of a word, all at once.
use Rattle.std.proofs.Common.{◌≡◌, ◌∙◌, ℕ, zero, suc, ◌+◌, ◌-◌, ◌<◌, ◌≤◌, Bool, true, false, List, [], ◌∷◌, ◌++◌, length, drop, get_or, refl, ap, sym, subst, arith, append_assoc}
use Rattle.std.specs.Prelude.{Some, None, ◌==◌, not, nat_le, nat_lt, ◌&&◌}
use Rattle.std.proofs.lemmas.Bool.{and_parts}
use Rattle.std.proofs.lemmas.Bool.Decides.{nat_tests}
use Rattle.rc_keys.specs.declared.token.Inside.TheVariants as inside
use Rattle.rc_keys.specs.declared.token.Kind.TheVariants as kinds
use Rattle.rc_keys.specs.declared.token.Mode.{Mode}
use Rattle.rc_keys.specs.declared.token.Mode.TheVariants as mode
use Rattle.rc_keys.specs.declared.token.Place.{Place}
use Rattle.rc_keys.specs.declared.token.Token.{Token}
use Rattle.rc_keys.specs.Tokens.{next, closed_by, listed, tokens_from, is_blank, is_graphic, first_inside}
use Rattle.rc_keys.specs.Inner.Leads.{Leads, begins_word, marks_comment, word_token, behind_word, line_after}
use Rattle.rc_keys.proofs.Steps.{tokens_step, after_step}

pub leads_step : (m : Mode) (text : List ℕ) (at : ℕ) (p : Place) → at < length text → Leads m text at p (listed (closed_by p (get_or text at 0))) (at + 1) (next m p (get_or text at 0))
leads_step m text at p lt = (tokens_step m p text at lt, after_step m p text at lt)

pub leads_join : (m : Mode) (text : List ℕ) (at : ℕ) (p : Place) (ts : List Token) (at' : ℕ) (p' : Place) (us : List Token) (at2 : ℕ) (p2 : Place)
    → Leads m text at p ts at' p' → Leads m text at' p' us at2 p2 → Leads m text at p (ts ++ us) at2 p2
leads_join m text at p ts at' p' us at2 p2 a b = (a.0 ∙ ap (λ xs. ts ++ xs) b.0 ∙ sym (append_assoc ts us (tokens_from m p2 (drop at2 text))), a.1 ∙ b.1)

-- ---- blanks

abbrev between_at : ℕ → ℕ → ℕ → ℕ → Place
between_at at line start start_line = record { at = at; line = line; start = start; start_line = start_line; inside = inside.Between }

next_blank : (m : Mode) (at line start start_line b : ℕ) → is_blank b ≡ true → next m (between_at at line start start_line) b ≡ between_at (at + 1) (line_after b line) start start_line
unfolding next
next_blank m at line start start_line b is = rw is refl

none_closed : (at line start start_line b : ℕ) → closed_by (between_at at line start start_line) b ≡ None
unfolding closed_by
none_closed at line start start_line b = refl

pub leads_blank : (m : Mode) (text : List ℕ) (at : ℕ) (p : Place) → at < length text → p.inside ≡ inside.Between → is_blank (get_or text at 0) ≡ true
    → Leads m text at p [] (at + 1) (record p { at = p.at + 1; line = line_after (get_or text at 0) p.line })
leads_blank m text at p lt there blank =
    let q : Place = between_at p.at p.line p.start p.start_line in
    let same : p ≡ q = λ i. record { at = p.at; line = p.line; start = p.start; start_line = p.start_line; inside = there i } in
    let step : Leads m text at q (listed (closed_by q (get_or text at 0))) (at + 1) (next m q (get_or text at 0)) = leads_step m text at q lt in
    let P : Place → Type 0 = λ x. Leads m text at x [] (at + 1) (record x { at = x.at + 1; line = line_after (get_or text at 0) x.line }) in
    subst P (sym same) (rw (none_closed p.at p.line p.start p.start_line (get_or text at 0), next_blank m p.at p.line p.start p.start_line (get_or text at 0) blank) at step)

-- ---- words

abbrev word_at : ℕ → ℕ → ℕ → ℕ → Place
word_at at line start start_line = record { at = at; line = line; start = start; start_line = start_line; inside = inside.Word }

pub above_32 : (b : ℕ) → is_graphic b ≡ true → 32 < b
above_32 b is = let h : nat_lt 32 b ≡ true = (and_parts (nat_lt 32 b) (nat_lt b 127) is).0 in grind (arith, nat_tests)

pub unlike : (b k : ℕ) → k < b → (b == k) ≡ false
unlike b k lt = grind (arith, nat_tests)

pub not_blank : (b : ℕ) → is_graphic b ≡ true → is_blank b ≡ false
not_blank b is = let h = above_32 b is in rw (unlike b 9 (omega (arith, h)), unlike b 10 (omega (arith, h)), unlike b 13 (omega (arith, h)), unlike b 32 h) refl

pub not_full : (at start : ℕ) → at - start < 4096 → nat_le 4096 (at - start) ≡ false
not_full at start lt = grind (arith, nat_tests)

next_in_word : (m : Mode) (at line start start_line b : ℕ) → is_graphic b ≡ true → at - start < 4096 → next m (word_at at line start start_line) b ≡ word_at (at + 1) line start start_line
unfolding next
next_in_word m at line start start_line b is room =
    let h = above_32 b is in
    rw (not_blank b is, is, not_full at start room, unlike b 10 (omega (arith, h))) refl

open_word : (at line start start_line b : ℕ) → is_graphic b ≡ true → closed_by (word_at at line start start_line) b ≡ None
unfolding closed_by
open_word at line start start_line b is = rw (not_blank b is) refl

leads_letter : (m : Mode) (text : List ℕ) (at a line start start_line : ℕ) → at < length text → is_graphic (get_or text at 0) ≡ true → a - start < 4096
    → Leads m text at (word_at a line start start_line) [] (at + 1) (word_at (a + 1) line start start_line)
leads_letter m text at a line start start_line lt is room =
    rw (open_word a line start start_line (get_or text at 0) is, next_in_word m a line start start_line (get_or text at 0) is room) at (leads_step m text at (word_at a line start start_line) lt)

pub leads_along : (m : Mode) (text : List ℕ) (n at : ℕ) (a line start start_line : ℕ) → ((k : ℕ) → at ≤ k → k < at + n → is_graphic (get_or text k 0) ≡ true) → at + n ≤ length text → start ≤ a → a + n ≤ start + 4096
    → Leads m text at (word_at a line start start_line) [] (at + n) (word_at (a + n) line start start_line)
leads_along m text zero at a line start start_line graphic fits le room =
    let e : at + 0 ≡ at = omega arith in let f : a + 0 ≡ a = omega arith in rw (e, f) (refl, refl)
leads_along m text (suc n) at a line start start_line graphic fits le room =
    let e : at + suc n ≡ (at + 1) + n = omega arith in let f : a + suc n ≡ (a + 1) + n = omega arith in
    let one : Leads m text at (word_at a line start start_line) [] (at + 1) (word_at (a + 1) line start start_line) =
    leads_letter m text at a line start start_line (omega arith) (graphic at (omega arith) (omega arith)) (omega arith) in
    let more : Leads m text (at + 1) (word_at (a + 1) line start start_line) [] ((at + 1) + n) (word_at ((a + 1) + n) line start start_line) =
    leads_along m text n (at + 1) (a + 1) line start start_line (λ k low high. graphic k (omega arith) (omega arith)) (omega arith) (omega arith) (omega arith) in
    rw (e, f) (leads_join m text at (word_at a line start start_line) [] (at + 1) (word_at (a + 1) line start start_line) [] ((at + 1) + n) (word_at ((a + 1) + n) line start start_line) one more)

-- ---- a whole word, with the blank behind it

not_is : (x : Bool) → not x ≡ true → x ≡ false
not_is true is = absurd cc
not_is false is = refl

word_inside : (m : Mode) (b : ℕ) → marks_comment m b ≡ false → first_inside m b ≡ inside.Word
word_inside mode.Lef b not = rw not refl
word_inside mode.Spef b not = rw not refl

begun_at : (m : Mode) (at line start start_line b : ℕ) → begins_word m b ≡ true → next m (between_at at line start start_line) b ≡ word_at (at + 1) line at line
unfolding next
begun_at m at line start start_line b is =
    let outer = and_parts (is_graphic b && not (b == 34)) (not (marks_comment m b)) is in
    let inner = and_parts (is_graphic b) (not (b == 34)) outer.0 in
    rw (not_blank b inner.0, not_is (b == 34) inner.1, inner.0, word_inside m b (not_is (marks_comment m b) outer.1), unlike b 10 (omega (arith, above_32 b inner.0))) refl

closed_word : (at line start start_line b : ℕ) → is_blank b ≡ true → closed_by (word_at at line start start_line) b ≡ Some (record { kind = kinds.Word; start = start; end = at; line = start_line })
unfolding closed_by
closed_word at line start start_line b is = rw is refl

next_behind : (m : Mode) (at line start start_line b : ℕ) → is_blank b ≡ true → next m (word_at at line start start_line) b ≡ between_at (at + 1) (line_after b line) start start_line
unfolding next
next_behind m at line start start_line b is = rw is refl

pub leads_word : (m : Mode) (text : List ℕ) (at end : ℕ) (p : Place) → p.inside ≡ inside.Between → at < end → end < length text → end ≤ at + 4096
    → begins_word m (get_or text at 0) ≡ true → ((k : ℕ) → at + 1 ≤ k → k < end → is_graphic (get_or text k 0) ≡ true) → is_blank (get_or text end 0) ≡ true
    → Leads m text at p (word_token p (end - at) ∷ []) (end + 1) (behind_word p (end - at) (get_or text end 0))
leads_word m text at end p there lt within short begins graphic blank =
    let q : Place = between_at p.at p.line p.start p.start_line in
    let same : p ≡ q = λ i. record { at = p.at; line = p.line; start = p.start; start_line = p.start_line; inside = there i } in
    let n : ℕ = end - (at + 1) in
    let e1 : (at + 1) + n ≡ end = omega arith in
    let e2 : (p.at + 1) + n ≡ p.at + (end - at) = omega arith in
    let P : Place → Type 0 = λ x. Leads m text at x (word_token x (end - at) ∷ []) (end + 1) (behind_word x (end - at) (get_or text end 0)) in
    let one : Leads m text at q [] (at + 1) (word_at (p.at + 1) p.line p.at p.line) =
    rw (none_closed p.at p.line p.start p.start_line (get_or text at 0), begun_at m p.at p.line p.start p.start_line (get_or text at 0) begins) at (leads_step m text at q (omega arith)) in
    let two : Leads m text (at + 1) (word_at (p.at + 1) p.line p.at p.line) [] end (word_at (p.at + (end - at)) p.line p.at p.line) =
    rw (e1, e2) at (leads_along m text n (at + 1) (p.at + 1) p.line p.at p.line (λ k low high. graphic k low (omega arith)) (omega arith) (omega arith) (omega arith)) in
    let three : Leads m text end (word_at (p.at + (end - at)) p.line p.at p.line) (word_token p (end - at) ∷ []) (end + 1) (behind_word p (end - at) (get_or text end 0)) =
    rw (closed_word (p.at + (end - at)) p.line p.at p.line (get_or text end 0) blank, next_behind m (p.at + (end - at)) p.line p.at p.line (get_or text end 0) blank) at (leads_step m text end (word_at (p.at + (end - at)) p.line p.at p.line) within) in
    let rest : Leads m text (at + 1) (word_at (p.at + 1) p.line p.at p.line) (word_token p (end - at) ∷ []) (end + 1) (behind_word p (end - at) (get_or text end 0)) =
    leads_join m text (at + 1) (word_at (p.at + 1) p.line p.at p.line) [] end (word_at (p.at + (end - at)) p.line p.at p.line) (word_token p (end - at) ∷ []) (end + 1) (behind_word p (end - at) (get_or text end 0)) two three in
    subst P (sym same) (leads_join m text at q [] (at + 1) (word_at (p.at + 1) p.line p.at p.line) (word_token p (end - at) ∷ []) (end + 1) (behind_word p (end - at) (get_or text end 0)) one rest)
