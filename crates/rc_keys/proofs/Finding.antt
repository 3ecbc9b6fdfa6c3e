-- The one place of a word, where each word has a slot of its own.
use Rattle.std.proofs.Common.{◌≡◌, ◌∙◌, ◌<◌, ℕ, Bool, true, false, cond, inl, inr, List, [], length, get_or, refl, sym, ap, arith, ltb}
use Rattle.std.specs.Prelude.{◌↔◌, Option, Some, None, position, slice_get, ◌⊎◌, ◌==◌}
use Rattle.std.specs.List.{position_or_len}
use Rattle.std.specs.Str.{bytes_eq}
use Rattle.std.proofs.lemmas.Bool.{cases_Bool, lt-ltb}
use Rattle.std.proofs.lemmas.Slice.Eq.{bytes_eq-Decides}
use Rattle.std.proofs.lemmas.Bool.Decides.{nat_tests, Decides-eqb, not_from_Decides}
use Rattle.std.proofs.lemmas.List.Sums.{position_or_len_is}
use Rattle.std.proofs.lemmas.Option.{slice_get-get_or, slice_get_within, get_or_from_slice_get, slice_get_read}
use Rattle.std.proofs.lemmas.List.Quantifiers.{position-Some}
use Rattle.rc_keys.specs.KeyWords.{AreDifferent}
use Rattle.rc_keys.specs.Inner.Slots.{slot_of, HaveSlots}

same_bytes : (a b : List ℕ) → bytes_eq a b ≡ true → a ≡ b
same_bytes a b is = (bytes_eq-Decides a b).0 is

own_slot : (words : List (List ℕ)) (slots : List ℕ) (word : List ℕ) (k : ℕ) → HaveSlots words slots (length words) → k < length words → bytes_eq word (get_or words k []) ≡ true → get_or slots (slot_of word) 0 ≡ k
own_slot words slots word k have lt is =
    let same : word ≡ get_or words k [] = same_bytes word (get_or words k []) is in
    rw same (have k (get_or words k []) lt (slice_get-get_or words k [] lt))

-- no word but that of the slot can be the one
others_fail : (words : List (List ℕ)) (slots : List ℕ) (word : List ℕ) (k j : ℕ) → HaveSlots words slots (length words) → k ≡ get_or slots (slot_of word) 0 → j < length words → (j ≡ k → ⊥) → bytes_eq word (get_or words j []) ≡ false
others_fail words slots word k j have at lt apart =
    elim (cases_Bool (bytes_eq word (get_or words j []))) [
      | inl yes' ↦ absurd (apart (sym (at ∙ own_slot words slots word j have lt yes')))
      | inr no' ↦ no'
    ]

placed : (words : List (List ℕ)) (word : List ℕ) (n : ℕ) (b : Bool) → position_or_len (bytes_eq word) words ≡ n → ltb n (length words) ≡ b → position (bytes_eq word) words ≡ cond b (Some n) None
placed words word n b is lt = rw (is, lt) refl

pub absent : (words : List (List ℕ)) (slots : List ℕ) (word : List ℕ) (k : ℕ) → HaveSlots words slots (length words) → k ≡ get_or slots (slot_of word) 0 → (k < length words → bytes_eq word (get_or words k []) ≡ false) → None ≡ position (bytes_eq word) words
absent words slots word k have at not =
    let fails : (j : ℕ) → j < length words → bytes_eq word (get_or words j []) ≡ false = λ j lt. fails_at j lt (cases_Bool (j == k)) in
    sym (placed words word (length words) false (position_or_len_is (bytes_eq word) words (length words) [] (omega arith) fails (λ lt. absurd (omega arith))) (grind (arith, nat_tests)))
  where
    fails_at : (j : ℕ) → j < length words → (((j == k) ≡ true) ⊎ ((j == k) ≡ false)) → bytes_eq word (get_or words j []) ≡ false
    fails_at j lt (inl yes') = let same : j ≡ k = (Decides-eqb j k).0 yes' in rw same (not (rw (← same) lt))
    fails_at j lt (inr no') = others_fail words slots word k j have at lt (λ same. not_from_Decides (j == k) (Decides-eqb j k) no' same)

pub present : (words : List (List ℕ)) (slots : List ℕ) (word : List ℕ) (k : ℕ) → HaveSlots words slots (length words) → k ≡ get_or slots (slot_of word) 0 → k < length words → bytes_eq word (get_or words k []) ≡ true → Some k ≡ position (bytes_eq word) words
present words slots word k have at lt is =
    sym (placed words word k true (position_or_len_is (bytes_eq word) words k [] (omega arith) (λ j less. others_fail words slots word k j have at (omega arith) (λ same. absurd (omega arith))) (λ _. is)) (lt-ltb k (length words) lt))

the_key : (words : List (List ℕ)) (k : ℕ) (key : List ℕ) → k < length words → key ≡ get_or words k key → get_or words k [] ≡ key
the_key words k key lt is = get_or_from_slice_get words k key [] (slice_get_read words (length words) k key refl lt is)

pub absent_at : (words : List (List ℕ)) (slots : List ℕ) (word key : List ℕ) (k : ℕ) → HaveSlots words slots (length words) → k ≡ get_or slots (slot_of word) 0 → k < length words → key ≡ get_or words k key → bytes_eq word key ≡ false
    → None ≡ position (bytes_eq word) words
absent_at words slots word key k have at lt is not = absent words slots word k have at (λ _. rw (the_key words k key lt is) not)

pub present_at : (words : List (List ℕ)) (slots : List ℕ) (word key : List ℕ) (k : ℕ) → HaveSlots words slots (length words) → k ≡ get_or slots (slot_of word) 0 → k < length words → key ≡ get_or words k key → bytes_eq word key ≡ true
    → Some k ≡ position (bytes_eq word) words
present_at words slots word key k have at lt is same = present words slots word k have at lt (rw (the_key words k key lt is) same)

-- ---- a table of different words

placed_there : (words : List (List ℕ)) (word : List ℕ) (k : ℕ) → AreDifferent words → k < length words → get_or words k [] ≡ word → position (bytes_eq word) words ≡ Some k
unfolding AreDifferent
placed_there words word k differ lt is =
    placed words word k true (position_or_len_is (bytes_eq word) words k [] (omega arith) before (λ _. (bytes_eq-Decides word (get_or words k [])).1 (sym is))) (lt-ltb k (length words) lt)
  where
    before : (j : ℕ) → j < k → bytes_eq word (get_or words j []) ≡ false
    before j less =
        elim (cases_Bool (bytes_eq word (get_or words j []))) [
          | inl yes' ↦ absurd (differ j k [] less lt (sym (same_bytes word (get_or words j []) yes') ∙ sym is))
          | inr no' ↦ no'
        ]

-- a word is found at the one place where it stands
pub found_there : (words : List (List ℕ)) (word : List ℕ) (found : Option ℕ) → AreDifferent words → found ≡ position (bytes_eq word) words → (k : ℕ) → (found ≡ Some k) ↔ (slice_get words k ≡ Some word)
found_there words word found differ is k = (
  (λ at. let there = position-Some (bytes_eq word) words k [] (sym is ∙ at) in slice_get-get_or words k [] there.0 ∙ ap (λ w. Some w) (sym (same_bytes word (get_or words k []) there.1))),
  (λ at. is ∙ placed_there words word k differ (slice_get_within words k word at) (get_or_from_slice_get words k word [] at)),
)
