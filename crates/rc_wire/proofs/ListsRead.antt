-- Items in the middle of a statement: token by token, and as a relation.
use Rattle.std.proofs.Common.{◌≡◌, ◌∙◌, ◌+◌, ℕ, suc, inl, inr, List, [], ◌∷◌, ◌++◌, length, refl, ap, sym, subst, arith}
use Rattle.std.proofs.Math.ListN.{length-append}
use Rattle.std.specs.Prelude.{◌⊎◌, Option, None}
use Rattle.std.specs.List.{FoldsTo}
use Rattle.rc_keys.specs.Lexemes.{Lexeme}
use Rattle.rc_keys.specs.Course.{Turn, Refuse, More, Done, Close, Rows}
use Rattle.rc_keys.specs.Statements.{at_line}
use Rattle.rc_keys.specs.Slices.{Taken, Stops, Refuses, Short, later, on_turn, taken}
use Rattle.rc_keys.specs.Phrases.{joined}
use Rattle.rc_keys.proofs.Phrasing.{On, Takes, Never}
use Rattle.rc_keys.proofs.InStatement as inside
use Rattle.rc_wire.specs.declared.operands.Operands.{Operands}
use Rattle.rc_wire.specs.Parts.{nothing}
use Rattle.rc_wire.specs.Items.{Format, item_turn, IsItem, GoesOn, AreItems}
use Rattle.rc_wire.proofs.ItemsRead as items

-- ---- tokens up to one that closes

abbrev pub Anything : {S : Type 0} → S → List Lexeme → Type 0
Anything s words = Unit {0}

one_less : {S : Type 0} (r : Taken S) (after : S) (n : ℕ) → later 1 r ≡ Stops after n → (m : ℕ) × (n ≡ suc m) × (r ≡ Stops after m)
one_less (Stops s count) after n is = let e : 1 + count ≡ n = cc in let f : s ≡ after = cc in (count, omega arith, rw f refl)
one_less (Refuses refusal) after n is = absurd cc
one_less Short after n is = absurd cc

takes_turn : {S : Type 0} (rows : Rows S) (line : ℕ) (C : S → List Lexeme → Type 0) (after : S) (words : List Lexeme) (n : ℕ)
    → ((s : S) (m : ℕ) → taken rows line s words ≡ Stops after m → ((rest : List Lexeme) → length words ≡ m + suc (length rest) → C after rest) → Takes rows line Anything C s words)
    → (turn : Turn S) → on_turn turn (λ t. taken rows line t words) ≡ Stops after n → ((rest : List Lexeme) → suc (length words) ≡ n + suc (length rest) → C after rest)
    → On (λ t. Takes rows line Anything C t words) (λ t. Anything t words) (λ t. C t words) turn
takes_turn rows line C after words n again (Refuse refusal) is c = absurd cc
takes_turn rows line C after words n again (More t) is c =
    let e = one_less (taken rows line t words) after n is in
    again t e.0 e.2 (λ rest same. c rest (let f = e.1 in omega arith))
takes_turn rows line C after words n again (Done t) is c = tt
takes_turn rows line C after words n again (Close t) is c = let e : t ≡ after = cc in let f : 0 ≡ n = cc in rw e (c words (omega arith))

to_takes : {S : Type 0} (rows : Rows S) (line : ℕ) (C : S → List Lexeme → Type 0) (after : S) (words : List Lexeme) (s : S) (n : ℕ)
    → taken rows line s words ≡ Stops after n → ((rest : List Lexeme) → length words ≡ n + suc (length rest) → C after rest) → Takes rows line Anything C s words
unfolding taken
to_takes rows line C after [] s n is c = absurd cc
to_takes rows line C after (word ∷ words) s n is c =
    takes_turn rows line C after words n (λ t m is_ c_. to_takes rows line C after words t m is_ c_) (rows s (at_line line word)) is c

-- the state and the tokens behind the one that closes
abbrev Closing : {S : Type 0} → Rows S → ℕ → (S → List Lexeme → Type 0) → S → List Lexeme → Type 0
Closing {S} rows line C s words = (t : S) × (n : ℕ) × (rest : List Lexeme) × (taken rows line s words ≡ Stops t n) × (length words ≡ n + suc (length rest)) × C t rest

closing_turn : {S : Type 0} (rows : Rows S) (line : ℕ) (C : S → List Lexeme → Type 0) (s : S) (word : Lexeme) (words : List Lexeme) → ((t : S) → Takes rows line Never C t words → Closing rows line C t words)
    → (turn : Turn S) → rows s (at_line line word) ≡ turn → On (λ t. Takes rows line Never C t words) (λ t. Never t words) (λ t. C t words) turn → Closing rows line C s (word ∷ words)
unfolding taken
closing_turn rows line C s word words again (Refuse refusal) is h = absurd h
closing_turn rows line C s word words again (More t) is h =
    let e = again t h in
    (e.0, 1 + e.1, e.2, rw is (ap (later 1) e.3), (let f = e.4 in omega arith), e.5)
closing_turn rows line C s word words again (Done t) is h = absurd h
closing_turn rows line C s word words again (Close t) is h = (t, 0, words, rw is refl, omega arith, h)

from_takes : {S : Type 0} (rows : Rows S) (line : ℕ) (C : S → List Lexeme → Type 0) (words : List Lexeme) (s : S) → Takes rows line Never C s words → Closing rows line C s words
from_takes rows line C [] s h = absurd h
from_takes rows line C (word ∷ words) s h = closing_turn rows line C s word words (λ t h_. from_takes rows line C words t h_) (rows s (at_line line word)) refl h

-- ---- items

module _ {S V K : Type 0} (made : V → Option K → ℕ → Operands → S) (format : Format V K) (rows : Rows S) (law : (v : V) (item : Option K) (place : ℕ) (said : Operands) (word : Lexeme) → rows (made v item place said) word ≡ item_turn made format v item place said word)
    (goes : (item : K) (v : V) (said : Operands) → (w : V) × (format.means item v said ≡ More w)) (line : ℕ) where
  abbrev pub at : V → S
  at v = made v None 0 nothing

  abbrev Stands : V → S → Type 0
  Stands v s = s ≡ at v

  abbrev IsNone : V → List Lexeme → Type 0
  IsNone v words = words ≡ []

  abbrev Ended : (S → List Lexeme → Type 0) → V → List Lexeme → Type 0
  Ended C v words = items.Ends made format rows line law Anything C v words

  by_turn : (C : S → List Lexeme → Type 0) (v : V) (words : List Lexeme) (turn : Turn V) (front rest : List Lexeme) → words ≡ front ++ rest → IsItem format line v front turn → items.Behind made format rows line law Anything C turn rest
      → inside.One rows line Anything C Stands (GoesOn format line) IsNone (Ended C) v words ⊎ inside.Last rows line Anything C Stands (GoesOn format line) IsNone (Ended C) v words
  by_turn C v words (Refuse refusal) front rest is item d = absurd d
  by_turn C v words (More w) front rest is item d = inl (w, at w, item.first, item.others, rest, is ∙ ap (λ ws. ws ++ rest) item.parts, subst (λ ws. IsItem format line v ws (More w)) item.parts item, refl, d)
  by_turn C v words (Done w) front rest is item d = let g = goes item.item v item.said in let e = sym g.1 ∙ item.says in absurd cc
  by_turn C v words (Close w) front rest is item d = let g = goes item.item v item.said in let e = sym g.1 ∙ item.says in absurd cc

  by_next : (C : S → List Lexeme → Type 0) (v : V) (words : List Lexeme) → items.Next made format rows line law Anything C v words ⊎ items.Ends made format rows line law Anything C v words
      → inside.One rows line Anything C Stands (GoesOn format line) IsNone (Ended C) v words ⊎ inside.Last rows line Anything C Stands (GoesOn format line) IsNone (Ended C) v words
  by_next C v words (inl (turn, front, rest, is, item, d)) = by_turn C v words turn front rest is item d
  by_next C v words (inr ends) = inr ([], words, refl, refl, ends)

  pub items_of : (v : V) (after : S) (words : List Lexeme) (n : ℕ) → taken rows line (at v) words ≡ Stops after n → (w : V) × AreItems format line v words w n × (after ≡ at w)
  items_of v after words n is =
      let C : S → List Lexeme → Type 0 = λ t rest. (t ≡ after) × (length words ≡ n + suc (length rest)) in
      let h = to_takes rows line C after words (at v) n is (λ rest same. (refl, same)) in
      let p = inside.parts rows line Anything C Stands (GoesOn format line) IsNone (Ended C) (λ u s ws stands t. by_next C u ws (items.reads made format rows line law Anything C u ws (rw stands at t))) v (at v) words refl h in
      by p.0 p.1 p.2 p.3 p.4 p.5 p.6 p.7
    where
      by : (w : V) (parts : List (List Lexeme)) (none rest : List Lexeme) → words ≡ joined parts ++ (none ++ rest) → FoldsTo (GoesOn format line) v parts w → none ≡ [] → Ended (λ t rest. (t ≡ after) × (length words ≡ n + suc (length rest))) w rest → (w : V) × AreItems format line v words w n × (after ≡ at w)
      by w parts none rest is each empty (last, behind, same, ends, c) =
          let all : words ≡ joined parts ++ last ∷ behind = rw (empty, same) at is in
          let long : length words ≡ length (joined parts) + suc (length behind) = ap length all ∙ length-append (joined parts) (last ∷ behind) in
          (w, record { front = joined parts; last = last; rest = behind; parts = all; items = record { parts = parts; whole = refl; each = each }; ends = ends; count_is = (let k = c.1 in omega arith) }, sym c.0)

  pub items_back : (v w : V) (words : List Lexeme) (n : ℕ) → AreItems format line v words w n → taken rows line (at v) words ≡ Stops (at w) n
  items_back v w words n a =
      let C : S → List Lexeme → Type 0 = λ t rest. (t ≡ at w) × (rest ≡ a.rest) in
      let h = inside.parts_back rows line Never C Stands (GoesOn format line) IsNone IsNone (λ u x s part rest stands item more. rw stands (items.item_back made format rows line law Never C u (More x) part rest item (more (at x) refl))) a.items.parts v w (at v) (a.last ∷ a.rest) refl a.items.each
      (λ t stands. rw stands (items.ends_back made format rows line law Never C w a.last a.rest a.ends (refl, refl))) in
      let whole : words ≡ joined a.items.parts ++ a.last ∷ a.rest = a.parts ∙ ap (λ front. front ++ a.last ∷ a.rest) a.items.whole in
      let e = from_takes rows line C words (at v) (rw whole h) in
      let long : length words ≡ length a.front + suc (length a.rest) = ap length a.parts ∙ length-append a.front (a.last ∷ a.rest) in
      let counted : e.1 ≡ n = (let p = e.4 in let q = ap length e.5.1 in let r = a.count_is in omega arith) in
      e.3 ∙ rw (e.5.0, counted) refl
