-- Statements and whole texts of items: token by token, and as a relation.
use Rattle.std.proofs.Common.{◌≡◌, ◌∙◌, ℕ, Bool, false, inl, inr, List, [], ◌++◌, refl, ap, sym, subst}
use Rattle.std.proofs.lemmas.List.{append-nil}
use Rattle.std.specs.Prelude.{◌⊎◌, Option, None, Ok}
use Rattle.std.specs.List.{FoldsTo}
use Rattle.rc_keys.specs.Lexemes.{Lexeme, Remaining}
use Rattle.rc_keys.specs.Course.{Turn, Refuse, More, Done, Close, Rows, Read, reading}
use Rattle.rc_keys.specs.Statements.{at_line, first_line, Closes, IsEnd}
use Rattle.rc_keys.specs.Phrases.{joined, InTurn}
use Rattle.rc_keys.proofs.Readings.{accepts_statements}
use Rattle.rc_keys.proofs.Phrasing as phrasing
use Rattle.rc_keys.proofs.Phrasing.{Takes, Never, Stops, Step, taken, statement, closed, closing, reads_split, reads_join}
use Rattle.rc_keys.proofs.Blocks.{mean, in_turn, one_step}
use Rattle.rc_keys.proofs.InStatement as inside
use Rattle.rc_wire.specs.declared.operands.Operands.{Operands}
use Rattle.rc_wire.specs.Keys.{key_of}
use Rattle.rc_wire.specs.Parts.{nothing}
use Rattle.rc_wire.specs.Items.{Format, item_turn, IsItem, GoesOn, IsStatement, IsLast, IsText}
use Rattle.rc_wire.proofs.ItemsRead as items

module _ {S V K : Type 0} (made : V → Option K → ℕ → Operands → S) (format : Format V K) (rows : Rows S) (law : (v : V) (item : Option K) (place : ℕ) (said : Operands) (word : Lexeme) → rows (made v item place said) word ≡ item_turn made format v item place said word)
    (never : (v : V) (word : Lexeme) (line : ℕ) → format.begins v (key_of word) (at_line line word) ≡ Ok None → ⊥) where
  abbrev pub at : V → S
  at v = made v None 0 nothing

  abbrev pub Stands : V → S → Type 0
  Stands v s = s ≡ at v

  module _ (line : ℕ) (D C : S → List Lexeme → Type 0) where
    -- what holds behind an item that ends its statement, or the text
    abbrev Stop : Turn V → List Lexeme → Type 0
    Stop (Refuse refusal) words = ⊥
    Stop (More v) words = ⊥
    Stop (Done v) words = D (at v) words
    Stop (Close v) words = C (at v) words

    abbrev pub LastItem : V → List Lexeme → Type 0
    LastItem v words = (turn : Turn V) × (front rest : List Lexeme) × (words ≡ front ++ rest) × IsItem format line v front turn × Stop turn rest

    abbrev IsNone : V → List Lexeme → Type 0
    IsNone v words = words ≡ []

    one_or_last : (v : V) (words : List Lexeme) (turn : Turn V) (front rest : List Lexeme) → words ≡ front ++ rest → IsItem format line v front turn → items.Behind made format rows line law D C turn rest
        → inside.One rows line D C Stands (GoesOn format line) IsNone LastItem v words ⊎ inside.Last rows line D C Stands (GoesOn format line) IsNone LastItem v words
    one_or_last v words (Refuse refusal) front rest is item d = absurd d
    one_or_last v words (More w) front rest is item d = inl (w, at w, item.first, item.others, rest, is ∙ ap (λ ws. ws ++ rest) item.parts, subst (λ ws. IsItem format line v ws (More w)) item.parts item, refl, d)
    one_or_last v words (Done w) front rest is item d = inr ([], words, refl, refl, (Done w, front, rest, is, item, d))
    one_or_last v words (Close w) front rest is item d = inr ([], words, refl, refl, (Close w, front, rest, is, item, d))

    by_next : (v : V) (words : List Lexeme) → items.Next made format rows line law D C v words ⊎ items.Ends made format rows line law D C v words
        → inside.One rows line D C Stands (GoesOn format line) IsNone LastItem v words ⊎ inside.Last rows line D C Stands (GoesOn format line) IsNone LastItem v words
    by_next v words (inl (turn, front, rest, is, item, d)) = one_or_last v words turn front rest is item d
    by_next v words (inr (word, rest, is, ends, c)) = absurd (never v word line ends)

    law_of : inside.Reads rows line D C Stands (GoesOn format line) IsNone LastItem
    law_of v s words stands h = by_next v words (items.reads made format rows line law D C v words (rw stands at h))

    -- items in turn, and the one that ends them
    abbrev pub Whole : V → List Lexeme → Type 0
    Whole v words = (w : V) × (parts : List (List Lexeme)) × (turn : Turn V) × (last rest : List Lexeme) × (words ≡ joined parts ++ (last ++ rest)) × FoldsTo (GoesOn format line) v parts w × IsItem format line w last turn × Stop turn rest

    pub whole : (v : V) (words : List Lexeme) → Takes rows line D C (at v) words → Whole v words
    whole v words h =
        let p = inside.parts rows line D C Stands (GoesOn format line) IsNone LastItem law_of v (at v) words refl h in
        by p.0 p.1 p.2 p.3 p.4 p.5 p.6 p.7
      where
        by : (w : V) (parts : List (List Lexeme)) (none rest : List Lexeme) → words ≡ joined parts ++ (none ++ rest) → FoldsTo (GoesOn format line) v parts w → none ≡ [] → LastItem w rest → Whole v words
        by w parts none rest is each empty (turn, front, behind, same, item, d) = (w, parts, turn, front, behind, rw (empty, same) at is, each, item, d)

    back_of : inside.ReadsBack rows line D C Stands (GoesOn format line) IsNone LastItem
    back_of v w s part rest stands item more = rw stands (items.item_back made format rows line law D C v (More w) part rest item (more (at w) refl))

    pub whole_back : (v w : V) (front last rest : List Lexeme) (turn : Turn V) → InTurn (GoesOn format line) v front w → IsItem format line w last turn → items.Behind made format rows line law D C turn rest → Takes rows line D C (at v) (front ++ (last ++ rest))
    whole_back v w front last rest turn turns item d =
        rw turns.whole
        (inside.parts_back rows line D C Stands (GoesOn format line) IsNone LastItem back_of turns.parts v w (at v) (last ++ rest) refl turns.each
        (λ t stands. rw stands (items.item_back made format rows line law D C w turn last rest item d)))

  -- ---- statements

  pub statement_of : (v : V) (s after : S) (words : List Lexeme) → Stands v s → Step rows s words after → (w : V) × IsStatement format v words w × Stands w after
  statement_of v s after words stands step =
      by (whole (first_line words) (phrasing.Ends after) Never v words (taken rows (first_line words) (at v) after words (rw stands at step)))
    where
      by : Whole (first_line words) (phrasing.Ends after) Never v words → (w : V) × IsStatement format v words w × Stands w after
      by (w, parts, Refuse refusal, last, rest, is, each, item, d) = absurd d
      by (w, parts, More u, last, rest, is, each, item, d) = absurd d
      by (w, parts, Close u, last, rest, is, each, item, d) = absurd d
      by (w, parts, Done u, last, rest, is, each, item, d) =
          (u, record { front = joined parts; last = last; parts = is ∙ ap (λ ws. joined parts ++ (last ++ ws)) d.0 ∙ ap (λ ws. joined parts ++ ws) (append-nil last); mid = w; items = record { parts = parts; whole = refl; each = each }; ends = item }, sym d.1)

  pub statement_back : (v w : V) (words : List Lexeme) → IsStatement format v words w → Step rows (at v) words (at w)
  statement_back v w words st =
      statement rows (first_line words) (at v) (at w) words
      (subst (λ ws. Takes rows (first_line words) (phrasing.Ends (at w)) Never (at v) ws) (sym (st.parts ∙ ap (λ ws. st.front ++ ws) (sym (append-nil st.last))))
      (whole_back (first_line words) (phrasing.Ends (at w)) Never v st.mid st.front st.last [] (Done w) st.items st.ends (refl, refl)))

  -- ---- the statement that ends a text

  pub last_of : (v : V) (s after : S) (words : List Lexeme) → Stands v s → Closes rows (first_line words) s words after → (w : V) × IsLast format v words w × Stands w after
  last_of v s after words stands closes =
      by (whole (first_line words) Never (Stops after) v words (closed rows (first_line words) (at v) after words (rw stands at closes)))
    where
      by : Whole (first_line words) Never (Stops after) v words → (w : V) × IsLast format v words w × Stands w after
      by (w, parts, Refuse refusal, last, rest, is, each, item, d) = absurd d
      by (w, parts, More u, last, rest, is, each, item, d) = absurd d
      by (w, parts, Done u, last, rest, is, each, item, d) = absurd d
      by (w, parts, Close u, last, rest, is, each, item, d) =
          (u, record { front = joined parts; last = last; rest = rest; parts = is; mid = w; items = record { parts = parts; whole = refl; each = each }; closes = item }, sym d)

  pub last_back : (v w : V) (words : List Lexeme) → IsLast format v words w → Closes rows (first_line words) (at v) words (at w)
  last_back v w words last =
      closing rows (first_line words) (at v) (at w) words
      (subst (λ ws. Takes rows (first_line words) Never (Stops (at w)) (at v) ws) (sym last.parts) (whole_back (first_line words) Never (Stops (at w)) v last.mid last.front last.last last.rest (Close w) last.items last.closes refl))

  -- ---- whole texts, which have to be closed

  abbrev open_ : S → Bool
  open_ s = false

  closes_of : (s after : S) (rest : Remaining) → IsEnd rows open_ s rest after → Closes rows (first_line rest.words) s rest.words after
  closes_of s after rest (inl ends) = let e = ends.2 in absurd cc
  closes_of s after rest (inr closes) = closes

  pub text_of : (v : V) (after : S) (text : Remaining) → reading rows open_ (at v) text ≡ Read after → (w : V) × IsText format v text.words w × Stands w after
  text_of v after text is =
      let r = (accepts_statements rows open_ (at v) after text).0 is in
      let p = reads_split rows open_ r.0 (at v) after text r.1 in
      let m = mean Stands (Step rows) (IsStatement format) (λ u s t words stands step. statement_of u s t words stands step) r.0 v (at v) p.0 refl p.3 in
      let l = last_of m.0 p.0 after p.1 m.2 (closes_of p.0 after (record text { words = p.1 }) p.4) in
      (l.0, record { front = joined r.0; rest = p.1; parts = p.2; mid = m.0; statements = record { parts = r.0; whole = refl; each = m.1 }; last = l.1 }, l.2)

  pub text_back : (v w : V) (text : Remaining) → IsText format v text.words w → reading rows open_ (at v) text ≡ Read (at w)
  text_back v w text t =
      let d = in_turn Stands (Step rows) (IsStatement format) (λ u x s words stands st. one_step Stands (Step rows) s (at x) words x (subst (λ q. Step rows q words (at x)) (sym stands) (statement_back u x words st)) refl) t.statements.parts v t.mid (at v) refl t.statements.each in
      let words : text.words ≡ joined d.1 ++ t.rest = t.parts ∙ ap (λ front. front ++ t.rest) (t.statements.whole ∙ sym d.2) in
      (accepts_statements rows open_ (at v) (at w) text).1
      (d.1, reads_join rows open_ d.1 (at v) d.0 (at w) t.rest text words d.3 (inr (rw d.4 (last_back t.mid w t.rest t.last))))
