-- Parts in turn inside one statement: options, points, paths, up to what ends them.
use Rattle.std.proofs.Common.{◌≡◌, ◌∙◌, ◌+◌, ◌≤◌, ℕ, zero, suc, inl, inr, List, [], ◌∷◌, ◌++◌, length, refl, ap, sym, arith, append_assoc}
use Rattle.std.proofs.Math.ListN.{length-append}
use Rattle.std.specs.Prelude.{◌⊎◌}
use Rattle.std.specs.List.{FoldsTo}
use Rattle.rc_keys.specs.Lexemes.{Lexeme}
use Rattle.rc_keys.specs.Course.{Rows}
use Rattle.rc_keys.specs.Phrases.{joined}
use Rattle.rc_keys.proofs.Phrasing.{Takes}

-- `Stands` says which states stand for a value, `Part` which tokens take a value to the next, and `End` which tokens end the
-- parts; `After` is what holds of the value and the tokens behind them
module _ {S V : Type 0} (rows : Rows S) (line : ℕ) (D C : S → List Lexeme → Type 0) (Stands : V → S → Type 0) (Part : V → List Lexeme → V → Type 0) (End : V → List Lexeme → Type 0) (After : V → List Lexeme → Type 0) where
  -- a front of the tokens is a part, and the rows go on behind it, or it ends the parts
  abbrev pub One : V → List Lexeme → Type 0
  One v words = (w : V) × (t : S) × (first : Lexeme) × (front rest : List Lexeme) × (words ≡ (first ∷ front) ++ rest) × Part v (first ∷ front) w × Stands w t × Takes rows line D C t rest

  abbrev pub Last : V → List Lexeme → Type 0
  Last v words = (front rest : List Lexeme) × (words ≡ front ++ rest) × End v front × After v rest

  abbrev pub Reads : Type 0
  Reads = (v : V) (s : S) (words : List Lexeme) → Stands v s → Takes rows line D C s words → One v words ⊎ Last v words

  abbrev pub Parts : V → List Lexeme → Type 0
  Parts v words = (w : V) × (parts : List (List Lexeme)) × (last rest : List Lexeme) × (words ≡ joined parts ++ (last ++ rest)) × FoldsTo Part v parts w × End w last × After w rest

  shorter : (n : ℕ) (words : List Lexeme) (first : Lexeme) (front rest : List Lexeme) → length words ≤ suc n → words ≡ (first ∷ front) ++ rest → length rest ≤ n
  shorter n words first front rest small is =
      let e : length words ≡ suc (length front) + length rest = ap length is ∙ length-append (first ∷ front) rest in omega arith

  by : Reads → (n : ℕ) (v : V) (words : List Lexeme) → length words ≤ suc n → ((w : V) (t : S) (rest : List Lexeme) → length rest ≤ n → Stands w t → Takes rows line D C t rest → Parts w rest) → One v words ⊎ Last v words → Parts v words
  by law n v words small again (inr (front, rest, is, end, after)) = (v, [], front, rest, is, refl, end, after)
  by law n v words small again (inl (w, t, first, front, rest, is, part, stands, h)) =
      let more = again w t rest (shorter n words first front rest small is) stands h in
      (more.0, (first ∷ front) ∷ more.1, more.2, more.3, is ∙ ap (λ ws. (first ∷ front) ++ ws) more.4 ∙ sym (append_assoc (first ∷ front) (joined more.1) (more.2 ++ more.3)), (w, part, more.5), more.6, more.7)

  from : Reads → (n : ℕ) (v : V) (s : S) (words : List Lexeme) → length words ≤ n → Stands v s → Takes rows line D C s words → Parts v words
  from law zero v s [] small stands h = absurd h
  from law zero v s (word ∷ words) small stands h = absurd (omega arith)
  from law (suc n) v s words small stands h = by law n v words small (λ w t rest le there more. from law n w t rest le there more) (law v s words stands h)

  -- what the rows take is parts in turn, and what ends them
  pub parts : Reads → (v : V) (s : S) (words : List Lexeme) → Stands v s → Takes rows line D C s words → Parts v words
  parts law v s words stands h = from law (length words) v s words (omega arith) stands h

  -- and the other way round
  abbrev pub ReadsBack : Type 0
  ReadsBack = (v w : V) (s : S) (part rest : List Lexeme) → Stands v s → Part v part w → ((t : S) → Stands w t → Takes rows line D C t rest) → Takes rows line D C s (part ++ rest)

  pub parts_back : ReadsBack → (all : List (List Lexeme)) (v w : V) (s : S) (tail : List Lexeme) → Stands v s → FoldsTo Part v all w → ((t : S) → Stands w t → Takes rows line D C t tail) → Takes rows line D C s (joined all ++ tail)
  parts_back law [] v w s tail stands same end = end s (rw (← same) stands)
  parts_back law (part ∷ all) v w s tail stands folds end =
      rw (append_assoc part (joined all) tail) (law v folds.0 s part (joined all ++ tail) stands folds.1 (λ t there. parts_back law all folds.0 w t tail there folds.2 end))
