-- What holds of every block: steps of the rows from its head to its end are its statements, and the other way round.
use Rattle.std.proofs.Common.{◌≡◌, ◌∙◌, ℕ, true, false, List, [], ◌++◌, refl, ap, sym}
use Rattle.std.specs.List.{FoldsTo}
use Rattle.rc_keys.specs.Lexemes.{Lexeme}
use Rattle.rc_keys.specs.Statements.{first_line, Closes}
use Rattle.rc_keys.specs.Phrases.{Block}
use Rattle.rc_keys.proofs.Phrasing.{Step, Takes, Ends, EndsIn, Never, Stops, taken, closed, whole}
use Rattle.rc_keys.proofs.Blocks.{Inner, Done, mean, by_rows, then, in_turn}
use Rattle.rc_lef.specs.declared.state.State.{State}
use Rattle.rc_lef.specs.Technology.{Technology}
use Rattle.rc_lef.specs.Rows.{lef_turn}
use Rattle.rc_lef.proofs.Turns.{Stands as TopStands, is_open}

-- between the blocks nothing is open
pub shut : (tech t : Technology) (s : State) → TopStands tech t s → is_open s ≡ false
shut tech t s stands = rw (stands.0, stands.1) refl

pub not_both : (a b : State) → a ≡ b → is_open a ≡ true → is_open b ≡ false → ⊥
not_both a b same opened shut_ = let e : true ≡ false = sym opened ∙ ap is_open same ∙ shut_ in cc

-- states that stand for a value, what statements do to it, and which tokens end the block and leave which technology
module _ (tech : Technology) {V : Type 0} (Stands : V → State → Type 0) (Mean : V → List Lexeme → V → Type 0) (End : V → List Lexeme → Technology → Type 0) where
  abbrev Steps : State → List Lexeme → State → Type 0
  Steps s words after = Step (lef_turn tech) s words after

  -- a front of the tokens is a statement, or the end, and `D` holds behind it
  pub data Taken (D : State → List Lexeme → Type 0) (v : V) (words : List Lexeme) : Type 0 where
    Statement : (w : V) (t : State) (front rest : List Lexeme) → words ≡ front ++ rest → Mean v front w → Stands w t → D t rest → Taken D v words
    Ended : (u : Technology) (t : State) (front rest : List Lexeme) → words ≡ front ++ rest → End v front u → TopStands tech u t → D t rest → Taken D v words

  pub record Laws : Type 1 where
    pub opens : (v : V) (s : State) → Stands v s → is_open s ≡ true
    pub reads : (line : ℕ) (D C : State → List Lexeme → Type 0) (v : V) (s : State) (words : List Lexeme) → Stands v s → Takes (lef_turn tech) line D C s words → Taken D v words
    pub goes_back : (line : ℕ) (D C : State → List Lexeme → Type 0) (v w : V) (s : State) (words rest : List Lexeme) → Stands v s → Mean v words w → ((t : State) → Stands w t → D t rest) → Takes (lef_turn tech) line D C s (words ++ rest)
    pub ends_back : (line : ℕ) (D C : State → List Lexeme → Type 0) (v : V) (u : Technology) (s : State) (words rest : List Lexeme) → Stands v s → End v words u → ((t : State) → TopStands tech u t → D t rest) → Takes (lef_turn tech) line D C s (words ++ rest)

  module _ (laws : Laws) where
    step : (v : V) (s after : State) (words : List Lexeme) → Stands v s → Inner Steps is_open s words after → (w : V) × Mean v words w × Stands w after
    step v s after words stands st = by (laws.reads (first_line words) (Ends after) Never v s words stands (taken (lef_turn tech) (first_line words) s after words st.0))
      where
        by : Taken (Ends after) v words → (w : V) × Mean v words w × Stands w after
        by (Statement w t front rest is statement holds d) = (w, rw (whole words front rest is d.0) statement, rw (← d.1) holds)
        by (Ended u t front rest is end holds d) = absurd (not_both after t (sym d.1) st.1 (shut tech u t holds))

    last : (v : V) (s after : State) (words : List Lexeme) → Stands v s → Steps s words after → is_open after ≡ false → (u : Technology) × End v words u × TopStands tech u after
    last v s after words stands st closed_ = by (laws.reads (first_line words) (Ends after) Never v s words stands (taken (lef_turn tech) (first_line words) s after words st))
      where
        by : Taken (Ends after) v words → (u : Technology) × End v words u × TopStands tech u after
        by (Statement w t front rest is statement holds d) = absurd (not_both t after d.1 (laws.opens w t holds) closed_)
        by (Ended u t front rest is end holds d) = (u, rw (whole words front rest is d.0) end, rw (← d.1) holds)

    never : (v : V) (s after : State) (line : ℕ) (words : List Lexeme) → Stands v s → Closes (lef_turn tech) line s words after → ⊥
    never v s after line words stands closes = by (laws.reads line Never (Stops after) v s words stands (closed (lef_turn tech) line s after words closes))
      where
        by : Taken Never v words → ⊥
        by (Statement w t front rest is statement holds d) = d
        by (Ended u t front rest is end holds d) = d

    -- from behind the head to the end
    pub whole_block : (v : V) (a b after : State) (inside : List (List Lexeme)) (words : List Lexeme) → Stands v a → FoldsTo (Inner Steps is_open) a inside b → Steps b words after → is_open after ≡ false
        → (w : V) × (u : Technology) × FoldsTo Mean v inside w × End w words u × TopStands tech u after
    whole_block v a b after inside words stands goes st closed_ =
        let m = mean Stands (Inner Steps is_open) Mean step inside v a b stands goes in
        let l = last m.0 b after words m.2 st closed_ in
        (m.0, l.0, m.1, l.1, l.2)

    -- a block that isn't closed can't close the file
    pub open_never : (v : V) (a b after : State) (inside : List (List Lexeme)) (line : ℕ) (words : List Lexeme) → Stands v a → FoldsTo (Inner Steps is_open) a inside b → Closes (lef_turn tech) line b words after → ⊥
    open_never v a b after inside line words stands goes closes =
        let m = mean Stands (Inner Steps is_open) Mean step inside v a b stands goes in
        never m.0 b after line words m.2 closes

    -- and the other way round
    statement_done : (v w : V) (s : State) (words : List Lexeme) → Stands v s → Mean v words w → Done Stands Steps s words w
    statement_done v w s words stands statement = by_rows (lef_turn tech) Stands s words w (laws.goes_back (first_line words) (EndsIn (Stands w)) Never v w s words [] stands statement (λ t holds. (refl, holds)))

    end_done : (v : V) (u : Technology) (s : State) (words : List Lexeme) → Stands v s → End v words u → Done (TopStands tech) Steps s words u
    end_done v u s words stands end = by_rows (lef_turn tech) (TopStands tech) s words u (laws.ends_back (first_line words) (EndsIn (TopStands tech u)) Never v u s words [] stands end (λ t holds. (refl, holds)))

    pub block_done : (Head Last : List Lexeme → Type 0) (v w : V) (u : Technology) (s : State) (words : List Lexeme) → Block Head Mean Last v words w → ((head : List Lexeme) → Head head → Done Stands Steps s head v) → ((end : List Lexeme) → Last end → End w end u)
        → Done (TopStands tech) Steps s words u
    block_done Head Last v w u s words b heads ends =
        let inner : (a : State) → Stands v a → Done Stands Steps a b.inside w = λ a holds. rw b.goes.whole (in_turn Stands Steps Mean statement_done b.goes.parts v w a holds b.goes.each) in
        rw b.parts (then Stands (TopStands tech) Steps s b.head (b.inside ++ b.last) v u (heads b.head b.begins)
        (λ a holds. then Stands (TopStands tech) Steps a b.inside b.last w u (inner a holds) (λ c there. end_done w u c b.last there (ends b.last b.ends))))
