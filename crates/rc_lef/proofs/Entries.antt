-- Blocks and statements between them: steps of the rows to entries of a file.
use Rattle.std.proofs.Common.{◌≡◌, ◌∙◌, ℕ, true, false, List, ◌++◌, refl, ap, sym}
use Rattle.std.specs.Prelude.{Err}
use Rattle.std.specs.List.{FoldsTo}
use Rattle.rc_keys.specs.declared.code.Code.TheVariants.{E05}
use Rattle.rc_keys.specs.Lexemes.{Lexeme}
use Rattle.rc_keys.specs.Statements.{first_line, Closes}
use Rattle.rc_keys.specs.Phrases.{joined, Block}
use Rattle.rc_keys.proofs.Phrasing.{Step, Ends, Never, Stops, taken, closed, whole}
use Rattle.rc_keys.proofs.Blocks as blocked
use Rattle.rc_keys.proofs.Blocks.{Inner, Single, Whole, Opened}
use Rattle.rc_lef.specs.declared.state.State.{State}
use Rattle.rc_lef.specs.declared.state.Block.TheVariants as blocks
use Rattle.rc_lef.specs.declared.state.Row.TheVariants as rows
use Rattle.rc_lef.specs.Technology.{Technology}
use Rattle.rc_lef.specs.Rows.{lef_turn, tech_with}
use Rattle.rc_lef.specs.UnitsBlock.{UnitsStatement}
use Rattle.rc_lef.specs.LayerBlock.{LayerStatement, no_parts}
use Rattle.rc_lef.specs.ViaBlock.{ViaStatement, no_parts as no_via_parts}
use Rattle.rc_lef.specs.RuleBlock.{RuleStatement, rule_begun}
use Rattle.rc_lef.specs.MacroBlock.{MacroStatement, no_parts as no_macro_parts}
use Rattle.rc_lef.specs.File.{BeginsWithEnd, Entry, UnitsPart, LayerPart, ViaPart, RulePart, MacroPart, SkippedPart, OtherPart}
use Rattle.rc_lef.proofs.Turns.{Stands, is_open}
use Rattle.rc_lef.proofs.OpenBlocks.{not_both, whole_block, open_never}
use Rattle.rc_lef.proofs.BlockLaws as blocks_are
use Rattle.rc_lef.proofs.InRule as rule
use Rattle.rc_lef.proofs.AtTop as top
use Rattle.rc_lef.proofs.AtTop.{Top, Opens}

pub topped : (s : State) → s.block ≡ blocks.Top → s.row ≡ rows.Begin → s ≡ Top s
topped s block row = λ i. record s { block = block i; row = row i }

-- in a block that tokens opened, something is open
opened : (tech : Technology) (line : ℕ) (s t : State) (words : List Lexeme) → Opens tech line s words t → is_open t ≡ true
opened tech line s t words (top.Units are is) = rw is refl
opened tech line s t words (top.Layer name are is) = rw is refl
opened tech line s t words (top.Via name are is) = rw is refl
opened tech line s t words (top.Rule name are is) = rw is refl
opened tech line s t words (top.Macro name are is) = rw is refl

module _ (tech t : Technology) where
  abbrev Steps : State → List Lexeme → State → Type 0
  Steps s words after = Step (lef_turn tech) s words after

  abbrev In : State → List Lexeme → State → Type 0
  In s words after = Inner Steps is_open s words after

  -- a block, of steps inside it that mean something
  block : {V : Type 0} (Mean : V → List Lexeme → V → Type 0) (Head End : List Lexeme → Type 0) (v w : V) (words head last : List Lexeme) (inside : List (List Lexeme)) → words ≡ head ++ (joined inside ++ last) → Head head → FoldsTo Mean v inside w → End last
      → Block Head Mean End v words w
  block Mean Head End v w words head last inside is begins goes ends = record { head = head; inside = joined inside; last = last; parts = is; begins = begins; goes = record { parts = inside; whole = refl; each = goes }; ends = ends }

  abbrev Answer : List Lexeme → State → Type 0
  Answer words after = (u : Technology) × Entry t words u × Stands tech u after

  at_top : (s after : State) (words : List Lexeme) → Stands tech t s → Steps s words after → top.Reads tech (first_line words) (Ends after) Never s words
  at_top s after words stands step = top.reads tech (first_line words) (Ends after) Never s words (taken (lef_turn tech) (first_line words) (Top s) after words (rw (topped s stands.0 stands.1) at step))

  module _ (s after : State) (stands : Stands tech t s) where
    -- ---- a step by itself

    single : (words : List Lexeme) → is_open after ≡ false → top.Reads tech (first_line words) (Ends after) Never s words → Answer words after
    single words closed_ (top.Statement front rest is other d) = (t, OtherPart (rw (whole words front rest is d.0) other) refl, rw (← d.1) (refl, refl, stands.2))
    single words closed_ (top.Skip name front rest is skips d) = (t, SkippedPart (rw (whole words front rest is d.0) skips) refl, rw (← d.1) (refl, refl, stands.2))
    single words closed_ (top.Head a front rest is opens d) = absurd (not_both a after d.1 (opened tech (first_line words) s a front opens) closed_)
    single words closed_ (top.EndOfFile end library rest is at at' d) = absurd d

    -- ---- a block

    module _ (line : ℕ) (words head last : List Lexeme) (inside : List (List Lexeme)) (a b : State) (is : words ≡ head ++ (joined inside ++ last)) (goes : FoldsTo In a inside b) (step : Steps b last after) (closed_ : is_open after ≡ false) where
      by_head : Opens tech line s head a → Answer words after
      by_head (top.Units are at) =
          let w = whole_block tech (blocks_are.UnitsStands tech t) UnitsStatement (blocks_are.UnitsEnd tech t) (blocks_are.units_laws tech t) t.units a b after inside last (rw at (refl, refl, stands.2)) goes step closed_ in
          (w.1, UnitsPart w.0 (block UnitsStatement _ _ t.units w.0 words head last inside is are w.2 w.3.0) w.3.1, w.4)
      by_head (top.Layer name are at) =
          let w = whole_block tech (blocks_are.LayerStands tech t name) (LayerStatement t name) (blocks_are.LayerEnd tech t name) (blocks_are.layer_laws tech t name) no_parts a b after inside last (record (Top s) { name = name; line = line }, Err E05, at, stands.2, refl) goes step closed_ in
          (w.1, LayerPart name w.0 (block (LayerStatement t name) _ _ no_parts w.0 words head last inside is are w.2 w.3.0) w.3.1 w.3.2, w.4)
      by_head (top.Via name are at) =
          let w = whole_block tech (blocks_are.ViaStands tech t name) (ViaStatement t) (blocks_are.ViaEnd tech t name) (blocks_are.via_laws tech t name) no_via_parts a b after inside last (record (Top s) { name = name }, s.numbers, at, stands.2, refl) goes step closed_ in
          (w.1, ViaPart name w.0 (block (ViaStatement t) _ _ no_via_parts w.0 words head last inside is are w.2 w.3.0) w.3.1, w.4)
      by_head (top.Rule name are at) =
          let w = whole_block tech (rule.RuleStands tech name) RuleStatement (blocks_are.RuleEnd tech t name) (blocks_are.rule_laws tech t name) (rule_begun t) a b after inside last (rw at ((top.InRule s name, refl), stands.2, refl, refl)) goes step closed_ in
          (w.1, RulePart name w.0 (block RuleStatement _ _ (rule_begun t) w.0 words head last inside is are w.2 w.3.0) w.3.1 w.3.2, w.4)
      by_head (top.Macro name are at) =
          let w = whole_block tech (blocks_are.MacroStands tech t name) (MacroStatement t) (blocks_are.MacroEnd tech t name) (blocks_are.macro_laws tech t name) no_macro_parts a b after inside last (record (Top s) { outer = name; line = line }, s.numbers, at, stands.2, refl) goes step closed_ in
          (w.1, MacroPart name w.0 w.3.0 (block (MacroStatement t) _ _ no_macro_parts w.0 words head last inside is are w.2 w.3.1) w.3.2 w.3.3 w.3.4, w.4)

    entry_by : (words head last : List Lexeme) (inside : List (List Lexeme)) (a b : State) → words ≡ head ++ (joined inside ++ last) → is_open a ≡ true → FoldsTo In a inside b → Steps b last after → is_open after ≡ false
        → top.Reads tech (first_line head) (Ends a) Never s head → Answer words after
    entry_by words head last inside a b is open_ goes step closed_ (top.Statement front rest at other d) = absurd (not_both a (Top s) (sym d.1) open_ refl)
    entry_by words head last inside a b is open_ goes step closed_ (top.Skip name front rest at skips d) = absurd (not_both a (top.Called s name) (sym d.1) open_ refl)
    entry_by words head last inside a b is open_ goes step closed_ (top.Head a' front rest at opens d) =
        let same : head ≡ front = whole head front rest at d.0 in
        by_head (first_line head) words front last inside a' b (is ∙ ap (λ h. h ++ (joined inside ++ last)) same) (rw (← d.1) at goes) step closed_ opens
    entry_by words head last inside a b is open_ goes step closed_ (top.EndOfFile end library rest at key key' d) = absurd d

  pub entry : (s after : State) (words : List Lexeme) → Stands tech t s → blocked.Entry Steps is_open s words after → Answer words after
  entry s after words stands (Single step closed_) = single s after stands words closed_ (at_top s after words stands step)
  entry s after words stands (Whole a b head last inside is step opens goes ends closed_) = entry_by s after stands words head last inside a b is opens goes ends closed_ (at_top s a head stands step)

  -- ---- a block that isn't closed can't close the file

  never_by : (s a b after : State) (line : ℕ) (head words : List Lexeme) (inside : List (List Lexeme)) (at_ : ℕ) → Stands tech t s → Opens tech at_ s head a → FoldsTo In a inside b → Closes (lef_turn tech) line b words after → ⊥
  never_by s a b after line head words inside at_ stands (top.Units are at) goes closes =
      open_never tech (blocks_are.UnitsStands tech t) UnitsStatement (blocks_are.UnitsEnd tech t) (blocks_are.units_laws tech t) t.units a b after inside line words (rw at (refl, refl, stands.2)) goes closes
  never_by s a b after line head words inside at_ stands (top.Layer name are at) goes closes =
      open_never tech (blocks_are.LayerStands tech t name) (LayerStatement t name) (blocks_are.LayerEnd tech t name) (blocks_are.layer_laws tech t name) no_parts a b after inside line words (record (Top s) { name = name; line = at_ }, Err E05, at, stands.2, refl) goes closes
  never_by s a b after line head words inside at_ stands (top.Via name are at) goes closes =
      open_never tech (blocks_are.ViaStands tech t name) (ViaStatement t) (blocks_are.ViaEnd tech t name) (blocks_are.via_laws tech t name) no_via_parts a b after inside line words (record (Top s) { name = name }, s.numbers, at, stands.2, refl) goes closes
  never_by s a b after line head words inside at_ stands (top.Rule name are at) goes closes =
      open_never tech (rule.RuleStands tech name) RuleStatement (blocks_are.RuleEnd tech t name) (blocks_are.rule_laws tech t name) (rule_begun t) a b after inside line words (rw at ((top.InRule s name, refl), stands.2, refl, refl)) goes closes
  never_by s a b after line head words inside at_ stands (top.Macro name are at) goes closes =
      open_never tech (blocks_are.MacroStands tech t name) (MacroStatement t) (blocks_are.MacroEnd tech t name) (blocks_are.macro_laws tech t name) no_macro_parts a b after inside line words (record (Top s) { outer = name; line = at_ }, s.numbers, at, stands.2, refl) goes closes

  pub opened_never : (s b after : State) (line : ℕ) (words : List Lexeme) → Stands tech t s → Opened Steps is_open s b → Closes (lef_turn tech) line b words after → ⊥
  opened_never s b after line words stands o closes = by (at_top s o.a o.head stands o.begins)
    where
      by : top.Reads tech (first_line o.head) (Ends o.a) Never s o.head → ⊥
      by (top.Statement front rest at other d) = not_both o.a (Top s) (sym d.1) o.opens refl
      by (top.Skip name front rest at skips d) = not_both o.a (top.Called s name) (sym d.1) o.opens refl
      by (top.Head a' front rest at opens d) = never_by s a' b after line front words o.inside (first_line o.head) stands opens (rw (← d.1) at o.goes) closes
      by (top.EndOfFile end library rest at key key' d) = d

  -- ---- what closes the file

  pub ends_file : (s after : State) (line : ℕ) (words : List Lexeme) → Stands tech t s → Closes (lef_turn tech) line s words after → BeginsWithEnd words × (tech_with tech after ≡ t)
  ends_file s after line words stands closes =
      by (top.reads tech line Never (Stops after) s words (closed (lef_turn tech) line (Top s) after words (rw (topped s stands.0 stands.1) at closes)))
    where
      by : top.Reads tech line Never (Stops after) s words → BeginsWithEnd words × (tech_with tech after ≡ t)
      by (top.Statement front rest at other d) = absurd d
      by (top.Skip name front rest at skips d) = absurd d
      by (top.Head a' front rest at opens d) = absurd d
      by (top.EndOfFile end library rest at key key' d) = (rw at (key, key'), rw (← d) stands.2)
