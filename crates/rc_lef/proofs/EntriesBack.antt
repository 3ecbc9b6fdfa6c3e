-- Entries of a file to steps of the rows.
use Rattle.std.proofs.Common.{◌≡◌, ℕ, List, [], ◌∷◌, refl}
use Rattle.std.specs.Prelude.{Err}
use Rattle.rc_keys.specs.declared.code.Code.TheVariants.{E05}
use Rattle.rc_keys.specs.Lexemes.{Lexeme}
use Rattle.rc_keys.specs.Statements.{first_line, Closes}
use Rattle.rc_keys.proofs.Phrasing.{Step, EndsIn, Never, Stops, closing}
use Rattle.rc_keys.proofs.Blocks.{Done, by_rows}
use Rattle.rc_lef.specs.declared.state.State.{State}
use Rattle.rc_lef.specs.declared.state.Row.TheVariants as rows
use Rattle.rc_lef.specs.Technology.{Technology}
use Rattle.rc_lef.specs.Rows.{lef_turn, tech_with}
use Rattle.rc_lef.specs.UnitsBlock.{UnitsStatement}
use Rattle.rc_lef.specs.LayerBlock.{LayerStatement, no_parts}
use Rattle.rc_lef.specs.ViaBlock.{ViaStatement, no_parts as no_via_parts}
use Rattle.rc_lef.specs.RuleBlock.{RuleStatement, rule_begun}
use Rattle.rc_lef.specs.MacroBlock.{MacroStatement, no_parts as no_macro_parts}
use Rattle.rc_lef.specs.File.{BeginsWithEnd, Entry, UnitsPart, LayerPart, ViaPart, RulePart, MacroPart, SkippedPart, OtherPart}
use Rattle.rc_lef.proofs.Turns.{Stands}
use Rattle.rc_lef.proofs.OpenBlocks.{block_done}
use Rattle.rc_lef.proofs.BlockLaws as blocks_are
use Rattle.rc_lef.proofs.InRule as rule
use Rattle.rc_lef.proofs.AtTop as top
use Rattle.rc_lef.proofs.AtTop.{Top}
use Rattle.rc_lef.proofs.Entries.{topped}

module _ (tech t : Technology) where
  abbrev Steps : State → List Lexeme → State → Type 0
  Steps s words after = Step (lef_turn tech) s words after

  abbrev Reached : State → List Lexeme → Technology → Type 0
  Reached s words u = Done (Stands tech) Steps s words u

  by_entry : (s : State) (words : List Lexeme) (after : Technology) → tech_with tech s ≡ t → Entry t words after → Reached (Top s) words after
  by_entry s words after stands (UnitsPart now b same) =
      block_done tech (blocks_are.UnitsStands tech t) UnitsStatement (blocks_are.UnitsEnd tech t) (blocks_are.units_laws tech t) _ _ t.units now after (Top s) words b
      (λ head are. by_rows (lef_turn tech) (blocks_are.UnitsStands tech t) (Top s) head t.units (top.units_back tech (first_line head) (EndsIn (blocks_are.UnitsStands tech t t.units)) Never s head [] are (refl, (refl, refl, stands)))) (λ end are. (are, same))
  by_entry s words after stands (LayerPart name parts b complete same) =
      block_done tech (blocks_are.LayerStands tech t name) (LayerStatement t name) (blocks_are.LayerEnd tech t name) (blocks_are.layer_laws tech t name) _ _ no_parts parts after (Top s) words b
      (λ head are. by_rows (lef_turn tech) (blocks_are.LayerStands tech t name) (Top s) head no_parts
      (top.layer_back tech (first_line head) (EndsIn (blocks_are.LayerStands tech t name no_parts)) Never s name head [] are (refl, (record (Top s) { name = name; line = first_line head }, Err E05, refl, stands, refl)))) (λ end are. (are, complete, same))
  by_entry s words after stands (ViaPart name parts b same) =
      block_done tech (blocks_are.ViaStands tech t name) (ViaStatement t) (blocks_are.ViaEnd tech t name) (blocks_are.via_laws tech t name) _ _ no_via_parts parts after (Top s) words b
      (λ head are. by_rows (lef_turn tech) (blocks_are.ViaStands tech t name) (Top s) head no_via_parts
      (top.via_back tech (first_line head) (EndsIn (blocks_are.ViaStands tech t name no_via_parts)) Never s name head [] are (refl, (record (Top s) { name = name }, s.numbers, refl, stands, refl)))) (λ end are. (are, same))
  by_entry s words after stands (RulePart name parts b between same) =
      block_done tech (rule.RuleStands tech name) RuleStatement (blocks_are.RuleEnd tech t name) (blocks_are.rule_laws tech t name) _ _ (rule_begun t) parts after (Top s) words b
      (λ head are. by_rows (lef_turn tech) (rule.RuleStands tech name) (Top s) head (rule_begun t)
      (top.rule_back tech (first_line head) (EndsIn (rule.RuleStands tech name (rule_begun t))) Never s name head [] are (refl, ((top.InRule s name, refl), stands, refl, refl)))) (λ end are. (are, between, same))
  by_entry s words after stands (MacroPart name parts size b between has same) =
      block_done tech (blocks_are.MacroStands tech t name) (MacroStatement t) (blocks_are.MacroEnd tech t name) (blocks_are.macro_laws tech t name) _ _ no_macro_parts parts after (Top s) words b
      (λ head are. by_rows (lef_turn tech) (blocks_are.MacroStands tech t name) (Top s) head no_macro_parts
      (top.macro_back tech (first_line head) (EndsIn (blocks_are.MacroStands tech t name no_macro_parts)) Never s name head [] are (refl, (record (Top s) { outer = name; line = first_line head }, s.numbers, refl, stands, refl)))) (λ end are. (size, are, between, has, same))
  by_entry s words after stands (SkippedPart is same) =
      rw same (by_rows (lef_turn tech) (Stands tech) (Top s) words t (top.skipped_back tech (first_line words) (EndsIn (Stands tech t)) Never s words [] is (λ name. (refl, (refl, refl, stands)))))
  by_entry s words after stands (OtherPart is same) =
      rw same (by_rows (lef_turn tech) (Stands tech) (Top s) words t (top.statement_back tech (first_line words) (EndsIn (Stands tech t)) Never s words [] is (refl, (refl, refl, stands))))

  pub entry_back : (after : Technology) (s : State) (words : List Lexeme) → Stands tech t s → Entry t words after → Reached s words after
  entry_back after s words stands e = rw (topped s stands.0 stands.1) (by_entry s words after stands.2 e)

  -- ---- what closes a file

  pub end_back : (s : State) (line : ℕ) (words : List Lexeme) → Stands tech t s → BeginsWithEnd words → (after : State) × Closes (lef_turn tech) line s words after × (tech_with tech after ≡ t)
  end_back s line (end ∷ library ∷ words) stands is =
      let after : State = record (Top s) { row = rows.End } in
      (after, rw (topped s stands.0 stands.1) (closing (lef_turn tech) line (Top s) after (end ∷ library ∷ words) (top.end_back tech line Never (Stops after) s end library words is.0 is.1 refl)), stands.2)
  end_back s line _ stands is = absurd is
