-- The five kinds of blocks.
use Rattle.std.proofs.Common.{◌≡◌, ◌∙◌, ℕ, true, List, [], ◌∷◌, ◌++◌, refl, ap, sym, subst}
use Rattle.std.specs.Prelude.{Option, Some, Result, ℤ}
use Rattle.rc_geom.specs.declared.rect.Pt.{Pt}
use Rattle.rc_keys.specs.declared.code.Code.{Code}
use Rattle.rc_keys.specs.Lexemes.{Lexeme}
use Rattle.rc_keys.proofs.Phrasing.{Takes}
use Rattle.rc_lef.specs.declared.key.Key.TheVariants as keys
use Rattle.rc_lef.specs.declared.state.State.{State}
use Rattle.rc_lef.specs.declared.state.Block.TheVariants as blocks
use Rattle.rc_lef.specs.declared.state.Home.TheVariants as homes
use Rattle.rc_lef.specs.declared.state.Row.TheVariants as rows
use Rattle.rc_lef.specs.declared.units.Units.{Units}
use Rattle.rc_lef.specs.Technology.{Technology}
use Rattle.rc_lef.specs.Rows.{lef_turn, tech_with}
use Rattle.rc_lef.specs.Phrases.{Word, Name, Are}
use Rattle.rc_lef.specs.UnitsBlock.{UnitsStatement}
use Rattle.rc_lef.specs.LayerBlock.{LayerParts, LayerStatement, is_complete, with_new_layer}
use Rattle.rc_lef.specs.ViaBlock.{ViaParts, ViaStatement, with_new_via}
use Rattle.rc_lef.specs.RuleBlock as rule_words
use Rattle.rc_lef.specs.RuleBlock.{RuleParts, RuleStatement, with_new_rule}
use Rattle.rc_lef.specs.MacroBlock as macro_words
use Rattle.rc_lef.specs.MacroBlock.{MacroParts, MacroStatement, with_new_macro}
use Rattle.rc_lef.proofs.Turns.{Stands as TopStands, is_open}
use Rattle.rc_lef.proofs.OpenBlocks.{Taken, Statement, Ended, Laws}
use Rattle.rc_lef.proofs.InUnits as units
use Rattle.rc_lef.proofs.InLayer as layer
use Rattle.rc_lef.proofs.InVia as via
use Rattle.rc_lef.proofs.InRule as rule
use Rattle.rc_lef.proofs.InMacro as cell

module _ (tech t : Technology) where
  -- ---- UNITS

  abbrev pub UnitsStands : Option Units → State → Type 0
  UnitsStands now s = (s.block ≡ blocks.Units) × (s.row ≡ rows.Begin) × (tech_with tech s ≡ record t { units = now })

  abbrev pub UnitsEnd : Option Units → List Lexeme → Technology → Type 0
  UnitsEnd now words u = Are (Word keys.End ∷ Word keys.Units ∷ []) words × (u ≡ record t { units = now })

  units_taken : (D : State → List Lexeme → Type 0) (v : Option Units) (s : State) (words : List Lexeme) → UnitsStands v s → units.Reads D s words → Taken tech UnitsStands UnitsStatement UnitsEnd D v words
  units_taken D v s words stands (units.Statement next front rest is statement d) =
      let same : s.units ≡ v = ap (λ (x : Technology). x.units) stands.2 in
      Statement next _ front rest is (rw (← same) statement) (stands.0, refl, ap (λ (x : Technology). record x { units = next }) stands.2) d
  units_taken D v s words stands (units.End front rest is are d) = Ended (record t { units = v }) _ front rest is (are, refl) (refl, refl, stands.2) d

  pub units_laws : Laws tech UnitsStands UnitsStatement UnitsEnd
  units_laws = record {
    opens = λ v s stands. rw stands.0 refl;
    reads = λ line D C v s words stands h. units_taken D v s words stands (units.reads tech line D C s words stands.0 stands.1 h);
    goes_back = λ line D C v w s words rest stands statement d.
        units.statement_back tech line D C s w words rest stands.0 stands.1 (rw (ap (λ (x : Technology). x.units) stands.2) statement) (d _ (stands.0, refl, ap (λ (x : Technology). record x { units = w }) stands.2));
    ends_back = λ line D C v u s words rest stands end d. units.end_back tech line D C s words rest stands.0 stands.1 end.0 (d _ (refl, refl, stands.2 ∙ sym end.1));
  }

  -- ---- LAYER

  module _ (name : List ℕ) where
    abbrev pub LayerStands : LayerParts → State → Type 0
    LayerStands parts now = (s : State) × (pending : Result ℤ Code) × (now ≡ layer.At tech s parts pending) × (tech_with tech s ≡ t) × (s.name ≡ name)

    abbrev pub LayerEnd : LayerParts → List Lexeme → Technology → Type 0
    LayerEnd parts words u = Are (Word keys.End ∷ Name name ∷ []) words × (is_complete parts ≡ true) × (u ≡ with_new_layer t name parts)

    layer_after : (s : State) (parts : LayerParts) (pending : Result ℤ Code) → tech_with tech s ≡ t → s.name ≡ name → tech_with tech (layer.Closed tech s parts pending) ≡ with_new_layer t name parts
    layer_after s parts pending same named = layer.closed_tech tech s parts pending ∙ ap (λ (x : Technology). with_new_layer x s.name parts) same ∙ ap (λ (n : List ℕ). with_new_layer t n parts) named

    layer_taken : (D : State → List Lexeme → Type 0) (s : State) (parts : LayerParts) (pending : Result ℤ Code) (words : List Lexeme) → tech_with tech s ≡ t → s.name ≡ name → layer.Reads tech D s parts pending words
        → Taken tech LayerStands (LayerStatement t name) LayerEnd D parts words
    layer_taken D s parts pending words same named (layer.Statement next noted front rest is statement d) = Statement next _ front rest is (rw (← same, ← named) statement) (s, noted, refl, same, named) d
    layer_taken D s parts pending words same named (layer.End front rest is are complete d) = Ended _ _ front rest is (rw (← named) are, complete, refl) (refl, refl, layer_after s parts pending same named) d

    pub layer_laws : Laws tech LayerStands (LayerStatement t name) LayerEnd
    layer_laws = record {
      opens = λ v now stands. rw stands.2 refl;
      reads = λ line D C v now words stands h. layer_taken D stands.0 v stands.1 words stands.3 stands.4 (layer.reads tech line D C stands.0 v stands.1 words (rw stands.2 at h));
      goes_back = λ line D C v w now words rest stands statement d.
          rw stands.2 (layer.statement_back tech line D C stands.0 v stands.1 w words rest (rw (stands.3, stands.4) statement) (λ p. d _ (stands.0, p, refl, stands.3, stands.4)));
      ends_back = λ line D C v u now words rest stands end d.
          rw stands.2 (layer.end_back tech line D C stands.0 v stands.1 words rest (rw stands.4 end.0) end.1 (d _ (refl, refl, layer_after stands.0 v stands.1 stands.3 stands.4 ∙ sym end.2)));
    }

    -- ---- VIA

    abbrev pub ViaStands : ViaParts → State → Type 0
    ViaStands parts now = (s : State) × (numbers : List ℤ) × (now ≡ via.At homes.Top s numbers parts) × (tech_with tech s ≡ t) × (s.name ≡ name)

    abbrev pub ViaEnd : ViaParts → List Lexeme → Technology → Type 0
    ViaEnd parts words u = Are (Word keys.End ∷ Name name ∷ []) words × (u ≡ with_new_via t name parts.via)

    via_after : (s : State) (numbers : List ℤ) (parts : ViaParts) → tech_with tech s ≡ t → s.name ≡ name → tech_with tech (via.Closed tech homes.Top s numbers parts) ≡ with_new_via t name parts.via
    via_after s numbers parts same named = via.closed_tech tech homes.Top s numbers parts ∙ ap (λ (x : Technology). with_new_via x s.name parts.via) same ∙ ap (λ (n : List ℕ). with_new_via t n parts.via) named

    via_taken : (D : State → List Lexeme → Type 0) (s : State) (numbers : List ℤ) (parts : ViaParts) (words : List Lexeme) → tech_with tech s ≡ t → s.name ≡ name → via.Reads tech homes.Top D s numbers parts words
        → Taken tech ViaStands (ViaStatement t) ViaEnd D parts words
    via_taken D s numbers parts words same named (via.Statement next noted front rest is statement d) = Statement next _ front rest is (rw (← same) statement) (s, noted, refl, same, named) d
    via_taken D s numbers parts words same named (via.End front rest is are d) = Ended _ _ front rest is (rw (← named) are, refl) (refl, refl, via_after s numbers parts same named) d

    pub via_laws : Laws tech ViaStands (ViaStatement t) ViaEnd
    via_laws = record {
      opens = λ v now stands. rw stands.2 refl;
      reads = λ line D C v now words stands h. via_taken D stands.0 stands.1 v words stands.3 stands.4 (via.reads tech homes.Top line D C stands.0 stands.1 v words (rw stands.2 at h));
      goes_back = λ line D C v w now words rest stands statement d. rw stands.2 (via.statement_back tech homes.Top line D C stands.0 stands.1 v w words rest (rw stands.3 statement) (λ n. d _ (stands.0, n, refl, stands.3, stands.4)));
      ends_back = λ line D C v u now words rest stands end d.
          rw stands.2 (via.end_back tech homes.Top line D C stands.0 stands.1 v words rest (rw stands.4 end.0) (d _ (refl, refl, via_after stands.0 stands.1 v stands.3 stands.4 ∙ sym end.1)));
    }

    -- ---- NONDEFAULTRULE

    abbrev pub RuleEnd : RuleParts → List Lexeme → Technology → Type 0
    RuleEnd v words u = Are (Word keys.End ∷ Name name ∷ []) words × (v.place ≡ rule_words.Between) × (u ≡ with_new_rule v.tech name v.widths)

    rule_after : (s : State) (v : RuleParts) → rule.RuleStands tech name v (rule.Open s) → tech_with tech (rule.Closed tech s) ≡ with_new_rule v.tech name v.widths
    rule_after s v stands =
        rule.closed_tech tech s ∙ ap (λ (x : Technology). with_new_rule x s.outer s.rule.widths) stands.1 ∙ ap (λ (ws : List (ℕ × ℤ)). with_new_rule v.tech s.outer ws) stands.2 ∙ ap (λ (n : List ℕ). with_new_rule v.tech n v.widths) stands.3

    rule_taken : (D : State → List Lexeme → Type 0) (v : RuleParts) (words : List Lexeme) → rule.Reads tech name D v words → Taken tech (rule.RuleStands tech name) RuleStatement RuleEnd D v words
    rule_taken D v words (rule.Statement next now front rest is statement holds d) = Statement next now front rest is statement holds d
    rule_taken D v words (rule.End s front rest is are between holds d) = Ended _ _ front rest is (are, between, refl) (refl, refl, rule_after s v holds) d

    rule_opens : (place : rule_words.Place) (s : State) → rule.PlaceStands place s → is_open s ≡ true
    rule_opens rule_words.Between s stands = rw stands.1 refl
    rule_opens (rule_words.InLayer l k) s stands = rw stands.1 refl
    rule_opens (rule_words.InVia l p) s stands = rw stands.2 refl

    rule_ends : (line : ℕ) (D C : State → List Lexeme → Type 0) (v : RuleParts) (u : Technology) (now s : State) (words rest : List Lexeme) → now ≡ rule.Open s → rule.RuleStands tech name v now → RuleEnd v words u → ((x : State) → TopStands tech u x → D x rest)
        → Takes (lef_turn tech) line D C now (words ++ rest)
    rule_ends line D C v u now s words rest is stands end d =
        let holds : rule.RuleStands tech name v (rule.Open s) = subst (λ (x : State). rule.RuleStands tech name v x) is stands in
        rw is (rule.end_back tech line D C s words rest (rw holds.3 end.0) (d _ (refl, refl, rule_after s v holds ∙ sym end.2)))

    pub rule_laws : Laws tech (rule.RuleStands tech name) RuleStatement RuleEnd
    rule_laws = record {
      opens = λ v now stands. rule_opens v.place now stands.0;
      reads = λ line D C v now words stands h. rule_taken D v words (rule.reads tech line D C v name now words stands h);
      goes_back = λ line D C v w now words rest stands statement d. rule.statement_back tech line D C v w name words rest d now stands statement;
      ends_back = λ line D C v u now words rest stands end d. let place = rw end.1 at stands.0 in rule_ends line D C v u now place.0 words rest place.1 stands end d;
    }

    -- ---- MACRO

    abbrev pub MacroStands : MacroParts → State → Type 0
    MacroStands v now = (s : State) × (numbers : List ℤ) × (now ≡ cell.At s numbers v) × (tech_with tech s ≡ t) × (s.outer ≡ name)

    abbrev pub MacroEnd : MacroParts → List Lexeme → Technology → Type 0
    MacroEnd v words u = (size : Pt) × Are (Word keys.End ∷ Name name ∷ []) words × (v.place ≡ macro_words.Between) × (v.cell.size ≡ Some size) × (u ≡ with_new_macro t name size v.cell)

    macro_after : (s : State) (numbers : List ℤ) (v : MacroParts) (size : Pt) → tech_with tech s ≡ t → s.outer ≡ name → tech_with tech (cell.Closed tech s numbers v size) ≡ with_new_macro t name size v.cell
    macro_after s numbers v size same named = cell.closed_tech tech s numbers v size ∙ ap (λ (x : Technology). with_new_macro x s.outer size v.cell) same ∙ ap (λ (n : List ℕ). with_new_macro t n size v.cell) named

    macro_taken : (D : State → List Lexeme → Type 0) (s : State) (numbers : List ℤ) (v : MacroParts) (words : List Lexeme) → tech_with tech s ≡ t → s.outer ≡ name → cell.Reads tech D s v numbers words
        → Taken tech MacroStands (MacroStatement t) MacroEnd D v words
    macro_taken D s numbers v words same named (cell.Statement next noted called front rest is statement d) = Statement next _ front rest is (rw (← same) statement) (record s { name = called }, noted, refl, same, named) d
    macro_taken D s numbers v words same named (cell.End size front rest is are between has d) = Ended _ _ front rest is (size, rw (← named) are, between, has, refl) (refl, refl, macro_after s numbers v size same named) d

    macro_opens : (place : macro_words.Place) (s : State) (numbers : List ℤ) (v : MacroParts) → v.place ≡ place → is_open (cell.At s numbers v) ≡ true
    macro_opens macro_words.Between s numbers v at_ = rw at_ refl
    macro_opens macro_words.InPin s numbers v at_ = rw at_ refl
    macro_opens macro_words.InPort s numbers v at_ = rw at_ refl

    pub macro_laws : Laws tech MacroStands (MacroStatement t) MacroEnd
    macro_laws = record {
      opens = λ v now stands. rw stands.2 (macro_opens v.place stands.0 stands.1 v refl);
      reads = λ line D C v now words stands h. macro_taken D stands.0 stands.1 v words stands.3 stands.4 (cell.reads tech line D C stands.0 v stands.1 words (rw stands.2 at h));
      goes_back = λ line D C v w now words rest stands statement d.
          rw stands.2 (cell.statement_back tech line D C stands.0 v w stands.1 words rest (rw stands.3 statement) (λ n m. d _ (record stands.0 { name = m }, n, refl, stands.3, stands.4)));
      ends_back = λ line D C v u now words rest stands end d.
          rw stands.2 (cell.end_back tech line D C stands.0 v stands.1 end.0 words rest (rw stands.4 end.1) end.2 end.3 (d _ (refl, refl, macro_after stands.0 stands.1 v end.0 stands.3 stands.4 ∙ sym end.4)));
    }
