-- Files keep names apart.
use Rattle.std.proofs.Common.{◌≡◌, ◌∙◌, ℕ, Bool, true, false, cond, List, [], ◌∷◌, ◌++◌, refl, ap}
use Rattle.std.specs.List.{FoldsTo}
use Rattle.rc_keys.specs.Lexemes.{Lexeme, Remaining}
use Rattle.rc_keys.specs.Tables.{has_name, are_new}
use Rattle.rc_keys.proofs.Naming.{are_new-append}
use Rattle.rc_lef.specs.declared.state.ViaDraft.{ViaDraft}
use Rattle.rc_lef.specs.Facts.{IsDistinct}
use Rattle.rc_lef.specs.Technology.{Technology, name_of_layer, name_of_via, name_of_macro, name_of_rule}
use Rattle.rc_lef.specs.Cells.{macro_of}
use Rattle.rc_lef.specs.Vias.{via_of}
use Rattle.rc_lef.specs.LayerBlock.{knows_layer, layer_of}
use Rattle.rc_lef.specs.ViaBlock.{knows_via, with_new_via}
use Rattle.rc_lef.specs.RuleBlock.{RuleParts, RuleStatement, LayerHead, Width, LayerOther, LayerEnd, ViaHead, ViaPart as ViaInRule, ViaEnd, Skipped, Other, rule_begun, knows_rule}
use Rattle.rc_lef.specs.MacroBlock.{knows_macro}
use Rattle.rc_lef.specs.File.{Entry, UnitsPart, LayerPart, ViaPart, RulePart, MacroPart, SkippedPart, OtherPart, IsFile}
use Rattle.rc_lef.proofs.ViaNames.{via_name}

-- one more, unless its name is known
joins : {T : Type 0} (called : T → List ℕ) (xs : List T) (x : T) (known : Bool) → has_name called (called x) xs ≡ known → are_new called [] xs ≡ true → are_new called [] (cond known xs (xs ++ x ∷ [])) ≡ true
joins called xs x true is are = are
joins called xs x false is are = are_new-append called [] xs (x ∷ []) ∙ rw (are, is) refl

with_via : (t : Technology) (name : List ℕ) (via : ViaDraft) → IsDistinct t → IsDistinct (with_new_via t name via)
with_via t name via d = record {
  layers = d.layers;
  vias = joins name_of_via t.vias (via_of name via) (knows_via t name) (ap (λ n. has_name name_of_via n t.vias) (via_name name via)) d.vias;
  macros = d.macros;
  rules = d.rules;
}

-- ---- statements of a rule

rule_keeps : (before after : RuleParts) (words : List Lexeme) → RuleStatement before words after → IsDistinct before.tech → IsDistinct after.tech
rule_keeps before after words (LayerHead name kind at are found same) d = rw same d
rule_keeps before after words (Width name kind width at are same) d = rw same d
rule_keeps before after words (LayerOther name kind at is same) d = rw same d
rule_keeps before after words (LayerEnd name kind at are same) d = rw same d
rule_keeps before after words (ViaHead name at are same) d = rw same d
rule_keeps before after words (ViaInRule name parts next at statement same) d = rw same d
rule_keeps before after words (ViaEnd name parts at are same) d = rw same (with_via before.tech name parts.via d)
rule_keeps before after words (Skipped at is same) d = rw same d
rule_keeps before after words (Other at is same) d = rw same d

-- what each statement keeps, all of them keep
pub all_keep : {A : Type 0} (Mean : A → List Lexeme → A → Type 0) (P : A → Type 0) → ((x y : A) (words : List Lexeme) → Mean x words y → P x → P y) → (parts : List (List Lexeme)) (x y : A) → FoldsTo Mean x parts y → P x → P y
all_keep Mean P law [] x y same p = rw (← same) p
all_keep Mean P law (part ∷ parts) x y all p = all_keep Mean P law parts all.0 y all.2 (law x all.0 part all.1 p)

-- ---- entries

entry_keeps : (before after : Technology) (words : List Lexeme) → Entry before words after → IsDistinct before → IsDistinct after
entry_keeps before after words (UnitsPart units b same) d = rw same (record { layers = d.layers; vias = d.vias; macros = d.macros; rules = d.rules })
entry_keeps before after words (LayerPart name parts b complete same) d =
    rw same (record { layers = joins name_of_layer before.layers (layer_of before name parts) (knows_layer before name) refl d.layers; vias = d.vias; macros = d.macros; rules = d.rules })
entry_keeps before after words (ViaPart name parts b same) d = rw same (with_via before name parts.via d)
entry_keeps before after words (RulePart name parts b between same) d =
    let e = all_keep RuleStatement (λ (v : RuleParts). IsDistinct v.tech) rule_keeps b.goes.parts (rule_begun before) parts b.goes.each d in
    rw same (record { layers = e.layers; vias = e.vias; macros = e.macros; rules = joins name_of_rule parts.tech.rules (record { name = name; widths = parts.widths }) (knows_rule parts.tech name) refl e.rules })
entry_keeps before after words (MacroPart name parts size b between has same) d =
    rw same (record { layers = d.layers; vias = d.vias; macros = joins name_of_macro before.macros (macro_of name size parts.cell) (knows_macro before name) refl d.macros; rules = d.rules })
entry_keeps before after words (SkippedPart is same) d = rw same d
entry_keeps before after words (OtherPart is same) d = rw same d

pub file_keeps : (before after : Technology) (text : Remaining) → IsFile before text after → IsDistinct before → IsDistinct after
file_keeps before after text file d = all_keep Entry IsDistinct entry_keeps file.entries.parts before after file.entries.each d
