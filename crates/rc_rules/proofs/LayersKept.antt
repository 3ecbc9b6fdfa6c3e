-- A rule file has a place for each layer of its technology.
use Rattle.std.proofs.Common.{◌≡◌, ◌+◌, ℕ, zero, suc, List, [], ◌∷◌, length, refl, ap, sym, ◌∙◌, arith, length-set}
use Rattle.std.specs.Prelude.{Option, None, Some, slice_set}
use Rattle.std.specs.List.{FoldsTo}
use Rattle.rc_keys.specs.Lexemes.{Lexeme}
use Rattle.rc_lef.specs.declared.units.Units.{Units}
use Rattle.rc_lef.specs.Technology.{Technology}
use Rattle.rc_rules.specs.declared.layer.LayerValues.{LayerValues}
use Rattle.rc_rules.specs.declared.state.Progress.{Progress}
use Rattle.rc_rules.specs.RuleFile.{RuleFile}
use Rattle.rc_rules.specs.Layers.{routing_count, cut_count}
use Rattle.rc_rules.specs.Rows.{no_progress, nothing}
use Rattle.rc_rules.specs.Statements.{Statement, Heading, Layer, Widths, Distances, Resistances, Table, Row, EndLayer, Via, Contact}
use Rattle.rc_rules.specs.File.{FilesKeepLayers}

-- both have as many places
record SamePlaces (before after : Progress) : Type 0 where
  layers : length after.layers ≡ length before.layers
  cuts : length after.cuts ≡ length before.cuts

by : (before after same : Progress) → after ≡ same → length same.layers ≡ length before.layers → length same.cuts ≡ length before.cuts → SamePlaces before after
by before after same is layers cuts = record { layers = ap (λ (p : Progress). length p.layers) is ∙ layers; cuts = ap (λ (p : Progress). length p.cuts) is ∙ cuts }

statement_keeps : (units : Units) (tech : Technology) (before after : Progress) (words : List Lexeme) → Statement units tech before words after → SamePlaces before after
statement_keeps units tech before after words (Heading are stage is) = by before after _ is refl refl
statement_keeps units tech before after words (Layer number are stage new is) = by before after _ is refl refl
statement_keeps units tech before after words (Widths widths are stage scale is) = by before after _ is refl refl
statement_keeps units tech before after words (Distances distances are stage scale is) = by before after _ is refl refl
statement_keeps units tech before after words (Resistances resistances are stage as_many is) = by before after _ is refl refl
statement_keeps units tech before after words (Table under over are stage full few below above new is) = by before after _ is refl refl
statement_keeps units tech before after words (Row numbers are stage due as_many is) = by before after _ is refl refl
statement_keeps units tech before after words (EndLayer are stage full complete is) = by before after _ is (length-set before.layers before.number (Some before.block)) refl
statement_keeps units tech before after words (Via number resistance are stage new is) = by before after _ is refl (length-set before.cuts number (Some resistance))
statement_keeps units tech before after words (Contact resistance are stage new is) = by before after _ is refl refl

all_keep : (units : Units) (tech : Technology) (parts : List (List Lexeme)) (before after : Progress) → FoldsTo (Statement units tech) before parts after → SamePlaces before after
all_keep units tech [] before after is = by before after before (sym is) refl refl
all_keep units tech (part ∷ parts) before after (mid, first, rest) =
    let a = statement_keeps units tech before mid part first in
    let b = all_keep units tech parts mid after rest in
    record { layers = b.layers ∙ a.layers; cuts = b.cuts ∙ a.cuts }

length-nothing : (X : Type 0) (n : ℕ) → length (nothing {A = X} n) ≡ n
length-nothing X zero = refl
length-nothing X (suc n) = let before : length (nothing {A = X} n) ≡ n = length-nothing X n in omega (arith, before)

pub files_keep_layers : FilesKeepLayers
files_keep_layers units tech rules text file =
    let kept = all_keep units tech file.statements.parts (no_progress tech) file.last file.statements.each in
    record {
      in_a_micron = ap (λ (r : RuleFile). r.units) file.says;
      routing = ap (λ (r : RuleFile). length r.layers) file.says ∙ (kept.layers ∙ length-nothing LayerValues (routing_count tech));
      cut = ap (λ (r : RuleFile). length r.cuts) file.says ∙ (kept.cuts ∙ length-nothing ℕ (cut_count tech));
    }
