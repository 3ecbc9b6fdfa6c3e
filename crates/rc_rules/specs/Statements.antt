-- The statements of a rule file. Each takes what the statements before it say to what is said behind it.
use Rattle.std.specs.Prelude.{◌≡◌, ◌+◌, ◌*◌, ◌++◌, ℕ, Bool, true, false, Option, Some, None, is_some, List, [], ◌∷◌, length, map, nat_lt, position, slice_set}
use Rattle.rc_keys.specs.Lexemes.{Lexeme}
use Rattle.rc_lef.specs.declared.units.Units.{Units}
use Rattle.rc_lef.specs.Technology.{Technology}
use Rattle.rc_rules.specs.declared.key.Key.{Key}
use Rattle.rc_rules.specs.declared.key.Key.TheVariants as keys
use Rattle.rc_rules.specs.declared.layer.LayerValues.{LayerValues}
use Rattle.rc_rules.specs.declared.state.Stage.TheVariants as stages
use Rattle.rc_rules.specs.declared.state.Progress.{Progress}
use Rattle.rc_rules.specs.Scales.{is_scale}
use Rattle.rc_rules.specs.LookUp.{is_for}
use Rattle.rc_rules.specs.Blocks.{no_values, is_full, is_complete}
use Rattle.rc_rules.specs.RuleFile.{layer_in, cut_in}
use Rattle.rc_rules.specs.Phrases.{Part, Word, semicolon, Version, RoutingLayer, CutLayer, LayerOrNone, Length, Share, Resistance, Are}

-- a keyword, a part for each value, and `;`
abbrev pub listed : Key → (ℕ → Part) → List ℕ → List Part
listed key part values = Word key ∷ (map part values ++ semicolon ∷ [])

-- a layer lies below another, or over it; none does both
abbrev pub lies_below : Option ℕ → ℕ → Bool
lies_below None layer = true
lies_below (Some under) layer = nat_lt under layer

abbrev pub lies_over : Option ℕ → ℕ → Bool
lies_over None layer = true
lies_over (Some over) layer = nat_lt layer over

-- a table for these layers is there
abbrev pub has_table : LayerValues → Option ℕ → Option ℕ → Bool
has_table values under over = is_some (position (is_for under over) values.pairs)

pub data Statement (units : Units) (tech : Technology) (before : Progress) (words : List Lexeme) (after : Progress) : Type 0 where
  -- RCXRULES 1 ; which is first
  Heading : Are units tech (Word keys.RcxRules ∷ Version ∷ semicolon ∷ []) words → before.stage ≡ stages.Heading → after ≡ record before { stage = stages.Entries } → Statement units tech before words after
  -- LAYER l ; once for a layer
  Layer : (number : ℕ) → Are units tech (Word keys.Layer ∷ RoutingLayer number ∷ semicolon ∷ []) words → before.stage ≡ stages.Entries → is_some (layer_in before.layers number) ≡ false
      → after ≡ record before { stage = stages.Widths; number = number; block = no_values } → Statement units tech before words after
  -- WIDTHS w .. ; of 1 to 16 that rise strictly
  Widths : (widths : List ℕ) → Are units tech (listed keys.Widths Length widths) words → before.stage ≡ stages.Widths → is_scale 16 widths ≡ true
      → after ≡ record before { stage = stages.Distances; block = record before.block { widths = widths } } → Statement units tech before words after
  -- DISTS d .. ; of 1 to 32 that rise strictly
  Distances : (distances : List ℕ) → Are units tech (listed keys.Dists Length distances) words → before.stage ≡ stages.Distances → is_scale 32 distances ≡ true
      → after ≡ record before { stage = stages.Resistances; block = record before.block { distances = distances } } → Statement units tech before words after
  -- RES r .. ; as many as widths
  Resistances : (resistances : List ℕ) → Are units tech (listed keys.Res Share resistances) words → before.stage ≡ stages.Resistances → length resistances ≡ length before.block.widths
      → after ≡ record before { stage = stages.Tables; block = record before.block { resistances = resistances } } → Statement units tech before words after
  -- TABLE UNDER u OVER o ; where the tables before it have their rows; at most 256, of different layers, u below the block's layer and o over it
  Table : (under over : Option ℕ) → Are units tech (Word keys.Table ∷ Word keys.Under ∷ LayerOrNone under ∷ Word keys.Over ∷ LayerOrNone over ∷ semicolon ∷ []) words → before.stage ≡ stages.Tables
      → is_full before.block ≡ true → nat_lt (length before.block.pairs) 256 ≡ true → lies_below under before.number ≡ true → lies_over over before.number ≡ true → has_table before.block under over ≡ false
      → after ≡ record before { block = record before.block { pairs = before.block.pairs ++ record { under = under; over = over } ∷ [] } } → Statement units tech before words after
  -- ROW g k .. gfar ; one a width, with two numbers a distance and one for an open face
  Row : (numbers : List ℕ) → Are units tech (listed keys.Row Share numbers) words → before.stage ≡ stages.Tables → is_full before.block ≡ false → length numbers ≡ 2 * length before.block.distances + 1
      → after ≡ record before { block = record before.block { rows = before.block.rows ++ numbers ∷ [] } } → Statement units tech before words after
  -- END LAYER ; where the tables have their rows, and one is for no layers
  EndLayer : Are units tech (Word keys.End ∷ Word keys.Layer ∷ semicolon ∷ []) words → before.stage ≡ stages.Tables → is_full before.block ≡ true → is_complete before.block ≡ true
      → after ≡ record before { stage = stages.Entries; layers = slice_set before.layers before.number (Some before.block); block = no_values } → Statement units tech before words after
  -- VIA cut r ; once for a cut layer
  Via : (number resistance : ℕ) → Are units tech (Word keys.Via ∷ CutLayer number ∷ Resistance resistance ∷ semicolon ∷ []) words → before.stage ≡ stages.Entries → is_some (cut_in before.cuts number) ≡ false
      → after ≡ record before { cuts = slice_set before.cuts number (Some resistance) } → Statement units tech before words after
  -- CONTACT r ; once
  Contact : (resistance : ℕ) → Are units tech (Word keys.Contact ∷ Resistance resistance ∷ semicolon ∷ []) words → before.stage ≡ stages.Entries → is_some before.contact ≡ false
      → after ≡ record before { contact = Some resistance } → Statement units tech before words after
