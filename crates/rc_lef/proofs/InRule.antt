-- NONDEFAULTRULE r .. END r: the rows against its statements, both ways.
use Rattle.std.proofs.Common.{◌≡◌, ◌∙◌, ℕ, Bool, true, false, cond, List, [], ◌∷◌, ◌++◌, refl, ap, sym, subst}
use Rattle.std.proofs.lemmas.Slice.Eq.{bytes_eq-Decides}
use Rattle.std.proofs.lemmas.List.Folds.{list_any-append}
use Rattle.std.specs.Prelude.{Option, Some, None, ◌&&◌, Ok, Err, ℤ}
use Rattle.std.specs.Str.{bytes_eq}
use Rattle.rc_keys.specs.Lexemes.{Lexeme}
use Rattle.rc_keys.specs.Course.{Turn, More, Done}
use Rattle.rc_keys.specs.Statements.{at_line}
use Rattle.rc_keys.proofs.Phrasing.{On, only, Takes}
use Rattle.rc_keys.proofs.Ways as ways
use Rattle.rc_keys.proofs.Ways.{Reads as Chain}
use Rattle.rc_lef.specs.declared.key.Key.{Key}
use Rattle.rc_lef.specs.declared.key.Key.TheVariants as keys
use Rattle.rc_lef.specs.declared.state.State.{State}
use Rattle.rc_lef.specs.declared.state.Block.TheVariants as blocks
use Rattle.rc_lef.specs.declared.state.Form.TheVariants as forms
use Rattle.rc_lef.specs.declared.state.Home.TheVariants as homes
use Rattle.rc_lef.specs.declared.state.Row.TheVariants as rows
use Rattle.rc_lef.specs.declared.tech.LayerKind.{LayerKind}
use Rattle.rc_lef.specs.declared.units.Units.{Units}
use Rattle.rc_lef.specs.Keys.{key_of, is_name}
use Rattle.rc_lef.specs.Technology.{Technology}
use Rattle.rc_lef.specs.Moves.{other_statement, layer_kind, layer_of}
use Rattle.rc_lef.specs.Numbers.{width_joins}
use Rattle.rc_lef.specs.Operands.{kind_named, layer_at}
use Rattle.rc_lef.specs.Vias.{via_name_row}
use Rattle.rc_lef.specs.Rules.{rule_row, rule_layer_name_row, rule_layer_row, end_of_rule_layer, end_of_rule, with_rule, knows_rule, is_rule, rule_of}
use Rattle.rc_lef.specs.Rows.{lef_turn, tech_with}
use Rattle.rc_lef.specs.Phrases.{Word, semicolon, Name, Size, Says, Are}
use Rattle.rc_lef.specs.Skipped.{IsSkippedBlock}
use Rattle.rc_lef.specs.ViaBlock.{ViaParts, no_parts as no_via_parts, with_new_via}
use Rattle.rc_lef.specs.RuleBlock.{Place, Between, InLayer, InVia, RuleParts, begins_in_rule, begins_in_rule_layer, is_spacing, RuleStatement, LayerHead, Width, LayerOther, LayerEnd, ViaHead, ViaPart, ViaEnd, Skipped, Other, with_new_rule}
use Rattle.rc_lef.proofs.SmallTests.{both, joins}
use Rattle.rc_lef.proofs.Turns.{turns, due_ends, other, other_back}
use Rattle.rc_lef.proofs.Chains.{read_is, kind_is, number_goes}
use Rattle.rc_lef.proofs.Skips.{Skipping, skipped, skip_back}
use Rattle.rc_lef.proofs.InVia as via

-- ---- the states of an open rule

-- between its statements
abbrev pub Open : State → State
Open s = record s { block = blocks.Rule; row = rows.Begin }

-- in a LAYER of it
abbrev pub Layered : State → State
Layered s = record s { block = blocks.RuleLayer; row = rows.Begin }

-- a state stands for what a rule says: its technology and its widths, and its place
abbrev pub PlaceStands : Place → State → Type 0
PlaceStands Between now = (s : State) × (now ≡ Open s)
PlaceStands (InLayer name kind) now = (s : State) × (now ≡ Layered s) × (s.name ≡ name) × (s.rule.layer ≡ kind)
PlaceStands (InVia name parts) now = (s : State) × (numbers : List ℤ) × (now ≡ via.At homes.Rule s numbers parts) × (s.name ≡ name)

-- `name` is that of the rule
abbrev pub RuleStands : Technology → List ℕ → RuleParts → State → Type 0
RuleStands tech name v now = PlaceStands v.place now × (tech_with tech now ≡ v.tech) × (now.rule.widths ≡ v.widths) × (now.outer ≡ name)

-- the state behind the END of a rule
abbrev pub Closed : Technology → State → State
Closed tech s = record (with_rule tech (record s { block = blocks.Rule; row = rows.End })) { row = rows.Begin }

-- a front of the tokens is a statement of the rule, or its end, and `D` holds behind it
pub data Reads (tech : Technology) (name : List ℕ) (D : State → List Lexeme → Type 0) (v : RuleParts) (words : List Lexeme) : Type 0 where
  Statement : (after : RuleParts) (now : State) (front rest : List Lexeme) → words ≡ front ++ rest → RuleStatement v front after → RuleStands tech name after now → D now rest → Reads tech name D v words
  End : (s : State) (front rest : List Lexeme) → words ≡ front ++ rest → Are (Word keys.End ∷ Name name ∷ []) front → v.place ≡ Between → RuleStands tech name v (Open s) → D (Closed tech s) rest → Reads tech name D v words

joined_widths : (ws us : List (ℕ × ℤ)) (k l : LayerKind) (w : ℤ) → ws ≡ us → k ≡ l → width_joins ws k (Some w) ≡ width_joins us l (Some w)
joined_widths ws us k l w p q = ap (λ x. width_joins x k (Some w)) p ∙ ap (λ y. width_joins us y (Some w)) q

module _ (tech : Technology) (line : ℕ) (D C : State → List Lexeme → Type 0) where
  abbrev After : State → List Lexeme → Type 0
  After s words = Takes (lef_turn tech) line D C s words

  abbrev Then : List Lexeme → Turn State → Type 0
  Then words turn = On (λ s. After s words) (λ s. D s words) (λ s. C s words) turn

  -- WIDTH w ; from the token behind its keyword on
  widths : (s : State) → Chain (lef_turn tech) line Says (record (Layered s) { row = rows.Number forms.RuleWidth; numbers = [] }) (ℤ × Unit {0}) (λ w. Size s.units w.0 ∷ semicolon ∷ [])
      (λ w. record (Layered s) { numbers = w.0 ∷ []; rule = record s.rule { widths = width_joins s.rule.widths s.rule.layer (Some w.0) } })
  widths s =
      ways.goes _ _ _ _ _ _ _ _ (number_goes tech line (Layered s) forms.RuleWidth [] (λ w. record s { block = blocks.RuleLayer; row = rows.Due; numbers = w ∷ []; rule = record s.rule { widths = width_joins s.rule.widths s.rule.layer (Some w) } }) (λ w. refl)) (λ w.
      ways.ends _ _ _ _ _ _ (due_ends tech line (record s { block = blocks.RuleLayer; row = rows.Due; numbers = w ∷ []; rule = record s.rule { widths = width_joins s.rule.widths s.rule.layer (Some w) } })))

  module _ (v : RuleParts) (name : List ℕ) where
    abbrev Answer : List Lexeme → Type 0
    Answer words = Reads tech name D v words

    -- ---- between the statements

    module _ (s : State) (between : v.place ≡ Between) (same : tech_with tech s ≡ v.tech) (has : s.rule.widths ≡ v.widths) (named : s.outer ≡ name) where
      layer_name : (front a : Lexeme) (words : List Lexeme) → key_of front ≡ keys.Layer → Then words (rule_layer_name_row tech (record (Open s) { row = rows.RuleLayer }) (key_of a) (at_line line a)) → Answer (front ∷ a ∷ words)
      unfolding rule_layer_name_row layer_kind
      layer_name front a words is h =
          let e = read_is (λ t. After t words) (λ t. D t words) (λ t. C t words) (layer_of tech s (key_of a) a) (at_line line a) (λ kind. Done (record s { block = blocks.RuleLayer; row = rows.Begin; name = a.bytes; rule = record s.rule { layer = kind } })) h in
          let k = by_kind (key_of a) (kind_named a.bytes (tech_with tech s).layers) e.0 (rw (← (kind_is tech s a.bytes)) e.1) in
          Statement (record v { place = InLayer a.bytes e.0 }) _ (front ∷ a ∷ []) words refl (LayerHead a.bytes e.0 between (is, ((k.0, refl), tt)) (ap (λ (t : Technology). kind_named a.bytes t.layers) (sym same) ∙ k.1) refl)
          ((record s { name = a.bytes; rule = record s.rule { layer = e.0 } }, refl, refl, refl), same, has, named) e.2
        where
          by_kind : (key : Key) (found : Option LayerKind) (kind : LayerKind) → layer_at found key ≡ Ok kind → (is_name key ≡ true) × (found ≡ Some kind)
          by_kind key found kind at = by (is_name key) refl found at
            where
              by : (b : Bool) → is_name key ≡ b → (found : Option LayerKind) → cond b (Rattle.rc_lef.specs.Operands.or_unknown found) (Err Rattle.rc_keys.specs.declared.code.Code.TheVariants.E03) ≡ Ok kind → (is_name key ≡ true) × (found ≡ Some kind)
              by true named_ None at_ = absurd cc
              by true named_ (Some k) at_ = (named_, cc)
              by false named_ found_ at_ = absurd cc

      via_name : (front a : Lexeme) (words : List Lexeme) → key_of front ≡ keys.Via → Then words (via_name_row (record (Open s) { row = rows.ViaName homes.Rule }) homes.Rule (key_of a) (at_line line a)) → Answer (front ∷ a ∷ words)
      unfolding via_name_row
      via_name front a words is h =
          let e = only (λ t. After t words) (λ t. D t words) (λ t. C t words) _ _ (is_name (key_of a)) h in
          Statement (record v { place = InVia a.bytes no_via_parts }) _ (front ∷ a ∷ []) words refl (ViaHead a.bytes between (is, ((e.0, refl), tt)) refl)
          ((record s { name = a.bytes }, s.numbers, refl, refl), same, has, named) e.1

      end_key : (front a : Lexeme) (words : List Lexeme) → key_of front ≡ keys.End → Then words (end_of_rule tech (record (Open s) { row = rows.End }) (key_of a) (at_line line a)) → Answer (front ∷ a ∷ words)
      unfolding end_of_rule
      end_key front a words is h =
          let e = only (λ t. After t words) (λ t. D t words) (λ t. C t words) _ _ (is_name (key_of a) && bytes_eq a.bytes s.outer) h in
          let b = both (is_name (key_of a)) (bytes_eq a.bytes s.outer) e.0 in
          End s (front ∷ a ∷ []) words refl (is, ((b.0, (bytes_eq-Decides a.bytes s.outer).0 b.1 ∙ named), tt)) between (rw between (s, refl), same, has, named) e.1

      layers : (front : Lexeme) (words : List Lexeme) → key_of front ≡ keys.Layer → After (record (Open s) { row = rows.RuleLayer }) words → Answer (front ∷ words)
      layers front [] is h = absurd h
      layers front (a ∷ words) is h = layer_name front a words is (rw turns at h)

      vias : (front : Lexeme) (words : List Lexeme) → key_of front ≡ keys.Via → After (record (Open s) { row = rows.ViaName homes.Rule }) words → Answer (front ∷ words)
      vias front [] is h = absurd h
      vias front (a ∷ words) is h = via_name front a words is (rw turns at h)

      ends : (front : Lexeme) (words : List Lexeme) → key_of front ≡ keys.End → After (record (Open s) { row = rows.End }) words → Answer (front ∷ words)
      ends front [] is h = absurd h
      ends front (a ∷ words) is h = end_key front a words is (rw turns at h)

      by_key : (front : Lexeme) (words : List Lexeme) (key : Key) → key_of front ≡ key → Then words (rule_row (Open s) key (at_line line front)) → Answer (front ∷ words)
      unfolding rule_row
      by_key front words keys.Layer is h = layers front words is h
      by_key front words keys.Via is h = vias front words is h
      by_key front words keys.Spacing is h =
          let f = skipped tech line D C (record (Open s) { name = front.bytes }) words h in
          Statement v _ (front ∷ f.0) f.1 (ap (λ ws. front ∷ ws) f.2) (Skipped between (record { word = front; body = f.0; parts = refl; key = rw is refl; ends = f.3 }) refl)
          (rw between (record s { name = front.bytes }, refl), same, has, named) f.4
      by_key front words keys.End is h = ends front words is h
      by_key front words _ is h =
          let f = other tech line D C begins_in_rule (Open s) front words _ is refl h in
          Statement v _ f.0 f.1 f.2 (Other between f.3 refl) (rw between (s, refl), same, has, named) f.4

      pub between_reads : (words : List Lexeme) → After (Open s) words → Answer words
      between_reads [] h = absurd h
      between_reads (word ∷ words) h = by_key word words (key_of word) refl (rw turns at h)

    -- ---- in a LAYER

    module _ (s : State) (layer : List ℕ) (kind : LayerKind) (within : v.place ≡ InLayer layer kind) (called : s.name ≡ layer) (is_kind : s.rule.layer ≡ kind) (same : tech_with tech s ≡ v.tech) (has : s.rule.widths ≡ v.widths) (named : s.outer ≡ name) where
      layer_end_key : (front a : Lexeme) (words : List Lexeme) → key_of front ≡ keys.End → Then words (end_of_rule_layer (record (Layered s) { row = rows.End }) (key_of a) (at_line line a)) → Answer (front ∷ a ∷ words)
      unfolding end_of_rule_layer
      layer_end_key front a words is h =
          let e = only (λ t. After t words) (λ t. D t words) (λ t. C t words) _ _ (is_name (key_of a) && bytes_eq a.bytes s.name) h in
          let b = both (is_name (key_of a)) (bytes_eq a.bytes s.name) e.0 in
          Statement (record v { place = Between }) _ (front ∷ a ∷ []) words refl (LayerEnd layer kind within (is, ((b.0, (bytes_eq-Decides a.bytes s.name).0 b.1 ∙ called), tt)) refl) ((s, refl), same, has, named) e.1

      layer_ends : (front : Lexeme) (words : List Lexeme) → key_of front ≡ keys.End → After (record (Layered s) { row = rows.End }) words → Answer (front ∷ words)
      layer_ends front [] is h = absurd h
      layer_ends front (a ∷ words) is h = layer_end_key front a words is (rw turns at h)

      layer_key : (front : Lexeme) (words : List Lexeme) (key : Key) → key_of front ≡ key → Then words (rule_layer_row (Layered s) key (at_line line front)) → Answer (front ∷ words)
      unfolding rule_layer_row
      layer_key front words keys.Width is h =
          let e = (widths s).sound D C words h in
          Statement (record v { widths = width_joins v.widths kind (Some e.0.0) }) _ (front ∷ e.1) e.2 (ap (λ ws. front ∷ ws) e.3) (Width layer kind e.0.0 within (is, subst (λ (u : Option Units). Are (Size u e.0.0 ∷ semicolon ∷ []) e.1) (ap (λ (t : Technology). t.units) same) e.4) refl)
          (rw within (record s { numbers = e.0.0 ∷ []; rule = record s.rule { widths = width_joins s.rule.widths s.rule.layer (Some e.0.0) } }, refl, called, is_kind), same, joined_widths s.rule.widths v.widths s.rule.layer kind e.0.0 has is_kind, named) e.5
      layer_key front words keys.End is h = layer_ends front words is h
      layer_key front words _ is h =
          let f = other tech line D C begins_in_rule_layer (Layered s) front words _ is refl h in
          Statement v _ f.0 f.1 f.2 (LayerOther layer kind within f.3 refl) (rw within (s, refl, called, is_kind), same, has, named) f.4

      pub layer_reads : (words : List Lexeme) → After (Layered s) words → Answer words
      layer_reads [] h = absurd h
      layer_reads (word ∷ words) h = layer_key word words (key_of word) refl (rw turns at h)

    -- ---- in a VIA

    module _ (s : State) (numbers : List ℤ) (called : List ℕ) (parts : ViaParts) (within : v.place ≡ InVia called parts) (is_called : s.name ≡ called) (same : tech_with tech s ≡ v.tech) (has : s.rule.widths ≡ v.widths) (named : s.outer ≡ name) where
      by_via : (words : List Lexeme) → via.Reads tech homes.Rule D s numbers parts words → Answer words
      by_via words (via.Statement after noted_ front rest is statement d) =
          Statement (record v { place = InVia called after }) _ front rest is (ViaPart called parts after within (rw same at statement) refl) ((s, noted_, refl, is_called), same, has, named) d
      by_via words (via.End front rest is are d) =
          Statement (record v { tech = with_new_via v.tech called parts.via; place = Between }) _ front rest is (ViaEnd called parts within (rw is_called at are) refl)
          ((via.Closed tech homes.Rule s numbers parts, refl), via.closed_tech tech homes.Rule s numbers parts ∙ ap (λ (t : Technology). with_new_via t s.name parts.via) same ∙ ap (λ (n : List ℕ). with_new_via v.tech n parts.via) is_called, has, named) d

      pub via_reads : (words : List Lexeme) → After (via.At homes.Rule s numbers parts) words → Answer words
      via_reads words h = by_via words (via.reads tech homes.Rule line D C s numbers parts words h)

  -- ---- all of them

  by_place : (v : RuleParts) (name : List ℕ) (place : Place) (now : State) (words : List Lexeme) → v.place ≡ place → PlaceStands place now → tech_with tech now ≡ v.tech → now.rule.widths ≡ v.widths → now.outer ≡ name → After now words → Reads tech name D v words
  by_place v name Between now words at (s, is) same has named h = between_reads v name s at (rw is at same) (rw is at has) (rw is at named) words (rw is at h)
  by_place v name (InLayer layer kind) now words at (s, is, called, is_kind) same has named h = layer_reads v name s layer kind at called is_kind (rw is at same) (rw is at has) (rw is at named) words (rw is at h)
  by_place v name (InVia called parts) now words at (s, numbers, is, is_called) same has named h = via_reads v name s numbers called parts at is_called (rw is at same) (rw is at has) (rw is at named) words (rw is at h)

  pub reads : (v : RuleParts) (name : List ℕ) (now : State) (words : List Lexeme) → RuleStands tech name v now → After now words → Reads tech name D v words
  reads v name now words stands h = by_place v name v.place now words refl stands.0 stands.1 stands.2 stands.3 h

  -- ---- statements to rows

  not_own : (s : State) (key : Key) (word : Lexeme) → begins_in_rule key ≡ false → rule_row (Open s) key word ≡ other_statement (Open s) key word
  unfolding rule_row
  not_own s keys.Layer word un = absurd cc
  not_own s keys.Via word un = absurd cc
  not_own s keys.Spacing word un = absurd cc
  not_own s keys.End word un = absurd cc
  not_own s _ word un = refl

  not_own_layer : (s : State) (key : Key) (word : Lexeme) → begins_in_rule_layer key ≡ false → rule_layer_row (Layered s) key word ≡ other_statement (Layered s) key word
  unfolding rule_layer_row
  not_own_layer s keys.Width word un = absurd cc
  not_own_layer s keys.End word un = absurd cc
  not_own_layer s _ word un = refl

  layer_head_back : (s : State) (layer : List ℕ) (kind : LayerKind) (words rest : List Lexeme) → Are (Word keys.Layer ∷ Name layer ∷ []) words → kind_named layer (tech_with tech s).layers ≡ Some kind
      → D (Layered (record s { name = layer; rule = record s.rule { layer = kind } })) rest → After (Open s) (words ++ rest)
  unfolding rule_row rule_layer_name_row layer_kind
  layer_head_back s layer kind (a ∷ b ∷ []) rest are found d =
      let e : layer_kind tech s b.bytes ≡ Some kind = kind_is tech s b.bytes ∙ rw are.1.0.1 found in
      rw (turns, are.0, turns, are.1.0.0, e, are.1.0.1) d
  layer_head_back s layer kind _ rest are found d = search

  width_back : (s : State) (width : ℤ) (words rest : List Lexeme) → Are (Word keys.Width ∷ Size s.units width ∷ semicolon ∷ []) words
      → D (record (Layered s) { numbers = width ∷ []; rule = record s.rule { widths = width_joins s.rule.widths s.rule.layer (Some width) } }) rest → After (Layered s) (words ++ rest)
  unfolding rule_layer_row
  width_back s width [] rest are d = absurd are
  width_back s width (word ∷ words) rest are d = rw (turns, are.0) ((widths s).back D C (width, tt) words rest are.1 d)

  layer_end_back : (s : State) (words rest : List Lexeme) → Are (Word keys.End ∷ Name s.name ∷ []) words → D (Open s) rest → After (Layered s) (words ++ rest)
  unfolding rule_layer_row end_of_rule_layer
  layer_end_back s (a ∷ b ∷ []) rest are d =
      let e : bytes_eq b.bytes s.name ≡ true = (bytes_eq-Decides b.bytes s.name).1 are.1.0.1 in
      rw (turns, are.0, turns, are.1.0.0, e) d
  layer_end_back s _ rest are d = search

  via_head_back : (s : State) (called : List ℕ) (words rest : List Lexeme) → Are (Word keys.Via ∷ Name called ∷ []) words → D (via.At homes.Rule (record s { name = called }) s.numbers no_via_parts) rest → After (Open s) (words ++ rest)
  unfolding rule_row via_name_row
  via_head_back s called (a ∷ b ∷ []) rest are d = rw (turns, are.0, turns, are.1.0.0, are.1.0.1) d
  via_head_back s called _ rest are d = search

  spacing_key : (s : State) (key : Key) (word : Lexeme) → is_spacing key ≡ true → rule_row (Open s) key word ≡ More (Skipping (record (Open s) { name = word.bytes }) false)
  unfolding rule_row
  spacing_key s keys.Spacing word is = refl
  spacing_key s _ word is = absurd cc

  spacing_back : (s : State) (words rest : List Lexeme) → IsSkippedBlock is_spacing words → ((name : List ℕ) → D (record (Open s) { name = name }) rest) → After (Open s) (words ++ rest)
  spacing_back s words rest b d =
      rw (b.parts, turns, spacing_key s (key_of b.word) (at_line line b.word) b.key) (skip_back tech line D C (record (Open s) { name = b.word.bytes }) b.body rest b.ends (d b.word.bytes))

  module _ (v after : RuleParts) (name : List ℕ) (words rest : List Lexeme) (d : (t : State) → RuleStands tech name after t → D t rest) where
    between_of : (now : State) → v.place ≡ Between → PlaceStands v.place now → PlaceStands Between now
    between_of now at p = rw at at p

    back_between : (s : State) → tech_with tech s ≡ v.tech → s.rule.widths ≡ v.widths → s.outer ≡ name → v.place ≡ Between → RuleStatement v words after → After (Open s) (words ++ rest)
    back_between s same has named at (LayerHead layer kind here are found is) =
        layer_head_back s layer kind words rest are (ap (λ (t : Technology). kind_named layer t.layers) same ∙ found) (d _ (rw is ((record s { name = layer; rule = record s.rule { layer = kind } }, refl, refl, refl), same, has, named)))
    back_between s same has named at (Width layer kind width here are is) = let e = sym at ∙ here in absurd cc
    back_between s same has named at (LayerOther layer kind here other_ is) = let e = sym at ∙ here in absurd cc
    back_between s same has named at (LayerEnd layer kind here are is) = let e = sym at ∙ here in absurd cc
    back_between s same has named at (ViaHead called here are is) = via_head_back s called words rest are (d _ (rw is ((record s { name = called }, s.numbers, refl, refl), same, has, named)))
    back_between s same has named at (ViaPart called parts next here statement is) = let e = sym at ∙ here in absurd cc
    back_between s same has named at (ViaEnd called parts here are is) = let e = sym at ∙ here in absurd cc
    back_between s same has named at (Skipped here block is) = spacing_back s words rest block (λ n. d _ (rw (is, at) ((record s { name = n }, refl), same, has, named)))
    back_between s same has named at (Other here other_ is) =
        other_back tech line D C begins_in_rule (Open s) (λ word un. turns tech line (Open s) word ∙ not_own s (key_of word) (at_line line word) un) words rest other_ (d _ (rw (is, at) ((s, refl), same, has, named)))

    back_layer : (s : State) (layer : List ℕ) (kind : LayerKind) → s.name ≡ layer → s.rule.layer ≡ kind → tech_with tech s ≡ v.tech → s.rule.widths ≡ v.widths → s.outer ≡ name → v.place ≡ InLayer layer kind → RuleStatement v words after → After (Layered s) (words ++ rest)
    back_layer s layer kind called is_kind same has named at (LayerHead l k here are found is) = let e = sym at ∙ here in absurd cc
    back_layer s layer kind called is_kind same has named at (Width l k width here are is) =
        let e : InLayer layer kind ≡ InLayer l k = sym at ∙ here in
        let ek : kind ≡ k = cc in
        width_back s width words rest (rw (ap (λ (t : Technology). t.units) (sym same)) at are)
        (d _ (rw (is, at) ((record s { numbers = width ∷ []; rule = record s.rule { widths = width_joins s.rule.widths s.rule.layer (Some width) } }, refl, called, is_kind), same, joined_widths s.rule.widths v.widths s.rule.layer k width has (is_kind ∙ ek), named)))
    back_layer s layer kind called is_kind same has named at (LayerOther l k here other_ is) =
        other_back tech line D C begins_in_rule_layer (Layered s) (λ word un. turns tech line (Layered s) word ∙ not_own_layer s (key_of word) (at_line line word) un) words rest other_ (d _ (rw (is, at) ((s, refl, called, is_kind), same, has, named)))
    back_layer s layer kind called is_kind same has named at (LayerEnd l k here are is) =
        let e : InLayer layer kind ≡ InLayer l k = sym at ∙ here in
        let el : s.name ≡ l = cc in
        layer_end_back s words rest (rw (← el) at are) (d _ (rw is ((s, refl), same, has, named)))
    back_layer s layer kind called is_kind same has named at (ViaHead c here are is) = let e = sym at ∙ here in absurd cc
    back_layer s layer kind called is_kind same has named at (ViaPart c parts next here statement is) = let e = sym at ∙ here in absurd cc
    back_layer s layer kind called is_kind same has named at (ViaEnd c parts here are is) = let e = sym at ∙ here in absurd cc
    back_layer s layer kind called is_kind same has named at (Skipped here block is) = let e = sym at ∙ here in absurd cc
    back_layer s layer kind called is_kind same has named at (Other here other_ is) = let e = sym at ∙ here in absurd cc

    back_via : (s : State) (numbers : List ℤ) (called : List ℕ) (parts : ViaParts) → s.name ≡ called → tech_with tech s ≡ v.tech → s.rule.widths ≡ v.widths → s.outer ≡ name → v.place ≡ InVia called parts → RuleStatement v words after → After (via.At homes.Rule s numbers parts) (words ++ rest)
    back_via s numbers called parts is_called same has named at (LayerHead l k here are found is) = let e = sym at ∙ here in absurd cc
    back_via s numbers called parts is_called same has named at (Width l k width here are is) = let e = sym at ∙ here in absurd cc
    back_via s numbers called parts is_called same has named at (LayerOther l k here other_ is) = let e = sym at ∙ here in absurd cc
    back_via s numbers called parts is_called same has named at (LayerEnd l k here are is) = let e = sym at ∙ here in absurd cc
    back_via s numbers called parts is_called same has named at (ViaHead c here are is) = let e = sym at ∙ here in absurd cc
    back_via s numbers called parts is_called same has named at (ViaPart c p next here statement is) =
        let e : InVia called parts ≡ InVia c p = sym at ∙ here in
        let ec : called ≡ c = cc in
        let ep : parts ≡ p = cc in
        via.statement_back tech homes.Rule line D C s numbers parts next words rest (rw (same, ep) statement) (λ n. d _ (rw is ((s, n, refl, is_called ∙ ec), same, has, named)))
    back_via s numbers called parts is_called same has named at (ViaEnd c p here are is) =
        let e : InVia called parts ≡ InVia c p = sym at ∙ here in
        let ec : s.name ≡ c = cc in
        let ep : parts ≡ p = cc in
        via.end_back tech homes.Rule line D C s numbers parts words rest (rw (← ec) at are)
        (d _ (rw is ((via.Closed tech homes.Rule s numbers parts, refl), via.closed_tech tech homes.Rule s numbers parts ∙ ap (λ (t : Technology). with_new_via t s.name parts.via) same ∙ ap (λ (n : List ℕ). with_new_via v.tech n parts.via) ec ∙ ap (λ (q : ViaParts). with_new_via v.tech c q.via) ep, has, named)))
    back_via s numbers called parts is_called same has named at (Skipped here block is) = let e = sym at ∙ here in absurd cc
    back_via s numbers called parts is_called same has named at (Other here other_ is) = let e = sym at ∙ here in absurd cc

    back_by : (place : Place) (now : State) → v.place ≡ place → PlaceStands place now → tech_with tech now ≡ v.tech → now.rule.widths ≡ v.widths → now.outer ≡ name → RuleStatement v words after → After now (words ++ rest)
    back_by Between now at (s, is) same has named statement = rw is (back_between s (rw is at same) (rw is at has) (rw is at named) at statement)
    back_by (InLayer layer kind) now at (s, is, called, is_kind) same has named statement = rw is (back_layer s layer kind called is_kind (rw is at same) (rw is at has) (rw is at named) at statement)
    back_by (InVia called parts) now at (s, numbers, is, is_called) same has named statement = rw is (back_via s numbers called parts is_called (rw is at same) (rw is at has) (rw is at named) at statement)

    pub statement_back : (now : State) → RuleStands tech name v now → RuleStatement v words after → After now (words ++ rest)
    statement_back now stands statement = back_by v.place now refl stands.0 stands.1 stands.2 stands.3 statement

  pub end_back : (s : State) (words rest : List Lexeme) → Are (Word keys.End ∷ Name s.outer ∷ []) words → D (Closed tech s) rest → After (Open s) (words ++ rest)
  unfolding rule_row end_of_rule
  end_back s (a ∷ b ∷ []) rest are d =
      let e : bytes_eq b.bytes s.outer ≡ true = (bytes_eq-Decides b.bytes s.outer).1 are.1.0.1 in
      rw (turns, are.0, turns, are.1.0.0, e) d
  end_back s _ rest are d = search

-- ---- the technology after a rule

pub closed_tech : (tech : Technology) (s : State) → tech_with tech (Closed tech s) ≡ with_new_rule (tech_with tech s) s.outer s.rule.widths
unfolding knows_rule
closed_tech tech s =
    ap (λ rs. record (tech_with tech s) { rules = rs })
    (joins (knows_rule tech (record s { block = blocks.Rule; row = rows.End })) tech.rules s.rules (rule_of s.outer s.rule) (rule_of s.outer s.rule) (λ un. refl) ∙ rw (list_any-append (is_rule s.outer) tech.rules s.rules) refl)
