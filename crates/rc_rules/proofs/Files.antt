-- What the rows read is a rule file, and every rule file is read.
use Rattle.std.proofs.Common.{◌≡◌, ◌∙◌, ℕ, inl, inr, List, [], ◌∷◌, ◌++◌, refl, ap, sym}
use Rattle.std.specs.Prelude.{Result, Ok, Err, ◌↔◌}
use Rattle.rc_keys.specs.declared.fault.Refusal.{Refusal}
use Rattle.rc_keys.specs.declared.token.Mode.TheVariants as mode
use Rattle.rc_keys.specs.Lexemes.{Lexeme, Remaining, words_of}
use Rattle.rc_keys.specs.Course.{Reading, Read, Refuses, Unfinished, reading}
use Rattle.rc_keys.specs.Statements.{first_line, Closes, IsEnd}
use Rattle.rc_keys.specs.Phrases.{joined}
use Rattle.rc_keys.proofs.Readings.{accepts_statements}
use Rattle.rc_keys.proofs.Phrasing.{Step, Ends, Never, Stops, EndsIn, taken, closed, closing, whole, reads_split, reads_join}
use Rattle.rc_keys.proofs.Blocks.{mean, in_turn, by_rows, Done}
use Rattle.rc_lef.specs.declared.units.Units.{Units}
use Rattle.rc_lef.specs.Technology.{Technology}
use Rattle.rc_rules.specs.declared.state.Stage.TheVariants as stages
use Rattle.rc_rules.specs.declared.state.Row.TheVariants as rows
use Rattle.rc_rules.specs.declared.state.Progress.{Progress}
use Rattle.rc_rules.specs.declared.state.State.{State}
use Rattle.rc_rules.specs.RuleFile.{RuleFile}
use Rattle.rc_rules.specs.Rows.{no_progress, rules_in, rules_begin, rules_turn, rules_may_end, outcome_of, rules_outcome}
use Rattle.rc_rules.specs.Statements.{Statement}
use Rattle.rc_rules.specs.File.{BeginsWithEnd, IsFile, AcceptsFiles, FilesSayOne}
use Rattle.rc_rules.proofs.Turns.{Stands}
use Rattle.rc_rules.proofs.Taken.{Reads, One, End}
use Rattle.rc_rules.proofs.TakenInBlock.{reads}
use Rattle.rc_rules.proofs.Back.{statement_back, end_rules_back}

module _ (units : Units) (tech : Technology) where
  abbrev Steps : State → List Lexeme → State → Type 0
  Steps s words t = Step (rules_turn units tech) s words t

  -- ---- what is read is a rule file

  statement : (progress : Progress) (s after : State) (words : List Lexeme) → Stands progress s → Steps s words after → (next : Progress) × Statement units tech progress words next × Stands next after
  statement progress s after words stands step = by (reads units tech (first_line words) (Ends after) Never s words stands.0 (taken (rules_turn units tech) (first_line words) s after words step))
    where
      by : Reads units tech (Ends after) Never s words → (next : Progress) × Statement units tech progress words next × Stands next after
      by (One t front rest at_ is row d) = (t.progress, rw (whole words front rest at_ d.0, ← stands.1) is, rw (← d.1) (row, refl))
      by (End t rest begins at_ same c) = absurd c

  ends_file : (progress : Progress) (s after : State) (line : ℕ) (words : List Lexeme) → Stands progress s → Closes (rules_turn units tech) line s words after → BeginsWithEnd words × (progress.stage ≡ stages.Entries) × (after.progress ≡ progress)
  ends_file progress s after line words stands closes = by (reads units tech line Never (Stops after) s words stands.0 (closed (rules_turn units tech) line s after words closes))
    where
      by : Reads units tech Never (Stops after) s words → BeginsWithEnd words × (progress.stage ≡ stages.Entries) × (after.progress ≡ progress)
      by (One t front rest at_ is row d) = absurd d
      by (End t rest begins at_ same c) = (begins, rw (← stands.1) at_, ap (λ (x : State). x.progress) (sym c) ∙ same ∙ stands.1)

  module _ (text : Remaining) (after : State) where
    ended : (progress : Progress) (mid : State) (words : List Lexeme) → Stands progress mid → IsEnd (rules_turn units tech) rules_may_end mid (record text { words = words }) after → BeginsWithEnd words × (progress.stage ≡ stages.Entries) × (after.progress ≡ progress)
    ended progress mid words stands (inl end) = let e = end.2 in absurd cc
    ended progress mid words stands (inr closes) = ends_file progress mid after (first_line words) words stands closes

    pub read_is_file : reading (rules_turn units tech) rules_may_end (rules_begin tech) text ≡ Read after → IsFile units tech text (rules_in units after.progress)
    read_is_file is =
        let r = (accepts_statements (rules_turn units tech) rules_may_end (rules_begin tech) after text).0 is in
        let p = reads_split (rules_turn units tech) rules_may_end r.0 (rules_begin tech) after text r.1 in
        let m = mean Stands Steps (Statement units tech) statement r.0 (no_progress tech) (rules_begin tech) p.0 (refl, refl) p.3 in
        let e = ended m.0 p.0 p.1 m.2 p.4 in
        record { front = joined r.0; rest = p.1; last = m.0; words = p.2; statements = record { parts = r.0; whole = refl; each = m.1 }; outside = e.1; ends = e.0; says = ap (rules_in units) e.2 }

  -- ---- every rule file is read

  statement_done : (v w : Progress) (s : State) (words : List Lexeme) → Stands v s → Statement units tech v words w → Done Stands Steps s words w
  statement_done v w s words stands is =
      by_rows (rules_turn units tech) Stands s words w (statement_back units tech (first_line words) (EndsIn (Stands w)) Never s words [] w stands.0 (rw stands.1 is) (λ t there. (refl, there)))

  end_back : (progress : Progress) (s : State) (line : ℕ) (words : List Lexeme) → Stands progress s → progress.stage ≡ stages.Entries → BeginsWithEnd words → (after : State) × Closes (rules_turn units tech) line s words after × (after.progress ≡ progress)
  end_back progress s line (a ∷ b ∷ c ∷ words) stands at_ is =
      let after : State = record s { row = rows.Close } in
      (after, closing (rules_turn units tech) line s after (a ∷ b ∷ c ∷ words) (end_rules_back units tech line Never (Stops after) s a b c words stands.0 (rw stands.1 at_) is.0 is.1 is.2 refl), stands.1)
  end_back progress s line [] stands at_ is = absurd is
  end_back progress s line (a ∷ []) stands at_ is = absurd is
  end_back progress s line (a ∷ b ∷ []) stands at_ is = absurd is

  pub file_is_read : (rules : RuleFile) (text : Remaining) → IsFile units tech text rules → (s : State) × (reading (rules_turn units tech) rules_may_end (rules_begin tech) text ≡ Read s) × (rules_in units s.progress ≡ rules)
  file_is_read rules text file =
      let d = in_turn Stands Steps (Statement units tech) statement_done file.statements.parts (no_progress tech) file.last (rules_begin tech) (refl, refl) file.statements.each in
      let e = end_back file.last d.0 (first_line file.rest) file.rest d.4 file.outside file.ends in
      let words : text.words ≡ joined d.1 ++ file.rest = file.words ∙ ap (λ front. front ++ file.rest) (file.statements.whole ∙ sym d.2) in
      (e.0, (accepts_statements (rules_turn units tech) rules_may_end (rules_begin tech) e.0 text).1 (d.1, reads_join (rules_turn units tech) rules_may_end d.1 (rules_begin tech) d.0 e.0 file.rest text words d.3 (inr e.1)), ap (rules_in units) e.2 ∙ sym file.says)

  -- ---- both

  by_reading : (rules : RuleFile) (text : Remaining) (r : Reading State) → reading (rules_turn units tech) rules_may_end (rules_begin tech) text ≡ r → outcome_of units r ≡ Ok rules → IsFile units tech text rules
  by_reading rules text (Read s) is same = let e : rules_in units s.progress ≡ rules = cc in rw (← e) (read_is_file text s is)
  by_reading rules text (Refuses refusal) is same = absurd cc
  by_reading rules text (Unfinished begun last) is same = absurd cc

  pub files : (rules : RuleFile) (text : Remaining) → (outcome_of units (reading (rules_turn units tech) rules_may_end (rules_begin tech) text) ≡ Ok rules) ↔ IsFile units tech text rules
  files rules text = (
    λ same. by_reading rules text (reading (rules_turn units tech) rules_may_end (rules_begin tech) text) refl same,
    λ file. let r = file_is_read rules text file in ap (outcome_of units) r.1 ∙ ap (λ t. Ok t) r.2,
  )

-- ---- the laws

pub accepts_files : AcceptsFiles
unfolding rules_outcome
accepts_files units tech rules text = files units tech rules (words_of mode.Lef text)

pub read_as : (units : Units) (tech : Technology) (read rules : RuleFile) (text : List ℕ) → rules_outcome units tech text ≡ Ok read → IsFile units tech (words_of mode.Lef text) rules → read ≡ rules
read_as units tech read rules text is file = let e : ◌≡◌ {A = Result RuleFile Refusal} (Ok read) (Ok rules) = sym is ∙ (accepts_files units tech rules text).1 file in cc

pub refused_is_none : (units : Units) (tech : Technology) (rules : RuleFile) (text : List ℕ) (refusal : Refusal) → rules_outcome units tech text ≡ Err refusal → IsFile units tech (words_of mode.Lef text) rules → ⊥
refused_is_none units tech rules text refusal is file = let e : ◌≡◌ {A = Result RuleFile Refusal} (Err refusal) (Ok rules) = sym is ∙ (accepts_files units tech rules text).1 file in cc

pub say_one : FilesSayOne
say_one units tech first second text a b = read_as units tech first second text ((accepts_files units tech first text).1 a) b

pub comes_to : (units : Units) (tech : Technology) (text : List ℕ) (start : State) (r : Reading State) → start ≡ rules_begin tech
    → reading (rules_turn units tech) rules_may_end start (words_of mode.Lef text) ≡ r → rules_outcome units tech text ≡ outcome_of units r
unfolding rules_outcome
comes_to units tech text start r is reads = ap (outcome_of units) (rw (← is) reads)
