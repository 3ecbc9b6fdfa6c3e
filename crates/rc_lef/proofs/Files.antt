-- What the rows read is a file, and every file is read.
use Rattle.std.proofs.Common.{◌≡◌, ◌∙◌, Bool, true, false, inl, inr, List, [], ◌++◌, refl, ap, sym}
use Rattle.std.proofs.lemmas.List.{append-nil}
use Rattle.std.specs.Prelude.{None, Ok, ◌⊎◌, ◌↔◌, not}
use Rattle.std.specs.List.{FoldsTo}
use Rattle.rc_keys.specs.Lexemes.{Lexeme, Remaining}
use Rattle.rc_keys.specs.Course.{Reading, Read, Refuses, Unfinished, reading}
use Rattle.rc_keys.specs.Statements.{first_line, IsEnd}
use Rattle.rc_keys.specs.Phrases.{joined}
use Rattle.rc_keys.proofs.Readings.{accepts_statements}
use Rattle.rc_keys.proofs.Phrasing.{Step, reads_split, reads_join}
use Rattle.rc_keys.proofs.Blocks.{Entry as Taken, Opened, Grouped, grouped, stays_open, mean, in_turn}
use Rattle.rc_lef.specs.declared.state.State.{State}
use Rattle.rc_lef.specs.Technology.{Technology}
use Rattle.rc_lef.specs.Rows.{lef_turn, lef_may_end, lef_begin, tech_with, outcome_of}
use Rattle.rc_lef.specs.File.{BeginsWithEnd, Entry, IsFile}
use Rattle.rc_lef.proofs.Turns.{Stands, is_open}
use Rattle.rc_lef.proofs.Entries.{entry, opened_never, ends_file}
use Rattle.rc_lef.proofs.EntriesBack.{entry_back, end_back}

-- nothing is read of a file
stands_at_first : (tech : Technology) → Stands tech tech (lef_begin tech)
stands_at_first tech = (refl, refl, rw (append-nil tech.layers, append-nil tech.vias, append-nil tech.macros, append-nil tech.rules) refl)

-- ---- what is read is a file

module _ (tech : Technology) (text : Remaining) (after : State) where
  abbrev Steps : State → List Lexeme → State → Type 0
  Steps s words t = Step (lef_turn tech) s words t

  not_open : (b : Bool) → not b ≡ true → b ≡ true → ⊥
  not_open true p q = cc
  not_open false p q = cc

  -- the end, where no block is open
  at_end : (t : Technology) (mid : State) (words : List Lexeme) → Stands tech t mid → IsEnd (lef_turn tech) lef_may_end mid (record text { words = words }) after → (BeginsWithEnd words ⊎ (words ≡ []) × (text.fault ≡ None)) × (tech_with tech after ≡ t)
  at_end t mid words stands (inl end) = (inr (end.0, end.1), rw end.3 stands.2)
  at_end t mid words stands (inr closes) = let e = ends_file tech t mid after (first_line words) words stands closes in (inl e.0, e.1)

  -- and it isn't open there
  by_end : (t : Technology) (mid last : State) (words : List Lexeme) → Stands tech t mid → Opened Steps is_open mid last → IsEnd (lef_turn tech) lef_may_end last (record text { words = words }) after → ⊥
  by_end t mid last words stands o (inl end) = not_open (lef_may_end last) (stays_open Steps is_open o.inside o.a last o.opens o.goes) end.2
  by_end t mid last words stands o (inr closes) = opened_never tech t mid last after (first_line words) words stands o closes

  grouped_file : (parts others : List Lexeme) (last : State) → text.words ≡ parts ++ others → Grouped Steps is_open (lef_begin tech) parts last → IsEnd (lef_turn tech) lef_may_end last (record text { words = others }) after → IsFile tech text (tech_with tech after)
  grouped_file parts others last is g end =
      let m = mean (Stands tech) (Taken Steps is_open) Entry (λ v s t words stands e. entry tech v s t words stands e) g.entries tech (lef_begin tech) g.mid (stands_at_first tech) g.each in
      by m.0 m.1 m.2 g.rest
    where
      by : (u : Technology) → FoldsTo Entry tech g.entries u → Stands tech u g.mid → (parts ≡ joined g.entries) × (g.mid ≡ last) ⊎ Opened Steps is_open g.mid last → IsFile tech text (tech_with tech after)
      by u each stands (inr o) = absurd (by_end u g.mid last others stands o end)
      by u each stands (inl (same, at)) =
          let e = at_end u last others (rw at at stands) end in
          record { front = parts; rest = others; words = is; entries = record { parts = g.entries; whole = same; each = rw e.1 each }; ends = e.0 }

  pub read_is_file : reading (lef_turn tech) lef_may_end (lef_begin tech) text ≡ Read after → IsFile tech text (tech_with tech after)
  read_is_file is =
      let r = (accepts_statements (lef_turn tech) lef_may_end (lef_begin tech) after text).0 is in
      let p = reads_split (lef_turn tech) lef_may_end r.0 (lef_begin tech) after text r.1 in
      grouped_file (joined r.0) p.1 p.0 p.2 (grouped Steps is_open r.0 (lef_begin tech) p.0 refl p.3) p.4

-- ---- every file is read

ends_back : (tech t : Technology) (text : Remaining) (mid : State) (words : List Lexeme) → Stands tech t mid → BeginsWithEnd words ⊎ (words ≡ []) × (text.fault ≡ None)
    → (after : State) × IsEnd (lef_turn tech) lef_may_end mid (record text { words = words }) after × (tech_with tech after ≡ t)
ends_back tech t text mid words stands (inl begins) = let e = end_back tech t mid (first_line words) words stands begins in (e.0, inr e.1, e.2)
ends_back tech t text mid words stands (inr (none, sound)) = (mid, inl (none, sound, rw (stands.0, stands.1) refl, refl), stands.2)

pub file_is_read : (tech after : Technology) (text : Remaining) → IsFile tech text after → (s : State) × (reading (lef_turn tech) lef_may_end (lef_begin tech) text ≡ Read s) × (tech_with tech s ≡ after)
file_is_read tech after text file =
    let d = in_turn (Stands tech) (Step (lef_turn tech)) Entry (λ v w s words stands e. entry_back tech v w s words stands e) file.entries.parts tech after (lef_begin tech) (stands_at_first tech) file.entries.each in
    let e = ends_back tech after text d.0 file.rest d.4 file.ends in
    let words : text.words ≡ joined d.1 ++ file.rest = file.words ∙ ap (λ front. front ++ file.rest) (file.entries.whole ∙ sym d.2) in
    (e.0, (accepts_statements (lef_turn tech) lef_may_end (lef_begin tech) e.0 text).1 (d.1, reads_join (lef_turn tech) lef_may_end d.1 (lef_begin tech) d.0 e.0 file.rest text words d.3 e.1), e.2)

-- ---- both

by_reading : (tech after : Technology) (text : Remaining) (r : Reading State) → reading (lef_turn tech) lef_may_end (lef_begin tech) text ≡ r → outcome_of tech r ≡ Ok after → IsFile tech text after
by_reading tech after text (Read s) is same = let e : tech_with tech s ≡ after = cc in rw (← e) (read_is_file tech text s is)
by_reading tech after text (Refuses refusal) is same = absurd cc
by_reading tech after text (Unfinished begun last) is same = absurd cc

pub files : (tech after : Technology) (text : Remaining) → (outcome_of tech (reading (lef_turn tech) lef_may_end (lef_begin tech) text) ≡ Ok after) ↔ IsFile tech text after
files tech after text = (
  λ same. by_reading tech after text (reading (lef_turn tech) lef_may_end (lef_begin tech) text) refl same,
  λ file. let r = file_is_read tech after text file in ap (outcome_of tech) r.1 ∙ ap (λ t. Ok t) r.2,
)
