-- A DEF file that is cut.
use Rattle.std.proofs.Common.{◌≡◌, ◌∙◌, ◌<◌, ◌≤◌, ℕ, List, ◌++◌, length, take, drop, refl, ap, sym, subst, arith}
use Rattle.std.proofs.lemmas.List.{take-append-drop, length-take-le}
use Rattle.std.specs.Prelude.{Option, Some, None, Ok, Err}
use Rattle.rc_keys.specs.declared.code.Code.{Code}
use Rattle.rc_keys.specs.declared.code.Code.TheVariants.{E16}
use Rattle.rc_keys.specs.declared.fault.Refusal.{Refusal}
use Rattle.rc_keys.specs.declared.fault.Refusal.TheVariants.{At}
use Rattle.rc_keys.specs.declared.token.Mode.TheVariants as mode
use Rattle.rc_keys.specs.Lexemes.{words_of}
use Rattle.rc_keys.specs.Tokens.{tokens_of}
use Rattle.rc_keys.specs.Course.{Parser, Running, Refused, Closed, begin, ending, reading_from}
use Rattle.rc_def.specs.declared.design.RawDesign.{RawDesign}
use Rattle.rc_def.specs.declared.reader.State.{State}
use Rattle.rc_def.specs.Cuts.{end_of, CutsAreRefused}
use Rattle.rc_def.specs.Drafts.{design_of}
use Rattle.rc_def.specs.File.{def_turn, def_may_end, def_begin, def_outcome, outcome_of}
use Rattle.rc_def.proofs.Cutting.{folded, said_of}
use Rattle.rc_def.proofs.Closing.{Inv, by_one_word}

-- what a text comes to, by what its tokens come to
abbrev tokens_come : List ℕ → Parser State
tokens_come text = folded def_turn Inv by_one_word text (begin def_begin) (tokens_of mode.Lef text)

outcome_is : (text : List ℕ) → def_outcome text ≡ outcome_of (ending def_may_end (words_of mode.Lef text).fault (tokens_come text))
unfolding def_outcome reading_from
outcome_is text = refl

closed_of : (fault : Option (Code × ℕ)) (p : Parser State) (design : RawDesign) → outcome_of (ending def_may_end fault p) ≡ Ok design → (s : State) × (p ≡ Closed s) × (design_of s.draft.header s.draft.lists ≡ design)
closed_of fault (Refused refusal) design is = absurd cc
closed_of fault (Closed s) design is = (s, refl, cc)
closed_of (Some (code, line)) (Running s begun last) design is = absurd cc
closed_of None (Running s None last) design is = absurd cc
closed_of None (Running s (Some line) last) design is = absurd cc

refused_of : (fault : Option (Code × ℕ)) (p : Parser State) → ((s : State) → p ≡ Closed s → ⊥) → (refusal : Refusal) × (outcome_of (ending def_may_end fault p) ≡ Err refusal)
refused_of fault (Refused refusal) not = (refusal, refl)
refused_of fault (Closed s) not = absurd (not s refl)
refused_of (Some (code, line)) (Running s begun last) not = (At code line, refl)
refused_of None (Running s None last) not = (At E16 last, refl)
refused_of None (Running s (Some line) last) not = (At E16 last, refl)

-- a text in two parts: its first part is read where it reaches the end, and is refused where it doesn't
abbrev Cut : List ℕ → ℕ → RawDesign → ℕ → Type 0
Cut front long design end = (end ≤ long → def_outcome front ≡ Ok design) × (long < end → (refusal : Refusal) × (def_outcome front ≡ Err refusal))

cut : (a b : List ℕ) (design : RawDesign) → def_outcome (a ++ b) ≡ Ok design → (end : ℕ) × (end_of (a ++ b) ≡ Some end) × Cut a (length a) design end
cut a b design is =
    let c = closed_of (words_of mode.Lef (a ++ b)).fault (tokens_come (a ++ b)) design (sym (outcome_is (a ++ b)) ∙ is) in
    let s = said_of def_turn Inv by_one_word a b def_begin c.0 refl c.1 in (
      s.0,
      s.1,
      (
        λ le. outcome_is a ∙ ap (λ p. outcome_of (ending def_may_end (words_of mode.Lef a).fault p)) (s.2 le) ∙ ap (λ d. Ok d) c.2,
        λ lt. let r = refused_of (words_of mode.Lef a).fault (tokens_come a) (λ t e. s.3 lt t e) in (r.0, outcome_is a ∙ r.1),
      ),
    )

at_size : (text : List ℕ) (design : RawDesign) (size : ℕ) → size ≤ length text → def_outcome text ≡ Ok design → (end : ℕ) × (end_of text ≡ Some end) × Cut (take size text) size design end
at_size text design size le is =
    let whole : take size text ++ drop size text ≡ text = take-append-drop size text in
    let c = cut (take size text) (drop size text) design (ap def_outcome whole ∙ is) in
    (c.0, sym (ap end_of whole) ∙ c.1, subst (λ n. Cut (take size text) n design c.0) (length-take-le size text le) c.2)

one_end : (text : List ℕ) (a b : ℕ) → end_of text ≡ Some a → end_of text ≡ Some b → a ≡ b
one_end text a b p q = let e : Some a ≡ Some b = sym p ∙ q in cc

pub cuts_are_refused : CutsAreRefused
cuts_are_refused text design is =
    let c = at_size text design (length text) (omega arith) is in (
      c.0,
      c.1,
      (λ size le reaches. let d = at_size text design size le is in let e = one_end text d.0 c.0 d.1 c.1 in d.2.0 (omega arith)),
      (λ size le short. let d = at_size text design size le is in let e = one_end text d.0 c.0 d.1 c.1 in d.2.1 (omega arith)),
    )
