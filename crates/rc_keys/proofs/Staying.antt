-- A fault that a text has already is that of each text that goes on from it.
use Rattle.std.proofs.Common.{◌≡◌, ◌∙◌, ℕ, List, [], ◌∷◌, ◌++◌, refl, ap, append-nil}
use Rattle.std.specs.Prelude.{Option, Some, None}
use Rattle.std.proofs.lemmas.Option.{none-some}
use Rattle.rc_keys.specs.declared.code.Code.{Code}
use Rattle.rc_keys.specs.declared.token.Inside.{Inside}
use Rattle.rc_keys.specs.declared.token.Inside.TheVariants as inside
use Rattle.rc_keys.specs.declared.token.Mode.{Mode}
use Rattle.rc_keys.specs.declared.token.Place.{Place}
use Rattle.rc_keys.specs.declared.token.Token.{Token}
use Rattle.rc_keys.specs.Tokens.{begin, next, next_in, closed_by, closed_in, listed, after, closed_from, closed_tokens, fault_in}
use Rattle.rc_keys.specs.Pieces.{Already}
use Rattle.rc_keys.specs.TokenLaws.{HasFaultSoFar, FaultsStay}
use Rattle.rc_keys.proofs.Cutting.{after-append, closed-append}
use Rattle.rc_keys.proofs.TokenLaws.{faults_follow_pieces}

stays : (m : Mode) (p : Place) (code : Code) (more : List ℕ) → p.inside ≡ inside.Stopped code → (after m p more ≡ p) × (closed_from m p more ≡ [])
unfolding after closed_from next closed_by
stays m p code [] at = (refl, refl)
stays m p code (b ∷ more) at =
    let same : next m p b ≡ p = ap (λ i. next_in m i p b) at in
    let none : closed_by p b ≡ None = ap (λ i. closed_in i p b) at in
    let rest = stays m p code more at in
    (ap (λ q. after m q more) same ∙ rest.0, ap (λ t. listed t ++ closed_from m (next m p b) more) none ∙ ap (λ q. closed_from m q more) same ∙ rest.1)

stopped : (i : Inside) (line : ℕ) (code : Code) (at : ℕ) → fault_in i line ≡ Some (code, at) → i ≡ inside.Stopped code
stopped inside.Between line code at is = absurd (none-some _ is)
stopped inside.Comment line code at is = absurd (none-some _ is)
stopped inside.Slash line code at is = absurd (none-some _ is)
stopped inside.Word line code at is = absurd (none-some _ is)
stopped inside.Quoted line code at is = absurd (none-some _ is)
stopped inside.Escaped line code at is = absurd (none-some _ is)
stopped (inside.Stopped other) line code at is = ap code_of is
  where
    code_of : Option (Code × ℕ) → Inside
    code_of (Some (c, l)) = inside.Stopped c
    code_of None = inside.Between

still : (m : Mode) (text more : List ℕ) (tokens : List Token) (code : Code) (line : ℕ) → HasFaultSoFar m text tokens code line → HasFaultSoFar m (text ++ more) tokens code line
still m text more tokens code line f =
    let is = (faults_follow_pieces m text tokens code line).1 f in
    let last = stays m (after m begin text) code more (stopped (after m begin text).inside (after m begin text).start_line code line is.1) in
    let place : after m begin (text ++ more) ≡ after m begin text = after-append m begin text more ∙ last.0 in
    let closed : closed_tokens m (text ++ more) ≡ tokens = closed-append m begin text more ∙ ap (λ ts. closed_from m begin text ++ ts) last.1 ∙ append-nil (closed_from m begin text) ∙ is.0 in
    (faults_follow_pieces m (text ++ more) tokens code line).0 (closed, ap (λ (p : Place). fault_in p.inside p.start_line) place ∙ is.1)

pub faults_stay : FaultsStay
faults_stay m text more tokens code line f =
    let g = still m text more tokens code line f in
    (g.0, g.1, g.2, g.3, (Already code g.4, g.5))
