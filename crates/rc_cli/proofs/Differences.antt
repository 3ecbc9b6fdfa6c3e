-- The first position at which two values have different nets.
use Rattle.std.proofs.Common.{◌≡◌, ◌≢◌, ℕ, ◌≤◌, min, List, length, Option, Some, None, refl, ap, sym, ◌∙◌, arith}
use Rattle.std.specs.Prelude.{MatchOption}
use Rattle.std.proofs.lemmas.List.{length-map}
use Rattle.rc_spef.specs.declared.value.Spef.{Spef}
use Rattle.rc_spef.specs.declared.value.DNet.{DNet}
use Rattle.rc_spef.specs.Sameness.{named_net}
use Rattle.rc_spef.specs.SameTests.{same_net}
use Rattle.rc_spef.proofs.Alike.{net_decides}
use Rattle.rc_cli.specs.Verdict.{first_difference, named_nets, IsFirstApart, IsVerdict, verdict}
use Rattle.rc_cli.proofs.Apart.{AgreeBelow, agree_all, apart_at, apart_nowhere, one_ended}

pub differs_at : (a b : Spef) (place : ℕ) → IsFirstApart (named_nets a) (named_nets b) place → Some place ≡ first_difference a b
unfolding first_difference
differs_at a b place is =
    sym (apart_at (same_net a.names b.names) (named_net a.names) (named_net b.names) (net_decides a.names b.names) a.nets b.nets place is)

pub differs_nowhere : (a b : Spef) → named_nets a ≡ named_nets b → None ≡ first_difference a b
unfolding first_difference
differs_nowhere a b alike =
    sym (apart_nowhere (same_net a.names b.names) (named_net a.names) (named_net b.names) (net_decides a.names b.names) a.nets b.nets alike)

-- as many nets with names as there are nets
as_many : (spef : Spef) (nets : List DNet) → nets ≡ spef.nets → length (named_nets spef) ≡ length nets
as_many spef nets are = length-map spef.nets (named_net spef.names) ∙ ap length (sym are)

-- all positions agree, and no value has more nets
pub all_agree : (a b : Spef) (ours theirs : List DNet) (both place : ℕ) → ours ≡ a.nets → theirs ≡ b.nets → length ours ≡ length theirs →
    both ≡ min (length ours) (length theirs) → both ≤ place → AgreeBelow (named_nets a) (named_nets b) place → named_nets a ≡ named_nets b
all_agree a b ours theirs both place of_a of_b long least done agree =
    let many_a = as_many a ours of_a in
    let many_b = as_many b theirs of_b in
    agree_all (named_nets a) (named_nets b) (many_a ∙ long ∙ sym many_b) (λ k below. agree k (omega (arith, below, many_a, long, least, done)))

-- all positions agree, as far as both values have nets, and one has more
pub one_has_more : (a b : Spef) (ours theirs : List DNet) (both place : ℕ) → ours ≡ a.nets → theirs ≡ b.nets → length ours ≢ length theirs →
    both ≡ min (length ours) (length theirs) → both ≤ place → AgreeBelow (named_nets a) (named_nets b) place → IsFirstApart (named_nets a) (named_nets b) both
one_has_more a b ours theirs both place of_a of_b long least done agree =
    let many_a = as_many a ours of_a in
    let many_b = as_many b theirs of_b in (
      λ k below. agree k (omega (arith, below, done)),
      one_ended (named_nets a) (named_nets b) both (omega (arith, many_a, many_b, least)) (λ same. long (sym many_a ∙ same ∙ many_b)),
    )

-- a position that was found is what the verdict speaks of
pub means : (a b : Spef) (found : Option ℕ) → found ≡ first_difference a b →
    MatchOption found (named_nets a ≡ named_nets b) (λ place. IsFirstApart (named_nets a) (named_nets b) place) → IsVerdict a b (verdict a b)
means a b None is alike = rw (sym is) alike
means a b (Some place) is apart = rw (sym is) (place, apart, refl)
