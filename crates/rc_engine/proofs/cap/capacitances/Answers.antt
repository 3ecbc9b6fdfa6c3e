-- What is gathered from the entries of a net are its sums.
use Rattle.std.proofs.Common.{List, ℕ, sym, subst}
use Rattle.rc_geom.specs.Sums.{numbers}
use Rattle.rc_tally.specs.declared.entry.Entry.{Entry}
use Rattle.rc_tally.specs.Tallies.{Gathers, IsRising}
use Rattle.rc_engine.proofs.Totals.{caps_of_totals, gathered_names, if_ok}
use Rattle.rc_engine.proofs.cap.capacitances.Goals as goal

pub caps-requires : goal.caps-requires
caps-requires c =
    let gathers = subst (λ (es : List (Entry ℕ)). Gathers numbers c.args.entries.now es) (sym c.entries.ensures.are) c.in_ok-tally.ensures.sums in
    let rising = subst (λ (es : List (Entry ℕ)). IsRising es) (sym c.entries.ensures.are) c.entries.ensures.rising in
    gathered_names c.args.entries.now c.entries.result.now gathers rising c.requires.names

pub returns : goal.returns
returns c =
    let gathers = subst (λ (es : List (Entry ℕ)). Gathers numbers c.args.entries.now es) (sym c.entries.ensures.are) c.in_ok-tally.ensures.sums in
    let rising = subst (λ (es : List (Entry ℕ)). IsRising es) (sym c.entries.ensures.are) c.entries.ensures.rising in
    if_ok c.caps.result (λ caps are. caps_of_totals c.args.entries.now c.entries.result.now caps gathers rising are) c.caps.ensures
