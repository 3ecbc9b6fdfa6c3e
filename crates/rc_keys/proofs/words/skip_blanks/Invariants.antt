use Rattle.std.proofs.Common.{◌≡◌, ◌≤◌, ◌-◌, [], length}
use Rattle.rc_keys.specs.declared.token.Inside.TheVariants as inside
use Rattle.rc_keys.specs.Tokens.{IsSound}
use Rattle.rc_keys.specs.Inner.Leads.{Leads}
use Rattle.rc_keys.proofs.words.skip_blanks.Given as goal

abbrev pub invariant-loop-at : goal.invariant-loop-at
invariant-loop-at l = record {
  leads : Leads l.fn.mode l.text l.fn.at l.fn.place [] l.at l.place;
  between : l.place.inside ≡ inside.Between;
  sound : IsSound l.place;
  place : l.place.at ≤ l.at;
  at : l.at ≤ length l.text;
}

abbrev pub decreases-loop-at : goal.decreases-loop-at
decreases-loop-at l = length l.text - l.at
