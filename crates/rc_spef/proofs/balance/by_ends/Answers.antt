use Rattle.std.proofs.Common.{sym, ap, ◌∙◌, subst, map}
use Rattle.std.proofs.lemmas.List.{take_all}
use Rattle.rc_spef.specs.Joints.{seen, pair_of}
use Rattle.rc_spef.proofs.Joining.{Apart, kept_more, apart_kept, twice_kept, once}
use Rattle.rc_spef.proofs.balance.by_ends.Goals as goal

pub returns-then-is_some : goal.returns-then-is_some
returns-then-is_some c = twice_kept c.args.entries.now c.loop-entry.entry-index _ c.loop-entry.values c.in_ok-insert.field-0 c.loop-entry-test.true c.loop-entry.invariant.kept c.in_ok-insert.ensures.old (sym c.is_some.ensures ∙ c.if-is_some.true)

pub loop-entry-preserved : goal.loop-entry-preserved
loop-entry-preserved c = record {
  kept = kept_more c.args.entries.now c.loop-entry.entry-index _ c.loop-entry.values c.insert.new.self.entries c.in_ok-insert.field-0 c.loop-entry-test.true c.loop-entry.invariant.kept c.in_ok-insert.ensures.old (sym c.is_some.ensures ∙ c.if-is_some.false) c.in_ok-insert.ensures.entries;
  apart = apart_kept c.args.entries.now c.loop-entry.entry-index _ c.loop-entry.values c.in_ok-insert.field-0 c.loop-entry-test.true c.loop-entry.invariant.kept c.in_ok-insert.ensures.old (sym c.is_some.ensures ∙ c.if-is_some.false) c.loop-entry.invariant.apart;
}

pub returns : goal.returns
returns c =
    let all = take_all c.loop-entry.entry-index c.args.entries.now c.loop-entry-test.false in
    (c.loop-entry.invariant.kept ∙ ap (map pair_of) all, once (seen c.args.entries.now) (subst (λ es. Apart (seen es)) all c.loop-entry.invariant.apart))
