use Rattle.std.proofs.Common.{ℕ, All, get_or, take, sym, subst}
use Rattle.std.proofs.lemmas.List.{take_more, take_all}
use Rattle.std.proofs.lemmas.List.Elements.{All-push}
use Rattle.rc_geom.specs.declared.key.Key.TheVariants.{Ground}
use Rattle.rc_tally.specs.declared.entry.Entry.{Entry}
use Rattle.rc_rows_sweep.specs.Scenes.{IsSmall}
use Rattle.rc_rows_sweep.proofs.scene.are_small.Goals as goal

abbrev no_entry : Entry ℕ
no_entry = record { key = Ground 0 0; count = 0; value = 0 }

pub loop-entry-preserved : goal.loop-entry-preserved
loop-entry-preserved c =
    let entries = c.args.entries.now in
    let i = c.loop-entry.entry-index in
    let e = get_or entries i no_entry in
    let here : IsSmall e = record { count = c.if-entry.false; value = c.if-entry-2.false } in
    subst (All IsSmall) (sym (take_more entries i no_entry c.loop-entry-test.true))
    (All-push IsSmall (take i entries) e c.loop-entry.invariant here)

pub returns : goal.returns
returns c = λ _. subst (All IsSmall) (take_all c.loop-entry.entry-index c.args.entries.now c.loop-entry-test.false) c.loop-entry.invariant
