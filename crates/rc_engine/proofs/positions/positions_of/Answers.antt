-- The positions of one window more are brought, and at last those of all.
use Rattle.std.proofs.Common.{◌<◌, ◌≤◌, List, ℕ, [], length, get_or, take, replicate, ap, subst, ◌∙◌, arith}
use Rattle.std.proofs.lemmas.List.{take_all}
use Rattle.rc_tally.specs.declared.entry.Entry.{Entry}
use Rattle.rc_engine.specs.declared.positions.Position.{Position}
use Rattle.rc_engine.specs.Brought.{entries_of, owned, owned_at, Brings}
use Rattle.rc_engine.proofs.Bringing.{brings_both, brought_from_empty}
use Rattle.rc_engine.proofs.Steps.{entries_more}
use Rattle.rc_engine.proofs.positions.positions_of.Goals as goal

pub loop-window-preserved : goal.loop-window-preserved
loop-window-preserved c =
    let tallies = c.args.tallies.now in
    let window = c.loop-window.window in
    let start : List (List Position) = replicate c.args.nets [] in
    let below = c.loop-window-test.true in
    let count = c.in_ok-windows.ensures in
    let within : window < length tallies = omega (arith, below, count) in
    subst (λ (es : List (Entry ℕ)). Brings tallies start c.enter_all.new.lists.items es) (entries_more tallies window [] within)
    (brings_both tallies start c.loop-window.lists.items c.enter_all.new.lists.items (entries_of (take window tallies)) (get_or tallies window []) c.loop-window.invariant c.in_ok-enter_all.ensures)

pub returns-clause-positions : goal.returns-clause-positions
returns-clause-positions c = λ net within.
    let tallies = c.args.tallies.now in
    let past = c.loop-window-test.false in
    let count = c.in_ok-windows.ensures in
    let whole : length tallies ≤ c.loop-window.window = omega (arith, past, count) in
    let all = c.loop-window.invariant.owned [] (brought_from_empty tallies c.args.nets) in
    ap (λ (lists : List (List Position)). owned_at tallies net (get_or lists net [])) c.from_vec.ensures
    ∙ all net (subst (λ (lists : List (List Position)). net < length lists) c.from_vec.ensures within)
    ∙ ap (λ (ts : List (List (Entry ℕ))). owned net (entries_of ts)) (take_all c.loop-window.window tallies whole)
