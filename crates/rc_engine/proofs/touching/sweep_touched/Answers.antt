-- The touched windows can be swept.
use Rattle.std.proofs.Common.{◌∙◌, [], ℕ, ap, get_or, length, map, arith}
use Rattle.std.proofs.lemmas.List.{length-map}
use Rattle.rc_windows.specs.Indexes.{changed_list}
use Rattle.rc_engine.specs.Windows.{window_of}
use Rattle.rc_engine.proofs.Edited.{windows_are_few}
use Rattle.rc_engine.proofs.WindowLists.{all_can}
use Rattle.rc_engine.proofs.touching.sweep_touched.Goals as goal

pub sweep_many-requires-clause-few : goal.sweep_many-requires-clause-few
sweep_many-requires-clause-few g c κs within =
    let list = c.in_ok-list.list in
    let few = windows_are_few c.args.grid.now list c.requires.frame c.in_ok-list.ensures.rising c.in_ok-list.ensures.range in
    let windows = ap length (c.items-3.ensures ∙ c.in_ok-windows.ensures ∙ ap (map (window_of c.args.grid.now)) c.items-2.ensures) in
    let long = length-map list (window_of c.args.grid.now) in
    omega (arith, few, windows, long)

pub sweep_many-requires-clause-can : goal.sweep_many-requires-clause-can
sweep_many-requires-clause-can g c κs within =
    let frame = c.args.grid.now in
    let f = λ (k : ℕ). changed_list frame c.args.number c.args.tiles.now k (get_or c.args.index.now k []) in
    all_can c.args.rules.now frame c.in_ok-list.list f c.items-3.result.now c.items-4.result.now (c.items-3.ensures ∙ c.in_ok-windows.ensures ∙ ap (map (window_of frame)) c.items-2.ensures)
    (c.items-4.ensures ∙ c.in_ok-lists.ensures.lists ∙ ap (map f) c.items.ensures) c.in_ok-list.ensures.range c.requires.can
