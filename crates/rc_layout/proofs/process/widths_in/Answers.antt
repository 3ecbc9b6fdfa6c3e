use Rattle.std.proofs.Common.{rules, pos}
use Rattle.std.proofs.lemmas.List.FromFn.{fill_by_all}
use Rattle.rc_layout.specs.Widths.{layer_width, layer_widths}
use Rattle.rc_layout.proofs.process.widths_in.Goals as goal

pub returns : goal.returns
unfolding layer_widths
returns c = fill_by_all (layer_width c.args.layers.now) c.loop-number.widths 32 (pos 0) c.loop-number.invariant.0 (search rules)
