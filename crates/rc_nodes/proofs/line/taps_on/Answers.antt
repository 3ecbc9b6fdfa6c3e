use Rattle.std.proofs.Common.{◌<◌, ◌∙◌, sym, length, get_or, rules}
use Rattle.std.proofs.lemmas.List.{get_or_default}
use Rattle.rc_nodes.proofs.Found.{no_tap, none_yet, all_found}
use Rattle.rc_nodes.proofs.line.taps_on.Goals as goal

pub loop-k-init : goal.loop-k-init
loop-k-init c = c.new-on.ensures.items ∙ none_yet c.args.item.now c.args.taps.now c.first_on-k.result c.first_on-k.ensures.parted

pub returns-then-not-lies_on : goal.returns-then-not-lies_on
returns-then-not-lies_on c =
    let taps = c.args.taps.now in
    let within : c.loop-k.k < length taps = search rules in
    let behind = c.first_on-k.ensures.parted.1 c.loop-k.k no_tap c.loop-k.auto.k within in
    all_found c.args.item.now taps c.loop-k.on.items c.loop-k.k (get_or taps c.loop-k.k no_tap) c.requires within (get_or_default taps c.loop-k.k no_tap (get_or taps c.loop-k.k no_tap) within) behind
    (sym c.lies_on.ensures ∙ c.if-not-lies_on.true) c.loop-k.invariant
