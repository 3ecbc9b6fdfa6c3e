-- One net's layers without rules.
use Rattle.std.proofs.Common.{◌∙◌, sym, ap}
use Rattle.std.specs.Prelude.{option_map}
use Rattle.rc_engine.specs.Start.{no_layer}
use Rattle.std.proofs.Common.{true}
use Rattle.rc_engine.proofs.Lacking.{own_layer, own_cut}
use Rattle.rc_engine.proofs.missing.net_missing.Goals as goal

pub returns-in-Some-clause-is : goal.returns-in-Some-clause-is
returns-in-Some-clause-is c = own_layer c.args.vias.now c.args.rules.now c.args.net.now c.items.result.now c.with_items.result c.in-Some.number c.items.ensures c.with_items.ensures.is c.in-Some.is

pub returns-in-Some-with_vias-clause-is : goal.returns-in-Some-with_vias-clause-is
returns-in-Some-with_vias-clause-is c =
    sym (ap (option_map (no_layer true)) c.in-Some-with_vias.is)
    ∙ own_cut c.args.vias.now c.args.rules.now c.args.net.now c.items.result.now c.items-2.result.now c.with_items.result c.with_vias.result c.items.ensures c.items-2.ensures c.with_items.ensures.is c.in_default.is c.with_vias.ensures

pub returns-in-None-clause-is : goal.returns-in-None-clause-is
returns-in-None-clause-is c =
    sym (ap (option_map (no_layer true)) c.in-None.is)
    ∙ own_cut c.args.vias.now c.args.rules.now c.args.net.now c.items.result.now c.items-2.result.now c.with_items.result c.with_vias.result c.items.ensures c.items-2.ensures c.with_items.ensures.is c.in_default.is c.with_vias.ensures
