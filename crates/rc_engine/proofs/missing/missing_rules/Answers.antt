-- The first layer without rules, of either kind.
use Rattle.rc_engine.proofs.Refusals.{layer_missing, cut_missing, none_missing}
use Rattle.rc_engine.proofs.missing.missing_rules.Goals as goal

pub returns-in-Some-clause-is : goal.returns-in-Some-clause-is
returns-in-Some-clause-is c = layer_missing c.args.layout.now c.args.rules.now c.missing_layer.result c.in-Some.number c.missing_layer.ensures.is c.in-Some.is

pub returns-in-Some-missing_cut-clause-is : goal.returns-in-Some-missing_cut-clause-is
returns-in-Some-missing_cut-clause-is c =
    cut_missing c.args.layout.now c.args.rules.now c.missing_layer.result c.missing_cut.result c.in-Some-missing_cut.number c.missing_layer.ensures.is c.in_default.is c.missing_cut.ensures c.in-Some-missing_cut.is

pub returns-in-None-clause-is : goal.returns-in-None-clause-is
returns-in-None-clause-is c =
    none_missing c.args.layout.now c.args.rules.now c.missing_layer.result c.missing_cut.result c.missing_layer.ensures.is c.in_default.is c.missing_cut.ensures c.in-None.is
