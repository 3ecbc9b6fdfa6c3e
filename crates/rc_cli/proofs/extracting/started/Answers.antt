-- A layout that the engine takes is one that nothing refuses.
use Rattle.std.proofs.Common.{ap, ◌∙◌, sym}
use Rattle.rc_engine.specs.Start.{start_refusal}
use Rattle.rc_cli.proofs.Replies.{start-accepts, start-refuses, drew, drew_within, drew_few}
use Rattle.rc_cli.proofs.extracting.started.Goals as goal

pub returns-in-Ok : goal.returns-in-Ok
returns-in-Ok g c = record {
  layout = c.in-Ok.ensures.layout;
  rules = c.in-Ok.ensures.rules;
  grid = c.in-Ok.ensures.grid;
  touched = c.in-Ok.ensures.touched;
  accepted = start-accepts c.args.def.now c.args.placed
      (ap (λ layout. start_refusal layout c.args.placed.rules) (sym c.in-Ok.ensures.layout)
      ∙ ap (λ rules. start_refusal c.in-Ok.engine.layout rules) (sym c.in-Ok.ensures.rules) ∙ c.in-Ok.ensures.engine.accepted);
  refused = tt;
  ok = drew c.args.placed _ _ c.in-Ok.ensures.ok;
  least = c.in-Ok.ensures.least;
  spent = drew_within c.args.placed _ _ c.in-Ok.ensures.spent;
  few = drew_few c.in-Ok.engine.frame _ _ _ c.in-Ok.ensures.ok c.in-Ok.ensures.grid c.in-Ok.ensures.engine.frame;
}

pub returns-in-Err : goal.returns-in-Err
returns-in-Err g c = record {
  layout = tt;
  rules = tt;
  grid = tt;
  touched = tt;
  accepted = tt;
  refused = start-refuses c.args.def.now c.args.placed c.in-Err.fault.layout c.in-Err.fault.fault c.refused-why.result c.in-Err.ensures.given_back c.in-Err.ensures.fault c.refused-why.ensures;
  ok = tt;
  least = c.in-Err.ensures.least;
  spent = drew_within c.args.placed _ _ c.in-Err.ensures.spent;
  few = tt;
}
