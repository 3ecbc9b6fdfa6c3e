-- The net of a name.
use Rattle.std.proofs.Common.{◌∙◌, ap, sym}
use Rattle.std.specs.Prelude.{position}
use Rattle.std.specs.Str.{bytes_eq}
use Rattle.rc_layout.specs.declared.net.Net.{Net}
use Rattle.rc_engine.specs.Engine.{Engine}
use Rattle.rc_engine.proofs.NameLists.{place_of_net}
use Rattle.rc_engine.proofs.engine.Engine.net.Goals as goal

pub returns-in-Some-clause-is : goal.returns-in-Some-clause-is
returns-in-Some-clause-is c =
    sym c.in-Some.is ∙ c.place.ensures.place ∙ place_of_net c.args.name.now c.self.inside.names c.self.inside.layout.nets c.self.invariant.3
    ∙ ap (λ (e : Engine). position (λ (net : Net). bytes_eq c.args.name.now net.name) e.layout.nets) c.self.view_is

pub returns-in-None-clause-is : goal.returns-in-None-clause-is
returns-in-None-clause-is c =
    sym c.in-None.is ∙ c.place.ensures.place ∙ place_of_net c.args.name.now c.self.inside.names c.self.inside.layout.nets c.self.invariant.3
    ∙ ap (λ (e : Engine). position (λ (net : Net). bytes_eq c.args.name.now net.name) e.layout.nets) c.self.view_is
