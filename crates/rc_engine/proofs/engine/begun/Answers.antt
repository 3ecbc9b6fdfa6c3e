-- The names of nets differ.
use Rattle.std.proofs.Common.{◌≢◌, List, sym, subst}
use Rattle.std.specs.Prelude.{AllPairs}
use Rattle.rc_layout.specs.declared.net.Net.{Net}
use Rattle.rc_engine.proofs.NameLists.{first_differ}
use Rattle.rc_engine.proofs.engine.begun.Goals as goal

pub new-requires-2 : goal.new-requires-2
new-requires-2 g c =
    subst (λ (nets : List Net). AllPairs (λ (a b : Net). a.name ≢ b.name) nets) (sym c.nets.ensures) (first_differ c.args.layout.now.nets c.args.layout.now.grounded c.facts.ensures.names)
