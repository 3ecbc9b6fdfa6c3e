-- Where a name stands.
use Rattle.std.proofs.Common.{◌∙◌, ap}
use Rattle.std.specs.Prelude.{position}
use Rattle.std.specs.Str.{bytes_eq}
use Rattle.rc_engine.proofs.NameLists.{place_of_key}
use Rattle.rc_engine.proofs.net_names.NetNames.place.Goals as goal

pub returns-clause-place : goal.returns-clause-place
returns-clause-place c = c.get_index_of.ensures.index ∙ place_of_key c.args.name.now c.self.inside.names.keys ∙ ap (position (bytes_eq c.args.name.now)) c.self.view_is
