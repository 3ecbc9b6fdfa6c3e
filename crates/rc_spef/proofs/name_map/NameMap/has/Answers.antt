use Rattle.std.proofs.Common.{ap, ◌∙◌}
use Rattle.std.specs.Prelude.{◌==◌, is_some}
use Rattle.std.specs.Str.Parse.{digits_value}
use Rattle.rc_keys.proofs.Naming.{position_tells}
use Rattle.rc_spef.proofs.name_map.NameMap.has.Goals as goal

pub returns : goal.returns
returns c = c.is_some.ensures ∙ ap is_some c.place.ensures.place ∙ position_tells (λ other. other == digits_value 10 c.args.digits.now) c.args.self.now
