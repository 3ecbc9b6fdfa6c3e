use Rattle.std.proofs.Common.{◌∙◌}
use Rattle.rc_spef.proofs.Digits.{place_listed}
use Rattle.rc_spef.proofs.name_map.listed_place.Goals as goal

pub returns : goal.returns
returns c =
    c.place.ensures.place ∙ place_listed c.without_zeros.result.now _ c.args.numbers.now (record { digits = c.without_zeros.ensures.digits; front = c.without_zeros.ensures.front }) c.without_zeros.ensures.value c.requires.shortest
