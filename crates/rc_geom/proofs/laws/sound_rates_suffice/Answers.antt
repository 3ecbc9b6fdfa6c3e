use Rattle.rc_geom.proofs.Entries.{sound_rates_suffice}
use Rattle.rc_geom.proofs.laws.sound_rates_suffice.Goals as goal

pub returns : goal.returns
returns g c = sound_rates_suffice
