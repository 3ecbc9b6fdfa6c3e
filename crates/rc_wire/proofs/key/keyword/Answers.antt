use Rattle.std.proofs.Common.{◌≡◌, ◌∙◌, ap, refl}
use Rattle.std.specs.List.{zip}
use Rattle.std.specs.Map.{lookup}
use Rattle.std.specs.Str.{bytes_eq}
use Rattle.rc_keys.specs.KeyWords.{def_words}
use Rattle.rc_wire.specs.declared.key.TheConstants.{KEYS}
use Rattle.rc_wire.specs.Keys.{def_keys}
use Rattle.rc_wire.proofs.key.keyword.Goals as goal

-- each keyword's place has its key
in_places : zip def_words KEYS ≡ def_keys
unfolding def_words def_keys
in_places = refl

pub returns : goal.returns
returns c = c.find_key.ensures ∙ ap (λ words. lookup (bytes_eq c.args.word.now) (zip words KEYS)) c.requires ∙ ap (lookup (bytes_eq c.args.word.now)) in_places
