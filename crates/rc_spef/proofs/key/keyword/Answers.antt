use Rattle.std.proofs.Common.{◌≡◌, ◌∙◌, ap, refl}
use Rattle.std.specs.List.{zip}
use Rattle.std.specs.Map.{lookup}
use Rattle.std.specs.Str.{bytes_eq}
use Rattle.rc_keys.specs.KeyWords.{spef_words}
use Rattle.rc_spef.specs.declared.key.TheConstants.{KEYS}
use Rattle.rc_spef.specs.Keys.{spef_keywords}
use Rattle.rc_spef.proofs.key.keyword.Goals as goal

-- each keyword's place has its key
in_places : zip spef_words KEYS ≡ spef_keywords
unfolding spef_words spef_keywords
in_places = refl

pub returns : goal.returns
returns c = c.find_key.ensures ∙ ap (λ words. lookup (bytes_eq c.args.word.now) (zip words KEYS)) c.requires ∙ ap (lookup (bytes_eq c.args.word.now)) in_places
