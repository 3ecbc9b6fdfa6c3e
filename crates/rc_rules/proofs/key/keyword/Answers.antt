use Rattle.std.proofs.Common.{◌≡◌, ◌∙◌, ap, refl}
use Rattle.std.specs.List.{zip}
use Rattle.std.specs.Map.{lookup}
use Rattle.std.specs.Str.{bytes_eq}
use Rattle.rc_keys.specs.KeyWords.{rule_words}
use Rattle.rc_rules.specs.declared.key.TheConstants.{KEYS}
use Rattle.rc_rules.specs.Keys.{rule_keys}
use Rattle.rc_rules.proofs.key.keyword.Goals as goal

-- each keyword's place has its key
in_places : zip rule_words KEYS ≡ rule_keys
unfolding rule_words rule_keys
in_places = refl

pub returns : goal.returns
returns c = c.find_key.ensures ∙ ap (λ words. lookup (bytes_eq c.args.word.now) (zip words KEYS)) c.requires ∙ ap (lookup (bytes_eq c.args.word.now)) in_places
