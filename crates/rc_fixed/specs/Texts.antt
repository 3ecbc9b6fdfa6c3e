-- Where the bytes of a text stand.
use Rattle.std.specs.Prelude.{ℕ, List}
use Rattle.rc_fixed.specs.declared.text.Kept.{Kept}
use Rattle.rc_fixed.specs.declared.text.Kept.TheVariants.{Within, Apart}

-- the bytes, wherever they stand
abbrev pub kept_bytes : Kept → List ℕ
kept_bytes (Within word) = word
kept_bytes (Apart bytes) = bytes.value.items
