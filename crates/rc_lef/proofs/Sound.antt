-- What the reader takes over is a technology.
use Rattle.std.proofs.Common.{◌≡◌, ◌∙◌, ◌+◌, ◌≤◌, ◌^◌, ℕ, List, length, ap, sym}
use Rattle.rc_keys.specs.declared.token.Mode.TheVariants as mode
use Rattle.rc_keys.specs.Lexemes.{words_of}
use Rattle.rc_keys.specs.Course.{Read, reading}
use Rattle.rc_lef.specs.declared.state.State.{State}
use Rattle.rc_lef.specs.Facts.{HasAtMost, IsSound}
use Rattle.rc_lef.specs.Technology.{Technology}
use Rattle.rc_lef.specs.Rows.{lef_turn, lef_may_end, lef_begin, tech_with}
use Rattle.rc_lef.specs.File.{IsFile}
use Rattle.rc_lef.proofs.Files.{read_is_file}
use Rattle.rc_lef.proofs.Counts.{fewer, file_adds}
use Rattle.rc_lef.proofs.Distinct.{file_keeps}
use Rattle.rc_lef.proofs.Ranges.{file_in_range}

-- what was read is a file
pub read_file : (tech : Technology) (text : List ℕ) (start s : State) → start ≡ lef_begin tech → reading (lef_turn tech) lef_may_end start (words_of mode.Lef text) ≡ Read s → IsFile tech (words_of mode.Lef text) (tech_with tech s)
read_file tech text start s at is = read_is_file tech (words_of mode.Lef text) s (ap (λ b. reading (lef_turn tech) lef_may_end b (words_of mode.Lef text)) (sym at) ∙ is)

-- and that is a technology
pub stays_sound : (n : ℕ) (tech after : Technology) (text : List ℕ) → n + length text ≤ 2 ^ 30 → IsSound tech → HasAtMost n tech → IsFile tech (words_of mode.Lef text) after → IsSound after
stays_sound n tech after text le sound few file = record {
  distinct = file_keeps tech after (words_of mode.Lef text) file sound.distinct;
  ranges = file_in_range tech after (words_of mode.Lef text) file sound.ranges;
  few = fewer (n + length text) (2 ^ 30) after le (file_adds mode.Lef n tech after text file few);
}

pub stays_few : (n now : ℕ) (tech after last : Technology) (text : List ℕ) → HasAtMost n tech → IsFile tech (words_of mode.Lef text) after → last ≡ after → now ≡ n + length text → n + length text ≤ 2 ^ 30 → HasAtMost now last × (now ≤ 2 ^ 30)
stays_few n now tech after last text few file same is le = rw (same, is) (file_adds mode.Lef n tech after text file few, le)
