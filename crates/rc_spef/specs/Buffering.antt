-- Bytes on their way to a sink: some are written, some are held, and after a fault the rest is dropped.
use Rattle.std.specs.Prelude.{◌≡◌, ℕ, ◌<◌, ◌≤◌, Bool, true, false, List, ◌++◌, length, Option}
use Rattle.rc_io.specs.Bytes.{grown}
use Rattle.rc_io.specs.Causes.{Rose}

-- what a buffer holds back, and whether its sink has failed
pub record Held : Type 0 where
  pub bytes : List ℕ
  pub failed : Bool

-- a buffer at its sink
pub record AtSink : Type 0 where
  pub written : Option (List ℕ)
  pub faults : ℕ
  pub held : List ℕ
  pub failed : Bool

abbrev pub at_sink : Option (List ℕ) → ℕ → Held → AtSink
at_sink written faults buffer = record { written = written; faults = faults; held = buffer.bytes; failed = buffer.failed }

-- From old to new these bytes were put behind those held, unless the sink failed: then it lacks some last bytes. After a
-- fault nothing is written any more.
pub record Puts (old new : AtSink) (bytes : List ℕ) : Type 0 where
  pub kept : (added : List ℕ) × (new.written ≡ grown old.written added)
  pub going : new.failed ≡ false → (old.failed ≡ false) × (grown new.written new.held ≡ grown old.written (old.held ++ bytes))
  pub cut : old.failed ≡ false → new.failed ≡ true → (rest : List ℕ) × (0 < length rest) × (grown new.written rest ≡ grown old.written (old.held ++ bytes))
  pub stuck : old.failed ≡ true → (new.failed ≡ true) × (new.written ≡ old.written)
  pub later : old.faults ≤ new.faults
  pub rose : old.failed ≡ false → new.failed ≡ true → Rose old.faults new.faults
