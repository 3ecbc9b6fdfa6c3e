-- What the files and the sinks in memory hold.
use Rattle.std.specs.Prelude.{ℕ, ◌≡◌, ◌-◌, ◌++◌, List, [], Option, Some, None, length, min, option_map, drop, position, slice_get, slice_index, slice_set}
use Rattle.std.specs.Option.{option_map_or}
use Rattle.std.specs.Str.{bytes_eq}
use Rattle.rc_io.specs.Causes.{next_count}

-- a sink that gathers bytes: those, and how often it found no memory
pub record GatheredBytes : Type 0 where
  pub bytes : List ℕ
  pub faults : ℕ

-- a sink of a fixed room: a write takes at most so many bytes, the listed calls fail, and so many calls were made
pub record SinkInMemory : Type 0 where
  pub bytes : List ℕ
  pub most : ℕ
  pub room : ℕ
  pub failing : List ℕ
  pub calls : ℕ
  pub faults : ℕ

-- how many bytes of a piece of this length a write takes
abbrev pub taken_len : SinkInMemory → ℕ → ℕ
taken_len sink len = min (min len sink.most) (sink.room - length sink.bytes)

-- the sink after a call that appended these bytes
abbrev pub after_write : SinkInMemory → List ℕ → SinkInMemory
after_write sink bytes = record sink { bytes = sink.bytes ++ bytes; calls = next_count sink.calls }

-- the sink after a call that failed
abbrev pub after_refusal : SinkInMemory → SinkInMemory
after_refusal sink = record sink { calls = next_count sink.calls; faults = next_count sink.faults }

-- files in memory, as names and contents: a read gives at most so many bytes, the listed calls fail, and so many
-- calls were made; the place of the begun file, and how many of its bytes were read; the faults of the file at
-- each place, and those of all names that no file has
pub record FilesInMemory : Type 0 where
  pub files : List (List ℕ × List ℕ)
  pub most : ℕ
  pub failing : List ℕ
  pub calls : ℕ
  pub begun : Option ℕ
  pub done : ℕ
  pub counts : List ℕ
  pub elsewhere : ℕ

-- the place of the first file of a name
abbrev pub place_of : List (List ℕ × List ℕ) → List ℕ → Option ℕ
place_of files name = position (λ file. bytes_eq file.0 name) files

-- what the file at a place holds
abbrev pub content_at : List (List ℕ × List ℕ) → ℕ → List ℕ
content_at files place = option_map_or (λ file. file.1) (slice_get files place) []

-- what the file of a name holds, where there is one
abbrev pub content_of : FilesInMemory → List ℕ → Option (List ℕ)
content_of held name = option_map (content_at held.files) (place_of held.files name)

-- what is left of the begun file
abbrev pub rest_of : FilesInMemory → List ℕ
rest_of held = option_map_or (λ place. drop held.done (content_at held.files place)) held.begun []

-- the begun file is the one of that name
abbrev pub IsBegun : FilesInMemory → List ℕ → Type 0
IsBegun held name = (place : ℕ) × (held.begun ≡ Some place) × (place_of held.files name ≡ Some place)

-- the count at a place, or the one of all names that no file has
abbrev pub count_at : FilesInMemory → Option ℕ → ℕ
count_at held None = held.elsewhere
count_at held (Some place) = slice_index held.counts place

-- the count that a name's faults are kept in
abbrev pub faults_of : FilesInMemory → List ℕ → ℕ
faults_of held name = count_at held (place_of held.files name)

-- one call more
abbrev pub after_call : FilesInMemory → FilesInMemory
after_call held = record held { calls = next_count held.calls }

-- one fault more in the count at a place, and in no other
abbrev pub after_fault : FilesInMemory → Option ℕ → FilesInMemory
after_fault held None = record held { elsewhere = next_count held.elsewhere }
after_fault held (Some place) =
    record held { counts = slice_set held.counts place (next_count (slice_index held.counts place)) }

-- the file at a place stands at its front
abbrev pub after_begin : FilesInMemory → Option ℕ → FilesInMemory
after_begin held place = record held { begun = place; done = 0 }
