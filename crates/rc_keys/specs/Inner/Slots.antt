-- The slots of a table of keywords.
use Rattle.std.specs.Prelude.{◌≡◌, ◌<◌, ◌+◌, ◌-◌, ◌*◌, ◌%◌, ℕ, List, Some, length, slice_get, slice_index_or}

-- where a word's slot lies
unfoldable pub slot_of : List ℕ → ℕ
slot_of word =
    (length word % 32 * 7 + slice_index_or word 0 0 * 1855 + slice_index_or word 1 0 * 995 + slice_index_or word 2 0 * 1092 + slice_index_or word (length word - 1) 0 * 1715) % 1024

-- the slot of each of the words below a place has the word's place
abbrev pub HaveSlots : List (List ℕ) → List ℕ → ℕ → Type 0
HaveSlots words slots below = (k : ℕ) (word : List ℕ) → k < below → slice_get words k ≡ Some word → slice_index_or slots (slot_of word) 0 ≡ k
