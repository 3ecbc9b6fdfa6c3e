-- Reading a file bit by bit.
use Rattle.std.proofs.Common.{◌≡◌, ◌+◌, ◌++◌, ℕ, List, take, drop, sym, take-append-drop, drop-drop}

-- what is left of a content is what a read gives of it, and then what is left after the read
pub left-read : (content given : List ℕ) (done count : ℕ)
    → given ≡ take count (drop done content)
    → drop done content ≡ given ++ drop (done + count) content
left-read content given done count is =
    rw (is, ← drop-drop count done content) (sym (take-append-drop count (drop done content)))
