-- Lists of paths: token by token, and as a relation.
use Rattle.std.proofs.Common.{◌≡◌, ◌∙◌, ℕ, Bool, List, refl, ap, sym}
use Rattle.std.specs.Prelude.{Option, Ok}
use Rattle.rc_keys.specs.Lexemes.{Lexeme}
use Rattle.rc_keys.specs.Course.{More}
use Rattle.rc_keys.specs.Slices.{Taken, Stops, Refuses, Short, taken}
use Rattle.rc_wire.specs.declared.item.PathItem.{PathItem}
use Rattle.rc_wire.specs.declared.operands.Operands.{Operands}
use Rattle.rc_wire.specs.declared.path.RawPath.{RawPath}
use Rattle.rc_wire.specs.declared.reader.PathReader.{PathReader}
use Rattle.rc_wire.specs.declared.wiring.Wiring.{Wiring}
use Rattle.rc_wire.specs.Items.{item_turn}
use Rattle.rc_wire.specs.Paths.{path_format, no_paths, paths_of, means}
use Rattle.rc_wire.specs.Reading.{reader_of, path_turn, path_begin, paths_from, paths_outcome, IsPathList, PathsAreItems}
use Rattle.rc_wire.proofs.ListsRead.{items_of, items_back}

turns : (v : Wiring) (item : Option PathItem) (place : ℕ) (said : Operands) (word : Lexeme) → path_turn (reader_of v item place said) word ≡ item_turn reader_of path_format v item place said word
unfolding path_turn
turns v item place said word = refl

goes : (item : PathItem) (v : Wiring) (said : Operands) → (w : Wiring) × (path_format.means item v said ≡ More w)
goes item v said = (means item v said, refl)

of_taken : (is_wide : Bool) (line end : ℕ) (words : List Lexeme) (paths : List RawPath) (count : ℕ) (r : Taken PathReader) → taken path_turn line (path_begin is_wide line) words ≡ r → paths_from end r ≡ Ok (paths, count) → IsPathList is_wide line words paths count
of_taken is_wide line end words paths count (Stops s n) is same =
    let i = items_of reader_of path_format path_turn turns goes line (no_paths is_wide line) s words n is in
    let e : (paths_of s.wiring, n) ≡ (paths, count) = cc in
    let a : paths_of s.wiring ≡ paths = ap (λ (p : List RawPath × ℕ). p.0) e in
    let b : n ≡ count = ap (λ (p : List RawPath × ℕ). p.1) e in
    let c : s.wiring ≡ i.0 = ap (λ (t : PathReader). t.wiring) i.2 in
    record { read = i.0; items = rw (← b) i.1; all = sym a ∙ ap paths_of c }
of_taken is_wide line end words paths count (Refuses refusal) is same = absurd cc
of_taken is_wide line end words paths count Short is same = absurd cc

pub paths_are_items : PathsAreItems
unfolding paths_outcome
paths_are_items is_wide line end words paths count = (
  λ same. of_taken is_wide line end words paths count (taken path_turn line (path_begin is_wide line) words) refl same,
  λ list. ap (paths_from end) (items_back reader_of path_format path_turn turns goes line (no_paths is_wide line) list.read words count list.items) ∙ ap (λ all. Ok (all, count)) (sym list.all),
)
