-- The forms of the paths of a list.
use Rattle.std.proofs.Common.{◌≡◌, ◌+◌, ◌≤◌, ℕ, Bool, List, length, refl, subst, ◌∙◌, arith}
use Rattle.std.specs.Prelude.{All, Some, None, Result, Ok, Err}
use Rattle.rc_keys.specs.declared.code.Code.{Code}
use Rattle.rc_keys.specs.Lexemes.{Lexeme}
use Rattle.rc_keys.specs.Course.{Turn}
use Rattle.rc_keys.specs.Statements.{at_line}
use Rattle.rc_wire.specs.declared.path.RawPath.{RawPath}
use Rattle.rc_wire.specs.declared.wiring.Wiring.{Wiring}
use Rattle.rc_wire.specs.Forms.{IsPathOf}
use Rattle.rc_wire.specs.Items.{IsItem, or_refused}
use Rattle.rc_wire.specs.Keys.{key_of}
use Rattle.rc_wire.specs.Paths.{path_format, no_paths, paths_of, begins}
use Rattle.rc_wire.specs.Reading.{IsPathList}
use Rattle.rc_wire.proofs.Formed.{IsWiring, no_wiring, fits, item_is, same_kind, all_paths}
use Rattle.rc_wire.proofs.Keeping.{Leaves, items_keep}

-- a token that isn't refused begins that
pub not_refused : {A : Type 0} (word : Lexeme) (r : Result A Code) (x : A) → or_refused word r ≡ Ok x → r ≡ Ok x
not_refused word (Ok item) x e = cc
not_refused word (Err code) x e = absurd cc

-- paths of one kind, each with its form
abbrev AreFormed : Bool → ℕ → Wiring → Type 0
AreFormed is_wide n v = IsWiring v × (v.is_wide ≡ is_wide)

keeps : (is_wide : Bool) (limit line n : ℕ) (v : Wiring) (words : List Lexeme) (turn : Turn Wiring) → AreFormed is_wide n v → n + length words ≤ limit → IsItem path_format line v words turn → Leaves (AreFormed is_wide) (n + length words) turn
keeps is_wide limit line n v words turn (is, kind) le i =
    let b : begins v (key_of i.first) ≡ Ok (Some i.item) = not_refused (at_line line i.first) (begins v (key_of i.first)) (Some i.item) i.begins in
    subst (λ t. Leaves (AreFormed is_wide) (n + length words) t) i.says
    (item_is i.item v line words i.said (fits v (key_of i.first) (Some i.item) b) i.spells is, same_kind i.item v i.said ∙ kind)

pub forms_of : (is_wide : Bool) (line : ℕ) (words : List Lexeme) (paths : List RawPath) (count : ℕ) → IsPathList is_wide line words paths count → All (IsPathOf is_wide) paths
forms_of is_wide line words paths count list =
    let k = items_keep path_format (AreFormed is_wide) (length words) (keeps is_wide (length words)) line (no_paths is_wide line) list.read words count (no_wiring is_wide line, refl) (omega arith) list.items in
    let b : begins list.read (key_of list.items.last) ≡ Ok None = not_refused (at_line line list.items.last) (begins list.read (key_of list.items.last)) None list.items.ends in
    let all : All (IsPathOf list.read.is_wide) (paths_of list.read) = all_paths list.read (key_of list.items.last) k.1.0 b in
    rw list.all (subst (λ b. All (IsPathOf b) (paths_of list.read)) k.1.1 all)
