-- The cell of the last connection.
use Rattle.std.proofs.Common.{◌≡◌, ℕ, List, [], ◌∷◌, ◌++◌, refl, ap, sym, ◌∙◌, Option, Result, Ok, Err}
use Rattle.std.specs.Prelude.{OnOk}
use Rattle.rc_spef.specs.declared.value.SpefConn.{SpefConn}
use Rattle.rc_spef.specs.NameRows.{first_cell, with_cell}

pub cell_of_last : (conns : List SpefConn) (conn : SpefConn) (name : List ℕ) → with_cell (conns ++ conn ∷ []) name ≡ conns ++ record conn { cell = first_cell conn.cell name } ∷ []
unfolding with_cell
cell_of_last [] conn name = refl
cell_of_last (first ∷ []) conn name = refl
cell_of_last (first ∷ next ∷ conns) conn name = ap (λ (rest : List SpefConn). first ∷ rest) (cell_of_last (next ∷ conns) conn name)

pub same_last : (before held now : List SpefConn) (conn : SpefConn) (cell : Option (List ℕ)) (name : List ℕ) → before ≡ held ++ conn ∷ [] → cell ≡ first_cell conn.cell name → now ≡ held ++ record { port = conn.port; end = conn.end; dir = conn.dir; cell = cell } ∷ [] → now ≡ with_cell before name
same_last before held now conn cell name is same after =
    after ∙ ap (λ (cell : Option (List ℕ)). held ++ record { port = conn.port; end = conn.end; dir = conn.dir; cell = cell } ∷ []) same ∙ sym (cell_of_last held conn name) ∙ ap (λ (conns : List SpefConn). with_cell conns name) (sym is)

pub none_last : (before now : List SpefConn) (name : List ℕ) → before ≡ [] → now ≡ before → now ≡ with_cell before name
unfolding with_cell
none_last before now name none same = same ∙ none ∙ ap (λ (conns : List SpefConn). with_cell conns name) (sym none)

pub on_ok : {T E : Type 0} {P Q : Type 0} (result : Result T E) → (P → Q) → OnOk result P → OnOk result Q
on_ok (Ok x) to is = to is
on_ok (Err e) to is = tt
