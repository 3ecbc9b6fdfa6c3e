-- What a component of a design links to, by what its parts do.
use Rattle.std.proofs.Common.{◌≡◌, ℕ, List, refl, sym, subst}
use Rattle.std.specs.Prelude.{Ok, Err, Option}
use Rattle.std.specs.Str.{bytes_eq}
use Rattle.rc_geom.specs.declared.orient.Orient.{Orient}
use Rattle.rc_geom.specs.declared.rect.Pt.{Pt}
use Rattle.rc_keys.specs.declared.code.Code.TheVariants.{E06}
use Rattle.rc_keys.specs.declared.fault.Refusal.{Refusal}
use Rattle.rc_keys.specs.declared.fault.Refusal.TheVariants.{At}
use Rattle.rc_def.specs.declared.entry.RawComp.{RawComp}
use Rattle.rc_lef.specs.declared.cell.Macro.{Macro}
use Rattle.rc_layout.specs.declared.part.Comp.{Comp}
use Rattle.rc_layout.specs.Entries.{link_comp, link_place}
use Rattle.rc_layout.specs.Refusals.{Linked, there}
use Rattle.rc_layout.specs.Scope.{numbered}

cell_told :
    (cells : List Macro) (raw : RawComp) (name : List ℕ) (m : Linked (ℕ × Macro)) → name ≡ raw.cell → there (At E06 raw.line) (numbered (λ (cell : Macro). bytes_eq name cell.name) cells) ≡ m
    → there (At E06 raw.line) (numbered (λ (cell : Macro). bytes_eq raw.cell cell.name) cells) ≡ m
cell_told cells raw name m called e = subst (λ (n : List ℕ). there (At E06 raw.line) (numbered (λ (cell : Macro). bytes_eq n cell.name) cells) ≡ m) called e

pub comp_linked :
    (cells : List Macro) (k : ℕ) (raw : RawComp) (name : List ℕ) (found : ℕ × Macro) (at : Option (Pt × Orient)) → name ≡ raw.cell
    → there (At E06 raw.line) (numbered (λ (cell : Macro). bytes_eq name cell.name) cells) ≡ Ok found → Ok at ≡ link_place k found.1 raw.at
    → ◌≡◌ {A = Linked Comp} (Ok (record { name = raw.name; cell = found.0; at = at })) (link_comp cells k raw)
unfolding link_comp
comp_linked cells k raw name found at called cell place = rw (cell_told cells raw name (Ok found) called cell, sym place) refl

pub comp_refused :
    (cells : List Macro) (k : ℕ) (raw : RawComp) (name : List ℕ) (found : ℕ × Macro) (refusal : Refusal) → name ≡ raw.cell
    → there (At E06 raw.line) (numbered (λ (cell : Macro). bytes_eq name cell.name) cells) ≡ Ok found → Err refusal ≡ link_place k found.1 raw.at
    → ◌≡◌ {A = Linked Comp} (Err refusal) (link_comp cells k raw)
unfolding link_comp
comp_refused cells k raw name found refusal called cell place = rw (cell_told cells raw name (Ok found) called cell, sym place) refl
