-- What is looked up by the number of a layer that has rules.
use Rattle.std.proofs.Common.{◌≡◌, ◌∙◌, ◌≤◌, ◌+◌, ◌*◌, ℕ, zero, suc, List, [], ◌∷◌, get_or, length, refl, arith}
use Rattle.std.specs.Prelude.{Option, Some, None, fold, unwrap_or, slice_get, slice_index_or}
use Rattle.std.specs.List.{All}
use Rattle.rc_rules.specs.declared.layer.LayerValues.{LayerValues}
use Rattle.rc_rules.specs.RuleFile.{RuleFile, layer_in}
use Rattle.rc_rules.specs.Scales.{last_step}
use Rattle.rc_rules.specs.LookUp.{rates, face_rate, farthest, table_for, width_row, row_of}

pub cap_at : (rules : RuleFile) (layer : ℕ) (values : LayerValues) → layer_in rules.layers layer ≡ Some values → (rates rules).cap layer ≡ last_step values.widths
unfolding rates
cap_at rules layer values is = rw is refl

pub reach_at : (rules : RuleFile) (layer : ℕ) (values : LayerValues) → layer_in rules.layers layer ≡ Some values → (rates rules).reach layer ≡ last_step values.distances
unfolding rates
reach_at rules layer values is = rw is refl

pub rate_at : (rules : RuleFile) (layer : ℕ) (values : LayerValues) (under over : Option ℕ) (thick : ℕ) (gap : Option ℕ) → layer_in rules.layers layer ≡ Some values
    → (rates rules).rate layer under over thick gap ≡ face_rate values under over thick gap
unfolding rates
rate_at rules layer values under over thick gap is = rw is refl

-- ---- how far one can look: along a list of blocks it never falls, and each block is looked over

pub never_falls : (layers : List (Option LayerValues)) (most : ℕ) → most ≤ fold farthest most layers
never_falls [] most = omega arith
never_falls (None ∷ layers) most = never_falls layers most
never_falls (Some values ∷ layers) most =
    let h = never_falls layers (farthest most (Some values)) in omega (arith, h)

pub looks_over : (layers : List (Option LayerValues)) (most layer : ℕ) (values : LayerValues) → layer_in layers layer ≡ Some values
    → (last_step values.distances + 1 ≤ fold farthest most layers) × (last_step values.widths ≤ fold farthest most layers)
looks_over [] most layer values is = absurd cc
looks_over (block ∷ layers) most zero values is =
    let h = never_falls layers (farthest most (Some values)) in rw is (omega (arith, h), omega (arith, h))
looks_over (block ∷ layers) most (suc layer) values is = looks_over layers (farthest most block) layer values is

-- a place past the end of a list holds the default
pub got : {X : Type 0} (xs : List X) (k : ℕ) (d : X) → unwrap_or (slice_get xs k) d ≡ slice_index_or xs k d
got [] k d = refl
got (x ∷ xs) zero d = refl
got (x ∷ xs) (suc k) d = got xs k d

-- what holds of all of a list and of a default holds of what is looked up in it
pub at_or : {X : Type 0} (P : X → Type 0) (xs : List X) (k : ℕ) (d : X) → All P xs → P d → P (get_or xs k d)
at_or P [] k d all p = p
at_or P (x ∷ xs) zero d all p = all 0 d (omega arith)
at_or P (x ∷ xs) (suc k) d all p = at_or P xs k d (λ j e lt. all (suc j) e (omega arith)) p

-- the row of the table that was found
pub row_found : (values inside : LayerValues) (under over : Option ℕ) (thick table len width : ℕ) → inside ≡ values → table_for values.pairs under over ≡ Some table → len ≡ length inside.widths → width ≡ width_row values.widths thick
    → unwrap_or (slice_get inside.rows (table * len + width)) [] ≡ row_of values under over thick
row_found values inside under over thick table len width same is at_ row = got inside.rows (table * len + width) [] ∙ rw (at_, same, row, is) refl
