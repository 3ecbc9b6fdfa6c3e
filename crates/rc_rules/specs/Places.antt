-- The tables of a block by the layers that they are for.
use Rattle.std.specs.Prelude.{◌≡◌, ◌<◌, ◌/◌, ◌%◌, ◌*◌, ℕ, zero, suc, List, Option, Some, None, length, slice_index_or}
use Rattle.rc_rules.specs.declared.pair.Pair.{Pair}
use Rattle.rc_rules.specs.LookUp.{table_for}

-- 0 stands for no layer, and another number for the layer before it
abbrev pub layer_numbered : ℕ → Option ℕ
layer_numbered zero = None
layer_numbered (suc layer) = Some layer

-- by the layers under and over, each none or one of 32, where the table for them stands
pub record ArePlaces (pairs : List Pair) (places : List (Option ℕ)) : Type 0 where
  pub size : length places ≡ 33 * 33
  pub each : (cell : ℕ) → cell < 33 * 33 → slice_index_or places cell None ≡ table_for pairs (layer_numbered (cell / 33)) (layer_numbered (cell % 33))
