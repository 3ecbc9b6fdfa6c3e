-- The sums of all keys as a list.
use Rattle.std.specs.Prelude.{◌≡◌, ◌≤◌, ℕ, List, Option, IfSome, map, find}
use Rattle.std.specs.Option.{option_map_or}
use Rattle.std.specs.List.Sorted.{IsStrictlySortedBy}
use Rattle.rc_geom.specs.declared.key.Key.{Key}
use Rattle.rc_geom.specs.declared.rect.Rect.{Rect}
use Rattle.rc_geom.specs.Plane.{Plane}
use Rattle.rc_geom.specs.Rates.{Rates}
use Rattle.rc_geom.specs.Parts.{same_key}
use Rattle.rc_geom.specs.Sums.{numbers}
use Rattle.rc_geom.specs.Extraction.{key_count, key_value}
use Rattle.rc_squares.specs.declared.sums.Sum.{Sum}
use Rattle.rc_squares.specs.declared.entries.Entry.{Entry}
use Rattle.rc_squares.specs.Tallies.{KeyOrder}

-- a key with its sum
abbrev pub entry_of : Key × Sum → Entry
entry_of p = record { key = p.0; count = p.1.count; value = p.1.value }

-- the entry of a key
abbrev pub entry_at : List Entry → Key → Option Entry
entry_at entries key = find (λ e. same_key key e.key) entries

-- the keys rise; a key's entry has at least one part, and its count and value; without an entry they are 0
pub record AreSums (order : KeyOrder) (plane : Plane) (rates : Rates ℕ) (r : Rect) (entries : List Entry) : Type 0 where
  pub rising : IsStrictlySortedBy order (map (λ (e : Entry). e.key) entries)
  pub some : (key : Key) → IfSome (entry_at entries key) (λ e. 1 ≤ e.count)
  pub count : (key : Key) → option_map_or (λ (e : Entry). e.count) (entry_at entries key) 0 ≡ key_count plane rates r key
  pub value : (key : Key) → option_map_or (λ (e : Entry). e.value) (entry_at entries key) 0 ≡ key_value numbers plane rates r key
