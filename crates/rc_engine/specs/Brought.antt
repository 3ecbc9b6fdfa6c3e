-- The sums of all windows, brought to the nets.
use Rattle.std.specs.Prelude.{◌<◌, ◌≡◌, ◌==◌, ◌||◌, ◌++◌, ◌∷◌, ℕ, Bool, List, [], Option, Some, None, length, slice_get, slice_index_or, if◌then◌else◌}
use Rattle.std.specs.List.{filter_map, flat_map}
use Rattle.std.specs.Option.{option_and_then}
use Rattle.rc_geom.specs.declared.key.Key.{Key}
use Rattle.rc_geom.specs.declared.key.Key.TheVariants.{Ground, Pair}
use Rattle.rc_tally.specs.declared.entry.Entry.{Entry}
use Rattle.rc_engine.specs.declared.positions.Position.{Position}

-- the nets of a key are among so many, and of two the lower one stands first
abbrev pub HasNets : ℕ → Key → Type 0
HasNets nets (Ground net node) = net < nets
HasNets nets (Pair net node other onode) = (net < other) × (other < nets)

-- an entry for its second net: that net's node first
abbrev pub turned_about : Entry ℕ → Key → Entry ℕ
turned_about e (Ground net node) = e
turned_about e (Pair net node other onode) = record e { key = Pair other onode net node }

-- what an entry is to a net: itself where a node of the net stands first, turned about where one stands second
abbrev pub own_by : ℕ → Entry ℕ → Key → Option (Entry ℕ)
own_by own e (Ground net node) = if net == own then Some e else None
own_by own e (Pair net node other onode) =
    if net == own then Some e
    else if other == own then Some (turned_about e (Pair net node other onode))
    else None

abbrev pub own_of : ℕ → Entry ℕ → Option (Entry ℕ)
own_of net e = own_by net e e.key

-- those of some entries that are a net's, in their order
unfoldable pub owned : ℕ → List (Entry ℕ) → List (Entry ℕ)
owned net entries = filter_map (own_of net) entries

-- ---- where a net's entries stand

-- the entry at a position
abbrev pub entry_at : List (List (Entry ℕ)) → Position → Option (Entry ℕ)
entry_at tallies at = option_and_then (λ tally. slice_get tally at.place) (slice_get tallies at.window)

-- what the entry at a position is to a net
abbrev pub own_at : List (List (Entry ℕ)) → ℕ → Position → Option (Entry ℕ)
own_at tallies net at = option_and_then (own_of net) (entry_at tallies at)

-- what a net has at some positions, in their order
unfoldable pub owned_at : List (List (Entry ℕ)) → ℕ → List Position → List (Entry ℕ)
owned_at tallies net positions = filter_map (own_at tallies net) positions

-- at its positions each net has what is its own of some entries
abbrev pub ArePositions : List (List (Entry ℕ)) → List (List Position) → List (Entry ℕ) → Type 0
ArePositions tallies lists entries = (net : ℕ) → net < length lists → owned_at tallies net (slice_index_or lists net []) ≡ owned net entries

-- the net is one of the key's
abbrev pub has_net : Key → ℕ → Bool
has_net (Ground net node) own = net == own
has_net (Pair net node other onode) own = (net == own) || (other == own)

-- a position joins the lists of a key's nets
pub record Joins (before after : List (List Position)) (key : Key) (at : Position) : Type 0 where
  pub count : length after ≡ length before
  pub lists : (net : ℕ) → net < length before → slice_index_or after net [] ≡ (if has_net key net then slice_index_or before net [] ++ at ∷ [] else slice_index_or before net [])

-- lists that had the positions of some entries have those of these besides
pub record Brings (tallies : List (List (Entry ℕ))) (before after : List (List Position)) (entries : List (Entry ℕ)) : Type 0 where
  pub count : length after ≡ length before
  pub owned : (earlier : List (Entry ℕ)) → ArePositions tallies before earlier → ArePositions tallies after (earlier ++ entries)

-- the entries of all tallies, one after another
abbrev pub entries_of : List (List (Entry ℕ)) → List (Entry ℕ)
entries_of tallies = flat_map (λ tally. tally) tallies
