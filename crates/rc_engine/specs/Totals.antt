-- The sums of all windows together, and what a net has of them.
use Rattle.std.specs.Prelude.{◌<◌, ◌≤◌, ◌≡◌, ◌^◌, ℕ, nat_lt, List, Option, Some, None, All, Contains, slice_get, if◌then◌else◌}
use Rattle.std.specs.List.{flat_map}
use Rattle.rc_geom.specs.declared.key.Key.{Key}
use Rattle.rc_geom.specs.declared.key.Key.TheVariants.{Ground, Pair}
use Rattle.rc_geom.specs.Plane.{Metal}
use Rattle.rc_geom.specs.Sums.{numbers}
use Rattle.rc_tally.specs.declared.entry.Entry.{Entry}
use Rattle.rc_tally.specs.Tallies.{gathered, Gathers, IsRising}
use Rattle.rc_rules.specs.RuleFile.{RuleFile}
use Rattle.rc_layout.specs.declared.net.Net.{Net}
use Rattle.rc_layout.specs.Layouts.{Wired}
use Rattle.rc_spef.specs.declared.value.Cap.{Cap}
use Rattle.rc_engine.specs.Brought.{entries_of, owned}
use Rattle.rc_engine.specs.Extraction.{value_of, count_of, own_nodes, numbered_nets, net_caps}
use Rattle.rc_engine.specs.OwnEntries.{AreOwnEntries}
use Rattle.rc_engine.specs.Start.{node_count}
use Rattle.rc_engine.specs.Windows.{IsExtractable}

-- the nodes of all nets that aren't grounded
unfoldable pub all_nodes : Wired → List Metal
all_nodes wired = flat_map own_nodes (numbered_nets wired)

-- the key is of a node, or of nodes of two nets, the lower net's first
abbrev pub IsKey : Wired → Key → Type 0
IsKey wired (Ground net node) = Contains (all_nodes wired) (net, node)
IsKey wired (Pair net node other onode) = (net < other) × Contains (all_nodes wired) (net, node) × Contains (all_nodes wired) (other, onode)

-- what all faces of the layout add to a key, where some do
abbrev pub total_entry : Wired → RuleFile → Key → Option (Entry ℕ)
total_entry wired rules key =
    if nat_lt 0 (count_of wired rules key) then Some (record { key = key; count = count_of wired rules key; value = value_of wired rules key })
    else None

-- the entries of each key together are what all faces of the layout add to it, and no other key has one
pub record AreTotals (wired : Wired) (rules : RuleFile) (entries : List (Entry ℕ)) : Type 0 where
  pub keys : All (λ e. IsKey wired e.key) entries
  pub sums : (key : Key) → IsKey wired key → gathered numbers entries key ≡ total_entry wired rules key

-- what a net has of them, gathered by key, are the sums of the net
abbrev pub TotalsAreOwn : Type 0
TotalsAreOwn = (wired : Wired) (rules : RuleFile) (number : ℕ) (net : Net) (entries tally : List (Entry ℕ)) →
    slice_get wired.nets number ≡ Some net → AreTotals wired rules entries → IsRising tally → Gathers numbers (owned number entries) tally →
    AreOwnEntries wired rules (number, net) tally

-- the capacitances of whichever net has these of the entries that are the layout's sums
abbrev pub AreCapsOf : List (Entry ℕ) → List Cap → Type 0
AreCapsOf entries caps = (wired : Wired) (rules : RuleFile) (number : ℕ) (net : Net) (all : List (Entry ℕ)) →
    slice_get wired.nets number ≡ Some net → AreTotals wired rules all → entries ≡ owned number all → caps ≡ net_caps wired rules (number, net)

-- the tallies of a layout that can be extracted and is within the limit of nodes: together they are what all of its faces add up to
pub record AreSums (wired : Wired) (rules : RuleFile) (tallies : List (List (Entry ℕ))) : Type 0 where
  pub extractable : IsExtractable wired rules
  pub few_nodes : node_count wired.nets ≤ 2 ^ 22
  pub totals : AreTotals wired rules (entries_of tallies)

-- what a net has of such tallies
abbrev pub AreSumsOfNet : Wired → RuleFile → ℕ → List (Entry ℕ) → Type 0
AreSumsOfNet wired rules number entries = (tallies : List (List (Entry ℕ))) × AreSums wired rules tallies × (entries ≡ owned number (entries_of tallies))
