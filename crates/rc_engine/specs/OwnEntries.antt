-- The sums of one net, each for a node of the net, or for a node of the net and then one of another net.
use Rattle.std.specs.Prelude.{◌<◌, ◌≡◌, ◌^◌, ◌++◌, ℕ, Bool, true, nat_lt, List, Some, None, All, Contains, map}
use Rattle.std.specs.List.{flat_map}
use Rattle.rc_geom.specs.declared.key.Key.{Key}
use Rattle.rc_geom.specs.declared.key.Key.TheVariants.{Ground, Pair}
use Rattle.rc_geom.specs.Plane.{Metal}
use Rattle.rc_geom.specs.Parts.{pair_key}
use Rattle.rc_tally.specs.declared.entry.Entry.{Entry}
use Rattle.rc_tally.specs.Tallies.{IsRising}
use Rattle.rc_rules.specs.RuleFile.{RuleFile}
use Rattle.rc_layout.specs.declared.net.Net.{Net}
use Rattle.rc_layout.specs.Layouts.{Wired}
use Rattle.rc_spef.specs.declared.value.Cap.{Cap}
use Rattle.rc_engine.specs.Connections.{node_end}
use Rattle.rc_engine.specs.Extraction.{value_of, count_of, own_nodes, other_nodes, net_caps}

abbrev pub ground_key : Metal → Key
ground_key a = Ground a.0 a.1

-- a node of the net first, whichever net is the lower one
abbrev pub own_pair : Metal → Metal → Key
own_pair a b = Pair a.0 a.1 b.0 b.1

-- the keys that the nodes of a net can have
unfoldable pub own_keys : Wired → ℕ × Net → List Key
own_keys wired net = map ground_key (own_nodes net) ++ flat_map (λ a. map (own_pair a) (other_nodes wired net.0)) (own_nodes net)

-- the key of the faces between both nodes, the lower net's first
abbrev pub turned : Key → Key
turned (Ground net node) = Ground net node
turned (Pair net node other onode) = pair_key (net, node) (other, onode)

-- some face adds to the key
abbrev pub is_present : Wired → RuleFile → Key → Bool
is_present wired rules key = nat_lt 0 (count_of wired rules (turned key))

-- these are the sums of a net: each key of the net's nodes to which some face adds, by rising keys, with what the faces add up to
pub record AreOwnEntries (wired : Wired) (rules : RuleFile) (net : ℕ × Net) (entries : List (Entry ℕ)) : Type 0 where
  pub rising : IsRising entries
  pub present : (key : Key) → Contains (map (λ (e : Entry ℕ). e.key) entries) key → Contains (own_keys wired net) key × (is_present wired rules key ≡ true)
  pub all : (key : Key) → Contains (own_keys wired net) key → is_present wired rules key ≡ true → Contains (map (λ (e : Entry ℕ). e.key) entries) key
  pub values : All (λ e. e.value ≡ value_of wired rules (turned e.key)) entries

-- the capacitance of a key, of that value
abbrev pub cap_with : Key → ℕ → Cap
cap_with (Ground net node) value = record { a = node_end net node; b = None; value = record { 0 = value } }
cap_with (Pair net node other onode) value = record { a = node_end net node; b = Some (node_end other onode); value = record { 0 = value } }

abbrev pub entry_cap : Entry ℕ → Cap
entry_cap e = cap_with e.key e.value

-- the nets of a key can be named
abbrev pub HasNames : Key → Type 0
HasNames (Ground net node) = net < 2 ^ 20
HasNames (Pair net node other onode) = (net < 2 ^ 20) × (other < 2 ^ 20)

-- the sums of a net, as they come, are its capacitances
abbrev pub EntriesAreCaps : Type 0
EntriesAreCaps = (wired : Wired) (rules : RuleFile) (net : ℕ × Net) (entries : List (Entry ℕ)) →
    AreOwnEntries wired rules net entries → map entry_cap entries ≡ net_caps wired rules net
