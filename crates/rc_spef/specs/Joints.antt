-- What the code keeps of couplings, against the definitions.
use Rattle.std.specs.Prelude.{◌≡◌, ◌==◌, ◌||◌, ℕ, Bool, true, false, Option, Some, None, List, map, length, nat_eq, unwrap_or, count_by}
use Rattle.std.specs.HashMap.{HashMap, get}
use Rattle.std.specs.Map.{lookup}
use Rattle.rc_spef.specs.declared.value.DNet.{DNet}
use Rattle.rc_spef.specs.declared.value.Cap.{Cap}
use Rattle.rc_spef.specs.declared.joint.Joint.{Joint}
use Rattle.rc_spef.specs.declared.joint.Entry.{Entry}
use Rattle.rc_spef.specs.Means.{end_seen}
use Rattle.rc_spef.specs.Balance.{Coupling, coupling_of, couplings, has_name, leads}
use Rattle.rc_spef.specs.BalanceTests.{leads_out}

abbrev pub entry_seen : Entry → Coupling
entry_seen entry = record { from = end_seen entry.joint.from; to = end_seen entry.joint.to; value = entry.value }

abbrev pub seen : List Entry → List Coupling
seen entries = map entry_seen entries

abbrev pub pair_of : Entry → Joint × ℕ
pair_of entry = (entry.joint, entry.value)

-- two joints are the same
abbrev pub same_joint : Joint → Joint → Bool
same_joint a b = leads (end_seen a.from) (end_seen a.to) (record { from = end_seen b.from; to = end_seen b.to; value = 0 })

abbrev pub turned : Joint → Joint
turned joint = record { from = joint.to; to = joint.from }

abbrev pub is_found : Option ℕ → ℕ → Bool
is_found None value = false
is_found (Some found) value = found == value

-- among joints with their values the one the other way round has the same value
unfoldable pub finds_partner : List (Joint × ℕ) → Entry → Bool
finds_partner pairs entry = is_found (lookup (same_joint (turned entry.joint)) pairs) entry.value

-- a capacitance that is a coupling leads out of a net of this name
abbrev pub passes_out : ℕ → Option Coupling → Bool
passes_out name None = true
passes_out name (Some coupling) = leads_out name coupling

abbrev pub cap_leads_out : ℕ → Cap → Bool
cap_leads_out name cap = passes_out name (coupling_of cap)

-- how many nets have a name is known
abbrev pub CountsNames : {S : Type 0} → HashMap ℕ ℕ S → List DNet → Type 0
CountsNames counts nets = (name : ℕ) → unwrap_or (get nat_eq counts name) 0 ≡ count_by (has_name name) nets

abbrev pub is_counted_once : {S : Type 0} → HashMap ℕ ℕ S → DNet → Bool
is_counted_once counts net = (length (couplings net) == 0) || (unwrap_or (get nat_eq counts net.name) 0 == 1)
