-- The tests by which a value is found to be balanced. That they tell it is shown in proofs/Balancing.
use Rattle.std.specs.Prelude.{◌==◌, ◌&&◌, ◌||◌, not, ℕ, Bool, List, count_by, flat_map, length}
use Rattle.std.specs.List.{list_all, list_any}
use Rattle.rc_spef.specs.declared.value.DNet.{DNet}
use Rattle.rc_spef.specs.Balance.{Coupling, couplings, has_name, total_of, leads, is_partner}

unfoldable pub has_total : DNet → Bool
has_total net = net.total.0 == total_of net

-- a coupling leads from a net of this name to another
abbrev pub leads_out : ℕ → Coupling → Bool
leads_out name coupling = (coupling.from.name == name) && not (coupling.to.name == name)

unfoldable pub all_lead_out : DNet → Bool
all_lead_out net = list_all (leads_out net.name) (couplings net)

-- a net with couplings has its name alone
unfoldable pub is_single : List DNet → DNet → Bool
is_single nets net = (length (couplings net) == 0) || (count_by (has_name net.name) nets == 1)

-- of all couplings one alone has these ends, and another has them the other way round with the same value
abbrev pub is_once : List Coupling → Coupling → Bool
is_once all coupling = count_by (leads coupling.from coupling.to) all == 1

abbrev pub has_partner : List Coupling → Coupling → Bool
has_partner all coupling = list_any (is_partner coupling) all

unfoldable pub all_couplings : List DNet → List Coupling
all_couplings nets = flat_map couplings nets

abbrev pub pair_up : List Coupling → Bool
pair_up all = list_all (is_once all) all && list_all (has_partner all) all

-- all of these
abbrev pub are_balanced : List DNet → Bool
are_balanced nets = list_all has_total nets && (list_all all_lead_out nets && (list_all (is_single nets) nets && pair_up (all_couplings nets)))
