-- The couplings of a net of an extraction: which they are, and that one at most leads from one end to another.
use Rattle.std.proofs.Common.{◌≡◌, ◌∙◌, ℕ, ◌+◌, ◌≤◌, Bool, true, false, List, map, Option, Some, None, filter, refl, ap, sym, subst, ⊎_elim, arith}
use Rattle.std.specs.Prelude.{Contains, filter_map, count_by}
use Rattle.std.specs.List.{flat_map}
use Rattle.std.specs.declared.cmp.Ordering.TheVariants.{Less}
use Rattle.std.proofs.lemmas.List.Elements.{Contains-append_cases, Contains-append_right}
use Rattle.rc_fixed.proofs.Members.{filter_has, in_filter, map_has, in_map, flat_map_has, in_flat_map}
use Rattle.rc_geom.specs.declared.key.Key.{Key}
use Rattle.rc_geom.specs.declared.key.Key.TheVariants.{Ground, Pair}
use Rattle.rc_geom.specs.Plane.{Metal}
use Rattle.rc_geom.specs.Parts.{pair_key, same_key}
use Rattle.rc_geom.proofs.KeyTests.{keys_are_told}
use Rattle.rc_tally.specs.Tallies.{key_order}
use Rattle.rc_tally.proofs.Orders.{less_differs}
use Rattle.rc_rules.specs.RuleFile.{RuleFile}
use Rattle.rc_layout.specs.declared.net.Net.{Net}
use Rattle.rc_layout.specs.Layouts.{Wired}
use Rattle.rc_spef.specs.declared.value.Cap.{Cap}
use Rattle.rc_spef.specs.declared.value.End.{End}
use Rattle.rc_spef.specs.declared.value.Sub.{Sub}
use Rattle.rc_spef.specs.declared.value.Sub.TheVariants as sub
use Rattle.rc_spef.specs.Balance.{Coupling, coupling_of, couplings, leads}
use Rattle.rc_spef.proofs.Balancing.{leads_is}
use Rattle.rc_spef.proofs.Members.{In}
use Rattle.rc_engine.specs.Connections.{node_end}
use Rattle.rc_engine.specs.Extraction.{value_of, metal_end, own_nodes, other_nodes, net_caps, net_value}
use Rattle.rc_engine.specs.OwnEntries.{ground_key, own_pair, own_keys, is_present}
use Rattle.rc_engine.proofs.Rises.{rises_filter}
use Rattle.rc_engine.proofs.Keys.{own_keys_rise}
use Rattle.rc_engine.proofs.Sums.{key_cap, caps_by_keys}
use Rattle.rc_balance.proofs.Counts.{contained, inside, few, count_map, some_passes, count_filter_map, in_filter_map, filter_map_has}

-- ---- by keys

-- the keys of the nodes of a net to which some face adds
abbrev keys_of : Wired → RuleFile → ℕ × Net → List Key
keys_of wired rules net = filter (is_present wired rules) (own_keys wired net)

by_caps : (wired : Wired) (rules : RuleFile) (net : ℕ × Net) → couplings (net_value wired rules net) ≡ filter_map coupling_of (net_caps wired rules net)
unfolding couplings net_value
by_caps wired rules net = refl

by_keys : (wired : Wired) (rules : RuleFile) (net : ℕ × Net) → couplings (net_value wired rules net) ≡ filter_map coupling_of (map (key_cap wired rules) (keys_of wired rules net))
by_keys wired rules net = by_caps wired rules net ∙ ap (filter_map coupling_of) (caps_by_keys wired rules net)

-- ---- which they are

-- between two nodes
abbrev pub coupling_at : Wired → RuleFile → Metal → Metal → Coupling
coupling_at wired rules a b = record { from = metal_end a; to = metal_end b; value = value_of wired rules (pair_key a b) }

-- a coupling leads from a node of the net to a node of another one, and some face adds to it
pub record IsCoupled (wired : Wired) (rules : RuleFile) (net : ℕ × Net) (coupling : Coupling) : Type 0 where
  pub a : Metal
  pub b : Metal
  pub own : Contains (own_nodes net) a
  pub there : Contains (other_nodes wired net.0) b
  pub present : is_present wired rules (own_pair a b) ≡ true
  pub is : coupling_at wired rules a b ≡ coupling

some_is : {X : Type 0} (x y : X) → Some x ≡ Some y → x ≡ y
some_is x y is = ap (λ o. unless x o) is
  where
    unless : {X : Type 0} → X → Option X → X
    unless x None = x
    unless x (Some y) = y

coupled_by : (wired : Wired) (rules : RuleFile) (net : ℕ × Net) (coupling : Coupling) (key : Key) → Contains (own_keys wired net) key → is_present wired rules key ≡ true → coupling_of (key_cap wired rules key) ≡ Some coupling → IsCoupled wired rules net coupling
unfolding own_keys
coupled_by wired rules net coupling key has present is = ⊎_elim
    (λ (ground : Contains (map ground_key (own_nodes net)) key).
    let found = in_map ground_key (own_nodes net) key ground in
    let none : None ≡ Some coupling = subst (λ (k : Key). coupling_of (key_cap wired rules k) ≡ Some coupling) (sym found.2) is in
    absurd cc)
    (λ (pair : Contains (flat_map (λ a. map (own_pair a) (other_nodes wired net.0)) (own_nodes net)) key).
    let first = in_flat_map (λ a. map (own_pair a) (other_nodes wired net.0)) (own_nodes net) key pair in
    let second = in_map (own_pair first.0) (other_nodes wired net.0) key first.2 in
    record {
      a = first.0;
      b = second.0;
      own = first.1;
      there = second.1;
      present = subst (λ (k : Key). is_present wired rules k ≡ true) (sym second.2) present;
      is = some_is (coupling_at wired rules first.0 second.0) coupling (subst (λ (k : Key). coupling_of (key_cap wired rules k) ≡ Some coupling) (sym second.2) is);
    })
    (Contains-append_cases (map ground_key (own_nodes net)) (flat_map (λ a. map (own_pair a) (other_nodes wired net.0)) (own_nodes net)) key has)

pub coupled : (wired : Wired) (rules : RuleFile) (net : ℕ × Net) (coupling : Coupling) → In (couplings (net_value wired rules net)) coupling → IsCoupled wired rules net coupling
coupled wired rules net coupling there =
    let found = in_filter_map coupling_of (map (key_cap wired rules) (keys_of wired rules net)) coupling (subst (λ (cs : List Coupling). In cs coupling) (by_keys wired rules net) there) in
    let keyed = in_map (key_cap wired rules) (keys_of wired rules net) found.0 (contained (map (key_cap wired rules) (keys_of wired rules net)) found.0 found.1) in
    let kept = in_filter (is_present wired rules) (own_keys wired net) keyed.0 keyed.1 in
    coupled_by wired rules net coupling keyed.0 kept.0 kept.1 (ap coupling_of keyed.2 ∙ found.2)

has_pair : (wired : Wired) (net : ℕ × Net) (a b : Metal) → Contains (own_nodes net) a → Contains (other_nodes wired net.0) b → Contains (own_keys wired net) (own_pair a b)
unfolding own_keys
has_pair wired net a b own there =
    let pairs : Metal → List Key = λ a. map (own_pair a) (other_nodes wired net.0) in
    Contains-append_right (map ground_key (own_nodes net)) (flat_map pairs (own_nodes net)) (own_pair a b) (flat_map_has pairs (own_nodes net) a (own_pair a b) own (map_has (own_pair a) (other_nodes wired net.0) b there))

-- and each such pair of nodes has one
pub couples : (wired : Wired) (rules : RuleFile) (net : ℕ × Net) (a b : Metal) → Contains (own_nodes net) a → Contains (other_nodes wired net.0) b → is_present wired rules (own_pair a b) ≡ true → In (couplings (net_value wired rules net)) (coupling_at wired rules a b)
couples wired rules net a b own there present =
    let keys : List Key = keys_of wired rules net in
    let has : Contains keys (own_pair a b) = filter_has (is_present wired rules) (own_keys wired net) (own_pair a b) (has_pair wired net a b own there) present in
    let cap : Contains (map (key_cap wired rules) keys) (key_cap wired rules (own_pair a b)) = map_has (key_cap wired rules) keys (own_pair a b) has in
    subst (λ (cs : List Coupling). In cs (coupling_at wired rules a b)) (sym (by_keys wired rules net))
    (filter_map_has coupling_of (map (key_cap wired rules) keys) (key_cap wired rules (own_pair a b)) (coupling_at wired rules a b) (inside (map (key_cap wired rules) keys) (key_cap wired rules (own_pair a b)) cap) refl)

-- ---- one at most

node_of : Sub → ℕ
node_of sub.Bare = 0
node_of (sub.Num node) = node
node_of (sub.Word name) = 0

-- an end tells its net and its node
net_is : (m j n k : ℕ) → node_end m j ≡ node_end n k → m ≡ n
net_is m j n k is = let name : m + 1 ≡ n + 1 = ap (λ (e : End). e.name) is in omega (arith, name)

node_is : (m j n k : ℕ) → node_end m j ≡ node_end n k → j ≡ k
unfolding node_of
node_is m j n k is = ap (λ (e : End). node_of e.sub) is

-- whether the coupling of a key leads from one end to another
abbrev key_leads : Wired → RuleFile → End → End → Key → Bool
key_leads wired rules from to key = some_passes (leads from to) (coupling_of (key_cap wired rules key))

-- so no two keys have couplings with the same ends
apart : (wired : Wired) (rules : RuleFile) (from to : End) (p q : Key) → key_leads wired rules from to p ≡ true → key_leads wired rules from to q ≡ true → key_order p q ≡ Less → ⊥
apart wired rules from to (Ground net node) q first second less = absurd cc
apart wired rules from to (Pair net node other onode) (Ground net' node') first second less = absurd cc
apart wired rules from to (Pair m j n k) (Pair m' j' n' k') first second less =
    let p : Key = Pair m j n k in
    let q : Key = Pair m' j' n' k' in
    let of_p = leads_is from to (record { from = node_end m j; to = node_end n k; value = value_of wired rules (pair_key (m, j) (n, k)) }) first in
    let of_q = leads_is from to (record { from = node_end m' j'; to = node_end n' k'; value = value_of wired rules (pair_key (m', j') (n', k')) }) second in
    let start : node_end m j ≡ node_end m' j' = sym of_p.0 ∙ of_q.0 in
    let stop : node_end n k ≡ node_end n' k' = sym of_p.1 ∙ of_q.1 in
    let net : m ≡ m' = net_is m j m' j' start in
    let node : j ≡ j' = node_is m j m' j' start in
    let other : n ≡ n' = net_is n k n' k' stop in
    let onode : k ≡ k' = node_is n k n' k' stop in
    let same : p ≡ q = λ i. Pair (net i) (node i) (other i) (onode i) in
    let yes : same_key p q ≡ true = (keys_are_told p q).1 same in
    let no : same_key p q ≡ false = less_differs p q less in
    let both : false ≡ true = sym no ∙ yes in absurd cc

pub few_lead : (wired : Wired) (rules : RuleFile) (net : ℕ × Net) (from to : End) → count_by (leads from to) (couplings (net_value wired rules net)) ≤ 1
few_lead wired rules net from to =
    let keys : List Key = keys_of wired rules net in
    let count : count_by (leads from to) (couplings (net_value wired rules net)) ≡ count_by (key_leads wired rules from to) keys =
    ap (count_by (leads from to)) (by_keys wired rules net)
    ∙ count_filter_map coupling_of (leads from to) (map (key_cap wired rules) keys)
    ∙ count_map (key_cap wired rules) (λ (cap : Cap). some_passes (leads from to) (coupling_of cap)) keys in
    let most = few (λ (p q : Key). key_order p q ≡ Less) (key_leads wired rules from to) keys (apart wired rules from to) (rises_filter (λ (p q : Key). key_order p q ≡ Less) (is_present wired rules) (own_keys wired net) (own_keys_rise wired net)) in
    omega (arith, count, most)
