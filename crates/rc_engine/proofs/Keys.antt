-- The keys that the nodes of a net can have stand in their order.
use Rattle.std.proofs.Common.{◌≡◌, ◌<◌, ◌⊎◌, inl, inr, ℕ, List, map, length, refl, ap, sym, ◌∙◌, subst}
use Rattle.std.specs.Prelude.{Contains, filter, ◌==◌, not}
use Rattle.std.specs.List.{flat_map, range_with_len}
use Rattle.std.specs.declared.cmp.Ordering.{Ordering}
use Rattle.std.specs.declared.cmp.Ordering.TheVariants.{Less}
use Rattle.std.specs.Ordering.{nat_cmp, ordering_then}
use Rattle.rc_fixed.proofs.Members.{in_map, in_flat_map}
use Rattle.rc_geom.specs.declared.key.Key.{Key}
use Rattle.rc_geom.specs.declared.key.Key.TheVariants.{Ground, Pair}
use Rattle.rc_geom.specs.Plane.{Metal}
use Rattle.rc_tally.specs.Tallies.{key_order}
use Rattle.rc_layout.specs.declared.net.Net.{Net}
use Rattle.rc_layout.specs.Layouts.{Wired}
use Rattle.rc_nodes.specs.Nodes.{nodes_of}
use Rattle.rc_nodes.proofs.Sorted.{nat_is_less, nat_is_equal}
use Rattle.rc_engine.specs.Extraction.{own_nodes, other_nodes, numbered_nets}
use Rattle.rc_engine.specs.OwnEntries.{own_keys, own_pair, ground_key}
use Rattle.rc_engine.proofs.Rises.{Rises, rises_append, rises_map, rises_filter, rises_flat_map, range_rises, numbers_rise}

-- ---- one key before another

abbrev IsLower : Key → Key → Type 0
IsLower a b = key_order a b ≡ Less

rest_is : (a b : ℕ) (o : Ordering) → a ≡ b → ordering_then (nat_cmp a b) o ≡ o
rest_is a b o same = ap (λ c. ordering_then c o) (nat_is_equal a b same)

first_is : (a b : ℕ) (o : Ordering) → a < b → ordering_then (nat_cmp a b) o ≡ Less
first_is a b o less = ap (λ c. ordering_then c o) (nat_is_less a b less)

lower_ground : (net j k : ℕ) → j < k → key_order (Ground net j) (Ground net k) ≡ Less
lower_ground net j k less = rest_is net net _ refl ∙ first_is j k _ less

ground_first : (net node : ℕ) (a b : Metal) → key_order (Ground net node) (own_pair a b) ≡ Less
ground_first net node a b = refl

lower_own : (net j k : ℕ) (a b : Metal) → j < k → key_order (Pair net j a.0 a.1) (Pair net k b.0 b.1) ≡ Less
lower_own net j k a b less = rest_is net net _ refl ∙ first_is j k _ less

-- by net, then by node
abbrev IsBefore : Metal → Metal → Type 0
IsBefore a b = (a.0 < b.0) ⊎ ((a.0 ≡ b.0) × (a.1 < b.1))

lower_other : (own a b : Metal) → IsBefore a b → key_order (own_pair own a) (own_pair own b) ≡ Less
lower_other own a b (inl net) = rest_is own.0 own.0 _ refl ∙ (rest_is own.1 own.1 _ refl ∙ first_is a.0 b.0 _ net)
lower_other own a b (inr node) = rest_is own.0 own.0 _ refl ∙ (rest_is own.1 own.1 _ refl ∙ (rest_is a.0 b.0 _ node.0 ∙ first_is a.1 b.1 _ node.1))

-- ---- nodes in order

own_rise : (net : ℕ × Net) → Rises IsBefore (own_nodes net)
own_rise net = rises_map (λ j k. j < k) IsBefore (λ node. (net.0, node)) (λ j k less. inr (refl, less)) (range_with_len 1 (length (nodes_of net.1))) (range_rises 1 (length (nodes_of net.1)))

pub own_net : (net : ℕ × Net) (a : Metal) → Contains (own_nodes net) a → net.0 ≡ a.0
own_net net a h = let found = in_map (λ node. (net.0, node)) (range_with_len 1 (length (nodes_of net.1))) a h in ap (λ (m : Metal). m.0) found.2

others_rise : (wired : Wired) (net : ℕ) → Rises IsBefore (other_nodes wired net)
others_rise wired net =
    rises_flat_map (λ (m n : ℕ × Net). m.0 < n.0) IsBefore own_nodes own_rise
    (λ m n a b less in' there. inl (subst (λ (k : ℕ). k < b.0) (own_net m a in') (subst (λ (k : ℕ). m.0 < k) (own_net n b there) less)))
    (filter (λ numbered. not (numbered.0 == net)) (numbered_nets wired))
    (rises_filter (λ (m n : ℕ × Net). m.0 < n.0) (λ numbered. not (numbered.0 == net)) (numbered_nets wired) (numbers_rise 0 wired.nets))

-- ---- keys in order

grounds_rise : (net : ℕ × Net) → Rises IsLower (map ground_key (own_nodes net))
grounds_rise net = by (range_with_len 1 (length (nodes_of net.1))) (range_rises 1 (length (nodes_of net.1)))
  where
    by : (ks : List ℕ) → Rises (λ j k. j < k) ks → Rises IsLower (map ground_key (map (λ node. (net.0, node)) ks))
    by ks h =
        rises_map (λ (a b : Metal). (a.0 ≡ net.0) × (b.0 ≡ net.0) × (a.1 < b.1)) IsLower ground_key
        (λ a b h. subst (λ n. key_order (Ground n a.1) (Ground b.0 b.1) ≡ Less) (sym h.0) (subst (λ n. key_order (Ground net.0 a.1) (Ground n b.1) ≡ Less) (sym h.1) (lower_ground net.0 a.1 b.1 h.2)))
        (map (λ node. (net.0, node)) ks) (rises_map (λ j k. j < k) (λ (a b : Metal). (a.0 ≡ net.0) × (b.0 ≡ net.0) × (a.1 < b.1)) (λ node. (net.0, node)) (λ j k less. (refl, refl, less)) ks h)

pairs_rise : (wired : Wired) (net : ℕ × Net) → Rises IsLower (flat_map (λ a. map (own_pair a) (other_nodes wired net.0)) (own_nodes net))
pairs_rise wired net = by (range_with_len 1 (length (nodes_of net.1))) (range_rises 1 (length (nodes_of net.1)))
  where
    pairs : Metal → List Key
    pairs a = map (own_pair a) (other_nodes wired net.0)

    After : Metal → Metal → Type 0
    After a b = (a.0 ≡ b.0) × (a.1 < b.1)

    across : (a b : Metal) (p q : Key) → After a b → Contains (pairs a) p → Contains (pairs b) q → IsLower p q
    across a b p q less in' there =
        let of_a = in_map (own_pair a) (other_nodes wired net.0) p in' in
        let of_b = in_map (own_pair b) (other_nodes wired net.0) q there in
        subst (λ p. key_order p q ≡ Less) of_a.2 (subst (λ q. key_order (own_pair a of_a.0) q ≡ Less) of_b.2
        (subst (λ n. key_order (own_pair a of_a.0) (Pair n b.1 of_b.0.0 of_b.0.1) ≡ Less) less.0 (lower_own a.0 a.1 b.1 of_a.0 of_b.0 less.1)))

    by : (ks : List ℕ) → Rises (λ j k. j < k) ks → Rises IsLower (flat_map pairs (map (λ node. (net.0, node)) ks))
    by ks h =
        rises_flat_map After IsLower pairs (λ a. rises_map IsBefore IsLower (own_pair a) (lower_other a) (other_nodes wired net.0) (others_rise wired net.0)) across
        (map (λ node. (net.0, node)) ks) (rises_map (λ j k. j < k) After (λ node. (net.0, node)) (λ j k less. (refl, less)) ks h)

pub own_keys_rise : (wired : Wired) (net : ℕ × Net) → Rises (λ p q. key_order p q ≡ Less) (own_keys wired net)
unfolding own_keys
own_keys_rise wired net =
    rises_append IsLower (map ground_key (own_nodes net)) (flat_map (λ a. map (own_pair a) (other_nodes wired net.0)) (own_nodes net)) (grounds_rise net) (pairs_rise wired net)
    (λ p q in' there.
    let of_p = in_map ground_key (own_nodes net) p in' in
    let of_q = in_flat_map (λ a. map (own_pair a) (other_nodes wired net.0)) (own_nodes net) q there in
    let pair = in_map (own_pair of_q.0) (other_nodes wired net.0) q of_q.2 in
    subst (λ p. key_order p q ≡ Less) of_p.2 (subst (λ q. key_order (ground_key of_p.0) q ≡ Less) pair.2 (ground_first of_p.0.0 of_p.0.1 of_q.0 pair.0)))
