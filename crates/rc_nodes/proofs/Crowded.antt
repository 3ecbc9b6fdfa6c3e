-- Lists of nodes that are too long.
use Rattle.std.proofs.Common.{◌≡◌, ◌≤◌, inl, inr, ⊎_elim, ℕ, true, List, [], ◌∷◌, length, refl, sym, ◌∙◌, subst, arith}
use Rattle.std.specs.Prelude.{All, Contains, ◌↔◌}
use Rattle.std.specs.List.{dedup}
use Rattle.std.specs.List.Sorted.{IsStrictlySortedBy, IsSorted, IsPermutation}
use Rattle.std.specs.Cmp.{IsTotalOrder}
use Rattle.std.specs.declared.cmp.Ordering.{Ordering}
use Rattle.std.specs.declared.cmp.Ordering.TheVariants.{Less, Equal, Greater}
use Rattle.std.specs.Ordering.{is_eq, eq_by_cmp}
use Rattle.std.proofs.lemmas.Cmp.{eq_by_cmp_equiv}
use Rattle.std.proofs.lemmas.List.Kept.{IsStrictlySortedBy-dedup, Contains-dedup, Contains-from_dedup}
use Rattle.std.proofs.lemmas.List.Sorted.{IsPermutation-sym, Contains-permutation}
use Rattle.rc_keys.specs.declared.fault.Fault.{Fault}
use Rattle.rc_keys.specs.declared.fault.Fault.TheVariants.{Refused, NoMemory}
use Rattle.rc_layout.specs.declared.net.Net.{Net}
use Rattle.rc_layout.specs.Items.{IsItem}
use Rattle.rc_nodes.specs.declared.node.Node.{Node}
use Rattle.rc_nodes.specs.Nodes.{node_cmp, AreInOrder, IsCrossing, IsNodesFault, nodes_of, point_nodes}
use Rattle.rc_nodes.specs.Crossings.{Either, IsFull}
use Rattle.rc_nodes.proofs.Sorted.{contains_none, contains_cases, contains_first, contains_later, head_below, tail_sorted, not_both, not_itself, pairs_from_sorted, sorted_from_pairs}
use Rattle.rc_nodes.proofs.Numbered.{node_total, node_equal, nodes_are, points_have}

pub full_weaker : (room : ℕ) (P Q : Node → Type 0) (fault : Fault) → ((node : Node) → P node → Q node) → IsFull room P fault → IsFull room Q fault
full_weaker room P Q (Refused refusal) gives h = (h.0, record { nodes = h.1.nodes; order = h.1.order; pass = λ node in'. gives node (h.1.pass node in'); many = h.1.many })
full_weaker room P Q NoMemory gives h = tt

-- ---- sorted, each once

equal_tells : (o : Ordering) → is_eq o ≡ true → o ≡ Equal
equal_tells Less h = cc
equal_tells Equal h = refl
equal_tells Greater h = cc

pub settled_order : (sorted kept : List Node) → IsSorted node_cmp sorted → kept ≡ dedup (eq_by_cmp node_cmp) sorted → AreInOrder kept
settled_order sorted kept order is =
    subst AreInOrder (sym is) (pairs_from_sorted node_cmp (dedup (eq_by_cmp node_cmp) sorted) (IsStrictlySortedBy-dedup node_total (λ x y. refl) sorted order))

pub settled_has : (old sorted kept : List Node) → IsPermutation old sorted → kept ≡ dedup (eq_by_cmp node_cmp) sorted → (node : Node) → Contains kept node ↔ Contains old node
settled_has old sorted kept moved is node = (
  λ h. Contains-permutation sorted old node (IsPermutation-sym old sorted moved) (Contains-from_dedup (eq_by_cmp node_cmp) sorted node (subst (λ l. Contains l node) is h)),
  λ h. subst (λ l. Contains l node) (sym is) (Contains-dedup (eq_by_cmp_equiv node_total) (λ x y t. node_equal x y (equal_tells (node_cmp x y) t)) sorted node (Contains-permutation old sorted node moved h)),
)

-- ---- a list in order isn't longer than another that has all of it

shorter : {K : Type 0} {R : K → K → Ordering} (o : IsTotalOrder R) (xs ys : List K) → IsStrictlySortedBy R xs → IsStrictlySortedBy R ys → ((x : K) → Contains xs x → Contains ys x) → length xs ≤ length ys
shorter o [] ys h k within = omega arith
shorter o (x ∷ xs) [] h k within = absurd (contains_none x (within x (contains_first x xs x refl)))
shorter {K} {R} o (x ∷ xs) (y ∷ ys) h k within = ⊎_elim
    (λ here.
    let rest = shorter o xs ys (tail_sorted R x xs h) (tail_sorted R y ys k) (λ z in'. ⊎_elim
    (λ same. absurd (not_itself o x z (head_below R x xs z h in') (sym here ∙ same)))
    (λ later. later)
    (contains_cases y ys z (within z (contains_later x xs z in')))) in
    omega (arith, rest))
    (λ there.
    let before = head_below R y ys x k there in
    let rest = shorter o (x ∷ xs) ys h (tail_sorted R y ys k) (λ z in'. ⊎_elim
    (λ same. subst (Contains ys) same there)
    (λ later. ⊎_elim
    (λ same. absurd (not_both o x y (subst (λ (w : K). R x w ≡ Less) (sym same) (head_below R x xs z h later)) before))
    (λ in_ys. in_ys)
    (contains_cases y ys z (within z in')))
    (contains_cases x xs z in')) in
    omega (arith, rest))
    (contains_cases y ys x (within x (contains_first x xs x refl)))

-- more nodes than there is room for
pub net_full : (room : ℕ) (net : Net) (points : List Node) (fault : Fault) → All IsItem net.items → points ≡ point_nodes net → IsFull room (Either points (IsCrossing net.items)) fault → IsNodesFault room net fault
net_full room net points (Refused refusal) all are h =
    let few = h.1.nodes in
    let nodes = nodes_are net all in
    let node_of : (node : Node) → Contains few node → Contains (nodes_of net) node = λ node in'.
    (nodes.all node).1 (⊎_elim
    (λ point. inl ((points_have net node).0 (subst (λ l. Contains l node) are point)))
    (λ cross. inr cross)
    (h.1.pass node in')) in
    let le = shorter node_total few (nodes_of net) (sorted_from_pairs node_cmp few h.1.order) (sorted_from_pairs node_cmp (nodes_of net) nodes.order) node_of in
    let many = h.1.many in
    (h.0, omega (arith, le, many))
net_full room net points NoMemory all are h = tt
