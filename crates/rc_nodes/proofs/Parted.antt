-- The shares of an item are its squares by their nearest nodes.
use Rattle.std.proofs.Common.{◌≡◌, ℕ, ℤ, ◌≤ℤ◌, ◌<ℤ◌, Bool, true, false, cond, List, [], ◌∷◌, ◌++◌, Option, Some, None, refl, ap, sym, ◌∙◌, arith}
use Rattle.std.specs.Prelude.{int_lt, int_le, ◌&&◌, option_map, find}
use Rattle.std.specs.List.{best_of}
use Rattle.std.proofs.lemmas.Int.{ints, by_lt_z}
use Rattle.rc_geom.specs.Split.{middle}
use Rattle.rc_geom.proofs.Bounds.{lt_passes, le_passes, lt_fails}
use Rattle.rc_nodes.specs.declared.line.Tap.{Tap}
use Rattle.rc_nodes.specs.Shares.{Share, share, shares_from}
use Rattle.rc_nodes.proofs.Nearest.{nearer, Rise, first_stays, next_takes}

-- a place lies between two ends
abbrev pub within : ℤ → ℤ → ℤ → Bool
within from to s = int_le from s && int_lt s to

abbrev pub has : ℤ → Share → Bool
has s part = within part.from part.to s

le_fails : (a b : ℤ) → b <ℤ a → int_le a b ≡ false
le_fails a b h = grind (arith, ints)

pub inside : (from to s : ℤ) → from ≤ℤ s → s <ℤ to → within from to s ≡ true
inside from to s h k = ap (λ b. b && int_lt s to) (le_passes from s h) ∙ lt_passes s to k

pub before : (from to s : ℤ) → s <ℤ from → within from to s ≡ false
before from to s h = ap (λ b. b && int_lt s to) (le_fails from s h)

pub behind : (from to s : ℤ) → to ≤ℤ s → within from to s ≡ false
behind from to s h = ap (λ b. int_le from s && b) (lt_fails s to h) ∙ and_false (int_le from s)
  where
    and_false : (b : Bool) → (b && false) ≡ false
    and_false true = refl
    and_false false = refl

-- the node of the share that has a place
abbrev pub node_of_share : Option Share → Option ℕ
node_of_share o = option_map (λ part. part.node) o

-- one share
pub one_share : (node : ℕ) (from to s : ℤ) (later : List Share) → find (has s) (share node from to ++ later) ≡ cond (within from to s) (Some (record { node = node; from = from; to = to })) (find (has s) later)
one_share node from to s later = by_lt_z from to
    (λ order. ap (λ b. find (has s) (cond b (record { node = node; from = from; to = to } ∷ []) [] ++ later)) (lt_passes from to order))
    (λ none. by_lt_z s from
    (λ low. ap (λ b. find (has s) (cond b (record { node = node; from = from; to = to } ∷ []) [] ++ later)) (lt_fails from to none) ∙ sym (ap (λ b. cond b (Some (record { node = node; from = from; to = to })) (find (has s) later)) (before from to s low)))
    (λ high. ap (λ b. find (has s) (cond b (record { node = node; from = from; to = to } ∷ []) [] ++ later)) (lt_fails from to none) ∙ sym (ap (λ b. cond b (Some (record { node = node; from = from; to = to })) (find (has s) later)) (behind from to s (omega (arith, ints))))))

-- the middles of neighbouring taps lie between the ends, in order
abbrev pub Parts : ℤ → ℤ → Tap → List Tap → Type 0
Parts from end tap [] = Unit {0}
Parts from end tap (next ∷ later) = (tap.along <ℤ next.along) × (from ≤ℤ middle tap.along next.along) × (middle tap.along next.along ≤ℤ end) × Parts (middle tap.along next.along) end next later

pub parts_rise : (from end : ℤ) (tap : Tap) (later : List Tap) → Parts from end tap later → Rise tap later
parts_rise from end tap [] h = tt
parts_rise from end tap (next ∷ later) h = (h.0, parts_rise (middle tap.along next.along) end next later h.3)

-- each place between the ends is in the share of its nearest tap
pub share_is_nearest : (s from end : ℤ) (tap : Tap) (later : List Tap) → Parts from end tap later →
    node_of_share (find (has s) (shares_from from end (tap ∷ later))) ≡ cond (within from end s) (Some (best_of (nearer s) tap later).node) None
share_is_nearest s from end tap [] h =
    ap node_of_share (one_share tap.node from end s []) ∙ chosen (within from end s)
  where
    chosen : (b : Bool) → node_of_share (cond b (Some (record { node = tap.node; from = from; to = end })) None) ≡ cond b (Some tap.node) None
    chosen true = refl
    chosen false = refl
share_is_nearest s from end tap (next ∷ later) h =
    let mid = middle tap.along next.along in
    let rest = find (has s) (shares_from mid end (next ∷ later)) in
    let first : node_of_share (find (has s) (shares_from from end (tap ∷ next ∷ later))) ≡ node_of_share (cond (within from mid s) (Some (record { node = tap.node; from = from; to = mid })) rest) =
    ap node_of_share (one_share tap.node from mid s (shares_from mid end (next ∷ later))) in
    let rise = parts_rise mid end next later h.3 in
    let low = h.1 in
    let high = h.2 in
    let again = share_is_nearest s mid end next later h.3 in
    first ∙ by_lt_z s from
    (λ out. ap (λ b. node_of_share (cond b (Some (record { node = tap.node; from = from; to = mid })) rest)) (before from mid s out)
    ∙ (again ∙ (ap (λ b. cond b (Some (best_of (nearer s) next later).node) None) (before mid end s (omega (arith, ints)))
    ∙ sym (ap (λ b. cond b (Some (best_of (nearer s) tap (next ∷ later)).node) None) (before from end s out)))))
    (λ in'. by_lt_z s mid
    (λ near. ap (λ b. node_of_share (cond b (Some (record { node = tap.node; from = from; to = mid })) rest)) (inside from mid s in' near)
    ∙ sym (ap (λ b. cond b (Some (best_of (nearer s) tap (next ∷ later)).node) None) (inside from end s in' (omega (arith, ints)))
    ∙ ap (λ (best : Tap). Some best.node) (first_stays s tap next later h.0 near rise)))
    (λ far. ap (λ b. node_of_share (cond b (Some (record { node = tap.node; from = from; to = mid })) rest)) (behind from mid s far)
    ∙ (again ∙ (ap (λ b. cond b (Some (best_of (nearer s) next later).node) None) (by_lt_z s end
    (λ before_end. inside mid end s far before_end ∙ sym (inside from end s in' before_end))
    (λ past. behind mid end s past ∙ sym (behind from end s past)))
    ∙ ap (λ (best : Tap). cond (within from end s) (Some best.node) None) (sym (next_takes s tap next later h.0 far))))))
