-- The nodes of nets, one net after another, and what refuses too many.
use Rattle.std.proofs.Common.{◌≡◌, ◌<◌, ◌≤◌, ◌+◌, ◌-◌, ◌^◌, ℕ, List, [], ◌∷◌, ◌++◌, map, length, get_or, take, ap, sym, subst, ◌∙◌, arith}
use Rattle.std.specs.List.{sum_by}
use Rattle.std.proofs.lemmas.List.{take_all, take_more, map-append}
use Rattle.std.proofs.lemmas.List.Sums.{sum_by-append, sum_by_more_le}
use Rattle.rc_keys.specs.declared.fault.Fault.{Fault}
use Rattle.rc_keys.specs.declared.fault.Fault.TheVariants.{Refused, NoMemory}
use Rattle.rc_layout.specs.declared.net.Net.{Net}
use Rattle.rc_layout.specs.Layouts.{Wired}
use Rattle.rc_layout.specs.Facts.{IsLayout}
use Rattle.rc_layout.specs.Nets.{IsWellFormed, IsTied}
use Rattle.rc_nodes.specs.declared.node.Node.{Node}
use Rattle.rc_nodes.specs.Nodes.{nodes_of, AreInOrder, IsNodesFault}
use Rattle.rc_nodes.proofs.Numbered.{nodes_are}
use Rattle.rc_nodes.specs.LayoutPlane.{DrawnNet}
use Rattle.rc_engine.specs.Start.{node_count, tile_total, tiles_counted}
use Rattle.rc_engine.specs.Measured.{HaveTooManyNodes, HasTooManyTiles}

pub mapped_more : {X Y : Type 0} (f : X → Y) (xs : List X) (i : ℕ) (d : X) (before after : List Y) (y : Y) → i < length xs → before ≡ map f (take i xs) → y ≡ f (get_or xs i d) → after ≡ before ++ y ∷ [] → after ≡ map f (take (i + 1) xs)
mapped_more f xs i d before after y within so_far is put =
    put ∙ ap (λ ys. ys ++ y ∷ []) so_far ∙ ap (λ z. map f (take i xs) ++ z ∷ []) is ∙ sym (ap (map f) (take_more xs i d within) ∙ map-append f (take i xs) (get_or xs i d ∷ []))

pub count_more : (nets : List Net) (i : ℕ) (d : Net) → i < length nets → node_count (take (i + 1) nets) ≡ node_count (take i nets) + length (nodes_of (get_or nets i d))
unfolding node_count
count_more nets i d within =
    let all : sum_by (λ net. length (nodes_of net)) (take (i + 1) nets) ≡ sum_by (λ net. length (nodes_of net)) (take i nets ++ get_or nets i d ∷ []) = ap (sum_by (λ net. length (nodes_of net))) (take_more nets i d within) in
    let parts = sum_by-append (λ net. length (nodes_of net)) (take i nets) (get_or nets i d ∷ []) in
    omega (arith, all, parts)

pub room_left : (nets : List Net) (i : ℕ) (d : Net) (room after n : ℕ) → i < length nets → room + node_count (take i nets) ≡ 2 ^ 22 → n ≡ length (nodes_of (get_or nets i d)) → after + n ≡ room → after + node_count (take (i + 1) nets) ≡ 2 ^ 22
room_left nets i d room after n within so_far is left = let more = count_more nets i d within in omega (arith, so_far, is, left, more)

pub all_nodes_counted : (nets : List Net) (i room : ℕ) → length nets ≤ i → room + node_count (take i nets) ≡ 2 ^ 22 → 2 ^ 22 - room ≡ node_count nets
all_nodes_counted nets i room past so_far =
    let all : node_count (take i nets) ≡ node_count nets = ap node_count (take_all i nets past) in
    omega (arith, so_far, all)

pub too_many_nodes : (nets : List Net) (i : ℕ) (d : Net) (room : ℕ) (fault : Fault) → i < length nets → room + node_count (take i nets) ≡ 2 ^ 22 → IsNodesFault room (get_or nets i d) fault → HaveTooManyNodes nets fault
unfolding node_count
too_many_nodes nets i d room (Refused r) within so_far is =
    let all = sum_by_more_le (λ net. length (nodes_of net)) nets i d within in
    let more = is.1 in
    (is.0, omega (arith, so_far, all, more))
too_many_nodes nets i d room NoMemory within so_far is = tt

-- one net's tiles are too many, so all are
pub too_many_tiles : (drawn : List DrawnNet) (i : ℕ) (e : DrawnNet) (count more : ℕ) (fault : Fault) → i < length drawn → count ≡ tile_total (take i drawn) → more ≡ tiles_counted (get_or drawn i e) → HasTooManyTiles count more fault → HasTooManyTiles 0 (tile_total drawn) fault
unfolding tile_total
too_many_tiles drawn i e count more (Refused r) within so_far is too =
    let all = sum_by_more_le tiles_counted drawn i e within in
    let over = too.1 in
    (too.0, omega (arith, so_far, is, all, over))
too_many_tiles drawn i e count more NoMemory within so_far is too = tt

-- ---- nets of a layout

pub own_tied : (wired : Wired) (nets : List Net) (i : ℕ) (net : Net) → IsLayout wired → nets ≡ wired.nets → i < length nets → net ≡ get_or nets i net → IsTied net
own_tied wired nets i net facts all within is =
    let count : length nets ≡ length wired.nets = ap length all in
    subst IsTied (sym (is ∙ ap (λ ns. get_or ns i net) all)) (facts.tied i net (omega (arith, count, within)))

pub grounded_formed : (wired : Wired) (grounded : List Net) (i : ℕ) (net : Net) → IsLayout wired → grounded ≡ wired.grounded → i < length grounded → net ≡ get_or grounded i net → IsWellFormed net
grounded_formed wired grounded i net facts all within is =
    let count : length grounded ≡ length wired.grounded = ap length all in
    let belongs = facts.grounded i net (omega (arith, count, within)) in
    subst IsWellFormed (sym (is ∙ ap (λ ns. get_or ns i net) all)) belongs.formed

pub nodes_in_order : (net : Net) (nodes : List Node) → IsTied net → nodes ≡ nodes_of net → AreInOrder nodes
nodes_in_order net nodes tied is = subst AreInOrder (sym is) (nodes_are net tied.formed.items).order

pub few_nodes : (wired : Wired) (nets : List Net) (i : ℕ) (net : Net) (nodes : List Node) → nets ≡ wired.nets → i < length nets → net ≡ get_or nets i net → node_count wired.nets ≤ 2 ^ 22 → nodes ≡ nodes_of net → length nodes ≤ 2 ^ 22
unfolding node_count
few_nodes wired nets i net nodes all within is few are =
    let most = sum_by_more_le (λ (n : Net). length (nodes_of n)) nets i net within in
    let same : sum_by (λ (n : Net). length (nodes_of n)) nets ≡ sum_by (λ (n : Net). length (nodes_of n)) wired.nets = ap (sum_by (λ (n : Net). length (nodes_of n))) all in
    let here : length (nodes_of (get_or nets i net)) ≡ length (nodes_of net) = ap (λ (n : Net). length (nodes_of n)) (sym is) in
    let long : length nodes ≡ length (nodes_of net) = ap length are in
    omega (arith, most, same, here, long, few)
