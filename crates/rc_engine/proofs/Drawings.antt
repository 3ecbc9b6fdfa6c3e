-- The drawn nets of a layout by their numbers, and their tiles one net after another.
use Rattle.std.proofs.Common.{◌≡◌, ◌<◌, ◌≤◌, ◌+◌, ◌-◌, ℕ, List, [], ◌∷◌, ◌++◌, map, length, get_or, take, refl, ap, sym, subst, ◌∙◌, ◌^◌, arith}
use Rattle.std.specs.Prelude.{Some, slice_get}
use Rattle.std.specs.List.{enumerate_from, flat_map, sum_by}
use Rattle.std.proofs.lemmas.List.{take_all, take_more, append-nil, get_or_append_left, get_or-append-add, get_or-map, length-map, length-append}
use Rattle.std.proofs.lemmas.List.FromFn.{get_or-enumerate_from, length-enumerate_from}
use Rattle.std.proofs.lemmas.List.Sums.{sum_by-append}
use Rattle.std.proofs.lemmas.Grind.{flat_map-append}
use Rattle.std.proofs.lemmas.Option.{slice_get-get_or, slice_get_within, get_or_from_slice_get}
use Rattle.rc_geom.specs.declared.tile.Tile.{Tile}
use Rattle.rc_layout.specs.declared.net.Net.{Net}
use Rattle.rc_layout.specs.Layouts.{Wired}
use Rattle.rc_nodes.specs.declared.node.Node.{Node}
use Rattle.rc_nodes.specs.Nodes.{nodes_of}
use Rattle.rc_nodes.specs.LayoutPlane.{DrawnNet, own_net, grounded_net, drawn_nets}
use Rattle.rc_keys.specs.declared.fault.Fault.{Fault}
use Rattle.rc_engine.specs.Windows.{tiles_of, layout_tiles}
use Rattle.rc_engine.specs.Start.{tiles_counted, tile_total}
use Rattle.rc_engine.specs.Measured.{AreMeasured, AreTilesWithin, HasTooManyTiles}
use Rattle.rc_engine.proofs.Measures.{too_many_tiles}

mapped_length : (f : ℕ × Net → DrawnNet) (n : ℕ) (nets : List Net) → length (map f (enumerate_from n nets)) ≡ length nets
mapped_length f n nets = length-map (enumerate_from n nets) f ∙ length-enumerate_from n nets

mapped_at : (f : ℕ × Net → DrawnNet) (n i : ℕ) (nets : List Net) (d : Net) (e : DrawnNet) → i < length nets → get_or (map f (enumerate_from n nets)) i e ≡ f (n + i, get_or nets i d)
mapped_at f n i nets d e within =
    let long = length-enumerate_from n nets in
    get_or-map f (enumerate_from n nets) i (0, d) e (omega (arith, long, within)) ∙ ap f (get_or-enumerate_from n nets i (0, d) within)

pub drawn_length : (wired : Wired) → length (drawn_nets wired) ≡ length wired.nets + length wired.grounded
unfolding drawn_nets
drawn_length wired =
    let all = length-append (map own_net (enumerate_from 0 wired.nets)) (map grounded_net (enumerate_from (length wired.nets) wired.grounded)) in
    let own = mapped_length own_net 0 wired.nets in
    let rest = mapped_length grounded_net (length wired.nets) wired.grounded in
    omega (arith, all, own, rest)

from_nothing : (i : ℕ) → 0 + i ≡ i
from_nothing i = omega arith

drawn_is : (wired : Wired) → drawn_nets wired ≡ map own_net (enumerate_from 0 wired.nets) ++ map grounded_net (enumerate_from (length wired.nets) wired.grounded)
unfolding drawn_nets
drawn_is wired = refl

-- a net of its own stands at its number
pub own_at : (wired : Wired) (i : ℕ) (d : Net) (e : DrawnNet) → i < length wired.nets → get_or (drawn_nets wired) i e ≡ own_net (i, get_or wired.nets i d)
own_at wired i d e within =
    let long = mapped_length own_net 0 wired.nets in
    ap (λ ds. get_or ds i e) (drawn_is wired)
    ∙ get_or_append_left (map own_net (enumerate_from 0 wired.nets)) (map grounded_net (enumerate_from (length wired.nets) wired.grounded)) e i (omega (arith, long, within))
    ∙ mapped_at own_net 0 i wired.nets d e within
    ∙ ap (λ n. own_net (n, get_or wired.nets i d)) (from_nothing i)

grounded_place : (n i : ℕ) → n ≤ i → n + (i - n) ≡ i
grounded_place n i le = omega (arith, le)

-- a grounded one behind them
pub grounded_at : (wired : Wired) (i : ℕ) (d : Net) (e : DrawnNet) → length wired.nets ≤ i → i < length wired.nets + length wired.grounded →
    get_or (drawn_nets wired) i e ≡ grounded_net (i, get_or wired.grounded (i - length wired.nets) d)
grounded_at wired i d e past within =
    let own = map own_net (enumerate_from 0 wired.nets) in
    let rest = map grounded_net (enumerate_from (length wired.nets) wired.grounded) in
    let long = mapped_length own_net 0 wired.nets in
    let place : length own + (i - length wired.nets) ≡ i = omega (arith, long, past) in
    ap (λ ds. get_or ds i e) (drawn_is wired)
    ∙ sym (ap (λ n. get_or (own ++ rest) n e) place)
    ∙ get_or-append-add own rest (i - length wired.nets) e
    ∙ mapped_at grounded_net (length wired.nets) (i - length wired.nets) wired.grounded d e (omega (arith, past, within))
    ∙ ap (λ n. grounded_net (n, get_or wired.grounded (i - length wired.nets) d)) (grounded_place (length wired.nets) i past)

-- one net more is measured
pub measured_more : (drawn : List DrawnNet) (i : ℕ) (e : DrawnNet) (tiles after : List Tile) (count all : ℕ) → i < length drawn → AreMeasured (take i drawn) tiles count →
    after ≡ tiles ++ tiles_of (get_or drawn i e) → all ≡ count + tiles_counted (get_or drawn i e) → length (tiles_of (get_or drawn i e)) ≤ tiles_counted (get_or drawn i e) → AreMeasured (take (i + 1) drawn) after all
unfolding tile_total
measured_more drawn i e tiles after count all within so_far put adds few =
    let net = get_or drawn i e in
    let long : length after ≡ length tiles + length (tiles_of net) = ap length put ∙ length-append tiles (tiles_of net) in
    let least = so_far.least in
    record {
      are = put ∙ ap (λ (ts : List Tile). ts ++ tiles_of net) so_far.are
          ∙ ap (λ (ts : List Tile). flat_map tiles_of (take i drawn) ++ ts) (sym (append-nil (tiles_of net)))
          ∙ sym (flat_map-append tiles_of (take i drawn) (net ∷ []))
          ∙ ap (flat_map tiles_of) (sym (take_more drawn i e within));
      counted =
          let sum : sum_by tiles_counted (take (i + 1) drawn) ≡ sum_by tiles_counted (take i drawn ++ net ∷ []) = ap (sum_by tiles_counted) (take_more drawn i e within) in
          let parts = sum_by-append tiles_counted (take i drawn) (net ∷ []) in
          let before = so_far.counted in
          omega (arith, sum, parts, before, adds);
      least = omega (arith, long, adds, few, least);
    }

-- ---- as the code finds them

at_default : {X : Type 0} (xs : List X) (i : ℕ) (x : X) → x ≡ get_or xs i x → get_or xs i x ≡ x
at_default xs i x is = sym is

pub nodes_at : (nets : List Net) (lists : List (List Node)) (i : ℕ) (net : Net) (list nodes : List Node) → i < length nets → net ≡ get_or nets i net → lists ≡ map nodes_of nets → list ≡ get_or lists i list → nodes ≡ list → nodes ≡ nodes_of net
nodes_at nets lists i net list nodes within is are at same =
    same ∙ at ∙ ap (λ ls. get_or ls i list) are ∙ get_or-map nodes_of nets i net list within ∙ ap nodes_of (sym is)

pub nodes_there : (nets : List Net) (lists : List (List Node)) (i : ℕ) (net : Net) (list nodes : List Node) → slice_get nets i ≡ Some net → lists ≡ map nodes_of nets → list ≡ get_or lists i list → nodes ≡ list → nodes ≡ nodes_of net
nodes_there nets lists i net list nodes there are at same = nodes_at nets lists i net list nodes (slice_get_within nets i net there) (sym (get_or_from_slice_get nets i net net there)) are at same

pub own_nodes_are : (wired : Wired) (nets : List Net) (lists : List (List Node)) (i : ℕ) (net : Net) (list nodes : List Node) → nets ≡ wired.nets → i < length nets → net ≡ get_or nets i net → lists ≡ map nodes_of wired.nets →
    list ≡ get_or lists i list → nodes ≡ list → nodes ≡ nodes_of net
own_nodes_are wired nets lists i net list nodes all within is are at same = nodes_at nets lists i net list nodes within is (are ∙ ap (map nodes_of) (sym all)) at same

pub own_drawn : (wired : Wired) (nets : List Net) (lists : List (List Node)) (i : ℕ) (net : Net) (list nodes : List Node) → nets ≡ wired.nets → i < length nets → net ≡ get_or nets i net → lists ≡ map nodes_of wired.nets →
    list ≡ get_or lists i list → nodes ≡ list → slice_get (drawn_nets wired) i ≡ Some (record { number = i; nodes = nodes; items = net.items })
own_drawn wired nets lists i net list nodes all within is are at same =
    let e : DrawnNet = record { number = i; nodes = nodes; items = net.items } in
    let long = drawn_length wired in
    let count : length nets ≡ length wired.nets = ap length all in
    let here : get_or wired.nets i net ≡ net = ap (λ ns. get_or ns i net) (sym all) ∙ sym is in
    let found = nodes_at nets lists i net list nodes within is (are ∙ ap (map nodes_of) (sym all)) at same in
    slice_get-get_or (drawn_nets wired) i e (omega (arith, long, count, within))
    ∙ ap Some (own_at wired i net e (omega (arith, count, within)) ∙ ap (λ n. own_net (i, n)) here ∙ ap (λ (ns : List Node). record { number = i; nodes = ns; items = net.items }) (sym found))

pub grounded_within : (wired : Wired) (nets grounded : List Net) (i : ℕ) → nets ≡ wired.nets → grounded ≡ wired.grounded → length nets ≤ i → i < length (drawn_nets wired) → i - length nets < length grounded
grounded_within wired nets grounded i all rest past within =
    let long = drawn_length wired in
    let count : length nets ≡ length wired.nets = ap length all in
    let more : length grounded ≡ length wired.grounded = ap length rest in
    omega (arith, long, count, more, past, within)

pub grounded_drawn : (wired : Wired) (nets grounded : List Net) (i : ℕ) (net : Net) → nets ≡ wired.nets → grounded ≡ wired.grounded → length nets ≤ i → i < length (drawn_nets wired) → net ≡ get_or grounded (i - length nets) net →
    slice_get (drawn_nets wired) i ≡ Some (record { number = i; nodes = []; items = net.items })
grounded_drawn wired nets grounded i net all rest past within is =
    let e : DrawnNet = record { number = i; nodes = []; items = net.items } in
    let long = drawn_length wired in
    let count : length nets ≡ length wired.nets = ap length all in
    let here : get_or wired.grounded (i - length wired.nets) net ≡ net = ap (λ ns. get_or ns (i - length wired.nets) net) (sym rest) ∙ ap (λ n. get_or grounded (i - n) net) (sym count) ∙ sym is in
    slice_get-get_or (drawn_nets wired) i e within
    ∙ ap Some (grounded_at wired i net e (omega (arith, count, past)) (omega (arith, long, within)) ∙ ap (λ n. grounded_net (i, n)) here)

pub none_measured : (tiles : List Tile) → tiles ≡ [] → AreMeasured [] tiles 0
unfolding tile_total
none_measured tiles none = record { are = none; counted = refl; least = let long : length tiles ≡ 0 = ap length none in omega (arith, long) }

pub drawn_more : (drawn : List DrawnNet) (i : ℕ) (x : DrawnNet) (tiles after : List Tile) (count all : ℕ) → slice_get drawn i ≡ Some x → AreMeasured (take i drawn) tiles count →
    after ≡ tiles ++ tiles_of x → all ≡ count + tiles_counted x → length (tiles_of x) ≤ tiles_counted x → AreMeasured (take (i + 1) drawn) after all
drawn_more drawn i x tiles after count all at so_far put adds few =
    let is : x ≡ get_or drawn i x = sym (get_or_from_slice_get drawn i x x at) in
    measured_more drawn i x tiles after count all (slice_get_within drawn i x at) so_far
    (put ∙ ap (λ net. tiles ++ tiles_of net) is) (adds ∙ ap (λ net. count + tiles_counted net) is)
    (subst (λ net. length (tiles_of net) ≤ tiles_counted net) is few)

pub drawn_too_many : (drawn : List DrawnNet) (i : ℕ) (x : DrawnNet) (count : ℕ) (fault : Fault) → slice_get drawn i ≡ Some x → count ≡ tile_total (take i drawn) → HasTooManyTiles count (tiles_counted x) fault → HasTooManyTiles 0 (tile_total drawn) fault
drawn_too_many drawn i x count fault at so_far too =
    too_many_tiles drawn i x count (tiles_counted x) fault (slice_get_within drawn i x at) so_far (ap tiles_counted (sym (get_or_from_slice_get drawn i x x at))) too

pub all_measured : (drawn : List DrawnNet) (i : ℕ) (tiles : List Tile) (count : ℕ) → length drawn ≤ i → AreMeasured (take i drawn) tiles count → count ≤ 2 ^ 23 → AreTilesWithin drawn tiles
all_measured drawn i tiles count past so_far few =
    let all = subst (λ (ds : List DrawnNet). AreMeasured ds tiles count) (take_all i drawn past) so_far in
    let is = all.counted in
    let least = all.least in
    record { are = all.are; few = omega (arith, is, few); least = omega (arith, least, few) }

pub all_counted : (drawn : List DrawnNet) (i : ℕ) (tiles : List Tile) (count : ℕ) → length drawn ≤ i → AreMeasured (take i drawn) tiles count → count ≡ tile_total drawn
all_counted drawn i tiles count past so_far = so_far.counted ∙ ap tile_total (take_all i drawn past)

pub tiles_are : (wired : Wired) (tiles : List Tile) → AreTilesWithin (drawn_nets wired) tiles → tiles ≡ layout_tiles wired
unfolding layout_tiles
tiles_are wired tiles within = within.are
