-- The keys that faces of a window add to are of nodes of the layout.
use Rattle.std.proofs.Common.{◌≡◌, ◌<◌, ◌≤◌, ◌+◌, ◌⊎◌, inl, inr, ⊎_elim, ℕ, ℤ, Bool, true, false, cond, List, [], ◌∷◌, map, length, refl, ap, sym, subst, ◌∙◌, arith}
use Rattle.std.specs.Prelude.{Contains, Option, Some, None, MatchOption, All, int_lt, ◌==◌, option_map}
use Rattle.std.specs.Option.{option_map_or, option_and_then}
use Rattle.std.specs.List.{enumerate_from, range_with_len}
use Rattle.std.proofs.lemmas.Bool.{cases_lt, and_parts, eqb-true, true≢false}
use Rattle.std.proofs.lemmas.List.Elements.{Contains-append_cases}
use Rattle.rc_fixed.proofs.Members.{none_in, at_head, in_tail, head_or_tail, in_filter, in_map, map_has, in_flat_map, flat_map_has}
use Rattle.rc_fixed.proofs.Tests.{nat_eq_passes}
use Rattle.rc_geom.specs.declared.rect.Pt.{Pt}
use Rattle.rc_geom.specs.declared.rect.Rect.{Rect}
use Rattle.rc_geom.specs.declared.tile.Tile.{Tile}
use Rattle.rc_geom.specs.declared.key.Key.{Key}
use Rattle.rc_geom.specs.declared.key.Key.TheVariants.{Ground}
use Rattle.rc_geom.specs.Rects.{covers}
use Rattle.rc_geom.specs.Plane.{Metal, Plane, claims, owner, plane_of}
use Rattle.rc_geom.specs.Line.{ray, line_of, square_of, at_distance}
use Rattle.rc_geom.specs.Faces.{Face, Seen}
use Rattle.rc_geom.specs.Rates.{Rates, rate_of}
use Rattle.rc_geom.specs.Parts.{node_key, pair_key, shared_key, foreign_metal, parts, worth_at}
use Rattle.rc_geom.specs.Sums.{numbers}
use Rattle.rc_geom.specs.Extraction.{face_of, parts_of, count_in, key_count}
use Rattle.rc_geom.specs.Laws.{IsOwner}
use Rattle.rc_geom.proofs.Areas.{numbers_are_neutral}
use Rattle.rc_geom.proofs.Entries.{square_some}
use Rattle.rc_geom.proofs.KeyTests.{one_key}
use Rattle.rc_geom.proofs.Owners.{owners_are_least}
use Rattle.rc_geom.proofs.Rays.{face_tells, end_tells, ray-start, sight_tells}
use Rattle.rc_geom.proofs.Words.{is_key, two_parts}
use Rattle.rc_layout.specs.declared.item.Item.{Item}
use Rattle.rc_layout.specs.Items.{is_level, is_on}
use Rattle.rc_layout.specs.Layouts.{Wired}
use Rattle.rc_nodes.specs.declared.node.Node.{Node}
use Rattle.rc_nodes.specs.declared.line.Tap.{Tap}
use Rattle.rc_nodes.specs.Lines.{tap_of}
use Rattle.rc_nodes.specs.Nodes.{nodes_of, numbered}
use Rattle.rc_nodes.specs.NetPlane.{nodes_on}
use Rattle.rc_nodes.specs.Shares.{Share, share, share_end, shares, shares_from, first_end, last_end, share_tile, item_tiles, net_tiles}
use Rattle.rc_nodes.specs.LayoutPlane.{DrawnNet, own_net, grounded_net, drawn_nets}
use Rattle.rc_engine.specs.Extraction.{own_nodes, numbered_nets}
use Rattle.rc_engine.specs.Totals.{all_nodes, IsKey}
use Rattle.rc_engine.specs.Windows.{layout_tiles}
use Rattle.rc_engine.proofs.Totals.{pair_is_key}
use Rattle.rc_engine.proofs.Sweepable.{net_of_tile}

some_one : {X : Type 0} (a b : X) → Some a ≡ Some b → a ≡ b
some_one a b same = cc

none_some : {X : Type 0} (a : X) → None ≡ Some a → ⊥
none_some a same = cc

-- ---- the node of a share

abbrev node_of : Tap → ℕ
node_of tap = tap.node

share_node : (node : ℕ) (from to : ℤ) (part : Share) → Contains (share node from to) part → part.node ≡ node
share_node node from to part h = by (int_lt from to) h
  where
    one : Share
    one = record { node = node; from = from; to = to }

    by : (b : Bool) → Contains (cond b (one ∷ []) []) part → part.node ≡ node
    by true there = ⊎_elim (λ (here : one ≡ part). ap (λ (s : Share). s.node) (sym here)) (λ (none : Contains [] part). absurd (none_in part none)) (head_or_tail one [] part there)
    by false there = absurd (none_in part there)

from_taps : (from end : ℤ) (taps : List Tap) (part : Share) → Contains (shares_from from end taps) part → Contains (map node_of taps) part.node
from_taps from end [] part h = absurd (none_in part h)
from_taps from end (tap ∷ later) part h =
    let to = share_end end tap later in
    ⊎_elim
    (λ (here : Contains (share tap.node from to) part). at_head tap.node (map node_of later) part.node (sym (share_node tap.node from to part here)))
    (λ (there : Contains (shares_from to end later) part). in_tail tap.node (map node_of later) part.node (from_taps to end later part there))
    (Contains-append_cases (share tap.node from to) (shares_from to end later) part h)

of_shares : (from end : ℤ) (taps : List Tap) (part : Share) → Contains (shares from end taps) part → (part.node ≡ 0) ⊎ Contains (map node_of taps) part.node
of_shares from end [] part h = inl (share_node 0 from end part h)
of_shares from end (tap ∷ later) part h = inr (from_taps from end (tap ∷ later) part h)

-- ---- the node of a tile

number_in_range : {X : Type 0} (a : ℕ) (xs : List X) (e : ℕ × X) → Contains (enumerate_from a xs) e → Contains (range_with_len a (length xs)) e.0
number_in_range a [] e h = absurd (none_in e h)
number_in_range {X} a (x ∷ xs) e h = ⊎_elim
    (λ (here : (a, x) ≡ e). at_head a (range_with_len (a + 1) (length xs)) e.0 (ap (λ (m : ℕ × X). m.0) here))
    (λ (there : Contains (enumerate_from (a + 1) xs) e). in_tail a (range_with_len (a + 1) (length xs)) e.0 (number_in_range (a + 1) xs e there))
    (head_or_tail (a, x) (enumerate_from (a + 1) xs) e h)

-- a tap on an item has the number of a node
tap_number : (nodes : List Node) (item : Item) (n : ℕ) → Contains (map node_of (map (tap_of (is_level item)) (nodes_on nodes item))) n → Contains (range_with_len 1 (length nodes)) n
tap_number nodes item n h =
    let tap = in_map node_of (map (tap_of (is_level item)) (nodes_on nodes item)) n h in
    let on' = in_map (tap_of (is_level item)) (nodes_on nodes item) tap.0 tap.1 in
    let node = in_filter (λ (m : ℕ × Node). is_on item m.1.layer m.1.at) (numbered nodes) on'.0 on'.1 in
    let is : on'.0.0 ≡ n = ap node_of on'.2 ∙ tap.2 in
    subst (Contains (range_with_len 1 (length nodes))) is (number_in_range 1 nodes on'.0 node.0)

-- a tile of a net has the net's number, and is grounded or has the number of a node
record IsNumbered (number : ℕ) (nodes : List Node) (tile : Tile) : Type 0 where
  net : tile.net ≡ number
  node : (tile.node ≡ 0) ⊎ Contains (range_with_len 1 (length nodes)) tile.node

tile_is_numbered : (number : ℕ) (nodes : List Node) (items : List Item) (tile : Tile) → Contains (net_tiles number nodes items) tile → IsNumbered number nodes tile
unfolding net_tiles
tile_is_numbered number nodes items tile h =
    let item = in_flat_map (item_tiles number nodes) (enumerate_from 0 items) tile h in
    let rank = item.0.0 in
    let one = item.0.1 in
    let taps = map (tap_of (is_level one)) (nodes_on nodes one) in
    let part = in_map (share_tile number rank one) (shares (first_end one) (last_end one) taps) tile item.2 in
    subst (IsNumbered number nodes) part.2 (record {
      net = refl;
      node = ⊎_elim (λ (none : part.0.node ≡ 0). inl none) (λ (some : Contains (map node_of taps) part.0.node). inr (tap_number nodes one part.0.node some)) (of_shares (first_end one) (last_end one) taps part.0 part.1);
    })

-- a tile that isn't grounded is of a node of the layout
tile_node : (wired : Wired) (tile : Tile) → Contains (layout_tiles wired) tile → (tile.node ≡ 0 → ⊥) → Contains (all_nodes wired) (tile.net, tile.node)
unfolding all_nodes drawn_nets
tile_node wired tile h some =
    let own = enumerate_from 0 wired.nets in
    let grounded = enumerate_from (length wired.nets) wired.grounded in
    let net = net_of_tile wired tile h in
    let is = tile_is_numbered net.0.number net.0.nodes net.0.items tile net.2 in
    let node : Contains (range_with_len 1 (length net.0.nodes)) tile.node = ⊎_elim (λ (none : tile.node ≡ 0). absurd (some none)) (λ (there : Contains (range_with_len 1 (length net.0.nodes)) tile.node). there) is.node in
    ⊎_elim
    (λ (of_own : Contains (map own_net own) net.0).
    let e = in_map own_net own net.0 of_own in
    let there : Contains (range_with_len 1 (length (nodes_of e.0.1))) tile.node = subst (λ (n : DrawnNet). Contains (range_with_len 1 (length n.nodes)) tile.node) (sym e.2) node in
    let number : e.0.0 ≡ tile.net = ap (λ (n : DrawnNet). n.number) e.2 ∙ sym is.net in
    flat_map_has own_nodes (numbered_nets wired) e.0 (tile.net, tile.node) e.1
    (subst (λ (n : ℕ). Contains (own_nodes e.0) (n, tile.node)) number (map_has (λ (node : ℕ). (e.0.0, node)) (range_with_len 1 (length (nodes_of e.0.1))) tile.node there)))
    (λ (of_grounded : Contains (map grounded_net grounded) net.0).
    let e = in_map grounded_net grounded net.0 of_grounded in
    absurd (none_in tile.node (subst (λ (n : DrawnNet). Contains (range_with_len 1 (length n.nodes)) tile.node) (sym e.2) node)))
    (Contains-append_cases (map own_net own) (map grounded_net grounded) net.0 net.1)

-- ---- the metal of a square

-- it is that of a tile of the layer
pub metal_tile : (tiles : List Tile) (layer : ℕ) (p : Pt) (m : Metal) → plane_of tiles layer p ≡ Some m → (t : Tile) × Contains tiles t × (t.layer ≡ layer) × ((t.net, t.node) ≡ m)
metal_tile tiles layer p m h = by (owner tiles layer p) (owners_are_least tiles layer p) h
  where
    by : (o : Option Tile) → MatchOption o (All (λ u. claims layer p u ≡ false) tiles) (IsOwner tiles layer p) → option_map {U = Metal} (λ (t : Tile). (t.net, t.node)) o ≡ Some m →
        (t : Tile) × Contains tiles t × (t.layer ≡ layer) × ((t.net, t.node) ≡ m)
    by None told is = absurd (none_some m is)
    by (Some t) told is =
        let on' = and_parts (t.layer == layer) (covers t.rect p) told.covering in
        (t, told.member, eqb-true t.layer layer on'.0, some_one (t.net, t.node) m is)

-- metal of some nodes: where it isn't grounded, it is one of them
abbrev pub HasNodes : Wired → Plane → Type 0
HasNodes wired plane = (layer : ℕ) (p : Pt) (m : Metal) → plane layer p ≡ Some m → (m.1 ≡ 0 → ⊥) → Contains (all_nodes wired) m

pub tiles_have_nodes : (wired : Wired) (tiles : List Tile) → ((t : Tile) → Contains tiles t → Contains (layout_tiles wired) t) → HasNodes wired (plane_of tiles)
tiles_have_nodes wired tiles among layer p m h some =
    let t = metal_tile tiles layer p m h in
    let node : t.0.node ≡ m.1 = ap (λ (a : Metal). a.1) t.3 in
    subst (Contains (all_nodes wired)) t.3 (tile_node wired t.0 (among t.0 t.1) (λ none. some (sym node ∙ none)))

-- ---- the keys of a face

-- the metal has a node, unless it is grounded
abbrev HasNode : Wired → Metal → Type 0
HasNode wired m = (m.1 ≡ 0 → ⊥) → Contains (all_nodes wired) m

ungrounded : (m : Metal) → (m.1 == 0) ≡ false → m.1 ≡ 0 → ⊥
ungrounded m h none = true≢false (sym (nat_eq_passes m.1 0 none) ∙ h)

own_key : (wired : Wired) (m : Metal) (key : Key) → HasNode wired m → node_key m ≡ Some key → IsKey wired key
own_key wired m key has h = by (m.1 == 0) refl
  where
    by : (b : Bool) → (m.1 == 0) ≡ b → IsKey wired key
    by true is = absurd (none_some key (sym (ap (λ (b : Bool). cond b None (Some (Ground m.0 m.1))) is) ∙ h))
    by false is = subst (IsKey wired) (some_one (Ground m.0 m.1) key (sym (ap (λ (b : Bool). cond b None (Some (Ground m.0 m.1))) is) ∙ h)) (has (ungrounded m is))

two_key : (wired : Wired) (a b : Metal) (key : Key) → (a.0 ≡ b.0 → ⊥) → HasNode wired a → HasNode wired b → shared_key a b ≡ Some key → IsKey wired key
two_key wired a b key differ has_a has_b h = by (b.1 == 0) (a.1 == 0) refl refl
  where
    of : Bool → Bool → Option Key
    of s t = cond s (node_key a) (cond t (node_key b) (Some (pair_key a b)))

    by : (s t : Bool) → (b.1 == 0) ≡ s → (a.1 == 0) ≡ t → IsKey wired key
    by true t of_b of_a = own_key wired a key has_a (sym (ap (λ (s : Bool). of s (a.1 == 0)) of_b) ∙ h)
    by false true of_b of_a = own_key wired b key has_b (sym (ap (λ (s : Bool). of s (a.1 == 0)) of_b ∙ ap (of false) of_a) ∙ h)
    by false false of_b of_a =
        subst (IsKey wired) (some_one (pair_key a b) key (sym (ap (λ (s : Bool). of s (a.1 == 0)) of_b ∙ ap (of false) of_a) ∙ h))
        (pair_is_key wired a b differ (has_a (ungrounded a of_a)) (has_b (ungrounded b of_b)))

-- what a face sees of another net
record IsForeign (own : Metal) (sight : Option Seen) (b : Metal) : Type 0 where
  gap : ℕ
  seen : sight ≡ Some (gap, b)
  differ : own.0 ≡ b.0 → ⊥

foreign_tells : (own : Metal) (sight : Option Seen) (b : Metal) → foreign_metal own sight ≡ Some b → IsForeign own sight b
foreign_tells own None b h = absurd (none_some b h)
foreign_tells own (Some s) b h = by (s.1.0 == own.0) refl
  where
    by : (t : Bool) → (s.1.0 == own.0) ≡ t → IsForeign own (Some s) b
    by true is = absurd (none_some b (sym (ap (λ (t : Bool). cond t None (Some s.1)) is) ∙ h))
    by false is =
        let same : s.1 ≡ b = some_one s.1 b (sym (ap (λ (t : Bool). cond t None (Some s.1)) is) ∙ h) in
        record {
          gap = s.0;
          seen = ap (λ (m : Metal). Some (s.0, m)) same;
          differ = λ one. true≢false (sym (nat_eq_passes s.1.0 own.0 (ap (λ (m : Metal). m.0) same ∙ sym one)) ∙ is);
        }

seen_key : (wired : Wired) (own : Metal) (sight : Option Seen) (key : Key) → HasNode wired own → ((b : Metal) → IsForeign own sight b → HasNode wired b) →
    option_and_then (shared_key own) (foreign_metal own sight) ≡ Some key → IsKey wired key
seen_key wired own sight key has others h = by (foreign_metal own sight) refl h
  where
    by : (o : Option Metal) → foreign_metal own sight ≡ o → option_and_then (shared_key own) o ≡ Some key → IsKey wired key
    by None is k = absurd (none_some key k)
    by (Some b) is k = let foreign = foreign_tells own sight b is in two_key wired own b key foreign.differ has (others b foreign) k

key_tells : (key : Key) (o : Option Key) → is_key key o ≡ true → o ≡ Some key
key_tells key None h = absurd (true≢false (sym h))
key_tells key (Some k) h = ap Some (one_key k key h)

either_key : (a b : Bool) → 0 < cond a 1 0 + cond b 1 0 → (a ≡ true) ⊎ (b ≡ true)
either_key true b h = inl refl
either_key false true h = inr refl
either_key false false h = absurd (omega (arith, h))

face_key : {V : Type 0} (wired : Wired) (plane : Plane) (rates : Rates V) (axis layer : ℕ) (at along : ℤ) (up : Bool) (key : Key) (o : Option Face) → HasNodes wired plane → face_of plane rates axis layer at along up ≡ o →
    0 < worth_at numbers (λ _. 1) key (option_map_or (λ face. parts face (rate_of rates plane layer (square_of axis at along) face)) o []) → IsKey wired key
face_key wired plane rates axis layer at along up key None has is h = absurd (omega (arith, h))
face_key wired plane rates axis layer at along up key (Some face) has is h =
    let square = square_of axis at along in
    let line = line_of plane layer axis at in
    let told = face_tells (rates.cap layer) (rates.reach layer) line up along face is in
    let own : plane layer square ≡ Some face.own = sym (ray-start line up along) ∙ (end_tells (ray up line along) face.own told.0).0 in
    let rate = rate_of rates plane layer square face in
    let seen = option_and_then (shared_key face.own) (foreign_metal face.own face.sight) in
    let both = two_parts numbers (λ _. true) numbers_are_neutral (λ _. 1) key rate.0 rate.1 (node_key face.own) seen refl refl in
    ⊎_elim
    (λ (first : is_key key (node_key face.own) ≡ true). own_key wired face.own key (has layer square face.own own) (key_tells key (node_key face.own) first))
    (λ (second : is_key key seen ≡ true).
    seen_key wired face.own face.sight key (has layer square face.own own)
    (λ b foreign.
    let behind = sight_tells (rates.reach layer) (ray up line along) foreign.gap b (sym told.2 ∙ foreign.seen) in
    has layer (square_of axis at (at_distance up along (foreign.gap + 1))) b behind.behind)
    (key_tells key seen second))
    (either_key (is_key key (node_key face.own)) (is_key key seen) (subst (λ (n : ℕ). 0 < n) both h))

axis_key : {V : Type 0} (wired : Wired) (plane : Plane) (rates : Rates V) (axis : ℕ) (r : Rect) (key : Key) → HasNodes wired plane → 0 < count_in plane rates axis r key → IsKey wired key
axis_key wired plane rates axis r key has h =
    let found = square_some axis r (λ layer at along up. worth_at numbers (λ _. 1) key (parts_of plane rates axis layer at along up)) h in
    face_key wired plane rates axis found.0 found.1 found.2 found.3 key (face_of plane rates axis found.0 found.1 found.2 found.3) has refl found.5

-- a key to which a face adds is of nodes of the layout
pub counted_key : {V : Type 0} (wired : Wired) (plane : Plane) (rates : Rates V) (r : Rect) (key : Key) → HasNodes wired plane → 0 < key_count plane rates r key → IsKey wired key
counted_key wired plane rates r key has h = ⊎_elim
    (λ (some : 0 < count_in plane rates 0 r key). axis_key wired plane rates 0 r key has some)
    (λ (none : count_in plane rates 0 r key ≤ 0). axis_key wired plane rates 1 r key has (omega (arith, none, h)))
    (cases_lt 0 (count_in plane rates 0 r key))
