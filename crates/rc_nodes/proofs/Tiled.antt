-- The tiles of a net make its plane.
use Rattle.std.proofs.Common.{◌≡◌, ◌≤◌, ◌+◌, ℕ, ℤ, ◌<ℤ◌, Bool, true, false, cond, List, [], ◌∷◌, map, Option, Some, None, refl, ap, sym, ◌∙◌, subst, arith}
use Rattle.std.specs.Prelude.{int_lt, int_le, nat_lt, ◌&&◌, ◌==◌, option_map, find, IfSome}
use Rattle.std.specs.Option.{option_map_or, option_or}
use Rattle.std.specs.List.{best_of, flat_map, enumerate_from}
use Rattle.std.proofs.lemmas.Bool.Decides.{nat_tests}
use Rattle.rc_geom.specs.declared.rect.Pt.{Pt}
use Rattle.rc_geom.specs.declared.rect.Rect.{Rect}
use Rattle.rc_geom.specs.declared.tile.Tile.{Tile}
use Rattle.rc_geom.specs.Rects.{covers}
use Rattle.rc_geom.specs.Plane.{Metal, claims, owner, plane_of}
use Rattle.rc_geom.proofs.Bounds.{lt_passes}
use Rattle.rc_geom.proofs.Owners.{better, better_none, claim, owner-cons, owner-append}
use Rattle.rc_layout.specs.declared.item.Item.{Item}
use Rattle.rc_layout.specs.Items.{is_level, along}
use Rattle.rc_nodes.specs.declared.node.Node.{Node}
use Rattle.rc_nodes.specs.declared.line.Tap.{Tap}
use Rattle.rc_nodes.specs.Lines.{tap_of}
use Rattle.rc_nodes.specs.NetPlane.{nodes_on, is_nearer, nearest, node_at, is_over, first_over, net_plane}
use Rattle.rc_nodes.specs.Shares.{Share, share, shares, first_end, last_end, share_rect, share_tile, item_tiles, net_tiles}
use Rattle.rc_nodes.proofs.Nearest.{nearer, best_of-map}
use Rattle.rc_nodes.proofs.Parted.{within, has, node_of_share, Parts, share_is_nearest}

-- ---- the squares of a share

-- a square lies within the width of an item
abbrev pub spans : Item → Pt → Bool
spans item p = cond (is_level item) (int_le item.rect.y0 p.y && int_lt p.y item.rect.y1) (int_le item.rect.x0 p.x && int_lt p.x item.rect.x1)

and_swap : (a b : Bool) → (a && b) ≡ (b && a)
and_swap a b = grind arith

covers_by : (level : Bool) (r : Rect) (from to : ℤ) (p : Pt) →
    covers (cond level (record { x0 = from; y0 = r.y0; x1 = to; y1 = r.y1 }) (record { x0 = r.x0; y0 = from; x1 = r.x1; y1 = to })) p
    ≡ (within from to (cond level p.x p.y) && cond level (int_le r.y0 p.y && int_lt p.y r.y1) (int_le r.x0 p.x && int_lt p.x r.x1))
covers_by true r from to p = refl
covers_by false r from to p = and_swap (int_le r.x0 p.x && int_lt p.x r.x1) (within from to p.y)

pub covers_share : (item : Item) (from to : ℤ) (p : Pt) → covers (share_rect item from to) p ≡ (within from to (along item p) && spans item p)
covers_share item from to p = covers_by (is_level item) item.rect from to p

whole_by : (level : Bool) (r : Rect) → cond level (record { x0 = cond level r.x0 r.y0; y0 = r.y0; x1 = cond level r.x1 r.y1; y1 = r.y1 }) (record { x0 = r.x0; y0 = cond level r.x0 r.y0; x1 = r.x1; y1 = cond level r.x1 r.y1 }) ≡ r
whole_by true r = refl
whole_by false r = refl

pub covers_item : (item : Item) (p : Pt) → covers item.rect p ≡ (within (first_end item) (last_end item) (along item p) && spans item p)
covers_item item p = sym (ap (λ (r : Rect). covers r p) (whole_by (is_level item) item.rect)) ∙ covers_share item (first_end item) (last_end item) p

-- ---- the owner among the tiles of one item

-- the square is on the item's layer and within its width
abbrev near : Item → ℕ → Pt → Bool
near item layer p = (item.layer == layer) && spans item p

claims_share : (net rank : ℕ) (item : Item) (part : Share) (layer : ℕ) (p : Pt) → claims layer p (share_tile net rank item part) ≡ (near item layer p && has (along item p) part)
claims_share net rank item part layer p =
    ap (λ b. (item.layer == layer) && b) (covers_share item part.from part.to p) ∙ regroup (item.layer == layer) (within part.from part.to (along item p)) (spans item p)
  where
    regroup : (a b c : Bool) → (a && (b && c)) ≡ ((a && c) && b)
    regroup a b c = grind arith

-- of equal ranks the first stays
not_below : (a : ℕ) → nat_lt a a ≡ false
not_below a = grind (arith, nat_tests)

-- the tile of the share that has a place
abbrev tile_at : ℕ → ℕ → Item → ℤ → List Share → Option Tile
tile_at net rank item s parts = option_map (share_tile net rank item) (find (has s) parts)

keep_first : (net rank : ℕ) (item : Item) (part : Share) (s : ℤ) (parts : List Share) → better (Some (share_tile net rank item part)) (tile_at net rank item s parts) ≡ Some (share_tile net rank item part)
keep_first net rank item part s parts = kept (find (has s) parts)
  where
    kept : (o : Option Share) → better (Some (share_tile net rank item part)) (option_map (share_tile net rank item) o) ≡ Some (share_tile net rank item part)
    kept None = refl
    kept (Some other) = ap (λ b. Some (cond b (share_tile net rank item other) (share_tile net rank item part))) (not_below rank)

owner_of_shares : (net rank : ℕ) (item : Item) (layer : ℕ) (p : Pt) (parts : List Share) →
    owner (map (share_tile net rank item) parts) layer p ≡ cond (near item layer p) (tile_at net rank item (along item p) parts) None
owner_of_shares net rank item layer p [] = none (near item layer p)
  where
    none : (b : Bool) → None ≡ cond {A = Option Tile} b None None
    none true = refl
    none false = refl
owner_of_shares net rank item layer p (part ∷ parts) =
    let t = share_tile net rank item part in
    owner-cons layer p t (map (share_tile net rank item) parts)
    ∙ (ap (better (claim layer p t)) (owner_of_shares net rank item layer p parts)
    ∙ (ap (λ b. better (cond b (Some t) None) (cond (near item layer p) (tile_at net rank item (along item p) parts) None)) (claims_share net rank item part layer p)
    ∙ by_tests (near item layer p) (has (along item p) part)))
  where
    by_tests : (b c : Bool) → better (cond (b && c) (Some (share_tile net rank item part)) None) (cond b (tile_at net rank item (along item p) parts) None)
        ≡ cond b (option_map (share_tile net rank item) (cond c (Some part) (find (has (along item p)) parts))) None
    by_tests true true = keep_first net rank item part (along item p) parts
    by_tests true false = better_none (tile_at net rank item (along item p) parts)
    by_tests false c = refl

-- ---- and its metal

abbrev pub metal_of : Option Tile → Option Metal
metal_of o = option_map (λ t. (t.net, t.node)) o

-- the owner has that metal and that rank
pub record IsOwned (o : Option Tile) (own : ℕ) (found : Option Metal) : Type 0 where
  pub metal : metal_of o ≡ found
  pub rank : IfSome o (λ t. t.rank ≡ own)

owned_by_share : (net rank : ℕ) (item : Item) (b : Bool) (o : Option Share) (owning : Option ℕ) → node_of_share o ≡ owning →
    IsOwned (cond b (option_map (share_tile net rank item) o) None) rank (cond b (option_map (λ n. (net, n)) owning) None)
owned_by_share net rank item false o owning h = record { metal = refl; rank = tt }
owned_by_share net rank item true None owning h = record { metal = ap (option_map (λ n. (net, n))) h; rank = tt }
owned_by_share net rank item true (Some part) owning h = record { metal = ap (option_map (λ n. (net, n))) h; rank = refl }

-- the ends of an item, and the taps on it, are in order
abbrev pub InParts : Item → List Tap → Type 0
InParts item [] = first_end item <ℤ last_end item
InParts item (tap ∷ later) = Parts (first_end item) (last_end item) tap later

-- the taps of an item, by its nodes
abbrev pub taps_on : List Node → Item → List Tap
taps_on nodes item = map (tap_of (is_level item)) (nodes_on nodes item)

-- the node that a square has among taps
abbrev node_among : ℤ → List Tap → ℕ
node_among s [] = 0
node_among s (tap ∷ later) = (best_of (nearer s) tap later).node

node_of_whole : (s from end : ℤ) → from <ℤ end → node_of_share (find (has s) (share 0 from end)) ≡ cond (within from end s) (Some 0) None
node_of_whole s from end order = ap (λ b. node_of_share (find (has s) (cond b (record { node = 0; from = from; to = end } ∷ []) []))) (lt_passes from end order) ∙ chosen (within from end s)
  where
    chosen : (b : Bool) → node_of_share (cond b (Some (record { node = 0; from = from; to = end })) None) ≡ cond b (Some 0) None
    chosen true = refl
    chosen false = refl

share_of_place : (s from end : ℤ) (item : Item) (taps : List Tap) → from ≡ first_end item → end ≡ last_end item → InParts item taps →
    node_of_share (find (has s) (shares (first_end item) (last_end item) taps)) ≡ cond (within (first_end item) (last_end item) s) (Some (node_among s taps)) None
share_of_place s from end item [] f e h = node_of_whole s (first_end item) (last_end item) h
share_of_place s from end item (tap ∷ later) f e h = share_is_nearest s (first_end item) (last_end item) tap later h

among_is : (nodes : List Node) (item : Item) (p : Pt) → node_among (along item p) (taps_on nodes item) ≡ node_at nodes item p
among_is nodes item p = by (nodes_on nodes item)
  where
    along_by : (level : Bool) (n : ℕ × Node) → (tap_of level n).along ≡ cond level n.1.at.x n.1.at.y
    along_by level n = refl

    by : (ns : List (ℕ × Node)) → node_among (along item p) (map (tap_of (is_level item)) ns) ≡ option_map_or (λ numbered. numbered.0) (nearest item p ns) 0
    by [] = refl
    by (first ∷ others) = sym (ap (λ (tap : Tap). tap.node) (best_of-map (tap_of (is_level item)) (is_nearer item p) (nearer (along item p)) (λ x y. refl) first others))

-- the tiles of an item own its squares, each for its node
pub item_owned : (net : ℕ) (nodes : List Node) (rank : ℕ) (item : Item) (layer : ℕ) (p : Pt) → InParts item (taps_on nodes item) →
    IsOwned (owner (item_tiles net nodes (rank, item)) layer p) rank (cond (is_over layer p item) (Some (net, node_at nodes item p)) None)
item_owned net nodes rank item layer p h =
    let s = along item p in
    let parts = shares (first_end item) (last_end item) (taps_on nodes item) in
    let node = cond (within (first_end item) (last_end item) s) (Some (node_at nodes item p)) None in
    let place = share_of_place s (first_end item) (last_end item) item (taps_on nodes item) refl refl h
    ∙ ap (λ n. cond (within (first_end item) (last_end item) s) (Some n) None) (among_is nodes item p) in
    let owned = owned_by_share net rank item (near item layer p) (find (has s) parts) node place in
    let same : cond (near item layer p) (option_map (λ n. (net, n)) node) None ≡ cond (is_over layer p item) (Some (net, node_at nodes item p)) None =
    regroup (item.layer == layer) (within (first_end item) (last_end item) s) (spans item p) (node_at nodes item p)
    ∙ ap (λ b. cond ((item.layer == layer) && b) (Some (net, node_at nodes item p)) None) (sym (covers_item item p)) in
    subst (λ (o : Option Tile). IsOwned o rank (cond (is_over layer p item) (Some (net, node_at nodes item p)) None)) (sym (owner_of_shares net rank item layer p parts))
    (subst (IsOwned (cond (near item layer p) (tile_at net rank item s parts) None) rank) same owned)
  where
    regroup : (a b c : Bool) (n : ℕ) → cond (a && c) (option_map (λ n. (net, n)) (cond b (Some n) None)) None ≡ cond {A = Option Metal} (a && (b && c)) (Some (net, n)) None
    regroup true true true n = refl
    regroup true true false n = refl
    regroup true false true n = refl
    regroup true false false n = refl
    regroup false b c n = refl

-- ---- a whole net

-- each item is in order with the taps on it
abbrev pub AllInParts : List Node → List Item → Type 0
AllInParts nodes [] = Unit {0}
AllInParts nodes (item ∷ items) = InParts item (taps_on nodes item) × AllInParts nodes items

record IsOwnedFrom (o : Option Tile) (least : ℕ) (found : Option Metal) : Type 0 where
  metal : metal_of o ≡ found
  rank : IfSome o (λ t. least ≤ t.rank)

-- an earlier item's tile keeps the square
earlier_owns : (rank : ℕ) (one later : Option Tile) (first rest : Option Metal) → IsOwned one rank first → IsOwnedFrom later (rank + 1) rest → IsOwnedFrom (better one later) rank (option_or first rest)
earlier_owns rank None None first rest h k = record { metal = k.metal ∙ ap (λ m. option_or m rest) h.metal; rank = tt }
earlier_owns rank None (Some u) first rest h k = record { metal = k.metal ∙ ap (λ m. option_or m rest) h.metal; rank = omega (arith, k.rank) }
earlier_owns rank (Some t) None first rest h k = record { metal = ap (λ m. option_or m rest) h.metal; rank = omega (arith, h.rank) }
earlier_owns rank (Some t) (Some u) first rest h k =
    let keeps : nat_lt u.rank t.rank ≡ false = not_lower u.rank t.rank (omega (arith, h.rank, k.rank)) in
    subst (λ (o : Option Tile). IsOwnedFrom o rank (option_or first rest)) (sym (ap (λ b. Some (cond b u t)) keeps))
    (record { metal = ap (λ m. option_or m rest) h.metal; rank = omega (arith, h.rank) })
  where
    not_lower : (a b : ℕ) → b ≤ a → nat_lt a b ≡ false
    not_lower a b le = grind (arith, nat_tests)

-- what the first item over a square makes of it
abbrev pub metal_from : ℕ → List Node → List Item → ℕ → Pt → Option Metal
metal_from net nodes items layer p = option_map (λ item. (net, node_at nodes item p)) (first_over items layer p)

net_owned : (net : ℕ) (nodes : List Node) (rank : ℕ) (items : List Item) (layer : ℕ) (p : Pt) → AllInParts nodes items →
    IsOwnedFrom (owner (flat_map (item_tiles net nodes) (enumerate_from rank items)) layer p) rank (metal_from net nodes items layer p)
net_owned net nodes rank [] layer p h = record { metal = refl; rank = tt }
net_owned net nodes rank (item ∷ items) layer p h =
    let later = flat_map (item_tiles net nodes) (enumerate_from (rank + 1) items) in
    let one = item_owned net nodes rank item layer p h.0 in
    let rest = net_owned net nodes (rank + 1) items layer p h.1 in
    let both = earlier_owns rank (owner (item_tiles net nodes (rank, item)) layer p) (owner later layer p) (cond (is_over layer p item) (Some (net, node_at nodes item p)) None) (metal_from net nodes items layer p) one rest in
    subst (λ (o : Option Tile). IsOwnedFrom o rank (metal_from net nodes (item ∷ items) layer p)) (sym (owner-append layer p (item_tiles net nodes (rank, item)) later))
    (subst (IsOwnedFrom (better (owner (item_tiles net nodes (rank, item)) layer p) (owner later layer p)) rank) (chosen (is_over layer p item)) both)
  where
    chosen : (b : Bool) → option_or (cond b (Some (net, node_at nodes item p)) None) (metal_from net nodes items layer p) ≡ option_map (λ item. (net, node_at nodes item p)) (cond b (Some item) (first_over items layer p))
    chosen true = refl
    chosen false = refl

-- the tiles of a net make its plane
pub plane_is : (net : ℕ) (nodes : List Node) (items : List Item) → AllInParts nodes items → plane_of (net_tiles net nodes items) ≡ net_plane net nodes items
unfolding net_plane net_tiles
plane_is net nodes items h = λ i layer p. (net_owned net nodes 0 items layer p h).metal i
