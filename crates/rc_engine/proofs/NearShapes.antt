-- What the windows that an edit touches have near the new shapes is all that is near them.
use Rattle.std.proofs.Common.{◌≡◌, ◌≢◌, ◌<◌, ◌≤◌, ◌+◌, ◌-◌, ⊎_elim, ℕ, zero, suc, Bool, true, false, cond, List, [], ◌∷◌, ◌++◌, map, length, get_or, take, refl, ap, sym, subst, ◌∙◌, arith}
use Rattle.std.specs.Prelude.{All, Contains, Option, Some, None, ◌==◌, IfSome, MatchOption, option_map, slice_get}
use Rattle.std.specs.List.{cons_option, enumerate_from, filter_map, flat_map, list_any, range_with_len}
use Rattle.std.specs.Option.{option_and_then}
use Rattle.std.proofs.lemmas.Bool.{and_parts, and_from, eq-eqb, ne_eqb, true≢false, cases_lt}
use Rattle.std.proofs.lemmas.Int.{ints}
use Rattle.std.proofs.lemmas.List.{append_assoc, append-nil, get_or_append_left, get_or-append-add, get_or_default, length-append, take_more}
use Rattle.std.proofs.lemmas.List.Elements.{All-contains, filter_map-append, Contains-append_left, Contains-append_right, Contains-append_cases}
use Rattle.std.proofs.lemmas.Grind.{flat_map-append}
use Rattle.std.proofs.lemmas.List.Folds.{list_any-from_Any}
use Rattle.std.proofs.lemmas.List.FromFn.{get_or-range_with_len}
use Rattle.std.proofs.lemmas.Option.{slice_get-get_or, slice_get_within, get_or_from_slice_get, same_Some}
use Rattle.rc_fixed.proofs.Members.{none_in, at_head, in_tail, head_or_tail, map_has, in_map, filter_has, in_filter, flat_map_has, in_flat_map}
use Rattle.rc_geom.specs.declared.rect.Pt.{Pt}
use Rattle.rc_geom.specs.declared.rect.Rect.{Rect}
use Rattle.rc_geom.specs.declared.tile.Tile.{Tile}
use Rattle.rc_geom.specs.Rects.{covers, touches}
use Rattle.rc_geom.specs.Plane.{Metal, claims, owner}
use Rattle.rc_geom.proofs.Bounds.{covered, covers_from}
use Rattle.rc_geom.specs.Laws.{IsOwner}
use Rattle.rc_geom.proofs.Owners.{owners_are_least}
use Rattle.rc_rules.specs.RuleFile.{RuleFile}
use Rattle.rc_layout.specs.declared.item.Item.{Item}
use Rattle.rc_layout.specs.declared.net.Net.{Net}
use Rattle.rc_layout.specs.Items.{IsItem}
use Rattle.rc_layout.specs.Layouts.{Wired}
use Rattle.rc_layout.specs.Metal.{all_nets}
use Rattle.rc_nodes.specs.LayoutPlane.{DrawnNet, own_net, grounded_net, drawn_nets}
use Rattle.rc_nodes.specs.NetPlane.{is_over, node_at}
use Rattle.rc_nodes.specs.Shares.{item_tiles, net_tiles, LiesInItem}
use Rattle.rc_nodes.proofs.Bounded.{all_from, tiles_lie}
use Rattle.rc_nodes.proofs.Listed.{at_place, placed_at}
use Rattle.rc_nodes.proofs.Ordered.{in_parts}
use Rattle.rc_nodes.proofs.Tiled.{IsOwned, item_owned}
use Rattle.rc_shorts.specs.declared.shape.Shape.{Shape}
use Rattle.rc_shorts.specs.Exchange.{AreNear, AreWithin, AreInWindows}
use Rattle.rc_shorts.specs.OfLayouts.{metal_of, net_metal, layout_shapes}
use Rattle.rc_shorts.specs.Places.{shape_of, net_shapes}
use Rattle.rc_shorts.proofs.Neighbours.{windows_hold_near}
use Rattle.rc_windows.specs.declared.frame.Frame.{Frame}
use Rattle.rc_windows.specs.Frames.{all_squares, meets, touched, window_count, window_rect, IsFrame}
use Rattle.rc_windows.specs.Indexes.{near_tiles}
use Rattle.rc_windows.proofs.Meetings.{meets_shares}
use Rattle.rc_windows.proofs.Partition.{windows_part_squares}
use Rattle.rc_engine.specs.Engine.{Engine, IsEngine}
use Rattle.rc_engine.specs.Nearby.{item_in, shape_beside, shapes_beside, tile_shape}
use Rattle.rc_engine.specs.Start.{net_rects}
use Rattle.rc_engine.specs.Windows.{tiles_of, layout_tiles}
use Rattle.rc_engine.proofs.Alike.{alike_in}
use Rattle.rc_engine.proofs.Corners.{square_by, has_corners, in_halo}
use Rattle.rc_engine.proofs.Drawn.{IsDrawn, net_is_drawn}
use Rattle.rc_engine.proofs.Sweepable.{net_of_tile, net_tile}
use Rattle.rc_engine.proofs.OwnWindows.{range_long}

-- ---- lists

behind : {Y : Type 0} (o : Option Y) (ys : List Y) (y : Y) → Contains ys y → Contains (cons_option o ys) y
behind None ys y h = h
behind (Some z) ys y h = in_tail z ys y h

filter_map_has : {X Y : Type 0} (f : X → Option Y) (xs : List X) (x : X) (y : Y) → Contains xs x → f x ≡ Some y → Contains (filter_map f xs) y
filter_map_has f [] x y h gives = absurd (none_in x h)
filter_map_has {X} {Y} f (z ∷ xs) x y h gives = ⊎_elim
    (λ (here : z ≡ x). subst (λ (o : Option Y). Contains (cons_option o (filter_map f xs)) y) (sym (ap f here ∙ gives)) (at_head y (filter_map f xs) y refl))
    (λ (there : Contains xs x). behind (f z) (filter_map f xs) y (filter_map_has f xs x y there gives))
    (head_or_tail z xs x h)

in_cons : {Y : Type 0} (o : Option Y) (ys : List Y) (y : Y) (Q : Type 0) → (o ≡ Some y → Q) → (Contains ys y → Q) → Contains (cons_option o ys) y → Q
in_cons None ys y Q first rest h = rest h
in_cons {Y} (Some z) ys y Q first rest h = ⊎_elim (λ (here : z ≡ y). first (ap Some here)) (λ (there : Contains ys y). rest there) (head_or_tail z ys y h)

in_filter_map : {X Y : Type 0} (f : X → Option Y) (xs : List X) (y : Y) → Contains (filter_map f xs) y → (x : X) × Contains xs x × (f x ≡ Some y)
in_filter_map f [] y h = absurd (none_in y h)
in_filter_map {X} {Y} f (x ∷ xs) y h =
    in_cons (f x) (filter_map f xs) y ((z : X) × Contains (x ∷ xs) z × (f z ≡ Some y))
    (λ gives. (x, at_head x xs x refl, gives))
    (λ there. let old = in_filter_map f xs y there in (old.0, in_tail x xs old.0 old.1, old.2)) h

left_at : {X : Type 0} (xs ys : List X) (i : ℕ) (x : X) → slice_get xs i ≡ Some x → slice_get (xs ++ ys) i ≡ Some x
left_at xs ys i x h =
    let within = slice_get_within xs i x h in
    slice_get-get_or (xs ++ ys) i x (let long = length-append xs ys in omega (arith, within, long)) ∙ ap Some (get_or_append_left xs ys x i within ∙ get_or_from_slice_get xs i x x h)

right_at : {X : Type 0} (xs ys : List X) (i : ℕ) (x : X) → slice_get ys i ≡ Some x → slice_get (xs ++ ys) (length xs + i) ≡ Some x
right_at xs ys i x h =
    let within = slice_get_within ys i x h in
    slice_get-get_or (xs ++ ys) (length xs + i) x (let long = length-append xs ys in omega (arith, within, long)) ∙ ap Some (get_or-append-add xs ys i x ∙ get_or_from_slice_get ys i x x h)

nothing_some : (s : Shape) → None ≡ Some s → ⊥
nothing_some s h = cc

in_range : (n k : ℕ) → k < n → Contains (range_with_len 0 n) k
in_range n k less =
    let long = range_long 0 n in
    let zero_on : 0 + k ≡ k = omega arith in
    (k, omega (arith, less, long), get_or-range_with_len 0 n k k less ∙ zero_on)

-- ---- the nets by their numbers

-- the net of a number, and as it is drawn
record IsNumber (wired : Wired) (d : DrawnNet) (net : Net) : Type 0 where
  at : slice_get (all_nets wired) d.number ≡ Some net
  items : d.items ≡ net.items

numbered_place : (k : ℕ) (nets : List Net) (e : ℕ × Net) → Contains (enumerate_from k nets) e → (i : ℕ) × (e.0 ≡ k + i) × (slice_get nets i ≡ Some e.1)
numbered_place k [] e h = absurd (none_in e h)
numbered_place k (net ∷ nets) e h = ⊎_elim
    (λ (here : (k, net) ≡ e). (0, sym (ap (λ (z : ℕ × Net). z.0) here) ∙ omega arith, ap (λ (z : ℕ × Net). Some z.1) here))
    (λ (there : Contains (enumerate_from (k + 1) nets) e).
    let rest = numbered_place (k + 1) nets e there in
    let at = rest.1 in
    (suc rest.0, omega (arith, at), rest.2))
    (head_or_tail (k, net) (enumerate_from (k + 1) nets) e h)

numbered_there : (k : ℕ) (nets : List Net) (i : ℕ) (net : Net) → slice_get nets i ≡ Some net → Contains (enumerate_from k nets) (k + i, net)
numbered_there k [] i net h = cc
numbered_there k (n ∷ nets) zero net h =
    let same : n ≡ net = cc in
    let number : k ≡ k + 0 = omega arith in
    at_head (k, n) (enumerate_from (k + 1) nets) (k + 0, net) (ap (λ (m : ℕ). (m, n)) number ∙ ap (λ (z : Net). (k + 0, z)) same)
numbered_there k (n ∷ nets) (suc i) net h =
    let number : k + 1 + i ≡ k + suc i = omega arith in
    in_tail (k, n) (enumerate_from (k + 1) nets) (k + suc i, net) (subst (λ (m : ℕ). Contains (enumerate_from (k + 1) nets) (m, net)) number (numbered_there (k + 1) nets i net h))

-- a drawn net is one of the layout
number_of_drawn : (wired : Wired) (d : DrawnNet) → Contains (drawn_nets wired) d → (net : Net) × IsNumber wired d net
unfolding drawn_nets
number_of_drawn wired d h =
    let own = enumerate_from 0 wired.nets in
    let grounded = enumerate_from (length wired.nets) wired.grounded in
    ⊎_elim
    (λ (of_own : Contains (map own_net own) d).
    let e = in_map own_net own d of_own in
    let place = numbered_place 0 wired.nets e.0 e.1 in
    let at = place.1 in
    let first : place.0 ≡ e.0.0 = omega (arith, at) in
    subst (λ (n : DrawnNet). (net : Net) × IsNumber wired n net) e.2
    (e.0.1, record { at = left_at wired.nets wired.grounded e.0.0 e.0.1 (subst (λ (i : ℕ). slice_get wired.nets i ≡ Some e.0.1) first place.2); items = refl }))
    (λ (of_grounded : Contains (map grounded_net grounded) d).
    let e = in_map grounded_net grounded d of_grounded in
    let place = numbered_place (length wired.nets) wired.grounded e.0 e.1 in
    subst (λ (n : DrawnNet). (net : Net) × IsNumber wired n net) e.2
    (e.0.1, record { at = ap (slice_get (all_nets wired)) place.1 ∙ right_at wired.nets wired.grounded place.0 e.0.1 place.2; items = refl }))
    (Contains-append_cases (map own_net own) (map grounded_net grounded) d h)

-- and each net is drawn
drawn_by_number : (wired : Wired) (n : ℕ) (net : Net) → slice_get (all_nets wired) n ≡ Some net → (d : DrawnNet) × Contains (drawn_nets wired) d × (d.number ≡ n) × (d.items ≡ net.items)
unfolding drawn_nets
drawn_by_number wired n net h = ⊎_elim
    (λ (less : n < m).
    let at : slice_get wired.nets n ≡ Some net = slice_get-get_or wired.nets n net less ∙ ap Some (sym (get_or_append_left wired.nets wired.grounded net n less) ∙ get_or_from_slice_get (all_nets wired) n net net h) in
    let there = numbered_there 0 wired.nets n net at in
    let zero_on : 0 + n ≡ n = omega arith in
    (own_net (0 + n, net), Contains-append_left own grounded (own_net (0 + n, net)) (map_has own_net (enumerate_from 0 wired.nets) (0 + n, net) there), zero_on, refl))
    (λ (more : m ≤ n).
    let long = length-append wired.nets wired.grounded in
    let within = slice_get_within (all_nets wired) n net h in
    let i : ℕ = n - m in
    let back : m + i ≡ n = omega (arith, more) in
    let here : i < length wired.grounded = omega (arith, within, long, more) in
    let at : slice_get wired.grounded i ≡ Some net =
    slice_get-get_or wired.grounded i net here ∙ ap Some (sym (get_or-append-add wired.nets wired.grounded i net) ∙ ap (λ (k : ℕ). get_or (all_nets wired) k net) back ∙ get_or_from_slice_get (all_nets wired) n net net h) in
    let there = numbered_there m wired.grounded i net at in
    (grounded_net (m + i, net), Contains-append_right own grounded (grounded_net (m + i, net)) (map_has grounded_net (enumerate_from m wired.grounded) (m + i, net) there), back, refl))
    (cases_lt n m)
  where
    m : ℕ
    m = length wired.nets

    own : List DrawnNet
    own = map own_net (enumerate_from 0 wired.nets)

    grounded : List DrawnNet
    grounded = map grounded_net (enumerate_from (length wired.nets) wired.grounded)

-- ---- shapes and tiles

-- the shape is of that item of that net
record IsShapeOfItem (d : DrawnNet) (item : Item) (s : Shape) : Type 0 where
  net : s.net ≡ d.number
  at : slice_get d.items s.item ≡ Some item
  layer : s.layer ≡ item.layer
  rect : s.rect ≡ item.rect

item_at_place : (items : List Item) (i : ℕ) (layer : ℕ) (rect : Rect) → slice_get (map metal_of items) i ≡ Some (layer, rect) → (item : Item) × (slice_get items i ≡ Some item) × (layer ≡ item.layer) × (rect ≡ item.rect)
item_at_place [] i layer rect h = absurd cc
item_at_place (item ∷ items) zero layer rect h =
    let same : (item.layer, item.rect) ≡ (layer, rect) = same_Some (item.layer, item.rect) (layer, rect) h in
    (item, refl, sym (ap (λ (m : ℕ × Rect). m.0) same), sym (ap (λ (m : ℕ × Rect). m.1) same))
item_at_place (item ∷ items) (suc i) layer rect h = item_at_place items i layer rect h

net_at_place : (nets : List Net) (n : ℕ) (metals : List (ℕ × Rect)) → slice_get (map net_metal nets) n ≡ Some metals → (net : Net) × (slice_get nets n ≡ Some net) × (net_metal net ≡ metals)
net_at_place [] n metals h = absurd cc
net_at_place (net ∷ nets) zero metals h = (net, refl, same_Some (net_metal net) metals h)
net_at_place (net ∷ nets) (suc n) metals h = net_at_place nets n metals h

-- each shape of the layout is that of an item
shape_has_item : (wired : Wired) (s : Shape) → Contains (layout_shapes wired) s → (d : DrawnNet) × Contains (drawn_nets wired) d × ((item : Item) × IsShapeOfItem d item s)
shape_has_item wired s h =
    let metals = map net_metal (all_nets wired) in
    let from = in_flat_map (λ (net : ℕ × List (ℕ × Rect)). net_shapes net.0 net.1) (enumerate_from 0 metals) s h in
    let net = net_at_place (all_nets wired) from.0.0 from.0.1 (at_place metals from.0.0 from.0.1 from.1) in
    let drawn = drawn_by_number wired from.0.0 net.0 net.1 in
    let one = in_map (shape_of from.0.0) (enumerate_from 0 from.0.1) s from.2 in
    let item = item_at_place net.0.items one.0.0 one.0.1.0 one.0.1.1 (ap (λ (l : List (ℕ × Rect)). slice_get l one.0.0) net.2 ∙ at_place from.0.1 one.0.0 one.0.1 one.1) in (
      drawn.0,
      drawn.1,
      (
        item.0,
        subst (λ (t : Shape). IsShapeOfItem drawn.0 item.0 t) one.2
            (record { net = sym drawn.2; at = ap (λ (l : List Item). slice_get l one.0.0) drawn.3 ∙ item.1; layer = item.2; rect = item.3 }),
      ),
    )

mapped_at : {X Y : Type 0} (f : X → Y) (xs : List X) (i : ℕ) (x : X) → slice_get xs i ≡ Some x → slice_get (map f xs) i ≡ Some (f x)
mapped_at f [] i x h = absurd cc
mapped_at f (y ∷ xs) zero x h = ap Some (ap f (same_Some y x h))
mapped_at f (y ∷ xs) (suc i) x h = mapped_at f xs i x h

-- and each item has its shape
item_has_shape : (wired : Wired) (d : DrawnNet) (i : ℕ) (item : Item) → Contains (drawn_nets wired) d → slice_get d.items i ≡ Some item → Contains (layout_shapes wired) (shape_of d.number (i, metal_of item))
item_has_shape wired d i item there at =
    let metals = map net_metal (all_nets wired) in
    let net = number_of_drawn wired d there in
    let of_net = mapped_at net_metal (all_nets wired) d.number net.0 net.1.at in
    let of_item = mapped_at metal_of net.0.items i item (ap (λ (l : List Item). slice_get l i) (sym net.1.items) ∙ at) in
    flat_map_has (λ (n : ℕ × List (ℕ × Rect)). net_shapes n.0 n.1) (enumerate_from 0 metals) (d.number, net_metal net.0) (shape_of d.number (i, metal_of item)) (placed_at metals d.number (net_metal net.0) of_net)
    (map_has (shape_of d.number) (enumerate_from 0 (net_metal net.0)) (i, metal_of item) (placed_at (net_metal net.0) i (metal_of item) of_item))

-- a tile of a net tells the shape of its item
told_shape : (wired : Wired) (d : DrawnNet) (t : Tile) (item : Item) → Contains (drawn_nets wired) d → t.net ≡ d.number → slice_get d.items t.rank ≡ Some item → tile_shape wired t ≡ Some (shape_of t.net (t.rank, metal_of item))
told_shape wired d t item there same at =
    let net = number_of_drawn wired d there in
    ap (λ (o : Option Net). option_map (λ item. shape_of t.net (t.rank, metal_of item)) (option_and_then (λ (net : Net). slice_get net.items t.rank) o)) (ap (slice_get (all_nets wired)) same ∙ net.1.at)
    ∙ ap (option_map (λ item. shape_of t.net (t.rank, metal_of item))) (ap (λ (l : List Item). slice_get l t.rank) (sym net.1.items) ∙ at)

-- a tile of another net has the shape of its item
beside_tells : (wired : Wired) (number : ℕ) (t : Tile) (s : Shape) → shape_beside wired number t ≡ Some s → (t.net ≢ number) × (tile_shape wired t ≡ Some s)
beside_tells wired number t s h = by (t.net == number) refl
  where
    by : (b : Bool) → (t.net == number) ≡ b → (t.net ≢ number) × (tile_shape wired t ≡ Some s)
    by true is = absurd (nothing_some s (sym (ap (λ (b : Bool). cond b None (tile_shape wired t)) is) ∙ h))
    by false is = ((λ same. true≢false (sym (eq-eqb t.net number same) ∙ is)), sym (ap (λ (b : Bool). cond b None (tile_shape wired t)) is) ∙ h)

beside_is : (wired : Wired) (number : ℕ) (t : Tile) (s : Shape) → t.net ≢ number → tile_shape wired t ≡ Some s → shape_beside wired number t ≡ Some s
beside_is wired number t s differ told = ap (λ (b : Bool). cond b None (tile_shape wired t)) (ne_eqb t.net number differ) ∙ told

-- a square of an item has a tile of the item's rank
record IsTileAt (d : DrawnNet) (i : ℕ) (q : Pt) (t : Tile) : Type 0 where
  there : Contains (tiles_of d) t
  rank : t.rank ≡ i
  on : covers t.rect q ≡ true

tile_at : (rules : RuleFile) (d : DrawnNet) (i : ℕ) (item : Item) (q : Pt) → IsDrawn rules d → slice_get d.items i ≡ Some item → covers item.rect q ≡ true → (t : Tile) × IsTileAt d i q t
unfolding net_tiles
tile_at rules d i item q drawn at on = by (owner tiles item.layer q) refl (owners_are_least tiles item.layer q) owned.rank (owned.metal ∙ ap (λ (b : Bool). cond b (Some (d.number, node_at d.nodes item q)) None) over)
  where
    tiles : List Tile
    tiles = item_tiles d.number d.nodes (i, item)

    member : Contains d.items item
    member = (i, slice_get_within d.items i item at, get_or_from_slice_get d.items i item item at)

    owned : IsOwned (owner tiles item.layer q) i (cond (is_over item.layer q item) (Some (d.number, node_at d.nodes item q)) None)
    owned = item_owned d.number d.nodes i item item.layer q (in_parts d.nodes item drawn.order (All-contains IsItem d.items item drawn.items member))

    over : is_over item.layer q item ≡ true
    over = and_from (item.layer == item.layer) (covers item.rect q) (eq-eqb item.layer item.layer refl) on

    by : (o : Option Tile) → owner tiles item.layer q ≡ o → MatchOption o (All (λ u. claims item.layer q u ≡ false) tiles) (IsOwner tiles item.layer q) → IfSome o (λ t. t.rank ≡ i) → option_map {U = Metal} (λ (t : Tile). (t.net, t.node)) o ≡ Some (d.number, node_at d.nodes item q) → (t : Tile) × IsTileAt d i q t
    by None is told rank metal = absurd cc
    by (Some t) is told rank metal =
        let there = flat_map_has (item_tiles d.number d.nodes) (enumerate_from 0 d.items) (i, item) t (placed_at d.items i item at) told.member in
        (t, record { there = there; rank = rank; on = (and_parts (t.layer == item.layer) (covers t.rect q) told.covering).1 })

-- ---- windows

-- the lists of an engine's windows have the tiles that matter to them
in_list : (e : Engine) (k : ℕ) (t : Tile) → IsEngine e → k < window_count e.frame → Contains (get_or e.lists k []) t → Contains (layout_tiles e.layout) t
in_list e k t is within h = (in_filter (λ (u : Tile). meets e.frame u.rect k) (layout_tiles e.layout) t (alike_in t (get_or e.lists k []) (near_tiles e.frame (layout_tiles e.layout) k) (is.lists k within) h)).0

list_has : (e : Engine) (k : ℕ) (t : Tile) → IsEngine e → k < window_count e.frame → Contains (layout_tiles e.layout) t → meets e.frame t.rect k ≡ true → Contains (get_or e.lists k []) t
list_has e k t is within h near =
    alike_in t (near_tiles e.frame (layout_tiles e.layout) k) (get_or e.lists k []) (λ f. sym (is.lists k within f)) (filter_has (λ (u : Tile). meets e.frame u.rect k) (layout_tiles e.layout) t h near)

halo_some : (e : Engine) → IsEngine e → 1 ≤ e.frame.halo
halo_some e is = let some = is.frame.halo.some in omega (arith, some)

-- what the windows have near
abbrev pub near_in : Engine → ℕ → List ℕ → List Shape
near_in e number ks = flat_map (λ k. shapes_beside e.layout number (get_or e.lists k [])) ks

abbrev rects_in : Frame → List ℕ → List Rect
rects_in frame ks = map (window_rect frame) ks

found_in_windows : (e : Engine) (number : ℕ) (ks : List ℕ) → IsEngine e → All (λ k. k < window_count e.frame) ks → AreInWindows (layout_shapes e.layout) number (rects_in e.frame ks) (near_in e number ks)
unfolding shapes_beside layout_tiles
found_in_windows e number ks is range = record {
  held = all_from (λ (s : Shape). Contains (layout_shapes e.layout) s × (s.net ≢ number)) (near_in e number ks) held;
  all = λ s window p has apart of_window on in_window. found s window p has apart of_window on in_window;
}
  where
    held : (s : Shape) → Contains (near_in e number ks) s → Contains (layout_shapes e.layout) s × (s.net ≢ number)
    held s h =
        let at = in_flat_map (λ k. shapes_beside e.layout number (get_or e.lists k [])) ks s h in
        let k = at.0 in
        let within = All-contains (λ k. k < window_count e.frame) ks k range at.1 in
        let of = in_filter_map (shape_beside e.layout number) (get_or e.lists k []) s at.2 in
        let t = of.0 in
        let beside = beside_tells e.layout number t s of.2 in
        let net = net_of_tile e.layout t (in_list e k t is within of.1) in
        let d = net.0 in
        let drawn = net_is_drawn e.layout e.rules d is.extractable net.1 in
        let own = (net_tile e.rules d t drawn net.2).form.net in
        let lies = All-contains (LiesInItem d.items) (tiles_of d) t (tiles_lie d.number d.nodes d.items drawn.order drawn.items) net.2 in
        let told = told_shape e.layout d t lies.item net.1 own lies.place in
        let same : shape_of t.net (t.rank, metal_of lies.item) ≡ s = same_Some (shape_of t.net (t.rank, metal_of lies.item)) s (sym told ∙ beside.1) in
        let there : Contains (layout_shapes e.layout) (shape_of t.net (t.rank, metal_of lies.item)) =
        subst (λ (n : ℕ). Contains (layout_shapes e.layout) (shape_of n (t.rank, metal_of lies.item))) (sym own) (item_has_shape e.layout d t.rank lies.item net.1 lies.place) in
        subst (λ (x : Shape). Contains (layout_shapes e.layout) x × (x.net ≢ number)) same (there, beside.0)

    found : (s : Shape) (window : Rect) (p : Pt) → Contains (layout_shapes e.layout) s → s.net ≢ number → Contains (rects_in e.frame ks) window → touches s.rect p ≡ true → touches window p ≡ true → Contains (near_in e number ks) s
    found s window p has apart of_window on in_window =
        let k = in_map (window_rect e.frame) ks window of_window in
        let within = All-contains (λ k. k < window_count e.frame) ks k.0 range k.1 in
        let of = shape_has_item e.layout s has in
        let d = of.0 in
        let item = of.2.0 in
        let is_of = of.2.1 in
        let drawn = net_is_drawn e.layout e.rules d is.extractable of.1 in
        let member : Contains d.items item = (s.item, slice_get_within d.items s.item item is_of.at, get_or_from_slice_get d.items s.item item item is_of.at) in
        let form = All-contains IsItem d.items item drawn.items member in
        let square = square_by item.rect p form.shape.wide form.shape.high (ap (λ (r : Rect). touches r p) (sym is_of.rect) ∙ on) in
        let q = square.0 in
        let tile = tile_at e.rules d s.item item q drawn is_of.at square.1 in
        let t = tile.0 in
        let own = (net_tile e.rules d t drawn tile.1.there).form.net in
        let other : t.net ≢ number = λ same. apart (is_of.net ∙ sym own ∙ same) in
        let halo = in_halo (window_rect e.frame k.0) e.frame.halo q p (halo_some e is) (ap (λ (r : Rect). touches r p) k.2 ∙ in_window) square.2 in
        let near : meets e.frame t.rect k.0 ≡ true = (meets_shares e.frame t.rect k.0).1 (q, tile.1.on, halo) in
        let listed = list_has e k.0 t is within (flat_map_has tiles_of (drawn_nets e.layout) d t of.1 tile.1.there) near in
        let told = told_shape e.layout d t item of.1 own (ap (slice_get d.items) tile.1.rank ∙ is_of.at) in
        let same : shape_of t.net (t.rank, metal_of item) ≡ s = λ i. record { net = (own ∙ sym is_of.net) i; item = tile.1.rank i; layer = sym is_of.layer i; rect = sym is_of.rect i } in
        flat_map_has (λ k. shapes_beside e.layout number (get_or e.lists k [])) ks k.0 s k.1
        (filter_map_has (shape_beside e.layout number) (get_or e.lists k.0 []) t s listed (beside_is e.layout number t s other (told ∙ ap Some same)))

-- the new shapes lie in the windows that they touch
within_windows : (frame : Frame) (number : ℕ) (old new : Net) (ks : List ℕ) → IsFrame frame → All IsItem new.items → ks ≡ touched frame (net_rects old ++ net_rects new) → AreWithin (rects_in frame ks) (net_shapes number (net_metal new))
within_windows frame number old new ks is formed all s p fresh on =
    let one = in_map (shape_of number) (enumerate_from 0 (net_metal new)) s fresh in
    let item = item_at_place new.items one.0.0 one.0.1.0 one.0.1.1 (at_place (net_metal new) one.0.0 one.0.1 one.1) in
    let rect : s.rect ≡ item.0.rect = sym (ap (λ (t : Shape). t.rect) one.2) ∙ item.3 in
    let member : Contains new.items item.0 = (one.0.0, slice_get_within new.items one.0.0 item.0 item.1, get_or_from_slice_get new.items one.0.0 item.0 item.0 item.1) in
    let form = (All-contains IsItem new.items item.0 formed member).shape in
    let square = square_by item.0.rect p form.wide form.high (ap (λ (r : Rect). touches r p) (sym rect) ∙ on) in
    let q = square.0 in
    let c = covered item.0.rect q square.1 in
    let left = c.left in
    let right = c.right in
    let below = c.below in
    let above = c.above in
    let x_low = form.left.low in
    let x_high = form.right.high in
    let y_low = form.below.low in
    let y_high = form.above.high in
    let inside =
    covers_from all_squares q (record { left = omega (arith, ints, left, x_low); right = omega (arith, ints, right, x_high); below = omega (arith, ints, below, y_low); above = omega (arith, ints, above, y_high) }) in
    let window = windows_part_squares frame is q inside in
    let k = window.0 in
    let at = window.1 in
    let touches_window = has_corners (window_rect frame k) q p at.covering square.2 in
    let some = is.halo.some in
    let halo = in_halo (window_rect frame k) frame.halo q p (omega (arith, some)) touches_window square.2 in
    let near : meets frame item.0.rect k ≡ true = (meets_shares frame item.0.rect k).1 (q, square.1, halo) in
    let rects = net_rects old ++ net_rects new in
    let there = Contains-append_right (net_rects old) (net_rects new) item.0.rect (map_has (λ (i : Item). i.rect) new.items item.0 member) in
    let any : list_any (λ r. meets frame r k) rects ≡ true = list_any-from_Any (λ (r : Rect). meets frame r k) rects (there.0, item.0.rect, there.1, there.2, near) in
    let listed : Contains (touched frame rects) k = filter_has (λ j. list_any (λ r. meets frame r j) rects) (range_with_len 0 (window_count frame)) k (in_range (window_count frame) k at.in_grid) any in
    (window_rect frame k, map_has (window_rect frame) ks k (subst (λ (l : List ℕ). Contains l k) (sym all) listed), touches_window)

pub are_near : (e : Engine) (number : ℕ) (old new : Net) (ks : List ℕ) → IsEngine e → All IsItem new.items → All (λ k. k < window_count e.frame) ks → ks ≡ touched e.frame (net_rects old ++ net_rects new) →
    AreNear (layout_shapes e.layout) number (net_shapes number (net_metal new)) (near_in e number ks)
are_near e number old new ks is formed range all =
    windows_hold_near (layout_shapes e.layout) number (rects_in e.frame ks) (net_shapes number (net_metal new)) (near_in e number ks)
    (within_windows e.frame number old new ks is.frame formed all) (found_in_windows e number ks is range)

-- ---- as the code finds them

pub left_item : (nets grounded : List Net) (number rank : ℕ) → number < length nets → item_in nets number rank ≡ item_in (nets ++ grounded) number rank
left_item [] grounded number rank less = absurd (omega (arith, less))
left_item (net ∷ nets) grounded zero rank less = refl
left_item (net ∷ nets) grounded (suc number) rank less = left_item nets grounded number rank (omega (arith, less))

pub right_item : (nets grounded : List Net) (number place rank : ℕ) → number ≡ length nets + place → item_in grounded place rank ≡ item_in (nets ++ grounded) number rank
right_item [] grounded number place rank is = let same : place ≡ number = omega (arith, is) in ap (λ (n : ℕ). item_in grounded n rank) same
right_item (net ∷ nets) grounded zero place rank is = absurd (omega (arith, is))
right_item (net ∷ nets) grounded (suc number) place rank is = right_item nets grounded number place rank (omega (arith, is))

pub no_shape_yet : (wired : Wired) (number : ℕ) (before : List Shape) (ts : List Tile) → before ≡ before ++ shapes_beside wired number (take 0 ts)
unfolding shapes_beside
no_shape_yet wired number before ts = sym (append-nil before)

pub shape_more : (wired : Wired) (number : ℕ) (ts : List Tile) (i : ℕ) (d : Tile) (before now after : List Shape) (o : Option Shape) → i < length ts → now ≡ before ++ shapes_beside wired number (take i ts) → o ≡ shape_beside wired number (get_or ts i d) →
    after ≡ now ++ cons_option o [] → after ≡ before ++ shapes_beside wired number (take (i + 1) ts)
unfolding shapes_beside
shape_more wired number ts i d before now after o within so_far is put =
    let f = shape_beside wired number in
    let first = filter_map f (take i ts) in
    put
    ∙ ap (λ (l : List Shape). l ++ cons_option o []) so_far
    ∙ append_assoc before first (cons_option o [])
    ∙ ap (λ (p : Option Shape). before ++ (first ++ cons_option p [])) is
    ∙ ap (λ (l : List Shape). before ++ l) (sym (ap (filter_map f) (take_more ts i d within) ∙ filter_map-append f (take i ts) (get_or ts i d ∷ [])))

pub windows_more : (wired : Wired) (number : ℕ) (lists : List (List Tile)) (ks : List ℕ) (i d : ℕ) (list tiles : List Tile) (now after : List Shape) → i < length ks → get_or ks i d < length lists → list ≡ get_or lists (get_or ks i d) list → tiles ≡ list →
    now ≡ flat_map (λ k. shapes_beside wired number (get_or lists k [])) (take i ks) → after ≡ now ++ shapes_beside wired number tiles → after ≡ flat_map (λ k. shapes_beside wired number (get_or lists k [])) (take (i + 1) ks)
windows_more wired number lists ks i d list tiles now after within there at is so_far put =
    let f : ℕ → List Shape = λ k. shapes_beside wired number (get_or lists k []) in
    let here : tiles ≡ get_or lists (get_or ks i d) [] = is ∙ at ∙ get_or_default lists (get_or ks i d) list [] there in
    put
    ∙ ap (λ (l : List Shape). l ++ shapes_beside wired number tiles) so_far
    ∙ ap (λ (ts : List Tile). flat_map f (take i ks) ++ shapes_beside wired number ts) here
    ∙ ap (λ (l : List Shape). flat_map f (take i ks) ++ l) (sym (append-nil (f (get_or ks i d))))
    ∙ sym (ap (flat_map f) (take_more ks i d within) ∙ flat_map-append f (take i ks) (get_or ks i d ∷ []))
