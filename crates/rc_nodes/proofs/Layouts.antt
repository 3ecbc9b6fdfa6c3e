-- The plane of a layout.
use Rattle.std.proofs.Common.{◌≡◌, ◌+◌, ℕ, suc, Bool, true, false, cond, List, [], ◌∷◌, ◌++◌, map, length, Option, Some, None, refl, ap, sym, ◌∙◌, arith}
use Rattle.std.specs.Prelude.{All, AllPairs, is_some, option_map, find, ◌==◌, ◌&&◌}
use Rattle.std.specs.Option.{option_or}
use Rattle.std.specs.List.{enumerate_from, flat_map, AllZip}
use Rattle.std.proofs.lemmas.List.Concat.{flat_map-append}
use Rattle.std.proofs.lemmas.List.Elements.{All-head, All-tail}
use Rattle.rc_geom.specs.declared.rect.Pt.{Pt}
use Rattle.rc_geom.specs.declared.tile.Tile.{Tile}
use Rattle.rc_geom.specs.Rects.{covers}
use Rattle.rc_geom.specs.Plane.{Metal, owner, plane_of}
use Rattle.rc_geom.proofs.Owners.{better, better_none, owner-append}
use Rattle.rc_layout.specs.declared.item.Item.{Item}
use Rattle.rc_layout.specs.declared.net.Net.{Net}
use Rattle.rc_nodes.specs.NetPlane.{node_at, first_over, net_plane}
use Rattle.rc_nodes.specs.LayoutPlane.{DrawnNet, plane_of_net, plane_of_nets, own_net, grounded_net, drawn_nets, SharesNoSquare, TilesMakeThePlane, PlaneIsTheMetal}
use Rattle.rc_nodes.proofs.Tiled.{metal_of}

pairs_head : (net : DrawnNet) (nets : List DrawnNet) → AllPairs SharesNoSquare (net ∷ nets) → All (SharesNoSquare net) nets
pairs_head net nets h = λ k d lt. h 0 (suc k) d (omega arith) (omega (arith, lt))

pairs_tail : (net : DrawnNet) (nets : List DrawnNet) → AllPairs SharesNoSquare (net ∷ nets) → AllPairs SharesNoSquare nets
pairs_tail net nets h = λ i j d less lt. h (suc i) (suc j) d (omega (arith, less)) (omega (arith, lt))

-- a net has metal just where an item is over the square
has_item : (net : DrawnNet) (layer : ℕ) (p : Pt) (metal : Metal) → plane_of_net net layer p ≡ Some metal → is_some (first_over net.items layer p) ≡ true
unfolding net_plane
has_item net layer p metal h = by (first_over net.items layer p) h
  where
    by : (o : Option Item) → option_map (λ item. (net.number, node_at net.nodes item p)) o ≡ Some metal → is_some o ≡ true
    by None h = cc
    by (Some item) h = refl

no_item_no_metal : (net : DrawnNet) (layer : ℕ) (p : Pt) → first_over net.items layer p ≡ None → plane_of_net net layer p ≡ None
unfolding net_plane
no_item_no_metal net layer p h = ap (option_map (λ item. (net.number, node_at net.nodes item p))) h

-- where one net has metal, the others have none
others_none : (net : DrawnNet) (nets : List DrawnNet) (layer : ℕ) (p : Pt) → is_some (first_over net.items layer p) ≡ true → All (SharesNoSquare net) nets → plane_of_nets nets layer p ≡ None
others_none net [] layer p here all = refl
others_none net (other ∷ nets) layer p here all =
    ap (λ m. option_or m (plane_of_nets nets layer p)) (no_item_no_metal other layer p (All-head (SharesNoSquare net) other nets all layer p here))
    ∙ others_none net nets layer p here (All-tail (SharesNoSquare net) other nets all)

-- of the first tiles and the others one alone owns a square
joined : (one later : Option Tile) (first rest : Option Metal) → metal_of one ≡ first → metal_of later ≡ rest → ((metal : Metal) → first ≡ Some metal → rest ≡ None) → metal_of (better one later) ≡ option_or first rest
joined None later first rest h k alone = ap metal_of (better_none later) ∙ (k ∙ ap (λ m. option_or m rest) h)
joined (Some t) None first rest h k alone = ap (λ m. option_or m rest) h
joined (Some t) (Some u) first rest h k alone = let none = alone (t.net, t.node) (sym h) in cc

plane_at : (nets : List DrawnNet) (lists : List (List Tile)) (layer : ℕ) (p : Pt) → AllPairs SharesNoSquare nets → AllZip (λ net tiles. plane_of tiles ≡ plane_of_net net) nets lists →
    plane_of (flat_map (λ tiles. tiles) lists) layer p ≡ plane_of_nets nets layer p
plane_at [] [] layer p apart planes = refl
plane_at [] (tiles ∷ lists) layer p apart planes = absurd planes
plane_at (net ∷ nets) [] layer p apart planes = absurd planes
plane_at (net ∷ nets) (tiles ∷ lists) layer p apart planes =
    let later = flat_map (λ (tiles : List Tile). tiles) lists in
    ap metal_of (owner-append layer p tiles later)
    ∙ joined (owner tiles layer p) (owner later layer p) (plane_of_net net layer p) (plane_of_nets nets layer p)
    (λ i. planes.0 i layer p)
    (plane_at nets lists layer p (pairs_tail net nets apart) planes.1)
    (λ metal is. others_none net nets layer p (has_item net layer p metal is) (pairs_head net nets apart))

pub tiles_make_the_plane : TilesMakeThePlane
tiles_make_the_plane nets lists apart planes = λ i layer p. plane_at nets lists layer p apart planes i

-- ---- the net of each square

-- what is drawn of numbered nets
abbrev shapes_of : List (ℕ × Net) → List (ℕ × Item)
shapes_of nets = flat_map (λ (e : ℕ × Net). map (λ (item : Item). (e.0, item)) e.1.items) nets

abbrev covering : ℕ → Pt → ℕ × Item → Bool
covering layer p shape = (shape.1.layer == layer) && covers shape.1.rect p

abbrev net_at : List (ℕ × Item) → ℕ → Pt → Option ℕ
net_at all layer p = option_map (λ (shape : ℕ × Item). shape.0) (find (covering layer p) all)

find_append : {X : Type 0} (test : X → Bool) (xs ys : List X) → find test (xs ++ ys) ≡ option_or (find test xs) (find test ys)
find_append test [] ys = refl
find_append {X} test (x ∷ xs) ys = by (test x) (find_append test xs ys)
  where
    by : (b : Bool) → find test (xs ++ ys) ≡ option_or (find test xs) (find test ys) → cond b (Some x) (find test (xs ++ ys)) ≡ option_or (cond b (Some x) (find test xs)) (find test ys)
    by true rest = refl
    by false rest = rest

map_or : {X Y : Type 0} (f : X → Y) (a b : Option X) → option_map f (option_or a b) ≡ option_or (option_map f a) (option_map f b)
map_or f None b = refl
map_or f (Some x) b = refl

-- the shapes of one net
one_net : (n : ℕ) (items : List Item) (layer : ℕ) (p : Pt) → net_at (map (λ (item : Item). (n, item)) items) layer p ≡ option_map (λ (item : Item). n) (first_over items layer p)
one_net n [] layer p = refl
one_net n (item ∷ items) layer p = by ((item.layer == layer) && covers item.rect p) (one_net n items layer p)
  where
    by : (b : Bool) → net_at (map (λ (item : Item). (n, item)) items) layer p ≡ option_map (λ (item : Item). n) (first_over items layer p) → option_map (λ (shape : ℕ × Item). shape.0) (cond b (Some (n, item)) (find (covering layer p) (map (λ (item : Item). (n, item)) items))) ≡ option_map (λ (item : Item). n) (cond b (Some item) (first_over items layer p))
    by true rest = refl
    by false rest = rest

net_of_plane : (net : DrawnNet) (layer : ℕ) (p : Pt) → option_map (λ (m : Metal). m.0) (plane_of_net net layer p) ≡ option_map (λ (item : Item). net.number) (first_over net.items layer p)
unfolding net_plane
net_of_plane net layer p = by (first_over net.items layer p)
  where
    by : (o : Option Item) → option_map (λ (m : Metal). m.0) (option_map (λ item. (net.number, node_at net.nodes item p)) o) ≡ option_map (λ (item : Item). net.number) o
    by None = refl
    by (Some item) = refl

-- of nets that are drawn as numbered ones
nets_metal : (make : ℕ × Net → DrawnNet) → ((e : ℕ × Net) → (make e).number ≡ e.0) → ((e : ℕ × Net) → (make e).items ≡ e.1.items) → (nets : List (ℕ × Net)) (layer : ℕ) (p : Pt) →
    option_map (λ (m : Metal). m.0) (plane_of_nets (map make nets) layer p) ≡ net_at (shapes_of nets) layer p
nets_metal make number items [] layer p = refl
nets_metal make number items (e ∷ nets) layer p =
    let first = map (λ (item : Item). (e.0, item)) e.1.items in
    let one : option_map (λ (m : Metal). m.0) (plane_of_net (make e) layer p) ≡ net_at first layer p =
    net_of_plane (make e) layer p
    ∙ (ap (λ n. option_map (λ (item : Item). n) (first_over (make e).items layer p)) (number e)
    ∙ (ap (λ l. option_map (λ (item : Item). e.0) (first_over l layer p)) (items e) ∙ sym (one_net e.0 e.1.items layer p))) in
    map_or (λ (m : Metal). m.0) (plane_of_net (make e) layer p) (plane_of_nets (map make nets) layer p)
    ∙ (ap (λ o. option_or o (option_map (λ (m : Metal). m.0) (plane_of_nets (map make nets) layer p))) one
    ∙ (ap (option_or (net_at first layer p)) (nets_metal make number items nets layer p)
    ∙ sym (ap (option_map (λ (shape : ℕ × Item). shape.0)) (find_append (covering layer p) first (shapes_of nets)) ∙ map_or (λ (shape : ℕ × Item). shape.0) (find (covering layer p) first) (find (covering layer p) (shapes_of nets)))))

or_append : (xs ys : List DrawnNet) (layer : ℕ) (p : Pt) → plane_of_nets (xs ++ ys) layer p ≡ option_or (plane_of_nets xs layer p) (plane_of_nets ys layer p)
or_append [] ys layer p = refl
or_append (x ∷ xs) ys layer p = ap (option_or (plane_of_net x layer p)) (or_append xs ys layer p) ∙ assoc (plane_of_net x layer p)
  where
    assoc : (a : Option Metal) → option_or a (option_or (plane_of_nets xs layer p) (plane_of_nets ys layer p)) ≡ option_or (option_or a (plane_of_nets xs layer p)) (plane_of_nets ys layer p)
    assoc None = refl
    assoc (Some m) = refl

numbered_append : {X : Type 0} (m : ℕ) (xs ys : List X) → enumerate_from m (xs ++ ys) ≡ enumerate_from m xs ++ enumerate_from (m + length xs) ys
numbered_append m [] ys = let same : m ≡ m + 0 = omega arith in ap (λ n. enumerate_from n ys) same
numbered_append m (x ∷ xs) ys =
    let same : m + 1 + length xs ≡ m + suc (length xs) = omega arith in
    ap (λ l. (m, x) ∷ l) (numbered_append (m + 1) xs ys ∙ ap (λ n. enumerate_from (m + 1) xs ++ enumerate_from n ys) same)

pub plane_is_the_metal : PlaneIsTheMetal
unfolding drawn_nets
plane_is_the_metal layout layer p =
    let own = enumerate_from 0 layout.nets in
    let grounded = enumerate_from (length layout.nets) layout.grounded in
    let start : 0 + length layout.nets ≡ length layout.nets = omega arith in
    ap (option_map (λ (m : Metal). m.0)) (or_append (map own_net own) (map grounded_net grounded) layer p)
    ∙ (map_or (λ (m : Metal). m.0) (plane_of_nets (map own_net own) layer p) (plane_of_nets (map grounded_net grounded) layer p)
    ∙ (ap (λ o. option_or o (option_map (λ (m : Metal). m.0) (plane_of_nets (map grounded_net grounded) layer p))) (nets_metal own_net (λ e. refl) (λ e. refl) own layer p)
    ∙ (ap (option_or (net_at (shapes_of own) layer p)) (nets_metal grounded_net (λ e. refl) (λ e. refl) grounded layer p)
    ∙ sym (ap (λ l. net_at (shapes_of l) layer p) (numbered_append 0 layout.nets layout.grounded ∙ ap (λ n. own ++ enumerate_from n layout.grounded) start)
    ∙ (ap (λ l. net_at l layer p) (flat_map-append (λ (e : ℕ × Net). map (λ (item : Item). (e.0, item)) e.1.items) own grounded)
    ∙ (ap (option_map (λ (shape : ℕ × Item). shape.0)) (find_append (covering layer p) (shapes_of own) (shapes_of grounded))
    ∙ map_or (λ (shape : ℕ × Item). shape.0) (find (covering layer p) (shapes_of own)) (find (covering layer p) (shapes_of grounded))))))))
