-- The nets of a layout as they are drawn, and their tiles.
use Rattle.std.proofs.Common.{◌≡◌, ◌≢◌, ◌<◌, ◌≤◌, ◌+◌, ⊎_elim, ℕ, Bool, true, false, cond, List, [], ◌∷◌, ◌++◌, map, length, refl, ap, sym, subst, ◌∙◌, arith}
use Rattle.std.specs.Prelude.{All, Contains, Option, Some, None, find, is_some, ◌==◌}
use Rattle.std.specs.List.{AllZip, flat_map, enumerate_from}
use Rattle.std.proofs.lemmas.Bool.{and_parts, eqb-true, true≢false}
use Rattle.std.proofs.lemmas.Int.{ints}
use Rattle.std.proofs.lemmas.Option.{slice_get_within, slice_get-get_or}
use Rattle.std.proofs.lemmas.List.Elements.{All-contains, Contains-append_left, Contains-append_right, Contains-append_cases}
use Rattle.rc_fixed.proofs.Members.{none_in, at_head, in_tail, head_or_tail, in_map, map_has, flat_map_has}
use Rattle.rc_geom.specs.declared.rect.Pt.{Pt}
use Rattle.rc_geom.specs.declared.rect.Rect.{Rect}
use Rattle.rc_geom.specs.declared.tile.Tile.{Tile}
use Rattle.rc_geom.specs.Rects.{covers, touches}
use Rattle.rc_geom.specs.Plane.{plane_of}
use Rattle.rc_geom.proofs.Bounds.{covered, touches_from}
use Rattle.rc_rules.specs.RuleFile.{RuleFile, HasRules}
use Rattle.rc_layout.specs.declared.item.Item.{Item}
use Rattle.rc_layout.specs.declared.net.Net.{Net}
use Rattle.rc_layout.specs.Facts.{Belongs}
use Rattle.rc_layout.specs.Items.{IsItem}
use Rattle.rc_layout.specs.Layouts.{Wired}
use Rattle.rc_layout.specs.Metal.{all_nets}
use Rattle.rc_nodes.specs.Nodes.{AreInOrder}
use Rattle.rc_nodes.specs.NetPlane.{is_over, first_over}
use Rattle.rc_nodes.specs.LayoutPlane.{DrawnNet, plane_of_net, own_net, grounded_net, drawn_nets, SharesNoSquare}
use Rattle.rc_nodes.proofs.Layouts.{tiles_make_the_plane}
use Rattle.rc_nodes.proofs.Listed.{at_place, placed_at}
use Rattle.rc_nodes.proofs.Numbered.{nodes_are}
use Rattle.rc_nodes.proofs.Ranked.{items_in_parts}
use Rattle.rc_nodes.proofs.Tiled.{plane_is}
use Rattle.rc_shorts.specs.declared.shape.Shape.{Shape}
use Rattle.rc_shorts.specs.OfLayouts.{metal_of, net_metal, layout_shapes, shapes_from}
use Rattle.rc_shorts.specs.Places.{shape_of, net_shapes}
use Rattle.rc_shorts.proofs.Layouts.{layouts_have_places}
use Rattle.rc_shorts.proofs.OfLayouts.{all_shapes}
use Rattle.rc_shorts.proofs.Words.{none_means_apart}
use Rattle.rc_engine.specs.Windows.{tiles_of, layout_tiles, HasRatedItems, IsExtractable}
use Rattle.rc_engine.specs.WindowLaws.{TilesMakeTheLayout}
use Rattle.rc_engine.proofs.Rises.{Rises, rises_append, rises_map, numbers_rise, numbers_above, pairs_of_rises}

some_one : {X : Type 0} (a b : X) → Some a ≡ Some b → a ≡ b
some_one a b same = cc

none_some : {X : Type 0} (a : X) → None ≡ Some a → ⊥
none_some a same = cc

-- ---- lists

find_tells : {X : Type 0} (test : X → Bool) (xs : List X) (x : X) → find test xs ≡ Some x → Contains xs x × (test x ≡ true)
find_tells test [] x h = absurd (none_some x h)
find_tells {X} test (y ∷ ys) x h = by (find_tells test ys x) (test y) refl
  where
    by : (find test ys ≡ Some x → Contains ys x × (test x ≡ true)) → (t : Bool) → test y ≡ t → Contains (y ∷ ys) x × (test x ≡ true)
    by rest true holds =
        let same = some_one y x (sym (ap (λ (t : Bool). cond t (Some y) (find test ys)) holds) ∙ h) in
        (at_head y ys x same, sym (ap test same) ∙ holds)
    by rest false misses =
        let later = rest (sym (ap (λ (t : Bool). cond t (Some y) (find test ys)) misses) ∙ h) in
        (in_tail y ys x later.0, later.1)

pub numbered_in : {X : Type 0} (n : ℕ) (xs : List X) (e : ℕ × X) → Contains (enumerate_from n xs) e → Contains xs e.1
numbered_in n [] e h = absurd (none_in e h)
numbered_in {X} n (x ∷ xs) e h = ⊎_elim
    (λ (here : (n, x) ≡ e). at_head x xs e.1 (ap (λ (m : ℕ × X). m.1) here))
    (λ (there : Contains (enumerate_from (n + 1) xs) e). in_tail x xs e.1 (numbered_in (n + 1) xs e there))
    (head_or_tail (n, x) (enumerate_from (n + 1) xs) e h)

pub lists_joined : {X Y : Type 0} (f : X → List Y) (xs : List X) → flat_map (λ (ys : List Y). ys) (map f xs) ≡ flat_map f xs
lists_joined f [] = refl
lists_joined {Y = Y'} f (x ∷ xs) = ap (λ (ys : List Y'). f x ++ ys) (lists_joined f xs)

zip_made : {X Y : Type 0} (R : X → Y → Type 0) (f : X → Y) (xs : List X) → ((x : X) → Contains xs x → R x (f x)) → AllZip R xs (map f xs)
zip_made R f [] each = tt
zip_made R f (x ∷ xs) each = (each x (at_head x xs x refl), zip_made R f xs (λ y there. each y (in_tail x xs y there)))

-- ---- the nets

-- nodes in order, and items in range on layers with rules
pub record IsDrawn (rules : RuleFile) (net : DrawnNet) : Type 0 where
  pub order : AreInOrder net.nodes
  pub items : All IsItem net.items
  pub rated : All (λ item. HasRules rules item.layer) net.items

own_is_drawn : (wired : Wired) (rules : RuleFile) (e : ℕ × Net) → IsExtractable wired rules → Contains wired.nets e.1 → IsDrawn rules (own_net e)
own_is_drawn wired rules e is there =
    let belongs = All-contains (Belongs wired.parts) wired.nets e.1 is.facts.nets there in
    record {
      order = (nodes_are e.1 belongs.formed.items).order;
      items = belongs.formed.items;
      rated = All-contains (HasRatedItems rules) (all_nets wired) e.1 is.rated (Contains-append_left wired.nets wired.grounded e.1 there);
    }

grounded_is_drawn : (wired : Wired) (rules : RuleFile) (e : ℕ × Net) → IsExtractable wired rules → Contains wired.grounded e.1 → IsDrawn rules (grounded_net e)
grounded_is_drawn wired rules e is there =
    let belongs = All-contains (Belongs wired.parts) wired.grounded e.1 is.facts.grounded there in
    record {
      order = λ i j d less within. absurd (omega (arith, within));
      items = belongs.formed.items;
      rated = All-contains (HasRatedItems rules) (all_nets wired) e.1 is.rated (Contains-append_right wired.nets wired.grounded e.1 there);
    }

pub net_is_drawn : (wired : Wired) (rules : RuleFile) (net : DrawnNet) → IsExtractable wired rules → Contains (drawn_nets wired) net → IsDrawn rules net
unfolding drawn_nets
net_is_drawn wired rules net is h =
    let own = enumerate_from 0 wired.nets in
    let grounded = enumerate_from (length wired.nets) wired.grounded in
    ⊎_elim
    (λ (of_own : Contains (map own_net own) net).
    let e = in_map own_net own net of_own in
    subst (IsDrawn rules) e.2 (own_is_drawn wired rules e.0 is (numbered_in 0 wired.nets e.0 e.1)))
    (λ (of_grounded : Contains (map grounded_net grounded) net).
    let e = in_map grounded_net grounded net of_grounded in
    subst (IsDrawn rules) e.2 (grounded_is_drawn wired rules e.0 is (numbered_in (length wired.nets) wired.grounded e.0 e.1)))
    (Contains-append_cases (map own_net own) (map grounded_net grounded) net h)

abbrev pub IsLower : DrawnNet → DrawnNet → Type 0
IsLower a b = a.number < b.number

pub nets_rise : (wired : Wired) → Rises IsLower (drawn_nets wired)
unfolding drawn_nets
nets_rise wired =
    let own = enumerate_from 0 wired.nets in
    let grounded = enumerate_from (length wired.nets) wired.grounded in
    rises_append IsLower (map own_net own) (map grounded_net grounded)
    (rises_map (λ (a b : ℕ × Net). a.0 < b.0) IsLower own_net (λ a b less. less) own (numbers_rise 0 wired.nets))
    (rises_map (λ (a b : ℕ × Net). a.0 < b.0) IsLower grounded_net (λ a b less. less) grounded (numbers_rise (length wired.nets) wired.grounded))
    (λ x y in' there.
    let a = in_map own_net own x in' in
    let b = in_map grounded_net grounded y there in
    let below : a.0.0 < length wired.nets = slice_get_within wired.nets a.0.0 a.0.1 (at_place wired.nets a.0.0 a.0.1 a.1) in
    let above : length wired.nets ≤ b.0.0 = numbers_above (length wired.nets) wired.grounded b.0 b.1 in
    let first : a.0.0 ≡ x.number = ap (λ (n : DrawnNet). n.number) a.2 in
    let second : b.0.0 ≡ y.number = ap (λ (n : DrawnNet). n.number) b.2 in
    omega (arith, below, above, first, second))

-- ---- their shapes

-- the shape is that of an item of that net
record IsShapeOf (number : ℕ) (item : Item) (s : Shape) : Type 0 where
  net : s.net ≡ number
  layer : s.layer ≡ item.layer
  rect : s.rect ≡ item.rect

item_shape : (number : ℕ) (items : List Item) (item : Item) → Contains items item → (s : Shape) × Contains (net_shapes number (map metal_of items)) s × IsShapeOf number item s
item_shape number items item h =
    let metals = map metal_of items in
    let there = map_has metal_of items item h in
    let at = slice_get-get_or metals there.0 (metal_of item) there.1 ∙ ap Some there.2 in (
      shape_of number (there.0, metal_of item),
      map_has (shape_of number) (enumerate_from 0 metals) (there.0, metal_of item) (placed_at metals there.0 (metal_of item) at),
      record { net = refl; layer = refl; rect = refl },
    )

-- items of nets from a number on
shape_among : (first : ℕ) (nets : List Net) (e : ℕ × Net) (item : Item) → Contains (enumerate_from first nets) e → Contains e.1.items item → (s : Shape) × Contains (shapes_from first nets) s × IsShapeOf e.0 item s
shape_among first nets e item there h =
    let one = item_shape e.0 e.1.items item h in
    (one.0, flat_map_has (λ (n : ℕ × Net). net_shapes n.0 (net_metal n.1)) (enumerate_from first nets) e one.0 there one.1, one.2)

drawn_shape : (wired : Wired) (net : DrawnNet) (item : Item) → Contains (drawn_nets wired) net → Contains net.items item → (s : Shape) × Contains (layout_shapes wired) s × IsShapeOf net.number item s
unfolding drawn_nets
drawn_shape wired net item there h =
    let m = length wired.nets in
    let own = enumerate_from 0 wired.nets in
    let grounded = enumerate_from m wired.grounded in
    let all = all_shapes wired m refl in
    ⊎_elim
    (λ (of_own : Contains (map own_net own) net).
    let e = in_map own_net own net of_own in
    let s = shape_among 0 wired.nets e.0 item e.1 (subst (λ (n : DrawnNet). Contains n.items item) (sym e.2) h) in (
      s.0,
      subst (λ (l : List Shape). Contains l s.0) all (Contains-append_left (shapes_from 0 wired.nets) (shapes_from m wired.grounded) s.0 s.1),
      subst (λ (n : DrawnNet). IsShapeOf n.number item s.0) e.2 s.2,
    ))
    (λ (of_grounded : Contains (map grounded_net grounded) net).
    let e = in_map grounded_net grounded net of_grounded in
    let s = shape_among m wired.grounded e.0 item e.1 (subst (λ (n : DrawnNet). Contains n.items item) (sym e.2) h) in (
      s.0,
      subst (λ (l : List Shape). Contains l s.0) all (Contains-append_right (shapes_from 0 wired.nets) (shapes_from m wired.grounded) s.0 s.1),
      subst (λ (n : DrawnNet). IsShapeOf n.number item s.0) e.2 s.2,
    ))
    (Contains-append_cases (map own_net own) (map grounded_net grounded) net there)

square_touches : (r : Rect) (p : Pt) → covers r p ≡ true → touches r p ≡ true
square_touches r p h =
    let c = covered r p h in
    let right = c.right in
    let above = c.above in
    touches_from r p (record { left = c.left; right = omega (arith, ints); below = c.below; above = omega (arith, ints) })

-- without shorts no square of a layer lies in items of two nets
pub items_apart :
    (wired : Wired) (rules : RuleFile) (a b : DrawnNet) (x y : Item) (p : Pt) → IsExtractable wired rules → Contains (drawn_nets wired) a → Contains (drawn_nets wired) b → a.number ≢ b.number
    → Contains a.items x → Contains b.items y → x.layer ≡ y.layer → covers x.rect p ≡ true → covers y.rect p ≡ true → ⊥
items_apart wired rules a b x y p is of_a of_b differ in_a in_b layer on_x on_y =
    let s = drawn_shape wired a x of_a in_a in
    let t = drawn_shape wired b y of_b in_b in
    let apart = (none_means_apart (layout_shapes wired) (layouts_have_places (map net_metal (all_nets wired)))).0 is.clear s.0 t.0 s.1 t.1 in
    apart (λ same. differ (sym s.2.net ∙ same ∙ t.2.net)) (
      s.2.layer ∙ layer ∙ sym t.2.layer,
      (
        p,
        ap (λ (r : Rect). touches r p) s.2.rect ∙ square_touches x.rect p on_x,
        ap (λ (r : Rect). touches r p) t.2.rect ∙ square_touches y.rect p on_y,
      ),
    )

-- ---- their plane

no_square : (wired : Wired) (rules : RuleFile) (a b : DrawnNet) → IsExtractable wired rules → Contains (drawn_nets wired) a → Contains (drawn_nets wired) b → a.number ≢ b.number → SharesNoSquare a b
no_square wired rules a b is of_a of_b differ layer p some = by (first_over a.items layer p) (first_over b.items layer p) refl refl some
  where
    by : (o q : Option Item) → first_over a.items layer p ≡ o → first_over b.items layer p ≡ q → is_some o ≡ true → q ≡ None
    by None q of_o of_q h = absurd (true≢false (sym h))
    by (Some x) None of_o of_q h = refl
    by (Some x) (Some y) of_o of_q h =
        let one = find_tells (is_over layer p) a.items x of_o in
        let other = find_tells (is_over layer p) b.items y of_q in
        let over_x = and_parts (x.layer == layer) (covers x.rect p) one.1 in
        let over_y = and_parts (y.layer == layer) (covers y.rect p) other.1 in
        absurd (items_apart wired rules a b x y p is of_a of_b differ one.0 other.0 (eqb-true x.layer layer over_x.0 ∙ sym (eqb-true y.layer layer over_y.0)) over_x.1 over_y.1)

pub tiles_make_the_layout : TilesMakeTheLayout
unfolding layout_tiles
tiles_make_the_layout wired rules is =
    let nets = drawn_nets wired in
    ap plane_of (sym (lists_joined tiles_of nets))
    ∙ tiles_make_the_plane nets (map tiles_of nets)
    (pairs_of_rises IsLower SharesNoSquare nets (nets_rise wired) (λ a b of_a of_b less. no_square wired rules a b is of_a of_b (λ same. omega (arith, same, less))))
    (zip_made (λ (net : DrawnNet) (tiles : List Tile). plane_of tiles ≡ plane_of_net net) tiles_of nets (λ net there.
    let drawn = net_is_drawn wired rules net is there in
    plane_is net.number net.nodes net.items (items_in_parts net.nodes net.items drawn.order drawn.items)))
