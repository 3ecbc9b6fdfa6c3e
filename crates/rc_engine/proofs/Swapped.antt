-- A layout with one net in the place of another: its nets as they are drawn, and their tiles.
use Rattle.std.proofs.Common.{◌≡◌, ◌≢◌, ◌<◌, ◌+◌, ⊎_elim, ℕ, zero, suc, Bool, true, false, cond, not, List, [], ◌∷◌, ◌++◌, map, length, get_or, set, refl, ap, sym, subst, ◌∙◌, arith, length-set}
use Rattle.std.specs.Prelude.{Any, Contains, Option, Some, ◌==◌, filter, slice_get}
use Rattle.std.specs.List.{enumerate_from, flat_map, sum_by}
use Rattle.std.specs.Option.{option_map_or}
use Rattle.std.proofs.lemmas.Bool.{ne_eqb, eq-eqb}
use Rattle.std.proofs.lemmas.List.{map-set, get_or-set_same}
use Rattle.std.proofs.lemmas.List.Elements.{filter-append, Contains-append_left, Contains-append_right, Contains-append_cases}
use Rattle.std.proofs.lemmas.List.Sums.{sum_by-append}
use Rattle.std.proofs.lemmas.Option.{get_or_from_slice_get, slice_get_within, slice_get-get_or}
use Rattle.std.proofs.lemmas.Grind.{flat_map-append}
use Rattle.rc_fixed.proofs.Members.{none_in, at_head, in_tail, head_or_tail, map_has, in_flat_map}
use Rattle.rc_geom.specs.declared.rect.Pt.{Pt}
use Rattle.rc_geom.specs.declared.rect.Rect.{Rect}
use Rattle.rc_geom.specs.declared.tile.Tile.{Tile}
use Rattle.rc_geom.specs.Rects.{covers}
use Rattle.rc_rules.specs.RuleFile.{RuleFile}
use Rattle.rc_layout.specs.declared.item.Item.{Item}
use Rattle.rc_layout.specs.declared.net.Net.{Net}
use Rattle.rc_layout.specs.Layouts.{Wired, with_put}
use Rattle.rc_nodes.specs.LayoutPlane.{DrawnNet, own_net, grounded_net, drawn_nets}
use Rattle.rc_nodes.proofs.Bounded.{all_from}
use Rattle.rc_windows.specs.Indexes.{others_of}
use Rattle.rc_windows.specs.Laws.{AreAlike, IsEdit, LieIn}
use Rattle.rc_engine.specs.Start.{net_rects}
use Rattle.rc_engine.specs.Edits.{rects_of}
use Rattle.rc_engine.specs.Windows.{tiles_of, layout_tiles, IsExtractable}
use Rattle.rc_engine.proofs.Drawings.{own_at, drawn_length}
use Rattle.rc_engine.proofs.Rises.{Rises}
use Rattle.rc_engine.proofs.Drawn.{IsLower, net_is_drawn, nets_rise}
use Rattle.rc_engine.proofs.Sweepable.{net_tile, covers_outer}

-- ---- an item of a list in the place of another

-- a list before and after one item takes the place of another
pub record IsSwap {X : Type 0} (old new : X) (was now : List X) : Type 0 where
  pub before : List X
  pub after : List X
  pub first : was ≡ before ++ old ∷ after
  pub second : now ≡ before ++ new ∷ after

pub set_is_swap : {X : Type 0} (xs : List X) (i : ℕ) (d new : X) → i < length xs → IsSwap (get_or xs i d) new xs (set xs i new)
set_is_swap [] i d new within = absurd (omega (arith, within))
set_is_swap (x ∷ xs) zero d new within = record { before = []; after = xs; first = refl; second = refl }
set_is_swap {X} (x ∷ xs) (suc i) d new within =
    let rest = set_is_swap xs i d new (omega (arith, within)) in
    record {
      before = x ∷ rest.before;
      after = rest.after;
      first = ap (λ (l : List X). x ∷ l) rest.first;
      second = ap (λ (l : List X). x ∷ l) rest.second;
    }

set_left : {X : Type 0} (xs ys : List X) (i : ℕ) (x : X) → i < length xs → set (xs ++ ys) i x ≡ set xs i x ++ ys
set_left [] ys i x within = absurd (omega (arith, within))
set_left (y ∷ xs) ys zero x within = refl
set_left {X} (y ∷ xs) ys (suc i) x within = ap (λ (l : List X). y ∷ l) (set_left xs ys i x (omega (arith, within)))

no_more : (k : ℕ) → k ≡ k + 0
no_more k = omega arith

one_more : (k i : ℕ) → k + 1 + i ≡ k + suc i
one_more k i = omega arith

from_zero : (n : ℕ) → 0 + n ≡ n
from_zero n = omega arith

numbered_set : {X : Type 0} (k : ℕ) (xs : List X) (i : ℕ) (x : X) → enumerate_from k (set xs i x) ≡ set (enumerate_from k xs) i (k + i, x)
numbered_set k [] i x = refl
numbered_set {X} k (y ∷ xs) zero x = ap (λ (n : ℕ). (n, x) ∷ enumerate_from (k + 1) xs) (no_more k)
numbered_set {X} k (y ∷ xs) (suc i) x =
    ap (λ (l : List (ℕ × X)). (k, y) ∷ l) (numbered_set (k + 1) xs i x ∙ ap (λ (n : ℕ). set (enumerate_from (k + 1) xs) i (n, x)) (one_more k i))

numbered_long : {X : Type 0} (k : ℕ) (xs : List X) → length (enumerate_from k xs) ≡ length xs
numbered_long k [] = refl
numbered_long k (x ∷ xs) = ap suc (numbered_long (k + 1) xs)

mapped_long : {X Y : Type 0} (f : X → Y) (xs : List X) → length (map f xs) ≡ length xs
mapped_long f [] = refl
mapped_long f (x ∷ xs) = ap suc (mapped_long f xs)

-- ---- the nets

-- the drawn nets of the layout with the net, which stands at its number
pub drawn_put : (wired : Wired) (number : ℕ) (new : Net) → number < length wired.nets → drawn_nets (with_put wired number new) ≡ set (drawn_nets wired) number (own_net (number, new))
unfolding drawn_nets
drawn_put wired number new within =
    let own = map own_net (enumerate_from 0 wired.nets) in
    let rest = map grounded_net (enumerate_from (length wired.nets) wired.grounded) in
    let numbers = numbered_long 0 wired.nets in
    let long = mapped_long own_net (enumerate_from 0 wired.nets) in
    ap (λ (n : ℕ). map own_net (enumerate_from 0 (set wired.nets number new)) ++ map grounded_net (enumerate_from n wired.grounded)) (length-set wired.nets number new)
    ∙ ap (λ (l : List (ℕ × Net)). map own_net l ++ rest) (numbered_set 0 wired.nets number new)
    ∙ ap (λ (l : List DrawnNet). l ++ rest) (map-set own_net (enumerate_from 0 wired.nets) number (0 + number, new))
    ∙ ap (λ (n : ℕ). set own number (own_net (n, new)) ++ rest) (from_zero number)
    ∙ sym (set_left own rest number (own_net (number, new)) (omega (arith, numbers, long, within)))

pub put_there : (wired : Wired) (number : ℕ) (new : Net) → number < length wired.nets → slice_get (with_put wired number new).nets number ≡ Some new
put_there wired number new within =
    let long = length-set wired.nets number new in
    slice_get-get_or (set wired.nets number new) number new (omega (arith, long, within)) ∙ ap Some (get_or-set_same wired.nets number new new within)

pub drawn_swap : (wired : Wired) (number : ℕ) (old new : Net) → slice_get wired.nets number ≡ Some old → IsSwap (own_net (number, old)) (own_net (number, new)) (drawn_nets wired) (drawn_nets (with_put wired number new))
drawn_swap wired number old new there =
    let within = slice_get_within wired.nets number old there in
    let e = own_net (number, old) in
    let long = drawn_length wired in
    let here : get_or (drawn_nets wired) number e ≡ e = own_at wired number old e within ∙ ap (λ (n : Net). own_net (number, n)) (get_or_from_slice_get wired.nets number old old there) in
    subst (λ (ds : List DrawnNet). IsSwap e (own_net (number, new)) (drawn_nets wired) ds) (sym (drawn_put wired number new within))
    (subst (λ (d : DrawnNet). IsSwap d (own_net (number, new)) (drawn_nets wired) (set (drawn_nets wired) number (own_net (number, new)))) here
    (set_is_swap (drawn_nets wired) number e (own_net (number, new)) (omega (arith, long, within))))

-- a net before another one has a lower number, and one behind it a higher one
lower_before : (x y : DrawnNet) (before after : List DrawnNet) → Rises IsLower (before ++ x ∷ after) → Contains before y → y.number < x.number
lower_before x y [] after h there = absurd (none_in y there)
lower_before x y (b ∷ before) after h there = ⊎_elim
    (λ (here : b ≡ y). subst (λ (d : DrawnNet). d.number < x.number) here (h.0 x (Contains-append_right before (x ∷ after) x (at_head x after x refl))))
    (λ (later : Contains before y). lower_before x y before after h.1 later)
    (head_or_tail b before y there)

higher_after : (x y : DrawnNet) (before after : List DrawnNet) → Rises IsLower (before ++ x ∷ after) → Contains after y → x.number < y.number
higher_after x y [] after h there = h.0 y there
higher_after x y (b ∷ before) after h there = higher_after x y before after h.1 there

-- the nets beside one
record IsBeside (wired : Wired) (x y : DrawnNet) : Type 0 where
  there : Contains (drawn_nets wired) y
  differ : y.number ≢ x.number

stands_before : (wired : Wired) (x y : DrawnNet) (before after : List DrawnNet) → drawn_nets wired ≡ before ++ x ∷ after → Contains before y → IsBeside wired x y
stands_before wired x y before after whole h = record {
  there = subst (λ (ds : List DrawnNet). Contains ds y) (sym whole) (Contains-append_left before (x ∷ after) y h);
  differ = λ same. let less = lower_before x y before after (subst (Rises IsLower) whole (nets_rise wired)) h in omega (arith, same, less);
}

stands_after : (wired : Wired) (x y : DrawnNet) (before after : List DrawnNet) → drawn_nets wired ≡ before ++ x ∷ after → Contains after y → IsBeside wired x y
stands_after wired x y before after whole h = record {
  there = subst (λ (ds : List DrawnNet). Contains ds y) (sym whole) (Contains-append_right before (x ∷ after) y (in_tail x after y h));
  differ = λ same. let more = higher_after x y before after (subst (Rises IsLower) whole (nets_rise wired)) h in omega (arith, same, more);
}

stands_here : (wired : Wired) (x : DrawnNet) (before after : List DrawnNet) → drawn_nets wired ≡ before ++ x ∷ after → Contains (drawn_nets wired) x
stands_here wired x before after whole = subst (λ (ds : List DrawnNet). Contains ds x) (sym whole) (Contains-append_right before (x ∷ after) x (at_head x after x refl))

-- ---- their tiles

pub filter_all : {X : Type 0} (p : X → Bool) (xs : List X) → ((x : X) → Contains xs x → p x ≡ true) → filter p xs ≡ xs
filter_all p [] h = refl
filter_all {X} p (x ∷ xs) h =
    ap (λ (b : Bool). cond b (x ∷ filter p xs) (filter p xs)) (h x (at_head x xs x refl))
    ∙ ap (λ (l : List X). x ∷ l) (filter_all p xs (λ y there. h y (in_tail x xs y there)))

pub filter_none : {X : Type 0} (p : X → Bool) (xs : List X) → ((x : X) → Contains xs x → p x ≡ false) → filter p xs ≡ []
filter_none p [] h = refl
filter_none p (x ∷ xs) h =
    ap (λ (b : Bool). cond b (x ∷ filter p xs) (filter p xs)) (h x (at_head x xs x refl))
    ∙ filter_none p xs (λ y there. h y (in_tail x xs y there))

pub kept_by : (net : ℕ) (t : Tile) → t.net ≢ net → not (t.net == net) ≡ true
kept_by net t differ = ap not (ne_eqb t.net net differ)

dropped_by : (net : ℕ) (t : Tile) → t.net ≡ net → not (t.net == net) ≡ false
dropped_by net t same = ap not (eq-eqb t.net net same)

-- a tile of a net beside one is none of its tiles
tile_beside : (wired : Wired) (rules : RuleFile) (x y : DrawnNet) (t : Tile) → IsExtractable wired rules → IsBeside wired x y → Contains (tiles_of y) t → t.net ≢ x.number
tile_beside wired rules x y t is beside h = λ same.
    let own = (net_tile rules y t (net_is_drawn wired rules y is beside.there) h).form.net in
    beside.differ (sym own ∙ same)

others_kept : (wired : Wired) (rules : RuleFile) (x : DrawnNet) (ys : List DrawnNet) → IsExtractable wired rules → ((y : DrawnNet) → Contains ys y → IsBeside wired x y) → others_of x.number (flat_map tiles_of ys) ≡ flat_map tiles_of ys
others_kept wired rules x ys is beside =
    filter_all (λ (t : Tile). not (t.net == x.number)) (flat_map tiles_of ys)
    (λ t there. let of = in_flat_map tiles_of ys t there in kept_by x.number t (tile_beside wired rules x of.0 t is (beside of.0 of.1) of.2))

own_dropped : (wired : Wired) (rules : RuleFile) (x : DrawnNet) → IsExtractable wired rules → Contains (drawn_nets wired) x → others_of x.number (tiles_of x) ≡ []
own_dropped wired rules x is there =
    filter_none (λ (t : Tile). not (t.net == x.number)) (tiles_of x)
    (λ t h. dropped_by x.number t (net_tile rules x t (net_is_drawn wired rules x is there) h).form.net)

tiles_parts : (wired : Wired) (x : DrawnNet) (before after : List DrawnNet) → drawn_nets wired ≡ before ++ x ∷ after → layout_tiles wired ≡ flat_map tiles_of before ++ (tiles_of x ++ flat_map tiles_of after)
unfolding layout_tiles
tiles_parts wired x before after whole = ap (flat_map tiles_of) whole ∙ flat_map-append tiles_of before (x ∷ after)

-- the tiles of all other nets
others_are : (wired : Wired) (rules : RuleFile) (x : DrawnNet) (before after : List DrawnNet) → IsExtractable wired rules → drawn_nets wired ≡ before ++ x ∷ after →
    others_of x.number (layout_tiles wired) ≡ flat_map tiles_of before ++ flat_map tiles_of after
others_are wired rules x before after is whole =
    let p : Tile → Bool = λ t. not (t.net == x.number) in
    let first = flat_map tiles_of before in
    let last = flat_map tiles_of after in
    ap (filter p) (tiles_parts wired x before after whole)
    ∙ filter-append p first (tiles_of x ++ last)
    ∙ ap (λ (ts : List Tile). filter p first ++ ts) (filter-append p (tiles_of x) last)
    ∙ ap (λ (ts : List Tile). filter p first ++ (ts ++ filter p last)) (own_dropped wired rules x is (stands_here wired x before after whole))
    ∙ ap (λ (ts : List Tile). ts ++ filter p last) (others_kept wired rules x before is (λ y h. stands_before wired x y before after whole h))
    ∙ ap (λ (ts : List Tile). first ++ ts) (others_kept wired rules x after is (λ y h. stands_after wired x y before after whole h))

-- each tile of the net lies in one of the rectangles that hold its items
any_from : {X : Type 0} (P : X → Type 0) (xs : List X) (x : X) → Contains xs x → P x → Any P xs
any_from P xs x there h = (there.0, x, there.1, there.2, h)

lie_in : (wired : Wired) (rules : RuleFile) (x : DrawnNet) (rects : List Rect) (before after : List DrawnNet) → IsExtractable wired rules → drawn_nets wired ≡ before ++ x ∷ after →
    ((item : Item) → Contains x.items item → Contains rects item.rect) → LieIn x.number rects (layout_tiles wired)
lie_in wired rules x rects before after is whole held =
    subst (LieIn x.number rects) (sym (tiles_parts wired x before after whole))
    (all_from (λ (t : Tile). t.net ≡ x.number → (p : Pt) → covers t.rect p ≡ true → Any (λ r. covers r p ≡ true) rects) (first ++ (tiles_of x ++ last)) (λ t there same. ⊎_elim
    (λ (here : Contains first t). let of = in_flat_map tiles_of before t here in absurd (tile_beside wired rules x of.0 t is (stands_before wired x of.0 before after whole of.1) of.2 same))
    (λ (later : Contains (tiles_of x ++ last) t). ⊎_elim
    (λ (own : Contains (tiles_of x) t). of_net t own)
    (λ (behind : Contains last t). let of = in_flat_map tiles_of after t behind in absurd (tile_beside wired rules x of.0 t is (stands_after wired x of.0 before after whole of.1) of.2 same))
    (Contains-append_cases (tiles_of x) last t later))
    (Contains-append_cases first (tiles_of x ++ last) t there)))
  where
    first : List Tile
    first = flat_map tiles_of before

    last : List Tile
    last = flat_map tiles_of after

    of_net : (t : Tile) → Contains (tiles_of x) t → (p : Pt) → covers t.rect p ≡ true → Any (λ r. covers r p ≡ true) rects
    of_net t h p on =
        let tile = net_tile rules x t (net_is_drawn wired rules x is (stands_here wired x before after whole)) h in
        any_from (λ (r : Rect). covers r p ≡ true) rects tile.item.rect (held tile.item tile.there) (covers_outer t.rect tile.item.rect p tile.inside on)

-- a net's tiles lie in the rectangles of its items
pub own_lies_in : (wired : Wired) (rules : RuleFile) (number : ℕ) (net : Net) → IsExtractable wired rules → slice_get wired.nets number ≡ Some net → LieIn number (net_rects net) (layout_tiles wired)
own_lies_in wired rules number net is there =
    let swap = drawn_swap wired number net net there in
    lie_in wired rules (own_net (number, net)) (net_rects net) swap.before swap.after is swap.first (λ item h. map_has (λ (i : Item). i.rect) net.items item h)

-- ---- the edit

pub others_stay : (before after : Wired) (rules : RuleFile) (old new : DrawnNet) → IsExtractable before rules → IsExtractable after rules → new.number ≡ old.number → IsSwap old new (drawn_nets before) (drawn_nets after) →
    others_of old.number (layout_tiles after) ≡ others_of old.number (layout_tiles before)
others_stay before after rules old new was is same swap =
    ap (λ (n : ℕ). others_of n (layout_tiles after)) (sym same)
    ∙ others_are after rules new swap.before swap.after is swap.second
    ∙ sym (others_are before rules old swap.before swap.after was swap.first)

-- the tiles are those of the other nets and the new ones, in another order
pub tiles_alike : (before after : Wired) (rules : RuleFile) (old new : DrawnNet) → IsExtractable before rules → IsSwap old new (drawn_nets before) (drawn_nets after) →
    AreAlike (layout_tiles after) (others_of old.number (layout_tiles before) ++ tiles_of new)
tiles_alike before after rules old new was swap f =
    let first = flat_map tiles_of swap.before in
    let last = flat_map tiles_of swap.after in
    let all = ap (sum_by f) (tiles_parts after new swap.before swap.after swap.second) ∙ sum_by-append f first (tiles_of new ++ last) in
    let more = sum_by-append f (tiles_of new) last in
    let others = ap (λ (ts : List Tile). sum_by f (ts ++ tiles_of new)) (others_are before rules old swap.before swap.after was swap.first) ∙ sum_by-append f (first ++ last) (tiles_of new) in
    let both = sum_by-append f first last in
    omega (arith, all, more, others, both)

pub rects_are : (wired : Wired) (number : ℕ) (net : Net) → slice_get wired.nets number ≡ Some net → rects_of wired number ≡ net_rects net
rects_are wired number net there = ap (λ (o : Option Net). option_map_or net_rects o []) there

pub is_edit : (wired : Wired) (rules : RuleFile) (number : ℕ) (old new : Net) → IsExtractable wired rules → IsExtractable (with_put wired number new) rules → slice_get wired.nets number ≡ Some old →
    IsEdit number (net_rects old) (net_rects new) (layout_tiles wired) (layout_tiles (with_put wired number new))
is_edit wired rules number old new was is there =
    let after = with_put wired number new in
    let swap = drawn_swap wired number old new there in
    record {
      others = others_stay wired after rules (own_net (number, old)) (own_net (number, new)) was is refl swap;
      old_in = lie_in wired rules (own_net (number, old)) (net_rects old ++ net_rects new) swap.before swap.after was swap.first
          (λ item h. Contains-append_left (net_rects old) (net_rects new) item.rect (map_has (λ (i : Item). i.rect) old.items item h));
      new_in = lie_in after rules (own_net (number, new)) (net_rects old ++ net_rects new) swap.before swap.after is swap.second
          (λ item h. Contains-append_right (net_rects old) (net_rects new) item.rect (map_has (λ (i : Item). i.rect) new.items item h));
    }
