-- The shapes of a linked layout, one item and one net after another.
use Rattle.std.proofs.Common.{◌≡◌, ◌∙◌, ℕ, zero, suc, ◌+◌, ◌<◌, ◌≤◌, List, [], ◌∷◌, ◌++◌, map, take, length, get_or, refl, sym, ap, subst, arith}
use Rattle.std.specs.Prelude.{All, Contains, IfSome, Option, Some, None, slice_set}
use Rattle.std.specs.List.{enumerate_from, flat_map}
use Rattle.std.proofs.lemmas.List.{length-map, append-nil, append_assoc, map_more, take_all, take_more, get_or-map}
use Rattle.std.proofs.lemmas.List.Concat.{flat_map-append}
use Rattle.std.proofs.lemmas.List.Elements.{Contains-get_or}
use Rattle.std.proofs.lemmas.List.FromFn.{length-enumerate_from, get_or-enumerate_from}
use Rattle.rc_layout.specs.declared.item.Item.{Item}
use Rattle.rc_layout.specs.declared.net.Net.{Net}
use Rattle.rc_layout.specs.Layouts.{Wired, with_put}
use Rattle.rc_layout.specs.Metal.{all_nets}
use Rattle.rc_layout.specs.declared.parts.Parts.{Parts}
use Rattle.rc_layout.specs.Facts.{Belongs}
use Rattle.rc_shorts.specs.declared.shape.Shape.{Shape}
use Rattle.rc_shorts.specs.declared.shape.Short.{Short}
use Rattle.rc_shorts.specs.Exchange.{IsExchange, exchanged}
use Rattle.rc_shorts.specs.OfLayouts.{metal_of, net_metal, layout_shapes, shapes_from, HasFewItems, NamesNets}
use Rattle.rc_shorts.specs.Places.{Metal, shape_of, net_shapes, shapes_of}
use Rattle.rc_shorts.specs.Shorts.{first_short, IsOfPair}
use Rattle.rc_shorts.proofs.Layouts.{layouts_have_places, exchanges_are_layouts, from_exchange, net_has_places, net_within, of_net}

-- ---- items

-- one more item of a net
pub item_more : (net : ℕ) (items : List Item) (k : ℕ) (d : Item) (old now after : List Shape) → k < length items → now ≡ old ++ map (shape_of net) (take k (enumerate_from 0 (map metal_of items)))
    → after ≡ now ++ shape_of net (k, metal_of (get_or items k d)) ∷ [] → after ≡ old ++ map (shape_of net) (take (k + 1) (enumerate_from 0 (map metal_of items)))
item_more net items k d old now after within so_far grown =
    let metals = map metal_of items in
    let list = enumerate_from 0 metals in
    let start : ℕ × Metal = (0, metal_of d) in
    let zeroth : 0 + k ≡ k = omega arith in
    let many = length-enumerate_from 0 metals in
    let same = length-map items metal_of in
    let in_metals : k < length metals = omega (arith, same, within) in
    let in_list : k < length list = omega (arith, many, in_metals) in
    let at : get_or list k start ≡ (k, metal_of (get_or items k d)) =
    get_or-enumerate_from 0 metals k start in_metals ∙ (ap {B = ℕ × Metal} (λ (n : ℕ). (n, get_or metals k (metal_of d))) zeroth ∙ ap {B = ℕ × Metal} (λ (m : Metal). (k, m)) (get_or-map metal_of items k d (metal_of d) within)) in
    let front = map (shape_of net) (take k list) in
    grown
    ∙ (ap (λ (l : List Shape). l ++ shape_of net (k, metal_of (get_or items k d)) ∷ []) so_far
    ∙ (append_assoc old front (shape_of net (k, metal_of (get_or items k d)) ∷ [])
    ∙ ap (λ (l : List Shape). old ++ l) (sym (map_more (shape_of net) list k start in_list ∙ ap (λ (x : ℕ × Metal). front ++ shape_of net x ∷ []) at))))

pub items_done : (net : ℕ) (items : List Item) (k : ℕ) (old now : List Shape) → length items ≤ k → now ≡ old ++ map (shape_of net) (take k (enumerate_from 0 (map metal_of items))) → now ≡ old ++ net_shapes net (map metal_of items)
items_done net items k old now all so_far =
    let many = length-enumerate_from 0 (map metal_of items) in
    let same = length-map items metal_of in
    so_far ∙ ap (λ (l : List (ℕ × Metal)). old ++ map (shape_of net) l) (take_all k (enumerate_from 0 (map metal_of items)) (omega (arith, many, same, all)))

-- ---- nets

abbrev of_entry : ℕ × Net → List Shape
of_entry e = net_shapes e.0 (net_metal e.1)

-- one more net
pub net_more : (first : ℕ) (nets : List Net) (k : ℕ) (d : Net) (old now after : List Shape) → k < length nets → now ≡ old ++ flat_map (λ e. net_shapes e.0 (net_metal e.1)) (take k (enumerate_from first nets))
    → after ≡ now ++ net_shapes (first + k) (net_metal (get_or nets k d)) → after ≡ old ++ flat_map (λ e. net_shapes e.0 (net_metal e.1)) (take (k + 1) (enumerate_from first nets))
net_more first nets k d old now after within so_far grown =
    let list = enumerate_from first nets in
    let start : ℕ × Net = (0, d) in
    let many = length-enumerate_from first nets in
    let in_list : k < length list = omega (arith, many, within) in
    let front = flat_map of_entry (take k list) in
    let new = net_shapes (first + k) (net_metal (get_or nets k d)) in
    let last : flat_map of_entry (take (k + 1) list) ≡ front ++ new =
    ap (flat_map of_entry) (take_more list k start in_list)
    ∙ (flat_map-append of_entry (take k list) (get_or list k start ∷ [])
    ∙ (ap (λ (e : ℕ × Net). front ++ (of_entry e ++ [])) (get_or-enumerate_from first nets k start within)
    ∙ ap (λ (l : List Shape). front ++ l) (append-nil new))) in
    grown ∙ (ap (λ (l : List Shape). l ++ new) so_far ∙ (append_assoc old front new ∙ ap (λ (l : List Shape). old ++ l) (sym last)))

pub nets_done : (first : ℕ) (nets : List Net) (k : ℕ) (old now : List Shape) → length nets ≤ k → now ≡ old ++ flat_map (λ e. net_shapes e.0 (net_metal e.1)) (take k (enumerate_from first nets)) → now ≡ old ++ shapes_from first nets
nets_done first nets k old now all so_far =
    let many = length-enumerate_from first nets in
    so_far ∙ ap (λ (l : List (ℕ × Net)). old ++ flat_map of_entry l) (take_all k (enumerate_from first nets) (omega (arith, many, all)))

numbered_append : {X : Type 0} (n : ℕ) (xs ys : List X) → enumerate_from n (xs ++ ys) ≡ enumerate_from n xs ++ enumerate_from (n + length xs) ys
numbered_append {X} n [] ys = let e : n ≡ n + 0 = omega arith in ap (λ (k : ℕ). enumerate_from k ys) e
numbered_append {X} n (x ∷ xs) ys =
    let e : n + 1 + length xs ≡ n + suc (length xs) = omega arith in
    ap (λ (l : List (ℕ × X)). (n, x) ∷ l) (numbered_append (n + 1) xs ys ∙ ap (λ (k : ℕ). enumerate_from (n + 1) xs ++ enumerate_from k ys) e)

of_metal : (n : ℕ) (nets : List Net) → flat_map of_entry (enumerate_from n nets) ≡ flat_map (λ (net : ℕ × List Metal). net_shapes net.0 net.1) (enumerate_from n (map net_metal nets))
of_metal n [] = refl
of_metal n (net ∷ nets) = ap (λ (l : List Shape). net_shapes n (net_metal net) ++ l) (of_metal (n + 1) nets)

-- the nets that aren't grounded, and then the others
pub all_shapes : (wired : Wired) (m : ℕ) → m ≡ length wired.nets → shapes_from 0 wired.nets ++ shapes_from m wired.grounded ≡ layout_shapes wired
all_shapes wired m long =
    let first = enumerate_from 0 wired.nets in
    let e : m ≡ 0 + length wired.nets = omega (arith, long) in
    sym (flat_map-append of_entry first (enumerate_from m wired.grounded))
    ∙ (ap (flat_map of_entry) (ap (λ (k : ℕ). first ++ enumerate_from k wired.grounded) e ∙ sym (numbered_append 0 wired.nets wired.grounded))
    ∙ of_metal 0 (all_nets wired))

pub few_items : (parts : Parts) (nets : List Net) → All (Belongs parts) nets → All HasFewItems nets
few_items parts nets belong = λ k d within. (belong k d within).formed.few_items

-- ---- what a short names

abbrev metals : Wired → List (List Metal)
metals wired = map net_metal (all_nets wired)

named : (wired : Wired) (shapes : List Shape) (short : Short) → ((s : Shape) → Contains shapes s → s.net < length (all_nets wired)) → IsOfPair shapes short → NamesNets wired short
named wired shapes short within of =
    subst (λ (s : Short). NamesNets wired s) (sym of.told) (record { first = within of.pair.earlier of.stands.earlier; second = within of.pair.later of.stands.later })

pub names_nets : (wired : Wired) (shapes : List Shape) (o : Option Short) → shapes ≡ layout_shapes wired → IfSome o (IsOfPair shapes) → IfSome o (NamesNets wired)
names_nets wired shapes None same of = tt
names_nets wired shapes (Some short) same of =
    named wired shapes short (λ s has. let lt = net_within (metals wired) s (subst (λ (l : List Shape). Contains l s) same has) in let e = length-map (all_nets wired) net_metal in omega (arith, lt, e)) of

-- ---- an exchange

set_metal : (nets grounded : List Net) (n : ℕ) (new : Net) → n < length nets → map net_metal (slice_set nets n new ++ grounded) ≡ slice_set (map net_metal (nets ++ grounded)) n (net_metal new)
set_metal [] grounded n new lt = absurd (omega (arith, lt))
set_metal (net ∷ nets) grounded zero new lt = refl
set_metal (net ∷ nets) grounded (suc n) new lt = ap (λ (l : List (List Metal)). net_metal net ∷ l) (set_metal nets grounded n new (omega (arith, lt)))

all_long : (nets grounded : List Net) (n : ℕ) → n < length nets → n < length (map net_metal (nets ++ grounded))
all_long [] grounded n lt = absurd (omega (arith, lt))
all_long (net ∷ nets) grounded zero lt = omega arith
all_long (net ∷ nets) grounded (suc n) lt = let rest = all_long nets grounded n (omega (arith, lt)) in omega (arith, rest)

set_long : {X : Type 0} (xs : List X) (n : ℕ) (x : X) → length (slice_set xs n x) ≡ length xs
set_long [] n x = refl
set_long (y ∷ xs) zero x = refl
set_long (y ∷ xs) (suc n) x = ap suc (set_long xs n x)

pub exchange_is : (wired : Wired) (net : ℕ) (new : Net) (shapes fresh : List Shape) → shapes ≡ layout_shapes wired → fresh ≡ net_shapes net (net_metal new) → first_short (layout_shapes wired) ≡ None → IsExchange shapes net fresh
exchange_is wired net new shapes fresh same is clear =
    subst (λ (l : List Shape). IsExchange l net fresh) (sym same) (subst (λ (l : List Shape). IsExchange (layout_shapes wired) net l) (sym is) (record {
      places = layouts_have_places (metals wired);
      new_places = net_has_places net (net_metal new);
      clear = clear;
      own = λ k d within. of_net net (net_metal new) (get_or (net_shapes net (net_metal new)) k d) (Contains-get_or (net_shapes net (net_metal new)) k d within);
    }))

pub exchanged_is : (wired : Wired) (net : ℕ) (new : Net) (shapes fresh : List Shape) → net < length wired.nets → shapes ≡ layout_shapes wired → fresh ≡ net_shapes net (net_metal new)
    → first_short (exchanged shapes net fresh) ≡ first_short (layout_shapes (with_put wired net new))
exchanged_is wired net new shapes fresh lt same is =
    ap (λ (l : List Shape). first_short (exchanged l net fresh)) same
    ∙ (ap (λ (l : List Shape). first_short (exchanged (layout_shapes wired) net l)) is
    ∙ (exchanges_are_layouts (metals wired) net (net_metal new) (all_long wired.nets wired.grounded net lt)
    ∙ ap (λ (ns : List (List Metal)). first_short (shapes_of ns)) (sym (set_metal wired.nets wired.grounded net new lt))))

pub exchange_names : (wired : Wired) (net : ℕ) (new : Net) (shapes fresh : List Shape) (o : Option Short) → net < length wired.nets → shapes ≡ layout_shapes wired → fresh ≡ net_shapes net (net_metal new)
    → IfSome o (IsOfPair (exchanged shapes net fresh)) → IfSome o (NamesNets wired)
exchange_names wired net new shapes fresh None lt same is of = tt
exchange_names wired net new shapes fresh (Some short) lt same is of = named wired (exchanged shapes net fresh) short within of
  where
    within : (s : Shape) → Contains (exchanged shapes net fresh) s → s.net < length (all_nets wired)
    within s has =
        let there : Contains (exchanged (layout_shapes wired) net (net_shapes net (net_metal new))) s =
        subst (λ (l : List Shape). Contains (exchanged (layout_shapes wired) net l) s) is (subst (λ (l : List Shape). Contains (exchanged l net fresh) s) same has) in
        let set = from_exchange (metals wired) net (net_metal new) (all_long wired.nets wired.grounded net lt) s there in
        let less = net_within (slice_set (metals wired) net (net_metal new)) s set in
        let long = set_long (metals wired) net (net_metal new) in
        let e = length-map (all_nets wired) net_metal in
        omega (arith, less, long, e)
