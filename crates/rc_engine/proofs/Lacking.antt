-- What refuses a layout with one net in the place of another, where nothing refuses the layout before.
use Rattle.std.proofs.Common.{◌≡◌, ◌≤◌, ◌+◌, ◌^◌, ⊎_elim, ℕ, Bool, true, false, cond, List, [], ◌∷◌, ◌++◌, map, length, get_or, set, refl, ap, sym, subst, ◌∙◌, arith}
use Rattle.std.specs.Prelude.{All, Contains, Option, Some, None, fold, min, option_map, slice_get}
use Rattle.std.specs.List.{flat_map, sum_by}
use Rattle.std.specs.Option.{option_or}
use Rattle.std.proofs.lemmas.List.Elements.{All-contains, All-set, Contains-append_left, Contains-append_right, Contains-append_cases}
use Rattle.std.proofs.lemmas.List.Sums.{fold-append, sum_by-set, get_or-le-sum_by}
use Rattle.std.proofs.lemmas.Option.{get_or_from_slice_get, slice_get_within}
use Rattle.std.proofs.lemmas.Grind.{flat_map-append}
use Rattle.rc_fixed.proofs.Members.{none_in, at_head, in_tail, head_or_tail, flat_map_has, in_flat_map}
use Rattle.rc_keys.specs.declared.code.Quantity.TheVariants.{Nodes, Tiles}
use Rattle.rc_keys.specs.declared.fault.Refusal.{Refusal}
use Rattle.rc_rules.specs.RuleFile.{RuleFile}
use Rattle.rc_geom.specs.declared.rect.Pt.{Pt}
use Rattle.rc_lef.specs.declared.via.Via.{Via}
use Rattle.rc_layout.specs.declared.item.Item.{Item}
use Rattle.rc_layout.specs.declared.net.Net.{Net}
use Rattle.rc_layout.specs.Layouts.{Wired, with_put}
use Rattle.rc_layout.specs.Metal.{all_nets}
use Rattle.rc_nodes.specs.Counts.{tile_count}
use Rattle.rc_nodes.specs.Nodes.{nodes_of}
use Rattle.rc_nodes.specs.LayoutPlane.{DrawnNet, own_net, drawn_nets}
use Rattle.rc_engine.specs.Measured.{nodes_with, tiles_with, limit_with}
use Rattle.rc_engine.specs.Start.{lesser, least_step, least_lacking, lacks_block, lacks_cut, no_layer, net_layers, net_cuts, place_cuts, layers_in_use, cuts_in_use, net_missing, missing_rules, limit_refusal, above, node_count, tile_total, tiles_counted}
use Rattle.rc_engine.specs.Windows.{HasRatedItems}
use Rattle.rc_nodes.proofs.Bounded.{all_from}
use Rattle.rc_engine.proofs.Drawings.{own_at, drawn_length}
use Rattle.rc_engine.proofs.Swapped.{IsSwap, set_is_swap, drawn_put}

-- ---- the least number that lacks something

-- once one does, some number is the least
least_stays : (lacks : ℕ → Bool) (m : ℕ) (xs : List ℕ) → fold (least_step lacks) (Some m) xs ≡ None → ⊥
least_stays lacks m [] none = absurd cc
least_stays lacks m (x ∷ xs) none = by (λ n. least_stays lacks n xs) (lacks x) refl
  where
    by : ((n : ℕ) → fold (least_step lacks) (Some n) xs ≡ None → ⊥) → (b : Bool) → lacks x ≡ b → ⊥
    by rest true h = rest (min m x) (sym (ap (λ (b : Bool). fold (least_step lacks) (cond b (lesser (Some m) x) (Some m)) xs) h) ∙ none)
    by rest false h = rest m (sym (ap (λ (b : Bool). fold (least_step lacks) (cond b (lesser (Some m) x) (Some m)) xs) h) ∙ none)

-- where none is the least, none lacks anything
none_lacks : (lacks : ℕ → Bool) (xs : List ℕ) → fold (least_step lacks) None xs ≡ None → (n : ℕ) → Contains xs n → lacks n ≡ false
none_lacks lacks [] none n h = absurd (none_in n h)
none_lacks lacks (x ∷ xs) none n h = by (λ left there. none_lacks lacks xs left n there) (lacks x) refl
  where
    by : (fold (least_step lacks) None xs ≡ None → Contains xs n → lacks n ≡ false) → (b : Bool) → lacks x ≡ b → lacks n ≡ false
    by rest true has = absurd (least_stays lacks x xs (sym (ap (λ (b : Bool). fold (least_step lacks) (cond b (lesser None x) None) xs) has) ∙ none))
    by rest false has = ⊎_elim
        (λ (here : x ≡ n). sym (ap lacks here) ∙ has)
        (λ (there : Contains xs n). rest (sym (ap (λ (b : Bool). fold (least_step lacks) (cond b (lesser None x) None) xs) has) ∙ none) there)
        (head_or_tail x xs n h)

-- numbers that lack nothing change nothing
passed_over : (lacks : ℕ → Bool) (xs : List ℕ) (o : Option ℕ) → ((n : ℕ) → Contains xs n → lacks n ≡ false) → fold (least_step lacks) o xs ≡ o
passed_over lacks [] o fine = refl
passed_over lacks (x ∷ xs) o fine =
    ap (λ (b : Bool). fold (least_step lacks) (cond b (lesser o x) o) xs) (fine x (at_head x xs x refl))
    ∙ passed_over lacks xs o (λ n h. fine n (in_tail x xs n h))

-- so of lists of numbers of which all others lack nothing, one decides
one_decides : {X : Type 0} (lacks : ℕ → Bool) (f : X → List ℕ) (old new : X) (was now : List X) (rest : List ℕ) → IsSwap old new was now → least_lacking lacks (flat_map f was ++ rest) ≡ None →
    least_lacking lacks (flat_map f now ++ rest) ≡ least_lacking lacks (f new)
unfolding least_lacking
one_decides {X} lacks f old new was now rest swap none =
    let step = least_step lacks in
    let first = flat_map f swap.before in
    let last = flat_map f swap.after in
    ap (λ (l : List X). fold step None (flat_map f l ++ rest)) swap.second
    ∙ fold-append step None (flat_map f (swap.before ++ new ∷ swap.after)) rest
    ∙ passed_over lacks rest (fold step None (flat_map f (swap.before ++ new ∷ swap.after))) (λ n h. fine n (Contains-append_right (flat_map f was) rest n h))
    ∙ ap (fold step None) (flat_map-append f swap.before (new ∷ swap.after))
    ∙ fold-append step None first (f new ++ last)
    ∙ ap (λ (o : Option ℕ). fold step o (f new ++ last)) (passed_over lacks first None (λ n h. let of = in_flat_map f swap.before n h in fine_in of.0 (Contains-append_left swap.before (old ∷ swap.after) of.0 of.1) n of.2))
    ∙ fold-append step None (f new) last
    ∙ passed_over lacks last (fold step None (f new)) (λ n h. let of = in_flat_map f swap.after n h in fine_in of.0 (Contains-append_right swap.before (old ∷ swap.after) of.0 (in_tail old swap.after of.0 of.1)) n of.2)
  where
    fine : (n : ℕ) → Contains (flat_map f was ++ rest) n → lacks n ≡ false
    fine = none_lacks lacks (flat_map f was ++ rest) none

    fine_in : (x : X) → Contains (swap.before ++ old ∷ swap.after) x → (n : ℕ) → Contains (f x) n → lacks n ≡ false
    fine_in x of n h = fine n (Contains-append_left (flat_map f was) rest n (flat_map_has f was x n (subst (λ (l : List X). Contains l x) (sym swap.first) of) h))

none_of_both : (o p : Option Refusal) → option_or o p ≡ None → (o ≡ None) × (p ≡ None)
none_of_both None p h = (refl, h)
none_of_both (Some r) p h = absurd cc

none_mapped : (b : Bool) (o : Option ℕ) → option_map (no_layer b) o ≡ None → o ≡ None
none_mapped b None h = refl
none_mapped b (Some n) h = absurd cc

nets_swap : (wired : Wired) (number : ℕ) (old new : Net) → slice_get wired.nets number ≡ Some old → IsSwap old new wired.nets (with_put wired number new).nets
nets_swap wired number old new there =
    subst (λ (n : Net). IsSwap n new wired.nets (set wired.nets number new)) (get_or_from_slice_get wired.nets number old old there)
    (set_is_swap wired.nets number old new (slice_get_within wired.nets number old there))

layers_parts : (wired : Wired) → layers_in_use wired ≡ flat_map net_layers wired.nets ++ flat_map net_layers wired.grounded
layers_parts wired = flat_map-append net_layers wired.nets wired.grounded

nothing_behind : (xs : List ℕ) → xs ++ [] ≡ xs
nothing_behind [] = refl
nothing_behind (x ∷ xs) = ap (λ (l : List ℕ). x ∷ l) (nothing_behind xs)

-- the first layer without rules is one of the new net
pub missing_with : (wired : Wired) (rules : RuleFile) (number : ℕ) (old new : Net) → slice_get wired.nets number ≡ Some old → missing_rules wired rules ≡ None →
    missing_rules (with_put wired number new) rules ≡ net_missing wired.parts.vias rules new
unfolding missing_rules net_missing
missing_with wired rules number old new there none =
    let swap = nets_swap wired number old new there in
    let cuts = net_cuts wired.parts.vias in
    let after = (with_put wired number new).nets in
    let both =
    none_of_both (option_map (no_layer false) (least_lacking (lacks_block rules) (layers_in_use wired))) (option_map (no_layer true) (least_lacking (lacks_cut rules) (cuts_in_use wired))) none in
    let layers = none_mapped false (least_lacking (lacks_block rules) (layers_in_use wired)) both.0 in
    let vias = none_mapped true (least_lacking (lacks_cut rules) (cuts_in_use wired)) both.1 in
    let layer : least_lacking (lacks_block rules) (layers_in_use (with_put wired number new)) ≡ least_lacking (lacks_block rules) (net_layers new) =
    ap (least_lacking (lacks_block rules)) (layers_parts (with_put wired number new))
    ∙ one_decides (lacks_block rules) net_layers old new wired.nets after (flat_map net_layers wired.grounded) swap (ap (least_lacking (lacks_block rules)) (sym (layers_parts wired)) ∙ layers) in
    let cut : least_lacking (lacks_cut rules) (cuts_in_use (with_put wired number new)) ≡ least_lacking (lacks_cut rules) (cuts new) =
    ap (least_lacking (lacks_cut rules)) (sym (nothing_behind (flat_map cuts after)))
    ∙ one_decides (lacks_cut rules) cuts old new wired.nets after [] swap (ap (least_lacking (lacks_cut rules)) (nothing_behind (flat_map cuts wired.nets)) ∙ vias) in
    ap (λ (o : Option ℕ). option_or (option_map (no_layer false) o) (option_map (no_layer true) (least_lacking (lacks_cut rules) (cuts_in_use (with_put wired number new))))) layer
    ∙ ap (λ (o : Option ℕ). option_or (option_map (no_layer false) (least_lacking (lacks_block rules) (net_layers new))) (option_map (no_layer true) o)) cut

-- ---- the limits

-- what one net counts is counted
pub nodes_counted : (wired : Wired) (number : ℕ) (old : Net) → slice_get wired.nets number ≡ Some old → length (nodes_of old) ≤ node_count wired.nets
unfolding node_count
nodes_counted wired number old there =
    let within = slice_get_within wired.nets number old there in
    let least = get_or-le-sum_by (λ (n : Net). length (nodes_of n)) wired.nets number old within in
    let here : length (nodes_of (get_or wired.nets number old)) ≡ length (nodes_of old) = ap (λ (n : Net). length (nodes_of n)) (get_or_from_slice_get wired.nets number old old there) in
    omega (arith, least, here)

pub tiles_are_counted : (wired : Wired) (number : ℕ) (old : Net) → slice_get wired.nets number ≡ Some old → tile_count (nodes_of old) old.items ≤ tile_total (drawn_nets wired)
unfolding tile_total
tiles_are_counted wired number old there =
    let within = slice_get_within wired.nets number old there in
    let e = own_net (number, old) in
    let long = drawn_length wired in
    let least = get_or-le-sum_by tiles_counted (drawn_nets wired) number e (omega (arith, within, long)) in
    let here : tiles_counted (get_or (drawn_nets wired) number e) ≡ tile_count (nodes_of old) old.items =
    ap tiles_counted (own_at wired number old e within ∙ ap (λ (n : Net). own_net (number, n)) (get_or_from_slice_get wired.nets number old old there)) in
    omega (arith, least, here)

node_counts : (wired : Wired) (number : ℕ) (old new : Net) → slice_get wired.nets number ≡ Some old → node_count (with_put wired number new).nets + length (nodes_of old) ≡ node_count wired.nets + length (nodes_of new)
unfolding node_count
node_counts wired number old new there =
    let within = slice_get_within wired.nets number old there in
    ap (λ (n : Net). sum_by (λ (m : Net). length (nodes_of m)) (set wired.nets number new) + length (nodes_of n)) (sym (get_or_from_slice_get wired.nets number old old there))
    ∙ sum_by-set (λ (n : Net). length (nodes_of n)) wired.nets number new old within

tile_totals : (wired : Wired) (number : ℕ) (old new : Net) → slice_get wired.nets number ≡ Some old →
    tile_total (drawn_nets (with_put wired number new)) + tile_count (nodes_of old) old.items ≡ tile_total (drawn_nets wired) + tile_count (nodes_of new) new.items
unfolding tile_total
tile_totals wired number old new there =
    let within = slice_get_within wired.nets number old there in
    let e = own_net (number, old) in
    let long = drawn_length wired in
    let here : get_or (drawn_nets wired) number e ≡ e = own_at wired number old e within ∙ ap (λ (n : Net). own_net (number, n)) (get_or_from_slice_get wired.nets number old old there) in
    ap (λ (ds : List DrawnNet). sum_by tiles_counted ds + tiles_counted e) (drawn_put wired number new within)
    ∙ ap (λ (d : DrawnNet). sum_by tiles_counted (set (drawn_nets wired) number (own_net (number, new))) + tiles_counted d) (sym here)
    ∙ sum_by-set tiles_counted (drawn_nets wired) number (own_net (number, new)) e (omega (arith, within, long))

pub node_count_with : (wired : Wired) (number : ℕ) (old new : Net) → slice_get wired.nets number ≡ Some old → nodes_with (node_count wired.nets) old new ≡ node_count (with_put wired number new).nets
node_count_with wired number old new there =
    let sums = node_counts wired number old new there in
    let least = nodes_counted wired number old there in
    omega (arith, sums, least)

pub tile_total_with : (wired : Wired) (number : ℕ) (old new : Net) → slice_get wired.nets number ≡ Some old → tiles_with (tile_total (drawn_nets wired)) old new ≡ tile_total (drawn_nets (with_put wired number new))
tile_total_with wired number old new there =
    let sums = tile_totals wired number old new there in
    let least = tiles_are_counted wired number old there in
    omega (arith, sums, least)

pub limit_is : (wired : Wired) (number nodes tiles : ℕ) (old new : Net) → slice_get wired.nets number ≡ Some old → nodes ≡ node_count wired.nets → tiles ≡ tile_total (drawn_nets wired) →
    limit_with nodes tiles old new ≡ limit_refusal (with_put wired number new)
unfolding limit_refusal
limit_is wired number nodes tiles old new there of_nodes of_tiles =
    ap (λ (n : ℕ). option_or (above (2 ^ 22) n Nodes) (above (2 ^ 23) (tiles_with tiles old new) Tiles)) (ap (λ (n : ℕ). nodes_with n old new) of_nodes ∙ node_count_with wired number old new there)
    ∙ ap (λ (n : ℕ). option_or (above (2 ^ 22) (node_count (with_put wired number new).nets) Nodes) (above (2 ^ 23) n Tiles)) (ap (λ (n : ℕ). tiles_with n old new) of_tiles ∙ tile_total_with wired number old new there)

-- ---- layers of one net without rules

pub own_layer : (vias : List Via) (rules : RuleFile) (net : Net) (items : List Item) (o : Option ℕ) (n : ℕ) → items ≡ net.items → o ≡ fold (least_step (lacks_block rules)) None (map (λ (item : Item). item.layer) items) → o ≡ Some n →
    Some (no_layer false n) ≡ net_missing vias rules net
unfolding net_missing least_lacking
own_layer vias rules net items o n same is some =
    sym (ap (λ p. option_or (option_map (no_layer false) p) (option_map (no_layer true) (least_lacking (lacks_cut rules) (net_cuts vias net))))
    (ap (λ (l : List Item). fold (least_step (lacks_block rules)) None (map (λ (item : Item). item.layer) l)) (sym same) ∙ sym is ∙ some))

pub own_cut : (vias : List Via) (rules : RuleFile) (net : Net) (items : List Item) (placed : List (ℕ × Pt)) (o p : Option ℕ) → items ≡ net.items → placed ≡ net.vias → o ≡ fold (least_step (lacks_block rules)) None (map (λ (item : Item). item.layer) items) → o ≡ None →
    p ≡ fold (least_step (lacks_cut rules)) None (flat_map (place_cuts vias) placed) → option_map (no_layer true) p ≡ net_missing vias rules net
unfolding net_missing least_lacking
own_cut vias rules net items placed o p same also is none cut =
    sym (ap (λ q. option_or (option_map (no_layer false) q) (option_map (no_layer true) (least_lacking (lacks_cut rules) (net_cuts vias net))))
    (ap (λ (l : List Item). fold (least_step (lacks_block rules)) None (map (λ (item : Item). item.layer) l)) (sym same) ∙ sym is ∙ none)
    ∙ ap (option_map (no_layer true)) (ap (λ (l : List (ℕ × Pt)). fold (least_step (lacks_cut rules)) None (flat_map (place_cuts vias) l)) (sym also) ∙ sym cut))

-- each layer with metal has rules where those of the new net have
pub rated_with : (wired : Wired) (rules : RuleFile) (number : ℕ) (new : Net) → All (HasRatedItems rules) (all_nets wired) → HasRatedItems rules new → All (HasRatedItems rules) (all_nets (with_put wired number new))
rated_with wired rules number new rated own =
    let nets = all_from (HasRatedItems rules) wired.nets (λ n h. All-contains (HasRatedItems rules) (all_nets wired) n rated (Contains-append_left wired.nets wired.grounded n h)) in
    let put = All-set (HasRatedItems rules) wired.nets number new own nets in
    all_from (HasRatedItems rules) (set wired.nets number new ++ wired.grounded) (λ n h. ⊎_elim
    (λ (first : Contains (set wired.nets number new) n). All-contains (HasRatedItems rules) (set wired.nets number new) n put first)
    (λ (last : Contains wired.grounded n). All-contains (HasRatedItems rules) (all_nets wired) n rated (Contains-append_right wired.nets wired.grounded n last))
    (Contains-append_cases (set wired.nets number new) wired.grounded n h))
