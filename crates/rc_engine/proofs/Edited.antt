-- What an edit of an engine's layout changes: the windows that it touches, and nothing else.
use Rattle.std.proofs.Common.{◌≡◌, ◌<◌, ◌≤◌, ◌^◌, ◌⊎◌, inl, inr, ⊎_elim, ℕ, List, [], ◌∷◌, ◌++◌, map, length, get_or, set, refl, ap, sym, subst, ◌∙◌, arith, length-set}
use Rattle.std.specs.Prelude.{All, Contains, IfOk, Some, Result, Ok, Err, fold, nat_lt, slice_get}
use Rattle.std.specs.List.{sum_by, flat_map, enumerate_from}
use Rattle.std.specs.List.Sorted.{IsStrictlyIncreasing}
use Rattle.std.proofs.Math.Seq.{map-set_same}
use Rattle.std.proofs.lemmas.Bool.{cases_eq}
use Rattle.std.proofs.lemmas.List.{get_or_default, get_or-map, length-map, map-set}
use Rattle.std.proofs.lemmas.List.Elements.{All-contains, Contains-append_cases}
use Rattle.std.proofs.lemmas.List.Concat.{length-flat_map}
use Rattle.std.proofs.lemmas.List.Sums.{sum_by-cons}
use Rattle.std.proofs.lemmas.Nat.{mul-le}
use Rattle.std.proofs.lemmas.Option.{same_Some, slice_get-get_or, get_or_from_slice_get, slice_get_within}
use Rattle.rc_fixed.proofs.Members.{none_in, at_head, in_tail, head_or_tail, in_map}
use Rattle.rc_fixed.specs.declared.memory.NoMemory.{NoMemory}
use Rattle.rc_geom.specs.declared.tile.Tile.{Tile}
use Rattle.rc_geom.specs.Plane.{Plane, plane_of}
use Rattle.rc_geom.specs.Rates.{Rates}
use Rattle.rc_geom.specs.Sums.{numbers}
use Rattle.rc_geom.specs.Extraction.{key_count, key_value}
use Rattle.rc_tally.specs.declared.entry.Entry.{Entry}
use Rattle.rc_tally.specs.Tallies.{IsRising}
use Rattle.rc_rules.specs.RuleFile.{RuleFile, HasRules}
use Rattle.rc_rules.specs.LookUp.{rates}
use Rattle.rc_layout.specs.declared.net.Net.{Net}
use Rattle.rc_layout.specs.declared.net.Conn.{Conn}
use Rattle.rc_layout.specs.Facts.{Belongs, IsLayout}
use Rattle.rc_layout.specs.Layouts.{Wired, with_put}
use Rattle.rc_layout.specs.Nets.{IsTied}
use Rattle.rc_nodes.specs.Nodes.{nodes_of}
use Rattle.rc_nodes.specs.LayoutPlane.{DrawnNet, own_net, grounded_net, drawn_nets}
use Rattle.rc_nodes.proofs.Bounded.{tiles_few, tiles_grounded}
use Rattle.rc_nodes.proofs.Numbered.{nodes_are}
use Rattle.rc_sweep.specs.declared.window.Window.{Window}
use Rattle.rc_windows.specs.declared.frame.Frame.{Frame}
use Rattle.rc_windows.specs.Frames.{IsFrame, window_count, touched}
use Rattle.rc_windows.specs.Indexes.{near_tiles, near_lists, changed_list}
use Rattle.rc_windows.specs.Laws.{AreAlike}
use Rattle.rc_windows.specs.Sweeps.{AreSweepable, CanSweepBoth, IsTallyOf, AreTalliesOf}
use Rattle.rc_windows.proofs.Changes.{changes_keep_indexes, near_tiles_are_sweepable}
use Rattle.rc_windows.proofs.Edits.{far_edits_keep_lists}
use Rattle.rc_windows.proofs.Limits.{limits_suffice}
use Rattle.rc_windows.proofs.Listed.{rising_is_short}
use Rattle.rc_engine.specs.declared.touching.Resweep.{Resweep}
use Rattle.rc_engine.specs.Names.{numbering_of, first_uses, with_conn}
use Rattle.rc_engine.specs.Start.{net_rects, tile_total, tiles_counted}
use Rattle.rc_engine.specs.Windows.{tiles_of, layout_tiles, window_of, windows_of, IsExtractable}
use Rattle.rc_engine.specs.Engine.{Engine, IsEngine}
use Rattle.rc_engine.specs.Edits.{touched_between, rects_of, MayReplace, AreChanged}
use Rattle.rc_engine.proofs.Alike.{alike_sweepable, alike_planes}
use Rattle.rc_engine.proofs.Drawn.{numbered_in, lists_joined}
use Rattle.rc_engine.proofs.Sweepable.{tiles_are_sweepable, few_near, window_near, window_at, list_at, windows_count}
use Rattle.rc_engine.proofs.Swapped.{drawn_swap, put_there, rects_are, is_edit, tiles_alike}

-- ---- no net has more tiles than it counts

sum_no_more : {X : Type 0} (f g : X → ℕ) (xs : List X) → ((x : X) → Contains xs x → f x ≤ g x) → sum_by f xs ≤ sum_by g xs
sum_no_more f g [] h = omega arith
sum_no_more f g (x ∷ xs) h =
    let first = h x (at_head x xs x refl) in
    let rest = sum_no_more f g xs (λ y there. h y (in_tail x xs y there)) in
    let a = sum_by-cons f x xs in
    let b = sum_by-cons g x xs in
    omega (arith, first, rest, a, b)

own_few : (wired : Wired) (e : ℕ × Net) → IsLayout wired → Contains wired.nets e.1 → length (tiles_of (own_net e)) ≤ tiles_counted (own_net e)
own_few wired e is there =
    let belongs = All-contains (Belongs wired.parts) wired.nets e.1 is.nets there in
    let tied = All-contains IsTied wired.nets e.1 is.tied there in
    tiles_few e.0 e.1 (nodes_of e.1) (nodes_are e.1 belongs.formed.items).order belongs.formed.items tied refl

grounded_few : (wired : Wired) (e : ℕ × Net) → IsLayout wired → Contains wired.grounded e.1 → length (tiles_of (grounded_net e)) ≤ tiles_counted (grounded_net e)
grounded_few wired e is there =
    let belongs = All-contains (Belongs wired.parts) wired.grounded e.1 is.grounded there in
    let one = (tiles_grounded e.0 [] e.1.items belongs.formed.items refl).one in
    omega (arith, one)

net_few : (wired : Wired) (net : DrawnNet) → IsLayout wired → Contains (drawn_nets wired) net → length (tiles_of net) ≤ tiles_counted net
unfolding drawn_nets
net_few wired net is h =
    let own = enumerate_from 0 wired.nets in
    let grounded = enumerate_from (length wired.nets) wired.grounded in
    ⊎_elim
    (λ (of_own : Contains (map own_net own) net).
    let e = in_map own_net own net of_own in
    subst (λ (n : DrawnNet). length (tiles_of n) ≤ tiles_counted n) e.2 (own_few wired e.0 is (numbered_in 0 wired.nets e.0 e.1)))
    (λ (of_grounded : Contains (map grounded_net grounded) net).
    let e = in_map grounded_net grounded net of_grounded in
    subst (λ (n : DrawnNet). length (tiles_of n) ≤ tiles_counted n) e.2 (grounded_few wired e.0 is (numbered_in (length wired.nets) wired.grounded e.0 e.1)))
    (Contains-append_cases (map own_net own) (map grounded_net grounded) net h)

pub tiles_within : (wired : Wired) → IsLayout wired → length (layout_tiles wired) ≤ tile_total (drawn_nets wired)
unfolding layout_tiles tile_total
tiles_within wired is =
    let long = length-flat_map tiles_of (drawn_nets wired) in
    let few = sum_no_more (λ (n : DrawnNet). length (tiles_of n)) tiles_counted (drawn_nets wired) (λ n h. net_few wired n is h) in
    omega (arith, long, few)

-- ---- the changed list of a window

sum_ones : (ts : List Tile) → sum_by (λ _. 1) ts ≡ length ts
sum_ones [] = refl
sum_ones (t ∷ ts) = let rest = sum_ones ts in let sum = sum_by-cons (λ (_ : Tile). 1) t ts in omega (arith, rest, sum)

alike_long : (ts us : List Tile) → AreAlike ts us → length ts ≡ length us
alike_long ts us alike = sym (sum_ones ts) ∙ alike (λ _. 1) ∙ sum_ones us

-- it has each tile that matters to the window once
pub changed_alike : (e : Engine) (number : ℕ) (old new : Net) (k : ℕ) → IsEngine e → MayReplace e number new → slice_get e.layout.nets number ≡ Some old → k < window_count e.frame →
    AreAlike (changed_list e.frame number (tiles_of (own_net (number, new))) k (get_or e.lists k [])) (near_tiles e.frame (layout_tiles (with_put e.layout number new)) k)
changed_alike e number old new k is may there within =
    changes_keep_indexes e.frame number k (layout_tiles e.layout) (layout_tiles (with_put e.layout number new)) (tiles_of (own_net (number, new))) (get_or e.lists k []) (is.lists k within)
    (tiles_alike e.layout (with_put e.layout number new) e.rules (own_net (number, old)) (own_net (number, new)) is.extractable (drawn_swap e.layout number old new there))

near_can : (wired : Wired) (rules : RuleFile) (frame : Frame) (k : ℕ) → IsExtractable wired rules → AreSweepable (HasRules rules) (near_tiles frame (layout_tiles wired) k)
near_can wired rules frame k is = near_tiles_are_sweepable (HasRules rules) frame (layout_tiles wired) k (tiles_are_sweepable wired rules is)

-- so it can be swept
pub changed_can : (e : Engine) (number : ℕ) (old new : Net) (k : ℕ) → IsEngine e → MayReplace e number new → slice_get e.layout.nets number ≡ Some old → k < window_count e.frame →
    CanSweepBoth numbers (λ v. nat_lt v (2 ^ 128)) (HasRules e.rules) (rates e.rules) (window_of e.frame k) (changed_list e.frame number (tiles_of (own_net (number, new))) k (get_or e.lists k []))
changed_can e number old new k is may there within =
    let after = with_put e.layout number new in
    let list = changed_list e.frame number (tiles_of (own_net (number, new))) k (get_or e.lists k []) in
    let near = near_tiles e.frame (layout_tiles after) k in
    let alike = changed_alike e number old new k is may there within in
    let long = alike_long list near alike in
    let short = few_near e.frame (layout_tiles after) k in
    let few = may.extractable.few in
    limits_suffice e.rules (window_of e.frame k) list (window_near e.frame k is.frame within) (omega (arith, long, short, few)) (alike_sweepable (HasRules e.rules) list near alike (near_can after e.rules e.frame k may.extractable))

-- ---- all that the edit changes

tally_of_plane : (rates : Rates ℕ) (window : Window) (ts us : List Tile) (tally : List (Entry ℕ)) → plane_of ts ≡ plane_of us → IsTallyOf numbers rates window ts tally → IsTallyOf numbers rates window us tally
tally_of_plane rates window ts us tally same is = record {
  count = λ key. is.count key ∙ ap (λ (p : Plane). key_count p rates window.rect key) same;
  value = λ key. is.value key ∙ ap (λ (p : Plane). key_value numbers p rates window.rect key) same;
  some = is.some;
}

pub are_changed :
    (e : Engine) (number : ℕ) (old new : Net) (tiles : List Tile) (ks : List ℕ) (lists : List (List Tile)) (tallies : List (List (Entry ℕ))) → IsEngine e → MayReplace e number new → slice_get e.layout.nets number ≡ Some old
    → tiles ≡ tiles_of (own_net (number, new)) → ks ≡ touched e.frame (net_rects old ++ net_rects new) → IsStrictlyIncreasing ks → All (λ k. k < window_count e.frame) ks
    → lists ≡ map (λ k. changed_list e.frame number tiles k (get_or e.lists k [])) ks → AreTalliesOf numbers (rates e.rules) (map (window_of e.frame) ks) lists tallies → All IsRising tallies →
    AreChanged e (with_put e.layout number new) ks lists tallies
are_changed e number old new tiles ks lists tallies is may there own touch rises range made swept rising = record {
  increasing = rises;
  range = range;
  lists_count = long;
  tallies_count = swept.count ∙ length-map ks (window_of e.frame);
  lists = λ i within. alike i within;
  tallies = λ i within.
      let k = get_or ks i 0 in
      let ts = get_or lists i [] in
      let near = near_tiles e.frame (layout_tiles after) k in
      tally_of_plane (rates e.rules) (window_of e.frame k) ts near (get_or tallies i [])
      (alike_planes (HasRules e.rules) ts near (alike i within) (near_can after e.rules e.frame k may.extractable))
      (subst (λ (w : Window). IsTallyOf numbers (rates e.rules) w ts (get_or tallies i [])) (get_or-map (window_of e.frame) ks i 0 (window_of e.frame 0) within)
      (swept.each i (window_of e.frame 0) [] [] (let count = length-map ks (window_of e.frame) in omega (arith, count, within))));
  rising = rising;
  others = λ k within apart.
      far_edits_keep_lists e.frame number (net_rects old) (net_rects new) (layout_tiles e.layout) (layout_tiles after) k (is_edit e.layout e.rules number old new is.extractable may.extractable there) within
      (λ h. apart (subst (λ (l : List ℕ). Contains l k) (sym touch) h));
}
  where
    after : Wired
    after = with_put e.layout number new

    long : length lists ≡ length ks
    long = ap length made ∙ length-map ks (λ k. changed_list e.frame number tiles k (get_or e.lists k []))

    at : (i : ℕ) → i < length ks → get_or lists i [] ≡ changed_list e.frame number (tiles_of (own_net (number, new))) (get_or ks i 0) (get_or e.lists (get_or ks i 0) [])
    at i within =
        ap (λ (ls : List (List Tile)). get_or ls i []) made
        ∙ get_or-map (λ k. changed_list e.frame number tiles k (get_or e.lists k [])) ks i 0 [] within
        ∙ ap (λ (ts : List Tile). changed_list e.frame number ts (get_or ks i 0) (get_or e.lists (get_or ks i 0) [])) own

    alike : (i : ℕ) → i < length ks → AreAlike (get_or lists i []) (near_tiles e.frame (layout_tiles after) (get_or ks i 0))
    alike i within =
        subst (λ (ts : List Tile). AreAlike ts (near_tiles e.frame (layout_tiles after) (get_or ks i 0))) (sym (at i within))
        (changed_alike e number old new (get_or ks i 0) is may there (range i 0 within))

pub touched_is : (frame : Frame) (wired : Wired) (number : ℕ) (old new : Net) → slice_get wired.nets number ≡ Some old → touched frame (net_rects old ++ net_rects new) ≡ touched_between frame wired (with_put wired number new) number
touched_is frame wired number old new there =
    let within = slice_get_within wired.nets number old there in
    sym (ap (λ rs. touched frame (rs ++ rects_of (with_put wired number new) number)) (rects_are wired number old there)
    ∙ ap (λ rs. touched frame (net_rects old ++ rs)) (rects_are (with_put wired number new) number new (put_there wired number new within)))

-- ---- putting it in place

pub among : (k : ℕ) (ks : List ℕ) → Contains ks k ⊎ (Contains ks k → ⊥)
among k [] = inr (λ h. none_in k h)
among k (j ∷ ks) = ⊎_elim
    (λ (here : j ≡ k). inl (at_head j ks k here))
    (λ (differs : j ≡ k → ⊥). ⊎_elim
    (λ (there : Contains ks k). inl (in_tail j ks k there))
    (λ (none : Contains ks k → ⊥). inr (λ h. ⊎_elim (λ (here : j ≡ k). differs here) (λ (there : Contains ks k). none there) (head_or_tail j ks k h)))
    (among k ks))
    (cases_eq j k)

-- the items at some places are new ones, and all others are as they were
pub record ArePlaced {X : Type 0} (ks : List ℕ) (new was now : List X) : Type 0 where
  pub count : length now ≡ length was
  pub given : length new ≡ length ks
  pub set : (i : ℕ) → i < length ks → slice_get now (get_or ks i 0) ≡ slice_get new i
  pub kept : (k : ℕ) → (Contains ks k → ⊥) → slice_get now k ≡ slice_get was k

pub are_placed : {X : Type 0} (list ks : List ℕ) (new was inside now : List X) → list ≡ ks → inside ≡ was → length new ≡ length ks → ((i : ℕ) → i < length list → slice_get now (get_or list i 0) ≡ slice_get new i) →
    ((k : ℕ) → (Contains list k → ⊥) → slice_get now k ≡ slice_get inside k) → length now ≡ length inside → ArePlaced ks new was now
are_placed {X} list ks new was inside now same held given set kept count = record {
  count = count ∙ ap length held;
  given = given;
  set = λ i less. ap (λ (l : List ℕ). slice_get now (get_or l i 0)) (sym same) ∙ set i (subst (λ (l : List ℕ). i < length l) (sym same) less);
  kept = λ k none. kept k (λ h. none (subst (λ (l : List ℕ). Contains l k) same h)) ∙ ap (λ (xs : List X). slice_get xs k) held;
}

read_same : {X : Type 0} (xs ys : List X) (i j : ℕ) (d : X) → i < length xs → j < length ys → slice_get xs i ≡ slice_get ys j → get_or xs i d ≡ get_or ys j d
read_same xs ys i j d in_x in_y same = same_Some (get_or xs i d) (get_or ys j d) (sym (slice_get-get_or xs i d in_x) ∙ same ∙ slice_get-get_or ys j d in_y)

-- what holds of each item, new or old, holds of all
placed_hold : {X : Type 0} (P : ℕ → X → Type 0) (d : X) (ks : List ℕ) (new was now : List X) → ArePlaced ks new was now →
    ((i : ℕ) → i < length ks → P (get_or ks i 0) (get_or new i d)) → ((k : ℕ) → k < length was → (Contains ks k → ⊥) → P k (get_or was k d)) → (k : ℕ) → k < length now → P k (get_or now k d)
placed_hold {X} P d ks new was now put of_new of_old k within = ⊎_elim
    (λ (h : Contains ks k).
    let i = h.0 in
    let less = h.1 in
    let given = put.given in
    let at : get_or ks i 0 ≡ k = get_or_default ks i 0 k less ∙ h.2 in
    let same : get_or now k d ≡ get_or new i d = read_same now new k i d within (omega (arith, less, given)) (ap (slice_get now) (sym at) ∙ put.set i less) in
    subst (P k) (sym same) (subst (λ (j : ℕ). P j (get_or new i d)) at (of_new i less)))
    (λ (none : Contains ks k → ⊥).
    let count = put.count in
    let old : k < length was = omega (arith, within, count) in
    subst (P k) (sym (read_same now was k k d within old (put.kept k none))) (of_old k old none))
    (among k ks)

pub still_engine :
    (e now : Engine) (number : ℕ) (new : Net) (ks : List ℕ) (lists : List (List Tile)) (tallies : List (List (Entry ℕ))) → IsEngine e → MayReplace e number new → AreChanged e (with_put e.layout number new) ks lists tallies
    → now.layout ≡ with_put e.layout number new → now.rules ≡ e.rules → now.workers ≡ e.workers → now.frame ≡ e.frame → ArePlaced ks lists e.lists now.lists → ArePlaced ks tallies e.tallies now.tallies → IsEngine now
still_engine e now number new ks lists tallies is may changed layout rules workers frame of_lists of_tallies =
    subst IsEngine whole (record {
      extractable = may.extractable;
      accepted = may.accepted;
      few_nodes = may.few_nodes;
      some_worker = is.some_worker;
      few_workers = is.few_workers;
      frame = is.frame;
      halo = is.halo;
      windows = of_lists.count ∙ is.windows;
      lists = λ k within.
          placed_hold (λ (k : ℕ) (ts : List Tile). AreAlike ts (near_tiles e.frame (layout_tiles after) k)) [] ks lists e.lists now.lists of_lists changed.lists
          (λ k old none. subst (AreAlike (get_or e.lists k [])) (sym (changed.others k (omega (arith, old, windows)) none)) (is.lists k (omega (arith, old, windows))))
          k (let count = of_lists.count in omega (arith, within, count, windows));
      tallies = record {
        count = of_tallies.count ∙ is.tallies.count;
        each = λ i w ts t within.
            let less : i < window_count e.frame = omega (arith, within, count) in
            let there : i < length now.tallies = omega (arith, within, many, (of_tallies.count)) in
            subst (λ (v : Window). IsTallyOf numbers (rates e.rules) v (get_or (near_lists e.frame (layout_tiles after)) i ts) (get_or now.tallies i t)) (sym (window_at e.frame i w less))
            (subst (λ (l : List Tile). IsTallyOf numbers (rates e.rules) (window_of e.frame i) l (get_or now.tallies i t)) (sym (list_at e.frame (layout_tiles after) i ts less))
            (subst (IsTallyOf numbers (rates e.rules) (window_of e.frame i) (near_tiles e.frame (layout_tiles after) i)) (get_or_default now.tallies i [] t there) (tally i there)));
      };
      rising = λ i d within. subst IsRising (get_or_default now.tallies i [] d within)
          (placed_hold (λ (k : ℕ) (t : List (Entry ℕ)). IsRising t) [] ks tallies e.tallies now.tallies of_tallies
          (λ i less. changed.rising i [] (let count = changed.tallies_count in omega (arith, less, count))) (λ k old none. is.rising k [] old) i within);
    })
  where
    after : Wired
    after = with_put e.layout number new

    whole : record { layout = after; rules = e.rules; workers = e.workers; frame = e.frame; lists = now.lists; tallies = now.tallies; touched = now.touched } ≡ now
    whole = λ i. record { layout = sym layout i; rules = sym rules i; workers = sym workers i; frame = sym frame i; lists = now.lists; tallies = now.tallies; touched = now.touched }

    windows : length e.lists ≡ window_count e.frame
    windows = is.windows

    count : length (windows_of e.frame) ≡ window_count e.frame
    count = windows_count e.frame

    many : length e.tallies ≡ length (windows_of e.frame)
    many = is.tallies.count

    old_tally : (k : ℕ) → k < length e.tallies → (Contains ks k → ⊥) → IsTallyOf numbers (rates e.rules) (window_of e.frame k) (near_tiles e.frame (layout_tiles after) k) (get_or e.tallies k [])
    old_tally k old none =
        let less : k < window_count e.frame = omega (arith, old, many, count) in
        subst (λ (ts : List Tile). IsTallyOf numbers (rates e.rules) (window_of e.frame k) ts (get_or e.tallies k [])) (sym (changed.others k less none))
        (subst (λ (w : Window). IsTallyOf numbers (rates e.rules) w (near_tiles e.frame (layout_tiles e.layout) k) (get_or e.tallies k [])) (window_at e.frame k (window_of e.frame 0) less)
        (subst (λ (ts : List Tile). IsTallyOf numbers (rates e.rules) (get_or (windows_of e.frame) k (window_of e.frame 0)) ts (get_or e.tallies k [])) (list_at e.frame (layout_tiles e.layout) k [] less)
        (is.tallies.each k (window_of e.frame 0) [] [] (omega (arith, old, many)))))

    tally : (k : ℕ) → k < length now.tallies → IsTallyOf numbers (rates e.rules) (window_of e.frame k) (near_tiles e.frame (layout_tiles after) k) (get_or now.tallies k [])
    tally k within =
        placed_hold (λ (k : ℕ) (t : List (Entry ℕ)). IsTallyOf numbers (rates e.rules) (window_of e.frame k) (near_tiles e.frame (layout_tiles after) k) t) [] ks tallies e.tallies now.tallies of_tallies changed.tallies old_tally k within

-- ---- what else the engine keeps

pub nodes_put : (nets : List Net) (number : ℕ) (new : Net) → map nodes_of (set nets number new) ≡ set (map nodes_of nets) number (nodes_of new)
nodes_put nets number new = map-set nodes_of nets number new

pub names_put : (e : Engine) (number : ℕ) (old new : Net) → slice_get e.layout.nets number ≡ Some old → MayReplace e number new → map (λ (net : Net). net.name) (with_put e.layout number new).nets ≡ map (λ (net : Net). net.name) e.layout.nets
names_put e number old new there may =
    map-set_same (λ (net : Net). net.name) e.layout.nets number new old ((may.candidate old there).name ∙ ap (λ (net : Net). net.name) (sym (get_or_from_slice_get e.layout.nets number old old there)))

pub naming_put : (e : Engine) (number : ℕ) (old new : Net) → slice_get e.layout.nets number ≡ Some old → MayReplace e number new → numbering_of e.layout ≡ numbering_of (with_put e.layout number new)
unfolding first_uses
naming_put e number old new there may =
    let conns : Net → List Conn = λ (net : Net). net.conns in
    let same : map conns (set e.layout.nets number new) ≡ map conns e.layout.nets =
    map-set_same conns e.layout.nets number new old (may.conns old there ∙ ap conns (sym (get_or_from_slice_get e.layout.nets number old old there))) in
    let all : flat_map conns e.layout.nets ≡ flat_map conns (set e.layout.nets number new) =
    sym (lists_joined conns e.layout.nets) ∙ ap (flat_map (λ cs. cs)) (sym same) ∙ lists_joined conns (set e.layout.nets number new) in
    let long = length-set e.layout.nets number new in
    λ i. record { nets = sym long i; uses = fold with_conn [] (all i) }

pub windows_are_few : (frame : Frame) (ks : List ℕ) → IsFrame frame → IsStrictlyIncreasing ks → All (λ k. k < window_count frame) ks → length ks ≤ 2 ^ 20
windows_are_few frame ks is rises range =
    let short = rising_is_short ks (window_count frame) rises range in
    let few = mul-le frame.up.count frame.across.count 1024 1024 is.up.few is.across.few in
    omega (arith, short, few)

-- ---- what a sweep of the touched windows gives

pub swept_changes : (r : Result Resweep NoMemory) (e : Engine) (number : ℕ) (old new : Net) (tiles : List Tile) → IsEngine e → MayReplace e number new → slice_get e.layout.nets number ≡ Some old → tiles ≡ tiles_of (own_net (number, new)) →
    IfOk r (λ s. s.windows ≡ touched e.frame (net_rects old ++ net_rects new)) → IfOk r (λ s. IsStrictlyIncreasing s.windows) → IfOk r (λ s. All (λ k. k < window_count e.frame) s.windows) →
    IfOk r (λ s. s.lists ≡ map (λ k. changed_list e.frame number tiles k (get_or e.lists k [])) s.windows) → IfOk r (λ s. AreTalliesOf numbers (rates e.rules) (map (window_of e.frame) s.windows) s.lists s.tallies) →
    IfOk r (λ s. All IsRising s.tallies) → IfOk r (λ s. AreChanged e (with_put e.layout number new) s.windows s.lists s.tallies)
swept_changes (Ok s) e number old new tiles is may there own windows increasing range lists tallies rising = are_changed e number old new tiles s.windows s.lists s.tallies is may there own windows increasing range lists tallies rising
swept_changes (Err why) e number old new tiles is may there own windows increasing range lists tallies rising = tt

pub tallies_long : (e : Engine) → IsEngine e → length e.tallies ≡ window_count e.frame
tallies_long e is = is.tallies.count ∙ windows_count e.frame
