-- A net has entries in the windows that its shapes touch, and in no others.
use Rattle.std.proofs.Common.{◌≡◌, ◌≢◌, ◌<◌, ◌≤◌, ◌+◌, inl, inr, ℕ, suc, zero, Bool, true, false, cond, not, List, [], ◌∷◌, ◌++◌, map, length, get_or, take, refl, ap, sym, subst, ◌∙◌, arith}
use Rattle.std.specs.Prelude.{Contains, IfOk, IfSome, Option, Some, None, Result, Ok, Err, ◌==◌, filter, slice_get}
use Rattle.std.specs.List.{cons_option, enumerate_from, filter_map, flat_map, list_any, range_with_len}
use Rattle.std.specs.Option.{option_map_or}
use Rattle.std.proofs.lemmas.Bool.{ne_eqb, eq-eqb, true≢false}
use Rattle.std.proofs.lemmas.List.{append_assoc, append-nil, get_or_default, get_or-map, length-map, take_all, take_more}
use Rattle.std.proofs.lemmas.List.Elements.{Contains-get_or, filter_map-append}
use Rattle.std.proofs.lemmas.List.FromFn.{get_or-enumerate_from, get_or-range_with_len, length-enumerate_from}
use Rattle.std.proofs.lemmas.Grind.{flat_map-append}
use Rattle.std.proofs.lemmas.Option.{get_or_from_slice_get, slice_get-get_or, slice_get_within}
use Rattle.rc_fixed.proofs.Members.{at_head, in_tail, in_filter}
use Rattle.rc_geom.specs.declared.key.Key.{Key}
use Rattle.rc_geom.specs.declared.key.Key.TheVariants.{Ground, Pair}
use Rattle.rc_geom.specs.declared.rect.Pt.{Pt}
use Rattle.rc_geom.specs.declared.rect.Rect.{Rect}
use Rattle.rc_geom.specs.declared.tile.Tile.{Tile}
use Rattle.rc_geom.specs.Faces.{is_net}
use Rattle.rc_geom.specs.Laws.{IsOfNet}
use Rattle.rc_geom.specs.Plane.{Metal, plane_of}
use Rattle.rc_geom.specs.Sums.{numbers}
use Rattle.rc_geom.specs.Extraction.{count_in, key_count}
use Rattle.rc_geom.proofs.FarNets.{far_nets_add_nothing}
use Rattle.rc_tally.specs.declared.entry.Entry.{Entry}
use Rattle.rc_tally.specs.Amounts.{any_number}
use Rattle.rc_tally.specs.Numbers.{numbers_are_additive}
use Rattle.rc_tally.specs.Tallies.{sum_of, sums, entry_at, IsRising}
use Rattle.rc_tally.proofs.Places.{entry_at_place}
use Rattle.rc_rules.specs.RuleFile.{RuleFile, HasRules}
use Rattle.rc_rules.specs.LookUp.{rates, halo_of}
use Rattle.rc_layout.specs.declared.net.Net.{Net}
use Rattle.rc_layout.specs.Layouts.{Wired}
use Rattle.rc_windows.specs.declared.frame.Frame.{Frame}
use Rattle.rc_windows.specs.Frames.{meets, window_count, window_rect, touched}
use Rattle.rc_windows.specs.Indexes.{near_tiles, others_of}
use Rattle.rc_windows.specs.Laws.{LieIn, IsEdit}
use Rattle.rc_windows.specs.Sweeps.{IsTallyOf}
use Rattle.rc_windows.proofs.Changes.{near_tiles_are_sweepable}
use Rattle.rc_windows.proofs.Edits.{far_edits_keep_lists}
use Rattle.rc_engine.specs.Brought.{entries_of, own_by, own_of, owned, turned_about}
use Rattle.rc_fixed.specs.declared.memory.NoMemory.{NoMemory}
use Rattle.rc_spef.specs.declared.value.DNet.{DNet}
use Rattle.rc_engine.specs.Extraction.{extraction, net_value}
use Rattle.rc_engine.specs.Engine.{Engine, IsEngine}
use Rattle.rc_engine.specs.Start.{net_rects}
use Rattle.rc_engine.specs.Windows.{layout_tiles, window_of, IsExtractable}
use Rattle.rc_engine.proofs.KeysOfTiles.{metal_tile}
use Rattle.rc_engine.proofs.Sweepable.{tiles_are_sweepable, windows_count}
use Rattle.rc_engine.proofs.Swapped.{filter_all, own_lies_in}
use Rattle.rc_engine.proofs.WindowSums.{Entries, halo_reaches, tally_at}

-- ---- a window that the net doesn't touch

-- the tiles of the other nets, as where the net had none
without_net : (wired : Wired) (rules : RuleFile) (number : ℕ) (net : Net) → IsExtractable wired rules → slice_get wired.nets number ≡ Some net →
    IsEdit number (net_rects net) [] (layout_tiles wired) (others_of number (layout_tiles wired))
without_net wired rules number net is there = record {
  others = filter_all p (filter p tiles) (λ t h. (in_filter p tiles t h).1);
  old_in = subst (λ (rs : List Rect). LieIn number rs tiles) (sym (append-nil (net_rects net))) (own_lies_in wired rules number net is there);
  new_in = λ k d within same. absurd (gone (get_or (filter p tiles) k d) (Contains-get_or (filter p tiles) k d within) same);
}
  where
    p : Tile → Bool
    p t = not (t.net == number)

    tiles : List Tile
    tiles = layout_tiles wired

    gone : (t : Tile) → Contains (filter p tiles) t → t.net ≡ number → ⊥
    gone t h same = true≢false (sym (in_filter p tiles t h).1 ∙ ap not (eq-eqb t.net number same))

-- no tile of the net matters to the window
none_near : (wired : Wired) (rules : RuleFile) (frame : Frame) (k number : ℕ) (net : Net) → IsExtractable wired rules → slice_get wired.nets number ≡ Some net → k < window_count frame → (Contains (touched frame (net_rects net)) k → ⊥) →
    (t : Tile) → Contains (near_tiles frame (layout_tiles wired) k) t → t.net ≢ number
none_near wired rules frame k number net is there within far t h same =
    let tiles = layout_tiles wired in
    let kept = far_edits_keep_lists frame number (net_rects net) [] tiles (others_of number tiles) k (without_net wired rules number net is there) within
    (λ h. far (subst (λ (rs : List Rect). Contains (touched frame rs) k) (append-nil (net_rects net)) h)) in
    let other = (in_filter (λ (u : Tile). meets frame u.rect k) (others_of number tiles) t (subst (λ (ts : List Tile). Contains ts t) (sym kept) h)).0 in
    true≢false (sym (in_filter (λ (u : Tile). not (u.net == number)) tiles t other).1 ∙ ap not (eq-eqb t.net number same))

-- so no face there adds a part to a key of the net
none_counted : (wired : Wired) (rules : RuleFile) (frame : Frame) (k number : ℕ) (net : Net) (key : Key) → IsExtractable wired rules → frame.halo ≡ halo_of rules → slice_get wired.nets number ≡ Some net → k < window_count frame →
    (Contains (touched frame (net_rects net)) k → ⊥) → IsOfNet number key → key_count (plane_of (near_tiles frame (layout_tiles wired) k)) (rates rules) (window_rect frame k) key ≡ 0
none_counted wired rules frame k number net key is halo there within far of_net =
    let first = nothing 0 in
    let second = nothing 1 in
    omega (arith, first, second)
  where
    near : List Tile
    near = near_tiles frame (layout_tiles wired) k

    bare : (layer : ℕ) (p : Pt) (o : Option Metal) → plane_of near layer p ≡ o → is_net number o ≡ false
    bare layer p None is' = refl
    bare layer p (Some m) is' =
        let tile = metal_tile near layer p m is' in
        let own : tile.0.net ≡ m.0 = ap (λ (a : Metal). a.0) tile.3 in
        ne_eqb m.0 number (λ same. none_near wired rules frame k number net is there within far tile.0 tile.1 (own ∙ same))

    nothing : (axis : ℕ) → count_in (plane_of near) (rates rules) axis (window_rect frame k) key ≡ 0
    nothing axis =
        far_nets_add_nothing numbers any_number (λ _. 1) (plane_of near) (rates rules) axis (window_rect frame k) frame.halo number key numbers_are_additive.neutral
        (halo_reaches rules frame near k (near_tiles_are_sweepable (HasRules rules) frame (layout_tiles wired) k (tiles_are_sweepable wired rules is)) halo)
        (λ layer p _. bare layer p (plane_of near layer p) refl) of_net

-- ---- its tally

-- an entry of a tally is no entry of a net whose keys have no part
not_own : (number : ℕ) (e : Entry ℕ) (key : Key) → ¬ IsOfNet number key → own_by number e key ≡ None
not_own number e (Ground net node) apart = ap (λ (b : Bool). cond b (Some e) None) (ne_eqb net number apart)
not_own number e (Pair net node other onode) apart =
    let turned = turned_about e (Pair net node other onode) in
    ap (λ (b : Bool). cond b (Some e) (cond (other == number) (Some turned) None)) (ne_eqb net number (λ same. apart (inl same)))
    ∙ ap (λ (b : Bool). cond b (Some turned) None) (ne_eqb other number (λ same. apart (inr same)))

none_mapped : {X Y : Type 0} (f : X → Option Y) (xs : List X) → ((x : X) → Contains xs x → f x ≡ None) → filter_map f xs ≡ []
none_mapped f [] h = refl
none_mapped {X} {Y} f (x ∷ xs) h =
    ap (λ (o : Option Y). cons_option o (filter_map f xs)) (h x (at_head x xs x refl))
    ∙ none_mapped f xs (λ y there. h y (in_tail x xs y there))

none_owned : (wired : Wired) (rules : RuleFile) (frame : Frame) (k number : ℕ) (net : Net) (tally : Entries) → IsExtractable wired rules → frame.halo ≡ halo_of rules → slice_get wired.nets number ≡ Some net → k < window_count frame →
    (Contains (touched frame (net_rects net)) k → ⊥) → IsTallyOf numbers (rates rules) (window_of frame k) (near_tiles frame (layout_tiles wired) k) tally → IsRising tally → owned number tally ≡ []
unfolding owned
none_owned wired rules frame k number net tally is halo there within far of_window rising =
    none_mapped (own_of number) tally (λ e h. not_own number e e.key (λ of_net.
    let here : entry_at tally e.key ≡ Some e =
    entry_at_place tally e.key h.0 e rising (record { in_range = h.1; has_key = λ d. ap (λ (x : Entry ℕ). x.key) (get_or_default tally h.0 d e h.1 ∙ h.2) }) h.2 in
    let some : 1 ≤ e.count = subst (λ (o : Option (Entry ℕ)). IfSome o (λ x. 1 ≤ x.count)) here (of_window.some e.key) in
    let count : e.count ≡ key_count (plane_of (near_tiles frame (layout_tiles wired) k)) (rates rules) (window_rect frame k) e.key =
    sym (ap (λ (o : Option (Entry ℕ)). (option_map_or sum_of o ((sums numbers).none)).count) here) ∙ of_window.count e.key in
    let none = none_counted wired rules frame k number net e.key is halo there within far of_net in
    absurd (omega (arith, some, count, none))))

-- ---- all tallies

owned_all : (number : ℕ) (tallies : List Entries) → owned number (entries_of tallies) ≡ flat_map (owned number) tallies
unfolding owned
owned_all number [] = refl
owned_all number (tally ∷ tallies) = filter_map-append (own_of number) tally (entries_of tallies) ∙ ap (λ (es : Entries). owned number tally ++ es) (owned_all number tallies)

no_more : (n : ℕ) → n ≡ n + 0
no_more n = omega arith

one_more : (n i : ℕ) → n + 1 + i ≡ n + suc i
one_more n i = omega arith

from_zero : (n : ℕ) → 0 + n ≡ n
from_zero n = omega arith

-- the members of a list by their places
by_places : {X Y : Type 0} (f : X → List Y) (d : X) (all xs : List X) (n : ℕ) → ((i : ℕ) → i < length xs → get_or all (n + i) d ≡ get_or xs i d) → flat_map f xs ≡ flat_map (λ k. f (get_or all k d)) (range_with_len n (length xs))
by_places f d all [] n same = refl
by_places {X} {Y} f d all (x ∷ xs) n same =
    let here : get_or all n d ≡ x = ap (λ (k : ℕ). get_or all k d) (no_more n) ∙ same 0 (omega arith) in
    ap (λ (y : X). f y ++ flat_map f xs) (sym here)
    ∙ ap (λ (ys : List Y). f (get_or all n d) ++ ys)
    (by_places f d all xs (n + 1) (λ i less. ap (λ (k : ℕ). get_or all k d) (one_more n i) ∙ same (suc i) (omega (arith, less))))

-- those that give nothing may be left out
left_out : {Y : Type 0} (f : ℕ → List Y) (p : ℕ → Bool) (ks : List ℕ) → ((k : ℕ) → Contains ks k → p k ≡ false → f k ≡ []) → flat_map f (filter p ks) ≡ flat_map f ks
left_out f p [] h = refl
left_out {Y} f p (k ∷ ks) h = by (left_out f p ks (λ j there. h j (in_tail k ks j there))) (p k) refl
  where
    by : flat_map f (filter p ks) ≡ flat_map f ks → (b : Bool) → p k ≡ b → flat_map f (cond (p k) (k ∷ filter p ks) (filter p ks)) ≡ f k ++ flat_map f ks
    by rest true is = ap (λ (b : Bool). flat_map f (cond b (k ∷ filter p ks) (filter p ks))) is ∙ ap (λ (ys : List Y). f k ++ ys) rest
    by rest false is = ap (λ (b : Bool). flat_map f (cond b (k ∷ filter p ks) (filter p ks))) is ∙ rest ∙ ap (λ (ys : List Y). ys ++ flat_map f ks) (sym (h k (at_head k ks k refl) is))

pub range_long : (from n : ℕ) → length (range_with_len from n) ≡ n
range_long from zero = refl
range_long from (suc n) = ap suc (range_long (from + 1) n)

range_below : (n k : ℕ) → Contains (range_with_len 0 n) k → k < n
range_below n k h =
    let long = range_long 0 n in
    let less = h.1 in
    let at : 0 + h.0 ≡ k = sym (get_or-range_with_len 0 n h.0 k (omega (arith, less, long))) ∙ h.2 in
    omega (arith, at, less, long)

-- what a net has of all windows, it has of those that its shapes touch
pub own_windows : (e : Engine) (number : ℕ) (net : Net) → IsEngine e → slice_get e.layout.nets number ≡ Some net →
    flat_map (λ k. owned number (get_or e.tallies k [])) (touched e.frame (net_rects net)) ≡ owned number (entries_of e.tallies)
own_windows e number net is there =
    left_out (λ k. owned number (get_or e.tallies k [])) met (range_with_len 0 (window_count e.frame)) (λ k h misses.
    let within = range_below (window_count e.frame) k h in
    none_owned e.layout e.rules e.frame k number net (get_or e.tallies k []) is.extractable is.halo there within
    (λ touches. true≢false (sym (in_filter met (range_with_len 0 (window_count e.frame)) k touches).1 ∙ misses))
    (tally_at e.frame (rates e.rules) (layout_tiles e.layout) e.tallies k is.tallies within) (is.rising k [] (omega (arith, within, long))))
    ∙ ap (λ (n : ℕ). flat_map (λ k. owned number (get_or e.tallies k [])) (range_with_len 0 n)) (sym long)
    ∙ sym (by_places (owned number) [] e.tallies e.tallies 0 (λ i less. ap (λ (k : ℕ). get_or e.tallies k []) (from_zero i)))
    ∙ sym (owned_all number e.tallies)
  where
    met : ℕ → Bool
    met k = list_any (λ r. meets e.frame r k) (net_rects net)

    long : length e.tallies ≡ window_count e.frame
    long = is.tallies.count ∙ windows_count e.frame

-- gathered window by window, they are what the net has of all
pub own_gathered : (e : Engine) (number : ℕ) (net : Net) (tallies : List Entries) (ks : List ℕ) (entries : Entries) → IsEngine e → slice_get e.layout.nets number ≡ Some net → tallies ≡ e.tallies → ks ≡ touched e.frame (net_rects net) →
    entries ≡ flat_map (λ k. owned number (get_or tallies k [])) ks → entries ≡ owned number (entries_of e.tallies)
own_gathered e number net tallies ks entries is there of_tallies of_windows made =
    made
    ∙ ap (λ (ts : List Entries). flat_map (λ k. owned number (get_or ts k [])) ks) of_tallies
    ∙ ap (flat_map (λ k. owned number (get_or e.tallies k []))) of_windows
    ∙ own_windows e number net is there

-- ---- gathering

pub none_yet : (net : ℕ) (before es : Entries) → before ≡ before ++ owned net (take 0 es)
unfolding owned
none_yet net before es = sym (append-nil before)

pub owned_more : (net : ℕ) (es : Entries) (i : ℕ) (d : Entry ℕ) (before now after : Entries) (o : Option (Entry ℕ)) → i < length es → now ≡ before ++ owned net (take i es) → o ≡ own_of net (get_or es i d) → after ≡ now ++ cons_option o [] →
    after ≡ before ++ owned net (take (i + 1) es)
unfolding owned
owned_more net es i d before now after o within so_far is put =
    let first = filter_map (own_of net) (take i es) in
    put
    ∙ ap (λ (l : Entries). l ++ cons_option o []) so_far
    ∙ append_assoc before first (cons_option o [])
    ∙ ap (λ (p : Option (Entry ℕ)). before ++ (first ++ cons_option p [])) is
    ∙ ap (λ (l : Entries). before ++ l) (sym (ap (filter_map (own_of net)) (take_more es i d within) ∙ filter_map-append (own_of net) (take i es) (get_or es i d ∷ [])))

pub owned_whole : (net : ℕ) (es : Entries) (i : ℕ) (before now : Entries) → length es ≤ i → now ≡ before ++ owned net (take i es) → now ≡ before ++ owned net es
owned_whole net es i before now past so_far = so_far ∙ ap (λ (l : Entries). before ++ owned net l) (take_all i es past)

pub gathered_more : (net : ℕ) (tallies : List Entries) (ks : List ℕ) (i d : ℕ) (tally entries now after : Entries) → i < length ks → get_or ks i d < length tallies → tally ≡ get_or tallies (get_or ks i d) tally → entries ≡ tally →
    now ≡ flat_map (λ k. owned net (get_or tallies k [])) (take i ks) → after ≡ now ++ owned net entries → after ≡ flat_map (λ k. owned net (get_or tallies k [])) (take (i + 1) ks)
gathered_more net tallies ks i d tally entries now after within there at is so_far put =
    let f : ℕ → Entries = λ k. owned net (get_or tallies k []) in
    let here : entries ≡ get_or tallies (get_or ks i d) [] = is ∙ at ∙ get_or_default tallies (get_or ks i d) tally [] there in
    put
    ∙ ap (λ (l : Entries). l ++ owned net entries) so_far
    ∙ ap (λ (es : Entries). flat_map f (take i ks) ++ owned net es) here
    ∙ ap (λ (l : Entries). flat_map f (take i ks) ++ l) (sym (append-nil (f (get_or ks i d))))
    ∙ sym (ap (flat_map f) (take_more ks i d within) ∙ flat_map-append f (take i ks) (get_or ks i d ∷ []))

-- ---- one net's value among those of all

pub value_among : (wired : Wired) (rules : RuleFile) (number : ℕ) (net : Net) (of : DNet) → slice_get wired.nets number ≡ Some net → IfSome (slice_get wired.nets number) (λ n. of ≡ net_value wired rules (number, n)) →
    slice_get (extraction wired rules).nets number ≡ Some of
unfolding extraction
value_among wired rules number net of there is =
    let within = slice_get_within wired.nets number net there in
    let long = length-enumerate_from 0 wired.nets in
    let all = length-map (enumerate_from 0 wired.nets) (net_value wired rules) in
    let here : of ≡ net_value wired rules (number, net) = subst (λ (o : Option Net). IfSome o (λ n. of ≡ net_value wired rules (number, n))) there is in
    slice_get-get_or (map (net_value wired rules) (enumerate_from 0 wired.nets)) number of (omega (arith, within, long, all))
    ∙ ap Some (get_or-map (net_value wired rules) (enumerate_from 0 wired.nets) number (0, net) of (omega (arith, within, long))
    ∙ ap (net_value wired rules) (get_or-enumerate_from 0 wired.nets number (0, net) within)
    ∙ ap (λ (n : ℕ). net_value wired rules (n, get_or wired.nets number net)) (from_zero number)
    ∙ ap (λ (n : Net). net_value wired rules (number, n)) (get_or_from_slice_get wired.nets number net net there)
    ∙ sym here)

pub value_is_among : (r : Result DNet NoMemory) (wired : Wired) (rules : RuleFile) (number : ℕ) (net : Net) → slice_get wired.nets number ≡ Some net → IfOk r (λ of. IfSome (slice_get wired.nets number) (λ n. of ≡ net_value wired rules (number, n))) →
    IfOk r (λ of. slice_get (extraction wired rules).nets number ≡ Some of)
value_is_among (Ok of) wired rules number net there is = value_among wired rules number net of there is
value_is_among (Err why) wired rules number net there is = tt
