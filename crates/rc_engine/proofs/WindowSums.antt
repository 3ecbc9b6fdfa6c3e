-- The sums of all windows together are what all faces of a layout add up to.
use Rattle.std.proofs.Common.{◌≡◌, ◌<◌, ◌≤◌, ◌+◌, ⊎_elim, ℕ, zero, suc, Bool, true, false, cond, List, [], ◌∷◌, length, get_or, take, refl, ap, sym, subst, ◌∙◌, arith}
use Rattle.std.specs.Prelude.{All, Contains, IfSome, Option, Some, None, filter, fold, is_some, nat_lt}
use Rattle.std.specs.Option.{option_map_or}
use Rattle.std.specs.declared.cmp.Ordering.TheVariants.{Less}
use Rattle.std.proofs.lemmas.Bool.{cases_lt, true≢false}
use Rattle.std.proofs.lemmas.List.{get_or_default, take_all}
use Rattle.rc_fixed.proofs.Members.{at_head, in_tail, in_filter, in_flat_map}
use Rattle.rc_fixed.proofs.Tests.{nat_lt_passes, nat_lt_fails}
use Rattle.rc_geom.specs.declared.key.Key.{Key}
use Rattle.rc_geom.specs.declared.rect.Pt.{Pt}
use Rattle.rc_geom.specs.declared.tile.Tile.{Tile}
use Rattle.rc_geom.specs.Plane.{Metal, Plane, plane_of}
use Rattle.rc_geom.specs.Parts.{same_key}
use Rattle.rc_geom.specs.Rates.{Rates}
use Rattle.rc_geom.specs.Sums.{numbers, total}
use Rattle.rc_geom.specs.Extraction.{count_in, value_in, key_count, key_value}
use Rattle.rc_geom.specs.Laws.{HaloReaches}
use Rattle.rc_geom.proofs.Cuts.{total_plus}
use Rattle.rc_geom.proofs.KeyTests.{one_key}
use Rattle.rc_geom.proofs.Totals.{total_none, total_suc}
use Rattle.rc_tally.specs.declared.entry.Entry.{Entry}
use Rattle.rc_tally.specs.Amounts.{any_number}
use Rattle.rc_tally.specs.Numbers.{numbers_are_additive}
use Rattle.rc_tally.specs.Tallies.{sum_of, sums, entry_at, joined, gathered, IsRising, key_order}
use Rattle.rc_tally.proofs.Gathering.{with_one, is_of, gathered_append}
use Rattle.rc_tally.proofs.Merging.{found_key}
use Rattle.rc_tally.proofs.Orders.{more_differs}
use Rattle.rc_tally.proofs.Places.{entry_at_place}
use Rattle.rc_rules.specs.RuleFile.{RuleFile, HasRules}
use Rattle.rc_rules.specs.LookUp.{rates, halo_of}
use Rattle.rc_rules.specs.Looked.{reach_at, cap_at, looks_over}
use Rattle.rc_layout.specs.Layouts.{Wired}
use Rattle.rc_nodes.proofs.Bounded.{all_from}
use Rattle.rc_sweep.specs.declared.window.Window.{Window}
use Rattle.rc_windows.specs.declared.frame.Frame.{Frame}
use Rattle.rc_windows.specs.Frames.{meets, window_count, window_rect, all_squares, IsFrame}
use Rattle.rc_windows.specs.Indexes.{near_tiles, near_lists}
use Rattle.rc_windows.specs.Sweeps.{AreSweepable, IsTallyOf, AreTalliesOf}
use Rattle.rc_windows.proofs.Edits.{near_sums_add}
use Rattle.rc_engine.specs.Brought.{entries_of}
use Rattle.rc_engine.specs.Extraction.{count_of, value_of}
use Rattle.rc_engine.specs.Totals.{IsKey, total_entry}
use Rattle.rc_engine.specs.Windows.{layout_tiles, window_of, windows_of, IsExtractable}
use Rattle.rc_engine.specs.WindowLaws.{TalliesAreTotals}
use Rattle.rc_engine.proofs.Drawn.{tiles_make_the_layout}
use Rattle.rc_engine.proofs.KeysOfTiles.{metal_tile, tiles_have_nodes, counted_key}
use Rattle.rc_engine.proofs.Steps.{entries_more}
use Rattle.rc_engine.proofs.Sweepable.{tiles_are_sweepable, window_at, list_at, windows_count}
use Rattle.std.proofs.lemmas.List.Elements.{All-contains}

abbrev pub Entries : Type 0
Entries = List (Entry ℕ)

-- ---- the entry of a sum

abbrev sum_entry : Key → ℕ → ℕ → Entry ℕ
sum_entry q c v = record { key = q; count = c; value = v }

-- a sum of some parts has an entry, and one of no parts has none
abbrev entry_for : Key → ℕ → ℕ → Option (Entry ℕ)
entry_for q c v = cond (nat_lt 0 c) (Some (sum_entry q c v)) None

no_entry : (q : Key) (c v : ℕ) → c ≤ 0 → entry_for q c v ≡ None
no_entry q c v h = ap (λ (b : Bool). cond b (Some (sum_entry q c v)) None) (nat_lt_fails 0 c h)

some_entry : (q : Key) (c v : ℕ) → 0 < c → entry_for q c v ≡ Some (sum_entry q c v)
some_entry q c v h = ap (λ (b : Bool). cond b (Some (sum_entry q c v)) None) (nat_lt_passes 0 c h)

same_entry : (q : Key) (c d v w : ℕ) → c ≡ d → v ≡ w → entry_for q c v ≡ entry_for q d w
same_entry q c d v w count value = ap (λ (n : ℕ). entry_for q n v) count ∙ ap (entry_for q d) value

-- what an entry tells of a key: so many parts, and their sum
record Tells (q : Key) (o : Option (Entry ℕ)) (c v : ℕ) : Type 0 where
  is : o ≡ entry_for q c v
  none : c ≤ 0 → v ≡ 0

both_entries : (q : Key) (c d v w : ℕ) → (c ≤ 0 → v ≡ 0) → (d ≤ 0 → w ≡ 0) → joined numbers (entry_for q c v) (entry_for q d w) ≡ entry_for q (c + d) (v + w)
both_entries q c d v w first second = ⊎_elim
    (λ (some : 0 < c). ⊎_elim
    (λ (more : 0 < d).
    ap (λ (o : Option (Entry ℕ)). joined numbers o (entry_for q d w)) (some_entry q c v some)
    ∙ ap (joined numbers (Some (sum_entry q c v))) (some_entry q d w more)
    ∙ sym (some_entry q (c + d) (v + w) (omega (arith, some))))
    (λ (none : d ≤ 0).
    let nothing = second none in
    ap (λ (o : Option (Entry ℕ)). joined numbers o (entry_for q d w)) (some_entry q c v some)
    ∙ ap (joined numbers (Some (sum_entry q c v))) (no_entry q d w none)
    ∙ sym (some_entry q c v some)
    ∙ same_entry q c (c + d) v (v + w) (omega (arith, none)) (omega (arith, nothing)))
    (cases_lt 0 d))
    (λ (none : c ≤ 0).
    let nothing = first none in
    ap (λ (o : Option (Entry ℕ)). joined numbers o (entry_for q d w)) (no_entry q c v none)
    ∙ same_entry q d (c + d) w (v + w) (omega (arith, none)) (omega (arith, nothing)))
    (cases_lt 0 c)

both_tell : (q : Key) (o p : Option (Entry ℕ)) (c d v w : ℕ) → Tells q o c v → Tells q p d w → Tells q (joined numbers o p) (c + d) (v + w)
both_tell q o p c d v w first second = record {
  is = ap (λ (a : Option (Entry ℕ)). joined numbers a p) first.is ∙ ap (joined numbers (entry_for q c v)) second.is ∙ both_entries q c d v w first.none second.none;
  none = λ h. let a = first.none (omega (arith, h)) in let b = second.none (omega (arith, h)) in omega (arith, a, b);
}

-- ---- one tally

-- a tally has at most one entry of a key
nothing_later : (q : Key) (es : Entries) → ((y : Entry ℕ) → Contains es y → is_of q y ≡ false) → filter (is_of q) es ≡ []
nothing_later q [] none = refl
nothing_later q (e ∷ es) none =
    ap (λ (b : Bool). cond b (e ∷ filter (is_of q) es) (filter (is_of q) es)) (none e (at_head e es e refl))
    ∙ nothing_later q es (λ y there. none y (in_tail e es y there))

rising_tail : (e : Entry ℕ) (es : Entries) → IsRising (e ∷ es) → IsRising es
rising_tail e es h = λ i j d less within. h (suc i) (suc j) d (omega (arith, less)) (omega (arith, within))

rising_head : (e : Entry ℕ) (es : Entries) (y : Entry ℕ) → IsRising (e ∷ es) → Contains es y → same_key y.key e.key ≡ false
rising_head e es y h there =
    let within = there.1 in
    more_differs y.key e.key (subst (λ (x : Entry ℕ). key_order e.key x.key ≡ Less) there.2 (h 0 (suc there.0) y (omega arith) (omega (arith, within))))

joined_none : (o : Option (Entry ℕ)) → o ≡ joined numbers o None
joined_none None = refl
joined_none (Some d) = refl

-- so what it adds to what was gathered is that one
gathers_tally : (q : Key) (o : Option (Entry ℕ)) (es : Entries) → IsRising es → fold (with_one numbers) o (filter (is_of q) es) ≡ joined numbers o (entry_at es q)
gathers_tally q o [] rising = joined_none o
gathers_tally q o (e ∷ es) rising = by (gathers_tally q o es (rising_tail e es rising)) (same_key e.key q) refl
  where
    by : fold (with_one numbers) o (filter (is_of q) es) ≡ joined numbers o (entry_at es q) → (t : Bool) → same_key e.key q ≡ t →
        fold (with_one numbers) o (cond (same_key e.key q) (e ∷ filter (is_of q) es) (filter (is_of q) es)) ≡ joined numbers o (cond (same_key e.key q) (Some e) (entry_at es q))
    by rest true is =
        let own : e.key ≡ q = one_key e.key q is in
        let none : filter (is_of q) es ≡ [] = nothing_later q es (λ y there. subst (λ (k : Key). same_key y.key k ≡ false) own (rising_head e es y rising there)) in
        ap (λ (b : Bool). fold (with_one numbers) o (cond b (e ∷ filter (is_of q) es) (filter (is_of q) es))) is
        ∙ ap (λ (l : Entries). fold (with_one numbers) o (e ∷ l)) none
        ∙ sym (ap (λ (b : Bool). joined numbers o (cond b (Some e) (entry_at es q))) is)
    by rest false is =
        ap (λ (b : Bool). fold (with_one numbers) o (cond b (e ∷ filter (is_of q) es) (filter (is_of q) es))) is
        ∙ rest
        ∙ sym (ap (λ (b : Bool). joined numbers o (cond b (Some e) (entry_at es q))) is)

told_by : (q : Key) (c v : ℕ) (o : Option (Entry ℕ)) → IfSome o (λ e. e.key ≡ q) → IfSome o (λ e. 1 ≤ e.count) → (option_map_or sum_of o ((sums numbers).none)).count ≡ c → (option_map_or sum_of o ((sums numbers).none)).value ≡ v → Tells q o c v
told_by q c v None key some count value = record { is = sym (no_entry q c v (omega (arith, count))); none = λ h. sym value }
told_by q c v (Some e) key some count value =
    let same : e ≡ sum_entry q c v = λ i. sum_entry (key i) (count i) (value i) in
    record {
      is = ap (λ (x : Entry ℕ). Some x) same ∙ sym (some_entry q c v (omega (arith, count, some)));
      none = λ h. absurd (omega (arith, h, count, some));
    }

tally_tells : (q : Key) (rates : Rates ℕ) (window : Window) (tiles : List Tile) (tally : Entries) → IsTallyOf numbers rates window tiles tally →
    Tells q (entry_at tally q) (key_count (plane_of tiles) rates window.rect q) (key_value numbers (plane_of tiles) rates window.rect q)
tally_tells q rates window tiles tally is =
    told_by q (key_count (plane_of tiles) rates window.rect q) (key_value numbers (plane_of tiles) rates window.rect q) (entry_at tally q) (found_key tally q) (is.some q) (is.count q) (is.value q)

-- ---- all tallies

-- those of the first windows
first_tell : (q : Key) (tallies : List Entries) (counts values : ℕ → ℕ) → All (λ (tally : Entries). IsRising tally) tallies → ((k : ℕ) → k < length tallies → Tells q (entry_at (get_or tallies k []) q) (counts k) (values k)) →
    (n : ℕ) → n ≤ length tallies → Tells q (gathered numbers (entries_of (take n tallies)) q) (total numbers n counts) (total numbers n values)
first_tell q tallies counts values rising each zero within =
    let none = total_none numbers counts in
    record { is = sym (no_entry q (total numbers 0 counts) (total numbers 0 values) (omega (arith, none))); none = λ h. total_none numbers values }
first_tell q tallies counts values rising each (suc n) within =
    let less : n < length tallies = omega (arith, within) in
    let next : suc n ≡ n + 1 = omega arith in
    let tally = get_or tallies n [] in
    let before = entries_of (take n tallies) in
    let told = both_tell q (gathered numbers before q) (entry_at tally q) (total numbers n counts) (counts n) (total numbers n values) (values n)
    (first_tell q tallies counts values rising each n (omega (arith, within))) (each n less) in
    let is : gathered numbers (entries_of (take (suc n) tallies)) q ≡ joined numbers (gathered numbers before q) (entry_at tally q) =
    ap (λ (m : ℕ). gathered numbers (entries_of (take m tallies)) q) next
    ∙ ap (λ (es : Entries). gathered numbers es q) (sym (entries_more tallies n [] less))
    ∙ gathered_append numbers before tally q
    ∙ gathers_tally q (gathered numbers before q) tally (rising n [] less) in
    subst (λ (o : Option (Entry ℕ)). Tells q o (total numbers (suc n) counts) (total numbers (suc n) values)) (sym is)
    (subst (λ (c : ℕ). Tells q (joined numbers (gathered numbers before q) (entry_at tally q)) c (total numbers (suc n) values)) (sym (total_suc numbers n (suc n) counts next))
    (subst (Tells q (joined numbers (gathered numbers before q) (entry_at tally q)) (total numbers n counts + counts n)) (sym (total_suc numbers n (suc n) values next)) told))

all_tell : (q : Key) (tallies : List Entries) (counts values : ℕ → ℕ) → All (λ (tally : Entries). IsRising tally) tallies → ((k : ℕ) → k < length tallies → Tells q (entry_at (get_or tallies k []) q) (counts k) (values k)) →
    Tells q (gathered numbers (entries_of tallies) q) (total numbers (length tallies) counts) (total numbers (length tallies) values)
all_tell q tallies counts values rising each =
    subst (λ (ts : List Entries). Tells q (gathered numbers (entries_of ts) q) (total numbers (length tallies) counts) (total numbers (length tallies) values)) (take_all (length tallies) tallies (omega arith))
    (first_tell q tallies counts values rising each (length tallies) (omega arith))

-- ---- the windows of a layout

pub tally_at : (frame : Frame) (rates : Rates ℕ) (tiles : List Tile) (tallies : List Entries) (k : ℕ) → AreTalliesOf numbers rates (windows_of frame) (near_lists frame tiles) tallies → k < window_count frame →
    IsTallyOf numbers rates (window_of frame k) (near_tiles frame tiles k) (get_or tallies k [])
tally_at frame rates tiles tallies k are within =
    let count = windows_count frame in
    subst (λ (w : Window). IsTallyOf numbers rates w (near_tiles frame tiles k) (get_or tallies k [])) (window_at frame k (window_of frame 0) within)
    (subst (λ (ts : List Tile). IsTallyOf numbers rates (get_or (windows_of frame) k (window_of frame 0)) ts (get_or tallies k [])) (list_at frame tiles k [] within)
    (are.each k (window_of frame 0) [] [] (omega (arith, within, count))))

-- the halo of the rules reaches as far as the faces of the tiles look
pub halo_reaches : (rules : RuleFile) (frame : Frame) (tiles : List Tile) (k : ℕ) → AreSweepable (HasRules rules) tiles → frame.halo ≡ halo_of rules → HaloReaches (plane_of tiles) (rates rules) (window_rect frame k) frame.halo
halo_reaches rules frame tiles k can halo = λ layer p inside metal. by layer p (plane_of tiles layer p) refl metal
  where
    ruled : (layer : ℕ) → HasRules rules layer → ((rates rules).reach layer + 1 ≤ frame.halo) × ((rates rules).cap layer ≤ frame.halo)
    ruled layer has =
        let reach = reach_at rules layer has.values has.block in
        let cap = cap_at rules layer has.values has.block in
        let over = looks_over rules.layers 1 layer has.values has.block in
        let far = over.0 in
        let thick = over.1 in
        (omega (arith, reach, far, halo), omega (arith, cap, thick, halo))

    by : (layer : ℕ) (p : Pt) (o : Option Metal) → plane_of tiles layer p ≡ o → is_some o ≡ true → ((rates rules).reach layer + 1 ≤ frame.halo) × ((rates rules).cap layer ≤ frame.halo)
    by layer p None is metal = absurd (true≢false (sym metal))
    by layer p (Some m) is metal =
        let t = metal_tile tiles layer p m is in
        ruled layer (subst (HasRules rules) t.2 (All-contains (λ (t : Tile). HasRules rules t.layer) tiles t.0 can.rules t.1))

-- both axes of all windows are both axes of all squares
window_counts : (rules : RuleFile) (frame : Frame) (tiles : List Tile) (q : Key) → IsFrame frame → AreSweepable (HasRules rules) tiles → frame.halo ≡ halo_of rules →
    total numbers (window_count frame) (λ k. key_count (plane_of (near_tiles frame tiles k)) (rates rules) (window_rect frame k) q) ≡ key_count (plane_of tiles) (rates rules) all_squares q
window_counts rules frame tiles q is can halo =
    let part = λ (axis k : ℕ). count_in (plane_of (near_tiles frame tiles k)) (rates rules) axis (window_rect frame k) q in
    let sum = λ (axis : ℕ). near_sums_add frame is numbers any_number (λ _. 1) tiles (rates rules) axis q numbers_are_additive (λ axis layer at along up i d lt. refl) (λ k below. halo_reaches rules frame tiles k can halo) in
    total_plus numbers any_number numbers_are_additive (window_count frame) (part 0) (part 1) (λ k. refl) (λ k. refl)
    ∙ ap (λ (n : ℕ). n + total numbers (window_count frame) (part 1)) (sum 0)
    ∙ ap (λ (n : ℕ). count_in (plane_of tiles) (rates rules) 0 all_squares q + n) (sum 1)

window_values : (rules : RuleFile) (frame : Frame) (tiles : List Tile) (q : Key) → IsFrame frame → AreSweepable (HasRules rules) tiles → frame.halo ≡ halo_of rules →
    total numbers (window_count frame) (λ k. key_value numbers (plane_of (near_tiles frame tiles k)) (rates rules) (window_rect frame k) q) ≡ key_value numbers (plane_of tiles) (rates rules) all_squares q
window_values rules frame tiles q is can halo =
    let part = λ (axis k : ℕ). value_in numbers (plane_of (near_tiles frame tiles k)) (rates rules) axis (window_rect frame k) q in
    let sum = λ (axis : ℕ). near_sums_add frame is numbers any_number (λ v. v) tiles (rates rules) axis q numbers_are_additive (λ axis layer at along up i d lt. refl) (λ k below. halo_reaches rules frame tiles k can halo) in
    total_plus numbers any_number numbers_are_additive (window_count frame) (part 0) (part 1) (λ k. refl) (λ k. refl)
    ∙ ap (λ (n : ℕ). n + total numbers (window_count frame) (part 1)) (sum 0)
    ∙ ap (λ (n : ℕ). value_in numbers (plane_of tiles) (rates rules) 0 all_squares q + n) (sum 1)

count_is : (wired : Wired) (rules : RuleFile) (q : Key) → IsExtractable wired rules → key_count (plane_of (layout_tiles wired)) (rates rules) all_squares q ≡ count_of wired rules q
unfolding count_of
count_is wired rules q is = ap (λ (plane : Plane). key_count plane (rates rules) all_squares q) (tiles_make_the_layout wired rules is)

value_is : (wired : Wired) (rules : RuleFile) (q : Key) → IsExtractable wired rules → key_value numbers (plane_of (layout_tiles wired)) (rates rules) all_squares q ≡ value_of wired rules q
unfolding value_of
value_is wired rules q is = ap (λ (plane : Plane). key_value numbers plane (rates rules) all_squares q) (tiles_make_the_layout wired rules is)

-- ---- the keys

near_are_tiles : (frame : Frame) (tiles : List Tile) (k : ℕ) (t : Tile) → Contains (near_tiles frame tiles k) t → Contains tiles t
near_are_tiles frame tiles k t h = (in_filter (λ (u : Tile). meets frame u.rect k) tiles t h).0

-- an entry of a window's tally has a part, and so its key is of nodes of the layout
entry_key : (wired : Wired) (rates : Rates ℕ) (frame : Frame) (k : ℕ) (tally : Entries) (e : Entry ℕ) → IsTallyOf numbers rates (window_of frame k) (near_tiles frame (layout_tiles wired) k) tally → IsRising tally → Contains tally e → IsKey wired e.key
entry_key wired rates frame k tally e is rising there =
    let plane = plane_of (near_tiles frame (layout_tiles wired) k) in
    let here : entry_at tally e.key ≡ Some e =
    entry_at_place tally e.key there.0 e rising
    (record { in_range = there.1; has_key = λ d. ap (λ (x : Entry ℕ). x.key) (get_or_default tally there.0 d e there.1 ∙ there.2) }) there.2 in
    let some : 1 ≤ e.count = subst (λ (o : Option (Entry ℕ)). IfSome o (λ x. 1 ≤ x.count)) here (is.some e.key) in
    let count : e.count ≡ key_count plane rates (window_rect frame k) e.key =
    sym (ap (λ (o : Option (Entry ℕ)). (option_map_or sum_of o ((sums numbers).none)).count) here) ∙ is.count e.key in
    counted_key wired plane rates (window_rect frame k) e.key
    (tiles_have_nodes wired (near_tiles frame (layout_tiles wired) k) (near_are_tiles frame (layout_tiles wired) k))
    (subst (λ (n : ℕ). 0 < n) count (omega (arith, some)))

-- ---- both

pub tallies_are_totals : TalliesAreTotals
tallies_are_totals wired rules frame tallies is grid halo are rising = record {
  keys = all_from (λ (e : Entry ℕ). IsKey wired e.key) (entries_of tallies) key;
  sums = λ q _. sum q;
}
  where
    tiles : List Tile
    tiles = layout_tiles wired

    long : length tallies ≡ window_count frame
    long = are.count ∙ windows_count frame

    key : (e : Entry ℕ) → Contains (entries_of tallies) e → IsKey wired e.key
    key e h =
        let tally = in_flat_map (λ (t : Entries). t) tallies e h in
        let k = tally.1.0 in
        let less = tally.1.1 in
        let at : get_or tallies k [] ≡ tally.0 = get_or_default tallies k [] tally.0 less ∙ tally.1.2 in
        entry_key wired (rates rules) frame k tally.0 e
        (subst (IsTallyOf numbers (rates rules) (window_of frame k) (near_tiles frame tiles k)) at (tally_at frame (rates rules) tiles tallies k are (omega (arith, less, long))))
        (subst (λ (t : Entries). IsRising t) at (rising k [] less)) tally.2

    sum : (q : Key) → gathered numbers (entries_of tallies) q ≡ total_entry wired rules q
    sum q =
        let counts = λ (k : ℕ). key_count (plane_of (near_tiles frame tiles k)) (rates rules) (window_rect frame k) q in
        let values = λ (k : ℕ). key_value numbers (plane_of (near_tiles frame tiles k)) (rates rules) (window_rect frame k) q in
        let can = tiles_are_sweepable wired rules is in
        let told = all_tell q tallies counts values rising (λ k less. tally_tells q (rates rules) (window_of frame k) (near_tiles frame tiles k) (get_or tallies k []) (tally_at frame (rates rules) tiles tallies k are (omega (arith, less, long)))) in
        told.is
        ∙ same_entry q (total numbers (length tallies) counts) (count_of wired rules q) (total numbers (length tallies) values) (value_of wired rules q)
        (ap (λ (n : ℕ). total numbers n counts) long ∙ window_counts rules frame tiles q grid can halo ∙ count_is wired rules q is)
        (ap (λ (n : ℕ). total numbers n values) long ∙ window_values rules frame tiles q grid can halo ∙ value_is wired rules q is)
