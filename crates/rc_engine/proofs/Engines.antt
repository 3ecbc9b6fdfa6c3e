-- What an engine knows of its sums, and the values of its nets.
use Rattle.std.proofs.Common.{◌≡◌, ◌<◌, ◌≤◌, ◌+◌, ◌^◌, ℕ, List, [], ◌∷◌, ◌++◌, map, length, get_or, take, refl, ap, sym, subst, ◌∙◌, arith}
use Rattle.std.specs.Prelude.{Option, Some, None, All, Result, Ok, Err, IfOk, IfSome, nat_lt, slice_get}
use Rattle.std.specs.List.{sum_by}
use Rattle.std.proofs.lemmas.List.{take_more, take_all, get_or_append_left, get_or_default, map-append, length-append}
use Rattle.std.proofs.lemmas.List.FromFn.{get_or-enumerate_from, length-enumerate_from}
use Rattle.std.proofs.lemmas.Option.{slice_get-get_or}
use Rattle.std.proofs.lemmas.List.Elements.{Contains-get_or, All-contains}
use Rattle.rc_fixed.proofs.Members.{flat_map_has}
use Rattle.rc_geom.specs.declared.key.Key.{Key}
use Rattle.rc_geom.specs.declared.key.Key.TheVariants.{Ground, Pair}
use Rattle.rc_fixed.specs.declared.memory.NoMemory.{NoMemory}
use Rattle.rc_geom.specs.declared.tile.Tile.{Tile}
use Rattle.rc_geom.specs.Sums.{numbers}
use Rattle.rc_tally.specs.declared.entry.Entry.{Entry}
use Rattle.rc_tally.specs.Tallies.{AllFit, IsRising}
use Rattle.rc_rules.specs.RuleFile.{RuleFile}
use Rattle.rc_rules.specs.LookUp.{rates, halo_of}
use Rattle.rc_layout.specs.declared.net.Net.{Net}
use Rattle.rc_layout.specs.Layouts.{Wired}
use Rattle.rc_layout.specs.Metal.{all_nets}
use Rattle.rc_spef.specs.declared.value.Cap.{Cap}
use Rattle.rc_spef.specs.declared.value.DNet.{DNet}
use Rattle.rc_spef.specs.declared.value.Spef.{Spef}
use Rattle.rc_windows.specs.declared.frame.Frame.{Frame}
use Rattle.rc_windows.specs.Frames.{IsFrame, window_count}
use Rattle.rc_windows.specs.Indexes.{near_tiles, near_lists}
use Rattle.rc_windows.specs.Laws.{AreAlike}
use Rattle.rc_windows.specs.Sweeps.{AreTalliesOf}
use Rattle.rc_engine.specs.declared.positions.Position.{Position}
use Rattle.rc_engine.specs.Names.{Numbering, numbering_of}
use Rattle.rc_engine.specs.Brought.{entries_of, owned, owned_at, ArePositions, HasNets}
use Rattle.rc_engine.specs.OwnEntries.{HasNames}
use Rattle.rc_engine.specs.Totals.{AreTotals, AreSums, AreSumsOfNet, IsKey}
use Rattle.rc_engine.specs.Extraction.{net_caps, net_with, net_value, numbered_nets, total_of, value_with, extraction}
use Rattle.rc_engine.specs.Windows.{layout_tiles, windows_of, HasRatedItems, IsExtractable}
use Rattle.rc_engine.specs.Start.{start_refusal, node_count}
use Rattle.rc_engine.specs.Fits.{AreTilesOf}
use Rattle.rc_engine.specs.Engine.{Engine, IsEngine}
use Rattle.rc_engine.proofs.Drawn.{tiles_make_the_layout}
use Rattle.rc_engine.proofs.Sweepable.{tiles_are_sweepable, list_at}
use Rattle.rc_engine.proofs.WindowSums.{tallies_are_totals}
use Rattle.rc_engine.proofs.Limits.{totals_fit, entries_fit, node_listed}

-- ---- its sums

sums_are_totals : (e : Engine) → IsEngine e → AreTotals e.layout e.rules (entries_of e.tallies)
sums_are_totals e is = tallies_are_totals e.layout e.rules e.frame e.tallies is.extractable is.frame is.halo is.tallies is.rising

pub engine_sums : (e : Engine) → IsEngine e → AreSums e.layout e.rules e.tallies
engine_sums e is = record { extractable = is.extractable; few_nodes = is.few_nodes; totals = sums_are_totals e is }

tiles_are : (wired : Wired) (rules : RuleFile) → IsExtractable wired rules → AreTilesOf wired rules (layout_tiles wired)
tiles_are wired rules is = record {
  plane = tiles_make_the_layout wired rules is;
  sweepable = tiles_are_sweepable wired rules is;
  few = is.few;
}

pub own_fit : (wired : Wired) (rules : RuleFile) (number : ℕ) (entries : List (Entry ℕ)) → AreSumsOfNet wired rules number entries → AllFit numbers (λ v. nat_lt v (2 ^ 128)) entries × All (λ x. HasNames x.key) entries
own_fit wired rules number entries sums =
    let is = sums.1.extractable in
    subst (λ (es : List (Entry ℕ)). AllFit numbers (λ v. nat_lt v (2 ^ 128)) es × All (λ x. HasNames x.key) es) (sym sums.2)
    (entries_fit wired rules (layout_tiles wired) number (entries_of sums.0) is.facts (tiles_are wired rules is) sums.1.totals)

-- ---- its nets

pub net_there : (wired : Wired) (nets : List Net) (i : ℕ) (net : Net) → nets ≡ wired.nets → i < length nets → net ≡ get_or nets i net → slice_get wired.nets i ≡ Some net
net_there wired nets i net all within is = ap (λ ns. slice_get ns i) (sym all) ∙ slice_get-get_or nets i net within ∙ ap Some (sym is)

pub own_rated : (wired : Wired) (rules : RuleFile) (nets : List Net) (i : ℕ) (net : Net) → All (HasRatedItems rules) (all_nets wired) → nets ≡ wired.nets → i < length nets → net ≡ get_or nets i net → HasRatedItems rules net
own_rated wired rules nets i net rated all within is =
    let count : length nets ≡ length wired.nets = ap length all in
    let long = length-append wired.nets wired.grounded in
    let here : get_or (all_nets wired) i net ≡ net = get_or_append_left wired.nets wired.grounded net i (omega (arith, count, within)) ∙ ap (λ ns. get_or ns i net) (sym all) ∙ sym is in
    subst (HasRatedItems rules) here (rated i net (omega (arith, long, count, within)))

pub small_total : (wired : Wired) (rules : RuleFile) (number : ℕ) (net : Net) (caps : List Cap) → IsExtractable wired rules → slice_get wired.nets number ≡ Some net → caps ≡ net_caps wired rules (number, net) → total_of caps < 2 ^ 128
small_total wired rules number net caps is there are = subst (λ (cs : List Cap). total_of cs < 2 ^ 128) (sym are) (totals_fit wired rules number net is.rated there)

-- a net's value
pub value_is : (r : Result DNet NoMemory) (wired : Wired) (rules : RuleFile) (naming : Numbering) (number : ℕ) (net : Net) (caps : List Cap) → IfOk r (λ of. of ≡ net_with wired rules naming (number, net) caps) →
    naming ≡ numbering_of wired → caps ≡ net_caps wired rules (number, net) → slice_get wired.nets number ≡ Some net → IfOk r (λ of. IfSome (slice_get wired.nets number) (λ n. of ≡ net_value wired rules (number, n)))
unfolding net_value
value_is (Ok of) wired rules naming number net caps is names are there =
    subst (λ (o : Option Net). IfSome o (λ n. of ≡ net_with wired rules (numbering_of wired) (number, n) (net_caps wired rules (number, n)))) (sym there)
    (is ∙ ap (λ (n : Numbering). net_with wired rules n (number, net) caps) names ∙ ap (net_with wired rules (numbering_of wired) (number, net)) are)
value_is (Err why) wired rules naming number net caps is names are there = tt

-- ---- its start

same_lists : (frame : Frame) (tiles : List Tile) (lists : List (List Tile)) (k : ℕ) → lists ≡ near_lists frame tiles → k < window_count frame → AreAlike (get_or lists k []) (near_tiles frame tiles k)
same_lists frame tiles lists k are within = λ f. ap (sum_by f) (ap (λ (ls : List (List Tile)). get_or ls k []) are ∙ list_at frame tiles k [] within)

pub begins : (e : Engine) → IsExtractable e.layout e.rules → start_refusal e.layout e.rules ≡ None → node_count e.layout.nets ≤ 2 ^ 22 → 1 ≤ e.workers → e.workers ≤ 64 → IsFrame e.frame → e.frame.halo ≡ halo_of e.rules →
    e.lists ≡ near_lists e.frame (layout_tiles e.layout) → length e.lists ≡ window_count e.frame →
    AreTalliesOf numbers (rates e.rules) (windows_of e.frame) (near_lists e.frame (layout_tiles e.layout)) e.tallies → All IsRising e.tallies → IsEngine e
begins e extractable accepted few some most frame halo lists count tallies rising = record {
  extractable = extractable;
  accepted = accepted;
  few_nodes = few;
  some_worker = some;
  few_workers = most;
  frame = frame;
  halo = halo;
  windows = count;
  lists = λ k within. same_lists e.frame (layout_tiles e.layout) e.lists k lists within;
  tallies = tallies;
  rising = rising;
}

-- ---- all values

first_net : (nets : List Net) (i : ℕ) → i < length nets → Net
first_net [] i within = absurd (omega (arith, within))
first_net (net ∷ nets) i within = net

numbered_length : (wired : Wired) → length (numbered_nets wired) ≡ length wired.nets
numbered_length wired = length-enumerate_from 0 wired.nets

nothing_first : (i : ℕ) → 0 + i ≡ i
nothing_first i = omega arith

-- one net more
pub value_more : (wired : Wired) (rules : RuleFile) (number : ℕ) (of : DNet) → number < length wired.nets → IfSome (slice_get wired.nets number) (λ n. of ≡ net_value wired rules (number, n)) →
    map (net_value wired rules) (take number (numbered_nets wired)) ++ of ∷ [] ≡ map (net_value wired rules) (take (number + 1) (numbered_nets wired))
value_more wired rules number of within is =
    let d : ℕ × Net = (0, first_net wired.nets number within) in
    let net = get_or wired.nets number d.1 in
    let numbers_long = numbered_length wired in
    let here : of ≡ net_value wired rules (number, net) = subst (λ (o : Option Net). IfSome o (λ n. of ≡ net_value wired rules (number, n))) (slice_get-get_or wired.nets number d.1 within) is in
    ap (λ v. map (net_value wired rules) (take number (numbered_nets wired)) ++ v ∷ [])
    (here ∙ ap (λ n. net_value wired rules (n, net)) (sym (nothing_first number)) ∙ ap (net_value wired rules) (sym (get_or-enumerate_from 0 wired.nets number d within)))
    ∙ sym (map-append (net_value wired rules) (take number (numbered_nets wired)) (get_or (numbered_nets wired) number d ∷ []))
    ∙ ap (map (net_value wired rules)) (sym (take_more (numbered_nets wired) number d (omega (arith, numbers_long, within))))

pub values_all : (wired : Wired) (rules : RuleFile) (number : ℕ) → length wired.nets ≤ number → map (net_value wired rules) (take number (numbered_nets wired)) ≡ map (net_value wired rules) (numbered_nets wired)
values_all wired rules number past =
    let numbers_long = numbered_length wired in
    ap (map (net_value wired rules)) (take_all number (numbered_nets wired) (omega (arith, past, numbers_long)))

-- what a net has at its positions
pub own_positions : (tallies : List (List (Entry ℕ))) (lists : List (List Position)) (entries : List (Entry ℕ)) (i number : ℕ) (own items : List Position) → ArePositions tallies lists entries → i < length lists → number ≡ i → own ≡ get_or lists i own → items ≡ own →
    owned_at tallies number items ≡ owned number entries
own_positions tallies lists entries i number own items are within same is handed =
    ap (owned_at tallies number) (handed ∙ is ∙ get_or_default lists i own [] within)
    ∙ subst (λ (n : ℕ). owned_at tallies n (get_or lists i []) ≡ owned n entries) (sym same) (are i within)

-- ---- what all windows have

key_has_nets : (wired : Wired) (key : Key) → IsKey wired key → HasNets (length wired.nets) key
key_has_nets wired (Ground m c) h = node_listed wired (m, c) h
key_has_nets wired (Pair m c l d) h = (h.0, node_listed wired (l, d) h.2)

pub tallies_have_nets : (wired : Wired) (rules : RuleFile) (tallies : List (List (Entry ℕ))) → AreTotals wired rules (entries_of tallies) → All (λ (tally : List (Entry ℕ)). All (λ (x : Entry ℕ). HasNets (length wired.nets) x.key) tally) tallies
tallies_have_nets wired rules tallies totals = λ i d within j x less.
    let tally = get_or tallies i d in
    let entry = get_or tally j x in
    let there = flat_map_has (λ (t : List (Entry ℕ)). t) tallies tally entry (Contains-get_or tallies i d within) (Contains-get_or tally j x less) in
    key_has_nets wired entry.key (All-contains (λ (y : Entry ℕ). IsKey wired y.key) (entries_of tallies) entry totals.keys there)

pub whole_value : (r : Result Spef NoMemory) (e : Engine) (wired : Wired) (nets : List DNet) → IfOk r (λ spef. spef ≡ value_with wired nets) → wired ≡ e.layout → nets ≡ map (net_value e.layout e.rules) (numbered_nets e.layout) →
    IfOk r (λ spef. spef ≡ extraction e.layout e.rules)
unfolding extraction
whole_value (Ok spef) e wired nets is all are = is ∙ ap (λ (w : Wired). value_with w nets) all ∙ ap (value_with e.layout) are
whole_value (Err why) e wired nets is all are = tt
