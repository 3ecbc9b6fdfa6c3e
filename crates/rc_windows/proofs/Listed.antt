-- Places in rising lists, and the tiles that enter there.
use Rattle.std.proofs.Common.{◌≡◌, ◌<◌, ◌≤◌, ◌+◌, ◌^◌, ⊎_elim, ℕ, zero, suc, Bool, true, false, cond, List, [], ◌∷◌, ◌++◌, append_assoc, length, get_or, take, map, eqb, refl, ap, sym, subst, ◌∙◌, arith}
use Rattle.std.specs.Prelude.{filter, All, fold, Some, slice_get, Ok, Err}
use Rattle.std.specs.Ordering.{nat_cmp}
use Rattle.std.proofs.lemmas.List.Sorted.{searched}
use Rattle.std.specs.List.{range_with_len, flat_map}
use Rattle.std.specs.List.Sorted.{IsStrictlyIncreasing, IsBinarySearchResult}
use Rattle.std.proofs.lemmas.Bool.{cases_eq, cases_lt, cases_Bool, true≢false, false_from_ne_true}
use Rattle.std.proofs.lemmas.List.{append-nil, map-append, take_more, take_all, length-map, get_or-map, get_or_default, ext_get_or}
use Rattle.std.proofs.lemmas.List.Elements.{All-append, filter_more}
use Rattle.std.proofs.lemmas.List.Kept.{AllPairs-from_increasing}
use Rattle.std.proofs.lemmas.List.Sums.{fold-append}
use Rattle.std.proofs.lemmas.Option.{get_or_from_slice_get}
use Rattle.rc_geom.specs.declared.tile.Tile.{Tile}
use Rattle.rc_windows.specs.declared.frame.Frame.{Frame}
use Rattle.std.proofs.lemmas.Nat.{mul-le}
use Rattle.rc_windows.specs.Frames.{meets, met, window_count, IsFrame}
use Rattle.rc_windows.specs.Indexes.{near_tiles, others_of, changed_list, with_tile, with_tiles, places_of}
use Rattle.rc_windows.proofs.Numbers.{filter_tells}
use Rattle.rc_windows.proofs.Rows.{filter_none}
use Rattle.rc_windows.proofs.Lists.{tile_enters, length-with_tiles}

-- ---- one number of a range passes

pub one_passes : (p : ℕ → Bool) (a n i : ℕ) → a ≤ i → i < a + n → p i ≡ true → ((j : ℕ) → a ≤ j → j < a + n → p j ≡ true → j ≡ i) → filter p (range_with_len a n) ≡ i ∷ []
one_passes p a zero i low high passes only = absurd (omega arith)
one_passes p a (suc n) i low high passes only =
    let rest = range_with_len (a + 1) n in
    ⊎_elim
    (λ (pass : p a ≡ true).
    let first : a ≡ i = only a (omega arith) (omega arith) pass in
    let none : filter p rest ≡ [] = filter_none p (a + 1) n (λ k above below. false_from_ne_true (p k) (λ yes. let same = only k (omega (arith, above)) (omega (arith, below)) yes in absurd (omega (arith, same, first, above)))) in
    ap (λ (b : Bool). cond b (a ∷ filter p rest) (filter p rest)) pass ∙ (ap (λ (ks : List ℕ). a ∷ ks) none ∙ ap (λ (k : ℕ). k ∷ []) first))
    (λ (fail : p a ≡ false).
    let apart : a ≡ i → ⊥ = λ same. true≢false (sym passes ∙ (ap p (sym same) ∙ fail)) in
    let later : a + 1 ≤ i = ⊎_elim (λ (same : a ≡ i). absurd (apart same)) (λ (other : a ≡ i → ⊥). omega (arith, other, low)) (cases_eq a i) in
    ap (λ (b : Bool). cond b (a ∷ filter p rest) (filter p rest)) fail
    ∙ one_passes p (a + 1) n i later (omega (arith, high)) passes (λ k above below yes. only k (omega (arith, above)) (omega (arith, below)) yes))
    (cases_Bool (p a))

-- ---- the places of a number

eqb_is : (a b : ℕ) → eqb a b ≡ true → a ≡ b
eqb_is a b h = grind arith

eqb_same : (a b : ℕ) → a ≡ b → eqb a b ≡ true
eqb_same a b h = grind arith

pub rising_once : (list : List ℕ) (i j : ℕ) → IsStrictlyIncreasing list → i < length list → j < length list → get_or list i 0 ≡ get_or list j 0 → i ≡ j
rising_once list i j rises at there same =
    ⊎_elim
    (λ (less : i < j). let above = AllPairs-from_increasing list rises i j 0 less there in absurd (omega (arith, above, same)))
    (λ (most : j ≤ i).
    ⊎_elim
    (λ (less : j < i). let above = AllPairs-from_increasing list rises j i 0 less at in absurd (omega (arith, above, same)))
    (λ (rest : i ≤ j). omega (arith, most, rest))
    (cases_lt j i))
    (cases_lt i j)

pub place_found : (list : List ℕ) (k i : ℕ) → IsStrictlyIncreasing list → i < length list → get_or list i 0 ≡ k → places_of list k ≡ i ∷ []
place_found list k i rises within is =
    one_passes (λ j. eqb (get_or list j 0) k) 0 (length list) i (omega arith) (omega (arith, within)) (eqb_same (get_or list i 0) k is)
    (λ j _ below passes. rising_once list j i rises (omega (arith, below)) within (eqb_is (get_or list j 0) k passes ∙ sym is))

pub no_place : (list : List ℕ) (k : ℕ) → ((i : ℕ) → i < length list → get_or list i 0 ≡ k → ⊥) → places_of list k ≡ []
no_place list k none =
    filter_none (λ j. eqb (get_or list j 0) k) 0 (length list) (λ j _ below. false_from_ne_true (eqb (get_or list j 0) k) (λ yes. none j (omega (arith, below)) (eqb_is (get_or list j 0) k yes)))

in_order : (list : List ℕ) → IsStrictlyIncreasing list → (i j : ℕ) → i ≤ j → j < length list → get_or list i 0 ≤ get_or list j 0
in_order list rises i j order within = ⊎_elim
    (λ (less : i < j). let above = AllPairs-from_increasing list rises i j 0 less within in omega (arith, above))
    (λ (most : j ≤ i). let same : i ≡ j = omega (arith, most, order) in let is = ap (λ (k : ℕ). get_or list k 0) same in omega (arith, is))
    (cases_lt i j)

-- what the search tells of the places of a number
pub place_told : (list : List ℕ) (k i : ℕ) → IsStrictlyIncreasing list → i < length list → IsBinarySearchResult (λ y. nat_cmp y k) list (Ok i) → places_of list k ≡ i ∷ []
place_told list k i rises within found =
    let here = searched list k (Ok i) found (in_order list rises) in
    place_found list k i rises within here.1

pub gap_told : (list : List ℕ) (k i : ℕ) → IsStrictlyIncreasing list → IsBinarySearchResult (λ y. nat_cmp y k) list (Err i) → places_of list k ≡ []
gap_told list k i rises found =
    let gap = searched list k (Err i) found (in_order list rises) in
    no_place list k (λ j below is. ⊎_elim
    (λ (before : j < i). let less = gap.1 j before in absurd (omega (arith, less, is)))
    (λ (behind : i ≤ j). let more = gap.2 j behind below in absurd (omega (arith, more, is)))
    (cases_lt j i))

all_places : (list : List ℕ) (k : ℕ) → All (λ i. i < length list) (places_of list k)
all_places list k = λ i d below.
    let there = filter_tells (λ j. eqb (get_or list j 0) k) 0 (length list) (get_or (places_of list k) i d) (i, below, get_or_default (places_of list k) i (get_or (places_of list k) i d) d below) in
    omega (arith, there.1)

places_in : (list ks : List ℕ) → All (λ i. i < length list) (flat_map (places_of list) ks)
places_in list [] = λ i d below. absurd (omega (arith, below))
places_in list (k ∷ ks) = All-append (λ i. i < length list) (places_of list k) (flat_map (places_of list) ks) (all_places list k) (places_in list ks)

-- the places that were found are places of the list
pub found_places : (list ks places : List ℕ) (n : ℕ) → places ≡ flat_map (places_of list) ks → n ≡ length list → All (λ i. i < n) places
found_places list ks places n is long =
    subst (All (λ i. i < n)) (sym is) (subst (λ (m : ℕ). All (λ i. i < m) (flat_map (places_of list) ks)) (sym long) (places_in list ks))

-- a rising list of numbers below n has at most n
rises_by_one : (list : List ℕ) (i : ℕ) → IsStrictlyIncreasing list → i < length list → i ≤ get_or list i 0
rises_by_one list zero rises within = omega arith
rises_by_one list (suc i) rises within =
    let before = rises_by_one list i rises (omega (arith, within)) in
    let above = AllPairs-from_increasing list rises i (suc i) 0 (omega arith) within in
    omega (arith, before, above)

pub rising_is_short : (list : List ℕ) (n : ℕ) → IsStrictlyIncreasing list → All (λ k. k < n) list → length list ≤ n
rising_is_short list n rises range = ⊎_elim
    (λ (many : n < length list).
    let last = rises_by_one list n rises many in
    let below = range n 0 many in
    absurd (omega (arith, last, below)))
    (λ (few : length list ≤ n). few)
    (cases_lt n (length list))

-- so a list of windows has at most 2^20
pub list_is_short : (frame : Frame) (list : List ℕ) → IsFrame frame → IsStrictlyIncreasing list → All (λ k. k < window_count frame) list → length list ≤ 2 ^ 32
list_is_short frame list is rises range =
    let short = rising_is_short list (window_count frame) rises range in
    let few = mul-le frame.up.count frame.across.count 1024 1024 is.up.few is.across.few in
    omega (arith, short, few)

-- ---- a tile enters at the places of some numbers

abbrev pub listed : List ℕ → Tile → List (List Tile) → ℕ → List (List Tile)
listed list tile lists k = with_tiles tile lists (places_of list k)

by_number : (list ks : List ℕ) (tile : Tile) (ls : List (List Tile)) → with_tiles tile ls (flat_map (places_of list) ks) ≡ fold (listed list tile) ls ks
by_number list [] tile ls = refl
by_number list (k ∷ ks) tile ls =
    fold-append (with_tile tile) ls (places_of list k) (flat_map (places_of list) ks) ∙ by_number list ks tile (listed list tile ls k)

one_number : (list : List ℕ) (tile : Tile) (ls : List (List Tile)) (k i : ℕ) → length ls ≡ length list → i < length list →
    get_or (listed list tile ls k) i [] ≡ get_or ls i [] ++ cond (eqb (get_or list i 0) k) (tile ∷ []) []
one_number list tile ls k i long within =
    tile_enters tile (λ j. eqb (get_or list j 0) k) 0 (length list) ls i [] (omega arith) (omega (arith, within)) (omega (arith, long, within))

-- windows below the first number
numbers_stay : (list : List ℕ) (tile : Tile) (p : ℕ → Bool) (a n : ℕ) (ls : List (List Tile)) (i : ℕ) → length ls ≡ length list → i < length list → get_or list i 0 < a →
    get_or (fold (listed list tile) ls (filter p (range_with_len a n))) i [] ≡ get_or ls i []
numbers_stay list tile p a zero ls i long within below = refl
numbers_stay list tile p a (suc n) ls i long within below =
    let rest = filter p (range_with_len (a + 1) n) in
    ⊎_elim
    (λ (pass : p a ≡ true).
    let apart : eqb (get_or list i 0) a ≡ false = false_from_ne_true (eqb (get_or list i 0) a) (λ yes. let same = eqb_is (get_or list i 0) a yes in absurd (omega (arith, same, below))) in
    ap (λ (b : Bool). get_or (fold (listed list tile) ls (cond b (a ∷ rest) rest)) i []) pass
    ∙ (numbers_stay list tile p (a + 1) n (listed list tile ls a) i (length-with_tiles tile ls (places_of list a) ∙ long) within (omega (arith, below))
    ∙ (one_number list tile ls a i long within
    ∙ (ap (λ (b : Bool). get_or ls i [] ++ cond b (tile ∷ []) []) apart
    ∙ append-nil (get_or ls i [])))))
    (λ (fail : p a ≡ false).
    ap (λ (b : Bool). get_or (fold (listed list tile) ls (cond b (a ∷ rest) rest)) i []) fail
    ∙ numbers_stay list tile p (a + 1) n ls i long within (omega (arith, below)))
    (cases_Bool (p a))

numbers_enter : (list : List ℕ) (tile : Tile) (p : ℕ → Bool) (a n : ℕ) (ls : List (List Tile)) (i : ℕ) → length ls ≡ length list → i < length list → a ≤ get_or list i 0 → get_or list i 0 < a + n →
    get_or (fold (listed list tile) ls (filter p (range_with_len a n))) i [] ≡ get_or ls i [] ++ cond (p (get_or list i 0)) (tile ∷ []) []
numbers_enter list tile p a zero ls i long within low high = absurd (omega (arith, low, high))
numbers_enter list tile p a (suc n) ls i long within low high =
    let rest = filter p (range_with_len (a + 1) n) in
    let here : ℕ = get_or list i 0 in
    ⊎_elim
    (λ (same : here ≡ a).
    ⊎_elim
    (λ (pass : p a ≡ true).
    ap (λ (b : Bool). get_or (fold (listed list tile) ls (cond b (a ∷ rest) rest)) i []) pass
    ∙ (numbers_stay list tile p (a + 1) n (listed list tile ls a) i (length-with_tiles tile ls (places_of list a) ∙ long) within (omega (arith, same))
    ∙ (one_number list tile ls a i long within
    ∙ ap (λ (b : Bool). get_or ls i [] ++ cond b (tile ∷ []) []) (eqb_same here a same ∙ (sym pass ∙ ap p (sym same))))))
    (λ (fail : p a ≡ false).
    ap (λ (b : Bool). get_or (fold (listed list tile) ls (cond b (a ∷ rest) rest)) i []) fail
    ∙ (numbers_stay list tile p (a + 1) n ls i long within (omega (arith, same))
    ∙ (sym (append-nil (get_or ls i []))
    ∙ ap (λ (b : Bool). get_or ls i [] ++ cond b (tile ∷ []) []) (sym fail ∙ ap p (sym same)))))
    (cases_Bool (p a)))
    (λ (other : here ≡ a → ⊥).
    let above : a + 1 ≤ here = omega (arith, other, low) in
    ⊎_elim
    (λ (pass : p a ≡ true).
    let apart : eqb here a ≡ false = false_from_ne_true (eqb here a) (λ yes. other (eqb_is here a yes)) in
    ap (λ (b : Bool). get_or (fold (listed list tile) ls (cond b (a ∷ rest) rest)) i []) pass
    ∙ (numbers_enter list tile p (a + 1) n (listed list tile ls a) i (length-with_tiles tile ls (places_of list a) ∙ long) within above (omega (arith, high))
    ∙ ap (λ (l : List Tile). l ++ cond (p here) (tile ∷ []) []) (one_number list tile ls a i long within
    ∙ (ap (λ (b : Bool). get_or ls i [] ++ cond b (tile ∷ []) []) apart
    ∙ append-nil (get_or ls i [])))))
    (λ (fail : p a ≡ false).
    ap (λ (b : Bool). get_or (fold (listed list tile) ls (cond b (a ∷ rest) rest)) i []) fail
    ∙ numbers_enter list tile p (a + 1) n ls i long within above (omega (arith, high)))
    (cases_Bool (p a)))
    (cases_eq here a)

length-listed : (list ks : List ℕ) (tile : Tile) (ls : List (List Tile)) → length (fold (listed list tile) ls ks) ≡ length ls
length-listed list [] tile ls = refl
length-listed list (k ∷ ks) tile ls = length-listed list ks tile (listed list tile ls k) ∙ length-with_tiles tile ls (places_of list k)

-- ---- the changed lists of some windows

-- before the first new tile
pub changed_none : (frame : Frame) (net : ℕ) (tiles : List Tile) (old : List (List Tile)) (list : List ℕ) (before : List (List Tile)) → before ≡ map (λ k. others_of net (get_or old k [])) list →
    before ≡ map (λ k. changed_list frame net (take 0 tiles) k (get_or old k [])) list
changed_none frame net tiles old list before is =
    let f = λ (k : ℕ). others_of net (get_or old k []) in
    let g = λ (k : ℕ). changed_list frame net (take 0 tiles) k (get_or old k []) in
    is ∙ ext_get_or [] (map f list) (map g list) (length-map list f ∙ sym (length-map list g)) (λ i within.
    let below : i < length list = omega (arith, within, length-map list f) in
    get_or-map f list i 0 [] below ∙ (sym (append-nil (f (get_or list i 0))) ∙ sym (get_or-map g list i 0 [] below)))

-- and with one more
pub changed_step : (frame : Frame) (net : ℕ) (tiles : List Tile) (old : List (List Tile)) (list : List ℕ) (n : ℕ) (d t : Tile) (before after : List (List Tile)) (found places : List ℕ) →
    n < length tiles → t ≡ get_or tiles n d → All (λ k. k < window_count frame) list →
    before ≡ map (λ k. changed_list frame net (take n tiles) k (get_or old k [])) list →
    found ≡ flat_map (places_of list) (met frame t.rect) → places ≡ found → after ≡ with_tiles t before places →
    after ≡ map (λ k. changed_list frame net (take (n + 1) tiles) k (get_or old k [])) list
changed_step frame net tiles old list n d t before after found places within read range so_far is there entered =
    let f = λ (k : ℕ). changed_list frame net (take n tiles) k (get_or old k []) in
    let g = λ (k : ℕ). changed_list frame net (take (n + 1) tiles) k (get_or old k []) in
    let ks = met frame t.rect in
    let count = window_count frame in
    let long_before : length before ≡ length list = ap (λ (ls : List (List Tile)). length ls) so_far ∙ length-map list f in
    let after_is : after ≡ fold (listed list t) before ks = entered ∙ (ap (with_tiles t before) (there ∙ is) ∙ by_number list ks t before) in
    let long_after : length after ≡ length list = ap (λ (ls : List (List Tile)). length ls) after_is ∙ (length-listed list ks t before ∙ long_before) in
    ext_get_or [] after (map g list) (long_after ∙ sym (length-map list g)) (λ i inside.
    let below : i < length list = omega (arith, inside, long_after) in
    let k : ℕ = get_or list i 0 in
    let test = λ (u : Tile). meets frame u.rect k in
    let in_grid : k < count = range i 0 below in
    ap (λ (ls : List (List Tile)). get_or ls i []) after_is
    ∙ (numbers_enter list t (meets frame t.rect) 0 count before i long_before below (omega arith) (omega (arith, in_grid))
    ∙ (ap (λ (ls : List (List Tile)). get_or ls i [] ++ cond (test t) (t ∷ []) []) so_far
    ∙ (ap (λ (l : List Tile). l ++ cond (test t) (t ∷ []) []) (get_or-map f list i 0 [] below)
    ∙ (append_assoc (others_of net (get_or old k [])) (near_tiles frame (take n tiles) k) (cond (test t) (t ∷ []) [])
    ∙ (ap (λ (u : Tile). others_of net (get_or old k []) ++ (near_tiles frame (take n tiles) k ++ cond (test u) (u ∷ []) [])) read
    ∙ (ap (λ (l : List Tile). others_of net (get_or old k []) ++ l) (sym (filter_more test tiles n d within))
    ∙ sym (get_or-map g list i 0 [] below))))))))

-- all are in, and the grid is the one
pub changed_whole : (frame grid : Frame) (net : ℕ) (tiles : List Tile) (old : List (List Tile)) (list : List ℕ) (n : ℕ) (before after : List (List Tile)) → frame ≡ grid → length tiles ≤ n →
    before ≡ map (λ k. changed_list frame net (take n tiles) k (get_or old k [])) list → after ≡ before →
    after ≡ map (λ k. changed_list grid net tiles k (get_or old k [])) list
changed_whole frame grid net tiles old list n before after same all is there =
    there
    ∙ (is
    ∙ (ap (λ (ts : List Tile). map (λ k. changed_list frame net ts k (get_or old k [])) list) (take_all n tiles all)
    ∙ ap (λ (g : Frame). map (λ k. changed_list g net tiles k (get_or old k [])) list) same))

-- the list of one more window without the net's tiles
pub without_more : (net : ℕ) (old : List (List Tile)) (list : List ℕ) (at k : ℕ) (before after : List (List Tile)) (new were : List Tile) →
    at < length list → k ≡ get_or list at 0 → before ≡ map (λ k. others_of net (get_or old k [])) (take at list) →
    slice_get old k ≡ Some were → new ≡ others_of net were → after ≡ before ++ new ∷ [] →
    after ≡ map (λ k. others_of net (get_or old k [])) (take (at + 1) list)
without_more net old list at k before after new were within here so_far was is pushed =
    let f = λ (k : ℕ). others_of net (get_or old k []) in
    let one : new ≡ f (get_or list at 0) = is ∙ (ap (others_of net) (sym (get_or_from_slice_get old k were [] was)) ∙ ap f here) in
    pushed
    ∙ (ap (λ (ls : List (List Tile)). ls ++ new ∷ []) so_far
    ∙ (ap (λ (l : List Tile). map f (take at list) ++ l ∷ []) one
    ∙ (sym (map-append f (take at list) (get_or list at 0 ∷ []))
    ∙ ap (map f) (sym (take_more list at 0 within)))))
