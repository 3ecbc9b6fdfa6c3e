-- Tiles come into a column, and leave it.
use Rattle.std.proofs.Common.{◌≡◌, ◌≤◌, ◌<◌, ◌+◌, ℕ, Bool, true, false, cond, List, [], ◌∷◌, ◌++◌, length, take, drop, get_or, All, ap, sym, ◌∙◌, arith}
use Rattle.std.specs.Prelude.{not, filter, Contains}
use Rattle.std.specs.List.{sum_by}
use Rattle.std.proofs.lemmas.List.Sums.{sum_by-append, sum_by_push}
use Rattle.std.proofs.lemmas.List.Elements.{All-contains, All-filter, filter_passes, filter-append, filter_more}
use Rattle.std.proofs.lemmas.List.{take-append-drop, take_all, append-nil, append_assoc, get_or_default}
use Rattle.rc_geom.specs.declared.tile.Tile.{Tile}
use Rattle.rc_column.specs.declared.ends.Mark.{Mark}
use Rattle.rc_column.specs.Layers.{without}
use Rattle.rc_column.proofs.Layers.{same_itself}
use Rattle.rc_sums.specs.Columns.{SameTiles, is_on, leaves}
use Rattle.std.specs.Prelude.{◌≢◌}
use Rattle.std.proofs.lemmas.List.Kept.{AllPairs-filter}
use Rattle.rc_geom.specs.Plane.{Plane, plane_of, Overlaps, RanksDiffer, NetsApart}
use Rattle.rc_geom.specs.Line.{line_of}
use Rattle.rc_sums.specs.Columns.{ShowsLines}
use Rattle.rc_sums.proofs.Counted.{crossing_lines}
use Rattle.rc_sums.proofs.Members.{same_plane, same_back, once, once_same, contains_some, members, all_members, sum_without, sum_parted, filter_both, filter_swap}

-- ---- the tiles that pass a test, as far as they were looked at

pub more_yes : (p : Tile → Bool) (ts : List Tile) (i : ℕ) (d : Tile) → i < length ts → p (get_or ts i d) ≡ true → filter p (take (i + 1) ts) ≡ filter p (take i ts) ++ get_or ts i d ∷ []
more_yes p ts i d within passes = filter_more p ts i d within ∙ ap (λ b. filter p (take i ts) ++ cond b (get_or ts i d ∷ []) []) passes

pub more_no : (p : Tile → Bool) (ts : List Tile) (i : ℕ) (d : Tile) → i < length ts → p (get_or ts i d) ≡ false → filter p (take (i + 1) ts) ≡ filter p (take i ts) ++ []
more_no p ts i d within no_pass = filter_more p ts i d within ∙ ap (λ b. filter p (take i ts) ++ cond b (get_or ts i d ∷ []) []) no_pass

take_within : (f : Tile → ℕ) (p : Tile → Bool) (ts : List Tile) (j : ℕ) → sum_by f (filter p (take j ts)) ≤ sum_by f (filter p ts)
take_within f p ts j =
    let whole : sum_by f (filter p ts) ≡ sum_by f (filter p (take j ts)) + sum_by f (filter p (drop j ts)) =
    ap (λ (us : List Tile). sum_by f (filter p us)) (sym (take-append-drop j ts)) ∙ (ap (sum_by f) (filter-append p (take j ts) (drop j ts)) ∙ sum_by-append f (filter p (take j ts)) (filter p (drop j ts))) in
    omega (arith, whole)

-- ---- tiles go out

-- those taken out so far are missing
abbrev pub AreOut : List Tile → List Tile → List Tile → Type 0
AreOut now before gone = (f : Tile → ℕ) → sum_by f now + sum_by f gone ≡ sum_by f before

parted : (f : Tile → ℕ) (line next : Mark) (ts : List Tile) → sum_by f (filter (is_on next) (filter (is_on line) ts)) + sum_by f (filter (leaves line next) ts) ≡ sum_by f (filter (is_on line) ts)
parted f line next ts =
    let gone = filter_both (is_on line) (λ t. not (is_on next t)) ts in
    ap (λ (us : List Tile). sum_by f (filter (is_on next) (filter (is_on line) ts)) + sum_by f us) (sym gone) ∙ sum_parted f (is_on next) (filter (is_on line) ts)

pub out_none : (before : List Tile) → AreOut before before []
out_none before f = omega arith

still_there : (now before ts : List Tile) (line next : Mark) (i : ℕ) (d : Tile) → i < length ts → leaves line next (get_or ts i d) ≡ true → SameTiles before (filter (is_on line) ts) → AreOut now before (filter (leaves line next) (take i ts)) → 1 ≤ sum_by (once (get_or ts i d)) now
still_there now before ts line next i d within goes held out =
    let t = get_or ts i d in
    let f = once t in
    let front = filter (leaves line next) (take i ts) in
    let one = once_same t t (same_itself t) in
    let more : sum_by f (filter (leaves line next) (take (i + 1) ts)) ≡ sum_by f front + f t = ap (sum_by f) (more_yes (leaves line next) ts i d within goes) ∙ sum_by_push f front t in
    let part = take_within f (leaves line next) ts (i + 1) in
    let whole = parted f line next ts in
    let now_is = out f in
    let held_is = held f in
    omega (arith, one, more, part, whole, now_is, held_is)

pub is_there : (now before ts : List Tile) (line next : Mark) (i : ℕ) (d : Tile) → i < length ts → leaves line next (get_or ts i d) ≡ true → SameTiles before (filter (is_on line) ts) → AreOut now before (filter (leaves line next) (take i ts)) → Contains now (get_or ts i d)
is_there now before ts line next i d within goes held out = contains_some now (get_or ts i d) (still_there now before ts line next i d within goes held out)

pub out_one : (now after before ts : List Tile) (line next : Mark) (i : ℕ) (d : Tile) → i < length ts → leaves line next (get_or ts i d) ≡ true → SameTiles before (filter (is_on line) ts) → AreOut now before (filter (leaves line next) (take i ts)) → after ≡ without (get_or ts i d) now → AreOut after before (filter (leaves line next) (take (i + 1) ts))
out_one now after before ts line next i d within goes held out is f =
    let t = get_or ts i d in
    let front = filter (leaves line next) (take i ts) in
    let more : sum_by f (filter (leaves line next) (take (i + 1) ts)) ≡ sum_by f front + f t = ap (sum_by f) (more_yes (leaves line next) ts i d within goes) ∙ sum_by_push f front t in
    let less = sum_without f t now (still_there now before ts line next i d within goes held out) in
    let after_is : sum_by f after ≡ sum_by f (without t now) = ap (sum_by f) is in
    let now_is = out f in
    omega (arith, more, less, after_is, now_is)

pub out_other : (now before ts : List Tile) (line next : Mark) (i : ℕ) (d : Tile) → i < length ts → leaves line next (get_or ts i d) ≡ false → AreOut now before (filter (leaves line next) (take i ts)) → AreOut now before (filter (leaves line next) (take (i + 1) ts))
out_other now before ts line next i d within stays out f =
    let front = filter (leaves line next) (take i ts) in
    let more : sum_by f (filter (leaves line next) (take (i + 1) ts)) ≡ sum_by f front + 0 = ap (sum_by f) (more_no (leaves line next) ts i d within stays) ∙ sum_by-append f front [] in
    let now_is = out f in
    omega (arith, more, now_is)

pub out_all : (now before ts : List Tile) (line next : Mark) (i : ℕ) → length ts ≤ i → SameTiles before (filter (is_on line) ts) → AreOut now before (filter (leaves line next) (take i ts)) → SameTiles now (filter (is_on next) (filter (is_on line) ts))
out_all now before ts line next i all held out f =
    let gone : sum_by f (filter (leaves line next) (take i ts)) ≡ sum_by f (filter (leaves line next) ts) = ap (λ (us : List Tile). sum_by f (filter (leaves line next) us)) (take_all i ts all) in
    let whole = parted f line next ts in
    let now_is = out f in
    let held_is = held f in
    omega (arith, gone, whole, now_is, held_is)

-- ---- those that stay cross both lines

pub stay_on : (now ts : List Tile) (line next : Mark) → SameTiles now (filter (is_on next) (filter (is_on line) ts)) → All (λ t. is_on next t ≡ is_on line t) now
stay_on now ts line next held =
    let both = filter (is_on next) (filter (is_on line) ts) in
    let old : All (λ t. is_on line t ≡ true) both = All-filter (is_on next) (λ (t : Tile). is_on line t ≡ true) (filter (is_on line) ts) (filter_passes (is_on line) ts) in
    let new : All (λ t. is_on next t ≡ true) both = filter_passes (is_on next) (filter (is_on line) ts) in
    all_members (λ t. is_on next t ≡ is_on line t) now now (λ t there. there) (λ k d within.
    let t = get_or now k d in
    let there : Contains now t = (k, within, get_or_default now k (get_or now k d) d within) in
    let inside = members now both held t there in
    All-contains (λ (u : Tile). is_on next u ≡ true) both t new inside ∙ sym (All-contains (λ (u : Tile). is_on line u ≡ true) both t old inside))

-- ---- tiles come in

pub come_in : (stayed after ts : List Tile) (line next : Mark) → SameTiles stayed (filter (is_on next) (filter (is_on line) ts)) → after ≡ stayed ++ filter (leaves next line) ts → SameTiles after (filter (is_on next) ts)
come_in stayed after ts line next held is f =
    let grown : sum_by f after ≡ sum_by f stayed + sum_by f (filter (leaves next line) ts) = ap (sum_by f) is ∙ sum_by-append f stayed (filter (leaves next line) ts) in
    let other : sum_by f (filter (is_on next) (filter (is_on line) ts)) ≡ sum_by f (filter (is_on line) (filter (is_on next) ts)) = ap (sum_by f) (filter_swap (is_on line) (is_on next) ts) in
    let whole = parted f next line ts in
    let held_is = held f in
    omega (arith, grown, other, whole, held_is)

pub in_none : (before : List Tile) → before ≡ before ++ []
in_none before = sym (append-nil before)

pub in_one : (before now : List Tile) (p : Tile → Bool) (ts : List Tile) (i : ℕ) (d : Tile) → i < length ts → p (get_or ts i d) ≡ true → now ≡ before ++ filter p (take i ts) → now ++ get_or ts i d ∷ [] ≡ before ++ filter p (take (i + 1) ts)
in_one before now p ts i d within passes is =
    ap (λ (us : List Tile). us ++ get_or ts i d ∷ []) is ∙ (append_assoc before (filter p (take i ts)) (get_or ts i d ∷ []) ∙ ap (λ (us : List Tile). before ++ us) (sym (more_yes p ts i d within passes)))

pub in_other : (before now : List Tile) (p : Tile → Bool) (ts : List Tile) (i : ℕ) (d : Tile) → i < length ts → p (get_or ts i d) ≡ false → now ≡ before ++ filter p (take i ts) → now ≡ before ++ filter p (take (i + 1) ts)
in_other before now p ts i d within other is =
    is ∙ ap (λ (us : List Tile). before ++ us) (sym (more_no p ts i d within other ∙ append-nil (filter p (take i ts))))

pub mark_is : (a b : Mark) → a.axis ≡ b.axis → a.at ≡ b.at → a ≡ b
mark_is a b axis at = λ i. record { axis = axis i; at = at i }

-- on its line a column shows what all tiles show
pub column_shows : (tiles held : List Tile) (line : Mark) → RanksDiffer tiles → NetsApart tiles → SameTiles held (filter (is_on line) tiles) → ShowsLines held tiles line.axis line.at
column_shows tiles held line ranks nets same layer =
    let on = filter (is_on line) tiles in
    let plane : plane_of held ≡ plane_of on = same_plane on held (AllPairs-filter (λ (a b : Tile). a.net ≡ b.net → Overlaps a b → a.rank ≢ b.rank) (is_on line) tiles ranks) (AllPairs-filter (λ (a b : Tile). a.net ≢ b.net → ¬ Overlaps a b) (is_on line) tiles nets) (same_back held on same) in
    ap (λ (p : Plane). line_of p layer line.axis line.at) plane ∙ crossing_lines tiles layer line.axis line.at
