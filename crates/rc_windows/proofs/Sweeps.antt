-- Pieces of work, and the tallies of windows.
use Rattle.std.proofs.Common.{◌≡◌, ◌<◌, ◌≤◌, ◌+◌, ◌-◌, ◌*◌, ◌/◌, ⊎_elim, ℕ, zero, suc, List, [], ◌∷◌, ◌++◌, length, get_or, take, refl, ap, sym, subst, ◌∙◌, arith, length-append}
use Rattle.std.specs.Prelude.{All, Bool, Option, Some, IsOk, IfOk, Result, Ok, Err, Vec}
use Rattle.std.specs.Option.{option_to_list}
use Rattle.std.specs.List.{flat_map}
use Rattle.std.proofs.Math.Nat.{mul-div_cancel_left, div-mul-le_self, div-le_of_le-mul, zero-div}
use Rattle.std.proofs.lemmas.Bool.{cases_lt, true≢false}
use Rattle.std.proofs.lemmas.Nat.{le-div, mul-le}
use Rattle.std.proofs.lemmas.List.{get_or_default, get_or_append_left, get_or-append_right, get_or_at, length_push, take_more, take_all, append-nil}
use Rattle.std.proofs.lemmas.List.Concat.{flat_map-append}
use Rattle.rc_geom.specs.declared.tile.Tile.{Tile}
use Rattle.rc_geom.specs.Rates.{Rates}
use Rattle.rc_geom.specs.Sums.{Adding}
use Rattle.rc_tally.specs.declared.entry.Entry.{Entry}
use Rattle.rc_sweep.specs.declared.window.Window.{Window}
use Rattle.rc_windows.specs.declared.sweep.Piece.{Piece}
use Rattle.rc_windows.specs.Pieces.{piece_start, IsPiece, ArePieces}
use Rattle.rc_windows.specs.Sweeps.{CanSweepBoth, IsTallyOf, AreTalliesFrom, AreTalliesOf, tallies_of}

-- ---- where pieces begin

pub start_rises : (workers count k : ℕ) → 1 ≤ workers → piece_start workers count k ≤ piece_start workers count (k + 1)
start_rises workers count k some =
    let most : k * count / workers * workers ≤ k * count = div-mul-le_self (k * count) workers in
    le-div (k * count / workers) ((k + 1) * count) workers some (omega (arith, most))

pub start_whole : (workers count k : ℕ) → 1 ≤ workers → k ≡ workers → piece_start workers count k ≡ count
start_whole workers count k some last = ap (λ (n : ℕ). n * count / workers) last ∙ mul-div_cancel_left count some

pub no_start : (workers count : ℕ) → piece_start workers count 0 ≡ 0
no_start workers count =
    let none : 0 * count ≡ 0 = omega arith in
    ap (λ (n : ℕ). n / workers) none ∙ zero-div workers

first_start : (workers count k : ℕ) → 1 ≤ workers → piece_start workers count 0 ≤ piece_start workers count k
first_start workers count k some = omega (arith, no_start workers count)

pub pieces_more : {P : Type 0} (workers count n : ℕ) (pieces after : List (Piece P)) (piece : Piece P) → ArePieces workers count n pieces → IsPiece workers count n piece → after ≡ pieces ++ piece ∷ [] → ArePieces workers count (n + 1) after
pieces_more {P = Q} workers count n pieces after piece so_far is pushed = record {
  long = ap length pushed ∙ (length_push pieces piece ∙ ap (λ (m : ℕ). m + 1) so_far.long);
  each = λ k d less. ⊎_elim
      (λ (before : k < n). subst (IsPiece workers count k) (sym (ap (λ (ps : List (Piece Q)). get_or ps k d) pushed ∙ get_or_append_left pieces (piece ∷ []) d k (omega (arith, so_far.long)))) (so_far.each k d before))
      (λ (last : n ≤ k).
      let here : n ≡ k = omega arith in
      subst (λ (j : ℕ). IsPiece workers count j (get_or after k d)) here
      (subst (IsPiece workers count n) (sym (ap (λ (ps : List (Piece Q)). get_or ps k d) pushed ∙ get_or_at pieces piece [] d k (so_far.long ∙ here))) is))
      (cases_lt k n);
}

-- ---- tallies, one after another

pub tallies_none : {V : Type 0} (adding : Adding V) (rates : Rates V) (windows : List Window) (lists : List (List Tile)) (from : ℕ) (tallies : List (List (Entry V))) → tallies ≡ [] → AreTalliesFrom adding rates windows lists from from tallies
tallies_none adding rates windows lists from tallies none = record {
  count = ap length none ∙ omega arith;
  each = λ i w ts t less. absurd (omega arith);
}

pub tallies_both : {V : Type 0} (adding : Adding V) (rates : Rates V) (windows : List Window) (lists : List (List Tile)) (from mid to : ℕ) (first second all : List (List (Entry V))) → from ≤ mid → mid ≤ to → AreTalliesFrom adding rates windows lists from mid first → AreTalliesFrom adding rates windows lists mid to second → all ≡ first ++ second → AreTalliesFrom adding rates windows lists from to all
tallies_both {V = X} adding rates windows lists from mid to first second all low high a b is = record {
  count = omega (arith, ap length is, length-append first second, a.count, b.count);
  each = λ i w ts t less. ⊎_elim
      (λ (before : i < mid - from).
      subst (IsTallyOf adding rates (get_or windows (from + i) w) (get_or lists (from + i) ts))
      (sym (ap (λ (xs : List (List (Entry X))). get_or xs i t) is ∙ get_or_append_left first second t i (omega (arith, a.count))))
      (a.each i w ts t before))
      (λ (behind : mid - from ≤ i).
      let there : mid + (i - (mid - from)) ≡ from + i = omega arith in
      subst (λ (j : ℕ). IsTallyOf adding rates (get_or windows j w) (get_or lists j ts) (get_or all i t)) there
      (subst (IsTallyOf adding rates (get_or windows (mid + (i - (mid - from))) w) (get_or lists (mid + (i - (mid - from))) ts))
      (sym (ap (λ (xs : List (List (Entry X))). get_or xs i t) is ∙ get_or-append_right first second (mid - from) i t a.count behind))
      (b.each (i - (mid - from)) w ts t (omega arith))))
      (cases_lt i (mid - from));
}

pub tallies_more : {V : Type 0} (adding : Adding V) (rates : Rates V) (windows : List Window) (lists : List (List Tile)) (from at : ℕ) (tallies after : List (List (Entry V))) (w d : Window) (ts : List Tile) (tally : List (Entry V)) → from ≤ at → at < length windows → at < length lists →
    w ≡ get_or windows at d → ts ≡ get_or lists at ts → AreTalliesFrom adding rates windows lists from at tallies → IsTallyOf adding rates w ts tally → after ≡ tallies ++ tally ∷ [] → AreTalliesFrom adding rates windows lists from (at + 1) after
tallies_more adding rates windows lists from at tallies after w d ts tally order in_windows in_lists is_w is_ts so_far is pushed =
    tallies_both adding rates windows lists from at (at + 1) tallies (tally ∷ []) after order (omega arith) so_far
    (record {
      count = omega arith;
      each = λ i v us t less. let first : 0 ≡ i = omega arith in let there : at ≡ at + i = omega arith in
          subst (λ (j : ℕ). IsTallyOf adding rates (get_or windows (at + i) v) (get_or lists (at + i) us) (get_or (tally ∷ []) j t)) first
          (subst (λ (j : ℕ). IsTallyOf adding rates (get_or windows j v) (get_or lists j us) tally) there
          (subst (λ (x : Window). IsTallyOf adding rates x (get_or lists at us) tally) (is_w ∙ get_or_default windows at d v in_windows)
          (subst (λ (l : List Tile). IsTallyOf adding rates w l tally) (is_ts ∙ get_or_default lists at ts us in_lists) is)));
    })
    pushed

-- ---- one window

pub can_at : {V : Type 0} (adding : Adding V) (fits : V → Bool) (has_rules : ℕ → Type 0) (rates : Rates V) (window : Window) (lists : List (List Tile)) (at : ℕ) (ts found : List Tile) → ts ≡ found → found ≡ get_or lists at found → CanSweepBoth adding fits has_rules rates window (get_or lists at found) → CanSweepBoth adding fits has_rules rates window ts
can_at adding fits has_rules rates window lists at ts found same there can = subst (CanSweepBoth adding fits has_rules rates window) (sym (same ∙ there)) can

-- a pass is taken off
pub one_taken : {P : Type 0} (passes rest : List P) (o : Option P) (taken : P) (at to : ℕ) → passes ≡ rest ++ option_to_list o → o ≡ Some taken → length passes + at ≡ to → length rest + (at + 1) ≡ to
one_taken {P = Q} passes rest o taken at to popped some left =
    let whole : passes ≡ rest ++ taken ∷ [] = popped ∙ ap (λ (p : Option Q). rest ++ option_to_list p) some in
    omega (arith, left, ap length whole, length_push rest taken)

-- ---- all pieces

pub start_within : (workers count k : ℕ) → k ≤ workers → piece_start workers count k ≤ count
start_within workers count k within = div-le_of_le-mul workers (mul-le k count workers count within (omega arith))

-- what is known of a piece that is one of them
pub record IsOneOf {P : Type 0} (workers count : ℕ) (piece : Piece P) : Type 0 where
  pub order : piece.from ≤ piece.to
  pub within : piece.to ≤ count
  pub passes : length piece.passes.items ≡ piece.to - piece.from

pub one_of : {P : Type 0} (workers count i : ℕ) (pieces : List (Piece P)) (x : Piece P) → 1 ≤ workers → ArePieces workers count workers pieces → i < length pieces → x ≡ get_or pieces i x → IsOneOf workers count x
one_of {P = Q} workers count i pieces x some are within is =
    let piece : IsPiece workers count i x = subst (IsPiece workers count i) (sym is) (are.each i x (omega (arith, are.long))) in
    let rise = start_rises workers count i some in
    let top = start_within workers count (i + 1) (omega (arith, are.long)) in
    record {
      order = omega (arith, piece.from, piece.to, rise);
      within = omega (arith, piece.to, top);
      passes = piece.passes;
    }

-- what a piece that was done gave
done_part : {V A E : Type 0} (Q : List (List (Entry V)) → Type 0) (r : Result (Vec (List (Entry V)) A) E) → IsOk r → IfOk r (λ tallies. Q tallies.items) → Q (tallies_of r)
done_part Q (Ok tallies) ok is = is
done_part Q (Err e) ok is = absurd (true≢false (sym ok))

pub tallies_joined : {V A E : Type 0} (adding : Adding V) (rates : Rates V) (windows : List Window) (lists : List (List Tile)) (workers count : ℕ) (given : List (Result (Vec (List (Entry V)) A) E)) (d : Result (Vec (List (Entry V)) A) E) → 1 ≤ workers → length given ≡ workers → All IsOk given →
    ((i : ℕ) → i < workers → IfOk (get_or given i d) (λ tallies. AreTalliesFrom adding rates windows lists (piece_start workers count i) (piece_start workers count (i + 1)) tallies.items)) →
    (k : ℕ) → k ≤ workers → AreTalliesFrom adding rates windows lists (piece_start workers count 0) (piece_start workers count k) (flat_map tallies_of (take k given))
tallies_joined adding rates windows lists workers count given d some long done each zero within =
    tallies_none adding rates windows lists (piece_start workers count 0) [] refl
tallies_joined adding rates windows lists workers count given d some long done each (suc k) within =
    let next : suc k ≡ k + 1 = omega arith in
    let so_far = tallies_joined adding rates windows lists workers count given d some long done each k (omega arith) in
    let one = done_part (AreTalliesFrom adding rates windows lists (piece_start workers count k) (piece_start workers count (k + 1))) (get_or given k d) (done k d (omega arith)) (each k (omega arith)) in
    subst (λ (m : ℕ). AreTalliesFrom adding rates windows lists (piece_start workers count 0) (piece_start workers count m) (flat_map tallies_of (take m given))) (sym next)
    (tallies_both adding rates windows lists (piece_start workers count 0) (piece_start workers count k) (piece_start workers count (k + 1)) (flat_map tallies_of (take k given)) (tallies_of (get_or given k d)) (flat_map tallies_of (take (k + 1) given))
    (first_start workers count k some) (start_rises workers count k some) so_far one
    (ap (flat_map tallies_of) (take_more given k d (omega arith))
    ∙ (flat_map-append tallies_of (take k given) (get_or given k d ∷ [])
    ∙ ap (λ ts. flat_map tallies_of (take k given) ++ ts) (append-nil (tallies_of (get_or given k d))))))

tallies_given : {V A E : Type 0} (adding : Adding V) (rates : Rates V) (windows : List Window) (lists : List (List Tile)) (workers : ℕ) (given : List (Result (Vec (List (Entry V)) A) E)) (d : Result (Vec (List (Entry V)) A) E) (all : List (List (Entry V))) → 1 ≤ workers → length given ≡ workers → All IsOk given →
    ((i : ℕ) → i < workers → IfOk (get_or given i d) (λ tallies. AreTalliesFrom adding rates windows lists (piece_start workers (length windows) i) (piece_start workers (length windows) (i + 1)) tallies.items)) →
    all ≡ flat_map tallies_of given → AreTalliesOf adding rates windows lists all
tallies_given adding rates windows lists workers given d all some long done each is =
    let count = length windows in
    let joined = tallies_joined adding rates windows lists workers count given d some long done each workers (omega arith) in
    let whole : AreTalliesFrom adding rates windows lists (piece_start workers count 0) (piece_start workers count workers) all =
    subst (AreTalliesFrom adding rates windows lists (piece_start workers count 0) (piece_start workers count workers)) (sym (is ∙ ap (flat_map tallies_of) (sym (take_all workers given (omega arith))))) joined in
    let begin : piece_start workers count 0 ≡ 0 = no_start workers count in
    let end : piece_start workers count workers ≡ count = start_whole workers count workers some refl in
    record {
      count = omega (arith, whole.count, begin, end);
      each = λ i w ts t less.
          let there : piece_start workers count 0 + i ≡ i = omega (arith, begin) in
          subst (λ (j : ℕ). IsTallyOf adding rates (get_or windows j w) (get_or lists j ts) (get_or all i t)) there (whole.each i w ts t (omega (arith, begin, end)));
    }

pub tallies_whole : {V A E : Type 0} (adding : Adding V) (rates : Rates V) (windows : List Window) (lists : List (List Tile)) (workers : ℕ) (given : List (Result (Vec (List (Entry V)) A) E)) (all : List (List (Entry V))) → 1 ≤ workers → length given ≡ workers → All IsOk given →
    ((i : ℕ) (d : Result (Vec (List (Entry V)) A) E) → i < workers → IfOk (get_or given i d) (λ tallies. AreTalliesFrom adding rates windows lists (piece_start workers (length windows) i) (piece_start workers (length windows) (i + 1)) tallies.items)) →
    all ≡ flat_map tallies_of given → AreTalliesOf adding rates windows lists all
tallies_whole adding rates windows lists workers [] all some long done each is = absurd (omega arith)
tallies_whole adding rates windows lists workers (d ∷ given) all some long done each is =
    tallies_given adding rates windows lists workers (d ∷ given) d all some long done (λ i less. each i d less) is

-- a piece has the windows that are its own
pub piece_done : {V A E P : Type 0} (adding : Adding V) (rates : Rates V) (windows : List Window) (lists : List (List Tile)) (workers i : ℕ) (pieces : List (Piece P)) (piece : Piece P) (r : Result (Vec (List (Entry V)) A) E) → ArePieces workers (length windows) workers pieces → i < workers → piece ≡ get_or pieces i piece →
    IfOk r (λ tallies. AreTalliesFrom adding rates windows lists piece.from piece.to tallies.items) →
    IfOk r (λ tallies. AreTalliesFrom adding rates windows lists (piece_start workers (length windows) i) (piece_start workers (length windows) (i + 1)) tallies.items)
piece_done {V = X} {A = Z} adding rates windows lists workers i pieces piece r are within read done =
    let count = length windows in
    let one : IsPiece workers count i piece = subst (IsPiece workers count i) (sym read) (are.each i piece within) in
    subst (λ (n : ℕ). IfOk r (λ (tallies : Vec (List (Entry X)) Z). AreTalliesFrom adding rates windows lists (piece_start workers count i) n tallies.items)) one.to
    (subst (λ (n : ℕ). IfOk r (λ (tallies : Vec (List (Entry X)) Z). AreTalliesFrom adding rates windows lists n piece.to tallies.items)) one.from done)
