-- Slots, and the columns that they have.
use Rattle.std.proofs.Common.{◌≡◌, ◌⊎◌, ◌<◌, ◌≤◌, ◌+◌, ◌-◌, ⊎_elim, inl, inr, ℕ, zero, suc, ℤ, pos, ◌≤ℤ◌, ◌<ℤ◌, Bool, true, List, All, length, get_or, refl, ap, sym, subst, ◌∙◌, arith}
use Rattle.std.specs.Prelude.{Contains, filter, int_le, int_lt}
use Rattle.std.proofs.lemmas.Bool.{cases_lt, and_parts, and_from}
use Rattle.std.proofs.lemmas.List.{get_or_default}
use Rattle.std.proofs.lemmas.List.Elements.{All-filter, filter_passes, All-contains, All-from_recursion}
use Rattle.std.proofs.lemmas.List.Kept.{AllPairs-filter}
use Rattle.std.proofs.lemmas.Int.{ints}
use Rattle.rc_geom.specs.declared.key.Key.{Key}
use Rattle.rc_geom.specs.Plane.{Plane}
use Rattle.rc_geom.specs.Context.{layer_count}
use Rattle.rc_geom.specs.Rates.{Rates}
use Rattle.rc_geom.specs.Parts.{Part, worth_at}
use Rattle.rc_geom.specs.Sums.{Adding, IsAdditive, total, total_between}
use Rattle.rc_geom.specs.Laws.{AmountsAreSound}
use Rattle.rc_geom.proofs.Bounds.{lt_tells, le_tells, lt_passes, le_passes}
use Rattle.rc_geom.proofs.Totals.{total_none, total_suc, total_between_none, total_between_same}
use Rattle.rc_geom.proofs.Cuts.{total_between_split}
use Rattle.rc_tally.specs.Amounts.{repeated}
use Rattle.rc_tally.specs.Tallies.{Sum, sums, sum_sound}
use Rattle.rc_sums.specs.Entering.{one, many}
use Rattle.rc_sums.specs.Worths.{column_added, columns_added}
use Rattle.rc_sums.proofs.Sums.{sums_additive, repeated_one}
use Rattle.rc_sums.proofs.Strips.{kept_worth, repeating_keeps, column_sound as sweep_sound}
use Rattle.rc_bars.specs.declared.bar.Bar.{Bar}
use Rattle.rc_bars.specs.Bars.{StandFor, StandForColumns, IsOver}
use Rattle.rc_bars.specs.Events.{Event, Precedes, ComesBefore, IsDue, AreEvents, AreAllEvents, row_of, kind_of, bar_of}
use Rattle.rc_bars.specs.Events.Event.{Under, Off, On, Look}
use Rattle.rc_bars.specs.Columns.{column_parts}
use Rattle.rc_bars.specs.Slots.{place, slot_count, slot_width, AreSlots, is_over, slot_events, slots_added}
use Rattle.rc_bars.specs.Laws.{IsSoundLayer, SlotsAreSwept}
use Rattle.rc_bars.proofs.Lists.{contains_filter}
use Rattle.rc_bars.proofs.Columns.{column_swept, column_sound}

-- ---- places rise

pub later_place : (first end : ℤ) (bars : List Bar) (places : List ℤ) (i n j : ℕ) → AreSlots first end bars places → i + n ≡ j → j < length places → place places i ≤ℤ place places j
later_place first end bars places i zero j slots is less =
    let e : i ≡ j = omega arith in
    let same = ap (place places) e in
    omega (arith, ints, same)
later_place first end bars places i (suc n) j slots is less =
    let m = i + n in
    let e : m + 1 ≡ j = omega arith in
    let before = later_place first end bars places i n m slots refl (omega arith) in
    let step = subst (λ (k : ℕ). place places m <ℤ place places k) e (slots.rising m (omega arith)) in
    omega (arith, ints)

pub in_order : (first end : ℤ) (bars : List Bar) (places : List ℤ) (i j : ℕ) → AreSlots first end bars places → i ≤ j → j < length places → place places i ≤ℤ place places j
in_order first end bars places i j slots order less = later_place first end bars places i (j - i) j slots (omega arith) less

-- a number of a list stands at one of its places
found_at : (places : List ℤ) (x : ℤ) → (has : Contains places x) → place places has.0 ≡ x
found_at places x has = get_or_default places has.0 (pos 0) x has.1 ∙ has.2

-- the bars over a column of a slot are those over the column in which it begins
pub over_first : (first end : ℤ) (bars : List Bar) (places : List ℤ) (k : ℕ) (at : ℤ) (b : Bar) → AreSlots first end bars places → k + 1 < length places → place places k ≤ℤ at → at <ℤ place places (k + 1) → IsOver bars at b → (b.from ≤ℤ place places k) × (place places k <ℤ b.to)
over_first first end bars places k at b slots less from to over =
    let cut = (All-contains (λ (c : Bar). Contains places c.from × Contains places c.to) bars b slots.cuts over.member).0 in
    let is = found_at places b.from cut in
    let low = over.low in
    let high = over.high in
    let begun : b.from ≤ℤ place places k = ⊎_elim
    (λ (behind : k < cut.0). let order = in_order first end bars places (k + 1) cut.0 slots (omega arith) cut.1 in absurd (omega (arith, ints, is)))
    (λ (before : cut.0 ≤ k). let order = in_order first end bars places cut.0 k slots before (omega arith) in omega (arith, ints, is))
    (cases_lt k cut.0) in
    (begun, omega (arith, ints))

pub over_all : (first end : ℤ) (bars : List Bar) (places : List ℤ) (k : ℕ) (at : ℤ) (b : Bar) → AreSlots first end bars places → k + 1 < length places → place places k ≤ℤ at → at <ℤ place places (k + 1) → Contains bars b → b.from ≤ℤ place places k → place places k <ℤ b.to → IsOver bars at b
over_all first end bars places k at b slots less from to member low high =
    let cut = (All-contains (λ (c : Bar). Contains places c.from × Contains places c.to) bars b slots.cuts member).1 in
    let is = found_at places b.to cut in
    let past : at <ℤ b.to = ⊎_elim
    (λ (behind : k < cut.0). let order = in_order first end bars places (k + 1) cut.0 slots (omega arith) cut.1 in omega (arith, ints, is))
    (λ (before : cut.0 ≤ k). let order = in_order first end bars places cut.0 k slots before (omega arith) in absurd (omega (arith, ints, is)))
    (cases_lt k cut.0) in
    record { member = member; low = omega (arith, ints); high = past }

-- ---- the events of a slot

due_of : (low high : ℤ) (Has Had : Bar → Type 0) (e : Event) → (Has (bar_of e) → Had (bar_of e)) → IsDue low high Has e → IsDue low high Had e
due_of low high Has Had (Under b) has due = (has due.0, due.1, due.2)
due_of low high Has Had (Off b) has due = (has due.0, due.1, due.2)
due_of low high Has Had (On b) has due = (has due.0, due.1, due.2)
due_of low high Has Had (Look b) has due = has due

due_bar : (low high : ℤ) (Has : Bar → Type 0) (e : Event) → IsDue low high Has e → Has (bar_of e)
due_bar low high Has (Under b) due = due.0
due_bar low high Has (Off b) due = due.0
due_bar low high Has (On b) due = due.0
due_bar low high Has (Look b) due = due

-- two bars of a layer that begin or end in one row are one
same_ends : (plane : Plane) (axis : ℕ) (at : ℤ) (Has : Bar → Type 0) (b c : Bar) → StandFor plane axis at Has → Has b → Has c → b.layer ≡ c.layer → (b.lo ≡ c.lo) ⊎ (b.hi ≡ c.hi) → b ≡ c
same_ends plane axis at Has b c stand has_b has_c layer ends =
    let wide_b = (stand.runs b has_b).wide in
    let wide_c = (stand.runs c has_c).wide in
    ⊎_elim
    (λ (is : b ≡ c). is)
    (λ (orders : (b.hi ≤ℤ c.lo) ⊎ (c.hi ≤ℤ b.lo)). ⊎_elim
    (λ (below : b.hi ≤ℤ c.lo). ⊎_elim (λ (low : b.lo ≡ c.lo). absurd (omega (arith, ints))) (λ (high : b.hi ≡ c.hi). absurd (omega (arith, ints))) ends)
    (λ (above : c.hi ≤ℤ b.lo). ⊎_elim (λ (low : b.lo ≡ c.lo). absurd (omega (arith, ints))) (λ (high : b.hi ≡ c.hi). absurd (omega (arith, ints))) ends)
    orders)
    (stand.apart b c has_b has_c layer)

one_event : (plane : Plane) (axis : ℕ) (at : ℤ) (Has : Bar → Type 0) (e f : Event) → StandFor plane axis at Has → Has (bar_of e) → Has (bar_of f) → row_of e ≡ row_of f → kind_of e ≡ kind_of f → (bar_of e).layer ≡ (bar_of f).layer → e ≡ f
one_event plane axis at Has (Under b) (Under c) stand has_e has_f rows kinds layer = ap Under (same_ends plane axis at Has b c stand has_e has_f layer (inr rows))
one_event plane axis at Has (Off b) (Off c) stand has_e has_f rows kinds layer = ap Off (same_ends plane axis at Has b c stand has_e has_f layer (inr rows))
one_event plane axis at Has (On b) (On c) stand has_e has_f rows kinds layer = ap On (same_ends plane axis at Has b c stand has_e has_f layer (inl rows))
one_event plane axis at Has (Look b) (Look c) stand has_e has_f rows kinds layer = ap Look (same_ends plane axis at Has b c stand has_e has_f layer (inl rows))
one_event plane axis at Has (Under b) (Off c) stand has_e has_f rows kinds layer = absurd (omega arith)
one_event plane axis at Has (Under b) (On c) stand has_e has_f rows kinds layer = absurd (omega arith)
one_event plane axis at Has (Under b) (Look c) stand has_e has_f rows kinds layer = absurd (omega arith)
one_event plane axis at Has (Off b) (Under c) stand has_e has_f rows kinds layer = absurd (omega arith)
one_event plane axis at Has (Off b) (On c) stand has_e has_f rows kinds layer = absurd (omega arith)
one_event plane axis at Has (Off b) (Look c) stand has_e has_f rows kinds layer = absurd (omega arith)
one_event plane axis at Has (On b) (Under c) stand has_e has_f rows kinds layer = absurd (omega arith)
one_event plane axis at Has (On b) (Off c) stand has_e has_f rows kinds layer = absurd (omega arith)
one_event plane axis at Has (On b) (Look c) stand has_e has_f rows kinds layer = absurd (omega arith)
one_event plane axis at Has (Look b) (Under c) stand has_e has_f rows kinds layer = absurd (omega arith)
one_event plane axis at Has (Look b) (Off c) stand has_e has_f rows kinds layer = absurd (omega arith)
one_event plane axis at Has (Look b) (On c) stand has_e has_f rows kinds layer = absurd (omega arith)

precedes : (plane : Plane) (axis : ℕ) (at : ℤ) (Has : Bar → Type 0) (e f : Event) → StandFor plane axis at Has → Has (bar_of e) → Has (bar_of f) → ComesBefore e f → Precedes e f
precedes plane axis at Has e f stand has_e has_f before = record {
  rows = before.rows;
  kinds = before.kinds;
  layers = λ rows kinds layer. before.differs (one_event plane axis at Has e f stand has_e has_f rows kinds layer);
}

-- the events over a slot are those of each of its columns
pub events_of_slot : (plane : Plane) (axis : ℕ) (first end low high : ℤ) (bars : List Bar) (places : List ℤ) (events : List Event) (k : ℕ) (at : ℤ) → StandFor plane axis at (IsOver bars at) → AreSlots first end bars places → AreAllEvents low high bars events → k + 1 < length places → place places k ≤ℤ at → at <ℤ place places (k + 1) → AreEvents low high (IsOver bars at) (slot_events places events k)
events_of_slot plane axis first end low high bars places events k at stand slots are less from to =
    let test = is_over places k in
    let some = filter test events in
    let over = λ (e : Event) (due : IsDue low high (Contains bars) e) (passes : test e ≡ true).
    let both = and_parts (int_le (bar_of e).from (place places k)) (int_lt (place places k) (bar_of e).to) passes in
    over_all first end bars places k at (bar_of e) slots less from to (due_bar low high (Contains bars) e due) (le_tells (bar_of e).from (place places k) both.0) (lt_tells (place places k) (bar_of e).to both.1) in
    let dues = All-filter test (IsDue low high (Contains bars)) events are.each in
    let passes = filter_passes test events in
    let each : All (IsDue low high (IsOver bars at)) some = λ i d small. due_of low high (Contains bars) (IsOver bars at) (get_or some i d) (λ _. over (get_or some i d) (dues i d small) (passes i d small)) (dues i d small) in
    record {
      each = each;
      all = λ e due.
          let has = due_bar low high (IsOver bars at) e due in
          let span = over_first first end bars places k at (bar_of e) slots less from to has in
          contains_filter test events e
          (and_from (int_le (bar_of e).from (place places k)) (int_lt (place places k) (bar_of e).to) (le_passes (bar_of e).from (place places k) span.0) (lt_passes (place places k) (bar_of e).to span.1))
          (are.all e (due_of low high (IsOver bars at) (Contains bars) e (λ h. h.member) due));
      order = λ i j d order small. precedes plane axis at (IsOver bars at) (get_or some i d) (get_or some j d) stand
          (due_bar low high (IsOver bars at) (get_or some i d) (each i d (omega arith)))
          (due_bar low high (IsOver bars at) (get_or some j d) (each j d small))
          (AllPairs-filter ComesBefore test events are.order i j d order small);
    }

-- ---- what slots add

-- one of a kind's worth beside its count
sound_ones : {V : Type 0} (sound : V → Bool) (rates : Rates V) (layer : ℕ) → IsSoundLayer sound (λ v. v) rates layer → IsSoundLayer (sum_sound sound) one rates layer
sound_ones sound rates layer h = record { own = h.own; share = h.share }

slot_added : {V : Type 0} (adding : Adding V) (sound : V → Bool) (plane : Plane) (rates : Rates V) (axis : ℕ) (first end low high : ℤ) (bars : List Bar) (places : List ℤ) (events : List Event) (q : Key) (k : ℕ) → IsAdditive adding sound → ((b : Bar) → Contains bars b → IsSoundLayer sound (λ v. v) rates b.layer) → StandForColumns plane axis first end bars → AreSlots first end bars places → AreAllEvents low high bars events → k + 1 < length places →
    columns_added (sums adding) one plane rates axis (place places k) (place places (k + 1)) low high q
    ≡ worth_at (sums adding) (many adding (slot_width places k)) q (column_parts rates low high (slot_events places events k))
unfolding columns_added repeated
slot_added {V = W} adding sound plane rates axis first end low high bars places events q k laws layers stand slots are less =
    let add = sums adding in
    let additive = sums_additive adding sound laws in
    let n = slot_width places k in
    let from = place places k in
    let to = place places (k + 1) in
    let wide = slots.rising k less in
    let begin = in_order first end bars places 0 k slots (omega arith) (omega arith) in
    let finish = in_order first end bars places (k + 1) (slot_count places) slots (omega arith) (omega (arith, slots.some)) in
    let is_first = slots.begin in
    let is_end = slots.finish in
    let parts = column_parts rates low high (slot_events places events k) in
    let stands = λ (at : ℤ) (above : from ≤ℤ at) (below : at <ℤ to). stand at (omega (arith, ints)) (omega (arith, ints)) in
    let here = λ (at : ℤ) (above : from ≤ℤ at) (below : at <ℤ to). events_of_slot plane axis first end low high bars places events k at (stands at above below) slots are less above below in
    let of_layers = λ (at : ℤ) (b : Bar) (over : IsOver bars at b). sound_ones sound rates b.layer (layers b over.member) in
    let sounds = column_sound add (sum_sound sound) one plane rates axis from low high q (IsOver bars from) (slot_events places events k) additive (of_layers from) (stands from (omega (arith, ints)) wide) (here from (omega (arith, ints)) wide) in
    let keeps = repeating_keeps add (sum_sound sound) additive n in
    let ones : (λ (v : W). repeated add n (one v)) ≡ many adding n = λ i v. repeated_one adding n v i in
    total_between_same add from to (λ at. column_added add one plane rates axis at low high layer_count q) (λ _. worth_at add one q parts)
    (λ at above below. sym (column_swept add (sum_sound sound) one plane rates axis at low high q (IsOver bars at) (slot_events places events k) additive (of_layers at) (stands at above below) (here at above below)))
    ∙ (kept_worth add (sum_sound sound) add (repeated add n) keeps one q parts (All-from_recursion (λ (part : Part W). sum_sound sound (one part.amount) ≡ true) parts sounds)
    ∙ ap (λ (worth : W → Sum W). worth_at add worth q parts) ones)

slots_up_to : {V : Type 0} (adding : Adding V) (sound : V → Bool) (plane : Plane) (rates : Rates V) (axis : ℕ) (first end low high : ℤ) (bars : List Bar) (places : List ℤ) (events : List Event) (q : Key) (n : ℕ) → IsAdditive adding sound → AmountsAreSound sound (λ v. v) plane rates → ((b : Bar) → Contains bars b → IsSoundLayer sound (λ v. v) rates b.layer) → StandForColumns plane axis first end bars → AreSlots first end bars places → AreAllEvents low high bars events → n < length places →
    columns_added (sums adding) one plane rates axis (place places 0) (place places n) low high q
    ≡ total (sums adding) n (λ k. worth_at (sums adding) (many adding (slot_width places k)) q (column_parts rates low high (slot_events places events k)))
unfolding columns_added
slots_up_to adding sound plane rates axis first end low high bars places events q zero laws amounts layers stand slots are less =
    let f = λ (k : ℕ). worth_at (sums adding) (many adding (slot_width places k)) q (column_parts rates low high (slot_events places events k)) in
    total_between_none (sums adding) (place places 0) (place places 0) (λ at. column_added (sums adding) one plane rates axis at low high layer_count q) (omega (arith, ints)) ∙ sym (total_none (sums adding) f)
slots_up_to adding sound plane rates axis first end low high bars places events q (suc n) laws amounts layers stand slots are less =
    let add = sums adding in
    let f = λ (k : ℕ). worth_at add (many adding (slot_width places k)) q (column_parts rates low high (slot_events places events k)) in
    let column = λ (at : ℤ). column_added add one plane rates axis at low high layer_count q in
    let one_more : n + 1 ≡ suc n = omega arith in
    let additive = sums_additive adding sound laws in
    let wide = slots.rising n (omega arith) in
    ap (λ (m : ℕ). total_between add (place places 0) (place places m) column) (sym one_more)
    ∙ (total_between_split add (sum_sound sound) additive (place places 0) (place places n) (place places (n + 1)) column
    (λ at. sweep_sound add (sum_sound sound) additive.neutral one plane rates axis at low high layer_count q (amounts axis))
    (in_order first end bars places 0 n slots (omega arith) (omega arith)) (omega (arith, ints))
    ∙ (ap (λ v. add.plus v (total_between add (place places n) (place places (n + 1)) column)) (slots_up_to adding sound plane rates axis first end low high bars places events q n laws amounts layers stand slots are (omega arith))
    ∙ (ap (add.plus (total add n f)) (slot_added adding sound plane rates axis first end low high bars places events q n laws layers stand slots are (omega arith))
    ∙ sym (total_suc add n (suc n) f (omega arith)))))

pub slots_are_swept : {V : Type 0} → SlotsAreSwept V
unfolding slots_added
slots_are_swept adding sound plane rates axis first end low high bars places events q laws amounts layers stand slots are =
    sym (slots_up_to adding sound plane rates axis first end low high bars places events q (slot_count places) laws amounts layers stand slots are (omega (arith, slots.some)))
    ∙ (ap (λ (z : ℤ). columns_added (sums adding) one plane rates axis z (place places (slot_count places)) low high q) slots.begin
    ∙ ap (λ (z : ℤ). columns_added (sums adding) one plane rates axis first z low high q) slots.finish)
