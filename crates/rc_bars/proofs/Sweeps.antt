-- All slots at once.
use Rattle.std.proofs.Common.{◌≡◌, ◌≤◌, ◌+◌, ℕ, zero, suc, ℤ, Bool, true, false, cond, List, [], ◌∷◌, ◌++◌, take, length, get_or, Option, Some, None, All, refl, ap, sym, subst, ◌∙◌, arith}
use Rattle.std.specs.Prelude.{◌==◌, filter}
use Rattle.std.specs.List.{fold, AllByRecursion as ByRecursion}
use Rattle.std.proofs.lemmas.List.{append-nil, take_more, take_all}
use Rattle.std.proofs.lemmas.List.Elements.{filter-append, recursion_from_All, All-take}
use Rattle.std.proofs.lemmas.List.Sums.{fold_push}
use Rattle.rc_geom.specs.declared.key.Key.{Key}
use Rattle.rc_geom.specs.Context.{layer_count}
use Rattle.rc_geom.specs.Rates.{Rates}
use Rattle.rc_geom.specs.Parts.{Part, worth_at}
use Rattle.rc_geom.specs.Sums.{Adding, IsAdditive, total}
use Rattle.rc_geom.proofs.Totals.{total_none, total_suc, total_same, total_nothing}
use Rattle.rc_geom.proofs.Cuts.{total_plus}
use Rattle.rc_tally.specs.Tallies.{Sum, sums, sum_sound}
use Rattle.rc_sums.specs.Entering.{many}
use Rattle.rc_sums.proofs.Sums.{sums_additive, repeated_sound}
use Rattle.rc_bars.specs.declared.bar.Bar.{Bar}
use Rattle.rc_bars.specs.Events.{Event, bar_of}
use Rattle.rc_bars.specs.Events.Event.{Under, Off, On, Look}
use Rattle.rc_bars.specs.Columns.{Layers, State, start, step, low_parts, waiting, step_parts, Reached, reach_next, swept, left, column_parts}
use Rattle.rc_bars.specs.Slots.{slot_count, slot_width, is_over, slot_events, slots_added}
use Rattle.rc_bars.specs.Sweeps.{States, states_next, states_after, event_added, left_added}
use Rattle.rc_bars.specs.Laws.{IsSoundLayer, EventsAddSlots}
use Rattle.rc_bars.proofs.Adds.{worth_of, worth_append}
use Rattle.rc_bars.proofs.Worths.{AreSound, both_sound, low_sound, high_sound, waiting_for, lists_sound}

-- ---- states

-- where a slot has come to rests on the events over it alone
pub states_apart : (places : List ℤ) (s : States) (events : List Event) (k : ℕ) → fold (states_next places) s events k ≡ fold step (s k) (slot_events places events k)
states_apart places s [] k = refl
states_apart places s (e ∷ rest) k = states_apart places (states_next places s e) rest k ∙ moved (is_over places k e)
  where
    moved : (c : Bool) → fold step (cond c (step (s k) e) (s k)) (filter (is_over places k) rest) ≡ fold step (s k) (cond c (e ∷ filter (is_over places k) rest) (filter (is_over places k) rest))
    moved true = refl
    moved false = refl

pub states_of : {V : Type 0} (rates : Rates V) (low high : ℤ) (so_far : Reached V) (events : List Event) → (fold (reach_next rates low high) so_far events).0 ≡ fold step so_far.0 events
states_of rates low high so_far [] = refl
states_of rates low high so_far (e ∷ rest) = states_of rates low high (reach_next rates low high so_far e) rest

-- what a slot has come to, by its own events and by all
pub slot_state : {V : Type 0} (rates : Rates V) (low high : ℤ) (places : List ℤ) (events : List Event) (k : ℕ) → (swept rates low high (slot_events places events k)).0 ≡ states_after places events k
slot_state rates low high places events k = states_of rates low high (start, []) (slot_events places events k) ∙ sym (states_apart places (λ _. start) events k)

-- ---- sound parts

-- the last bars are of layers with sound rates
abbrev pub HaveRates : {V W : Type 0} → (W → Bool) → (V → W) → Rates V → State → Type 0
HaveRates sound worth rates s = (l : ℕ) (p : Bar) → s.top l ≡ Some p → IsSoundLayer sound worth rates p.layer

waiting_sound : {V W : Type 0} (sound : W → Bool) (worth : V → W) (rates : Rates V) (low high : ℤ) (under : Layers) (above t : Option Bar) → ((p : Bar) → t ≡ Some p → IsSoundLayer sound worth rates p.layer) → AreSound sound worth (waiting_for rates low high under above t)
waiting_sound sound worth rates low high under above None of_layer = tt
waiting_sound sound worth rates low high under above (Some p) of_layer = high_sound sound worth rates low high under p above (of_layer p refl)

put_rates : {V W : Type 0} (sound : W → Bool) (worth : V → W) (rates : Rates V) (t : ℕ → Option Bar) (b p : Bar) (l : ℕ) (c : Bool) → IsSoundLayer sound worth rates b.layer → ((p : Bar) → t l ≡ Some p → IsSoundLayer sound worth rates p.layer) → cond c (Some b) (t l) ≡ Some p → IsSoundLayer sound worth rates p.layer
put_rates sound worth rates t b p l true of_b of_t is = let same : b ≡ p = cc in subst (λ (x : Bar). IsSoundLayer sound worth rates x.layer) same of_b
put_rates sound worth rates t b p l false of_b of_t is = of_t p is

pub step_rates : {V W : Type 0} (sound : W → Bool) (worth : V → W) (rates : Rates V) (s : State) (e : Event) → IsSoundLayer sound worth rates (bar_of e).layer → HaveRates sound worth rates s → HaveRates sound worth rates (step s e)
step_rates sound worth rates s (Under b) of_b h = h
step_rates sound worth rates s (Off b) of_b h = h
step_rates sound worth rates s (On b) of_b h = h
step_rates sound worth rates s (Look b) of_b h = λ l p is. put_rates sound worth rates s.top b p l (l == b.layer) of_b (h l) is

pub step_sound : {V W : Type 0} (sound : W → Bool) (worth : V → W) (rates : Rates V) (low high : ℤ) (s : State) (e : Event) → IsSoundLayer sound worth rates (bar_of e).layer → HaveRates sound worth rates s → AreSound sound worth (step_parts rates low high s e)
step_sound sound worth rates low high s (Under b) of_b h = tt
step_sound sound worth rates low high s (Off b) of_b h = tt
step_sound sound worth rates low high s (On b) of_b h = tt
step_sound sound worth rates low high s (Look b) of_b h =
    both_sound sound worth (waiting rates low high s b.layer (Some b)) (low_parts rates low high s.now (s.top b.layer) b)
    (waiting_sound sound worth rates low high (s.under b.layer) (Some b) (s.top b.layer) (h b.layer)) (low_sound sound worth rates low high s.now (s.top b.layer) b of_b)

pub left_sound : {V W : Type 0} (sound : W → Bool) (worth : V → W) (rates : Rates V) (low high : ℤ) (s : State) → HaveRates sound worth rates s → AreSound sound worth (left rates low high s)
unfolding left
left_sound sound worth rates low high s h =
    lists_sound sound worth layer_count (λ l. waiting rates low high s l None) (λ l. waiting_sound sound worth rates low high (s.under l) None (s.top l) (h l))

-- the events' bars are of layers with sound rates
abbrev pub AreRated : {V W : Type 0} → (W → Bool) → (V → W) → Rates V → List Event → Type 0
AreRated sound worth rates events = ByRecursion (λ e. IsSoundLayer sound worth rates (bar_of e).layer) events

rated_if : {V W : Type 0} (sound : W → Bool) (worth : V → W) (rates : Rates V) (c : Bool) (e : Event) (rest : List Event) → IsSoundLayer sound worth rates (bar_of e).layer → AreRated sound worth rates rest → AreRated sound worth rates (cond c (e ∷ rest) rest)
rated_if sound worth rates true e rest of_e of_rest = (of_e, of_rest)
rated_if sound worth rates false e rest of_e of_rest = of_rest

pub kept_rated : {V W : Type 0} (sound : W → Bool) (worth : V → W) (rates : Rates V) (p : Event → Bool) (events : List Event) → AreRated sound worth rates events → AreRated sound worth rates (filter p events)
kept_rated sound worth rates p [] each = tt
kept_rated sound worth rates p (e ∷ rest) each = rated_if sound worth rates (p e) e (filter p rest) each.0 (kept_rated sound worth rates p rest each.1)

reached_sound : {V W : Type 0} (sound : W → Bool) (worth : V → W) (rates : Rates V) (low high : ℤ) (s : State) (ps : List (Part V)) (events : List Event) → AreRated sound worth rates events → HaveRates sound worth rates s → AreSound sound worth ps → HaveRates sound worth rates (fold (reach_next rates low high) (s, ps) events).0 × AreSound sound worth (fold (reach_next rates low high) (s, ps) events).1
reached_sound sound worth rates low high s ps [] each of_s of_ps = (of_s, of_ps)
reached_sound sound worth rates low high s ps (e ∷ rest) each of_s of_ps =
    reached_sound sound worth rates low high (step s e) (ps ++ step_parts rates low high s e) rest each.1 (step_rates sound worth rates s e each.0 of_s)
    (both_sound sound worth ps (step_parts rates low high s e) of_ps (step_sound sound worth rates low high s e each.0 of_s))

pub no_tops : {V W : Type 0} (sound : W → Bool) (worth : V → W) (rates : Rates V) → HaveRates sound worth rates start
no_tops sound worth rates l p is = absurd (cc)

-- ---- sums

pub many_layer : {V : Type 0} (adding : Adding V) (sound : V → Bool) → IsAdditive adding sound → (rates : Rates V) (layer n : ℕ) → IsSoundLayer sound (λ v. v) rates layer → IsSoundLayer (sum_sound sound) (many adding n) rates layer
many_layer adding sound laws rates layer n h = record {
  own = λ under over thick gap. repeated_sound adding sound laws.neutral n _ (h.own under over thick gap);
  share = λ under over thick gap. repeated_sound adding sound laws.neutral n _ (h.share under over thick gap);
}

pub many_rated : {V : Type 0} (adding : Adding V) (sound : V → Bool) → IsAdditive adding sound → (rates : Rates V) (n : ℕ) (events : List Event) → AreRated sound (λ v. v) rates events → AreRated (sum_sound sound) (many adding n) rates events
many_rated adding sound laws rates n [] each = tt
many_rated adding sound laws rates n (e ∷ rest) each = (many_layer adding sound laws rates (bar_of e).layer n each.0, many_rated adding sound laws rates n rest each.1)

-- what was added in all slots by some events
abbrev gathered : {V : Type 0} → Adding V → Rates V → ℤ → ℤ → List ℤ → List Event → Key → Sum V
gathered adding rates low high places events q = total (sums adding) (slot_count places) (λ k. worth_at (sums adding) (many adding (slot_width places k)) q (swept rates low high (slot_events places events k)).1)

-- one event more in one slot
slot_more : {V : Type 0} (rates : Rates V) (low high : ℤ) (events : List Event) (e : Event) (p : Event → Bool) (c : Bool) → p e ≡ c → (swept rates low high (filter p (events ++ e ∷ []))).1 ≡ (swept rates low high (filter p events)).1 ++ cond c (step_parts rates low high (swept rates low high (filter p events)).0 e) []
slot_more {V = X} rates low high events e p true passes =
    ap (λ es. (swept rates low high es).1) (filter-append p events (e ∷ []) ∙ ap (λ (d : Bool). filter p events ++ cond d (e ∷ []) []) passes)
    ∙ ap (λ (r : Reached X). r.1) (fold_push (reach_next rates low high) (start, []) (filter p events) e)
slot_more {V = X} rates low high events e p false passes =
    ap (λ es. (swept rates low high es).1) (filter-append p events (e ∷ []) ∙ (ap (λ (d : Bool). filter p events ++ cond d (e ∷ []) []) passes ∙ append-nil (filter p events)))
    ∙ sym (append-nil (swept rates low high (filter p events)).1)

chosen_sound : {V W : Type 0} (sound : W → Bool) (worth : V → W) (c : Bool) (ps : List (Part V)) → AreSound sound worth ps → AreSound sound worth (cond c ps [])
chosen_sound sound worth true ps of_ps = of_ps
chosen_sound sound worth false ps of_ps = tt

gathered_more : {V : Type 0} (adding : Adding V) (sound : V → Bool) → IsAdditive adding sound → (rates : Rates V) (low high : ℤ) (places : List ℤ) (events : List Event) (e : Event) (q : Key) → AreRated sound (λ v. v) rates events → IsSoundLayer sound (λ v. v) rates (bar_of e).layer → gathered adding rates low high places (events ++ e ∷ []) q ≡ (sums adding).plus (gathered adding rates low high places events q) (event_added adding rates low high places (states_after places events) e q)
unfolding event_added
gathered_more {V = X} adding sound laws rates low high places events e q each of_e =
    let add = sums adding in
    let additive = sums_additive adding sound laws in
    let m = slot_count places in
    let worth = λ (k : ℕ). many adding (slot_width places k) in
    let was = λ (k : ℕ). (swept rates low high (slot_events places events k)).1 in
    let more = λ (k : ℕ). cond (is_over places k e) (step_parts rates low high (states_after places events k) e) [] in
    let reached = λ (k : ℕ). reached_sound (sum_sound sound) (worth k) rates low high start [] (slot_events places events k) (kept_rated (sum_sound sound) (worth k) rates (is_over places k) events (many_rated adding sound laws rates (slot_width places k) events each)) (no_tops (sum_sound sound) (worth k) rates) tt in
    let of_was = λ (k : ℕ). (reached k).1 in
    let of_more = λ (k : ℕ). chosen_sound (sum_sound sound) (worth k) (is_over places k e) (step_parts rates low high (states_after places events k) e)
    (step_sound (sum_sound sound) (worth k) rates low high (states_after places events k) e (many_layer adding sound laws rates (bar_of e).layer (slot_width places k) of_e)
    (subst (HaveRates (sum_sound sound) (worth k) rates) (slot_state rates low high places events k) (reached k).0)) in
    let f = λ (k : ℕ). worth_at add (worth k) q (was k) in
    let g = λ (k : ℕ). worth_at add (worth k) q (more k) in
    total_same add m (λ k. worth_at add (worth k) q (swept rates low high (slot_events places (events ++ e ∷ []) k)).1) (λ k. add.plus (f k) (g k))
    (λ k _. ap (worth_at add (worth k) q) (slot_more rates low high events e (is_over places k) (is_over places k e) refl ∙ ap (λ (s : State). was k ++ cond (is_over places k e) (step_parts rates low high s e) []) (slot_state rates low high places events k))
    ∙ worth_append add (sum_sound sound) additive (worth k) q (was k) (more k) (of_was k) (of_more k))
    ∙ total_plus add (sum_sound sound) additive m f g (λ k. worth_of add (sum_sound sound) additive (worth k) q add.none (was k) additive.neutral.start (of_was k)) (λ k. worth_of add (sum_sound sound) additive (worth k) q add.none (more k) additive.neutral.start (of_more k))

gathered_none : {V : Type 0} (adding : Adding V) (sound : V → Bool) → IsAdditive adding sound → (rates : Rates V) (low high : ℤ) (places : List ℤ) (q : Key) → gathered adding rates low high places [] q ≡ (sums adding).none
gathered_none adding sound laws rates low high places q = total_nothing (sums adding) (sum_sound sound) (sums_additive adding sound laws).neutral (slot_count places) (λ k. (sums adding).none) (λ k _. refl)

-- so many events
gathered_up_to : {V : Type 0} (adding : Adding V) (sound : V → Bool) → IsAdditive adding sound → (rates : Rates V) (low high : ℤ) (places : List ℤ) (events : List Event) (d : Event) (q : Key) (n : ℕ) → n ≤ length events → All (λ e. IsSoundLayer sound (λ v. v) rates (bar_of e).layer) events → gathered adding rates low high places (take n events) q ≡ total (sums adding) n (λ i. event_added adding rates low high places (states_after places (take i events)) (get_or events i d) q)
gathered_up_to adding sound laws rates low high places events d q zero less each =
    gathered_none adding sound laws rates low high places q ∙ sym (total_none (sums adding) (λ i. event_added adding rates low high places (states_after places (take i events)) (get_or events i d) q))
gathered_up_to adding sound laws rates low high places events d q (suc n) less each =
    let of_layer = λ (e : Event). IsSoundLayer sound (λ v. v) rates (bar_of e).layer in
    let f = λ (i : ℕ). event_added adding rates low high places (states_after places (take i events)) (get_or events i d) q in
    let one_more : suc n ≡ n + 1 = omega arith in
    ap (λ es. gathered adding rates low high places es q) (ap (λ (m : ℕ). take m events) one_more ∙ take_more events n d (omega arith))
    ∙ (gathered_more adding sound laws rates low high places (take n events) (get_or events n d) q (recursion_from_All of_layer (take n events) (All-take of_layer n events each)) (each n d (omega arith))
    ∙ (ap (λ v. (sums adding).plus v (f n)) (gathered_up_to adding sound laws rates low high places events d q n (omega arith) each)
    ∙ sym (total_suc (sums adding) n (suc n) f (omega arith))))

pub events_add_slots : {V : Type 0} → EventsAddSlots V
unfolding slots_added left_added
events_add_slots adding sound rates low high places events d q laws each =
    let add = sums adding in
    let additive = sums_additive adding sound laws in
    let m = slot_count places in
    let rated = recursion_from_All (λ (e : Event). IsSoundLayer sound (λ v. v) rates (bar_of e).layer) events each in
    let worth = λ (k : ℕ). many adding (slot_width places k) in
    let was = λ (k : ℕ). (swept rates low high (slot_events places events k)).1 in
    let rest = λ (k : ℕ). left rates low high (states_after places events k) in
    let reached = λ (k : ℕ). reached_sound (sum_sound sound) (worth k) rates low high start [] (slot_events places events k) (kept_rated (sum_sound sound) (worth k) rates (is_over places k) events (many_rated adding sound laws rates (slot_width places k) events rated)) (no_tops (sum_sound sound) (worth k) rates) tt in
    let of_rest = λ (k : ℕ). left_sound (sum_sound sound) (worth k) rates low high (states_after places events k)
    (subst (HaveRates (sum_sound sound) (worth k) rates) (slot_state rates low high places events k) (reached k).0) in
    let f = λ (k : ℕ). worth_at add (worth k) q (was k) in
    let g = λ (k : ℕ). worth_at add (worth k) q (rest k) in
    total_same add m (λ k. worth_at add (worth k) q (column_parts rates low high (slot_events places events k))) (λ k. add.plus (f k) (g k))
    (λ k _. ap (λ (s : State). worth_at add (worth k) q (was k ++ left rates low high s)) (slot_state rates low high places events k)
    ∙ worth_append add (sum_sound sound) additive (worth k) q (was k) (rest k) (reached k).1 (of_rest k))
    ∙ (total_plus add (sum_sound sound) additive m f g (λ k. worth_of add (sum_sound sound) additive (worth k) q add.none (was k) additive.neutral.start (reached k).1) (λ k. worth_of add (sum_sound sound) additive (worth k) q add.none (rest k) additive.neutral.start (of_rest k))
    ∙ ap (λ v. add.plus v (total add m g))
    (ap (λ es. gathered adding rates low high places es q) (sym (take_all (length events) events (omega arith)))
    ∙ gathered_up_to adding sound laws rates low high places events d q (length events) (omega arith) each))
