-- The sweep over all events.
use Rattle.std.proofs.Common.{◌≡◌, ◌<◌, ◌≤◌, ◌+◌, ⊎_elim, ℕ, ℤ, Bool, true, cond, List, [], ◌∷◌, Some, None, All, take, length, get_or, refl, ap, sym, subst, ◌∙◌, arith}
use Rattle.std.specs.Prelude.{slice_get, slice_index_or}
use Rattle.std.specs.List.{fold}
use Rattle.std.proofs.lemmas.Bool.{cases_lt}
use Rattle.std.proofs.lemmas.List.{get_or-map, get_or_past, get_or_default, take_more, length-map}
use Rattle.std.proofs.lemmas.List.Elements.{recursion_from_All, All-take, All-map, All-weaker}
use Rattle.std.proofs.lemmas.List.Sums.{fold_push}
use Rattle.std.proofs.lemmas.Option.{slice_get_cases}
use Rattle.rc_geom.specs.declared.key.Key.{Key}
use Rattle.rc_geom.specs.Rates.{Rates}
use Rattle.rc_geom.specs.Sums.{Adding}
use Rattle.rc_geom.proofs.Totals.{total_sound}
use Rattle.rc_rules.specs.Raters.{KeepsRules}
use Rattle.rc_tally.specs.Amounts.{IsAmount}
use Rattle.rc_tally.specs.Tallies.{sums, sum_sound}
use Rattle.rc_sums.specs.Entering.{many}
use Rattle.rc_sums.proofs.Sums.{sums_are_amounts}
use Rattle.rc_bars.specs.declared.bar.Bar.{Bar}
use Rattle.rc_bars.specs.declared.moment.Kind.{Kind}
use Rattle.rc_bars.specs.declared.moment.Kind.TheVariants.{Under as IsUnder, Off as IsOff, On as IsOn, Look as IsLook}
use Rattle.rc_bars.specs.declared.moment.Moment.{Moment}
use Rattle.rc_bars.specs.Columns.{State, start, step, step_parts}
use Rattle.rc_bars.specs.Events.{Event, bar_of}
use Rattle.rc_bars.specs.Laws.{IsSoundLayer}
use Rattle.rc_bars.specs.Moments.{event_of, no_bar, no_event, moment_event, events_of}
use Rattle.rc_bars.specs.Slots.{slot_count, slot_width, is_over, slot_events}
use Rattle.rc_bars.specs.Sweeps.{States, states_next, states_after, slot_part, event_added}
use Rattle.rc_bars.proofs.Worths.{AreSound, chosen_sound}
use Rattle.rc_bars.proofs.Sweeps.{HaveRates, AreRated, step_rates, step_sound, states_apart, many_layer, many_rated, kept_rated, no_tops}
use Rattle.rc_bars.proofs.Pairs.{parts_sound}
use Rattle.rc_bars.proofs.Looks.{event_same}

-- ---- events by number

pub no_moment : Moment
no_moment = record { kind = IsUnder; bar = 0 }

pub event_at : (bars : List Bar) (moments : List Moment) (i : ℕ) (m : Moment) → i < length moments → get_or (events_of bars moments) i no_event ≡ moment_event bars (get_or moments i m)
event_at bars moments i m less = get_or-map (moment_event bars) moments i m no_event less

pub as_many : (bars : List Bar) (moments : List Moment) → length (events_of bars moments) ≡ length moments
as_many bars moments = length-map moments (moment_event bars)

pub bar_is : (k : Kind) (b : Bar) → bar_of (event_of k b) ≡ b
bar_is IsUnder b = refl
bar_is IsOff b = refl
bar_is IsOn b = refl
bar_is IsLook b = refl

pub within_is : (bars : List Bar) (i : ℕ) (d : Bar) → i < length bars → slice_get bars i ≡ Some (slice_index_or bars i d)
within_is bars i d less = ⊎_elim
    (λ (found : (x : Bar) × (i < length bars) × (slice_get bars i ≡ Some x) × (get_or bars i x ≡ x)). found.2 ∙ ap Some (sym found.3 ∙ get_or_default bars i found.0 d less))
    (λ (past : (length bars ≤ i) × (slice_get bars i ≡ None)). absurd (let p = past.0 in omega arith))
    (slice_get_cases bars i).1

-- ---- sound

pub sound_rules : {V : Type 0} (has_rules : ℕ → Type 0) (rates : Rates V) (adding : Adding V) (sound : V → Bool) → KeepsRules has_rules rates adding sound → (layer : ℕ) → has_rules layer → IsSoundLayer sound (λ v. v) rates layer
sound_rules has_rules rates adding sound keeps layer rules = record {
  own = λ under over thick gap. keeps.own layer under over thick gap rules;
  share = λ under over thick gap. keeps.share layer under over thick gap rules;
}

pub events_rated : {V : Type 0} (has_rules : ℕ → Type 0) (rates : Rates V) (adding : Adding V) (sound : V → Bool) → KeepsRules has_rules rates adding sound → (bars : List Bar) (moments : List Moment) → All (λ b. has_rules b.layer) bars → All (λ m. m.bar < length bars) moments → All (λ e. IsSoundLayer sound (λ v. v) rates (bar_of e).layer) (events_of bars moments)
events_rated has_rules rates adding sound keeps bars moments rules within =
    All-map (λ (e : Event). IsSoundLayer sound (λ v. v) rates (bar_of e).layer) (moment_event bars) moments
    (All-weaker (λ (m : Moment). m.bar < length bars) (λ (m : Moment). IsSoundLayer sound (λ v. v) rates (bar_of (moment_event bars m)).layer)
    (λ m less. subst (λ (b : Bar). IsSoundLayer sound (λ v. v) rates b.layer) (sym (bar_is m.kind (slice_index_or bars m.bar no_bar))) (sound_rules has_rules rates adding sound keeps (slice_index_or bars m.bar no_bar).layer (rules m.bar no_bar less)))
    moments within)

fold_rates : {V W : Type 0} (sound : W → Bool) (worth : V → W) (rates : Rates V) (s : State) (events : List Event) → AreRated sound worth rates events → HaveRates sound worth rates s → HaveRates sound worth rates (fold step s events)
fold_rates sound worth rates s [] each of_s = of_s
fold_rates sound worth rates s (e ∷ rest) each of_s = fold_rates sound worth rates (step s e) rest each.1 (step_rates sound worth rates s e each.0 of_s)

pub after_rates : {V W : Type 0} (sound : W → Bool) (worth : V → W) (rates : Rates V) (places : List ℤ) (events : List Event) (k : ℕ) → AreRated sound worth rates events → HaveRates sound worth rates (states_after places events k)
after_rates sound worth rates places events k each =
    subst (HaveRates sound worth rates) (sym (states_apart places (λ _. start) events k))
    (fold_rates sound worth rates start (slot_events places events k) (kept_rated sound worth rates (is_over places k) events each) (no_tops sound worth rates))

-- what the events add is sound
pub run_sound : {V : Type 0} (adding : Adding V) (fits sound : V → Bool) → IsAmount adding fits sound → (rates : Rates V) (low high : ℤ) (places : List ℤ) (events : List Event) → All (λ e. IsSoundLayer sound (λ v. v) rates (bar_of e).layer) events → (i : ℕ) (q : Key) → sound (event_added adding rates low high places (states_after places (take i events)) (get_or events i no_event) q).value ≡ true
unfolding event_added
run_sound adding fits sound laws rates low high places events each i q =
    let of_layer = λ (e : Event). IsSoundLayer sound (λ v. v) rates (bar_of e).layer in
    let so_far = recursion_from_All of_layer (take i events) (All-take of_layer i events each) in
    let e = get_or events i no_event in
    let s = states_after places (take i events) in
    let step_is = λ (k : ℕ). ⊎_elim
    (λ (less : i < length events).
    step_sound (sum_sound sound) (many adding (slot_width places k)) rates low high (s k) e
    (many_layer adding sound laws.additive rates (bar_of e).layer (slot_width places k) (each i no_event less))
    (after_rates (sum_sound sound) (many adding (slot_width places k)) rates places (take i events) k (many_rated adding sound laws.additive rates (slot_width places k) (take i events) so_far)))
    (λ (past : length events ≤ i).
    subst (λ (x : Event). AreSound (sum_sound sound) (many adding (slot_width places k)) (step_parts rates low high (s k) x)) (sym (get_or_past events i no_event past)) tt)
    (cases_lt i (length events)) in
    total_sound (sums adding) (sum_sound sound) (sums_are_amounts adding fits sound laws).additive.neutral (slot_count places) (λ k. slot_part adding rates low high places s e k q)
    (λ k. parts_sound adding fits sound laws (slot_width places k) (cond (is_over places k e) (step_parts rates low high (s k) e) [])
    (chosen_sound (sum_sound sound) (many adding (slot_width places k)) (is_over places k e) (step_parts rates low high (s k) e) (step_is k)) q)

-- ---- one event

-- what the next event adds, by the cells
pub run_part : {V : Type 0} (adding : Adding V) (rates : Rates V) (low high : ℤ) (places : List ℤ) (count : ℕ) (bars : List Bar) (moments : List Moment) (i : ℕ) (m : Moment) (t : States) (q : Key) → slot_count places ≡ count → i < length moments → ((k : ℕ) → k < count → t k ≡ states_after places (take i (events_of bars moments)) k) →
    event_added adding rates low high places (states_after places (take i (events_of bars moments))) (get_or (events_of bars moments) i no_event) q
    ≡ event_added adding rates low high places t (moment_event bars (get_or moments i m)) q
run_part adding rates low high places count bars moments i m t q counted less same =
    let s = states_after places (take i (events_of bars moments)) in
    ap (λ (e : Event). event_added adding rates low high places s e q) (event_at bars moments i m less)
    ∙ event_same adding rates low high places s t (moment_event bars (get_or moments i m)) q (λ k small. sym (same k (omega (arith, counted))))

-- where the next event leads
pub run_state : (places : List ℤ) (bars : List Bar) (moments : List Moment) (i : ℕ) (m : Moment) (t : States) (k : ℕ) → i < length moments → t k ≡ states_after places (take i (events_of bars moments)) k → states_next places t (moment_event bars (get_or moments i m)) k ≡ states_after places (take (i + 1) (events_of bars moments)) k
run_state places bars moments i m t k less same =
    let events = events_of bars moments in
    let e = moment_event bars (get_or moments i m) in
    let s = states_after places (take i events) in
    let many_is = as_many bars moments in
    ap (λ (x : State). cond (is_over places k e) (step x e) x) same
    ∙ (ap (λ (f : Event). states_next places s f k) (sym (event_at bars moments i m less))
    ∙ sym (ap (λ (es : List Event). states_after places es k) (take_more events i no_event (omega (arith, many_is)))
    ∙ ap (λ (u : States). u k) (fold_push (states_next places) (λ _. start) (take i events) (get_or events i no_event))))
