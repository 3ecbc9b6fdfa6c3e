-- Centrelines that meet in the halves of the rows.
use Rattle.std.proofs.Common.{◌≡◌, ◌≤◌, ◌<◌, ◌+◌, ◌⊎◌, inl, inr, ⊎_elim, ℕ, Bool, true, false, List, [], ◌∷◌, ◌++◌, take, drop, length, get_or, refl, ap, sym, ◌∙◌, subst, arith}
use Rattle.std.specs.Prelude.{Contains, filter, ◌↔◌, not, ◌&&◌}
use Rattle.std.proofs.lemmas.Int.{ints}
use Rattle.std.proofs.lemmas.List.{take_more, take_all, take-append-drop}
use Rattle.std.proofs.lemmas.List.Elements.{Contains-append_left, Contains-append_right, Contains-append_cases}
use Rattle.rc_keys.specs.declared.fault.Fault.{Fault}
use Rattle.rc_nodes.specs.declared.node.Node.{Node}
use Rattle.rc_nodes.specs.declared.centreline.Centreline.{Centreline}
use Rattle.rc_nodes.specs.declared.centreline.Rows.{Rows}
use Rattle.rc_nodes.specs.Crossings.{is_across, is_beside, is_met, meeting, meetings, reaches, starts_before, ends_before, Adds, AreWithin, Either, IsFull, IsMeeting}
use Rattle.rc_nodes.proofs.Sorted.{contains_none, contains_cases, contains_first, contains_map, image_of, filter_has, filter_tells}
use Rattle.rc_nodes.proofs.Crossed.{met_tells, starts_tells, ends_tells}
use Rattle.rc_nodes.proofs.Crowded.{full_weaker}

-- ---- one more horizontal centreline

one_level : (level : Centreline) (uprights : List Centreline) (node : Node) → Contains (meetings uprights level) node ↔ IsMeeting (level ∷ []) uprights node
one_level level uprights node = (
  λ h.
      let image = image_of (meeting level) (filter (is_met level) uprights) node h in
      let found = filter_tells (is_met level) uprights image.element image.member in
      record { level = level; upright = image.element; of_levels = contains_first level [] level refl; of_uprights = found.0; met = found.1; is = image.is },
  λ m. ⊎_elim
      (λ here.
      let met : is_met level m.upright ≡ true = ap (λ (c : Centreline). is_met c m.upright) here ∙ m.met in
      subst (Contains (meetings uprights level)) (ap (λ (c : Centreline). meeting c m.upright) here ∙ m.is)
      (contains_map (meeting level) (filter (is_met level) uprights) m.upright (filter_has (is_met level) uprights m.upright m.of_uprights met)))
      (λ none. absurd (contains_none m.level none))
      (contains_cases level [] m.level m.of_levels),
)

-- meetings of two lists
pub both_lists : (low high uprights : List Centreline) (node : Node) → IsMeeting (low ++ high) uprights node ↔ (IsMeeting low uprights node ⊎ IsMeeting high uprights node)
both_lists low high uprights node = (
  λ m. ⊎_elim
      (λ in_low. inl (record { level = m.level; upright = m.upright; of_levels = in_low; of_uprights = m.of_uprights; met = m.met; is = m.is }))
      (λ in_high. inr (record { level = m.level; upright = m.upright; of_levels = in_high; of_uprights = m.of_uprights; met = m.met; is = m.is }))
      (Contains-append_cases low high m.level m.of_levels),
  λ h. ⊎_elim
      (λ m. record { level = m.level; upright = m.upright; of_levels = Contains-append_left low high m.level m.of_levels; of_uprights = m.of_uprights; met = m.met; is = m.is })
      (λ m. record { level = m.level; upright = m.upright; of_levels = Contains-append_right low high m.level m.of_levels; of_uprights = m.of_uprights; met = m.met; is = m.is })
      h,
)

pub none_yet : (uprights : List Centreline) (old : List Node) → Adds (IsMeeting [] uprights) old old
none_yet uprights old node = (λ h. inl h, λ h. ⊎_elim (λ o. o) (λ m. absurd (contains_none m.level m.of_levels)) h)

-- a turn of the loop: the meetings of one level are added, and what repeats may go
turn_has : (levels uprights : List Centreline) (k : ℕ) (d : Centreline) (old now grown : List Node) (node : Node) → k < length levels → Adds (IsMeeting (take k levels) uprights) old now →
    grown ≡ now ++ meetings uprights (get_or levels k d) → Contains grown node ↔ (Contains old node ⊎ IsMeeting (take (k + 1) levels) uprights node)
turn_has levels uprights k d old now grown node lt so_far is =
    let level = get_or levels k d in
    let front : take (k + 1) levels ≡ take k levels ++ level ∷ [] = take_more levels k d lt in
    let lists = both_lists (take k levels) (level ∷ []) uprights node in
    let one = one_level level uprights node in (
      λ h. ⊎_elim
          (λ before. ⊎_elim (λ o. inl o) (λ m. inr (subst (λ l. IsMeeting l uprights node) (sym front) (lists.1 (inl m)))) ((so_far node).0 before))
          (λ new. inr (subst (λ l. IsMeeting l uprights node) (sym front) (lists.1 (inr (one.0 new)))))
          (Contains-append_cases now (meetings uprights level) node (subst (λ l. Contains l node) is h)),
      λ h. subst (λ l. Contains l node) (sym is) (⊎_elim
          (λ o. Contains-append_left now (meetings uprights level) node ((so_far node).1 (inl o)))
          (λ m. ⊎_elim
          (λ before. Contains-append_left now (meetings uprights level) node ((so_far node).1 (inr before)))
          (λ new. Contains-append_right now (meetings uprights level) node (one.1 new))
          (lists.0 (subst (λ l. IsMeeting l uprights node) front m)))
          h),
    )

pub turn_adds : (levels uprights : List Centreline) (k : ℕ) (d : Centreline) (old now grown settled : List Node) → k < length levels → Adds (IsMeeting (take k levels) uprights) old now →
    grown ≡ now ++ meetings uprights (get_or levels k d) → ((node : Node) → Contains settled node ↔ Contains grown node) → Adds (IsMeeting (take (k + 1) levels) uprights) old settled
turn_adds levels uprights k d old now grown settled lt so_far is kept node =
    let turn = turn_has levels uprights k d old now grown node lt so_far is in
    (λ h. turn.0 ((kept node).0 h), λ h. (kept node).1 (turn.1 h))

-- those of the first levels are among those of all
front_meets : (levels uprights : List Centreline) (k : ℕ) (node : Node) → IsMeeting (take k levels) uprights node → IsMeeting levels uprights node
front_meets levels uprights k node m = record {
  level = m.level;
  upright = m.upright;
  of_levels = subst (λ l. Contains l m.level) (take-append-drop k levels) (Contains-append_left (take k levels) (drop k levels) m.level m.of_levels);
  of_uprights = m.of_uprights;
  met = m.met;
  is = m.is;
}

pub turn_full : (room : ℕ) (levels uprights : List Centreline) (k : ℕ) (d : Centreline) (old now grown : List Node) (fault : Fault) → k < length levels → Adds (IsMeeting (take k levels) uprights) old now →
    grown ≡ now ++ meetings uprights (get_or levels k d) → IsFull room (λ node. Contains grown node) fault → IsFull room (Either old (IsMeeting levels uprights)) fault
turn_full room levels uprights k d old now grown fault lt so_far is h =
    full_weaker room (λ node. Contains grown node) (Either old (IsMeeting levels uprights)) fault
    (λ node in'. ⊎_elim (λ o. inl o) (λ m. inr (front_meets levels uprights (k + 1) node m)) ((turn_has levels uprights k d old now grown node lt so_far is).0 in'))
    h

pub all_turns : (levels uprights : List Centreline) (k : ℕ) (old now : List Node) → length levels ≤ k → Adds (IsMeeting (take k levels) uprights) old now → Adds (IsMeeting levels uprights) old now
all_turns levels uprights k old now le so_far = subst (λ l. Adds (IsMeeting l uprights) old now) (take_all k levels le) so_far

-- ---- parts of rows

not_by : (b : Bool) → (b ≡ true → ⊥) → not b ≡ true
not_by true h = absurd (h refl)
not_by false h = refl

-- what meets one of the rows reaches them
reaches_rows : (rows : Rows) (part : List Centreline) (level upright : Centreline) → AreWithin rows part → Contains part level → is_met level upright ≡ true → reaches rows upright ≡ true
reaches_rows rows part level upright within in' met =
    let m = met_tells level upright met in
    let layer = m.layer in
    let low = m.low in
    let high = m.high in
    both (not (ends_before upright rows.first)) (not (starts_before upright rows.last))
    (not_by (ends_before upright rows.first) (λ h. ⊎_elim
    (λ l. ⊎_elim (λ k. omega (arith, l, k, layer)) (λ k. let e = k.0 in omega (arith, l, e, layer)) (within.first level in'))
    (λ l. let e = l.0 in let less = l.1 in ⊎_elim (λ k. omega (arith, e, k, layer)) (λ k. let f = k.1 in omega (arith, ints)) (within.first level in'))
    (ends_tells upright rows.first h)))
    (not_by (starts_before upright rows.last) (λ h. ⊎_elim
    (λ l. ⊎_elim (λ k. omega (arith, l, k, layer)) (λ k. let e = k.0 in omega (arith, l, e, layer)) (within.last level in'))
    (λ l. let e = l.0 in let less = l.1 in ⊎_elim (λ k. omega (arith, e, k, layer)) (λ k. let f = k.1 in omega (arith, ints)) (within.last level in'))
    (starts_tells upright rows.last h)))
  where
    both : (a b : Bool) → a ≡ true → b ≡ true → (a && b) ≡ true
    both a b h k = grind arith

fewer_uprights : (levels uprights : List Centreline) (p : Centreline → Bool) (node : Node) → IsMeeting levels (filter p uprights) node → IsMeeting levels uprights node
fewer_uprights levels uprights p node m = record { level = m.level; upright = m.upright; of_levels = m.of_levels; of_uprights = (filter_tells p uprights m.upright m.of_uprights).0; met = m.met; is = m.is }

-- the meetings in a part of the rows, but for those of what crosses all rows
part_meets : (all rows : Rows) (part uprights : List Centreline) (node : Node) (m : IsMeeting part uprights node) → AreWithin rows part → is_across all m.upright ≡ false → IsMeeting part (filter (is_beside all rows) uprights) node
unfolding is_beside
part_meets all rows part uprights node m within not_across =
    let reach = reaches_rows rows part m.level m.upright within m.of_levels m.met in
    let beside : is_beside all rows m.upright ≡ true = ap (λ b. not b && reaches rows m.upright) not_across ∙ reach in
    record { level = m.level; upright = m.upright; of_levels = m.of_levels; of_uprights = filter_has (is_beside all rows) uprights m.upright m.of_uprights beside; met = m.met; is = m.is }

-- what meets: across all rows, in the lower half, or in the upper one
abbrev pub InHalves : Rows → Rows → Rows → List Centreline → List Centreline → List Centreline → Node → Type 0
InHalves all lower upper low high uprights node =
    IsMeeting (low ++ high) (filter (is_across all) uprights) node
    ⊎ (IsMeeting low (filter (is_beside all lower) uprights) node ⊎ IsMeeting high (filter (is_beside all upper) uprights) node)

pub halves : (all lower upper : Rows) (low high uprights : List Centreline) (node : Node) → AreWithin lower low → AreWithin upper high → IsMeeting (low ++ high) uprights node ↔ InHalves all lower upper low high uprights node
halves all lower upper low high uprights node in_lower in_upper = (
  λ m. by m (is_across all m.upright) refl,
  λ h. ⊎_elim
      (λ across. fewer_uprights (low ++ high) uprights (is_across all) node across)
      (λ beside. (both_lists low high uprights node).1 (⊎_elim
      (λ m. inl (fewer_uprights low uprights (is_beside all lower) node m))
      (λ m. inr (fewer_uprights high uprights (is_beside all upper) node m))
      beside))
      h,
)
  where
    by : (m : IsMeeting (low ++ high) uprights node) → (b : Bool) → is_across all m.upright ≡ b → InHalves all lower upper low high uprights node
    by m true is = inl (record { level = m.level; upright = m.upright; of_levels = m.of_levels; of_uprights = filter_has (is_across all) uprights m.upright m.of_uprights is; met = m.met; is = m.is })
    by m false is = ⊎_elim
        (λ in_low. inr (inl (part_meets all lower low uprights node (record { level = m.level; upright = m.upright; of_levels = in_low; of_uprights = m.of_uprights; met = m.met; is = m.is }) in_lower is)))
        (λ in_high. inr (inr (part_meets all upper high uprights node (record { level = m.level; upright = m.upright; of_levels = in_high; of_uprights = m.of_uprights; met = m.met; is = m.is }) in_upper is)))
        (Contains-append_cases low high m.level m.of_levels)

-- ---- one after another

pub adds_then : (P Q : Node → Type 0) (old mid new : List Node) → Adds P old mid → Adds Q mid new → Adds (λ node. P node ⊎ Q node) old new
adds_then P Q old mid new first second node = (
  λ h. ⊎_elim (λ m. ⊎_elim (λ o. inl o) (λ p. inr (inl p)) ((first node).0 m)) (λ q. inr (inr q)) ((second node).0 h),
  λ h. (second node).1 (⊎_elim (λ o. inl ((first node).1 (inl o))) (λ r. ⊎_elim (λ p. inl ((first node).1 (inr p))) (λ q. inr q) r) h),
)

pub adds_as : (P Q : Node → Type 0) (old new : List Node) → ((node : Node) → P node ↔ Q node) → Adds Q old new → Adds P old new
adds_as P Q old new same adds node = (
  λ h. ⊎_elim (λ o. inl o) (λ q. inr ((same node).1 q)) ((adds node).0 h),
  λ h. (adds node).1 (⊎_elim (λ o. inl o) (λ p. inr ((same node).0 p)) h),
)

pub full_then : (room : ℕ) (P Q R : Node → Type 0) (old mid : List Node) (fault : Fault) → Adds P old mid → ((node : Node) → (P node ⊎ Q node) → R node) → IsFull room (Either mid Q) fault → IsFull room (Either old R) fault
full_then room P Q R old mid fault first gives h =
    full_weaker room (Either mid Q) (Either old R) fault
    (λ node e. ⊎_elim (λ m. ⊎_elim (λ o. inl o) (λ p. inr (gives node (inl p))) ((first node).0 m)) (λ q. inr (gives node (inr q))) e)
    h

-- ---- all of them

-- what is found in three steps: across all rows, and in each half
pub record Halved (all lower upper : Rows) (levels uprights low high below above : List Centreline) : Type 0 where
  pub parts : levels ≡ low ++ high
  pub below_is : below ≡ filter (is_beside all lower) uprights
  pub above_is : above ≡ filter (is_beside all upper) uprights
  pub in_lower : AreWithin lower low
  pub in_upper : AreWithin upper high

abbrev Across : Rows → List Centreline → List Centreline → Node → Type 0
Across all levels uprights = IsMeeting levels (filter (is_across all) uprights)

in_steps : (all lower upper : Rows) (levels uprights low high below above : List Centreline) → Halved all lower upper levels uprights low high below above → (node : Node) →
    IsMeeting levels uprights node ↔ ((Across all levels uprights node ⊎ IsMeeting low below node) ⊎ IsMeeting high above node)
in_steps all lower upper levels uprights low high below above h node =
    let split = halves all lower upper low high uprights node h.in_lower h.in_upper in (
      λ m. ⊎_elim
          (λ across. inl (inl (subst (λ l. Across all l uprights node) (sym h.parts) across)))
          (λ beside. ⊎_elim
          (λ m. inl (inr (subst (λ l. IsMeeting low l node) (sym h.below_is) m)))
          (λ m. inr (subst (λ l. IsMeeting high l node) (sym h.above_is) m))
          beside)
          (split.0 (subst (λ l. IsMeeting l uprights node) h.parts m)),
      λ k. subst (λ l. IsMeeting l uprights node) (sym h.parts) (split.1 (⊎_elim
          (λ first. ⊎_elim
          (λ across. inl (subst (λ l. Across all l uprights node) h.parts across))
          (λ m. inr (inl (subst (λ l. IsMeeting low l node) h.below_is m)))
          first)
          (λ m. inr (inr (subst (λ l. IsMeeting high l node) h.above_is m)))
          k)),
    )

pub found_in_steps : (all lower upper : Rows) (levels uprights low high below above : List Centreline) (old a b new : List Node) → Halved all lower upper levels uprights low high below above →
    Adds (IsMeeting levels (filter (is_across all) uprights)) old a → Adds (IsMeeting low below) a b → Adds (IsMeeting high above) b new → Adds (IsMeeting levels uprights) old new
found_in_steps all lower upper levels uprights low high below above old a b new h first second third =
    adds_as (IsMeeting levels uprights) (λ node. (Across all levels uprights node ⊎ IsMeeting low below node) ⊎ IsMeeting high above node) old new
    (in_steps all lower upper levels uprights low high below above h)
    (adds_then (λ node. Across all levels uprights node ⊎ IsMeeting low below node) (IsMeeting high above) old b new
    (adds_then (Across all levels uprights) (IsMeeting low below) old a b first second) third)

pub full_across : (room : ℕ) (all lower upper : Rows) (levels uprights low high below above : List Centreline) (old : List Node) (fault : Fault) → Halved all lower upper levels uprights low high below above →
    IsFull room (Either old (IsMeeting levels (filter (is_across all) uprights))) fault → IsFull room (Either old (IsMeeting levels uprights)) fault
full_across room all lower upper levels uprights low high below above old fault h full =
    full_weaker room (Either old (Across all levels uprights)) (Either old (IsMeeting levels uprights)) fault
    (λ node e. ⊎_elim (λ o. inl o) (λ m. inr ((in_steps all lower upper levels uprights low high below above h node).1 (inl (inl m)))) e)
    full

pub full_below : (room : ℕ) (all lower upper : Rows) (levels uprights low high below above : List Centreline) (old a : List Node) (fault : Fault) → Halved all lower upper levels uprights low high below above →
    Adds (IsMeeting levels (filter (is_across all) uprights)) old a → IsFull room (Either a (IsMeeting low below)) fault → IsFull room (Either old (IsMeeting levels uprights)) fault
full_below room all lower upper levels uprights low high below above old a fault h first full =
    full_then room (Across all levels uprights) (IsMeeting low below) (IsMeeting levels uprights) old a fault first
    (λ node e. (in_steps all lower upper levels uprights low high below above h node).1 (inl e)) full

pub full_above : (room : ℕ) (all lower upper : Rows) (levels uprights low high below above : List Centreline) (old a b : List Node) (fault : Fault) → Halved all lower upper levels uprights low high below above →
    Adds (IsMeeting levels (filter (is_across all) uprights)) old a → Adds (IsMeeting low below) a b → IsFull room (Either b (IsMeeting high above)) fault → IsFull room (Either old (IsMeeting levels uprights)) fault
full_above room all lower upper levels uprights low high below above old a b fault h first second full =
    full_then room (λ node. Across all levels uprights node ⊎ IsMeeting low below node) (IsMeeting high above) (IsMeeting levels uprights) old b fault
    (adds_then (Across all levels uprights) (IsMeeting low below) old a b first second)
    (λ node e. (in_steps all lower upper levels uprights low high below above h node).1 e) full
