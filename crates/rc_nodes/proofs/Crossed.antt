-- The crossings of a net's centrelines.
use Rattle.std.proofs.Common.{◌≡◌, ◌≤◌, ◌<◌, ◌+◌, ◌⊎◌, inl, inr, ⊎_elim, ℕ, ℤ, pos, ◌≤ℤ◌, ◌<ℤ◌, Bool, true, false, cond, List, [], ◌∷◌, ◌++◌, map, take, length, get_or, refl, ap, sym, ◌∙◌, subst, arith}
use Rattle.std.specs.Prelude.{Contains, All, filter, not, ◌↔◌, nat_lt, int_lt, int_le, ◌&&◌, ◌||◌, ◌==◌}
use Rattle.std.specs.List.Sorted.{IsPartitionedBy, IsPartitionPoint}
use Rattle.std.proofs.lemmas.Int.{ints}
use Rattle.std.proofs.lemmas.Bool.{and_parts, eqb-true}
use Rattle.std.proofs.lemmas.Bool.Decides.{nat_tests}
use Rattle.std.proofs.lemmas.List.{get_or_default, take_all, append-nil, append_assoc, map-append}
use Rattle.std.proofs.lemmas.List.Elements.{All-contains, filter_more}
use Rattle.rc_geom.proofs.Bounds.{le_tells, lt_tells, lt_passes, le_passes}
use Rattle.rc_layout.specs.declared.item.Item.{Item}
use Rattle.rc_layout.specs.Items.{is_level, is_piece, is_on, IsItem}
use Rattle.rc_nodes.specs.declared.node.Node.{Node}
use Rattle.rc_nodes.specs.declared.centreline.Centreline.{Centreline}
use Rattle.rc_nodes.specs.Nodes.{IsCrossing}
use Rattle.rc_nodes.specs.Lines.{tap_of}
use Rattle.rc_nodes.specs.Crossings.{runs, centreline_of, centrelines_of, HasPlace, HaveSamePlaces, IsMeeting, IsRowLe, InRows, starts_before, ends_before, is_met, meeting, meetings}
use Rattle.rc_nodes.proofs.Merged.{far}
use Rattle.rc_nodes.proofs.Sorted.{contains_map, image_of, filter_has, filter_tells}
use Rattle.rc_nodes.proofs.Ordered.{lies_tells, lies_is_on}
use Rattle.rc_nodes.proofs.Found.{filter_none_before, filter_front, lies_gives}

-- ---- tests

or_true : (a b : Bool) → (a || b) ≡ true → (a ≡ true) ⊎ (b ≡ true)
or_true true b h = inl refl
or_true false b h = inr h

or_first : (a b : Bool) → a ≡ true → (a || b) ≡ true
or_first a b h = grind arith

or_second : (a b : Bool) → b ≡ true → (a || b) ≡ true
or_second a b h = grind arith

bool_by : (b : Bool) → (b ≡ true → ⊥) → b ≡ false
bool_by true h = absurd (h refl)
bool_by false h = refl

nat_lt_tells : (a b : ℕ) → nat_lt a b ≡ true → a < b
nat_lt_tells a b h = grind (arith, nat_tests)

nat_lt_passes : (a b : ℕ) → a < b → nat_lt a b ≡ true
nat_lt_passes a b h = grind (arith, nat_tests)

eq_passes : (a b : ℕ) → a ≡ b → (a == b) ≡ true
eq_passes a b h = grind arith

both : (a b : Bool) → a ≡ true → b ≡ true → (a && b) ≡ true
both a b h k = grind arith

-- ---- before and behind what a probe can meet

-- a place by layer and line
abbrev IsLower : ℕ → ℤ → ℕ → ℤ → Type 0
IsLower layer line other at = (layer < other) ⊎ ((layer ≡ other) × (line <ℤ at))

pub starts_tells : (p o : Centreline) → starts_before p o ≡ true → IsLower o.layer o.line p.layer p.from
starts_tells p o h = ⊎_elim
    (λ l. inl (nat_lt_tells o.layer p.layer l))
    (λ l. let parts = and_parts (o.layer == p.layer) (int_lt o.line p.from) l in inr (eqb-true o.layer p.layer parts.0, lt_tells o.line p.from parts.1))
    (or_true (nat_lt o.layer p.layer) ((o.layer == p.layer) && int_lt o.line p.from) h)

starts_gives : (p o : Centreline) → IsLower o.layer o.line p.layer p.from → starts_before p o ≡ true
starts_gives p o h = ⊎_elim
    (λ l. or_first (nat_lt o.layer p.layer) ((o.layer == p.layer) && int_lt o.line p.from) (nat_lt_passes o.layer p.layer l))
    (λ l. or_second (nat_lt o.layer p.layer) ((o.layer == p.layer) && int_lt o.line p.from) (both (o.layer == p.layer) (int_lt o.line p.from) (eq_passes o.layer p.layer l.0) (lt_passes o.line p.from l.1)))
    h

pub ends_tells : (p o : Centreline) → ends_before p o ≡ true → IsLower p.layer p.to o.layer o.line
ends_tells p o h = ⊎_elim
    (λ l. inl (nat_lt_tells p.layer o.layer l))
    (λ l. let parts = and_parts (p.layer == o.layer) (int_lt p.to o.line) l in inr (eqb-true p.layer o.layer parts.0, lt_tells p.to o.line parts.1))
    (or_true (nat_lt p.layer o.layer) ((p.layer == o.layer) && int_lt p.to o.line) h)

-- what meeting means
pub record Meets (p o : Centreline) : Type 0 where
  pub layer : o.layer ≡ p.layer
  pub from : p.from ≤ℤ o.line
  pub to : o.line ≤ℤ p.to
  pub low : o.from ≤ℤ p.line
  pub high : p.line ≤ℤ o.to

pub met_tells : (p o : Centreline) → is_met p o ≡ true → Meets p o
met_tells p o h =
    let outer = and_parts ((o.layer == p.layer) && (int_le p.from o.line && int_le o.line p.to)) (int_le o.from p.line && int_le p.line o.to) h in
    let front = and_parts (o.layer == p.layer) (int_le p.from o.line && int_le o.line p.to) outer.0 in
    let ends = and_parts (int_le p.from o.line) (int_le o.line p.to) front.1 in
    let across' = and_parts (int_le o.from p.line) (int_le p.line o.to) outer.1 in
    record {
      layer = eqb-true o.layer p.layer front.0;
      from = le_tells p.from o.line ends.0;
      to = le_tells o.line p.to ends.1;
      low = le_tells o.from p.line across'.0;
      high = le_tells p.line o.to across'.1;
    }

met_gives : (p o : Centreline) → Meets p o → is_met p o ≡ true
met_gives p o h =
    both ((o.layer == p.layer) && (int_le p.from o.line && int_le o.line p.to)) (int_le o.from p.line && int_le p.line o.to)
    (both (o.layer == p.layer) (int_le p.from o.line && int_le o.line p.to) (eq_passes o.layer p.layer h.layer) (both (int_le p.from o.line) (int_le o.line p.to) (le_passes p.from o.line h.from) (le_passes o.line p.to h.to)))
    (both (int_le o.from p.line) (int_le p.line o.to) (le_passes o.from p.line h.low) (le_passes p.line o.to h.high))

start_misses : (p o : Centreline) → starts_before p o ≡ true → is_met p o ≡ false
start_misses p o h = bool_by (is_met p o) (λ is. let m = met_tells p o is in let layer = m.layer in let from = m.from in ⊎_elim (λ l. omega (arith, l)) (λ l. let less = l.1 in omega (arith, ints)) (starts_tells p o h))

end_misses : (p o : Centreline) → ends_before p o ≡ true → is_met p o ≡ false
end_misses p o h = bool_by (is_met p o) (λ is. let m = met_tells p o is in let layer = m.layer in let to = m.to in ⊎_elim (λ l. omega (arith, l)) (λ l. let less = l.1 in omega (arith, ints)) (ends_tells p o h))

-- ---- centrelines in rows

start_lower : (p a b : Centreline) → IsRowLe a b → starts_before p b ≡ true → starts_before p a ≡ true
start_lower p a b le h = starts_gives p a (⊎_elim
    (λ l. ⊎_elim (λ m. inl (omega (arith, l, m))) (λ m. let same = m.0 in inl (omega (arith, l, same))) (starts_tells p b h))
    (λ l. let same = l.0 in let line = l.1 in ⊎_elim (λ m. inl (omega (arith, same, m))) (λ m. let less = m.1 in inr (same ∙ m.0, omega (arith, ints))) (starts_tells p b h))
    le)

end_higher : (p a b : Centreline) → IsRowLe a b → ends_before p a ≡ true → is_met p b ≡ false
end_higher p a b le h = bool_by (is_met p b) (λ is.
    let m = met_tells p b is in
    let layer = m.layer in
    let to = m.to in
    ⊎_elim
    (λ l. ⊎_elim (λ k. omega (arith, l, k)) (λ k. let same = k.0 in omega (arith, l, same)) (ends_tells p a h))
    (λ l. let same = l.0 in let line = l.1 in ⊎_elim (λ k. omega (arith, same, k)) (λ k. let less = k.1 in omega (arith, ints)) (ends_tells p a h))
    le)

pub parted_by_start : (probe : Centreline) (others : List Centreline) → InRows others → IsPartitionedBy (starts_before probe) others
parted_by_start probe others rows i j d le lt h = start_lower probe (get_or others i d) (get_or others j d) (far others rows i j d le lt) h

-- ---- the loop over them

pub none_met : (probe : Centreline) (others : List Centreline) (k : ℕ) (old : List Node) → IsPartitionPoint (λ (o : Centreline). starts_before probe o ≡ true) (λ (o : Centreline). starts_before probe o ≡ false) others k →
    old ≡ old ++ map (meeting probe) (filter (is_met probe) (take k others))
none_met probe others k old parted =
    sym (ap (λ l. old ++ map (meeting probe) l) (filter_none_before (is_met probe) others k (λ j d lt within. start_misses probe (get_or others j d) (parted.0 j d (omega arith) lt))) ∙ append-nil old)

abbrev pub no_centreline : Centreline
no_centreline = record { layer = 0; line = pos 0; from = pos 0; to = pos 0 }

pub met_more : (probe : Centreline) (others : List Centreline) (k : ℕ) (old items more : List Node) (node : Node) → k < length others → is_met probe (get_or others k no_centreline) ≡ true → node ≡ meeting probe (get_or others k no_centreline) →
    items ≡ old ++ map (meeting probe) (filter (is_met probe) (take k others)) → more ≡ items ++ node ∷ [] → more ≡ old ++ map (meeting probe) (filter (is_met probe) (take (k + 1) others))
met_more probe others k old items more node lt is node_is so_far grown =
    let o = get_or others k no_centreline in
    let front = filter (is_met probe) (take k others) in
    let longer : filter (is_met probe) (take (k + 1) others) ≡ front ++ o ∷ [] = filter_more (is_met probe) others k no_centreline lt ∙ ap (λ b. front ++ cond b (o ∷ []) []) is in
    grown
    ∙ ap (λ l. l ++ node ∷ []) so_far
    ∙ ap (λ n. (old ++ map (meeting probe) front) ++ n ∷ []) node_is
    ∙ append_assoc old (map (meeting probe) front) (meeting probe o ∷ [])
    ∙ ap (λ l. old ++ l) (sym (map-append (meeting probe) front (o ∷ [])))
    ∙ ap (λ l. old ++ map (meeting probe) l) (sym longer)

pub met_same : (probe : Centreline) (others : List Centreline) (k : ℕ) (old items : List Node) → k < length others → is_met probe (get_or others k no_centreline) ≡ false →
    items ≡ old ++ map (meeting probe) (filter (is_met probe) (take k others)) → items ≡ old ++ map (meeting probe) (filter (is_met probe) (take (k + 1) others))
met_same probe others k old items lt is so_far =
    let o = get_or others k no_centreline in
    let front = filter (is_met probe) (take k others) in
    let same : filter (is_met probe) (take (k + 1) others) ≡ front = filter_more (is_met probe) others k no_centreline lt ∙ ap (λ b. front ++ cond b (o ∷ []) []) is ∙ append-nil front in
    so_far ∙ ap (λ l. old ++ map (meeting probe) l) (sym same)

pub met_all : (probe : Centreline) (others : List Centreline) (k : ℕ) (old items : List Node) → InRows others → k < length others → ends_before probe (get_or others k no_centreline) ≡ true →
    items ≡ old ++ map (meeting probe) (filter (is_met probe) (take k others)) → items ≡ old ++ meetings others probe
met_all probe others k old items rows lt past so_far =
    so_far ∙ ap (λ l. old ++ map (meeting probe) l) (filter_front (is_met probe) others k (λ j d le within.
    let at : get_or others k d ≡ get_or others k no_centreline = get_or_default others k d no_centreline lt in
    end_higher probe (get_or others k d) (get_or others j d) (far others rows k j d le within) (ap (ends_before probe) at ∙ past)))

pub met_done : (probe : Centreline) (others : List Centreline) (k : ℕ) (old items : List Node) → length others ≤ k →
    items ≡ old ++ map (meeting probe) (filter (is_met probe) (take k others)) → items ≡ old ++ meetings others probe
met_done probe others k old items le so_far = so_far ∙ ap (λ l. old ++ map (meeting probe) (filter (is_met probe) l)) (take_all k others le)

-- ---- all meetings are the crossings

-- a node lies on the centreline of an item: by the item's centreline
record OnCentreline (level : Bool) (item : Item) (node : Node) : Type 0 where
  layer : node.layer ≡ item.layer
  line : cond level node.at.y node.at.x ≡ (centreline_of item).line
  low : (centreline_of item).from ≤ℤ cond level node.at.x node.at.y
  high : cond level node.at.x node.at.y ≤ℤ (centreline_of item).to

on_tells : (item : Item) (node : Node) → IsItem item → is_on item node.layer node.at ≡ true → OnCentreline (is_level item) item node
on_tells item node is on =
    let lies = lies_tells item (tap_of (is_level item) (0, node)) (lies_is_on item (0, node) is ∙ on) in
    record { layer = lies.layer; line = lies.line; low = lies.low; high = lies.high }

on_gives : (item : Item) (node : Node) → IsItem item → OnCentreline (is_level item) item node → is_on item node.layer node.at ≡ true
on_gives item node is h =
    sym (lies_is_on item (0, node) is) ∙ lies_gives item (tap_of (is_level item) (0, node)) (record { layer = h.layer; line = h.line; low = h.low; high = h.high })

runs_level : (level : Bool) (item : Item) → runs level item ≡ true → is_level item ≡ level
runs_level true item h = (and_parts (is_piece item) (is_level item) h).1
runs_level false item h = flip (is_level item) (and_parts (is_piece item) (not (is_level item)) h).1
  where
    flip : (b : Bool) → not b ≡ true → b ≡ false
    flip true h = sym h
    flip false h = refl

-- two pieces of different axes with a point in common
meets_gives : (p o : Item) (node : Node) → OnCentreline true p node → OnCentreline false o node → Meets (centreline_of p) (centreline_of o) × (meeting (centreline_of p) (centreline_of o) ≡ node)
meets_gives p o node on_p on_o =
    let a = on_p.line in let b = on_o.line in let low = on_p.low in let high = on_p.high in let low' = on_o.low in let high' = on_o.high in (
      record { layer = sym on_o.layer ∙ on_p.layer; from = omega (arith, ints); to = omega (arith, ints); low = omega (arith, ints); high = omega (arith, ints) },
      λ i. record { layer = sym on_p.layer i; at = record { x = sym b i; y = sym a i } },
    )

meets_tells : (p o : Item) → Meets (centreline_of p) (centreline_of o) → OnCentreline true p (meeting (centreline_of p) (centreline_of o)) × OnCentreline false o (meeting (centreline_of p) (centreline_of o))
meets_tells p o h = (record { layer = refl; line = refl; low = h.from; high = h.to }, record { layer = sym h.layer; line = refl; low = h.low; high = h.high })

-- ---- meetings by places

-- the node lies on a horizontal and on a vertical centreline
record IsShared (levels uprights : List Centreline) (node : Node) : Type 0 where
  level : HasPlace levels node.layer node.at.y node.at.x
  upright : HasPlace uprights node.layer node.at.x node.at.y

shared_of : (levels uprights : List Centreline) (node : Node) → IsMeeting levels uprights node → IsShared levels uprights node
shared_of levels uprights node m =
    let met = met_tells m.level m.upright m.met in
    subst (IsShared levels uprights) m.is (record {
      level = record { centreline = m.level; member = m.of_levels; layer = refl; line = refl; low = met.from; high = met.to };
      upright = record { centreline = m.upright; member = m.of_uprights; layer = met.layer; line = refl; low = met.low; high = met.high };
    })

meeting_of : (levels uprights : List Centreline) (node : Node) → IsShared levels uprights node → IsMeeting levels uprights node
meeting_of levels uprights node h =
    let p = h.level in
    let o = h.upright in
    let row = p.line in
    let column = o.line in
    let low = p.low in let high = p.high in let low' = o.low in let high' = o.high in
    record {
      level = p.centreline;
      upright = o.centreline;
      of_levels = p.member;
      of_uprights = o.member;
      met = met_gives p.centreline o.centreline (record {
        layer = o.layer ∙ sym p.layer;
        from = omega (arith, ints);
        to = omega (arith, ints);
        low = omega (arith, ints);
        high = omega (arith, ints);
      });
      is = λ i. record { layer = p.layer i; at = record { x = column i; y = row i } };
    }

-- lists with the same places have the same meetings
pub same_meetings : (levels uprights rows columns : List Centreline) (node : Node) → HaveSamePlaces levels rows → HaveSamePlaces uprights columns → IsMeeting levels uprights node ↔ IsMeeting rows columns node
same_meetings levels uprights rows columns node same_levels same_uprights = (
  λ m. let s = shared_of levels uprights node m in
      meeting_of rows columns node (record { level = (same_levels node.layer node.at.y node.at.x).0 s.level; upright = (same_uprights node.layer node.at.x node.at.y).0 s.upright }),
  λ m. let s = shared_of rows columns node m in
      meeting_of levels uprights node (record { level = (same_levels node.layer node.at.y node.at.x).1 s.level; upright = (same_uprights node.layer node.at.x node.at.y).1 s.upright }),
)

-- ---- the meetings of a net's pieces are its crossings

-- a piece behind a centreline
record IsDrawn (level : Bool) (items : List Item) (centreline : Centreline) : Type 0 where
  item : Item
  member : Contains items item
  runs : runs level item ≡ true
  is : centreline_of item ≡ centreline

drawn : (level : Bool) (items : List Item) (centreline : Centreline) → Contains (centrelines_of level items) centreline → IsDrawn level items centreline
drawn level items centreline h =
    let image = image_of centreline_of (filter (runs level) items) centreline h in
    let found = filter_tells (runs level) items image.element image.member in
    record { item = image.element; member = found.0; runs = found.1; is = image.is }

has_centreline : (level : Bool) (items : List Item) (item : Item) → Contains items item → runs level item ≡ true → Contains (centrelines_of level items) (centreline_of item)
has_centreline level items item h is = contains_map centreline_of (filter (runs level) items) item (filter_has (runs level) items item h is)

crossing_tells : (items : List Item) (node : Node) → All IsItem items → IsMeeting (centrelines_of true items) (centrelines_of false items) node → IsCrossing items node
crossing_tells items node all m =
    let p = drawn true items m.level m.of_levels in
    let o = drawn false items m.upright m.of_uprights in
    let met : Meets (centreline_of p.item) (centreline_of o.item) = met_tells (centreline_of p.item) (centreline_of o.item) (ap (λ (s : Centreline). is_met s (centreline_of o.item)) p.is ∙ (ap (is_met m.level) o.is ∙ m.met)) in
    let on = meets_tells p.item o.item met in
    let here : meeting (centreline_of p.item) (centreline_of o.item) ≡ node = ap (λ (s : Centreline). meeting s (centreline_of o.item)) p.is ∙ (ap (meeting m.level) o.is ∙ m.is) in
    let is_p = All-contains IsItem items p.item all p.member in
    let is_o = All-contains IsItem items o.item all o.member in
    subst (IsCrossing items) here (record {
      level = p.item;
      upright = o.item;
      level_drawn = p.member;
      upright_drawn = o.member;
      is_level = p.runs;
      is_upright = o.runs;
      on_level = on_gives p.item (meeting (centreline_of p.item) (centreline_of o.item)) is_p (subst (λ b. OnCentreline b p.item (meeting (centreline_of p.item) (centreline_of o.item))) (sym (runs_level true p.item p.runs)) on.0);
      on_upright = on_gives o.item (meeting (centreline_of p.item) (centreline_of o.item)) is_o (subst (λ b. OnCentreline b o.item (meeting (centreline_of p.item) (centreline_of o.item))) (sym (runs_level false o.item o.runs)) on.1);
    })

crossing_gives : (items : List Item) (node : Node) → All IsItem items → IsCrossing items node → IsMeeting (centrelines_of true items) (centrelines_of false items) node
crossing_gives items node all h =
    let p = h.level in
    let o = h.upright in
    let sp = subst (λ b. OnCentreline b p node) (runs_level true p h.is_level) (on_tells p node (All-contains IsItem items p all h.level_drawn) h.on_level) in
    let so = subst (λ b. OnCentreline b o node) (runs_level false o h.is_upright) (on_tells o node (All-contains IsItem items o all h.upright_drawn) h.on_upright) in
    let both' = meets_gives p o node sp so in
    record {
      level = centreline_of p;
      upright = centreline_of o;
      of_levels = has_centreline true items p h.level_drawn h.is_level;
      of_uprights = has_centreline false items o h.upright_drawn h.is_upright;
      met = met_gives (centreline_of p) (centreline_of o) both'.0;
      is = both'.1;
    }

pub crossings_are : (items : List Item) (rows columns : List Centreline) (node : Node) → All IsItem items → HaveSamePlaces (centrelines_of true items) rows → HaveSamePlaces (centrelines_of false items) columns → IsMeeting rows columns node ↔ IsCrossing items node
crossings_are items rows columns node all same_rows same_columns =
    let same = same_meetings (centrelines_of true items) (centrelines_of false items) rows columns node same_rows same_columns in (
      λ m. crossing_tells items node all (same.1 m),
      λ h. same.0 (crossing_gives items node all h),
    )
