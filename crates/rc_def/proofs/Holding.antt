-- What holds of what is read of a DEF file so far.
use Rattle.std.proofs.Common.{◌≡◌, ◌∙◌, ◌+◌, ◌≤◌, ◌^◌, ℕ, ℤ, Bool, true, false, cond, List, [], ◌∷◌, ◌++◌, map, length, refl, sym, arith}
use Rattle.std.proofs.lemmas.Int.{ints}
use Rattle.std.proofs.lemmas.List.Elements.{All-nil, All-append, All-head, All-tail, All-push, All-map}
use Rattle.std.proofs.Math.ListN.{length-append}
use Rattle.std.specs.Prelude.{◌&&◌, ◌||◌, ◌<ℤ◌, All, IfSome, IsSome, Option, Some, None, is_some}
use Rattle.std.specs.Int.{int_min, int_max}
use Rattle.std.specs.Ordering.{int_eq}
use Rattle.rc_geom.specs.declared.orient.Orient.{Orient}
use Rattle.rc_geom.specs.declared.rect.Pt.{Pt}
use Rattle.rc_geom.specs.declared.rect.Rect.{Rect}
use Rattle.rc_geom.specs.Split.{IsCoordinate}
use Rattle.rc_keys.specs.Tables.{has_name}
use Rattle.rc_wire.specs.declared.key.Key.{Key}
use Rattle.rc_wire.specs.declared.path.RawPath.{RawPath}
use Rattle.rc_wire.specs.declared.wiring.Wiring.{Wiring}
use Rattle.rc_wire.specs.Forms.{IsLength, IsPoint, IsRegular, IsSpecial, IsPathOf}
use Rattle.rc_wire.specs.Paths.{one_of, point_of}
use Rattle.rc_wire.proofs.Formed.{IsWiring}
use Rattle.rc_def.specs.declared.draft.Draft.{Draft}
use Rattle.rc_def.specs.declared.draft.Enclosure.{Enclosure}
use Rattle.rc_def.specs.declared.draft.LayerWidth.{LayerWidth}
use Rattle.rc_def.specs.declared.draft.Lists.{Lists}
use Rattle.rc_def.specs.declared.draft.NetDraft.{NetDraft}
use Rattle.rc_def.specs.declared.draft.PinDraft.{PinDraft}
use Rattle.rc_def.specs.declared.draft.Units.{Units}
use Rattle.rc_def.specs.declared.draft.ViaDraft.{ViaDraft}
use Rattle.rc_def.specs.declared.draft.ViaLayers.{ViaLayers}
use Rattle.rc_def.specs.declared.item.Section.{Section}
use Rattle.rc_def.specs.declared.item.Section.TheVariants as sections
use Rattle.rc_def.specs.declared.item.Stage.{Stage}
use Rattle.rc_def.specs.Drafts.{no_via, no_pin, no_net}
use Rattle.rc_def.specs.Forms.{IsWidth, IsCount, IsBox, IsMade, IsRawVia, IsRawRule, IsRawComp, IsRawPort, IsRawPin, IsRawNet}
use Rattle.rc_def.specs.Means.{enclosure_of, is_generated, rows_or_1, made_by, made_of, layers_of, via_of, units_of, placement, with_port, pin_of, net_of, with_via_at}
use Rattle.rc_def.specs.Parts.{with_new, first, is_flat, box_between, rect_of, with_rect, pair_of}
use Rattle.rc_def.proofs.Fitting.{inside, in_paths}

-- ---- numbers, points and rectangles

-- a point of two numbers
abbrev pub Both : (ℤ → Type 0) → Pt → Type 0
Both P p = P p.x × P p.y

pub points : (P : ℤ → Type 0) (numbers : List ℤ) → All P numbers → IfSome (point_of numbers) (Both P)
points P (x ∷ y ∷ []) all = let rest = All-tail P x (y ∷ []) all in (All-head P x (y ∷ []) all, All-head P y [] rest)
points P [] all = tt
points P (x ∷ []) all = tt
points P (x ∷ y ∷ z ∷ others) all = tt

pub ones : (P : ℤ → Type 0) (numbers : List ℤ) → All P numbers → IfSome (one_of numbers) P
ones P (z ∷ []) all = All-head P z [] all
ones P [] all = tt
ones P (x ∷ y ∷ others) all = tt

abbrev pub AreEnclosures : Enclosure → Type 0
AreEnclosures e = Both IsLength e.first × Both IsLength e.third

pub enclosures : (numbers : List ℤ) → All IsLength numbers → IfSome (enclosure_of numbers) AreEnclosures
enclosures (x ∷ y ∷ z ∷ w ∷ []) all =
    let a = All-tail IsLength x (y ∷ z ∷ w ∷ []) all in
    let b = All-tail IsLength y (z ∷ w ∷ []) a in
    let c = All-tail IsLength z (w ∷ []) b in
    ((All-head IsLength x (y ∷ z ∷ w ∷ []) all, All-head IsLength y (z ∷ w ∷ []) a), (All-head IsLength z (w ∷ []) b, All-head IsLength w [] c))
enclosures [] all = tt
enclosures (x ∷ []) all = tt
enclosures (x ∷ y ∷ []) all = tt
enclosures (x ∷ y ∷ z ∷ []) all = tt
enclosures (x ∷ y ∷ z ∷ w ∷ u ∷ others) all = tt

either_flat : (a b : Bool) → (a || b) ≡ false → (a ≡ false) × (b ≡ false)
either_flat true b e = absurd cc
either_flat false b e = (refl, e)

least : (a b : ℤ) → IsCoordinate a → IsCoordinate b → IsCoordinate (int_min a b)
least a b p q = let al = p.low in let ah = p.high in let bl = q.low in let bh = q.high in record { low = grind (arith, ints); high = grind (arith, ints) }

greatest : (a b : ℤ) → IsCoordinate a → IsCoordinate b → IsCoordinate (int_max a b)
greatest a b p q = let al = p.low in let ah = p.high in let bl = q.low in let bh = q.high in record { low = grind (arith, ints); high = grind (arith, ints) }

apart : (a b : ℤ) → int_eq a b ≡ false → int_min a b <ℤ int_max a b
apart a b e = grind (arith, ints)

box : (flat : Bool) (p q : Pt) → is_flat p q ≡ flat → IsPoint p → IsPoint q → IfSome (cond flat None (Some (box_between p q))) IsBox
box true p q e a b = tt
box false p q e a b =
    let f = either_flat (int_eq p.x q.x) (int_eq p.y q.y) e in
    record {
      left = least p.x q.x a.x b.x;
      below = least p.y q.y a.y b.y;
      right = greatest p.x q.x a.x b.x;
      above = greatest p.y q.y a.y b.y;
      wide = apart p.x q.x f.0;
      high = apart p.y q.y f.1;
    }

pub boxes : (numbers : List ℤ) → All IsCoordinate numbers → IfSome (rect_of numbers) IsBox
boxes (x ∷ y ∷ z ∷ w ∷ []) all =
    let a = All-tail IsCoordinate x (y ∷ z ∷ w ∷ []) all in
    let b = All-tail IsCoordinate y (z ∷ w ∷ []) a in
    let c = All-tail IsCoordinate z (w ∷ []) b in
    let p : Pt = record { x = x; y = y } in
    let q : Pt = record { x = z; y = w } in
    let low : IsPoint p = record { x = All-head IsCoordinate x (y ∷ z ∷ w ∷ []) all; y = All-head IsCoordinate y (z ∷ w ∷ []) a } in
    let high : IsPoint q = record { x = All-head IsCoordinate z (w ∷ []) b; y = All-head IsCoordinate w [] c } in
    box (is_flat p q) p q refl low high
boxes [] all = tt
boxes (x ∷ []) all = tt
boxes (x ∷ y ∷ []) all = tt
boxes (x ∷ y ∷ z ∷ []) all = tt
boxes (x ∷ y ∷ z ∷ w ∷ u ∷ others) all = tt

-- ---- lists and options

abbrev pub IsBoxed : List ℕ × Rect → Type 0
IsBoxed r = IsBox r.1

pub one_box : (layer : List ℕ) (rect : Option Rect) (rects : List (List ℕ × Rect)) → IfSome rect IsBox → All IsBoxed rects → All IsBoxed (with_rect layer rect rects)
one_box layer None rects is all = all
one_box layer (Some rect) rects is all = All-push IsBoxed rects (layer, rect) all is

pub box_count : (n : ℕ) (layer : List ℕ) (rect : Option Rect) (rects : List (List ℕ × Rect)) → length rects ≤ n → length (with_rect layer rect rects) ≤ n + 1
box_count n layer None rects le = omega arith
box_count n layer (Some rect) rects le = let e = length-append rects ((layer, rect) ∷ []) in omega arith

pub either_one : {A : Type 0} (P : A → Type 0) (before later : Option A) → IfSome before P → IfSome later P → IfSome (first before later) P
either_one P None later p q = q
either_one P (Some x) later p q = p

new_by : {T : Type 0} (P : T → Type 0) (b : Bool) (things : List T) (item : T) → All P things → P item → All P (cond b things (things ++ item ∷ []))
new_by P true things item all is = all
new_by P false things item all is = All-push P things item all is

pub one_new : {T : Type 0} (P : T → Type 0) (called : T → List ℕ) (things : List T) (item : T) → All P things → P item → All P (with_new called things item)
one_new P called things item all is = new_by P (has_name called (called item) things) things item all is

count_by : {T : Type 0} (n : ℕ) (b : Bool) (things : List T) (item : T) → length things ≤ n → length (cond b things (things ++ item ∷ [])) ≤ n + 1
count_by n true things item le = omega arith
count_by n false things item le = let e = length-append things (item ∷ []) in omega arith

pub new_count : {T : Type 0} (n : ℕ) (called : T → List ℕ) (things : List T) (item : T) → length things ≤ n → length (with_new called things item) ≤ n + 1
new_count n called things item le = count_by n (has_name called (called item) things) things item le

-- ---- the parts of what is read. A number counts the tokens so far

abbrev pub IsAbove0 : Units → Type 0
IsAbove0 units = IsWidth units.in_a_micron

pub record HoldLists (n : ℕ) (lists : Lists) : Type 0 where
  pub few : length lists.vias ≤ n
  pub vias : All IsRawVia lists.vias
  pub rules : All IsRawRule lists.rules
  pub comps : All IsRawComp lists.comps
  pub pins : All IsRawPin lists.pins
  pub specials : All (IsRawNet IsSpecial) lists.specials
  pub nets : All (IsRawNet IsRegular) lists.nets

pub record HoldVia (n : ℕ) (via : ViaDraft) : Type 0 where
  pub few : length via.rects ≤ n
  pub rects : All IsBoxed via.rects
  pub cut : IfSome via.cut (Both IsWidth)
  pub spacing : IfSome via.spacing (Both IsLength)
  pub enclosure : IfSome via.enclosure AreEnclosures
  pub rows : IfSome via.rows (Both IsCount)

abbrev pub IsWide : LayerWidth → Type 0
IsWide width = IsWidth width.width

abbrev pub IsPlaced : Pt × Orient → Type 0
IsPlaced at = IsPoint at.0

pub record HoldPin (pin : PinDraft) : Type 0 where
  pub ports : All IsRawPort pin.ports
  pub rects : All IsBoxed pin.rects
  pub at : IfSome pin.at IsPlaced

abbrev pub IsSpot : List ℕ × Orient × Pt → Type 0
IsSpot via = IsPoint via.2

pub record HoldNet (n : ℕ) (net : NetDraft) : Type 0 where
  pub few : length net.conns ≤ n
  pub rects : All IsBoxed net.rects
  pub vias : All IsSpot net.vias

abbrev pub is_special : Section → Bool
is_special sections.Specials = true
is_special _ = false

abbrev pub ByKind : Section → List RawPath → Type 0
ByKind sections.Specials paths = All IsSpecial paths
ByKind sections.Nets paths = All IsRegular paths
ByKind _ paths = Unit {0}

pub record Holds (n : ℕ) (units : Option Units) (lists : Lists) (via : ViaDraft) (widths : List LayerWidth) (at : Option (Pt × Orient)) (pin : PinDraft) (net : NetDraft) (stage : Stage) (section : Section) (wiring : Wiring) : Type 0 where
  pub units_is : IfSome units IsAbove0
  pub lists_is : HoldLists n lists
  pub via_is : HoldVia n via
  pub widths_is : All IsWide widths
  pub at_is : IfSome at IsPlaced
  pub pin_is : HoldPin pin
  pub net_is : HoldNet n net
  pub paths_is : inside stage ≡ true → ByKind section net.paths
  pub wiring_is : IsWiring wiring
  pub kind_is : in_paths stage ≡ true → wiring.is_wide ≡ is_special section

abbrev pub IsDraft : ℕ → Draft → Type 0
IsDraft n v = Holds n v.header.units v.lists v.via v.widths v.at v.pin v.net v.stage v.section v.wiring

-- ---- more tokens

more_lists : (n m : ℕ) (lists : Lists) → n ≤ m → HoldLists n lists → HoldLists m lists
more_lists n m lists le h = record { few = (let f = h.few in omega arith); vias = h.vias; rules = h.rules; comps = h.comps; pins = h.pins; specials = h.specials; nets = h.nets }

pub more_via : (n m : ℕ) (via : ViaDraft) → n ≤ m → HoldVia n via → HoldVia m via
more_via n m via le h = record { few = (let f = h.few in omega arith); rects = h.rects; cut = h.cut; spacing = h.spacing; enclosure = h.enclosure; rows = h.rows }

pub more_net : (n m : ℕ) (net : NetDraft) → n ≤ m → HoldNet n net → HoldNet m net
more_net n m net le h = record { few = (let f = h.few in omega arith); rects = h.rects; vias = h.vias }

pub grown : (n m : ℕ) (v : Draft) → n ≤ m → IsDraft n v → IsDraft m v
grown n m v le h = record {
  units_is = h.units_is;
  lists_is = more_lists n m v.lists le h.lists_is;
  via_is = more_via n m v.via le h.via_is;
  widths_is = h.widths_is;
  at_is = h.at_is;
  pin_is = h.pin_is;
  net_is = more_net n m v.net le h.net_is;
  paths_is = h.paths_is;
  wiring_is = h.wiring_is;
  kind_is = h.kind_is;
}

-- ---- another part

module _ (n : ℕ) (v : Draft) (h : IsDraft n v) where
  pub put_units : (units : Option Units) → IfSome units IsAbove0 → IsDraft n (record v { header = record v.header { units = units } })
  put_units units is = record { units_is = is; lists_is = h.lists_is; via_is = h.via_is; widths_is = h.widths_is; at_is = h.at_is; pin_is = h.pin_is; net_is = h.net_is; paths_is = h.paths_is; wiring_is = h.wiring_is; kind_is = h.kind_is }

  pub put_lists : (lists : Lists) → HoldLists n lists → IsDraft n (record v { lists = lists })
  put_lists lists is = record { units_is = h.units_is; lists_is = is; via_is = h.via_is; widths_is = h.widths_is; at_is = h.at_is; pin_is = h.pin_is; net_is = h.net_is; paths_is = h.paths_is; wiring_is = h.wiring_is; kind_is = h.kind_is }

  pub put_via : (via : ViaDraft) → HoldVia n via → IsDraft n (record v { via = via })
  put_via via is = record { units_is = h.units_is; lists_is = h.lists_is; via_is = is; widths_is = h.widths_is; at_is = h.at_is; pin_is = h.pin_is; net_is = h.net_is; paths_is = h.paths_is; wiring_is = h.wiring_is; kind_is = h.kind_is }

  pub put_widths : (widths : List LayerWidth) → All IsWide widths → IsDraft n (record v { widths = widths })
  put_widths widths is = record { units_is = h.units_is; lists_is = h.lists_is; via_is = h.via_is; widths_is = is; at_is = h.at_is; pin_is = h.pin_is; net_is = h.net_is; paths_is = h.paths_is; wiring_is = h.wiring_is; kind_is = h.kind_is }

  pub put_at : (at : Option (Pt × Orient)) → IfSome at IsPlaced → IsDraft n (record v { at = at })
  put_at at is = record { units_is = h.units_is; lists_is = h.lists_is; via_is = h.via_is; widths_is = h.widths_is; at_is = is; pin_is = h.pin_is; net_is = h.net_is; paths_is = h.paths_is; wiring_is = h.wiring_is; kind_is = h.kind_is }

  pub put_pin : (pin : PinDraft) → HoldPin pin → IsDraft n (record v { pin = pin })
  put_pin pin is = record { units_is = h.units_is; lists_is = h.lists_is; via_is = h.via_is; widths_is = h.widths_is; at_is = h.at_is; pin_is = is; net_is = h.net_is; paths_is = h.paths_is; wiring_is = h.wiring_is; kind_is = h.kind_is }

  pub put_net : (net : NetDraft) → HoldNet n net → (inside v.stage ≡ true → ByKind v.section net.paths) → IsDraft n (record v { net = net })
  put_net net is paths = record { units_is = h.units_is; lists_is = h.lists_is; via_is = h.via_is; widths_is = h.widths_is; at_is = h.at_is; pin_is = h.pin_is; net_is = is; paths_is = paths; wiring_is = h.wiring_is; kind_is = h.kind_is }

  pub put_wiring : (stage : Stage) (wiring : Wiring) → IsWiring wiring → (inside stage ≡ true → ByKind v.section v.net.paths) → (in_paths stage ≡ true → wiring.is_wide ≡ is_special v.section) → IsDraft n (record v { wiring = wiring; stage = stage })
  put_wiring stage wiring is paths kind = record { units_is = h.units_is; lists_is = h.lists_is; via_is = h.via_is; widths_is = h.widths_is; at_is = h.at_is; pin_is = h.pin_is; net_is = h.net_is; paths_is = paths; wiring_is = is; kind_is = kind }

  -- what may stand next isn't about paths
  pub at_stage : (stage : Stage) → in_paths stage ≡ false → (inside stage ≡ true → ByKind v.section v.net.paths) → IsDraft n (record v { stage = stage })
  at_stage stage e paths = put_wiring stage v.wiring h.wiring_is paths (λ f. let g : true ≡ false = sym f ∙ e in absurd cc)

  pub goes_on : (stage : Stage) → in_paths stage ≡ false → inside v.stage ≡ true → IsDraft n (record v { stage = stage })
  goes_on stage e s = at_stage stage e (λ f. h.paths_is s)

  -- outside entries the section may change
  pub goes_out : (stage : Stage) (section : Section) → in_paths stage ≡ false → inside stage ≡ false → IsDraft n (record v { stage = stage; section = section })
  goes_out stage section e f = record {
    units_is = h.units_is;
    lists_is = h.lists_is;
    via_is = h.via_is;
    widths_is = h.widths_is;
    at_is = h.at_is;
    pin_is = h.pin_is;
    net_is = h.net_is;
    paths_is = λ g. let d : true ≡ false = sym g ∙ f in absurd cc;
    wiring_is = h.wiring_is;
    kind_is = λ g. let d : true ≡ false = sym g ∙ e in absurd cc;
  }

-- ---- nothing

pub nothing_via : (n : ℕ) → HoldVia n no_via
nothing_via n = record { few = omega arith; rects = All-nil IsBoxed; cut = tt; spacing = tt; enclosure = tt; rows = tt }

pub nothing_pin : HoldPin no_pin
nothing_pin = record { ports = All-nil IsRawPort; rects = All-nil IsBoxed; at = tt }

pub nothing_net : (n : ℕ) → HoldNet n no_net
nothing_net n = record { few = omega arith; rects = All-nil IsBoxed; vias = All-nil IsSpot }

pub nothing_kind : (section : Section) → ByKind section []
nothing_kind sections.Specials = All-nil IsSpecial
nothing_kind sections.Nets = All-nil IsRegular
nothing_kind sections.Vias = tt
nothing_kind sections.Rules = tt
nothing_kind sections.Comps = tt
nothing_kind sections.Pins = tt

-- further paths of the section's kind
pub more_paths : (section : Section) (is_wide : Bool) (before later : List RawPath) → is_wide ≡ is_special section → ByKind section before → All (IsPathOf is_wide) later → ByKind section (before ++ later)
more_paths sections.Specials true before later e p q = All-append IsSpecial before later p q
more_paths sections.Specials false before later e p q = absurd cc
more_paths sections.Nets false before later e p q = All-append IsRegular before later p q
more_paths sections.Nets true before later e p q = absurd cc
more_paths sections.Vias is_wide before later e p q = tt
more_paths sections.Rules is_wide before later e p q = tt
more_paths sections.Comps is_wide before later e p q = tt
more_paths sections.Pins is_wide before later e p q = tt

-- ---- entries

rects_or_none : (generated : Bool) (rects : List (List ℕ × Rect)) → All IsBoxed rects → All IsBoxed (cond generated [] rects)
rects_or_none true rects all = All-nil IsBoxed
rects_or_none false rects all = all

count_or_none : (n : ℕ) (generated : Bool) (rects : List (List ℕ × Rect)) → length rects ≤ n → length (cond generated [] rects) ≤ n
count_or_none n true rects le = omega arith
count_or_none n false rects le = le

one_row : (rows : Option Pt) → IfSome rows (Both IsCount) → Both IsCount (rows_or_1 rows)
one_row (Some rows) is = is
one_row None is = (record { low = omega (arith, ints); high = omega (arith, ints) }, record { low = omega (arith, ints); high = omega (arith, ints) })

makes : (b : Bool) (cut spacing : Option Pt) (enclosure : Option Enclosure) (rows : Pt) → IfSome cut (Both IsWidth) → IfSome spacing (Both IsLength) → IfSome enclosure AreEnclosures → Both IsCount rows → IfSome (made_by b cut spacing enclosure rows) IsMade
makes true (Some cut) (Some spacing) (Some enclosure) rows c s e r = (c.0, c.1, s.0, s.1, e.0.0, e.0.1, e.1.0, e.1.1, r.0, r.1)
makes true (Some cut) (Some spacing) None rows c s e r = tt
makes true (Some cut) None enclosure rows c s e r = tt
makes true None spacing enclosure rows c s e r = tt
makes false cut spacing enclosure rows c s e r = tt

made_with : (b : Bool) (cut spacing : Option Pt) (enclosure : Option Enclosure) (rows : Pt) → IsSome (made_by b cut spacing enclosure rows) → b ≡ true
made_with true cut spacing enclosure rows is = refl
made_with false cut spacing enclosure rows is = absurd cc

last_of : (a b : Bool) → (a && b) ≡ true → b ≡ true
last_of true b e = e
last_of false b e = absurd cc

three : (layers : Option ViaLayers) → is_some layers ≡ true → length (layers_of layers) ≡ 3
three (Some layers) e = refl
three None e = absurd cc

pub via_is_raw : (n : ℕ) (name : List ℕ) (line : ℕ) (via : ViaDraft) → n ≤ 2 ^ 30 → HoldVia n via → IsRawVia (via_of name line via)
unfolding via_of made_of
via_is_raw n name line via le h = record {
  few = (let f = count_or_none n (is_generated via) via.rects h.few in omega arith);
  rects = rects_or_none (is_generated via) via.rects h.rects;
  made = makes (via.has_rule && is_some via.layers) via.cut via.spacing via.enclosure (rows_or_1 via.rows) h.cut h.spacing h.enclosure (one_row via.rows h.rows);
  layers = λ is. three via.layers (last_of via.has_rule (is_some via.layers) (made_with (via.has_rule && is_some via.layers) via.cut via.spacing via.enclosure (rows_or_1 via.rows) is));
}

pub widths_are_raw : (widths : List LayerWidth) → All IsWide widths → All (λ w. IsWidth w.1) (map pair_of widths)
widths_are_raw widths all = All-map (λ (w : List ℕ × ℤ). IsWidth w.1) pair_of widths all

port_by : (is_open : Bool) (pin : PinDraft) → pin.is_open ≡ is_open → HoldPin pin → HoldPin (cond is_open (record pin { ports = pin.ports ++ record { rects = pin.rects; at = pin.at } ∷ []; rects = []; at = None; is_open = false }) pin)
port_by true pin e h = record { ports = All-push IsRawPort pin.ports (record { rects = pin.rects; at = pin.at }) h.ports (record { rects = h.rects; at = h.at }); rects = All-nil IsBoxed; at = tt }
port_by false pin e h = h

pub port_holds : (pin : PinDraft) → HoldPin pin → HoldPin (with_port pin)
port_holds pin h = port_by pin.is_open pin refl h

pub pin_is_raw : (name : List ℕ) (line : ℕ) (pin : PinDraft) → HoldPin pin → IsRawPin (pin_of name line pin)
unfolding pin_of
pin_is_raw name line pin h = record { ports = (port_holds pin h).ports }

pub net_is_raw : (P : RawPath → Type 0) (n : ℕ) (name : List ℕ) (line : ℕ) (net : NetDraft) → n ≤ 2 ^ 30 → HoldNet n net → All P net.paths → IsRawNet P (net_of name line net)
unfolding net_of
net_is_raw P n name line net le h paths = record { few = (let f = h.few in omega arith); paths = paths; rects = h.rects; vias = h.vias }

-- ---- options

pub place_holds : (at : Option Pt) (key : Key) → IfSome at (Both IsCoordinate) → IfSome (placement at key) IsPlaced
place_holds None key is = tt
place_holds (Some at) key is = record { x = is.0; y = is.1 }

pub units_hold : (number : Option ℤ) (line : ℕ) → IfSome number IsWidth → IfSome (units_of number line) IsAbove0
units_hold None line is = tt
units_hold (Some z) line is = is

pub spot_holds : (n : ℕ) (at : Option Pt) (net : NetDraft) → IfSome at (Both IsCoordinate) → HoldNet n net → HoldNet n (with_via_at at net)
spot_holds n None net is h = h
spot_holds n (Some at) net is h = record { few = h.few; rects = h.rects; vias = All-push IsSpot net.vias (net.via, net.orient, at) h.vias (record { x = is.0; y = is.1 }) }

pub same_paths : (at : Option Pt) (net : NetDraft) → (with_via_at at net).paths ≡ net.paths
same_paths None net = refl
same_paths (Some at) net = refl
