-- What the statements of a VIA say lies in its ranges, and so does the via.
use Rattle.std.proofs.Common.{◌≡◌, ◌≤◌, ◌≤ℤ◌, ℕ, ℤ, Bool, true, false, cond, List, [], ◌∷◌, refl, ap, arith}
use Rattle.std.specs.Prelude.{Option, Some, None, Ok, Err, All, IfSome, pos, int_lt, unsigned_abs}
use Rattle.std.proofs.lemmas.Int.{ints}
use Rattle.std.proofs.lemmas.List.Elements.{All-nil, All-cons, All-head, All-tail, All-append}
use Rattle.rc_fixed.specs.Numeral.{whole_of}
use Rattle.rc_geom.specs.declared.rect.Pt.{Pt}
use Rattle.rc_geom.specs.declared.rect.Rect.{Rect}
use Rattle.rc_keys.specs.declared.code.Code.TheVariants.{E03, E05}
use Rattle.rc_keys.specs.Lexemes.{Lexeme}
use Rattle.rc_lef.specs.declared.key.Key.TheVariants as keys
use Rattle.rc_lef.specs.declared.state.ViaDraft.{ViaDraft}
use Rattle.rc_lef.specs.declared.tech.Layer.{Layer}
use Rattle.rc_lef.specs.declared.tech.LayerKind.{LayerKind}
use Rattle.rc_lef.specs.declared.units.Units.{Units}
use Rattle.rc_lef.specs.Keys.{key_of, is_name, is_quoted}
use Rattle.rc_lef.specs.Facts.{IsPoint, IsShape, IsVia}
use Rattle.rc_lef.specs.Lengths.{count_of, count_read}
use Rattle.rc_lef.specs.Moves.{first, or_else}
use Rattle.rc_lef.specs.Numbers.{rect_of, on_layer, rect_in_via}
use Rattle.rc_lef.specs.Operands.{or_malformed, is_named, kind_named, or_unknown}
use Rattle.rc_lef.specs.Phrases.{Part, Word, semicolon, LayerOf, Coordinate, Size, Distance, Whole, Count, Says, Are}
use Rattle.rc_lef.specs.Technology.{Technology}
use Rattle.rc_lef.specs.ViaBlock.{ViaParts, ViaStatement, Default, TopOfStackOnly, OnLayer, Rect as RectStatement, MaskedRect, Rule, CutSize, Layers, CutSpacing, Enclosure, RowCol, Unusable, Other}
use Rattle.rc_lef.specs.Vias.{is_generated, array_of, rows_or_1, generated, via_of}
use Rattle.rc_lef.specs.Usable as usable
use Rattle.rc_lef.proofs.Shapes.{coordinate_near, size_near, distance_near, head_said, tail_said, shape_between}
use Rattle.rc_lef.proofs.UsableVias.{IsThere, IsDrawnThere, IsArray, drawn_is_via, made_is_via}

-- ---- the first one counts

pub first_keeps : {A : Type 0} (P : A → Type 0) (earlier : Option A) (later : A) → IfSome earlier P → P later → IfSome (first earlier later) P
first_keeps P (Some a) later p q = p
first_keeps P None later p q = q

pub or_else_keeps : {A : Type 0} (P : A → Type 0) (earlier : Option A) (later : A) → IfSome earlier P → P later → IfSome (or_else earlier (Some later)) P
or_else_keeps P (Some a) later p q = p
or_else_keeps P None later p q = q

-- ---- the kind of a named layer

pub kind_is : (P : LayerKind → Type 0) (name : List ℕ) (layers : List Layer) (kind : LayerKind) → All (λ (layer : Layer). P layer.kind) layers → kind_named name layers ≡ Some kind → P kind
kind_is P name [] kind all is = absurd cc
kind_is P name (layer ∷ layers) kind all is = by (is_named name layer) (kind_is P name layers kind (All-tail (λ (layer : Layer). P layer.kind) layer layers all)) is
  where
    by : (t : Bool) → (kind_named name layers ≡ Some kind → P kind) → cond t (Some layer.kind) (kind_named name layers) ≡ Some kind → P kind
    by true other e = let same : layer.kind ≡ kind = cc in rw (← same) (All-head (λ (layer : Layer). P layer.kind) layer layers all)
    by false other e = other e

found : (kind : Option LayerKind) (t : Bool) (k : LayerKind) → cond t (or_unknown kind) (Err E03) ≡ Ok k → kind ≡ Some k
found (Some kind) true k is = let e : kind ≡ k = cc in ap (λ k. Some k) e
found None true k is = absurd cc
found kind false k is = absurd cc

pub layer_said : (P : LayerKind → Type 0) (layers : List Layer) (kind : LayerKind) (word : Lexeme) → All (λ (layer : Layer). P layer.kind) layers → Says (LayerOf layers kind) word → P kind
layer_said P layers kind word all is = kind_is P word.bytes layers kind all (found (kind_named word.bytes layers) (is_name (key_of word)) kind is)

-- ---- numbers of statements

-- four coordinates
pub corners_near : (u : Option Units) (x1 y1 x2 y2 : ℤ) (rest : List Part) (words : List Lexeme) → Are (Coordinate u x1 ∷ Coordinate u y1 ∷ Coordinate u x2 ∷ Coordinate u y2 ∷ rest) words
    → IsPoint (record { x = x1; y = y1 }) × IsPoint (record { x = x2; y = y2 })
corners_near u x1 y1 x2 y2 rest words are =
    let a = head_said (Coordinate u x1) (Coordinate u y1 ∷ Coordinate u x2 ∷ Coordinate u y2 ∷ rest) words are in
    let r1 = tail_said (Coordinate u x1) (Coordinate u y1 ∷ Coordinate u x2 ∷ Coordinate u y2 ∷ rest) words are in
    let b = head_said (Coordinate u y1) (Coordinate u x2 ∷ Coordinate u y2 ∷ rest) r1.0 r1.1 in
    let r2 = tail_said (Coordinate u y1) (Coordinate u x2 ∷ Coordinate u y2 ∷ rest) r1.0 r1.1 in
    let c = head_said (Coordinate u x2) (Coordinate u y2 ∷ rest) r2.0 r2.1 in
    let r3 = tail_said (Coordinate u x2) (Coordinate u y2 ∷ rest) r2.0 r2.1 in
    let d = head_said (Coordinate u y2) rest r3.0 r3.1 in
    (record { x = coordinate_near u x1 a.0 a.1; y = coordinate_near u y1 b.0 b.1 }, record { x = coordinate_near u x2 c.0 c.1; y = coordinate_near u y2 d.0 d.1 })

-- two numbers of one kind
pub two_said : (P Q : Part) (rest : List Part) (words : List Lexeme) → Are (P ∷ Q ∷ rest) words → ((w : Lexeme) × Says P w) × ((w : Lexeme) × Says Q w) × ((more : List Lexeme) × Are rest more)
two_said P Q rest words are =
    let r1 = tail_said P (Q ∷ rest) words are in
    (head_said P (Q ∷ rest) words are, head_said Q rest r1.0 r1.1, tail_said Q rest r1.0 r1.1)

-- how many rows or columns there are
count_some : (o : Option ℤ) (n : ℕ) → count_of o ≡ Some n → 1 ≤ n
count_some None n is = absurd cc
count_some (Some z) n is = by (int_lt z (pos 1)) (int_lt (pos 1024) z) refl is
  where
    by : (s t : Bool) → int_lt z (pos 1) ≡ s → cond s None (cond t None (Some (unsigned_abs z))) ≡ Some n → 1 ≤ n
    by true t test e = absurd cc
    by false true test e = absurd cc
    by false false test e = let same : unsigned_abs z ≡ n = cc in rw (← same) (grind (arith, ints))

count_said : (n : ℕ) (word : Lexeme) → Says (Count n) word → 1 ≤ n
unfolding count_read
count_said n word is = by (is_quoted (key_of word)) (count_of (whole_of word.bytes)) refl is
  where
    by : (t : Bool) (o : Option ℕ) → count_of (whole_of word.bytes) ≡ o → cond t (Err E05) (or_malformed o) ≡ Ok n → 1 ≤ n
    by true o same e = absurd cc
    by false None same e = absurd cc
    by false (Some m) same e = let equal : m ≡ n = cc in count_some (whole_of word.bytes) n (rw equal at same)

-- ---- what the statements of a VIA say, where there are so many routing and so many cut layers

pub record IsDraft (routing cuts : ℕ) (via : ViaDraft) : Type 0 where
  pub layer : IfSome via.layer (IsThere routing cuts)
  pub rects : All (IsDrawnThere routing cuts) via.rects
  pub cut_size : IfSome via.cut_size (λ size. (pos 1 ≤ℤ size.x) × (pos 1 ≤ℤ size.y))
  pub layers : IfSome via.layers (λ l. IsThere routing cuts l.0 × IsThere routing cuts l.1 × IsThere routing cuts l.2)
  pub spacing : IfSome via.spacing (λ space. (pos 0 ≤ℤ space.x) × (pos 0 ≤ℤ space.y))
  pub enclosure : IfSome via.enclosure (λ e. ((pos 0 ≤ℤ e.0.x) × (pos 0 ≤ℤ e.0.y)) × ((pos 0 ≤ℤ e.1.x) × (pos 0 ≤ℤ e.1.y)))
  pub counts : IfSome via.rows_columns (λ n. (1 ≤ n.0) × (1 ≤ n.1))

drawn : (routing cuts : ℕ) (kind : Option LayerKind) (rect : Option Rect) → IfSome kind (IsThere routing cuts) → ((r : Rect) → rect ≡ Some r → IsShape r) → All (IsDrawnThere routing cuts) (on_layer kind rect)
drawn routing cuts (Some kind) (Some rect) there shape = All-cons (IsDrawnThere routing cuts) (kind, rect) [] (there, (let s = shape rect refl in (s.wide, s.high))) (All-nil (IsDrawnThere routing cuts))
drawn routing cuts (Some kind) None there shape = All-nil (IsDrawnThere routing cuts)
drawn routing cuts None rect there shape = All-nil (IsDrawnThere routing cuts)

with_rect : (routing cuts : ℕ) (via : ViaDraft) (x1 y1 x2 y2 : ℤ) → IsPoint (record { x = x1; y = y1 }) × IsPoint (record { x = x2; y = y2 }) → IsDraft routing cuts via → IsDraft routing cuts (rect_in_via via (x1 ∷ y1 ∷ x2 ∷ y2 ∷ []))
with_rect routing cuts via x1 y1 x2 y2 near d = record {
  layer = d.layer;
  rects = All-append (IsDrawnThere routing cuts) via.rects (on_layer via.layer (rect_of (x1 ∷ y1 ∷ x2 ∷ y2 ∷ []))) d.rects
      (drawn routing cuts via.layer (rect_of (x1 ∷ y1 ∷ x2 ∷ y2 ∷ [])) d.layer (λ r is. shape_between (record { x = x1; y = y1 }) (record { x = x2; y = y2 }) r near.0 near.1 is));
  cut_size = d.cut_size;
  layers = d.layers;
  spacing = d.spacing;
  enclosure = d.enclosure;
  counts = d.counts;
}

pub via_keeps : (routing cuts : ℕ) (tech : Technology) → All (λ (layer : Layer). IsThere routing cuts layer.kind) tech.layers → (before after : ViaParts) (words : List Lexeme) → ViaStatement tech before words after → IsDraft routing cuts before.via → IsDraft routing cuts after.via
via_keeps r c tech there before after words (Default are may same) d = rw same d
via_keeps r c tech there before after words (TopOfStackOnly are may same) d = rw same d
via_keeps r c tech there before after words (OnLayer kind are same) d =
    let rest = tail_said (Word keys.Layer) (LayerOf tech.layers kind ∷ semicolon ∷ []) words are in
    let name = head_said (LayerOf tech.layers kind) (semicolon ∷ []) rest.0 rest.1 in
    rw same (record { layer = layer_said (IsThere r c) tech.layers kind name.0 there name.1; rects = d.rects; cut_size = d.cut_size; layers = d.layers; spacing = d.spacing; enclosure = d.enclosure; counts = d.counts })
via_keeps r c tech there before after words (RectStatement x1 y1 x2 y2 are plain on same) d =
    let u = tech.units in
    let rest = tail_said (Word keys.Rect) (Coordinate u x1 ∷ Coordinate u y1 ∷ Coordinate u x2 ∷ Coordinate u y2 ∷ semicolon ∷ []) words are in
    rw same (with_rect r c before.via x1 y1 x2 y2 (corners_near u x1 y1 x2 y2 (semicolon ∷ []) rest.0 rest.1) d)
via_keeps r c tech there before after words (MaskedRect x1 y1 x2 y2 are on same) d =
    let u = tech.units in
    let corners : List Part = Coordinate u x1 ∷ Coordinate u y1 ∷ Coordinate u x2 ∷ Coordinate u y2 ∷ semicolon ∷ [] in
    let mask = tail_said (Word keys.Rect) (Word keys.Mask ∷ Whole ∷ corners) words are in
    let number = two_said (Word keys.Mask) Whole corners mask.0 mask.1 in
    rw same (with_rect r c before.via x1 y1 x2 y2 (corners_near u x1 y1 x2 y2 (semicolon ∷ []) number.2.0 number.2.1) d)
via_keeps r c tech there before after words (Rule are same) d = rw same (record { layer = d.layer; rects = d.rects; cut_size = d.cut_size; layers = d.layers; spacing = d.spacing; enclosure = d.enclosure; counts = d.counts })
via_keeps r c tech there before after words (CutSize cx cy are same) d =
    let u = tech.units in
    let rest = tail_said (Word keys.CutSize) (Size u cx ∷ Size u cy ∷ semicolon ∷ []) words are in
    let sizes = two_said (Size u cx) (Size u cy) (semicolon ∷ []) rest.0 rest.1 in
    let some : (pos 1 ≤ℤ cx) × (pos 1 ≤ℤ cy) = ((size_near u cx sizes.0.0 sizes.0.1).0, (size_near u cy sizes.1.0 sizes.1.1).0) in
    rw same (record {
      layer = d.layer;
      rects = d.rects;
      cut_size = or_else_keeps (λ (size : Pt). (pos 1 ≤ℤ size.x) × (pos 1 ≤ℤ size.y)) before.via.cut_size (record { x = cx; y = cy }) d.cut_size some;
      layers = d.layers;
      spacing = d.spacing;
      enclosure = d.enclosure;
      counts = d.counts;
    })
via_keeps r c tech there before after words (Layers l1 l2 l3 are same) d =
    let ls = tech.layers in
    let rest = tail_said (Word keys.Layers) (LayerOf ls l1 ∷ LayerOf ls l2 ∷ LayerOf ls l3 ∷ semicolon ∷ []) words are in
    let two = two_said (LayerOf ls l1) (LayerOf ls l2) (LayerOf ls l3 ∷ semicolon ∷ []) rest.0 rest.1 in
    let third = head_said (LayerOf ls l3) (semicolon ∷ []) two.2.0 two.2.1 in
    let all : IsThere r c l1 × IsThere r c l2 × IsThere r c l3 = (layer_said (IsThere r c) ls l1 two.0.0 there two.0.1, layer_said (IsThere r c) ls l2 two.1.0 there two.1.1, layer_said (IsThere r c) ls l3 third.0 there third.1) in
    rw same (record {
      layer = d.layer;
      rects = d.rects;
      cut_size = d.cut_size;
      layers = first_keeps (λ (l : LayerKind × LayerKind × LayerKind). IsThere r c l.0 × IsThere r c l.1 × IsThere r c l.2) before.via.layers (l1, l2, l3) d.layers all;
      spacing = d.spacing;
      enclosure = d.enclosure;
      counts = d.counts;
    })
via_keeps r c tech there before after words (CutSpacing sx sy are same) d =
    let u = tech.units in
    let rest = tail_said (Word keys.CutSpacing) (Distance u sx ∷ Distance u sy ∷ semicolon ∷ []) words are in
    let two = two_said (Distance u sx) (Distance u sy) (semicolon ∷ []) rest.0 rest.1 in
    let least : (pos 0 ≤ℤ sx) × (pos 0 ≤ℤ sy) = (distance_near u sx two.0.0 two.0.1, distance_near u sy two.1.0 two.1.1) in
    rw same (record {
      layer = d.layer;
      rects = d.rects;
      cut_size = d.cut_size;
      layers = d.layers;
      spacing = or_else_keeps (λ (space : Pt). (pos 0 ≤ℤ space.x) × (pos 0 ≤ℤ space.y)) before.via.spacing (record { x = sx; y = sy }) d.spacing least;
      enclosure = d.enclosure;
      counts = d.counts;
    })
via_keeps r c tech there before after words (Enclosure bx by_ tx ty are same) d =
    let u = tech.units in
    let rest = tail_said (Word keys.Enclosure) (Distance u bx ∷ Distance u by_ ∷ Distance u tx ∷ Distance u ty ∷ semicolon ∷ []) words are in
    let low = two_said (Distance u bx) (Distance u by_) (Distance u tx ∷ Distance u ty ∷ semicolon ∷ []) rest.0 rest.1 in
    let high = two_said (Distance u tx) (Distance u ty) (semicolon ∷ []) low.2.0 low.2.1 in
    let least : ((pos 0 ≤ℤ bx) × (pos 0 ≤ℤ by_)) × ((pos 0 ≤ℤ tx) × (pos 0 ≤ℤ ty)) =
    ((distance_near u bx low.0.0 low.0.1, distance_near u by_ low.1.0 low.1.1), (distance_near u tx high.0.0 high.0.1, distance_near u ty high.1.0 high.1.1)) in
    rw same (record {
      layer = d.layer;
      rects = d.rects;
      cut_size = d.cut_size;
      layers = d.layers;
      spacing = d.spacing;
      enclosure = or_else_keeps (λ (e : Pt × Pt). ((pos 0 ≤ℤ e.0.x) × (pos 0 ≤ℤ e.0.y)) × ((pos 0 ≤ℤ e.1.x) × (pos 0 ≤ℤ e.1.y))) before.via.enclosure (record { x = bx; y = by_ }, record { x = tx; y = ty }) d.enclosure least;
      counts = d.counts;
    })
via_keeps r c tech there before after words (RowCol rows columns are same) d =
    let rest = tail_said (Word keys.RowCol) (Count rows ∷ Count columns ∷ semicolon ∷ []) words are in
    let two = two_said (Count rows) (Count columns) (semicolon ∷ []) rest.0 rest.1 in
    let some : (1 ≤ rows) × (1 ≤ columns) = (count_said rows two.0.0 two.0.1, count_said columns two.1.0 two.1.1) in
    rw same (record {
      layer = d.layer;
      rects = d.rects;
      cut_size = d.cut_size;
      layers = d.layers;
      spacing = d.spacing;
      enclosure = d.enclosure;
      counts = first_keeps (λ (n : ℕ × ℕ). (1 ≤ n.0) × (1 ≤ n.1)) before.via.rows_columns (rows, columns) d.counts some;
    })
via_keeps r c tech there before after words (Unusable begins over same) d = rw same (record { layer = d.layer; rects = d.rects; cut_size = d.cut_size; layers = d.layers; spacing = d.spacing; enclosure = d.enclosure; counts = d.counts })
via_keeps r c tech there before after words (Other is same) d = rw same d

-- ---- the via

array_is : (cut space : Pt) (e : Pt × Pt) (counts : Option (ℕ × ℕ)) → (pos 1 ≤ℤ cut.x) × (pos 1 ≤ℤ cut.y) → (pos 0 ≤ℤ space.x) × (pos 0 ≤ℤ space.y) → ((pos 0 ≤ℤ e.0.x) × (pos 0 ≤ℤ e.0.y)) × ((pos 0 ≤ℤ e.1.x) × (pos 0 ≤ℤ e.1.y))
    → IfSome counts (λ n. (1 ≤ n.0) × (1 ≤ n.1)) → IsArray (array_of cut space e (rows_or_1 counts))
array_is cut space e (Some n) cuts spaces ends some = record { cut_x = cuts.0; cut_y = cuts.1; space_x = spaces.0; space_y = spaces.1; first_x = ends.0.0; first_y = ends.0.1; third_x = ends.1.0; third_y = ends.1.1; rows = (let a = some.0 in omega (arith, ints, a)); columns = (let b = some.1 in omega (arith, ints, b)) }
array_is cut space e None cuts spaces ends some = record { cut_x = cuts.0; cut_y = cuts.1; space_x = spaces.0; space_y = spaces.1; first_x = ends.0.0; first_y = ends.0.1; third_x = ends.1.0; third_y = ends.1.1; rows = omega (arith, ints); columns = omega (arith, ints) }

generated_is_via : (r c : ℕ) (name : List ℕ) (plain : Bool) (counts : Option (ℕ × ℕ)) (rule : Bool) (cut : Option Pt) (layers : Option (LayerKind × LayerKind × LayerKind)) (space : Option Pt) (enclosure : Option (Pt × Pt))
    → IfSome counts (λ n. (1 ≤ n.0) × (1 ≤ n.1)) → IfSome cut (λ size. (pos 1 ≤ℤ size.x) × (pos 1 ≤ℤ size.y)) → IfSome layers (λ l. IsThere r c l.0 × IsThere r c l.1 × IsThere r c l.2) → IfSome space (λ s. (pos 0 ≤ℤ s.x) × (pos 0 ≤ℤ s.y))
    → IfSome enclosure (λ e. ((pos 0 ≤ℤ e.0.x) × (pos 0 ≤ℤ e.0.y)) × ((pos 0 ≤ℤ e.1.x) × (pos 0 ≤ℤ e.1.y))) → IsVia r c (generated name plain counts rule cut layers space enclosure)
generated_is_via r c name plain counts true (Some cut) (Some layers) (Some space) (Some enclosure) some cuts there spaces ends =
    made_is_via r c name plain layers.0 layers.1 layers.2 (array_of cut space enclosure (rows_or_1 counts)) there.0 there.1 there.2 (array_is cut space enclosure counts cuts spaces ends some)
generated_is_via r c name plain counts _ _ _ _ _ some cuts there spaces ends = λ is. absurd cc

pub draft_is_via : (r c : ℕ) (name : List ℕ) (via : ViaDraft) → IsDraft r c via → IsVia r c (via_of name via)
unfolding via_of
draft_is_via r c name via d = by (is_generated via)
  where
    by : (t : Bool) → IsVia r c (cond t (generated name via.is_plain via.rows_columns via.has_rule via.cut_size via.layers via.spacing via.enclosure) (usable.drawn_via name via.is_plain via.rects))
    by true = generated_is_via r c name via.is_plain via.rows_columns via.has_rule via.cut_size via.layers via.spacing via.enclosure d.counts d.cut_size d.layers d.spacing d.enclosure
    by false = drawn_is_via r c name via.is_plain via.rects d.rects
