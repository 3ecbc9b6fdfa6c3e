-- Each via and each patch of a path keeps the facts of what is drawn.
use Rattle.std.proofs.Common.{◌≡◌, ◌∙◌, ◌⊎◌, inl, inr, ℕ, ◌<◌, Bool, true, false, List, [], ◌∷◌, ◌++◌, refl, sym, ap, subst, arith}
use Rattle.std.proofs.lemmas.List.Elements.{All-nil, All-cons, Contains-append_left, Contains-append_right}
use Rattle.std.proofs.lemmas.Option.{same_Some, get_or_from_slice_get, slice_get_within}
use Rattle.std.specs.Prelude.{All, Contains, Option, Some, None, option_map, position, slice_get, ◌==◌, Ok, if◌then◌else◌}
use Rattle.std.specs.Str.{bytes_eq}
use Rattle.rc_fixed.proofs.Members.{at_head, in_tail}
use Rattle.rc_keys.specs.declared.code.Code.TheVariants.{E04, E06}
use Rattle.rc_keys.specs.declared.fault.Refusal.TheVariants.{At}
use Rattle.rc_geom.specs.declared.rect.Pt.{Pt}
use Rattle.rc_geom.specs.declared.rect.Rect.{Rect}
use Rattle.rc_geom.specs.declared.orient.Orient.{Orient}
use Rattle.rc_geom.specs.Context.{layer_count}
use Rattle.rc_lef.specs.declared.via.Via.{Via}
use Rattle.rc_lef.specs.Facts.{IsPad, IsUsable, IsVia, routing_count, cut_count}
use Rattle.rc_layout.specs.declared.item.Item.{Item}
use Rattle.rc_layout.specs.declared.parts.Parts.{Parts}
use Rattle.rc_layout.specs.declared.wiring.Pen.{Pen}
use Rattle.rc_layout.specs.declared.wiring.Wiring.{Wiring}
use Rattle.rc_layout.specs.Drawn.{pad, patch}
use Rattle.rc_layout.specs.Facts.{HasRouting, HasVia, AreSound}
use Rattle.rc_layout.specs.Items.{IsPoint}
use Rattle.rc_layout.specs.Paths.{with_pad, with_via, via_drawn, patch_drawn}
use Rattle.rc_layout.specs.Refusals.{there, unless, ◌>>◌}
use Rattle.rc_layout.specs.Scope.{item_at, numbered, usable_via}
use Rattle.rc_layout.proofs.FactsChains.{same_ok, bound, passed, was_there, kept}
use Rattle.rc_layout.proofs.FactsItems.{HasArea, IsPatchAt, pad_is, patch_is}
use Rattle.rc_layout.proofs.FactsLayers.{there_few, there_has}
use Rattle.rc_layout.proofs.FactsWiring.{IsDrawn, IsDrawnPoint, AreTied, IsTiedTo, IsHeld, points_more, tied_more, via_more, item_more, tied_item, near_laid, item_kept}

-- ---- what stands at a number

pub at_number : {X : Type 0} (P : X → Type 0) (xs : List X) (k : ℕ) (x : X) → All P xs → slice_get xs k ≡ Some x → P x
at_number {X} P xs k x all e = subst P (get_or_from_slice_get xs k x x e) (all k x (slice_get_within xs k x e))

pub numbered_is : {X : Type 0} (test : X → Bool) (xs : List X) (found : ℕ × X) → numbered test xs ≡ Some found → slice_get xs found.0 ≡ Some found.1
numbered_is {X} test xs found e = by (position test xs) e
  where
    at : (k : ℕ) (o : Option X) → slice_get xs k ≡ o → option_map (λ (x : X). (k, x)) o ≡ Some found → slice_get xs found.0 ≡ Some found.1
    at k (Some x) is e = subst (λ (f : ℕ × X). slice_get xs f.0 ≡ Some f.1) (same_Some (k, x) found e) is
    at k None is e = absurd cc

    by : (o : Option ℕ) → item_at xs o ≡ Some found → slice_get xs found.0 ≡ Some found.1
    by (Some k) e = at k (slice_get xs k) refl e
    by None e = absurd cc

-- ---- a via

-- a via that can be used joins layers that are there
pub record IsFound (parts : Parts) (found : ℕ × Via) : Type 0 where
  pub at : slice_get parts.vias found.0 ≡ Some found.1
  pub usable : found.1.usable ≡ true
  pub joins : IsUsable (routing_count parts.tech) (cut_count parts.tech) found.1
  pub lower : found.1.lower < layer_count
  pub upper : found.1.upper < layer_count
  pub has_lower : HasRouting parts.tech.layers found.1.lower
  pub has_upper : HasRouting parts.tech.layers found.1.upper

pub via_found : (parts : Parts) (line : ℕ) (name : List ℕ) (found : ℕ × Via) → AreSound parts → usable_via parts.vias line name ≡ Ok found → IsFound parts found
unfolding usable_via
via_found parts line name found sound e =
    let (f, named, more) = bound (there (At E06 line) (numbered (λ via. bytes_eq name via.name) parts.vias)) (λ found. unless found.1.usable (At E04 line) >> Ok found) found e in
    let can = passed f.1.usable (At E04 line) (Ok f) found more in
    let at = numbered_is (λ via. bytes_eq name via.name) parts.vias f (was_there (At E06 line) (numbered (λ via. bytes_eq name via.name) parts.vias) f named) in
    let joins = at_number (IsVia (routing_count parts.tech) (cut_count parts.tech)) parts.vias f.0 f.1 sound.vias at can.0 in
    let low : f.1.lower < routing_count parts.tech = (let a = joins.order in let b = joins.upper in omega (arith, a, b)) in
    subst (λ (g : ℕ × Via). IsFound parts g) (same_ok f found can.1) (record {
      at = at;
      usable = can.0;
      joins = joins;
      lower = there_few parts.tech f.1.lower sound.tech low;
      upper = there_few parts.tech f.1.upper sound.tech joins.upper;
      has_lower = there_has parts.tech f.1.lower sound.tech low;
      has_upper = there_has parts.tech f.1.upper sound.tech joins.upper;
    })

-- what holds of wiring, and still does when points, vias and items that are tied to points come
pub record Grows (T : Wiring → Type 0) : Type 0 where
  pub points : (w : Wiring) (more : List (ℕ × Pt)) → T w → T (record w { points = w.points ++ more })
  pub vias : (w : Wiring) (more : List (ℕ × Pt)) → T w → T (record w { vias = w.vias ++ more })
  pub items : (w : Wiring) (item : Item) → T w → IsTiedTo w.points item → T (record w { items = w.items ++ item ∷ [] })

tied_grows : Grows AreTied
tied_grows = record { points = tied_more; vias = λ w more are. are; items = tied_item }

-- a via more: both its ends are points, and all else is as it was
pub record Stands (T : Wiring → Type 0) (parts : Parts) (found : ℕ × Via) (at : Pt) (before after : Wiring) : Type 0 where
  pub drawn : IsDrawn parts after
  pub tied : T after
  pub lower : Contains after.points (found.1.lower, at)
  pub upper : Contains after.points (found.1.upper, at)
  pub others : (p : ℕ × Pt) → Contains before.points p → Contains after.points p

pub via_kept :
    (T : Wiring → Type 0) → Grows T → (parts : Parts) (found : ℕ × Via) (orient : Orient) (at : Pt) (w after : Wiring) → IsFound parts found → IsPoint at → IsDrawn parts w → T w → with_via found orient at w ≡ Ok after
    → Stands T parts found at w after
via_kept T grows parts found orient at w after is point drawn tied e =
    kept (with_pad orient at) (λ (v : Wiring). Stands T parts found at w v) (IsPad via.lower via.upper) next begun after via.pads first is.joins.pads e
  where
    via : Via
    via = found.1

    ends : List (ℕ × Pt)
    ends = (via.lower, at) ∷ (via.upper, at) ∷ []

    joined : Wiring
    joined = record w { points = w.points ++ ends }

    begun : Wiring
    begun = record w { points = w.points ++ ends; vias = w.vias ++ (found.0, at) ∷ [] }

    low : Contains joined.points (via.lower, at)
    low = Contains-append_right w.points ends (via.lower, at) (at_head (via.lower, at) ((via.upper, at) ∷ []) (via.lower, at) refl)

    high : Contains joined.points (via.upper, at)
    high = Contains-append_right w.points ends (via.upper, at) (in_tail (via.lower, at) ((via.upper, at) ∷ []) (via.upper, at) (at_head (via.upper, at) [] (via.upper, at) refl))

    two : All (IsDrawnPoint parts) ends
    two =
        All-cons (IsDrawnPoint parts) (via.lower, at) ((via.upper, at) ∷ []) (is.lower, point, is.has_lower)
        (All-cons (IsDrawnPoint parts) (via.upper, at) [] (is.upper, point, is.has_upper) (All-nil (IsDrawnPoint parts)))

    standing : (o : Option Via) → slice_get parts.vias found.0 ≡ o → o ≡ Some via → HasVia parts joined.points (found.0, at)
    standing o here same = rw (here, same) (is.usable, is.joins, low, high)

    first : Stands T parts found at w begun
    first = record {
      drawn = via_more parts joined (found.0, at) (points_more parts w ends drawn two) (point, standing (Some via) is.at refl);
      tied = grows.vias joined ((found.0, at) ∷ []) (grows.points w ends tied);
      lower = low;
      upper = high;
      others = λ p has. Contains-append_left w.points ends p has;
    }

    one_of : (layer : ℕ) → (layer ≡ via.lower) ⊎ (layer ≡ via.upper) → (P : ℕ → Type 0) → P via.lower → P via.upper → P layer
    one_of layer (inl same) P p q = subst P (sym same) p
    one_of layer (inr same) P p q = subst P (sym same) q

    next : (s t : Wiring) (p : ℕ × Rect) → Stands T parts found at w s → IsPad via.lower via.upper p → with_pad orient at s p ≡ Ok t → Stands T parts found at w t
    next s t p so_far lies h =
        let laid = near_laid s t (pad orient at p) h in
        let few = one_of p.0 lies.0 (λ l. l < layer_count) is.lower is.upper in
        let has = one_of p.0 lies.0 (λ l. HasRouting parts.tech.layers l) is.has_lower is.has_upper in
        let here = one_of p.0 lies.0 (λ l. Contains s.points (l, at)) so_far.lower so_far.upper in
        let shape = lies.1 in
        let area : HasArea p.1 = record { wide = shape.wide; high = shape.high } in
        subst (λ (v : Wiring). Stands T parts found at w v) laid.1 (record {
          drawn = item_more parts s (pad orient at p) so_far.drawn (pad_is orient at p few area point laid.0, has);
          tied = grows.items s (pad orient at p) so_far.tied (here, here);
          lower = so_far.lower;
          upper = so_far.upper;
          others = so_far.others;
        })

pub next_via :
    (parts : Parts) (line : ℕ) (pen after : Pen) (name : List ℕ) (orient : Orient) → AreSound parts → IsHeld parts pen → via_drawn line parts.vias pen name orient ≡ Ok after → IsHeld parts after
unfolding via_drawn
next_via parts line pen after name orient sound held e =
    let (found, named, more) = bound _ _ _ e in
    let is = via_found parts line name found sound named in
    let on = passed _ _ _ _ more in
    let (w, laid, end) = bound _ _ _ on.1 in
    let stands = via_kept AreTied tied_grows parts found orient pen.stop.at pen.drawn w is held.point held.drawn held.tied laid in
    let next : Pen = record pen { layer = if pen.layer == found.1.lower then found.1.upper else found.1.lower; drawn = w } in
    subst (λ (p : Pen). IsHeld parts p) (same_ok next after end) (record {
      drawn = stands.drawn;
      tied = stands.tied;
      layer = other (pen.layer == found.1.lower) found.1 (λ l. l < layer_count) is.lower is.upper;
      routing = other (pen.layer == found.1.lower) found.1 (λ l. HasRouting parts.tech.layers l) is.has_lower is.has_upper;
      point = held.point;
      ext = held.ext;
      here = other (pen.layer == found.1.lower) found.1 (λ l. Contains w.points (l, pen.stop.at)) stands.lower stands.upper;
    })
  where
    other : (t : Bool) (via : Via) (P : ℕ → Type 0) → P via.lower → P via.upper → P (if t then via.upper else via.lower)
    other true via P low high = high
    other false via P low high = low

-- ---- a patch

pub next_patch : (parts : Parts) (pen after : Pen) (p q : Pt) → IsHeld parts pen → patch_drawn pen p q ≡ Ok after → IsHeld parts after
unfolding patch_drawn
next_patch parts pen after p q held e =
    let (w, laid, end) = bound _ _ _ e in
    let drawn =
    item_kept parts (patch pen.layer pen.stop.at p q) pen.drawn w held.drawn held.tied
    (λ item is near.
    let has = patch_is pen.layer pen.stop.at p q item held.layer held.point is near in
    ((has.is, subst (λ (l : ℕ). HasRouting parts.tech.layers l) (sym has.layer_is) held.routing), spot_tied item has))
    laid in
    subst (λ (n : Pen). IsHeld parts n) (same_ok (record pen { drawn = w }) after end) (record {
      drawn = drawn.drawn;
      tied = drawn.tied;
      layer = held.layer;
      routing = held.routing;
      point = held.point;
      ext = held.ext;
      here = subst (λ (points : List (ℕ × Pt)). Contains points (pen.layer, pen.stop.at)) drawn.points held.here;
    })
  where
    at : (l m : ℕ) (r s : Pt) → m ≡ l → r ≡ s → Contains pen.drawn.points (l, s) → Contains pen.drawn.points (m, r)
    at l m r s e f has = subst (λ (x : ℕ × Pt). Contains pen.drawn.points x) (sym (ap (λ (n : ℕ). (n, r)) e ∙ ap (λ (t : Pt). (l, t)) f)) has

    spot_tied : (item : Item) → IsPatchAt pen.layer pen.stop.at item → IsTiedTo pen.drawn.points item
    spot_tied item has =
        (at pen.layer item.layer item.a pen.stop.at has.layer_is has.lower_is held.here, at pen.layer item.layer item.b pen.stop.at has.layer_is has.upper_is held.here)
