-- Each step of a path keeps the facts of what is drawn.
use Rattle.std.proofs.Common.{◌≡◌, ◌∙◌, ◌⊎◌, inl, inr, ℕ, ◌<◌, ◌≤ℤ◌, Bool, true, false, List, [], ◌∷◌, ◌++◌, refl, sym, ap, subst}
use Rattle.std.proofs.lemmas.List.{append-nil}
use Rattle.std.proofs.lemmas.List.Elements.{All-nil, All-cons, All-push, All-append, All-weaker, Contains-append_left, Contains-append_right}
use Rattle.std.specs.Prelude.{All, Contains, Option, Some, None, IfSome, slice_get, pos, Ok}
use Rattle.std.specs.Option.{option_to_list}
use Rattle.rc_fixed.proofs.Members.{at_head}
use Rattle.rc_geom.specs.declared.rect.Pt.{Pt}
use Rattle.rc_geom.specs.Bounds.{is_point, is_within}
use Rattle.rc_geom.specs.Context.{layer_count}
use Rattle.rc_lef.specs.declared.via.Via.{Via}
use Rattle.rc_layout.specs.declared.item.Item.{Item}
use Rattle.rc_layout.specs.declared.parts.Parts.{Parts}
use Rattle.rc_layout.specs.declared.stroke.Stop.{Stop}
use Rattle.rc_layout.specs.declared.stroke.Stroke.{Stroke}
use Rattle.rc_layout.specs.declared.wiring.Pen.{Pen}
use Rattle.rc_layout.specs.declared.wiring.Wiring.{Wiring}
use Rattle.rc_layout.specs.Drawn.{piece}
use Rattle.rc_layout.specs.Facts.{HasRouting, HasVia, IsStanding}
use Rattle.rc_layout.specs.Items.{IsItem, IsPoint}
use Rattle.rc_layout.specs.Paths.{with_near, with_item, with_point, point_drawn}
use Rattle.rc_layout.specs.Refusals.{too_far, unless, ◌>>=◌, ◌>>◌}
use Rattle.rc_layout.proofs.FactsChains.{not_ok, same_ok, bound, passed}
use Rattle.rc_layout.proofs.FactsItems.{CanDraw, CanJoin, IsExtension, IsPieceBetween, point_is, piece_is}

-- ---- what is drawn so far

-- an item has its form, on a layer that is there
abbrev pub IsDrawnItem : Parts → Item → Type 0
IsDrawnItem parts item = IsItem item × HasRouting parts.tech.layers item.layer

abbrev pub IsDrawnPoint : Parts → ℕ × Pt → Type 0
IsDrawnPoint parts point = (point.0 < layer_count) × IsPoint point.1 × HasRouting parts.tech.layers point.0

abbrev pub IsDrawnVia : Parts → List (ℕ × Pt) → ℕ × Pt → Type 0
IsDrawnVia parts points via = IsPoint via.1 × HasVia parts points via

pub record IsDrawn (parts : Parts) (w : Wiring) : Type 0 where
  pub items : All (IsDrawnItem parts) w.items
  pub points : All (IsDrawnPoint parts) w.points
  pub vias : All (IsDrawnVia parts w.points) w.vias

-- the ends of an item are among the points
abbrev pub IsTiedTo : List (ℕ × Pt) → Item → Type 0
IsTiedTo points item = Contains points (item.layer, item.a) × Contains points (item.layer, item.b)

abbrev pub AreTied : Wiring → Type 0
AreTied w = All (IsTiedTo w.points) w.items

-- ---- more is drawn

standing_more : (parts : Parts) (points more : List (ℕ × Pt)) (at : Pt) (o : Option Via) → IsStanding parts points at o → IsStanding parts (points ++ more) at o
standing_more parts points more at (Some via) is =
    (is.0, is.1, Contains-append_left points more (via.lower, at) is.2, Contains-append_left points more (via.upper, at) is.3)
standing_more parts points more at None is = is

pub points_more : (parts : Parts) (w : Wiring) (more : List (ℕ × Pt)) → IsDrawn parts w → All (IsDrawnPoint parts) more → IsDrawn parts (record w { points = w.points ++ more })
points_more parts w more is all = record {
  items = is.items;
  points = All-append (IsDrawnPoint parts) w.points more is.points all;
  vias =
      All-weaker (IsDrawnVia parts w.points) (IsDrawnVia parts (w.points ++ more))
      (λ via is. (is.0, standing_more parts w.points more via.1 (slice_get parts.vias via.0) is.1)) w.vias is.vias;
}

pub tied_more : (w : Wiring) (more : List (ℕ × Pt)) → AreTied w → AreTied (record w { points = w.points ++ more })
tied_more w more are =
    All-weaker (IsTiedTo w.points) (IsTiedTo (w.points ++ more))
    (λ item is. (Contains-append_left w.points more (item.layer, item.a) is.0, Contains-append_left w.points more (item.layer, item.b) is.1)) w.items are

pub item_more : (parts : Parts) (w : Wiring) (item : Item) → IsDrawn parts w → IsDrawnItem parts item → IsDrawn parts (record w { items = w.items ++ item ∷ [] })
item_more parts w item is has = record { items = All-push (IsDrawnItem parts) w.items item is.items has; points = is.points; vias = is.vias }

pub tied_item : (w : Wiring) (item : Item) → AreTied w → IsTiedTo w.points item → AreTied (record w { items = w.items ++ item ∷ [] })
tied_item w item are is = All-push (IsTiedTo w.points) w.items item are is

pub via_more : (parts : Parts) (w : Wiring) (via : ℕ × Pt) → IsDrawn parts w → IsDrawnVia parts w.points via → IsDrawn parts (record w { vias = w.vias ++ via ∷ [] })
via_more parts w via is has = record { items = is.items; points = is.points; vias = All-push (IsDrawnVia parts w.points) w.vias via is.vias has }

-- ---- an item that lies within the coordinates

pub near_laid : (w after : Wiring) (item : Item) → with_near w item ≡ Ok after → (is_within item.rect ≡ true) × (record w { items = w.items ++ item ∷ [] } ≡ after)
near_laid w after item e = by (is_within item.rect) refl e
  where
    by : (t : Bool) → is_within item.rect ≡ t → ((unless t too_far >> Ok item) >>= λ item. Ok (record w { items = w.items ++ item ∷ [] })) ≡ Ok after
        → (is_within item.rect ≡ true) × (record w { items = w.items ++ item ∷ [] } ≡ after)
    by true is e = (is, same_ok (record w { items = w.items ++ item ∷ [] }) after e)
    by false is e = absurd (not_ok too_far after e)

-- what is drawn of an item that may be there
pub record Laid (o : Option Item) (w after : Wiring) : Type 0 where
  pub near : IfSome o (λ item. is_within item.rect ≡ true)
  pub is : record w { items = w.items ++ option_to_list o } ≡ after

pub item_laid : (o : Option Item) (w after : Wiring) → with_item o w ≡ Ok after → Laid o w after
item_laid None w after e = record { near = tt; is = same_ok _ after e }
item_laid (Some item) w after e = by (is_within item.rect) refl e
  where
    by : (t : Bool) → is_within item.rect ≡ t → (((unless t too_far >> Ok item) >>= λ item. Ok (Some item)) >>= λ o. Ok (record w { items = w.items ++ option_to_list o })) ≡ Ok after → Laid (Some item) w after
    by true is e = record { near = is; is = same_ok (record w { items = w.items ++ item ∷ [] }) after e }
    by false is e = absurd (not_ok too_far after e)

-- what a step makes of drawn wiring
pub record Draws (parts : Parts) (before after : Wiring) : Type 0 where
  pub drawn : IsDrawn parts after
  pub tied : AreTied after
  pub points : before.points ≡ after.points

laid_none : (parts : Parts) (w after : Wiring) → IsDrawn parts w → AreTied w → record w { items = w.items ++ [] } ≡ after → Draws parts w after
laid_none parts w after is tied e = subst (λ (v : Wiring). Draws parts w v) (ap (λ (items : List Item). record w { items = items }) (sym (append-nil w.items)) ∙ e) (record { drawn = is; tied = tied; points = refl })

laid_some : (parts : Parts) (w after : Wiring) (item : Item) → IsDrawn parts w → AreTied w → IsDrawnItem parts item → IsTiedTo w.points item → record w { items = w.items ++ item ∷ [] } ≡ after → Draws parts w after
laid_some parts w after item is tied has ends e =
    subst (λ (v : Wiring). Draws parts w v) e (record { drawn = item_more parts w item is has; tied = tied_item w item tied ends; points = refl })

pub item_kept :
    (parts : Parts) (o : Option Item) (w after : Wiring) → IsDrawn parts w → AreTied w
    → ((item : Item) → o ≡ Some item → is_within item.rect ≡ true → IsDrawnItem parts item × IsTiedTo w.points item) → with_item o w ≡ Ok after → Draws parts w after
item_kept parts None w after is tied form e = laid_none parts w after is tied (item_laid None w after e).is
item_kept parts (Some item) w after is tied form e =
    let laid = item_laid (Some item) w after e in
    let has = form item refl laid.near in
    laid_some parts w after item is tied has.0 has.1 laid.is

-- ---- points

pub point_laid : (layer : ℕ) (at : Pt) (w after : Wiring) → with_point layer at w ≡ Ok after → (is_point at ≡ true) × (record w { points = w.points ++ (layer, at) ∷ [] } ≡ after)
point_laid layer at w after e =
    let is = passed (is_point at) too_far (Ok (record w { points = w.points ++ (layer, at) ∷ [] })) after e in
    (is.0, same_ok (record w { points = w.points ++ (layer, at) ∷ [] }) after is.1)

one_point : (parts : Parts) (point : ℕ × Pt) → IsDrawnPoint parts point → All (IsDrawnPoint parts) (point ∷ [])
one_point parts point is = All-cons (IsDrawnPoint parts) point [] is (All-nil (IsDrawnPoint parts))

-- a point more, and it is there
pub record Reaches (parts : Parts) (layer : ℕ) (at : Pt) (before after : Wiring) : Type 0 where
  pub drawn : IsDrawn parts after
  pub tied : AreTied after
  pub point : IsPoint at
  pub here : Contains after.points (layer, at)
  pub others : (p : ℕ × Pt) → Contains before.points p → Contains after.points p

pub point_kept : (parts : Parts) (layer : ℕ) (at : Pt) (w after : Wiring) → layer < layer_count → HasRouting parts.tech.layers layer → IsDrawn parts w → AreTied w → with_point layer at w ≡ Ok after → Reaches parts layer at w after
point_kept parts layer at w after few has is tied e =
    let laid = point_laid layer at w after e in
    let point = point_is at laid.0 in
    subst (λ (v : Wiring). Reaches parts layer at w v) laid.1 (record {
      drawn = points_more parts w ((layer, at) ∷ []) is (one_point parts (layer, at) (few, point, has));
      tied = tied_more w ((layer, at) ∷ []) tied;
      point = point;
      here = Contains-append_right w.points ((layer, at) ∷ []) (layer, at) (at_head (layer, at) [] (layer, at) refl);
      others = λ p has. Contains-append_left w.points ((layer, at) ∷ []) p has;
    })

-- ---- a path while it is drawn

pub record IsHeld (parts : Parts) (pen : Pen) : Type 0 where
  pub drawn : IsDrawn parts pen.drawn
  pub tied : AreTied pen.drawn
  pub layer : pen.layer < layer_count
  pub routing : HasRouting parts.tech.layers pen.layer
  pub point : IsPoint pen.stop.at
  pub ext : IsExtension pen.stop.ext
  pub here : Contains pen.drawn.points (pen.layer, pen.stop.at)

piece_tied : (points : List (ℕ × Pt)) (layer : ℕ) (p q : Pt) (item : Item) → IsPieceBetween layer p q item → Contains points (layer, p) → Contains points (layer, q) → IsTiedTo points item
piece_tied points layer p q item is first second = by is.ends
  where
    at : (l : ℕ) (r s : Pt) → item.layer ≡ l → r ≡ s → Contains points (l, s) → Contains points (item.layer, r)
    at l r s e f has = subst (λ (x : ℕ × Pt). Contains points x) (sym (ap (λ (m : ℕ). (m, r)) e ∙ ap (λ (t : Pt). (l, t)) f)) has

    by : ((item.a ≡ p) × (item.b ≡ q)) ⊎ ((item.a ≡ q) × (item.b ≡ p)) → IsTiedTo points item
    by (inl same) = (at layer item.a p is.layer_is same.0 first, at layer item.b q is.layer_is same.1 second)
    by (inr same) = (at layer item.a q is.layer_is same.0 second, at layer item.b p is.layer_is same.1 first)

pub next_point :
    (parts : Parts) (line : ℕ) (stroke : Stroke) (pen after : Pen) (stop : Stop) → stroke.layer ≡ pen.layer → pos 1 ≤ℤ stroke.width → IsExtension stop.ext → IsHeld parts pen
    → point_drawn line stroke pen stop ≡ Ok after → IsHeld parts after
unfolding point_drawn
next_point parts line stroke pen after stop same wide ext held e =
    let in_line = passed _ _ _ _ e in
    let (w, at, more) = bound _ _ _ in_line.1 in
    let reached = point_kept parts pen.layer stop.at pen.drawn w held.layer held.routing held.drawn held.tied at in
    let (v, laid, end) = bound _ _ _ more in
    let can : CanDraw stroke = record { layer = subst (λ (l : ℕ). l < layer_count) (sym same) held.layer; width = wide } in
    let join : CanJoin pen.stop stop = record { first = held.point; second = reached.point; first_ext = held.ext; second_ext = ext; line = in_line.0 } in
    let drawn =
    item_kept parts (piece stroke pen.stop stop) w v reached.drawn reached.tied
    (λ item is near.
    let between = piece_is stroke pen.stop stop item can join is near in
    let on : item.layer ≡ pen.layer = between.layer_is ∙ same in (
      (between.is, subst (λ (l : ℕ). HasRouting parts.tech.layers l) (sym on) held.routing),
      piece_tied w.points stroke.layer pen.stop.at stop.at item between
          (subst (λ (l : ℕ). Contains w.points (l, pen.stop.at)) (sym same) (reached.others (pen.layer, pen.stop.at) held.here))
          (subst (λ (l : ℕ). Contains w.points (l, stop.at)) (sym same) reached.here),
    ))
    laid in
    subst (λ (p : Pen). IsHeld parts p) (same_ok (record { layer = pen.layer; stop = stop; drawn = v }) after end) (record {
      drawn = drawn.drawn;
      tied = drawn.tied;
      layer = held.layer;
      routing = held.routing;
      point = reached.point;
      ext = ext;
      here = subst (λ (points : List (ℕ × Pt)). Contains points (pen.layer, stop.at)) drawn.points reached.here;
    })
