-- What a path says: step by step.
use Rattle.std.specs.Prelude.{ℕ, ℤ, ◌==◌, ◌||◌, Option, Some, None, option_map, Ok, List, [], ◌∷◌, ◌++◌, if◌then◌else◌}
use Rattle.std.specs.Option.{option_to_list}
use Rattle.rc_keys.specs.declared.code.Code.TheVariants.{E09, E10}
use Rattle.rc_keys.specs.declared.fault.Refusal.TheVariants.{At}
use Rattle.rc_geom.specs.declared.rect.Pt.{Pt}
use Rattle.rc_geom.specs.declared.rect.Rect.{Rect}
use Rattle.rc_geom.specs.declared.orient.Orient.{Orient}
use Rattle.rc_geom.specs.Bounds.{is_point, is_within}
use Rattle.rc_lef.specs.declared.via.Via.{Via}
use Rattle.rc_wire.specs.declared.path.RawPath.{RawPath}
use Rattle.rc_wire.specs.declared.path.Step.{Step}
use Rattle.rc_wire.specs.declared.path.Step.TheVariants as steps
use Rattle.rc_wire.specs.declared.path.Taper.{Taper}
use Rattle.rc_wire.specs.declared.path.Taper.TheVariants as tapers
use Rattle.rc_layout.specs.declared.item.Item.{Item}
use Rattle.rc_layout.specs.declared.part.Rule.{Rule}
use Rattle.rc_layout.specs.declared.parts.Parts.{Parts}
use Rattle.rc_layout.specs.declared.stroke.Stop.{Stop}
use Rattle.rc_layout.specs.declared.stroke.Stroke.{Stroke}
use Rattle.rc_layout.specs.declared.stroke.Style.{Style}
use Rattle.rc_layout.specs.declared.wiring.Pen.{Pen}
use Rattle.rc_layout.specs.declared.wiring.Wiring.{Wiring}
use Rattle.rc_layout.specs.Drawn.{are_in_line, piece, pad, patch}
use Rattle.rc_layout.specs.Scope.{path_layer, rule_named, stroke_on, usable_via}
use Rattle.rc_layout.specs.Refusals.{Linked, too_far, unless, through, ◌>>=◌, ◌>>◌}
use Rattle.rc_layout.specs.Units.{scaled, scaled_point}

abbrev pub no_wiring : Wiring
no_wiring = record { points = []; vias = []; items = [] }

-- ---- more is drawn, where it lies within the coordinates of a layout

abbrev pub near : Item → Linked Item
near item = unless (is_within item.rect) too_far >> Ok item

abbrev pub with_near : Wiring → Item → Linked Wiring
with_near w item = near item >>= λ item. Ok (record w { items = w.items ++ item ∷ [] })

abbrev pub as_some : Linked Item → Linked (Option Item)
as_some item = item >>= λ item. Ok (Some item)

abbrev pub laid : Option Item → Linked (Option Item)
laid None = Ok None
laid (Some item) = as_some (near item)

abbrev pub with_item : Option Item → Wiring → Linked Wiring
with_item item w = laid item >>= λ item. Ok (record w { items = w.items ++ option_to_list item })

abbrev pub with_point : ℕ → Pt → Wiring → Linked Wiring
with_point layer at w = unless (is_point at) too_far >> Ok (record w { points = w.points ++ (layer, at) ∷ [] })

-- a pad of a via at a point
abbrev pub with_pad : Orient → Pt → Wiring → ℕ × Rect → Linked Wiring
with_pad orient at w p = with_near w (pad orient at p)

-- a via at a point: its number, both its ends, and its pads, turned
abbrev pub with_via : ℕ × Via → Orient → Pt → Wiring → Linked Wiring
with_via (number, via) orient at w =
    through (with_pad orient at)
    (record w { points = w.points ++ (via.lower, at) ∷ (via.upper, at) ∷ []; vias = w.vias ++ (number, at) ∷ [] }) via.pads

-- ---- a path is drawn

-- the next point shares a coordinate with the last one, and a piece joins them
unfoldable pub point_drawn : ℕ → Stroke → Pen → Stop → Linked Pen
point_drawn line stroke pen stop =
    unless (are_in_line pen.stop.at stop.at) (At E09 line) >>
    with_point pen.layer stop.at pen.drawn >>= λ w.
    with_item (piece stroke pen.stop stop) w >>= λ w.
    Ok (record { layer = pen.layer; stop = stop; drawn = w })

-- a via stands at the last point, and the path goes on on its other layer
unfoldable pub via_drawn : ℕ → List Via → Pen → List ℕ → Orient → Linked Pen
via_drawn line vias pen name orient =
    usable_via vias line name >>= λ found.
    unless ((pen.layer == found.1.lower) || (pen.layer == found.1.upper)) (At E10 line) >>
    with_via found orient pen.stop.at pen.drawn >>= λ w.
    Ok (record pen { layer = if pen.layer == found.1.lower then found.1.upper else found.1.lower; drawn = w })

-- a patch is seen from the last point
unfoldable pub patch_drawn : Pen → Pt → Pt → Linked Pen
patch_drawn pen p q = with_item (patch pen.layer pen.stop.at p q) pen.drawn >>= λ w. Ok (record pen { drawn = w })

abbrev pub stop_of : ℕ → Pt → Option ℤ → Stop
stop_of k at ext = record { at = scaled_point k at; ext = option_map (scaled k) ext }

unfoldable pub step_drawn : Parts → ℕ → Style → Pen → Step → Linked Pen
step_drawn parts line style pen (steps.Point at ext) = point_drawn line (stroke_on parts style pen.layer) pen (stop_of parts.factor at ext)
step_drawn parts line style pen (steps.Via name orient) = via_drawn line parts.vias pen name orient
step_drawn parts line style pen (steps.Patch x0 y0 x1 y1) =
    patch_drawn pen (scaled_point parts.factor (record { x = x0; y = y0 })) (scaled_point parts.factor (record { x = x1; y = y1 }))

-- the first step is a point, and the others follow it. (No path that is linked begins otherwise.)
unfoldable pub steps_drawn : Parts → ℕ → Style → ℕ → Wiring → List Step → Linked Wiring
steps_drawn parts line style layer w (steps.Point at ext ∷ others) =
    with_point layer (scaled_point parts.factor at) w >>= λ w.
    through (step_drawn parts line style) (record { layer = layer; stop = stop_of parts.factor at ext; drawn = w }) others >>= λ pen.
    Ok pen.drawn
steps_drawn parts line style layer w _ = Ok w

-- ---- how a path is drawn

-- the rule of a path: that of its net, or one of its own, or none
abbrev pub taper_rule : List Rule → ℕ → Option ℕ → Taper → Linked (Option ℕ)
taper_rule rules line net_rule tapers.Net = Ok net_rule
taper_rule rules line net_rule tapers.Layer = Ok None
taper_rule rules line net_rule (tapers.Rule name) = rule_named rules line name >>= λ number. Ok (Some number)

abbrev pub style_of : Parts → Option ℕ → RawPath → Linked Style
style_of parts net_rule path = styled path.width
  where
    styled : Option ℤ → Linked Style
    styled (Some width) = Ok (record { own = Some (scaled parts.factor width); rule = None })
    styled None = taper_rule parts.rules path.line net_rule path.taper >>= λ rule. Ok (record { own = None; rule = rule })

-- a path after those before it
unfoldable pub path_drawn : Parts → Option ℕ → Wiring → RawPath → Linked Wiring
path_drawn parts net_rule w path =
    path_layer parts.tech.layers path.line path.layer >>= λ layer.
    style_of parts net_rule path >>= λ style.
    steps_drawn parts path.line style layer w path.steps

abbrev pub paths_drawn : Parts → Option ℕ → List RawPath → Linked Wiring
paths_drawn parts net_rule paths = through (path_drawn parts net_rule) no_wiring paths
