-- A via has the name that it is given, whatever else it is made of.
use Rattle.std.proofs.Common.{◌≡◌, ℕ, Bool, true, false, cond, List, refl}
use Rattle.std.specs.Prelude.{Option, Some, None}
use Rattle.rc_geom.specs.declared.rect.Pt.{Pt}
use Rattle.rc_geom.specs.declared.rect.Rect.{Rect}
use Rattle.rc_lef.specs.declared.state.ViaDraft.{ViaDraft}
use Rattle.rc_lef.specs.declared.tech.LayerKind.{LayerKind}
use Rattle.rc_lef.specs.declared.tech.LayerKind.TheVariants as kinds
use Rattle.rc_lef.specs.declared.usable.Array.{Array}
use Rattle.rc_lef.specs.declared.via.Via.{Via}
use Rattle.rc_lef.specs.Usable as usable
use Rattle.rc_lef.specs.Vias.{via_of, generated, is_generated}

by_test : (b : Bool) (name : List ℕ) (x y : Via) → x.name ≡ name → y.name ≡ name → (cond b x y).name ≡ name
by_test true name x y p q = p
by_test false name x y p q = q

of_cut : (name : List ℕ) (allowed : Bool) (pads : List (ℕ × Rect)) (cuts : List ℕ) (count : ℕ) (cut : Option ℕ) → (usable.with_cut name allowed pads cuts count cut).name ≡ name
of_cut name allowed pads cuts count None = refl
of_cut name allowed pads cuts count (Some cut) = by_test (usable.can_be_used allowed pads cuts cut) name (usable.used_via name pads cut count) (usable.unusable name) refl refl

of_pads : (name : List ℕ) (allowed : Bool) (pads : List (ℕ × Rect)) (cuts : List ℕ) (count : ℕ) → (usable.via_of name allowed pads cuts count).name ≡ name
unfolding usable.via_of
of_pads name allowed pads cuts count = of_cut name allowed pads cuts count (usable.first_cut cuts)

of_drawn : (name : List ℕ) (plain : Bool) (rects : List (LayerKind × Rect)) → (usable.drawn_via name plain rects).name ≡ name
unfolding usable.drawn_via
of_drawn name plain rects = of_pads name _ _ _ _

of_rects : (name : List ℕ) (plain : Bool) (first cut third count : ℕ) (below above : Option Rect) → (usable.made_of name plain first cut third count below above).name ≡ name
of_rects name plain first cut third count (Some below) (Some above) = of_pads name _ _ _ _
of_rects name plain first cut third count None above = refl
of_rects name plain first cut third count (Some below) None = refl

of_made : (name : List ℕ) (plain : Bool) (first cut third : LayerKind) (a : Array) → (usable.made_via name plain first cut third a).name ≡ name
unfolding usable.made_via
of_made name plain (kinds.Routing first) (kinds.Cut cut) (kinds.Routing third) a = of_rects name plain first cut third _ _ _
of_made name plain _ _ _ a = refl

of_generated : (name : List ℕ) (plain : Bool) (counts : Option (ℕ × ℕ)) (rule : Bool) (cut : Option Pt) (layers : Option (LayerKind × LayerKind × LayerKind)) (space : Option Pt) (enclosure : Option (Pt × Pt)) → (generated name plain counts rule cut layers space enclosure).name ≡ name
of_generated name plain counts true (Some cut) (Some layers) (Some space) (Some enclosure) = of_made name plain layers.0 layers.1 layers.2 _
of_generated name plain counts _ _ _ _ _ = refl

pub via_name : (name : List ℕ) (via : ViaDraft) → (via_of name via).name ≡ name
unfolding via_of
via_name name via =
    by_test (is_generated via) name (generated name via.is_plain via.rows_columns via.has_rule via.cut_size via.layers via.spacing via.enclosure) (usable.drawn_via name via.is_plain via.rects)
    (of_generated name via.is_plain via.rows_columns via.has_rule via.cut_size via.layers via.spacing via.enclosure) (of_drawn name via.is_plain via.rects)
