-- What a via of a design links to, by what its parts do.
use Rattle.std.proofs.Common.{◌≡◌, ℕ, List, [], ◌∷◌, map, refl, sym, ap, ◌∙◌}
use Rattle.std.specs.Prelude.{Ok, Err, Option, Some, None}
use Rattle.rc_geom.specs.declared.rect.Rect.{Rect}
use Rattle.rc_keys.specs.declared.fault.Fault.{Fault}
use Rattle.rc_keys.specs.declared.fault.Fault.TheVariants.{Refused, NoMemory}
use Rattle.rc_def.specs.declared.entry.RawVia.{RawVia}
use Rattle.rc_lef.specs.declared.tech.Layer.{Layer}
use Rattle.rc_lef.specs.declared.tech.LayerKind.{LayerKind}
use Rattle.rc_lef.specs.declared.usable.Array.{Array}
use Rattle.rc_lef.specs.declared.via.Via.{Via}
use Rattle.rc_layout.specs.Entries.{array_in, link_via, via_made, via_rect}
use Rattle.rc_layout.specs.Refusals.{Linked, adds, after, each, through, Leaves, Links}
use Rattle.rc_layout.specs.Scope.{layer_named}
use Rattle.rc_layout.specs.Wide.{brought_in}
use Rattle.rc_layout.proofs.Brought.{drawn_same}
use Rattle.rc_layout.proofs.Eaches.{values_before, refusal_before}

-- a via is the same whatever the rectangles are that lie too far out
made_same : (raw : RawVia) (rects : List (LayerKind × Rect)) (ks : List LayerKind) (array : Option Array) → via_made raw (map brought_in rects) ks array ≡ via_made raw rects ks array
made_same raw rects [] None = drawn_same raw.name raw.plain rects
made_same raw rects [] (Some array) = refl
made_same raw rects (a ∷ []) array = refl
made_same raw rects (a ∷ b ∷ []) array = refl
made_same raw rects (a ∷ b ∷ c ∷ []) None = refl
made_same raw rects (a ∷ b ∷ c ∷ []) (Some array) = refl
made_same raw rects (a ∷ b ∷ c ∷ d ∷ ks) array = refl

rects_told :
    (layers : List Layer) (k : ℕ) (raw : RawVia) (start : List (LayerKind × Rect)) (entries : List (List ℕ × Rect)) (m : Linked (List (LayerKind × Rect))) → start ≡ [] → entries ≡ raw.rects
    → through (adds (after brought_in (via_rect layers k raw.line))) start entries ≡ m → each (after brought_in (via_rect layers k raw.line)) raw.rects ≡ m
rects_told layers k raw start entries m none same e =
    let f = adds (after brought_in (via_rect layers k raw.line)) in
    sym (ap (λ (s : List (LayerKind × Rect)). through f s entries) none ∙ ap (λ (es : List (List ℕ × Rect)). through f [] es) same) ∙ e

kinds_told :
    (layers : List Layer) (raw : RawVia) (start : List LayerKind) (names : List (List ℕ)) (m : Linked (List LayerKind)) → start ≡ [] → names ≡ raw.layers
    → through (adds (layer_named layers raw.line)) start names ≡ m → each (layer_named layers raw.line) raw.layers ≡ m
kinds_told layers raw start names m none same e =
    let f = adds (layer_named layers raw.line) in
    sym (ap (λ (s : List LayerKind). through f s names) none ∙ ap (λ (ns : List (List ℕ)). through f [] ns) same) ∙ e

pub rects_refused :
    (layers : List Layer) (k : ℕ) (raw : RawVia) (fault : Fault) (new start : List (LayerKind × Rect)) (entries : List (List ℕ × Rect)) → start ≡ [] → entries ≡ raw.rects
    → Leaves {T = Unit {0}} (Err fault) new (through (adds (after brought_in (via_rect layers k raw.line))) start entries) → Links {A = Via} (Err fault) (link_via layers k raw)
unfolding link_via
rects_refused layers k raw (Refused r) new start entries none same e =
    rw (refusal_before brought_in (via_rect layers k raw.line) raw.rects r (rects_told layers k raw start entries (Err r) none same e)) refl
rects_refused layers k raw NoMemory new start entries none same e = tt

pub kinds_refused :
    (layers : List Layer) (k : ℕ) (raw : RawVia) (fault : Fault) (rects start : List (LayerKind × Rect)) (entries : List (List ℕ × Rect)) (new begun : List LayerKind) (names : List (List ℕ))
    → start ≡ [] → entries ≡ raw.rects → through (adds (after brought_in (via_rect layers k raw.line))) start entries ≡ Ok rects
    → begun ≡ [] → names ≡ raw.layers → Leaves {T = Unit {0}} (Err fault) new (through (adds (layer_named layers raw.line)) begun names) → Links {A = Via} (Err fault) (link_via layers k raw)
unfolding link_via
kinds_refused layers k raw (Refused r) rects start entries new begun names none same first none' alike e =
    let before = values_before brought_in (via_rect layers k raw.line) raw.rects rects (rects_told layers k raw start entries (Ok rects) none same first) in
    rw (before.1, kinds_told layers raw begun names (Err r) none' alike e) refl
kinds_refused layers k raw NoMemory rects start entries new begun names none same first none' alike e = tt

pub via_linked :
    (layers : List Layer) (k : ℕ) (raw : RawVia) (rects now start : List (LayerKind × Rect)) (entries : List (List ℕ × Rect)) (ks kinds begun : List LayerKind) (names : List (List ℕ)) (array : Option Array) (via : Via)
    → start ≡ [] → entries ≡ raw.rects → through (adds (after brought_in (via_rect layers k raw.line))) start entries ≡ Ok rects
    → begun ≡ [] → names ≡ raw.layers → through (adds (layer_named layers raw.line)) begun names ≡ Ok ks → now ≡ rects → kinds ≡ ks → array ≡ array_in k raw.made
    → via ≡ via_made raw now kinds array → link_via layers k raw ≡ Ok via
unfolding link_via
via_linked layers k raw rects now start entries ks kinds begun names array via none same first none' alike second is_now is_kinds made is =
    let before = values_before brought_in (via_rect layers k raw.line) raw.rects rects (rects_told layers k raw start entries (Ok rects) none same first) in
    let there : via ≡ via_made raw before.0 ks (array_in k raw.made) =
    is ∙ ap (λ (l : List (LayerKind × Rect)). via_made raw l kinds array) (is_now ∙ sym before.2) ∙ made_same raw before.0 kinds array
    ∙ ap (λ (l : List LayerKind). via_made raw before.0 l array) is_kinds ∙ ap (λ (a : Option Array). via_made raw before.0 ks a) made in
    rw (before.1, kinds_told layers raw begun names (Ok ks) none' alike second, there) refl
