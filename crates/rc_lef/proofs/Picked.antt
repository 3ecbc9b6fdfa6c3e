-- What a loop picks out of a list, one item more.
use Rattle.std.proofs.Common.{◌≡◌, ◌∙◌, ◌+◌, ◌<◌, ℕ, List, [], ◌∷◌, ◌++◌, length, take, get_or, refl, ap, sym, ℤ, Bool, true, false}
use Rattle.std.proofs.lemmas.List.{take_more}
use Rattle.std.proofs.lemmas.List.Elements.{filter_map-append}
use Rattle.std.specs.Prelude.{Option, Some, pos}
use Rattle.std.specs.List.{filter_map}
use Rattle.rc_geom.specs.declared.rect.Rect.{Rect}
use Rattle.rc_lef.specs.declared.tech.LayerKind.{LayerKind}
use Rattle.rc_lef.specs.declared.tech.LayerKind.TheVariants as kinds
use Rattle.rc_lef.specs.Numbers.{has_width, width_joins}
use Rattle.rc_lef.specs.Usable.{pad_of, cut_of}

more : {X Y : Type 0} (h : X → Option Y) (xs : List X) (i : ℕ) (d : X) → i < length xs → filter_map h (take (i + 1) xs) ≡ filter_map h (take i xs) ++ filter_map h (get_or xs i d ∷ [])
more h xs i d within = ap (filter_map h) (take_more xs i d within) ∙ filter_map-append h (take i xs) (get_or xs i d ∷ [])

pub pads_more : (rects : List (LayerKind × Rect)) (i : ℕ) (d : LayerKind × Rect) → i < length rects → filter_map pad_of (take (i + 1) rects) ≡ filter_map pad_of (take i rects) ++ filter_map pad_of (get_or rects i d ∷ [])
pads_more rects i d within = more pad_of rects i d within

pub cuts_more : (rects : List (LayerKind × Rect)) (i : ℕ) (d : LayerKind × Rect) → i < length rects → filter_map cut_of (take (i + 1) rects) ≡ filter_map cut_of (take i rects) ++ filter_map cut_of (get_or rects i d ∷ [])
cuts_more rects i d within = more cut_of rects i d within

-- ---- the first width of each routing layer

pub width_known : (ws items : List (ℕ × ℤ)) (kind : LayerKind) (width : Option ℤ) (n : ℕ) (w : ℤ) (b : Bool) → kind ≡ kinds.Routing n → width ≡ Some w → items ≡ ws → b ≡ has_width items n → b ≡ true → ws ≡ width_joins ws kind width
width_known ws items kind width n w b k s i h t = let e : has_width ws n ≡ true = ap (λ us. has_width us n) (sym i) ∙ sym h ∙ t in rw (k, s, e) refl

pub width_new : (ws items now : List (ℕ × ℤ)) (kind : LayerKind) (width : Option ℤ) (n : ℕ) (w : ℤ) (b : Bool) → kind ≡ kinds.Routing n → width ≡ Some w → items ≡ ws → b ≡ has_width items n → b ≡ false → now ≡ ws ++ (n, w) ∷ [] → now ≡ width_joins ws kind width
width_new ws items now kind width n w b k s i h t is = let e : has_width ws n ≡ false = ap (λ us. has_width us n) (sym i) ∙ sym h ∙ t in is ∙ rw (k, s, e) refl

-- ---- a turn of the loops that pick

-- what stands behind the end of a list of rectangles
abbrev nothing : LayerKind × Rect
nothing = (kinds.Routing 0, record { x0 = pos 0; y0 = pos 0; x1 = pos 0; y1 = pos 0 })

pub pads_step : (rects : List (LayerKind × Rect)) (i : ℕ) (old now : List (ℕ × Rect)) → now ≡ old ++ filter_map pad_of (get_or rects i nothing ∷ []) → old ≡ filter_map pad_of (take i rects) → i < length rects → now ≡ filter_map pad_of (take (i + 1) rects)
pads_step rects i old now is so_far within = is ∙ ap (λ ps. ps ++ filter_map pad_of (get_or rects i nothing ∷ [])) so_far ∙ sym (pads_more rects i nothing within)

pub cuts_step : (rects : List (LayerKind × Rect)) (i : ℕ) (old now : List ℕ) → now ≡ old ++ filter_map cut_of (get_or rects i nothing ∷ []) → old ≡ filter_map cut_of (take i rects) → i < length rects → now ≡ filter_map cut_of (take (i + 1) rects)
cuts_step rects i old now is so_far within = is ∙ ap (λ ps. ps ++ filter_map cut_of (get_or rects i nothing ∷ [])) so_far ∙ sym (cuts_more rects i nothing within)
