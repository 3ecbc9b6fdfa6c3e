-- The forms of paths, item by item.
use Rattle.std.proofs.Common.{◌≡◌, ◌∙◌, ℕ, ℤ, Bool, true, false, cond, inl, inr, List, [], ◌∷◌, ◌++◌, refl, ap, sym, subst}
use Rattle.std.proofs.lemmas.List.Elements.{All-nil, All-cons, All-head, All-tail, All-push}
use Rattle.std.specs.Prelude.{◌⊎◌, ◌&&◌, All, IfSome, IsSomeAnd, Option, Some, None, Result, Ok, Err, pos, drop}
use Rattle.rc_geom.specs.declared.orient.Orient.{Orient}
use Rattle.rc_geom.specs.declared.orient.Orient.TheVariants as orients
use Rattle.rc_geom.specs.declared.rect.Pt.{Pt}
use Rattle.rc_geom.specs.Split.{IsCoordinate}
use Rattle.rc_keys.specs.declared.code.Code.{Code}
use Rattle.rc_keys.specs.declared.code.Code.TheVariants.{E03, E04, E05}
use Rattle.rc_keys.specs.Lexemes.{Lexeme}
use Rattle.rc_wire.specs.declared.item.PathItem.{PathItem}
use Rattle.rc_wire.specs.declared.item.PathItem.TheVariants as items
use Rattle.rc_wire.specs.declared.item.PathStage.{PathStage}
use Rattle.rc_wire.specs.declared.item.PathStage.TheVariants as stages
use Rattle.rc_wire.specs.declared.key.Key.{Key}
use Rattle.rc_wire.specs.declared.key.Key.TheVariants as keys
use Rattle.rc_wire.specs.declared.operands.Operands.{Operands}
use Rattle.rc_wire.specs.declared.path.RawPath.{RawPath}
use Rattle.rc_wire.specs.declared.path.Step.{Step}
use Rattle.rc_wire.specs.declared.path.Step.TheVariants as steps
use Rattle.rc_wire.specs.declared.path.Taper.TheVariants as tapers
use Rattle.rc_wire.specs.declared.wiring.Wiring.{Wiring}
use Rattle.rc_wire.specs.Forms.{IsLength, IsPoint, IsStep, BeginsAtPoint, is_point, is_patch, IsRegular, IsSpecial, IsPathOf}
use Rattle.rc_wire.specs.Items.{Spelled}
use Rattle.rc_wire.specs.Keys.{is_name, is_orientation}
use Rattle.rc_wire.specs.Paths.{form_of, is_thin, is_do, begins_first, begins_head, begins_step, begins_turned, begins_in, begins, no_paths, path_of, paths_of, with_path, on_layer, one_of, point_of, orient_of, with_point, with_patch, turned, last_turned, means}
use Rattle.rc_wire.proofs.Ranges.{start, item_says}
use Rattle.rc_wire.proofs.Spelling.{no_numbers, one_number, one_number_behind, two_numbers}

-- ---- the paths so far

-- the open path has its width and no nondefault rule, or no width
abbrev pub HasHead : Bool → Wiring → Type 0
HasHead true v = IsSomeAnd v.width IsLength × (v.taper ≡ tapers.Net)
HasHead false v = v.width ≡ None

abbrev pub is_head : PathStage → Bool
is_head stages.Head = true
is_head stages.First = true
is_head _ = false

abbrev pub is_stepping : PathStage → Bool
is_stepping stages.Steps = true
is_stepping stages.AfterVia = true
is_stepping stages.Turned = true
is_stepping _ = false

-- the paths that are complete have their form, and so has the open one, up to where it is
pub record IsWiring (v : Wiring) : Type 0 where
  pub done : All (IsPathOf v.is_wide) v.paths
  pub last : IfSome v.last IsPoint
  pub head : is_head v.stage ≡ true → HasHead v.is_wide v × (v.steps ≡ [])
  pub path : is_stepping v.stage ≡ true → IsPathOf v.is_wide (path_of v)

pub no_wiring : (is_wide : Bool) (line : ℕ) → IsWiring (no_paths is_wide line)
no_wiring is_wide line = record { done = All-nil (IsPathOf is_wide); last = tt; head = λ e. absurd cc; path = λ e. absurd cc }

-- ---- what a token begins

-- where an item may begin
abbrev pub Fits : Wiring → Option PathItem → Type 0
Fits v None = is_stepping v.stage ≡ true
Fits v (Some items.Layer) = v.is_wide ≡ false
Fits v (Some items.WideLayer) = v.is_wide ≡ true
Fits v (Some items.Next) = (v.is_wide ≡ false) × (is_stepping v.stage ≡ true)
Fits v (Some items.WideNext) = (v.is_wide ≡ true) × (is_stepping v.stage ≡ true)
Fits v (Some items.Taper) = (v.is_wide ≡ false) × (is_head v.stage ≡ true)
Fits v (Some items.TaperRule) = (v.is_wide ≡ false) × (is_head v.stage ≡ true)
Fits v (Some items.Shape) = Unit {0}
Fits v (Some items.Point) = (is_head v.stage ≡ true) ⊎ ((is_stepping v.stage ≡ true) × (is_thin v.width ≡ false))
Fits v (Some items.Mask) = is_stepping v.stage ≡ true
Fits v (Some items.Patch) = (v.is_wide ≡ false) × (is_stepping v.stage ≡ true)
Fits v (Some items.Via) = is_stepping v.stage ≡ true
Fits v (Some items.Orientation) = is_stepping v.stage ≡ true

abbrev pub OkFits : Wiring → Result (Option PathItem) Code → Type 0
OkFits v (Ok item) = Fits v item
OkFits v (Err code) = Unit {0}

either : (v : Wiring) (b : Bool) (x y : Result (Option PathItem) Code) → OkFits v x → OkFits v y → OkFits v (cond b x y)
either v true x y p q = p
either v false x y p q = q

layer_fits : (v : Wiring) (b : Bool) → v.is_wide ≡ b → OkFits v (cond b (Ok (Some items.WideLayer)) (Ok (Some items.Layer)))
layer_fits v true e = e
layer_fits v false e = e

next_fits : (v : Wiring) (b : Bool) → v.is_wide ≡ b → is_stepping v.stage ≡ true → OkFits v (cond b (Ok (Some items.WideNext)) (Ok (Some items.Next)))
next_fits v true e s = (e, s)
next_fits v false e s = (e, s)

patch_fits : (v : Wiring) (b : Bool) → v.is_wide ≡ b → is_stepping v.stage ≡ true → OkFits v (cond b (Err E03) (Ok (Some items.Patch)))
patch_fits v true e s = tt
patch_fits v false e s = (e, s)

point_fits : (v : Wiring) (b : Bool) → is_thin v.width ≡ b → is_stepping v.stage ≡ true → OkFits v (cond b (Err E05) (Ok (Some items.Point)))
point_fits v true e s = tt
point_fits v false e s = inr (s, e)

first_fits : (v : Wiring) (key : Key) → is_head v.stage ≡ true → OkFits v (begins_first key)
first_fits v keys.Open h = inl h
first_fits v keys.Style h = tt
first_fits v keys.Virtual h = tt
first_fits v _ h = tt

head_fits : (v : Wiring) (b : Bool) (key : Key) → v.is_wide ≡ b → is_head v.stage ≡ true → OkFits v (begins_head b key)
head_fits v false keys.Taper e h = (e, h)
head_fits v false keys.TaperRule e h = (e, h)
head_fits v false key e h = first_fits v key h
head_fits v true keys.Plus e h = tt
head_fits v true key e h = first_fits v key h

step_fits : (v : Wiring) (key : Key) → is_stepping v.stage ≡ true → OkFits v (begins_step v key)
step_fits v keys.Open s = point_fits v (is_thin v.width) refl s
step_fits v keys.Mask s = s
step_fits v keys.Rect s = patch_fits v v.is_wide refl s
step_fits v keys.Style s = tt
step_fits v keys.Virtual s = tt
step_fits v keys.New s = next_fits v v.is_wide refl s
step_fits v keys.Plus s = s
step_fits v keys.Semicolon s = s
step_fits v key s = either v (is_name key) (Ok (Some items.Via)) (Err E03) s tt

turned_fits : (v : Wiring) (key : Key) → is_stepping v.stage ≡ true → OkFits v (begins_turned v key)
turned_fits v key s = either v (v.is_wide && is_do key) (Err E04) (begins_step v key) tt (step_fits v key s)

stage_fits : (stage : PathStage) (v : Wiring) (key : Key) → v.stage ≡ stage → OkFits v (begins_in stage v key)
stage_fits stages.Layer v key e = either v (is_name key) (cond v.is_wide (Ok (Some items.WideLayer)) (Ok (Some items.Layer))) (Err E03) (layer_fits v v.is_wide refl) tt
stage_fits stages.Head v key e = head_fits v v.is_wide key refl (ap is_head e)
stage_fits stages.First v key e = first_fits v key (ap is_head e)
stage_fits stages.Steps v key e = step_fits v key (ap is_stepping e)
stage_fits stages.AfterVia v key e = either v (is_orientation key) (Ok (Some items.Orientation)) (begins_turned v key) (ap is_stepping e) (turned_fits v key (ap is_stepping e))
stage_fits stages.Turned v key e = turned_fits v key (ap is_stepping e)

pub fits : (v : Wiring) (key : Key) (item : Option PathItem) → begins v key ≡ Ok item → Fits v item
unfolding begins
fits v key item e = subst (λ r. OkFits v r) e (stage_fits v.stage v key refl)

-- ---- steps

kind_is : (b : Bool) → b ≡ true → (b ≡ false) → ⊥
kind_is b p q = let e : true ≡ false = sym p ∙ q in cc

begins_more : (list : List Step) (step : Step) → BeginsAtPoint list → BeginsAtPoint (list ++ step ∷ [])
begins_more [] step b = absurd b
begins_more (steps.Point at ext ∷ others) step b = tt
begins_more (steps.Via name orient ∷ others) step b = absurd b
begins_more (steps.Patch x0 y0 x1 y1 ∷ others) step b = absurd b

-- no further point in a path of width 0
abbrev NoPoint : Step → Type 0
NoPoint step = is_point step ≡ false

abbrev NoPatch : Step → Type 0
NoPatch step = is_patch step ≡ false

behind_first : (list : List Step) (step : Step) → BeginsAtPoint list → All NoPoint (drop 1 list) → is_point step ≡ false → All NoPoint (drop 1 (list ++ step ∷ []))
behind_first [] step b all bare = absurd b
behind_first (first ∷ others) step b all bare = All-push NoPoint others step all bare

wide_is : (width : Option ℤ) → is_thin width ≡ false → width ≡ Some (pos 0) → ⊥
wide_is None thin e = cc
wide_is (Some z) thin e = let f : z ≡ pos 0 = cc in let g : is_thin (Some (pos 0)) ≡ false = subst (λ y. is_thin (Some y) ≡ false) f thin in cc

more_regular : (path : RawPath) (step : Step) → IsStep step → IsRegular path → IsRegular (record path { steps = path.steps ++ step ∷ [] })
more_regular path step is p = record { width = p.width; begins = begins_more path.steps step p.begins; steps = All-push IsStep path.steps step p.steps is }

more_thin : (path : RawPath) (step : Step) → IsSpecial path → (is_point step ≡ false) ⊎ (is_thin path.width ≡ false) → path.width ≡ Some (pos 0) → All NoPoint (drop 1 (path.steps ++ step ∷ []))
more_thin path step p (inl bare) e = behind_first path.steps step p.begins (p.thin e) bare
more_thin path step p (inr wide) e = absurd (wide_is path.width wide e)

more_special : (path : RawPath) (step : Step) → IsStep step → is_patch step ≡ false → (is_point step ≡ false) ⊎ (is_thin path.width ≡ false) → IsSpecial path → IsSpecial (record path { steps = path.steps ++ step ∷ [] })
more_special path step is bare thin p = record {
  width = p.width;
  taper = p.taper;
  begins = begins_more path.steps step p.begins;
  steps = All-push IsStep path.steps step p.steps is;
  no_patch = All-push NoPatch path.steps step p.no_patch bare;
  thin = λ e. more_thin path step p thin e;
}

-- a step joins a path
more : (is_wide : Bool) (path : RawPath) (step : Step) → IsStep step → (is_wide ≡ true → is_patch step ≡ false) → (is_point step ≡ false) ⊎ (is_thin path.width ≡ false) → IsPathOf is_wide path → IsPathOf is_wide (record path { steps = path.steps ++ step ∷ [] })
more true path step is bare thin p = more_special path step is (bare refl) thin p
more false path step is bare thin p = more_regular path step is p

one_step : (P : Step → Type 0) (list : List Step) (step : Step) → list ≡ [] → P step → All P (list ++ step ∷ [])
one_step P list step none is = rw none (All-cons P step [] is (All-nil P))

-- the first point of a path
first_point : (is_wide : Bool) (v : Wiring) (at : Pt) (ext : Option ℤ) → HasHead is_wide v → v.steps ≡ [] → IsStep (steps.Point at ext) → IsPathOf is_wide (record (path_of v) { steps = v.steps ++ steps.Point at ext ∷ [] })
first_point true v at ext h none is = record {
  width = h.0;
  taper = h.1;
  begins = rw none tt;
  steps = one_step IsStep v.steps (steps.Point at ext) none is;
  no_patch = one_step NoPatch v.steps (steps.Point at ext) none refl;
  thin = λ e. rw none (All-nil NoPoint);
}
first_point false v at ext h none is = record { width = h; begins = rw none tt; steps = one_step IsStep v.steps (steps.Point at ext) none is }

-- the last step is turned
turned_is : (P : Step → Type 0) (orient : Orient) → ((step : Step) → P step → P (turned orient step)) → (list : List Step) → All P list → All P (last_turned orient list)
unfolding last_turned
turned_is P orient each [] all = all
turned_is P orient each (step ∷ []) all = All-cons P (turned orient step) [] (each step (All-head P step [] all)) (All-nil P)
turned_is P orient each (step ∷ second ∷ others) all =
    All-cons P step (last_turned orient (second ∷ others)) (All-head P step (second ∷ others) all) (turned_is P orient each (second ∷ others) (All-tail P step (second ∷ others) all))

begins_turned_too : (orient : Orient) (list : List Step) → BeginsAtPoint list → BeginsAtPoint (last_turned orient list)
unfolding last_turned
begins_turned_too orient [] b = absurd b
begins_turned_too orient (steps.Point at ext ∷ []) b = tt
begins_turned_too orient (steps.Point at ext ∷ second ∷ others) b = tt
begins_turned_too orient (steps.Via name before ∷ others) b = absurd b
begins_turned_too orient (steps.Patch x0 y0 x1 y1 ∷ others) b = absurd b

step_turned : (orient : Orient) (step : Step) → IsStep step → IsStep (turned orient step)
step_turned orient (steps.Point at ext) is = is
step_turned orient (steps.Via name before) is = tt
step_turned orient (steps.Patch x0 y0 x1 y1) is = is

patch_turned : (orient : Orient) (step : Step) → NoPatch step → NoPatch (turned orient step)
patch_turned orient (steps.Point at ext) bare = bare
patch_turned orient (steps.Via name before) bare = bare
patch_turned orient (steps.Patch x0 y0 x1 y1) bare = bare

point_turned : (orient : Orient) (step : Step) → NoPoint step → NoPoint (turned orient step)
point_turned orient (steps.Point at ext) bare = bare
point_turned orient (steps.Via name before) bare = bare
point_turned orient (steps.Patch x0 y0 x1 y1) bare = bare

points_turned : (orient : Orient) (list : List Step) → All NoPoint (drop 1 list) → All NoPoint (drop 1 (last_turned orient list))
unfolding last_turned
points_turned orient [] all = all
points_turned orient (step ∷ []) all = All-nil NoPoint
points_turned orient (step ∷ second ∷ others) all = turned_is NoPoint orient (point_turned orient) (second ∷ others) all

path_turned : (is_wide : Bool) (path : RawPath) (orient : Orient) → IsPathOf is_wide path → IsPathOf is_wide (record path { steps = last_turned orient path.steps })
path_turned true path orient p = record {
  width = p.width;
  taper = p.taper;
  begins = begins_turned_too orient path.steps p.begins;
  steps = turned_is IsStep orient (step_turned orient) path.steps p.steps;
  no_patch = turned_is NoPatch orient (patch_turned orient) path.steps p.no_patch;
  thin = λ e. points_turned orient path.steps (p.thin e);
}
path_turned false path orient p = record { width = p.width; begins = begins_turned_too orient path.steps p.begins; steps = turned_is IsStep orient (step_turned orient) path.steps p.steps }

-- ---- what items make

-- a path begins behind complete ones
on_layer_is : (v : Wiring) (layer : List ℕ) (width : Option ℤ) → All (IsPathOf v.is_wide) v.paths → HasHead v.is_wide (on_layer layer width v) → IsWiring (on_layer layer width v)
on_layer_is v layer width done head = record { done = done; last = tt; head = λ e. (head, refl); path = λ e. absurd cc }

thin_head : (is_wide : Bool) (v : Wiring) (layer : List ℕ) (numbers : List ℤ) → is_wide ≡ false → numbers ≡ [] → HasHead is_wide (on_layer layer (one_of numbers) v)
thin_head true v layer numbers e none = absurd cc
thin_head false v layer numbers e none = rw none refl

wide_head : (is_wide : Bool) (v : Wiring) (layer : List ℕ) (numbers : List ℤ) → is_wide ≡ true → (z : ℤ) × (numbers ≡ z ∷ []) × IsLength z → HasHead is_wide (on_layer layer (one_of numbers) v)
wide_head false v layer numbers e one = absurd cc
wide_head true v layer numbers e (z, is, long) = rw is (long, refl)

-- the open path joins the others
joined : (v : Wiring) → IsWiring v → is_stepping v.stage ≡ true → All (IsPathOf v.is_wide) (v.paths ++ path_of v ∷ [])
joined v i s = All-push (IsPathOf v.is_wide) v.paths (path_of v) i.done (i.path s)

-- the open path goes on with these steps
goes_on : (v : Wiring) (stage : PathStage) (list : List Step) → IsWiring v → is_head stage ≡ false → IsPathOf v.is_wide (record (path_of v) { steps = list }) → IsWiring (record v { stage = stage; steps = list })
goes_on v stage list i e path = record { done = i.done; last = i.last; head = λ h. absurd (kind_is (is_head stage) h e); path = λ s. path }

to_point : (v : Wiring) (at : Pt) (ext : Option ℤ) → IsWiring v → IsPoint at → IfSome ext IsLength → IsPathOf v.is_wide (record (path_of v) { steps = v.steps ++ steps.Point at ext ∷ [] }) → IsWiring (with_point (Some at) ext v)
to_point v at ext i near long path = record { done = i.done; last = near; head = λ e. absurd cc; path = λ s. path }

point_is : (v : Wiring) (at : Pt) (ext : Option ℤ) → IsWiring v → Fits v (Some items.Point) → IsPoint at → IfSome ext IsLength → IsWiring (with_point (Some at) ext v)
point_is v at ext i (inl head) near long = to_point v at ext i near long (first_point v.is_wide v at ext (i.head head).0 (i.head head).1 (near, long))
point_is v at ext i (inr (s, wide)) near long = to_point v at ext i near long (more v.is_wide (path_of v) (steps.Point at ext) (near, long) (λ e. refl) (inr wide) (i.path s))

patch_is : (v : Wiring) (numbers : List ℤ) → IsWiring v → Fits v (Some items.Patch) → All IsCoordinate numbers → IsWiring (with_patch numbers v)
patch_is v (x0 ∷ y0 ∷ x1 ∷ y1 ∷ []) i (thin, s) near =
    let a = All-tail IsCoordinate x0 (y0 ∷ x1 ∷ y1 ∷ []) near in
    let b = All-tail IsCoordinate y0 (x1 ∷ y1 ∷ []) a in
    let c = All-tail IsCoordinate x1 (y1 ∷ []) b in
    let low : IsPoint (record { x = x0; y = y0 }) = record { x = All-head IsCoordinate x0 (y0 ∷ x1 ∷ y1 ∷ []) near; y = All-head IsCoordinate y0 (x1 ∷ y1 ∷ []) a } in
    let high : IsPoint (record { x = x1; y = y1 }) = record { x = All-head IsCoordinate x1 (y1 ∷ []) b; y = All-head IsCoordinate y1 [] c } in
    goes_on v stages.Steps (v.steps ++ steps.Patch x0 y0 x1 y1 ∷ []) i refl
    (more v.is_wide (path_of v) (steps.Patch x0 y0 x1 y1) (low, high) (λ e. absurd (kind_is v.is_wide e thin)) (inl refl) (i.path s))
patch_is v [] i (thin, s) near = goes_on v stages.Steps v.steps i refl (i.path s)
patch_is v (a ∷ []) i (thin, s) near = goes_on v stages.Steps v.steps i refl (i.path s)
patch_is v (a ∷ b ∷ []) i (thin, s) near = goes_on v stages.Steps v.steps i refl (i.path s)
patch_is v (a ∷ b ∷ c ∷ []) i (thin, s) near = goes_on v stages.Steps v.steps i refl (i.path s)
patch_is v (a ∷ b ∷ c ∷ d ∷ e ∷ others) i (thin, s) near = goes_on v stages.Steps v.steps i refl (i.path s)

no_rule : (is_wide : Bool) (v w : Wiring) → is_wide ≡ false → w.width ≡ v.width → HasHead is_wide v → HasHead is_wide w
no_rule true v w e same h = absurd cc
no_rule false v w e same h = same ∙ h

taper_is : (v w : Wiring) → IsWiring v → Fits v (Some items.Taper) → w ≡ record v { taper = w.taper; stage = stages.First } → IsWiring w
taper_is v w i (thin, head) e = subst (λ u. IsWiring u) (sym e) (record { done = i.done; last = i.last; head = λ h. (no_rule v.is_wide v (record v { taper = w.taper; stage = stages.First }) thin refl (i.head head).0, (i.head head).1); path = λ h. absurd cc })

-- an item keeps the forms of paths
pub item_is : (item : PathItem) (v : Wiring) (line : ℕ) (words : List Lexeme) (said : Operands) → Fits v (Some item) → Spelled (form_of item) 0 (start v.last line) words said → IsWiring v → IsWiring (means item v said)
unfolding form_of means
item_is items.Layer v line words said f spells i = on_layer_is v said.name (one_of said.numbers) i.done (thin_head v.is_wide v said.name said.numbers f (no_numbers said (item_says (λ z. ⊥) (form_of items.Layer) v.last line words said (λ z h. h, tt) i.last spells)))
item_is items.WideLayer v line words said f spells i = on_layer_is v said.name (one_of said.numbers) i.done (wide_head v.is_wide v said.name said.numbers f (one_number v.last line words said spells))
item_is items.Next v line words said f spells i =
    on_layer_is (with_path v) said.name (one_of said.numbers) (joined v i f.1)
    (thin_head v.is_wide (with_path v) said.name said.numbers f.0 (no_numbers said (item_says (λ z. ⊥) (form_of items.Next) v.last line words said (λ z h. h, (λ z h. h, tt)) i.last spells)))
item_is items.WideNext v line words said f spells i = on_layer_is (with_path v) said.name (one_of said.numbers) (joined v i f.1) (wide_head v.is_wide (with_path v) said.name said.numbers f.0 (one_number_behind v.last line words said spells))
item_is items.Taper v line words said f spells i = taper_is v (record v { taper = tapers.Layer; stage = stages.First }) i f refl
item_is items.TaperRule v line words said f spells i = taper_is v (record v { taper = tapers.Rule said.name; stage = stages.First }) i f refl
item_is items.Shape v line words said f spells i = i
item_is items.Point v line words said f spells i =
    let p = two_numbers v.last line words said i.last spells in
    let e : point_of said.numbers ≡ Some (record { x = p.0; y = p.1 }) = ap point_of p.2 in
    let s = item_says IsCoordinate (form_of items.Point) v.last line words said (λ z h. absurd h, (λ z h. h, (λ z h. h, (λ z h. absurd h, (λ z h. absurd h, (λ z h. absurd h, tt)))))) i.last spells in
    rw e (point_is v (record { x = p.0; y = p.1 }) said.extension i f (record { x = p.3; y = p.4 }) s.extension)
item_is items.Mask v line words said f spells i = goes_on v stages.Steps v.steps i refl (i.path f)
item_is items.Patch v line words said f spells i =
    let s = item_says IsCoordinate (form_of items.Patch) v.last line words said (λ z h. absurd h, (λ z h. absurd h, (λ z h. h, (λ z h. h, (λ z h. h, (λ z h. h, (λ z h. absurd h, tt))))))) i.last spells in
    patch_is v said.numbers i f s.numbers
item_is items.Via v line words said f spells i = goes_on v stages.AfterVia (v.steps ++ steps.Via said.name orients.N ∷ []) i refl (more v.is_wide (path_of v) (steps.Via said.name orients.N) tt (λ e. refl) (inl refl) (i.path f))
item_is items.Orientation v line words said f spells i = goes_on v stages.Turned (last_turned (orient_of said.chosen) v.steps) i refl (path_turned v.is_wide (path_of v) (orient_of said.chosen) (i.path f))

-- an item leaves the kind of the paths
pub same_kind : (item : PathItem) (v : Wiring) (said : Operands) → (means item v said).is_wide ≡ v.is_wide
unfolding means
same_kind items.Point v said = by (point_of said.numbers)
  where
    by : (at : Option Pt) → (with_point at said.extension v).is_wide ≡ v.is_wide
    by (Some at) = refl
    by None = refl
same_kind items.Patch v said = by said.numbers
  where
    by : (numbers : List ℤ) → (with_patch numbers v).is_wide ≡ v.is_wide
    by (x0 ∷ y0 ∷ x1 ∷ y1 ∷ []) = refl
    by [] = refl
    by (a ∷ []) = refl
    by (a ∷ b ∷ []) = refl
    by (a ∷ b ∷ c ∷ []) = refl
    by (a ∷ b ∷ c ∷ d ∷ e ∷ others) = refl
same_kind _ v said = refl

-- the list ends where its last path has its form
pub all_paths : (v : Wiring) (key : Key) → IsWiring v → begins v key ≡ Ok None → All (IsPathOf v.is_wide) (paths_of v)
all_paths v key i e = joined v i (fits v key None e)
