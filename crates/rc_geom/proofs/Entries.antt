-- Where a key has parts.
use Rattle.std.proofs.Common.{◌≡◌, ◌≤◌, ◌<◌, ◌+◌, ◌⊎◌, inl, inr, ⊎_elim, ℕ, zero, suc, ℤ, pos, ◌+ℤ◌, ◌-ℤ◌, ◌≤ℤ◌, ◌<ℤ◌, Bool, true, false, cond, not, [], Option, Some, None, refl, ap, sym, ◌∙◌, subst, arith}
use Rattle.std.proofs.lemmas.List.Elements.{All-nil}
use Rattle.std.specs.Prelude.{All, IfSome, option_map, ◌==◌, ◌&&◌, ◌||◌, IsSomeAnd, is_some}
use Rattle.std.specs.Option.{option_map_or}
use Rattle.std.proofs.lemmas.Int.{ints}
use Rattle.std.proofs.lemmas.Bool.{cases_lt, cases_Bool, and_parts, and_from, eqb-true, eq-eqb, true≢false}
use Rattle.rc_geom.specs.declared.rect.Pt.{Pt}
use Rattle.rc_geom.specs.declared.rect.Rect.{Rect}
use Rattle.rc_geom.specs.declared.key.Key.{Key}
use Rattle.rc_geom.specs.declared.key.Key.TheVariants.{Ground}
use Rattle.rc_geom.specs.Rects.{covers}
use Rattle.rc_geom.specs.Plane.{Metal, Plane, HoldsMetal, is_grounded}
use Rattle.rc_geom.specs.Line.{Line, ray, line_of, square_of, at_distance}
use Rattle.rc_geom.specs.Faces.{Face, Seen, sight, face_at}
use Rattle.rc_geom.specs.Context.{layer_count, under, over}
use Rattle.rc_geom.specs.Rates.{Rates, rate_of}
use Rattle.rc_geom.specs.Parts.{Part, parts, worth_at, foreign_metal, is_metal, sees, sees_grounded}
use Rattle.rc_geom.specs.Sums.{numbers, total, natural, extent, total_between, first_line, end_line, first_place, end_place, both_directions, layer_sum, square_sum}
use Rattle.rc_geom.specs.Extraction.{face_of, parts_of, count_in, key_count}
use Rattle.rc_geom.specs.Laws.{IsFaceOf, NodesOwnFaces, RatesAreSound, SoundRatesSuffice}
use Rattle.rc_geom.proofs.Totals.{total_none, total_suc, extent_is, counted, natural_is}
use Rattle.rc_geom.proofs.Areas.{crosses, numbers_are_neutral}
use Rattle.rc_geom.proofs.Rays.{face_tells, end_tells, ray-start, sight_is_mutual, sight_tells, faces_are_thick}
use Rattle.rc_geom.proofs.Words.{nodes_in_words, parts_are_sound}

-- ---- totals of numbers

total_some : (n : ℕ) (f : ℕ → ℕ) → 0 < total numbers n f → (k : ℕ) × (k < n) × (0 < f k)
total_some zero f h = let none = total_none numbers f in absurd (omega arith)
total_some (suc n) f h =
    let more : total numbers (suc n) f ≡ total numbers n f + f n = total_suc numbers n (suc n) f (omega arith) in
    ⊎_elim
    (λ (some : 0 < f n). (n, omega arith, some))
    (λ (none : f n ≤ 0). let found = total_some n f (omega (arith, more)) in (found.0, omega (arith, found.1), found.2))
    (cases_lt 0 (f n))

total_at : (n : ℕ) (f : ℕ → ℕ) (k : ℕ) → k < n → f k ≤ total numbers n f
total_at zero f k less = absurd (omega arith)
total_at (suc n) f k less =
    let more : total numbers (suc n) f ≡ total numbers n f + f n = total_suc numbers n (suc n) f (omega arith) in
    ⊎_elim
    (λ (before : k < n). let h = total_at n f k before in omega (arith, more, h))
    (λ (here : n ≤ k). let e : k ≡ n = omega arith in subst (λ (m : ℕ). f m ≤ total numbers (suc n) f) (sym e) (omega (arith, more)))
    (cases_lt k n)

between_some : (lo hi : ℤ) (f : ℤ → ℕ) → 0 < total_between numbers lo hi f → (z : ℤ) × (lo ≤ℤ z) × (z <ℤ hi) × (0 < f z)
between_some lo hi f h =
    let found = total_some (extent lo hi) (λ k. f (lo +ℤ pos k)) h in
    (lo +ℤ pos found.0, omega (arith, ints), counted lo hi found.0 found.1, found.2)

between_at : (lo hi : ℤ) (f : ℤ → ℕ) (z : ℤ) → lo ≤ℤ z → z <ℤ hi → f z ≤ total_between numbers lo hi f
between_at lo hi f z low high =
    let k = natural (z -ℤ lo) in
    let is_k : pos k ≡ z -ℤ lo = natural_is (z -ℤ lo) (omega (arith, ints)) in
    let wide : pos (extent lo hi) ≡ hi -ℤ lo = extent_is lo hi (omega (arith, ints)) in
    let place : lo +ℤ pos k ≡ z = omega (arith, ints, is_k) in
    subst (λ (w : ℤ). f w ≤ total_between numbers lo hi f) place (total_at (extent lo hi) (λ m. f (lo +ℤ pos m)) k (omega (arith, ints, is_k, wide)))

-- ---- squares

way_some : (f : Bool → ℕ) → 0 < both_directions numbers f → (up : Bool) × (0 < f up)
way_some f h = ⊎_elim
    (λ (some : 0 < f false). (false, some))
    (λ (none : f false ≤ 0). (true, omega arith))
    (cases_lt 0 (f false))

way_at : (f : Bool → ℕ) (up : Bool) → f up ≤ both_directions numbers f
way_at f true = omega arith
way_at f false = omega arith

pub square_some : (axis : ℕ) (r : Rect) (f : ℕ → ℤ → ℤ → Bool → ℕ) → 0 < square_sum numbers axis r f → (layer : ℕ) × (at : ℤ) × (along : ℤ) × (up : Bool) × (layer < layer_count) × (0 < f layer at along up)
square_some axis r f h =
    let on = total_some layer_count (λ layer. layer_sum numbers axis r (f layer)) h in
    let crossing = between_some (first_line axis r) (end_line axis r) (λ at. total_between numbers (first_place axis r) (end_place axis r) (λ along. both_directions numbers (f on.0 at along))) on.2 in
    let place = between_some (first_place axis r) (end_place axis r) (λ along. both_directions numbers (f on.0 crossing.0 along)) crossing.3 in
    let way = way_some (f on.0 crossing.0 place.0) place.3 in
    (on.0, crossing.0, place.0, way.0, on.1, way.1)

pub square_at : (axis : ℕ) (r : Rect) (f : ℕ → ℤ → ℤ → Bool → ℕ) (layer : ℕ) (at along : ℤ) (up : Bool) → layer < layer_count → covers r (square_of axis at along) ≡ true → f layer at along up ≤ square_sum numbers axis r f
square_at axis r f layer at along up small inside =
    let c = crosses axis r at along inside in
    let way = way_at (f layer at along) up in
    let place = between_at (first_place axis r) (end_place axis r) (λ z. both_directions numbers (f layer at z)) along c.place_low c.place_high in
    let crossing = between_at (first_line axis r) (end_line axis r) (λ w. total_between numbers (first_place axis r) (end_place axis r) (λ z. both_directions numbers (f layer w z))) at c.line_low c.line_high in
    let on = total_at layer_count (λ l. layer_sum numbers axis r (f l)) layer small in
    omega (arith, way, place, crossing, on)

-- ---- faces of a node

pub one_metal : (a b : Metal) → is_metal a b ≡ true → a ≡ b
one_metal a b h =
    let both = and_parts (a.0 == b.0) (a.1 == b.1) h in
    let net = eqb-true a.0 b.0 both.0 in
    let node = eqb-true a.1 b.1 both.1 in
    λ i. (net i, node i)

neither : (own seen_g grounded seen : Bool) → own ≡ false → seen ≡ false → 0 < cond own 1 0 + cond ((own && seen_g) || (grounded && seen)) 1 0 → ⊥
neither own seen_g grounded seen is_own is_seen h = grind arith

-- a face that adds to a node's key is the node's, or it is of grounded metal and sees the node
count_cases : {V : Type 0} (face : Face) (rate : V × V) (a : Metal) → 0 < a.1 → 0 < worth_at numbers (λ _. 1) (Ground a.0 a.1) (parts face rate) → (is_metal face.own a ≡ true) ⊎ (sees face a ≡ true)
count_cases face rate a big h =
    let words = nodes_in_words numbers (λ _. true) (λ _. 1) face rate a numbers_are_neutral refl refl big in
    ⊎_elim
    (λ (own : is_metal face.own a ≡ true). inl own)
    (λ (other : is_metal face.own a ≡ false). ⊎_elim
    (λ (seen : sees face a ≡ true). inr seen)
    (λ (unseen : sees face a ≡ false). absurd (neither (is_metal face.own a) (sees_grounded face) (is_grounded face.own) (sees face a) other unseen (subst (λ (n : ℕ). 0 < n) words h)))
    (cases_Bool (sees face a)))
    (cases_Bool (is_metal face.own a))

-- the metal that a face sees, with its gap
seen_one : (metal own a : Metal) (c : Bool) → option_map_or (λ m. is_metal m a) (cond c None (Some metal)) false ≡ true → is_metal metal a ≡ true
seen_one metal own a true h = absurd (true≢false (sym h))
seen_one metal own a false h = h

pub seen_gap : (own : Metal) (sight : Option Seen) (a : Metal) → option_map_or (λ metal. is_metal metal a) (foreign_metal own sight) false ≡ true → (d : ℕ) × (sight ≡ Some (d, a))
seen_gap own None a h = absurd (true≢false (sym h))
seen_gap own (Some s) a h = (s.0, ap Some (λ i. (s.0, one_metal s.1 a (seen_one s.1 own a (s.1.0 == own.0) h) i)))

-- of what is known of an optional face, the part on whose it is
first_of_both : (o : Option Face) (a : Metal) (s : Option Seen) → IsSomeAnd o (λ other. (other.own ≡ a) × (other.sight ≡ s)) → IsSomeAnd o (λ other. other.own ≡ a)
first_of_both None a s h = h
first_of_both (Some face) a s h = h.0

face_of_seen : {V : Type 0} (plane : Plane) (rates : Rates V) (a : Metal) (axis layer : ℕ) (at along : ℤ) (up : Bool) (face : Face) → axis < 2 → layer < layer_count → face_of plane rates axis layer at along up ≡ Some face → sees face a ≡ true → (axis : ℕ) × (layer : ℕ) × (at : ℤ) × (along : ℤ) × (up : Bool) × IsFaceOf plane rates a axis layer at along up
face_of_seen plane rates a axis layer at along up face an_axis a_layer is seen =
    let found = seen_gap face.own face.sight a seen in
    let there = at_distance up along (found.0 + 1) in
    let back = sight_is_mutual (rates.cap layer) (rates.reach layer) (line_of plane layer axis at) up along face found.0 a is found.1 in
    (axis, layer, at, there, not up, record { an_axis = an_axis; a_layer = a_layer; owns = first_of_both (face_of plane rates axis layer at there (not up)) a (Some (found.0, face.own)) back })

-- a square whose face adds to a node's key leads to a face of the node
face_found : {V : Type 0} (plane : Plane) (rates : Rates V) (a : Metal) (axis layer : ℕ) (at along : ℤ) (up : Bool) (o : Option Face) → 0 < a.1 → axis < 2 → layer < layer_count → face_of plane rates axis layer at along up ≡ o →
    0 < worth_at numbers (λ _. 1) (Ground a.0 a.1) (option_map_or (λ face. parts face (rate_of rates plane layer (square_of axis at along) face)) o []) →
    (axis : ℕ) × (layer : ℕ) × (at : ℤ) × (along : ℤ) × (up : Bool) × IsFaceOf plane rates a axis layer at along up
face_found plane rates a axis layer at along up None big an_axis a_layer is h = absurd (omega arith)
face_found plane rates a axis layer at along up (Some face) big an_axis a_layer is h = ⊎_elim
    (λ (own : is_metal face.own a ≡ true). (axis, layer, at, along, up, record { an_axis = an_axis; a_layer = a_layer; owns = subst (λ (o : Option Face). IsSomeAnd o (λ f. f.own ≡ a)) (sym is) (one_metal face.own a own) }))
    (λ (seen : sees face a ≡ true). face_of_seen plane rates a axis layer at along up face an_axis a_layer is seen)
    (count_cases face (rate_of rates plane layer (square_of axis at along) face) a big h)

pub same_metal : (a : Metal) → is_metal a a ≡ true
same_metal a = and_from (a.0 == a.0) (a.1 == a.1) (eq-eqb a.0 a.0 refl) (eq-eqb a.1 a.1 refl)

counts : (c d : Bool) → c ≡ true → 0 < cond c 1 0 + cond d 1 0
counts c d h = grind arith

-- a face of a node adds to its key
face_counts : {V : Type 0} (plane : Plane) (rates : Rates V) (a : Metal) (axis layer : ℕ) (at along : ℤ) (o : Option Face) → 0 < a.1 → IsSomeAnd o (λ face. face.own ≡ a) → 0 < worth_at numbers (λ _. 1) (Ground a.0 a.1) (option_map_or (λ face. parts face (rate_of rates plane layer (square_of axis at along) face)) o [])
face_counts plane rates a axis layer at along None big owns = absurd owns
face_counts plane rates a axis layer at along (Some face) big owns =
    let rate = rate_of rates plane layer (square_of axis at along) face in
    let words = nodes_in_words numbers (λ _. true) (λ _. 1) face rate a numbers_are_neutral refl refl big in
    let own : is_metal face.own a ≡ true = ap (λ (m : Metal). is_metal m a) owns ∙ same_metal a in
    subst (λ (n : ℕ). 0 < n) (sym words) (counts (is_metal face.own a) ((is_metal face.own a && sees_grounded face) || (is_grounded face.own && sees face a)) own)

-- a face stands on metal
pub face_metal : (cap reach : ℕ) (line : Line) (up : Bool) (z : ℤ) (o : Option Face) → face_at cap reach line up z ≡ o → IsSomeAnd o (λ _. Unit {0}) → is_some (line z) ≡ true
face_metal cap reach line up z None is some = absurd some
face_metal cap reach line up z (Some face) is some =
    let first = end_tells (ray up line z) face.own (face_tells cap reach line up z face is).0 in
    ap is_some (sym (ray-start line up z) ∙ first.0)

weaken : (o : Option Face) (a : Metal) → IsSomeAnd o (λ face. face.own ≡ a) → IsSomeAnd o (λ _. Unit {0})
weaken None a h = h
weaken (Some face) a h = tt

-- the parts of a node's key, by the two axes
axis_found : {V : Type 0} (plane : Plane) (rates : Rates V) (r : Rect) (a : Metal) (axis : ℕ) → axis < 2 → 0 < a.1 → 0 < count_in plane rates axis r (Ground a.0 a.1) → (axis : ℕ) × (layer : ℕ) × (at : ℤ) × (along : ℤ) × (up : Bool) × IsFaceOf plane rates a axis layer at along up
axis_found plane rates r a axis an_axis big h =
    let found = square_some axis r (λ layer at along up. worth_at numbers (λ _. 1) (Ground a.0 a.1) (parts_of plane rates axis layer at along up)) h in
    face_found plane rates a axis found.0 found.1 found.2 found.3 (face_of plane rates axis found.0 found.1 found.2 found.3) big an_axis found.4 refl found.5

axis_counts : {V : Type 0} (plane : Plane) (rates : Rates V) (r : Rect) (a : Metal) (axis layer : ℕ) (at along : ℤ) (up : Bool) → HoldsMetal r plane → 0 < a.1 → IsFaceOf plane rates a axis layer at along up → 0 < count_in plane rates axis r (Ground a.0 a.1)
axis_counts plane rates r a axis layer at along up holds big h =
    let face = face_of plane rates axis layer at along up in
    let metal : is_some (plane layer (square_of axis at along)) ≡ true = face_metal (rates.cap layer) (rates.reach layer) (line_of plane layer axis at) up along face refl (weaken face a h.owns) in
    let inside : covers r (square_of axis at along) ≡ true = ⊎_elim
    (λ (yes' : covers r (square_of axis at along) ≡ true). yes')
    (λ (out : covers r (square_of axis at along) ≡ false). absurd (true≢false (sym metal ∙ ap is_some (holds layer (square_of axis at along) out))))
    (cases_Bool (covers r (square_of axis at along))) in
    let some = face_counts plane rates a axis layer at along face big h.owns in
    let most = square_at axis r (λ layer at along up. worth_at numbers (λ _. 1) (Ground a.0 a.1) (parts_of plane rates axis layer at along up)) layer at along up h.a_layer inside in
    omega (arith, some, most)

pub either_axis : {V : Type 0} (plane : Plane) (rates : Rates V) (r : Rect) (key : Key) (axis : ℕ) → axis < 2 → count_in plane rates axis r key ≤ key_count plane rates r key
either_axis plane rates r key zero h = omega arith
either_axis plane rates r key (suc zero) h = omega arith
either_axis plane rates r key (suc (suc n)) h = absurd (omega arith)

pub nodes_own_faces : {V : Type 0} → NodesOwnFaces V
nodes_own_faces plane rates r a holds big = (
  λ some. ⊎_elim
      (λ (first : 0 < count_in plane rates 0 r (Ground a.0 a.1)). axis_found plane rates r a 0 (omega arith) big first)
      (λ (none : count_in plane rates 0 r (Ground a.0 a.1) ≤ 0). axis_found plane rates r a 1 (omega arith) big (omega arith))
      (cases_lt 0 (count_in plane rates 0 r (Ground a.0 a.1))),
  λ found.
      let here = axis_counts plane rates r a found.0 found.1 found.2 found.3 found.4 holds big found.5 in
      let most = either_axis plane rates r (Ground a.0 a.1) found.0 found.5.an_axis in
      omega (arith, here, most),
)

-- ---- sound amounts

seen_within : (reach : ℕ) (line : Line) (up : Bool) (z : ℤ) (s : Option Seen) → s ≡ sight reach (ray up line z) → IfSome (option_map {U = ℕ} (λ seen. seen.0) s) (λ d. (1 ≤ d) × (d ≤ reach))
seen_within reach line up z None is = tt
seen_within reach line up z (Some seen) is =
    let first = sight_tells reach (ray up line z) seen.0 seen.1 (sym is) in
    (first.least, first.most)

face_sound : {V W : Type 0} (sound : W → Bool) (worth : V → W) (plane : Plane) (rates : Rates V) (axis layer : ℕ) (at along : ℤ) (up : Bool) (o : Option Face) → ((p : Pt) → is_some (plane layer p) ≡ true → 1 ≤ rates.cap layer) → RatesAreSound sound worth plane rates → face_of plane rates axis layer at along up ≡ o → All (λ part. sound (worth part.amount) ≡ true) (option_map_or (λ face. parts face (rate_of rates plane layer (square_of axis at along) face)) o [])
face_sound {V = X} sound worth plane rates axis layer at along up None caps each is = All-nil (λ (part : Part X). sound (worth part.amount) ≡ true)
face_sound sound worth plane rates axis layer at along up (Some face) caps each is =
    let square = square_of axis at along in
    let line = line_of plane layer axis at in
    let told = face_tells (rates.cap layer) (rates.reach layer) line up along face is in
    let metal : is_some (plane layer square) ≡ true = face_metal (rates.cap layer) (rates.reach layer) line up along (Some face) is tt in
    let thick = subst (λ (o : Option Face). IfSome o (λ face. (1 ≤ face.thick) × (face.thick ≤ rates.cap layer))) is (faces_are_thick (rates.cap layer) (rates.reach layer) line up along (caps square metal)) in
    let both = each layer square (under plane layer square) (over plane layer square) face.thick (option_map (λ seen. seen.0) face.sight) metal thick.0 thick.1 (seen_within (rates.reach layer) line up along face.sight told.2) in
    parts_are_sound sound worth face (rate_of rates plane layer square face) both.0 both.1

pub sound_rates_suffice : {V W : Type 0} → SoundRatesSuffice V W
sound_rates_suffice sound worth plane rates caps each axis layer at along up =
    face_sound sound worth plane rates axis layer at along up (face_of plane rates axis layer at along up) (caps layer) each refl
