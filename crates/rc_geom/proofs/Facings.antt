-- Where two nodes have a key in common.
use Rattle.std.proofs.Common.{◌≡◌, ◌≢◌, ◌≤◌, ◌<◌, ◌+◌, ◌⊎◌, inl, inr, ⊎_elim, ℕ, ℤ, Bool, true, false, cond, not, [], Option, Some, None, refl, ap, sym, ◌∙◌, subst, arith}
use Rattle.std.specs.Prelude.{IsSomeAnd, is_some, ◌&&◌, ◌||◌, ◌==◌}
use Rattle.std.specs.Option.{option_map_or}
use Rattle.std.proofs.lemmas.Bool.{cases_lt, cases_Bool, and_parts, and_from, eqb-true, true≢false}
use Rattle.rc_geom.specs.declared.rect.Rect.{Rect}
use Rattle.rc_geom.specs.Rects.{covers}
use Rattle.rc_geom.specs.Plane.{Metal, Plane, HoldsMetal}
use Rattle.rc_geom.specs.Line.{line_of, square_of, at_distance}
use Rattle.rc_geom.specs.Faces.{Face, Seen}
use Rattle.rc_geom.specs.Context.{layer_count}
use Rattle.rc_geom.specs.Rates.{Rates, rate_of}
use Rattle.rc_geom.specs.Parts.{parts, worth_at, pair_key, foreign_metal, is_metal, sees}
use Rattle.rc_geom.specs.Sums.{numbers}
use Rattle.rc_geom.specs.Extraction.{face_of, parts_of, count_in}
use Rattle.rc_geom.specs.Laws.{IsFacing, PairsFace}
use Rattle.rc_geom.proofs.Areas.{numbers_are_neutral}
use Rattle.rc_geom.proofs.Rays.{sight_is_mutual}
use Rattle.rc_geom.proofs.Words.{couplings_in_words}
use Rattle.rc_geom.proofs.Entries.{square_some, square_at, one_metal, seen_gap, same_metal, face_metal, either_axis}

either : (c d : Bool) → 0 < cond (c || d) 1 0 → (c ≡ true) ⊎ (d ≡ true)
either true d h = inl refl
either false true h = inr refl
either false false h = absurd (omega arith)

-- a face that adds to the key of two nodes is the one's and sees the other
key_cases : {V : Type 0} (face : Face) (rate : V × V) (a b : Metal) → 0 < a.1 → 0 < b.1 → a.0 ≢ b.0 → 0 < worth_at numbers (λ _. 1) (pair_key a b) (parts face rate) → ((is_metal face.own a && sees face b) ≡ true) ⊎ ((is_metal face.own b && sees face a) ≡ true)
key_cases face rate a b big_a big_b apart h =
    let words = couplings_in_words numbers (λ _. true) (λ _. 1) face rate a b numbers_are_neutral refl refl big_a big_b apart in
    either (is_metal face.own a && sees face b) (is_metal face.own b && sees face a) (subst (λ (n : ℕ). 0 < n) words h)

-- metal that has another net behind a gap sees it
sees_there : (a b : Metal) (d : ℕ) (c : Bool) → (b.0 == a.0) ≡ c → a.0 ≢ b.0 → option_map_or (λ metal. is_metal metal b) (cond c None (Some b)) false ≡ true
sees_there a b d true same apart = absurd (apart (sym (eqb-true b.0 a.0 same)))
sees_there a b d false same apart = same_metal b

looks_back : (own : Metal) (sight : Option Seen) (a b : Metal) (d : ℕ) → own ≡ a → sight ≡ Some (d, b) → a.0 ≢ b.0 → option_map_or (λ metal. is_metal metal b) (foreign_metal own sight) false ≡ true
looks_back own sight a b d is_a at_b apart =
    ap (λ (m : Metal). option_map_or (λ metal. is_metal metal b) (foreign_metal m sight) false) is_a
    ∙ (ap (λ (s : Option Seen). option_map_or (λ metal. is_metal metal b) (foreign_metal a s) false) at_b
    ∙ sees_there a b d (b.0 == a.0) refl apart)

facing_back : (o : Option Face) (a b own : Metal) (d : ℕ) → own ≡ b → a.0 ≢ b.0 → IsSomeAnd o (λ other. (other.own ≡ a) × (other.sight ≡ Some (d, own))) → IsSomeAnd o (λ other. (other.own ≡ a) × (sees other b ≡ true))
facing_back None a b own d is_b apart h = h
facing_back (Some other) a b own d is_b apart h = (h.0, looks_back other.own other.sight a b d h.0 (h.1 ∙ ap (λ (m : Metal). Some (d, m)) is_b) apart)

-- a square whose face adds to the key leads to a face of the one node that sees the other
facing_found : {V : Type 0} (plane : Plane) (rates : Rates V) (a b : Metal) (axis layer : ℕ) (at along : ℤ) (up : Bool) (o : Option Face) → 0 < a.1 → 0 < b.1 → a.0 ≢ b.0 → axis < 2 → layer < layer_count → face_of plane rates axis layer at along up ≡ o →
    0 < worth_at numbers (λ _. 1) (pair_key a b) (option_map_or (λ face. parts face (rate_of rates plane layer (square_of axis at along) face)) o []) →
    (axis : ℕ) × (layer : ℕ) × (at : ℤ) × (along : ℤ) × (up : Bool) × IsFacing plane rates a b axis layer at along up
facing_found plane rates a b axis layer at along up None big_a big_b apart an_axis a_layer is h = absurd (omega arith)
facing_found plane rates a b axis layer at along up (Some face) big_a big_b apart an_axis a_layer is h = ⊎_elim
    (λ (first : (is_metal face.own a && sees face b) ≡ true).
    let both = and_parts (is_metal face.own a) (sees face b) first in
    (axis, layer, at, along, up, record { an_axis = an_axis; a_layer = a_layer; faces = subst (λ (o : Option Face). IsSomeAnd o (λ f. (f.own ≡ a) × (sees f b ≡ true))) (sym is) (one_metal face.own a both.0, both.1) }))
    (λ (second : (is_metal face.own b && sees face a) ≡ true).
    let both = and_parts (is_metal face.own b) (sees face a) second in
    let found = seen_gap face.own face.sight a both.1 in
    let there = at_distance up along (found.0 + 1) in
    let back = sight_is_mutual (rates.cap layer) (rates.reach layer) (line_of plane layer axis at) up along face found.0 a is found.1 in
    (axis, layer, at, there, not up, record { an_axis = an_axis; a_layer = a_layer; faces = facing_back (face_of plane rates axis layer at there (not up)) a b face.own found.0 (one_metal face.own b both.0) apart back }))
    (key_cases face (rate_of rates plane layer (square_of axis at along) face) a b big_a big_b apart h)

first_counts : (c d : Bool) → c ≡ true → 0 < cond (c || d) 1 0
first_counts true d h = omega arith
first_counts false d h = absurd (true≢false (sym h))

-- a face of the one node that sees the other adds to the key
facing_counts : {V : Type 0} (plane : Plane) (rates : Rates V) (a b : Metal) (axis layer : ℕ) (at along : ℤ) (o : Option Face) → 0 < a.1 → 0 < b.1 → a.0 ≢ b.0 → IsSomeAnd o (λ face. (face.own ≡ a) × (sees face b ≡ true)) → 0 < worth_at numbers (λ _. 1) (pair_key a b) (option_map_or (λ face. parts face (rate_of rates plane layer (square_of axis at along) face)) o [])
facing_counts plane rates a b axis layer at along None big_a big_b apart faces = absurd faces
facing_counts plane rates a b axis layer at along (Some face) big_a big_b apart faces =
    let rate = rate_of rates plane layer (square_of axis at along) face in
    let words = couplings_in_words numbers (λ _. true) (λ _. 1) face rate a b numbers_are_neutral refl refl big_a big_b apart in
    let own : is_metal face.own a ≡ true = ap (λ (m : Metal). is_metal m a) faces.0 ∙ same_metal a in
    subst (λ (n : ℕ). 0 < n) (sym words) (first_counts (is_metal face.own a && sees face b) (is_metal face.own b && sees face a) (and_from (is_metal face.own a) (sees face b) own faces.1))

some_face : (o : Option Face) (a b : Metal) → IsSomeAnd o (λ face. (face.own ≡ a) × (sees face b ≡ true)) → IsSomeAnd o (λ _. Unit {0})
some_face None a b h = h
some_face (Some face) a b h = tt

axis_found : {V : Type 0} (plane : Plane) (rates : Rates V) (r : Rect) (a b : Metal) (axis : ℕ) → axis < 2 → 0 < a.1 → 0 < b.1 → a.0 ≢ b.0 → 0 < count_in plane rates axis r (pair_key a b) → (axis : ℕ) × (layer : ℕ) × (at : ℤ) × (along : ℤ) × (up : Bool) × IsFacing plane rates a b axis layer at along up
axis_found plane rates r a b axis an_axis big_a big_b apart h =
    let found = square_some axis r (λ layer at along up. worth_at numbers (λ _. 1) (pair_key a b) (parts_of plane rates axis layer at along up)) h in
    facing_found plane rates a b axis found.0 found.1 found.2 found.3 (face_of plane rates axis found.0 found.1 found.2 found.3) big_a big_b apart an_axis found.4 refl found.5

axis_counts : {V : Type 0} (plane : Plane) (rates : Rates V) (r : Rect) (a b : Metal) (axis layer : ℕ) (at along : ℤ) (up : Bool) → HoldsMetal r plane → 0 < a.1 → 0 < b.1 → a.0 ≢ b.0 → IsFacing plane rates a b axis layer at along up → 0 < count_in plane rates axis r (pair_key a b)
axis_counts plane rates r a b axis layer at along up holds big_a big_b apart h =
    let face = face_of plane rates axis layer at along up in
    let metal : is_some (plane layer (square_of axis at along)) ≡ true = face_metal (rates.cap layer) (rates.reach layer) (line_of plane layer axis at) up along face refl (some_face face a b h.faces) in
    let inside : covers r (square_of axis at along) ≡ true = ⊎_elim
    (λ (yes' : covers r (square_of axis at along) ≡ true). yes')
    (λ (out : covers r (square_of axis at along) ≡ false). absurd (true≢false (sym metal ∙ ap is_some (holds layer (square_of axis at along) out))))
    (cases_Bool (covers r (square_of axis at along))) in
    let some = facing_counts plane rates a b axis layer at along face big_a big_b apart h.faces in
    let most = square_at axis r (λ layer at along up. worth_at numbers (λ _. 1) (pair_key a b) (parts_of plane rates axis layer at along up)) layer at along up h.a_layer inside in
    omega (arith, some, most)

pub pairs_face : {V : Type 0} → PairsFace V
pairs_face plane rates r a b holds big_a big_b apart = (
  λ some. ⊎_elim
      (λ (first : 0 < count_in plane rates 0 r (pair_key a b)). axis_found plane rates r a b 0 (omega arith) big_a big_b apart first)
      (λ (none : count_in plane rates 0 r (pair_key a b) ≤ 0). axis_found plane rates r a b 1 (omega arith) big_a big_b apart (omega arith))
      (cases_lt 0 (count_in plane rates 0 r (pair_key a b))),
  λ found.
      let here = axis_counts plane rates r a b found.0 found.1 found.2 found.3 found.4 holds big_a big_b apart found.5 in
      let most = either_axis plane rates r (pair_key a b) found.0 found.5.an_axis in
      omega (arith, here, most),
)
