-- What the faces of a plane add up to.
use Rattle.std.specs.Prelude.{ℕ, ℤ, ◌+◌, Bool, List, [], Option}
use Rattle.std.specs.Option.{option_map_or}
use Rattle.rc_geom.specs.declared.rect.Rect.{Rect}
use Rattle.rc_geom.specs.declared.key.Key.{Key}
use Rattle.rc_geom.specs.Plane.{Metal, Plane}
use Rattle.rc_geom.specs.Line.{line_of, square_of}
use Rattle.rc_geom.specs.Faces.{Face, face_at}
use Rattle.rc_geom.specs.Rates.{Rates, rate_of}
use Rattle.rc_geom.specs.Parts.{Part, parts, pair_key, worth_at}
use Rattle.rc_geom.specs.Sums.{Adding, numbers, square_sum}

-- the face of a layer's square, in one direction of an axis
abbrev pub face_of : {V : Type 0} → Plane → Rates V → ℕ → ℕ → ℤ → ℤ → Bool → Option Face
face_of plane rates axis layer at along up =
    face_at (rates.cap layer) (rates.reach layer) (line_of plane layer axis at) up along

-- what that face adds, nothing where there is no face
abbrev pub parts_of : {V : Type 0} → Plane → Rates V → ℕ → ℕ → ℤ → ℤ → Bool → List (Part V)
parts_of plane rates axis layer at along up =
    option_map_or (λ face. parts face (rate_of rates plane layer (square_of axis at along) face))
    (face_of plane rates axis layer at along up) []

-- for a key, what the faces of one axis whose squares lie in the rectangle add, each part by its worth
abbrev pub sum_in : {V W : Type 0} → Adding W → (V → W) → Plane → Rates V → ℕ → Rect → Key → W
sum_in adding worth plane rates axis r key =
    square_sum adding axis r (λ layer at along up. worth_at adding worth key (parts_of plane rates axis layer at along up))

-- so the sum of their amounts, and how many parts they are
abbrev pub value_in : {V : Type 0} → Adding V → Plane → Rates V → ℕ → Rect → Key → V
value_in adding plane rates axis r key = sum_in adding (λ v. v) plane rates axis r key

abbrev pub count_in : {V : Type 0} → Plane → Rates V → ℕ → Rect → Key → ℕ
count_in plane rates axis r key = sum_in numbers (λ _. 1) plane rates axis r key

-- both axes
abbrev pub key_value : {V : Type 0} → Adding V → Plane → Rates V → Rect → Key → V
key_value adding plane rates r key =
    adding.plus (value_in adding plane rates 0 r key) (value_in adding plane rates 1 r key)

abbrev pub key_count : {V : Type 0} → Plane → Rates V → Rect → Key → ℕ
key_count plane rates r key = count_in plane rates 0 r key + count_in plane rates 1 r key

-- the ground value of a node is key_value of its Ground key; the coupling of two nodes of two nets that of their pair_key

-- how many faces of either node see the other
abbrev pub facing_count : {V : Type 0} → Plane → Rates V → Rect → Metal → Metal → ℕ
facing_count plane rates r a b = key_count plane rates r (pair_key a b)
