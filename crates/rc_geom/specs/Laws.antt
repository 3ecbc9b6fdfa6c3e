-- What holds of the definitions themselves. Each law is the contract of a function of src/laws.rt.
use Rattle.std.specs.Prelude.{Option, ◌⊎◌, ◌≡◌, ◌≢◌, ◌↔◌, ◌<◌, ◌≤◌, ◌+◌, ℕ, ℤ, neg_ℤ, Bool, true, false, not, List, [], ◌∷◌, ◌++◌, Some, None, IsTrue, is_some, IfSome, IsSomeAnd, MatchOption, All, Contains, filter, ◌≤ℤ◌, ◌*◌, nat_le, ◌&&◌, ◌||◌, if◌then◌else◌}
use Rattle.std.specs.List.{sum_by}
use Rattle.std.specs.List.Sorted.{IsPermutation}
use Rattle.std.specs.Ordering.{nat_cmp}
use Rattle.std.specs.Cmp.Lexicographic.{slice_cmp}
use Rattle.std.specs.declared.cmp.Ordering.{Ordering}
use Rattle.rc_geom.specs.declared.rect.Pt.{Pt}
use Rattle.rc_geom.specs.declared.rect.Rect.{Rect}
use Rattle.rc_geom.specs.declared.tile.Tile.{Tile}
use Rattle.rc_geom.specs.declared.key.Key.{Key}
use Rattle.rc_geom.specs.declared.key.Key.TheVariants.{Ground, Pair}
use Rattle.rc_geom.specs.Rects.{covers, grow, SharesSquare, IsInside}
use Rattle.rc_geom.specs.Plane.{Metal, is_grounded, Plane, claims, owner, plane_of, RanksDiffer, NetsApart, NeverOwns, HoldsTiles, HoldsMetal}
use Rattle.rc_geom.specs.Line.{Line, Ray, ray, mirror, at_distance, square_of, line_of}
use Rattle.rc_geom.specs.Faces.{Face, face_at, is_net, thickness, sight}
use Rattle.rc_geom.specs.Context.{layer_count, under, over}
use Rattle.rc_geom.specs.Rates.{Rates}
use Rattle.rc_geom.specs.Parts.{pair_key, shared_key, same_key, parts, worth_at, is_metal, sees, sees_grounded}
use Rattle.rc_geom.specs.Sums.{Adding, IsNeutral, IsAdditive, numbers, total, total_between, square_sum, extent, first_line, end_line}
use Rattle.rc_geom.specs.Extraction.{face_of, parts_of, sum_in, value_in, count_in, key_value, key_count, facing_count}

-- the tile is one of them, covers the square, and none that covers it has a lesser rank
pub record IsOwner (tiles : List Tile) (layer : ℕ) (p : Pt) (t : Tile) : Type 0 where
  pub member : Contains tiles t
  pub covering : claims layer p t ≡ true
  pub least : All (λ u. claims layer p u ≡ true → t.rank ≤ u.rank) tiles

-- a square has an owner, or no tile covers it
abbrev pub OwnersAreLeast : Type 0
OwnersAreLeast = (tiles : List Tile) (layer : ℕ) (p : Pt) →
    MatchOption (owner tiles layer p) (All (λ u. claims layer p u ≡ false) tiles) (IsOwner tiles layer p)

-- the order of the tiles doesn't matter
abbrev pub OrderIsFree : Type 0
OrderIsFree = (tiles others : List Tile) →
    RanksDiffer tiles → NetsApart tiles → IsPermutation tiles others → plane_of others ≡ plane_of tiles

-- a tile that owns no square can be left out
abbrev pub OwnersSuffice : Type 0
OwnersSuffice = (before after : List Tile) (t : Tile) →
    NeverOwns t (before ++ after) → plane_of (before ++ t ∷ after) ≡ plane_of (before ++ after)

-- read the other way round, a line has the same faces, each in the other direction
pub record IsMirrored (line : Line) : Type 0 where
  pub rays : (up : Bool) (z : ℤ) → ray up (mirror line) z ≡ ray (not up) line (neg_ℤ z)
  pub faces : (cap reach : ℕ) (up : Bool) (z : ℤ) →
      face_at cap reach (mirror line) up z ≡ face_at cap reach line (not up) (neg_ℤ z)

-- that many squares in a row are the net's, and not more, unless they are cap
pub record IsThickness (net cap : ℕ) (back : Ray) (n : ℕ) : Type 0 where
  pub within : n ≤ cap
  pub own : (k : ℕ) → k < n → is_net net (back k) ≡ true
  pub stop : n < cap → is_net net (back n) ≡ false

abbrev pub ThicknessIsARun : Type 0
ThicknessIsARun = (net cap : ℕ) (back : Ray) (n : ℕ) → (thickness net cap back ≡ n) ↔ IsThickness net cap back n

-- the thickness of a face is at least 1 and at most cap
abbrev pub FacesAreThick : Type 0
FacesAreThick = (cap reach : ℕ) (line : Line) (up : Bool) (z : ℤ) → 1 ≤ cap →
    IfSome (face_at cap reach line up z) (λ face. (1 ≤ face.thick) × (face.thick ≤ cap))

-- the squares at distances 1 to d are empty, the next one has that metal, and d is from 1 to reach
pub record IsSeen (reach : ℕ) (ahead : Ray) (d : ℕ) (metal : Metal) : Type 0 where
  pub least : 1 ≤ d
  pub most : d ≤ reach
  pub empty : (k : ℕ) → 1 ≤ k → k ≤ d → ahead k ≡ None
  pub behind : ahead (d + 1) ≡ Some metal

abbrev pub SightIsFirst : Type 0
SightIsFirst = (reach : ℕ) (ahead : Ray) (d : ℕ) (metal : Metal) →
    (sight reach ahead ≡ Some (d, metal)) ↔ IsSeen reach ahead d metal

-- where a face sees metal behind a gap, the face of that metal that looks back sees the first one's behind the same gap
abbrev pub SightIsMutual : Type 0
SightIsMutual = (cap reach : ℕ) (line : Line) (up : Bool) (z : ℤ) (face : Face) (d : ℕ) (metal : Metal) →
    face_at cap reach line up z ≡ Some face → face.sight ≡ Some (d, metal) →
    IsSomeAnd (face_at cap reach line (not up) (at_distance up z (d + 1)))
    (λ other. (other.own ≡ metal) × (other.sight ≡ Some (d, face.own)))

-- a lower layer has metal over the square, and none between does
pub record IsUnder (plane : Plane) (layer : ℕ) (p : Pt) (l : ℕ) : Type 0 where
  pub below : l < layer
  pub metal : is_some (plane l p) ≡ true
  pub nearest : (k : ℕ) → l < k → k < layer → plane k p ≡ None

abbrev pub UnderIsHighest : Type 0
UnderIsHighest = (plane : Plane) (layer : ℕ) (p : Pt) (l : ℕ) →
    (under plane layer p ≡ Some l) ↔ IsUnder plane layer p l

-- a higher layer has metal over the square, and none between does
pub record IsOver (plane : Plane) (layer : ℕ) (p : Pt) (l : ℕ) : Type 0 where
  pub above : layer < l
  pub within : l < layer_count
  pub metal : is_some (plane l p) ≡ true
  pub nearest : (k : ℕ) → layer < k → k < l → plane k p ≡ None

abbrev pub OverIsLowest : Type 0
OverIsLowest = (plane : Plane) (layer : ℕ) (p : Pt) (l : ℕ) →
    (over plane layer p ≡ Some l) ↔ IsOver plane layer p l

-- a face rests on no squares but those at distances to reach + 1 before it, and below cap behind it
abbrev pub FacesAreLocal : Type 0
FacesAreLocal = (cap reach : ℕ) (line other : Line) (up : Bool) (z : ℤ) →
    ((k : ℕ) → k ≤ reach + 1 → ray up line z k ≡ ray up other z k) →
    ((k : ℕ) → k < cap → ray (not up) line z k ≡ ray (not up) other z k) →
    face_at cap reach line up z ≡ face_at cap reach other up z

-- what each square adds in each direction is sound
abbrev pub AllSound : {V : Type 0} → (V → Bool) → (ℕ → ℤ → ℤ → Bool → V) → Type 0
AllSound sound f = (layer : ℕ) (at along : ℤ) (up : Bool) → sound (f layer at along up) ≡ true

-- where squares outside the inner rectangle add nothing, the outer one has the same sum
abbrev pub InnerSumsSuffice : Type 0 → Type 0
InnerSumsSuffice V =
    (adding : Adding V) (sound : V → Bool) (axis : ℕ) (inner outer : Rect) (f : ℕ → ℤ → ℤ → Bool → V) →
    IsNeutral adding sound → AllSound sound f → IsInside inner outer →
    ((layer : ℕ) (at along : ℤ) (up : Bool) →
    covers outer (square_of axis at along) ≡ true → covers inner (square_of axis at along) ≡ false →
    f layer at along up ≡ adding.none) →
    square_sum adding axis outer f ≡ square_sum adding axis inner f

-- where all tiles lie in a rectangle, all metal does
abbrev pub TilesHoldMetal : Type 0
TilesHoldMetal = (r : Rect) (tiles : List Tile) → HoldsTiles r tiles → HoldsMetal r (plane_of tiles)

-- each amount that a face of the plane adds has a sound worth
abbrev pub AmountsAreSound : {V W : Type 0} → (W → Bool) → (V → W) → Plane → Rates V → Type 0
AmountsAreSound sound worth plane rates = (axis layer : ℕ) (at along : ℤ) (up : Bool) →
    All (λ part. sound (worth part.amount) ≡ true) (parts_of plane rates axis layer at along up)

-- the rates that a face of the plane can have are sound: those of a layer that has metal, with a thickness from 1 to its
-- cap, and with no gap or one from 1 to its reach
abbrev pub RatesAreSound : {V W : Type 0} → (W → Bool) → (V → W) → Plane → Rates V → Type 0
RatesAreSound sound worth plane rates =
    (layer : ℕ) (p : Pt) (below above : Option ℕ) (thick : ℕ) (gap : Option ℕ) →
    is_some (plane layer p) ≡ true → 1 ≤ thick → thick ≤ rates.cap layer →
    IfSome gap (λ d. (1 ≤ d) × (d ≤ rates.reach layer)) →
    (sound (worth (rates.rate layer below above thick gap).0) ≡ true) × (sound (worth (rates.rate layer below above thick gap).1) ≡ true)

-- where these are sound, and the caps of such layers are at least 1, so is each amount that a face adds
abbrev pub SoundRatesSuffice : Type 0 → Type 0 → Type 0
SoundRatesSuffice V W = (sound : W → Bool) (worth : V → W) (plane : Plane) (rates : Rates V) →
    ((layer : ℕ) (p : Pt) → is_some (plane layer p) ≡ true → 1 ≤ rates.cap layer) →
    RatesAreSound sound worth plane rates → AmountsAreSound sound worth plane rates

-- two rectangles that hold all metal have the same sums
abbrev pub MetalBounds : Type 0 → Type 0 → Type 0
MetalBounds V W =
    (adding : Adding W) (sound : W → Bool) (worth : V → W) (plane : Plane) (rates : Rates V) →
    (axis : ℕ) (r s : Rect) (key : Key) →
    IsNeutral adding sound → AmountsAreSound sound worth plane rates → HoldsMetal r plane → HoldsMetal s plane →
    sum_in adding worth plane rates axis r key ≡ sum_in adding worth plane rates axis s key

-- so the values and the counts of both axes are the same
abbrev pub ValuesAreBounded : Type 0 → Type 0
ValuesAreBounded V =
    (adding : Adding V) (sound : V → Bool) (plane : Plane) (rates : Rates V) (r s : Rect) (key : Key) →
    IsNeutral adding sound → AmountsAreSound sound (λ v. v) plane rates → HoldsMetal r plane → HoldsMetal s plane →
    (key_value adding plane rates r key ≡ key_value adding plane rates s key)
    × (key_count plane rates r key ≡ key_count plane rates s key)

-- a sum over a rectangle is that of its two parts, cut at a column or at a row
pub record IsCutAt {V : Type 0} (adding : Adding V) (axis : ℕ) (r : Rect) (f : ℕ → ℤ → ℤ → Bool → V) (z : ℤ) : Type 0 where
  pub column : r.x0 ≤ℤ z → z ≤ℤ r.x1 →
      square_sum adding axis r f
      ≡ adding.plus (square_sum adding axis (record r { x1 = z }) f) (square_sum adding axis (record r { x0 = z }) f)
  pub row : r.y0 ≤ℤ z → z ≤ℤ r.y1 →
      square_sum adding axis r f
      ≡ adding.plus (square_sum adding axis (record r { y1 = z }) f) (square_sum adding axis (record r { y0 = z }) f)

abbrev pub CutsAdd : Type 0 → Type 0
CutsAdd V = (adding : Adding V) (sound : V → Bool) (axis : ℕ) (r : Rect) (f : ℕ → ℤ → ℤ → Bool → V) (z : ℤ) →
    IsAdditive adding sound → AllSound sound f → IsCutAt adding axis r f z

-- layers and lines can be summed in either order
abbrev pub LayersSwap : Type 0 → Type 0
LayersSwap V = (adding : Adding V) (sound : V → Bool) (n : ℕ) (lo hi : ℤ) (f : ℕ → ℤ → V) →
    IsAdditive adding sound → ((layer : ℕ) (z : ℤ) → sound (f layer z) ≡ true) →
    total adding n (λ layer. total_between adding lo hi (f layer))
    ≡ total_between adding lo hi (λ z. total adding n (λ layer. f layer z))

-- where two lines of an axis are alike on all layers, their faces add the same
abbrev pub LinesDecide : Type 0 → Type 0
LinesDecide V = (plane other : Plane) (rates : Rates V) (axis : ℕ) (at at' : ℤ) →
    ((layer : ℕ) → line_of plane layer axis at ≡ line_of other layer axis at') →
    (layer : ℕ) (along : ℤ) (up : Bool) →
    parts_of plane rates axis layer at along up ≡ parts_of other rates axis layer at' along up

-- where a layer has metal in the window, its faces rest on squares within the halo
abbrev pub HaloReaches : {V : Type 0} → Plane → Rates V → Rect → ℕ → Type 0
HaloReaches plane rates window halo = (layer : ℕ) (p : Pt) →
    covers window p ≡ true → is_some (plane layer p) ≡ true →
    (rates.reach layer + 1 ≤ halo) × (rates.cap layer ≤ halo)

-- planes that are alike in the window and its halo have the same sum over the window
abbrev pub HalosSuffice : Type 0 → Type 0 → Type 0
HalosSuffice V W =
    (adding : Adding W) (worth : V → W) (plane other : Plane) (rates : Rates V) →
    (axis : ℕ) (window : Rect) (halo : ℕ) (key : Key) →
    HaloReaches plane rates window halo →
    ((layer : ℕ) (p : Pt) → covers (grow window halo) p ≡ true → plane layer p ≡ other layer p) →
    sum_in adding worth plane rates axis window key ≡ sum_in adding worth other rates axis window key

-- so the tiles that share no square with them can be left out
abbrev pub NearTilesSuffice : Type 0 → Type 0 → Type 0
NearTilesSuffice V W =
    (adding : Adding W) (worth : V → W) (tiles : List Tile) (keep : Tile → Bool) (rates : Rates V) →
    (axis : ℕ) (window : Rect) (halo : ℕ) (key : Key) →
    HaloReaches (plane_of tiles) rates window halo →
    ((t : Tile) → SharesSquare t.rect (grow window halo) → keep t ≡ true) →
    sum_in adding worth (plane_of tiles) rates axis window key
    ≡ sum_in adding worth (plane_of (filter keep tiles)) rates axis window key

-- a key stands for one node or for two, and a pair's nets are in order
abbrev pub IsInOrder : Key → Type 0
IsInOrder (Ground net node) = Unit {0}
IsInOrder (Pair net node other onode) = net < other

-- what two metals of different nets share has one key, from either side, and its nets are in order
abbrev pub SharesAreMutual : Type 0
SharesAreMutual = (a b : Metal) → a.0 ≢ b.0 →
    (pair_key a b ≡ pair_key b a) × IsInOrder (pair_key a b) × (shared_key a b ≡ shared_key b a)

-- the test of keys tells whether they are one
abbrev pub KeysAreTold : Type 0
KeysAreTold = (a b : Key) → IsTrue (same_key a b) ↔ (a ≡ b)

-- a key as a row of numbers: a 0 for one node or a 1 for two, and then its fields
abbrev pub key_numbers : Key → List ℕ
key_numbers (Ground net node) = 0 ∷ net ∷ node ∷ []
key_numbers (Pair net node other onode) = 1 ∷ net ∷ node ∷ other ∷ onode ∷ []

-- keys stand in the order of their rows, of which the first numbers that differ decide: each node comes before each
-- pair, and among nodes and among pairs the fields decide one after another
abbrev pub KeysHaveAnOrder : (Key → Key → Ordering) → Type 0
KeysHaveAnOrder order = (a b : Key) → order a b ≡ slice_cmp nat_cmp (key_numbers a) (key_numbers b)

-- to the value of a node its own faces add their own amount, and their share where they see grounded metal; grounded
-- faces add their share where they see the node
abbrev pub NodesInWords : Type 0 → Type 0 → Type 0
NodesInWords V W =
    (adding : Adding W) (sound : W → Bool) (worth : V → W) (face : Face) (rate : V × V) (a : Metal) →
    IsNeutral adding sound → sound (worth rate.0) ≡ true → sound (worth rate.1) ≡ true → 0 < a.1 →
    worth_at adding worth (Ground a.0 a.1) (parts face rate)
    ≡ adding.plus
    (if is_metal face.own a then worth rate.0 else adding.none)
    (if (is_metal face.own a && sees_grounded face) || (is_grounded face.own && sees face a) then worth rate.1 else adding.none)

-- to the coupling of two nodes of different nets the faces of either add their share where they see the other
abbrev pub CouplingsInWords : Type 0 → Type 0 → Type 0
CouplingsInWords V W =
    (adding : Adding W) (sound : W → Bool) (worth : V → W) (face : Face) (rate : V × V) (a b : Metal) →
    IsNeutral adding sound → sound (worth rate.0) ≡ true → sound (worth rate.1) ≡ true →
    0 < a.1 → 0 < b.1 → a.0 ≢ b.0 →
    worth_at adding worth (pair_key a b) (parts face rate)
    ≡ (if (is_metal face.own a && sees face b) || (is_metal face.own b && sees face a) then worth rate.1 else adding.none)

-- where both amounts of a face have a sound worth, so do its parts
abbrev pub PartsAreSound : Type 0 → Type 0 → Type 0
PartsAreSound V W = (sound : W → Bool) (worth : V → W) (face : Face) (rate : V × V) →
    sound (worth rate.0) ≡ true → sound (worth rate.1) ≡ true →
    All (λ part. sound (worth part.amount) ≡ true) (parts face rate)

-- a layer's square has that node's face, in a direction of an axis
pub record IsFaceOf {V : Type 0} (plane : Plane) (rates : Rates V) (a : Metal) (axis layer : ℕ) (at along : ℤ) (up : Bool) : Type 0 where
  pub an_axis : axis < 2
  pub a_layer : layer < layer_count
  pub owns : IsSomeAnd (face_of plane rates axis layer at along up) (λ face. face.own ≡ a)

-- a node has parts for its own key exactly where it owns a face
abbrev pub NodesOwnFaces : Type 0 → Type 0
NodesOwnFaces V = (plane : Plane) (rates : Rates V) (r : Rect) (a : Metal) →
    HoldsMetal r plane → 0 < a.1 →
    (0 < key_count plane rates r (Ground a.0 a.1))
    ↔ ((axis : ℕ) × (layer : ℕ) × (at : ℤ) × (along : ℤ) × (up : Bool) × IsFaceOf plane rates a axis layer at along up)

-- a layer's square has that node's face, in a direction of an axis, and the face sees the other node
pub record IsFacing {V : Type 0} (plane : Plane) (rates : Rates V) (a b : Metal) (axis layer : ℕ) (at along : ℤ) (up : Bool) : Type 0 where
  pub an_axis : axis < 2
  pub a_layer : layer < layer_count
  pub faces : IsSomeAnd (face_of plane rates axis layer at along up) (λ face. (face.own ≡ a) × (sees face b ≡ true))

-- nodes of two nets have parts for the key of both exactly where a face of the one sees the other
abbrev pub PairsFace : Type 0 → Type 0
PairsFace V = (plane : Plane) (rates : Rates V) (r : Rect) (a b : Metal) →
    HoldsMetal r plane → 0 < a.1 → 0 < b.1 → a.0 ≢ b.0 →
    (0 < facing_count plane rates r a b)
    ↔ ((axis : ℕ) × (layer : ℕ) × (at : ℤ) × (along : ℤ) × (up : Bool) × IsFacing plane rates a b axis layer at along up)

-- a key is of a net: that of its node, or of one of its two nodes
abbrev pub IsOfNet : ℕ → Key → Type 0
IsOfNet n (Ground net node) = net ≡ n
IsOfNet n (Pair net node other onode) = (net ≡ n) ⊎ (other ≡ n)

-- where a window and its halo have no square of a net, the window has no part for a key of that net
abbrev pub FarNetsAddNothing : Type 0 → Type 0 → Type 0
FarNetsAddNothing V W =
    (adding : Adding W) (sound : W → Bool) (worth : V → W) (plane : Plane) (rates : Rates V) →
    (axis : ℕ) (window : Rect) (halo n : ℕ) (key : Key) →
    IsNeutral adding sound → HaloReaches plane rates window halo →
    ((layer : ℕ) (p : Pt) → covers (grow window halo) p ≡ true → is_net n (plane layer p) ≡ false) → IsOfNet n key →
    sum_in adding worth plane rates axis window key ≡ adding.none

-- at a place of a line two planes have one face, in one context, and it adds the same parts
pub record SameFace {V : Type 0} (plane other : Plane) (rates : Rates V) (axis layer : ℕ) (at along : ℤ) (up : Bool) : Type 0 where
  pub face : face_of plane rates axis layer at along up ≡ face_of other rates axis layer at along up
  pub below : under plane layer (square_of axis at along) ≡ under other layer (square_of axis at along)
  pub above : over plane layer (square_of axis at along) ≡ over other layer (square_of axis at along)
  pub adds : parts_of plane rates axis layer at along up ≡ parts_of other rates axis layer at along up

-- planes that are alike in a window and its halo have the same faces in the window, with the same thickness and sight, in the
-- same context, and with the same parts
abbrev pub HalosKeepFaces : Type 0 → Type 0
HalosKeepFaces V = (plane other : Plane) (rates : Rates V) (window : Rect) (halo axis layer : ℕ) (at along : ℤ) (up : Bool) →
    HaloReaches plane rates window halo →
    ((l : ℕ) (p : Pt) → covers (grow window halo) p ≡ true → plane l p ≡ other l p) →
    covers window (square_of axis at along) ≡ true → SameFace plane other rates axis layer at along up

-- where a window and its halo have no square of a net, no part of a face in the window has a key of that net
abbrev pub FarNetsHaveNoParts : Type 0 → Type 0
FarNetsHaveNoParts V = (plane : Plane) (rates : Rates V) (window : Rect) (halo n axis layer : ℕ) (at along : ℤ) (up : Bool) →
    HaloReaches plane rates window halo →
    ((l : ℕ) (p : Pt) → covers (grow window halo) p ≡ true → is_net n (plane l p) ≡ false) →
    covers window (square_of axis at along) ≡ true →
    All (λ part. ¬ IsOfNet n part.key) (parts_of plane rates axis layer at along up)

-- how many lines of an axis cross the tiles, in all
abbrev pub line_count : ℕ → List Tile → ℕ
line_count axis tiles = sum_by (λ t. extent (first_line axis t.rect) (end_line axis t.rect)) tiles

-- a face lies at an end of a tile, on a line that crosses it, and adds at most two parts: so a key has at most four parts for
-- each line that crosses a tile
abbrev pub CountsAreBounded : Type 0 → Type 0
CountsAreBounded V = (tiles : List Tile) (rates : Rates V) (axis : ℕ) (r : Rect) (key : Key) →
    NetsApart tiles → count_in (plane_of tiles) rates axis r key ≤ 4 * line_count axis tiles

-- where no amount is above a number, a key's value is at most that number for each of its parts
abbrev pub ValuesFollowCounts : Type 0
ValuesFollowCounts = (most : ℕ) (plane : Plane) (rates : Rates ℕ) (axis : ℕ) (r : Rect) (key : Key) →
    AmountsAreSound (λ v. nat_le v most) (λ v. v) plane rates →
    value_in numbers plane rates axis r key ≤ most * count_in plane rates axis r key
