-- Lines, rays and what they meet.
use mathlib.Core.Path.{Path}
use Rattle.std.proofs.Common.{◌≡◌, ◌≤◌, ◌<◌, ◌+◌, ◌-◌, ⊎_elim, ℕ, zero, suc, ℤ, pos, ◌+ℤ◌, ◌-ℤ◌, neg_ℤ, Bool, true, false, cond, not, ◌∷◌, map, length, get_or, Option, Some, None, refl, ap, sym, ◌∙◌, subst, arith}
use Rattle.std.specs.Prelude.{is_some, IfSome, IsSomeAnd, nat_le, ◌&&◌, option_map}
use Rattle.std.specs.Option.{option_and_then}
use Rattle.std.specs.List.{prefix_len, position_or_len, range_with_len}
use Rattle.std.proofs.lemmas.List.FromFn.{length-map-range_with_len, get_or-map-range_with_len}
use Rattle.std.proofs.lemmas.List.Sums.{prefix_len_is, prefix_len-le-length, prefix_len_passes, prefix_len_stops, position_or_len_is, fails_before_first, passes_at_first}
use Rattle.std.proofs.lemmas.Bool.{le-leb, lt-leb, leb-true, true≢false, cases_lt, and_parts, and_right, eq-eqb}
use Rattle.std.proofs.lemmas.Int.{ints}
use Rattle.rc_geom.specs.Plane.{Metal}
use Rattle.rc_geom.specs.Line.{Line, Ray, ray, mirror, at_distance}
use Rattle.rc_geom.specs.Faces.{Face, Seen, face_at, face_between, end_of, is_net, thickness, gap, sight}
use Rattle.rc_geom.specs.Laws.{IsMirrored, IsThickness, ThicknessIsARun, FacesAreThick, IsSeen, SightIsFirst, SightIsMutual, FacesAreLocal}
use Rattle.rc_geom.proofs.Bounds.{empty_is}

-- ---- the mirror

mirror_up : (z : ℤ) (k : ℕ) → neg_ℤ (z +ℤ pos k) ≡ neg_ℤ z -ℤ pos k
mirror_up z k = omega (arith, ints)

mirror_down : (z : ℤ) (k : ℕ) → neg_ℤ (z -ℤ pos k) ≡ neg_ℤ z +ℤ pos k
mirror_down z k = omega (arith, ints)

pub ray-mirror : (line : Line) (up : Bool) (z : ℤ) → ray up (mirror line) z ≡ ray (not up) line (neg_ℤ z)
ray-mirror line true z = λ i k. ap line (mirror_up z k) i
ray-mirror line false z = λ i k. ap line (mirror_down z k) i

face_at-mirror : (line : Line) (cap reach : ℕ) (up : Bool) (z : ℤ) → face_at cap reach (mirror line) up z ≡ face_at cap reach line (not up) (neg_ℤ z)
face_at-mirror line cap reach up z =
    ap (λ (ahead : Ray). face_between cap reach ahead (ray (not up) (mirror line) z)) (ray-mirror line up z)
    ∙ ap (face_between cap reach (ray (not up) line (neg_ℤ z))) (ray-mirror line (not up) z)

pub is_mirrored : (line : Line) → IsMirrored line
is_mirrored line = record { rays = ray-mirror line; faces = face_at-mirror line }

-- ---- how long a ray is the net's

-- the values of a function, from 0 to below n
long : {X : Type 0} (f : ℕ → X) (n : ℕ) → length (map f (range_with_len 0 n)) ≡ n
long f n = length-map-range_with_len f 0 n

at : {X : Type 0} (f : ℕ → X) (n k : ℕ) (d : X) → k < n → get_or (map f (range_with_len 0 n)) k d ≡ f k
at f n k d h = get_or-map-range_with_len f 0 n k k d h (omega arith)

pub thickness_is : (net cap : ℕ) (back : Ray) (n : ℕ) → IsThickness net cap back n → thickness net cap back ≡ n
thickness_is net cap back n h =
    let len : length (map back (range_with_len 0 cap)) ≡ cap = long back cap in
    prefix_len_is (is_net net) (map back (range_with_len 0 cap)) n None (omega (arith, len, h.within))
    (λ k less. ap (is_net net) (at back cap k None (omega (arith, h.within))) ∙ h.own k less)
    (λ less. let small : n < cap = omega (arith, len) in ap (is_net net) (at back cap n None small) ∙ h.stop small)

pub thickness_tells : (net cap : ℕ) (back : Ray) → IsThickness net cap back (thickness net cap back)
thickness_tells net cap back =
    let xs = map back (range_with_len 0 cap) in
    let len : length xs ≡ cap = long back cap in
    let most : thickness net cap back ≤ length xs = prefix_len-le-length (is_net net) xs in
    record {
      within = omega (arith, len, most);
      own = λ k less. ap (is_net net) (sym (at back cap k None (omega (arith, len, most)))) ∙ prefix_len_passes (is_net net) xs k None less;
      stop = λ less. ap (is_net net) (sym (at back cap (thickness net cap back) None less)) ∙ prefix_len_stops (is_net net) xs None (omega (arith, len));
    }

pub thickness_is_a_run : ThicknessIsARun
thickness_is_a_run net cap back n = (λ e. subst (IsThickness net cap back) e (thickness_tells net cap back), thickness_is net cap back n)

-- ---- the first metal

-- that many empty squares follow
pub record IsGap (reach : ℕ) (ahead : Ray) (d : ℕ) : Type 0 where
  pub within : d ≤ reach + 1
  pub empty : (k : ℕ) → k < d → is_some (ahead (k + 1)) ≡ false
  pub stop : d < reach + 1 → is_some (ahead (d + 1)) ≡ true

pub gap_is : (reach : ℕ) (ahead : Ray) (d : ℕ) → IsGap reach ahead d → gap reach ahead ≡ d
gap_is reach ahead d h =
    let next : Ray = λ k. ahead (k + 1) in
    let len : length (map next (range_with_len 0 (reach + 1))) ≡ reach + 1 = long next (reach + 1) in
    position_or_len_is is_some (map next (range_with_len 0 (reach + 1))) d None (omega (arith, len, h.within))
    (λ k less. ap is_some (at next (reach + 1) k None (omega (arith, h.within))) ∙ h.empty k less)
    (λ less. let small : d < reach + 1 = omega (arith, len) in ap is_some (at next (reach + 1) d None small) ∙ h.stop small)

pub gap_tells : (reach : ℕ) (ahead : Ray) → IsGap reach ahead (gap reach ahead)
gap_tells reach ahead =
    let next : Ray = λ k. ahead (k + 1) in
    let xs = map next (range_with_len 0 (reach + 1)) in
    let len : length xs ≡ reach + 1 = long next (reach + 1) in
    let most : gap reach ahead ≤ length xs = prefix_len-le-length (λ o. not (is_some o)) xs in
    record {
      within = omega (arith, len, most);
      empty = λ k less. ap is_some (sym (at next (reach + 1) k None (omega (arith, len, most)))) ∙ fails_before_first is_some xs k None less;
      stop = λ less. ap is_some (sym (at next (reach + 1) (gap reach ahead) None less)) ∙ passes_at_first is_some xs None (omega (arith, len));
    }

-- what sight is at a gap and the square behind it
abbrev seen_at : ℕ → ℕ → Option Metal → Option Seen
seen_at reach d behind = cond (nat_le 1 d && nat_le d reach) (option_map (λ metal. (d, metal)) behind) None

seen_split : (c : Bool) (g : ℕ) (behind : Option Metal) (d : ℕ) (metal : Metal) → cond c (option_map {U = Seen} (λ m. (g, m)) behind) None ≡ Some (d, metal) → (c ≡ true) × (g ≡ d) × (behind ≡ Some metal)
seen_split false g behind d metal h = cc
seen_split true g None d metal h = cc
seen_split true g (Some b) d metal h =
    let pair : Path Seen (g, b) (d, metal) = cc in
    (refl, ap (λ (s : Seen). s.0) pair, ap (λ (s : Seen). Some s.1) pair)

seen_parts : (reach g : ℕ) (behind : Option Metal) (d : ℕ) (metal : Metal) → seen_at reach g behind ≡ Some (d, metal) → (1 ≤ g) × (g ≤ reach) × (g ≡ d) × (behind ≡ Some metal)
seen_parts reach g behind d metal h =
    let split = seen_split (nat_le 1 g && nat_le g reach) g behind d metal h in
    let both = and_parts (nat_le 1 g) (nat_le g reach) split.0 in
    (leb-true 1 g both.0, leb-true g reach both.1, split.1, split.2)

seen_from : (reach d : ℕ) (metal : Metal) → 1 ≤ d → d ≤ reach → seen_at reach d (Some metal) ≡ Some (d, metal)
seen_from reach d metal least most = rw (le-leb 1 d least, le-leb d reach most) refl

pub sight_is : (reach : ℕ) (ahead : Ray) (d : ℕ) (metal : Metal) → IsSeen reach ahead d metal → sight reach ahead ≡ Some (d, metal)
sight_is reach ahead d metal h =
    let g : gap reach ahead ≡ d = gap_is reach ahead d (record {
      within = omega (arith, h.most);
      empty = λ k less. ap is_some (h.empty (k + 1) (omega arith) (omega arith));
      stop = λ _. ap is_some h.behind;
    }) in
    ap (λ (n : ℕ). seen_at reach n (ahead (n + 1))) g
    ∙ (ap (seen_at reach d) h.behind ∙ seen_from reach d metal h.least h.most)

pub sight_tells : (reach : ℕ) (ahead : Ray) (d : ℕ) (metal : Metal) → sight reach ahead ≡ Some (d, metal) → IsSeen reach ahead d metal
sight_tells reach ahead d metal h =
    let g = gap_tells reach ahead in
    let parts = seen_parts reach (gap reach ahead) (ahead (gap reach ahead + 1)) d metal h in
    record {
      least = omega (arith, parts.0, parts.2);
      most = omega (arith, parts.1, parts.2);
      empty = λ k low high. empty_is (ahead k) (let e : (k - 1) + 1 ≡ k = omega arith in ap (λ (n : ℕ). is_some (ahead n)) (sym e) ∙ g.empty (k - 1) (omega (arith, parts.2)));
      behind = ap (λ (n : ℕ). ahead (n + 1)) (sym parts.2) ∙ parts.3;
    }

pub sight_is_first : SightIsFirst
sight_is_first reach ahead d metal = (sight_tells reach ahead d metal, sight_is reach ahead d metal)

-- ---- faces

at_start : (up : Bool) (z : ℤ) → at_distance up z 0 ≡ z
at_start true z = omega (arith, ints)
at_start false z = omega (arith, ints)

pub ray-start : (line : Line) (up : Bool) (z : ℤ) → ray up line z 0 ≡ line z
ray-start line up z = ap line (at_start up z)

end_split : (c : Bool) (own : Metal) (first : Metal) → cond c None (Some first) ≡ Some own → (first ≡ own) × (c ≡ false)
end_split true own first h = cc
end_split false own first h = (cc, refl)

end_parts : (first second : Option Metal) (own : Metal) → option_and_then (λ (o : Metal). cond (is_net o.0 second) None (Some o)) first ≡ Some own → (first ≡ Some own) × (is_net own.0 second ≡ false)
end_parts None second own h = cc
end_parts (Some first) second own h =
    let split = end_split (is_net first.0 second) own first h in
    (ap Some split.0, subst (λ (o : Metal). is_net o.0 second ≡ false) split.0 split.1)

-- where a net ends
pub end_tells : (ahead : Ray) (own : Metal) → end_of ahead ≡ Some own → (ahead 0 ≡ Some own) × (is_net own.0 (ahead 1) ≡ false)
end_tells ahead own h = end_parts (ahead 0) (ahead 1) own h

pub end_is : (ahead : Ray) (own : Metal) → ahead 0 ≡ Some own → is_net own.0 (ahead 1) ≡ false → end_of ahead ≡ Some own
end_is ahead own first stop =
    ap (option_and_then (λ (o : Metal). cond (is_net o.0 (ahead 1)) None (Some o))) first
    ∙ ap (λ (c : Bool). cond c None (Some own)) stop

-- the face of a ray whose net ends there
abbrev face_with : ℕ → ℕ → Ray → Ray → Metal → Face
face_with cap reach ahead back own = record { own = own; thick = thickness own.0 cap back; sight = sight reach ahead }

face_parts : (cap reach : ℕ) (ahead back : Ray) (o : Option Metal) (face : Face) → option_map (face_with cap reach ahead back) o ≡ Some face → (o ≡ Some face.own) × (face.thick ≡ thickness face.own.0 cap back) × (face.sight ≡ sight reach ahead)
face_parts cap reach ahead back None face h = cc
face_parts cap reach ahead back (Some own) face h =
    let same : face_with cap reach ahead back own ≡ face = cc in (
      ap (λ (f : Face). Some f.own) same,
      sym (ap (λ (f : Face). f.thick) same) ∙ ap (λ (f : Face). thickness f.own.0 cap back) same,
      sym (ap (λ (f : Face). f.sight) same),
    )

pub face_tells : (cap reach : ℕ) (line : Line) (up : Bool) (z : ℤ) (face : Face) → face_at cap reach line up z ≡ Some face → (end_of (ray up line z) ≡ Some face.own) × (face.thick ≡ thickness face.own.0 cap (ray (not up) line z)) × (face.sight ≡ sight reach (ray up line z))
face_tells cap reach line up z face h = face_parts cap reach (ray up line z) (ray (not up) line z) (end_of (ray up line z)) face h

is_own : (own : Metal) (o : Option Metal) → o ≡ Some own → is_net own.0 o ≡ true
is_own own o h = ap (is_net own.0) h ∙ eq-eqb own.0 own.0 refl

thick_front : (cap : ℕ) (back : Ray) (own : Metal) → 1 ≤ cap → back 0 ≡ Some own → (1 ≤ thickness own.0 cap back) × (thickness own.0 cap back ≤ cap)
thick_front cap back own big first =
    let run = thickness_tells own.0 cap back in (
      ⊎_elim
          (λ (none : thickness own.0 cap back < 1).
          let e : thickness own.0 cap back ≡ 0 = omega arith in
          absurd (true≢false (sym (is_own own (back 0) first) ∙ (ap (λ (n : ℕ). is_net own.0 (back n)) (sym e) ∙ run.stop (omega arith)))))
          (λ some. some)
          (cases_lt (thickness own.0 cap back) 1),
      run.within,
    )

thick_face : (cap reach : ℕ) (line : Line) (up : Bool) (z : ℤ) → 1 ≤ cap → (o : Option Face) → face_at cap reach line up z ≡ o → IfSome o (λ face. (1 ≤ face.thick) × (face.thick ≤ cap))
thick_face cap reach line up z big None h = tt
thick_face cap reach line up z big (Some face) h =
    let parts = face_tells cap reach line up z face h in
    let first = end_tells (ray up line z) face.own parts.0 in
    let behind : ray (not up) line z 0 ≡ Some face.own = ray-start line (not up) z ∙ (sym (ray-start line up z) ∙ first.0) in
    subst (λ (n : ℕ). (1 ≤ n) × (n ≤ cap)) (sym parts.1) (thick_front cap (ray (not up) line z) face.own big behind)

pub faces_are_thick : FacesAreThick
faces_are_thick cap reach line up z big = thick_face cap reach line up z big (face_at cap reach line up z) refl

-- ---- looking back

back_at : (up : Bool) (z : ℤ) (n k : ℕ) → k ≤ n → at_distance (not up) (at_distance up z n) k ≡ at_distance up z (n - k)
back_at true z n k h = omega (arith, ints)
back_at false z n k h = omega (arith, ints)

back_ray : (line : Line) (up : Bool) (z : ℤ) (n k m : ℕ) → k + m ≡ n → ray (not up) line (at_distance up z n) k ≡ ray up line z m
back_ray line up z n k m h =
    let e : n - k ≡ m = omega arith in
    ap line (back_at up z n k (omega arith) ∙ ap (at_distance up z) e)

seen_back : (reach : ℕ) (line : Line) (up : Bool) (z : ℤ) (d : ℕ) (own metal : Metal) → ray up line z 0 ≡ Some own → IsSeen reach (ray up line z) d metal → IsSeen reach (ray (not up) line (at_distance up z (d + 1))) d own
seen_back reach line up z d own metal first h = record {
  least = h.least;
  most = h.most;
  empty = λ k low high. back_ray line up z (d + 1) k (d + 1 - k) (omega arith) ∙ h.empty (d + 1 - k) (omega arith) (omega arith);
  behind = back_ray line up z (d + 1) (d + 1) 0 (omega arith) ∙ first;
}

pub sight_is_mutual : SightIsMutual
sight_is_mutual cap reach line up z face d metal is sees =
    let parts = face_tells cap reach line up z face is in
    let first = end_tells (ray up line z) face.own parts.0 in
    let seen = sight_tells reach (ray up line z) d metal (sym parts.2 ∙ sees) in
    let there = at_distance up z (d + 1) in
    let own : ray (not up) line there 0 ≡ Some metal = back_ray line up z (d + 1) 0 (d + 1) (omega arith) ∙ seen.behind in
    let next : ray (not up) line there 1 ≡ None = back_ray line up z (d + 1) 1 d (omega arith) ∙ seen.empty d seen.least (omega arith) in
    let net_ends : end_of (ray (not up) line there) ≡ Some metal = end_is (ray (not up) line there) metal own (ap (is_net metal.0) next) in
    let Good : Option Face → Type 0 = λ o. IsSomeAnd o (λ other. (other.own ≡ metal) × (other.sight ≡ Some (d, face.own))) in
    subst Good
    (sym (ap (option_map (face_with cap reach (ray (not up) line there) (ray (not (not up)) line there))) net_ends))
    (refl, sight_is reach (ray (not up) line there) d face.own (seen_back reach line up z d face.own metal first.0 seen))

-- where there is no metal there is no face
pub no_face : (cap reach : ℕ) (line : Line) (up : Bool) (z : ℤ) → line z ≡ None → face_at cap reach line up z ≡ None
no_face cap reach line up z bare =
    ap (λ (o : Option Metal). option_map (face_with cap reach (ray up line z) (ray (not up) line z)) (option_and_then (λ (own : Metal). cond (is_net own.0 (ray up line z 1)) None (Some own)) o))
    (ray-start line up z ∙ bare)

-- ---- what a face rests on

-- functions that agree below n list the same values
listed : {X : Type 0} (f g : ℕ → X) (a n : ℕ) → ((k : ℕ) → a ≤ k → k < a + n → f k ≡ g k) → map f (range_with_len a n) ≡ map g (range_with_len a n)
listed f g a zero same = refl
listed f g a (suc n) same =
    ap (λ x. x ∷ map f (range_with_len (a + 1) n)) (same a (omega arith) (omega arith))
    ∙ ap (λ xs. g a ∷ xs) (listed f g (a + 1) n (λ k low high. same k (omega arith) (omega arith)))

seen_same : (reach d : ℕ) (ahead other : Ray) → ((k : ℕ) → k ≤ reach + 1 → ahead k ≡ other k) → seen_at reach d (ahead (d + 1)) ≡ seen_at reach d (other (d + 1))
seen_same reach d ahead other same = ⊎_elim
    (λ (far : reach < d).
    let stop : (nat_le 1 d && nat_le d reach) ≡ false = and_right (nat_le 1 d) (nat_le d reach) (lt-leb d reach far) in
    ap (λ (c : Bool). cond c (option_map {U = Seen} (λ metal. (d, metal)) (ahead (d + 1))) None) stop ∙ sym (ap (λ (c : Bool). cond c (option_map {U = Seen} (λ metal. (d, metal)) (other (d + 1))) None) stop))
    (λ (near : d ≤ reach). ap (seen_at reach d) (same (d + 1) (omega arith)))
    (cases_lt reach d)

sight_same : (reach : ℕ) (ahead other : Ray) → ((k : ℕ) → k ≤ reach + 1 → ahead k ≡ other k) → sight reach ahead ≡ sight reach other
sight_same reach ahead other same =
    let gaps : gap reach ahead ≡ gap reach other = ap (position_or_len is_some) (listed (λ k. ahead (k + 1)) (λ k. other (k + 1)) 0 (reach + 1) (λ k _ less. same (k + 1) (omega arith))) in
    seen_same reach (gap reach ahead) ahead other same ∙ ap (λ (d : ℕ). seen_at reach d (other (d + 1))) gaps

thickness_same : (net cap : ℕ) (back other : Ray) → ((k : ℕ) → k < cap → back k ≡ other k) → thickness net cap back ≡ thickness net cap other
thickness_same net cap back other same = ap (prefix_len (is_net net)) (listed back other 0 cap (λ k _ less. same k (omega arith)))

end_same : (ahead other : Ray) → ahead 0 ≡ other 0 → ahead 1 ≡ other 1 → end_of ahead ≡ end_of other
end_same ahead other first second =
    ap (λ (o : Option Metal). option_and_then (λ (own : Metal). cond (is_net own.0 (ahead 1)) None (Some own)) o) first
    ∙ ap (λ (o : Option Metal). option_and_then (λ (own : Metal). cond (is_net own.0 o) None (Some own)) (other 0)) second

faces_same : (cap reach : ℕ) (ahead ahead' back back' : Ray) → sight reach ahead ≡ sight reach ahead' → ((net : ℕ) → thickness net cap back ≡ thickness net cap back') → (o : Option Metal) → option_map (face_with cap reach ahead back) o ≡ option_map (face_with cap reach ahead' back') o
faces_same cap reach ahead ahead' back back' sights thick None = refl
faces_same cap reach ahead ahead' back back' sights thick (Some own) =
    ap (λ (n : ℕ). Some (record { own = own; thick = n; sight = sight reach ahead })) (thick own.0)
    ∙ ap (λ (s : Option Seen). Some (record { own = own; thick = thickness own.0 cap back'; sight = s })) sights

pub faces_are_local : FacesAreLocal
faces_are_local cap reach line other up z ahead back =
    faces_same cap reach (ray up line z) (ray up other z) (ray (not up) line z) (ray (not up) other z) (sight_same reach (ray up line z) (ray up other z) ahead) (λ net. thickness_same net cap (ray (not up) line z) (ray (not up) other z) back) (end_of (ray up line z))
    ∙ ap (option_map (face_with cap reach (ray up other z) (ray (not up) other z))) (end_same (ray up line z) (ray up other z) (ahead 0 (omega arith)) (ahead 1 (omega arith)))
