-- What one face adds to a node and to a pair of nodes.
use Rattle.std.proofs.Common.{◌≡◌, ◌≢◌, ◌<◌, ⊎_elim, Bool, true, false, cond, [], ◌++◌, Option, Some, None, refl, ap, sym, ◌∙◌, arith}
use Rattle.std.specs.Prelude.{All, nat_lt, ◌==◌, ◌&&◌, ◌||◌}
use Rattle.std.specs.Option.{option_and_then, option_map_or}
use Rattle.std.proofs.lemmas.List.Elements.{All-nil, All-cons, All-append}
use Rattle.std.proofs.lemmas.Bool.{and_parts, and_right, eqb-true, eqb-false, ne_eqb, false_from_ne_true, cases_order, cond_both}
use Rattle.rc_geom.specs.declared.key.Key.{Key}
use Rattle.rc_geom.specs.declared.key.Key.TheVariants.{Ground, Pair}
use Rattle.rc_geom.specs.Plane.{Metal}
use Rattle.rc_geom.specs.Faces.{Seen}
use Rattle.rc_geom.specs.Parts.{node_key, pair_key, shared_key, Part, part_for, foreign_metal, same_key, worth_at, is_metal}
use Rattle.rc_geom.specs.Sums.{Adding, IsNeutral}
use Rattle.rc_geom.specs.Laws.{NodesInWords, CouplingsInWords, PartsAreSound}
use Rattle.rc_geom.proofs.KeyTests.{pair_low, pair_high}

-- whether a key that may be there is that key
abbrev pub is_key : Key → Option Key → Bool
is_key key None = false
is_key key (Some k) = same_key k key

part_sound : {V W : Type 0} (sound : W → Bool) (worth : V → W) (v : V) (k : Option Key) → sound (worth v) ≡ true → All (λ part. sound (worth part.amount) ≡ true) (part_for v k)
part_sound {V = X} sound worth v None h = All-nil (λ (part : Part X). sound (worth part.amount) ≡ true)
part_sound {V = X} sound worth v (Some k) h = All-cons (λ (part : Part X). sound (worth part.amount) ≡ true) (record { key = k; amount = v }) [] h (All-nil (λ (part : Part X). sound (worth part.amount) ≡ true))

pub parts_are_sound : {V W : Type 0} → PartsAreSound V W
parts_are_sound {V = X} sound worth face rate first second =
    All-append (λ (part : Part X). sound (worth part.amount) ≡ true) (part_for rate.0 (node_key face.own)) (part_for rate.1 (option_and_then (shared_key face.own) (foreign_metal face.own face.sight)))
    (part_sound sound worth rate.0 (node_key face.own) first)
    (part_sound sound worth rate.1 (option_and_then (shared_key face.own) (foreign_metal face.own face.sight)) second)

-- the sum of two parts, by which of them has the key
two : {W : Type 0} (adding : Adding W) (sound : W → Bool) → IsNeutral adding sound → (c d : Bool) (v w : W) → sound v ≡ true → cond d (adding.plus (cond c (adding.plus adding.none v) adding.none) w) (cond c (adding.plus adding.none v) adding.none) ≡ adding.plus (cond c v adding.none) (cond d w adding.none)
two adding sound laws true true v w h = ap (λ u. adding.plus u w) (laws.before v h)
two adding sound laws true false v w h = laws.before v h ∙ sym (laws.after v h)
two adding sound laws false true v w h = refl
two adding sound laws false false v w h = sym (laws.before adding.none laws.start)

pub two_parts : {V W : Type 0} (adding : Adding W) (sound : W → Bool) → IsNeutral adding sound → (worth : V → W) (key : Key) (v w : V) (j k : Option Key) → sound (worth v) ≡ true → sound (worth w) ≡ true → worth_at adding worth key (part_for v j ++ part_for w k) ≡ adding.plus (cond (is_key key j) (worth v) adding.none) (cond (is_key key k) (worth w) adding.none)
two_parts adding sound laws worth key v w None None h i = sym (laws.before adding.none laws.start)
two_parts adding sound laws worth key v w None (Some k) h i = two adding sound laws false (same_key k key) (worth v) (worth w) h
two_parts adding sound laws worth key v w (Some j) None h i = two adding sound laws (same_key j key) false (worth v) (worth w) h
two_parts adding sound laws worth key v w (Some j) (Some k) h i = two adding sound laws (same_key j key) (same_key k key) (worth v) (worth w) h

-- ---- a node

node_test : (own a : Metal) (g : Bool) → (own.1 == 0) ≡ g → 0 < a.1 → is_key (Ground a.0 a.1) (cond g None (Some (Ground own.0 own.1))) ≡ is_metal own a
node_test own a false is h = refl
node_test own a true is h =
    let e : own.1 ≡ 0 = eqb-true own.1 0 is in
    let apart : own.1 ≢ a.1 = omega arith in
    sym (and_right (own.0 == a.0) (own.1 == a.1) (ne_eqb own.1 a.1 apart))

pair_is_no_node : (a b c : Metal) (less : Bool) → same_key (cond less (Pair a.0 a.1 b.0 b.1) (Pair b.0 b.1 a.0 a.1)) (Ground c.0 c.1) ≡ false
pair_is_no_node a b c true = refl
pair_is_no_node a b c false = refl

grounded_test : (own seen a : Metal) (g h : Bool) → (own.1 == 0) ≡ g → (seen.1 == 0) ≡ h → 0 < a.1 →
    is_key (Ground a.0 a.1) (cond h (cond g None (Some (Ground own.0 own.1))) (cond g (cond h None (Some (Ground seen.0 seen.1))) (Some (pair_key own seen))))
    ≡ ((is_metal own a && h) || (g && is_metal seen a))
grounded_test own seen a g true is_g is_h big =
    let misses : is_metal seen a ≡ false = sym (node_test seen a true is_h big) in
    node_test own a g is_g big ∙ grind (arith, misses)
grounded_test own seen a true false is_g is_h big = grind arith
grounded_test own seen a false false is_g is_h big = pair_is_no_node own seen a (nat_lt own.0 seen.0) ∙ grind arith

node_share : (own : Metal) (f : Option Metal) (a : Metal) → 0 < a.1 → is_key (Ground a.0 a.1) (option_and_then (shared_key own) f) ≡ ((is_metal own a && option_map_or (λ (m : Metal). m.1 == 0) f false) || ((own.1 == 0) && option_map_or (λ (m : Metal). is_metal m a) f false))
node_share own None a big = grind arith
node_share own (Some seen) a big = grounded_test own seen a (own.1 == 0) (seen.1 == 0) refl refl big

pub nodes_in_words : {V W : Type 0} → NodesInWords V W
nodes_in_words adding sound worth face rate a laws first second big =
    two_parts adding sound laws worth (Ground a.0 a.1) rate.0 rate.1 (node_key face.own) (option_and_then (shared_key face.own) (foreign_metal face.own face.sight)) first second
    ∙ (ap (λ (c : Bool). adding.plus (cond c (worth rate.0) adding.none) (cond (is_key (Ground a.0 a.1) (option_and_then (shared_key face.own) (foreign_metal face.own face.sight))) (worth rate.1) adding.none)) (node_test face.own a (face.own.1 == 0) refl big)
    ∙ ap (λ (c : Bool). adding.plus (cond (is_metal face.own a) (worth rate.0) adding.none) (cond c (worth rate.1) adding.none)) (node_share face.own (foreign_metal face.own face.sight) a big))

-- ---- a pair of nodes

node_is_no_pair : (a b own : Metal) (less g : Bool) → is_key (cond less (Pair a.0 a.1 b.0 b.1) (Pair b.0 b.1 a.0 a.1)) (cond g None (Some (Ground own.0 own.1))) ≡ false
node_is_no_pair a b own true true = refl
node_is_no_pair a b own true false = refl
node_is_no_pair a b own false true = refl
node_is_no_pair a b own false false = refl

nets_of : (a b : Metal) → is_metal a b ≡ true → a.0 ≡ b.0
nets_of a b h = eqb-true a.0 b.0 (and_parts (a.0 == b.0) (a.1 == b.1) h).0

-- nets in one order are not those in the other
exclusive : (own seen a b : Metal) → own.0 < seen.0 → a.0 < b.0 → (is_metal own b && is_metal seen a) ≡ false
exclusive own seen a b h k = false_from_ne_true (is_metal own b && is_metal seen a) (λ both.
    let parts = and_parts (is_metal own b) (is_metal seen a) both in
    let first : own.0 ≡ b.0 = nets_of own b parts.0 in
    let second : seen.0 ≡ a.0 = nets_of seen a parts.1 in
    omega arith)

either_left : (x y : Bool) → y ≡ false → x ≡ (x || y)
either_left x y h = grind arith

either_right : (x y : Bool) → x ≡ false → y ≡ (x || y)
either_right x y h = grind arith

and_swap : (x y : Bool) → (x && y) ≡ (y && x)
and_swap x y = grind arith

-- the key of two metals that share is that of two nodes
pairs_match : (own seen a b : Metal) → own.0 ≢ seen.0 → a.0 ≢ b.0 → same_key (pair_key own seen) (pair_key a b) ≡ ((is_metal own a && is_metal seen b) || (is_metal own b && is_metal seen a))
pairs_match own seen a b apart_own apart = ⊎_elim
    (λ (e : own.0 ≡ seen.0). absurd (apart_own e))
    (⊎_elim
    (λ (low : own.0 < seen.0). ⊎_elim
    (λ (e : a.0 ≡ b.0). absurd (apart e))
    (⊎_elim
    (λ (less : a.0 < b.0). ap (λ k. same_key k (pair_key a b)) (pair_low own seen low) ∙ (ap (same_key (Pair own.0 own.1 seen.0 seen.1)) (pair_low a b less) ∙ either_left (is_metal own a && is_metal seen b) (is_metal own b && is_metal seen a) (exclusive own seen a b low less)))
    (λ (more : b.0 < a.0). ap (λ k. same_key k (pair_key a b)) (pair_low own seen low) ∙ (ap (same_key (Pair own.0 own.1 seen.0 seen.1)) (pair_high a b more) ∙ either_right (is_metal own a && is_metal seen b) (is_metal own b && is_metal seen a) (exclusive own seen b a low more))))
    (cases_order a.0 b.0))
    (λ (high : seen.0 < own.0). ⊎_elim
    (λ (e : a.0 ≡ b.0). absurd (apart e))
    (⊎_elim
    (λ (less : a.0 < b.0). ap (λ k. same_key k (pair_key a b)) (pair_high own seen high) ∙ (ap (same_key (Pair seen.0 seen.1 own.0 own.1)) (pair_low a b less) ∙ (and_swap (is_metal seen a) (is_metal own b) ∙ either_right (is_metal own a && is_metal seen b) (is_metal own b && is_metal seen a) (and_swap (is_metal own a) (is_metal seen b) ∙ exclusive seen own a b high less))))
    (λ (more : b.0 < a.0). ap (λ k. same_key k (pair_key a b)) (pair_high own seen high) ∙ (ap (same_key (Pair seen.0 seen.1 own.0 own.1)) (pair_high a b more) ∙ (and_swap (is_metal seen b) (is_metal own a) ∙ either_left (is_metal own a && is_metal seen b) (is_metal own b && is_metal seen a) (and_swap (is_metal own b) (is_metal seen a) ∙ exclusive seen own b a high more)))))
    (cases_order a.0 b.0)))
    (cases_order own.0 seen.0)

no_node : (m a : Metal) → (m.1 == 0) ≡ true → 0 < a.1 → is_metal m a ≡ false
no_node m a is big = sym (node_test m a true is big)

pair_test : (own seen a b : Metal) (g h : Bool) → (own.1 == 0) ≡ g → (seen.1 == 0) ≡ h → 0 < a.1 → 0 < b.1 → own.0 ≢ seen.0 → a.0 ≢ b.0 →
    is_key (pair_key a b) (cond h (cond g None (Some (Ground own.0 own.1))) (cond g (cond h None (Some (Ground seen.0 seen.1))) (Some (pair_key own seen))))
    ≡ ((is_metal own a && is_metal seen b) || (is_metal own b && is_metal seen a))
pair_test own seen a b g true is_g is_h big_a big_b apart_own apart =
    let misses_a = no_node seen a is_h big_a in
    let misses_b = no_node seen b is_h big_b in
    node_is_no_pair a b own (nat_lt a.0 b.0) g ∙ grind (arith, misses_a, misses_b)
pair_test own seen a b true false is_g is_h big_a big_b apart_own apart =
    let misses_a = no_node own a is_g big_a in
    let misses_b = no_node own b is_g big_b in
    node_is_no_pair a b seen (nat_lt a.0 b.0) false ∙ grind (arith, misses_a, misses_b)
pair_test own seen a b false false is_g is_h big_a big_b apart_own apart = pairs_match own seen a b apart_own apart

foreign_net : (own metal : Metal) (c : Bool) (seen : Metal) → (metal.0 == own.0) ≡ c → cond c None (Some metal) ≡ Some seen → own.0 ≢ seen.0
foreign_net own metal true seen is h = cc
foreign_net own metal false seen is h = λ e.
    let same : metal ≡ seen = cc in
    eqb-false metal.0 own.0 is (ap (λ (m : Metal). m.0) same ∙ sym e)

foreign_apart : (own : Metal) (sight : Option Seen) (seen : Metal) → foreign_metal own sight ≡ Some seen → own.0 ≢ seen.0
foreign_apart own None seen h = cc
foreign_apart own (Some s) seen h = foreign_net own s.1 (s.1.0 == own.0) seen refl h

pair_share : (own : Metal) (f : Option Metal) (a b : Metal) → ((seen : Metal) → f ≡ Some seen → own.0 ≢ seen.0) → 0 < a.1 → 0 < b.1 → a.0 ≢ b.0 → is_key (pair_key a b) (option_and_then (shared_key own) f) ≡ ((is_metal own a && option_map_or (λ (m : Metal). is_metal m b) f false) || (is_metal own b && option_map_or (λ (m : Metal). is_metal m a) f false))
pair_share own None a b others big_a big_b apart = grind arith
pair_share own (Some seen) a b others big_a big_b apart = pair_test own seen a b (own.1 == 0) (seen.1 == 0) refl refl big_a big_b (others seen refl) apart

pub couplings_in_words : {V W : Type 0} → CouplingsInWords V W
couplings_in_words adding sound worth face rate a b laws first second big_a big_b apart =
    let share = option_and_then (shared_key face.own) (foreign_metal face.own face.sight) in
    let amount = λ (c : Bool). cond c (worth rate.1) adding.none in
    two_parts adding sound laws worth (pair_key a b) rate.0 rate.1 (node_key face.own) share first second
    ∙ (ap (λ (c : Bool). adding.plus (cond c (worth rate.0) adding.none) (amount (is_key (pair_key a b) share))) (node_is_no_pair a b face.own (nat_lt a.0 b.0) (face.own.1 == 0))
    ∙ (laws.before (amount (is_key (pair_key a b) share)) (cond_both (is_key (pair_key a b) share) (worth rate.1) adding.none (λ v. sound v ≡ true) (λ _. second) (λ _. laws.start))
    ∙ ap amount (pair_share face.own (foreign_metal face.own face.sight) a b (foreign_apart face.own face.sight) big_a big_b apart)))
