-- The tests by which nets are compared tell what is the same.
use Rattle.std.proofs.Common.{◌≡◌, ◌≢◌, ℕ, suc, ◌+◌, ◌<◌, ◌≤◌, Bool, true, false, List, [], ◌∷◌, length, get_or, drop, refl, ap, sym, ◌∙◌, arith, Option, Some, None, map}
use Rattle.std.specs.Prelude.{◌==◌, ◌&&◌, ◌↔◌, IsTrue, IfSome, option_map, slice_get}
use Rattle.std.specs.Bool.{Decides}
use Rattle.std.specs.Str.{bytes_eq}
use Rattle.std.specs.Cmp.Lexicographic.{pointwise}
use Rattle.std.proofs.Math.Seq.{drop-cons}
use Rattle.std.proofs.lemmas.List.{drop_all}
use Rattle.std.proofs.lemmas.Option.{slice_get-get_or}
use Rattle.std.proofs.lemmas.Bool.Decides.{Decides-eqb}
use Rattle.std.proofs.lemmas.Slice.Eq.{bytes_eq-Decides}
use Rattle.rc_spef.specs.declared.value.SpefConn.{SpefConn}
use Rattle.rc_spef.specs.declared.value.SpefRes.{SpefRes}
use Rattle.rc_spef.specs.declared.value.DNet.{DNet}
use Rattle.rc_spef.specs.declared.value.Cap.{Cap}
use Rattle.rc_spef.specs.declared.value.End.{End}
use Rattle.rc_spef.specs.declared.value.Sub.{Sub}
use Rattle.rc_spef.specs.declared.value.Sub.TheVariants as sub
use Rattle.rc_spef.specs.declared.value.Dir3.{Dir3}
use Rattle.rc_spef.specs.declared.value.Dir3.TheVariants.{I, O, B}
use Rattle.rc_spef.specs.Sameness.{name_text, NamedEnd, NamedConn, NamedCap, NamedResistor, NamedNet, named_end, named_conn, named_cap, named_resistor, named_net}
use Rattle.rc_spef.specs.SameTests.{same_sub, same_dir, same_option, same_bool, same_end, same_conn, same_cap, same_resistor, same_net}

-- ---- lists, place by place

at_place : {X : Type 0} (test : X → X → Bool) (xs ys : List X) (k : ℕ) (x y : X) → k < length xs → length xs ≡ length ys → x ≡ get_or xs k x → y ≡ get_or ys k y →
    pointwise test (drop k xs) (drop k ys) ≡ (test x y && pointwise test (drop (suc k) xs) (drop (suc k) ys))
at_place test xs ys k x y within long is same =
    let us = drop-cons xs k x within in
    let vs = drop-cons ys k y (omega (arith, long)) in
    rw (us, vs, sym is, sym same) refl

pub differs_at : {X : Type 0} (test : X → X → Bool) (xs ys : List X) (k : ℕ) (x y : X) → k < length xs → length xs ≡ length ys → x ≡ get_or xs k x → y ≡ get_or ys k y →
    pointwise test xs ys ≡ pointwise test (drop k xs) (drop k ys) → test x y ≡ false → false ≡ pointwise test xs ys
differs_at test xs ys k x y within long is same so_far other = sym (so_far ∙ at_place test xs ys k x y within long is same ∙ ap (λ b. b && pointwise test (drop (suc k) xs) (drop (suc k) ys)) other)

pub same_at : {X : Type 0} (test : X → X → Bool) (xs ys : List X) (k : ℕ) (x y : X) → k < length xs → length xs ≡ length ys → x ≡ get_or xs k x → y ≡ get_or ys k y →
    pointwise test xs ys ≡ pointwise test (drop k xs) (drop k ys) → test x y ≡ true → pointwise test xs ys ≡ pointwise test (drop (k + 1) xs) (drop (k + 1) ys)
same_at test xs ys k x y within long is same so_far alike =
    let next : suc k ≡ k + 1 = omega arith in
    so_far ∙ at_place test xs ys k x y within long is same ∙ ap (λ b. b && pointwise test (drop (suc k) xs) (drop (suc k) ys)) alike ∙ ap (λ n. pointwise test (drop n xs) (drop n ys)) next

pub same_whole : {X : Type 0} (test : X → X → Bool) (xs ys : List X) (k : ℕ) → length xs ≤ k → length xs ≡ length ys → pointwise test xs ys ≡ pointwise test (drop k xs) (drop k ys) → true ≡ pointwise test xs ys
same_whole test xs ys k all long so_far = sym (so_far ∙ rw (drop_all k xs all, drop_all k ys (omega (arith, long, all))) refl)

no_more : (a b : Bool) → false ≡ b → false ≡ (a && b)
no_more true b is = is
no_more false b is = refl

pub lengths_differ : {X : Type 0} (test : X → X → Bool) (xs ys : List X) → length xs ≢ length ys → false ≡ pointwise test xs ys
lengths_differ test [] [] other = absurd (other refl)
lengths_differ test [] (y ∷ ys) other = refl
lengths_differ test (x ∷ xs) [] other = refl
lengths_differ test (x ∷ xs) (y ∷ ys) other = no_more (test x y) (pointwise test xs ys) (lengths_differ test xs ys (λ e. other (ap suc e)))

-- ---- what the tests tell

and_decides : {P Q : Type 0} (a b : Bool) → Decides a P → Decides b Q → Decides (a && b) (P × Q)
and_decides true b first second = (λ is. (first.0 refl, second.0 is), λ both. second.1 both.1)
and_decides false b first second = (λ is. absurd cc, λ both. absurd (let no : false ≡ true = first.1 both.0 in cc))

-- the same in other words
told : {P Q : Type 0} (b : Bool) → Decides b P → (P → Q) → (Q → P) → Decides b Q
told b decides to from = (λ is. to (decides.0 is), λ q. decides.1 (from q))

pub sub_decides : (a b : Sub) → Decides (same_sub a b) (a ≡ b)
sub_decides sub.Bare sub.Bare = (λ _. refl, λ _. refl)
sub_decides sub.Bare (sub.Num n) = (λ is. absurd cc, λ is. absurd cc)
sub_decides sub.Bare (sub.Word w) = (λ is. absurd cc, λ is. absurd cc)
sub_decides (sub.Num m) sub.Bare = (λ is. absurd cc, λ is. absurd cc)
sub_decides (sub.Num m) (sub.Num n) = told (m == n) (Decides-eqb m n) (λ is. ap (λ k. sub.Num k) is) (λ is. cc)
sub_decides (sub.Num m) (sub.Word w) = (λ is. absurd cc, λ is. absurd cc)
sub_decides (sub.Word v) sub.Bare = (λ is. absurd cc, λ is. absurd cc)
sub_decides (sub.Word v) (sub.Num n) = (λ is. absurd cc, λ is. absurd cc)
sub_decides (sub.Word v) (sub.Word w) = told (bytes_eq v w) (bytes_eq-Decides v w) (λ is. ap (λ k. sub.Word k) is) (λ is. cc)

dir_decides : (a b : Dir3) → Decides (same_dir a b) (a ≡ b)
dir_decides I I = (λ _. refl, λ _. refl)
dir_decides I O = (λ is. absurd cc, λ is. absurd cc)
dir_decides I B = (λ is. absurd cc, λ is. absurd cc)
dir_decides O I = (λ is. absurd cc, λ is. absurd cc)
dir_decides O O = (λ _. refl, λ _. refl)
dir_decides O B = (λ is. absurd cc, λ is. absurd cc)
dir_decides B I = (λ is. absurd cc, λ is. absurd cc)
dir_decides B O = (λ is. absurd cc, λ is. absurd cc)
dir_decides B B = (λ _. refl, λ _. refl)

bool_decides : (a b : Bool) → Decides (same_bool a b) (a ≡ b)
bool_decides true true = (λ _. refl, λ _. refl)
bool_decides true false = (λ is. absurd cc, λ is. absurd cc)
bool_decides false true = (λ is. absurd cc, λ is. absurd cc)
bool_decides false false = (λ _. refl, λ _. refl)

option_decides : {X Y : Type 0} (f g : X → Y) (test : X → X → Bool) → ((x y : X) → Decides (test x y) (f x ≡ g y)) → (a b : Option X) → Decides (same_option test a b) (option_map f a ≡ option_map g b)
option_decides f g test each None None = (λ _. refl, λ _. refl)
option_decides f g test each None (Some b) = (λ is. absurd cc, λ is. absurd cc)
option_decides f g test each (Some a) None = (λ is. absurd cc, λ is. absurd cc)
option_decides f g test each (Some a) (Some b) = told (test a b) (each a b) (λ is. ap (λ x. Some x) is) (λ is. cc)

list_decides : {X Y : Type 0} (f g : X → Y) (test : X → X → Bool) → ((x y : X) → Decides (test x y) (f x ≡ g y)) → (xs ys : List X) → Decides (pointwise test xs ys) (map f xs ≡ map g ys)
list_decides f g test each [] [] = (λ _. refl, λ _. refl)
list_decides f g test each [] (y ∷ ys) = (λ is. absurd cc, λ is. absurd cc)
list_decides f g test each (x ∷ xs) [] = (λ is. absurd cc, λ is. absurd cc)
list_decides f g test each (x ∷ xs) (y ∷ ys) =
    told (test x y && pointwise test xs ys) (and_decides (test x y) (pointwise test xs ys) (each x y) (list_decides f g test each xs ys))
    (λ both. cc) (λ is. (cc, cc))

end_decides : (names others : List (List ℕ)) (a b : End) → Decides (same_end names others a b) (named_end names a ≡ named_end others b)
unfolding same_end
end_decides names others a b =
    told _ (and_decides (bytes_eq (name_text names a.name) (name_text others b.name)) (same_sub a.sub b.sub) (bytes_eq-Decides (name_text names a.name) (name_text others b.name)) (sub_decides a.sub b.sub))
    (λ both. rw (both.0, both.1) refl) (λ is. (ap (λ (end : NamedEnd). end.name) is, ap (λ (end : NamedEnd). end.sub) is))

conn_decides : (names others : List (List ℕ)) (a b : SpefConn) → Decides (same_conn names others a b) (named_conn names a ≡ named_conn others b)
unfolding same_conn
conn_decides names others a b =
    told _
    (and_decides _ _ (bool_decides a.port b.port) (and_decides _ _ (end_decides names others a.end b.end) (and_decides _ _ (dir_decides a.dir b.dir) (cell_decides a.cell b.cell))))
    (λ all. rw (all.0, all.1.0, all.1.1.0, all.1.1.1) refl)
    (λ is. (ap (λ (c : NamedConn). c.port) is, (ap (λ (c : NamedConn). c.end) is, (ap (λ (c : NamedConn). c.dir) is, ap (λ (c : NamedConn). c.cell) is))))
  where
    cell_decides : (a b : Option (List ℕ)) → Decides (same_option bytes_eq a b) (a ≡ b)
    cell_decides None None = (λ _. refl, λ _. refl)
    cell_decides None (Some b) = (λ is. absurd cc, λ is. absurd cc)
    cell_decides (Some a) None = (λ is. absurd cc, λ is. absurd cc)
    cell_decides (Some a) (Some b) = told (bytes_eq a b) (bytes_eq-Decides a b) (λ is. ap (λ x. Some x) is) (λ is. cc)

cap_decides : (names others : List (List ℕ)) (a b : Cap) → Decides (same_cap names others a b) (named_cap names a ≡ named_cap others b)
unfolding same_cap
cap_decides names others a b =
    told _
    (and_decides _ _ (end_decides names others a.a b.a) (and_decides _ _ (option_decides (named_end names) (named_end others) (same_end names others) (end_decides names others) a.b b.b) (Decides-eqb a.value.0 b.value.0)))
    (λ all. rw (all.0, all.1.0, all.1.1) refl)
    (λ is. (ap (λ (c : NamedCap). c.a) is, (ap (λ (c : NamedCap). c.b) is, ap (λ (c : NamedCap). c.value) is)))

resistor_decides : (names others : List (List ℕ)) (a b : SpefRes) → Decides (same_resistor names others a b) (named_resistor names a ≡ named_resistor others b)
unfolding same_resistor
resistor_decides names others a b =
    told _
    (and_decides _ _ (end_decides names others a.a b.a) (and_decides _ _ (end_decides names others a.b b.b) (Decides-eqb a.value.0 b.value.0)))
    (λ all. rw (all.0, all.1.0, all.1.1) refl)
    (λ is. (ap (λ (c : NamedResistor). c.a) is, (ap (λ (c : NamedResistor). c.b) is, ap (λ (c : NamedResistor). c.value) is)))

pub net_decides : (names others : List (List ℕ)) (a b : DNet) → Decides (same_net names others a b) (named_net names a ≡ named_net others b)
unfolding same_net
net_decides names others a b =
    told _
    (and_decides _ _ (bytes_eq-Decides (name_text names a.name) (name_text others b.name))
    (and_decides _ _ (Decides-eqb a.total.0 b.total.0)
    (and_decides _ _ (list_decides (named_conn names) (named_conn others) (same_conn names others) (conn_decides names others) a.conns b.conns)
    (and_decides _ _ (list_decides (named_cap names) (named_cap others) (same_cap names others) (cap_decides names others) a.caps b.caps)
    (list_decides (named_resistor names) (named_resistor others) (same_resistor names others) (resistor_decides names others) a.res b.res)))))
    (λ all. rw (all.0, all.1.0, all.1.1.0, all.1.1.1.0, all.1.1.1.1) refl)
    (λ is. (ap (λ (n : NamedNet). n.name) is, (ap (λ (n : NamedNet). n.total) is, (ap (λ (n : NamedNet). n.conns) is, (ap (λ (n : NamedNet). n.caps) is, ap (λ (n : NamedNet). n.res) is)))))

-- a net of a list
pub found : (nets all : List DNet) (i : ℕ) (net : DNet) → nets ≡ all → i < length all → net ≡ get_or nets i net → slice_get all i ≡ Some net
found nets all i net is within at =
    let inside : i < length nets = omega (arith, ap length is, within) in
    ap (λ nets. slice_get nets i) (sym is) ∙ slice_get-get_or nets i net inside ∙ ap (λ net. Some net) (sym at)

pub nets_told : (ours theirs names others : List (List ℕ)) (nets more : List DNet) (i j : ℕ) (a b : DNet) (result : Bool) → ours ≡ names → theirs ≡ others → slice_get nets i ≡ Some a → slice_get more j ≡ Some b → result ≡ same_net ours theirs a b →
    IfSome (slice_get nets i) (λ one. IfSome (slice_get more j) (λ other. IsTrue result ↔ (named_net names one ≡ named_net others other)))
nets_told ours theirs names others nets more i j a b result is same first second tells =
    let decides = net_decides names others a b in
    let told_so : result ≡ same_net names others a b = tells ∙ ap (λ ns. same_net ns theirs a b) is ∙ ap (λ ns. same_net names ns a b) same in
    rw (first, second) (λ true. decides.0 (sym told_so ∙ true), λ alike. told_so ∙ decides.1 alike)
