-- Things of different names.
use Rattle.std.proofs.Common.{◌≡◌, ℕ, suc, take, drop, ◌<◌, Bool, true, false, List, [], ◌∷◌, ◌++◌, length, map, get_or, length-append, refl, sym, ap, ◌∙◌, subst, append_assoc, arith}
use Rattle.std.specs.Prelude.{◌≢◌, ◌&&◌, not, AllPairs}
use Rattle.std.specs.List.{list_any}
use Rattle.std.specs.Str.{bytes_eq}
use Rattle.std.proofs.lemmas.Slice.Eq.{bytes_eq-Decides}
use Rattle.std.proofs.lemmas.List.{map_push, get_or_append_left}
use Rattle.std.proofs.Math.Seq.{get_or-append_seam}
use Rattle.std.proofs.lemmas.List.Folds.{list_any_none}
use Rattle.std.proofs.lemmas.Bool.{true≢false}
use Rattle.std.proofs.lemmas.List.{take-append-drop}
use Rattle.std.proofs.Math.Seq.{drop-cons}
use Rattle.rc_keys.proofs.Naming.{list_any-map, are_new-append}
use Rattle.rc_lef.specs.declared.ndr.Ndr.{Ndr}
use Rattle.rc_lef.specs.Technology.{name_of_rule}
use Rattle.rc_layout.specs.declared.firsts.Name.{Name}
use Rattle.rc_layout.specs.declared.part.Rule.{Rule}
use Rattle.rc_layout.specs.Layouts.{rule_of}
use Rattle.rc_keys.specs.Tables.{has_name, are_new}

-- whether names are new is told by the names alone
by_names : {T : Type 0} (called : T → List ℕ) (things xs : List T) → are_new called things xs ≡ are_new (λ (n : List ℕ). n) (map called things) (map called xs)
by_names called things [] = refl
by_names called things (x ∷ xs) =
    ap (λ b. not b && are_new called (things ++ x ∷ []) xs) (sym (list_any-map (bytes_eq (called x)) called things))
    ∙ ap (λ b. not (list_any (bytes_eq (called x)) (map called things)) && b) (by_names called (things ++ x ∷ []) xs ∙ ap (λ l. are_new (λ (n : List ℕ). n) l (map called xs)) (map_push called things x))

pub same_names : {T U : Type 0} (called : T → List ℕ) (named : U → List ℕ) (xs : List T) (ys : List U) → map called xs ≡ map named ys → are_new named [] ys ≡ true → are_new called [] xs ≡ true
same_names called named xs ys same are = by_names called [] xs ∙ ap (are_new (λ (n : List ℕ). n) []) same ∙ sym (by_names named [] ys) ∙ are

differs : (a b : List ℕ) → a ≢ b → bytes_eq b a ≡ false
differs a b apart = by (bytes_eq b a) refl
  where
    by : (r : Bool) → bytes_eq b a ≡ r → bytes_eq b a ≡ false
    by true e = absurd (apart (sym ((bytes_eq-Decides b a).0 e)))
    by false e = e

new_behind : {T : Type 0} (called : T → List ℕ) (things xs : List T) → AllPairs (λ a b. called a ≢ called b) (things ++ xs) → are_new called things xs ≡ true
new_behind called things [] differ = refl
new_behind {T = T} called things (x ∷ xs) differ =
    let none : has_name called (called x) things ≡ false =
    list_any_none (λ other. bytes_eq (called x) (called other)) things (λ k d lt. differs (called (get_or things k d)) (called x) (apart k d lt)) in
    rw none (new_behind called (things ++ x ∷ []) xs (subst (AllPairs (λ a b. called a ≢ called b)) (sym (append_assoc things (x ∷ []) xs)) differ))
  where
    apart : (k : ℕ) (d : T) → k < length things → called (get_or things k d) ≢ called x
    apart k d lt e =
        let within : length things < length (things ++ x ∷ xs) = subst (λ n. length things < n) (sym (length-append things (x ∷ xs))) (omega arith) in
        differ k (length things) d lt within (ap called (get_or_append_left things (x ∷ xs) d k lt) ∙ e ∙ sym (ap called (get_or-append_seam things x xs d)))

pub new_from : {T : Type 0} (called : T → List ℕ) (xs : List T) → AllPairs (λ a b. called a ≢ called b) xs → are_new called [] xs ≡ true
new_from called xs differ = new_behind called [] xs differ

-- ---- the next of things of different names

right : (a b : Bool) → (a && b) ≡ true → b ≡ true
right true b is = is
right false b is = absurd (true≢false (sym is))

left : (a b : Bool) → (a && b) ≡ true → a ≡ true
left true b is = refl
left false b is = is

fails : (b : Bool) → not b ≡ true → b ≡ false
fails true is = sym is
fails false is = refl

pub next_new :
    {T : Type 0} (called : T → List ℕ) (names : List Name) (items : List T) (i : ℕ) (d : T) (text : List ℕ) → are_new called [] items ≡ true
    → map (λ (n : Name). n.text) names ≡ map called (take i items) → i < length items → text ≡ called (get_or items i d)
    → has_name (λ (n : Name). n.text) text names ≡ false
next_new {T} called names items i d text are same within is =
    let x = get_or items i d in
    let rest = drop (suc i) items in
    let parted : items ≡ take i items ++ x ∷ rest = sym (take-append-drop i items) ∙ ap (λ (l : List T). take i items ++ l) (drop-cons items i d within) in
    let both : (are_new called [] (take i items) && are_new called (take i items) (x ∷ rest)) ≡ true =
    sym (are_new-append called [] (take i items) (x ∷ rest)) ∙ ap (are_new called []) (sym parted) ∙ are in
    let new : not (has_name called (called x) (take i items)) ≡ true =
    left (not (has_name called (called x) (take i items))) _ (right (are_new called [] (take i items)) (are_new called (take i items) (x ∷ rest)) both) in
    ap (λ n. has_name (λ (n : Name). n.text) n names) is ∙ sym (list_any-map (bytes_eq (called x)) (λ (n : Name). n.text) names) ∙ ap (list_any (bytes_eq (called x))) same
    ∙ list_any-map (bytes_eq (called x)) called (take i items) ∙ fails (has_name called (called x) (take i items)) new

-- ---- the technology's nondefault rules keep their names

ruled_names : (ndrs : List Ndr) → map (λ (rule : Rule). rule.name) (map rule_of ndrs) ≡ map name_of_rule ndrs
ruled_names [] = refl
ruled_names (ndr ∷ ndrs) = ap (λ (l : List (List ℕ)). ndr.name ∷ l) (ruled_names ndrs)

pub ruled_new : (ndrs : List Ndr) → are_new name_of_rule [] ndrs ≡ true → are_new (λ (rule : Rule). rule.name) [] (map rule_of ndrs) ≡ true
ruled_new ndrs are = same_names (λ (rule : Rule). rule.name) name_of_rule (map rule_of ndrs) ndrs (ruled_names ndrs) are
