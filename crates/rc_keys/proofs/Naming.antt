-- Names beside the things that have them.
use Rattle.std.proofs.Common.{◌≡◌, ◌∙◌, ◌+◌, ◌<◌, ℕ, suc, Bool, true, false, cond, List, [], ◌∷◌, ◌++◌, map, take, drop, length, get_or, refl, ap, sym, subst, arith, append_assoc}
use Rattle.std.proofs.lemmas.Bool.{true≢false}
use Rattle.std.proofs.lemmas.Bool.Decides.{nat_tests}
use Rattle.std.proofs.lemmas.Slice.Eq.{bytes_eq-Decides}
use Rattle.std.proofs.lemmas.List.Folds.{list_any_at}
use Rattle.std.proofs.lemmas.List.Quantifiers.{all_pairs_push}
use Rattle.std.proofs.lemmas.List.{append-nil, take-append-drop}
use Rattle.std.specs.Prelude.{◌≢◌, Some, None, ◌||◌, ◌&&◌, not, is_some, nat_lt, position, AllPairs}
use Rattle.rc_keys.specs.Tables.{has_name, are_new}
use Rattle.std.specs.List.{list_any, prefix_len, take-map}
use Rattle.std.specs.Str.{bytes_eq}
use Rattle.std.specs.Global.{Vec}
use Rattle.std.proofs.lemmas.List.{length-map, map_push}

pub list_any-map : {X Y : Type 0} (p : Y → Bool) (h : X → Y) (xs : List X) → list_any p (map h xs) ≡ list_any (λ x. p (h x)) xs
list_any-map p h [] = refl
list_any-map p h (x ∷ xs) = ap (λ b. p (h x) || b) (list_any-map p h xs)

prefix_len-map : {X Y : Type 0} (p : Y → Bool) (h : X → Y) (xs : List X) → prefix_len p (map h xs) ≡ prefix_len (λ x. p (h x)) xs
prefix_len-map p h [] = refl
prefix_len-map p h (x ∷ xs) = ap (λ n. cond (p (h x)) (1 + n) 0) (prefix_len-map p h xs)

pub position-map : {X Y : Type 0} (p : Y → Bool) (h : X → Y) (xs : List X) → position p (map h xs) ≡ position (λ x. p (h x)) xs
position-map p h xs = rw (prefix_len-map (λ y. not (p y)) h xs, length-map xs h) refl

-- a name is found among the keys where its thing stands
pub found : {T : Type 0} (called : T → List ℕ) (keys : List (Vec ℕ)) (items now : List T) (name : List ℕ) → map (λ (k : Vec ℕ). k.items) keys ≡ map called items → items ≡ now
    → position (λ (k : Vec ℕ). bytes_eq name k.items) keys ≡ position (λ item. bytes_eq name (called item)) now
found {T} called keys items now name same is =
    sym (position-map (bytes_eq name) (λ (k : Vec ℕ). k.items) keys) ∙ ap (position (bytes_eq name)) same ∙ position-map (bytes_eq name) called items
    ∙ ap (λ (l : List T). position (λ item. bytes_eq name (called item)) l) is

-- a key is new where its name is
pub put_key : {T : Type 0} (called : T → List ℕ) (keys now_keys : List (Vec ℕ)) (items now_items : List T) (item : T) (key : Vec ℕ) → map (λ (k : Vec ℕ). k.items) keys ≡ map called items
    → key.items ≡ called item → list_any (λ other. bytes_eq (called item) (called other)) items ≡ false → now_items ≡ items ++ item ∷ []
    → now_keys ≡ cond (list_any (λ (k : Vec ℕ). bytes_eq key.items k.items) keys) keys (keys ++ key ∷ [])
    → map (λ (k : Vec ℕ). k.items) now_keys ≡ map called now_items
put_key called keys now_keys items now_items item key same name absent grown is =
    let none : list_any (λ (k : Vec ℕ). bytes_eq key.items k.items) keys ≡ false =
    sym (list_any-map (bytes_eq key.items) (λ (k : Vec ℕ). k.items) keys) ∙ ap (list_any (bytes_eq key.items)) same
    ∙ list_any-map (bytes_eq key.items) called items ∙ rw name absent in
    rw (is, none, grown) (map_push (λ (k : Vec ℕ). k.items) keys key ∙ rw (same, name) (sym (map_push called items item)))

-- the keys and the things that are kept
pub cut_keys : {T : Type 0} (called : T → List ℕ) (keys now_keys : List (Vec ℕ)) (items now_items : List T) (n : ℕ) → map (λ (k : Vec ℕ). k.items) keys ≡ map called items → now_keys ≡ take n keys → now_items ≡ take n items
    → map (λ (k : Vec ℕ). k.items) now_keys ≡ map called now_items
cut_keys called keys now_keys items now_items n same is at = rw (is, at) (sym (take-map (λ (k : Vec ℕ). k.items) n keys) ∙ ap (take n) same ∙ take-map called n items)

-- ---- whether a name is there, and new names

within : {X : Type 0} (p : X → Bool) (xs : List X) → nat_lt (prefix_len (λ x. not (p x)) xs) (length xs) ≡ list_any p xs
within p [] = refl
within p (x ∷ xs) = by (p x) (within p xs)
  where
    by : (b : Bool) → nat_lt (prefix_len (λ x. not (p x)) xs) (length xs) ≡ list_any p xs → nat_lt (cond (not b) (1 + prefix_len (λ x. not (p x)) xs) 0) (suc (length xs)) ≡ (b || list_any p xs)
    by true same = grind (arith, nat_tests)
    by false same = let e : nat_lt (1 + prefix_len (λ x. not (p x)) xs) (suc (length xs)) ≡ nat_lt (prefix_len (λ x. not (p x)) xs) (length xs) = grind (arith, nat_tests) in e ∙ same

if_so : (b : Bool) (k : ℕ) → is_some (cond b (Some k) None) ≡ b
if_so true k = refl
if_so false k = refl

pub position_tells : {X : Type 0} (p : X → Bool) (xs : List X) → is_some (position p xs) ≡ list_any p xs
position_tells p xs = if_so (nat_lt (prefix_len (λ x. not (p x)) xs) (length xs)) (prefix_len (λ x. not (p x)) xs) ∙ within p xs

pub are_new-append : {T : Type 0} (called : T → List ℕ) (xs ys zs : List T) → are_new called xs (ys ++ zs) ≡ (are_new called xs ys && are_new called (xs ++ ys) zs)
are_new-append called xs [] zs = rw (append-nil xs) refl
are_new-append called xs (y ∷ ys) zs =
    rw (are_new-append called (xs ++ y ∷ []) ys zs, append_assoc xs (y ∷ []) ys) (and_assoc (not (has_name called (called y) xs)) (are_new called (xs ++ y ∷ []) ys) (are_new called (xs ++ y ∷ ys) zs))
  where
    and_assoc : (a b c : Bool) → (a && (b && c)) ≡ ((a && b) && c)
    and_assoc true b c = refl
    and_assoc false b c = refl

left : (a b : Bool) → (a && b) ≡ true → a ≡ true
left true b is = refl
left false b is = is

right : (a b : Bool) → (a && b) ≡ true → b ≡ true
right true b is = is
right false b is = absurd (true≢false (sym is))

fails : (b : Bool) → not b ≡ true → b ≡ false
fails true is = sym is
fails false is = refl

-- things of new names stay so where one more of a new name is there, or only the first are kept
pub pushed : {T : Type 0} (called : T → List ℕ) (things now : List T) (thing : T) → are_new called [] things ≡ true → now ≡ things ++ thing ∷ [] → has_name called (called thing) things ≡ false → are_new called [] now ≡ true
pushed called things now thing are is new = ap (are_new called []) is ∙ are_new-append called [] things (thing ∷ []) ∙ rw (are, new) refl

pub cut : {T : Type 0} (called : T → List ℕ) (things now : List T) (n : ℕ) → are_new called [] things ≡ true → now ≡ take n things → are_new called [] now ≡ true
cut called things now n are is =
    ap (are_new called []) is ∙ left (are_new called [] (take n things)) (are_new called (take n things) (drop n things)) (sym (are_new-append called [] (take n things) (drop n things)) ∙ ap (are_new called []) (take-append-drop n things) ∙ are)

-- ---- things of names that are new one after the other have different names

apart : {T : Type 0} (called : T → List ℕ) (things : List T) (thing : T) → has_name called (called thing) things ≡ false → (k : ℕ) (d : T) → k < length things → called (get_or things k d) ≢ called thing
apart called things thing new k d lt same =
    true≢false (sym (list_any_at (λ other. bytes_eq (called thing) (called other)) things k d lt ((bytes_eq-Decides (called thing) (called (get_or things k d))).1 (sym same))) ∙ new)

pub names_differ : {T : Type 0} (called : T → List ℕ) (things others : List T) → are_new called things others ≡ true → AllPairs (λ a b. called a ≢ called b) things → AllPairs (λ a b. called a ≢ called b) (things ++ others)
names_differ called things [] are differ = subst (AllPairs (λ a b. called a ≢ called b)) (sym (append-nil things)) differ
names_differ called things (other ∷ others) are differ =
    subst (AllPairs (λ a b. called a ≢ called b)) (append_assoc things (other ∷ []) others)
    (names_differ called (things ++ other ∷ []) others (right (not (has_name called (called other) things)) (are_new called (things ++ other ∷ []) others) are)
    (all_pairs_push (λ a b. called a ≢ called b) things other differ (apart called things other (fails (has_name called (called other) things) (left (not (has_name called (called other) things)) (are_new called (things ++ other ∷ []) others) are)))))

pub all_differ : {T : Type 0} (called : T → List ℕ) (things now : List T) → are_new called [] things ≡ true → things ≡ now → AllPairs (λ a b. called a ≢ called b) now
all_differ called things now are is = subst (AllPairs (λ a b. called a ≢ called b)) is (names_differ called [] things are (λ i j d lt within. absurd (omega arith)))
