-- A text in two parts.
use Rattle.std.proofs.Common.{◌≡◌, ◌∙◌, ℕ, ◌+◌, ◌<◌, List, [], ◌∷◌, ◌++◌, length, take, drop, get_or, refl, ap, sym, append_assoc}
use Rattle.std.specs.Prelude.{Option}
use Rattle.std.proofs.lemmas.List.{take_more, append-nil, take-append-drop}
use Rattle.rc_keys.specs.declared.token.Mode.{Mode}
use Rattle.rc_keys.specs.declared.token.Place.{Place}
use Rattle.rc_keys.specs.declared.token.Token.{Token}
use Rattle.rc_keys.specs.Tokens.{next, closed_by, closed_at_end, listed, after, closed_from, tokens_from}

pub after-append : (m : Mode) (p : Place) (a b : List ℕ) → after m p (a ++ b) ≡ after m (after m p a) b
unfolding after
after-append m p [] b = refl
after-append m p (x ∷ a) b = after-append m (next m p x) a b

pub closed-append : (m : Mode) (p : Place) (a b : List ℕ) → closed_from m p (a ++ b) ≡ closed_from m p a ++ closed_from m (after m p a) b
unfolding after closed_from
closed-append m p [] b = refl
closed-append m p (x ∷ a) b = ap (λ ts. listed (closed_by p x) ++ ts) (closed-append m (next m p x) a b) ∙ sym (append_assoc (listed (closed_by p x)) (closed_from m (next m p x) a) (closed_from m (after m (next m p x) a) b))

pub tokens-split : (m : Mode) (p : Place) (a : List ℕ) → tokens_from m p a ≡ closed_from m p a ++ listed (closed_at_end (after m p a))
unfolding tokens_from
tokens-split m p a = refl

one : (m : Mode) (p : Place) (b : ℕ) → closed_from m p (b ∷ []) ≡ listed (closed_by p b)
unfolding closed_from
one m p b = append-nil (listed (closed_by p b))

after_one : (m : Mode) (p : Place) (b : ℕ) → after m p (b ∷ []) ≡ next m p b
unfolding after
after_one m p b = refl

pub closed_more : (m : Mode) (p : Place) (xs : List ℕ) (i : ℕ) (d : ℕ) → i < length xs → closed_from m p (take (i + 1) xs) ≡ closed_from m p (take i xs) ++ listed (closed_by (after m p (take i xs)) (get_or xs i d))
closed_more m p xs i d lt = rw (take_more xs i d lt) (closed-append m p (take i xs) (get_or xs i d ∷ []) ∙ ap (λ ts. closed_from m p (take i xs) ++ ts) (one m (after m p (take i xs)) (get_or xs i d)))

pub after_more : (m : Mode) (p : Place) (xs : List ℕ) (i : ℕ) (d : ℕ) → i < length xs → after m p (take (i + 1) xs) ≡ next m (after m p (take i xs)) (get_or xs i d)
after_more m p xs i d lt = rw (take_more xs i d lt) (after-append m p (take i xs) (get_or xs i d ∷ []) ∙ after_one m (after m p (take i xs)) (get_or xs i d))

pub closed_grow : (m : Mode) (p q : Place) (xs : List ℕ) (i : ℕ) (d : ℕ) (first before now : List Token) (token : Option Token) → i < length xs → q ≡ after m p (take i xs)
    → before ≡ first ++ closed_from m p (take i xs) → token ≡ closed_by q (get_or xs i d) → now ≡ before ++ listed token → now ≡ first ++ closed_from m p (take (i + 1) xs)
closed_grow m p q xs i d first before now token lt at so_far is grown =
    grown ∙ rw (so_far, is, at, closed_more m p xs i d lt) (append_assoc first (closed_from m p (take i xs)) (listed (closed_by (after m p (take i xs)) (get_or xs i d))))

pub closed_part : (m : Mode) (p : Place) (xs : List ℕ) (i : ℕ) → closed_from m p xs ≡ closed_from m p (take i xs) ++ closed_from m (after m p (take i xs)) (drop i xs)
closed_part m p xs i = ap (closed_from m p) (sym (take-append-drop i xs)) ∙ closed-append m p (take i xs) (drop i xs)
