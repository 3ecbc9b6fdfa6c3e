-- Connections and nondefault rules that are found are there.
use Rattle.std.proofs.Common.{◌≡◌, ◌∙◌, ◌⊎◌, inl, inr, ℕ, ◌+◌, ◌<◌, ◌≤◌, Bool, true, false, List, [], ◌∷◌, ◌++◌, length, get_or, refl, sym, ap, subst, arith}
use Rattle.std.proofs.lemmas.List.Elements.{All-nil, All-push, All-head, All-tail}
use Rattle.std.proofs.lemmas.List.Folds.{find_at}
use Rattle.std.proofs.lemmas.Option.{cond_some, slice_get_cases}
use Rattle.std.proofs.Math.ListN.{length-append}
use Rattle.std.specs.Prelude.{All, Option, Some, None, IsSome, find, position, slice_get, codes, nat_lt, Ok, Err, if◌then◌else◌}
use Rattle.std.specs.List.{position_or_len, fold, list_any}
use Rattle.std.specs.Str.{bytes_eq}
use Rattle.rc_fixed.proofs.Tests.{nat_lt_tells}
use Rattle.rc_keys.specs.declared.code.Code.TheVariants.{E06}
use Rattle.rc_keys.specs.declared.fault.Refusal.TheVariants.{At}
use Rattle.rc_lef.specs.declared.cell.Macro.{Macro}
use Rattle.rc_layout.specs.declared.net.Conn.{Conn}
use Rattle.rc_layout.specs.declared.net.Conn.TheVariants as conns
use Rattle.rc_layout.specs.declared.parts.Parts.{Parts}
use Rattle.rc_layout.specs.Entries.{port_conn, pin_conn, pin_in, link_conn, same_conn, at_first, net_rule}
use Rattle.rc_layout.specs.Facts.{HasConn, HasPin, IsPinOf, HasRule}
use Rattle.rc_layout.specs.Refusals.{Linked, there, adds, each, goes_on, ◌>>=◌}
use Rattle.rc_layout.specs.Scope.{numbered, rule_named}
use Rattle.rc_layout.proofs.FactsChains.{same_ok, not_ok, bound, was_there, stays_refused}
use Rattle.rc_layout.proofs.FactsVias.{numbered_is}

-- ---- places

pub position_at : {X : Type 0} (test : X → Bool) (xs : List X) (k : ℕ) → position test xs ≡ Some k → (k < length xs) × (position_or_len test xs ≡ k)
position_at test xs k e =
    let is = cond_some (nat_lt (position_or_len test xs) (length xs)) (position_or_len test xs) k e in
    (subst (λ (n : ℕ). n < length xs) is.1 (nat_lt_tells (position_or_len test xs) (length xs) is.0), is.1)

pub position_found : {X : Type 0} (test : X → Bool) (xs : List X) (k : ℕ) → position test xs ≡ Some k → IsSome (find test xs)
position_found {X} test xs k e = by (slice_get_cases xs (position_or_len test xs)).1
  where
    at : (k < length xs) × (position_or_len test xs ≡ k)
    at = position_at test xs k e

    by : ((x : X) × (position_or_len test xs < length xs) × (slice_get xs (position_or_len test xs) ≡ Some x) × (get_or xs (position_or_len test xs) x ≡ x))
        ⊎ ((length xs ≤ position_or_len test xs) × (slice_get xs (position_or_len test xs) ≡ None)) → IsSome (find test xs)
    by (inl inside) = rw (find_at test xs, inside.2) refl
    by (inr past) = let a = at.0 in let b = at.1 in let c = past.0 in absurd (omega (arith, a, b, c))

-- ---- connections

pub conn_is : (parts : Parts) (line : ℕ) (raw : List ℕ × List ℕ) (conn : Conn) → link_conn parts line raw ≡ Ok conn → HasConn parts conn
unfolding link_conn
conn_is parts line raw conn e = by (bytes_eq raw.0 (codes "PIN")) e
  where
    port : port_conn parts line raw.1 ≡ Ok conn → HasConn parts conn
    port e =
        let (n, named, end) = bound (there (At E06 line) (position (λ port. bytes_eq raw.1 port.name) parts.ports)) (λ number. Ok (conns.Port number)) conn e in
        let at = position_at (λ port. bytes_eq raw.1 port.name) parts.ports n (was_there (At E06 line) (position (λ port. bytes_eq raw.1 port.name) parts.ports) n named) in
        subst (λ (c : Conn). HasConn parts c) (same_ok (conns.Port n) conn end) at.0

    in_cell : (o : Option Macro) (n : ℕ) → pin_in o raw.1 ≡ Some n → IsPinOf o n
    in_cell (Some cell) n is = (position_at (λ pin. bytes_eq raw.1 pin.name) cell.pins n is).0
    in_cell None n is = absurd cc

    pin : pin_conn parts line raw.0 raw.1 ≡ Ok conn → HasConn parts conn
    pin e =
        let (found, named, more) =
        bound (there (At E06 line) (numbered (λ c. bytes_eq raw.0 c.name) parts.comps))
        (λ found. there (At E06 line) (pin_in (slice_get parts.tech.macros found.1.cell) raw.1) >>= λ number. Ok (conns.Pin found.0 number)) conn e in
        let here = numbered_is (λ c. bytes_eq raw.0 c.name) parts.comps found (was_there (At E06 line) (numbered (λ c. bytes_eq raw.0 c.name) parts.comps) found named) in
        let (n, in_it, end) = bound (there (At E06 line) (pin_in (slice_get parts.tech.macros found.1.cell) raw.1)) (λ number. Ok (conns.Pin found.0 number)) conn more in
        let has = in_cell (slice_get parts.tech.macros found.1.cell) n (was_there (At E06 line) (pin_in (slice_get parts.tech.macros found.1.cell) raw.1) n in_it) in
        let pin_has : HasPin parts (slice_get parts.comps found.0) n = rw here has in
        subst (λ (c : Conn). HasConn parts c) (same_ok (conns.Pin found.0 n) conn end) pin_has

    by : (t : Bool) → (if t then port_conn parts line raw.1 else pin_conn parts line raw.0 raw.1) ≡ Ok conn → HasConn parts conn
    by true e = port e
    by false e = pin e

-- ---- the first of those that stand again

firsts_all : (P : Conn → Type 0) (done list : List Conn) → All P done → All P list → All P (fold (λ done c. if list_any (same_conn c) done then done else done ++ c ∷ []) done list)
firsts_all P done [] before all = before
firsts_all P done (c ∷ list) before all =
    firsts_all P (if list_any (same_conn c) done then done else done ++ c ∷ []) list (one (list_any (same_conn c) done)) (All-tail P c list all)
  where
    one : (t : Bool) → All P (if t then done else done ++ c ∷ [])
    one true = before
    one false = All-push P done c before (All-head P c list all)

pub at_first_all : (P : Conn → Type 0) (list : List Conn) → All P list → All P (at_first list)
at_first_all P list all = firsts_all P [] list (All-nil P) all

firsts_few : (done list : List Conn) → length (fold (λ done c. if list_any (same_conn c) done then done else done ++ c ∷ []) done list) ≤ length done + length list
firsts_few done [] = omega arith
firsts_few done (c ∷ list) =
    let rest = firsts_few (if list_any (same_conn c) done then done else done ++ c ∷ []) list in
    let more = one (list_any (same_conn c) done) in
    omega (arith, rest, more)
  where
    one : (t : Bool) → length (if t then done else done ++ c ∷ []) ≤ length done + 1
    one true = omega arith
    one false = let e = length-append done (c ∷ []) in omega (arith, e)

pub at_first_few : (list : List Conn) → length (at_first list) ≤ length list
at_first_few list = let few = firsts_few [] list in omega (arith, few)

-- ---- as many values as items

each_long : {A B : Type 0} (f : A → Linked B) (m : Linked (List B)) (n : ℕ) (xs : List A) (ys : List B) → ((done : List B) → m ≡ Ok done → length done ≡ n) → fold (goes_on (adds f)) m xs ≡ Ok ys → length ys ≡ n + length xs
each_long f m n [] ys here e = let h = here ys e in omega (arith, h)
each_long f (Err r) n (x ∷ xs) ys here e = absurd (not_ok r ys (sym (stays_refused (adds f) r xs) ∙ e))
each_long {A} {B} f (Ok done) n (x ∷ xs) ys here e =
    let rest = each_long f (adds f done x) (n + 1) xs ys next e in
    omega (arith, rest)
  where
    next : (t : List B) → adds f done x ≡ Ok t → length t ≡ n + 1
    next t h =
        let (y, value, more) = bound (f x) (λ y. Ok (done ++ y ∷ [])) t h in
        let longer = length-append done (y ∷ []) in
        let same = ap (λ (l : List B). length l) (same_ok (done ++ y ∷ []) t more) in
        let before = here done refl in
        omega (arith, longer, same, before)

pub each_length : {A B : Type 0} (f : A → Linked B) (xs : List A) (ys : List B) → each f xs ≡ Ok ys → length ys ≡ length xs
each_length {A} {B} f xs ys e = let long = each_long f (Ok []) 0 xs ys (λ (done : List B) h. ap (λ (l : List B). length l) (sym (same_ok [] done h))) e in omega (arith, long)

-- ---- a rule

pub rule_is : (parts : Parts) (line : ℕ) (o : Option (List ℕ)) (r : Option ℕ) → net_rule parts line o ≡ Ok r → HasRule parts o
rule_is parts line None r e = tt
rule_is parts line (Some name) r e =
    let (n, named, end) = bound (rule_named parts.rules line name) (λ number. Ok (Some number)) r e in
    position_found (λ rule. bytes_eq name rule.name) parts.rules n (was_there (At E06 line) (position (λ rule. bytes_eq name rule.name) parts.rules) n named)
