-- One item more in a loop.
use Rattle.std.proofs.Common.{◌≡◌, ◌<◌, ◌+◌, ℕ, suc, List, [], ◌∷◌, ◌++◌, map, length, get_or, take, refl, ap, sym, ◌∙◌, arith}
use Rattle.std.specs.Prelude.{Option, fold}
use Rattle.std.specs.List.{filter_map, cons_option, enumerate_from}
use Rattle.std.proofs.lemmas.List.{take_more, append-nil, length-take-le}
use Rattle.std.proofs.lemmas.List.Elements.{filter_map-append}
use Rattle.std.proofs.lemmas.List.Sums.{fold_more}
use Rattle.std.proofs.lemmas.Grind.{flat_map-append}
use Rattle.rc_tally.specs.declared.entry.Entry.{Entry}
use Rattle.rc_layout.specs.declared.net.Net.{Net}
use Rattle.rc_layout.specs.declared.net.Conn.{Conn}
use Rattle.rc_layout.specs.declared.net.Conn.TheVariants as variants
use Rattle.rc_layout.specs.declared.part.Port.{Port}
use Rattle.rc_layout.specs.Layouts.{Wired}
use Rattle.rc_engine.specs.Brought.{entries_of}
use Rattle.rc_engine.specs.Names.{with_use, with_conn, first_uses, names_of, escaped_in, called}

abbrev pub IsPort : Conn → Type 0
IsPort (variants.Pin comp pin) = ⊥
IsPort (variants.Port port) = Unit {0}

-- what is made of one item more
pub made_more : {X Y : Type 0} (make : X → Option Y) (xs : List X) (i : ℕ) (d : X) (before after : List Y) (seen : Option Y) → i < length xs → seen ≡ make (get_or xs i d) → before ≡ filter_map make (take i xs) →
    after ≡ before ++ cons_option seen [] → after ≡ filter_map make (take (i + 1) xs)
made_more make xs i d before after seen within gives so_far put =
    put ∙ ap (λ ys. ys ++ cons_option seen []) so_far ∙ ap (λ o. filter_map make (take i xs) ++ cons_option o []) gives
    ∙ sym (ap (filter_map make) (take_more xs i d within) ∙ filter_map-append make (take i xs) (get_or xs i d ∷ []))

-- the component of one connection more
pub use_more : (conns : List Conn) (i : ℕ) (d : Conn) (start keys after : List ℕ) (comp pin : ℕ) → i < length conns → get_or conns i d ≡ variants.Pin comp pin → keys ≡ fold with_conn start (take i conns) → after ≡ with_use keys comp → after ≡ fold with_conn start (take (i + 1) conns)
use_more conns i d start keys after comp pin within is so_far put =
    put ∙ ap (λ (ks : List ℕ). with_use ks comp) so_far ∙ ap (with_conn (fold with_conn start (take i conns))) (sym is) ∙ sym (fold_more with_conn start conns i d within)

pub port_more : (conns : List Conn) (i : ℕ) (d : Conn) (start keys after : List ℕ) → i < length conns → IsPort (get_or conns i d) → keys ≡ fold with_conn start (take i conns) → after ≡ keys → after ≡ fold with_conn start (take (i + 1) conns)
port_more conns i d start keys after within is so_far same = same ∙ so_far ∙ stays (get_or conns i d) is ∙ sym (fold_more with_conn start conns i d within)
  where
    stays : (conn : Conn) → IsPort conn → fold with_conn start (take i conns) ≡ with_conn (fold with_conn start (take i conns)) conn
    stays (variants.Pin comp pin) is = absurd is
    stays (variants.Port port) is = refl

-- the entries of one tally more
pub entries_more : (tallies : List (List (Entry ℕ))) (i : ℕ) (d : List (Entry ℕ)) → i < length tallies → entries_of (take i tallies) ++ get_or tallies i d ≡ entries_of (take (i + 1) tallies)
entries_more tallies i d within =
    ap (λ (es : List (Entry ℕ)). entries_of (take i tallies) ++ es) (sym (append-nil (get_or tallies i d)))
    ∙ sym (ap entries_of (take_more tallies i d within) ∙ flat_map-append (λ (t : List (Entry ℕ)). t) (take i tallies) (get_or tallies i d ∷ []))

numbered_append : {X Y : Type 0} (f : ℕ × X → Y) (k : ℕ) (xs : List X) (x : X) → map f (enumerate_from k (xs ++ x ∷ [])) ≡ map f (enumerate_from k xs) ++ f (k + length xs, x) ∷ []
numbered_append f k [] x = let same : k ≡ k + 0 = omega arith in ap (λ n. f (n, x) ∷ []) same
numbered_append {X} {Y} f k (y ∷ ys) x =
    let same : k + 1 + length ys ≡ k + suc (length ys) = omega arith in
    ap (λ (rest : List Y). f (k, y) ∷ rest) (numbered_append f (k + 1) ys x ∙ ap (λ n. map f (enumerate_from (k + 1) ys) ++ f (n, x) ∷ []) same)

length_take : {X : Type 0} (xs : List X) (i : ℕ) → i < length xs → length (take i xs) ≡ i
length_take xs i within = length-take-le i xs (omega (arith, within))

from_zero : {i : ℕ} (n : ℕ) → n ≡ i → i ≡ 0 + n
from_zero n is = omega (arith, is)

pub numbered_more : {X Y : Type 0} (f : ℕ × X → Y) (xs : List X) (i : ℕ) (d : X) (before after : List Y) (y : Y) → i < length xs → before ≡ map f (enumerate_from 0 (take i xs)) → y ≡ f (i, get_or xs i d) →
    after ≡ before ++ y ∷ [] → after ≡ map f (enumerate_from 0 (take (i + 1) xs))
numbered_more f xs i d before after y within so_far is put =
    put ∙ ap (λ ys. ys ++ y ∷ []) so_far ∙ ap (λ z. map f (enumerate_from 0 (take i xs)) ++ z ∷ []) is
    ∙ ap (λ n. map f (enumerate_from 0 (take i xs)) ++ f (n, get_or xs i d) ∷ []) (from_zero (length (take i xs)) (length_take xs i within))
    ∙ sym (ap (λ zs. map f (enumerate_from 0 zs)) (take_more xs i d within) ∙ numbered_append f 0 (take i xs) (get_or xs i d))

-- all names, one list after another
pub names_are :
    (wired : Wired) (nets : List Net) (uses : List ℕ) (ports : List Port) (none first second third : List (List ℕ)) → none ≡ [] → nets ≡ wired.nets → first ≡ none ++ map (λ net. escaped_in wired.parts net.name) nets → uses ≡ first_uses wired.nets
    → second ≡ first ++ map (λ comp. escaped_in wired.parts (called wired.parts.comps comp)) uses → ports ≡ wired.parts.ports → third ≡ second ++ map (λ port. escaped_in wired.parts port.name) ports → third ≡ names_of wired
unfolding names_of
names_are wired nets uses ports none first second third empty of_nets one of_uses two of_ports three =
    let in_nets : List Net → List (List ℕ) = map (λ net. escaped_in wired.parts net.name) in
    let in_uses : List ℕ → List (List ℕ) = map (λ comp. escaped_in wired.parts (called wired.parts.comps comp)) in
    let in_ports : List Port → List (List ℕ) = map (λ port. escaped_in wired.parts port.name) in
    three ∙ ap (λ ps. second ++ in_ports ps) of_ports
    ∙ ap (λ (ns : List (List ℕ)). ns ++ in_ports wired.parts.ports)
    (two ∙ ap (λ us. first ++ in_uses us) of_uses
    ∙ ap (λ (ns : List (List ℕ)). ns ++ in_uses (first_uses wired.nets)) (one ∙ ap (λ ns. none ++ in_nets ns) of_nets ∙ ap (λ (ns : List (List ℕ)). ns ++ in_nets wired.nets) empty))
