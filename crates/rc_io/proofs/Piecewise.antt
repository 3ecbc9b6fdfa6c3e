-- Bytes in pieces, and a sink that they are appended to one after another.
use Rattle.std.proofs.Common.{◌≡◌, ◌≤◌, ◌+◌, ◌<◌, ◌∙◌, ◌∷◌, [], ◌++◌, ℕ, zero, suc, List, length, get_or, set, take, drop, refl, ap, sym, arith, append-nil, append_assoc}
use Rattle.std.specs.Prelude.{Option, Result, Ok, Err, OnErr}
use Rattle.std.specs.List.{flat_map}
use Rattle.std.proofs.lemmas.List.{take_more, take-append-drop, take-append-le, length-append}
use Rattle.std.proofs.Math.Seq.{take-append-add}
use Rattle.std.proofs.lemmas.Grind.{flat_map-append}
use Rattle.rc_io.specs.Bytes.{grown, GrewByPrefix, GrewByLess}
use Rattle.rc_io.proofs.Growth.{grown-grown}

-- the last piece gains bytes
pub last_grows :
    {X : Type 0} (f : X → List ℕ) (pieces : List X) (at : ℕ) (piece d : X) (bytes : List ℕ) → at + 1 ≡ length pieces → f piece ≡ f (get_or pieces at d) ++ bytes
    → flat_map f (set pieces at piece) ≡ flat_map f pieces ++ bytes
last_grows f [] at piece d bytes long is = absurd (omega (arith, long))
last_grows f (first ∷ []) zero piece d bytes long is = append-nil (f piece) ∙ is ∙ ap (λ (b : List ℕ). b ++ bytes) (sym (append-nil (f first)))
last_grows f (first ∷ []) (suc at) piece d bytes long is = absurd (omega (arith, long))
last_grows f (first ∷ second ∷ others) zero piece d bytes long is = absurd (omega (arith, long))
last_grows f (first ∷ second ∷ others) (suc at) piece d bytes long is =
    ap (λ (b : List ℕ). f first ++ b) (last_grows f (second ∷ others) at piece d bytes (omega (arith, long)) is) ∙ sym (append_assoc (f first) (flat_map f (second ∷ others)) bytes)

-- one piece more
pub piece_more : {X : Type 0} (f : X → List ℕ) (pieces : List X) (i : ℕ) (piece : X) → i < length pieces → piece ≡ get_or pieces i piece → flat_map f (take i pieces) ++ f piece ≡ flat_map f (take (i + 1) pieces)
piece_more f pieces i piece within is =
    ap (λ (x : _). flat_map f (take i pieces) ++ f x) is ∙ ap (λ (b : List ℕ). flat_map f (take i pieces) ++ b) (sym (append-nil (f (get_or pieces i piece))))
    ∙ sym (ap (flat_map f) (take_more pieces i piece within) ∙ flat_map-append f (take i pieces) (get_or pieces i piece ∷ []))

-- all bytes: those of the pieces before one, its own, and those behind
pub around : {X : Type 0} (f : X → List ℕ) (pieces : List X) (i : ℕ) (piece : X) → i < length pieces → piece ≡ get_or pieces i piece
    → flat_map f pieces ≡ flat_map f (take i pieces) ++ (f piece ++ flat_map f (drop (i + 1) pieces))
around f pieces i piece within is =
    sym (ap (flat_map f) (take-append-drop (i + 1) pieces)) ∙ flat_map-append f (take (i + 1) pieces) (drop (i + 1) pieces)
    ∙ ap (λ (b : List ℕ). b ++ flat_map f (drop (i + 1) pieces)) (sym (piece_more f pieces i piece within is))
    ∙ append_assoc (flat_map f (take i pieces)) (f piece) (flat_map f (drop (i + 1) pieces))

-- the same of pieces as they are gone through, and of a piece as it is handed on
pub around_bytes :
    {X : Type 0} (f : X → List ℕ) (pieces items : List X) (i : ℕ) (piece : X) (bytes all : List ℕ) → flat_map f pieces ≡ all → items ≡ pieces → i < length items → piece ≡ get_or items i piece → bytes ≡ f piece
    → all ≡ flat_map f (take i items) ++ (bytes ++ flat_map f (drop (i + 1) items))
around_bytes f pieces items i piece bytes all are same within is handed =
    sym are ∙ ap (flat_map f) (sym same) ∙ around f items i piece within is ∙ ap (λ (b : List ℕ). flat_map f (take i items) ++ (b ++ flat_map f (drop (i + 1) items))) (sym handed)

-- some first bytes of a piece behind those before it are first bytes of all
first_of_all : (done piece rest all : List ℕ) (count : ℕ) → all ≡ done ++ (piece ++ rest) → count ≤ length piece → done ++ take count piece ≡ take (length done + count) all
first_of_all done piece rest all count are few =
    ap (λ (b : List ℕ). done ++ b) (sym (take-append-le count piece rest few)) ∙ sym (take-append-add done (piece ++ rest) count) ∙ ap (take (length done + count)) (sym are)

reached : (before between now : Option (List ℕ)) (done piece rest all : List ℕ) (count : ℕ) → between ≡ grown before done → all ≡ done ++ (piece ++ rest) → count ≤ length piece → now ≡ grown between (take count piece)
    → now ≡ grown before (take (length done + count) all)
reached before between now done piece rest all count had are few grew =
    grew ∙ ap (λ held. grown held (take count piece)) had ∙ grown-grown before done (take count piece) ∙ ap (grown before) (first_of_all done piece rest all count are few)

long : (done piece rest all : List ℕ) → all ≡ done ++ (piece ++ rest) → length done + length piece ≤ length all
long done piece rest all are =
    let first = ap length are ∙ length-append done (piece ++ rest) in
    let second = length-append piece rest in
    omega (arith, first, second)

pub prefix_of_all : (before between now : Option (List ℕ)) (done piece rest all : List ℕ) → between ≡ grown before done → all ≡ done ++ (piece ++ rest) → GrewByPrefix between now piece → GrewByPrefix before now all
prefix_of_all before between now done piece rest all had are grew =
    let fits = long done piece rest all are in
    (length done + grew.0, omega (arith, fits, grew.1), reached before between now done piece rest all grew.0 had are grew.1 grew.2)

pub less_than_all : (before between now : Option (List ℕ)) (done piece rest all : List ℕ) → between ≡ grown before done → all ≡ done ++ (piece ++ rest) → GrewByLess between now piece → GrewByLess before now all
less_than_all before between now done piece rest all had are grew =
    let fits = long done piece rest all are in
    (length done + grew.0, omega (arith, fits, grew.1), reached before between now done piece rest all grew.0 had are (omega (arith, grew.1)) grew.2)

-- where there are no bytes at all, a piece has none
pub none_in_piece : (done piece rest all : List ℕ) → all ≡ done ++ (piece ++ rest) → all ≡ [] → piece ≡ []
none_in_piece done [] rest all are none = refl
none_in_piece done (byte ∷ bytes) rest all are none =
    let fits = long done (byte ∷ bytes) rest all are in
    absurd (omega (arith, fits, ap length none))

-- what holds anyway holds where an error is answered
pub on_error : {T E : Type 0} {P : Type 0} (r : Result T E) → P → OnErr r P
on_error (Ok value) holds = tt
on_error (Err error) holds = holds
