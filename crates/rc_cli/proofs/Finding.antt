-- The first number of a range that passes a test.
use Rattle.std.proofs.Common.{◌≡◌, ℕ, zero, suc, ◌+◌, ◌<◌, ◌≤◌, Bool, true, false, List, Some, None, ap, sym, inl, inr, arith, refl}
use Rattle.std.proofs.Math.Nat.{eq-or-lt_of_le}
use Rattle.std.specs.Fmt.{decimal}
use Rattle.std.specs.Str.{bytes_eq}
use Rattle.rc_cli.specs.Command.{number_up_to}
use Rattle.std.specs.List.{find, range_with_len}

pub none_passes : (test : ℕ → Bool) (first count : ℕ) → ((k : ℕ) → first ≤ k → k < first + count → test k ≡ false) →
    find test (range_with_len first count) ≡ None
none_passes test first zero fails = refl
none_passes test first (suc count) fails =
    let now : test first ≡ false = fails first (omega arith) (omega arith) in
    rw now (none_passes test (first + 1) count (λ k low high. fails k (omega (arith, low)) (omega (arith, high))))

pub first_passes : (test : ℕ → Bool) (first count skipped k : ℕ) → k ≡ first + skipped → skipped < count →
    ((j : ℕ) → first ≤ j → j < k → test j ≡ false) → test k ≡ true → find test (range_with_len first count) ≡ Some k
first_passes test first zero skipped k is within before passes = absurd (omega (arith, within))
first_passes test first (suc count) zero k is within before passes =
    let same : first ≡ k = omega (arith, is) in
    let now : test first ≡ true = rw same passes in
    rw now (ap (λ n. Some n) same)
first_passes test first (suc count) (suc skipped) k is within before passes =
    let now : test first ≡ false = before first (omega arith) (omega (arith, is)) in
    rw now (first_passes test (first + 1) count skipped k (omega (arith, is)) (omega (arith, within)) (λ j low high. before j (omega (arith, low)) high) passes)

-- no number up to k has these digits
abbrev pub NoneUpTo : ℕ → List ℕ → Type 0
NoneUpTo most word = (k : ℕ) → 1 ≤ k → k < 1 + most → bytes_eq (decimal k) word ≡ false

pub none_so_far : (word : List ℕ) → NoneUpTo 0 word
none_so_far word k low high = absurd (omega (arith, low, high))

pub none_further : (word text : List ℕ) (below : ℕ) → NoneUpTo below word → text ≡ decimal (below + 1) → bytes_eq text word ≡ false → NoneUpTo (below + 1) word
none_further word text below before is fails k low high =
    elim (eq-or-lt_of_le {n = k} {m = below + 1} (omega (arith, high))) [ inl same ↦ rw (same, sym is) fails | inr less ↦ before k low (omega (arith, less)) ]

pub number_found : (word text : List ℕ) (most below : ℕ) → below < most → NoneUpTo below word → text ≡ decimal (below + 1) → bytes_eq text word ≡ true → Some (below + 1) ≡ number_up_to most word
unfolding number_up_to
number_found word text most below within before is passes =
    let here : bytes_eq (decimal (below + 1)) word ≡ true = rw (sym is) passes in
    sym (first_passes (λ number. bytes_eq (decimal number) word) 1 most below (below + 1) (omega arith) within (λ j low high. before j low (omega (arith, high))) here)

pub number_missing : (word : List ℕ) (most below : ℕ) → most ≤ below → NoneUpTo below word → None ≡ number_up_to most word
unfolding number_up_to
number_missing word most below all none =
    sym (none_passes (λ number. bytes_eq (decimal number) word) 1 most (λ k low high. none k low (omega (arith, all, high))))
