-- The keywords of each format are different words.
use Rattle.std.proofs.Common.{◌≡◌, ◌∙◌, ℕ, Bool, true, false, List, [], ◌∷◌, refl, sym, subst, arith}
use Rattle.std.specs.Prelude.{◌≢◌, ◌&&◌, not, All, AllPairs}
use Rattle.std.specs.Str.{bytes_eq}
use Rattle.std.proofs.lemmas.Bool.{true≢false}
use Rattle.std.proofs.lemmas.Slice.Eq.{bytes_eq-Decides}
use Rattle.std.proofs.lemmas.List.Elements.{All-cons}
use Rattle.std.proofs.lemmas.List.Kept.{AllPairs-cons}
use Rattle.rc_keys.specs.KeyWords.{AreDifferent, lef_words, def_words, rule_words, script_words, spef_words}

abbrev is_other : List ℕ → List (List ℕ) → Bool
is_other word [] = true
is_other word (other ∷ others) = not (bytes_eq word other) && is_other word others

abbrev are_apart : List (List ℕ) → Bool
are_apart [] = true
are_apart (word ∷ words) = is_other word words && are_apart words

left : (a b : Bool) → (a && b) ≡ true → a ≡ true
left true b is = refl
left false b is = is

right : (a b : Bool) → (a && b) ≡ true → b ≡ true
right true b is = is
right false b is = absurd (true≢false (sym is))

fails : (b : Bool) → not b ≡ true → b ≡ false
fails true is = sym is
fails false is = refl

others_differ : (word : List ℕ) (words : List (List ℕ)) → is_other word words ≡ true → All (λ other. word ≢ other) words
others_differ word [] is = λ k d lt. absurd (omega arith)
others_differ word (other ∷ others) is =
    All-cons (λ x. word ≢ x) other others
    (λ same. true≢false (sym ((bytes_eq-Decides word other).1 same) ∙ fails (bytes_eq word other) (left (not (bytes_eq word other)) (is_other word others) is)))
    (others_differ word others (right (not (bytes_eq word other)) (is_other word others) is))

all_differ : (words : List (List ℕ)) → are_apart words ≡ true → AllPairs (λ a b. a ≢ b) words
all_differ [] are = λ i j d lt within. absurd (omega arith)
all_differ (word ∷ words) are =
    AllPairs-cons (λ a b. a ≢ b) word words (others_differ word words (left (is_other word words) (are_apart words) are)) (all_differ words (right (is_other word words) (are_apart words) are))

differ : (words all : List (List ℕ)) → are_apart all ≡ true → words ≡ all → AllPairs (λ a b. a ≢ b) words
differ words all are is = subst (AllPairs (λ a b. a ≢ b)) (sym is) (all_differ all are)

pub lef_differ : (words : List (List ℕ)) → words ≡ lef_words → AreDifferent words
unfolding AreDifferent lef_words
lef_differ words is = differ words lef_words refl is

pub def_differ : (words : List (List ℕ)) → words ≡ def_words → AreDifferent words
unfolding AreDifferent def_words
def_differ words is = differ words def_words refl is

pub rules_differ : (words : List (List ℕ)) → words ≡ rule_words → AreDifferent words
unfolding AreDifferent rule_words
rules_differ words is = differ words rule_words refl is

pub scripts_differ : (words : List (List ℕ)) → words ≡ script_words → AreDifferent words
unfolding AreDifferent script_words
scripts_differ words is = differ words script_words refl is

pub spef_differ : (words : List (List ℕ)) → words ≡ spef_words → AreDifferent words
unfolding AreDifferent spef_words
spef_differ words is = differ words spef_words refl is
