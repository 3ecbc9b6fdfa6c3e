-- Words with a blank before each, appended one after the other.
use Rattle.std.proofs.Common.{◌≡◌, ℕ, List, [], ◌∷◌, ◌++◌, ap, sym, ◌∙◌}
use Rattle.std.proofs.lemmas.List.{append-nil, append_assoc}
use Rattle.rc_cli.specs.Lines.{spaced}

one_more : (words : List (List ℕ)) (word : List ℕ) → spaced words ++ 32 ∷ word ≡ spaced (words ++ word ∷ [])
one_more [] word = sym (append-nil (32 ∷ word))
one_more (first ∷ words) word =
    append_assoc (32 ∷ first) (spaced words) (32 ∷ word) ∙ ap (λ bytes. (32 ∷ first) ++ bytes) (one_more words word)

-- a word behind the words that were appended so far
pushed : (start before after : List ℕ) (words : List (List ℕ)) (word : List ℕ) → before ≡ start ++ spaced words → after ≡ before ++ 32 ∷ word →
    after ≡ start ++ spaced (words ++ word ∷ [])
pushed start before after words word so_far is =
    is ∙ ap (λ bytes. bytes ++ 32 ∷ word) so_far ∙ append_assoc start (spaced words) (32 ∷ word) ∙ ap (λ bytes. start ++ bytes) (one_more words word)

pub one_word : (start one a : List ℕ) → one ≡ start ++ 32 ∷ a → one ≡ start ++ spaced (a ∷ [])
one_word start one a first = pushed start start one [] a (sym (append-nil start)) first

pub two_words : (start one two a b : List ℕ) → one ≡ start ++ 32 ∷ a → two ≡ one ++ 32 ∷ b → two ≡ start ++ spaced (a ∷ b ∷ [])
two_words start one two a b first second = pushed start one two (a ∷ []) b (one_word start one a first) second

pub five_words : (start one two three four five a b c d e : List ℕ) → one ≡ start ++ 32 ∷ a → two ≡ one ++ 32 ∷ b → three ≡ two ++ 32 ∷ c →
    four ≡ three ++ 32 ∷ d → five ≡ four ++ 32 ∷ e → five ≡ start ++ spaced (a ∷ b ∷ c ∷ d ∷ e ∷ [])
five_words start one two three four five a b c d e first second third fourth fifth =
    let so_far = pushed start two three (a ∷ b ∷ []) c (two_words start one two a b first second) third in
    let further = pushed start three four (a ∷ b ∷ c ∷ []) d so_far fourth in
    pushed start four five (a ∷ b ∷ c ∷ d ∷ []) e further fifth
