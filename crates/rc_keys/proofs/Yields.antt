-- What pieces make the lexer do.
use Rattle.std.proofs.Common.{◌≡◌, ◌≢◌, ◌∙◌, ℕ, ◌+◌, ◌-◌, ◌<◌, ◌≤◌, ◌⊎◌, inl, inr, Bool, true, false, cond, List, [], ◌∷◌, ◌++◌, length, refl, ap, sym, subst, subst₂, arith, append_assoc, append-nil, length-append, sum_by, All}
use Rattle.std.specs.Prelude.{Option, Some, None, ◌==◌, nat_le}
use Rattle.std.proofs.lemmas.Bool.{cases_lt}
use Rattle.std.proofs.lemmas.Bool.Decides.{nat_tests}
use Rattle.std.proofs.lemmas.List.Sums.{sum_by-append}
use Rattle.std.proofs.lemmas.List.Elements.{All-head, All-tail}
use Rattle.rc_keys.specs.declared.code.Code.{Code}
use Rattle.rc_keys.specs.declared.code.Code.TheVariants.{E01, E02}
use Rattle.rc_keys.specs.declared.token.Inside.{Inside}
use Rattle.rc_keys.specs.declared.token.Inside.TheVariants as inside
use Rattle.rc_keys.specs.declared.token.Kind.TheVariants as kinds
use Rattle.rc_keys.specs.declared.token.Mode.{Mode}
use Rattle.rc_keys.specs.declared.token.Mode.TheVariants as mode
use Rattle.rc_keys.specs.declared.token.Place.{Place}
use Rattle.rc_keys.specs.declared.token.Token.{Token}
use Rattle.rc_keys.specs.Tokens.{next, closed_by, closed_at_end, listed, after, closed_from, tokens_from, is_blank, is_graphic, moved, token_at, fault_in}
use Rattle.rc_keys.specs.Lexemes.{end_fault}
use Rattle.rc_keys.specs.Pieces.{Piece, Blank, Comment, Word, Quoted, bytes_of, text_of, BeginsWith, BeginsPlain, AreGraphic, IsEndOr, IsQuotable, nothing, plain, escaped, IsPiece, ArePieces, line_behind, token_of, tokens_in, IsUnclosed, IsBad, ForeignByte, LongWord, LongQuoted}
use Rattle.rc_keys.proofs.Runs.{not_blank, not_full}

-- behind these bytes of a text, with a token begun
abbrev pub on : List ℕ → Inside → ℕ → ℕ → Place
on front i start line = record { at = length front; line = line_behind front; start = start; start_line = line; inside = i }

-- the fault of a text that ends behind these bytes, and that of one that may go on
abbrev pub last_fault : Mode → Place → List ℕ → Option (Code × ℕ)
last_fault m p bytes = end_fault (after m p bytes)

abbrev pub early_fault : Mode → Place → List ℕ → Option (Code × ℕ)
early_fault m p bytes = fault_in (after m p bytes).inside (after m p bytes).start_line

-- from here these bytes give these tokens, and then what others give from there
abbrev pub Yields : Mode → Place → List ℕ → List Token → Place → List ℕ → Type 0
Yields m p bytes tokens q rest =
    (tokens_from m p bytes ≡ tokens ++ tokens_from m q rest) × (last_fault m p bytes ≡ last_fault m q rest) × (early_fault m p bytes ≡ early_fault m q rest)

pub yields_join : (m : Mode) (p : Place) (a : List ℕ) (ts : List Token) (q : Place) (b : List ℕ) (us : List Token) (r : Place) (c : List ℕ)
    → Yields m p a ts q b → Yields m q b us r c → Yields m p a (ts ++ us) r c
yields_join m p a ts q b us r c x y = (x.0 ∙ ap (λ ns. ts ++ ns) y.0 ∙ sym (append_assoc ts us (tokens_from m r c)), x.1 ∙ y.1, x.2 ∙ y.2)

pub yields_step : (m : Mode) (p : Place) (b : ℕ) (rest : List ℕ) (t : Option Token) (q : Place) → closed_by p b ≡ t → next m p b ≡ q → Yields m p (b ∷ rest) (listed t) q rest
unfolding after closed_from tokens_from
yields_step m p b rest t q closes moves =
    let P : Option Token → Place → Type 0 = λ t q. Yields m p (b ∷ rest) (listed t) q rest in
    subst₂ P closes moves (append_assoc (listed (closed_by p b)) (closed_from m (next m p b) rest) (listed (closed_at_end (after m (next m p b) rest))), refl, refl)

-- one byte further
line_more : (front : List ℕ) (b : ℕ) → line_behind (front ++ b ∷ []) ≡ cond (b == 10) (line_behind front + 1) (line_behind front)
line_more front b = ap (λ n. n + 1) (sum_by-append (λ x. cond (x == 10) 1 0) front (b ∷ [])) ∙ by_test (b == 10)
  where
    by_test : (t : Bool) → sum_by (λ x. cond (x == 10) 1 0) front + (0 + cond t 1 0) + 1 ≡ cond t (line_behind front + 1) (line_behind front)
    by_test true = omega arith
    by_test false = omega arith

pub moved_on : (front : List ℕ) (b : ℕ) (i j : Inside) (start line : ℕ) → moved (on front i start line) b j ≡ on (front ++ b ∷ []) j start line
moved_on front b i j start line =
    let at : length front + 1 ≡ length (front ++ b ∷ []) = omega (arith, length-append front (b ∷ [])) in
    let lines : cond (b == 10) (line_behind front + 1) (line_behind front) ≡ line_behind (front ++ b ∷ []) = sym (line_more front b) in
    λ k. record { at = at k; line = lines k; start = start; start_line = line; inside = j }

-- a place where a token may begin
abbrev pub between : List ℕ → ℕ → ℕ → Place
between front start line = on front inside.Between start line

-- ---- blanks

pub over_blank : (m : Mode) (front : List ℕ) (s l b : ℕ) (rest : List ℕ) → is_blank b ≡ true → Yields m (between front s l) (b ∷ rest) [] (between (front ++ b ∷ []) s l) rest
unfolding next closed_by
over_blank m front s l b rest is = yields_step m (between front s l) b rest None _ refl (rw is (moved_on front b inside.Between inside.Between s l))

-- ---- comments

over_comment_byte : (m : Mode) (front : List ℕ) (s l b : ℕ) (rest : List ℕ) → b ≢ 10 → Yields m (on front inside.Comment s l) (b ∷ rest) [] (on (front ++ b ∷ []) inside.Comment s l) rest
unfolding next closed_by
over_comment_byte m front s l b rest not =
    let test : (b == 10) ≡ false = grind (arith, nat_tests) in
    yields_step m (on front inside.Comment s l) b rest None _ refl (ap (λ t. moved (on front inside.Comment s l) b (cond t inside.Between inside.Comment)) test ∙ moved_on front b inside.Comment inside.Comment s l)

over_comment : (m : Mode) (bytes front : List ℕ) (s l : ℕ) (rest : List ℕ) → All (λ b. b ≢ 10) bytes → Yields m (on front inside.Comment s l) (bytes ++ rest) [] (on (front ++ bytes) inside.Comment s l) rest
over_comment m [] front s l rest all = rw (append-nil front) (refl, refl, refl)
over_comment m (b ∷ bytes) front s l rest all =
    let one = over_comment_byte m front s l b (bytes ++ rest) (All-head (λ b. b ≢ 10) b bytes all) in
    let more = over_comment m bytes (front ++ b ∷ []) s l rest (All-tail (λ b. b ≢ 10) b bytes all) in
    let e : (front ++ b ∷ []) ++ bytes ≡ front ++ b ∷ bytes = append_assoc front (b ∷ []) bytes in
    rw e at (yields_join m (on front inside.Comment s l) (b ∷ bytes ++ rest) [] (on (front ++ b ∷ []) inside.Comment s l) (bytes ++ rest) [] _ rest one more)

-- two ways to one place
meets : (m : Mode) (p : Place) (a : List ℕ) (ts : List Token) (p' : Place) (q : Place) (b : List ℕ) → Yields m p a ts q b → Yields m p' a [] q b → Yields m p a ts p' a
meets m p a ts p' q b x y = (x.0 ∙ ap (λ ns. ts ++ ns) (sym y.0), x.1 ∙ sym y.1, x.2 ∙ sym y.2)

comment_ends : (m : Mode) (front : List ℕ) (s l : ℕ) (behind : List ℕ) → IsEndOr (λ b. b == 10) behind → Yields m (on front inside.Comment s l) behind [] (between front s l) behind
unfolding next closed_by closed_at_end closed_from tokens_from after
comment_ends m front s l [] end = (refl, refl, refl)
comment_ends m front s l (b ∷ rest) end =
    let ten : b ≡ 10 = grind (arith, nat_tests) in
    let there : Yields m (on front inside.Comment s l) (b ∷ rest) [] (between (front ++ b ∷ []) s l) rest =
    yields_step m (on front inside.Comment s l) b rest None _ refl (ap (λ t. moved (on front inside.Comment s l) b (cond t inside.Between inside.Comment)) end ∙ moved_on front b inside.Comment inside.Between s l) in
    let here : Yields m (between front s l) (b ∷ rest) [] (between (front ++ b ∷ []) s l) rest = over_blank m front s l b rest (rw ten refl) in
    meets m (on front inside.Comment s l) (b ∷ rest) [] (between front s l) (between (front ++ b ∷ []) s l) rest there here

-- the marks of a comment
lef_mark : (front : List ℕ) (s l : ℕ) (rest : List ℕ) → Yields mode.Lef (between front s l) (35 ∷ rest) [] (on (front ++ 35 ∷ []) inside.Comment (length front) (line_behind front)) rest
unfolding next closed_by
lef_mark front s l rest = yields_step mode.Lef (between front s l) 35 rest None _ refl (moved_on front 35 inside.Between inside.Comment (length front) (line_behind front))

first_slash : (front : List ℕ) (s l : ℕ) (rest : List ℕ) → Yields mode.Spef (between front s l) (47 ∷ rest) [] (on (front ++ 47 ∷ []) inside.Slash (length front) (line_behind front)) rest
unfolding next closed_by
first_slash front s l rest = yields_step mode.Spef (between front s l) 47 rest None _ refl (moved_on front 47 inside.Between inside.Slash (length front) (line_behind front))

second_slash : (front : List ℕ) (s l : ℕ) (rest : List ℕ) → Yields mode.Spef (on front inside.Slash s l) (47 ∷ rest) [] (on (front ++ 47 ∷ []) inside.Comment s l) rest
unfolding next closed_by
second_slash front s l rest = yields_step mode.Spef (on front inside.Slash s l) 47 rest None _ refl (moved_on front 47 inside.Slash inside.Comment s l)

-- from a place between tokens to another one
abbrev pub Passes : Mode → List ℕ → ℕ → ℕ → List ℕ → List Token → List ℕ → List ℕ → Type 0
Passes m front s l bytes tokens front' rest = (s' l' : ℕ) × Yields m (between front s l) bytes tokens (between front' s' l') rest

comment_piece : (m : Mode) (front : List ℕ) (s l : ℕ) (bytes behind : List ℕ) → IsPiece m (Comment bytes) behind → Passes m front s l (bytes ++ behind) [] (front ++ bytes) behind
comment_piece mode.Lef front s l bytes behind is =
    let more : List ℕ = is.0.0 in
    let all : All (λ b. b ≢ 10) (35 ∷ more) = subst (All (λ b. b ≢ 10)) is.0.1 is.1 in
    let e : (front ++ 35 ∷ []) ++ more ≡ front ++ 35 ∷ more = append_assoc front (35 ∷ []) more in
    let a = lef_mark front s l (more ++ behind) in
    let b = over_comment mode.Lef more (front ++ 35 ∷ []) (length front) (line_behind front) behind (All-tail (λ b. b ≢ 10) 35 more all) in
    let c = comment_ends mode.Lef ((front ++ 35 ∷ []) ++ more) (length front) (line_behind front) behind is.2 in
    let ab = yields_join mode.Lef _ _ [] _ _ [] _ _ a b in
    let abc = yields_join mode.Lef _ _ [] _ _ [] _ _ ab c in
    let P : List ℕ → Type 0 = λ x. Passes mode.Lef front s l (x ++ behind) [] (front ++ x) behind in
    subst P (sym is.0.1) (length front, line_behind front, rw e at abc)
comment_piece mode.Spef front s l bytes behind is =
    let more : List ℕ = is.0.0 in
    let all : All (λ b. b ≢ 10) (47 ∷ 47 ∷ more) = subst (All (λ b. b ≢ 10)) is.0.1 is.1 in
    let e : ((front ++ 47 ∷ []) ++ 47 ∷ []) ++ more ≡ front ++ 47 ∷ 47 ∷ more = append_assoc (front ++ 47 ∷ []) (47 ∷ []) more ∙ append_assoc front (47 ∷ []) (47 ∷ more) in
    let a = first_slash front s l (47 ∷ more ++ behind) in
    let a2 = second_slash (front ++ 47 ∷ []) (length front) (line_behind front) (more ++ behind) in
    let b = over_comment mode.Spef more ((front ++ 47 ∷ []) ++ 47 ∷ []) (length front) (line_behind front) behind (All-tail (λ b. b ≢ 10) 47 more (All-tail (λ b. b ≢ 10) 47 (47 ∷ more) all)) in
    let c = comment_ends mode.Spef (((front ++ 47 ∷ []) ++ 47 ∷ []) ++ more) (length front) (line_behind front) behind is.2 in
    let aa = yields_join mode.Spef _ _ [] _ _ [] _ _ a a2 in
    let ab = yields_join mode.Spef _ _ [] _ _ [] _ _ aa b in
    let abc = yields_join mode.Spef _ _ [] _ _ [] _ _ ab c in
    let P : List ℕ → Type 0 = λ x. Passes mode.Spef front s l (x ++ behind) [] (front ++ x) behind in
    subst P (sym is.0.1) (length front, line_behind front, rw e at abc)

-- ---- words

slash_is_word : (m : Mode) (front : List ℕ) (s l : ℕ) (rest : List ℕ) → ¬ BeginsWith (47 ∷ []) rest → Yields m (on front inside.Slash s l) rest [] (on front inside.Word s l) rest
unfolding next closed_by closed_at_end closed_from tokens_from after
slash_is_word m front s l [] not = (refl, refl, refl)
slash_is_word m front s l (b ∷ rest) not =
    let other : b ≢ 47 = λ e. not (rest, ap (λ x. x ∷ rest) e) in
    let test : (b == 47) ≡ false = grind (arith, nat_tests) in
    let there : Yields m (on front inside.Slash s l) (b ∷ rest) (listed (closed_by (on front inside.Word s l) b)) (next m (on front inside.Word s l) b) rest =
    yields_step m (on front inside.Slash s l) b rest (closed_by (on front inside.Word s l) b) _ refl (rw test refl) in
    let same : Yields m (on front inside.Word s l) (b ∷ rest) (listed (closed_by (on front inside.Word s l) b)) (next m (on front inside.Word s l) b) rest =
    yields_step m (on front inside.Word s l) b rest (closed_by (on front inside.Word s l) b) _ refl refl in
    (there.0 ∙ sym same.0, there.1 ∙ sym same.1, there.2 ∙ sym same.2)

over_first : (m : Mode) (front : List ℕ) (s l b : ℕ) (rest : List ℕ) → is_graphic b ≡ true → BeginsPlain m (b ∷ rest) → Yields m (between front s l) (b ∷ rest) [] (on (front ++ b ∷ []) inside.Word (length front) (line_behind front)) rest
unfolding next closed_by
over_first mode.Lef front s l b rest graphic begins =
    let quote : (b == 34) ≡ false = (let other : b ≢ 34 = λ e. begins.0 (rest, ap (λ x. x ∷ rest) e) in grind (arith, nat_tests)) in
    let mark : (b == 35) ≡ false = (let other : b ≢ 35 = λ e. begins.1 (rest, ap (λ x. x ∷ rest) e) in grind (arith, nat_tests)) in
    yields_step mode.Lef (between front s l) b rest None _ refl (rw (not_blank b graphic, quote, graphic, mark) (moved_on front b inside.Between inside.Word (length front) (line_behind front)))
over_first mode.Spef front s l b rest graphic begins = by_test (b == 47) refl
  where
    quote : (b == 34) ≡ false
    quote = let other : b ≢ 34 = λ e. begins.0 (rest, ap (λ x. x ∷ rest) e) in grind (arith, nat_tests)

    by_test : (t : Bool) → (b == 47) ≡ t → Yields mode.Spef (between front s l) (b ∷ rest) [] (on (front ++ b ∷ []) inside.Word (length front) (line_behind front)) rest
    by_test false is =
        yields_step mode.Spef (between front s l) b rest None _ refl (rw (not_blank b graphic, quote, graphic, is) (moved_on front b inside.Between inside.Word (length front) (line_behind front)))
    by_test true is =
        let slash : b ≡ 47 = grind (arith, nat_tests) in
        let one : Yields mode.Spef (between front s l) (b ∷ rest) [] (on (front ++ b ∷ []) inside.Slash (length front) (line_behind front)) rest =
        yields_step mode.Spef (between front s l) b rest None _ refl (rw (not_blank b graphic, quote, graphic, is) (moved_on front b inside.Between inside.Slash (length front) (line_behind front))) in
        let not : ¬ BeginsWith (47 ∷ []) rest = λ other. begins.1 (other.0, ap (λ x. x ∷ rest) slash ∙ ap (λ xs. 47 ∷ xs) other.1) in
        yields_join mode.Spef (between front s l) (b ∷ rest) [] (on (front ++ b ∷ []) inside.Slash (length front) (line_behind front)) rest [] _ rest one
        (slash_is_word mode.Spef (front ++ b ∷ []) (length front) (line_behind front) rest not)

over_letter : (m : Mode) (front : List ℕ) (s l b : ℕ) (rest : List ℕ) → is_graphic b ≡ true → length front < s + 4096 → Yields m (on front inside.Word s l) (b ∷ rest) [] (on (front ++ b ∷ []) inside.Word s l) rest
unfolding next closed_by
over_letter m front s l b rest graphic room =
    let small : nat_le 4096 (length front - s) ≡ false = not_full (length front) s (omega arith) in
    let closes : closed_by (on front inside.Word s l) b ≡ None = rw (not_blank b graphic) refl in
    yields_step m (on front inside.Word s l) b rest None _ closes (rw (not_blank b graphic, graphic, small) (moved_on front b inside.Word inside.Word s l))

abbrev pub IsGraphic : ℕ → Type 0
IsGraphic b = is_graphic b ≡ true

over_letters : (m : Mode) (bytes front : List ℕ) (s l : ℕ) (rest : List ℕ) → AreGraphic bytes → length front + length bytes ≤ s + 4096 → Yields m (on front inside.Word s l) (bytes ++ rest) [] (on (front ++ bytes) inside.Word s l) rest
over_letters m [] front s l rest all room = rw (append-nil front) (refl, refl, refl)
over_letters m (b ∷ bytes) front s l rest all room =
    let one = over_letter m front s l b (bytes ++ rest) (All-head IsGraphic b bytes all) (omega arith) in
    let more = over_letters m bytes (front ++ b ∷ []) s l rest (All-tail IsGraphic b bytes all) (omega (arith, length-append front (b ∷ []))) in
    let e : (front ++ b ∷ []) ++ bytes ≡ front ++ b ∷ bytes = append_assoc front (b ∷ []) bytes in
    rw e at (yields_join m (on front inside.Word s l) (b ∷ bytes ++ rest) [] (on (front ++ b ∷ []) inside.Word s l) (bytes ++ rest) [] _ rest one more)

word_ends : (m : Mode) (front : List ℕ) (s l : ℕ) (behind : List ℕ) → IsEndOr is_blank behind → Yields m (on front inside.Word s l) behind (token_at kinds.Word (on front inside.Word s l) ∷ []) (between front s l) behind
unfolding next closed_by closed_at_end closed_from tokens_from after
word_ends m front s l [] end = (refl, refl, refl)
word_ends m front s l (b ∷ rest) end =
    let closes : closed_by (on front inside.Word s l) b ≡ Some (token_at kinds.Word (on front inside.Word s l)) = rw end refl in
    let there : Yields m (on front inside.Word s l) (b ∷ rest) (token_at kinds.Word (on front inside.Word s l) ∷ []) (between (front ++ b ∷ []) s l) rest =
    yields_step m (on front inside.Word s l) b rest (Some (token_at kinds.Word (on front inside.Word s l))) _ closes (rw end (moved_on front b inside.Word inside.Between s l)) in
    meets m (on front inside.Word s l) (b ∷ rest) (token_at kinds.Word (on front inside.Word s l) ∷ []) (between front s l) (between (front ++ b ∷ []) s l) rest there (over_blank m front s l b rest end)

-- the front of a word
word_front : (m : Mode) (front : List ℕ) (s l b : ℕ) (bytes rest : List ℕ) → AreGraphic (b ∷ bytes) → length (b ∷ bytes) ≤ 4096 → BeginsPlain m (b ∷ bytes ++ rest)
    → Yields m (between front s l) (b ∷ bytes ++ rest) [] (on (front ++ b ∷ bytes) inside.Word (length front) (line_behind front)) rest
word_front m front s l b bytes rest all short begins =
    let one = over_first m front s l b (bytes ++ rest) (All-head IsGraphic b bytes all) begins in
    let more = over_letters m bytes (front ++ b ∷ []) (length front) (line_behind front) rest (All-tail IsGraphic b bytes all) (omega (arith, length-append front (b ∷ []))) in
    let e : (front ++ b ∷ []) ++ bytes ≡ front ++ b ∷ bytes = append_assoc front (b ∷ []) bytes in
    rw e at (yields_join m _ _ [] _ _ [] _ rest one more)

word_piece : (m : Mode) (front : List ℕ) (s l : ℕ) (bytes behind : List ℕ) → IsPiece m (Word bytes) behind → Passes m front s l (bytes ++ behind) (token_of front (Word bytes)) (front ++ bytes) behind
word_piece m front s l [] behind is = absurd (is.0 refl)
word_piece m front s l (b ∷ bytes) behind is =
    let a = word_front m front s l b bytes behind is.2 is.1 is.3 in
    let c = word_ends m (front ++ b ∷ bytes) (length front) (line_behind front) behind is.4 in
    let e : length (front ++ b ∷ bytes) ≡ length front + length (b ∷ bytes) = length-append front (b ∷ bytes) in
    let joined = yields_join m _ _ [] _ _ (token_at kinds.Word (on (front ++ b ∷ bytes) inside.Word (length front) (line_behind front)) ∷ []) _ behind a c in
    let P : ℕ → Type 0 = λ n. Yields m (between front s l) (b ∷ bytes ++ behind) (record { kind = kinds.Word; start = length front; end = n; line = line_behind front } ∷ []) (between (front ++ b ∷ bytes) (length front) (line_behind front)) behind in
    (length front, line_behind front, subst P e joined)

-- ---- quoted texts

over_quote : (m : Mode) (front : List ℕ) (s l : ℕ) (rest : List ℕ) → Yields m (between front s l) (34 ∷ rest) [] (on (front ++ 34 ∷ []) inside.Quoted (length front + 1) (line_behind front)) rest
unfolding next closed_by
over_quote m front s l rest =
    yields_step m (between front s l) 34 rest None _ refl (ap (λ (p : Place). record p { start = length front + 1 }) (moved_on front 34 inside.Between inside.Quoted (length front) (line_behind front)))

over_plain : (m : Mode) (front : List ℕ) (s l b : ℕ) (rest : List ℕ) → b ≢ 34 → b ≢ 92 → length front < s + 4096 → Yields m (on front inside.Quoted s l) (b ∷ rest) [] (on (front ++ b ∷ []) inside.Quoted s l) rest
unfolding next closed_by
over_plain m front s l b rest no_quote no_backslash room =
    let quote : (b == 34) ≡ false = grind (arith, nat_tests) in
    let backslash : (b == 92) ≡ false = grind (arith, nat_tests) in
    let small : nat_le 4096 (length front - s) ≡ false = not_full (length front) s (omega arith) in
    let closes : closed_by (on front inside.Quoted s l) b ≡ None = rw quote refl in
    yields_step m (on front inside.Quoted s l) b rest None _ closes (rw (quote, small, backslash) (moved_on front b inside.Quoted inside.Quoted s l))

over_backslash : (m : Mode) (front : List ℕ) (s l : ℕ) (rest : List ℕ) → length front < s + 4096 → Yields m (on front inside.Quoted s l) (92 ∷ rest) [] (on (front ++ 92 ∷ []) inside.Escaped s l) rest
unfolding next closed_by
over_backslash m front s l rest room =
    let small : nat_le 4096 (length front - s) ≡ false = not_full (length front) s (omega arith) in
    yields_step m (on front inside.Quoted s l) 92 rest None _ refl (rw small (moved_on front 92 inside.Quoted inside.Escaped s l))

over_escaped : (m : Mode) (front : List ℕ) (s l b : ℕ) (rest : List ℕ) → length front < s + 4096 → Yields m (on front inside.Escaped s l) (b ∷ rest) [] (on (front ++ b ∷ []) inside.Quoted s l) rest
unfolding next closed_by
over_escaped m front s l b rest room =
    let small : nat_le 4096 (length front - s) ≡ false = not_full (length front) s (omega arith) in
    yields_step m (on front inside.Escaped s l) b rest None _ refl (rw small (moved_on front b inside.Escaped inside.Quoted s l))

over_pair : (m : Mode) (front : List ℕ) (s l b : ℕ) (rest : List ℕ) → length front + 1 < s + 4096 → Yields m (on front inside.Quoted s l) (92 ∷ b ∷ rest) [] (on (front ++ 92 ∷ b ∷ []) inside.Quoted s l) rest
over_pair m front s l b rest room =
    let e : (front ++ 92 ∷ []) ++ b ∷ [] ≡ front ++ 92 ∷ b ∷ [] = append_assoc front (92 ∷ []) (b ∷ []) in
    let one = over_backslash m front s l (b ∷ rest) (omega arith) in
    let two = over_escaped m (front ++ 92 ∷ []) s l b rest (omega (arith, length-append front (92 ∷ []))) in
    rw e at (yields_join m _ _ [] _ _ [] _ rest one two)

over_quotable : (m : Mode) (bytes : List ℕ) → IsQuotable bytes → (front : List ℕ) (s l : ℕ) (rest : List ℕ) → length front + length bytes ≤ s + 4096 → Yields m (on front inside.Quoted s l) (bytes ++ rest) [] (on (front ++ bytes) inside.Quoted s l) rest
over_quotable m bytes nothing front s l rest room = rw (append-nil front) (refl, refl, refl)
over_quotable m bytes (plain b others no_quote no_backslash is) front s l rest room =
    let one = over_plain m front s l b (others ++ rest) no_quote no_backslash (omega arith) in
    let more = over_quotable m others is (front ++ b ∷ []) s l rest (omega (arith, length-append front (b ∷ []))) in
    let e : (front ++ b ∷ []) ++ others ≡ front ++ b ∷ others = append_assoc front (b ∷ []) others in
    rw e at (yields_join m _ _ [] _ _ [] _ rest one more)
over_quotable m bytes (escaped b others is) front s l rest room =
    let one = over_pair m front s l b (others ++ rest) (omega arith) in
    let more = over_quotable m others is (front ++ 92 ∷ b ∷ []) s l rest (omega (arith, length-append front (92 ∷ b ∷ []))) in
    let e : (front ++ 92 ∷ b ∷ []) ++ others ≡ front ++ 92 ∷ b ∷ others = append_assoc front (92 ∷ b ∷ []) others in
    rw e at (yields_join m _ _ [] _ _ [] _ rest one more)

quote_ends : (m : Mode) (front : List ℕ) (s l : ℕ) (rest : List ℕ) → Yields m (on front inside.Quoted s l) (34 ∷ rest) (token_at kinds.Quoted (on front inside.Quoted s l) ∷ []) (between (front ++ 34 ∷ []) s l) rest
unfolding next closed_by
quote_ends m front s l rest =
    yields_step m (on front inside.Quoted s l) 34 rest (Some (token_at kinds.Quoted (on front inside.Quoted s l))) _ refl (moved_on front 34 inside.Quoted inside.Between s l)

quoted_piece : (m : Mode) (front : List ℕ) (s l : ℕ) (bytes behind : List ℕ) → IsPiece m (Quoted bytes) behind
    → Passes m front s l (bytes_of (Quoted bytes) ++ behind) (token_of front (Quoted bytes)) (front ++ bytes_of (Quoted bytes)) behind
quoted_piece m front s l bytes behind is =
    let f1 : List ℕ = front ++ 34 ∷ [] in
    let a = over_quote m front s l (bytes ++ 34 ∷ behind) in
    let b = over_quotable m bytes is.1 (front ++ 34 ∷ []) (length front + 1) (line_behind front) (34 ∷ behind) (omega (arith, is.0, length-append front (34 ∷ []))) in
    let c = quote_ends m ((front ++ 34 ∷ []) ++ bytes) (length front + 1) (line_behind front) behind in
    let t : Token = token_at kinds.Quoted (on ((front ++ 34 ∷ []) ++ bytes) inside.Quoted (length front + 1) (line_behind front)) in
    let abc : Yields m (between front s l) (34 ∷ bytes ++ 34 ∷ behind) (t ∷ []) (between (((front ++ 34 ∷ []) ++ bytes) ++ 34 ∷ []) (length front + 1) (line_behind front)) behind =
    yields_join m _ _ [] _ _ (t ∷ []) _ behind (yields_join m _ _ [] _ _ [] _ _ a b) c in
    let text : 34 ∷ bytes ++ 34 ∷ behind ≡ (34 ∷ bytes ++ 34 ∷ []) ++ behind = sym (append_assoc (34 ∷ bytes) (34 ∷ []) behind) in
    let there : ((front ++ 34 ∷ []) ++ bytes) ++ 34 ∷ [] ≡ front ++ (34 ∷ bytes ++ 34 ∷ []) = append_assoc (front ++ 34 ∷ []) bytes (34 ∷ []) ∙ append_assoc front (34 ∷ []) (bytes ++ 34 ∷ []) in
    let size : length ((front ++ 34 ∷ []) ++ bytes) ≡ length front + 1 + length bytes = omega (arith, length-append (front ++ 34 ∷ []) bytes, length-append front (34 ∷ [])) in
    let P : List ℕ → List ℕ → ℕ → Type 0 = λ x y n. Yields m (between front s l) x (record { kind = kinds.Quoted; start = length front + 1; end = n; line = line_behind front } ∷ []) (between y (length front + 1) (line_behind front)) behind in
    (length front + 1, line_behind front, subst (λ x. P x (front ++ (34 ∷ bytes ++ 34 ∷ [])) (length front + 1 + length bytes)) text (subst₂ (λ y n. P (34 ∷ bytes ++ 34 ∷ behind) y n) there size abc))

-- ---- pieces

pub over_piece : (m : Mode) (front : List ℕ) (s l : ℕ) (piece : Piece) (behind : List ℕ) → IsPiece m piece behind → Passes m front s l (bytes_of piece ++ behind) (token_of front piece) (front ++ bytes_of piece) behind
over_piece m front s l (Blank b) behind is = (s, l, over_blank m front s l b behind is)
over_piece m front s l (Comment bytes) behind is = comment_piece m front s l bytes behind is
over_piece m front s l (Word bytes) behind is = word_piece m front s l bytes behind is
over_piece m front s l (Quoted bytes) behind is = quoted_piece m front s l bytes behind is

pub over_pieces : (m : Mode) (pieces : List Piece) (front : List ℕ) (s l : ℕ) (behind : List ℕ) → ArePieces m pieces behind → Passes m front s l (text_of pieces ++ behind) (tokens_in front pieces) (front ++ text_of pieces) behind
over_pieces m [] front s l behind are = (s, l, rw (append-nil front) (refl, refl, refl))
over_pieces m (piece ∷ pieces) front s l behind are =
    let one = over_piece m front s l piece (text_of pieces ++ behind) are.0 in
    let more = over_pieces m pieces (front ++ bytes_of piece) one.0 one.1 behind are.1 in
    let joined = yields_join m _ _ (token_of front piece) _ _ (tokens_in (front ++ bytes_of piece) pieces) _ behind one.2 more.2 in
    let text : bytes_of piece ++ (text_of pieces ++ behind) ≡ (bytes_of piece ++ text_of pieces) ++ behind = sym (append_assoc (bytes_of piece) (text_of pieces) behind) in
    let there : (front ++ bytes_of piece) ++ text_of pieces ≡ front ++ (bytes_of piece ++ text_of pieces) = append_assoc front (bytes_of piece) (text_of pieces) in
    let P : List ℕ → List ℕ → Type 0 = λ x y. Yields m (between front s l) x (token_of front piece ++ tokens_in (front ++ bytes_of piece) pieces) (between y more.0 more.1) behind in
    (more.0, more.1, subst₂ P text there joined)

-- ---- faults

-- what is left gives no token, and these faults
abbrev pub Ends : Mode → Place → List ℕ → Option (Code × ℕ) → Option (Code × ℕ) → Type 0
Ends m p bytes last early = (tokens_from m p bytes ≡ []) × (last_fault m p bytes ≡ last) × (early_fault m p bytes ≡ early)

ends_later : (m : Mode) (p : Place) (a : List ℕ) (q : Place) (b : List ℕ) (last early : Option (Code × ℕ)) → Yields m p a [] q b → Ends m q b last early → Ends m p a last early
ends_later m p a q b last early y e = (y.0 ∙ e.0, y.1 ∙ e.1, y.2 ∙ e.2)

stopped_stays : (m : Mode) (front : List ℕ) (code : Code) (s l : ℕ) (rest : List ℕ) → Ends m (on front (inside.Stopped code) s l) rest (Some (code, l)) (Some (code, l))
unfolding next closed_by closed_at_end closed_from tokens_from after
stopped_stays m front code s l [] = (refl, refl, refl)
stopped_stays m front code s l (b ∷ rest) = stopped_stays m front code s l rest

abbrev pub Stops : Mode → Place → List ℕ → Code → ℕ → Type 0
Stops m p bytes code line = Ends m p bytes (Some (code, line)) (Some (code, line))

-- at a byte that stops it
stops_here : (m : Mode) (front front' : List ℕ) (i : Inside) (s l s' l' b : ℕ) (rest : List ℕ) (code : Code) → closed_by (on front i s l) b ≡ None → next m (on front i s l) b ≡ on front' (inside.Stopped code) s' l'
    → Stops m (on front i s l) (b ∷ rest) code l'
stops_here m front front' i s l s' l' b rest code closes moves =
    ends_later m _ _ (on front' (inside.Stopped code) s' l') rest _ _ (yields_step m (on front i s l) b rest None _ closes moves) (stopped_stays m front' code s' l' rest)

foreign_first : (m : Mode) (front : List ℕ) (s l b : ℕ) (rest : List ℕ) → is_graphic b ≡ false → is_blank b ≡ false → b ≢ 34 → Stops m (between front s l) (b ∷ rest) E01 (line_behind front)
unfolding next closed_by
foreign_first m front s l b rest graphic blank other =
    let quote : (b == 34) ≡ false = grind (arith, nat_tests) in
    stops_here m front (front ++ b ∷ []) inside.Between s l (length front) (line_behind front) b rest E01 refl
    (rw (blank, quote, graphic) (moved_on front b inside.Between (inside.Stopped E01) (length front) (line_behind front)))

foreign_later : (m : Mode) (front : List ℕ) (s l b : ℕ) (rest : List ℕ) → is_graphic b ≡ false → is_blank b ≡ false → Stops m (on front inside.Word s l) (b ∷ rest) E01 l
unfolding next closed_by
foreign_later m front s l b rest graphic blank =
    stops_here m front (front ++ b ∷ []) inside.Word s l s l b rest E01 (rw blank refl) (rw (blank, graphic) (moved_on front b inside.Word (inside.Stopped E01) s l))

foreign_byte : (m : Mode) (front : List ℕ) (s l : ℕ) (word rest : List ℕ) (b : ℕ) → length word ≤ 4096 → AreGraphic word → is_graphic b ≡ false → is_blank b ≡ false → BeginsPlain m (word ++ b ∷ rest)
    → Stops m (between front s l) (word ++ b ∷ rest) E01 (line_behind front)
foreign_byte m front s l [] rest b short all graphic blank begins = foreign_first m front s l b rest graphic blank (λ e. begins.0 (rest, ap (λ x. x ∷ rest) e))
foreign_byte m front s l (c ∷ word) rest b short all graphic blank begins =
    ends_later m _ _ (on (front ++ c ∷ word) inside.Word (length front) (line_behind front)) (b ∷ rest) _ _ (word_front m front s l c word (b ∷ rest) all short begins)
    (foreign_later m (front ++ c ∷ word) (length front) (line_behind front) b rest graphic blank)

full : (at start : ℕ) → at ≡ start + 4096 → nat_le 4096 (at - start) ≡ true
full at start is = grind (arith, nat_tests)

-- a word goes on by a byte, or is full
goes_or_full : (m : Mode) (front : List ℕ) (s l b : ℕ) (rest : List ℕ) → is_graphic b ≡ true → length front ≤ s + 4096
    → (length front < s + 4096 → Stops m (on (front ++ b ∷ []) inside.Word s l) rest E02 l) → Stops m (on front inside.Word s l) (b ∷ rest) E02 l
unfolding next closed_by
goes_or_full m front s l b rest graphic low more = by_order (cases_lt (length front) (s + 4096))
  where
    by_order : (length front < s + 4096) ⊎ (s + 4096 ≤ length front) → Stops m (on front inside.Word s l) (b ∷ rest) E02 l
    by_order (inl room) = ends_later m _ _ (on (front ++ b ∷ []) inside.Word s l) rest _ _ (over_letter m front s l b rest graphic room) (more room)
    by_order (inr high) =
        let is_full : nat_le 4096 (length front - s) ≡ true = full (length front) s (omega arith) in
        stops_here m front (front ++ b ∷ []) inside.Word s l s l b rest E02 (rw (not_blank b graphic) refl) (rw (not_blank b graphic, graphic, is_full) (moved_on front b inside.Word (inside.Stopped E02) s l))

word_overflows : (m : Mode) (bytes front : List ℕ) (s l : ℕ) (rest : List ℕ) → AreGraphic bytes → length front ≤ s + 4096 → length front + length bytes ≡ s + 4097
    → Stops m (on front inside.Word s l) (bytes ++ rest) E02 l
word_overflows m [] front s l rest all low is = absurd (omega arith)
word_overflows m (b ∷ bytes) front s l rest all low is =
    goes_or_full m front s l b (bytes ++ rest) (All-head IsGraphic b bytes all) low
    (λ room. word_overflows m bytes (front ++ b ∷ []) s l rest (All-tail IsGraphic b bytes all) (omega (arith, length-append front (b ∷ []))) (omega (arith, length-append front (b ∷ []))))

long_word : (m : Mode) (front : List ℕ) (s l : ℕ) (word rest : List ℕ) → length word ≡ 4097 → AreGraphic word → BeginsPlain m (word ++ rest) → Stops m (between front s l) (word ++ rest) E02 (line_behind front)
long_word m front s l [] rest size all begins = absurd (omega arith)
long_word m front s l (c ∷ word) rest size all begins =
    ends_later m _ _ (on (front ++ c ∷ []) inside.Word (length front) (line_behind front)) (word ++ rest) _ _ (over_first m front s l c (word ++ rest) (All-head IsGraphic c word all) begins)
    (word_overflows m word (front ++ c ∷ []) (length front) (line_behind front) rest (All-tail IsGraphic c word all) (omega (arith, length-append front (c ∷ []))) (omega (arith, length-append front (c ∷ []))))

-- bytes that do not close a quote are ones that may stand between two, or such bytes and a backslash
abbrev pub IsOpen : List ℕ → Type 0
IsOpen bytes = IsQuotable bytes ⊎ ((front : List ℕ) × (bytes ≡ front ++ 92 ∷ []) × IsQuotable front)

pub open_plain : (b : ℕ) (bytes : List ℕ) → b ≢ 34 → b ≢ 92 → IsOpen bytes → IsOpen (b ∷ bytes)
open_plain b bytes no_quote no_backslash (inl is) = inl (plain b bytes no_quote no_backslash is)
open_plain b bytes no_quote no_backslash (inr u) = inr (b ∷ u.0, ap (λ x. b ∷ x) u.1, plain b u.0 no_quote no_backslash u.2)

pub open_escaped : (b : ℕ) (bytes : List ℕ) → IsOpen bytes → IsOpen (92 ∷ b ∷ bytes)
open_escaped b bytes (inl is) = inl (escaped b bytes is)
open_escaped b bytes (inr u) = inr (92 ∷ b ∷ u.0, ap (λ x. 92 ∷ b ∷ x) u.1, escaped b u.0 u.2)

pub one_backslash : IsOpen (92 ∷ [])
one_backslash = inr ([], refl, nothing)

pub heads : (b c : ℕ) (xs ys : List ℕ) → b ∷ xs ≡ c ∷ ys → b ≡ c
heads b c xs ys is = cc

pub tails : (b c : ℕ) (xs ys : List ℕ) → b ∷ xs ≡ c ∷ ys → xs ≡ ys
tails b c xs ys is = cc

front_open : (text : List ℕ) → IsQuotable text → (bytes more : List ℕ) → text ≡ bytes ++ more → IsOpen bytes
front_open text nothing [] more is = inl nothing
front_open text nothing (b ∷ bytes) more is = absurd cc
front_open text (plain c others no_quote no_backslash q) [] more is = inl nothing
front_open text (plain c others no_quote no_backslash q) (b ∷ bytes) more is =
    subst (λ x. IsOpen (x ∷ bytes)) (heads c b others (bytes ++ more) is) (open_plain c bytes no_quote no_backslash (front_open others q bytes more (tails c b others (bytes ++ more) is)))
front_open text (escaped c others q) [] more is = inl nothing
front_open text (escaped c others q) (b ∷ []) more is = subst (λ x. IsOpen (x ∷ [])) (heads 92 b (c ∷ others) more is) one_backslash
front_open text (escaped c others q) (b ∷ d ∷ bytes) more is =
    let rest : c ∷ others ≡ d ∷ (bytes ++ more) = tails 92 b (c ∷ others) (d ∷ (bytes ++ more)) is in
    subst (λ x. IsOpen (x ∷ d ∷ bytes)) (heads 92 b (c ∷ others) (d ∷ (bytes ++ more)) is)
    (subst (λ x. IsOpen (92 ∷ x ∷ bytes)) (heads c d others (bytes ++ more) rest) (open_escaped c bytes (front_open others q bytes more (tails c d others (bytes ++ more) rest))))

open_from : (bytes : List ℕ) → IsUnclosed bytes → IsOpen bytes
open_from bytes u = front_open (bytes ++ u.0) u.1 bytes u.0 refl

quotable_more : (bytes : List ℕ) → IsQuotable bytes → (more : List ℕ) → IsQuotable more → IsQuotable (bytes ++ more)
quotable_more bytes nothing more q = q
quotable_more bytes (plain b others no_quote no_backslash is) more q = plain b (others ++ more) no_quote no_backslash (quotable_more others is more q)
quotable_more bytes (escaped b others is) more q = escaped b (others ++ more) (quotable_more others is more q)

pub unclosed_from : (bytes : List ℕ) → IsOpen bytes → IsUnclosed bytes
unclosed_from bytes (inl is) = ([], rw (append-nil bytes) is)
unclosed_from bytes (inr (front, is, q)) =
    let e : front ++ 92 ∷ 0 ∷ [] ≡ bytes ++ 0 ∷ [] = sym (append_assoc front (92 ∷ []) (0 ∷ [])) ∙ ap (λ x. x ++ 0 ∷ []) (sym is) in
    (0 ∷ [], subst IsQuotable e (quotable_more front q (92 ∷ 0 ∷ []) (escaped 0 [] nothing)))

full_quoted : (m : Mode) (front : List ℕ) (s l b : ℕ) (rest : List ℕ) → b ≢ 34 → length front ≡ s + 4096 → Stops m (on front inside.Quoted s l) (b ∷ rest) E02 l
unfolding next closed_by
full_quoted m front s l b rest other high =
    let quote : (b == 34) ≡ false = grind (arith, nat_tests) in
    let is_full : nat_le 4096 (length front - s) ≡ true = full (length front) s high in
    stops_here m front (front ++ b ∷ []) inside.Quoted s l s l b rest E02 (rw quote refl) (rw (quote, is_full) (moved_on front b inside.Quoted (inside.Stopped E02) s l))

full_escaped : (m : Mode) (front : List ℕ) (s l b : ℕ) (rest : List ℕ) → length front ≡ s + 4096 → Stops m (on front inside.Escaped s l) (b ∷ rest) E02 l
unfolding next closed_by
full_escaped m front s l b rest high =
    let is_full : nat_le 4096 (length front - s) ≡ true = full (length front) s high in
    stops_here m front (front ++ b ∷ []) inside.Escaped s l s l b rest E02 refl (rw is_full (moved_on front b inside.Escaped (inside.Stopped E02) s l))

not_quote : (b : ℕ) → b ≡ 92 → b ≢ 34
not_quote b is other = omega arith

plain_or_full : (m : Mode) (front : List ℕ) (s l b : ℕ) (rest : List ℕ) → b ≢ 34 → b ≢ 92 → length front ≤ s + 4096
    → (length front < s + 4096 → Stops m (on (front ++ b ∷ []) inside.Quoted s l) rest E02 l) → Stops m (on front inside.Quoted s l) (b ∷ rest) E02 l
plain_or_full m front s l b rest no_quote no_backslash low more = by_order (cases_lt (length front) (s + 4096))
  where
    by_order : (length front < s + 4096) ⊎ (s + 4096 ≤ length front) → Stops m (on front inside.Quoted s l) (b ∷ rest) E02 l
    by_order (inl room) = ends_later m _ _ (on (front ++ b ∷ []) inside.Quoted s l) rest _ _ (over_plain m front s l b rest no_quote no_backslash room) (more room)
    by_order (inr high) = full_quoted m front s l b rest no_quote (omega arith)

pair_or_full : (m : Mode) (front : List ℕ) (s l b : ℕ) (rest : List ℕ) → length front ≤ s + 4096
    → (length front + 1 < s + 4096 → Stops m (on (front ++ 92 ∷ b ∷ []) inside.Quoted s l) rest E02 l) → Stops m (on front inside.Quoted s l) (92 ∷ b ∷ rest) E02 l
pair_or_full m front s l b rest low more = by_order (cases_lt (length front) (s + 4096)) (cases_lt (length front + 1) (s + 4096))
  where
    by_order : (length front < s + 4096) ⊎ (s + 4096 ≤ length front) → (length front + 1 < s + 4096) ⊎ (s + 4096 ≤ length front + 1) → Stops m (on front inside.Quoted s l) (92 ∷ b ∷ rest) E02 l
    by_order (inr high) any = full_quoted m front s l 92 (b ∷ rest) (not_quote 92 refl) (omega arith)
    by_order (inl room) (inl more_room) = ends_later m _ _ (on (front ++ 92 ∷ b ∷ []) inside.Quoted s l) rest _ _ (over_pair m front s l b rest more_room) (more more_room)
    by_order (inl room) (inr high) =
        ends_later m _ _ (on (front ++ 92 ∷ []) inside.Escaped s l) (b ∷ rest) _ _ (over_backslash m front s l (b ∷ rest) room)
        (full_escaped m (front ++ 92 ∷ []) s l b rest (omega (arith, length-append front (92 ∷ []))))

quoted_overflows : (m : Mode) (bytes : List ℕ) → IsQuotable bytes → (front : List ℕ) (s l : ℕ) (rest : List ℕ) → length front ≤ s + 4096 → length front + length bytes ≡ s + 4097
    → Stops m (on front inside.Quoted s l) (bytes ++ rest) E02 l
quoted_overflows m bytes nothing front s l rest low is = absurd (omega arith)
quoted_overflows m bytes (plain b others no_quote no_backslash quotable) front s l rest low is =
    plain_or_full m front s l b (others ++ rest) no_quote no_backslash low
    (λ room. quoted_overflows m others quotable (front ++ b ∷ []) s l rest (omega (arith, length-append front (b ∷ []))) (omega (arith, length-append front (b ∷ []))))
quoted_overflows m bytes (escaped b others quotable) front s l rest low is =
    pair_or_full m front s l b (others ++ rest) low
    (λ room. quoted_overflows m others quotable (front ++ 92 ∷ b ∷ []) s l rest (omega (arith, length-append front (92 ∷ b ∷ []))) (omega (arith, length-append front (92 ∷ b ∷ []))))

backslash_overflows : (m : Mode) (bytes : List ℕ) → IsQuotable bytes → (front : List ℕ) (s l : ℕ) (rest : List ℕ) → length front + length bytes ≡ s + 4096
    → Stops m (on front inside.Quoted s l) (bytes ++ 92 ∷ rest) E02 l
backslash_overflows m bytes quotable front s l rest is =
    ends_later m _ _ (on (front ++ bytes) inside.Quoted s l) (92 ∷ rest) _ _ (over_quotable m bytes quotable front s l (92 ∷ rest) (omega arith))
    (full_quoted m (front ++ bytes) s l 92 rest (not_quote 92 refl) (omega (arith, length-append front bytes)))

long_quoted : (m : Mode) (front : List ℕ) (s l : ℕ) (bytes rest : List ℕ) → length bytes ≡ 4097 → IsUnclosed bytes → Stops m (between front s l) (34 ∷ bytes ++ rest) E02 (line_behind front)
long_quoted m front s l bytes rest size unclosed =
    ends_later m _ _ (on (front ++ 34 ∷ []) inside.Quoted (length front + 1) (line_behind front)) (bytes ++ rest) _ _ (over_quote m front s l (bytes ++ rest)) (by_form (open_from bytes unclosed))
  where
    by_form : IsOpen bytes → Stops m (on (front ++ 34 ∷ []) inside.Quoted (length front + 1) (line_behind front)) (bytes ++ rest) E02 (line_behind front)
    by_form (inl quotable) = quoted_overflows m bytes quotable (front ++ 34 ∷ []) (length front + 1) (line_behind front) rest (omega (arith, length-append front (34 ∷ []))) (omega (arith, length-append front (34 ∷ [])))
    by_form (inr (before, ends, quotable)) =
        let one_more : length before + 1 ≡ length bytes = omega (arith, length-append before (92 ∷ []), ap length ends) in
        let e : before ++ 92 ∷ rest ≡ bytes ++ rest = sym (append_assoc before (92 ∷ []) rest) ∙ ap (λ x. x ++ rest) (sym ends) in
        subst (λ x. Stops m (on (front ++ 34 ∷ []) inside.Quoted (length front + 1) (line_behind front)) x E02 (line_behind front)) e
        (backslash_overflows m before quotable (front ++ 34 ∷ []) (length front + 1) (line_behind front) rest (omega (arith, one_more, size, length-append front (34 ∷ []))))

quoted_end : (m : Mode) (front : List ℕ) (s l : ℕ) → Ends m (on front inside.Quoted s l) [] (Some (E02, l)) None
unfolding closed_at_end closed_from tokens_from after
quoted_end m front s l = (refl, refl, refl)

escaped_end : (m : Mode) (front : List ℕ) (s l : ℕ) → Ends m (on front inside.Escaped s l) [] (Some (E02, l)) None
unfolding closed_at_end closed_from tokens_from after
escaped_end m front s l = (refl, refl, refl)

pub ends_open : (m : Mode) (front : List ℕ) (s l : ℕ) (bytes : List ℕ) → length bytes ≤ 4096 → IsUnclosed bytes → Ends m (between front s l) (34 ∷ bytes) (Some (E02, line_behind front)) None
ends_open m front s l bytes small unclosed =
    ends_later m _ _ (on (front ++ 34 ∷ []) inside.Quoted (length front + 1) (line_behind front)) bytes _ _ (over_quote m front s l bytes) (by_form (open_from bytes unclosed))
  where
    by_form : IsOpen bytes → Ends m (on (front ++ 34 ∷ []) inside.Quoted (length front + 1) (line_behind front)) bytes (Some (E02, line_behind front)) None
    by_form (inl quotable) =
        let room : length (front ++ 34 ∷ []) + length bytes ≤ length front + 1 + 4096 = omega (arith, length-append front (34 ∷ [])) in
        let along : Yields m (on (front ++ 34 ∷ []) inside.Quoted (length front + 1) (line_behind front)) bytes [] (on ((front ++ 34 ∷ []) ++ bytes) inside.Quoted (length front + 1) (line_behind front)) [] =
        rw (append-nil bytes) at (over_quotable m bytes quotable (front ++ 34 ∷ []) (length front + 1) (line_behind front) [] room) in
        ends_later m _ _ _ [] _ _ along (quoted_end m ((front ++ 34 ∷ []) ++ bytes) (length front + 1) (line_behind front))
    by_form (inr (before, ends, quotable)) =
        let one_more : length before + 1 ≡ length bytes = omega (arith, length-append before (92 ∷ []), ap length ends) in
        let room : length (front ++ 34 ∷ []) + length before ≤ length front + 1 + 4096 = omega (arith, length-append front (34 ∷ [])) in
        let along = over_quotable m before quotable (front ++ 34 ∷ []) (length front + 1) (line_behind front) (92 ∷ []) room in
        let last = over_backslash m ((front ++ 34 ∷ []) ++ before) (length front + 1) (line_behind front) [] (omega (arith, length-append front (34 ∷ []), length-append (front ++ 34 ∷ []) before)) in
        subst (λ x. Ends m (on (front ++ 34 ∷ []) inside.Quoted (length front + 1) (line_behind front)) x (Some (E02, line_behind front)) None) (sym ends)
        (ends_later m _ _ _ [] _ _ (yields_join m _ _ [] _ _ [] _ [] along last) (escaped_end m (((front ++ 34 ∷ []) ++ before) ++ 92 ∷ []) (length front + 1) (line_behind front)))

-- ---- what no piece begins

pub ends_bad : (m : Mode) (front : List ℕ) (s l : ℕ) (text : List ℕ) (code : Code) → IsBad m text code → Stops m (between front s l) text code (line_behind front)
ends_bad m front s l text code (ForeignByte word rest b is short all graphic blank begins) =
    subst (λ x. Stops m (between front s l) x E01 (line_behind front)) (sym is) (foreign_byte m front s l word rest b short all graphic blank (subst (BeginsPlain m) is begins))
ends_bad m front s l text code (LongWord word rest is size all begins) =
    subst (λ x. Stops m (between front s l) x E02 (line_behind front)) (sym is) (long_word m front s l word rest size all (subst (BeginsPlain m) is begins))
ends_bad m front s l text code (LongQuoted bytes rest is size unclosed) =
    subst (λ x. Stops m (between front s l) x E02 (line_behind front)) (sym is) (long_quoted m front s l bytes rest size unclosed)

pub at_text_end : (m : Mode) (front : List ℕ) (s l : ℕ) → Ends m (between front s l) [] None None
unfolding closed_at_end closed_from tokens_from after
at_text_end m front s l = (refl, refl, refl)
