-- The laws of all grammars.
use Rattle.std.proofs.Common.{◌≡◌, ◌∙◌, ℕ, Bool, true, false, cond, inl, inr, List, [], ◌∷◌, ◌++◌, refl, ap, sym}
use Rattle.std.specs.Prelude.{Option, Some, None, ◌⊎◌}
use Rattle.std.specs.List.{fold}
use Rattle.rc_keys.specs.declared.code.Code.{Code}
use Rattle.rc_keys.specs.declared.fault.Refusal.{Refusal}
use Rattle.rc_keys.specs.Lexemes.{Lexeme, Remaining}
use Rattle.rc_keys.specs.Course.{Turn, Refuse, More, Done, Close, Rows, Parser, Running, Refused, Closed, after_turn, step, begin, line_or, in_statement, Reading, Read, Unfinished, ending, reading_from}
use Rattle.rc_keys.specs.Statements.{at_line, first_line, IsStatement, Closes, ReadsBy, IsRead, IsRefusedAt, AcceptsStatements, RefusesTokens, StaysRefused}
use Rattle.rc_keys.proofs.Courses.{refused_stays, closed_stays}

fold-append : {A B : Type 0} (f : A → B → A) (a : A) (xs ys : List B) → fold f a (xs ++ ys) ≡ fold f (fold f a xs) ys
fold-append f a [] ys = refl
fold-append f a (x ∷ xs) ys = fold-append f (f a x) xs ys

pub stays : {S : Type 0} (rows : Rows S) → StaysRefused rows
stays rows before words more refusal is = fold-append (step rows) (begin before) words more ∙ rw is (refused_stays rows refusal more)

-- ---- the refused token

record From {S : Type 0} (rows : Rows S) (parser : Parser S) (words : List Lexeme) (refusal : Refusal) : Type 0 where
  front : List Lexeme
  word : Lexeme
  rest : List Lexeme
  parts : words ≡ front ++ word ∷ rest
  state : S
  begun : Option ℕ
  last : ℕ
  taken : fold (step rows) parser front ≡ Running state begun last
  refused : rows state (in_statement begun word) ≡ Refuse refusal

later : {S : Type 0} (rows : Rows S) (c d : Parser S) (word : Lexeme) (words : List Lexeme) (refusal : Refusal) → step rows c word ≡ d → From rows d words refusal → From rows c (word ∷ words) refusal
later rows c d word words refusal is f = record {
  front = word ∷ f.front;
  word = f.word;
  rest = f.rest;
  parts = ap (λ ws. word ∷ ws) f.parts;
  state = f.state;
  begun = f.begun;
  last = f.last;
  taken = ap (λ e. fold (step rows) e f.front) is ∙ f.taken;
  refused = f.refused;
}

same_refusal : {S : Type 0} (a b : Refusal) → ◌≡◌ {A = Parser S} (Refused a) (Refused b) → a ≡ b
same_refusal a b is = cc

by_turn : {S : Type 0} (rows : Rows S) (s : S) (begun : Option ℕ) (last : ℕ) (word : Lexeme) (words : List Lexeme) (refusal : Refusal) (turn : Turn S)
    → ((s2 : S) (b2 : Option ℕ) (l2 : ℕ) → fold (step rows) (Running s2 b2 l2) words ≡ Refused refusal → From rows (Running s2 b2 l2) words refusal)
    → rows s (in_statement begun word) ≡ turn → fold (step rows) (after_turn (line_or begun word.line) word.line turn) words ≡ Refused refusal → From rows (Running s begun last) (word ∷ words) refusal
by_turn rows s begun last word words refusal (Refuse r) again does is =
    let same = same_refusal r refusal (sym (refused_stays rows r words) ∙ is) in
    record { front = []; word = word; rest = words; parts = refl; state = s; begun = begun; last = last; taken = refl; refused = does ∙ ap (λ x. Refuse x) same }
by_turn rows s begun last word words refusal (More s2) again does is = later rows (Running s begun last) _ word words refusal (rw does refl) (again s2 (Some (line_or begun word.line)) word.line is)
by_turn rows s begun last word words refusal (Done s2) again does is = later rows (Running s begun last) _ word words refusal (rw does refl) (again s2 None word.line is)
by_turn rows s begun last word words refusal (Close s2) again does is = let e = sym (closed_stays rows s2 words) ∙ is in absurd cc

found : {S : Type 0} (rows : Rows S) (words : List Lexeme) (refusal : Refusal) (s : S) (begun : Option ℕ) (last : ℕ) → fold (step rows) (Running s begun last) words ≡ Refused refusal → From rows (Running s begun last) words refusal
found rows [] refusal s begun last is = absurd cc
found rows (word ∷ words) refusal s begun last is = by_turn rows s begun last word words refusal (rows s (in_statement begun word)) (λ s2 b2 l2 e. found rows words refusal s2 b2 l2 e) refl is

pub refuses_tokens : {S : Type 0} (rows : Rows S) → RefusesTokens rows
refuses_tokens {S} rows before words refusal = (there, back)
  where
    there : fold (step rows) (begin before) words ≡ Refused refusal → IsRefusedAt rows before words refusal
    there is = let f = found rows words refusal before None 1 is in
        record { front = f.front; word = f.word; rest = f.rest; parts = f.parts; state = f.state; begun = f.begun; last = f.last; taken = f.taken; refused = f.refused }

    back : IsRefusedAt rows before words refusal → fold (step rows) (begin before) words ≡ Refused refusal
    back r =
        ap (λ ws. fold (step rows) (begin before) ws) r.parts ∙ fold-append (step rows) (begin before) r.front (r.word ∷ r.rest)
        ∙ rw (r.taken, r.refused) (refused_stays rows refusal r.rest)

-- ---- what is accepted

-- what is left to read, in a statement or between two
abbrev Left : {S : Type 0} → Rows S → (S → Bool) → Option ℕ → S → Remaining → S → Type 0
Left rows may_end None s rest after = IsRead rows may_end s rest after
Left {S} rows may_end (Some line) s rest after =
    ((statement others : List Lexeme) × (mid : S) × (rest.words ≡ statement ++ others) × IsStatement rows line s statement mid × IsRead rows may_end mid (record rest { words = others }) after)
    ⊎ Closes rows line s rest.words after

-- the front of a statement, before one that is there already
longer : {S : Type 0} (rows : Rows S) (line : ℕ) (s s2 mid : S) (word : Lexeme) (words : List Lexeme) → rows s (at_line line word) ≡ More s2 → IsStatement rows line s2 words mid → IsStatement rows line s (word ∷ words) mid
longer rows line s s2 mid word [] does is = absurd is
longer rows line s s2 mid word (second ∷ words) does is = (s2, does, is)

-- one token more in front of what is left
before_more : {S : Type 0} (rows : Rows S) (may_end : S → Bool) (begun : Option ℕ) (s s2 after : S) (word : Lexeme) (rest : Remaining)
    → rows s (in_statement begun word) ≡ More s2 → Left rows may_end (Some (line_or begun word.line)) s2 rest after → Left rows may_end begun s (record rest { words = word ∷ rest.words }) after
before_more rows may_end None s s2 after word rest does (inl l) =
    ((word ∷ l.0) ∷ l.5.0, (l.2, l.1, ap (λ ws. word ∷ ws) l.3, longer rows word.line s s2 l.2 word l.0 does l.4, l.5.1))
before_more rows may_end None s s2 after word rest does (inr closes) = ([], inr (inr (s2, does, closes)))
before_more rows may_end (Some line) s s2 after word rest does (inl l) = inl (word ∷ l.0, l.1, l.2, ap (λ ws. word ∷ ws) l.3, longer rows line s s2 l.2 word l.0 does l.4, l.5)
before_more rows may_end (Some line) s s2 after word rest does (inr closes) = inr (inr (s2, does, closes))

before_done : {S : Type 0} (rows : Rows S) (may_end : S → Bool) (begun : Option ℕ) (s s2 after : S) (word : Lexeme) (rest : Remaining)
    → rows s (in_statement begun word) ≡ Done s2 → IsRead rows may_end s2 rest after → Left rows may_end begun s (record rest { words = word ∷ rest.words }) after
before_done rows may_end None s s2 after word rest does read = ((word ∷ []) ∷ read.0, (s2, rest.words, refl, does, read.1))
before_done rows may_end (Some line) s s2 after word rest does read = inl (word ∷ [], rest.words, s2, refl, does, read)

before_close : {S : Type 0} (rows : Rows S) (may_end : S → Bool) (begun : Option ℕ) (s after : S) (word : Lexeme) (rest : Remaining)
    → rows s (in_statement begun word) ≡ Close after → Left rows may_end begun s (record rest { words = word ∷ rest.words }) after
before_close rows may_end None s after word rest does = ([], inr (inl does))
before_close rows may_end (Some line) s after word rest does = inr (inl does)

read_same : {S : Type 0} (a b : S) → ◌≡◌ {A = Reading S} (Read a) (Read b) → a ≡ b
read_same a b is = cc

left_by : {S : Type 0} (rows : Rows S) (may_end : S → Bool) (begun : Option ℕ) (last : ℕ) (s after : S) (word : Lexeme) (words : List Lexeme) (fault : Option (Code × ℕ)) (turn : Turn S)
    → ((b2 : Option ℕ) (l2 : ℕ) (s2 : S) → ending may_end fault (fold (step rows) (Running s2 b2 l2) words) ≡ Read after → Left rows may_end b2 s2 (record { words = words; fault = fault }) after)
    → rows s (in_statement begun word) ≡ turn → ending may_end fault (fold (step rows) (after_turn (line_or begun word.line) word.line turn) words) ≡ Read after
    → Left rows may_end begun s (record { words = word ∷ words; fault = fault }) after
left_by rows may_end begun last s after word words fault (Refuse r) again does is = let e = sym (ap (λ c. ending may_end fault c) (refused_stays rows r words)) ∙ is in absurd cc
left_by rows may_end begun last s after word words fault (More s2) again does is = before_more rows may_end begun s s2 after word (record { words = words; fault = fault }) does (again (Some (line_or begun word.line)) word.line s2 is)
left_by rows may_end begun last s after word words fault (Done s2) again does is = before_done rows may_end begun s s2 after word (record { words = words; fault = fault }) does (again None word.line s2 is)
left_by rows may_end begun last s after word words fault (Close s2) again does is =
    let e = read_same s2 after (sym (ap (λ c. ending may_end fault c) (closed_stays rows s2 words)) ∙ is) in
    before_close rows may_end begun s after word (record { words = words; fault = fault }) (does ∙ ap (λ x. Close x) e)

at_the_end : {S : Type 0} (rows : Rows S) (may_end : S → Bool) (begun : Option ℕ) (last : ℕ) (s after : S) (fault : Option (Code × ℕ)) → ending may_end fault (Running s begun last) ≡ Read after → Left rows may_end begun s (record { words = []; fault = fault }) after
at_the_end rows may_end begun last s after (Some fault) is = absurd cc
at_the_end rows may_end (Some line) last s after None is = absurd cc
at_the_end {S} rows may_end None last s after None is = let e = by_test (may_end s) is in ([], inl (refl, refl, e.0, e.1))
  where
    by_test : (b : Bool) → cond b (Read s) (Unfinished None last) ≡ Read after → (b ≡ true) × (after ≡ s)
    by_test true e = (refl, sym (read_same s after e))
    by_test false e = absurd cc

left : {S : Type 0} (rows : Rows S) (may_end : S → Bool) (words : List Lexeme) (fault : Option (Code × ℕ)) (begun : Option ℕ) (last : ℕ) (s after : S)
    → ending may_end fault (fold (step rows) (Running s begun last) words) ≡ Read after → Left rows may_end begun s (record { words = words; fault = fault }) after
left rows may_end [] fault begun last s after is = at_the_end rows may_end begun last s after fault is
left rows may_end (word ∷ words) fault begun last s after is =
    left_by rows may_end begun last s after word words fault (rows s (in_statement begun word)) (λ b2 l2 s2 e. left rows may_end words fault b2 l2 s2 after e) refl is

-- ---- and the other way round

turned : {S : Type 0} (rows : Rows S) (line : ℕ) (begun : Option ℕ) (s : S) (word : Lexeme) (turn : Turn S) → line ≡ line_or begun word.line → rows s (at_line line word) ≡ turn → rows s (in_statement begun word) ≡ turn
turned rows line begun s word turn at is = ap (rows s) (ap (λ l. at_line l word) (sym at)) ∙ is

stepped : {S : Type 0} (rows : Rows S) (begun : Option ℕ) (last : ℕ) (s : S) (word : Lexeme) (turn : Turn S) → rows s (in_statement begun word) ≡ turn → step rows (Running s begun last) word ≡ after_turn (line_or begun word.line) word.line turn
stepped rows begun last s word turn is = rw is refl

-- the parser over a statement
over_statement : {S : Type 0} (rows : Rows S) (line : ℕ) (begun : Option ℕ) (last : ℕ) (s mid : S) (words others : List Lexeme)
    → line ≡ line_or begun (first_line words) → IsStatement rows line s words mid → (l2 : ℕ) × (fold (step rows) (Running s begun last) (words ++ others) ≡ fold (step rows) (Running mid None l2) others)
over_statement rows line begun last s mid [] others at is = absurd is
over_statement rows line begun last s mid (word ∷ []) others at is = (word.line, ap (λ c. fold (step rows) c others) (stepped rows begun last s word (Done mid) (turned rows line begun s word (Done mid) at is)))
over_statement rows line begun last s mid (word ∷ second ∷ words) others at is =
    let more = over_statement rows line (Some (line_or begun word.line)) word.line is.0 mid (second ∷ words) others at is.2 in
    (more.0, ap (λ c. fold (step rows) c (second ∷ words ++ others)) (stepped rows begun last s word (More is.0) (turned rows line begun s word (More is.0) at is.1)) ∙ more.1)

over_close : {S : Type 0} (rows : Rows S) (line : ℕ) (begun : Option ℕ) (last : ℕ) (s after : S) (words : List Lexeme)
    → line ≡ line_or begun (first_line words) → Closes rows line s words after → fold (step rows) (Running s begun last) words ≡ Closed after
over_close rows line begun last s after [] at is = absurd is
over_close rows line begun last s after (word ∷ words) at (inl does) =
    ap (λ c. fold (step rows) c words) (stepped rows begun last s word (Close after) (turned rows line begun s word (Close after) at does)) ∙ closed_stays rows after words
over_close rows line begun last s after (word ∷ words) at (inr more) =
    ap (λ c. fold (step rows) c words) (stepped rows begun last s word (More more.0) (turned rows line begun s word (More more.0) at more.1)) ∙ (over_close rows line (Some (line_or begun word.line)) word.line more.0 after words at more.2)

reads_by : {S : Type 0} (rows : Rows S) (may_end : S → Bool) (statements : List (List Lexeme)) (last : ℕ) (s after : S) (words : List Lexeme) (fault : Option (Code × ℕ))
    → ReadsBy rows may_end statements s (record { words = words; fault = fault }) after → ending may_end fault (fold (step rows) (Running s None last) words) ≡ Read after
reads_by rows may_end [] last s after words fault (inl e) = rw (e.0, e.1, e.2, e.3) refl
reads_by rows may_end [] last s after words fault (inr closes) = rw (over_close rows (first_line words) None last s after words refl closes) refl
reads_by rows may_end (statement ∷ statements) last s after words fault r =
    let on = over_statement rows (first_line statement) None last s r.0 statement r.1 refl r.3 in
    rw (r.2, on.1) (reads_by rows may_end statements on.0 r.0 after r.1 fault r.4)

pub accepts_statements : {S : Type 0} (rows : Rows S) (may_end : S → Bool) → AcceptsStatements rows may_end
unfolding reading_from
accepts_statements rows may_end before after text =
    (λ is. left rows may_end text.words text.fault None 1 before after is, λ read. reads_by rows may_end read.0 1 before after text.words text.fault read.1)
