-- Where a text is cut: what its rows come to.
use Rattle.std.proofs.Common.{◌≡◌, ◌∙◌, ◌+◌, ◌-◌, ◌<◌, ◌≤◌, ℕ, Bool, true, false, inl, inr, List, [], ◌∷◌, ◌++◌, map, length, drop, refl, ap, sym, subst, arith, append_assoc}
use Rattle.std.proofs.lemmas.Bool.Decides.{nat_tests}
use Rattle.std.proofs.lemmas.List.{length-take-le}
use Rattle.std.proofs.lemmas.List.Sums.{fold-append}
use Rattle.std.proofs.Math.ListN.{length-append, length-drop}
use Rattle.std.specs.Prelude.{Option, Some, None, nat_le, slice_range}
use Rattle.std.specs.List.{fold}
use Rattle.rc_keys.specs.declared.fault.Refusal.{Refusal}
use Rattle.rc_keys.specs.declared.token.Inside.{Inside}
use Rattle.rc_keys.specs.declared.token.Inside.TheVariants as inside
use Rattle.rc_keys.specs.declared.token.Kind.TheVariants as kinds
use Rattle.rc_keys.specs.declared.token.Mode.TheVariants as mode
use Rattle.rc_keys.specs.declared.token.Place.{Place}
use Rattle.rc_keys.specs.declared.token.Token.{Token}
use Rattle.rc_keys.specs.Lexemes.{Lexeme, lexeme}
use Rattle.rc_keys.specs.Tokens.{token_at, closed_at_end, after, closed_from, tokens_from, listed, begin as begin_place}
use Rattle.rc_keys.specs.Course.{Turn, Refuse, More, Done, Close, Rows, Parser, Running, Refused, Closed, line_or, in_statement, after_turn, step}
use Rattle.rc_keys.proofs.Cutting.{closed-append, after-append, tokens-split}
use Rattle.rc_keys.proofs.Courses.{refused_stays, closed_stays}
use Rattle.rc_def.specs.Cuts.{end_or, end_in}
use Rattle.rc_def.proofs.Prefixes.{no_slash, ordered, Lie, lie, same_lexeme, same_lexemes, Words, words_weaker, Goes, goes, is_stopped, at_end, is_word, none_at_end, one_at_end, beyond, none_stopped}

-- ---- the tokens of a text in two parts

whole_tokens : (p : Place) (a b : List ℕ) → tokens_from mode.Lef p (a ++ b) ≡ closed_from mode.Lef p a ++ tokens_from mode.Lef (after mode.Lef p a) b
unfolding tokens_from
whole_tokens p a b =
    rw (closed-append mode.Lef p a b, after-append mode.Lef p a b)
    (append_assoc (closed_from mode.Lef p a) (closed_from mode.Lef (after mode.Lef p a) b) (listed (closed_at_end (after mode.Lef (after mode.Lef p a) b))))

map-append : {X Y : Type 0} (f : X → Y) (xs ys : List X) → map f (xs ++ ys) ≡ map f xs ++ map f ys
map-append f [] ys = refl
map-append f (x ∷ xs) ys = ap (λ zs. f x ∷ zs) (map-append f xs ys)

-- ---- rows that only one word closes

abbrev pub Halts : {S : Type 0} → Turn S → Type 0
Halts (Refuse refusal) = Unit {0}
Halts (Close s) = Unit {0}
Halts (More s) = ⊥
Halts (Done s) = ⊥

-- `Inv` holds at first and is kept. A word of six bytes closes, and where it may any other token is refused
pub record ByOneWord {S : Type 0} (rows : Rows S) (Inv : S → Type 0) : Type 0 where
  pub keeps_more : (s t : S) (w : Lexeme) → Inv s → rows s w ≡ More t → Inv t
  pub keeps_done : (s t : S) (w : Lexeme) → Inv s → rows s w ≡ Done t → Inv t
  pub word : (s t : S) (w : Lexeme) → Inv s → rows s w ≡ Close t → (w.kind ≡ kinds.Word) × (length w.bytes ≡ 6)
  pub others : (s t : S) (w v : Lexeme) → Inv s → rows s w ≡ Close t → Halts (rows s v)

module _ {S : Type 0} (rows : Rows S) (Inv : S → Type 0) (law : ByOneWord rows Inv) where
  abbrev pub Runs : Parser S → Type 0
  Runs (Running s begun last) = Inv s
  Runs (Refused refusal) = Unit {0}
  Runs (Closed s) = ⊥

  abbrev Goes_on : Parser S → Type 0
  Goes_on (Running s begun last) = Inv s
  Goes_on _ = Unit {0}

  goes_turn : (s : S) (w : Lexeme) (line last : ℕ) (turn : Turn S) → Inv s → rows s w ≡ turn → Goes_on (after_turn line last turn)
  goes_turn s w line last (Refuse refusal) inv does = tt
  goes_turn s w line last (More t) inv does = law.keeps_more s t w inv does
  goes_turn s w line last (Done t) inv does = law.keeps_done s t w inv does
  goes_turn s w line last (Close t) inv does = tt

  goes_step : (p : Parser S) (w : Lexeme) → Runs p → Goes_on (step rows p w)
  goes_step (Running s begun last) w inv = goes_turn s (in_statement begun w) (line_or begun w.line) w.line (rows s (in_statement begun w)) inv refl
  goes_step (Refused refusal) w inv = tt
  goes_step (Closed s) w inv = absurd inv

  word_turn : (s : S) (w : Lexeme) (line last : ℕ) (turn : Turn S) (t : S) → Inv s → rows s w ≡ turn → after_turn line last turn ≡ Closed t → (w.kind ≡ kinds.Word) × (length w.bytes ≡ 6)
  word_turn s w line last (Refuse refusal) t inv does is = absurd cc
  word_turn s w line last (More u) t inv does is = absurd cc
  word_turn s w line last (Done u) t inv does is = absurd cc
  word_turn s w line last (Close u) t inv does is = law.word s u w inv does

  closing_word : (p : Parser S) (w : Lexeme) (t : S) → Runs p → step rows p w ≡ Closed t → (w.kind ≡ kinds.Word) × (length w.bytes ≡ 6)
  closing_word (Running s begun last) w t inv is = word_turn s (in_statement begun w) (line_or begun w.line) w.line (rows s (in_statement begun w)) t inv refl is
  closing_word (Refused refusal) w t inv is = absurd cc
  closing_word (Closed s) w t inv is = absurd inv

  -- it is refused or closed
  abbrev Ends : Parser S → Type 0
  Ends (Running s begun last) = ⊥
  Ends _ = Unit {0}

  ends_turn : (line last : ℕ) (turn : Turn S) → Halts turn → Ends (after_turn line last turn)
  ends_turn line last (Refuse refusal) h = tt
  ends_turn line last (Close s) h = tt
  ends_turn line last (More s) h = h
  ends_turn line last (Done s) h = h

  others_turn : (s : S) (w v : Lexeme) (line last : ℕ) (turn : Turn S) (t : S) → Inv s → rows s w ≡ turn → after_turn line last turn ≡ Closed t → Halts (rows s v)
  others_turn s w v line last (Refuse refusal) t inv does is = absurd cc
  others_turn s w v line last (More u) t inv does is = absurd cc
  others_turn s w v line last (Done u) t inv does is = absurd cc
  others_turn s w v line last (Close u) t inv does is = law.others s u w v inv does

  others_end : (p : Parser S) (w v : Lexeme) (t : S) → Runs p → step rows p w ≡ Closed t → Ends (step rows p v)
  others_end (Running s begun last) w v t inv is =
      ends_turn (line_or begun v.line) v.line (rows s (in_statement begun v)) (others_turn s (in_statement begun w) (in_statement begun v) (line_or begun w.line) w.line (rows s (in_statement begun w)) t inv refl is)
  others_end (Refused refusal) w v t inv is = absurd cc
  others_end (Closed s) w v t inv is = absurd inv

  -- ---- tokens one after the other

  abbrev pub folded : List ℕ → Parser S → List Token → Parser S
  folded text p ts = fold (step rows) p (map (lexeme text) ts)

  refused_folds : (text : List ℕ) (refusal : Refusal) (ts : List Token) (s : S) → folded text (Refused refusal) ts ≡ Closed s → ⊥
  refused_folds text refusal ts s is = let e = sym (refused_stays rows refusal (map (lexeme text) ts)) ∙ is in cc

  folded-append : (text : List ℕ) (p : Parser S) (xs ys : List Token) → folded text p (xs ++ ys) ≡ folded text (folded text p xs) ys
  folded-append text p xs ys = ap (fold (step rows) p) (map-append (lexeme text) xs ys) ∙ fold-append (step rows) p (map (lexeme text) xs) (map (lexeme text) ys)

  -- where the tokens close: one that is a word, from a place on where words end
  abbrev Found : List ℕ → Parser S → List Token → ℕ → Type 0
  Found text p ts from = (end : ℕ) × (end_in rows text p ts ≡ Some end) × (from ≤ end)

  found_by : (text : List ℕ) (p q : Parser S) (t : Token) (ts : List Token) (from : ℕ) (s : S) → Runs p → step rows p (lexeme text t) ≡ q → Goes_on q → Words from (t ∷ ts) → folded text q ts ≡ Closed s
      → (Runs q → Found text q ts from) → (end : ℕ) × (end_or q t (end_in rows text q ts) ≡ Some end) × (from ≤ end)
  found_by text p (Running u begun last) t ts from s inv does goes_ ws is again = again goes_
  found_by text p (Refused refusal) t ts from s inv does goes_ ws is again = absurd (refused_folds text refusal ts s is)
  found_by text p (Closed u) t ts from s inv does goes_ ws is again = (t.end, refl, ws.0 (closing_word p (lexeme text t) u inv does).0)

  found : (text : List ℕ) (ts : List Token) (p : Parser S) (from : ℕ) (s : S) → Runs p → Words from ts → folded text p ts ≡ Closed s → Found text p ts from
  found text [] (Running u begun last) from s inv ws is = absurd cc
  found text [] (Refused refusal) from s inv ws is = absurd cc
  found text [] (Closed u) from s inv ws is = absurd inv
  found text (t ∷ ts) p from s inv ws is =
      found_by text p (step rows p (lexeme text t)) t ts from s inv refl (goes_step p (lexeme text t) inv) ws is (λ runs. found text ts (step rows p (lexeme text t)) from s runs ws.1 is)

  -- the tokens of a front close already
  early_by : (text : List ℕ) (p q : Parser S) (t : Token) (ts more : List Token) (limit : ℕ) (s : S) → step rows p (lexeme text t) ≡ q → Goes_on q → Lie limit (t ∷ ts) → folded text q ts ≡ Closed s
      → (Runs q → (end : ℕ) × (end_in rows text q (ts ++ more) ≡ Some end) × (end ≤ limit)) → (end : ℕ) × (end_or q t (end_in rows text q (ts ++ more)) ≡ Some end) × (end ≤ limit)
  early_by text p (Running u begun last) t ts more limit s does goes_ lies is again = again goes_
  early_by text p (Refused refusal) t ts more limit s does goes_ lies is again = absurd (refused_folds text refusal ts s is)
  early_by text p (Closed u) t ts more limit s does goes_ lies is again = (t.end, refl, lies.1)

  early : (text : List ℕ) (ts more : List Token) (p : Parser S) (limit : ℕ) (s : S) → Runs p → Lie limit ts → folded text p ts ≡ Closed s → (end : ℕ) × (end_in rows text p (ts ++ more) ≡ Some end) × (end ≤ limit)
  early text [] more (Running u begun last) limit s inv lies is = absurd cc
  early text [] more (Refused refusal) limit s inv lies is = absurd cc
  early text [] more (Closed u) limit s inv lies is = absurd inv
  early text (t ∷ ts) more p limit s inv lies is =
      early_by text p (step rows p (lexeme text t)) t ts more limit s refl (goes_step p (lexeme text t) inv) lies is (λ runs. early text ts more (step rows p (lexeme text t)) limit s runs lies.2 is)

  -- the tokens of a front don't
  late_by : (text : List ℕ) (q : Parser S) (t : Token) (ts more : List Token) (s : S) (begun : Option ℕ) (last : ℕ) → Goes_on q → folded text q ts ≡ Running s begun last
      → (Runs q → (end_in rows text q (ts ++ more) ≡ end_in rows text (Running s begun last) more) × Inv s) → (end_or q t (end_in rows text q (ts ++ more)) ≡ end_in rows text (Running s begun last) more) × Inv s
  late_by text (Running u b l) t ts more s begun last goes_ is again = again goes_
  late_by text (Refused refusal) t ts more s begun last goes_ is again = let e = sym (refused_stays rows refusal (map (lexeme text) ts)) ∙ is in absurd cc
  late_by text (Closed u) t ts more s begun last goes_ is again = let e = sym (closed_stays rows u (map (lexeme text) ts)) ∙ is in absurd cc

  late : (text : List ℕ) (ts more : List Token) (p : Parser S) (s : S) (begun : Option ℕ) (last : ℕ) → Runs p → folded text p ts ≡ Running s begun last → (end_in rows text p (ts ++ more) ≡ end_in rows text (Running s begun last) more) × Inv s
  late text [] more (Running u b l) s begun last inv is = let e : u ≡ s = cc in (ap (λ q. end_in rows text q more) is, subst Inv e inv)
  late text [] more (Refused refusal) s begun last inv is = absurd cc
  late text [] more (Closed u) s begun last inv is = absurd inv
  late text (t ∷ ts) more p s begun last inv is =
      late_by text (step rows p (lexeme text t)) t ts more s begun last (goes_step p (lexeme text t) inv) is (λ runs. late text ts more (step rows p (lexeme text t)) s begun last runs is)

  -- ---- a text `a ++ b` that is cut behind `a`

  module _ (a b : List ℕ) (start : S) (s : S) (inv : Inv start) where
    abbrev text : List ℕ
    text = a ++ b

    abbrev first : Parser S
    first = Running start None 1

    abbrev there : Place
    there = after mode.Lef begin_place a

    abbrev front : List Token
    front = closed_from mode.Lef begin_place a

    abbrev rest : List Token
    rest = tokens_from mode.Lef there b

    -- what is said of the cut: the whole text closes at `end`, and its front does so exactly where it reaches that
    abbrev pub Said : Type 0
    Said = (end : ℕ) × (end_in rows text first (tokens_from mode.Lef begin_place text) ≡ Some end)
        × (end ≤ length a → folded a first (tokens_from mode.Lef begin_place a) ≡ Closed s)
        × (length a < end → (t : S) → folded a first (tokens_from mode.Lef begin_place a) ≡ Closed t → ⊥)

    lies : Lie (length a) front
    lies = lie a begin_place (length a) (omega arith) (omega arith)

    -- the front of the tokens, in the front and in the whole
    same_front : folded a first front ≡ folded text first front
    same_front = ap (fold (step rows) first) (sym (same_lexemes a b front lies))

    short_is : folded a first (tokens_from mode.Lef begin_place a) ≡ folded a (folded text first front) (listed (closed_at_end there))
    short_is =
        ap (folded a first) (tokens-split mode.Lef begin_place a) ∙ folded-append a first front (listed (closed_at_end there))
        ∙ ap (λ p. folded a p (listed (closed_at_end there))) same_front

    long_is : folded text first (tokens_from mode.Lef begin_place text) ≡ folded text (folded text first front) rest
    long_is = ap (folded text first) (whole_tokens begin_place a b) ∙ folded-append text first front rest

    ends_by : (end : Option ℕ) → end_in rows text first (front ++ rest) ≡ end → end_in rows text first (tokens_from mode.Lef begin_place text) ≡ end
    ends_by end is = ap (end_in rows text first) (whole_tokens begin_place a b) ∙ is

    -- the front closes already
    closed_before : (u : S) → folded text first front ≡ Closed u → folded text (Closed u) rest ≡ Closed s → Said
    closed_before u is h =
        let e = early text front rest first (length a) u inv lies is in
        let same : Closed u ≡ Closed s = sym (closed_stays rows u (map (lexeme text) rest)) ∙ h in (
          e.0,
          ends_by (Some e.0) e.1,
          (λ le. short_is ∙ ap (λ p. folded a p (listed (closed_at_end there))) (is ∙ same) ∙ closed_stays rows s (map (lexeme a) (listed (closed_at_end there)))),
          (λ lt. let le = e.2 in absurd (omega arith)),
        )

    -- the front is behind no token that closes
    module _ (u : S) (begun : Option ℕ) (last : ℕ) (is : folded text first front ≡ Running u begun last) (h : folded text (Running u begun last) rest ≡ Closed s) where
      abbrev now : Parser S
      now = Running u begun last

      kept : (end_in rows text first (front ++ rest) ≡ end_in rows text now rest) × Inv u
      kept = late text front rest first u begun last inv is

      short_now : folded a first (tokens_from mode.Lef begin_place a) ≡ folded a now (listed (closed_at_end there))
      short_now = short_is ∙ ap (λ p. folded a p (listed (closed_at_end there))) is

      -- the tokens behind end further on, and nothing of the front's end closes
      later : Words (length a + 1) rest → ((t : S) → folded a now (listed (closed_at_end there)) ≡ Closed t → ⊥) → Said
      later ws not =
          let f = found text rest now (length a + 1) s kept.1 ws h in
          (f.0, ends_by (Some f.0) (kept.0 ∙ f.1), (λ le. let g = f.2 in absurd (omega arith)), (λ lt t closes. not t (sym short_now ∙ closes)))

      never_running : (t : S) → now ≡ Closed t → ⊥
      never_running t e = cc

      no_word : is_word there.inside ≡ false → (stopped : Bool) → is_stopped there.inside ≡ stopped → Said
      no_word w true st =
          let none : folded text now rest ≡ now = ap (folded text now) (none_stopped b there st) in
          let e : now ≡ Closed s = sym none ∙ h in absurd (never_running s e)
      no_word w false st =
          let sl = no_slash a begin_place refl in
          let at : there.at ≡ length a = at_end a begin_place st ∙ omega arith in
          later (words_weaker (there.at + 1) (length a + 1) rest (omega (arith, at)) (beyond b there st w sl))
          (λ t closes. never_running t (sym (ap (folded a now) (none_at_end there w sl)) ∙ closes))

      -- a word is open where the text is cut
      module _ (w : there.inside ≡ inside.Word) where
        abbrev cut : Token
        cut = token_at kinds.Word there

        at_is : there.at ≡ length a
        at_is = at_end a begin_place (ap is_stopped w) ∙ omega arith

        order : there.start ≤ there.at
        order = (ordered a begin_place (omega arith)).0

        cut_is : folded a now (listed (closed_at_end there)) ≡ step rows now (lexeme a cut)
        cut_is = ap (folded a now) (one_at_end there w)

        -- the whole word is longer
        longer : (t : Token) (more : List Token) → rest ≡ t ∷ more → t.kind ≡ kinds.Word → t.start ≡ there.start → there.at < t.end → t.end ≤ length text → Words (there.at + 1) more → Said
        longer t more same kind start_ lt le ws =
            later (subst (λ ts. Words (length a + 1) ts) (sym same) ((λ k. omega (arith, at_is)), words_weaker (there.at + 1) (length a + 1) more (omega (arith, at_is)) ws))
            (λ v closes. by v (sym cut_is ∙ closes))
          where
            size : (xs : List ℕ) (from to : ℕ) → from ≤ to → to ≤ length xs → length (slice_range xs from to) ≡ to - from
            size xs from to f g = length-take-le (to - from) (drop from xs) (omega (arith, length-drop from xs))

            of_step : (v : S) → step rows now (lexeme a cut) ≡ Closed v → (q : Parser S) → step rows now (lexeme text t) ≡ q → folded text q more ≡ Closed s → Ends q → ⊥
            of_step v does (Running x y z) goes_ folds ends_ = ends_
            of_step v does (Refused refusal) goes_ folds ends_ = refused_folds text refusal more s folds
            of_step v does (Closed x) goes_ folds ends_ =
                let one = (closing_word now (lexeme a cut) v kept.1 does).1 in
                let two = (closing_word now (lexeme text t) x kept.1 goes_).1 in
                let m = size a there.start there.at order (omega (arith, at_is)) in
                let n = size text t.start t.end (omega (arith, start_, order)) le in
                omega (arith, one, two, m, n, start_, order)

            by : (v : S) → step rows now (lexeme a cut) ≡ Closed v → ⊥
            by v does = of_step v does (step rows now (lexeme text t)) refl (sym (ap (folded text now) same) ∙ h) (others_end now (lexeme a cut) (lexeme text t) v kept.1 does)

        -- the word is whole
        whole : (t : Token) (more : List Token) → rest ≡ t ∷ more → t ≡ cut → Words (there.at + 1) more → Said
        whole t more same is_cut ws = by (step rows now (lexeme text t)) refl (sym (ap (folded text now) same) ∙ h)
          where
            said : lexeme text t ≡ lexeme a cut
            said = ap (lexeme text) is_cut ∙ same_lexeme a b cut order (omega (arith, at_is))

            short_step : folded a first (tokens_from mode.Lef begin_place a) ≡ step rows now (lexeme text t)
            short_step = short_now ∙ cut_is ∙ ap (step rows now) (sym said)

            by : (q : Parser S) → step rows now (lexeme text t) ≡ q → folded text q more ≡ Closed s → Said
            by (Refused refusal) does folds = absurd (refused_folds text refusal more s folds)
            by (Running x y z) does folds =
                let goes_ : Goes_on (Running x y z) = subst Goes_on does (goes_step now (lexeme text t) kept.1) in
                let f = found text more (Running x y z) (there.at + 1) s goes_ ws folds in (
                  f.0,
                  ends_by (Some f.0) (kept.0 ∙ ap (end_in rows text now) same ∙ ap (λ q. end_or q t (end_in rows text q more)) does ∙ f.1),
                  (λ le. let g = f.2 in absurd (omega (arith, at_is))),
                  (λ lt v closes. let e : Running x y z ≡ Closed v = sym (short_step ∙ does) ∙ closes in cc),
                )
            by (Closed x) does folds =
                let e : Closed x ≡ Closed s = sym (closed_stays rows x (map (lexeme text) more)) ∙ folds in
                let end_is : t.end ≡ there.at = ap (λ (k : Token). k.end) is_cut in (
                  t.end,
                  ends_by (Some t.end) (kept.0 ∙ ap (end_in rows text now) same ∙ ap (λ q. end_or q t (end_in rows text q more)) does),
                  (λ le. short_step ∙ does ∙ e),
                  (λ lt v closes. absurd (omega (arith, at_is, end_is))),
                )

        by_size : (t : Token) (more : List Token) → rest ≡ t ∷ more → t.kind ≡ kinds.Word → t.start ≡ there.start → t.line ≡ there.start_line → there.at ≤ t.end → t.end ≤ length text → Words (there.at + 1) more
            → (q : Bool) → nat_le t.end there.at ≡ q → Said
        by_size t more same kind start_ line_ le to ws true q =
            let end_is : t.end ≡ there.at = grind (arith, nat_tests) in
            whole t more same (λ i. record { kind = kind i; start = start_ i; end = end_is i; line = line_ i }) ws
        by_size t more same kind start_ line_ le to ws false q = let lt : there.at < t.end = grind (arith, nat_tests) in longer t more same kind start_ lt to ws

        word_open : Goes (length text) there rest → Said
        word_open (inl none) = let e : now ≡ Closed s = sym (ap (folded text now) none) ∙ h in absurd (never_running s e)
        word_open (inr (t, more, same, kind, start_, line_, le, to, ws)) = by_size t more same kind start_ line_ le to ws (nat_le t.end there.at) refl

      by_word : (q : Bool) → is_word there.inside ≡ q → Said
      by_word true q = word_open (word_is there.inside q) (goes (length text) b there (word_is there.inside q) (omega (arith, at_is (word_is there.inside q), length-append a b)))
        where
          word_is : (i : Inside) → is_word i ≡ true → i ≡ inside.Word
          word_is inside.Word e = refl
          word_is _ e = absurd cc
      by_word false q = no_word q (is_stopped there.inside) refl

    by_front : (p : Parser S) → folded text first front ≡ p → folded text p rest ≡ Closed s → Said
    by_front (Refused refusal) is h = absurd (refused_folds text refusal rest s h)
    by_front (Closed u) is h = closed_before u is h
    by_front (Running u begun last) is h = by_word u begun last is h (is_word there.inside) refl

    pub said_of : folded text first (tokens_from mode.Lef begin_place text) ≡ Closed s → Said
    said_of h = by_front (folded text first front) refl (sym long_is ∙ h)
