-- The tokens of a text that is cut, and those of the whole text.
use Rattle.std.proofs.Common.{◌≡◌, ◌∙◌, ◌+◌, ◌-◌, ◌≤◌, ℕ, Bool, true, false, cond, inl, inr, List, [], ◌∷◌, ◌++◌, map, length, take, drop, refl, ap, sym, subst, arith, append_assoc}
use Rattle.std.proofs.lemmas.List.{take-append-le, drop-append-le}
use Rattle.std.proofs.Math.ListN.{length-drop}
use Rattle.std.specs.Prelude.{◌⊎◌, ◌==◌, not, Option, Some, None, slice_range}
use Rattle.rc_keys.specs.declared.code.Code.{Code}
use Rattle.rc_keys.specs.declared.code.Code.TheVariants.{E01, E02}
use Rattle.rc_keys.specs.declared.token.Inside.{Inside}
use Rattle.rc_keys.specs.declared.token.Inside.TheVariants as inside
use Rattle.rc_keys.specs.declared.token.Kind.TheVariants as kinds
use Rattle.rc_keys.specs.declared.token.Mode.TheVariants as mode
use Rattle.rc_keys.specs.declared.token.Place.{Place}
use Rattle.rc_keys.specs.declared.token.Token.{Token}
use Rattle.rc_keys.specs.Lexemes.{lexeme}
use Rattle.rc_keys.specs.Tokens.{is_blank, is_graphic, is_full, moved, continues, next_in, next, token_at, closed_in, closed_by, closed_at_end, closed_at_end_in, after, closed_from, tokens_from, listed}
use Rattle.rc_keys.proofs.Steps.{spans}

-- ---- in LEF a slash is a byte of a word

abbrev pub is_slash : Inside → Bool
is_slash inside.Slash = true
is_slash _ = false

-- what holds of both holds of the one that is chosen
chosen : (P : Place → Type 0) (b : Bool) (x y : Place) → P x → P y → P (cond b x y)
chosen P true x y p q = p
chosen P false x y p q = q

one_of : (b : Bool) (i j : Inside) → is_slash i ≡ false → is_slash j ≡ false → is_slash (cond b i j) ≡ false
one_of true i j p q = p
one_of false i j p q = q

abbrev NoSlash : Place → Type 0
NoSlash p = is_slash p.inside ≡ false

continued : (p : Place) (b : ℕ) → NoSlash (continues p b)
continued p b = chosen NoSlash (is_blank b) _ _ refl (chosen NoSlash (not (is_graphic b)) _ _ refl (chosen NoSlash (is_full p) _ _ refl refl))

no_slash_in : (i : Inside) (p : Place) (b : ℕ) → p.inside ≡ i → is_slash i ≡ false → NoSlash (next_in mode.Lef i p b)
no_slash_in inside.Between p b at is = chosen NoSlash (is_blank b) _ _ refl (chosen NoSlash (b == 34) _ _ refl (chosen NoSlash (not (is_graphic b)) _ _ refl (one_of (b == 35) inside.Comment inside.Word refl refl)))
no_slash_in inside.Comment p b at is = one_of (b == 10) inside.Between inside.Comment refl refl
no_slash_in inside.Slash p b at is = absurd cc
no_slash_in inside.Word p b at is = continued p b
no_slash_in inside.Quoted p b at is = chosen NoSlash (b == 34) _ _ refl (chosen NoSlash (is_full p) _ _ refl (chosen NoSlash (b == 92) _ _ refl refl))
no_slash_in inside.Escaped p b at is = chosen NoSlash (is_full p) _ _ refl refl
no_slash_in (inside.Stopped code) p b at is = ap is_slash at

pub no_slash : (bytes : List ℕ) (p : Place) → is_slash p.inside ≡ false → is_slash (after mode.Lef p bytes).inside ≡ false
unfolding after next
no_slash [] p is = is
no_slash (b ∷ bytes) p is = no_slash bytes (next_in mode.Lef p.inside p b) (no_slash_in p.inside p b refl is)

-- ---- places go on

abbrev IsOrdered : Place → Type 0
IsOrdered p = p.start ≤ p.at

abbrev Near : Place → Place → Type 0
Near p q = (q.start ≤ q.at) × (q.at ≤ p.at + 1)

near_in : (i : Inside) (p : Place) (b : ℕ) → p.start ≤ p.at → Near p (next_in mode.Lef i p b)
near_in inside.Between p b le =
    chosen (Near p) (is_blank b) _ _ (omega arith, omega arith) (chosen (Near p) (b == 34) _ _ (omega arith, omega arith) (chosen (Near p) (not (is_graphic b)) _ _ (omega arith, omega arith) (omega arith, omega arith)))
near_in inside.Comment p b le = (omega arith, omega arith)
near_in inside.Slash p b le =
    chosen (Near p) (b == 47) _ _ (omega arith, omega arith) (chosen (Near p) (is_blank b) _ _ (omega arith, omega arith) (chosen (Near p) (not (is_graphic b)) _ _ (omega arith, omega arith) (chosen (Near p) (is_full p) _ _ (omega arith, omega arith) (omega arith, omega arith))))
near_in inside.Word p b le = chosen (Near p) (is_blank b) _ _ (omega arith, omega arith) (chosen (Near p) (not (is_graphic b)) _ _ (omega arith, omega arith) (chosen (Near p) (is_full p) _ _ (omega arith, omega arith) (omega arith, omega arith)))
near_in inside.Quoted p b le = chosen (Near p) (b == 34) _ _ (omega arith, omega arith) (chosen (Near p) (is_full p) _ _ (omega arith, omega arith) (chosen (Near p) (b == 92) _ _ (omega arith, omega arith) (omega arith, omega arith)))
near_in inside.Escaped p b le = chosen (Near p) (is_full p) _ _ (omega arith, omega arith) (omega arith, omega arith)
near_in (inside.Stopped code) p b le = (le, omega arith)

near : (p : Place) (b : ℕ) → p.start ≤ p.at → Near p (next mode.Lef p b)
unfolding next
near p b le = near_in p.inside p b le

pub ordered : (bytes : List ℕ) (p : Place) → p.start ≤ p.at → ((after mode.Lef p bytes).start ≤ (after mode.Lef p bytes).at) × ((after mode.Lef p bytes).at ≤ p.at + length bytes)
unfolding after
ordered [] p le = (le, omega arith)
ordered (b ∷ bytes) p le =
    let n = near p b le in
    let r = ordered bytes (next mode.Lef p b) n.0 in
    (r.0, omega (arith, r.1, n.1))

-- ---- tokens that are closed within bytes lie in them

abbrev pub Lie : ℕ → List Token → Type 0
Lie end [] = Unit {0}
Lie end (t ∷ ts) = (t.start ≤ t.end) × (t.end ≤ end) × Lie end ts

lie_by : (p : Place) (end : ℕ) (t : Option Token) (ts : List Token) (b : ℕ) → closed_by p b ≡ t → p.start ≤ p.at → p.at ≤ end → Lie end ts → Lie end (listed t ++ ts)
lie_by p end None ts b is le at lies = lies
lie_by p end (Some t) ts b is le at lies = let s = spans p b t is in let e0 = s.0 in let e1 = s.1 in (omega arith, omega arith, lies)

pub lie : (bytes : List ℕ) (p : Place) (end : ℕ) → p.start ≤ p.at → p.at + length bytes ≤ end → Lie end (closed_from mode.Lef p bytes)
unfolding closed_from
lie [] p end le at = tt
lie (b ∷ bytes) p end le at =
    let n = near p b le in
    lie_by p end (closed_by p b) (closed_from mode.Lef (next mode.Lef p b) bytes) b refl le (omega arith) (lie bytes (next mode.Lef p b) end n.0 (omega (arith, n.1, at)))

-- ---- a token that lies in a front says the same there

pub same_lexeme : (a b : List ℕ) (t : Token) → t.start ≤ t.end → t.end ≤ length a → lexeme (a ++ b) t ≡ lexeme a t
same_lexeme a b t le at =
    let s : t.start ≤ length a = omega arith in
    let l : t.end - t.start ≤ length (drop t.start a) = omega (arith, length-drop t.start a) in
    let e : slice_range (a ++ b) t.start t.end ≡ slice_range a t.start t.end =
    ap (take (t.end - t.start)) (drop-append-le t.start a b s) ∙ take-append-le (t.end - t.start) (drop t.start a) b l in
    ap (λ bytes. record { kind = t.kind; bytes = bytes; line = t.line }) e

pub same_lexemes : (a b : List ℕ) (ts : List Token) → Lie (length a) ts → map (lexeme (a ++ b)) ts ≡ map (lexeme a) ts
same_lexemes a b [] lies = refl
same_lexemes a b (t ∷ ts) lies = rw (same_lexeme a b t lies.0 lies.1) (ap (λ ws. lexeme a t ∷ ws) (same_lexemes a b ts lies.2))

-- ---- a word that is open goes on to one token, or to a fault

abbrev Halt : Place → Code → Place
Halt p code = record p { inside = inside.Stopped code }

halted : (bytes : List ℕ) (p : Place) (code : Code) → tokens_from mode.Lef (Halt p code) bytes ≡ []
unfolding tokens_from closed_from after closed_at_end next closed_by
halted [] p code = refl
halted (b ∷ bytes) p code = halted bytes p code

first_byte : (p : Place) (b : ℕ) (bytes : List ℕ) → tokens_from mode.Lef p (b ∷ bytes) ≡ listed (closed_by p b) ++ tokens_from mode.Lef (next mode.Lef p b) bytes
unfolding after closed_from tokens_from
first_byte p b bytes = append_assoc (listed (closed_by p b)) (closed_from mode.Lef (next mode.Lef p b) bytes) (listed (closed_at_end (after mode.Lef (next mode.Lef p b) bytes)))

-- ---- where words end

-- words end from here on
abbrev pub Words : ℕ → List Token → Type 0
Words from [] = Unit {0}
Words from (t ∷ ts) = (t.kind ≡ kinds.Word → from ≤ t.end) × Words from ts

pub words_weaker : (from to : ℕ) (ts : List Token) → to ≤ from → Words from ts → Words to ts
words_weaker from to [] le ws = tt
words_weaker from to (t ∷ ts) le ws = ((λ is. let e = ws.0 is in omega arith), words_weaker from to ts le ws.1)

abbrev On : Place → Place → Type 0
On p q = p.at ≤ q.at

on_in : (i : Inside) (p : Place) (b : ℕ) → On p (next_in mode.Lef i p b)
on_in inside.Between p b = chosen (On p) (is_blank b) _ _ (omega arith) (chosen (On p) (b == 34) _ _ (omega arith) (chosen (On p) (not (is_graphic b)) _ _ (omega arith) (omega arith)))
on_in inside.Comment p b = omega arith
on_in inside.Slash p b = chosen (On p) (b == 47) _ _ (omega arith) (chosen (On p) (is_blank b) _ _ (omega arith) (chosen (On p) (not (is_graphic b)) _ _ (omega arith) (chosen (On p) (is_full p) _ _ (omega arith) (omega arith))))
on_in inside.Word p b = chosen (On p) (is_blank b) _ _ (omega arith) (chosen (On p) (not (is_graphic b)) _ _ (omega arith) (chosen (On p) (is_full p) _ _ (omega arith) (omega arith)))
on_in inside.Quoted p b = chosen (On p) (b == 34) _ _ (omega arith) (chosen (On p) (is_full p) _ _ (omega arith) (chosen (On p) (b == 92) _ _ (omega arith) (omega arith)))
on_in inside.Escaped p b = chosen (On p) (is_full p) _ _ (omega arith) (omega arith)
on_in (inside.Stopped code) p b = omega arith

on : (p : Place) (b : ℕ) → On p (next mode.Lef p b)
unfolding next
on p b = on_in p.inside p b

words_by : (p : Place) (t : Option Token) (ts : List Token) (b : ℕ) → closed_by p b ≡ t → Words p.at ts → Words p.at (listed t ++ ts)
words_by p None ts b is ws = ws
words_by p (Some t) ts b is ws = let s = spans p b t is in let e = s.1 in ((λ k. omega arith), ws)

end_words : (p : Place) → Words p.at (listed (closed_at_end p))
unfolding closed_at_end
end_words p = by p.inside
  where
    by : (i : Inside) → Words p.at (listed (closed_at_end_in i p))
    by inside.Slash = ((λ k. omega arith), tt)
    by inside.Word = ((λ k. omega arith), tt)
    by inside.Between = tt
    by inside.Comment = tt
    by inside.Quoted = tt
    by inside.Escaped = tt
    by (inside.Stopped code) = tt

none : (p : Place) → tokens_from mode.Lef p [] ≡ listed (closed_at_end p)
unfolding tokens_from closed_from after
none p = refl

pub words_end : (bytes : List ℕ) (p : Place) → Words p.at (tokens_from mode.Lef p bytes)
words_end [] p = subst (λ ts. Words p.at ts) (sym (none p)) (end_words p)
words_end (b ∷ bytes) p =
    subst (λ ts. Words p.at ts) (sym (first_byte p b bytes))
    (words_by p (closed_by p b) (tokens_from mode.Lef (next mode.Lef p b) bytes) b refl (words_weaker (next mode.Lef p b).at p.at _ (on p b) (words_end bytes (next mode.Lef p b))))

-- ---- so a word that is open

abbrev pub Goes : ℕ → Place → List Token → Type 0
Goes end p tokens = (tokens ≡ []) ⊎ ((t : Token) × (more : List Token) × (tokens ≡ t ∷ more) × (t.kind ≡ kinds.Word) × (t.start ≡ p.start) × (t.line ≡ p.start_line) × (p.at ≤ t.end) × (t.end ≤ end) × Words (p.at + 1) more)

word_step : (p : Place) (b : ℕ) → p.inside ≡ inside.Word → (closed_by p b ≡ cond (is_blank b) (Some (token_at kinds.Word p)) None) × (next mode.Lef p b ≡ continues p b)
unfolding next closed_by
word_step p b is = rw is (refl, refl)

goes_by : (end : ℕ) (p : Place) (b : ℕ) (bytes : List ℕ) (blank graphic full : Bool) → p.at + length (b ∷ bytes) ≤ end
    → ((q : Place) → q.inside ≡ inside.Word → q.at + length bytes ≤ end → Goes end q (tokens_from mode.Lef q bytes))
    → Goes end p (listed (cond blank (Some (token_at kinds.Word p)) None) ++ tokens_from mode.Lef (cond blank (moved p b inside.Between) (cond (not graphic) (moved p b (inside.Stopped E01)) (cond full (moved p b (inside.Stopped E02)) (moved p b inside.Word)))) bytes)
goes_by end p b bytes true graphic full le again = inr (token_at kinds.Word p, tokens_from mode.Lef (moved p b inside.Between) bytes, refl, refl, refl, refl, omega arith, omega arith, words_end bytes (moved p b inside.Between))
goes_by end p b bytes false false full le again = inl (halted bytes (moved p b inside.Between) E01)
goes_by end p b bytes false true true le again = inl (halted bytes (moved p b inside.Between) E02)
goes_by end p b bytes false true false le again = by (again (moved p b inside.Word) refl (omega arith))
  where
    by : Goes end (moved p b inside.Word) (tokens_from mode.Lef (moved p b inside.Word) bytes) → Goes end p (tokens_from mode.Lef (moved p b inside.Word) bytes)
    by (inl none) = inl none
    by (inr (t, more, is, kind, start, line, at, to, ws)) = inr (t, more, is, kind, start, line, omega (arith, at), to, words_weaker (p.at + 1 + 1) (p.at + 1) more (omega arith) ws)

word_ends : (p : Place) → p.inside ≡ inside.Word → tokens_from mode.Lef p [] ≡ token_at kinds.Word p ∷ []
unfolding tokens_from closed_from after closed_at_end
word_ends p is = rw is refl

pub goes : (end : ℕ) (bytes : List ℕ) (p : Place) → p.inside ≡ inside.Word → p.at + length bytes ≤ end → Goes end p (tokens_from mode.Lef p bytes)
goes end [] p is le = inr (token_at kinds.Word p, [], word_ends p is, refl, refl, refl, omega arith, omega arith, tt)
goes end (b ∷ bytes) p is le =
    let s = word_step p b is in
    subst (λ tokens. Goes end p tokens) (sym (first_byte p b bytes ∙ ap (λ t. listed t ++ tokens_from mode.Lef (next mode.Lef p b) bytes) s.0 ∙ ap (λ q. listed (cond (is_blank b) (Some (token_at kinds.Word p)) None) ++ tokens_from mode.Lef q bytes) s.1))
    (goes_by end p b bytes (is_blank b) (is_graphic b) (is_full p) le (λ q at le_. goes end bytes q at le_))

-- ---- where a text stands that has no fault

abbrev pub is_stopped : Inside → Bool
is_stopped (inside.Stopped code) = true
is_stopped _ = false

abbrev Moves : Place → Place → Type 0
Moves p q = q.at ≡ p.at + 1

moves_in : (i : Inside) (p : Place) (b : ℕ) → is_stopped i ≡ false → Moves p (next_in mode.Lef i p b)
moves_in inside.Between p b is = chosen (Moves p) (is_blank b) _ _ refl (chosen (Moves p) (b == 34) _ _ refl (chosen (Moves p) (not (is_graphic b)) _ _ refl refl))
moves_in inside.Comment p b is = refl
moves_in inside.Slash p b is = chosen (Moves p) (b == 47) _ _ refl (chosen (Moves p) (is_blank b) _ _ refl (chosen (Moves p) (not (is_graphic b)) _ _ refl (chosen (Moves p) (is_full p) _ _ refl refl)))
moves_in inside.Word p b is = chosen (Moves p) (is_blank b) _ _ refl (chosen (Moves p) (not (is_graphic b)) _ _ refl (chosen (Moves p) (is_full p) _ _ refl refl))
moves_in inside.Quoted p b is = chosen (Moves p) (b == 34) _ _ refl (chosen (Moves p) (is_full p) _ _ refl (chosen (Moves p) (b == 92) _ _ refl refl))
moves_in inside.Escaped p b is = chosen (Moves p) (is_full p) _ _ refl refl
moves_in (inside.Stopped code) p b is = absurd cc

moves : (p : Place) (b : ℕ) → is_stopped p.inside ≡ false → Moves p (next mode.Lef p b)
unfolding next
moves p b is = moves_in p.inside p b is

stays_in : (i : Inside) (p : Place) (b : ℕ) → p.inside ≡ i → is_stopped i ≡ true → is_stopped (next_in mode.Lef i p b).inside ≡ true
stays_in (inside.Stopped code) p b at is = ap is_stopped at
stays_in inside.Between p b at is = absurd cc
stays_in inside.Comment p b at is = absurd cc
stays_in inside.Slash p b at is = absurd cc
stays_in inside.Word p b at is = absurd cc
stays_in inside.Quoted p b at is = absurd cc
stays_in inside.Escaped p b at is = absurd cc

stays : (bytes : List ℕ) (p : Place) → is_stopped p.inside ≡ true → is_stopped (after mode.Lef p bytes).inside ≡ true
unfolding after next
stays [] p is = is
stays (b ∷ bytes) p is = stays bytes (next_in mode.Lef p.inside p b) (stays_in p.inside p b refl is)

at_by : (p : Place) (b : ℕ) (bytes : List ℕ) (s : Bool) → is_stopped p.inside ≡ s → is_stopped (after mode.Lef (next mode.Lef p b) bytes).inside ≡ false
    → ((after mode.Lef (next mode.Lef p b) bytes).at ≡ (next mode.Lef p b).at + length bytes) → (after mode.Lef (next mode.Lef p b) bytes).at ≡ p.at + length (b ∷ bytes)
unfolding next
at_by p b bytes true is ends at = let e = sym (stays bytes (next_in mode.Lef p.inside p b) (stays_in p.inside p b refl is)) ∙ ends in absurd cc
at_by p b bytes false is ends at = let m = moves_in p.inside p b is in omega (arith, at, m)

pub at_end : (bytes : List ℕ) (p : Place) → is_stopped (after mode.Lef p bytes).inside ≡ false → (after mode.Lef p bytes).at ≡ p.at + length bytes
unfolding after
at_end [] p is = omega arith
at_end (b ∷ bytes) p is = at_by p b bytes (is_stopped p.inside) refl is (at_end bytes (next mode.Lef p b) is)

-- ---- where no word is open, words end further on

abbrev pub is_word : Inside → Bool
is_word inside.Word = true
is_word _ = false

closes_no_word : (i : Inside) (p : Place) (b : ℕ) (t : Token) → is_word i ≡ false → is_slash i ≡ false → closed_in i p b ≡ Some t → t.kind ≡ kinds.Word → ⊥
closes_no_word inside.Between p b t w s is k = cc
closes_no_word inside.Comment p b t w s is k = cc
closes_no_word inside.Slash p b t w s is k = cc
closes_no_word inside.Word p b t w s is k = cc
closes_no_word inside.Quoted p b t w s is k = by (b == 34) is
  where
    by : (q : Bool) → cond q (Some (token_at kinds.Quoted p)) None ≡ Some t → ⊥
    by true e = let f : token_at kinds.Quoted p ≡ t = cc in let g : kinds.Quoted ≡ t.kind = ap (λ (x : Token). x.kind) f in cc
    by false e = cc
closes_no_word inside.Escaped p b t w s is k = cc
closes_no_word (inside.Stopped code) p b t w s is k = cc

no_word_closed : (p : Place) (b : ℕ) (t : Token) → is_word p.inside ≡ false → is_slash p.inside ≡ false → closed_by p b ≡ Some t → t.kind ≡ kinds.Word → ⊥
unfolding closed_by
no_word_closed p b t w s is k = closes_no_word p.inside p b t w s is k

beyond_by : (p : Place) (from : ℕ) (t : Option Token) (ts : List Token) (b : ℕ) → is_word p.inside ≡ false → is_slash p.inside ≡ false → closed_by p b ≡ t → Words from ts → Words from (listed t ++ ts)
beyond_by p from None ts b w s is ws = ws
beyond_by p from (Some t) ts b w s is ws = ((λ k. absurd (no_word_closed p b t w s is k)), ws)

none_open : (p : Place) → is_word p.inside ≡ false → is_slash p.inside ≡ false → closed_at_end p ≡ None
unfolding closed_at_end
none_open p w s = by p.inside w s
  where
    by : (i : Inside) → is_word i ≡ false → is_slash i ≡ false → closed_at_end_in i p ≡ None
    by inside.Slash w s = absurd cc
    by inside.Word w s = absurd cc
    by _ w s = refl

pub none_at_end : (p : Place) → is_word p.inside ≡ false → is_slash p.inside ≡ false → listed (closed_at_end p) ≡ []
none_at_end p w s = ap listed (none_open p w s)

pub one_at_end : (p : Place) → p.inside ≡ inside.Word → listed (closed_at_end p) ≡ token_at kinds.Word p ∷ []
unfolding closed_at_end
one_at_end p is = rw is refl

pub beyond : (bytes : List ℕ) (p : Place) → is_stopped p.inside ≡ false → is_word p.inside ≡ false → is_slash p.inside ≡ false → Words (p.at + 1) (tokens_from mode.Lef p bytes)
beyond [] p run w s = subst (λ ts. Words (p.at + 1) ts) (sym (none p ∙ none_at_end p w s)) tt
beyond (b ∷ bytes) p run w s =
    let m = moves p b run in
    subst (λ ts. Words (p.at + 1) ts) (sym (first_byte p b bytes))
    (beyond_by p (p.at + 1) (closed_by p b) (tokens_from mode.Lef (next mode.Lef p b) bytes) b w s refl (words_weaker (next mode.Lef p b).at (p.at + 1) _ (omega (arith, m)) (words_end bytes (next mode.Lef p b))))

-- nothing follows where a text has stopped
pub none_stopped : (bytes : List ℕ) (p : Place) → is_stopped p.inside ≡ true → tokens_from mode.Lef p bytes ≡ []
none_stopped bytes p is = by p.inside refl is
  where
    by : (i : Inside) → p.inside ≡ i → is_stopped i ≡ true → tokens_from mode.Lef p bytes ≡ []
    by (inside.Stopped code) at is = let e : p ≡ Halt p code = (λ j. record p { inside = at j }) in ap (λ q. tokens_from mode.Lef q bytes) e ∙ halted bytes p code
    by inside.Between at is = absurd cc
    by inside.Comment at is = absurd cc
    by inside.Slash at is = absurd cc
    by inside.Word at is = absurd cc
    by inside.Quoted at is = absurd cc
    by inside.Escaped at is = absurd cc
