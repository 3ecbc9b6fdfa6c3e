-- The lexer's lists and faults are those of the pieces of the text.
use Rattle.std.proofs.Common.{◌≡◌, ◌∙◌, ℕ, ◌+◌, ◌⊎◌, inl, inr, Bool, true, false, cond, List, [], ◌∷◌, ◌++◌, length, get_or, map, ◌-◌, refl, ap, sym, subst, ap₂, arith, append_assoc, append-nil, length-append, All, filter}
use Rattle.std.specs.Prelude.{Option, Some, None, Result, Ok, Err, ◌==◌, slice_range}
use Rattle.std.proofs.Math.Seq.{take-append_seam, drop-append_seam, get_or-append_seam}
use Rattle.std.proofs.lemmas.List.Elements.{All-nil, All-cons, All-append, All-head, All-tail, filter-append}
use Rattle.std.proofs.lemmas.List.{map-append}
use Rattle.rc_keys.specs.declared.code.Code.{Code}
use Rattle.rc_keys.specs.declared.code.Code.TheVariants.{E02}
use Rattle.rc_keys.specs.declared.token.Inside.{Inside}
use Rattle.rc_keys.specs.declared.token.Inside.TheVariants as inside
use Rattle.rc_keys.specs.declared.token.Kind.TheVariants as kinds
use Rattle.rc_keys.specs.declared.token.Mode.{Mode}
use Rattle.rc_keys.specs.declared.token.Mode.TheVariants as mode
use Rattle.rc_keys.specs.declared.token.Place.{Place}
use Rattle.rc_keys.specs.declared.token.Token.{Token}
use Rattle.rc_keys.specs.Tokens.{begin, begins, continues, next, next_in, after, listed, closed_by, closed_in, closed_at_end, closed_at_end_in, closed_from, token_at, is_blank, closed_tokens, tokens_from, tokens_of, fault_in, fault_of, fault_so_far}
use Rattle.rc_keys.specs.Pieces.{Piece, Blank, Comment, Word, Quoted, bytes_of, text_of, IsCutUpTo, line_behind, token_of, tokens_in, IsBad, IsBadAtEnd, Already, OpenQuoted, EndsBy, AreTokens}
use Rattle.rc_keys.specs.declared.fault.Fault.{Fault}
use Rattle.rc_keys.specs.declared.fault.Fault.TheVariants as faults
use Rattle.rc_keys.specs.declared.fault.Refusal.TheVariants as refusals
use Rattle.rc_keys.specs.Lexing.{Lexing, Fed, FedTells, Finished, FinishTells}
use Rattle.rc_keys.specs.Lexemes.{Remaining, lexeme, words_of}
use Rattle.rc_keys.specs.TokenLaws.{HasFaultSoFar, TokensArePieces, TokensAreOne, FaultsFollowPieces, LefExample, SpefExample, ForeignExample, ClosedAreTokens, is_closed_in, lexeme_of, lexemes_in, AreWords, WordsArePieces}
use Rattle.rc_keys.proofs.Cutting.{tokens-split}
use Rattle.rc_keys.proofs.Yields.{between, Ends, over_pieces, ends_bad, ends_open, at_text_end}
use Rattle.rc_keys.proofs.Scanning.{Cut, Bad, cut_or_bad}

-- pieces, and what is left behind them
abbrev Resolved : Mode → List ℕ → List Token → Option (Code × ℕ) → Option (Code × ℕ) → Type 0
Resolved m text tokens last early = (tokens_of m text ≡ tokens) × (fault_of m text ≡ last) × (fault_so_far m text ≡ early)

resolved : (m : Mode) (text : List ℕ) (pieces : List Piece) (rest : List ℕ) (last early : Option (Code × ℕ)) → IsCutUpTo m text pieces rest
    → ((s l : ℕ) → Ends m (between (text_of pieces) s l) rest last early) → Resolved m text (tokens_in [] pieces) last early
resolved m text pieces rest last early cut ends =
    let y = over_pieces m pieces [] 0 1 rest cut.1 in
    let e = ends y.0 y.1 in
    subst (λ x. Resolved m x (tokens_in [] pieces) last early) (sym cut.0)
    (y.2.0 ∙ ap (λ ts. tokens_in [] pieces ++ ts) e.0 ∙ append-nil (tokens_in [] pieces), y.2.1 ∙ e.1, y.2.2 ∙ e.2)

resolved_cut : (m : Mode) (text : List ℕ) (pieces : List Piece) → IsCutUpTo m text pieces [] → Resolved m text (tokens_in [] pieces) None None
resolved_cut m text pieces cut = resolved m text pieces [] None None cut (λ s l. at_text_end m (text_of pieces) s l)

-- a fault, as one of a text that goes on
abbrev SoFar : Mode → List ℕ → Code → Option (Code × ℕ) → Option (Code × ℕ) → Type 0
SoFar m rest code fault early = (IsBad m rest code × (early ≡ fault)) ⊎ (early ≡ None)

ends_wrong : (m : Mode) (front rest : List ℕ) (code : Code) → IsBadAtEnd m rest code
    → (early : Option (Code × ℕ)) × ((s l : ℕ) → Ends m (between front s l) rest (Some (code, line_behind front)) early) × SoFar m rest code (Some (code, line_behind front)) early
ends_wrong m front rest code (Already c bad) = (Some (c, line_behind front), λ s l. ends_bad m front s l rest c bad, inl (bad, refl))
ends_wrong m front rest code (OpenQuoted bytes is small unclosed) = (
  None,
  λ s l. subst (λ x. Ends m (between front s l) x (Some (E02, line_behind front)) None) (sym is) (ends_open m front s l bytes small unclosed),
  inr refl,
)

resolved_bad : (m : Mode) (text : List ℕ) (pieces : List Piece) (rest : List ℕ) (code : Code) → IsCutUpTo m text pieces rest → IsBadAtEnd m rest code
    → (early : Option (Code × ℕ)) × Resolved m text (tokens_in [] pieces) (Some (code, line_behind (text_of pieces))) early × SoFar m rest code (Some (code, line_behind (text_of pieces))) early
resolved_bad m text pieces rest code cut bad = let e = ends_wrong m (text_of pieces) rest code bad in (e.0, resolved m text pieces rest _ _ cut e.1, e.2)

none_is_some : {X : Type 0} (x : X) → None ≡ Some x → ⊥
none_is_some x is = absurd cc

same_some : {X : Type 0} (x y : X) → Some x ≡ Some y → x ≡ y
same_some x y is = cc

same_fault : (a b : Code) (k l : ℕ) → ◌≡◌ {A = Option (Code × ℕ)} (Some (a, k)) (Some (b, l)) → (a ≡ b) × (k ≡ l)
same_fault a b k l is = let e = same_some (a, k) (b, l) is in (ap (λ (f : Code × ℕ). f.0) e, ap (λ (f : Code × ℕ). f.1) e)

-- how a text is cut, and what the lexer makes of it
pub record Way (m : Mode) (text : List ℕ) : Type 0 where
  pub pieces : List Piece
  pub rest : List ℕ
  pub fault : Option (Code × ℕ)
  pub cut : IsCutUpTo m text pieces rest
  pub ends : EndsBy m rest (line_behind (text_of pieces)) fault
  pub tokens : tokens_of m text ≡ tokens_in [] pieces
  pub found : fault_of m text ≡ fault

pub way : (m : Mode) (text : List ℕ) → Way m text
way m text = by (cut_or_bad m text)
  where
    by : Cut m text ⊎ Bad m text → Way m text
    by (inl c) =
        let r = resolved_cut m text c.pieces c.cut in
        record { pieces = c.pieces; rest = []; fault = None; cut = c.cut; ends = refl; tokens = r.0; found = r.1 }
    by (inr w) =
        let r = resolved_bad m text w.pieces w.rest w.code w.cut w.bad in
        record { pieces = w.pieces; rest = w.rest; fault = Some (w.code, line_behind (text_of w.pieces)); cut = w.cut; ends = (w.bad, refl); tokens = r.1.0; found = r.1.1 }

-- pieces that end so are how it is cut
pub only_way : (m : Mode) (text : List ℕ) (pieces : List Piece) (rest : List ℕ) (fault : Option (Code × ℕ)) → IsCutUpTo m text pieces rest → EndsBy m rest (line_behind (text_of pieces)) fault
    → (tokens_of m text ≡ tokens_in [] pieces) × (fault_of m text ≡ fault)
only_way m text pieces rest None cut ends = let r = resolved_cut m text pieces (subst (IsCutUpTo m text pieces) ends cut) in (r.0, r.1)
only_way m text pieces rest (Some (code, line)) cut ends = let r = resolved_bad m text pieces rest code cut ends.0 in (r.1.0, r.1.1 ∙ ap (λ l. Some (code, l)) (sym ends.1))

pub tokens_are_pieces : TokensArePieces
tokens_are_pieces m text tokens fault = (there (way m text), back)
  where
    there : Way m text → (tokens_of m text ≡ tokens) × (fault_of m text ≡ fault) → AreTokens m text tokens fault
    there w h = (w.pieces, w.rest, w.cut, sym h.0 ∙ w.tokens, subst (EndsBy m w.rest (line_behind (text_of w.pieces))) (sym w.found ∙ h.1) w.ends)

    back : AreTokens m text tokens fault → (tokens_of m text ≡ tokens) × (fault_of m text ≡ fault)
    back t = let r = only_way m text t.0 t.1 fault t.2 t.4 in (r.0 ∙ sym t.3, r.1)

pub tokens_are_one : TokensAreOne
tokens_are_one m text = (
  tokens_of m text,
  fault_of m text,
  (tokens_are_pieces m text (tokens_of m text) (fault_of m text)).0 (refl, refl),
  λ others other are. let same = (tokens_are_pieces m text others other).1 are in (sym same.0, sym same.1),
)

-- where a text has its fault already, all its tokens are closed
stopped_closes_in : (i : Inside) (p : Place) (l : ℕ) (fault : Code × ℕ) → fault_in i l ≡ Some fault → closed_at_end_in i p ≡ None
stopped_closes_in inside.Between p l fault is = absurd cc
stopped_closes_in inside.Comment p l fault is = absurd cc
stopped_closes_in inside.Slash p l fault is = absurd cc
stopped_closes_in inside.Word p l fault is = absurd cc
stopped_closes_in inside.Quoted p l fault is = absurd cc
stopped_closes_in inside.Escaped p l fault is = absurd cc
stopped_closes_in (inside.Stopped code) p l fault is = refl

all_closed : (m : Mode) (text : List ℕ) (fault : Code × ℕ) → fault_so_far m text ≡ Some fault → closed_tokens m text ≡ tokens_of m text
unfolding closed_at_end
all_closed m text fault is =
    let none : closed_at_end (after m begin text) ≡ None = stopped_closes_in (after m begin text).inside (after m begin text) (after m begin text).start_line fault is in
    sym (tokens-split m begin text ∙ ap (λ o. closed_tokens m text ++ listed o) none ∙ append-nil (closed_tokens m text))

pub faults_follow_pieces : FaultsFollowPieces
faults_follow_pieces m text tokens code line = (there, back)
  where
    there : (closed_tokens m text ≡ tokens) × (fault_so_far m text ≡ Some (code, line)) → HasFaultSoFar m text tokens code line
    there h = by (cut_or_bad m text)
      where
        tokens_are : tokens_of m text ≡ tokens
        tokens_are = sym (all_closed m text (code, line) h.1) ∙ h.0

        by_early : (w : Bad m text) (early : Option (Code × ℕ)) → Resolved m text (tokens_in [] w.pieces) (Some (w.code, line_behind (text_of w.pieces))) early
            → SoFar m w.rest w.code (Some (w.code, line_behind (text_of w.pieces))) early → HasFaultSoFar m text tokens code line
        by_early w early r (inl e) =
            let same = same_fault w.code code (line_behind (text_of w.pieces)) line (sym (r.2 ∙ e.1) ∙ h.1) in
            (w.pieces, w.rest, w.cut, sym tokens_are ∙ r.0, subst (IsBad m w.rest) same.0 e.0, sym same.1)
        by_early w early r (inr e) = absurd (none_is_some _ (sym (r.2 ∙ e) ∙ h.1))

        by : Cut m text ⊎ Bad m text → HasFaultSoFar m text tokens code line
        by (inl c) = absurd (none_is_some _ (sym (resolved_cut m text c.pieces c.cut).2 ∙ h.1))
        by (inr w) = let r = resolved_bad m text w.pieces w.rest w.code w.cut w.bad in by_early w r.0 r.1 r.2

    back : HasFaultSoFar m text tokens code line → (closed_tokens m text ≡ tokens) × (fault_so_far m text ≡ Some (code, line))
    back f =
        let r = resolved m text f.0 f.1 _ _ f.2 (λ s l. ends_bad m (text_of f.0) s l f.1 code f.4) in
        let early : fault_so_far m text ≡ Some (code, line) = r.2 ∙ ap (λ l. Some (code, l)) (sym f.5) in
        (all_closed m text (code, line) early ∙ r.0 ∙ sym f.3, early)

-- ---- closed tokens

-- a byte further, but where a fault stands
begins_at : (m : Mode) (p : Place) (b : ℕ) → (begins m p b).at ≡ p.at + 1
begins_at m p b = grind arith

continues_at : (p : Place) (b : ℕ) → (continues p b).at ≡ p.at + 1
continues_at p b = grind arith

slash_at : (m : Mode) (p : Place) (b : ℕ) → (next_in m inside.Slash p b).at ≡ p.at + 1
slash_at m p b = grind (arith, continues_at)

quoted_at : (m : Mode) (p : Place) (b : ℕ) → (next_in m inside.Quoted p b).at ≡ p.at + 1
quoted_at m p b = grind arith

escaped_at : (m : Mode) (p : Place) (b : ℕ) → (next_in m inside.Escaped p b).at ≡ p.at + 1
escaped_at m p b = grind arith

goes_at : (m : Mode) (i : Inside) (p : Place) (b : ℕ) → ((code : Code) → i ≡ inside.Stopped code → ⊥) → (next_in m i p b).at ≡ p.at + 1
goes_at m inside.Between p b not = begins_at m p b
goes_at m inside.Comment p b not = refl
goes_at m inside.Slash p b not = slash_at m p b
goes_at m inside.Word p b not = continues_at p b
goes_at m inside.Quoted p b not = quoted_at m p b
goes_at m inside.Escaped p b not = escaped_at m p b
goes_at m (inside.Stopped code) p b not = absurd (not code refl)

not_stopped : (i : Inside) → ((code : Code) → i ≡ inside.Stopped code → ⊥) ⊎ ((code : Code) × (i ≡ inside.Stopped code))
not_stopped inside.Between = inl (λ code is. absurd cc)
not_stopped inside.Comment = inl (λ code is. absurd cc)
not_stopped inside.Slash = inl (λ code is. absurd cc)
not_stopped inside.Word = inl (λ code is. absurd cc)
not_stopped inside.Quoted = inl (λ code is. absurd cc)
not_stopped inside.Escaped = inl (λ code is. absurd cc)
not_stopped (inside.Stopped code) = inr (code, refl)

next_at : (m : Mode) (p : Place) (b : ℕ) → ((code : Code) → p.inside ≡ inside.Stopped code → ⊥) → (next m p b).at ≡ p.at + 1
unfolding next
next_at m p b not = goes_at m p.inside p b not

next_stays : (m : Mode) (p : Place) (b : ℕ) (code : Code) → p.inside ≡ inside.Stopped code → next m p b ≡ p
unfolding next
next_stays m p b code is = rw is refl

-- a place in a text is as far as the bytes before it, but where a fault stands
abbrev IsBehind : List ℕ → Place → Type 0
IsBehind front p = ((code : Code) → p.inside ≡ inside.Stopped code → ⊥) → p.at ≡ length front

next_behind : (m : Mode) (front : List ℕ) (p : Place) (b : ℕ) → IsBehind front p → IsBehind (front ++ b ∷ []) (next m p b)
next_behind m front p b at go = by (not_stopped p.inside)
  where
    by : ((code : Code) → p.inside ≡ inside.Stopped code → ⊥) ⊎ ((code : Code) × (p.inside ≡ inside.Stopped code)) → (next m p b).at ≡ length (front ++ b ∷ [])
    by (inl not) = omega (arith, next_at m p b not, at not, length-append front (b ∷ []))
    by (inr s) = absurd (go s.0 (ap (λ (x : Place). x.inside) (next_stays m p b s.0 s.1) ∙ s.1))

after_behind : (m : Mode) (bytes front : List ℕ) (p : Place) → IsBehind front p → IsBehind (front ++ bytes) (after m p bytes)
unfolding after
after_behind m [] front p at = rw (append-nil front) at
after_behind m (b ∷ bytes) front p at =
    let e : (front ++ b ∷ []) ++ bytes ≡ front ++ b ∷ bytes = append_assoc front (b ∷ []) bytes in
    rw e at (after_behind m bytes (front ++ b ∷ []) (next m p b) (next_behind m front p b at))

-- a token is closed in this text
abbrev Closed : List ℕ → Token → Type 0
Closed text t = is_closed_in text t ≡ true

word_closed : (text : List ℕ) (p : Place) (b : ℕ) (t : Bool) → is_blank b ≡ t → get_or text p.at 0 ≡ b → All (Closed text) (listed (cond t (Some (token_at kinds.Word p)) None))
word_closed text p b true blank is = All-cons (Closed text) (token_at kinds.Word p) [] (ap is_blank is ∙ blank) (All-nil (Closed text))
word_closed text p b false blank is = All-nil (Closed text)

quoted_closed : (text : List ℕ) (p : Place) (t : Bool) → All (Closed text) (listed (cond t (Some (token_at kinds.Quoted p)) None))
quoted_closed text p true = All-cons (Closed text) (token_at kinds.Quoted p) [] refl (All-nil (Closed text))
quoted_closed text p false = All-nil (Closed text)

one_closed_in : (text : List ℕ) (i : Inside) (p : Place) (b : ℕ) → (((code : Code) → i ≡ inside.Stopped code → ⊥) → get_or text p.at 0 ≡ b) → All (Closed text) (listed (closed_in i p b))
one_closed_in text inside.Between p b at = All-nil (Closed text)
one_closed_in text inside.Comment p b at = All-nil (Closed text)
one_closed_in text inside.Slash p b at = word_closed text p b (is_blank b) refl (at (λ code is. absurd cc))
one_closed_in text inside.Word p b at = word_closed text p b (is_blank b) refl (at (λ code is. absurd cc))
one_closed_in text inside.Quoted p b at = quoted_closed text p (b == 34)
one_closed_in text inside.Escaped p b at = All-nil (Closed text)
one_closed_in text (inside.Stopped code) p b at = All-nil (Closed text)

closed_closed : (m : Mode) (text bytes front : List ℕ) (p : Place) → text ≡ front ++ bytes → IsBehind front p → All (Closed text) (closed_from m p bytes)
unfolding closed_from closed_by
closed_closed m text [] front p is at = All-nil (Closed text)
closed_closed m text (b ∷ bytes) front p is at =
    All-append (Closed text) (listed (closed_by p b)) (closed_from m (next m p b) bytes)
    (one_closed_in text p.inside p b (λ go. ap₂ (λ x n. get_or x n 0) is (at go) ∙ get_or-append_seam front b bytes 0))
    (closed_closed m text bytes (front ++ b ∷ []) (next m p b) (is ∙ sym (append_assoc front (b ∷ []) bytes)) (next_behind m front p b at))

get_or_end : (text : List ℕ) → get_or text (length text) 0 ≡ 0
get_or_end [] = refl
get_or_end (b ∷ text) = get_or_end text

kept : (test : Token → Bool) (ts : List Token) → All (λ t. test t ≡ true) ts → filter test ts ≡ ts
kept test [] all = refl
kept test (t ∷ ts) all = rw (All-head (λ t. test t ≡ true) t ts all, kept test ts (All-tail (λ t. test t ≡ true) t ts all)) refl

-- behind the word that the text's end closes stands no blank
nothing_behind : (text : List ℕ) (p : Place) → p.at ≡ length text → is_blank (get_or text p.at 0) ≡ false
nothing_behind text p at = rw (at, get_or_end text) refl

last_open_in : (text : List ℕ) (i : Inside) (p : Place) → (((code : Code) → i ≡ inside.Stopped code → ⊥) → p.at ≡ length text) → filter (is_closed_in text) (listed (closed_at_end_in i p)) ≡ []
last_open_in text inside.Between p at = refl
last_open_in text inside.Comment p at = refl
last_open_in text inside.Slash p at = rw (nothing_behind text p (at (λ code is. absurd cc))) refl
last_open_in text inside.Word p at = rw (nothing_behind text p (at (λ code is. absurd cc))) refl
last_open_in text inside.Quoted p at = refl
last_open_in text inside.Escaped p at = refl
last_open_in text (inside.Stopped code) p at = refl

pub closed_are_tokens : ClosedAreTokens
unfolding closed_at_end
closed_are_tokens m text =
    let at : IsBehind text (after m begin text) = after_behind m text [] begin (λ go. refl) in
    let last : filter (is_closed_in text) (listed (closed_at_end (after m begin text))) ≡ [] = last_open_in text (after m begin text).inside (after m begin text) at in
    let first : filter (is_closed_in text) (closed_tokens m text) ≡ closed_tokens m text = kept (is_closed_in text) (closed_tokens m text) (closed_closed m text text [] begin refl (λ go. refl)) in
    sym (ap (filter (is_closed_in text)) (tokens-split m begin text) ∙ filter-append (is_closed_in text) (closed_tokens m text) (listed (closed_at_end (after m begin text))) ∙ rw (first, last) (append-nil (closed_tokens m text)))

-- ---- what the pieces say

slice_here : (front bytes rest : List ℕ) (a b : ℕ) → a ≡ length front → b ≡ a + length bytes → slice_range (front ++ (bytes ++ rest)) a b ≡ bytes
slice_here front bytes rest a b from to =
    let size : b - a ≡ length bytes = omega arith in
    rw (size, from, drop-append_seam front (bytes ++ rest)) (take-append_seam bytes rest)

quoted_here : (front bytes rest : List ℕ) → slice_range (front ++ ((34 ∷ bytes ++ 34 ∷ []) ++ rest)) (length front + 1) (length front + 1 + length bytes) ≡ bytes
quoted_here front bytes rest =
    let e : front ++ ((34 ∷ bytes ++ 34 ∷ []) ++ rest) ≡ (front ++ 34 ∷ []) ++ (bytes ++ 34 ∷ rest) =
    ap (λ x. front ++ x) (append_assoc (34 ∷ bytes) (34 ∷ []) rest) ∙ sym (append_assoc front (34 ∷ []) (bytes ++ 34 ∷ rest)) in
    rw e (slice_here (front ++ 34 ∷ []) bytes (34 ∷ rest) (length front + 1) (length front + 1 + length bytes) (omega (arith, length-append front (34 ∷ []))) refl)

piece_says : (text front : List ℕ) (piece : Piece) (rest : List ℕ) → text ≡ front ++ (bytes_of piece ++ rest) → map (lexeme text) (token_of front piece) ≡ lexeme_of front piece
piece_says text front (Blank b) rest is = refl
piece_says text front (Comment bytes) rest is = refl
piece_says text front (Word bytes) rest is =
    ap (λ x. record { kind = kinds.Word; bytes = x; line = line_behind front } ∷ []) (ap (λ t. slice_range t (length front) (length front + length bytes)) is ∙ slice_here front bytes rest (length front) (length front + length bytes) refl refl)
piece_says text front (Quoted bytes) rest is =
    ap (λ x. record { kind = kinds.Quoted; bytes = x; line = line_behind front } ∷ []) (ap (λ t. slice_range t (length front + 1) (length front + 1 + length bytes)) is ∙ quoted_here front bytes rest)

pieces_say : (text : List ℕ) (pieces : List Piece) (front rest : List ℕ) → text ≡ front ++ (text_of pieces ++ rest) → map (lexeme text) (tokens_in front pieces) ≡ lexemes_in front pieces
pieces_say text [] front rest is = refl
pieces_say text (piece ∷ pieces) front rest is =
    let parts : text ≡ front ++ (bytes_of piece ++ (text_of pieces ++ rest)) = is ∙ ap (λ x. front ++ x) (append_assoc (bytes_of piece) (text_of pieces) rest) in
    let more : text ≡ (front ++ bytes_of piece) ++ (text_of pieces ++ rest) = parts ∙ sym (append_assoc front (bytes_of piece) (text_of pieces ++ rest)) in
    map-append (lexeme text) (token_of front piece) (tokens_in (front ++ bytes_of piece) pieces)
    ∙ rw (piece_says text front piece (text_of pieces ++ rest) parts, pieces_say text pieces (front ++ bytes_of piece) rest more) refl

pub words_are_pieces : WordsArePieces
words_are_pieces m text all = (there (way m text), back)
  where
    there : Way m text → words_of m text ≡ all → AreWords m text all
    there w is = (
      w.pieces,
      w.rest,
      w.cut,
      sym (ap (λ (r : Remaining). r.words) is) ∙ ap (map (lexeme text)) w.tokens ∙ pieces_say text w.pieces [] w.rest w.cut.0,
      subst (EndsBy m w.rest (line_behind (text_of w.pieces))) (sym w.found ∙ ap (λ (r : Remaining). r.fault) is) w.ends,
    )

    back : AreWords m text all → words_of m text ≡ all
    back t =
        let r = only_way m text t.0 t.1 all.fault t.2 t.4 in
        let words : map (lexeme text) (tokens_of m text) ≡ all.words = ap (map (lexeme text)) r.0 ∙ pieces_say text t.0 [] t.1 t.2.0 ∙ sym t.3 in
        λ i. record { words = words i; fault = r.1 i }

-- ---- what the lexer's answers tell

pub fed_tells : (result : Result (Unit {0}) Fault) (piece : List ℕ) (old new : Lexing) (before now : List Token) → Fed result piece old new before now → FedTells result piece old
fed_tells (Ok _) piece old new before now is = λ tokens code line f. none_is_some _ (sym is.0 ∙ ((faults_follow_pieces old.mode (old.text ++ piece) tokens code line).1 f).1)
fed_tells (Err (faults.Refused (refusals.At code line))) piece old new before now is = (faults_follow_pieces old.mode (old.text ++ piece) (closed_tokens old.mode (old.text ++ piece)) code line).0 (refl, is.0)
fed_tells (Err _) piece old new before now is = tt

pub finish_tells : (result : Result (Unit {0}) Fault) (old new : Lexing) (before now : List Token) → Finished result old new before now → FinishTells result old
finish_tells (Ok _) old new before now is = (tokens_are_pieces old.mode old.text (tokens_of old.mode old.text) None).0 (refl, is.0)
finish_tells (Err (faults.Refused (refusals.At code line))) old new before now is = (tokens_are_pieces old.mode old.text (tokens_of old.mode old.text) (Some (code, line))).0 (refl, is.0)
finish_tells (Err _) old new before now is = tt

-- ---- the examples

pub lef_example : LefExample
unfolding next closed_by closed_at_end closed_from tokens_from after
lef_example = (tokens_are_pieces mode.Lef _ _ _).0 (refl, refl)

pub spef_example : SpefExample
unfolding next closed_by closed_at_end closed_from tokens_from after
spef_example = (tokens_are_pieces mode.Spef _ _ _).0 (refl, refl)

pub foreign_example : ForeignExample
unfolding next closed_by closed_at_end closed_from after
foreign_example = (faults_follow_pieces mode.Lef _ _ _ _).0 (refl, refl)
