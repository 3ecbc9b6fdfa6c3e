-- A text has no more tokens than bytes.
use Rattle.std.proofs.Common.{◌+◌, ◌≤◌, ℕ, Bool, true, false, cond, List, [], ◌∷◌, length, arith}
use Rattle.std.proofs.lemmas.List.{length-map}
use Rattle.std.proofs.Math.ListN.{length-append}
use Rattle.std.specs.Prelude.{◌==◌, Some, None}
use Rattle.rc_keys.specs.declared.token.Inside.{Inside}
use Rattle.rc_keys.specs.declared.token.Inside.TheVariants as inside
use Rattle.rc_keys.specs.declared.token.Mode.{Mode}
use Rattle.rc_keys.specs.declared.token.Place.{Place}
use Rattle.rc_keys.specs.declared.token.Token.{Token}
use Rattle.rc_keys.specs.Lexemes.{lexeme, words_of}
use Rattle.rc_keys.specs.Tokens.{is_blank, begin, next, after, listed, closed_in, closed_by, closed_at_end_in, closed_at_end, closed_from, tokens_from}

-- whether a token is begun
abbrev begun : Inside → ℕ
begun inside.Between = 0
begun inside.Comment = 0
begun _ = 1

at_most_1 : (i : Inside) → begun i ≤ 1
at_most_1 inside.Between = omega arith
at_most_1 inside.Comment = omega arith
at_most_1 inside.Slash = omega arith
at_most_1 inside.Word = omega arith
at_most_1 inside.Quoted = omega arith
at_most_1 inside.Escaped = omega arith
at_most_1 (inside.Stopped code) = omega arith

one_or_none : (b : Bool) (t : Token) → length (listed (cond b (Some t) None)) ≤ 1
one_or_none true t = omega arith
one_or_none false t = omega arith

-- a token that is closed was begun
closes_in : (i : Inside) (p : Place) (b : ℕ) → length (listed (closed_in i p b)) ≤ begun i
closes_in inside.Between p b = omega arith
closes_in inside.Comment p b = omega arith
closes_in inside.Slash p b = one_or_none (is_blank b) _
closes_in inside.Word p b = one_or_none (is_blank b) _
closes_in inside.Quoted p b = one_or_none (b == 34) _
closes_in inside.Escaped p b = omega arith
closes_in (inside.Stopped code) p b = omega arith

closes : (p : Place) (b : ℕ) → length (listed (closed_by p b)) ≤ begun p.inside
unfolding closed_by
closes p b = closes_in p.inside p b

ends_in : (i : Inside) (p : Place) → length (listed (closed_at_end_in i p)) ≤ begun i
ends_in inside.Between p = omega arith
ends_in inside.Comment p = omega arith
ends_in inside.Slash p = omega arith
ends_in inside.Word p = omega arith
ends_in inside.Quoted p = omega arith
ends_in inside.Escaped p = omega arith
ends_in (inside.Stopped code) p = omega arith

ends : (p : Place) → length (listed (closed_at_end p)) ≤ begun p.inside
unfolding closed_at_end
ends p = ends_in p.inside p

few : (m : Mode) (bytes : List ℕ) (p : Place) → length (closed_from m p bytes) + length (listed (closed_at_end (after m p bytes))) ≤ length bytes + begun p.inside
unfolding closed_from after
few m [] p = let e = ends p in omega arith
few m (b ∷ bytes) p =
    let e = closes p b in
    let f = at_most_1 (next m p b).inside in
    let g = few m bytes (next m p b) in
    let h = length-append (listed (closed_by p b)) (closed_from m (next m p b) bytes) in
    omega arith

few_tokens : (m : Mode) (text : List ℕ) → length (tokens_from m begin text) ≤ length text
unfolding tokens_from
few_tokens m text =
    let e = few m text begin in
    let f = length-append (closed_from m begin text) (listed (closed_at_end (after m begin text))) in
    omega arith

pub few_words : (m : Mode) (text : List ℕ) → length (words_of m text).words ≤ length text
few_words m text = let e = length-map (tokens_from m begin text) (lexeme text) in let f = few_tokens m text in omega arith
