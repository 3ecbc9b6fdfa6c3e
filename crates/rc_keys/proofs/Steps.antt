-- One byte of a text, and its end.
use Rattle.std.proofs.Common.{◌≡◌, ◌∙◌, ℕ, ◌+◌, ◌<◌, ◌≤◌, Bool, true, false, cond, List, [], ◌∷◌, ◌++◌, map, length, drop, get_or, refl, ap, add-one, append_assoc, drop-cons}
use Rattle.std.specs.Prelude.{Some, None, ◌==◌}
use Rattle.std.proofs.Math.ListN.{drop_of_length-le}
use Rattle.rc_keys.specs.declared.token.Inside.{Inside}
use Rattle.rc_keys.specs.declared.token.Inside.TheVariants as inside
use Rattle.rc_keys.specs.declared.token.Kind.{Kind}
use Rattle.rc_keys.specs.declared.token.Kind.TheVariants as kinds
use Rattle.rc_keys.specs.declared.token.Mode.{Mode}
use Rattle.rc_keys.specs.declared.token.Place.{Place}
use Rattle.rc_keys.specs.declared.token.Token.{Token}
use Rattle.rc_keys.specs.Tokens.{next, closed_by, closed_in, closed_at_end, closed_at_end_in, listed, after, closed_from, tokens_from, token_at, is_blank, end_fault_in}
use Rattle.rc_keys.specs.Lexemes.{end_fault, between}

at_cons : (m : Mode) (p : Place) (b : ℕ) (bs : List ℕ) → tokens_from m p (b ∷ bs) ≡ listed (closed_by p b) ++ tokens_from m (next m p b) bs
unfolding after closed_from tokens_from
at_cons m p b bs = append_assoc (listed (closed_by p b)) (closed_from m (next m p b) bs) (listed (closed_at_end (after m (next m p b) bs)))

after_cons : (m : Mode) (p : Place) (b : ℕ) (bs : List ℕ) → after m p (b ∷ bs) ≡ after m (next m p b) bs
unfolding after
after_cons m p b bs = refl

at_nil : (m : Mode) (p : Place) → tokens_from m p [] ≡ listed (closed_at_end p)
unfolding after closed_from tokens_from
at_nil m p = refl

after_nil : (m : Mode) (p : Place) → after m p [] ≡ p
unfolding after
after_nil m p = refl

drop_next : (xs : List ℕ) (i : ℕ) → i < length xs → drop i xs ≡ get_or xs i 0 ∷ drop (i + 1) xs
drop_next xs i lt = rw (add-one, drop-cons xs i 0) refl

pub tokens_step : (m : Mode) (p : Place) (xs : List ℕ) (i : ℕ) → i < length xs → tokens_from m p (drop i xs) ≡ listed (closed_by p (get_or xs i 0)) ++ tokens_from m (next m p (get_or xs i 0)) (drop (i + 1) xs)
tokens_step m p xs i lt = ap (tokens_from m p) (drop_next xs i lt) ∙ at_cons m p (get_or xs i 0) (drop (i + 1) xs)

pub after_step : (m : Mode) (p : Place) (xs : List ℕ) (i : ℕ) → i < length xs → after m p (drop i xs) ≡ after m (next m p (get_or xs i 0)) (drop (i + 1) xs)
after_step m p xs i lt = ap (after m p) (drop_next xs i lt) ∙ after_cons m p (get_or xs i 0) (drop (i + 1) xs)

pub tokens_end : (m : Mode) (p : Place) (xs : List ℕ) (i : ℕ) → length xs ≤ i → tokens_from m p (drop i xs) ≡ listed (closed_at_end p)
tokens_end m p xs i le = ap (tokens_from m p) (drop_of_length-le xs le) ∙ at_nil m p

pub after_end : (m : Mode) (p : Place) (xs : List ℕ) (i : ℕ) → length xs ≤ i → after m p (drop i xs) ≡ p
after_end m p xs i le = ap (after m p) (drop_of_length-le xs le) ∙ after_nil m p

-- ---- what a token spans

by_test : (p : Place) (k : Kind) (b : Bool) (t : Token) → cond b (Some (token_at k p)) None ≡ Some t → token_at k p ≡ t
by_test p k true t is = cc
by_test p k false t is = absurd cc

spans_in : (i : Inside) (p : Place) (b : ℕ) (t : Token) → closed_in i p b ≡ Some t → (t.start ≡ p.start) × (t.end ≡ p.at)
spans_in inside.Between p b t is = absurd cc
spans_in inside.Comment p b t is = absurd cc
spans_in inside.Slash p b t is = let e = by_test p kinds.Word (is_blank b) t is in rw (← e) (refl, refl)
spans_in inside.Word p b t is = let e = by_test p kinds.Word (is_blank b) t is in rw (← e) (refl, refl)
spans_in inside.Quoted p b t is = let e = by_test p kinds.Quoted (b == 34) t is in rw (← e) (refl, refl)
spans_in inside.Escaped p b t is = absurd cc
spans_in (inside.Stopped code) p b t is = absurd cc

pub spans : (p : Place) (b : ℕ) (t : Token) → closed_by p b ≡ Some t → (t.start ≡ p.start) × (t.end ≡ p.at)
unfolding closed_by
spans p b t is = spans_in p.inside p b t is

end_spans_in : (i : Inside) (p : Place) (t : Token) → closed_at_end_in i p ≡ Some t → (t.start ≡ p.start) × (t.end ≡ p.at)
end_spans_in inside.Between p t is = absurd cc
end_spans_in inside.Comment p t is = absurd cc
end_spans_in inside.Slash p t is = let e : token_at kinds.Word p ≡ t = cc in rw (← e) (refl, refl)
end_spans_in inside.Word p t is = let e : token_at kinds.Word p ≡ t = cc in rw (← e) (refl, refl)
end_spans_in inside.Quoted p t is = absurd cc
end_spans_in inside.Escaped p t is = absurd cc
end_spans_in (inside.Stopped code) p t is = absurd cc

pub end_spans : (p : Place) (t : Token) → closed_at_end p ≡ Some t → (t.start ≡ p.start) × (t.end ≡ p.at)
unfolding closed_at_end
end_spans p t is = end_spans_in p.inside p t is

-- ---- what the end of the text leaves

pub between_closes : (p : Place) → closed_at_end (between p) ≡ None
unfolding closed_at_end
between_closes p = refl

unfaulted_in : (i : Inside) (p : Place) (line : ℕ) (t : Token) → closed_at_end_in i p ≡ Some t → end_fault_in i line ≡ None
unfaulted_in inside.Between p line t is = absurd cc
unfaulted_in inside.Comment p line t is = absurd cc
unfaulted_in inside.Slash p line t is = refl
unfaulted_in inside.Word p line t is = refl
unfaulted_in inside.Quoted p line t is = absurd cc
unfaulted_in inside.Escaped p line t is = absurd cc
unfaulted_in (inside.Stopped code) p line t is = absurd cc

pub closed_unfaulted : (p : Place) (t : Token) → closed_at_end p ≡ Some t → end_fault p ≡ None
unfolding closed_at_end
closed_unfaulted p t is = unfaulted_in p.inside p p.start_line t is

pub unmapped : {X Y : Type 0} (f : X → Y) (xs : List X) → map f xs ≡ [] → xs ≡ []
unmapped f [] is = refl
unmapped f (x ∷ xs) is = absurd cc
