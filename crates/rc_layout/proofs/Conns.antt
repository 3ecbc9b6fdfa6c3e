-- Connections at their first places.
use Rattle.std.proofs.Common.{◌≡◌, ℕ, ◌+◌, ◌<◌, Bool, cond, List, [], ◌∷◌, ◌++◌, length, take, get_or, refl, sym, ap, ◌∙◌}
use Rattle.std.specs.Prelude.{◌||◌}
use Rattle.std.specs.List.{list_any}
use Rattle.std.proofs.lemmas.List.Sums.{fold_more}
use Rattle.indexmap.specs.IndexSet.{insert_key}
use Rattle.rc_layout.specs.declared.net.Conn.{Conn}
use Rattle.rc_layout.specs.Entries.{at_first, same_conn}

any_same : (eq : Conn → Conn → Bool) → ((a b : Conn) → eq a b ≡ same_conn a b) → (c : Conn) (keys : List Conn) → list_any (eq c) keys ≡ list_any (same_conn c) keys
any_same eq same c [] = refl
any_same eq same c (k ∷ keys) = ap (λ b. b || list_any (eq c) keys) (same c k) ∙ ap (λ b. same_conn c k || b) (any_same eq same c keys)

pub first_next :
    (eq : Conn → Conn → Bool) → ((a b : Conn) → eq a b ≡ same_conn a b) → (xs : List Conn) (i : ℕ) (d : Conn) (keys now : List Conn) → i < length xs → keys ≡ at_first (take i xs)
    → now ≡ insert_key eq keys (get_or xs i d) → now ≡ at_first (take (i + 1) xs)
first_next eq same xs i d keys now within so_far is =
    let c = get_or xs i d in
    is ∙ ap (λ b. cond b keys (keys ++ c ∷ [])) (any_same eq same c keys) ∙ ap (λ ks. cond (list_any (same_conn c) ks) ks (ks ++ c ∷ [])) so_far
    ∙ sym (fold_more (λ done (c : Conn). cond (list_any (same_conn c) done) done (done ++ c ∷ [])) [] xs i d within)
