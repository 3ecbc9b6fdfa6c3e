-- The names of nets, and where a name stands.
use Rattle.std.proofs.Common.{◌≡◌, ◌≢◌, ◌<◌, ◌≤◌, ◌+◌, ℕ, false, cond, List, [], ◌∷◌, ◌++◌, map, take, length, get_or, ap, sym, subst, ◌∙◌, arith}
use Rattle.std.specs.Prelude.{AllPairs, position}
use Rattle.std.specs.Global.{Vec}
use Rattle.std.specs.List.{list_any}
use Rattle.std.specs.Str.{bytes_eq}
use Rattle.std.proofs.lemmas.Bool.{false_from_ne_true}
use Rattle.std.proofs.lemmas.List.{get_or_append_left, get_or_default, get_or-take, length-append, length-take-le, take_all, take_more}
use Rattle.std.proofs.lemmas.List.Folds.{list_any_none}
use Rattle.std.proofs.lemmas.Slice.Eq.{bytes_eq-Decides}
use Rattle.rc_keys.proofs.Naming.{position-map, put_key}
use Rattle.rc_layout.specs.declared.net.Net.{Net}

abbrev pub name_of : Net → List ℕ
name_of net = net.name

-- the names of the first nets differ where those of all do
pub first_differ : (nets grounded : List Net) → AllPairs (λ a b. a.name ≢ b.name) (nets ++ grounded) → AllPairs (λ a b. a.name ≢ b.name) nets
first_differ nets grounded differ i j d less within =
    let long = length-append nets grounded in
    let first = get_or_append_left nets grounded d i (omega (arith, less, within)) in
    let second = get_or_append_left nets grounded d j within in
    subst (λ (b : Net). (get_or nets i d).name ≢ b.name) second
    (subst (λ (a : Net). a.name ≢ (get_or (nets ++ grounded) j d).name) first (differ i j d less (omega (arith, within, long))))

-- so a net's name is none of those before it
pub fresh_name : (nets : List Net) (i : ℕ) (d : Net) → AllPairs (λ a b. a.name ≢ b.name) nets → i < length nets → list_any (λ (other : Net). bytes_eq (get_or nets i d).name other.name) (take i nets) ≡ false
fresh_name nets i d differ within =
    list_any_none (λ (other : Net). bytes_eq (get_or nets i d).name other.name) (take i nets)
    (λ k e less. false_from_ne_true (bytes_eq (get_or nets i d).name (get_or (take i nets) k e).name) (λ same. apart k e less ((bytes_eq-Decides (get_or nets i d).name (get_or (take i nets) k e).name).0 same)))
  where
    apart : (k : ℕ) (e : Net) → k < length (take i nets) → (get_or nets i d).name ≡ (get_or (take i nets) k e).name → ⊥
    apart k e less same =
        let long = length-take-le i nets (omega (arith, within)) in
        let before : k < i = omega (arith, less, long) in
        let at : get_or (take i nets) k e ≡ get_or nets k d = get_or-take i nets k e before ∙ get_or_default nets k e d (omega (arith, before, within)) in
        differ k i d before within (sym (ap name_of at) ∙ sym same)

-- one name more
pub name_more : (nets : List Net) (i : ℕ) (net : Net) (keys after : List (Vec ℕ)) (key : Vec ℕ) → AllPairs (λ a b. a.name ≢ b.name) nets → i < length nets → net ≡ get_or nets i net → map (λ (k : Vec ℕ). k.items) keys ≡ map name_of (take i nets) →
    key.items ≡ net.name → after ≡ cond (list_any (λ (k : Vec ℕ). bytes_eq key.items k.items) keys) keys (keys ++ key ∷ []) → map (λ (k : Vec ℕ). k.items) after ≡ map name_of (take (i + 1) nets)
name_more nets i net keys after key differ within is so_far name put =
    put_key name_of keys after (take i nets) (take (i + 1) nets) net key so_far name
    (ap (λ (n : Net). list_any (λ (other : Net). bytes_eq n.name other.name) (take i nets)) is ∙ fresh_name nets i net differ within)
    (take_more nets i net within ∙ ap (λ (n : Net). take i nets ++ n ∷ []) (sym is)) put

pub all_names : (nets : List Net) (i : ℕ) (keys : List (Vec ℕ)) → length nets ≤ i → map (λ (k : Vec ℕ). k.items) keys ≡ map name_of (take i nets) → map (λ (k : Vec ℕ). k.items) keys ≡ map name_of nets
all_names nets i keys past so_far = so_far ∙ ap (map name_of) (take_all i nets past)

-- where a name stands among the keys, and where its net does
pub place_of_key : (name : List ℕ) (keys : List (Vec ℕ)) → position (λ (k : Vec ℕ). bytes_eq name k.items) keys ≡ position (bytes_eq name) (map (λ (k : Vec ℕ). k.items) keys)
place_of_key name keys = sym (position-map (bytes_eq name) (λ (k : Vec ℕ). k.items) keys)

pub place_of_net : (name : List ℕ) (names : List (List ℕ)) (nets : List Net) → names ≡ map name_of nets → position (bytes_eq name) names ≡ position (λ (net : Net). bytes_eq name net.name) nets
place_of_net name names nets is = ap (position (bytes_eq name)) is ∙ position-map (bytes_eq name) name_of nets
