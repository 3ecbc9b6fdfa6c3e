-- The layout that a technology and a design link to has the facts of a layout.
use Rattle.std.proofs.Common.{◌≡◌, ◌∙◌, ◌⊎◌, inl, inr, ⊎_elim, ℕ, ◌+◌, ◌<◌, ◌≤◌, ◌^◌, Bool, true, List, [], ◌∷◌, ◌++◌, map, length, get_or, append_assoc, refl, sym, ap, subst, arith}
use Rattle.std.proofs.Math.Seq.{map-set_same}
use Rattle.std.proofs.lemmas.Bool.{true≢false}
use Rattle.std.proofs.lemmas.List.{append-nil, map-append}
use Rattle.std.proofs.lemmas.List.Elements.{All-nil, All-push, All-head, All-tail, All-append, All-set, All-contains, Contains-append_left, Contains-append_right, Contains-append_cases, Contains-push_cases}
use Rattle.std.proofs.lemmas.List.Folds.{list_any_at}
use Rattle.std.proofs.lemmas.Option.{slice_get_cases, get_or_from_slice_get, slice_get_within, slice_get-get_or}
use Rattle.std.proofs.lemmas.Slice.Eq.{bytes_eq-Decides}
use Rattle.std.specs.Prelude.{All, Contains, Option, Some, None, is_some, option_map, position, slice_get, Ok, Err}
use Rattle.std.specs.List.{fold, list_any}
use Rattle.std.specs.Str.{bytes_eq}
use Rattle.rc_fixed.proofs.Members.{none_in, at_head, head_or_tail, in_map}
use Rattle.rc_fixed.proofs.Tests.{nat_le_tells}
use Rattle.rc_keys.proofs.Naming.{position_tells}
use Rattle.rc_keys.specs.declared.code.Code.TheVariants.{E15}
use Rattle.rc_keys.specs.declared.fault.Refusal.TheVariants.{At}
use Rattle.rc_wire.specs.Forms.{IsRegular, IsSpecial}
use Rattle.rc_def.specs.Drafts.{name_of_net}
use Rattle.rc_def.specs.Forms.{IsRawNet}
use Rattle.rc_def.specs.Sound.{NamesDiffer}
use Rattle.rc_def.specs.declared.raw_net.RawNet.{RawNet}
use Rattle.rc_layout.specs.declared.net.Net.{Net}
use Rattle.rc_layout.specs.declared.parts.Parts.{Parts}
use Rattle.rc_layout.specs.Entries.{link_net, link_special}
use Rattle.rc_layout.specs.Facts.{AreSound, IsLayout}
use Rattle.rc_layout.specs.Layouts.{Wired, joined_at, net_added, net_linked, shape_count, within_limits}
use Rattle.rc_layout.specs.Ranges.{IsParts}
use Rattle.rc_layout.specs.Refusals.{Linked, each, goes_on, through, ◌>>=◌}
use Rattle.rc_layout.specs.Scope.{item_at, numbered}
use Rattle.rc_layout.specs.Values.{HaveValues}
use Rattle.rc_layout.proofs.FactsChains.{not_ok, same_ok, bound, passed, stays_refused, each_is}
use Rattle.rc_layout.proofs.FactsConns.{position_at}
use Rattle.rc_layout.proofs.FactsEach.{have_values}
use Rattle.rc_layout.proofs.FactsDistinct.{AreDistinct, names_distinct, names_differ, insert_distinct}
use Rattle.rc_layout.proofs.FactsNets.{wiring_of, IsDrawnNet, IsOwn, belongs, tied, net_is, special_is}
use Rattle.rc_layout.proofs.FactsWiring.{IsDrawnItem, AreTied}
use Rattle.rc_layout.proofs.Shapes.{had}

-- ---- along a list, by what was gone through

along :
    {S A : Type 0} (f : S → A → Linked S) (I : List A → S → Type 0) (all : List A)
    → ((done : List A) (x : A) (rest : List A) (s t : S) → all ≡ done ++ x ∷ rest → I done s → f s x ≡ Ok t → I (done ++ x ∷ []) t)
    → (done xs : List A) (m : Linked S) (t : S) → all ≡ done ++ xs → ((s : S) → m ≡ Ok s → I done s) → fold (goes_on f) m xs ≡ Ok t → I all t
along {S} {A} f I all step done [] m t split here e = subst (λ (l : List A). I l t) (sym (split ∙ append-nil done)) (here t e)
along f I all step done (x ∷ xs) (Ok s) t split here e =
    along f I all step (done ++ x ∷ []) xs (f s x) t (split ∙ sym (append_assoc done (x ∷ []) xs)) (λ u h. step done x xs s u split (here s refl) h) e
along f I all step done (x ∷ xs) (Err r) t split here e = absurd (not_ok r t (sym (stays_refused f r xs) ∙ e))

pub goes_along :
    {S A : Type 0} (f : S → A → Linked S) (I : List A → S → Type 0) (all : List A)
    → ((done : List A) (x : A) (rest : List A) (s t : S) → all ≡ done ++ x ∷ rest → I done s → f s x ≡ Ok t → I (done ++ x ∷ []) t) → (s t : S) → I [] s → through f s all ≡ Ok t → I all t
goes_along {S} f I all step s t here e = along f I all step [] all (Ok s) t refl (λ u h. subst (λ (v : S). I [] v) (same_ok s u h) here) e

-- ---- names

new_name : (ns : List (List ℕ)) (n : List ℕ) (rest : List (List ℕ)) → AreDistinct (ns ++ n ∷ rest) → Contains ns n → ⊥
new_name [] n rest are has = none_in n has
new_name (m ∷ ns) n rest are has = ⊎_elim
    (λ (here : m ≡ n). are.0 (Contains-append_right ns (n ∷ rest) m (at_head n rest m (sym here))))
    (λ (there : Contains ns n). new_name ns n rest are.1 there)
    (head_or_tail m ns n has)

named_same : (a b : List ℕ) → a ≡ b → bytes_eq a b ≡ true
named_same a b same = (bytes_eq-Decides a b).1 same

any_has : {X : Type 0} (test : X → Bool) (xs : List X) (x : X) → Contains xs x → test x ≡ true → list_any test xs ≡ true
any_has test xs x (k, within, is) passes = list_any_at test xs k x within (ap test is ∙ passes)

-- what has no number isn't there
not_numbered : {X : Type 0} (test : X → Bool) (xs : List X) (x : X) → numbered test xs ≡ None → Contains xs x → test x ≡ true → ⊥
not_numbered {X} test xs x none has passes = by (position test xs) refl (position_tells test xs ∙ any_has test xs x has passes) none
  where
    at : (k : ℕ) → k < length xs → (o : Option X) → slice_get xs k ≡ o → option_map {U = ℕ × X} (λ (x : X). (k, x)) o ≡ None → ⊥
    at k within (Some y) is e = cc
    at k within None is e = past ((slice_get_cases xs k).1)
      where
        past : ((y : X) × (k < length xs) × (slice_get xs k ≡ Some y) × (get_or xs k y ≡ y)) ⊎ ((length xs ≤ k) × (slice_get xs k ≡ None)) → ⊥
        past (inl inside) = let f = sym is ∙ inside.2 in cc
        past (inr behind) = let b = behind.0 in omega (arith, within, b)

    by : (o : Option ℕ) → position test xs ≡ o → is_some o ≡ true → item_at xs o ≡ None → ⊥
    by (Some k) is some e = at k (position_at test xs k is).0 (slice_get xs k) refl e
    by None is some e = true≢false (sym some)

abbrev pub name_of : Net → List ℕ
name_of net = net.name

-- ---- a net that joins a grounded one

joined : (parts : Parts) (old net : Net) → IsDrawnNet parts old → IsDrawnNet parts net → IsDrawnNet parts (record old { items = old.items ++ net.items })
joined parts old net is has = record {
  drawn = record { items = All-append (IsDrawnItem parts) old.items net.items is.drawn.items has.drawn.items; points = is.drawn.points; vias = is.drawn.vias };
  rule = is.rule;
  conns = is.conns;
  few_conns = is.few_conns;
}

joined_all : (parts : Parts) (place : ℕ) (net : Net) (grounded : List Net) → All (IsDrawnNet parts) grounded → IsDrawnNet parts net → All (IsDrawnNet parts) (joined_at place net grounded)
joined_all parts place net grounded all is = by (slice_get grounded place) refl
  where
    by : (o : Option Net) → slice_get grounded place ≡ o → All (IsDrawnNet parts) (joined_at place net grounded)
    by (Some old) here =
        let has = subst (IsDrawnNet parts) (get_or_from_slice_get grounded place old old here) (all place old (slice_get_within grounded place old here)) in
        rw here (All-set (IsDrawnNet parts) grounded place (record old { items = old.items ++ net.items }) (joined parts old net has is) all)
    by None here = rw here all

joined_names : (place : ℕ) (net : Net) (grounded : List Net) → map name_of (joined_at place net grounded) ≡ map name_of grounded
joined_names place net grounded = by (slice_get grounded place) refl
  where
    by : (o : Option Net) → slice_get grounded place ≡ o → map name_of (joined_at place net grounded) ≡ map name_of grounded
    by (Some old) here =
        rw here (map-set_same name_of grounded place (record old { items = old.items ++ net.items }) old (ap name_of (sym (get_or_from_slice_get grounded place old old here))))
    by None here = rw here refl

-- ---- nets, one after another

abbrev IsOwnNet : Parts → Net → Type 0
IsOwnNet parts net = IsDrawnNet parts net × AreTied (wiring_of net)

-- the numbers of the parts are in range, where there aren't too many components and die pins
abbrev pub AreParts : Parts → Type 0
AreParts parts = length parts.comps ≤ 2 ^ 31 → length parts.ports ≤ 2 ^ 31 → IsParts parts

pub record SoFar (specials done : List RawNet) (s : Wired) : Type 0 where
  pub sound : AreSound s.parts
  pub ranges : AreParts s.parts
  pub nets : All (IsOwnNet s.parts) s.nets
  pub grounded : All (IsDrawnNet s.parts) s.grounded
  pub supplies : map name_of s.grounded ≡ map name_of_net specials
  pub known : (n : List ℕ) → Contains (map name_of s.nets) n → Contains (map name_of_net done) n
  pub distinct : AreDistinct (map name_of s.nets ++ map name_of_net specials)

more_known : (done : List RawNet) (x : RawNet) (n : List ℕ) → Contains (map name_of_net done) n → Contains (map name_of_net (done ++ x ∷ [])) n
more_known done x n has = subst (λ (l : List (List ℕ)). Contains l n) (sym (map-append name_of_net done (x ∷ []))) (Contains-append_left (map name_of_net done) (x.name ∷ []) n has)

now_known : (done : List RawNet) (x : RawNet) (n : List ℕ) → x.name ≡ n → Contains (map name_of_net (done ++ x ∷ [])) n
now_known done x n same = subst (λ (l : List (List ℕ)). Contains l n) (sym (map-append name_of_net done (x ∷ []))) (Contains-append_right (map name_of_net done) (x.name ∷ []) n (at_head x.name [] n same))

next_net :
    (specials raws : List RawNet) → AreDistinct (map name_of_net raws) → All (IsRawNet IsRegular) raws
    → (done : List RawNet) (x : RawNet) (rest : List RawNet) (s t : Wired) → raws ≡ done ++ x ∷ rest → SoFar specials done s → net_linked specials s x ≡ Ok t → SoFar specials (done ++ x ∷ []) t
unfolding net_linked
next_net specials raws distinct forms done x rest s t split so_far e = by (numbered (λ special. bytes_eq x.name special.name) specials) refl e
  where
    form : IsRawNet IsRegular x
    form = All-contains (IsRawNet IsRegular) raws x forms (subst (λ (l : List RawNet). Contains l x) (sym split) (Contains-append_right done (x ∷ rest) x (at_head x rest x refl)))

    all_names : map name_of_net raws ≡ map name_of_net done ++ x.name ∷ map name_of_net rest
    all_names = ap (map name_of_net) split ∙ map-append name_of_net done (x ∷ rest)

    is_new : Contains (map name_of_net done) x.name → ⊥
    is_new has = new_name (map name_of_net done) x.name (map name_of_net rest) (subst AreDistinct all_names distinct) has

    no_supply : numbered (λ (special : RawNet). bytes_eq x.name special.name) specials ≡ None → Contains (map name_of_net specials) x.name → ⊥
    no_supply none has =
        let (special, there, same) = in_map name_of_net specials x.name has in
        not_numbered (λ (special : RawNet). bytes_eq x.name special.name) specials special none there (named_same x.name special.name (sym same))

    added : numbered (λ (special : RawNet). bytes_eq x.name special.name) specials ≡ None → (net : Net) → IsOwn s.parts x.name net → SoFar specials (done ++ x ∷ []) (record s { nets = s.nets ++ net ∷ [] })
    added none net own = record {
      sound = so_far.sound;
      ranges = so_far.ranges;
      nets = All-push (IsOwnNet s.parts) s.nets net so_far.nets (own.drawn, own.tied);
      grounded = so_far.grounded;
      supplies = so_far.supplies;
      known = λ n has. ⊎_elim
          (λ (old : Contains (map name_of s.nets) n). more_known done x n (so_far.known n old))
          (λ (same : net.name ≡ n). now_known done x n (sym own.name_is ∙ same))
          (Contains-push_cases (map name_of s.nets) net.name n (subst (λ (l : List (List ℕ)). Contains l n) (map-append name_of s.nets (net ∷ [])) has));
      distinct = subst (λ (l : List (List ℕ)). AreDistinct (l ++ map name_of_net specials)) (sym (map-append name_of s.nets (net ∷ [])))
          (insert_distinct (map name_of s.nets) net.name (map name_of_net specials) so_far.distinct (λ has. ⊎_elim
          (λ (old : Contains (map name_of s.nets) net.name). is_new (subst (Contains (map name_of_net done)) own.name_is (so_far.known net.name old)))
          (λ (supply : Contains (map name_of_net specials) net.name). no_supply none (subst (Contains (map name_of_net specials)) own.name_is supply))
          (Contains-append_cases (map name_of s.nets) (map name_of_net specials) net.name has)));
    }

    by : (o : Option (ℕ × RawNet)) → numbered (λ (special : RawNet). bytes_eq x.name special.name) specials ≡ o → net_added o s x ≡ Ok t → SoFar specials (done ++ x ∷ []) t
    by None none e =
        let (net, linked, end) = bound (link_net s.parts x) (λ net. Ok (record s { nets = s.nets ++ net ∷ [] })) t e in
        subst (λ (w : Wired). SoFar specials (done ++ x ∷ []) w) (same_ok (record s { nets = s.nets ++ net ∷ [] }) t end) (added none net (net_is s.parts x net so_far.sound form linked))
    by (Some special) is e =
        let power = passed special.1.power (At E15 x.line) (link_net s.parts x >>= λ net. Ok (record s { grounded = joined_at special.0 net s.grounded })) t e in
        let (net, linked, end) = bound (link_net s.parts x) (λ net. Ok (record s { grounded = joined_at special.0 net s.grounded })) t power.1 in
        let own = net_is s.parts x net so_far.sound form linked in
        subst (λ (w : Wired). SoFar specials (done ++ x ∷ []) w) (same_ok (record s { grounded = joined_at special.0 net s.grounded }) t end) (record {
          sound = so_far.sound;
          ranges = so_far.ranges;
          nets = so_far.nets;
          grounded = joined_all s.parts special.0 net s.grounded so_far.grounded own.drawn;
          supplies = joined_names special.0 net s.grounded ∙ so_far.supplies;
          known = λ n has. more_known done x n (so_far.known n has);
          distinct = so_far.distinct;
        })

-- ---- special nets

supply_names : (parts : Parts) → AreSound parts → (raws : List RawNet) (nets : List Net) → All (IsRawNet IsSpecial) raws → HaveValues (link_special parts) raws nets → map name_of nets ≡ map name_of_net raws
supply_names parts sound [] [] forms have = refl
supply_names parts sound [] (net ∷ nets) forms have = absurd have
supply_names parts sound (raw ∷ raws) [] forms have = absurd have
supply_names parts sound (raw ∷ raws) (net ∷ nets) forms have =
    let here = (special_is parts raw net sound (All-head (IsRawNet IsSpecial) raw raws forms) have.0).name_is in
    let rest = supply_names parts sound raws nets (All-tail (IsRawNet IsSpecial) raw raws forms) have.1 in
    ap (λ (n : List ℕ). n ∷ map name_of nets) here ∙ ap (λ (l : List (List ℕ)). raw.name ∷ l) rest

pub nets_are :
    (parts : Parts) (specials raws : List RawNet) (grounded : List Net) (wired : Wired) → AreSound parts → AreParts parts → All (IsRawNet IsSpecial) specials → All (IsRawNet IsRegular) raws → NamesDiffer name_of_net specials → NamesDiffer name_of_net raws
    → each (link_special parts) specials ≡ Ok grounded → through (net_linked specials) (record { parts = parts; nets = []; grounded = grounded }) raws ≡ Ok wired → SoFar specials raws wired
nets_are parts specials raws grounded wired sound ranges supplies regular differ names e h =
    goes_along (net_linked specials) (SoFar specials) raws (next_net specials raws (names_distinct name_of_net raws names) regular) (record { parts = parts; nets = []; grounded = grounded }) wired
    (record {
      sound = sound;
      ranges = ranges;
      nets = All-nil (IsOwnNet parts);
      grounded = each_is (link_special parts) (IsRawNet IsSpecial) (IsDrawnNet parts) (λ x y form linked. (special_is parts x y sound form linked).drawn) specials grounded supplies e;
      supplies = supply_names parts sound specials grounded supplies (have_values (link_special parts) specials grounded e);
      known = λ n has. absurd (none_in n has);
      distinct = names_distinct name_of_net specials differ;
    }) h

-- ---- the limits

pub record IsWithin (wired : Wired) : Type 0 where
  pub few_nets : length wired.nets + length wired.grounded ≤ 2 ^ 20
  pub few_comps : length wired.parts.comps ≤ 2 ^ 20
  pub few_ports : length wired.parts.ports ≤ 2 ^ 20
  pub few_shapes : shape_count wired.nets + shape_count wired.grounded ≤ 2 ^ 22

pub limits_are : (wired after : Wired) → within_limits wired ≡ Ok after → IsWithin wired × (wired ≡ after)
unfolding within_limits
limits_are wired after e =
    let nets = passed _ _ _ _ e in
    let comps = passed _ _ _ _ nets.1 in
    let ports = passed _ _ _ _ comps.1 in
    let shapes = passed _ _ _ _ ports.1 in
    (record { few_nets = nat_le_tells _ _ nets.0; few_comps = nat_le_tells _ _ comps.0; few_ports = nat_le_tells _ _ ports.0; few_shapes = nat_le_tells _ _ shapes.0 }, same_ok wired after shapes.1)

few_items : (nets : List Net) (others limit : ℕ) → shape_count nets + others ≤ limit → All (λ net. length net.items ≤ limit) nets
few_items nets others limit few = λ k d within. let own = had nets k (get_or nets k d) within (slice_get-get_or nets k d within) in omega (arith, few, own)

pub layout_is : (specials raws : List RawNet) (wired : Wired) → SoFar specials raws wired → IsWithin wired → IsLayout wired
layout_is specials raws wired so_far within = record {
  parts = (let comps = within.few_comps in let ports = within.few_ports in so_far.ranges (omega (arith, comps)) (omega (arith, ports)));
  sound = so_far.sound;
  nets = λ k d lt. belongs wired.parts (get_or wired.nets k d) (so_far.nets k d lt).0 (own k d lt);
  tied = λ k d lt. tied wired.parts (get_or wired.nets k d) (so_far.nets k d lt).0 (so_far.nets k d lt).1 (own k d lt);
  grounded = λ k d lt. belongs wired.parts (get_or wired.grounded k d) (so_far.grounded k d lt) (others k d lt);
  names = names_differ name_of (wired.nets ++ wired.grounded)
      (subst AreDistinct (ap (λ (l : List (List ℕ)). map name_of wired.nets ++ l) (sym so_far.supplies) ∙ sym (map-append name_of wired.nets wired.grounded)) so_far.distinct);
  few_nets = within.few_nets;
  few_comps = within.few_comps;
  few_ports = within.few_ports;
  few_shapes = within.few_shapes;
}
  where
    own : All (λ net. length net.items ≤ 2 ^ 22) wired.nets
    own = few_items wired.nets (shape_count wired.grounded) (2 ^ 22) within.few_shapes

    others : All (λ net. length net.items ≤ 2 ^ 22) wired.grounded
    others = let few = within.few_shapes in few_items wired.grounded (shape_count wired.nets) (2 ^ 22) (omega (arith, few))
