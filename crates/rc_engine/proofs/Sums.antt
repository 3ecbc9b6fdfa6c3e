-- The sums of a net, as they come, are its capacitances.
use Rattle.std.proofs.Common.{◌≡◌, ◌<◌, ℕ, Bool, true, false, cond, List, [], ◌∷◌, ◌++◌, map, length, get_or, refl, ap, sym, ◌∙◌, subst, arith}
use Rattle.std.specs.Prelude.{All, AllPairs, Some, None, filter}
use Rattle.std.specs.List.{flat_map, filter_map, cons_option}
use Rattle.std.specs.List.Sorted.{IsStrictlySortedBy}
use Rattle.std.specs.declared.cmp.Ordering.TheVariants.{Less}
use Rattle.std.proofs.lemmas.List.{get_or-map, map-append, length-map}
use Rattle.std.proofs.lemmas.List.Elements.{filter-append, All-head, All-tail}
use Rattle.rc_fixed.proofs.Members.{filter_has, in_filter}
use Rattle.rc_fixed.proofs.Rising.{same_sorted, sorted_from_pairs}
use Rattle.rc_geom.specs.declared.key.Key.{Key}
use Rattle.rc_tally.specs.declared.entry.Entry.{Entry}
use Rattle.rc_tally.specs.Tallies.{key_order, IsRising}
use Rattle.rc_tally.proofs.Orders.{key_total}
use Rattle.rc_rules.specs.RuleFile.{RuleFile}
use Rattle.rc_layout.specs.declared.net.Net.{Net}
use Rattle.rc_layout.specs.Layouts.{Wired}
use Rattle.rc_spef.specs.declared.value.Cap.{Cap}
use Rattle.rc_engine.specs.Extraction.{value_of, own_nodes, other_nodes, couplings, net_caps}
use Rattle.rc_engine.specs.OwnEntries.{ground_key, own_pair, own_keys, turned, is_present, cap_with, entry_cap, EntriesAreCaps}
use Rattle.rc_engine.proofs.Rises.{rises_filter, sorted_from_rises}
use Rattle.rc_engine.proofs.Keys.{own_keys_rise}

-- ---- the definition, by keys

abbrev pub key_cap : Wired → RuleFile → Key → Cap
key_cap wired rules key = cap_with key (value_of wired rules (turned key))

-- what is made of those of the keys that pass
made : {X K C : Type 0} (key : X → K) (passes : K → Bool) (make : K → C) (xs : List X) →
    filter_map (λ x. cond (passes (key x)) (Some (make (key x))) None) xs ≡ map make (filter passes (map key xs))
made key passes make [] = refl
made {X} {K} {C} key passes make (x ∷ xs) =
    let rest : List C = filter_map (λ x. cond (passes (key x)) (Some (make (key x))) None) xs in
    elim (passes (key x)) as (λ b. cons_option (cond b (Some (make (key x))) None) rest ≡ map make (cond b (key x ∷ filter passes (map key xs)) (filter passes (map key xs)))) [
      | true ↦ ap (λ (cs : List C). make (key x) ∷ cs) (made key passes make xs)
      | false ↦ made key passes make xs
    ]

made_lists : {X K C : Type 0} (lists : X → List C) (keys : X → List K) (passes : K → Bool) (make : K → C) → ((x : X) → lists x ≡ map make (filter passes (keys x))) → (xs : List X) →
    flat_map lists xs ≡ map make (filter passes (flat_map keys xs))
made_lists lists keys passes make each [] = refl
made_lists {X} {K} {C} lists keys passes make each (x ∷ xs) =
    ap (λ (cs : List C). cs ++ flat_map lists xs) (each x)
    ∙ ap (λ (cs : List C). map make (filter passes (keys x)) ++ cs) (made_lists lists keys passes make each xs)
    ∙ sym (ap (map make) (filter-append passes (keys x) (flat_map keys xs)) ∙ map-append make (filter passes (keys x)) (filter passes (flat_map keys xs)))

pub caps_by_keys : (wired : Wired) (rules : RuleFile) (net : ℕ × Net) → net_caps wired rules net ≡ map (key_cap wired rules) (filter (is_present wired rules) (own_keys wired net))
unfolding net_caps own_keys
caps_by_keys wired rules net =
    let grounds = made ground_key (is_present wired rules) (key_cap wired rules) (own_nodes net) in
    let pairs = made_lists (λ a. filter_map (λ b. cond (is_present wired rules (own_pair a b)) (Some (key_cap wired rules (own_pair a b))) None) (other_nodes wired net.0)) (λ a. map (own_pair a) (other_nodes wired net.0)) (is_present wired rules) (key_cap wired rules) (λ a. made (own_pair a) (is_present wired rules) (key_cap wired rules) (other_nodes wired net.0)) (own_nodes net) in
    ap (λ (cs : List Cap). cs ++ couplings wired rules net) grounds
    ∙ ap (λ (cs : List Cap). map (key_cap wired rules) (filter (is_present wired rules) (map ground_key (own_nodes net))) ++ cs) pairs
    ∙ sym (ap (map (key_cap wired rules)) (filter-append (is_present wired rules) (map ground_key (own_nodes net)) (flat_map (λ a. map (own_pair a) (other_nodes wired net.0)) (own_nodes net)))
    ∙ map-append (key_cap wired rules) (filter (is_present wired rules) (map ground_key (own_nodes net))) (filter (is_present wired rules) (flat_map (λ a. map (own_pair a) (other_nodes wired net.0)) (own_nodes net))))

-- ---- the entries

abbrev key_of : Entry ℕ → Key
key_of e = e.key

keys_sorted : (entries : List (Entry ℕ)) → IsRising entries → IsStrictlySortedBy key_order (map key_of entries)
keys_sorted entries rising = sorted_from_pairs key_order (map key_of entries) pairs
  where
    none : Key → Entry ℕ
    none key = record { key = key; count = 0; value = 0 }

    long : length (map key_of entries) ≡ length entries
    long = length-map entries key_of

    pairs : AllPairs (λ x y. key_order x y ≡ Less) (map key_of entries)
    pairs i j d less within =
        let far : j < length entries = subst (λ (n : ℕ). j < n) long within in
        let near : i < length entries = omega (arith, less, far) in
        subst (λ k. key_order k (get_or (map key_of entries) j d) ≡ Less) (sym (get_or-map key_of entries i (none d) d near))
        (subst (λ k. key_order (get_or entries i (none d)).key k ≡ Less) (sym (get_or-map key_of entries j (none d) d far)) (rising i j (none d) less far))

caps_by_values : (wired : Wired) (rules : RuleFile) (entries : List (Entry ℕ)) → All (λ e. e.value ≡ value_of wired rules (turned e.key)) entries →
    map entry_cap entries ≡ map (key_cap wired rules) (map key_of entries)
caps_by_values wired rules [] values = refl
caps_by_values wired rules (e ∷ es) values =
    ap (λ value. cap_with e.key value ∷ map entry_cap es) (All-head (λ (e : Entry ℕ). e.value ≡ value_of wired rules (turned e.key)) e es values)
    ∙ ap (λ (cs : List Cap). key_cap wired rules e.key ∷ cs) (caps_by_values wired rules es (All-tail (λ (e : Entry ℕ). e.value ≡ value_of wired rules (turned e.key)) e es values))

pub entries_are_caps : EntriesAreCaps
entries_are_caps wired rules net entries own =
    let keys : map key_of entries ≡ filter (is_present wired rules) (own_keys wired net) =
    same_sorted key_total (map key_of entries) (filter (is_present wired rules) (own_keys wired net)) (keys_sorted entries own.rising)
    (sorted_from_rises key_order (filter (is_present wired rules) (own_keys wired net)) (rises_filter (λ p q. key_order p q ≡ Less) (is_present wired rules) (own_keys wired net) (own_keys_rise wired net)))
    (λ key there. let has = own.present key there in filter_has (is_present wired rules) (own_keys wired net) key has.0 has.1)
    (λ key there. let tells = in_filter (is_present wired rules) (own_keys wired net) key there in own.all key tells.0 tells.1) in
    caps_by_values wired rules entries own.values ∙ ap (map (key_cap wired rules)) keys ∙ sym (caps_by_keys wired rules net)
