-- Each extraction is balanced.
use Rattle.std.proofs.Common.{◌≡◌, ◌≢◌, ◌∙◌, ℕ, ◌+◌, ◌<◌, ◌≤◌, Bool, true, false, List, map, filter, refl, ap, sym, subst, arith}
use Rattle.std.specs.Prelude.{◌==◌, ◌&&◌, not, nat_lt, Contains, count_by}
use Rattle.std.specs.List.{AllByRecursion}
use Rattle.std.proofs.lemmas.Bool.{ne_eqb, eq-eqb, eqb-true}
use Rattle.rc_fixed.proofs.Members.{filter_has, in_filter, in_map, flat_map_has, in_flat_map}
use Rattle.rc_geom.specs.declared.key.Key.{Key}
use Rattle.rc_geom.specs.Plane.{Metal}
use Rattle.rc_geom.specs.Parts.{pair_key}
use Rattle.rc_geom.proofs.KeyTests.{shares_are_mutual}
use Rattle.rc_rules.specs.RuleFile.{RuleFile}
use Rattle.rc_layout.specs.declared.net.Net.{Net}
use Rattle.rc_layout.specs.Layouts.{Wired}
use Rattle.rc_spef.specs.declared.value.DNet.{DNet}
use Rattle.rc_spef.specs.Balance.{Coupling, couplings, total_of, leads, is_turned, is_partner, has_name, IsPaired, IsBalancedNet}
use Rattle.rc_spef.proofs.Balancing.{leads_itself}
use Rattle.rc_spef.proofs.Members.{In, each, counted, fewer}
use Rattle.rc_engine.specs.Names.{net_name}
use Rattle.rc_engine.specs.Extraction.{value_of, count_of, own_nodes, other_nodes, numbered_nets, net_value, extraction}
use Rattle.rc_engine.specs.OwnEntries.{own_pair, is_present}
use Rattle.rc_engine.proofs.Rises.{numbers_rise}
use Rattle.rc_engine.proofs.Keys.{own_net}
use Rattle.rc_balance.specs.BalanceLaw.{ExtractionsAreBalanced}
use Rattle.rc_balance.proofs.Counts.{contained, inside, few, one_of, count_map}
use Rattle.rc_balance.proofs.Couplings.{coupling_at, IsCoupled, coupled, couples, few_lead}

-- ---- nets

abbrev values_of : Wired → RuleFile → List DNet
values_of wired rules = map (net_value wired rules) (numbered_nets wired)

name_is : (wired : Wired) (rules : RuleFile) (net : ℕ × Net) → (net_value wired rules net).name ≡ net_name net.0
unfolding net_value
name_is wired rules net = refl

-- what holds of the value of each net
each_value : (P : DNet → Type 0) (wired : Wired) (rules : RuleFile) → ((net : ℕ × Net) → Contains (numbered_nets wired) net → P (net_value wired rules net)) → AllByRecursion P (values_of wired rules)
each_value P wired rules holds = each P (values_of wired rules) (λ value there.
    let found = in_map (net_value wired rules) (numbered_nets wired) value (contained (values_of wired rules) value there) in
    subst P found.2 (holds found.0 found.1))

abbrev is_named : Wired → RuleFile → ℕ → ℕ × Net → Bool
is_named wired rules name net = has_name name (net_value wired rules net)

named_is : (wired : Wired) (rules : RuleFile) (number : ℕ) (net : ℕ × Net) → is_named wired rules (net_name number) net ≡ true → net.0 ≡ number
named_is wired rules number net is =
    let name : (net_value wired rules net).name ≡ number + 1 = eqb-true (net_value wired rules net).name (number + 1) is in
    let own : (net_value wired rules net).name ≡ net.0 + 1 = name_is wired rules net in
    omega (arith, name, own)

-- one net alone has the name of a net
name_once : (wired : Wired) (rules : RuleFile) (net : ℕ × Net) → Contains (numbered_nets wired) net → count_by (has_name (net_name net.0)) (values_of wired rules) ≡ 1
name_once wired rules net has =
    let test : ℕ × Net → Bool = is_named wired rules (net_name net.0) in
    let count : count_by (has_name (net_name net.0)) (values_of wired rules) ≡ count_by test (numbered_nets wired) = count_map (net_value wired rules) (has_name (net_name net.0)) (numbered_nets wired) in
    let most : count_by test (numbered_nets wired) ≤ 1 =
    few (λ (m n : ℕ × Net). m.0 < n.0) test (numbered_nets wired) (λ m n first second less. let a = named_is wired rules net.0 m first in let b = named_is wired rules net.0 n second in absurd (omega (arith, a, b, less))) (numbers_rise 0 wired.nets) in
    let least : 1 ≤ count_by test (numbered_nets wired) = counted test (numbered_nets wired) net (inside (numbered_nets wired) net has) (eq-eqb (net_value wired rules net).name (net_name net.0) (name_is wired rules net)) in
    omega (arith, count, most, least)

same_net : (wired : Wired) (m n : ℕ × Net) → Contains (numbered_nets wired) m → Contains (numbered_nets wired) n → m.0 ≡ n.0 → m ≡ n
same_net wired m n of_m of_n same =
    one_of (λ (x y : ℕ × Net). x.0 < y.0) (numbered_nets wired) m n (numbers_rise 0 wired.nets) (λ less. absurd (omega (arith, same, less))) (λ less. absurd (omega (arith, same, less))) of_m of_n

-- ---- a coupling from both sides

and_both : (a b : Bool) → a ≡ true → b ≡ true → (a && b) ≡ true
and_both a b first second = rw (first, second) refl

not_equal : (m n : ℕ) → m ≢ n → not (m == n) ≡ true
not_equal m n apart = rw (ne_eqb m n apart) refl

apart_from : (m n : ℕ) → not (m == n) ≡ true → m ≢ n
apart_from m n is same = let e : (m == n) ≡ true = eq-eqb m n same in let f : false ≡ true = ap not (sym e) ∙ is in absurd cc

turned_itself : (wired : Wired) (rules : RuleFile) (a b : Metal) → is_turned (coupling_at wired rules a b) (coupling_at wired rules b a) ≡ true
turned_itself wired rules a b = leads_itself (coupling_at wired rules b a)

key_turned : (a b : Metal) → a.0 ≢ b.0 → pair_key a b ≡ pair_key b a
key_turned a b apart = (shares_are_mutual a b apart).0

are_partners : (wired : Wired) (rules : RuleFile) (a b : Metal) → a.0 ≢ b.0 → is_partner (coupling_at wired rules a b) (coupling_at wired rules b a) ≡ true
are_partners wired rules a b apart =
    and_both (is_turned (coupling_at wired rules a b) (coupling_at wired rules b a)) (value_of wired rules (pair_key b a) == value_of wired rules (pair_key a b)) (turned_itself wired rules a b)
    (eq-eqb (value_of wired rules (pair_key b a)) (value_of wired rules (pair_key a b)) (ap (value_of wired rules) (sym (key_turned a b apart))))

-- a node of a net is one of another net for each other one
is_other : (wired : Wired) (net : ℕ × Net) (number : ℕ) (a : Metal) → Contains (numbered_nets wired) net → Contains (own_nodes net) a → net.0 ≢ number → Contains (other_nodes wired number) a
is_other wired net number a has own apart =
    let test : ℕ × Net → Bool = λ numbered. not (numbered.0 == number) in
    flat_map_has own_nodes (filter test (numbered_nets wired)) net a (filter_has test (numbered_nets wired) net has (not_equal net.0 number apart)) own

-- the other net of a coupling
record IsOther (wired : Wired) (number : ℕ) (b : Metal) : Type 0 where
  other : ℕ × Net
  has : Contains (numbered_nets wired) other
  own : Contains (own_nodes other) b
  apart : other.0 ≢ number
  number_is : other.0 ≡ b.0

other_of : (wired : Wired) (number : ℕ) (b : Metal) → Contains (other_nodes wired number) b → IsOther wired number b
other_of wired number b there =
    let test : ℕ × Net → Bool = λ numbered. not (numbered.0 == number) in
    let found = in_flat_map own_nodes (filter test (numbered_nets wired)) b there in
    let kept = in_filter test (numbered_nets wired) found.0 found.1 in
    record { other = found.0; has = kept.0; own = found.2; apart = apart_from found.0.0 number kept.1; number_is = own_net found.0 b found.2 }

-- it stands the other way round in the other net
back : (wired : Wired) (rules : RuleFile) (net other : ℕ × Net) (a b : Metal) → Contains (numbered_nets wired) net → Contains (own_nodes net) a → Contains (own_nodes other) b → net.0 ≢ other.0 → is_present wired rules (own_pair a b) ≡ true → In (couplings (net_value wired rules other)) (coupling_at wired rules b a)
back wired rules net other a b has own there apart present =
    let of_a : net.0 ≡ a.0 = own_net net a own in
    let of_b : other.0 ≡ b.0 = own_net other b there in
    let keys : pair_key a b ≡ pair_key b a = key_turned a b (λ same. apart (of_a ∙ same ∙ sym of_b)) in
    couples wired rules other b a there (is_other wired net other.0 a has own apart) (subst (λ (key : Key). nat_lt 0 (count_of wired rules key) ≡ true) keys present)

first_holds : (p q : Bool) → (p && q) ≡ true → p ≡ true
first_holds true q is = refl
first_holds false q is = absurd cc

-- a node of a net and one of another net that share something
module _ (wired : Wired) (rules : RuleFile) (net : ℕ × Net) (a b : Metal) (has : Contains (numbered_nets wired) net) (own : Contains (own_nodes net) a) (there : Contains (other_nodes wired net.0) b) (present : is_present wired rules (own_pair a b) ≡ true) where
  ends_differ : a.0 ≢ b.0
  ends_differ same = (other_of wired net.0 b there).apart ((other_of wired net.0 b there).number_is ∙ sym same ∙ sym (own_net net a own))

  -- in each net of the other name
  in_other : (n : ℕ × Net) → Contains (numbered_nets wired) n → (net_value wired rules n).name ≡ net_name b.0 → In (couplings (net_value wired rules n)) (coupling_at wired rules b a)
  in_other n of_n name =
      let o : IsOther wired net.0 b = other_of wired net.0 b there in
      let own_name : (net_value wired rules n).name ≡ n.0 + 1 = name_is wired rules n in
      let of_b : o.other.0 ≡ b.0 = o.number_is in
      let number : o.other.0 ≡ n.0 = omega (arith, name, own_name, of_b) in
      subst (λ (m : ℕ × Net). In (couplings (net_value wired rules m)) (coupling_at wired rules b a)) (same_net wired o.other n o.has of_n number)
      (back wired rules net o.other a b has own o.own (λ same. o.apart (sym same)) present)

  turned_once : (n : ℕ × Net) → Contains (numbered_nets wired) n → (net_value wired rules n).name ≡ net_name b.0 → count_by (is_turned (coupling_at wired rules a b)) (couplings (net_value wired rules n)) ≡ 1
  turned_once n of_n name =
      let c : Coupling = coupling_at wired rules a b in
      let least : 1 ≤ count_by (is_turned c) (couplings (net_value wired rules n)) = counted (is_turned c) (couplings (net_value wired rules n)) (coupling_at wired rules b a) (in_other n of_n name) (turned_itself wired rules a b) in
      let most : count_by (is_turned c) (couplings (net_value wired rules n)) ≤ 1 = few_lead wired rules n c.to c.from in
      omega (arith, least, most)

  partner_once : (n : ℕ × Net) → Contains (numbered_nets wired) n → (net_value wired rules n).name ≡ net_name b.0 → count_by (is_partner (coupling_at wired rules a b)) (couplings (net_value wired rules n)) ≡ 1
  partner_once n of_n name =
      let c : Coupling = coupling_at wired rules a b in
      let least : 1 ≤ count_by (is_partner c) (couplings (net_value wired rules n)) = counted (is_partner c) (couplings (net_value wired rules n)) (coupling_at wired rules b a) (in_other n of_n name) (are_partners wired rules a b ends_differ) in
      let most : count_by (is_partner c) (couplings (net_value wired rules n)) ≤ count_by (is_turned c) (couplings (net_value wired rules n)) = fewer (is_partner c) (is_turned c) (couplings (net_value wired rules n)) (λ e is. first_holds (is_turned c e) (e.value == c.value) is) in
      let once : count_by (is_turned c) (couplings (net_value wired rules n)) ≡ 1 = turned_once n of_n name in
      omega (arith, least, most, once)

  alone_once : count_by (leads (coupling_at wired rules a b).from (coupling_at wired rules a b).to) (couplings (net_value wired rules net)) ≡ 1
  alone_once =
      let c : Coupling = coupling_at wired rules a b in
      let least : 1 ≤ count_by (leads c.from c.to) (couplings (net_value wired rules net)) = counted (leads c.from c.to) (couplings (net_value wired rules net)) c (couples wired rules net a b own there present) (leads_itself c) in
      let most : count_by (leads c.from c.to) (couplings (net_value wired rules net)) ≤ 1 = few_lead wired rules net c.from c.to in
      omega (arith, least, most)

  paired_at : IsPaired (values_of wired rules) (net_value wired rules net) (coupling_at wired rules a b)
  paired_at =
      let o : IsOther wired net.0 b = other_of wired net.0 b there in
      let of_a : net.0 ≡ a.0 = own_net net a own in
      let own_name : (net_value wired rules net).name ≡ net.0 + 1 = name_is wired rules net in
      record {
        own = ap net_name (sym of_a) ∙ sym own_name;
        other = λ same. ends_differ (let e : b.0 + 1 ≡ net.0 + 1 = same ∙ own_name in omega (arith, e, of_a));
        one = subst (λ (n : ℕ). count_by (has_name (net_name n)) (values_of wired rules) ≡ 1) o.number_is (name_once wired rules o.other o.has);
        turned = each_value (λ (value : DNet). value.name ≡ net_name b.0 → count_by (is_turned (coupling_at wired rules a b)) (couplings value) ≡ 1) wired rules turned_once;
        partner = each_value (λ (value : DNet). value.name ≡ net_name b.0 → count_by (is_partner (coupling_at wired rules a b)) (couplings value) ≡ 1) wired rules partner_once;
        alone = alone_once;
      }

paired : (wired : Wired) (rules : RuleFile) (net : ℕ × Net) → Contains (numbered_nets wired) net → (coupling : Coupling) → In (couplings (net_value wired rules net)) coupling → IsPaired (values_of wired rules) (net_value wired rules net) coupling
paired wired rules net has coupling there =
    let is : IsCoupled wired rules net coupling = coupled wired rules net coupling there in
    subst (λ (c : Coupling). IsPaired (values_of wired rules) (net_value wired rules net) c) is.is (paired_at wired rules net is.a is.b has is.own is.there is.present)

-- ---- all together

total_is : (wired : Wired) (rules : RuleFile) (net : ℕ × Net) → (net_value wired rules net).total.0 ≡ total_of (net_value wired rules net)
unfolding net_value
total_is wired rules net = refl

balanced_net : (wired : Wired) (rules : RuleFile) (net : ℕ × Net) → Contains (numbered_nets wired) net → IsBalancedNet (values_of wired rules) (net_value wired rules net)
balanced_net wired rules net has = record { total = total_is wired rules net; paired = each (IsPaired (values_of wired rules) (net_value wired rules net)) (couplings (net_value wired rules net)) (paired wired rules net has) }

pub extractions_are_balanced : ExtractionsAreBalanced
unfolding extraction
extractions_are_balanced wired rules = each_value (IsBalancedNet (values_of wired rules)) wired rules (balanced_net wired rules)
