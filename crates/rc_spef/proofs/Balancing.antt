-- The tests tell that a value is balanced.
use Rattle.std.proofs.Common.{◌≡◌, ◌≢◌, ◌∙◌, ℕ, suc, ◌≤◌, Bool, true, false, cond, List, [], ◌∷◌, length, refl, ap, sym, inl, arith}
use Rattle.std.specs.Prelude.{◌==◌, ◌&&◌, ◌||◌, not, ◌↔◌, Result, Ok, Err, IfOk, IsTrue, sum_by, count_by}
use Rattle.std.specs.List.{list_all, AllByRecursion}
use Rattle.std.proofs.lemmas.Bool.{ne_eqb, eq-eqb, eqb-true}
use Rattle.rc_spef.specs.declared.value.DNet.{DNet}
use Rattle.rc_spef.specs.declared.value.End.{End}
use Rattle.rc_spef.specs.declared.value.Spef.{Spef}
use Rattle.rc_spef.specs.Balance.{Coupling, couplings, is_end, leads, is_turned, is_partner, has_name, total_of, IsPaired, IsBalancedNet, IsBalanced}
use Rattle.rc_spef.specs.BalanceTests.{has_total, leads_out, all_lead_out, is_single, is_once, has_partner, all_couplings, are_balanced}
use Rattle.rc_spef.specs.SameTests.{same_sub}
use Rattle.rc_spef.proofs.Alike.{sub_decides}
use Rattle.rc_spef.proofs.Members.{In, each, of_each, passes, all_pass, some_passes, any_passes, some_counted, part, counted, none_counted, fewer, sum_flat, only_one, in_flat, from_flat}

two : (a b : Bool) → (a && b) ≡ true → (a ≡ true) × (b ≡ true)
two true true is = (refl, refl)
two true false is = absurd cc
two false b is = absurd cc

-- ---- ends

end_is : (a b : End) → is_end a b ≡ true → a ≡ b
end_is a b is =
    let t = two (a.name == b.name) (same_sub a.sub b.sub) is in
    let name : a.name ≡ b.name = eqb-true a.name b.name t.0 in
    let sub : a.sub ≡ b.sub = (sub_decides a.sub b.sub).0 t.1 in
    λ i. record { name = name i; sub = sub i }

end_same : (a : End) → is_end a a ≡ true
end_same a = rw (eq-eqb a.name a.name refl, (sub_decides a.sub a.sub).1 refl) refl

pub leads_is : (from to : End) (c : Coupling) → leads from to c ≡ true → (from ≡ c.from) × (to ≡ c.to)
unfolding leads
leads_is from to c is = let t = two (is_end from c.from) (is_end to c.to) is in (end_is from c.from t.0, end_is to c.to t.1)

pub leads_itself : (c : Coupling) → leads c.from c.to c ≡ true
unfolding leads
leads_itself c = rw (end_same c.from, end_same c.to) refl

turned_back : (c d : Coupling) → is_partner c d ≡ true → (c.to ≡ d.from) × (c.from ≡ d.to) × (is_turned c d ≡ true)
turned_back c d is = let t = two (is_turned c d) (d.value == c.value) is in let e = leads_is c.to c.from d t.0 in (e.0, e.1, t.0)

-- ---- where all tests pass

module _ (nets : List DNet) (out : list_all all_lead_out nets ≡ true) where
  out_of : (net : DNet) → In nets net → (c : Coupling) → In (couplings net) c → (c.from.name ≡ net.name) × (c.to.name ≢ net.name)
  unfolding all_lead_out
  out_of net there c inside =
      let t = two (c.from.name == net.name) (not (c.to.name == net.name)) (passes (leads_out net.name) (couplings net) c (passes all_lead_out nets net out there) inside) in
      (eqb-true c.from.name net.name t.0, λ e. (let s : (c.to.name == net.name) ≡ true = eq-eqb c.to.name net.name e in let f : not (c.to.name == net.name) ≡ false = rw s refl in let g : false ≡ true = sym f ∙ t.1 in cc))

  -- couplings from an end lie in the nets of that name
  elsewhere : (test : Coupling → Bool) (from : End) → ((d : Coupling) → test d ≡ true → from ≡ d.from) → (net : DNet) → In nets net → has_name from.name net ≡ false → count_by test (couplings net) ≡ 0
  elsewhere test from begins net there other = none_counted test (couplings net) (λ d inside. by d inside (test d) refl)
    where
      by : (d : Coupling) → In (couplings net) d → (b : Bool) → test d ≡ b → b ≡ false
      by d inside false is = refl
      by d inside true is =
          let name : net.name ≡ from.name = sym (out_of net there d inside).0 ∙ ap (λ (e : End). e.name) (sym (begins d is)) in
          let s : has_name from.name net ≡ true = eq-eqb net.name from.name name in absurd (let e : false ≡ true = sym other ∙ s in cc)

  -- so where one net alone has the name they all lie there
  all_there : (test : Coupling → Bool) (from : End) → ((d : Coupling) → test d ≡ true → from ≡ d.from) → (net : DNet) → In nets net → net.name ≡ from.name → count_by (has_name from.name) nets ≡ 1 →
      count_by test (all_couplings nets) ≡ count_by test (couplings net)
  unfolding all_couplings
  all_there test from begins net there name one =
      sum_flat (λ d. cond (test d) 1 0) couplings nets
      ∙ only_one (has_name from.name) (λ x. count_by test (couplings x)) nets net there (eq-eqb net.name from.name name) one (λ other in_nets not_named. elsewhere test from begins other in_nets not_named)

module _ (nets : List DNet) (out : list_all all_lead_out nets ≡ true) (single : list_all (is_single nets) nets ≡ true) (once : list_all (is_once (all_couplings nets)) (all_couplings nets) ≡ true)
    (partners : list_all (has_partner (all_couplings nets)) (all_couplings nets) ≡ true) where
  all_once : (c : Coupling) → In (all_couplings nets) c → count_by (leads c.from c.to) (all_couplings nets) ≡ 1
  all_once c there = eqb-true (count_by (leads c.from c.to) (all_couplings nets)) 1 (passes (is_once (all_couplings nets)) (all_couplings nets) c once there)

  name_alone : (net : DNet) → In nets net → (c : Coupling) → In (couplings net) c → count_by (has_name net.name) nets ≡ 1
  unfolding is_single
  name_alone net there c inside = by (couplings net) inside (passes (is_single nets) nets net single there)
    where
      by : (cs : List Coupling) → In cs c → ((length cs == 0) || (count_by (has_name net.name) nets == 1)) ≡ true → count_by (has_name net.name) nets ≡ 1
      by [] none is = absurd none
      by (d ∷ ds) some is =
          let n : ℕ = length ds in let more : (suc n == 0) ≡ false = ne_eqb (suc n) 0 (λ e. omega arith) in
          eqb-true (count_by (has_name net.name) nets) 1 (rw more at is)

  paired : (net : DNet) → In nets net → (c : Coupling) → In (couplings net) c → IsPaired nets net c
  unfolding all_couplings
  paired net there c inside =
      let all : List Coupling = all_couplings nets in
      let in_all : In all c = in_flat couplings nets net c there inside in
      let leads_away = out_of nets out net there c inside in
      let found = some_passes (is_partner c) all (passes (has_partner all) all c partners in_all) in
      let d : Coupling = found.0 in
      let back = turned_back c d found.2 in
      let home = from_flat couplings nets d found.1 in
      let k : DNet = home.0 in
      let named : k.name ≡ c.to.name = sym (out_of nets out k home.1 d home.2).0 ∙ ap (λ (e : End). e.name) (sym back.0) in
      let alone_named : count_by (has_name c.to.name) nets ≡ 1 = ap (λ n. count_by (has_name n) nets) (sym named) ∙ name_alone k home.1 d home.2 in
      let turned_once : count_by (is_turned c) all ≡ 1 = ap (λ (e : End). count_by (leads e c.from) all) back.0 ∙ ap (λ (e : End). count_by (leads d.from e) all) back.1 ∙ all_once d found.1 in
      let partner_some : 1 ≤ count_by (is_partner c) all = counted (is_partner c) all d found.1 found.2 in
      let partner_few : count_by (is_partner c) all ≤ count_by (is_turned c) all = fewer (is_partner c) (is_turned c) all (λ e is. (two (is_turned c e) (e.value == c.value) is).0) in
      let partner_once : count_by (is_partner c) all ≡ 1 = omega arith in
      let own_some : 1 ≤ count_by (leads c.from c.to) (couplings net) = counted (leads c.from c.to) (couplings net) c inside (leads_itself c) in
      let own_few : count_by (leads c.from c.to) (couplings net) ≤ sum_by (λ x. count_by (leads c.from c.to) (couplings x)) nets = part (λ x. count_by (leads c.from c.to) (couplings x)) nets net there in
      let sum_is : count_by (leads c.from c.to) all ≡ sum_by (λ x. count_by (leads c.from c.to) (couplings x)) nets = sum_flat (λ e. cond (leads c.from c.to e) 1 0) couplings nets in
      let whole : count_by (leads c.from c.to) all ≡ 1 = all_once c in_all in
      record {
        own = leads_away.0;
        other = leads_away.1;
        one = alone_named;
        turned = each (λ (x : DNet). x.name ≡ c.to.name → count_by (is_turned c) (couplings x) ≡ 1) nets (λ x in_nets name. sym (all_there nets out (is_turned c) c.to (λ e is. (leads_is c.to c.from e is).0) x in_nets name alone_named) ∙ turned_once);
        partner = each (λ (x : DNet). x.name ≡ c.to.name → count_by (is_partner c) (couplings x) ≡ 1) nets (λ x in_nets name. sym (all_there nets out (is_partner c) c.to (λ e is. (turned_back c e is).0) x in_nets name alone_named) ∙ partner_once);
        alone = omega arith;
      }

-- ---- where the value is balanced

module _ (nets : List DNet) (balanced : AllByRecursion (IsBalancedNet nets) nets) where
  at_net : (net : DNet) → In nets net → IsBalancedNet nets net
  at_net net there = of_each (IsBalancedNet nets) nets net balanced there

  at_coupling : (net : DNet) → In nets net → (c : Coupling) → In (couplings net) c → IsPaired nets net c
  at_coupling net there c inside = of_each (IsPaired nets net) (couplings net) c (at_net net there).paired inside

  totals_pass : list_all has_total nets ≡ true
  unfolding has_total
  totals_pass = all_pass has_total nets (λ net there. eq-eqb net.total.0 (total_of net) (at_net net there).total)

  pub out_pass : list_all all_lead_out nets ≡ true
  unfolding all_lead_out
  out_pass = all_pass all_lead_out nets (λ net there. all_pass (leads_out net.name) (couplings net) (λ c inside. passes_out net c (at_coupling net there c inside)))
    where
      passes_out : (net : DNet) (c : Coupling) → IsPaired nets net c → leads_out net.name c ≡ true
      passes_out net c is = rw (eq-eqb c.from.name net.name is.own, ne_eqb c.to.name net.name is.other) refl

  -- the net of the other name, and the coupling there
  partner_of : (net : DNet) → In nets net → (c : Coupling) → In (couplings net) c → (k : DNet) × (d : Coupling) × In nets k × In (couplings k) d × (is_partner c d ≡ true)
  partner_of net there c inside =
      let is = at_coupling net there c inside in
      let k = some_counted (has_name c.to.name) nets (let e = is.one in omega arith) in
      let one = of_each (λ (x : DNet). x.name ≡ c.to.name → count_by (is_partner c) (couplings x) ≡ 1) nets k.0 is.partner k.1 (eqb-true k.0.name c.to.name k.2) in
      let d = some_counted (is_partner c) (couplings k.0) (omega arith) in
      (k.0, d.0, k.1, d.1, d.2)

  own_single : (net : DNet) → In nets net → (c : Coupling) → In (couplings net) c → count_by (has_name net.name) nets ≡ 1
  own_single net there c inside =
      let p = partner_of net there c inside in
      let back = turned_back c p.1 p.4 in
      let is = at_coupling p.0 p.2 p.1 p.3 in
      let name : p.1.to.name ≡ net.name = ap (λ (e : End). e.name) (sym back.1) ∙ (at_coupling net there c inside).own in
      ap (λ n. count_by (has_name n) nets) (sym name) ∙ is.one

  single_pass : list_all (is_single nets) nets ≡ true
  unfolding is_single
  single_pass = all_pass (is_single nets) nets (λ net there. by net there (couplings net) (λ c inside. inside))
    where
      by : (net : DNet) → In nets net → (cs : List Coupling) → ((c : Coupling) → In cs c → In (couplings net) c) → ((length cs == 0) || (count_by (has_name net.name) nets == 1)) ≡ true
      by net there [] all = refl
      by net there (c ∷ cs) all =
          let one = eq-eqb (count_by (has_name net.name) nets) 1 (own_single net there c (all c (inl refl))) in
          let n : ℕ = length cs in let more : (suc n == 0) ≡ false = ne_eqb (suc n) 0 (λ e. omega arith) in
          rw (more, one) refl

  once_pass : list_all (is_once (all_couplings nets)) (all_couplings nets) ≡ true
  unfolding all_couplings
  once_pass = all_pass (is_once (all_couplings nets)) (all_couplings nets) (λ c there. by c (from_flat couplings nets c there))
    where
      by : (c : Coupling) → (net : DNet) × In nets net × In (couplings net) c → is_once (all_couplings nets) c ≡ true
      by c home =
          let is = at_coupling home.0 home.1 c home.2 in
          let one : count_by (has_name c.from.name) nets ≡ 1 = ap (λ n. count_by (has_name n) nets) is.own ∙ own_single home.0 home.1 c home.2 in
          eq-eqb (count_by (leads c.from c.to) (all_couplings nets)) 1 (all_there nets out_pass (leads c.from c.to) c.from (λ e leads_so. (leads_is c.from c.to e leads_so).0) home.0 home.1 (sym is.own) one ∙ is.alone)

  partners_pass : list_all (has_partner (all_couplings nets)) (all_couplings nets) ≡ true
  unfolding all_couplings
  partners_pass = all_pass (has_partner (all_couplings nets)) (all_couplings nets) (λ c there. by c (from_flat couplings nets c there))
    where
      by : (c : Coupling) → (net : DNet) × In nets net × In (couplings net) c → has_partner (all_couplings nets) c ≡ true
      by c home =
          let p = partner_of home.0 home.1 c home.2 in
          any_passes (is_partner c) (all_couplings nets) p.1 (in_flat couplings nets p.0 p.1 p.2 p.3) p.4

pub tells_balance : (nets : List DNet) → (are_balanced nets ≡ true) ↔ AllByRecursion (IsBalancedNet nets) nets
unfolding has_total
tells_balance nets = (to, λ is. rw (totals_pass nets is, out_pass nets is, single_pass nets is, once_pass nets is, partners_pass nets is) refl)
  where
    to : are_balanced nets ≡ true → AllByRecursion (IsBalancedNet nets) nets
    to is =
        let t = two (list_all has_total nets) _ is in
        let o = two (list_all all_lead_out nets) _ t.1 in
        let s = two (list_all (is_single nets) nets) _ o.1 in
        let p = two (list_all (is_once (all_couplings nets)) (all_couplings nets)) (list_all (has_partner (all_couplings nets)) (all_couplings nets)) s.1 in
        each (IsBalancedNet nets) nets (λ net there. record { total = eqb-true net.total.0 (total_of net) (passes has_total nets net t.0 there); paired = each (IsPaired nets net) (couplings net) (λ c inside. paired nets o.0 s.0 p.0 p.1 net there c inside) })

pub answers_balance : {E : Type 0} (nets : List DNet) (spef : Spef) (result : Result Bool E) → nets ≡ spef.nets → IfOk result (λ balanced. balanced ≡ are_balanced nets) → IfOk result (λ balanced. IsTrue balanced ↔ IsBalanced spef)
answers_balance nets spef (Ok balanced) are is = let tells = tells_balance spef.nets in let same : balanced ≡ are_balanced spef.nets = is ∙ ap are_balanced are in (λ yes. tells.0 (sym same ∙ yes), λ so. same ∙ tells.1 so)
answers_balance nets spef (Err e) are is = tt
