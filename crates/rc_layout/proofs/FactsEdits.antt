-- A net with other paths keeps what holds of nets, and a layout into which it is put keeps what holds of layouts.
use Rattle.std.proofs.Common.{◌≡◌, ◌∙◌, ◌⊎◌, inl, inr, ℕ, ℤ, ◌≤ℤ◌, ◌+◌, ◌-◌, ◌<◌, ◌≤◌, ◌^◌, List, ◌++◌, map, length, get_or, refl, sym, ap, subst, arith}
use Rattle.std.proofs.Math.ListN.{length-set}
use Rattle.std.proofs.Math.Seq.{map-set_same}
use Rattle.std.proofs.lemmas.List.{map-append}
use Rattle.std.proofs.lemmas.List.Elements.{All-set}
use Rattle.std.proofs.lemmas.Option.{same_Some, get_or_from_slice_get, slice_get_within, slice_get_cases}
use Rattle.std.specs.Prelude.{All, Option, Some, None, IfSome, IfOk, slice_get, slice_set, nat_le, pos, Result, Ok, Err}
use Rattle.rc_fixed.proofs.Tests.{nat_le_tells}
use Rattle.rc_keys.specs.declared.code.Quantity.TheVariants.{Shapes}
use Rattle.rc_keys.specs.declared.fault.Fault.{Fault}
use Rattle.rc_keys.specs.declared.fault.Refusal.TheVariants.{Limit}
use Rattle.rc_wire.specs.Forms.{IsRegular}
use Rattle.rc_wire.specs.declared.path.RawPath.{RawPath}
use Rattle.rc_layout.specs.declared.net.Net.{Net}
use Rattle.rc_layout.specs.declared.parts.Parts.{Parts}
use Rattle.rc_layout.specs.declared.wiring.Wiring.{Wiring}
use Rattle.rc_layout.specs.Entries.{net_rule}
use Rattle.rc_layout.specs.Facts.{Belongs, IsLayout, IsCandidate}
use Rattle.rc_layout.specs.Layouts.{Wired, shape_count, net_anew, net_with, with_put, with_wiring}
use Rattle.rc_layout.specs.Nets.{IsTied}
use Rattle.rc_layout.specs.Paths.{paths_drawn}
use Rattle.rc_layout.specs.Ranges.{IsPath}
use Rattle.rc_layout.specs.Refusals.{Links, unless, ◌>>=◌, ◌>>◌}
use Rattle.rc_layout.proofs.FactsChains.{same_ok, bound, passed}
use Rattle.rc_layout.proofs.FactsDistinct.{names_distinct, names_differ, AreDistinct}
use Rattle.rc_layout.proofs.FactsLinked.{name_of}
use Rattle.rc_layout.proofs.FactsNets.{IsDrawnNet, belongs, tied}
use Rattle.rc_layout.proofs.FactsPaths.{IsTiedDrawing, paths_are}
use Rattle.rc_layout.proofs.Shapes.{exchanged, had}

drawn_net : (parts : Parts) (old : Net) (w : Wiring) → Belongs parts old → IsTiedDrawing parts w → IsDrawnNet parts (with_wiring old w)
drawn_net parts old w has drawing = record { drawn = drawing.drawn; rule = has.rule; conns = has.conns; few_conns = has.formed.few_conns }

-- what the net is made of
record IsAnew (parts : Parts) (shapes : ℕ) (old net : Net) (paths : List RawPath) : Type 0 where
  rule : Option ℕ
  w : Wiring
  drew : paths_drawn parts rule paths ≡ Ok w
  few : shapes - length old.items + length w.items ≤ 2 ^ 22
  is : with_wiring old w ≡ net

anew_is : (parts : Parts) (shapes : ℕ) (old net : Net) (paths : List RawPath) → net_anew parts shapes old paths ≡ Ok net → IsAnew parts shapes old net paths
unfolding net_anew
anew_is parts shapes old net paths e =
    let (rule, ruled, more) =
    bound (net_rule parts old.line old.rule)
    (λ rule. paths_drawn parts rule paths >>= λ w. unless (nat_le (shapes - length old.items + length w.items) (2 ^ 22)) (Limit Shapes) >> Ok (with_wiring old w)) net e in
    let (w, drew, more') =
    bound (paths_drawn parts rule paths) (λ w. unless (nat_le (shapes - length old.items + length w.items) (2 ^ 22)) (Limit Shapes) >> Ok (with_wiring old w)) net more in
    let limit = passed (nat_le (shapes - length old.items + length w.items) (2 ^ 22)) (Limit Shapes) (Ok (with_wiring old w)) net more' in
    record { rule = rule; w = w; drew = drew; few = nat_le_tells _ _ limit.0; is = same_ok (with_wiring old w) net limit.1 }

pub candidate_is : (wired : Wired) (old net : Net) (paths : List RawPath) → IsLayout wired → Belongs wired.parts old → All IsRegular paths → net_with wired old paths ≡ Ok net → IsCandidate wired old net
candidate_is wired old net paths is has regular e =
    let anew = anew_is wired.parts (shape_count wired.nets + shape_count wired.grounded) old net paths e in
    let drawing = paths_are wired.parts anew.rule paths anew.w is.sound (λ k d within. inl (regular k d within)) anew.drew in
    let few = anew.few in
    let own : length anew.w.items ≤ 2 ^ 22 = omega (arith, few) in
    let drawn = drawn_net wired.parts old anew.w has drawing in
    subst (λ (n : Net). IsCandidate wired old n) anew.is (record {
      belongs = belongs wired.parts (with_wiring old anew.w) drawn own;
      tied = tied wired.parts (with_wiring old anew.w) drawn drawing.tied own;
      name = refl;
      few_shapes = few;
    })

-- a net of a layout belongs to it
pub own_belongs : (wired : Wired) (number : ℕ) (old : Net) → IsLayout wired → slice_get wired.nets number ≡ Some old → Belongs wired.parts old × IsTied old
own_belongs wired number old is here =
    let within = slice_get_within wired.nets number old here in
    let same = get_or_from_slice_get wired.nets number old old here in
    (subst (Belongs wired.parts) same (is.nets number old within), subst IsTied same (is.tied number old within))

-- so many shapes there are with another net in its place
pub shapes_with : (wired : Wired) (number : ℕ) (old new : Net) → slice_get wired.nets number ≡ Some old
    → shape_count (slice_set wired.nets number new) + shape_count wired.grounded ≡ shape_count wired.nets + shape_count wired.grounded - length old.items + length new.items
shapes_with wired number old new here =
    let within = slice_get_within wired.nets number old here in
    let e = exchanged wired.nets (slice_set wired.nets number new) number new old within here refl in
    let f = had wired.nets number old within here in
    omega (arith, e, f)

pub put_is :
    (wired : Wired) (number : ℕ) (old new : Net) → IsLayout wired → slice_get wired.nets number ≡ Some old → Belongs wired.parts new → IsTied new → new.name ≡ old.name
    → shape_count (slice_set wired.nets number new) + shape_count wired.grounded ≤ 2 ^ 22 → IsLayout (with_put wired number new)
put_is wired number old new is here has ties name few = record {
  parts = is.parts;
  sound = is.sound;
  nets = All-set (Belongs wired.parts) wired.nets number new has is.nets;
  tied = All-set IsTied wired.nets number new ties is.tied;
  grounded = is.grounded;
  names = names_differ name_of (slice_set wired.nets number new ++ wired.grounded) (subst AreDistinct names (names_distinct name_of (wired.nets ++ wired.grounded) is.names));
  few_nets = (let long = length-set wired.nets number new in let fits = is.few_nets in omega (arith, long, fits));
  few_comps = is.few_comps;
  few_ports = is.few_ports;
  few_shapes = few;
}
  where
    kept_names : map name_of (slice_set wired.nets number new) ≡ map name_of wired.nets
    kept_names = map-set_same name_of wired.nets number new old (name ∙ ap name_of (sym (get_or_from_slice_get wired.nets number old old here)))

    names : map name_of (wired.nets ++ wired.grounded) ≡ map name_of (slice_set wired.nets number new ++ wired.grounded)
    names =
        map-append name_of wired.nets wired.grounded
        ∙ ap (λ (l : List (List ℕ)). l ++ map name_of wired.grounded) (sym kept_names)
        ∙ sym (map-append name_of (slice_set wired.nets number new) wired.grounded)

-- the same, where a candidate is put
pub put_candidate :
    (wired : Wired) (number : ℕ) (old new : Net) → IsLayout wired → slice_get wired.nets number ≡ Some old → IsCandidate wired old new → IsLayout (with_put wired number new)
put_candidate wired number old new is here fits =
    let e = shapes_with wired number old new here in
    let few = fits.few_shapes in
    put_is wired number old new is here fits.belongs fits.tied fits.name (omega (arith, e, few))

pub edit_candidate :
    (wired : Wired) (number : ℕ) (old net : Net) (paths : List RawPath) → IsLayout wired → slice_get wired.nets number ≡ Some old → All IsRegular paths → net_with wired old paths ≡ Ok net → IsCandidate wired old net
edit_candidate wired number old net paths is here regular e = candidate_is wired old net paths is (own_belongs wired number old is here).0 regular e

-- what `put` leaves: the facts, and the count of shapes
pub put_facts :
    (wired : Wired) (number : ℕ) (new : Net) (nets : List Net) (shapes fewer more : ℕ) → IsLayout wired → shapes ≡ shape_count wired.nets + shape_count wired.grounded → number < length wired.nets
    → ((old : Net) → slice_get wired.nets number ≡ Some old → IsCandidate wired old new) → nets ≡ slice_set wired.nets number new → fewer ≤ shape_count wired.nets → shape_count nets + fewer ≡ shape_count wired.nets + length new.items
    → more ≡ length new.items → IsLayout (record wired { nets = nets }) × (shapes - fewer + more ≡ shape_count nets + shape_count wired.grounded)
put_facts wired number new nets shapes fewer more is counts within fits list had count grown = (facts ((slice_get_cases wired.nets number).1), omega (arith, counts, had, count, grown))
  where
    facts : ((x : Net) × (number < length wired.nets) × (slice_get wired.nets number ≡ Some x) × (get_or wired.nets number x ≡ x)) ⊎ ((length wired.nets ≤ number) × (slice_get wired.nets number ≡ None)) → IsLayout (record wired { nets = nets })
    facts (inl inside) = subst (λ (ns : List Net). IsLayout (record wired { nets = ns })) (sym list) (put_candidate wired number inside.0 new is inside.2 (fits inside.0 inside.2))
    facts (inr past) = let p = past.0 in absurd (omega (arith, within, p))

-- ---- what `with_net` answers

pub regular_paths : (paths : List RawPath) → All IsRegular paths → All IsPath paths
regular_paths paths regular = λ k d within. path (get_or paths k d) (regular k d within)
  where
    path : (p : RawPath) → IsRegular p → IsPath p
    path p is = record { width = subst (λ (o : Option ℤ). IfSome o (λ w. pos 0 ≤ℤ w)) (sym is.width) tt }

pub answers_candidate :
    (wired : Wired) (number : ℕ) (paths : List RawPath) (result : Result Net Fault) (shapes : ℕ) (nets : List Net) (found : Net) → IsLayout wired → shapes ≡ shape_count wired.nets + shape_count wired.grounded → All IsRegular paths
    → nets ≡ wired.nets → slice_get nets number ≡ Some found → Links result (net_anew wired.parts shapes found paths) → (old : Net) → slice_get wired.nets number ≡ Some old → IfOk result (IsCandidate wired old)
answers_candidate wired number paths (Ok net) shapes nets found is counts regular list at links old here =
    let same : found ≡ old = same_Some found old (sym at ∙ ap (λ (ns : List Net). slice_get ns number) list ∙ here) in
    let anew : net_with wired old paths ≡ Ok net = sym (ap (λ (n : ℕ). net_anew wired.parts n found paths) counts ∙ ap (λ (o : Net). net_with wired o paths) same) ∙ links in
    edit_candidate wired number old net paths is here regular anew
answers_candidate wired number paths (Err fault) shapes nets found is counts regular list at links old here = tt
