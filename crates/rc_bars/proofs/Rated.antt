-- What a face of a layer adds, as its own part and its shared one.
use Rattle.std.proofs.Common.{◌≡◌, ℕ, Bool, true, ◌++◌, Option, ap, sym, ◌∙◌}
use Rattle.std.specs.Prelude.{option_map, find, ◌+◌, ◌-◌}
use Rattle.std.specs.Option.{option_and_then}
use Rattle.std.specs.List.{range_with_len}
use Rattle.rc_geom.specs.declared.key.Key.{Key}
use Rattle.rc_geom.specs.Faces.{Seen}
use Rattle.rc_geom.specs.Context.{layer_count, last_that}
use Rattle.rc_geom.specs.Rates.{Rates}
use Rattle.rc_geom.specs.Parts.{worth_at, part_for, node_key, shared_key, foreign_metal}
use Rattle.rc_geom.specs.Sums.{Adding}
use Rattle.rc_tally.specs.Amounts.{IsAmount}
use Rattle.rc_tally.specs.Tallies.{sums, sum_sound}
use Rattle.rc_column.specs.declared.face.Face.{Face as FoundFace}
use Rattle.rc_column.specs.Found.{face_value}
use Rattle.rc_rules.specs.Raters.{KeepsRules}
use Rattle.rc_sums.specs.Entering.{many}
use Rattle.rc_sums.proofs.Sums.{sums_are_amounts, repeated_sound}
use Rattle.rc_sums.proofs.Enters.{part_added}
use Rattle.rc_sums.proofs.Faces.{gap_back, worth_two}
use Rattle.rc_bars.specs.Columns.{Layers, rated}

-- the rates of a face, by what the code looked up
pub face_rate : {V : Type 0} (rates : Rates V) (layer : ℕ) (metal : Layers) (f : FoundFace) (under over : Option ℕ) (r : V × V) → r ≡ rates.rate layer under over f.thick f.gap → under ≡ last_that metal (range_with_len 0 layer) → over ≡ find metal (range_with_len (layer + 1) (layer_count - (layer + 1))) →
    r ≡ rates.rate layer (last_that metal (range_with_len 0 layer)) (find metal (range_with_len (layer + 1) (layer_count - (layer + 1)))) (face_value f).thick (option_map {T = Seen} (λ seen. seen.0) (face_value f).sight)
face_rate rates layer metal f under over r is low high =
    let below = last_that metal (range_with_len 0 layer) in
    let above = find metal (range_with_len (layer + 1) (layer_count - (layer + 1))) in
    is
    ∙ (ap (λ (u : Option ℕ). rates.rate layer u over f.thick f.gap) low
    ∙ (ap (λ (o : Option ℕ). rates.rate layer below o f.thick f.gap) high
    ∙ ap (λ (d : Option ℕ). rates.rate layer below above f.thick d) (sym (gap_back (f.onet, f.onode) f.gap))))

-- they are sound
pub rate_sound : {V : Type 0} (has_rules : ℕ → Type 0) (rates : Rates V) (adding : Adding V) (sound : V → Bool) → KeepsRules has_rules rates adding sound → (layer : ℕ) (under over : Option ℕ) (thick : ℕ) (gap : Option ℕ) (ground share : V) → has_rules layer → (ground, share) ≡ rates.rate layer under over thick gap → (sound ground ≡ true) × (sound share ≡ true)
rate_sound {V = W} has_rules rates adding sound keeps layer under over thick gap ground share rules is = (
  ap (λ (r : W × W). sound r.0) is ∙ keeps.own layer under over thick gap rules,
  ap (λ (r : W × W). sound r.1) is ∙ keeps.share layer under over thick gap rules,
)

pub rated_splits : {V : Type 0} (adding : Adding V) (fits sound : V → Bool) → IsAmount adding fits sound → (rates : Rates V) (layer n : ℕ) (metal : Layers) (f : FoundFace) (ground share : V) (own seen : Option Key) →
    (ground, share) ≡ rates.rate layer (last_that metal (range_with_len 0 layer)) (find metal (range_with_len (layer + 1) (layer_count - (layer + 1)))) (face_value f).thick (option_map {T = Seen} (λ seen. seen.0) (face_value f).sight) →
    own ≡ node_key (face_value f).own → seen ≡ option_and_then (shared_key (face_value f).own) (foreign_metal (face_value f).own (face_value f).sight) →
    sound ground ≡ true → sound share ≡ true → (q : Key) →
    worth_at (sums adding) (many adding n) q (rated rates layer metal (face_value f)) ≡ (sums adding).plus (part_added adding n ground own q) (part_added adding n share seen q)
rated_splits {V = W} adding fits sound laws rates layer n metal f ground share own seen rate is_own is_seen of_ground of_share q =
    let neutral = (sums_are_amounts adding fits sound laws).additive.neutral in
    let face = face_value f in
    let own' = node_key face.own in
    let seen' = option_and_then (shared_key face.own) (foreign_metal face.own face.sight) in
    ap (λ (r : W × W). worth_at (sums adding) (many adding n) q (part_for r.0 own' ++ part_for r.1 seen')) (sym rate)
    ∙ (ap (λ (k : Option Key). worth_at (sums adding) (many adding n) q (part_for ground k ++ part_for share seen')) (sym is_own)
    ∙ (ap (λ (k : Option Key). worth_at (sums adding) (many adding n) q (part_for ground own ++ part_for share k)) (sym is_seen)
    ∙ worth_two (sums adding) (sum_sound sound) neutral (many adding n) q ground share own seen (repeated_sound adding sound laws.additive.neutral n ground of_ground) (repeated_sound adding sound laws.additive.neutral n share of_share)))
