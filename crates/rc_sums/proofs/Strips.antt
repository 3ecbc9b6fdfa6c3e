-- Columns, and strips of columns that are alike.
use Rattle.std.proofs.Common.{◌≡◌, inl, inr, ⊎_elim, ℕ, zero, suc, ℤ, pos, negsuc, ◌^◌, ◌≤ℤ◌, ◌<ℤ◌, ◌+ℤ◌, ◌-ℤ◌, ◌+◌, Bool, true, false, cond, List, [], ◌∷◌, Some, None, All, refl, ap, sym, ◌∙◌, arith}
use Rattle.std.specs.Prelude.{fold, is_some}
use Rattle.std.specs.List.{AllByRecursion as ByRecursion}
use Rattle.std.proofs.lemmas.Bool.{cond_both}
use Rattle.std.proofs.lemmas.Int.{ints}
use Rattle.std.proofs.lemmas.List.Elements.{recursion_from_All, All-weaker}
use Rattle.rc_geom.specs.declared.key.Key.{Key}
use Rattle.rc_geom.specs.declared.rect.Rect.{Rect}
use Rattle.rc_geom.specs.declared.rect.Pt.{Pt}
use Rattle.rc_geom.specs.Rects.{IsNearRect}
use Rattle.rc_geom.specs.Plane.{Plane}
use Rattle.rc_geom.specs.Line.{line_of}
use Rattle.rc_geom.specs.Rates.{Rates}
use Rattle.rc_geom.specs.Parts.{Part, same_key, worth_at}
use Rattle.rc_geom.specs.Sums.{Adding, IsNeutral, IsAdditive, numbers, total, total_between, both_directions, extent, first_line, end_line, first_place, end_place}
use Rattle.rc_geom.specs.Context.{layer_count}
use Rattle.rc_geom.specs.Extraction.{parts_of, sum_in, value_in, count_in}
use Rattle.rc_geom.proofs.Totals.{total_none, total_suc, total_same, total_nothing, total_between_none, total_between_nothing, total_between_same, extent_is}
use Rattle.rc_geom.proofs.Areas.{no_parts, two_nothings, run_sound, worth_sound}
use Rattle.rc_geom.proofs.Cuts.{total_plus, total_between_split, layers_swap}
use Rattle.rc_geom.proofs.Entries.{sound_rates_suffice}
use Rattle.rc_geom.proofs.Halos.{lines_decide}
use Rattle.rc_tally.specs.Numbers.{numbers_are_additive}
use Rattle.rc_tally.specs.Amounts.{repeated}
use Rattle.rc_tally.specs.Tallies.{Sum, sums, sum_sound}
use Rattle.rc_geom.specs.declared.tile.Tile.{Tile}
use Rattle.rc_column.specs.Edges.{IsClear, PassesLines}
use Rattle.rc_rules.specs.Raters.{KeepsRules}
use Rattle.rc_sums.specs.Entering.{one, many}
use Rattle.rc_sums.specs.Worths.{line_added, column_added, columns_added}
use Rattle.rc_sums.proofs.Sums.{sums_additive, repeated_one, repeated_sound}

-- ---- maps that keep sums

pub record KeepsSums {V W : Type 0} (a : Adding V) (sound : V → Bool) (b : Adding W) (h : V → W) : Type 0 where
  pub start : sound a.none ≡ true
  pub closed : (x y : V) → sound x ≡ true → sound y ≡ true → sound (a.plus x y) ≡ true
  pub none : h a.none ≡ b.none
  pub plus : (x y : V) → sound x ≡ true → sound y ≡ true → h (a.plus x y) ≡ b.plus (h x) (h y)

kept_sound : {V W : Type 0} (a : Adding V) (sound : V → Bool) (b : Adding W) (h : V → W) → KeepsSums a sound b h → (n : ℕ) (f : ℕ → V) → ((k : ℕ) → sound (f k) ≡ true) → sound (total a n f) ≡ true
kept_sound a sound b h keeps zero f of_f = ap sound (total_none a f) ∙ keeps.start
kept_sound a sound b h keeps (suc n) f of_f = ap sound (total_suc a n (suc n) f (omega arith)) ∙ keeps.closed (total a n f) (f n) (kept_sound a sound b h keeps n f of_f) (of_f n)

kept_total : {V W : Type 0} (a : Adding V) (sound : V → Bool) (b : Adding W) (h : V → W) → KeepsSums a sound b h → (n : ℕ) (f : ℕ → V) → ((k : ℕ) → sound (f k) ≡ true) → h (total a n f) ≡ total b n (λ k. h (f k))
kept_total a sound b h keeps zero f of_f = ap h (total_none a f) ∙ (keeps.none ∙ sym (total_none b (λ k. h (f k))))
kept_total a sound b h keeps (suc n) f of_f =
    ap h (total_suc a n (suc n) f (omega arith))
    ∙ (keeps.plus (total a n f) (f n) (kept_sound a sound b h keeps n f of_f) (of_f n)
    ∙ (ap (λ v. b.plus v (h (f n))) (kept_total a sound b h keeps n f of_f)
    ∙ sym (total_suc b n (suc n) (λ k. h (f k)) (omega arith))))

kept_step : {V W : Type 0} (a : Adding V) (sound : V → Bool) (b : Adding W) (h : V → W) → KeepsSums a sound b h → (c : Bool) (s x : V) → sound s ≡ true → sound x ≡ true → h (cond c (a.plus s x) s) ≡ cond c (b.plus (h s) (h x)) (h s)
kept_step a sound b h keeps true s x of_s of_x = keeps.plus s x of_s of_x
kept_step a sound b h keeps false s x of_s of_x = refl

kept_parts : {X V W : Type 0} (a : Adding V) (sound : V → Bool) (b : Adding W) (h : V → W) → KeepsSums a sound b h → (worth : X → V) (q : Key) (s : V) (ps : List (Part X)) → sound s ≡ true → ByRecursion (λ part. sound (worth part.amount) ≡ true) ps → h (fold (λ sum part. cond (same_key part.key q) (a.plus sum (worth part.amount)) sum) s ps) ≡ fold (λ sum part. cond (same_key part.key q) (b.plus sum (h (worth part.amount))) sum) (h s) ps
kept_parts a sound b h keeps worth q s [] of_s each = refl
kept_parts {X = Y} {V = U} a sound b h keeps worth q s (part ∷ ps) of_s each =
    kept_parts a sound b h keeps worth q (cond (same_key part.key q) (a.plus s (worth part.amount)) s) ps
    (cond_both (same_key part.key q) (a.plus s (worth part.amount)) s (λ (v : U). sound v ≡ true) (λ _. keeps.closed s (worth part.amount) of_s each.0) (λ _. of_s)) each.1
    ∙ ap (λ v. fold (λ sum (p : Part Y). cond (same_key p.key q) (b.plus sum (h (worth p.amount))) sum) v ps) (kept_step a sound b h keeps (same_key part.key q) s (worth part.amount) of_s each.0)

pub kept_worth : {X V W : Type 0} (a : Adding V) (sound : V → Bool) (b : Adding W) (h : V → W) → KeepsSums a sound b h → (worth : X → V) (q : Key) (ps : List (Part X)) → All (λ part. sound (worth part.amount) ≡ true) ps → h (worth_at a worth q ps) ≡ worth_at b (λ v. h (worth v)) q ps
kept_worth {X = Y} a sound b h keeps worth q ps each =
    kept_parts a sound b h keeps worth q a.none ps keeps.start (recursion_from_All (λ (part : Part Y). sound (worth part.amount) ≡ true) ps each)
    ∙ ap (λ v. fold (λ sum (p : Part Y). cond (same_key p.key q) (b.plus sum (h (worth p.amount))) sum) v ps) keeps.none

-- all amounts of a plane's faces have a sound worth
abbrev pub AllParts : {X V : Type 0} → (V → Bool) → (X → V) → Plane → Rates X → ℕ → Type 0
AllParts sound worth plane rates axis = (layer : ℕ) (at along : ℤ) (up : Bool) → All (λ part. sound (worth part.amount) ≡ true) (parts_of plane rates axis layer at along up)

kept_worth_sound : {X V W : Type 0} (a : Adding V) (sound : V → Bool) (b : Adding W) (h : V → W) → KeepsSums a sound b h → (worth : X → V) (q : Key) (s : V) (ps : List (Part X)) → sound s ≡ true → ByRecursion (λ part. sound (worth part.amount) ≡ true) ps → sound (fold (λ sum part. cond (same_key part.key q) (a.plus sum (worth part.amount)) sum) s ps) ≡ true
kept_worth_sound a sound b h keeps worth q s [] of_s each = of_s
kept_worth_sound {V = U} a sound b h keeps worth q s (part ∷ ps) of_s each =
    kept_worth_sound a sound b h keeps worth q (cond (same_key part.key q) (a.plus s (worth part.amount)) s) ps
    (cond_both (same_key part.key q) (a.plus s (worth part.amount)) s (λ (v : U). sound v ≡ true) (λ _. keeps.closed s (worth part.amount) of_s each.0) (λ _. of_s)) each.1

kept_line : {X V W : Type 0} (a : Adding V) (sound : V → Bool) (b : Adding W) (h : V → W) → KeepsSums a sound b h → (worth : X → V) (plane : Plane) (rates : Rates X) (axis layer : ℕ) (at low high : ℤ) (q : Key) → AllParts sound worth plane rates axis → (h (line_added a worth plane rates axis layer at low high q) ≡ line_added b (λ v. h (worth v)) plane rates axis layer at low high q) × (sound (line_added a worth plane rates axis layer at low high q) ≡ true)
unfolding line_added
kept_line {X = Y} a sound b h keeps worth plane rates axis layer at low high q each =
    let f = λ (z : ℤ) (up : Bool). worth_at a worth q (parts_of plane rates axis layer at z up) in
    let g = λ (z : ℤ) (up : Bool). worth_at b (λ v. h (worth v)) q (parts_of plane rates axis layer at z up) in
    let of_f : (z : ℤ) (up : Bool) → sound (f z up) ≡ true = λ z up. kept_worth_sound a sound b h keeps worth q a.none (parts_of plane rates axis layer at z up) keeps.start (recursion_from_All (λ (part : Part Y). sound (worth part.amount) ≡ true) (parts_of plane rates axis layer at z up) (each layer at z up)) in
    let same : (z : ℤ) (up : Bool) → h (f z up) ≡ g z up = λ z up. kept_worth a sound b h keeps worth q (parts_of plane rates axis layer at z up) (each layer at z up) in
    let of_both : (z : ℤ) → sound (both_directions a (f z)) ≡ true = λ z. keeps.closed (f z false) (f z true) (of_f z false) (of_f z true) in
    let both : (z : ℤ) → h (both_directions a (f z)) ≡ both_directions b (g z) = λ z. keeps.plus (f z false) (f z true) (of_f z false) (of_f z true) ∙ (ap (λ v. b.plus v (h (f z true))) (same z false) ∙ ap (b.plus (g z false)) (same z true)) in (
      kept_total a sound b h keeps (extent low high) (λ k. both_directions a (f (low +ℤ pos k))) (λ k. of_both (low +ℤ pos k))
          ∙ total_same b (extent low high) (λ k. h (both_directions a (f (low +ℤ pos k)))) (λ k. both_directions b (g (low +ℤ pos k))) (λ k _. both (low +ℤ pos k)),
      kept_sound a sound b h keeps (extent low high) (λ k. both_directions a (f (low +ℤ pos k))) (λ k. of_both (low +ℤ pos k)),
    )

pub kept_column : {X V W : Type 0} (a : Adding V) (sound : V → Bool) (b : Adding W) (h : V → W) → KeepsSums a sound b h → (worth : X → V) (plane : Plane) (rates : Rates X) (axis : ℕ) (at low high : ℤ) (n : ℕ) (q : Key) → AllParts sound worth plane rates axis → (h (column_added a worth plane rates axis at low high n q) ≡ column_added b (λ v. h (worth v)) plane rates axis at low high n q) × (sound (column_added a worth plane rates axis at low high n q) ≡ true)
unfolding column_added
kept_column a sound b h keeps worth plane rates axis at low high n q each =
    let line = λ (layer : ℕ). kept_line a sound b h keeps worth plane rates axis layer at low high q each in (
      kept_total a sound b h keeps n (λ layer. line_added a worth plane rates axis layer at low high q) (λ layer. (line layer).1)
          ∙ total_same b n (λ layer. h (line_added a worth plane rates axis layer at low high q)) (λ layer. line_added b (λ v. h (worth v)) plane rates axis layer at low high q) (λ layer _. (line layer).0),
      kept_sound a sound b h keeps n (λ layer. line_added a worth plane rates axis layer at low high q) (λ layer. (line layer).1),
    )

pub kept_columns : {X V W : Type 0} (a : Adding V) (sound : V → Bool) (b : Adding W) (h : V → W) → KeepsSums a sound b h → (worth : X → V) (plane : Plane) (rates : Rates X) (axis : ℕ) (first end low high : ℤ) (q : Key) → AllParts sound worth plane rates axis → (h (columns_added a worth plane rates axis first end low high q) ≡ columns_added b (λ v. h (worth v)) plane rates axis first end low high q) × (sound (columns_added a worth plane rates axis first end low high q) ≡ true)
unfolding columns_added
kept_columns a sound b h keeps worth plane rates axis first end low high q each =
    let column = λ (k : ℕ). kept_column a sound b h keeps worth plane rates axis (first +ℤ pos k) low high layer_count q each in (
      kept_total a sound b h keeps (extent first end) (λ k. column_added a worth plane rates axis (first +ℤ pos k) low high layer_count q) (λ k. (column k).1)
          ∙ total_same b (extent first end) (λ k. h (column_added a worth plane rates axis (first +ℤ pos k) low high layer_count q)) (λ k. column_added b (λ v. h (worth v)) plane rates axis (first +ℤ pos k) low high layer_count q) (λ k _. (column k).0),
      kept_sound a sound b h keeps (extent first end) (λ k. column_added a worth plane rates axis (first +ℤ pos k) low high layer_count q) (λ k. (column k).1),
    )

-- a map that changes nothing, so that soundness alone is told
itself_keeps : {V : Type 0} (a : Adding V) (sound : V → Bool) → IsNeutral a sound → KeepsSums a sound a (λ v. v)
itself_keeps a sound laws = record { start = laws.start; closed = laws.closed; none = refl; plus = λ x y _ _. refl }

pub line_sound : {X V : Type 0} (a : Adding V) (sound : V → Bool) → IsNeutral a sound → (worth : X → V) (plane : Plane) (rates : Rates X) (axis layer : ℕ) (at low high : ℤ) (q : Key) → AllParts sound worth plane rates axis → sound (line_added a worth plane rates axis layer at low high q) ≡ true
line_sound a sound laws worth plane rates axis layer at low high q each = (kept_line a sound a (λ v. v) (itself_keeps a sound laws) worth plane rates axis layer at low high q each).1

pub column_sound : {X V : Type 0} (a : Adding V) (sound : V → Bool) → IsNeutral a sound → (worth : X → V) (plane : Plane) (rates : Rates X) (axis : ℕ) (at low high : ℤ) (n : ℕ) (q : Key) → AllParts sound worth plane rates axis → sound (column_added a worth plane rates axis at low high n q) ≡ true
column_sound a sound laws worth plane rates axis at low high n q each = (kept_column a sound a (λ v. v) (itself_keeps a sound laws) worth plane rates axis at low high n q each).1

pub columns_sound : {X V : Type 0} (a : Adding V) (sound : V → Bool) → IsNeutral a sound → (worth : X → V) (plane : Plane) (rates : Rates X) (axis : ℕ) (first end low high : ℤ) (q : Key) → AllParts sound worth plane rates axis → sound (columns_added a worth plane rates axis first end low high q) ≡ true
columns_sound a sound laws worth plane rates axis first end low high q each = (kept_columns a sound a (λ v. v) (itself_keeps a sound laws) worth plane rates axis first end low high q each).1

-- ---- the three maps

pub repeating_keeps : {V : Type 0} (a : Adding V) (sound : V → Bool) → IsAdditive a sound → (n : ℕ) → KeepsSums a sound a (repeated a n)
unfolding repeated
repeating_keeps a sound laws n = record {
  start = laws.neutral.start;
  closed = laws.neutral.closed;
  none = total_nothing a sound laws.neutral n (λ _. a.none) (λ k _. refl);
  plus = λ x y of_x of_y. total_plus a sound laws n (λ _. x) (λ _. y) (λ _. of_x) (λ _. of_y);
}

counts_keep : {V : Type 0} (a : Adding V) → KeepsSums (sums a) (λ _. true) numbers (λ s. s.count)
counts_keep a = record { start = refl; closed = λ x y _ _. refl; none = refl; plus = λ x y _ _. refl }

values_keep : {V : Type 0} (a : Adding V) → KeepsSums (sums a) (λ _. true) a (λ s. s.value)
values_keep a = record { start = refl; closed = λ x y _ _. refl; none = refl; plus = λ x y _ _. refl }

-- ---- the sums of a window

pub columns_are_sum : {X V : Type 0} (a : Adding V) (sound : V → Bool) → IsAdditive a sound → (worth : X → V) (plane : Plane) (rates : Rates X) (axis : ℕ) (r : Rect) (q : Key) → AllParts sound worth plane rates axis → columns_added a worth plane rates axis (first_line axis r) (end_line axis r) (first_place axis r) (end_place axis r) q ≡ sum_in a worth plane rates axis r q
unfolding columns_added column_added line_added
columns_are_sum {X = Y} a sound laws worth plane rates axis r q each =
    sym (layers_swap a sound layer_count (first_line axis r) (end_line axis r) (λ layer at. total_between a (first_place axis r) (end_place axis r) (λ along. both_directions a (λ up. worth_at a worth q (parts_of plane rates axis layer at along up)))) laws
    (λ layer at. run_sound a sound laws.neutral (first_place axis r) (end_place axis r) (λ along up. worth_at a worth q (parts_of plane rates axis layer at along up)) (λ along up. worth_sound a sound laws.neutral worth q (parts_of plane rates axis layer at along up) (each layer at along up))))

any_parts : {X V : Type 0} (worth : X → V) (plane : Plane) (rates : Rates X) (axis : ℕ) → AllParts (λ _. true) worth plane rates axis
any_parts worth plane rates axis = λ layer at along up k d less. refl

pub count_of_columns : {V : Type 0} (a : Adding V) (plane : Plane) (rates : Rates V) (axis : ℕ) (r : Rect) (q : Key) → (columns_added (sums a) one plane rates axis (first_line axis r) (end_line axis r) (first_place axis r) (end_place axis r) q).count ≡ count_in plane rates axis r q
count_of_columns a plane rates axis r q =
    (kept_columns (sums a) (λ _. true) numbers (λ s. s.count) (counts_keep a) one plane rates axis (first_line axis r) (end_line axis r) (first_place axis r) (end_place axis r) q (any_parts one plane rates axis)).0
    ∙ columns_are_sum numbers (λ _. true) numbers_are_additive (λ _. 1) plane rates axis r q (any_parts {V = ℕ} (λ _. 1) plane rates axis)

pub value_of_columns : {V : Type 0} (a : Adding V) (sound : V → Bool) → IsAdditive a sound → (plane : Plane) (rates : Rates V) (axis : ℕ) (r : Rect) (q : Key) → AllParts sound (λ v. v) plane rates axis → (columns_added (sums a) one plane rates axis (first_line axis r) (end_line axis r) (first_place axis r) (end_place axis r) q).value ≡ value_in a plane rates axis r q
value_of_columns a sound laws plane rates axis r q each =
    (kept_columns (sums a) (λ _. true) a (λ s. s.value) (values_keep a) one plane rates axis (first_line axis r) (end_line axis r) (first_place axis r) (end_place axis r) q (any_parts one plane rates axis)).0
    ∙ columns_are_sum a sound laws (λ v. v) plane rates axis r q each

-- ---- strips

-- columns whose lines are alike add the same
pub same_column : {X V : Type 0} (a : Adding V) (worth : X → V) (plane other : Plane) (rates : Rates X) (axis : ℕ) (at at' low high : ℤ) (n : ℕ) (q : Key) → ((layer : ℕ) → line_of plane layer axis at ≡ line_of other layer axis at') → column_added a worth plane rates axis at low high n q ≡ column_added a worth other rates axis at' low high n q
unfolding column_added line_added
same_column {X = Y} a worth plane other rates axis at at' low high n q alike =
    total_same a n (λ layer. total_between a low high (λ along. both_directions a (λ up. worth_at a worth q (parts_of plane rates axis layer at along up)))) (λ layer. total_between a low high (λ along. both_directions a (λ up. worth_at a worth q (parts_of other rates axis layer at' along up))))
    (λ layer _. total_between_same a low high (λ along. both_directions a (λ up. worth_at a worth q (parts_of plane rates axis layer at along up))) (λ along. both_directions a (λ up. worth_at a worth q (parts_of other rates axis layer at' along up)))
    (λ along _ _. ap (λ (f : Bool → List (Part Y)). both_directions a (λ up. worth_at a worth q (f up))) (λ i up. lines_decide plane other rates axis at at' alike layer along up i)))

-- so many columns alike
pub strip : {V : Type 0} (adding : Adding V) (sound : V → Bool) → IsAdditive adding sound → (plane other : Plane) (rates : Rates V) (axis n : ℕ) (at next low high : ℤ) (q : Key) → AllParts sound (λ v. v) other rates axis → pos n ≡ next -ℤ at → ((layer : ℕ) → line_of other layer axis at ≡ line_of plane layer axis at) → ((z : ℤ) → at ≤ℤ z → z <ℤ next → (layer : ℕ) → line_of plane layer axis z ≡ line_of plane layer axis at) → column_added (sums adding) (many adding n) other rates axis at low high layer_count q ≡ columns_added (sums adding) one plane rates axis at next low high q
unfolding columns_added repeated
strip {V = W} adding sound laws plane other rates axis n at next low high q each is_n there alike =
    let add = sums adding in
    let order : at ≤ℤ next = omega (arith, ints, is_n) in
    let long : extent at next ≡ n = let e = extent_is at next order in omega (arith, ints, is_n, e) in
    let keeps = repeating_keeps add (sum_sound sound) (sums_additive adding sound laws) n in
    let ones : (λ (v : W). repeated add n (one v)) ≡ many adding n = λ i v. repeated_one adding n v i in
    ap (λ (worth : W → Sum W). column_added add worth other rates axis at low high layer_count q) (sym ones)
    ∙ (sym (kept_column add (sum_sound sound) add (repeated add n) keeps one other rates axis at low high layer_count q each).0
    ∙ (ap (repeated add n) (same_column add one other plane rates axis at at low high layer_count q there)
    ∙ (ap (λ (m : ℕ). total add m (λ _. column_added add one plane rates axis at low high layer_count q)) (sym long)
    ∙ sym (total_between_same add at next (λ z. column_added add one plane rates axis z low high layer_count q) (λ _. column_added add one plane rates axis at low high layer_count q)
    (λ z above below. same_column add one plane plane rates axis z at low high layer_count q (alike z above below))))))

pub columns_split : {X V : Type 0} (a : Adding V) (sound : V → Bool) → IsAdditive a sound → (worth : X → V) (plane : Plane) (rates : Rates X) (axis : ℕ) (first mid end low high : ℤ) (q : Key) → AllParts sound worth plane rates axis → first ≤ℤ mid → mid ≤ℤ end → columns_added a worth plane rates axis first end low high q ≡ a.plus (columns_added a worth plane rates axis first mid low high q) (columns_added a worth plane rates axis mid end low high q)
unfolding columns_added
columns_split a sound laws worth plane rates axis first mid end low high q each before behind =
    total_between_split a sound laws first mid end (λ at. column_added a worth plane rates axis at low high layer_count q) (λ at. column_sound a sound laws.neutral worth plane rates axis at low high layer_count q each) before behind

-- ---- sound parts

-- where layers with metal have rules, all parts are sound
pub rules_sound : {V : Type 0} (has_rules : ℕ → Type 0) (rates : Rates V) (adding : Adding V) (sound : V → Bool) → KeepsRules has_rules rates adding sound → (plane : Plane) (axis : ℕ) → ((layer : ℕ) (p : Pt) → is_some (plane layer p) ≡ true → has_rules layer) → AllParts sound (λ v. v) plane rates axis
rules_sound has_rules rates adding sound keeps plane axis rules layer at along up =
    sound_rates_suffice sound (λ v. v) plane rates (λ l p metal. keeps.cap_least l (rules l p metal))
    (λ l p under over thick gap metal _ _ _. (keeps.own l under over thick gap (rules l p metal), keeps.share l under over thick gap (rules l p metal))) axis layer at along up

-- so are they so many times
pub many_sound : {V : Type 0} (adding : Adding V) (sound : V → Bool) → IsAdditive adding sound → (n : ℕ) (plane : Plane) (rates : Rates V) (axis : ℕ) → AllParts sound (λ v. v) plane rates axis → (layer : ℕ) (at along : ℤ) (up : Bool) (q : Key) → sound (worth_at (sums adding) (many adding n) q (parts_of plane rates axis layer at along up)).value ≡ true
many_sound {V = W} adding sound laws n plane rates axis each layer at along up q =
    worth_sound (sums adding) (sum_sound sound) (sums_additive adding sound laws).neutral (many adding n) q (parts_of plane rates axis layer at along up)
    (All-weaker (λ (part : Part W). sound part.amount ≡ true) (λ (part : Part W). sound (repeated adding n part.amount) ≡ true) (λ part h. repeated_sound adding sound laws.neutral n part.amount h) (parts_of plane rates axis layer at along up) (each layer at along up))

pub place_ends : (axis : ℕ) (r : Rect) → IsNearRect r → (negsuc (2 ^ 29) ≤ℤ first_place axis r) × (end_place axis r ≤ℤ pos (2 ^ 29 + 1))
place_ends zero r h = (h.left, h.right)
place_ends (suc k) r h = (h.below, h.above)

-- a line without metal adds nothing
pub bare_line : {X V : Type 0} (a : Adding V) (sound : V → Bool) → IsNeutral a sound → (worth : X → V) (plane : Plane) (rates : Rates X) (axis layer : ℕ) (at low high : ℤ) (q : Key) → ((z : ℤ) → line_of plane layer axis at z ≡ None) → line_added a worth plane rates axis layer at low high q ≡ a.none
unfolding line_added
bare_line {X = Y} a sound laws worth plane rates axis layer at low high q bare =
    total_between_nothing a sound laws low high (λ along. both_directions a (λ up. worth_at a worth q (parts_of plane rates axis layer at along up)))
    (λ z _ _. two_nothings a sound laws (λ up. worth_at a worth q (parts_of plane rates axis layer at z up)) (λ up. ap (λ (ps : List (Part Y)). worth_at a worth q ps) (no_parts plane rates axis layer at z up (bare z))))

pub no_column : {X V : Type 0} (a : Adding V) (worth : X → V) (plane : Plane) (rates : Rates X) (axis : ℕ) (at low high : ℤ) (q : Key) → column_added a worth plane rates axis at low high 0 q ≡ a.none
unfolding column_added
no_column a worth plane rates axis at low high q = total_none a (λ layer. line_added a worth plane rates axis layer at low high q)

pub no_columns : {X V : Type 0} (a : Adding V) (worth : X → V) (plane : Plane) (rates : Rates X) (axis : ℕ) (at low high : ℤ) (q : Key) → columns_added a worth plane rates axis at at low high q ≡ a.none
unfolding columns_added
no_columns a worth plane rates axis at low high q = total_between_none a at at (λ z. column_added a worth plane rates axis z low high layer_count q) (omega (arith, ints))

-- so many times, a line's amounts are sound
pub many_line_sound : {V : Type 0} (adding : Adding V) (sound : V → Bool) → IsAdditive adding sound → (n : ℕ) (plane : Plane) (rates : Rates V) (axis : ℕ) → AllParts sound (λ v. v) plane rates axis → (layer : ℕ) (at low high : ℤ) (q : Key) → sound (line_added (sums adding) (many adding n) plane rates axis layer at low high q).value ≡ true
many_line_sound {V = W} adding sound laws n plane rates axis each layer at low high q =
    line_sound (sums adding) (sum_sound sound) (sums_additive adding sound laws).neutral (many adding n) plane rates axis layer at low high q
    (λ layer at along up. All-weaker (λ (part : Part W). sound part.amount ≡ true) (λ (part : Part W). sound (repeated adding n part.amount) ≡ true) (λ part h. repeated_sound adding sound laws.neutral n part.amount h) (parts_of plane rates axis layer at along up) (each layer at along up))

-- ---- a sooner edge

clear_sooner : (after edge end z : ℤ) → end ≤ℤ edge → IsClear after (Some edge) z → IsClear after (Some end) z
clear_sooner after edge end z sooner h = ⊎_elim (λ (low : z ≤ℤ after). inl low) (λ (high : edge ≤ℤ z). inr (omega (arith, ints))) h

pub passes_sooner : (tiles : List Tile) (axis : ℕ) (after edge end : ℤ) → end ≤ℤ edge → All (PassesLines axis after (Some edge)) tiles → All (PassesLines axis after (Some end)) tiles
passes_sooner tiles axis after edge end sooner all =
    All-weaker (PassesLines axis after (Some edge)) (PassesLines axis after (Some end)) (λ t p. record { begins = clear_sooner after edge end (first_line axis t.rect) sooner p.begins; ends = clear_sooner after edge end (end_line axis t.rect) sooner p.ends }) tiles all

pub line_order : (axis : ℕ) (r : Rect) → IsNearRect r → first_line axis r <ℤ end_line axis r
line_order zero r h = h.high
line_order (suc k) r h = h.wide
