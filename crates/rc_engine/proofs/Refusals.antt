-- What refuses the start of an engine, one test after another.
use Rattle.std.proofs.Common.{◌≡◌, ◌<◌, ◌≤◌, ◌^◌, ℕ, Bool, true, false, cond, refl, ap, sym, ◌∙◌, arith}
use Rattle.std.specs.Prelude.{Option, Some, None, nat_lt, option_map}
use Rattle.std.specs.Option.{option_or}
use Rattle.std.proofs.lemmas.Bool.Decides.{nat_tests}
use Rattle.rc_keys.specs.declared.code.Quantity.{Quantity}
use Rattle.rc_keys.specs.declared.code.Quantity.TheVariants.{Nodes, Tiles}
use Rattle.rc_keys.specs.declared.fault.Fault.{Fault}
use Rattle.rc_keys.specs.declared.fault.Fault.TheVariants.{Refused, NoMemory}
use Rattle.rc_keys.specs.declared.fault.Refusal.{Refusal}
use Rattle.rc_keys.specs.declared.fault.Refusal.TheVariants.{Limit}
use Rattle.rc_rules.specs.RuleFile.{RuleFile}
use Rattle.rc_layout.specs.Layouts.{Wired}
use Rattle.rc_nodes.specs.LayoutPlane.{drawn_nets}
use Rattle.rc_shorts.specs.declared.shape.Short.{Short}
use Rattle.rc_shorts.specs.Shorts.{first_short}
use Rattle.rc_shorts.specs.OfLayouts.{layout_shapes}
use Rattle.rc_engine.specs.Start.{least_lacking, lacks_block, lacks_cut, layers_in_use, cuts_in_use, no_layer, short_refusal, above, node_count, tile_total, limit_refusal, first_short_refusal, missing_rules, start_refusal, IsRefusal, IsStartFault}
use Rattle.rc_engine.specs.Measured.{HaveTooManyNodes, HasTooManyTiles}

within : (most count : ℕ) (what : Quantity) → count ≤ most → above most count what ≡ None
within most count what few = let test : nat_lt most count ≡ false = grind (arith, nat_tests) in ap (λ b. cond b (Some (Limit what)) None) test

past : (most count : ℕ) (what : Quantity) → most < count → above most count what ≡ Some (Limit what)
past most count what many = let test : nat_lt most count ≡ true = grind (arith, nat_tests) in ap (λ b. cond b (Some (Limit what)) None) test

-- ---- the limits

pub limits_hold : (wired : Wired) → node_count wired.nets ≤ 2 ^ 22 → tile_total (drawn_nets wired) ≤ 2 ^ 23 → limit_refusal wired ≡ None
unfolding limit_refusal
limits_hold wired nodes tiles =
    ap (λ o. option_or o (above (2 ^ 23) (tile_total (drawn_nets wired)) Tiles)) (within (2 ^ 22) (node_count wired.nets) Nodes nodes)
    ∙ within (2 ^ 23) (tile_total (drawn_nets wired)) Tiles tiles

pub nodes_refuse : (wired : Wired) (fault : Fault) → HaveTooManyNodes wired.nets fault → IsRefusal (limit_refusal wired) fault
unfolding limit_refusal
nodes_refuse wired (Refused r) too =
    ap (λ o. option_or o (above (2 ^ 23) (tile_total (drawn_nets wired)) Tiles)) (past (2 ^ 22) (node_count wired.nets) Nodes too.1)
    ∙ ap Some (sym too.0)
nodes_refuse wired NoMemory too = tt

pub tiles_refuse : (wired : Wired) (fault : Fault) → node_count wired.nets ≤ 2 ^ 22 → HasTooManyTiles 0 (tile_total (drawn_nets wired)) fault → IsRefusal (limit_refusal wired) fault
unfolding limit_refusal
tiles_refuse wired (Refused r) nodes too =
    let more = too.1 in
    ap (λ o. option_or o (above (2 ^ 23) (tile_total (drawn_nets wired)) Tiles)) (within (2 ^ 22) (node_count wired.nets) Nodes nodes)
    ∙ past (2 ^ 23) (tile_total (drawn_nets wired)) Tiles (omega (arith, more))
    ∙ ap Some (sym too.0)
tiles_refuse wired NoMemory nodes too = tt

-- ---- all together

pub missing_refuses : (wired : Wired) (rules : RuleFile) (r : Refusal) → missing_rules wired rules ≡ Some r → start_refusal wired rules ≡ Some r
unfolding start_refusal
missing_refuses wired rules r is = ap (λ o. option_or o (option_or (limit_refusal wired) (first_short_refusal wired))) is

pub limits_refuse : (wired : Wired) (rules : RuleFile) (fault : Fault) → missing_rules wired rules ≡ None → IsRefusal (limit_refusal wired) fault → IsStartFault wired rules fault
unfolding start_refusal
limits_refuse wired rules (Refused r) none is =
    ap (λ o. option_or o (option_or (limit_refusal wired) (first_short_refusal wired))) none ∙ ap (λ o. option_or o (first_short_refusal wired)) is
limits_refuse wired rules NoMemory none is = tt

pub shorts_refuse : (wired : Wired) (rules : RuleFile) (fault : Fault) → missing_rules wired rules ≡ None → limit_refusal wired ≡ None → IsRefusal (first_short_refusal wired) fault → IsStartFault wired rules fault
unfolding start_refusal
shorts_refuse wired rules (Refused r) none limits is =
    ap (λ o. option_or o (option_or (limit_refusal wired) (first_short_refusal wired))) none ∙ ap (λ o. option_or o (first_short_refusal wired)) limits ∙ is
shorts_refuse wired rules NoMemory none limits is = tt

pub nothing_refuses : (wired : Wired) (rules : RuleFile) → missing_rules wired rules ≡ None → limit_refusal wired ≡ None → first_short_refusal wired ≡ None → start_refusal wired rules ≡ None
unfolding start_refusal
nothing_refuses wired rules none limits clear =
    ap (λ o. option_or o (option_or (limit_refusal wired) (first_short_refusal wired))) none ∙ ap (λ o. option_or o (first_short_refusal wired)) limits ∙ clear

-- ---- layers without rules

pub layer_missing : (wired : Wired) (rules : RuleFile) (o : Option ℕ) (n : ℕ) → o ≡ least_lacking (lacks_block rules) (layers_in_use wired) → o ≡ Some n → Some (no_layer false n) ≡ missing_rules wired rules
unfolding missing_rules
layer_missing wired rules o n is some =
    sym (ap (λ p. option_or (option_map (no_layer false) p) (option_map (no_layer true) (least_lacking (lacks_cut rules) (cuts_in_use wired)))) (sym is ∙ some))

pub cut_missing : (wired : Wired) (rules : RuleFile) (o p : Option ℕ) (n : ℕ) → o ≡ least_lacking (lacks_block rules) (layers_in_use wired) → o ≡ None →
    p ≡ least_lacking (lacks_cut rules) (cuts_in_use wired) → p ≡ Some n → Some (no_layer true n) ≡ missing_rules wired rules
unfolding missing_rules
cut_missing wired rules o p n is none also some =
    sym (ap (λ q. option_or (option_map (no_layer false) q) (option_map (no_layer true) (least_lacking (lacks_cut rules) (cuts_in_use wired)))) (sym is ∙ none)
    ∙ ap (option_map (no_layer true)) (sym also ∙ some))

pub none_missing : (wired : Wired) (rules : RuleFile) (o p : Option ℕ) → o ≡ least_lacking (lacks_block rules) (layers_in_use wired) → o ≡ None →
    p ≡ least_lacking (lacks_cut rules) (cuts_in_use wired) → p ≡ None → None ≡ missing_rules wired rules
unfolding missing_rules
none_missing wired rules o p is none also empty =
    sym (ap (λ q. option_or (option_map (no_layer false) q) (option_map (no_layer true) (least_lacking (lacks_cut rules) (cuts_in_use wired)))) (sym is ∙ none)
    ∙ ap (option_map (no_layer true)) (sym also ∙ empty))

-- ---- shorts

pub short_is : (wired : Wired) (o : Option Short) (s : Short) (r : Refusal) → o ≡ first_short (layout_shapes wired) → o ≡ Some s → r ≡ short_refusal s → first_short_refusal wired ≡ Some r
unfolding first_short_refusal
short_is wired o s r is some same = ap (option_map short_refusal) (sym is ∙ some) ∙ ap Some (sym same)

pub no_short : (wired : Wired) (o : Option Short) → o ≡ first_short (layout_shapes wired) → o ≡ None → first_short_refusal wired ≡ None
unfolding first_short_refusal
no_short wired o is none = ap (option_map short_refusal) (sym is ∙ none)

none_mapped : (o : Option Short) → option_map short_refusal o ≡ None → o ≡ None
none_mapped None none = refl
none_mapped (Some s) none = absurd cc

pub clear_is : (wired : Wired) → first_short_refusal wired ≡ None → first_short (layout_shapes wired) ≡ None
unfolding first_short_refusal
clear_is wired none = none_mapped (first_short (layout_shapes wired)) none

-- ---- where nothing refuses

none_some : (r : Refusal) → Some r ≡ None → ⊥
none_some r h = cc

none_first : (o p : Option Refusal) → option_or o p ≡ None → o ≡ None
none_first None p h = refl
none_first (Some r) p h = absurd cc

pub nothing_missing : (wired : Wired) (rules : RuleFile) → start_refusal wired rules ≡ None → missing_rules wired rules ≡ None
unfolding start_refusal
nothing_missing wired rules none = none_first (missing_rules wired rules) (option_or (limit_refusal wired) (first_short_refusal wired)) none

within_limit : (most count : ℕ) (what : Quantity) → above most count what ≡ None → count ≤ most
within_limit most count what none = by (nat_lt most count) refl
  where
    by : (b : Bool) → nat_lt most count ≡ b → count ≤ most
    by true h = absurd (none_some (Limit what) (sym (ap (λ b. cond b (Some (Limit what)) None) h) ∙ none))
    by false h = grind (arith, nat_tests)

none_second : (o p : Option Refusal) → option_or o p ≡ None → p ≡ None
none_second None p h = h
none_second (Some r) p h = absurd cc

-- the limits hold
pub limits_kept : (wired : Wired) (rules : RuleFile) → start_refusal wired rules ≡ None → (node_count wired.nets ≤ 2 ^ 22) × (tile_total (drawn_nets wired) ≤ 2 ^ 23)
unfolding start_refusal limit_refusal
limits_kept wired rules none =
    let rest = none_second (missing_rules wired rules) (option_or (limit_refusal wired) (first_short_refusal wired)) none in
    let limits = none_first (limit_refusal wired) (first_short_refusal wired) rest in
    let nodes = none_first (above (2 ^ 22) (node_count wired.nets) Nodes) (above (2 ^ 23) (tile_total (drawn_nets wired)) Tiles) limits in
    let tiles = none_second (above (2 ^ 22) (node_count wired.nets) Nodes) (above (2 ^ 23) (tile_total (drawn_nets wired)) Tiles) limits in
    (within_limit (2 ^ 22) (node_count wired.nets) Nodes nodes, within_limit (2 ^ 23) (tile_total (drawn_nets wired)) Tiles tiles)
