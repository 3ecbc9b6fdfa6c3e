-- What an edit leads to, and what refuses it.
use Rattle.std.proofs.Common.{◌≡◌, ◌<◌, ◌+◌, ◌-◌, ◌^◌, ℕ, zero, suc, List, [], ◌∷◌, length, refl, ap, sym, ◌∙◌, arith}
use Rattle.std.specs.Prelude.{Some, None, Ok, Err, nat_le, slice_get}
use Rattle.rc_keys.specs.declared.code.Quantity.TheVariants.{Shapes}
use Rattle.rc_keys.specs.declared.fault.Fault.{Fault}
use Rattle.rc_keys.specs.declared.fault.Fault.TheVariants.{Refused, NoMemory}
use Rattle.rc_keys.specs.declared.fault.Refusal.TheVariants.{Limit}
use Rattle.rc_wire.specs.declared.path.RawPath.{RawPath}
use Rattle.rc_rules.specs.RuleFile.{RuleFile}
use Rattle.rc_layout.specs.declared.net.Net.{Net}
use Rattle.rc_layout.specs.declared.parts.Parts.{Parts}
use Rattle.rc_layout.specs.Entries.{net_rule}
use Rattle.rc_layout.specs.Layouts.{Wired, net_anew, net_with, with_put, with_wiring, shape_count}
use Rattle.rc_layout.specs.Paths.{paths_drawn}
use Rattle.rc_layout.specs.Refusals.{Linked, Links, unless, ◌>>=◌, ◌>>◌}
use Rattle.rc_layout.proofs.FactsChains.{same_ok, bound, passed}
use Rattle.rc_windows.specs.declared.frame.Frame.{Frame}
use Rattle.rc_engine.specs.Start.{start_refusal, IsRefusal, IsStartFault}
use Rattle.rc_engine.specs.Edits.{with_paths, edited, refusal_of, edit_refusal, touched_between, touched_to, edit_windows}

pub found_net : (nets : List Net) (i : ℕ) → i < length nets → (net : Net) × (slice_get nets i ≡ Some net)
found_net [] i within = absurd (omega (arith, within))
found_net (net ∷ nets) zero within = (net, refl)
found_net (net ∷ nets) (suc i) within = found_net nets i (omega (arith, within))

-- ---- the layout with the paths

pub edited_is : (wired : Wired) (number : ℕ) (paths : List RawPath) (old : Net) (linked : Linked Net) → slice_get wired.nets number ≡ Some old → net_with wired old paths ≡ linked →
    edited wired number paths ≡ (linked >>= λ new. Ok (with_put wired number new))
unfolding edited
edited_is wired number paths old linked there is = ap (with_paths wired number paths) there ∙ ap (λ (l : Linked Net). l >>= λ new. Ok (with_put wired number new)) is

anew_conns : (parts : Parts) (shapes : ℕ) (old net : Net) (paths : List RawPath) → net_anew parts shapes old paths ≡ Ok net → net.conns ≡ old.conns
unfolding net_anew
anew_conns parts shapes old net paths e =
    let (rule, ruled, more) =
    bound (net_rule parts old.line old.rule)
    (λ rule. paths_drawn parts rule paths >>= λ w. unless (nat_le (shapes - length old.items + length w.items) (2 ^ 22)) (Limit Shapes) >> Ok (with_wiring old w)) net e in
    let (w, drew, more') =
    bound (paths_drawn parts rule paths) (λ w. unless (nat_le (shapes - length old.items + length w.items) (2 ^ 22)) (Limit Shapes) >> Ok (with_wiring old w)) net more in
    let limit = passed (nat_le (shapes - length old.items + length w.items) (2 ^ 22)) (Limit Shapes) (Ok (with_wiring old w)) net more' in
    sym (ap (λ (n : Net). n.conns) (same_ok (with_wiring old w) net limit.1))

-- other paths leave the connections
pub conns_stay : (wired : Wired) (old net : Net) (paths : List RawPath) → net_with wired old paths ≡ Ok net → net.conns ≡ old.conns
conns_stay wired old net paths is = anew_conns wired.parts (shape_count wired.nets + shape_count wired.grounded) old net paths is

-- ---- what refuses it

pub paths_refuse : (wired : Wired) (rules : RuleFile) (number : ℕ) (paths : List RawPath) (old : Net) (fault : Fault) → slice_get wired.nets number ≡ Some old → Links {A = Net} (Err fault) (net_with wired old paths) →
    IsRefusal (edit_refusal wired rules number paths) fault
unfolding edit_refusal
paths_refuse wired rules number paths old (Refused r) there is = ap (refusal_of rules) (edited_is wired number paths old (Err r) there is)
paths_refuse wired rules number paths old NoMemory there is = tt

pub start_refuses : (wired after : Wired) (rules : RuleFile) (number : ℕ) (paths : List RawPath) (fault : Fault) → edited wired number paths ≡ Ok after → IsStartFault after rules fault → IsRefusal (edit_refusal wired rules number paths) fault
unfolding edit_refusal
start_refuses wired after rules number paths (Refused r) is fault = ap (refusal_of rules) is ∙ fault
start_refuses wired after rules number paths NoMemory is fault = tt

pub nothing_refuses_edit : (wired after : Wired) (rules : RuleFile) (number : ℕ) (paths : List RawPath) → edited wired number paths ≡ Ok after → start_refusal after rules ≡ None → edit_refusal wired rules number paths ≡ None
unfolding edit_refusal
nothing_refuses_edit wired after rules number paths is none = ap (refusal_of rules) is ∙ none

-- ---- the windows

pub edit_windows_are : (frame : Frame) (wired after : Wired) (number : ℕ) (paths : List RawPath) → edited wired number paths ≡ Ok after → edit_windows frame wired number paths ≡ touched_between frame wired after number
unfolding edit_windows
edit_windows_are frame wired after number paths is = ap (touched_to frame wired number) is
