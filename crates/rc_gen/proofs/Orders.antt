-- The first refusal stands; without one, what follows is the answer.
use Rattle.std.proofs.Common.{◌≡◌, ℕ, List, refl, sym, subst, Some, None, Result, Ok, Err}
use Rattle.std.specs.Prelude.{IfSome, IfOk, IfErr}
use Rattle.rc_keys.specs.declared.code.Code.TheVariants.{E08}
use Rattle.rc_keys.specs.declared.fault.Refusal.TheVariants.{At}
use Rattle.rc_lef.specs.declared.units.Units.{Units}
use Rattle.rc_lef.specs.Technology.{Technology}
use Rattle.rc_def.specs.declared.design.RawDesign.{RawDesign}
use Rattle.rc_rules.specs.RuleFile.{RuleFile}
use Rattle.rc_rules.specs.Rows.{rules_outcome}
use Rattle.rc_rules.specs.Reading.{IsRefused}
use Rattle.rc_gen.specs.Texts.{rules_text}
use Rattle.rc_gen.specs.Generated.{rules_over}
use Rattle.rc_keys.specs.declared.fault.Fault.{Fault}
use Rattle.rc_keys.specs.declared.fault.Fault.TheVariants.{Refused, NoMemory}
use Rattle.rc_layout.specs.Refusals.{Linked, Links, ◌>>=◌}

pub links_first : {A B : Type 0} (x : Linked A) (next : A → Linked B) (fault : Fault) → Links {A = A} (Err fault) x → Links {A = B} (Err fault) (x >>= next)
links_first x next (Refused r) is = rw is refl
links_first x next NoMemory is = tt

pub links_then : {A B : Type 0} (x : Linked A) (next : A → Linked B) (a : A) (result : Result B Fault) → x ≡ Ok a → Links result (next a) → Links result (x >>= next)
links_then x next a result is then = subst (λ y. Links result (y >>= next)) (sym is) then

-- rules that are read over a technology with units
pub rules_read : (tech : Technology) (design : RawDesign) (text : List ℕ) (units : Units) (result : Result RuleFile Fault) → text ≡ rules_text → tech.units ≡ Some units →
    IfSome tech.units (λ units. IfOk result (λ rules. rules_outcome units tech text ≡ Ok rules)) → IfSome tech.units (λ units. IfErr result (IsRefused (rules_outcome units tech text))) →
    Links result (rules_over tech design)
unfolding rules_over
rules_read tech design text units (Ok rules) same is read refused = rw (is, sym same) (rw is at read)
rules_read tech design text units (Err (Refused r)) same is read refused = rw (is, sym same) (rw is at refused)
rules_read tech design text units (Err NoMemory) same is read refused = tt

pub rules_lack : (tech : Technology) (design : RawDesign) → tech.units ≡ None → rules_over tech design ≡ Err (At E08 design.units_line)
unfolding rules_over
rules_lack tech design is = rw is refl
