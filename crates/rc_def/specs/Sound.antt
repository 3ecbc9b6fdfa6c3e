-- What holds of every design that was read.
use Rattle.std.specs.Prelude.{◌≢◌, ℕ, List}
use Rattle.std.specs.List.{AllPairs}
use Rattle.rc_def.specs.declared.design.RawDesign.{RawDesign}
use Rattle.rc_def.specs.Drafts.{name_of_via, name_of_rule, name_of_comp, name_of_pin, name_of_net}

abbrev pub NamesDiffer : {T : Type 0} → (T → List ℕ) → List T → Type 0
NamesDiffer called things = AllPairs (λ a b. called a ≢ called b) things

-- within each of its six lists the names differ
pub record IsSound (design : RawDesign) : Type 0 where
  pub vias : NamesDiffer name_of_via design.vias
  pub rules : NamesDiffer name_of_rule design.rules
  pub comps : NamesDiffer name_of_comp design.comps
  pub pins : NamesDiffer name_of_pin design.pins
  pub specials : NamesDiffer name_of_net design.specials
  pub nets : NamesDiffer name_of_net design.nets
