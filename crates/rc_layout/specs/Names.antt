-- Names of entries.
use Rattle.std.specs.Prelude.{◌≡◌, true, []}
use Rattle.rc_keys.specs.Tables.{are_new}
use Rattle.rc_def.specs.Drafts.{name_of_comp, name_of_pin, name_of_rule, name_of_via}
use Rattle.rc_def.specs.Sound.{NamesDiffer}
use Rattle.rc_layout.specs.declared.lists.Lists.{Lists}
use Rattle.rc_layout.specs.declared.lists.RawLists.{RawLists}

-- within each list the names differ
pub record DifferInNames (raw : RawLists) : Type 0 where
  pub vias : NamesDiffer name_of_via raw.vias
  pub rules : NamesDiffer name_of_rule raw.rules
  pub comps : NamesDiffer name_of_comp raw.comps
  pub pins : NamesDiffer name_of_pin raw.pins

-- the same of what they link to, as tables ask it
pub record HaveNames (lists : Lists) : Type 0 where
  pub vias : are_new (λ via. via.name) [] lists.vias ≡ true
  pub rules : are_new (λ rule. rule.name) [] lists.rules ≡ true
  pub comps : are_new (λ comp. comp.name) [] lists.comps ≡ true
  pub ports : are_new (λ port. port.name) [] lists.ports ≡ true
