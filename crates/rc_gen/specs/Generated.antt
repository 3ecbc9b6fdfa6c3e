-- What the texts of a generated design are read as and link to.
use Rattle.std.specs.Prelude.{ℕ, Ok}
use Rattle.rc_keys.specs.declared.code.Code.TheVariants.{E08}
use Rattle.rc_keys.specs.declared.fault.Refusal.TheVariants.{At}
use Rattle.rc_lef.specs.Technology.{Technology, no_technology}
use Rattle.rc_lef.specs.Rows.{lef_outcome}
use Rattle.rc_def.specs.declared.design.RawDesign.{RawDesign}
use Rattle.rc_def.specs.File.{def_outcome}
use Rattle.rc_rules.specs.RuleFile.{RuleFile}
use Rattle.rc_rules.specs.Rows.{rules_outcome}
use Rattle.rc_layout.specs.Layouts.{Wired, linked}
use Rattle.rc_layout.specs.Refusals.{Linked, there, ◌>>=◌}
use Rattle.rc_gen.specs.Texts.{tech_text, design_text, rules_text}

-- rules are read over a technology; one without the units of a micron is refused at the UNITS line of the design
unfoldable pub rules_over : Technology → RawDesign → Linked RuleFile
rules_over tech design =
    there (At E08 design.units_line) tech.units >>= λ units.
    rules_outcome units tech rules_text

-- then the design is linked
unfoldable pub placed : Technology → RawDesign → Linked (Wired × RuleFile)
placed tech design =
    rules_over tech design >>= λ rules.
    linked tech design >>= λ wired.
    Ok (wired, rules)

-- the layout and the rules of a seed and so many rows, in the order in which files are read; or the first refusal
unfoldable pub generated : ℕ → ℕ → Linked (Wired × RuleFile)
generated seed rows =
    lef_outcome no_technology tech_text >>= λ tech.
    def_outcome (design_text seed rows) >>= λ design.
    placed tech design
