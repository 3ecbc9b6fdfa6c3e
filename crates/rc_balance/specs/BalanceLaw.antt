-- Each extraction is balanced. The law is the contract of a function of src/lib.rt.
use Rattle.rc_rules.specs.RuleFile.{RuleFile}
use Rattle.rc_layout.specs.Layouts.{Wired}
use Rattle.rc_spef.specs.Balance.{IsBalanced}
use Rattle.rc_engine.specs.Extraction.{extraction}

-- whatever the layout and the rules
abbrev pub ExtractionsAreBalanced : Type 0
ExtractionsAreBalanced = (wired : Wired) (rules : RuleFile) → IsBalanced (extraction wired rules)
