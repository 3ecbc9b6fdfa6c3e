-- The order of work: each part comes to the same without the file of a name, or it ends at that file.
use Rattle.std.proofs.Common.{ℕ, List}
use Rattle.rc_lef.specs.Technology.{Technology, no_technology}
use Rattle.rc_lef.specs.Rows.{lef_outcome}
use Rattle.rc_def.specs.File.{def_outcome}
use Rattle.rc_rules.specs.Rows.{rules_outcome}
use Rattle.rc_layout.specs.Layouts.{linked}
use Rattle.rc_cli.specs.Command.{Inputs}
use Rattle.rc_cli.specs.Lines.{no_names}
use Rattle.rc_cli.specs.Outcome.{Texts, Course, Done, proceed, settled, read_file, most_bytes, micron, technology, design, ruled, layout}
use Rattle.rc_cli.proofs.Courses.{IsOrderly, orderly-same, orderly-proceed, orderly-read}
use Rattle.rc_cli.proofs.Folds.{orderly-steps}

-- the step of a LEF file
abbrev pub lef_step : Texts → Technology × ℕ → List ℕ → Course (Technology × ℕ)
lef_step texts known name = read_file texts name known.1 (lef_outcome known.0)

pub orderly-technology : (lefs : List (List ℕ)) → IsOrderly (λ texts. technology texts lefs)
unfolding technology
orderly-technology lefs =
    orderly-steps lef_step (λ v name. orderly-read name v.1 (lef_outcome v.0)) lefs (λ texts. Done (no_technology, most_bytes)) (orderly-same (Done (no_technology, most_bytes)))

pub orderly-design : (inputs : Inputs) → IsOrderly (λ texts. design texts inputs)
unfolding design
orderly-design inputs =
    orderly-proceed (λ texts. technology texts inputs.lefs)
    (λ texts known. proceed (read_file texts inputs.def known.1 def_outcome) (λ read. Done (record { tech = known.0; design = read.0; room = read.1 })))
    (orderly-technology inputs.lefs)
    (λ known. orderly-proceed (λ texts. read_file texts inputs.def known.1 def_outcome) (λ texts read. Done (record { tech = known.0; design = read.0; room = read.1 }))
    (orderly-read inputs.def known.1 def_outcome) (λ read. orderly-same (Done (record { tech = known.0; design = read.0; room = read.1 }))))

pub orderly-ruled : (inputs : Inputs) → IsOrderly (λ texts. ruled texts inputs)
unfolding ruled
orderly-ruled inputs =
    orderly-proceed (λ texts. design texts inputs)
    (λ texts drawn. proceed (settled no_names inputs.def (micron drawn)) (λ units.
    proceed (read_file texts inputs.rules drawn.room (rules_outcome units drawn.tech)) (λ read. Done (record { tech = drawn.tech; design = drawn.design; rules = read.0; room = read.1 }))))
    (orderly-design inputs)
    (λ drawn. orderly-proceed (λ texts. settled no_names inputs.def (micron drawn))
    (λ texts units. proceed (read_file texts inputs.rules drawn.room (rules_outcome units drawn.tech)) (λ read. Done (record { tech = drawn.tech; design = drawn.design; rules = read.0; room = read.1 })))
    (orderly-same (settled no_names inputs.def (micron drawn)))
    (λ units. orderly-proceed (λ texts. read_file texts inputs.rules drawn.room (rules_outcome units drawn.tech))
    (λ texts read. Done (record { tech = drawn.tech; design = drawn.design; rules = read.0; room = read.1 }))
    (orderly-read inputs.rules drawn.room (rules_outcome units drawn.tech))
    (λ read. orderly-same (Done (record { tech = drawn.tech; design = drawn.design; rules = read.0; room = read.1 })))))

pub orderly-layout : (inputs : Inputs) → IsOrderly (λ texts. layout texts inputs)
unfolding layout
orderly-layout inputs =
    orderly-proceed (λ texts. ruled texts inputs)
    (λ texts known. proceed (settled no_names inputs.def (linked known.tech known.design)) (λ wired. Done (record { layout = wired; rules = known.rules; room = known.room })))
    (orderly-ruled inputs)
    (λ known. orderly-same (proceed (settled no_names inputs.def (linked known.tech known.design)) (λ wired. Done (record { layout = wired; rules = known.rules; room = known.room }))))
