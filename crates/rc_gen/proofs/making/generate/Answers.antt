-- The technology and the design are read, and then placed.
use Rattle.std.proofs.Common.{Err}
use Rattle.rc_lef.specs.Technology.{no_technology}
use Rattle.rc_lef.specs.Rows.{lef_outcome}
use Rattle.rc_def.specs.File.{def_outcome}
use Rattle.rc_rules.specs.RuleFile.{RuleFile}
use Rattle.rc_layout.specs.Layouts.{Wired}
use Rattle.rc_layout.specs.Refusals.{◌>>=◌}
use Rattle.rc_gen.specs.Texts.{tech_text, design_text}
use Rattle.rc_gen.specs.Generated.{generated, placed}
use Rattle.rc_gen.proofs.Orders.{links_first, links_then}
use Rattle.rc_gen.proofs.making.generate.Goals as goal

pub returns-in-Err : goal.returns-in-Err
unfolding generated
returns-in-Err c =
    links_first {B = Wired × RuleFile} (lef_outcome no_technology tech_text) (λ tech. def_outcome (design_text c.args.seed c.args.rows) >>= λ design. placed tech design) c.in-Err.fault
    (rw c.in-Err.is at c.read_technology.ensures)

pub returns-in-Ok-read_design : goal.returns-in-Ok-read_design
unfolding generated
returns-in-Ok-read_design c =
    links_then {B = Wired × RuleFile} (lef_outcome no_technology tech_text) (λ tech. def_outcome (design_text c.args.seed c.args.rows) >>= λ design. placed tech design) c.in-Ok.tech c.place.result
    (rw c.in-Ok.is at c.read_technology.ensures)
    (links_then {B = Wired × RuleFile} (def_outcome (design_text c.args.seed c.args.rows)) (λ design. placed c.in-Ok.tech design) c.in-Ok-read_design.design c.place.result
    c.in-Ok-read_design.ensures.links c.place.ensures)

pub returns-in-Err-read_design : goal.returns-in-Err-read_design
unfolding generated
returns-in-Err-read_design c =
    links_then {B = Wired × RuleFile} (lef_outcome no_technology tech_text) (λ tech. def_outcome (design_text c.args.seed c.args.rows) >>= λ design. placed tech design) c.in-Ok.tech (Err c.in-Err-read_design.fault)
    (rw c.in-Ok.is at c.read_technology.ensures)
    (links_first {B = Wired × RuleFile} (def_outcome (design_text c.args.seed c.args.rows)) (λ design. placed c.in-Ok.tech design) c.in-Err-read_design.fault c.in-Err-read_design.ensures.links)
