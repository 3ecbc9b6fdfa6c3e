-- The rules are read, and the design is linked.
use Rattle.std.proofs.Common.{refl, Ok, Err}
use Rattle.rc_rules.specs.RuleFile.{RuleFile}
use Rattle.rc_layout.specs.Layouts.{Wired, linked}
use Rattle.rc_layout.specs.Refusals.{◌>>=◌}
use Rattle.rc_gen.specs.Generated.{placed, rules_over}
use Rattle.rc_gen.proofs.Orders.{links_first, links_then}
use Rattle.rc_gen.proofs.making.place.Goals as goal

pub returns-in-Err : goal.returns-in-Err
unfolding placed
returns-in-Err c =
    links_first {B = Wired × RuleFile} (rules_over c.args.tech c.args.design) (λ rules. linked c.args.tech c.args.design >>= λ wired. Ok (wired, rules)) c.in-Err.fault
    (rw c.in-Err.is at c.read_rules.ensures)

pub returns-in-Err-link : goal.returns-in-Err-link
unfolding placed
returns-in-Err-link c =
    links_then {B = Wired × RuleFile} (rules_over c.args.tech c.args.design) (λ rules. linked c.args.tech c.args.design >>= λ wired. Ok (wired, rules)) c.in-Ok.rules (Err c.in-Err-link.fault)
    (rw c.in-Ok.is at c.read_rules.ensures)
    (links_first {B = Wired × RuleFile} (linked c.args.tech c.args.design) (λ wired. Ok (wired, c.in-Ok.rules)) c.in-Err-link.fault (rw c.in-Err-link.is at c.link.ensures))

pub returns-in-Ok-link : goal.returns-in-Ok-link
unfolding placed
returns-in-Ok-link c = rw (rw c.in-Ok.is at c.read_rules.ensures, rw c.in-Ok-link.is at c.link.ensures) refl
