use Rattle.std.proofs.Common.{◌≡◌, ◌+◌, Option, ap, refl, ◌∙◌}
use Rattle.std.specs.Prelude.{unwrap_or}
use Rattle.rc_squares.specs.declared.sums.Sum.{Sum}
use Rattle.rc_squares.specs.Found.{part_value}
use Rattle.rc_squares.specs.Tallies.{sum_at}
use Rattle.rc_squares.proofs.Tallies.{enters_part}
use Rattle.rc_squares.proofs.KeyOrders.{key_order, tells_keys}
use Rattle.rc_squares.proofs.tally.Tally.enter.Goals as goal

pub returns : goal.returns
returns c =
    let was : c.unwrap_or-sum.result ≡ sum_at key_order c.args.self.now.sums c.args.part.key =
    c.unwrap_or-sum.ensures ∙ ap (λ (o : Option Sum). unwrap_or o (record { count = 0; value = 0 })) (c.copied.ensures ∙ c.get.ensures.value) in
    enters_part key_order c.args.self.now (record { sums = c.insert.new.self; parts = c.args.self.now.parts + 1 }) (part_value c.args.part) _ tells_keys c.requires.tally c.in_ok-insert.ensures.updates
    (ap (λ (s : Sum). s.count + 1) was) (ap (λ (s : Sum). s.value + c.args.part.amount) was) c.requires.amount refl
