use Rattle.std.proofs.Common.{◌≡◌, ◌<◌, length, Some, arith, ap, sym, ◌∙◌}
use Rattle.std.specs.Prelude.{slice_get}
use Rattle.std.proofs.lemmas.Option.{slice_get-get_or}
use Rattle.rc_spef.proofs.writer.net_text.Goals as goal

pub returns : goal.returns
returns g c =
    let net = c.index-items-net.result in
    let within : c.args.net < length c.items.result.now = omega (arith, ap length c.items.ensures, c.requires) in
    let at : slice_get c.args.spef.now.nets c.args.net ≡ Some net =
    ap (λ nets. slice_get nets c.args.net) (sym c.items.ensures) ∙ slice_get-get_or c.items.result.now c.args.net net within ∙ ap (λ net. Some net) (sym c.index-items-net.is) in
    rw at c.block_text.ensures
