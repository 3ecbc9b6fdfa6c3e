use Rattle.std.proofs.Common.{◌≡◌, List, ℕ, ◌++◌, false, ap, sym, ◌∙◌, subst, refl}
use Rattle.rc_io.specs.Bytes.{GrewByLess}
use Rattle.rc_spef.specs.Buffering.{Held}
use Rattle.rc_spef.proofs.Puts.{failed_puts}
use Rattle.rc_spef.proofs.buffered.Buffered.put_long.Goals as goal

pub returns-in-Err : goal.returns-in-Err
returns-in-Err g c =
    let W = g.K.Sink.written in
    let on : c.args.self.now.failed ≡ false = sym (ap (λ (held : Held). held.failed) c.self.view_is) ∙ c.if-self.false in
    let text : c.args.bytes.now ≡ c.args.self.now.bytes ++ c.args.bytes.now = ap (λ (held : List ℕ). held ++ c.args.bytes.now) (sym (c.requires on)) in
    failed_puts _ _ c.args.bytes.now on refl (subst (λ (text : List ℕ). GrewByLess (W c.args.sink.now) (W c.write_all.new.sink) text) text c.in-Err.ensures.cut) c.write_all.ensures.cause.later c.in-Err.ensures.cause.failed
