use Rattle.std.proofs.Common.{List, ℕ, [], ap, sym, ◌∙◌, append-nil, subst, refl}
use Rattle.rc_io.specs.Bytes.{GrewByLess}
use Rattle.rc_spef.specs.Buffering.{Held}
use Rattle.rc_spef.proofs.Puts.{failed_puts}
use Rattle.rc_spef.proofs.buffered.Buffered.empty.Goals as goal

pub returns-in-Err-clause-puts : goal.returns-in-Err-clause-puts
returns-in-Err-clause-puts g c =
    let W = g.K.Sink.written in
    let on = sym (ap (λ (held : Held). held.failed) c.self.view_is) ∙ c.if-self.false in
    let text = ap (λ (held : Held). held.bytes) c.self.view_is ∙ sym (append-nil c.args.self.now.bytes) in
    failed_puts _ _ [] on refl (subst (λ (text : List ℕ). GrewByLess (W c.args.sink.now) (W c.write_all.new.sink) text) text c.in-Err.ensures.cut) c.write_all.ensures.cause.later c.in-Err.ensures.cause.failed
