-- A reply that says that two values differ is that of a comparison.
use Rattle.std.proofs.Common.{◌∙◌, ap, sym, refl, inr}
use Rattle.rc_cli.specs.Outcome.{Done}
use Rattle.rc_cli.proofs.Replies.{is-different}
use Rattle.rc_cli.proofs.top.run.Goals as goal

pub returns-in-Ok-clause-differs : goal.returns-in-Ok-clause-differs
returns-in-Ok-clause-differs g c = λ six.
    let whole = c.tell_reply.ensures.whole (inr six) in
    let differs = is-different c.in-Ok.reply c.tell_reply.result six whole.0 in
    let verifies = c.in-Ok.ensures.differs differs in
    let asks = sym c.from_words.ensures ∙ c.in-Some.is in (
      c.in-Ok.reply.text,
      (c.in-Some.asked, verifies.0, asks, verifies.1),
      (c.in-Some.asked, asks, λ told. c.in-Ok.ensures.done told ∙ ap (λ b. Done (record { text = c.in-Ok.reply.text; differs = b })) differs),
      record {
        out = whole.1;
        err = refl {a = g.E.Sink.written c.args.err.now};
      },
    )
