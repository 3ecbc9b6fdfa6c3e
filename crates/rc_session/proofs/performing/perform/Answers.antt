-- One more command, or the session is cut off.
use Rattle.std.proofs.Common.{arith, ◌+◌, ◌∙◌, ap, refl, sym, take}
use Rattle.rc_io.specs.Bytes.{grown}
use Rattle.rc_io.proofs.Growth.{grown-nil}
use Rattle.rc_session.specs.Sessions.{Progress, session, answer, written}
use Rattle.rc_session.specs.Cuts.{setting_of, state_of}
use Rattle.rc_session.proofs.Steps.{none_yet, next, written_then, spends, front_at, rose_since}
use Rattle.rc_session.proofs.performing.perform.Goals as goal

pub loop-command-init : goal.loop-command-init
loop-command-init g c =
    let none = none_yet (setting_of c.args.engine.now) (state_of c.args.engine.now) in
    record {
      setting = refl;
      state = ap (λ (p : Progress). p.state) (sym none);
      written = sym (grown-nil (g.O.Sink.written c.args.out.now)) ∙ ap (λ (p : Progress). grown (g.O.Sink.written c.args.out.now) (written p)) (sym none);
      later = omega arith;
      drawn = omega (arith, ap (λ (p : Progress). p.swept) none);
      few = omega arith;
    }

pub returns-in-Err-clause-spent : goal.returns-in-Err-clause-spent
returns-in-Err-clause-spent g c =
    let at = c.loop-command in
    spends (setting_of c.args.engine.now) (setting_of at.engine) (state_of c.args.engine.now) (state_of at.engine) c.args.commands.now at.command-index c.command-item.result
    (g.M.Meter.drawn c.args.meter.now) (g.M.Meter.drawn at.meter) (g.M.Meter.drawn c.answer.new.meter)
    at.invariant.setting at.invariant.state c.loop-command-test.true c.command-item.is at.invariant.drawn c.answer.ensures.most

pub returns-in-Err-write_all-clause-cut : goal.returns-in-Err-write_all-clause-cut
returns-in-Err-write_all-clause-cut g c =
    let at = c.loop-command in (
      rose_since (g.O.Sink.faults c.args.out.now) (g.O.Sink.faults at.out) (g.O.Sink.faults c.write_all.new.sink) at.invariant.later c.in-Err-write_all.ensures.cause.failed,
      front_at (setting_of c.args.engine.now) (setting_of at.engine) (state_of c.args.engine.now) (state_of at.engine) c.args.commands.now at.command-index c.command-item.result
          (g.O.Sink.written c.args.out.now) (g.O.Sink.written at.out) (g.O.Sink.written c.write_all.new.sink) c.bytes.result.now
          at.invariant.setting at.invariant.state c.loop-command-test.true c.command-item.is at.invariant.written (c.bytes.ensures ∙ c.in-Ok.ensures.replies.0) c.in-Err-write_all.ensures.prefix,
    )

pub returns-in-Err-write_all-clause-spent : goal.returns-in-Err-write_all-clause-spent
returns-in-Err-write_all-clause-spent g c =
    let at = c.loop-command in
    spends (setting_of c.args.engine.now) (setting_of at.engine) (state_of c.args.engine.now) (state_of at.engine) c.args.commands.now at.command-index c.command-item.result
    (g.M.Meter.drawn c.args.meter.now) (g.M.Meter.drawn at.meter) (g.M.Meter.drawn c.answer.new.meter)
    at.invariant.setting at.invariant.state c.loop-command-test.true c.command-item.is at.invariant.drawn c.answer.ensures.most

pub loop-command-preserved : goal.loop-command-preserved
loop-command-preserved g c =
    let at = c.loop-command in
    let sofar = session (setting_of c.args.engine.now) (state_of c.args.engine.now) (take at.command-index c.args.commands.now) in
    let given = answer (setting_of at.engine) (state_of at.engine) c.command-item.result in
    let step = next (setting_of c.args.engine.now) (setting_of at.engine) (state_of c.args.engine.now) (state_of at.engine) c.args.commands.now at.command-index c.command-item.result
    at.invariant.setting at.invariant.state c.loop-command-test.true c.command-item.is in
    record {
      setting = c.answer.ensures.setting ∙ at.invariant.setting;
      state = c.in-Ok.ensures.replies.1 ∙ ap (λ (p : Progress). p.state) (sym step);
      written = written_then (g.O.Sink.written c.args.out.now) (g.O.Sink.written at.out) (g.O.Sink.written c.write_all.new.sink) sofar
          (session (setting_of c.args.engine.now) (state_of c.args.engine.now) (take (at.command-index + 1) c.args.commands.now)) given c.bytes.result.now
          at.invariant.written c.in-Ok-write_all.ensures.all (c.bytes.ensures ∙ c.in-Ok.ensures.replies.0) step;
      later = omega (arith, at.invariant.later, c.write_all.ensures.cause.later);
      drawn = omega (arith, at.invariant.drawn, c.in-Ok.ensures.exact, ap (λ (p : Progress). p.swept) step);
      few = omega (arith, at.invariant.few, c.answer.ensures.few);
    }
