-- A session that was opened: what its answer says.
use Rattle.std.proofs.Common.{arith, ap, ◌∙◌, refl, sym, inl, inr, ⊎_elim, map}
use Rattle.std.specs.String.{string_bytes}
use Rattle.rc_cli.specs.Answers.{shelf, sinks}
use Rattle.rc_cli.specs.Work.{opened_as}
use Rattle.rc_cli.proofs.Told.{Begun, session-statuses, never, session-asked, session-comes, session-replies, session-cut-text, session-cut-line, session-told, session-drew, session-spent, text_of}
use Rattle.rc_cli.proofs.top.run_session.Goals as goal

pub returns-in-Ok : goal.returns-in-Ok
returns-in-Ok g c =
    let files = g.F.Files in
    let outs = g.O.Sink in
    let errs = g.E.Sink in
    let meter = g.M.Meter in
    let before = (shelf (files.tells c.args.files.now) (files.text c.args.files.now) (files.faults c.args.files.now)) in
    let after = (shelf (files.tells c.open.new.files) (files.text c.open.new.files) (files.faults c.open.new.files)) in
    let w = (sinks (outs.written c.args.out.now) (outs.written c.tell_session.new.out) (errs.written c.args.err.now) (errs.written c.tell_session.new.err)) in
    let words = (map string_bytes c.args.words.now) in
    let asked = c.args.asked.now in
    let script = c.args.script.now in
    let opened = opened_as c.in-Ok.opened in
    let told = c.tell_session.ensures in
    let begun : Begun before words asked script opened = record { asks = c.requires.asked; task = c.requires.script; begins = c.in-Ok.ensures.done; comes = c.in-Ok.ensures.comes } in
    record {
      statuses = session-statuses c.tell_session.result told.status;
      done = λ zero. (text_of opened, session-comes before words asked script opened begun, record { out = told.done zero; err = ap errs.written (told.kept zero) });
      refused = λ two. never c.tell_session.result 2 told.status two (omega arith) (omega arith);
      read_fault = λ three. never c.tell_session.result 3 told.status three (omega arith) (omega arith);
      write_fault = λ four. ⊎_elim
          (λ cut. inl (session-cut-text before w words asked script opened _ _ begun cut.0 cut.1 (ap errs.written cut.2)))
          (λ cut. inr (session-cut-line before after w words asked script opened _ _ begun cut.0 cut.1 cut.2)) (told.cut four);
      memory = λ five. told.told five;
      whole_replies = λ five. inr (session-replies before w words asked script opened begun (told.memory five));
      out_kept = λ either. ⊎_elim (λ two. never c.tell_session.result 2 told.status two (omega arith) (omega arith)) (λ three. never c.tell_session.result 3 told.status three (omega arith) (omega arith)) either;
      out_kept_memory = λ five. inr (session-asked before words asked script opened begun);
      err_kept = λ zero. told.kept zero;
      one_sink = λ four. inr (inr (session-asked before words asked script opened begun));
      complete = λ other asks tells whole no_out no_err. session-told before w words asked other script opened c.tell_session.result begun told.status
          (λ zero. record { out = told.done zero; err = ap errs.written (told.kept zero) })
          (λ four. ⊎_elim (λ cut. no_out cut.0) (λ cut. no_err cut.0) (told.cut four)) asks tells;
      passes = λ zero other asks tells. session-drew before words asked other (meter.drawn c.tell_session.new.meter) (meter.drawn c.args.meter.now) c.requires.asked asks (told.passes zero ∙ c.in-Ok.ensures.passes tells);
      spent = λ other asks tells. session-spent before words asked other (meter.drawn c.tell_session.new.meter) (meter.drawn c.args.meter.now) c.requires.asked asks (omega (arith, told.spent, c.in-Ok.ensures.passes tells));
      least = omega (arith, told.least, c.in-Ok.ensures.least);
    }
