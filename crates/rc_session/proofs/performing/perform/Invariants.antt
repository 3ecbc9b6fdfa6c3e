-- The commands so far are carried out.
use Rattle.std.proofs.Common.{◌≡◌, ◌≤◌, ◌+◌, ◌*◌, ◌^◌, take}
use Rattle.rc_io.specs.Bytes.{grown}
use Rattle.rc_session.specs.Sessions.{session, written}
use Rattle.rc_session.specs.Cuts.{setting_of, state_of}
use Rattle.rc_session.proofs.performing.perform.Given as goal

abbrev pub invariant-loop-command : goal.invariant-loop-command
invariant-loop-command g l =
    let sink = g.O.Sink in
    let meter = g.M.Meter in
    let sofar = session (setting_of l.fn.engine) (state_of l.fn.engine) (take l.command-index l.commands) in
    record {
      setting : setting_of l.engine ≡ setting_of l.fn.engine;
      state : state_of l.engine ≡ sofar.state;
      written : sink.written l.out ≡ grown (sink.written l.fn.out) (written sofar);
      later : sink.faults l.fn.out ≤ sink.faults l.out;
      drawn : meter.drawn l.meter ≡ meter.drawn l.fn.meter + 2 * sofar.swept;
      few : meter.drawn l.meter ≤ meter.drawn l.fn.meter + 2 ^ 21 * l.command-index;
    }
