-- One more net is linked, or one is refused behind those that were.
use Rattle.std.proofs.Common.{◌++◌, ◌∷◌, [], Ok, sym, ap, subst, ◌∙◌, append_assoc}
use Rattle.std.specs.Prelude.{All}
use Rattle.std.specs.Vec.Iter.{into_iter_items}
use Rattle.std.proofs.lemmas.List.Elements.{All-head, All-tail}
use Rattle.rc_def.specs.declared.raw_net.RawNet.{RawNet}
use Rattle.rc_layout.specs.Layouts.{net_linked}
use Rattle.rc_layout.specs.Ranges.{IsParts, IsPath}
use Rattle.rc_layout.proofs.Eaches.{leaves_broken, through_next}
use Rattle.rc_layout.proofs.wired.Wired.add_nets.Goals as goal

pub add_net-requires-clause-paths : goal.add_net-requires-clause-paths
add_net-requires-clause-paths c =
    let have : RawNet → Type 0 = λ raw. All IsPath raw.paths in
    All-head have c.in-Some.raw (into_iter_items c.next.new.self) (subst (All have) c.in-Some.ensures.steps.0 c.loop-raw.invariant.paths)

pub loop-raw-preserved : goal.loop-raw-preserved
loop-raw-preserved c =
    let at = c.loop-raw in
    let x = c.in-Some.raw in
    let rest = into_iter_items c.next.new.self in
    let steps = c.in-Some.ensures.steps.0 in
    record {
      is = through_next (net_linked c.args.specials.now) c.args.self.now at.self (Ok c.add_net.new.self) at.yielded x at.invariant.is (rw c.in-Ok.is at c.add_net.ensures.is);
      left = at.invariant.left ∙ ap (λ l. at.yielded ++ l) steps ∙ sym (append_assoc at.yielded (x ∷ []) rest);
      parts = subst IsParts (sym (rw c.in-Ok.is at c.add_net.ensures.parts)) at.invariant.parts;
      paths = All-tail (λ (raw : RawNet). All IsPath raw.paths) x rest (subst (All (λ (raw : RawNet). All IsPath raw.paths)) steps at.invariant.paths);
    }

pub returns-in-Err : goal.returns-in-Err
returns-in-Err c =
    let at = c.loop-raw in
    let x = c.in-Some.raw in
    let rest = into_iter_items c.next.new.self in
    let split = at.invariant.left ∙ ap (λ l. at.yielded ++ l) c.in-Some.ensures.steps.0 in
    leaves_broken (Unit {0}) (net_linked c.args.specials.now) c.args.self.now at.self c.add_net.new.self c.add_net.new.self c.in-Err.fault c.args.raws at.yielded x rest split at.invariant.is
    (rw c.in-Err.is at c.add_net.ensures.is)
