use Rattle.std.proofs.Common.{◌∙◌, ap, arith, drop, take}
use Rattle.std.proofs.lemmas.List.{take_rest}
use Rattle.rc_io.specs.Bytes.{grown}
use Rattle.rc_io.proofs.Growth.{grown-take}
use Rattle.rc_io.proofs.write.write_all.Goals as goal

pub loop-at-preserved : goal.loop-at-preserved
loop-at-preserved g c =
    let held = g.K.Sink.written c.args.sink.now in
    let bytes = c.args.bytes.now in
    let next = take c.in-Ok.count (drop c.loop-at.at bytes) in
    record {
      within = omega (arith, c.in-Ok.ensures.count);
      so_far = (rw take_rest at c.in-Ok.ensures.bytes)
          ∙ ap (λ held. grown held next) c.loop-at.invariant.so_far
          ∙ grown-take held bytes c.loop-at.at c.in-Ok.count;
      untouched = λ none. absurd (omega (arith, c.in-Ok.ensures.some));
      later = omega (arith, c.write.ensures.cause.later, c.loop-at.invariant.later);
    }
