-- One more entry is linked, or one is refused behind those that were.
use Rattle.std.proofs.Common.{◌≡◌, ◌++◌, ◌∷◌, [], List, Ok, sym, ap, subst, ◌∙◌, append_assoc}
use Rattle.std.specs.Vec.Iter.{into_iter_items}
use Rattle.rc_layout.specs.declared.part.Rule.{Rule}
use Rattle.rc_layout.specs.Entries.{link_rule}
use Rattle.rc_layout.specs.Refusals.{each}
use Rattle.rc_layout.proofs.Eaches.{each_broken, each_next}
use Rattle.rc_layout.proofs.lists.link_rules.Goals as goal

pub loop-raw-preserved : goal.loop-raw-preserved
loop-raw-preserved c =
    let at = c.loop-raw in
    let x = c.in-Some.raw in
    let rest = into_iter_items c.next.new.self in
    let steps = c.in-Some.ensures.steps.0 in
    let next = each_next (link_rule c.args.process.now.layers c.args.factor) at.rules c.in-Ok.rule at.yielded x at.invariant.is (rw c.in-Ok.is at c.link_rule.ensures) in
    record {
      is = subst (λ (l : List Rule). each (link_rule c.args.process.now.layers c.args.factor) (at.yielded ++ x ∷ []) ≡ Ok l) (sym c.in-Ok-push.ensures.ok) next;
      left = at.invariant.left ∙ ap (λ l. at.yielded ++ l) steps ∙ sym (append_assoc at.yielded (x ∷ []) rest);
    }

pub returns-in-Err : goal.returns-in-Err
returns-in-Err c =
    let at = c.loop-raw in
    let x = c.in-Some.raw in
    let rest = into_iter_items c.next.new.self in
    let split = at.invariant.left ∙ ap (λ l. at.yielded ++ l) c.in-Some.ensures.steps.0 in
    each_broken (link_rule c.args.process.now.layers c.args.factor) at.rules c.in-Err.fault c.args.raws at.yielded x rest split at.invariant.is (rw c.in-Err.is at c.link_rule.ensures)
