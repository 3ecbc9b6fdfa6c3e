-- One more entry is linked, or one is refused behind those that were.
use Rattle.std.proofs.Common.{◌≡◌, ◌++◌, ◌∷◌, [], List, Ok, sym, ap, subst, ◌∙◌, append_assoc}
use Rattle.std.specs.Vec.Iter.{into_iter_items}
use Rattle.std.specs.Prelude.{All, IfSome}
use Rattle.std.proofs.lemmas.List.Elements.{All-head, All-tail}
use Rattle.rc_def.specs.Forms.{IsMade}
use Rattle.rc_def.specs.declared.entry.RawVia.{RawVia}
use Rattle.rc_lef.specs.declared.via.Via.{Via}
use Rattle.rc_layout.specs.Entries.{link_via}
use Rattle.rc_layout.specs.Refusals.{each}
use Rattle.rc_layout.proofs.Eaches.{each_broken, each_next}
use Rattle.rc_layout.proofs.lists.link_vias.Goals as goal

pub link_via-requires-clause-made : goal.link_via-requires-clause-made
link_via-requires-clause-made c =
    let made : RawVia → Type 0 = λ raw. IfSome raw.made IsMade in
    All-head made c.in-Some.raw (into_iter_items c.next.new.self) (subst (All made) c.in-Some.ensures.steps.0 c.loop-raw.invariant.made)

pub loop-raw-preserved : goal.loop-raw-preserved
loop-raw-preserved c =
    let at = c.loop-raw in
    let x = c.in-Some.raw in
    let rest = into_iter_items c.next.new.self in
    let steps = c.in-Some.ensures.steps.0 in
    let next = each_next (link_via c.args.process.now.layers c.args.factor) at.vias c.in-Ok.via at.yielded x at.invariant.is (rw c.in-Ok.is at c.link_via.ensures) in
    record {
      is = subst (λ (l : List Via). each (link_via c.args.process.now.layers c.args.factor) (at.yielded ++ x ∷ []) ≡ Ok l) (sym c.in-Ok-push.ensures.ok) next;
      left = at.invariant.left ∙ ap (λ l. at.yielded ++ l) steps ∙ sym (append_assoc at.yielded (x ∷ []) rest);
      made = All-tail (λ (raw : RawVia). IfSome raw.made IsMade) x rest (subst (All (λ (raw : RawVia). IfSome raw.made IsMade)) steps at.invariant.made);
    }

pub returns-in-Err : goal.returns-in-Err
returns-in-Err c =
    let at = c.loop-raw in
    let x = c.in-Some.raw in
    let rest = into_iter_items c.next.new.self in
    let split = at.invariant.left ∙ ap (λ l. at.yielded ++ l) c.in-Some.ensures.steps.0 in
    each_broken (link_via c.args.process.now.layers c.args.factor) at.vias c.in-Err.fault c.args.raws at.yielded x rest split at.invariant.is (rw c.in-Err.is at c.link_via.ensures)
