use Rattle.std.proofs.Common.{refl, ap, ◌∙◌}
use Rattle.rc_sums.proofs.Enters.{enters_none}
use Rattle.rc_bars.specs.declared.moment.Kind.{Kind}
use Rattle.rc_bars.specs.Cells.{state_at}
use Rattle.rc_bars.specs.Events.{Event}
use Rattle.rc_bars.specs.Events.Event.{Under, Off, On}
use Rattle.rc_bars.specs.Moments.{event_of}
use Rattle.rc_bars.specs.Sweeps.{event_added}
use Rattle.rc_bars.proofs.Looks.{quiet_event}
use Rattle.rc_bars.proofs.step.apply.Goals as goal

pub returns-in-Under-clause-enters : goal.returns-in-Under-clause-enters
returns-in-Under-clause-enters g c =
    let V = g.R.Value.Amount in
    let amount = g.met.R.Value.Amount g.world.𝓛 g.world.𝓜 g.world.𝓡 ((λ s x. x), (λ x. x), (λ x. x), λ x. x) in
    let rates = g.R.Rater.rates_of c.args.rater.now in
    let low = c.args.rows.low in
    let high = c.args.rows.high in
    let places = c.args.places.now in
    let b = c.args.bar.now in
    let s = state_at c.args.bars.now c.args.count c.args.now.now c.args.under.now c.args.top.now in
    enters_none V.adding V.fits V.sound amount.laws c.args.tally.now (event_added V.adding rates low high places s (event_of c.args.kind b)) c.requires.tally
    (λ q. ap (λ (e : Event). event_added V.adding rates low high places s e q) (ap (λ (k : Kind). event_of k b) c.in-Under.is)
    ∙ quiet_event V.adding V.fits V.sound amount.laws rates low high places s (Under b) q (λ k. refl))

pub returns-in-Off-clause-enters : goal.returns-in-Off-clause-enters
returns-in-Off-clause-enters g c =
    let V = g.R.Value.Amount in
    let amount = g.met.R.Value.Amount g.world.𝓛 g.world.𝓜 g.world.𝓡 ((λ s x. x), (λ x. x), (λ x. x), λ x. x) in
    let rates = g.R.Rater.rates_of c.args.rater.now in
    let low = c.args.rows.low in
    let high = c.args.rows.high in
    let places = c.args.places.now in
    let b = c.args.bar.now in
    let s = state_at c.args.bars.now c.args.count c.args.now.now c.args.under.now c.args.top.now in
    enters_none V.adding V.fits V.sound amount.laws c.args.tally.now (event_added V.adding rates low high places s (event_of c.args.kind b)) c.requires.tally
    (λ q. ap (λ (e : Event). event_added V.adding rates low high places s e q) (ap (λ (k : Kind). event_of k b) c.in-Off.is)
    ∙ quiet_event V.adding V.fits V.sound amount.laws rates low high places s (Off b) q (λ k. refl))

pub returns-in-On-clause-enters : goal.returns-in-On-clause-enters
returns-in-On-clause-enters g c =
    let V = g.R.Value.Amount in
    let amount = g.met.R.Value.Amount g.world.𝓛 g.world.𝓜 g.world.𝓡 ((λ s x. x), (λ x. x), (λ x. x), λ x. x) in
    let rates = g.R.Rater.rates_of c.args.rater.now in
    let low = c.args.rows.low in
    let high = c.args.rows.high in
    let places = c.args.places.now in
    let b = c.args.bar.now in
    let s = state_at c.args.bars.now c.args.count c.args.now.now c.args.under.now c.args.top.now in
    enters_none V.adding V.fits V.sound amount.laws c.args.tally.now (event_added V.adding rates low high places s (event_of c.args.kind b)) c.requires.tally
    (λ q. ap (λ (e : Event). event_added V.adding rates low high places s e q) (ap (λ (k : Kind). event_of k b) c.in-On.is)
    ∙ quiet_event V.adding V.fits V.sound amount.laws rates low high places s (On b) q (λ k. refl))
