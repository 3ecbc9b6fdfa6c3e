use Rattle.std.proofs.Common.{◌≡◌, List}
use Rattle.std.specs.Prelude.{map}
use Rattle.std.specs.BTreeMap.{IsOrdered}
use Rattle.rc_geom.specs.Plane.{plane_of}
use Rattle.rc_squares.specs.declared.entries.Entry.{Entry}
use Rattle.rc_squares.specs.Entries.{entry_of, AreSums}
use Rattle.rc_squares.proofs.Listings.{are_sums, if_ok}
use Rattle.rc_squares.proofs.KeyOrders.{key_order, tells_keys}
use Rattle.rc_squares.proofs.entries.sums_in.Goals as goal

pub returns : goal.returns
returns g c =
    let plane = plane_of c.args.tiles.now in
    let rates = g.R.FaceRates.rates_of c.args.rates.now in
    let after = c.enter_axis-2.new.tally in
    if_ok c.listed.result (λ (list : List Entry). list ≡ map entry_of after.sums.entries) (λ (list : List Entry). IsOrdered key_order after.sums) (λ (list : List Entry). AreSums key_order plane rates c.args.area.now list)
    c.listed.ensures.list c.listed.ensures.ordered
    (λ list is ordered. are_sums key_order plane rates c.args.area.now c.new-tally.result c.enter_axis.new.tally after list tells_keys c.new-tally.ensures.sums c.in_ok-enter_axis.ensures c.in_ok-enter_axis-2.ensures ordered is)
