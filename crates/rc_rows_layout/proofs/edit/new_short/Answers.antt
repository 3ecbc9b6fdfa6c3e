use Rattle.rc_rows_layout.proofs.Few.{few_items}
use Rattle.rc_rows_layout.proofs.edit.new_short.Goals as goal

pub short_with-requires-clause-new : goal.short_with-requires-clause-new
short_with-requires-clause-new c = few_items c.args.layout.now c.args.net c.args.new.now c.requires.net c.requires.fits
