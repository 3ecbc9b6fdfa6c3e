-- A layer's block while it is read.
use Rattle.std.specs.Prelude.{◌*◌, ◌==◌, ◌&&◌, Bool, [], None, is_some, length, nat_le, position}
use Rattle.rc_rules.specs.declared.layer.LayerValues.{LayerValues}
use Rattle.rc_rules.specs.LookUp.{is_for}

-- nothing is read of it
abbrev pub no_values : LayerValues
no_values = record { widths = []; distances = []; resistances = []; pairs = []; rows = [] }

-- each table has its rows, one a width
abbrev pub is_full : LayerValues → Bool
is_full values = length values.rows == length values.pairs * length values.widths

-- it may end where it has widths and distances, and a table for no layers
abbrev pub is_complete : LayerValues → Bool
is_complete values = nat_le 1 (length values.widths) && nat_le 1 (length values.distances) && is_some (position (is_for None None) values.pairs)
