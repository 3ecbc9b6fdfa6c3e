-- The names of each list differ.
use Rattle.rc_layout.proofs.given.tables_of.Goals as goal

pub all_vias-requires-clause-own : goal.all_vias-requires-clause-own
all_vias-requires-clause-own c = c.requires.names.vias

pub all_rules-requires-clause-own : goal.all_rules-requires-clause-own
all_rules-requires-clause-own c = c.requires.names.rules

pub table_of-requires : goal.table_of-requires
table_of-requires c = c.requires.names.comps
