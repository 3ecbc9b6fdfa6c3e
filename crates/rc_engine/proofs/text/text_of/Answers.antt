-- The entries are of nets, and head and blocks are the text.
use Rattle.std.proofs.Common.{List, ℕ, length, ap, sym, subst, ◌∙◌}
use Rattle.std.specs.Prelude.{All}
use Rattle.rc_io.specs.Memory.{GatheredBytes}
use Rattle.rc_tally.specs.declared.entry.Entry.{Entry}
use Rattle.rc_layout.specs.declared.net.Net.{Net}
use Rattle.rc_engine.specs.Brought.{HasNets}
use Rattle.rc_engine.proofs.Engines.{tallies_have_nets}
use Rattle.rc_engine.proofs.Texts.{whole_text}
use Rattle.rc_engine.proofs.text.text_of.Goals as goal

pub positions_of-requires : goal.positions_of-requires
positions_of-requires c =
    subst (λ (ns : List Net). All (λ (tally : List (Entry ℕ)). All (λ (x : Entry ℕ). HasNets (length ns) x.key) tally) c.args.tallies.now) (sym c.nets.ensures)
    (tallies_have_nets c.args.layout.now c.args.rules.now c.args.tallies.now c.requires.sums.totals)

pub returns : goal.returns
returns c =
    whole_text c.args.layout.now c.args.rules.now c.new-pieces.result.bytes c.put_head.new.pieces.bytes c.put_blocks.new.pieces.bytes c.head_and_blocks.ensures
    (ap (λ (p : GatheredBytes). p.bytes) c.new-pieces.ensures) c.in_ok-put_head.ensures c.in_ok-put_blocks.ensures
