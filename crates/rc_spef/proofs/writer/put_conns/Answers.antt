use Rattle.std.proofs.Common.{ap, sym, ◌∙◌, [], ◌∷◌}
use Rattle.std.specs.Prelude.{codes, map}
use Rattle.rc_spef.specs.Text.{lines_text, keyword, conn_line}
use Rattle.rc_spef.proofs.Puts.{puts_is}
use Rattle.rc_spef.proofs.Lines.{put_more, put_whole, lines_grow, section_is, one_line}
use Rattle.rc_spef.proofs.writer.put_conns.Goals as goal

pub loop-conn-preserved : goal.loop-conn-preserved
loop-conn-preserved g c = record {
  puts = put_more (lines_grow conn_line) (keyword (codes "*CONN") ∷ []) c.args.conns.now c.loop-conn.conn-index c.conn-item.result c.loop-conn-test.true c.conn-item.is c.loop-conn.invariant.puts (one_line conn_line c.conn-item.result c.put_conn.ensures);
}

pub returns : goal.returns
returns g c =
    puts_is (put_whole (map conn_line) (keyword (codes "*CONN") ∷ []) c.args.conns.now c.loop-conn.conn-index c.loop-conn-test.false c.loop-conn.invariant.puts)
    (ap lines_text (section_is conn_line (keyword (codes "*CONN") ∷ []) c.args.conns.now (sym c.is_empty.ensures ∙ c.if-is_empty.false)))
