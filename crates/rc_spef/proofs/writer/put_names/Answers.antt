use Rattle.std.proofs.Common.{ap, sym, ◌∙◌, ◌+◌, [], ◌∷◌}
use Rattle.std.specs.Prelude.{codes, map}
use Rattle.std.specs.List.{enumerate_from}
use Rattle.rc_spef.specs.Text.{line_text, lines_text, keyword, name_line}
use Rattle.rc_spef.proofs.Puts.{puts_is}
use Rattle.rc_spef.proofs.Lines.{put_more, put_whole, numbered_grow, numbered_section_is, numbered_line}
use Rattle.rc_spef.proofs.writer.put_names.Goals as goal

pub loop-name-preserved : goal.loop-name-preserved
loop-name-preserved g c = record {
  count = ap (λ k. k + 1) c.loop-name.invariant.count;
  puts = put_more (numbered_grow name_line) ([] ∷ keyword (codes "*NAME_MAP") ∷ []) c.args.names.now c.loop-name.name-index c.name-item.result c.loop-name-test.true c.name-item.is c.loop-name.invariant.puts (numbered_line name_line c.loop-name.number c.loop-name.name-index c.name-item.result c.loop-name.invariant.count (puts_is c.put_name.ensures (ap (λ name. line_text (name_line (c.loop-name.number + 1, name))) c.bytes.ensures)));
}

pub returns : goal.returns
returns g c =
    puts_is (put_whole (λ xs. map name_line (enumerate_from 1 xs)) ([] ∷ keyword (codes "*NAME_MAP") ∷ []) c.args.names.now c.loop-name.name-index c.loop-name-test.false c.loop-name.invariant.puts)
    (ap lines_text (numbered_section_is name_line ([] ∷ keyword (codes "*NAME_MAP") ∷ []) c.args.names.now (sym c.is_empty.ensures ∙ c.if-is_empty.false)))
