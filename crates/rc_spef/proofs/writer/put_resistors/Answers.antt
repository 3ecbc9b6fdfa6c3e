use Rattle.std.proofs.Common.{ap, sym, ◌∙◌, ◌+◌, [], ◌∷◌}
use Rattle.std.specs.Prelude.{codes, map}
use Rattle.std.specs.List.{enumerate_from}
use Rattle.rc_spef.specs.Text.{lines_text, keyword, resistor_line}
use Rattle.rc_spef.proofs.Puts.{puts_is}
use Rattle.rc_spef.proofs.Lines.{put_more, put_whole, numbered_grow, numbered_section_is, numbered_line}
use Rattle.rc_spef.proofs.writer.put_resistors.Goals as goal

pub loop-resistor-preserved : goal.loop-resistor-preserved
loop-resistor-preserved g c = record {
  count = ap (λ k. k + 1) c.loop-resistor.invariant.count;
  puts = put_more (numbered_grow resistor_line) (keyword (codes "*RES") ∷ []) c.args.resistors.now c.loop-resistor.resistor-index c.resistor-item.result c.loop-resistor-test.true c.resistor-item.is c.loop-resistor.invariant.puts (numbered_line resistor_line c.loop-resistor.number c.loop-resistor.resistor-index c.resistor-item.result c.loop-resistor.invariant.count c.put_resistor.ensures);
}

pub returns : goal.returns
returns g c =
    puts_is (put_whole (λ xs. map resistor_line (enumerate_from 1 xs)) (keyword (codes "*RES") ∷ []) c.args.resistors.now c.loop-resistor.resistor-index c.loop-resistor-test.false c.loop-resistor.invariant.puts)
    (ap lines_text (numbered_section_is resistor_line (keyword (codes "*RES") ∷ []) c.args.resistors.now (sym c.is_empty.ensures ∙ c.if-is_empty.false)))
