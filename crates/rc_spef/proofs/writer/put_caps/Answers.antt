use Rattle.std.proofs.Common.{ap, sym, ◌∙◌, ◌+◌, [], ◌∷◌}
use Rattle.std.specs.Prelude.{codes, map}
use Rattle.std.specs.List.{enumerate_from}
use Rattle.rc_spef.specs.Text.{lines_text, keyword, cap_line}
use Rattle.rc_spef.proofs.Puts.{puts_is}
use Rattle.rc_spef.proofs.Lines.{put_more, put_whole, numbered_grow, numbered_section_is, numbered_line}
use Rattle.rc_spef.proofs.writer.put_caps.Goals as goal

pub loop-cap-preserved : goal.loop-cap-preserved
loop-cap-preserved g c = record {
  count = ap (λ k. k + 1) c.loop-cap.invariant.count;
  puts = put_more (numbered_grow cap_line) (keyword (codes "*CAP") ∷ []) c.args.caps.now c.loop-cap.cap-index c.cap-item.result c.loop-cap-test.true c.cap-item.is c.loop-cap.invariant.puts (numbered_line cap_line c.loop-cap.number c.loop-cap.cap-index c.cap-item.result c.loop-cap.invariant.count c.put_cap.ensures);
}

pub returns : goal.returns
returns g c =
    puts_is (put_whole (λ xs. map cap_line (enumerate_from 1 xs)) (keyword (codes "*CAP") ∷ []) c.args.caps.now c.loop-cap.cap-index c.loop-cap-test.false c.loop-cap.invariant.puts)
    (ap lines_text (numbered_section_is cap_line (keyword (codes "*CAP") ∷ []) c.args.caps.now (sym c.is_empty.ensures ∙ c.if-is_empty.false)))
