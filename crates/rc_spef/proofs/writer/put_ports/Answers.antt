use Rattle.std.proofs.Common.{ap, sym, ◌∙◌, [], ◌∷◌, get_or}
use Rattle.std.specs.Prelude.{codes, map}
use Rattle.std.proofs.lemmas.List.{get_or_default}
use Rattle.rc_spef.specs.declared.value.SpefPort.{SpefPort}
use Rattle.rc_spef.specs.declared.value.Dir3.TheVariants.{I}
use Rattle.rc_spef.specs.Text.{lines_text, keyword, port_line}
use Rattle.rc_spef.proofs.Puts.{puts_is}
use Rattle.rc_spef.proofs.Lines.{put_more, put_whole, lines_grow, section_is, one_line}
use Rattle.rc_spef.proofs.writer.put_ports.Goals as goal

pub loop-port-preserved : goal.loop-port-preserved
loop-port-preserved g c =
    let none : SpefPort = record { name = 0; dir = I } in
    let ports = c.args.ports.now in
    let port : SpefPort = get_or ports c.loop-port.port-index none in
    record {
      puts = put_more (lines_grow port_line) ([] ∷ keyword (codes "*PORTS") ∷ []) ports c.loop-port.port-index port c.loop-port-test.true
          (get_or_default ports c.loop-port.port-index none port c.loop-port-test.true) c.loop-port.invariant.puts (one_line port_line port c.put_port.ensures);
    }

pub returns : goal.returns
returns g c =
    puts_is (put_whole (map port_line) ([] ∷ keyword (codes "*PORTS") ∷ []) c.args.ports.now c.loop-port.port-index c.loop-port-test.false c.loop-port.invariant.puts)
    (ap lines_text (section_is port_line ([] ∷ keyword (codes "*PORTS") ∷ []) c.args.ports.now (sym c.is_empty.ensures ∙ c.if-is_empty.false)))
