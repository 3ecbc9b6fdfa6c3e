-- The LEF files so far are read.
use Rattle.std.proofs.Common.{◌≡◌, ◌≤◌, ◌+◌, ◌^◌, map, take}
use Rattle.std.specs.Prelude.{IsTrue}
use Rattle.std.specs.String.{string_bytes}
use Rattle.rc_cli.specs.Outcome.{Done, technology}
use Rattle.rc_cli.specs.Answers.{shelf}
use Rattle.rc_cli.specs.Work.{Keeps}
use Rattle.rc_cli.proofs.stages.read_technology.Given as goal

abbrev pub invariant-loop-lef : goal.invariant-loop-lef
invariant-loop-lef g l =
    let files = g.F.Files in
    record {
      keeps : Keeps (shelf (files.tells l.fn.files) (files.text l.fn.files) (files.faults l.fn.files)) (shelf (files.tells l.files) (files.text l.files) (files.faults l.files));
      done : IsTrue (files.tells l.fn.files) → technology (files.text l.fn.files) (map string_bytes (take l.lef-index l.lefs)) ≡ Done (l.reader.tech, l.room);
      within : l.reader.bytes + l.room ≤ 2 ^ 30;
    }
