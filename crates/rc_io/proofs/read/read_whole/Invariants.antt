use Rattle.std.proofs.Common.{◌≡◌, ◌<◌, ◌≤◌, ◌++◌, ◌-◌, List, ℕ, Some, length, IsTrue}
use Rattle.rc_io.proofs.read.read_whole.Given as goal

abbrev pub invariant-reads : goal.invariant-reads
invariant-reads g l =
    let files = g.F.Files in
    record {
      tells : files.tells l.files ≡ files.tells l.fn.files;
      same : (n : List ℕ) → files.text l.files n ≡ files.text l.fn.files n;
      begun : files.begun l.files l.name;
      so_far : IsTrue (files.tells l.fn.files) → files.text l.fn.files l.name ≡ Some (l.bytes.items ++ files.rest l.files);
      later : (n : List ℕ) → files.faults l.fn.files n ≤ files.faults l.files n;
      short : length l.bytes.items ≤ l.room;
      asks : 0 < length l.buffer.items;
    }

abbrev pub decreases-reads : goal.decreases-reads
decreases-reads g l = l.room - length l.bytes.items
