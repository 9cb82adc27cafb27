use Rattle.std.proofs.Common.{◌≡◌, ◌≤◌, ◌-◌, true, length}
use Rattle.std.specs.Io.KnownBytes.{Consumes}
use Rattle.syn_outside.proofs.reading.read_started.Given as goal

-- the bytes are what was taken of the file, at most `most`, and the file stays started
abbrev pub invariant-pieces : goal.invariant-pieces
invariant-pieces g l =
    let faults = g.F.Files.faults in
    record {
      files : g.F.Files.held l.files ≡ g.F.Files.held l.fn.files;
      started : g.F.Files.ready l.files ≡ true;
      taken : Consumes (g.F.Files.left l.fn.files) (g.F.Files.left l.files) l.bytes.items;
      most : length l.bytes.items ≤ l.most;
      room : length l.piece ≡ 4096;
      count : faults l.fn.files ≤ faults l.files;
    }

abbrev pub decreases-pieces : goal.decreases-pieces
decreases-pieces g l = l.most - length l.bytes.items
