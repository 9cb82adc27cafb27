use Rattle.std.proofs.Common.{◌≡◌, ◌≤◌, ◌++◌, List, ℕ, length}
use Rattle.std.specs.Io.KnownBytes.{Appends}
use Rattle.syn_outside.proofs.writing.put_all.Given as goal

-- what stands before the rest was taken, and the count did not fall
abbrev pub invariant-loop-rest : goal.invariant-loop-rest
invariant-loop-rest g l =
    let written = g.S.Sink.written in
    let faults = g.S.Sink.faults in
    record {
      taken : (prefix : List ℕ) × (prefix ++ l.rest ≡ l.piece)
          × Appends (written l.fn.sink) (written l.sink) prefix;
      count : faults l.fn.sink ≤ faults l.sink;
    }

abbrev pub decreases-loop-rest : goal.decreases-loop-rest
decreases-loop-rest g l = length l.rest
