use Rattle.std.proofs.Common.{◌≤◌}
use Rattle.regex_reader.specs.Marks.{IsCleared}
use Rattle.regex_reader.proofs.marks.Marks.clear_rows.Given as goal

abbrev pub invariant-loop-p : goal.invariant-loop-p
invariant-loop-p l = record {
  start : l.from ≤ l.p;
  cleared : IsCleared l.fn.self l.self l.from l.p;
}
