use Rattle.std.proofs.Common.{◌≡◌, ◌≤◌}
use Rattle.subword_theory.specs.SubwordRows.{width}
use Rattle.piecewise_testable.proofs.subwords.width_within.Given as goal

abbrev pub invariant-loop : goal.invariant-loop
invariant-loop l = record {
  same : l.width ≡ width l.letters l.counter;
  narrow : l.width ≤ 32768;
  within : l.counter ≤ l.level;
}
