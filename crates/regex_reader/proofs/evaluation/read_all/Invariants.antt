use Rattle.std.proofs.Common.{◌≡◌, ◌≤◌, drop, length}
use Rattle.expression_theory.specs.Polish as notation
use Rattle.regex_reader.specs.Parts.{IsEvaluated}
use Rattle.regex_reader.proofs.evaluation.read_all.Given as goal

abbrev pub invariant-loop-place : goal.invariant-loop-place
invariant-loop-place l = record {
  place : l.place ≤ length l.nodes;
  width : l.marks.width ≡ l.fn.marks.width;
  evaluated : IsEvaluated (notation.trees (drop l.place l.nodes)) l.position l.parts.items l.marks;
}

abbrev pub decreases-loop-place : goal.decreases-loop-place
decreases-loop-place l = l.place
