use Rattle.expression_theory.specs.Scan.{classes}
use Rattle.regex_reader.proofs.Between.{IsBetween}
use Rattle.regex_reader.proofs.reading.read_expr.Given as goal

abbrev pub invariant-loop-at : goal.invariant-loop-at
invariant-loop-at l = IsBetween (classes l.letters l.text) l.at l.reader
