use Rattle.std.proofs.Common.{◌≡◌, ◌++◌, drop}
use Rattle.expression_theory.specs.Polish as notation
use Rattle.regex_reader.proofs.glushkov.position_letters.Given as goal

abbrev pub invariant-loop-node : goal.invariant-loop-node
invariant-loop-node l = l.letters.items ++ notation.letters (drop l.node-index l.nodes)
    ≡ notation.letters l.nodes
