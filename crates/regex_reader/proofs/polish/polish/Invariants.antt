use Rattle.std.proofs.Common.{◌≡◌, ◌++◌, length}
use Rattle.expression_theory.specs.Polish as notation
use Rattle.regex_reader.specs.Expressions.{tree_of, waiting_trees}
use Rattle.regex_reader.proofs.polish.polish.Given as goal

abbrev pub invariant-loop-next : goal.invariant-loop-next
invariant-loop-next l = l.nodes.items ++ notation.polish_all (waiting_trees l.waiting.items)
    ≡ notation.polish (tree_of l.fn.expr)

abbrev pub decreases-loop-next : goal.decreases-loop-next
decreases-loop-next l = length (notation.polish_all (waiting_trees l.waiting.items))
