use Rattle.std.proofs.Common.{◌≡◌, ◌<◌, ◌++◌, length}
use Rattle.language_theory.specs.Words.{word_at}
use Rattle.language_theory.specs.ShortlexGraph.{walk, node}
use Rattle.cayley_tables.proofs.cayley.Cayley.product.Given as goal

abbrev pub invariant-loop-rest : goal.invariant-loop-rest
invariant-loop-rest l =
    (l.product < length l.self.words)
    × (l.rest < length l.self.words)
    × (walk l.self.right l.product (word_at l.self.words l.rest)
    ≡ node l.self.right (word_at l.self.words l.i ++ word_at l.self.words l.j))

abbrev pub decreases-loop-rest : goal.decreases-loop-rest
decreases-loop-rest l = l.rest
