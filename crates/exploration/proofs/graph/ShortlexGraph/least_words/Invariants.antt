use Rattle.std.proofs.Common.{◌≡◌, ◌*◌}
use Rattle.exploration.specs.Listing.{IsListing}
use Rattle.exploration.proofs.graph.ShortlexGraph.least_words.Given as goal

abbrev pub invariant-loop-node : goal.invariant-loop-node
invariant-loop-node l = (l.node-end ≡ l.self.size)
    × IsListing l.self (l.node * l.self.letters) l.words.items
