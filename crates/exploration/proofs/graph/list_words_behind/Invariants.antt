use Rattle.std.proofs.Common.{◌≡◌, ◌<◌, ◌+◌, ◌*◌, length}
use Rattle.exploration.specs.Listing.{IsListing}
use Rattle.exploration.proofs.graph.list_words_behind.Given as goal

abbrev pub invariant-loop-letter : goal.invariant-loop-letter
invariant-loop-letter l = (l.letter-end ≡ l.graph.letters) × (l.node < length l.words.items)
    × IsListing l.graph (l.node * l.graph.letters + l.letter) l.words.items
