-- What the invariant of the tables says in the words of their value.
use Rattle.std.proofs.Common.{◌≡◌, ℕ, List, sym, subst}
use Rattle.cayley_tables.specs.CayleyGraphs.{AreCayleyGraphs}
use Rattle.cayley_tables.specs.Links.{AreLinks, spelled}
use Rattle.cayley_tables.specs.Tables.{Tables, graphs_of, AreTables}
use Rattle.cayley_tables.proofs.Spelling.{links_spell}

-- the tables of a monoid spell its words
pub tables_spell : (t : Tables) (words : List (List ℕ)) → AreTables t words
    → spelled t.links.prefix t.links.last ≡ words
tables_spell t words h =
    links_spell t.letters words t.links
    (subst (λ (m : ℕ). AreLinks t.letters words m t.links) (sym h.shortlex.long) h.links)

pub tables_of_spelled : (t : Tables) (words : List (List ℕ)) → AreTables t words
    → AreTables t (spelled t.links.prefix t.links.last)
tables_of_spelled t words h = subst (AreTables t) (sym (tables_spell t words h)) h

pub tables_are_graphs : (t : Tables) → AreTables t (spelled t.links.prefix t.links.last)
    → AreCayleyGraphs (graphs_of t)
tables_are_graphs t h = record { shortlex = h.shortlex; congruence = h.congruence; left = h.left }
