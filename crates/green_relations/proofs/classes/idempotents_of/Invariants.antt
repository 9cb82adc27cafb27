use Rattle.std.proofs.Common.{◌≡◌, ◌<◌, ◌↔◌, ℕ, length}
use Rattle.std.specs.Prelude.{IsTrue}
use Rattle.language_theory.specs.Words.{word_at}
use Rattle.language_theory.specs.Automaton.{is_marked}
use Rattle.language_theory.specs.ShortlexGraph.{SameNode}
use Rattle.monoid_theory.specs.Green.{IsIdempotent}
use Rattle.green_relations.proofs.classes.idempotents_of.Given as goal

abbrev pub invariant-loop-element : goal.invariant-loop-element
invariant-loop-element l =
    (l.element-end ≡ length l.cayley.words)
    × (length l.marks.items ≡ l.element)
    × ((i : ℕ) → i < l.element → IsTrue (is_marked l.marks.items i)
    ↔ IsIdempotent (SameNode l.cayley.right) (word_at l.cayley.words i))
