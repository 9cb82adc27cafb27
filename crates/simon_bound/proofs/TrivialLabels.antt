-- A monoid is J-trivial where each element is the label of its class.
use Rattle.std.proofs.Common.{◌≡◌, ◌↔◌, ℕ, ◌<◌, List, length, slice_index, sym, ◌∙◌}
use Rattle.language_theory.specs.Words.{Over, word_at}
use Rattle.language_theory.specs.ShortlexGraph.{SameNode}
use Rattle.monoid_theory.specs.Green.{IsJ, IsJTrivial}
use Rattle.monoid_theory.proofs.Ideals.{j_equivalence, h_of_related, r_in_j}
use Rattle.monoid_theory.proofs.Trivial.{trivial_by_listed}
use Rattle.cayley_tables.specs.CayleyGraphs.{CayleyGraphs, AreCayleyGraphs}
use Rattle.green_relations.specs.GreenClasses.{GreenClasses, AreGreens}
use Rattle.green_relations.proofs.Labels.{j_shared}

pub trivial_by_labels : (c : CayleyGraphs) → AreCayleyGraphs c → (g : GreenClasses)
    → AreGreens c.right.letters (SameNode c.right) c.words g
    → ((x : ℕ) → x < length c.words → slice_index g.j x ≡ x)
    ↔ IsJTrivial c.right.letters (SameNode c.right)
trivial_by_labels c h g a = (
  λ own. listed.1 (λ x y bx by j. sym (own x bx) ∙ ((shared x y bx by).1 j ∙ own y by)),
  λ t x b. listed.0 t (slice_index g.j x) x (a.j.within x b) b (a.j.related x b),
)
  where
    wider : (s t : List ℕ) → Over c.right.letters s → Over c.right.letters t
        → SameNode c.right s t → IsJ c.right.letters (SameNode c.right) s t
    wider s t os ot e = r_in_j c.right.letters (SameNode c.right) s t
        (h_of_related c.right.letters (SameNode c.right) h.congruence.equivalence s t os ot e).0

    listed : IsJTrivial c.right.letters (SameNode c.right)
        ↔ ((i j : ℕ) → i < length c.words → j < length c.words
        → IsJ c.right.letters (SameNode c.right) (word_at c.words i) (word_at c.words j) → i ≡ j)
    listed = trivial_by_listed c.right.letters (SameNode c.right)
        (IsJ c.right.letters (SameNode c.right)) c.words h.congruence.equivalence h.shortlex.least
        (j_equivalence c.right.letters (SameNode c.right) h.congruence) wider

    shared : (x y : ℕ) → x < length c.words → y < length c.words
        → (slice_index g.j x ≡ slice_index g.j y)
        ↔ IsJ c.right.letters (SameNode c.right) (word_at c.words x) (word_at c.words y)
    shared = j_shared c.right.letters (SameNode c.right) c.words h.congruence h.shortlex.least g a
