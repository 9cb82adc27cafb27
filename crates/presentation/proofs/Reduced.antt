-- The word that rewriting leads to.
use Rattle.std.proofs.Common.{◌≡◌, ℕ, List, sym, subst}
use Rattle.language_theory.specs.Words.{Over, word_at}
use Rattle.language_theory.specs.Representatives.{IsPlaceOf}
use Rattle.language_theory.specs.ShortlexGraph.{node, SameNode}
use Rattle.monoid_theory.specs.Presentation.{AreRules, Rewrites}
use Rattle.monoid_theory.proofs.Cayley.{node_is_place}
use Rattle.monoid_theory.proofs.Rewriting.{rewrites_to_listed}
use Rattle.cayley_tables.specs.CayleyGraphs.{CayleyGraphs, AreCayleyGraphs}
use Rattle.presentation.proofs.LeftSides.{own_graph}

module _ (c : CayleyGraphs) (h : AreCayleyGraphs c) (w v : List ℕ) (o : Over c.right.letters w)
    (e : v ≡ word_at c.words (node c.right w)) where
  place : IsPlaceOf (SameNode c.right) c.words w (node c.right w)
  place =
      node_is_place c.right.letters (SameNode c.right) c.right c.words (own_graph c h) w o

  pub least_is_rewritten : (rules : List (List ℕ × ℕ))
      → AreRules c.right.letters (SameNode c.right) c.words rules → Rewrites c.words rules w v
  least_is_rewritten rules r =
      subst (Rewrites c.words rules w) (sym e)
      (rewrites_to_listed c.right.letters (SameNode c.right) c.words h.congruence h.shortlex.least
      rules r w o (node c.right w) place)
