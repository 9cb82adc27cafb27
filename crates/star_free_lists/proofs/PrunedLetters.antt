-- The letters of a pruned list are among those of the list.
use Rattle.std.proofs.Common.{◌≡◌, ℕ, ◌<◌, List, length, slice_index, inl, inr, ap, arith, subst}
use Rattle.std.proofs.lemmas.Bool.{cases_lt}
use Rattle.std.proofs.lemmas.List.{get_or_past}
use Rattle.star_free_theory.specs.declared.nodes.SfNode.{SfNode}
use Rattle.star_free_theory.specs.declared.nodes.SfNode.TheVariants as node
use Rattle.star_free_theory.specs.Pruning.{IsPruning, IsRenumbered, node_at}
use Rattle.star_free_lists.specs.SfList.{AreLettersBelow}

module _ (k : ℕ) where
  renumbered_letter : (kept : List ℕ) (x : SfNode) (a : ℕ) → IsRenumbered kept x (node.Letter a)
      → x ≡ node.Letter a
  renumbered_letter kept (node.Letter b) a h = ap node.Letter h
  renumbered_letter kept node.Empty a h = absurd h
  renumbered_letter kept node.Eps a h = absurd h
  renumbered_letter kept (node.Not i) a h = absurd h
  renumbered_letter kept (node.Cat i j) a h = absurd h
  renumbered_letter kept (node.Or i j) a h = absurd h
  renumbered_letter kept (node.And i j) a h = absurd h

  pub letters_pruned : (list : List SfNode) (root : ℕ) (kept : List ℕ) (pruned : List SfNode)
      (place : ℕ) → AreLettersBelow k list → IsPruning list root kept pruned place
      → AreLettersBelow k pruned
  letters_pruned list root kept pruned place h p n a e = elim (cases_lt n (length kept)) [
    | inl l ↦ h (slice_index kept n) a (renumbered_letter kept (node_at list (slice_index kept n)) a
        (subst (λ (y : SfNode). IsRenumbered kept (node_at list (slice_index kept n)) y) e
        (p.node n l)))
    | inr l ↦ let long = p.long in
        let none : node_at pruned n ≡ node.Empty = get_or_past pruned n node.Empty
        (omega (arith, l, long)) in cc
  ]
