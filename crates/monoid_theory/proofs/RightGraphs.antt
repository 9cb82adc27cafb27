-- The right Cayley graph of a right congruence is its shortlex graph.
use Rattle.std.proofs.Common.{◌≡◌, ℕ, ◌+◌, ◌*◌, ◌/◌, ◌%◌, ◌<◌, List, ◌++◌, length, slice_index, slice_index_or, sym, subst, arith}
use Rattle.std.proofs.lemmas.Grind.{get_or_default_zero}
use Rattle.std.proofs.lemmas.Nat.{div-add-mod'}
use Rattle.language_theory.specs.Words.{Over, word_at}
use Rattle.language_theory.specs.Congruence.{IsRightCongruence, Agree}
use Rattle.language_theory.specs.Representatives.{IsPlaceOf, AreRepresentatives}
use Rattle.language_theory.specs.ShortlexGraph.{Graph, node, SameNode, IsGraph, IsGraphOf}
use Rattle.monoid_theory.specs.Products.{IsRightGraph}
use Rattle.language_theory.proofs.Congruences.{agree_turned}
use Rattle.language_theory.proofs.Representatives.{place_is_one, place_of_related, same_place_related, place_of_listed, first_is_empty, list_is_not_empty, agreeing_list}
use Rattle.language_theory.proofs.Graphs.{row_of, row_positive}
use Rattle.monoid_theory.proofs.Cayley.{right_walk}

module _ (k : ℕ) (same : List ℕ → List ℕ → Type 0) (words : List (List ℕ))
    (c : IsRightCongruence k same) (l : AreRepresentatives k same words) (g : Graph)
    (h : IsRightGraph k same words g) where
  -- a word leads from the root to its place
  at : (w : List ℕ) → Over k w → IsPlaceOf same words w (node g w)
  at w o =
      subst (λ (x : List ℕ). IsPlaceOf same words (x ++ w) (node g w))
      (first_is_empty k same words l c.equivalence)
      (right_walk k same words c l g h w 0 (list_is_not_empty k same words l) o)

  nodes : Agree k (SameNode g) same
  nodes = record {
    both = λ u v ou ov. (
      λ e. same_place_related k same words l c.equivalence u v (node g v) ou ov
          (subst (IsPlaceOf same words u) e (at u ou)) (at v ov),
      λ s. place_is_one same words v (node g u) (node g v)
          (place_of_related k same words l c.equivalence u v (node g u) ou ov s (at u ou))
          (at v ov),
    );
  }

  within : (p d : ℕ) → p < length g.targets → slice_index_or g.targets p d < g.size
  within p d b = subst (λ (t : ℕ). t < g.size) (sym (get_or_default_zero g.targets p d b)) inside
    where
      n : ℕ
      n = g.letters

      split : p / n * n + p % n ≡ p
      split = div-add-mod' p n

      in_list : p < g.size * n
      in_list = let e = h.long in omega arith

      row : p / n < g.size
      row = row_of p (p / n) (p % n) g.size n split in_list

      column : p % n < n
      column = let some : 0 < n = row_positive g.size n p in_list in omega arith

      inside : slice_index g.targets p < g.size
      inside =
          let e = h.size in
          let f = h.letters in
          let t = (h.edge (p / n) (p % n) (let r = row in omega arith) (let r = column in
          omega arith)).place.within in
          subst (λ (q : ℕ). slice_index g.targets q < g.size) split (omega arith)

  graph : IsGraph g
  graph =
      record {
        root = let e = h.size in let f = list_is_not_empty k same words l in
            omega arith;
        long = h.long;
        within = within;
      }

  leads : (i : ℕ) → i < length words → node g (word_at words i) ≡ i
  leads i b =
      place_is_one same words (word_at words i) (node g (word_at words i)) i
      (at (word_at words i) (l.over i b)) (place_of_listed k same words l c.equivalence i b)

  pub right_is_graph : IsGraphOf k same g words
  right_is_graph = record {
    letters = h.letters;
    shortlex = record {
      graph = graph;
      long = sym h.size;
      leads = λ i b. leads i (let e = h.size in omega arith);
      least = subst (λ (n : ℕ). AreRepresentatives n (SameNode g) words) (sym h.letters)
          (agreeing_list k same (SameNode g) (agree_turned k (SameNode g) same nodes) words l);
    };
    nodes = nodes;
  }
