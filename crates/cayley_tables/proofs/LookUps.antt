-- What look-ups in the tables answer.
use Rattle.std.proofs.Common.{◌≡◌, ℕ, ◌<◌, List, [], ◌++◌, length, refl, ap, sym, subst, ◌∙◌, arith, append-nil}
use Rattle.language_theory.specs.Words.{Over, word_at}
use Rattle.language_theory.specs.Representatives.{IsPlaceOf}
use Rattle.language_theory.specs.ShortlexGraph.{target, walk, node, SameNode, IsGraphOf}
use Rattle.language_theory.specs.Links.{IsSuffixLink}
use Rattle.monoid_theory.specs.Products.{IsProduct}
use Rattle.language_theory.proofs.Shortlex.{over_append}
use Rattle.language_theory.proofs.Congruences.{agree_itself}
use Rattle.language_theory.proofs.Graphs.{walk_append, root_word}
use Rattle.monoid_theory.proofs.Cayley.{node_is_place}
use Rattle.cayley_tables.specs.CayleyGraphs.{CayleyGraphs, AreCayleyGraphs}

module _ (c : CayleyGraphs) (h : AreCayleyGraphs c) where
  own_graph : IsGraphOf c.right.letters (SameNode c.right) c.right c.words
  own_graph = record {
    letters = refl;
    shortlex = h.shortlex;
    nodes =
        agree_itself c.right.letters (SameNode c.right);
  }

  -- the word of element 0 is empty
  pub empty_word : word_at c.words 0 ≡ []
  empty_word = root_word c.right c.words h.shortlex

  -- the words of two elements, put together, lead to their product
  pub product_of_node : (i j r : ℕ) → i < length c.words → j < length c.words
      → node c.right (word_at c.words i ++ word_at c.words j) ≡ r
      → IsProduct (SameNode c.right) c.words i j r
  product_of_node i j r hi hj e =
      let u = word_at c.words i in
      let v = word_at c.words j in
      let over = over_append c.right.letters u v (h.shortlex.least.over i hi)
      (h.shortlex.least.over j hj) in
      record {
        left = hi;
        right = hj;
        place = subst (IsPlaceOf (SameNode c.right) c.words (u ++ v)) e
            (node_is_place c.right.letters (SameNode c.right) c.right c.words own_graph
            (u ++ v) over);
      }

  -- a walk along the word of j from i leads where both words lead
  pub product_begins : (i j : ℕ) → i < length c.words
      → walk c.right i (word_at c.words j) ≡ node c.right (word_at c.words i ++ word_at c.words j)
  product_begins i j hi = let e = h.shortlex.long in
      ap (λ (n : ℕ). walk c.right n (word_at c.words j)) (sym (h.shortlex.leads i (omega arith)))
      ∙ sym (walk_append c.right 0 (word_at c.words i) (word_at c.words j))

  pub product_goes_on : (i a s p : ℕ) → IsSuffixLink c.words i a s
      → walk c.right (target c.right p a) (word_at c.words s) ≡ walk c.right p (word_at c.words i)
  product_goes_on i a s p f = ap (walk c.right p) (sym f.splits)

  -- a word with that of element 0 behind it is the word itself
  pub whole_word : (word : List ℕ) (rest i : ℕ) → rest ≡ 0
      → word ++ word_at c.words rest ≡ word_at c.words i → word ≡ word_at c.words i
  whole_word word rest i none e =
      let empty : word_at c.words rest ≡ [] = ap (word_at c.words) none ∙ empty_word in
      sym (append-nil word) ∙ ap (λ (w : List ℕ). word ++ w) (sym empty) ∙ e

  -- and it is over the letters
  pub whole_word_over : (word : List ℕ) (rest i : ℕ) → i < length c.words → rest ≡ 0
      → word ++ word_at c.words rest ≡ word_at c.words i → Over c.right.letters word
  whole_word_over word rest i hi none e =
      subst (Over c.right.letters) (sym (whole_word word rest i none e))
      (h.shortlex.least.over i hi)
