-- Left sides of rules by links: which products are reduced, and which are left sides.
use Rattle.std.proofs.Common.{◌≡◌, ◌↔◌, ℕ, ◌+◌, ◌<◌, List, [], ◌∷◌, ◌++◌, length, length-append, refl, ap, sym, subst, ◌∙◌, arith}
use Rattle.language_theory.specs.Words.{word_at}
use Rattle.language_theory.specs.ShortlexGraph.{target, SameNode, IsGraphOf}
use Rattle.language_theory.specs.Representatives.{IsReduced}
use Rattle.language_theory.specs.Links.{IsPrefixLink, IsSuffixLink}
use Rattle.language_theory.proofs.Congruences.{agree_itself}
use Rattle.language_theory.proofs.Graphs.{root_word}
use Rattle.language_theory.proofs.Representatives.{listed_is_reduced}
use Rattle.language_theory.proofs.Links.{prefix_is_one}
use Rattle.monoid_theory.specs.Products.{IsRight}
use Rattle.monoid_theory.proofs.Cayley.{graph_is_right}
use Rattle.monoid_theory.proofs.RulePlaces.{rule_by_places, letter_rule}
use Rattle.cayley_tables.specs.CayleyGraphs.{CayleyGraphs, AreCayleyGraphs}
use Rattle.presentation.specs.RuleLists.{IsRuleOf}

module _ (c : CayleyGraphs) (h : AreCayleyGraphs c) where
  pub own_graph : IsGraphOf c.right.letters (SameNode c.right) c.right c.words
  own_graph = record {
    letters = refl;
    shortlex = h.shortlex;
    nodes = agree_itself c.right.letters (SameNode c.right);
  }

  -- the right graph leads to the place of a word with a letter behind
  pub leads_to_product : (i a : ℕ) → i < length c.words → a < c.right.letters
      → IsRight (SameNode c.right) c.words i a (target c.right i a)
  leads_to_product =
      (graph_is_right c.right.letters (SameNode c.right) c.right c.words own_graph).edge

  -- the empty word has no last letter
  pub empty_is_no_product : (i a r : ℕ) → r ≡ 0 → ¬ (word_at c.words r ≡ word_at c.words i ++ a ∷ [])
  empty_is_no_product i a r none e =
      let empty : word_at c.words r ≡ [] =
      ap (word_at c.words) none ∙ root_word c.right c.words h.shortlex in
      let same : length (word_at c.words i ++ a ∷ []) ≡ 0 = ap length (sym e ∙ empty) in
      let longer : length (word_at c.words i ++ a ∷ []) ≡ length (word_at c.words i) + 1 =
      simp length-append in omega arith

  -- links tell whether the word of r is that of i with a letter behind
  pub product_by_links : (i a r p x q l : ℕ) → i < length c.words → IsPrefixLink c.words r p x
      → IsPrefixLink c.words r q l
      → ((p ≡ i) × (l ≡ a)) ↔ (word_at c.words r ≡ word_at c.words i ++ a ∷ [])
  product_by_links i a r p x q l hi f g = (to, from)
    where
      one : (p ≡ q) × (x ≡ l)
      one = prefix_is_one c.right.letters (SameNode c.right) c.words h.shortlex.least r p x q l f g

      to : (p ≡ i) × (l ≡ a) → word_at c.words r ≡ word_at c.words i ++ a ∷ []
      to (e, d) =
          f.splits ∙ ap (λ (j : ℕ). word_at c.words j ++ x ∷ []) e
          ∙ ap (λ (b : ℕ). word_at c.words i ++ b ∷ []) (one.1 ∙ d)

      from : word_at c.words r ≡ word_at c.words i ++ a ∷ [] → (p ≡ i) × (l ≡ a)
      from e =
          let both = prefix_is_one c.right.letters (SameNode c.right) c.words h.shortlex.least r
          p x i a f (record { whole = f.whole; prefix = hi; splits = e }) in
          (both.0, sym one.1 ∙ both.1)

  -- a word with a letter behind that is the word of its element is no left side
  pub reduced_is_no_left_side : (i a : ℕ) → i < length c.words → a < c.right.letters
      → word_at c.words (target c.right i a) ≡ word_at c.words i ++ a ∷ []
      → ¬ IsRuleOf c (word_at c.words i ++ a ∷ []) (target c.right i a)
  reduced_is_no_left_side i a hi ha e f =
      f.unreduced (subst (IsReduced c.right.letters (SameNode c.right)) e
      (listed_is_reduced c.right.letters (SameNode c.right) c.words h.shortlex.least
      h.congruence.equivalence (target c.right i a) (leads_to_product i a hi ha).place.within))

  -- a letter that is not the word of its element is a left side
  pub letter_is_left_side : (i a : ℕ) → i ≡ 0 → i < length c.words → a < c.right.letters
      → ¬ (word_at c.words (target c.right i a) ≡ word_at c.words i ++ a ∷ [])
      → IsRuleOf c (word_at c.words i ++ a ∷ []) (target c.right i a)
  letter_is_left_side i a none hi ha n =
      let empty : word_at c.words i ≡ [] =
      ap (word_at c.words) none ∙ root_word c.right c.words h.shortlex in
      let r = target c.right i a in
      subst (λ (w : List ℕ). IsRuleOf c (w ++ a ∷ []) r) (sym empty)
      ((letter_rule c.right.letters (SameNode c.right) c.words h.congruence.equivalence
      h.shortlex.least a r ha
      (subst (λ (j : ℕ). IsRight (SameNode c.right) c.words j a r) none
      (leads_to_product i a hi ha))).1
      (λ e. n (e ∙ sym (ap (λ (w : List ℕ). w ++ a ∷ []) empty))))

  -- a longer one is a left side where it is so without its first letter
  pub left_side_by_suffix : (i a b s : ℕ) → a < c.right.letters → IsSuffixLink c.words i b s
      → ¬ (word_at c.words (target c.right i a) ≡ word_at c.words i ++ a ∷ [])
      → (word_at c.words (target c.right s a) ≡ word_at c.words s ++ a ∷ [])
      ↔ IsRuleOf c (word_at c.words i ++ a ∷ []) (target c.right i a)
  left_side_by_suffix i a b s ha link n =
      let both = rule_by_places c.right.letters (SameNode c.right) c.words h.congruence.equivalence
      h.shortlex.least i a (target c.right i a) b s (target c.right s a) ha
      (leads_to_product i a link.whole ha) link (leads_to_product s a link.suffix ha) in
      (λ e. both.1 (n, e), λ f. (both.0 f).1)
