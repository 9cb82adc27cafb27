-- The table of products of a language's syntactic monoid, and its text.
use Rattle.std.proofs.Common.{◌≡◌, ◌↔◌, ◌<◌, ◌≤◌, ℕ, IsTrue, zero, suc, List, ◌++◌, length, Option, Some, None, refl, ap, sym, ◌∙◌, subst, arith}
use Rattle.std.specs.Prelude.{codes, is_none, is_some, option_map}
use Rattle.std.specs.Fmt.{decimal}
use Rattle.language_theory.specs.Congruence.{Syntactic}
use Rattle.language_theory.specs.ShortlexGraph.{SameNode}
use Rattle.language_theory.specs.Representatives.{AreRepresentatives}
use Rattle.language_theory.proofs.Congruences.{syntactic_congruence}
use Rattle.monoid_theory.proofs.Places.{product_is_one}
use Rattle.cayley_tables.proofs.AgreeingGraphs.{graphs_agree, agreeing_product, graphs_are_cayley}
use Rattle.parallel_table.specs.ProductTables.{ProductTable, cell}
use Rattle.syntactic_monoid.specs.SyntacticMonoid.{SyntacticMonoid, IsSyntacticMonoid}
use Rattle.report_buffer.specs.Texts.{texts_below, separated, gap_before}
use Rattle.report_text.specs.TableSection.{table_text, products_text, section_text}
use Rattle.report_sections.specs.RightAnswers.{AreProducts, IsTableWithin}

-- texts that are the same one by one are the same together
texts_below_same : (f g : ℕ → List ℕ) (n : ℕ) → ((i : ℕ) → i < n → f i ≡ g i)
    → texts_below f n ≡ texts_below g n
texts_below_same f g zero same = refl
texts_below_same f g (suc n) same =
    ap (λ t. t ++ f n) (texts_below_same f g n (λ i h. same i (omega arith)))
    ∙ ap (λ t. texts_below g n ++ t) (same n (omega arith))

separated_same : (gap : List ℕ) (f g : ℕ → List ℕ) (n : ℕ) → ((i : ℕ) → i < n → f i ≡ g i)
    → separated gap f n ≡ separated gap g n
separated_same gap f g zero same = refl
separated_same gap f g (suc n) same =
    ap (λ t. t ++ gap_before gap n ++ f n)
    (separated_same gap f g n (λ i h. same i (omega arith)))
    ∙ ap (λ t. separated gap g n ++ gap_before gap n ++ t) (same n (omega arith))

module _ (same : List ℕ → List ℕ → Type 0) (words : List (List ℕ)) where
  -- two tables of all products have one text
  one_table : (s t : ProductTable) → AreProducts same words s → AreProducts same words t
      → table_text s ≡ table_text t
  one_table s t h k =
      let side : s.side ≡ t.side = h.side ∙ sym k.side in
      let cells : (i j : ℕ) → i < s.side → j < s.side → cell s i j ≡ cell t i j = λ i j p q.
      product_is_one same words i j (cell s i j) (cell t i j) (h.each i j p q)
      (k.each i j (subst (λ (n : ℕ). i < n) side p) (subst (λ (n : ℕ). j < n) side q)) in
      let rows : (i : ℕ) → i < s.side → products_text s i ≡ products_text t i = λ i p.
      ap (λ x. x ++ codes "\n")
      (separated_same (codes " ") (λ j. decimal (cell s i j)) (λ j. decimal (cell t i j)) s.side
      (λ j q. ap decimal (cells i j p q))
      ∙ ap (λ n. separated (codes " ") (λ j. decimal (cell t i j)) n) side) in
      ap (λ n. codes "table " ++ decimal n ++ codes "\n"
      ++ texts_below (products_text s) s.side) side
      ∙ ap (λ x. codes "table " ++ decimal t.side ++ codes "\n" ++ x)
      (texts_below_same (products_text s) (products_text t) s.side rows
      ∙ ap (λ n. texts_below (products_text t) n) side)

  -- two tables within one limit, or none where the limit is passed, have one text
  pub one_section_text : (most : ℕ) (s t : Option ProductTable) → IsTableWithin most same words s
      → IsTableWithin most same words t → section_text s most ≡ section_text t most
  one_section_text most None None h k = refl
  one_section_text most None (Some t) h k = let few = k.0 in absurd (omega (arith, h, few))
  one_section_text most (Some s) None h k = let few = h.0 in absurd (omega (arith, k, few))
  one_section_text most (Some s) (Some t) h k = one_table s t h.1 k.1

  pub one_limit : (most : ℕ) (s t : Option ProductTable) → IsTableWithin most same words s
      → IsTableWithin most same words t → is_none s ≡ is_none t
  one_limit most None None h k = refl
  one_limit most None (Some t) h k = let few = k.0 in absurd (omega (arith, h, few))
  one_limit most (Some s) None h k = let few = h.0 in absurd (omega (arith, k, few))
  one_limit most (Some s) (Some t) h k = refl

-- there is a table exactly within its limit
pub table_within : (most : ℕ) (same : List ℕ → List ℕ → Type 0) (words : List (List ℕ)) {T : Type 0}
    (value : T → ProductTable) (t : Option T)
    → IsTableWithin most same words (option_map value t)
    → IsTrue (is_some t) ↔ (length words ≤ most)
table_within most same words value None h = (λ e. cc, λ l. absurd (omega (arith, h, l)))
table_within most same words value (Some t) h = (λ e. h.0, λ l. refl)

module _ (k : ℕ) (L : List ℕ → Type 0) (m : SyntacticMonoid) (is : IsSyntacticMonoid k L m) where
  -- products in the graphs of the syntactic monoid are those of the syntactic congruence
  products_of_monoid : (t : ProductTable) → AreProducts (SameNode m.graphs.right) m.graphs.words t
      → AreProducts (Syntactic k L) m.graphs.words t
  products_of_monoid t h = record {
    side = h.side;
    each = λ i j p q.
        agreeing_product k (SameNode m.graphs.right) (Syntactic k L) m.graphs.words
        (graphs_agree k (Syntactic k L) (syntactic_congruence k L) m.graphs is.graphs)
        nodes i j (cell t i j) (h.each i j p q);
  }
    where
      nodes : AreRepresentatives k (SameNode m.graphs.right) m.graphs.words
      nodes = subst (λ (n : ℕ). AreRepresentatives n (SameNode m.graphs.right) m.graphs.words)
          is.graphs.right.letters
          (graphs_are_cayley k (Syntactic k L) (syntactic_congruence k L) m.graphs
          is.graphs).shortlex.least

  pub table_of_monoid : (most : ℕ) (t : Option ProductTable)
      → IsTableWithin most (SameNode m.graphs.right) m.graphs.words t
      → IsTableWithin most (Syntactic k L) m.graphs.words t
  table_of_monoid most None h = h
  table_of_monoid most (Some t) h = (h.0, products_of_monoid t h.1)
