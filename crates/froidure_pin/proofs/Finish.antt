-- What the search has found in the end: the elements, their rows and both graphs.
use Rattle.std.proofs.Common.{◌≡◌, ◌↔◌, ℕ, ◌+◌, ◌*◌, ◌<◌, ◌≤◌, inl, inr, List, ◌∷◌, Some, length, refl, ap, sym, subst, ◌∙◌, arith}
use Rattle.std.specs.Prelude.{slice_index}
use Rattle.std.proofs.lemmas.Bool.{cases_lt}
use Rattle.std.proofs.Math.Nat.{mul-le-mul_right}
use Rattle.language_theory.specs.Words.{Over, word_at}
use Rattle.language_theory.specs.Congruence.{IsCongruence, Agree}
use Rattle.language_theory.proofs.Congruences.{agree_turned, agree_itself}
use Rattle.cayley_tables.proofs.AgreeingGraphs.{agreeing_congruence, agreeing_graphs}
use Rattle.language_theory.specs.Representatives.{IsPlaceOf, HasMoreClasses}
use Rattle.language_theory.specs.ShortlexGraph.{Graph, node, SameNode, IsShortlex, IsGraphOf}
use Rattle.monoid_theory.specs.Products.{IsLeftGraph}
use Rattle.language_theory.proofs.Representatives.{one_list, not_more_classes}
use Rattle.language_theory.proofs.Graphs.{graph_list, same_node_equivalence, row_place}
use Rattle.monoid_theory.proofs.Cayley.{node_is_place}
use Rattle.cayley_tables.specs.CayleyGraphs.{CayleyGraphs, AreCayleyGraphs, AreGraphsOf}
use Rattle.cayley_tables.specs.Links.{LinkLists, AreLinks}
use Rattle.cayley_tables.specs.LeftRows.{AreLeftNumbers}
use Rattle.cayley_tables.specs.Tables.{tables, AreTables}
use Rattle.froidure_pin.specs.Maps.{Maps, SameMap, row_of}
use Rattle.image_rows.specs.Rows.{row_at}
use Rattle.froidure_pin.specs.Rows.{number_of, AreSeen, AreRowsOf}
use Rattle.exploration.proofs.Whole.{search_is_shortlex, node_is_number}
use Rattle.froidure_pin.specs.declared.elements.Progress.{Progress}
use Rattle.froidure_pin.specs.Search.{IsReady, IsComplete}
use Rattle.froidure_pin.proofs.RowLaws.{same_map_congruence, row_at_number, row_image, row_long}

module _ (m : Maps) (rows : List (List ℕ)) (links : LinkLists) (left right : List ℕ)
    (h : IsComplete m rows links left right) where
  abbrev whole : Graph
  whole = record { size = length rows; letters = m.letters; targets = right }

  pub node_congruence : IsCongruence m.letters (SameNode whole)
  node_congruence =
      agreeing_congruence m.letters (SameMap m) (same_map_congruence m h.maps) (SameNode whole)
      (agree_turned m.letters (SameNode whole) (SameMap m) h.graph.nodes)

  -- the graph of its own relation
  own_graph : IsGraphOf m.letters (SameNode whole) whole h.words
  own_graph = record {
    letters = refl;
    shortlex = h.graph.shortlex;
    nodes =
        agree_itself m.letters (SameNode whole);
  }

  left_graph : IsLeftGraph m.letters (SameNode whole) h.words
      (record { size = length rows; letters = m.letters; targets = left })
  left_graph = record {
    size = sym h.graph.shortlex.long;
    letters = refl;
    long = h.long;
    edge = λ i a hi ha.
        let long = h.graph.shortlex.long in
        let inside : i * m.letters + a < length left =
        (let e = h.long in
        omega (arith, row_place i a (length rows) m.letters (omega arith) ha)) in
        let over : Over m.letters (a ∷ word_at h.words i) =
        (ha, h.graph.shortlex.least.over i hi) in
        let one : number_of m rows (a ∷ word_at h.words i)
        ≡ Some (slice_index left (i * m.letters + a)) = h.lefts.leads i a ha inside in
        let other : number_of m rows (a ∷ word_at h.words i)
        ≡ Some (node whole (a ∷ word_at h.words i)) = h.numbers (a ∷ word_at h.words i) over in
        let same_number : node whole (a ∷ word_at h.words i)
        ≡ slice_index left (i * m.letters + a) = cc in
        record {
          within = hi;
          place = subst (IsPlaceOf (SameNode whole) h.words (a ∷ word_at h.words i)) same_number
              (node_is_place m.letters (SameNode whole) whole h.words own_graph
              (a ∷ word_at h.words i) over);
        };
  }

  pub complete_tables : AreTables (tables m.letters right left links) h.words
  complete_tables = record {
    some = h.maps.letter;
    letters = h.maps.letters;
    small = let e = h.linked.prefixes in let f = h.few in omega arith;
    shortlex = subst
        (λ (n : ℕ). IsShortlex (record { size = n; letters = m.letters; targets = right }) h.words)
        (sym h.linked.prefixes) h.graph.shortlex;
    congruence =
        subst (λ (n : ℕ). IsCongruence m.letters
        (SameNode (record { size = n; letters = m.letters; targets = right })))
        (sym h.linked.prefixes) node_congruence;
    left = subst
        (λ (n : ℕ). IsLeftGraph m.letters
        (SameNode (record { size = n; letters = m.letters; targets = right })) h.words
        (record { size = n; letters = m.letters; targets = left }))
        (sym h.linked.prefixes) left_graph;
    links = subst (λ (n : ℕ). AreLinks m.letters h.words n links) (sym h.linked.prefixes) h.linked;
  }

  right_is : (c : CayleyGraphs)
      → c.right ≡ record { size = length links.prefix; letters = m.letters; targets = right }
      → c.right ≡ whole
  right_is c e =
      e ∙ ap (λ (n : ℕ). let d : Graph =
      record { size = n; letters = m.letters; targets = right } in d) h.linked.prefixes

  -- the words of the tables are these
  words_are : (c : CayleyGraphs) → AreCayleyGraphs c
      → c.right ≡ record { size = length links.prefix; letters = m.letters; targets = right }
      → c.words ≡ h.words
  words_are c g e =
      let s : IsShortlex whole c.words =
      subst (λ (d : Graph). IsShortlex d c.words) (right_is c e) g.shortlex in
      one_list m.letters (SameNode whole) c.words h.words
      (same_node_equivalence whole) s.least h.graph.shortlex.least

  pub complete_graphs : (c : CayleyGraphs) → AreCayleyGraphs c
      → c.right ≡ record { size = length links.prefix; letters = m.letters; targets = right }
      → AreGraphsOf m.letters (SameMap m) c
  complete_graphs c g e =
      let f = sym (right_is c e) in
      let letters : c.right.letters ≡ m.letters = ap (λ (d : Graph). d.letters) (right_is c e) in
      let agree : Agree c.right.letters (SameNode c.right) (SameMap m) =
      subst (λ (d : Graph). Agree d.letters (SameNode d) (SameMap m)) f h.graph.nodes in
      subst (λ (n : ℕ). AreGraphsOf n (SameMap m) c) letters (agreeing_graphs (SameMap m) c g agree)

  pub complete_rows : (c : CayleyGraphs) → AreCayleyGraphs c
      → c.right ≡ record { size = length links.prefix; letters = m.letters; targets = right }
      → AreRowsOf m c.words rows
  complete_rows c g e = rw (words_are c g e) (record {
    long = sym h.graph.shortlex.long;
    points = λ i hi. ap length (sym (own i hi)) ∙ row_long m (word_at h.words i);
    each = λ i p hi hp. ap (λ (r : List ℕ). slice_index r p) (sym (own i hi))
        ∙ row_image m (word_at h.words i) p hp;
  })
    where
      own : (i : ℕ) → i < length rows → row_of m (word_at h.words i) ≡ row_at rows i
      own i hi =
          let long = h.graph.shortlex.long in
          row_at_number m rows (word_at h.words i) i
          (h.numbers (word_at h.words i) (h.graph.shortlex.least.over i (omega arith))
          ∙ ap (λ (n : ℕ). Some n) (h.graph.shortlex.leads i hi))

module _ (m : Maps) (rows : List (List ℕ)) (progress : Progress) (targets : List ℕ)
    (h : IsReady m rows progress targets) (seen : AreSeen m rows)
    (all : length targets ≡ length rows * m.letters) where
  all_words : length targets ≡ length h.searched.words * m.letters
  all_words = all ∙ ap (λ (n : ℕ). n * m.letters) (sym h.searched.long)

  abbrev found : Graph
  found = record { size = length rows; letters = m.letters; targets = targets }

  -- the number of a word is the node to which it leads
  all_numbers : (w : List ℕ) → Over m.letters w → number_of m rows w ≡ Some (node found w)
  all_numbers =
      subst (λ (n : ℕ). (w : List ℕ) → Over m.letters w
      → number_of m rows w
      ≡ Some (node (record { size = n; letters = m.letters; targets = targets }) w)) h.searched.long
      (node_is_number m.letters h.searched.words targets h.searched.first all_words
      (number_of m rows) h.searched.nodes)

  all_shortlex : IsShortlex found h.searched.words
  all_shortlex =
      subst (λ (n : ℕ). IsShortlex
      (record { size = n; letters = m.letters; targets = targets }) h.searched.words)
      h.searched.long
      (search_is_shortlex m.letters h.searched.words targets h.searched.first all_words)

  all_nodes : (u v : List ℕ) → Over m.letters u → Over m.letters v → SameNode found u v
      ↔ SameMap m u v
  all_nodes u v ou ov = (
    λ e. (seen.numbered.one u v (node found u) ou ov (all_numbers u ou)).0
        (all_numbers v ov ∙ ap (λ (n : ℕ). Some n) (sym e)),
    λ s. let f : number_of m rows v ≡ Some (node found u) =
        (seen.numbered.one u v (node found u) ou ov (all_numbers u ou)).1 s in let g =
        all_numbers v ov in cc,
  )

  -- the current length is the last one
  pub last_length : 0 < m.letters → progress.to ≡ length rows
  last_length k = elim (cases_lt progress.to (length rows)) [
    | inl o ↦ absurd (let u = h.unfinished in
        omega (
          arith,
          mul-le-mul_right {m = progress.to + 1} {n =
              length rows} m.letters (omega arith),
        ))
    | inr o ↦ (let w = h.within in omega arith)
  ]

  -- with the last left rows everything is found
  pub complete : (left : List ℕ) → length rows ≤ 50000
      → AreLeftNumbers m.letters (number_of m rows) h.searched.words left
      → length left ≡ length rows * m.letters → IsComplete m rows progress.links left targets
  complete left few lefts long = record {
    maps = seen.maps;
    few = few;
    words = h.searched.words;
    graph = record { letters = refl; shortlex = all_shortlex; nodes = record { both = all_nodes } };
    numbers = all_numbers;
    linked = h.linked;
    long = long;
    lefts = lefts;
  }

  -- there are not more classes than elements
  pub not_more : (limit : ℕ) → length rows ≤ limit → ¬ HasMoreClasses m.letters (SameMap m) limit
  not_more limit few (words, many, apart) =
      let list = graph_list m.letters (SameMap m) found h.searched.words
      (record {
        letters = refl;
        shortlex = all_shortlex;
        nodes =
            record { both = all_nodes };
      }) in
      let e = h.searched.long in
      not_more_classes m.letters (SameMap m) h.searched.words list
      (same_map_congruence m seen.maps).equivalence (words, omega arith, apart)
