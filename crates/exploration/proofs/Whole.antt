-- A whole breadth-first search gives the shortlex graph of the relation "leads to the same state".
use Rattle.std.proofs.Common.{◌≡◌, ◌≢◌, ℕ, ◌+◌, ◌*◌, ◌<◌, ◌≤◌, ◌⊎◌, inl, inr, List, [], ◌∷◌, ◌++◌, Option, Some, length, refl, ap, sym, subst, ◌∙◌, arith, append_assoc}
use Rattle.std.proofs.lemmas.Bool.{cases_lt}
use Rattle.std.proofs.lemmas.List.{append-nil}
use Rattle.language_theory.specs.Words.{Over, ◌⊏◌, word_at}
use Rattle.language_theory.specs.Representatives.{HasMoreClasses}
use Rattle.language_theory.specs.ShortlexGraph.{Graph, IsGraph, IsShortlex, IsGraphOf, node, target}
use Rattle.language_theory.proofs.Shortlex.{over_prefix, over_suffix, shortlex_irrefl, shortlex_asymm, shortlex_append_longer, strong_induction}
use Rattle.language_theory.proofs.Graphs.{row_place, walk_append, node_within}
use Rattle.language_theory.proofs.ShortlexCriterion.{shortlex_by_letters}
use Rattle.language_theory.proofs.Numbers.{pigeonhole}
use Rattle.language_theory.specs.Congruence.{Agree}
use Rattle.exploration.specs.States.{AreNumbered, IsSameMachine}
use Rattle.exploration.specs.Search.{IsBreadthFirst, AreNodes, IsSearched}
use Rattle.exploration.proofs.Places.{row_within}

-- what holds of the empty word, and with each letter behind a word for which it holds, holds of
-- each word
pub letter_by_letter : (P : List ℕ → Type 0) → P [] → ((w : List ℕ) (a : ℕ) → P w → P (w ++ a ∷ []))
    → (w : List ℕ) → P w
letter_by_letter P none one w = from [] w none
  where
    from : (u v : List ℕ) → P u → P (u ++ v)
    from u [] h = subst P (sym (append-nil u)) h
    from u (a ∷ v) h = subst P (append_assoc u (a ∷ []) v) (from (u ++ a ∷ []) v (one u a h))

-- the graph of a search
abbrev pub graph_of : ℕ → ℕ → List ℕ → Graph
graph_of size letters targets = record { size = size; letters = letters; targets = targets }

module _ (k : ℕ) (words : List (List ℕ)) (targets : List ℕ) (h : IsBreadthFirst k words targets)
    (whole : length targets ≡ length words * k) where
  listed : (p a : ℕ) → p < length words → a < k → p * k + a < length targets
  listed p a hp ha = rw whole (row_place p a (length words) k hp ha)

  pub search_is_graph : IsGraph (graph_of (length words) k targets)
  search_is_graph = record { root = h.some; long = whole; within = h.within }

  -- a node's word is that of an earlier node with a letter behind it
  found_earlier : (p a i : ℕ) → p < length words → i < length words
      → word_at words i ≡ word_at words p ++ a ∷ [] → p < i
  found_earlier p a i hp hi e = by (cases_lt p i) (cases_lt i p)
    where
      grows : word_at words p ⊏ word_at words i
      grows = subst (λ (w : List ℕ). word_at words p ⊏ w) (sym e)
          (shortlex_append_longer (word_at words p) a)

      by : (p < i) ⊎ (i ≤ p) → (i < p) ⊎ (p ≤ i) → p < i
      by (inl l) _ = l
      by (inr l) (inl m) =
          absurd (shortlex_asymm (word_at words p) (word_at words i) grows (h.rise i p m hp))
      by (inr l) (inr m) =
          let e : i ≡ p = omega arith in
          absurd (shortlex_irrefl (word_at words p)
          (subst (λ (n : ℕ). word_at words p ⊏ word_at words n) e grows))

  pub word_leads : (i : ℕ) → i < length words
      → node (graph_of (length words) k targets) (word_at words i) ≡ i
  word_leads = strong_induction (λ i. i < length words
      → node (graph_of (length words) k targets) (word_at words i) ≡ i)
      (λ i before hi. step i before hi (cases_lt 0 i))
    where
      g : Graph
      g = graph_of (length words) k targets

      step : (i : ℕ) → ((m : ℕ) → m < i → m < length words → node g (word_at words m) ≡ m)
          → i < length words → (0 < i) ⊎ (i ≤ 0) → node g (word_at words i) ≡ i
      step i before hi (inl l) =
          let f = h.found i l hi in
          let hp : f.0 < length words =
          row_within f.0 f.1 k (length words) (omega (arith, f.3, h.handled)) in
          ap (node g) f.5 ∙ walk_append g 0 (word_at words f.0) (f.1 ∷ [])
          ∙ ap (λ (n : ℕ). target g n f.1) (before f.0 (found_earlier f.0 f.1 i hp hi f.5) hp)
          ∙ f.4
      step i before hi (inr l) =
          let z : 0 ≡ i = omega arith in
          subst (λ (n : ℕ). node g (word_at words n) ≡ n) z (ap (node g) h.root)

  pub search_is_shortlex : IsShortlex (graph_of (length words) k targets) words
  search_is_shortlex = shortlex_by_letters (graph_of (length words) k targets) words search_is_graph
      refl h.over word_leads h.rise h.root (λ i a hi ha. h.least i a ha (listed i a hi ha))

  module _ (number : List ℕ → Option ℕ) (nodes : AreNodes k number words targets) where
    -- the node of a word is the number of its state
    pub node_is_number : (w : List ℕ) → Over k w
        → number w ≡ Some (node (graph_of (length words) k targets) w)
    node_is_number = letter_by_letter (λ w. Over k w → number w ≡ Some (node g w))
        (λ _. ap number (sym h.root) ∙ nodes.own 0 h.some) step
      where
        g : Graph
        g = graph_of (length words) k targets

        step : (w : List ℕ) (a : ℕ) → (Over k w → number w ≡ Some (node g w)) → Over k (w ++ a ∷ [])
            → number (w ++ a ∷ []) ≡ Some (node g (w ++ a ∷ []))
        step w a before o =
            let ow = over_prefix k w (a ∷ []) o in
            let ha : a < k = (over_suffix k w (a ∷ []) o).0 in
            nodes.next (node g w) a w ha (listed (node g w) a (node_within g w search_is_graph ow)
            ha) ow (before ow) ∙ ap (λ (n : ℕ). Some n) (sym (walk_append g 0 w (a ∷ [])))

-- what a whole search gives: the graph of the relation, whose nodes are the states' numbers
pub record IsWhole (k : ℕ) (same : List ℕ → List ℕ → Type 0) (number : List ℕ → Option ℕ)
    (g : Graph) : Type 0 where
  pub words : List (List ℕ)
  pub graph : IsGraphOf k same g words
  pub numbers : (w : List ℕ) → Over k w → number w ≡ Some (node g w)

whole_graph : (k : ℕ) (same later : List ℕ → List ℕ → Type 0) (number : List ℕ → Option ℕ)
    (count : ℕ) (targets : List ℕ) → Agree k same later → AreNumbered k later number count
    → (h : IsSearched k number count targets) → length targets ≡ length h.words * k
    → IsWhole k same number (graph_of (length h.words) k targets)
whole_graph k same later number count targets agree now h whole = record {
  words = h.words;
  graph = record {
    letters = refl;
    shortlex = search_is_shortlex k h.words targets h.first whole;
    nodes = record {
      both = λ u v ou ov. (
        λ e. (agree.both u v ou ov).1 (forward u v ou ov e),
        λ s. back u v ou ov ((agree.both u v ou ov).0 s),
      );
    };
  };
  numbers = numbers;
}
  where
    g : Graph
    g = graph_of (length h.words) k targets

    numbers : (w : List ℕ) → Over k w → number w ≡ Some (node g w)
    numbers = node_is_number k h.words targets h.first whole number h.nodes

    forward : (u v : List ℕ) → Over k u → Over k v → node g u ≡ node g v → later u v
    forward u v ou ov e = (now.one u v (node g u) ou ov (numbers u ou)).0
        (numbers v ov ∙ ap (λ (n : ℕ). Some n) (sym e))

    back : (u v : List ℕ) → Over k u → Over k v → later u v → node g u ≡ node g v
    back u v ou ov s = let e : number v ≡ Some (node g u) =
        (now.one u v (node g u) ou ov (numbers u ou)).1 s in let f = numbers v ov in cc

-- the same of the graph that a program has made of the search
pub search_is_whole : (k l : ℕ) (same later : List ℕ → List ℕ → Type 0) (number : List ℕ → Option ℕ)
    (count size letters : ℕ) (targets : List ℕ) (g : Graph) → g ≡ graph_of size letters targets
    → size ≡ count → letters ≡ l → IsSameMachine k l same later → AreNumbered l later number count
    → IsSearched k number count targets → length targets ≡ count * k → IsWhole k same number g
search_is_whole k l same later number count size letters targets g is e f machine now h whole =
    let long : length targets ≡ length h.words * k = rw h.long whole in
    let made : graph_of (length h.words) k targets ≡ g =
    ap (λ (n : ℕ). graph_of n k targets) (h.long ∙ sym e)
    ∙ ap (λ (n : ℕ). graph_of size n targets) (sym (f ∙ machine.letters)) ∙ sym is in
    let numbered = subst (λ (m : ℕ). AreNumbered m later number count) machine.letters now in
    subst (IsWhole k same number) made
    (whole_graph k same later number count targets machine.same numbered h long)

-- there are not more classes than nodes
pub not_more_than_nodes : (k : ℕ) (same : List ℕ → List ℕ → Type 0) (number : List ℕ → Option ℕ)
    (g : Graph) (limit : ℕ) → IsWhole k same number g → g.size ≤ limit
    → ¬ HasMoreClasses k same limit
not_more_than_nodes k same number g limit h small (words, many, apart) =
    omega (arith, pigeonhole (length words) g.size (λ i. node g (word_at words i)) within other)
  where
    within : (i : ℕ) → i < length words → node g (word_at words i) < g.size
    within i hi = let e = h.graph.letters in let s = h.graph.shortlex in
        let o : Over g.letters (word_at words i) =
        subst (λ (n : ℕ). Over n (word_at words i)) (sym e) (apart.over i hi) in
        let place = s.least.place (word_at words i) o in
        let at : place.0 ≡ node g (word_at words i) =
        sym (s.leads place.0 (omega (arith, s.long, place.1.within))) ∙ place.1.related in
        omega (arith, s.long, place.1.within)

    other : (i j : ℕ) → i < j → j < length words
        → node g (word_at words i) ≢ node g (word_at words j)
    other i j hij hj e = apart.apart i j hij hj
        ((h.graph.nodes.both (word_at words i) (word_at words j) (apart.over i (omega arith))
        (apart.over j hj)).0 e)
