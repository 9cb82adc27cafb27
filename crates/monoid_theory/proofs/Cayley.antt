-- Walks in the Cayley graphs are products with words, and ideals are what walks lead to; each word
-- but the empty one has a prefix and a suffix in the list.
use Rattle.std.proofs.Common.{◌≡◌, ◌↔◌, ℕ, ◌<◌, List, [], ◌∷◌, ◌++◌, length, reverse, sym, ap, subst, ◌∙◌, arith, append_assoc, append-nil}
use Rattle.std.proofs.lemmas.List.{reverse-append, reverse-reverse}
use Rattle.language_theory.specs.Words.{Over, word_at}
use Rattle.language_theory.specs.Congruence.{IsRightCongruence, IsCongruence}
use Rattle.language_theory.specs.Representatives.{IsPlaceOf, AreRepresentatives}
use Rattle.language_theory.specs.ShortlexGraph.{Graph, target, walk, node, IsGraphOf}
use Rattle.monoid_theory.specs.Products.{IsRightGraph, IsLeftGraph}
use Rattle.monoid_theory.specs.Green.{IsInRightIdeal, IsInLeftIdeal, IsInIdeal}
use Rattle.language_theory.proofs.Shortlex.{over_append, over_last}
use Rattle.language_theory.proofs.Representatives.{place_of_related}
use Rattle.language_theory.proofs.Congruences.{right_congruence}
use Rattle.language_theory.proofs.Representatives.{place_of_listed}
use Rattle.language_theory.proofs.Graphs.{node_within, walk_append, graph_list}

pub reverse_first : (a : ℕ) (w : List ℕ) → reverse (a ∷ w) ≡ reverse w ++ a ∷ []
reverse_first a w = reverse-append (a ∷ []) w

pub over_reverse : (k : ℕ) (w : List ℕ) → Over k w → Over k (reverse w)
over_reverse k [] o = tt
over_reverse k (a ∷ w) o =
    subst (Over k) (sym (reverse_first a w)) (over_last k (reverse w) a (over_reverse k w o.1) o.0)

-- the node to which a word leads is its place
pub node_is_place : (k : ℕ) (same : List ℕ → List ℕ → Type 0) (g : Graph) (words : List (List ℕ))
    → IsGraphOf k same g words → (w : List ℕ) → Over k w → IsPlaceOf same words w (node g w)
node_is_place k same g words h w o = record {
  within = let e = h.shortlex.long in let b = inside in omega arith;
  related = (h.nodes.both (word_at words (node g w)) w
      (l.over (node g w) (let e = h.shortlex.long in let b = inside in omega arith)) o).0
      (h.shortlex.leads (node g w) inside);
  only = λ j m s. sym (h.shortlex.leads j (let e = h.shortlex.long in omega arith))
      ∙ (h.nodes.both (word_at words j) w (l.over j m) o).1 s;
}
  where
    l : AreRepresentatives k same words
    l = graph_list k same g words h

    inside : node g w < g.size
    inside = node_within g w h.shortlex.graph (subst (λ (n : ℕ). Over n w) (sym h.letters) o)

-- the shortlex graph of a congruence is its right Cayley graph
pub graph_is_right : (k : ℕ) (same : List ℕ → List ℕ → Type 0) (g : Graph) (words : List (List ℕ))
    → IsGraphOf k same g words → IsRightGraph k same words g
graph_is_right k same g words h = record {
  size = sym h.shortlex.long;
  letters = h.letters;
  long = h.shortlex.graph.long;
  edge = λ i a m b. record {
    within = m;
    place = subst (IsPlaceOf same words (word_at words i ++ a ∷ [])) (edge i a m)
        (node_is_place k same g words h (word_at words i ++ a ∷ [])
        (over_last k (word_at words i) a ((graph_list k same g words h).over i m) b));
  };
}
  where
    edge : (i a : ℕ) → i < length words → node g (word_at words i ++ a ∷ []) ≡ target g i a
    edge i a m =
        walk_append g 0 (word_at words i) (a ∷ [])
        ∙ ap (λ (j : ℕ). target g j a)
        (h.shortlex.leads i (let e = h.shortlex.long in omega arith))

-- a listed word is related to w exactly where it stands at the place of w
placed_at : (same : List ℕ → List ℕ → Type 0) (words : List (List ℕ)) (w : List ℕ) (j n : ℕ)
    → j < length words → IsPlaceOf same words w n → same (word_at words j) w ↔ (n ≡ j)
placed_at same words w j n m p =
    (λ s. sym (p.only j m s), λ e. subst (λ (i : ℕ). same (word_at words i) w) e p.related)

module _ (k : ℕ) (same : List ℕ → List ℕ → Type 0) (words : List (List ℕ))
    (c : IsRightCongruence k same) (l : AreRepresentatives k same words) where
  -- a walk in the right graph multiplies by its word on the right
  pub right_walk : (g : Graph) → IsRightGraph k same words g → (x : List ℕ) (i : ℕ)
      → i < length words → Over k x → IsPlaceOf same words (word_at words i ++ x) (walk g i x)
  right_walk g h [] i m o =
      rw (append-nil (word_at words i)) (place_of_listed k same words l c.equivalence i m)
  right_walk g h (a ∷ x) i m o =
      subst (λ (w : List ℕ). IsPlaceOf same words w (walk g t x))
      (append_assoc (word_at words i) (a ∷ []) x)
      (place_of_related k same words l c.equivalence (word_at words t ++ x)
      ((word_at words i ++ a ∷ []) ++ x) (walk g t x) (over_append k (word_at words t) x ot o.1)
      (over_append k (word_at words i ++ a ∷ []) x oi o.1)
      (c.right (word_at words t) (word_at words i ++ a ∷ []) x ot oi o.1 step.related)
      (right_walk g h x t step.within o.1))
    where
      t : ℕ
      t = target g i a

      step : IsPlaceOf same words (word_at words i ++ a ∷ []) t
      step = (h.edge i a m o.0).place

      ot : Over k (word_at words t)
      ot = l.over t step.within

      oi : Over k (word_at words i ++ a ∷ [])
      oi = over_last k (word_at words i) a (l.over i m) o.0

  -- the right ideal of i is what walks from i in the right graph lead to
  pub right_ideal_walks : (g : Graph) → IsRightGraph k same words g → (i j : ℕ) → i < length words
      → j < length words → IsInRightIdeal k same (word_at words j) (word_at words i)
      ↔ ((x : List ℕ) × Over k x × (walk g i x ≡ j))
  right_ideal_walks g h i j m n = (
    λ s. (
      s.0,
      s.1,
      (placed_at same words (word_at words i ++ s.0) j (walk g i s.0) n
          (right_walk g h s.0 i m s.1)).0 s.2,
    ),
    λ s. (
      s.0,
      s.1,
      (placed_at same words (word_at words i ++ s.0) j (walk g i s.0) n
          (right_walk g h s.0 i m s.1)).1 s.2,
    ),
  )

module _ (k : ℕ) (same : List ℕ → List ℕ → Type 0) (words : List (List ℕ)) (c : IsCongruence k same)
    (l : AreRepresentatives k same words) where
  -- a walk in the left graph multiplies by its reversed word on the left
  pub left_walk : (g : Graph) → IsLeftGraph k same words g → (x : List ℕ) (i : ℕ) → i < length words
      → Over k x → IsPlaceOf same words (reverse x ++ word_at words i) (walk g i x)
  left_walk g h [] i m o = place_of_listed k same words l c.equivalence i m
  left_walk g h (a ∷ x) i m o =
      subst (λ (w : List ℕ). IsPlaceOf same words w (walk g t x)) grouped
      (place_of_related k same words l c.equivalence (reverse x ++ word_at words t)
      (reverse x ++ a ∷ word_at words i) (walk g t x)
      (over_append k (reverse x) (word_at words t) ox ot)
      (over_append k (reverse x) (a ∷ word_at words i) ox oi)
      (c.left (word_at words t) (a ∷ word_at words i) (reverse x) ot oi ox step.related)
      (left_walk g h x t step.within o.1))
    where
      t : ℕ
      t = target g i a

      step : IsPlaceOf same words (a ∷ word_at words i) t
      step = (h.edge i a m o.0).place

      ot : Over k (word_at words t)
      ot = l.over t step.within

      oi : Over k (a ∷ word_at words i)
      oi = (o.0, l.over i m)

      ox : Over k (reverse x)
      ox = over_reverse k x o.1

      grouped : reverse x ++ a ∷ word_at words i ≡ reverse (a ∷ x) ++ word_at words i
      grouped =
          sym (append_assoc (reverse x) (a ∷ []) (word_at words i))
          ∙ ap (λ (w : List ℕ). w ++ word_at words i) (sym (reverse_first a x))

  -- the left ideal of i is what walks from i in the left graph lead to
  pub left_ideal_walks : (g : Graph) → IsLeftGraph k same words g → (i j : ℕ) → i < length words
      → j < length words → IsInLeftIdeal k same (word_at words j) (word_at words i)
      ↔ ((x : List ℕ) × Over k x × (walk g i x ≡ j))
  left_ideal_walks g h i j m n = (to, from)
    where
      to : IsInLeftIdeal k same (word_at words j) (word_at words i) → (x : List ℕ) × Over k x
          × (walk g i x ≡ j)
      to (x, o, s) = (
        reverse x,
        over_reverse k x o,
        (placed_at same words (x ++ word_at words i) j (walk g i (reverse x)) n
            (subst (λ (y : List ℕ). IsPlaceOf same words (y ++ word_at words i)
            (walk g i (reverse x))) (reverse-reverse x)
            (left_walk g h (reverse x) i m (over_reverse k x o)))).0 s,
      )

      from : (x : List ℕ) × Over k x × (walk g i x ≡ j) → IsInLeftIdeal k same (word_at words j)
          (word_at words i)
      from (x, o, e) = (
        reverse x,
        over_reverse k x o,
        (placed_at same words (reverse x ++ word_at words i) j (walk g i x) n
            (left_walk g h x i m o)).1 e,
      )

  -- the two-sided ideal of i is what a walk in the right graph and then one in the left graph lead
  -- to
  pub ideal_walks : (g d : Graph) → IsRightGraph k same words g → IsLeftGraph k same words d
      → (i j : ℕ) → i < length words → j < length words
      → IsInIdeal k same (word_at words j) (word_at words i)
      ↔ ((x y : List ℕ) × Over k x × Over k y × (walk d (walk g i x) y ≡ j))
  ideal_walks g d h f i j m n = (to, from)
    where
      -- the place of the word that is put together
      both : (x y : List ℕ) → Over k x → Over k y
          → IsPlaceOf same words (reverse y ++ (word_at words i ++ x)) (walk d (walk g i x) y)
      both x y ox oy =
          let p = right_walk k same words (right_congruence k same c) l g h x i m ox in
          let z : Over k (word_at words (walk g i x)) = l.over (walk g i x) p.within in
          let o : Over k (word_at words i ++ x) =
          over_append k (word_at words i) x (l.over i m) ox in
          let r : Over k (reverse y) = over_reverse k y oy in
          place_of_related k same words l c.equivalence (reverse y ++ word_at words (walk g i x))
          (reverse y ++ (word_at words i ++ x)) (walk d (walk g i x) y)
          (over_append k (reverse y) (word_at words (walk g i x)) r z)
          (over_append k (reverse y) (word_at words i ++ x) r o)
          (c.left (word_at words (walk g i x)) (word_at words i ++ x)
          (reverse y) z o r p.related) (left_walk d f y (walk g i x) p.within oy)

      to : IsInIdeal k same (word_at words j) (word_at words i) → (x y : List ℕ) × Over k x
          × Over k y × (walk d (walk g i x) y ≡ j)
      to (y, x, oy, ox, s) = (
        x,
        reverse y,
        ox,
        over_reverse k y oy,
        (placed_at same words (y ++ (word_at words i ++ x)) j
            (walk d (walk g i x) (reverse y)) n
            (subst (λ (z : List ℕ). IsPlaceOf same words (z ++ (word_at words i ++ x))
            (walk d (walk g i x) (reverse y))) (reverse-reverse y)
            (both x (reverse y) ox (over_reverse k y oy)))).0 s,
      )

      from : (x y : List ℕ) × Over k x × Over k y × (walk d (walk g i x) y ≡ j)
          → IsInIdeal k same (word_at words j) (word_at words i)
      from (x, y, ox, oy, e) = (
        reverse y,
        x,
        over_reverse k y oy,
        ox,
        (placed_at same words (reverse y ++ (word_at words i ++ x)) j (walk d (walk g i x) y)
            n (both x y ox oy)).1 e,
      )
