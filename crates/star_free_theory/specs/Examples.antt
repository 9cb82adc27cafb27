-- A worked monoid: the syntactic monoid of (ab)*, with the elements 1, a, b, aa, ab and ba.
use Rattle.std.specs.Prelude.{ℕ, ◌+◌, ◌*◌, List, [], ◌∷◌, length, map, slice_index, Some}
use Rattle.star_free_theory.specs.StarFree.{SfNode}
use Rattle.star_free_theory.specs.Construction.{Algebra, Outcome, Task, bind, done, depth, nodes, opened_list, treat_first, treat_second, treat_within, whole_task}

abbrev pub ab_star_products : List ℕ
ab_star_products =
    0 ∷ 1 ∷ 2 ∷ 3 ∷ 4 ∷ 5 ∷ 1 ∷ 3 ∷ 4 ∷ 3 ∷ 3 ∷ 1 ∷ 2 ∷ 5 ∷ 3 ∷ 3 ∷ 2 ∷ 3
    ∷ 3 ∷ 3 ∷ 3 ∷ 3 ∷ 3 ∷ 3 ∷ 4 ∷ 1 ∷ 3 ∷ 3 ∷ 4 ∷ 3 ∷ 5 ∷ 3 ∷ 2 ∷ 3 ∷ 3 ∷ 5 ∷ []

unfoldable pub ab_star_algebra : Algebra
ab_star_algebra =
    record {
      elements = 0 ∷ 1 ∷ 2 ∷ 3 ∷ 4 ∷ 5 ∷ [];
      product = λ i j. slice_index ab_star_products (i * 6 + j);
      identity = 0;
      image = λ a. a + 1;
    }

-- the number of nodes that come out, and the root
unfoldable pub size_and_root : Outcome (List SfNode × ℕ) → ℕ × ℕ
size_and_root (done r) = (length r.0, r.1)
size_and_root depth = (0, 0)
size_and_root nodes = (0, 0)

-- the nodes of these elements
unfoldable pub nodes_of : List ℕ → Outcome (List SfNode × (ℕ → ℕ)) → List ℕ
nodes_of elements (done r) = map r.1 elements
nodes_of elements depth = []
nodes_of elements nodes = []

-- the whole monoid as an instance, with the list that its letters open
unfoldable pub ab_star_opened : {A : Type 0} → (List SfNode → Task → Outcome A) → Outcome A
unfolding ab_star_algebra
ab_star_opened f = bind (opened_list (Some 60) 2)
    (λ ls. f ls.0 (whole_task 2 ab_star_algebra ls.1))

-- the nodes that the whole monoid gives its elements
unfoldable pub ab_star_whole : Outcome (List SfNode × (ℕ → ℕ))
unfolding ab_star_opened
ab_star_whole = ab_star_opened (treat_within (Some 60) 400)

-- those that its first instance gives
unfoldable pub ab_star_first : Outcome (List SfNode × (ℕ → ℕ))
unfolding ab_star_opened
ab_star_first = ab_star_opened (treat_first (Some 60) (treat_within (Some 60) 399))

-- those that its second instance gives
unfoldable pub ab_star_second : Outcome (List SfNode × (ℕ → ℕ))
unfolding ab_star_opened
ab_star_second = ab_star_opened (λ xs T. bind
    (treat_first (Some 60) (treat_within (Some 60) 399) xs T)
    (λ e. bind (treat_second (Some 60) (treat_within (Some 60) 399) e.1 e.0 T)
    (λ r. done (r.0, r.1.1))))
