-- What callers need of the labels and of paths.
use Rattle.std.proofs.Common.{◌≡◌, ℕ, ◌<◌, List, [], ◌∷◌, slice_index, sym, subst, ◌∙◌}
use Rattle.components.specs.Components.{Reach, here, step, IsGraph, AreComponents}
use Rattle.components.proofs.Paths.{stays_within}
use Rattle.components.proofs.Changes.{graph_within}

pub label_below : {n d : ℕ} {ts labels : List ℕ} (x : ℕ) → IsGraph n d ts
    → AreComponents n d ts labels → x < n → slice_index labels x < n
label_below x g c xn = stays_within (graph_within g) (c.least x xn).there xn

-- a walk along a word of edges, from any definition of a walk that these two equations fit
pub reach_from_walk : {d : ℕ} {to : ℕ → ℕ → ℕ} (walk : ℕ → List ℕ → ℕ) (over : List ℕ → Type 0)
    → ((x : ℕ) → walk x [] ≡ x) → ((x a : ℕ) (w : List ℕ) → walk x (a ∷ w) ≡ walk (to x a) w)
    → ((a : ℕ) (w : List ℕ) → over (a ∷ w) → (a < d) × over w) → (w : List ℕ) (x : ℕ) → over w
    → Reach d to x (walk x w)
reach_from_walk {d = d} {to = to} walk over nil cons parts [] x o =
    subst (λ y. Reach d to x y) (sym (nil x)) here
reach_from_walk {d = d} {to = to} walk over nil cons parts (a ∷ w) x o =
    subst (λ y. Reach d to x y) (sym (cons x a w))
    (step a (parts a w o).0 (reach_from_walk walk over nil cons parts w (to x a) (parts a w o).1))

pub walk_from_reach : {d : ℕ} {to : ℕ → ℕ → ℕ} {x y : ℕ} (walk : ℕ → List ℕ → ℕ)
    (over : List ℕ → Type 0) → ((x : ℕ) → walk x [] ≡ x)
    → ((x a : ℕ) (w : List ℕ) → walk x (a ∷ w) ≡ walk (to x a) w) → over []
    → ((a : ℕ) (w : List ℕ) → a < d → over w → over (a ∷ w)) → Reach d to x y
    → (w : List ℕ) × over w × (walk x w ≡ y)
walk_from_reach walk over nil cons empty more (here {x = x}) = ([], empty, nil x)
walk_from_reach {x = x} walk over nil cons empty more (step a h p) =
    let r = walk_from_reach walk over nil cons empty more p in
    (a ∷ r.0, more a r.0 h r.1, cons x a r.0 ∙ r.2)
