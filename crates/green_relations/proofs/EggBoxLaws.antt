-- The boxes of Green's classes are the egg-box diagram of the monoid.
use Rattle.std.proofs.Common.{◌↔◌, ℕ, ◌<◌, List, length, slice_index, subst}
use Rattle.language_theory.specs.Congruence.{IsCongruence}
use Rattle.language_theory.specs.Representatives.{AreRepresentatives}
use Rattle.monoid_theory.specs.Green.{IsR, IsL, IsJ}
use Rattle.green_relations.specs.GreenClasses.{GreenClasses, AreGreens}
use Rattle.green_relations.specs.EggBoxes.{IsFirst, IsBox, IsDiagram, Share, RelatesAt, AreBoxesOf}
use Rattle.green_relations.specs.EggBoxes.{AreEggBoxes}
use Rattle.green_relations.proofs.Rising.{just_same}
use Rattle.green_relations.proofs.Labels.{r_shared, l_shared, j_shared}

first_same : (n : ℕ) (r s : ℕ → ℕ → Type 0)
    → ((i m : ℕ) → i < n → m < n → r i m ↔ s i m) → (i : ℕ) → i < n → IsFirst n r i ↔ IsFirst n s i
first_same n r s same i hi = (
  λ f m hm q. f m hm ((same m i hm hi).1 q),
  λ f m hm q. f m hm ((same m i hm hi).0 q),
)

-- relations that agree have the same diagrams
module _ (n : ℕ) (r l j s c d : ℕ → ℕ → Type 0) (er : (i m : ℕ) → i < n → m < n → r i m ↔ s i m)
    (el : (i m : ℕ) → i < n → m < n → l i m ↔ c i m)
    (ej : (i m : ℕ) → i < n → m < n → j i m ↔ d i m) where
  box_same : (top : ℕ) (box : List (List (List ℕ))) → top < n → IsBox n r l j top box
      → IsBox n s c d top box
  box_same top box ht h = record {
    rows = h.rows;
    columns = h.columns;
    firsts_of_rows = just_same n h.rows (λ i hi. (
      λ q. ((first_same n r s er i hi).0 q.0, (ej i top hi ht).0 q.1),
      λ q. ((first_same n r s er i hi).1 q.0, (ej i top hi ht).1 q.1),
    )) h.firsts_of_rows;
    firsts_of_columns = just_same n h.columns (λ i hi. (
      λ q. ((first_same n l c el i hi).0 q.0, (ej i top hi ht).0 q.1),
      λ q. ((first_same n l c el i hi).1 q.0, (ej i top hi ht).1 q.1),
    )) h.firsts_of_columns;
    height = h.height;
    width = h.width;
    cell = λ y x hy hx. just_same n _ (λ i hi. (
      λ q. (
        (er i (slice_index h.rows y) hi (h.firsts_of_rows.within y hy)).0 q.0,
        (el i (slice_index h.columns x) hi (h.firsts_of_columns.within x hx)).0 q.1,
      ),
      λ q. (
        (er i (slice_index h.rows y) hi (h.firsts_of_rows.within y hy)).1 q.0,
        (el i (slice_index h.columns x) hi (h.firsts_of_columns.within x hx)).1 q.1,
      ),
    )) (h.cell y x hy hx);
    some = h.some;
  }

  diagram_same : (boxes : List (List (List (List ℕ)))) → IsDiagram n r l j boxes
      → IsDiagram n s c d boxes
  diagram_same boxes h = record {
    tops = h.tops;
    firsts = just_same n h.tops (λ i hi. first_same n j d ej i hi) h.firsts;
    count = h.count;
    box = λ b hb. box_same (slice_index h.tops b) _ (h.firsts.within b hb) (h.box b hb);
  }

pub egg_boxes : (k : ℕ) (same : List ℕ → List ℕ → Type 0) (words : List (List ℕ))
    (g : GreenClasses) (boxes : List (List (List (List ℕ)))) → IsCongruence k same
    → AreRepresentatives k same words → AreGreens k same words g → AreBoxesOf g boxes
    → AreEggBoxes k same words boxes
egg_boxes k same words g boxes q l a h =
    diagram_same (length words) (Share g.r) (Share g.l) (Share g.j) (RelatesAt (IsR k same) words)
    (RelatesAt (IsL k same) words) (RelatesAt (IsJ k same) words) (r_shared k same words q l g a)
    (l_shared k same words q l g a) (j_shared k same words q l g a) boxes
    (subst (λ (n : ℕ). IsDiagram n (Share g.r) (Share g.l) (Share g.j) boxes) a.r.long h)
