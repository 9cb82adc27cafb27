-- All cells of a box have one number of elements.
use Rattle.std.proofs.Common.{◌≡◌, ℕ, ◌<◌, List, length, slice_index, arith}
use Rattle.language_theory.specs.Words.{Over, word_at}
use Rattle.language_theory.specs.Congruence.{IsEquivalence, IsCongruence}
use Rattle.language_theory.specs.Representatives.{AreRepresentatives}
use Rattle.language_theory.proofs.Congruences.{right_congruence}
use Rattle.monoid_theory.specs.Green.{IsR, IsL, IsJ, IsH, AreMembers}
use Rattle.monoid_theory.proofs.Ideals.{r_equivalence, l_equivalence, j_equivalence, r_in_j}
use Rattle.monoid_theory.proofs.Cells.{cells_have_one_size}
use Rattle.green_relations.specs.EggBoxes.{AreJust, IsBox, RelatesAt, AreEggBoxes}
use Rattle.green_relations.specs.EggBoxes.{box_at, row_at, cell_at}

module _ (k : ℕ) (same : List ℕ → List ℕ → Type 0) (words : List (List ℕ)) (q : IsCongruence k same)
    (l : AreRepresentatives k same words) where
  er : IsEquivalence k (IsR k same)
  er = r_equivalence k same (right_congruence k same q)

  el : IsEquivalence k (IsL k same)
  el = l_equivalence k same q

  ej : IsEquivalence k (IsJ k same)
  ej = j_equivalence k same q

  -- a cell that is not empty is the class of H of its first element
  cell_members : (a c : ℕ) (xs : List ℕ) → a < length words → c < length words → 0 < length xs
      → AreJust (length words)
      (λ i. RelatesAt (IsR k same) words i a × RelatesAt (IsL k same) words i c) xs
      → AreMembers (IsH k same) words (word_at words (slice_index xs 0)) xs
  cell_members a c xs ha hc some h =
      let w = word_at words in
      let s = slice_index xs 0 in
      let os = l.over s (h.within 0 some) in
      record {
        within = h.within;
        rise = h.rise;
        each = λ n hn. (
          er.trans (w (slice_index xs n)) (w a) (w s) (l.over (slice_index xs n) (h.within n hn))
              (l.over a ha) os (h.each n hn).0 (er.symm (w s) (w a) os (l.over a ha) (h.each 0 some).0),
          el.trans (w (slice_index xs n)) (w c) (w s) (l.over (slice_index xs n) (h.within n hn))
              (l.over c hc) os (h.each n hn).1 (el.symm (w s) (w c) os (l.over c hc) (h.each 0 some).1),
        );
        all = λ i hi m. h.all i hi (
          er.trans (w i) (w s) (w a) (l.over i hi) os (l.over a ha) m.0 (h.each 0 some).0,
          el.trans (w i) (w s) (w c) (l.over i hi) os (l.over c hc) m.1 (h.each 0 some).1,
        );
      }

  box_has_one_size : (top : ℕ) (box : List (List (List ℕ))) → top < length words
      → IsBox (length words) (RelatesAt (IsR k same) words) (RelatesAt (IsL k same) words)
      (RelatesAt (IsJ k same) words) top box → (y x v u : ℕ) → y < length box
      → x < length (row_at box y) → v < length box → u < length (row_at box v)
      → length (cell_at (row_at box y) x) ≡ length (cell_at (row_at box v) u)
  box_has_one_size top box ht h y x v u hy hx hv hu =
      cells_have_one_size k same words q l (w (first y x)) (w (first v u)) (over y x iy ix)
      (over v u iv iu)
      (ej.trans (w (first y x)) (w top) (w (first v u)) (over y x iy ix) (l.over top ht)
      (over v u iv iu) (to_top y x iy ix)
      (ej.symm (w (first v u)) (w top) (over v u iv iu) (l.over top ht) (to_top v u iv iu)))
      (cell y x) (cell v u) (members y x iy ix) (members v u iv iu)
    where
      w : ℕ → List ℕ
      w = word_at words

      cell : ℕ → ℕ → List ℕ
      cell y x = cell_at (row_at box y) x

      first : ℕ → ℕ → ℕ
      first y x = slice_index (cell y x) 0

      iy : y < length h.rows
      iy = omega (arith, h.height, hy)

      iv : v < length h.rows
      iv = omega (arith, h.height, hv)

      ix : x < length h.columns
      ix = omega (arith, h.width y iy, hx)

      iu : u < length h.columns
      iu = omega (arith, h.width v iv, hu)

      over : (y x : ℕ) → y < length h.rows → x < length h.columns → Over k (w (first y x))
      over y x hy hx = l.over (first y x) ((h.cell y x hy hx).within 0 (h.some y x hy hx))

      to_top : (y x : ℕ) → y < length h.rows → x < length h.columns
          → IsJ k same (w (first y x)) (w top)
      to_top y x hy hx =
          let row = slice_index h.rows y in
          ej.trans (w (first y x)) (w row) (w top) (over y x hy hx)
          (l.over row (h.firsts_of_rows.within y hy)) (l.over top ht)
          (r_in_j k same (w (first y x)) (w row) ((h.cell y x hy hx).each 0 (h.some y x hy hx)).0)
          (h.firsts_of_rows.each y hy).1

      members : (y x : ℕ) → y < length h.rows → x < length h.columns
          → AreMembers (IsH k same) words (w (first y x)) (cell y x)
      members y x hy hx = cell_members (slice_index h.rows y) (slice_index h.columns x) (cell y x)
          (h.firsts_of_rows.within y hy) (h.firsts_of_columns.within x hx) (h.some y x hy hx)
          (h.cell y x hy hx)

  pub egg_boxes_have_one_size : (boxes : List (List (List (List ℕ))))
      → AreEggBoxes k same words boxes → (b y x v u : ℕ) → b < length boxes
      → y < length (box_at boxes b) → x < length (row_at (box_at boxes b) y)
      → v < length (box_at boxes b) → u < length (row_at (box_at boxes b) v)
      → length (cell_at (row_at (box_at boxes b) y) x)
      ≡ length (cell_at (row_at (box_at boxes b) v) u)
  egg_boxes_have_one_size boxes h b y x v u hb =
      let inside : b < length h.tops = omega (arith, h.count, hb) in
      box_has_one_size (slice_index h.tops b) (box_at boxes b) (h.firsts.within b inside)
      (h.box b inside) y x v u
