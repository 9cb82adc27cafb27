-- Boxes that stand in flat lists.
use Rattle.std.proofs.Common.{◌≡◌, ℕ, ◌+◌, ◌-◌, ◌*◌, ◌<◌, ◌≤◌, inl, inr, List, [], length}
use Rattle.std.proofs.Common.{slice_index, drop, sym, ap, subst, arith, ◌∙◌}
use Rattle.std.proofs.Math.Nat.{mul-le-mul_right}
use Rattle.std.proofs.lemmas.Bool.{cases_lt}
use Rattle.std.proofs.lemmas.List.FromFn.{length-map-range_with_len, get_or-map-range_with_len}
use Rattle.std.proofs.lemmas.List.{length-take-le, length-drop}
use Rattle.green_relations.specs.EggBoxes.{box_at, row_at, cell_at}
use Rattle.green_relations.specs.Numbering.{AreSmall, part}
use Rattle.green_relations.specs.Layout.{Layout, IsLayout, cell_number, laid_row, laid_box}
use Rattle.green_relations.specs.Layout.{laid_boxes, AreCells, AreCorners}

-- the same cells and corners under other names
pub as_corners : {hs bs us vs corners : List ℕ} → hs ≡ bs → us ≡ vs → AreCorners hs us corners
    → AreCorners bs vs corners
as_corners {hs = hs} {bs = bs} {us = us} {vs = vs} {corners = corners} a b h =
    subst (λ (z : List ℕ). AreCorners bs z corners) b
    (subst (λ (z : List ℕ). AreCorners z us corners) a h)

pub as_cells : {a b c d e p q r s t cells : List ℕ} → a ≡ p → b ≡ q → c ≡ r → d ≡ s → e ≡ t
    → AreCells a b c d e (length a) cells → AreCells p q r s t (length p) cells
as_cells {a = a} {b = b} {c = c} {d = d} {e = e} {p = p} {q = q} {r = r} {s = s} {t = t}
    {cells = cells} f g h i j k =
    subst (λ (z : List ℕ). AreCells p q r s z (length p) cells) j
    (subst (λ (z : List ℕ). AreCells p q r z e (length p) cells) i
    (subst (λ (z : List ℕ). AreCells p q z d e (length p) cells) h
    (subst (λ (z : List ℕ). AreCells p z c d e (length p) cells) g
    (subst (λ (z : List ℕ). AreCells z b c d e (length z) cells) f k))))

pub product_small : (a b : ℕ) → a ≤ 50000 → b ≤ 50000 → a * b ≤ 2500000000
product_small a b ha hb = omega (arith, mul-le-mul_right b ha)

pub areas_small : (rows columns areas : List ℕ) → length rows ≤ 50000 → length areas ≡ length rows
    → ((b : ℕ) → b < length rows → slice_index areas b ≡ slice_index rows b * slice_index columns b)
    → ((b : ℕ) → b < length rows → slice_index rows b ≤ 50000)
    → ((b : ℕ) → b < length rows → slice_index columns b ≤ 50000) → AreSmall 2500000000 areas
areas_small rows columns areas few long area high wide = record {
  each = λ b hb. let h : b < length rows = omega (arith, long) in
      omega (
        arith,
        area b h,
        product_small (slice_index rows b) (slice_index columns b) (high b h)
            (wide b h),
      );
  all = omega (arith, few, long);
}

-- the cell of a row and a column is below the end of the box
pub cell_below : (y x high wide : ℕ) → y < high → x < wide → y * wide + x < high * wide
cell_below y x high wide hy hx =
    let next : y + 1 ≤ high = omega arith in
    omega (arith, mul-le-mul_right wide next)

-- row and column are those of one cell
pub cell_one : (y x v u wide : ℕ) → x < wide → u < wide → y * wide + x ≡ v * wide + u
    → (y ≡ v) × (x ≡ u)
cell_one y x v u wide hx hu e = elim (cases_lt y v) [
  | inl l ↦ (absurd (omega (arith, cell_below y x v wide l hx)))
  | inr l ↦ (elim (cases_lt v y) [
    | inl g ↦ (absurd (omega (arith, cell_below v u y wide g hu)))
    | inr g ↦ (let same : y ≡ v = omega arith in
        (same, omega (arith, ap (λ (z : ℕ). z * wide) same)))
  ])
]

module _ (t : Layout) (h : IsLayout t) (v : List (List (List (List ℕ))))
    (e : laid_boxes t ≡ v) where
  pub len_is : length t.rows ≡ length v
  len_is = sym (length-map-range_with_len (laid_box t) 0 (length t.rows)) ∙ ap length e

  pub in_rows : (n : ℕ) → n < length v → n < length t.rows
  in_rows n hn = omega (arith, len_is)

  pub in_columns : (n : ℕ) → n < length v → n < length t.columns
  in_columns n hn = omega (arith, len_is, h.filed)

  pub in_corners : (n : ℕ) → n < length v → n < length t.corners
  in_corners n hn = omega (arith, len_is, h.cornered)

  box_is : (n : ℕ) → n < length v → laid_box t n ≡ box_at v n
  box_is n hn = sym (get_or-map-range_with_len (laid_box t) 0 (length t.rows) n n [] (in_rows n hn)
      (omega arith)) ∙ ap (λ (bs : List (List (List (List ℕ)))). box_at bs n) e

  pub rows_is : (n : ℕ) → n < length v → slice_index t.rows n ≡ length (box_at v n)
  rows_is n hn = sym (length-map-range_with_len (laid_row t n) 0 (slice_index t.rows n))
      ∙ ap length (box_is n hn)

  row_is : (n y : ℕ) → n < length v → y < length (box_at v n)
      → laid_row t n y ≡ row_at (box_at v n) y
  row_is n y hn hy = sym (get_or-map-range_with_len (laid_row t n) 0 (slice_index t.rows n) y y []
      (omega (arith, rows_is n hn)) (omega arith))
      ∙ ap (λ (b : List (List (List ℕ))). row_at b y) (box_is n hn)

  pub columns_is : (n y : ℕ) → n < length v → y < length (box_at v n)
      → slice_index t.columns n ≡ length (row_at (box_at v n) y)
  columns_is n y hn hy = sym (length-map-range_with_len
      (λ x. part t.starts t.members (cell_number t n y x)) 0 (slice_index t.columns n))
      ∙ ap length (row_is n y hn hy)

  pub cell_is : (n y x : ℕ) → n < length v → y < length (box_at v n)
      → x < length (row_at (box_at v n) y)
      → part t.starts t.members (cell_number t n y x) ≡ cell_at (row_at (box_at v n) y) x
  cell_is n y x hn hy hx = sym (get_or-map-range_with_len
      (λ z. part t.starts t.members (cell_number t n y z)) 0 (slice_index t.columns n) x x []
      (omega (arith, columns_is n y hn hy)) (omega arith))
      ∙ ap (λ (r : List (List ℕ)). cell_at r x) (row_is n y hn hy)

  pub cell_inside : (n y x : ℕ) → n < length v → y < length (box_at v n)
      → x < length (row_at (box_at v n) y) → cell_number t n y x + 1 < length t.starts
  cell_inside n y x hn hy hx =
      let below = cell_below y x (slice_index t.rows n) (slice_index t.columns n)
      (omega (arith, rows_is n hn)) (omega (arith, columns_is n y hn hy)) in
      omega (arith, h.box n (in_rows n hn), below)

  pub cell_some : (n y x : ℕ) → n < length v → y < length (box_at v n)
      → x < length (row_at (box_at v n) y) → slice_index t.starts (cell_number t n y x)
      < slice_index t.starts (cell_number t n y x + 1)
  cell_some n y x hn hy hx = h.some n y x (in_rows n hn) (omega (arith, rows_is n hn))
      (omega (arith, columns_is n y hn hy))

  pub members_some : (n y x : ℕ) → n < length v → y < length (box_at v n)
      → x < length (row_at (box_at v n) y)
      → 0 < length (part t.starts t.members (cell_number t n y x))
  members_some n y x hn hy hx =
      let c = cell_number t n y x in
      let end = h.inside c (cell_inside n y x hn hy hx) in
      let some = cell_some n y x hn hy hx in
      let dropped = length-drop (slice_index t.starts c) t.members in
      let taken = length-take-le (slice_index t.starts (c + 1) - slice_index t.starts c)
      (drop (slice_index t.starts c) t.members) (omega (arith, dropped, end, some)) in
      omega (arith, taken, some)
