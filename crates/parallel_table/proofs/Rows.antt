-- Rows of products that are filled one after another, and by parts.
use Rattle.std.proofs.Common.{◌≡◌, ℕ, ◌+◌, ◌-◌, ◌*◌, ◌<◌, ◌≤◌, ◌⊎◌, inl, inr, List, ◌++◌, length, take, refl, ap, sym, subst, ◌∙◌, arith, length-append}
use Rattle.std.specs.Prelude.{slice_index}
use Rattle.std.proofs.lemmas.Bool.{cases_lt}
use Rattle.std.proofs.lemmas.List.{get_or-take, get_or-append-add, get_or_append_left, length-take-le}
use Rattle.std.proofs.Math.Nat.{mul-le-mul_right}
use Rattle.language_theory.proofs.Graphs.{row_place}
use Rattle.language_theory.specs.ShortlexGraph.{SameNode}
use Rattle.monoid_theory.specs.Products.{IsProduct}
use Rattle.cayley_tables.specs.CayleyGraphs.{CayleyGraphs, AreCayleyGraphs}
use Rattle.parallel_table.specs.declared.filling.Parts.{Parts}
use Rattle.parallel_table.specs.ProductTables.{ProductTable, IsSquare, cell, IsTableOf}
use Rattle.parallel_table.specs.Runs.{first_row, rows_of, AreHalves, CanFill, IsProductRow, AreProductRows, AreRowsOf}
use Rattle.parallel_table.proofs.Places.{row_fits, halves_rows, halves_meet, all_rows, first_row_begins}
use borrow.Rule.Slice.PartMut.{put_mid, post_of}

-- the first n rows are filled
pub record AreRowsTo (c : CayleyGraphs) (first n : ℕ) (cells : List ℕ) : Type 0 where
  pub each : (i j : ℕ) → i < n → j < length c.words
      → IsProduct (SameNode c.right) c.words (first + i) j (slice_index cells (i * length c.words + j))

pub no_rows : (c : CayleyGraphs) (first : ℕ) (cells : List ℕ) → AreRowsTo c first 0 cells
no_rows c first cells = record { each = λ i j hi hj. absurd (omega arith) }

pub all_rows_filled : (c : CayleyGraphs) (first n count : ℕ) (cells : List ℕ) → n ≡ count
    → length cells ≡ count * length c.words → AreRowsTo c first n cells
    → AreProductRows c first count cells
all_rows_filled c first n count cells e long h =
    record { long = long; each = λ i j hi hj. h.each i j (omega arith) hj }

-- one more row is filled
pub next_row : (c : CayleyGraphs) (first n : ℕ) (old new row : List ℕ) → AreRowsTo c first n old
    → IsProductRow c (first + n) row
    → ((p : ℕ) → p < n * length c.words → slice_index new p ≡ slice_index old p)
    → ((j : ℕ) → j < length c.words → slice_index new (n * length c.words + j) ≡ slice_index row j)
    → AreRowsTo c first (n + 1) new
next_row c first n old new row h r before here =
    record { each = λ i j hi hj. by i j hj hi (cases_lt i n) }
  where
    by : (i j : ℕ) → j < length c.words → i < n + 1 → (i < n) ⊎ (n ≤ i)
        → IsProduct (SameNode c.right) c.words (first + i) j
        (slice_index new (i * length c.words + j))
    by i j hj hi (inl o) =
        subst (IsProduct (SameNode c.right) c.words (first + i) j)
        (sym (before (i * length c.words + j) (row_place i j n (length c.words) o hj)))
        (h.each i j o hj)
    by i j hj hi (inr o) =
        let last : n ≡ i = omega arith in
        subst (λ (m : ℕ). IsProduct (SameNode c.right) c.words (first + m) j
        (slice_index new (m * length c.words + j))) last
        (subst (IsProduct (SameNode c.right) c.words (first + n) j) (sym (here j hj)) (r.each j hj))

-- a list with a run of places overwritten
module _ (start k : ℕ) (old row : List ℕ) (fits : start + k ≤ length old)
    (long : length row ≡ k) where
  front_long : length (take start old) ≡ start
  front_long = length-take-le start old (omega arith)

  put_before : (i : ℕ) → i < start → slice_index (put_mid start k old row) i ≡ slice_index old i
  put_before i h = let n = front_long in
      get_or_append_left (take start old) (row ++ post_of start k old) 0 i (omega arith)
      ∙ get_or-take start old i 0 h

  put_here : (p : ℕ) → p < length row
      → slice_index (put_mid start k old row) (start + p) ≡ slice_index row p
  put_here p h =
      ap (λ (n : ℕ). slice_index (put_mid start k old row) (n + p)) (sym front_long)
      ∙ get_or-append-add (take start old) (row ++ post_of start k old) p 0
      ∙ get_or_append_left row (post_of start k old) 0 p h

-- one more row is put behind those that are filled
pub row_put : (c : CayleyGraphs) (first n count start k : ℕ) (old row : List ℕ)
    → AreRowsTo c first n old → IsProductRow c (first + n) row → n < count
    → length old ≡ count * length c.words → start ≡ n * length c.words → k ≡ length c.words
    → AreRowsTo c first (n + 1) (put_mid start k old row)
row_put c first n count start k old row h r few long at wide =
    next_row c first n old (put_mid start k old row) row h r
    (λ p hp. put_before start k old row fits same p (omega arith))
    (λ j hj. ap (λ (i : ℕ). slice_index (put_mid start k old row) (i + j)) (sym at)
    ∙ put_here start k old row fits same j (let l = r.long in omega arith))
  where
    same : length row ≡ k
    same = let l = r.long in omega arith

    fits : start + k ≤ length old
    fits = omega (arith, row_fits n count (length c.words) few)

-- two runs of rows, one behind the other
pub join_rows : (c : CayleyGraphs) (first a b : ℕ) (front back : List ℕ)
    → AreProductRows c first a front → AreProductRows c (first + a) b back
    → AreProductRows c first (a + b) (front ++ back)
join_rows c first a b front back f g = record {
  long =
      let whole : length (front ++ back) ≡ length front + length back = simp length-append in
      let m = f.long in
      let n = g.long in
      omega arith;
  each = λ i j hi hj. by i j hj hi (cases_lt i a);
}
  where
    by : (i j : ℕ) → j < length c.words → i < a + b → (i < a) ⊎ (a ≤ i)
        → IsProduct (SameNode c.right) c.words (first + i) j
        (slice_index (front ++ back) (i * length c.words + j))
    by i j hj hi (inl o) =
        let inside : i * length c.words + j < length front =
        (let place = row_place i j a (length c.words) o hj in let n = f.long in omega arith) in
        subst (IsProduct (SameNode c.right) c.words (first + i) j)
        (sym (get_or_append_left front back 0 (i * length c.words + j) inside)) (f.each i j o hj)
    by i j hj hi (inr o) =
        let d : ℕ = i - a in
        let split : i ≡ a + d = omega arith in
        let n = f.long in
        let both : i * length c.words ≡ (a + d) * length c.words =
        ap (λ (m : ℕ). m * length c.words) split in
        let place : i * length c.words + j ≡ length front + (d * length c.words + j) = omega arith in
        let row : first + a + d ≡ first + i = omega arith in
        let here : slice_index back (d * length c.words + j)
        ≡ slice_index (front ++ back) (i * length c.words + j) =
        sym (ap (slice_index (front ++ back)) place
        ∙ get_or-append-add front back (d * length c.words + j) 0) in
        subst (λ (m : ℕ). IsProduct (SameNode c.right) c.words m j
        (slice_index (front ++ back) (i * length c.words + j))) row
        (subst (IsProduct (SameNode c.right) c.words (first + a + d) j) here
        (g.each d j (omega arith) hj))

-- the rows of both halves are those of all parts, and each half can be filled
module _ (c : CayleyGraphs) (parts left right : Parts) (n : ℕ) (h : CanFill c parts n)
    (halves : AreHalves parts left right) where
  pub join_halves : (front back : List ℕ) → AreRowsOf c left front → AreRowsOf c right back
      → AreRowsOf c parts (front ++ back)
  join_halves front back f g =
      let side = length c.words in
      let start = first_row side parts.all parts.first in
      let same : first_row side left.all left.first ≡ start =
      rw (halves.left_all, halves.first) refl in
      let one : AreProductRows c start (rows_of side left) front =
      subst (λ (m : ℕ). AreProductRows c m (rows_of side left) front) same f in
      let two : AreProductRows c (start + rows_of side left) (rows_of side right) back =
      subst (λ (m : ℕ). AreProductRows c m (rows_of side right) back)
      (sym (halves_meet side parts left right halves h.within)) g in
      subst (λ (m : ℕ). AreProductRows c start m (front ++ back))
      (halves_rows side parts left right halves h.within)
      (join_rows c start (rows_of side left) (rows_of side right) front back one two)

  -- the cells of the left half are among those of all parts
  pub left_cells_fit : rows_of (length c.words) left * length c.words ≤ n
  left_cells_fit =
      let rows = halves_rows (length c.words) parts left right halves h.within in
      let long = h.long in
      omega (
        arith,
        mul-le-mul_right {m = rows_of (length c.words) left}
            {n = rows_of (length c.words) parts} (length c.words) (omega arith),
      )

  pub can_fill_left : CanFill c left (rows_of (length c.words) left * length c.words)
  can_fill_left =
      let a = halves.first in
      let b = halves.whole in
      let d = halves.left_all in
      let w = h.within in
      let few = h.few in
      record {
        graphs = h.graphs;
        small = h.small;
        some = halves.some;
        within = omega arith;
        few = omega arith;
        long = refl;
      }

  pub can_fill_right :
      CanFill c right (n - rows_of (length c.words) left * length c.words)
  can_fill_right =
      let a = halves.next in
      let b = halves.whole in
      let d = halves.right_all in
      let w = h.within in
      let few = h.few in
      record {
        graphs = h.graphs;
        small = h.small;
        some = halves.others;
        within = omega arith;
        few = omega arith;
        long =
            let rows = halves_rows (length c.words) parts left right halves h.within in
            let long = h.long in
            let both = ap (λ (m : ℕ). m * length c.words) rows in
            omega arith;
      }

-- all parts can fill the whole table
pub can_fill_whole : (c : CayleyGraphs) (t : ProductTable) (n m : ℕ) → AreCayleyGraphs c
    → IsSquare t → t.side ≡ length c.words → 1 ≤ n → n ≤ 64 → m ≡ length t.cells
    → CanFill c (record { first = 0; count = n; all = n }) m
can_fill_whole c t n m h square same some few e = record {
  graphs = h;
  small = let f = square.few in omega arith;
  some = some;
  within = omega arith;
  few = few;
  long =
      let rows = all_rows (length c.words) n some in
      e ∙ square.long ∙ ap (λ (s : ℕ). s * t.side) same ∙ ap (λ (s : ℕ). length c.words * s) same
      ∙ ap (λ (s : ℕ). s * length c.words) (sym rows);
}

-- and they do
pub whole_table : (c : CayleyGraphs) (t : ProductTable) (n : ℕ) → 1 ≤ n → t.side ≡ length c.words
    → AreRowsOf c (record { first = 0; count = n; all = n }) t.cells → IsTableOf c t
whole_table c t n some same h = record { side = same; each = each }
  where
    each : (i j : ℕ) → i < t.side → j < t.side
        → IsProduct (SameNode c.right) c.words i j (cell t i j)
    each i j hi hj =
        let rows = all_rows (length c.words) n some in
        let row : first_row (length c.words) n 0 + i ≡ i =
        omega (arith, first_row_begins (length c.words) n some) in
        subst (λ (k : ℕ). IsProduct (SameNode c.right) c.words i j (slice_index t.cells (i * k + j)))
        (sym same) (subst (λ (k : ℕ). IsProduct (SameNode c.right) c.words k j
        (slice_index t.cells (i * length c.words + j))) row
        (h.each i j (omega arith) (omega arith)))
