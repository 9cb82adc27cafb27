-- The rows that parts begin with.
use Rattle.std.proofs.Common.{◌≡◌, ℕ, ◌+◌, ◌-◌, ◌*◌, ◌/◌, ◌<◌, ◌≤◌, refl, ap, ◌∙◌, arith}
use Rattle.std.proofs.lemmas.Nat.{le-div}
use Rattle.std.proofs.Math.Nat.{div-mul-le_self, mul-le-mul_right, mul-div_cancel_left, zero-div}
use Rattle.parallel_table.specs.declared.filling.Parts.{Parts}
use Rattle.parallel_table.specs.Runs.{first_row, rows_of, AreHalves}

pub first_rows_rise : (side all p q : ℕ) → 1 ≤ all → p ≤ q
    → first_row side all p ≤ first_row side all q
first_rows_rise side all p q some h =
    le-div (p * side / all) (q * side) all some
    (omega (arith, div-mul-le_self (p * side) all, mul-le-mul_right {m = p} {n = q} side h))

-- the parts before the first one have no row
pub first_row_begins : (side all : ℕ) → 1 ≤ all → first_row side all 0 ≡ 0
first_row_begins side all some =
    let none : 0 * side ≡ 0 = omega arith in ap (λ n. n / all) none ∙ zero-div all

-- behind the last part are all rows
pub first_row_ends : (side all : ℕ) → 1 ≤ all → first_row side all all ≡ side
first_row_ends side all some = mul-div_cancel_left side {n = all} (omega arith)

pub first_row_within : (side all p : ℕ) → 1 ≤ all → p ≤ all → first_row side all p ≤ side
first_row_within side all p some h =
    omega (arith, first_rows_rise side all p all some h, first_row_ends side all some)

-- all parts together have all rows
pub all_rows : (side all : ℕ) → 1 ≤ all
    → rows_of side (record { first = 0; count = all; all = all }) ≡ side
all_rows side all some =
    let last : 0 + all ≡ all = omega arith in
    omega (
      arith,
      first_row_begins side all some,
      first_row_ends side all some,
      ap (λ p. first_row side all p) last,
    )

-- a row is inside the cells of the rows that it belongs to
pub row_fits : (i n k : ℕ) → i < n → i * k + k ≤ n * k
row_fits i n k h =
    omega (arith, mul-le-mul_right {m = i + 1} {n = n} k (omega arith))

-- halves of the parts have the rows in two runs
module _ (side : ℕ) (parts left right : Parts) (h : AreHalves parts left right)
    (within : parts.first + parts.count ≤ parts.all) where
  some_parts : 1 ≤ parts.all
  some_parts = let a = h.whole in let b = h.some in omega arith

  left_is : rows_of side left ≡ first_row side parts.all (parts.first + left.count)
      - first_row side parts.all parts.first
  left_is = rw (h.left_all, h.first) refl

  right_is : rows_of side right ≡ first_row side parts.all (parts.first + parts.count)
      - first_row side parts.all (parts.first + left.count)
  right_is =
      let last : right.first + right.count ≡ parts.first + parts.count =
      (let a = h.next in let b = h.whole in omega arith) in
      rw (h.right_all, last, h.next) refl

  pub halves_rows : rows_of side left + rows_of side right ≡ rows_of side parts
  halves_rows =
      let a = h.whole in
      omega (
        arith,
        left_is,
        right_is,
        first_rows_rise side parts.all parts.first (parts.first + left.count) some_parts (omega arith),
        first_rows_rise side parts.all (parts.first + left.count) (parts.first + parts.count)
            some_parts (omega arith),
      )

  pub halves_meet : first_row side parts.all parts.first + rows_of side left
      ≡ first_row side right.all right.first
  halves_meet =
      let right_first : first_row side right.all right.first
      ≡ first_row side parts.all (parts.first + left.count) = rw (h.right_all, h.next) refl in
      omega (
        arith,
        left_is,
        right_first,
        first_rows_rise side parts.all parts.first (parts.first + left.count) some_parts (omega arith),
      )
