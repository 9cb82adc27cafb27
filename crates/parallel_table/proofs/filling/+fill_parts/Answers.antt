use Rattle.std.proofs.Common.{rules, ◌≡◌, ℕ, ◌*◌, ◌-◌, length, ap, ◌∙◌, arith}
use Rattle.parallel_table.specs.Runs.{rows_of, CanFill, AreRowsOf}
use Rattle.parallel_table.proofs.Rows.{left_cells_fit, can_fill_left, can_fill_right, join_halves}
use Rattle.parallel_table.proofs.filling.+fill_parts.Goals as goal

same_product : (a b m n : ℕ) → a ≡ m → b ≡ n → a * b ≡ m * n
same_product a b m n e f = ap (λ k. k * b) e ∙ ap (λ k. m * k) f

pub split_at_mut-front-requires : goal.split_at_mut-front-requires
split_at_mut-front-requires g t c =
    let v = c.args.cayley.now in
    let left = c.halves.result.0 in
    let side = length v.words in
    let rows : c.rows_of-rows.result ≡ rows_of side left =
    c.rows_of-rows.ensures.rows ∙ ap (λ (s : ℕ). rows_of s left) c.len-side.ensures.len in
    omega (
      arith,
      same_product c.rows_of-rows.result c.len-side.result (rows_of side left) side rows
          c.len-side.ensures.len,
      left_cells_fit v c.args.parts left c.halves.result.1 (length c.args.cells.now) c.requires
          c.halves.ensures,
    )

pub join_mut-requires-after_bounds : goal.join_mut-requires-after_bounds
join_mut-requires-after_bounds g t c κs within =
    let v = c.args.cayley.now in
    let left = c.halves.result.0 in
    let right = c.halves.result.1 in
    let side = length v.words in
    let rows : c.rows_of-rows.result ≡ rows_of side left =
    c.rows_of-rows.ensures.rows ∙ ap (λ (s : ℕ). rows_of s left) c.len-side.ensures.len in
    let cells : c.rows_of-rows.result * c.len-side.result ≡ rows_of side left * side =
    same_product c.rows_of-rows.result c.len-side.result (rows_of side left) side rows
    c.len-side.ensures.len in
    let one : length c.split_at_mut-front.result.0.now ≡ rows_of side left * side =
    c.split_at_mut-front.ensures.front_len ∙ cells in
    let two : length c.split_at_mut-front.result.1.now
    ≡ length c.args.cells.now - rows_of side left * side =
    omega (arith, c.split_at_mut-front.ensures.back_len, cells) in
    let front : CanFill v left (length c.split_at_mut-front.result.0.now) =
    rw one (can_fill_left v c.args.parts left right (length c.args.cells.now) c.requires
    c.halves.ensures) in
    let back : CanFill v right (length c.split_at_mut-front.result.1.now) =
    rw two (can_fill_right v c.args.parts left right (length c.args.cells.now) c.requires
    c.halves.ensures) in
    search rules

pub returns : goal.returns
returns g t c =
    let v = c.args.cayley.now in
    let left = c.halves.result.0 in
    let right = c.halves.result.1 in
    let front : AreRowsOf v left c.front-1.given.0 = search rules in
    let back : AreRowsOf v right c.back-1.given.0 = search rules in
    join_halves v c.args.parts left right (length c.args.cells.now) c.requires c.halves.ensures
    c.front-1.given.0 c.back-1.given.0 front back
