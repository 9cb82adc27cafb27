use Rattle.std.proofs.Common.{◌≡◌, ◌<◌, ◌≤◌, ◌*◌, ℕ, arith, sym, subst}
use Rattle.local_submonoids.specs.LocalTables.{IsSizeHere}
use Rattle.local_submonoids.proofs.LocalSizes.{more_work, square_few}
use Rattle.local_submonoids.proofs.work.local_work.Goals as goal

pub loop-e-preserved : goal.loop-e-preserved
loop-e-preserved c =
    let n = c.from-size.result in
    let same : n ≡ c.in_ok-local_size.field-0 = c.from-size.ensures in
    let size : IsSizeHere c.args.monoid.now c.args.table.now c.loop-e.e n =
    subst (IsSizeHere c.args.monoid.now c.args.table.now c.loop-e.e) (sym same)
    c.in_ok-local_size.ensures.size in
    let few : n ≤ 8000 = subst (λ (i : ℕ). i ≤ 8000) (sym same) c.in_ok-local_size.ensures.few in
    let square = square_few n few in
    let i = c.loop-e.invariant in
    let low : c.loop-e.work ≤ c.loop-e.e * 64000000 = i.1 in
    let here : c.loop-e.e < c.side-e-end.result = c.loop-e-test.true in (
      more_work c.args.monoid.now c.args.table.now c.loop-e.e c.loop-e.work n i.0 size,
      omega arith,
      i.2,
      i.3,
      omega arith,
    )
