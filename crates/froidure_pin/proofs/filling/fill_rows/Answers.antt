use Rattle.std.proofs.Common.{◌≡◌, ◌+◌, ◌-◌, ℕ, List, Some, subst, arith}
use Rattle.std.specs.Prelude.{slice_get, slice_index_or}
use Rattle.std.proofs.lemmas.Option.{slice_get-get_or}
use Rattle.froidure_pin.specs.declared.batch.Job.{Job}
use Rattle.image_rows.specs.Rows.{row_at}
use Rattle.froidure_pin.specs.Batches.{IsJob, IsLetterRow}
use Rattle.froidure_pin.proofs.Made.{made_put, made_all}
use Rattle.froidure_pin.proofs.filling.fill_rows.Goals as goal

pub loop-job-preserved : goal.loop-job-preserved
loop-job-preserved c =
    let m = c.args.generators.now in
    let rows = c.args.sources.now in
    let i = c.loop-job.invariant in
    let n = c.loop-job.job-index in
    let points = c.points-points.ensures.points in
    let job : Job = slice_index_or c.args.jobs.now n (record { element = 0; letter = 0 }) in
    let at : slice_get c.args.jobs.now n ≡ Some job =
    slice_get-get_or c.args.jobs.now n
    (record { element = 0; letter = 0 }) c.loop-job-test.true in
    let is : IsJob m rows job =
    c.requires.each n (record { element = 0; letter = 0 }) c.loop-job-test.true in
    let row : IsLetterRow m (row_at rows job.element) job.letter c.fill_row.new.row =
    subst (λ (source : List ℕ). IsLetterRow m source job.letter c.fill_row.new.row)
    c.row.ensures c.fill_row.ensures in (
      omega (arith, i.0),
      made_put m rows c.args.jobs.now n c.loop-job.start
          (c.loop-job.start + c.points-points.result - c.loop-job.start) job c.loop-job.rows
          c.fill_row.new.row i.1 at row (c.requires.sources.long job.element is.element) i.0
          (omega arith),
    )

pub returns : goal.returns
returns c = made_all c.args.generators.now c.args.sources.now c.args.jobs.now c.loop-job.job-index
    c.loop-job.rows (omega arith) c.loop-job.invariant.1
