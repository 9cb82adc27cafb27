-- Batches of rows of images, which workers make in runs of whole rows.
use Rattle.std.specs.Prelude.{◌≡◌, ◌<◌, ◌≤◌, ◌+◌, ◌*◌, ◌^◌, ℕ, List, length, slice_index, slice_get, Some, All}
use Rattle.froidure_pin.specs.declared.batch.Job.{Job}
use Rattle.froidure_pin.specs.declared.batch.Batch.{Batch}
use Rattle.froidure_pin.specs.declared.filling.Parts.{Parts}
use Rattle.froidure_pin.specs.Maps.{Maps, AreMaps, image}
use Rattle.image_rows.specs.Rows.{row_at}

-- where the row of a job takes a point: first as the row of the element, then by the letter
abbrev pub job_image : Maps → List (List ℕ) → Job → ℕ → ℕ
job_image m rows job p = image m (slice_index (row_at rows job.element) p) job.letter

-- the element has a row, and the letter a map
pub record IsJob (m : Maps) (rows : List (List ℕ)) (job : Job) : Type 0 where
  pub element : job.element < length rows
  pub letter : job.letter < m.letters

-- each row has a point for each point
pub record ArePointRows (m : Maps) (rows : List (List ℕ)) : Type 0 where
  pub long : (i : ℕ) → i < length rows → length (row_at rows i) ≡ m.points
  pub within : (i p : ℕ) → i < length rows → p < m.points → slice_index (row_at rows i) p < m.points

-- `made` has the rows of the jobs, one after another
pub record AreMade (m : Maps) (rows : List (List ℕ)) (jobs : List Job)
    (made : List ℕ) : Type 0 where
  pub long : length made ≡ length jobs * m.points
  pub each : (j p : ℕ) (job : Job) → slice_get jobs j ≡ Some job → p < m.points
      → slice_index made (j * m.points + p) ≡ job_image m rows job p

-- the rows of the jobs can be made, and there is a place for each
pub record CanMake (m : Maps) (rows : List (List ℕ)) (jobs : List Job) (n : ℕ) : Type 0 where
  pub maps : AreMaps m
  pub sources : ArePointRows m rows
  pub each : All (IsJob m rows) jobs
  pub long : n ≡ length jobs * m.points

-- and the parts can share them
pub record CanFill (m : Maps) (rows : List (List ℕ)) (jobs : List Job) (parts : Parts)
    (n : ℕ) : Type 0 where
  pub make : CanMake m rows jobs n
  pub some : 1 ≤ parts.count
  pub enough : parts.count ≤ length jobs
  pub numbers : parts.first + parts.count < 2 ^ 32

-- the rows of the first n jobs are made
pub record AreMadeTo (m : Maps) (rows : List (List ℕ)) (jobs : List Job) (n : ℕ)
    (made : List ℕ) : Type 0 where
  pub long : length made ≡ length jobs * m.points
  pub each : (j p : ℕ) (job : Job) → j < n → slice_get jobs j ≡ Some job → p < m.points
      → slice_index made (j * m.points + p) ≡ job_image m rows job p

-- the two halves of some parts: each has one at least, and the second goes on where the first ends
pub record AreHalves (parts left right : Parts) : Type 0 where
  pub first : left.first ≡ parts.first
  pub next : right.first ≡ parts.first + left.count
  pub whole : left.count + right.count ≡ parts.count
  pub some : 1 ≤ left.count
  pub others : 1 ≤ right.count

-- the rows of the jobs that were not taken out stand ready
pub record IsBatch (m : Maps) (rows : List (List ℕ)) (batch : Batch) : Type 0 where
  pub each : All (IsJob m rows) batch.jobs.items
  pub made : AreMade m rows batch.jobs.items batch.rows.items
  pub taken : batch.taken ≤ length batch.jobs.items

-- the next row that is taken out is that of the job
abbrev pub IsNextJob : Batch → Job → Type 0
IsNextJob batch job = slice_get batch.jobs.items batch.taken ≡ Some job

-- x is the row of the element i followed by the letter a
pub record IsNextRow (m : Maps) (rows : List (List ℕ)) (i a : ℕ) (x : List ℕ) : Type 0 where
  pub long : length x ≡ m.points
  pub each : (p : ℕ) → p < m.points → slice_index x p ≡ image m (slice_index (row_at rows i) p) a

-- the rows that were there are there still
pub record AreMore (old new : List (List ℕ)) : Type 0 where
  pub few : length old ≤ length new
  pub same : (i : ℕ) → i < length old → row_at new i ≡ row_at old i

-- where the letter a takes each point of the source
pub record IsLetterRow (m : Maps) (source : List ℕ) (a : ℕ) (x : List ℕ) : Type 0 where
  pub long : length x ≡ length source
  pub each : (p : ℕ) → p < length source → slice_index x p ≡ image m (slice_index source p) a
