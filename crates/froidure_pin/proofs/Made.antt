-- Rows that are made one after another, and by parts.
use Rattle.std.proofs.Common.{◌≡◌, ℕ, ◌+◌, ◌-◌, ◌*◌, ◌<◌, ◌≤◌, ◌⊎◌, inl, inr, List, [], ◌∷◌, ◌++◌, Some, length, take, drop, ap, sym, subst, ◌∙◌, arith, length-append}
use Rattle.std.specs.Prelude.{slice_get, slice_index}
use Rattle.std.proofs.lemmas.Bool.{cases_lt}
use Rattle.std.proofs.lemmas.Option.{slice_get_within, slice_get-get_or, get_or_from_slice_get}
use Rattle.std.proofs.lemmas.List.{get_or-take, get_or-drop, get_or-append-add, get_or_append_left, length-take-le, length-drop}
use Rattle.std.proofs.lemmas.List.Elements.{All-take, All-drop}
use Rattle.std.proofs.Math.Nat.{mul-le-mul_right}
use Rattle.language_theory.proofs.Graphs.{row_place}
use Rattle.froidure_pin.specs.declared.batch.Job.{Job}
use Rattle.froidure_pin.specs.Maps.{Maps, image}
use Rattle.image_rows.specs.Rows.{row_at}
use borrow.Rule.Slice.PartMut.{put_mid, post_of}
use Rattle.froidure_pin.specs.declared.batch.Batch.{Batch}
use Rattle.froidure_pin.specs.declared.filling.Parts.{Parts}
use Rattle.froidure_pin.specs.Batches.{job_image, IsJob, CanFill, AreHalves, AreMade, AreMadeTo, IsLetterRow, IsBatch, IsNextJob, IsNextRow, AreMore}

-- a job before the cut stands in the front, at its place
pub front_job : (jobs : List Job) (count j : ℕ) (job : Job) → count ≤ length jobs → j < count
    → slice_get jobs j ≡ Some job → slice_get (take count jobs) j ≡ Some job
front_job jobs count j job few h e =
    let n : length (take count jobs) ≡ count = length-take-le count jobs few in
    slice_get-get_or (take count jobs) j job (omega arith)
    ∙ ap (λ (x : Job). Some x)
    (get_or-take count jobs j job h ∙ get_or_from_slice_get jobs j job job e)

-- one behind it in the back
pub back_job : (jobs : List Job) (count j : ℕ) (job : Job) → slice_get jobs (count + j) ≡ Some job
    → slice_get (drop count jobs) j ≡ Some job
back_job jobs count j job e =
    let inside : count + j < length jobs = slice_get_within jobs (count + j) job e in
    let n : length (drop count jobs) ≡ length jobs - count = length-drop count jobs in
    slice_get-get_or (drop count jobs) j job (omega arith)
    ∙ ap (λ (x : Job). Some x)
    (get_or-drop count jobs j job ∙ get_or_from_slice_get jobs (count + j) job job e)

-- the rows of the front and those of the back are those of all jobs
pub join_made : (m : Maps) (rows : List (List ℕ)) (jobs : List Job) (count : ℕ)
    (front back : List ℕ) → count ≤ length jobs → AreMade m rows (take count jobs) front
    → AreMade m rows (drop count jobs) back → AreMade m rows jobs (front ++ back)
join_made m rows jobs count front back few f g = record {
  long =
      let whole : length (front ++ back) ≡ length front + length back = simp length-append in
      let a = f.long in
      let b = g.long in
      let long_front : length front ≡ count * m.points =
      a ∙ ap (λ (n : ℕ). n * m.points) (length-take-le count jobs few) in
      let long_back : length back ≡ (length jobs - count) * m.points =
      b ∙ ap (λ (n : ℕ). n * m.points) (length-drop count jobs) in
      let split : length jobs ≡ count + (length jobs - count) = omega arith in
      let both : length jobs * m.points ≡ (count + (length jobs - count)) * m.points =
      ap (λ (n : ℕ). n * m.points) split in
      omega arith;
  each = λ j p job e hp. by j p job e hp (cases_lt j count);
}
  where
    long_front : length front ≡ count * m.points
    long_front = f.long ∙ ap (λ (n : ℕ). n * m.points) (length-take-le count jobs few)

    by : (j p : ℕ) (job : Job) → slice_get jobs j ≡ Some job → p < m.points
        → (j < count) ⊎ (count ≤ j)
        → slice_index (front ++ back) (j * m.points + p) ≡ job_image m rows job p
    by j p job e hp (inl o) =
        let inside : j * m.points + p < length front =
        (let place = row_place j p count m.points o hp in let n = long_front in omega arith) in
        get_or_append_left front back 0 (j * m.points + p) inside
        ∙ f.each j p job (front_job jobs count j job few o e) hp
    by j p job e hp (inr o) =
        let i : ℕ = j - count in
        let split : j ≡ count + i = omega arith in
        let n = long_front in
        let both : j * m.points ≡ (count + i) * m.points = ap (λ (c : ℕ). c * m.points) split in
        let place : j * m.points + p ≡ length front + (i * m.points + p) = omega arith in
        ap (slice_index (front ++ back)) place ∙ get_or-append-add front back (i * m.points + p) 0
        ∙ g.each i p job
        (back_job jobs count i job (subst (λ (c : ℕ). slice_get jobs c ≡ Some job) split e)) hp

-- one more row is made
pub made_next : (m : Maps) (rows : List (List ℕ)) (jobs : List Job) (n : ℕ) (job : Job)
    (old new row : List ℕ) → AreMadeTo m rows jobs n old → slice_get jobs n ≡ Some job
    → IsLetterRow m (row_at rows job.element) job.letter row
    → length (row_at rows job.element) ≡ m.points → length new ≡ length old
    → ((i : ℕ) → i < n * m.points → slice_index new i ≡ slice_index old i)
    → ((p : ℕ) → p < m.points → slice_index new (n * m.points + p) ≡ slice_index row p)
    → AreMadeTo m rows jobs (n + 1) new
made_next m rows jobs n job old new row h e f long same before here = record {
  long = same ∙ h.long;
  each = λ j p x hj g hp. by j p x g hp (cases_lt j n) hj;
}
  where
    by : (j p : ℕ) (x : Job) → slice_get jobs j ≡ Some x → p < m.points → (j < n) ⊎ (n ≤ j)
        → j < n + 1 → slice_index new (j * m.points + p) ≡ job_image m rows x p
    by j p x g hp (inl o) hj =
        before (j * m.points + p) (row_place j p n m.points o hp) ∙ h.each j p x o g hp
    by j p x g hp (inr o) hj =
        let last : n ≡ j = omega arith in
        let two : Some job ≡ Some x = sym e ∙ ap (slice_get jobs) last ∙ g in
        let one : job ≡ x = cc in
        ap (λ (i : ℕ). slice_index new (i * m.points + p)) (sym last) ∙ here p hp
        ∙ f.each p (omega arith) ∙ ap (λ (y : Job). job_image m rows y p) one

pub made_none : (m : Maps) (rows : List (List ℕ)) (jobs : List Job) (made : List ℕ)
    → length made ≡ length jobs * m.points → AreMadeTo m rows jobs 0 made
made_none m rows jobs made e = record { long = e; each = λ j p job hj g hp. absurd (omega arith) }

pub made_all : (m : Maps) (rows : List (List ℕ)) (jobs : List Job) (n : ℕ) (made : List ℕ)
    → n ≡ length jobs → AreMadeTo m rows jobs n made → AreMade m rows jobs made
made_all m rows jobs n made e h =
    record {
      long = h.long;
      each =
          λ j p job g hp. h.each j p job (let inside = slice_get_within jobs j job g in
          omega arith) g hp;
    }

-- a list with a run of places overwritten
module _ (start k : ℕ) (old row : List ℕ) (fits : start + k ≤ length old)
    (long : length row ≡ k) where
  front_long : length (take start old) ≡ start
  front_long = length-take-le start old (omega arith)

  put_before : (i : ℕ) → i < start → slice_index (put_mid start k old row) i ≡ slice_index old i
  put_before i h = let n = front_long in
      get_or_append_left (take start old) (row ++ post_of start k old) 0 i (omega arith)
      ∙ get_or-take start old i 0 h

  put_here : (p : ℕ) → p < length row
      → slice_index (put_mid start k old row) (start + p) ≡ slice_index row p
  put_here p h =
      ap (λ (n : ℕ). slice_index (put_mid start k old row) (n + p)) (sym front_long)
      ∙ get_or-append-add (take start old) (row ++ post_of start k old) p 0
      ∙ get_or_append_left row (post_of start k old) 0 p h

  put_long : length (put_mid start k old row) ≡ length old
  put_long =
      let n = front_long in
      let behind : length (drop start old) ≡ length old - start = length-drop start old in
      let rest : length (drop k (drop start old)) ≡ length (drop start old) - k =
      length-drop k (drop start old) in
      let whole : length (take start old ++ (row ++ drop k (drop start old)))
      ≡ length (take start old) + (length row + length (drop k (drop start old))) =
      simp length-append in
      whole ∙ (let sum : length (take start old) + (length row + length (drop k (drop start old)))
      ≡ length old = omega arith in sum)

-- one more row is put behind those that are made
pub made_put : (m : Maps) (rows : List (List ℕ)) (jobs : List Job) (n start k : ℕ) (job : Job)
    (old row : List ℕ) → AreMadeTo m rows jobs n old → slice_get jobs n ≡ Some job
    → IsLetterRow m (row_at rows job.element) job.letter row
    → length (row_at rows job.element) ≡ m.points → start ≡ n * m.points → k ≡ m.points
    → AreMadeTo m rows jobs (n + 1) (put_mid start k old row)
made_put m rows jobs n start k job old row h e f long at points =
    made_next m rows jobs n job old (put_mid start k old row) row h e f long
    (put_long start k old row fits same)
    (λ i hi. put_before start k old row fits same i (omega arith))
    (λ p hp. ap (λ (i : ℕ). slice_index (put_mid start k old row) (i + p)) (sym at)
    ∙ put_here start k old row fits same p (omega arith))
  where
    same : length row ≡ k
    same = let g = f.long in omega arith

    fits : start + k ≤ length old
    fits = let inside = slice_get_within jobs n job e in let g = h.long in
        omega (arith, mul-le-mul_right {m = n + 1} {n = length jobs} m.points (omega arith))

-- a batch when more elements are found and a row was taken out
pub batch_goes_on : (m : Maps) (rows later : List (List ℕ)) (batch : Batch) (job : Job)
    → IsBatch m rows batch → IsNextJob batch job → AreMore rows later
    → IsBatch m later (record batch { taken = batch.taken + 1 })
batch_goes_on m rows later batch job h next more = record {
  each = λ i d hi. let j = h.each i d hi in
      record {
        element = (let e = j.element in let f = more.few in omega arith);
        letter =
            j.letter;
      };
  made = record {
    long = h.made.long;
    each = λ j p x e hp.
        let inside : j < length batch.jobs.items = slice_get_within batch.jobs.items j x e in
        let is : IsJob m rows x =
        subst (IsJob m rows) (get_or_from_slice_get batch.jobs.items j x x e)
        (h.each j x inside) in
        h.made.each j p x e hp
        ∙ ap (λ (r : List ℕ). image m (slice_index r p) x.letter)
        (sym (more.same x.element is.element));
  };
  taken = let inside = slice_get_within batch.jobs.items batch.taken job next in omega arith;
}

-- the next row of a batch is that of its job
pub batch_row : (m : Maps) (rows : List (List ℕ)) (batch : Batch) (job : Job) (x : List ℕ)
    → IsBatch m rows batch → IsNextJob batch job → length x ≡ m.points
    → ((p : ℕ) → p < m.points
    → slice_index x p ≡ slice_index batch.rows.items (batch.taken * m.points + p))
    → IsNextRow m rows job.element job.letter x
batch_row m rows batch job x h next long each =
    record { long = long; each = λ p hp. each p hp ∙ h.made.each batch.taken p job next hp }

-- a job that is listed is listed still when one more is
pub listed_still : (jobs : List Job) (next : Job) (i : ℕ) (job : Job) → slice_get jobs i ≡ Some job
    → slice_get (jobs ++ next ∷ []) i ≡ Some job
listed_still jobs next i job e =
    let inside : i < length jobs = slice_get_within jobs i job e in
    let longer : length (jobs ++ next ∷ []) ≡ length jobs + 1 = simp length-append in
    slice_get-get_or (jobs ++ next ∷ []) i job (omega arith)
    ∙ ap (λ (x : Job). Some x)
    (get_or_append_left jobs (next ∷ []) job i inside ∙ get_or_from_slice_get jobs i job job e)

-- each part of the jobs and of their places can be filled by its parts
module _ (m : Maps) (rows : List (List ℕ)) (jobs : List Job) (parts left right : Parts)
    (n count : ℕ) (h : CanFill m rows jobs parts n) (halves : AreHalves parts left right)
    (first : left.count ≤ count) (rest : count + right.count ≤ length jobs) where
  pub can_fill_front : CanFill m rows (take count jobs) left (count * m.points)
  can_fill_front =
      let long : length (take count jobs) ≡ count = length-take-le count jobs (omega arith) in
      let f = halves.first in
      let w = halves.whole in
      let u = h.numbers in
      record {
        make = record {
          maps = h.make.maps;
          sources = h.make.sources;
          each =
              All-take (IsJob m rows) count jobs h.make.each;
          long =
              ap (λ (c : ℕ). c * m.points) (sym long);
        };
        some = halves.some;
        enough = omega arith;
        numbers = omega arith;
      }

  pub can_fill_back : CanFill m rows (drop count jobs) right (n - count * m.points)
  can_fill_back =
      let long : length (drop count jobs) ≡ length jobs - count = length-drop count jobs in
      let f = halves.next in
      let w = halves.whole in
      let u = h.numbers in
      let e = h.make.long in
      let split : length jobs ≡ count + (length jobs - count) = omega arith in
      let both : length jobs * m.points ≡ (count + (length jobs - count)) * m.points =
      ap (λ (c : ℕ). c * m.points) split in
      let behind : length (drop count jobs) * m.points ≡ (length jobs - count) * m.points =
      ap (λ (c : ℕ). c * m.points) long in
      record {
        make = record {
          maps = h.make.maps;
          sources = h.make.sources;
          each =
              All-drop (IsJob m rows) count jobs h.make.each;
          long = omega arith;
        };
        some = halves.others;
        enough = omega arith;
        numbers = omega arith;
      }

-- no row is made for no job
pub made_empty : (m : Maps) (rows : List (List ℕ)) (jobs : List Job) (made : List ℕ)
    → length jobs ≡ 0 → length made ≡ length jobs * m.points → AreMade m rows jobs made
made_empty m rows jobs made none long =
    record {
      long = long;
      each =
          λ j p job e hp. absurd (let inside = slice_get_within jobs j job e in omega arith);
    }
