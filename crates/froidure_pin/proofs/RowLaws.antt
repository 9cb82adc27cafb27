-- Rows of images: where words take the points, and how rows number words.
use Rattle.std.proofs.Common.{◌≤◌, ◌-◌, take, Result, Ok, Err, OnErr}
use Rattle.std.proofs.Common.{◌≡◌, ℕ, ◌+◌, ◌*◌, ◌<◌, ◌↔◌, true, List, [], ◌∷◌, ◌++◌, Some, length, refl, ap, sym, subst, ◌∙◌, arith, get_or, nat_eq, inl, inr}
use Rattle.std.specs.Prelude.{position, slice_index, All}
use Rattle.std.specs.List.{position_or_len, list_any}
use Rattle.std.proofs.Math.Seq.{take-append_seam}
use Rattle.std.specs.Bool.{Decides}
use Rattle.std.proofs.lemmas.Bool.{cases_Bool}
use Rattle.std.proofs.lemmas.Bool.Decides.{Decides-eqb}
use Rattle.std.specs.Cmp.Lexicographic.{pointwise}
use Rattle.std.proofs.lemmas.Slice.Eq.{slice_eq-Decides}
use Rattle.std.proofs.lemmas.List.{ext_get_or}
use Rattle.std.proofs.lemmas.List.FromFn.{length-map-range_with_len, get_or-map-range_with_len}
use Rattle.std.proofs.lemmas.List.Sums.{passes_at_first}
use Rattle.std.proofs.lemmas.List.Elements.{All-get_or}
use Rattle.indexmap.specs.IndexSet.{insert_key}
use Rattle.language_theory.specs.Words.{Over}
use Rattle.language_theory.specs.Congruence.{moved, IsCongruence}
use Rattle.language_theory.proofs.Congruences.{moved_append, moved_within, maps_alike_congruence, both_directions}
use Rattle.language_theory.proofs.Graphs.{row_place}
use Rattle.exploration.specs.States.{AreKept, IsNext, IsCounted}
use Rattle.exploration.specs.Interning.{AreReached}
use Rattle.exploration.specs.NumberedKeys.{position_is, keys_number}
use Rattle.exploration.proofs.Interning.{insert_keeps, insert_numbers, insert_counts, insert_reached}
use Rattle.froidure_pin.specs.Maps.{Maps, AreMaps, SameMap, image, row_of}
use Rattle.image_rows.specs.Rows.{row_at}
use Rattle.froidure_pin.specs.Rows.{number_of, AreSeen}
use Rattle.froidure_pin.specs.Batches.{IsJob, IsNextRow, ArePointRows, CanMake}
use Rattle.froidure_pin.specs.declared.batch.Job.{Job}
use Rattle.froidure_pin.proofs.Shortcut.{IsInvariant}

pub rows_Decides : (xs ys : List ℕ) → Decides (pointwise nat_eq xs ys) (xs ≡ ys)
rows_Decides xs ys = slice_eq-Decides Decides-eqb xs ys (pointwise nat_eq xs ys) refl

pub row_long : (m : Maps) (w : List ℕ) → length (row_of m w) ≡ m.points
row_long m w = length-map-range_with_len (λ p. moved (image m) p w) 0 m.points

pub row_image : (m : Maps) (w : List ℕ) (p : ℕ) → p < m.points
    → slice_index (row_of m w) p ≡ moved (image m) p w
row_image m w p h =
    get_or-map-range_with_len (λ p. moved (image m) p w) 0 m.points p p 0 h (omega arith)

-- words have one row exactly if they take all points alike
pub same_rows : (m : Maps) (u v : List ℕ) → (row_of m u ≡ row_of m v) ↔ SameMap m u v
same_rows m u v = (
  λ e p h. sym (row_image m u p h) ∙ ap (λ (r : List ℕ). slice_index r p) e ∙ row_image m v p h,
  λ s. ext_get_or 0 (row_of m u) (row_of m v) (row_long m u ∙ sym (row_long m v)) (λ p h. let e =
      row_long m u in let inside : p < m.points = omega arith in
      row_image m u p inside ∙ s p inside ∙ sym (row_image m v p inside)),
)

-- a letter takes each point to a point
pub image_within : (m : Maps) (p a : ℕ) → AreMaps m → p < m.points → a < m.letters
    → image m p a < m.points
image_within m p a h hp ha =
    All-get_or (λ q. q < m.points) m.images (a * m.points + p) 0 (let e = h.long in
    omega (arith, row_place a p m.letters m.points ha hp)) h.within

pub same_map_congruence : (m : Maps) → AreMaps m → IsCongruence m.letters (SameMap m)
same_map_congruence m h =
    maps_alike_congruence m.letters m.points (image m) (λ p a hp ha. image_within m p a h hp ha)

-- the row of a word with a letter behind it has where the letter takes each point of the row of the
-- word
pub row_next : (m : Maps) (w : List ℕ) (a p : ℕ) → p < m.points
    → moved (image m) p (w ++ a ∷ []) ≡ image m (slice_index (row_of m w) p) a
row_next m w a p h =
    moved_append (image m) p w (a ∷ []) ∙ ap (λ (q : ℕ). image m q a) (sym (row_image m w p h))

-- the number of a word leads back to its row
pub row_at_number : (m : Maps) (rows : List (List ℕ)) (w : List ℕ) (n : ℕ)
    → number_of m rows w ≡ Some n → row_of m w ≡ row_at rows n
row_at_number m rows w n e =
    let (a, h) = position_is (pointwise nat_eq (row_of m w)) rows n e in
    (rows_Decides (row_of m w) (row_at rows n)).0
    (subst (λ (i : ℕ). pointwise nat_eq (row_of m w) (get_or rows i []) ≡ true) a
    (passes_at_first (pointwise nat_eq (row_of m w)) rows [] (omega arith)))

-- distinct rows of words number the elements
pub rows_number : (m : Maps) (rows : List (List ℕ)) → AreMaps m
    → AreReached (pointwise nat_eq) m.letters (row_of m) rows → AreSeen m rows
rows_number m rows maps h =
    let n = keys_number (pointwise nat_eq) rows_Decides m.letters (row_of m) rows h in
    record {
      maps = maps;
      numbered = record {
        below = n.below;
        used = n.used;
        one =
            λ u v i ou ov e. both_directions (n.one u v i ou ov e) (same_rows m u v);
      };
    }

pub rows_reached : (m : Maps) (rows : List (List ℕ)) → AreSeen m rows
    → AreReached (pointwise nat_eq) m.letters (row_of m) rows
rows_reached m rows h = record { reached = h.numbered.used }

pub no_rows : (m : Maps) → AreMaps m → AreSeen m []
no_rows m maps = rows_number m [] maps (record { reached = λ n h. absurd (omega arith) })

-- a row of a word is seen
pub seen_rows : (m : Maps) (rows : List (List ℕ)) (w : List ℕ) (x : List ℕ) → Over m.letters w
    → row_of m w ≡ x → AreSeen m rows → AreSeen m (insert_key (pointwise nat_eq) rows x)
seen_rows m rows w x o e h =
    rows_number m (insert_key (pointwise nat_eq) rows x) h.maps
    (insert_reached (pointwise nat_eq) rows_Decides m.letters (row_of m) rows x w o e
    (rows_reached m rows h))

pub seen_keeps : (m : Maps) (rows : List (List ℕ)) (x : List ℕ)
    → AreKept m.letters (number_of m rows) (number_of m (insert_key (pointwise nat_eq) rows x))
seen_keeps m rows x =
    record {
      kept =
          λ w n o e. insert_keeps (pointwise nat_eq) rows_Decides rows (row_of m w) x n e;
    }

pub seen_counts : (rows : List (List ℕ)) (x : List ℕ)
    → IsCounted (length rows) (length (insert_key (pointwise nat_eq) rows x))
    (position_or_len (pointwise nat_eq x) rows)
seen_counts rows x = insert_counts (pointwise nat_eq) rows_Decides rows x

-- a next row is the row of each word of the element, with the letter behind it
pub next_row_is : (m : Maps) (rows : List (List ℕ)) (i a : ℕ) (x w : List ℕ)
    → IsNextRow m rows i a x → number_of m rows w ≡ Some i → row_of m (w ++ a ∷ []) ≡ x
next_row_is m rows i a x w h e =
    ext_get_or 0 (row_of m (w ++ a ∷ [])) x (row_long m (w ++ a ∷ []) ∙ sym h.long) (λ p hp.
    let long = row_long m (w ++ a ∷ []) in
    let inside : p < m.points = omega arith in
    row_image m (w ++ a ∷ []) p inside ∙ row_next m w a p inside
    ∙ ap (λ (r : List ℕ). image m (slice_index r p) a) (row_at_number m rows w i e)
    ∙ sym (h.each p inside))

pub seen_next : (m : Maps) (rows : List (List ℕ)) (i a : ℕ) (x : List ℕ) → IsNextRow m rows i a x
    → IsNext m.letters (number_of m rows) (number_of m (insert_key (pointwise nat_eq) rows x)) i a
    (position_or_len (pointwise nat_eq x) rows)
seen_next m rows i a x h =
    record {
      leads =
          λ w o e. subst
          (λ (r : List ℕ). position (pointwise nat_eq r) (insert_key (pointwise nat_eq) rows x)
          ≡ Some (position_or_len (pointwise nat_eq x) rows)) (sym (next_row_is m rows i a x w h e))
          (insert_numbers (pointwise nat_eq) rows_Decides rows x);
    }

-- rows number words alike that a letter is put behind or before
pub rows_invariant : (m : Maps) (rows : List (List ℕ)) → AreMaps m
    → IsInvariant m.letters (number_of m rows)
rows_invariant m rows maps = record {
  behind = λ u v i a ou ov ha e f. as_rows (u ++ a ∷ []) (v ++ a ∷ [])
      ((same_map_congruence m maps).right u v (a ∷ []) ou ov (ha, tt) (alike u v i e f));
  before = λ u v i b ou ov hb e f. as_rows (b ∷ u) (b ∷ v)
      ((same_map_congruence m maps).left u v (b ∷ []) ou ov (hb, tt) (alike u v i e f));
}
  where
    alike : (u v : List ℕ) (i : ℕ) → number_of m rows u ≡ Some i → number_of m rows v ≡ Some i
        → SameMap m u v
    alike u v i e f =
        (same_rows m u v).0 (row_at_number m rows u i e ∙ sym (row_at_number m rows v i f))

    as_rows : (x y : List ℕ) → SameMap m x y → number_of m rows x ≡ number_of m rows y
    as_rows x y s = ap (λ (r : List ℕ). position (pointwise nat_eq r) rows) ((same_rows m x y).1 s)

-- each row has a point for each point
pub point_rows : (m : Maps) (rows : List (List ℕ)) → AreSeen m rows → ArePointRows m rows
point_rows m rows h =
    record {
      long = λ i hi. ap length (sym (own i hi)) ∙ row_long m (word i hi);
      within =
          λ i p hi hp. subst (λ (r : List ℕ). slice_index r p < m.points) (own i hi)
          (rw (row_image m (word i hi) p hp)
          (moved_within m.letters m.points (image m) (λ q a hq ha. image_within m q a h.maps hq ha) p
          (word i hi) hp (over i hi)));
    }
  where
    word : (i : ℕ) → i < length rows → List ℕ
    word i hi = (h.numbered.used i hi).0

    over : (i : ℕ) (hi : i < length rows) → Over m.letters (word i hi)
    over i hi = (h.numbered.used i hi).1

    own : (i : ℕ) (hi : i < length rows) → row_of m (word i hi) ≡ row_at rows i
    own i hi = row_at_number m rows (word i hi) i (h.numbered.used i hi).2

-- a row that was not seen gets the next number
pub new_counts : (rows : List (List ℕ)) (x : List ℕ)
    → length rows ≤ position_or_len (pointwise nat_eq x) rows
    → (position_or_len (pointwise nat_eq x) rows ≡ length rows)
    × (length (insert_key (pointwise nat_eq) rows x) ≡ length rows + 1)
new_counts rows x l = elim (seen_counts rows x) [
  | inl c ↦ absurd (omega (arith, l, c.0))
  | inr c ↦ c
]

-- where a row was seen, there are as many as before
pub known_counts : (rows : List (List ℕ)) (x : List ℕ)
    → position_or_len (pointwise nat_eq x) rows < length rows
    → length (insert_key (pointwise nat_eq) rows x) ≡ length rows
known_counts rows x l = elim (seen_counts rows x) [
  | inl c ↦ c.1
  | inr c ↦ absurd (omega (arith, l, c.0))
]

-- without the new row, the rows are as before
pub last_out : (rows : List (List ℕ)) (x : List ℕ)
    → length rows ≤ position_or_len (pointwise nat_eq x) rows
    → take (length (insert_key (pointwise nat_eq) rows x) - 1) (insert_key (pointwise nat_eq) rows x)
    ≡ rows
last_out rows x l =
    let n = (new_counts rows x l).1 in
    elim (cases_Bool (list_any (pointwise nat_eq x) rows)) [
      | inl e ↦
          let g : insert_key (pointwise nat_eq) rows x ≡ rows = rw e refl in
          let m : length (insert_key (pointwise nat_eq) rows x) ≡ length rows =
          ap (λ (zs : List (List ℕ)). length zs) g in
          absurd (omega (arith, n, m))
      | inr e ↦
          let g : insert_key (pointwise nat_eq) rows x ≡ rows ++ x ∷ [] = rw e refl in
          let m : length (insert_key (pointwise nat_eq) rows x) - 1 ≡ length rows =
          omega (arith, n) in
          ap (λ (k : ℕ). take k (insert_key (pointwise nat_eq) rows x)) m
          ∙ ap (take (length rows)) g ∙ take-append_seam rows (x ∷ [])
    ]

-- what holds, holds where there is a fault
pub on_err : {T E P : Type 0} (r : Result T E) → P → OnErr r P
on_err (Ok v) h = tt
on_err (Err e) h = h

-- the rows of jobs can be made where there is a place for each
pub can_make : (m : Maps) (rows : List (List ℕ)) (jobs : List Job) (n : ℕ) → AreSeen m rows
    → All (IsJob m rows) jobs → n ≡ length jobs * m.points → CanMake m rows jobs n
can_make m rows jobs n seen each long =
    record { maps = seen.maps; sources = point_rows m rows seen; each = each; long = long }

-- the row of the empty word is seen first
pub first_number : (m : Maps)
    → number_of m (insert_key (pointwise nat_eq) [] (row_of m [])) [] ≡ Some 0
first_number m = insert_numbers (pointwise nat_eq) rows_Decides [] (row_of m [])
