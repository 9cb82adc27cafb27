-- Rows of marks stand for the short subwords of words.
use Rattle.std.proofs.Common.{◌≡◌, ◌≢◌, ◌↔◌, ◌⊎◌, inl, inr, ℕ, ◌*◌, ◌<◌, ◌≤◌, Bool, true, false, IsTrue, List, [], ◌∷◌, ◌++◌, length, replicate, refl, ap, sym, subst, ◌∙◌, arith, append_assoc, append-nil, length-append}
use Rattle.std.specs.Prelude.{◌==◌, ◌||◌, ◌&&◌}
use Rattle.std.specs.Cmp.{both_ways as equal_tests}
use Rattle.std.proofs.lemmas.Bool.{cases_lt}
use Rattle.std.proofs.lemmas.Grind.{common_steps}
use Rattle.std.proofs.lemmas.List.{ext_get_or, get_or-replicate, length-replicate, length-set, get_or-set_other, get_or-set_same, get_or_past}
use Rattle.std.proofs.Math.Nat.{le-mul_of_pos_right}
use Rattle.std.proofs.lemmas.List.FromFn.{length-map-range_with_len, get_or-map-range_with_len}
use Rattle.language_theory.specs.Words.{Over, IsSubword, done}
use Rattle.language_theory.specs.Automaton.{is_marked}
use Rattle.language_theory.specs.Congruence.{moved}
use Rattle.language_theory.proofs.Shortlex.{over_prefix, over_last}
use Rattle.language_theory.proofs.Congruences.{moved_append}
use Rattle.language_theory.proofs.Deleting.{subword_over}
use Rattle.subword_theory.specs.ShortSubwords.{SameSubwords}
use Rattle.subword_theory.specs.SubwordRows.{width, child, place, parent, IsRowOf, first_row, next_mark, next_row, row_of}
use Rattle.subword_theory.proofs.SameWords.{same_refl}
use Rattle.subword_theory.proofs.Endings.{EndsIn, ends_in, in_ended}
use Rattle.subword_theory.proofs.Places.{IsAt, place_last, width_some, by_last_letter, place_within, place_one, parent_of_child, word_at_place}

-- ---- the next row

pub next_long : (k a : ℕ) (marks : List Bool) → length (next_row k a marks) ≡ length marks
unfolding next_row
next_long k a marks = length-map-range_with_len _ 0 (length marks)

next_at : (k a : ℕ) (marks : List Bool) (q : ℕ) → q < length marks
    → is_marked (next_row k a marks) q ≡ next_mark k a marks q
unfolding next_row
next_at k a marks q h =
    get_or-map-range_with_len (next_mark k a marks) 0 (length marks) q q false h (omega arith)

-- a place was marked, or it is the child by the letter a of a marked place
abbrev pub IsNextMark : ℕ → ℕ → List Bool → ℕ → Type 0
IsNextMark k a marks q =
    IsTrue (is_marked marks q)
    ⊎ ((p : ℕ) × IsTrue (is_marked marks p) × (child k p a ≡ q))

mark_cases : (s t u : Bool) → (s || (t && u)) ≡ true → (s ≡ true) ⊎ ((t ≡ true) × (u ≡ true))
mark_cases true t u e = inl refl
mark_cases false true true e = inr (refl, refl)
mark_cases false true false e = cc
mark_cases false false u e = cc

mark_first : (s t u : Bool) → s ≡ true → (s || (t && u)) ≡ true
mark_first true t u e = refl
mark_first false t u e = cc

mark_second : (s t u : Bool) → t ≡ true → u ≡ true → (s || (t && u)) ≡ true
mark_second true t u e f = refl
mark_second false true true e f = refl
mark_second false true false e f = cc
mark_second false false u e f = cc

pub next_marks : (k a : ℕ) (marks : List Bool) (q : ℕ) → a < k → q < length marks
    → IsTrue (is_marked (next_row k a marks) q) ↔ IsNextMark k a marks q
next_marks k a marks q l h = (to, from)
  where
    to : IsTrue (is_marked (next_row k a marks) q) → IsNextMark k a marks q
    to t = by (mark_cases (is_marked marks q) (is_marked marks (parent k q))
        (child k (parent k q) a == q) (sym (next_at k a marks q h) ∙ t))
      where
        by : (is_marked marks q ≡ true)
            ⊎ ((is_marked marks (parent k q) ≡ true) × ((child k (parent k q) a == q) ≡ true))
            → IsNextMark k a marks q
        by (inl e) = inl e
        by (inr (e, f)) = inr (parent k q, e, grind (arith, common_steps))

    from : IsNextMark k a marks q → IsTrue (is_marked (next_row k a marks) q)
    from (inl e) = next_at k a marks q h
        ∙ mark_first (is_marked marks q) (is_marked marks (parent k q))
        (child k (parent k q) a == q) e
    from (inr (p, e, f)) = next_at k a marks q h
        ∙ mark_second (is_marked marks q) (is_marked marks (parent k q))
        (child k (parent k q) a == q) marked own
      where
        up : parent k q ≡ p
        up = ap (parent k) (sym f) ∙ parent_of_child k p a l

        marked : is_marked marks (parent k q) ≡ true
        marked = ap (is_marked marks) up ∙ e

        own : (child k (parent k q) a == q) ≡ true
        own = let g : child k (parent k q) a ≡ q = ap (λ (i : ℕ). child k i a) up ∙ f in
            grind (arith, common_steps)

-- the next row is known by its marks
pub next_row_known : (k a : ℕ) (marks new : List Bool) → a < k → length new ≡ length marks
    → ((q : ℕ) → q < length marks → IsTrue (is_marked new q) ↔ IsNextMark k a marks q)
    → new ≡ next_row k a marks
next_row_known k a marks new l e f =
    ext_get_or false new (next_row k a marks) (e ∙ sym (next_long k a marks)) alike
  where
    alike : (q : ℕ) → q < length new → is_marked new q ≡ is_marked (next_row k a marks) q
    alike q h =
        let m : q < length marks = omega arith in
        let n = next_marks k a marks q l m in
        equal_tests (is_marked new q) (is_marked (next_row k a marks) q)
        (λ t. n.1 ((f q m).0 t)) (λ t. (f q m).1 (n.0 t))

-- ---- rows of words

bare : (n q : ℕ) → is_marked (replicate n false) q ≡ false
bare n q = elim (cases_lt q n) [
  | inl l ↦ get_or-replicate n q false false l
  | inr l ↦ get_or_past (replicate n false) q false
      (let e = length-replicate n false in omega arith)
]

-- a place that is not that of the empty word is not marked in the first row
first_bare : (k n q : ℕ) → 0 < q → is_marked (first_row k n) q ≡ false
first_bare k n q l =
    get_or-set_other (replicate (width k n) false) 0 q true false
    (let e : q ≢ 0 = omega arith in e)
    ∙ bare (width k n) q

first_marked : (k n : ℕ) → is_marked (first_row k n) 0 ≡ true
first_marked k n =
    get_or-set_same (replicate (width k n) false) 0 true false
    (let l = length-replicate (width k n) false in let s = width_some k n in omega arith)

no_last : (x : List ℕ) (a : ℕ) → ¬ IsSubword (x ++ a ∷ []) []
no_last [] a h = elim h [ ]
no_last (b ∷ x) a h = elim h [ ]

pub first_row_of : (k n : ℕ) → IsRowOf k n [] (first_row k n)
first_row_of k n = record { long = long; at = λ x o l. at x }
  where
    long : length (first_row k n) ≡ width k n
    long = length-set (replicate (width k n) false) 0 true ∙ length-replicate (width k n) false

    longer : (x : List ℕ) (a : ℕ)
        → IsTrue (is_marked (first_row k n) (place k (x ++ a ∷ []))) ↔ IsSubword (x ++ a ∷ []) []
    longer x a = (
      λ t. (let f = ap (is_marked (first_row k n)) (place_last k x a)
          ∙ first_bare k n (child k (place k x) a) (omega arith) in cc),
      λ h. absurd (no_last x a h),
    )

    at : (x : List ℕ) → IsTrue (is_marked (first_row k n) (place k x)) ↔ IsSubword x []
    at = by_last_letter
        (λ x. IsTrue (is_marked (first_row k n) (place k x)) ↔ IsSubword x [])
        (λ _. done, λ _. first_marked k n) longer

-- the row of a word with a letter behind it is the next one
pub next_row_of : (k n a : ℕ) (w : List ℕ) (marks : List Bool) → a < k → IsRowOf k n w marks
    → IsRowOf k n (w ++ a ∷ []) (next_row k a marks)
next_row_of k n a w marks la h = record { long = next_long k a marks ∙ h.long; at = at }
  where
    inside : (x : List ℕ) → Over k x → length x ≤ n → place k x < length marks
    inside x o l = subst (λ (i : ℕ). place k x < i) (sym h.long) (place_within k n x o l)

    to : (x : List ℕ) → Over k x → length x ≤ n → IsNextMark k a marks (place k x)
        → IsSubword x (w ++ a ∷ [])
    to x o l (inl e) = in_ended w a x (inl ((h.at x o l).0 e))
    to x o l (inr (p, e, f)) = by (word_at_place k n p (subst (λ (i : ℕ). p < i) h.long within))
      where
        within : p < length marks
        within =
            let b = inside x o l in
            let c : p ≤ p * k = le-mul_of_pos_right {m = k} p (omega arith) in
            omega arith

        by : (y : List ℕ) × IsAt k n p y → IsSubword x (w ++ a ∷ [])
        by (y, at) =
            let oy : Over k (y ++ a ∷ []) = over_last k y a at.over la in
            let same : y ++ a ∷ [] ≡ x =
            place_one k (y ++ a ∷ []) x oy o
            (place_last k y a ∙ (ap (λ (i : ℕ). child k i a) at.place ∙ f)) in
            in_ended w a x
            (inr (y, (h.at y at.over at.short).0 (ap (is_marked marks) at.place ∙ e), sym same))

    from : (x : List ℕ) → Over k x → length x ≤ n → EndsIn w a x → IsNextMark k a marks (place k x)
    from x o l (inl g) = inl ((h.at x o l).1 g)
    from x o l (inr (y, g, e)) =
        let o_last : Over k (y ++ a ∷ []) = subst (Over k) e o in
        let l_last : length (y ++ a ∷ []) ≤ n = subst (λ (z : List ℕ). length z ≤ n) e l in
        let oy : Over k y = over_prefix k y (a ∷ []) o_last in
        let ly : length y ≤ n = (let m = length-append y (a ∷ []) in omega arith) in
        inr (
          place k y,
          (h.at y oy ly).1 g,
          sym (ap (place k) e ∙ place_last k y a),
        )

    at : (x : List ℕ) → Over k x → length x ≤ n
        → IsTrue (is_marked (next_row k a marks) (place k x)) ↔ IsSubword x (w ++ a ∷ [])
    at x o l =
        let m = next_marks k a marks (place k x) la (inside x o l) in (
          λ t. to x o l (m.0 t),
          λ s. m.1 (from x o l (ends_in w a x s)),
        )

pub row_last : (k n : ℕ) (w : List ℕ) (a : ℕ)
    → row_of k n (w ++ a ∷ []) ≡ next_row k a (row_of k n w)
row_last k n w a = moved_append (λ marks b. next_row k b marks) (first_row k n) w (a ∷ [])

-- the row that the letters of a word lead to is that of the word
pub row_is : (k n : ℕ) (w : List ℕ) → Over k w → IsRowOf k n w (row_of k n w)
row_is k n w = from [] w (first_row k n) (first_row_of k n)
  where
    from : (u v : List ℕ) (marks : List Bool) → IsRowOf k n u marks → Over k v
        → IsRowOf k n (u ++ v) (moved (λ row a. next_row k a row) marks v)
    from u [] marks h o = subst (λ (x : List ℕ). IsRowOf k n x marks) (sym (append-nil u)) h
    from u (a ∷ v) marks h o =
        subst (λ (x : List ℕ). IsRowOf k n x
        (moved (λ row b. next_row k b row) (next_row k a marks) v)) (append_assoc u (a ∷ []) v)
        (from (u ++ a ∷ []) v (next_row k a marks) (next_row_of k n a u marks o.0 h) o.1)

pub row_long : (k n : ℕ) (w : List ℕ) → Over k w → length (row_of k n w) ≡ width k n
row_long k n w o = (row_is k n w o).long

-- rows with the same marks for the short subwords are equal
rows_equal : (k n : ℕ) (u v : List ℕ) (b c : List Bool) → IsRowOf k n u b → IsRowOf k n v c
    → SameSubwords n u v → b ≡ c
rows_equal k n u v b c h g s = ext_get_or false b c (h.long ∙ sym g.long) alike
  where
    alike : (i : ℕ) → i < length b → is_marked b i ≡ is_marked c i
    alike i l = at (word_at_place k n i (subst (λ (m : ℕ). i < m) h.long l))
      where
        at : (x : List ℕ) × IsAt k n i x → is_marked b i ≡ is_marked c i
        at (x, w) = subst (λ (j : ℕ). is_marked b j ≡ is_marked c j) w.place
            (equal_tests (is_marked b (place k x)) (is_marked c (place k x))
            (λ t. (g.at x w.over w.short).1 ((s.of x w.short).0 ((h.at x w.over w.short).0 t)))
            (λ t. (h.at x w.over w.short).1 ((s.of x w.short).1 ((g.at x w.over w.short).0 t))))

pub one_row : (k n : ℕ) (w : List ℕ) (b c : List Bool) → IsRowOf k n w b → IsRowOf k n w c → b ≡ c
one_row k n w b c h g = rows_equal k n w w b c h g (same_refl n w)

-- rows are equal exactly where the words have the same short subwords
pub same_rows : (k n : ℕ) (u v : List ℕ) → Over k u → Over k v
    → (row_of k n u ≡ row_of k n v) ↔ SameSubwords n u v
same_rows k n u v ou ov = (
  λ e. record { of = λ x l. (half u v ou ov e x l, half v u ov ou (sym e) x l) },
  rows_equal k n u v (row_of k n u) (row_of k n v) (row_is k n u ou) (row_is k n v ov),
)
  where
    half : (u v : List ℕ) → Over k u → Over k v → row_of k n u ≡ row_of k n v → (x : List ℕ)
        → length x ≤ n → IsSubword x u → IsSubword x v
    half u v ou ov e x l h =
        let o = subword_over k h ou in
        ((row_is k n v ov).at x o l).0
        (ap (λ (row : List Bool). is_marked row (place k x)) (sym e)
        ∙ ((row_is k n u ou).at x o l).1 h)
