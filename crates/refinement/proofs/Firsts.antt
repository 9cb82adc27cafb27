-- The least nodes of classes that are numbered by first occurrence, and the targets of the classes.
use Rattle.std.proofs.Common.{◌≡◌, ◌≢◌, ℕ, ◌+◌, ◌*◌, ◌<◌, ◌≤◌, ◌⊎◌, inl, inr, List, [], ◌∷◌, ◌++◌, length, ap, sym, subst, ◌∙◌, arith, length-append, zero-add}
use Rattle.std.specs.Prelude.{slice_index, All}
use Rattle.std.proofs.lemmas.Bool.{cases_lt}
use Rattle.std.proofs.lemmas.List.{get_or_append_left, get_or-append-add, get_or_push}
use Rattle.std.proofs.lemmas.List.FromFn.{length-map-range_with_len, get_or-map-range_with_len}
use Rattle.std.proofs.lemmas.List.Elements.{All-append, All-from_get_or}
use Rattle.language_theory.specs.ShortlexGraph.{Graph, IsGraph, IsNumbering, IsFirst, IsPartition, target}
use Rattle.language_theory.proofs.Graphs.{target_within, row_place}
use Rattle.refinement.specs.Refinement.{target_classes, AreFirstNodes}

-- the least nodes of the classes that occur among the first n nodes
pub record AreFirstsOf (classes : List ℕ) (n : ℕ) (firsts : List ℕ) : Type 0 where
  pub first : (c : ℕ) → c < length firsts → IsFirst classes c (slice_index firsts c)
  pub below : (i : ℕ) → i < n → slice_index classes i < length firsts

module _ (count : ℕ) (classes firsts : List ℕ) (n : ℕ) (numbering : IsNumbering count classes)
    (h : AreFirstsOf classes n firsts) (hn : n < length classes) where
  -- a class is one that has occurred, or the next
  not_above : slice_index classes n ≤ length firsts
  not_above = by (cases_lt (length firsts) (slice_index classes n))
    where
      by : (length firsts < slice_index classes n) ⊎ (slice_index classes n ≤ length firsts)
          → slice_index classes n ≤ length firsts
      by (inr l) = l
      by (inl l) = let (j, hj, e) = numbering.order n (length firsts) hn l in
          omega (arith, h.below j hj)

  pub firsts_skip : slice_index classes n ≢ length firsts → AreFirstsOf classes (n + 1) firsts
  firsts_skip other = record { first = h.first; below = λ i hi. below i (cases_lt i n) hi }
    where
      below : (i : ℕ) → (i < n) ⊎ (n ≤ i) → i < n + 1 → slice_index classes i < length firsts
      below i (inl l) _ = h.below i l
      below i (inr l) hi = let e : n ≡ i = omega arith in
          subst (λ (j : ℕ). slice_index classes j < length firsts) e
          (omega (arith, not_above, other))

  pub firsts_push : slice_index classes n ≡ length firsts
      → AreFirstsOf classes (n + 1) (firsts ++ n ∷ [])
  firsts_push same = record {
    first = λ c hc. first c (cases_lt c (length firsts)) hc;
    below = λ i hi. below i (cases_lt i n) hi;
  }
    where
      longer : length (firsts ++ n ∷ []) ≡ length firsts + 1
      longer = simp length-append

      first : (c : ℕ) → (c < length firsts) ⊎ (length firsts ≤ c) → c < length (firsts ++ n ∷ [])
          → IsFirst classes c (slice_index (firsts ++ n ∷ []) c)
      first c (inl l) _ =
          subst (IsFirst classes c) (sym (get_or_append_left firsts (n ∷ []) 0 c l)) (h.first c l)
      first c (inr l) hc =
          let e : length firsts ≡ c = omega (arith, longer) in
          subst (IsFirst classes c) (sym (get_or_push firsts n 0 c e)) (record {
            within = hn;
            member = same ∙ e;
            least = λ j hj equal. let b = h.below j hj in omega arith;
          })

      below : (i : ℕ) → (i < n) ⊎ (n ≤ i) → i < n + 1
          → slice_index classes i < length (firsts ++ n ∷ [])
      below i (inl l) _ = omega (arith, longer, h.below i l)
      below i (inr l) hi = let e : n ≡ i = omega arith in
          subst (λ (j : ℕ). slice_index classes j < length (firsts ++ n ∷ [])) e
          (omega (arith, longer, same))

-- all nodes give the least node of each class
pub firsts_all : (count : ℕ) (classes firsts : List ℕ) (n : ℕ) → IsNumbering count classes
    → n ≡ length classes → AreFirstsOf classes n firsts → AreFirstNodes count classes firsts
firsts_all count classes firsts n numbering e h =
    record { long = long; first = λ c hc. h.first c (omega (arith, long)) }
  where
    long : length firsts ≡ count
    long = by (cases_lt (length firsts) count) (cases_lt count (length firsts))
      where
        by : (length firsts < count) ⊎ (count ≤ length firsts)
            → (count < length firsts) ⊎ (length firsts ≤ count) → length firsts ≡ count
        by (inl l) _ = let (i, hi, same) = numbering.used (length firsts) l in let b =
            h.below i (omega arith) in absurd (omega arith)
        by (inr l) (inl m) =
            let f = h.first count m in
            let b = numbering.within (slice_index firsts count) f.within in
            let same = f.member in absurd (omega arith)
        by (inr l) (inr m) = omega arith

-- the classes of the targets of the first n classes' least nodes
pub record AreTargetsOf (g : Graph) (count : ℕ) (classes firsts : List ℕ) (n : ℕ)
    (targets : List ℕ) : Type 0 where
  pub long : length targets ≡ n * g.letters
  pub within : All (λ t. t < count) targets
  pub each : (c a : ℕ) → c < n → a < g.letters
      → slice_index targets (c * g.letters + a)
      ≡ slice_index classes (target g (slice_index firsts c) a)

pub targets_next : (g : Graph) (count : ℕ) (classes firsts : List ℕ) (n : ℕ) (targets more : List ℕ)
    → IsGraph g → IsPartition g count classes → AreFirstNodes count classes firsts
    → n < length firsts
    → more ≡ targets ++ target_classes g classes (slice_index firsts n) g.letters
    → AreTargetsOf g count classes firsts n targets
    → AreTargetsOf g count classes firsts (n + 1) more
targets_next g count classes firsts n targets more graph partition fs hn e h = rw e (record {
  long = omega (arith, length-append targets row, h.long, long);
  within = All-append (λ t. t < count) targets row h.within
      (All-from_get_or (λ t. t < count) row 0 (λ a ha. row_within a (omega (arith, long))));
  each = λ c a hc ha. each c a (cases_lt c n) hc ha;
})
  where
    first : ℕ
    first = slice_index firsts n

    hf : first < g.size
    hf = omega (arith, (fs.first n (omega (arith, fs.long))).within, partition.long)

    row : List ℕ
    row = target_classes g classes first g.letters

    long : length row ≡ g.letters
    long = length-map-range_with_len (λ a. slice_index classes (target g first a)) 0 g.letters

    at : (a : ℕ) → a < g.letters → slice_index row a ≡ slice_index classes (target g first a)
    at a ha = get_or-map-range_with_len (λ b. slice_index classes (target g first b)) 0 g.letters a
        a 0 ha (zero-add a)

    row_within : (a : ℕ) → a < g.letters → slice_index row a < count
    row_within a ha = rw (at a ha) (partition.numbering.within (target g first a)
        (rw partition.long (target_within g first a graph hf ha)))

    each : (c a : ℕ) → (c < n) ⊎ (n ≤ c) → c < n + 1 → a < g.letters
        → slice_index (targets ++ row) (c * g.letters + a)
        ≡ slice_index classes (target g (slice_index firsts c) a)
    each c a (inl l) _ ha = get_or_append_left targets row 0 (c * g.letters + a)
        (rw h.long (row_place c a n g.letters l ha)) ∙ h.each c a l ha
    each c a (inr l) hc ha =
        let same : n ≡ c = omega arith in
        let place : length targets + a ≡ c * g.letters + a =
        ap (λ (m : ℕ). m + a) (h.long ∙ ap (λ (m : ℕ). m * g.letters) same) in
        subst (λ (p : ℕ). slice_index (targets ++ row) p
        ≡ slice_index classes (target g (slice_index firsts c) a)) place
        (get_or-append-add targets row a 0 ∙ at a ha
        ∙ ap (λ (c : ℕ). slice_index classes (target g (slice_index firsts c) a)) same)
