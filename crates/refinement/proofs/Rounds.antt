-- A round gives each node the place of its signature among the signatures so far.
use Rattle.std.proofs.Common.{◌≡◌, ℕ, ◌+◌, ◌<◌, ◌≤◌, ◌⊎◌, inl, inr, Bool, List, [], ◌∷◌, ◌++◌, Some, length, refl, ap, sym, ◌∙◌, arith, length-append, nat_eq}
use Rattle.std.specs.Prelude.{slice_index, position}
use Rattle.std.specs.Bool.{Decides}
use Rattle.std.specs.List.{position_or_len}
use Rattle.std.specs.Cmp.Lexicographic.{pointwise}
use Rattle.std.proofs.lemmas.Bool.{cases_lt}
use Rattle.std.proofs.lemmas.Bool.Decides.{Decides-eqb}
use Rattle.std.proofs.lemmas.Slice.Eq.{slice_eq-Decides}
use Rattle.std.proofs.lemmas.List.{get_or_append_left, get_or_push}
use Rattle.indexmap.specs.IndexSet.{insert_key}
use Rattle.std.proofs.Common.{zero-add, append_assoc}
use Rattle.std.proofs.lemmas.List.FromFn.{map-range_with_len_more}
use Rattle.language_theory.specs.ShortlexGraph.{Graph, target}
use Rattle.exploration.specs.States.{IsCounted}
use Rattle.exploration.specs.NumberedKeys.{position_of_one}
use Rattle.refinement.specs.Refinement.{signature, target_classes, IsSplit}
use Rattle.exploration.proofs.Interning.{insert_keeps, insert_numbers, insert_counts}

-- the test of two signatures decides whether they are equal
pub words_decide : (x y : List ℕ) → Decides (pointwise nat_eq x y) (x ≡ y)
words_decide x y = slice_eq-Decides Decides-eqb x y (pointwise nat_eq x y) refl

-- the first n items have the places of their keys, which are numbered by first occurrence
pub record AreInterned (key : ℕ → List ℕ) (n : ℕ) (keys : List (List ℕ)) (classes : List ℕ) : Type 0
  where
    pub long : length classes ≡ n
    pub few : length keys ≤ n
    pub place : (j : ℕ) → j < n
        → position (pointwise nat_eq (key j)) keys ≡ Some (slice_index classes j)
    pub within : (j : ℕ) → j < n → slice_index classes j < length keys
    pub used : (c : ℕ) → c < length keys → (j : ℕ) × (j < n) × (slice_index classes j ≡ c)
    pub order : (j c : ℕ) → j < n → c < slice_index classes j
        → (l : ℕ) × (l < j) × (slice_index classes l ≡ c)

module _ (key : ℕ → List ℕ) (n : ℕ) (keys : List (List ℕ)) (classes : List ℕ)
    (h : AreInterned key n keys classes) where
  abbrev found : ℕ
  found = position_or_len (pointwise nat_eq (key n)) keys

  abbrev more : List (List ℕ)
  more = insert_key (pointwise nat_eq) keys (key n)

  longer : length (classes ++ found ∷ []) ≡ length classes + 1
  longer = simp length-append

  old : (j : ℕ) → j < n → slice_index (classes ++ found ∷ []) j ≡ slice_index classes j
  old j hj = get_or_append_left classes (found ∷ []) 0 j (omega (arith, h.long))

  new : (j : ℕ) → n ≡ j → slice_index (classes ++ found ∷ []) j ≡ found
  new j e = get_or_push classes found 0 j (h.long ∙ e)

  split : (j : ℕ) → j < n + 1 → (j < n) ⊎ (n ≡ j)
  split j hj = elim (cases_lt j n) [ inl l ↦ inl l | inr l ↦ inr (omega arith) ]

  -- one item more
  pub interned_next : AreInterned key (n + 1) (insert_key (pointwise nat_eq) keys (key n))
      (classes ++ position_or_len (pointwise nat_eq (key n)) keys ∷ [])
  interned_next = record {
    long = omega (arith, longer, h.long);
    few = few counts;
    place = λ j hj. place j (split j hj);
    within = λ j hj. within j (split j hj) counts;
    used = λ c hc. used c hc counts;
    order = λ j c hj hc. order j c (split j hj) hc counts;
  }
    where
      counts : IsCounted (length keys) (length more) found
      counts = insert_counts (pointwise nat_eq) words_decide keys (key n)

      few : IsCounted (length keys) (length more) found → length more ≤ n + 1
      few (inl c) = omega (arith, h.few)
      few (inr c) = omega (arith, h.few)

      place : (j : ℕ) → (j < n) ⊎ (n ≡ j)
          → position (pointwise nat_eq (key j)) more ≡ Some (slice_index (classes ++ found ∷ []) j)
      place j (inl l) = insert_keeps (pointwise nat_eq) words_decide keys (key j) (key n)
          (slice_index classes j) (h.place j l) ∙ ap (λ (c : ℕ). Some c) (sym (old j l))
      place j (inr e) = ap (λ (m : ℕ). position (pointwise nat_eq (key m)) more) (sym e)
          ∙ insert_numbers (pointwise nat_eq) words_decide keys (key n)
          ∙ ap (λ (c : ℕ). Some c) (sym (new j e))

      within : (j : ℕ) → (j < n) ⊎ (n ≡ j) → IsCounted (length keys) (length more) found
          → slice_index (classes ++ found ∷ []) j < length more
      within j (inl l) (inl c) = rw (old j l) (omega (arith, h.within j l))
      within j (inl l) (inr c) = rw (old j l) (omega (arith, h.within j l))
      within j (inr e) (inl c) = rw (new j e) (omega arith)
      within j (inr e) (inr c) = rw (new j e) (omega arith)

      again : (c : ℕ) → c < length keys
          → (j : ℕ) × (j < n) × (slice_index (classes ++ found ∷ []) j ≡ c)
      again c hc = let (j, hj, e) = h.used c hc in (j, hj, old j hj ∙ e)

      used : (c : ℕ) → c < length more → IsCounted (length keys) (length more) found
          → (j : ℕ) × (j < n + 1) × (slice_index (classes ++ found ∷ []) j ≡ c)
      used c hc (inl d) = let (j, hj, e) = again c (omega arith) in (j, omega arith, e)
      used c hc (inr d) = elim (cases_lt c (length keys)) [
        | inl l ↦ (let (j, hj, e) = again c l in (j, omega arith, e))
        | inr l ↦ (n, omega arith, new n refl ∙ omega arith)
      ]

      order : (j c : ℕ) → (j < n) ⊎ (n ≡ j) → c < slice_index (classes ++ found ∷ []) j
          → IsCounted (length keys) (length more) found
          → (l : ℕ) × (l < j) × (slice_index (classes ++ found ∷ []) l ≡ c)
      order j c (inl l) hc _ = let (i, hi, e) = h.order j c l (omega (arith, old j l)) in
          (i, hi, old i (omega arith) ∙ e)
      order j c (inr e) hc (inl d) = let (i, hi, f) = again c (omega (arith, new j e)) in
          (i, omega arith, f)
      order j c (inr e) hc (inr d) = let (i, hi, f) = again c (omega (arith, new j e)) in
          (i, omega arith, f)

-- the same with the values of a program
pub interned_step : (key : ℕ → List ℕ) (n : ℕ) (keys : List (List ℕ)) (classes : List ℕ)
    (s : List ℕ) (c : ℕ) (ks : List (List ℕ)) (cs : List ℕ) → AreInterned key n keys classes
    → s ≡ key n → ks ≡ insert_key (pointwise nat_eq) keys s
    → c ≡ position_or_len (pointwise nat_eq s) keys → cs ≡ classes ++ c ∷ []
    → AreInterned key (n + 1) ks cs
interned_step key n keys classes s c ks cs h e f i l =
    rw (l, i, f, e) (interned_next key n keys classes h)

-- the classes of the targets, one more
pub target_classes_more : (g : Graph) (classes : List ℕ) (i n x : ℕ) (front xs ys : List ℕ)
    → xs ≡ front ++ target_classes g classes i n → x ≡ slice_index classes (target g i n)
    → ys ≡ xs ++ x ∷ [] → ys ≡ front ++ target_classes g classes i (n + 1)
target_classes_more g classes i n x front xs ys e f h =
    let more = map-range_with_len_more (λ a. slice_index classes (target g i a)) 0 n n (zero-add n)
    in
    rw (h, e, f, more) (append_assoc front (target_classes g classes i n)
    (slice_index classes (target g i n) ∷ []))

-- all items of a graph's nodes
pub interned_split : (g : Graph) (marks : List Bool) (old : List ℕ) (n count : ℕ)
    (keys : List (List ℕ)) (classes : List ℕ) → n ≡ g.size → count ≡ length keys
    → AreInterned (signature g marks old) n keys classes
    → IsSplit g marks old (record { count = count; classes = classes })
interned_split g marks old n count keys classes e f h = record {
  long = h.long ∙ e;
  few = omega (arith, h.few);
  numbering = record {
    within = λ i hi. omega (arith, f, h.within i (omega (arith, h.long)));
    used = λ c hc. let (i, hi, same) = h.used c (omega arith) in (i, omega (arith, h.long), same);
    order = λ i c hi hc. h.order i c (omega (arith, h.long)) hc;
  };
  split = λ i j hi hj. (λ same. forward i j hi hj same, λ same. back i j hi hj same);
}
  where
    forward : (i j : ℕ) → i < g.size → j < g.size → slice_index classes i ≡ slice_index classes j
        → signature g marks old i ≡ signature g marks old j
    forward i j hi hj same = position_of_one (pointwise nat_eq) words_decide keys
        (signature g marks old i) (signature g marks old j) (slice_index classes i)
        (h.place i (omega arith)) (h.place j (omega arith) ∙ ap (λ (c : ℕ). Some c) (sym same))

    back : (i j : ℕ) → i < g.size → j < g.size → signature g marks old i ≡ signature g marks old j
        → slice_index classes i ≡ slice_index classes j
    back i j hi hj same =
        let a = h.place i (omega arith) in
        let b = h.place j (omega arith) in
        let c = ap (λ (s : List ℕ). position (pointwise nat_eq s) keys) same in
        cc (a, b, c)
