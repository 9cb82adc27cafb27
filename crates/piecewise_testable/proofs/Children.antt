-- The row of a word with a letter behind it, made from the marked places one after another.
use Rattle.std.proofs.Common.{◌≡◌, ◌≢◌, ◌↔◌, ◌⊎◌, inl, inr, ℕ, ◌+◌, ◌<◌, ◌≤◌, Bool, true, false, IsTrue, List, length, set, ap, sym, subst, ◌∙◌, arith, mul-le-mul_right}
use Rattle.std.proofs.lemmas.Bool.{cases_lt}
use Rattle.std.proofs.lemmas.List.{length-set, get_or-set_other, get_or-set_same}
use Rattle.language_theory.specs.Automaton.{is_marked}
use Rattle.language_theory.proofs.Numbers.{equal_or_not}
use Rattle.number_set.specs.Marks.{IsNextMember}
use Rattle.subword_theory.specs.SubwordRows.{child, next_row}
use Rattle.subword_theory.proofs.Rows.{IsNextMark, next_row_known}

-- the marks of a row, and of the places that the letter a gives from the marked places below `from`
pub record AreChildrenBelow (k a : ℕ) (row : List Bool) (from : ℕ) (new : List Bool) : Type 0 where
  pub long : length new ≡ length row
  pub each : (q : ℕ) → q < length row
      → IsTrue (is_marked new q)
      ↔ (IsTrue (is_marked row q)
      ⊎ ((p : ℕ) × (p < from) × IsTrue (is_marked row p) × (child k p a ≡ q)))

pub no_children : (k a : ℕ) (row new : List Bool) → new ≡ row → AreChildrenBelow k a row 0 new
no_children k a row new e = record {
  long = ap length e;
  each = λ q l. (
    λ t. inl (ap (λ (r : List Bool). is_marked r q) (sym e) ∙ t),
    λ h. from q h,
  );
}
  where
    from : (q : ℕ) → IsTrue (is_marked row q)
        ⊎ ((p : ℕ) × (p < 0) × IsTrue (is_marked row p) × (child k p a ≡ q))
        → IsTrue (is_marked new q)
    from q (inl t) = ap (λ (r : List Bool). is_marked r q) e ∙ t
    from q (inr (p, l, t, f)) = absurd (omega arith)

child_rises : (k a p q : ℕ) → p ≤ q → child k p a ≤ child k q a
child_rises k a p q l = let h = mul-le-mul_right {m = p} {n = q} k l in omega arith

pub child_added : (k a : ℕ) (row new : List Bool) (from p : ℕ) → AreChildrenBelow k a row from new
    → IsNextMember row from p → child k p a < length row
    → AreChildrenBelow k a row (p + 1) (set new (child k p a) true)
child_added k a row new from p h m inside = record {
  long = length-set new (child k p a) true ∙ h.long;
  each = λ q l. (to q l (equal_or_not q (child k p a)), back q l (equal_or_not q (child k p a)));
}
  where
    within : child k p a < length new
    within = let e = h.long in omega arith

    IsDone : ℕ → Type 0
    IsDone q =
        IsTrue (is_marked row q)
        ⊎ ((i : ℕ) × (i < p + 1) × IsTrue (is_marked row i) × (child k i a ≡ q))

    to : (q : ℕ) → q < length row → (q ≡ child k p a) ⊎ (q ≢ child k p a)
        → IsTrue (is_marked (set new (child k p a) true) q)
        → IsTrue (is_marked row q)
        ⊎ ((i : ℕ) × (i < p + 1) × IsTrue (is_marked row i) × (child k i a ≡ q))
    to q l (inl e) t = inr (p, omega arith, m.marked, sym e)
    to q l (inr n) t =
        further ((h.each q l).0 (sym (get_or-set_other new (child k p a) q true false n) ∙ t))
      where
        further : IsTrue (is_marked row q)
            ⊎ ((i : ℕ) × (i < from) × IsTrue (is_marked row i) × (child k i a ≡ q))
            → IsTrue (is_marked row q)
            ⊎ ((i : ℕ) × (i < p + 1) × IsTrue (is_marked row i) × (child k i a ≡ q))
        further (inl u) = inl u
        further (inr (i, b, u, f)) = inr (i, (let c = m.above in omega arith), u, f)

    back : (q : ℕ) → q < length row → (q ≡ child k p a) ⊎ (q ≢ child k p a)
        → IsTrue (is_marked row q)
        ⊎ ((i : ℕ) × (i < p + 1) × IsTrue (is_marked row i) × (child k i a ≡ q))
        → IsTrue (is_marked (set new (child k p a) true) q)
    back q l (inl e) d =
        subst (λ (i : ℕ). IsTrue (is_marked (set new (child k p a) true) i)) (sym e)
        (get_or-set_same new (child k p a) true false within)
    back q l (inr n) d =
        get_or-set_other new (child k p a) q true false n ∙ (h.each q l).1 (earlier d)
      where
        before : (i : ℕ) → i < p + 1 → IsTrue (is_marked row i) → child k i a ≡ q
            → (i < from) ⊎ (from ≤ i) → (i < p) ⊎ (p ≤ i) → i < from
        before i b u f (inl c) d = c
        before i b u f (inr c) (inl d) = let bare = m.least i c d in absurd cc
        before i b u f (inr c) (inr d) =
            let e : p ≡ i = omega arith in
            absurd (n (sym f ∙ ap (λ (j : ℕ). child k j a) (sym e)))

        earlier : IsTrue (is_marked row q)
            ⊎ ((i : ℕ) × (i < p + 1) × IsTrue (is_marked row i) × (child k i a ≡ q))
            → IsTrue (is_marked row q)
            ⊎ ((i : ℕ) × (i < from) × IsTrue (is_marked row i) × (child k i a ≡ q))
        earlier (inl u) = inl u
        earlier (inr (i, b, u, f)) =
            inr (i, before i b u f (cases_lt i from) (cases_lt i p), u, f)

-- where no further marked place gives a place of the row, all is done
all_children : (k a : ℕ) (row new : List Bool) (from : ℕ) → a < k
    → AreChildrenBelow k a row from new
    → ((p : ℕ) → from ≤ p → IsTrue (is_marked row p) → length row ≤ child k p a)
    → new ≡ next_row k a row
all_children k a row new from l h beyond =
    next_row_known k a row new l h.long
    (λ q m. (λ t. to q ((h.each q m).0 t), λ t. (h.each q m).1 (back q m t)))
  where
    to : (q : ℕ) → IsTrue (is_marked row q)
        ⊎ ((p : ℕ) × (p < from) × IsTrue (is_marked row p) × (child k p a ≡ q))
        → IsNextMark k a row q
    to q (inl t) = inl t
    to q (inr (p, b, t, f)) = inr (p, t, f)

    back : (q : ℕ) → q < length row → IsNextMark k a row q → IsTrue (is_marked row q)
        ⊎ ((p : ℕ) × (p < from) × IsTrue (is_marked row p) × (child k p a ≡ q))
    back q m (inl t) = inl t
    back q m (inr (p, t, f)) = elim (cases_lt p from) [
      | inl b ↦ inr (p, b, t, f)
      | inr b ↦ (let g = beyond p b t in absurd (omega arith))
    ]

-- the next member gives a place beyond the row
pub children_end : (k a : ℕ) (row new : List Bool) (from p : ℕ) → a < k
    → AreChildrenBelow k a row from new → IsNextMember row from p → length row ≤ child k p a
    → new ≡ next_row k a row
children_end k a row new from p l h m g = all_children k a row new from l h beyond
  where
    beyond : (q : ℕ) → from ≤ q → IsTrue (is_marked row q) → length row ≤ child k q a
    beyond q b t = elim (cases_lt q p) [
      | inl c ↦ (let bare = m.least q b c in absurd cc)
      | inr c ↦ (let r = child_rises k a p q c in omega arith)
    ]

-- there is no further member
pub children_whole : (k a : ℕ) (row new : List Bool) (from : ℕ) → a < k
    → AreChildrenBelow k a row from new → ((q : ℕ) → from ≤ q → is_marked row q ≡ false)
    → new ≡ next_row k a row
children_whole k a row new from l h none =
    all_children k a row new from l h (λ q b t. let f = none q b in absurd cc)
