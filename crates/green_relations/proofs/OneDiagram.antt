-- A monoid has one egg-box diagram, and one list of marks of its idempotents.
use Rattle.std.proofs.Common.{◌≡◌, ◌↔◌, ℕ, zero, suc, ◌<◌, ◌≤◌, inl, inr, Bool, false, IsTrue, List}
use Rattle.std.proofs.Common.{[], length, slice_index, refl, sym, subst, arith, ◌∙◌}
use Rattle.std.proofs.lemmas.Bool.{cases_lt}
use Rattle.std.specs.Cmp.{both_ways}
use Rattle.std.proofs.lemmas.List.{ext_get_or}
use Rattle.language_theory.specs.Words.{word_at}
use Rattle.language_theory.specs.Automaton.{is_marked}
use Rattle.monoid_theory.specs.Green.{IsR, IsL, IsJ}
use Rattle.green_relations.specs.EggBoxes.{AreJust, IsBox, IsDiagram, AreEggBoxes, RelatesAt}
use Rattle.green_relations.specs.EggBoxes.{box_at, row_at, cell_at}

module _ {n : ℕ} {has : ℕ → Type 0} where
  -- a number stands no earlier in the other list
  just_no_earlier : {xs ys : List ℕ} (k m : ℕ) → AreJust n has xs → AreJust n has ys
      → k < length xs → m < length ys → slice_index xs k ≡ slice_index ys m → k ≤ m
  just_no_earlier zero m g h hk hm e = omega arith
  just_no_earlier {xs = xs} {ys = ys} (suc k) m g h hk hm e =
      let l : k < length xs = omega arith in
      let (p, hp, f) = h.all (slice_index xs k) (g.within k l) (g.each k l) in
      let before : k ≤ p = just_no_earlier k p g h l hp (sym f) in
      let less : slice_index xs k < slice_index xs (suc k) = g.rise k (suc k) (omega arith) hk in
      elim (cases_lt p m) [
        | inl i ↦ omega arith
        | inr i ↦ (elim (cases_lt m p) [
          | inl o ↦ (absurd (omega (arith, h.rise m p o hp, less, e, f)))
          | inr o ↦ (absurd (let q : p ≡ m = omega arith in
              omega (arith, subst (λ (t : ℕ). slice_index ys t ≡ slice_index xs k) q f, less, e)))
        ])
      ]

  just_inside : {xs ys : List ℕ} (k : ℕ) → AreJust n has xs → AreJust n has ys → k < length xs
      → (k < length ys) × (slice_index xs k ≡ slice_index ys k)
  just_inside {xs = xs} {ys = ys} k g h hk =
      let (m, hm, e) = h.all (slice_index xs k) (g.within k hk) (g.each k hk) in
      let low : k ≤ m = just_no_earlier k m g h hk hm (sym e) in
      let high : m ≤ k = just_no_earlier m k h g hm hk e in
      let same : m ≡ k = omega arith in
      (omega arith, sym (subst (λ (t : ℕ). slice_index ys t ≡ slice_index xs k) same e))

  just_no_longer : {xs ys : List ℕ} → AreJust n has xs → AreJust n has ys → length xs ≤ length ys
  just_no_longer {xs = xs} {ys = ys} g h = elim (cases_lt (length ys) (length xs)) [
    | inl l ↦ (absurd (omega (arith, (just_inside (length ys) g h l).0)))
    | inr l ↦ omega arith
  ]

  -- one list has just the numbers that have a property, in rising order
  pub one_rising_list : (xs ys : List ℕ) → AreJust n has xs → AreJust n has ys → xs ≡ ys
  one_rising_list xs ys g h = ext_get_or 0 xs ys
      (omega (arith, just_no_longer g h, just_no_longer h g)) (λ k hk. (just_inside k g h hk).1)

-- classes have one box and one diagram, whatever the relations
module _ (n : ℕ) (r l j : ℕ → ℕ → Type 0) where
  pub one_box : (top : ℕ) (p q : List (List (List ℕ))) → IsBox n r l j top p
      → IsBox n r l j top q → p ≡ q
  one_box top p q g h = ext_get_or [] p q (g.height ∙ (long ∙ sym h.height)) row
    where
      rows : h.rows ≡ g.rows
      rows = one_rising_list h.rows g.rows h.firsts_of_rows g.firsts_of_rows

      columns : h.columns ≡ g.columns
      columns = one_rising_list h.columns g.columns h.firsts_of_columns g.firsts_of_columns

      long : length g.rows ≡ length h.rows
      long = subst (λ (xs : List ℕ). length xs ≡ length h.rows) rows refl

      wide : length g.columns ≡ length h.columns
      wide = subst (λ (xs : List ℕ). length xs ≡ length h.columns) columns refl

      cell : (y x : ℕ) → y < length g.rows → x < length g.columns
          → cell_at (row_at p y) x ≡ cell_at (row_at q y) x
      cell y x hy hx = one_rising_list _ _ (g.cell y x hy hx)
          (subst (λ (xs : List ℕ). AreJust n
          (λ i. r i (slice_index g.rows y) × l i (slice_index xs x))
          (cell_at (row_at q y) x)) columns
          (subst (λ (xs : List ℕ). AreJust n
          (λ i. r i (slice_index xs y) × l i (slice_index h.columns x))
          (cell_at (row_at q y) x)) rows
          (h.cell y x (omega (arith, long)) (omega (arith, wide)))))

      row : (y : ℕ) → y < length p → row_at p y ≡ row_at q y
      row y hy =
          let inside : y < length g.rows = omega (arith, g.height) in
          let width : length (row_at p y) ≡ length g.columns = g.width y inside in
          ext_get_or [] (row_at p y) (row_at q y)
          (width ∙ (wide ∙ sym (h.width y (omega (arith, long)))))
          (λ x hx. cell y x inside (omega (arith, width)))

  pub one_diagram : (xs ys : List (List (List (List ℕ)))) → IsDiagram n r l j xs
      → IsDiagram n r l j ys → xs ≡ ys
  one_diagram xs ys g h = ext_get_or [] xs ys (g.count ∙ (long ∙ sym h.count)) box
    where
      tops : h.tops ≡ g.tops
      tops = one_rising_list h.tops g.tops h.firsts g.firsts

      long : length g.tops ≡ length h.tops
      long = subst (λ (zs : List ℕ). length zs ≡ length h.tops) tops refl

      box : (b : ℕ) → b < length xs → box_at xs b ≡ box_at ys b
      box b hb =
          let inside : b < length g.tops = omega (arith, g.count) in
          one_box (slice_index g.tops b) (box_at xs b) (box_at ys b) (g.box b inside)
          (subst (λ (zs : List ℕ). IsBox n r l j (slice_index zs b) (box_at ys b)) tops
          (h.box b (omega (arith, long))))

-- of the monoid of a congruence
pub one_egg_box_list : (k : ℕ) (same : List ℕ → List ℕ → Type 0) (words : List (List ℕ))
    (xs ys : List (List (List (List ℕ)))) → AreEggBoxes k same words xs
    → AreEggBoxes k same words ys → xs ≡ ys
one_egg_box_list k same words = one_diagram (length words) (RelatesAt (IsR k same) words)
    (RelatesAt (IsL k same) words) (RelatesAt (IsJ k same) words)

-- marks are equal that both say whether one fact holds
one_mark : (s t : Bool) (P : Type 0) → IsTrue s ↔ P → IsTrue t ↔ P → s ≡ t
one_mark s t P a b = both_ways s t (λ e. b.1 (a.0 e)) (λ e. a.1 (b.0 e))

-- one list marks the words that have a property
pub one_mark_list : (words : List (List ℕ)) (P : List ℕ → Type 0) (marks others : List Bool)
    → length marks ≡ length words → length others ≡ length words
    → ((i : ℕ) → i < length words → IsTrue (is_marked marks i) ↔ P (word_at words i))
    → ((i : ℕ) → i < length words → IsTrue (is_marked others i) ↔ P (word_at words i))
    → marks ≡ others
one_mark_list words P marks others e f a b = ext_get_or false marks others (e ∙ sym f)
    (λ i hi. one_mark (is_marked marks i) (is_marked others i) (P (word_at words i))
    (a i (omega (arith, e))) (b i (omega (arith, e))))
