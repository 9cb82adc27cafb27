-- The places of the words of each length.
use Rattle.std.proofs.Common.{◌≡◌, ℕ, ◌+◌, ◌*◌, ◌<◌, ◌≤◌, ◌⊎◌, inl, inr, List, [], ◌∷◌, ◌++◌, length, ap, sym, subst, ◌∙◌, arith, length-append}
use Rattle.std.proofs.lemmas.Bool.{cases_lt}
use Rattle.language_theory.specs.Words.{word_at}
use Rattle.exploration.specs.Search.{IsBreadthFirst}
use Rattle.exploration.proofs.Places.{row_within}
use Rattle.froidure_pin.specs.Search.{AreShorter}
use Rattle.froidure_pin.proofs.Growth.{longer_list, old_word, new_word, old_or_new}

-- a shorter word stands before
pub stands_before : (words : List (List ℕ)) (n i j : ℕ) → AreShorter words n i → j < length words
    → length (word_at words j) < n → j < i
stands_before words n i j h hj l =
    elim (cases_lt j i) [ inl o ↦ o | inr o ↦ absurd (let g = h.above j o hj in omega arith) ]

-- one more word that is not shorter changes nothing
pub shorter_push : (words : List (List ℕ)) (x : List ℕ) (n i : ℕ) → i ≤ length words → n ≤ length x
    → AreShorter words n i → AreShorter (words ++ x ∷ []) n i
shorter_push words x n i hi hx h = record {
  below = λ j hj. rw (old_word words x j (omega arith)) (h.below j hj);
  above = λ j hj m. by j hj (old_or_new words x j (let e = longer_list words x in omega arith));
}
  where
    by : (j : ℕ) → i ≤ j → (j < length words) ⊎ (length words ≡ j)
        → n ≤ length (word_at (words ++ x ∷ []) j)
    by j hj (inl o) = rw (old_word words x j o) (h.above j hj o)
    by j hj (inr o) = rw (new_word words x j o) hx

-- when all targets of the words of length n are found, all words of the next length are
pub next_shorter : (k : ℕ) (words : List (List ℕ)) (targets : List ℕ) (n to : ℕ)
    → IsBreadthFirst k words targets → length targets ≡ to * k → AreShorter words (n + 1) to
    → AreShorter words (n + 1 + 1) (length words)
next_shorter k words targets n to h e f =
    record { below = λ j hj. by j hj (cases_lt 0 j); above = λ j hj m. absurd (omega arith) }
  where
    by : (j : ℕ) → j < length words → (0 < j) ⊎ (j ≤ 0) → length (word_at words j) < n + 1 + 1
    by j hj (inl o) =
        let (p, a, ha, place, t, splits) = h.found j o hj in
        let before : p < to = row_within p a k to (omega arith) in
        let short = f.below p before in
        let long : length (word_at words p ++ a ∷ []) ≡ length (word_at words p) + 1 =
        simp length-append in
        let same = ap length splits in
        omega arith
    by j hj (inr o) =
        let first : 0 ≡ j = omega arith in
        let none = ap length (sym (ap (word_at words) first) ∙ h.root) in
        omega arith

pub no_shorter : AreShorter ([] ∷ []) 0 0
no_shorter = record { below = λ j hj. absurd (omega arith); above = λ j hj m. omega arith }

pub one_shorter : AreShorter ([] ∷ []) 1 1
one_shorter =
    record {
      below =
          λ j hj. (let first : 0 ≡ j = omega arith in subst (λ (i : ℕ). length (word_at ([] ∷ []) i) < 1)
          first (omega arith));
      above = λ j hj m. absurd (omega arith);
    }

pub first_shorter : (words : List (List ℕ)) → length words ≡ 1 → word_at words 0 ≡ []
    → AreShorter words 0 0 × AreShorter words 1 1
first_shorter words e root = (
  record { below = λ j hj. absurd (omega arith); above = λ j hj m. omega arith },
  record {
    below =
        λ j hj. (let first : 0 ≡ j = omega arith in subst (λ (i : ℕ). length (word_at words i) < 1)
        first (let none = ap length root in omega arith));
    above = λ j hj m. absurd (omega arith);
  },
)
