-- The last start goes away, where the last open node reaches one below it: the two upper segments
-- become one.
use Rattle.std.proofs.Common.{◌≡◌, ℕ, ◌+◌, ◌<◌, ◌≤◌, ◌⊎◌, inl, inr, List, [], ◌∷◌, ◌++◌, length}
use Rattle.std.proofs.Common.{slice_index, refl, sym, ap, arith, ◌∙◌}
use Rattle.std.proofs.lemmas.List.{length_push}
use Rattle.components.specs.Components.{Reach}
use Rattle.components.specs.Search.{IsLinked}
use Rattle.components.proofs.Paths.{then}
use Rattle.components.proofs.Places.{at_left, at_end, last_or_below}

pub linked_join : {d : ℕ} {to : ℕ → ℕ → ℕ} {os ss : List ℕ} (s z k : ℕ)
    → IsLinked d to os (ss ++ s ∷ []) → z + 1 ≡ length os → k < s
    → Reach d to (slice_index os z) (slice_index os k) → IsLinked d to os ss
linked_join {d = d} {to = to} {os = os} {ss = ss} s z k h ze ks r = record {
  up = h.up;
  down = down;
  first = first;
  none = λ e. absurd (none e);
  below = λ q ql. omega (arith, sl, old q ql, h.below q (omega (arith, sl)));
  rise = λ q u qu ul. omega (
    arith,
    sl,
    old q (omega (arith, sl)),
    old u ul,
    h.rise q u qu (omega (arith, sl)),
  );
}
  where
    sl : length (ss ++ s ∷ []) ≡ length ss + 1
    sl = length_push ss s

    old : (q : ℕ) → q < length ss → slice_index (ss ++ s ∷ []) q ≡ slice_index ss q
    old q ql = at_left ss s q ql

    last : slice_index (ss ++ s ∷ []) (length ss) ≡ s
    last = at_end ss s (length ss) refl

    s_below : s < length os
    s_below = omega (arith, sl, last, h.below (length ss) (omega (arith, sl)))

    first : 0 < length ss → slice_index ss 0 ≡ 0
    first l = sym (old 0 l) ∙ h.first (omega (arith, sl))

    none : length ss ≡ 0 → ⊥
    none e = omega (arith, sl, last, ap (slice_index (ss ++ s ∷ [])) e, h.first (omega (arith, sl)))

    -- a bound over the old starts from one over those that are left, where the last start does not
    -- part i from j
    with_last : (i j : ℕ) → ((q : ℕ) → q < length ss → i < slice_index ss q → j < slice_index ss q)
        → (i < s → j < s) → (q : ℕ) → q < length (ss ++ s ∷ []) → i < slice_index (ss ++ s ∷ []) q
        → j < slice_index (ss ++ s ∷ []) q
    with_last i j b c q ql iq = elim (last_or_below q (length ss) (omega (arith, sl))) [
      | inl lt ↦ omega (arith, sl, old q lt, b q lt (omega (arith, sl, old q lt)))
      | inr e ↦ omega (arith, sl, at_end ss s q e, c (omega (arith, sl, at_end ss s q e)))
    ]

    low : (i j : ℕ) → i ≤ j → j < length os → ((q : ℕ) → q < length ss → i < slice_index ss q
        → j < slice_index ss q) → (i < s → j < s) → Reach d to (slice_index os j) (slice_index os i)
    low i j ij jl b c = h.down i j ij jl (with_last i j b c)

    to_k : (i : ℕ) → i < s → ((q : ℕ) → q < length ss → i < slice_index ss q → k < slice_index ss q)
        → (i ≤ k) ⊎ (k < i) → Reach d to (slice_index os k) (slice_index os i)
    to_k i il b (inl ik) = low i k ik (omega (arith, sl, s_below)) b (λ _. ks)
    to_k i il b (inr ki) = h.up k i (omega (arith, sl, s_below)) (omega (arith, sl, s_below))

    le_or_gt : (a b : ℕ) → (a ≤ b) ⊎ (b < a)
    le_or_gt a b = grind arith

    across : (i j : ℕ) → i < s → s ≤ j → j < length os
        → ((q : ℕ) → q < length ss → i < slice_index ss q → j < slice_index ss q)
        → Reach d to (slice_index os j) (slice_index os i)
    across i j is sj jl b = then (h.up j z (omega (arith, sl, s_below))
        (omega (arith, sl, s_below)))
        (then r (to_k i is (λ q ql iq. omega (arith, sl, s_below, b q ql iq)) (le_or_gt i k)))

    down : (i j : ℕ) → i ≤ j → j < length os → ((q : ℕ) → q < length ss → i < slice_index ss q
        → j < slice_index ss q) → Reach d to (slice_index os j) (slice_index os i)
    down i j ij jl b = elim (le_or_gt s i) [
      | inl si ↦ low i j ij jl b (λ is. absurd (omega (arith, sl, s_below)))
      | inr is ↦ elim (le_or_gt s j) [
        | inl sj ↦ across i j is sj jl b
        | inr js ↦ low i j ij jl b (λ _. js)
      ]
    ]
