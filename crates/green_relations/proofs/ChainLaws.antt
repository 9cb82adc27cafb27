-- The laws of chains of ideals: the longest chain is one, a chain is no longer than the list of
-- elements, and relations that agree have the same chains.
use Rattle.std.proofs.Common.{◌≡◌, ◌≢◌, ℕ, zero, suc, ◌+◌, ◌-◌, ◌<◌, ◌≤◌, List, length, slice_index, sym, subst, arith}
use Rattle.std.proofs.lemmas.List.{ext_get_or}
use Rattle.language_theory.specs.Words.{Over, word_at}
use Rattle.language_theory.specs.Congruence.{IsCongruence, Agree}
use Rattle.language_theory.specs.Representatives.{AreRepresentatives}
use Rattle.language_theory.proofs.Congruences.{agree_turned}
use Rattle.language_theory.proofs.Numbers.{pigeonhole}
use Rattle.language_theory.proofs.Shortlex.{strong_induction}
use Rattle.monoid_theory.specs.Green.{IsInIdeal, IsJ}
use Rattle.monoid_theory.proofs.Agreeing.{agreeing_ideal, j_agrees}
use Rattle.monoid_theory.proofs.Ideals.{in_ideal_itself, in_ideal_through}
use Rattle.green_relations.specs.Chains.{IsBelow, IsChain, IsLongestChain}

-- ---- the longest chain is one

module _ (k : ℕ) (same : List ℕ → List ℕ → Type 0) (words : List (List ℕ)) where
  longest_have_one_length : (xs ys : List ℕ) → IsLongestChain k same words xs
      → IsLongestChain k same words ys → length xs ≡ length ys
  longest_have_one_length xs ys g h = omega (arith, g.most ys h.is, h.most xs g.is)

  longest_agree_at : (xs ys : List ℕ) → IsLongestChain k same words xs
      → IsLongestChain k same words ys → (i : ℕ) → i < length xs
      → slice_index xs i ≡ slice_index ys i
  longest_agree_at xs ys g h =
      strong_induction (λ i. i < length xs → slice_index xs i ≡ slice_index ys i) step
    where
      long : length xs ≡ length ys
      long = longest_have_one_length xs ys g h

      step : (i : ℕ)
          → ((m : ℕ) → m < i → m < length xs → slice_index xs m ≡ slice_index ys m)
          → i < length xs → slice_index xs i ≡ slice_index ys i
      step i before l = omega (
        arith,
        g.least ys i h.is (sym long) l (λ m b. sym (before m b (omega arith))),
        h.least xs i g.is long (omega (arith, long)) (λ m b. before m b (omega arith)),
      )

  pub one_longest_chain : (xs ys : List ℕ) → IsLongestChain k same words xs
      → IsLongestChain k same words ys → xs ≡ ys
  one_longest_chain xs ys g h =
      ext_get_or 0 xs ys (longest_have_one_length xs ys g h) (longest_agree_at xs ys g h)

-- ---- a chain is no longer than the list of elements

module _ (k : ℕ) (same : List ℕ → List ℕ → Type 0) (q : IsCongruence k same) where
  pub below_through : (r s t : List ℕ) → Over k r → Over k s → Over k t → IsBelow k same r s
      → IsBelow k same s t → IsBelow k same r t
  below_through r s t or os ot (i, n) (j, m) = (
    in_ideal_through k same q r s t or os ot i j,
    λ f. n (i, in_ideal_through k same q s t r os ot or j f.1),
  )

  module _ (words : List (List ℕ)) (l : AreRepresentatives k same words) (chain : List ℕ)
      (c : IsChain k same words chain) where
    element : ℕ → List ℕ
    element i = word_at words (slice_index chain i)

    over_element : (i : ℕ) → i < length chain → Over k (element i)
    unfolding element
    over_element i h = l.over (slice_index chain i) (c.within i h)

    falls_further : (i n : ℕ) → i + suc n < length chain
        → IsBelow k same (element (i + suc n)) (element i)
    unfolding element
    falls_further i zero h = c.falls i h
    falls_further i (suc n) h =
        let e : i + suc n + 1 ≡ i + suc (suc n) = omega arith in
        subst (λ (m : ℕ). IsBelow k same (element m) (element i)) e
        (below_through (element (i + suc n + 1)) (element (i + suc n)) (element i)
        (over_element (i + suc n + 1) (omega arith)) (over_element (i + suc n) (omega arith))
        (over_element i (omega arith)) (c.falls (i + suc n) (omega arith))
        (falls_further i n (omega arith)))

    chain_differs : (i j : ℕ) → i < j → j < length chain → slice_index chain i ≢ slice_index chain j
    unfolding element
    chain_differs i j h g e = lower.1 (subst (λ (m : ℕ). IsJ k same (word_at words m) (element i)) e
        (itself, itself))
      where
        gap : i + suc (j - i - 1) ≡ j
        gap = omega arith

        lower : IsBelow k same (element j) (element i)
        lower = subst (λ (m : ℕ). IsBelow k same (element m) (element i)) gap
            (falls_further i (j - i - 1) (omega arith))

        itself : IsInIdeal k same (element i) (element i)
        itself = in_ideal_itself k same q.equivalence (element i) (over_element i (omega arith))

    pub chain_is_short : length chain ≤ length words
    chain_is_short =
        pigeonhole (length chain) (length words) (slice_index chain) c.within chain_differs

-- ---- relations that agree have the same chains

module _ (k : ℕ) (words : List (List ℕ))
    (o : (i : ℕ) → i < length words → Over k (word_at words i)) where
  module _ (same alike : List ℕ → List ℕ → Type 0) (a : Agree k same alike) where
    below_agrees : (s t : List ℕ) → Over k s → Over k t → IsBelow k same s t → IsBelow k alike s t
    below_agrees s t os ot (i, n) = (
      agreeing_ideal k same alike a s t os ot i,
      λ f. n (((j_agrees k same alike a).both s t os ot).1 f),
    )

    chain_agrees : (chain : List ℕ) → IsChain k same words chain → IsChain k alike words chain
    chain_agrees chain c = record {
      some = c.some;
      within = c.within;
      falls = λ i h. below_agrees (word_at words (slice_index chain (i + 1)))
          (word_at words (slice_index chain i))
          (o (slice_index chain (i + 1)) (c.within (i + 1) h))
          (o (slice_index chain i) (c.within i (omega arith))) (c.falls i h);
    }

  pub longest_chain_agrees : (same alike : List ℕ → List ℕ → Type 0) (chain : List ℕ)
      → Agree k same alike → IsLongestChain k same words chain
      → IsLongestChain k alike words chain
  longest_chain_agrees same alike chain a h = record {
    is = chain_agrees same alike a chain h.is;
    most = λ other c. h.most other (back other c);
    least = λ other i c. h.least other i (back other c);
  }
    where
      back : (other : List ℕ) → IsChain k alike words other → IsChain k same words other
      back = chain_agrees alike same (agree_turned k same alike a)
