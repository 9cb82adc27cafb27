-- In a right congruence with finitely many classes each word has an index and a period.
use Rattle.std.proofs.Common.{◌≡◌, ◌⊎◌, inl, inr, ℕ, suc, ◌+◌, ◌-◌, ◌%◌, ◌<◌, ◌≤◌, List, length, subst, arith}
use Rattle.std.proofs.lemmas.Bool.{cases_lt}
use Rattle.language_theory.specs.Words.{Over, power}
use Rattle.language_theory.specs.Congruence.{IsRightCongruence}
use Rattle.language_theory.specs.Representatives.{AreRepresentatives, IsPlaceOf}
use Rattle.monoid_theory.specs.Powers.{Repeats, IsIndexAndPeriod}
use Rattle.language_theory.proofs.Numbers.{equal_or_not, least_or_none, pigeonhole}
use Rattle.language_theory.proofs.Representatives.{word_place, word_place_is, place_of_related, same_place_related}
use Rattle.language_theory.proofs.Representatives.{place_is_one}
use Rattle.monoid_theory.proofs.Exponents.{over_power, repeats_within, powers_trans, powers_symm, remainder}

-- below n no two numbers have one value
abbrev pub AreDistinct : (ℕ → ℕ) → ℕ → Type 0
AreDistinct f n = (a b : ℕ) → a < b → b < n → ¬ (f a ≡ f b)

-- the number l is the first one with a value that stands before, at j
pub record IsFirstReturn (f : ℕ → ℕ) (j l : ℕ) : Type 0 where
  pub before : j < l
  pub meets : f j ≡ f l
  pub distinct : AreDistinct f l

-- whether the value at n stands before n
Returns : (ℕ → ℕ) → ℕ → Type 0
Returns f n = (j : ℕ) × (j < n) × (f j ≡ f n)

returns_or_not : (f : ℕ → ℕ) (n : ℕ) → Returns f n ⊎ ¬ Returns f n
unfolding Returns
returns_or_not f n = elim (least_or_none (λ j. f j ≡ f n) (λ j. equal_or_not (f j) (f n)) n) [
  | inl (j, h, e, before) ↦ inl (j, h, e)
  | inr none ↦ inr (λ r. none r.0 r.1 r.2)
]

-- numbers below m, one for each number, come back
pub first_return : (f : ℕ → ℕ) (m : ℕ) → ((n : ℕ) → f n < m) → (j l : ℕ) × IsFirstReturn f j l
unfolding Returns
first_return f m into = elim (least_or_none (Returns f) (returns_or_not f) (suc m)) [
  | inl (l, h, (j, g, e), before) ↦
      (j, l, record { before = g; meets = e; distinct = λ a b s t d. before b t (a, s, d) })
  | inr none ↦ absurd (let h = pigeonhole (suc m) m f (λ i t. into i)
      (λ a b s t d. none b t (a, s, d)) in omega arith)
]

-- of a word whose powers x^n have the places `place n`
module _ (k : ℕ) (same : List ℕ → List ℕ → Type 0) (words : List (List ℕ))
    (c : IsRightCongruence k same) (l : AreRepresentatives k same words) (x : List ℕ) (o : Over k x)
    (place : ℕ → ℕ) (placed : (n : ℕ) → IsPlaceOf same words (power n x) (place n)) where
  from_place : (a b : ℕ) → place a ≡ place b → same (power a x) (power b x)
  from_place a b e =
      same_place_related k same words l c.equivalence (power a x) (power b x) (place b)
      (over_power k a x o) (over_power k b x o)
      (subst (IsPlaceOf same words (power a x)) e (placed a)) (placed b)

  to_place : (a b : ℕ) → same (power a x) (power b x) → place a ≡ place b
  to_place a b s =
      place_is_one same words (power b x) (place a) (place b)
      (place_of_related k same words l c.equivalence (power a x) (power b x) (place a)
      (over_power k a x o) (over_power k b x o) s (placed a)) (placed b)

  -- the first place that comes back gives the index and the period
  pub at_first_return : (i p : ℕ) → IsFirstReturn place i (i + p) → IsIndexAndPeriod same x i p
  at_first_return i p r = record {
    positive = positive;
    repeats = repeats;
    index = index;
    period = period;
  }
    where
      positive : 1 ≤ p
      positive = let h = r.before in omega arith

      repeats : Repeats same x i p
      repeats = from_place i (i + p) r.meets

      period : (q : ℕ) → 1 ≤ q → Repeats same x i q → p ≤ q
      period q h s =
          elim (cases_lt q p) [
            | inl g ↦
                absurd (r.distinct i (i + q) (omega arith) (omega arith) (to_place i (i + q) s))
            | inr g ↦ g
          ]

      index : (j q : ℕ) → 1 ≤ q → Repeats same x j q → i ≤ j
      index j q h s =
          elim (cases_lt j i) [ inl g ↦ absurd (apart g (cases_lt (j + q) (i + p))) | inr g ↦ g ]
        where
          apart : j < i → ((j + q) < (i + p)) ⊎ ((i + p) ≤ (j + q)) → ⊥
          apart g (inl m) = r.distinct j (j + q) (omega arith) m (to_place j (j + q) s)
          apart g (inr m) = let below = (remainder ((j + q) - i) p positive).0 in
              r.distinct j (i + ((j + q) - i) % p) (omega arith) (omega arith)
              (to_place j (i + ((j + q) - i) % p)
              (powers_trans k same c x o j (j + q) (i + ((j + q) - i) % p) s
              (powers_symm k same c x o (i + ((j + q) - i) % p) (j + q)
              (repeats_within k same c x o i p (j + q) positive repeats (omega arith)))))

  -- and some place comes back
  index_of_places : (i p : ℕ) × IsIndexAndPeriod same x i p
  index_of_places = by (first_return place (length words) (λ n. (placed n).within))
    where
      by : (j m : ℕ) × IsFirstReturn place j m → (i p : ℕ) × IsIndexAndPeriod same x i p
      by (j, m, r) = (
        j,
        m - j,
        at_first_return j (m - j) (let h = r.before in
            subst (IsFirstReturn place j) (let e : m ≡ j + (m - j) = omega arith in e) r),
      )

-- each word has an index and a period
pub index_exists : (k : ℕ) (same : List ℕ → List ℕ → Type 0) (words : List (List ℕ))
    → IsRightCongruence k same → AreRepresentatives k same words → (x : List ℕ) → Over k x
    → (i p : ℕ) × IsIndexAndPeriod same x i p
index_exists k same words c l x o =
    index_of_places k same words c l x o (λ n. word_place k same words l (power n x))
    (λ n. word_place_is k same words l (power n x) (over_power k n x o))
