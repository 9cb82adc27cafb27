-- The powers of a word in the monoid of a congruence: index, period and aperiodicity (Pin:
-- monogenic monoids; Schützenberger 1965). Words whose powers never settle are this project's name
-- for what refutes aperiodicity.
use Rattle.std.specs.Prelude.{◌≡◌, ◌<◌, ◌≤◌, ◌+◌, ◌++◌, ℕ, List, length}
use Rattle.language_theory.specs.Words.{Over, power, word_at}

-- x^i is related to the power that is q further on
abbrev pub Repeats : (List ℕ → List ℕ → Type 0) → List ℕ → ℕ → ℕ → Type 0
Repeats same x i q = same (power i x) (power (i + q) x)

-- i is the least number for which x^i comes back, and p is the least number, not 0, of steps after
-- which it does
pub record IsIndexAndPeriod (same : List ℕ → List ℕ → Type 0) (x : List ℕ) (i p : ℕ) : Type 0 where
  pub positive : 1 ≤ p
  pub repeats : Repeats same x i p
  pub index : (j q : ℕ) → 1 ≤ q → Repeats same x j q → i ≤ j
  pub period : (q : ℕ) → 1 ≤ q → Repeats same x i q → p ≤ q

-- every period is 1
pub record IsAperiodic (k : ℕ) (same : List ℕ → List ℕ → Type 0) : Type 0 where
  pub one : (x : List ℕ) (i p : ℕ) → Over k x → IsIndexAndPeriod same x i p → p ≡ 1

-- the listed word at e has a period greater than 1, and no listed word before it has
pub record IsFirstLoop (same : List ℕ → List ℕ → Type 0) (words : List (List ℕ))
    (e i p : ℕ) : Type 0 where
  pub within : e < length words
  pub powers : IsIndexAndPeriod same (word_at words e) i p
  pub more : 1 < p
  pub first : (j q r : ℕ) → j < e → IsIndexAndPeriod same (word_at words j) q r → r ≡ 1

-- from any n on, some u x^i v is a word of L and some u x^j v is not
abbrev pub NeverSettle : (List ℕ → Type 0) → List ℕ → List ℕ → List ℕ → Type 0
NeverSettle L u x v =
    (n : ℕ) → (i j : ℕ) × (n ≤ i) × (n ≤ j) × L (u ++ (power i x ++ v))
    × ¬ L (u ++ (power j x ++ v))
