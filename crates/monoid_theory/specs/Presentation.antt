-- The presentation of a monoid by rewriting rules (Froidure and Pin 1997: the reduced rewriting
-- system of a congruence).
use Rattle.std.specs.Prelude.{◌≡◌, ◌<◌, ◌++◌, ℕ, List, [], ◌∷◌, length, slice_index_or}
use Rattle.language_theory.specs.Words.{Over, ◌⊏◌, word_at}
use Rattle.language_theory.specs.Representatives.{IsPlaceOf, IsReduced}

-- The left side is not reduced, but it is without its last letter, and without its first letter.
-- The right side is the place of its class.
pub record IsRule (k : ℕ) (same : List ℕ → List ℕ → Type 0) (words : List (List ℕ)) (left : List ℕ)
    (right : ℕ) : Type 0 where
  pub over : Over k left
  pub unreduced : ¬ IsReduced k same left
  pub prefix : (w : List ℕ) (a : ℕ) → w ++ a ∷ [] ≡ left → IsReduced k same w
  pub suffix : (a : ℕ) (w : List ℕ) → a ∷ w ≡ left → IsReduced k same w
  pub place : IsPlaceOf same words left right

-- the rule at a place of a list of rules: its left side, and the place of its right side
abbrev pub rule_at : List (List ℕ × ℕ) → ℕ → List ℕ × ℕ
rule_at rules n = slice_index_or rules n ([], 0)

-- all rules, each once, in shortlex order of the left sides
pub record AreRules (k : ℕ) (same : List ℕ → List ℕ → Type 0) (words : List (List ℕ))
    (rules : List (List ℕ × ℕ)) : Type 0 where
  pub each : (n : ℕ) → n < length rules → IsRule k same words (rule_at rules n).0
      (rule_at rules n).1
  pub rise : (m n : ℕ) → m < n → n < length rules → (rule_at rules m).0 ⊏ (rule_at rules n).0
  pub all : (left : List ℕ) (right : ℕ) → IsRule k same words left right
      → (n : ℕ) × (n < length rules) × (rule_at rules n ≡ (left, right))

-- one replacement: a left side inside u gives way to the listed word of its right side
pub record IsReplacement (words : List (List ℕ)) (rules : List (List ℕ × ℕ))
    (u v : List ℕ) : Type 0 where
  pub rule : ℕ
  pub within : rule < length rules
  pub before : List ℕ
  pub behind : List ℕ
  pub holds : u ≡ before ++ ((rule_at rules rule).0 ++ behind)
  pub gives : v ≡ before ++ (word_at words (rule_at rules rule).1 ++ behind)

-- finitely many replacements, one after another, lead from the first word to the second
pub data Rewrites (words : List (List ℕ)) (rules : List (List ℕ × ℕ)) : List ℕ → List ℕ
    → Type 0 where
  unchanged : {u : List ℕ} → Rewrites words rules u u
  replaced : {u v w : List ℕ} → IsReplacement words rules u v → Rewrites words rules v w
      → Rewrites words rules u w
