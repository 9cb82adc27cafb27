-- The rules of a monoid as far as they are listed: element by element in shortlex order, and at
-- each element letter by letter (Froidure and Pin 1997).
use Rattle.std.specs.Prelude.{◌≡◌, ◌<◌, ◌≤◌, ◌+◌, ◌*◌, ◌⊎◌, ◌++◌, ℕ, List, [], ◌∷◌, length}
use Rattle.language_theory.specs.Words.{◌⊏◌, word_at}
use Rattle.language_theory.specs.ShortlexGraph.{SameNode}
use Rattle.monoid_theory.specs.Presentation.{IsRule, rule_at}
use Rattle.cayley_tables.specs.CayleyGraphs.{CayleyGraphs, AreCayleyGraphs}

-- the pair of an element j and a letter b comes before that of i and a
abbrev pub ComesBefore : ℕ → ℕ → ℕ → ℕ → Type 0
ComesBefore j b i a = (j < i) ⊎ ((j ≡ i) × (b < a))

-- a rule of the monoid with these graphs
abbrev pub IsRuleOf : CayleyGraphs → List ℕ → ℕ → Type 0
IsRuleOf c left right = IsRule c.right.letters (SameNode c.right) c.words left right

-- The rules whose left side is the word of an element with a letter behind, of the pairs that come
-- before i and a: each once, in shortlex order of the left sides.
pub record AreRulesBefore (c : CayleyGraphs) (i a : ℕ) (rules : List (List ℕ × ℕ)) : Type 0 where
  pub graphs : AreCayleyGraphs c
  pub each : (n : ℕ) → n < length rules → IsRuleOf c (rule_at rules n).0 (rule_at rules n).1
  pub before : (n : ℕ) → n < length rules → (j b : ℕ) × ComesBefore j b i a
      × ((rule_at rules n).0 ≡ word_at c.words j ++ b ∷ [])
  pub rise : (m n : ℕ) → m < n → n < length rules → (rule_at rules m).0 ⊏ (rule_at rules n).0
  pub all : (j b right : ℕ) → ComesBefore j b i a → b < c.right.letters
      → IsRuleOf c (word_at c.words j ++ b ∷ []) right
      → (n : ℕ) × (n < length rules) × (rule_at rules n ≡ (word_at c.words j ++ b ∷ [], right))
  pub few : length rules ≤ i * c.right.letters + a
