-- Searches for the first number with a property, and marks in order.
use Rattle.std.proofs.Common.{◌≡◌, ◌⊎◌, inl, inr, ℕ, ◌+◌, ◌<◌, ◌≤◌, Bool, false, List, [], ◌∷◌, ◌++◌, length, ap, ◌∙◌, subst, arith, length-append}
use Rattle.std.proofs.lemmas.List.{get_or_append_left, get_or-append-add}
use Rattle.language_theory.specs.Automaton.{is_marked}
use Rattle.std.proofs.lemmas.Bool.{cases_lt}
use Rattle.syntactic_monoid.specs.Action.{IsFirstBelow, AreMarksOfStates, state_of}

-- no number below i has the property
pub record IsNoneBelow (P : ℕ → Type 0) (i : ℕ) : Type 0 where
  pub none : (j : ℕ) → j < i → ¬ P j

module _ (P : ℕ → Type 0) (n : ℕ) (some : (e : ℕ) × (e < n) × P e) where
  -- so the number that has it is not below
  pub none_within : (i : ℕ) → IsNoneBelow P i → i < n
  none_within i h = elim (cases_lt some.0 i) [
    | inl l ↦ absurd (h.none some.0 l some.2)
    | inr l ↦ (let m = some.1 in omega arith)
  ]

  pub none_more : (i : ℕ) → IsNoneBelow P i → ¬ P i → IsNoneBelow P (i + 1)
  none_more i h f = record { none = λ j l. by j l (cases_lt j i) }
    where
      by : (j : ℕ) → j < i + 1 → (j < i) ⊎ (i ≤ j) → ¬ P j
      by j l (inl m) = h.none j m
      by j l (inr m) = subst (λ (a : ℕ). ¬ P a) (let e : i ≡ j = omega arith in e) f

  pub first_found : (i : ℕ) → IsNoneBelow P i → P i → IsFirstBelow n P i
  first_found i h f = record { within = none_within i h; holds = f; first = h.none }

-- the marks of the first n elements
pub record AreMarksTo (rows : List (List ℕ)) (finals : List Bool) (n : ℕ) (marks : List Bool)
    : Type 0 where
  pub long : length marks ≡ n
  pub each : (i : ℕ) → i < n → is_marked marks i ≡ is_marked finals (state_of rows i)

pub mark_pushed : (rows : List (List ℕ)) (finals : List Bool) (n : ℕ) (marks : List Bool)
    (b : Bool) → AreMarksTo rows finals n marks → b ≡ is_marked finals (state_of rows n)
    → AreMarksTo rows finals (n + 1) (marks ++ b ∷ [])
mark_pushed rows finals n marks b h e = record {
  long = let l : length (marks ++ b ∷ []) ≡ length marks + 1 = simp length-append in
      let m = h.long in omega arith;
  each = λ i l. by i l (cases_lt i n);
}
  where
    by : (i : ℕ) → i < n + 1 → (i < n) ⊎ (n ≤ i)
        → is_marked (marks ++ b ∷ []) i ≡ is_marked finals (state_of rows i)
    by i l (inl m) =
        get_or_append_left marks (b ∷ []) false i (let f = h.long in omega arith) ∙ h.each i m
    by i l (inr m) =
        let at : i ≡ length marks + 0 = (let f = h.long in omega arith) in
        let same : n ≡ i = omega arith in
        ap (is_marked (marks ++ b ∷ [])) at
        ∙ (get_or-append-add marks (b ∷ []) 0 false
        ∙ (e ∙ ap (λ (j : ℕ). is_marked finals (state_of rows j)) same))

pub all_marked : (rows : List (List ℕ)) (finals marks : List Bool)
    → AreMarksTo rows finals (length rows) marks → AreMarksOfStates rows finals marks
all_marked rows finals marks h = record { long = h.long; each = h.each }
