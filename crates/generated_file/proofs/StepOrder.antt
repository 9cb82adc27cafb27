-- The steps of a generated automaton stand in the order of their states, letters and targets.
use Rattle.std.proofs.Common.{◌≡◌, ℕ, zero, suc, ◌<◌, ◌≤◌, ◌⊎◌, inl, inr, Bool, ◌==◌, List, [], ◌∷◌, ◌++◌, refl, sym, ap, ◌∙◌, arith}
use Rattle.std.specs.Prelude.{if◌then◌else◌}
use Rattle.std.specs.List.{flat_map, range_with_len}
use Rattle.std.proofs.lemmas.Bool.{eq-eqb, ne_eqb, cases_lt}
use Rattle.language_theory.specs.Automaton.{steps_where, IsInOrder}
use Rattle.language_theory.proofs.StepLists.{with_one_more, same_below}
use Rattle.automata.proofs.Steps.{plain_in_order}
use Rattle.generated_file.specs.Generated.{next_state, steps_from, generated_automaton}
use Rattle.generated_file.proofs.StepReading.{next_below}

-- what belongs to the number t alone
abbrev only : {X : Type 0} → (ℕ → X) → ℕ → ℕ → List X
only x t i = if i == t then x i ∷ [] else []

only_above : {X : Type 0} (x : ℕ → X) (t n : ℕ) → n ≤ t
    → flat_map (only x t) (range_with_len 0 n) ≡ []
only_above x t zero h = refl
only_above {X} x t (suc n) h =
    with_one_more (only x t) n
    ∙ ap (λ (xs : List X). xs ++ only x t n) (only_above x t n (omega arith))
    ∙ ap (λ (b : Bool). if b then x n ∷ [] else []) (ne_eqb n t (λ e. omega arith))

only_below : {X : Type 0} (x : ℕ → X) (t n : ℕ) → t < n
    → flat_map (only x t) (range_with_len 0 n) ≡ x t ∷ []
only_below x t zero h = absurd (omega arith)
only_below {X} x t (suc n) h = with_one_more (only x t) n ∙ by (only_below x t n) (cases_lt t n)
  where
    by : (t < n → flat_map (only x t) (range_with_len 0 n) ≡ x t ∷ []) → (t < n) ⊎ (n ≤ t)
        → flat_map (only x t) (range_with_len 0 n) ++ only x t n ≡ x t ∷ []
    by before (inl l) =
        ap (λ (xs : List X). xs ++ only x t n) (before l)
        ∙ ap (λ (b : Bool). x t ∷ (if b then x n ∷ [] else [])) (ne_eqb n t (λ e. omega arith))
    by before (inr g) =
        let same : n ≡ t = omega arith in
        ap (λ (xs : List X). xs ++ only x t n) (only_above x t n g)
        ∙ ap (λ (b : Bool). if b then x n ∷ [] else []) (eq-eqb n t same)
        ∙ ap (λ (i : ℕ). x i ∷ []) same

-- a leads to the next state, and each other letter to state 0
abbrev leads : ℕ → ℕ → ℕ → ℕ → Bool
leads size p a q = q == (if a == 0 then next_state size p else 0)

steps_listed : (size : ℕ)
    → flat_map (steps_from size) (range_with_len 0 size) ≡ steps_where size 2 (leads size)
unfolding steps_where
steps_listed size = same_below (steps_from size) _ size (λ p h.
    let next = next_state size p in
    sym (ap (λ (xs : List (ℕ × ℕ × ℕ)). xs
    ++ (flat_map (only (λ q. (p, 1, q)) 0) (range_with_len 0 size) ++ []))
    (only_below (λ q. (p, 0, q)) next size (next_below size p h))
    ∙ ap (λ (xs : List (ℕ × ℕ × ℕ)). (p, 0, next) ∷ (xs ++ []))
    (only_below (λ q. (p, 1, q)) 0 size (omega arith))))

pub generated_ordered : (size : ℕ) → IsInOrder (generated_automaton size)
unfolding generated_automaton
generated_ordered size =
    plain_in_order (generated_automaton size) (leads size) (steps_listed size) refl
