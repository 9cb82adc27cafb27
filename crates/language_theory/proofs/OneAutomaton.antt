-- Automata with the same states, letters, marks, steps and empty moves in order are one.
use Rattle.std.proofs.Common.{◌≡◌, ℕ, ◌<◌, ◌↔◌, Bool, false, IsTrue, List, length, sym, ap, ◌∙◌, arith}
use Rattle.std.specs.Cmp.{both_ways as both_directions}
use Rattle.std.proofs.lemmas.List.{same_lists, get_or_default}
use Rattle.language_theory.specs.Automaton.{Automaton, is_marked}

-- two tests of one fact are the same
pub by_same : {P : Type 0} (b c : Bool) → IsTrue b ↔ P → IsTrue c ↔ P → b ≡ c
by_same b c h k = both_directions b c (λ x. k.1 (h.0 x)) (λ x. h.1 (k.0 x))

-- rows of so many marks, each of which tells the same fact, are one row
pub same_row : (xs ys : List Bool) (n : ℕ) (P : ℕ → Type 0) → length xs ≡ n → length ys ≡ n
    → ((p : ℕ) → p < n → IsTrue (is_marked xs p) ↔ P p)
    → ((p : ℕ) → p < n → IsTrue (is_marked ys p) ↔ P p) → xs ≡ ys
same_row xs ys n P hx hy tx ty =
    same_lists xs ys (hx ∙ sym hy) (λ k d h.
    let within : k < n = omega arith in
    get_or_default xs k d false h ∙ by_same _ _ (tx k within) (ty k within)
    ∙ sym (get_or_default ys k d false (omega arith)))

pub same_fields : (m n : Automaton) → m.states ≡ n.states → m.letters ≡ n.letters
    → m.initial ≡ n.initial → m.finals ≡ n.finals → m.steps ≡ n.steps → m.moves ≡ n.moves → m ≡ n
same_fields m n e f g h i j =
    ap (λ (x : ℕ). record m { states = x }) e
    ∙ ap (λ (x : ℕ). record m { states = n.states; letters = x }) f
    ∙ ap (λ (x : List Bool). record m { states = n.states; letters = n.letters; initial = x }) g
    ∙ ap (λ (x : List Bool). record n { finals = x; steps = m.steps; moves = m.moves }) h
    ∙ ap (λ (x : List (ℕ × ℕ × ℕ)). record n { steps = x; moves = m.moves }) i
    ∙ ap (λ (x : List (ℕ × ℕ)). record n { moves = x }) j
