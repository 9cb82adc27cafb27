-- What new steps and empty moves change, where they stand in their order.
use Rattle.std.proofs.Common.{◌≡◌, ℕ, zero, suc, ◌<◌, ◌⊎◌, inl, inr, Bool, true, false, ◌&&◌, ◌||◌, ◌==◌, IsTrue, List, [], ◌∷◌, refl, sym, ap, subst, ◌∙◌}
use Rattle.std.specs.Cmp.{both_ways as both_directions}
use Rattle.std.specs.Prelude.{if◌then◌else◌}
use Rattle.std.specs.List.{flat_map, range_with_len}
use Rattle.std.proofs.lemmas.Bool.{and_parts, or_cases, eqb-true}
use Rattle.std.proofs.lemmas.List.Folds.{Any-from_list_any}
use Rattle.language_theory.specs.Automaton.{Automaton, IsAutomaton, is_step, is_move, has_step, has_move, steps_where, moves_where, IsInOrder}
use Rattle.language_theory.proofs.StepLists.{with_one_more, listed_where, listed_moves, all_where, in_order_where}
use Rattle.automata.specs.Nfa.{with_step, with_move}

-- the states and the letter of a step are in range
pub step_within : (m : Automaton) (p a q : ℕ) → IsAutomaton m → IsTrue (has_step m p a q)
    → (p < m.states) × (a < m.letters) × (q < m.states)
step_within m p a q good h =
    let (i, s, within, at, step) = Any-from_list_any (is_step p a q) m.steps h in
    let first = and_parts (s.0 == p) ((s.1 == a) && (s.2 == q)) step in
    let second = and_parts (s.1 == a) (s.2 == q) first.1 in (
      subst (λ (x : ℕ). x < m.states) (ap (λ (t : ℕ × ℕ × ℕ). t.0) at ∙ eqb-true s.0 p first.0)
          (good.from i s within),
      subst (λ (x : ℕ). x < m.letters) (ap (λ (t : ℕ × ℕ × ℕ). t.1) at ∙ eqb-true s.1 a second.0)
          (good.letter i s within),
      subst (λ (x : ℕ). x < m.states) (ap (λ (t : ℕ × ℕ × ℕ). t.2) at ∙ eqb-true s.2 q second.1)
          (good.to i s within),
    )

-- whether a step by a from p leads to a state for which g holds
abbrev pub leads : ℕ → ℕ → (ℕ → Bool) → ℕ → ℕ → ℕ → Bool
leads p a g x b y = (p == x) && ((a == b) && g y)

-- the automaton with the steps by a from p to the states for which g holds too
abbrev pub with_steps : Automaton → ℕ → ℕ → (ℕ → Bool) → Automaton
with_steps m p a g = record m {
  steps = steps_where m.states m.letters
      (λ x b y. has_step m x b y || leads p a g x b y);
}

-- it has the steps that it had, and the new ones
pub adding_steps : (m : Automaton) (p a : ℕ) (g : ℕ → Bool) (x b y : ℕ) → IsAutomaton m
    → p < m.states → a < m.letters → ((q : ℕ) → g q ≡ true → q < m.states)
    → has_step (with_steps m p a g) x b y ≡ (has_step m x b y || leads p a g x b y)
adding_steps m p a g x b y good hp ha hg = both_directions (has_step (with_steps m p a g) x b y)
    (has_step m x b y || leads p a g x b y)
    (λ h. ((listed_where m.states m.letters both x b y).0 h).3)
    (λ h. (listed_where m.states m.letters both x b y).1
    (let (hx, hb, hy) = within (or_cases (has_step m x b y) (leads p a g x b y) h) in
    (hx, hb, hy, h)))
  where
    both : ℕ → ℕ → ℕ → Bool
    both x b y = has_step m x b y || leads p a g x b y

    within : (has_step m x b y ≡ true) ⊎ (leads p a g x b y ≡ true)
        → (x < m.states) × (b < m.letters) × (y < m.states)
    within (inl h) = step_within m x b y good h
    within (inr h) =
        let first = and_parts (p == x) ((a == b) && g y) h in
        let second = and_parts (a == b) (g y) first.1 in (
          subst (λ (n : ℕ). n < m.states) (eqb-true p x first.0) hp,
          subst (λ (n : ℕ). n < m.letters) (eqb-true a b second.0) ha,
          hg y second.1,
        )

-- it is an automaton, and its steps stand in order
pub with_steps_automaton : (m : Automaton) (f : ℕ → ℕ → ℕ → Bool) → IsAutomaton m
    → IsAutomaton (record m { steps = steps_where m.states m.letters f })
with_steps_automaton m f good = record {
  initial = good.initial;
  finals = good.finals;
  from = all_where (λ s. s.0 < m.states) m.states m.letters f (λ p a q hp ha hq. hp);
  letter = all_where (λ s. s.1 < m.letters) m.states m.letters f (λ p a q hp ha hq. ha);
  to = all_where (λ s. s.2 < m.states) m.states m.letters f (λ p a q hp ha hq. hq);
  moves_from = good.moves_from;
  moves_to = good.moves_to;
}

-- the automaton has the steps that it had, and the new one
pub adding_a_step : (m : Automaton) (p a q x b y : ℕ) → IsAutomaton m → p < m.states
    → a < m.letters → q < m.states
    → has_step (with_step m p a q) x b y ≡ (has_step m x b y || is_step x b y (p, a, q))
adding_a_step m p a q x b y good hp ha hq =
    adding_steps m p a (λ (z : ℕ). q == z) x b y good hp ha
    (λ z h. subst (λ (n : ℕ). n < m.states) (eqb-true q z h) hq)

pub with_step_automaton : (m : Automaton) (p a q : ℕ) → IsAutomaton m
    → IsAutomaton (with_step m p a q)
with_step_automaton m p a q good =
    with_steps_automaton m (λ x b y. has_step m x b y || is_step x b y (p, a, q)) good

pub with_step_ordered : (m : Automaton) (p a q : ℕ) → IsInOrder m → IsInOrder (with_step m p a q)
with_step_ordered m p a q h =
    in_order_where (with_step m p a q) (λ x b y. has_step m x b y || is_step x b y (p, a, q))
    (has_move m) refl h.moves

-- ---- empty moves

-- the states of an empty move are in range
pub move_within : (m : Automaton) (p q : ℕ) → IsAutomaton m → IsTrue (has_move m p q)
    → (p < m.states) × (q < m.states)
move_within m p q good h =
    let (i, s, within, at, move) = Any-from_list_any (is_move p q) m.moves h in
    let both = and_parts (s.0 == p) (s.1 == q) move in (
      subst (λ (x : ℕ). x < m.states) (ap (λ (t : ℕ × ℕ). t.0) at ∙ eqb-true s.0 p both.0)
          (good.moves_from i s within),
      subst (λ (x : ℕ). x < m.states) (ap (λ (t : ℕ × ℕ). t.1) at ∙ eqb-true s.1 q both.1)
          (good.moves_to i s within),
    )

-- the automaton has the empty moves that it had, and the new one
pub adding_a_move : (m : Automaton) (p q x y : ℕ) → IsAutomaton m → p < m.states → q < m.states
    → has_move (with_move m p q) x y ≡ (has_move m x y || is_move x y (p, q))
adding_a_move m p q x y good hp hq = both_directions (has_move (with_move m p q) x y) (both x y)
    (λ h. ((listed_moves m.states both x y).0 h).2)
    (λ h. (listed_moves m.states both x y).1
    (let (hx, hy) = within (or_cases (has_move m x y) (is_move x y (p, q)) h) in (hx, hy, h)))
  where
    both : ℕ → ℕ → Bool
    both x y = has_move m x y || is_move x y (p, q)

    within : (has_move m x y ≡ true) ⊎ (is_move x y (p, q) ≡ true) → (x < m.states) × (y < m.states)
    within (inl h) = move_within m x y good h
    within (inr h) =
        let parts = and_parts (p == x) (q == y) h in (
          subst (λ (n : ℕ). n < m.states) (eqb-true p x parts.0) hp,
          subst (λ (n : ℕ). n < m.states) (eqb-true q y parts.1) hq,
        )

-- ---- no steps and no empty moves

none_below : {X : Type 0} (f : ℕ → List X) (n : ℕ) → ((i : ℕ) → f i ≡ [])
    → flat_map f (range_with_len 0 n) ≡ []
none_below f zero h = refl
none_below f (suc n) h = with_one_more f n ∙ rw (none_below f n h, h n) refl

-- no step is listed where none passes
pub none_where : (states letters : ℕ) (f : ℕ → ℕ → ℕ → Bool) → ((p a q : ℕ) → f p a q ≡ false)
    → steps_where states letters f ≡ []
unfolding steps_where
none_where states letters f none =
    none_below _ states (λ p. none_below _ letters (λ a. none_below _ states (λ q.
    ap (λ (b : Bool). if b then (p, a, q) ∷ [] else []) (none p a q))))

-- no empty move is listed where none passes
pub no_moves_where : (states : ℕ) (f : ℕ → ℕ → Bool) → ((p q : ℕ) → f p q ≡ false)
    → moves_where states f ≡ []
unfolding moves_where
no_moves_where states f none =
    none_below _ states (λ p. none_below _ states (λ q.
    ap (λ (b : Bool). if b then (p, q) ∷ [] else []) (none p q)))

-- steps that are listed by a test stand in order, where there are no empty moves
pub plain_in_order : (m : Automaton) (f : ℕ → ℕ → ℕ → Bool)
    → m.steps ≡ steps_where m.states m.letters f → m.moves ≡ [] → IsInOrder m
plain_in_order m f e none = in_order_where m f (λ p q. false) e
    (none ∙ sym (no_moves_where m.states (λ p q. false) (λ p q. refl)))

-- and so where there are no steps either
pub nothing_in_order : (m : Automaton) → m.steps ≡ [] → m.moves ≡ [] → IsInOrder m
nothing_in_order m e none = plain_in_order m (λ p a q. false)
    (e ∙ sym (none_where m.states m.letters (λ p a q. false) (λ p a q. refl))) none
