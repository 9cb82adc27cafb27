-- Rows of marks of the states from which an automaton accepts a word.
use Rattle.std.proofs.Common.{◌≡◌, ℕ, ◌+◌, ◌-◌, ◌<◌, ◌≤◌, ◌↔◌, inl, inr, List, [], ◌∷◌, Bool, true, false, IsTrue, length, get_or, set, drop, replicate, sym, subst, ◌∙◌, arith}
use Rattle.std.proofs.lemmas.Bool.{both_ways}
use Rattle.std.proofs.lemmas.List.{length-replicate, get_or-replicate, length-set, get_or-set_other}
use Rattle.std.proofs.lemmas.Grind.{common_steps, get_or-set_at}
use Rattle.language_theory.proofs.Numbers.{equal_or_not}
use Rattle.language_theory.proofs.Congruences.{other_direction}
use Rattle.language_theory.proofs.Automata.{accepts_none, accepts_letter}
use Rattle.language_theory.specs.Automaton.{Automaton, IsAutomaton, IsTarget, is_marked, has_step}
use Rattle.number_set.specs.Marks.{Meet}
use Rattle.automata.specs.Nfa.{IsRow}
use Rattle.automata.proofs.Rows.{marked_within, no_step}
use Rattle.automata.specs.StepsBack.{AreAccepting, AreBefore}

-- a letter is put before a word
pub accepting_before : (m : Automaton) (w : List ℕ) (a : ℕ) (marks before : List Bool)
    → m.moves ≡ [] → AreAccepting m w marks → AreBefore m a marks before
    → AreAccepting m (a ∷ w) before
accepting_before m w a marks before none h b = record {
  long = b.long;
  each = λ p hp. (
    λ t. let (q, target, marked) = (b.each p hp).0 t in
        (accepts_letter m none p a w).1 (q, target, (h.each q target.0).0 marked),
    λ x. let (q, target, accepted) = (accepts_letter m none p a w).0 x in
        (b.each p hp).1 (q, target, (h.each q target.0).1 accepted),
  );
}

-- the final states are those from which the empty word is accepted
pub accepting_finals : (m : Automaton) → m.moves ≡ [] → IsAutomaton m → AreAccepting m [] m.finals
accepting_finals m none good =
    record { long = good.finals; each = λ p hp. other_direction (accepts_none m none p) }

pub accepting_next : (m : Automaton) (word : List ℕ) (place : ℕ) (marks : List Bool) → 0 < place
    → place ≤ length word → AreAccepting m (get_or word (place - 1) 0 ∷ drop place word) marks
    → AreAccepting m (drop (place - 1) word) marks
accepting_next m word place marks h k good =
    let same : drop (place - 1) word ≡ get_or word (place - 1) 0 ∷ drop place word =
    grind (arith, common_steps) in
    rw same good

-- no step has a letter beyond the last one
pub nothing_before : (m : Automaton) (a : ℕ) (marks : List Bool) → IsAutomaton m → m.letters ≤ a
    → AreBefore m a marks (replicate m.states false)
nothing_before m a marks good h = record {
  long = length-replicate {A = Bool} m.states false;
  each = λ p hp. (
    λ t. absurd (both_ways (is_marked (replicate m.states false) p)
        (get_or-replicate m.states p false false hp) t),
    λ x. let (q, target, marked) = x in
        absurd (both_ways (has_step m p a q) (no_step m p a q good (inr (inl h))) target.1),
  );
}

-- a row of targets has a state in common with the marked ones
pub meets_targets : (m : Automaton) (p a : ℕ) (marks row : List Bool) (b : Bool)
    → length marks ≡ m.states → IsRow m p a row → (IsTrue b ↔ Meet marks row)
    → IsTrue b ↔ ((q : ℕ) × IsTarget m p a q × IsTrue (is_marked marks q))
meets_targets m p a marks row b long targets meet = (
  λ t. let (q, marked, there) = meet.0 t in
      (q, (omega (arith, long, marked_within marks q marked), subst (λ (x : Bool). IsTrue x) (targets.each q) there), marked),
  λ x. let (q, target, marked) = x in
      meet.1 (q, marked, subst (λ (x : Bool). IsTrue x) (sym (targets.each q)) target.1),
)

-- the states below n are done, and the others are not marked
pub record AreBeforeBelow (m : Automaton) (a : ℕ) (marks : List Bool) (n : ℕ)
    (before : List Bool) : Type 0 where
  pub long : length before ≡ m.states
  pub done : (p : ℕ) → p < n → IsTrue (is_marked before p)
      ↔ ((q : ℕ) × IsTarget m p a q × IsTrue (is_marked marks q))
  pub rest : (p : ℕ) → n ≤ p → p < m.states → is_marked before p ≡ false

pub none_below : (m : Automaton) (a : ℕ) (marks : List Bool)
    → AreBeforeBelow m a marks 0 (replicate m.states false)
none_below m a marks = record {
  long = length-replicate {A = Bool} m.states false;
  done = λ p h. absurd (omega arith);
  rest = λ p g h. get_or-replicate m.states p false false h;
}

pub one_marked : (m : Automaton) (a : ℕ) (marks before : List Bool) (n : ℕ) → n < m.states
    → ((q : ℕ) × IsTarget m n a q × IsTrue (is_marked marks q))
    → AreBeforeBelow m a marks n before → AreBeforeBelow m a marks (n + 1) (set before n true)
one_marked m a marks before n hn leads h = record {
  long = length-set before n true ∙ h.long;
  done = λ p hp. elim (equal_or_not p n) [
    | inl e ↦ (
      λ t. subst (λ (x : ℕ). (q : ℕ) × IsTarget m x a q × IsTrue (is_marked marks q)) (sym e) leads,
      λ x. get_or-set_at before n p true false e (rw h.long hn),
    )
    | inr ne ↦ let old = h.done p (omega arith) in (
      λ t. old.0 (sym (get_or-set_other before n p true false ne) ∙ t),
      λ x. get_or-set_other before n p true false ne ∙ old.1 x,
    )
  ];
  rest = λ p g hp. get_or-set_other before n p true false (λ e. omega arith)
      ∙ h.rest p (omega arith) hp;
}

pub one_unmarked : (m : Automaton) (a : ℕ) (marks before : List Bool) (n : ℕ) → n < m.states
    → (((q : ℕ) × IsTarget m n a q × IsTrue (is_marked marks q)) → ⊥)
    → AreBeforeBelow m a marks n before → AreBeforeBelow m a marks (n + 1) before
one_unmarked m a marks before n hn none h = record {
  long = h.long;
  done = λ p hp. elim (equal_or_not p n) [
    | inl e ↦ (
      λ t. absurd (both_ways (is_marked before p) (h.rest p (omega arith) (omega arith)) t),
      λ x. absurd (none
          (subst (λ (y : ℕ). (q : ℕ) × IsTarget m y a q × IsTrue (is_marked marks q)) e x)),
    )
    | inr ne ↦ h.done p (omega arith)
  ];
  rest = λ p g hp. h.rest p (omega arith) hp;
}

pub all_done : (m : Automaton) (a : ℕ) (marks before : List Bool) (n : ℕ) → m.states ≤ n
    → AreBeforeBelow m a marks n before → AreBefore m a marks before
all_done m a marks before n g h = record { long = h.long; each = λ p hp. h.done p (omega arith) }
