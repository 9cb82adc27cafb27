-- A position automaton accepts the words of the expression, and no others.
use Rattle.std.proofs.Common.{◌≡◌, ◌∙◌, ℕ, suc, zero, ◌+◌, ◌<◌, List, [], ◌∷◌, ◌++◌, length, refl, sym, subst, append_assoc, arith, ◌↔◌}
use Rattle.language_theory.specs.Automaton.{Automaton, AcceptsFrom, Accepts}
use Rattle.language_theory.proofs.Automata.{accepts_none, accepts_letter}
use Rattle.language_theory.proofs.StepLists.{steps_alike}
use Rattle.language_theory.proofs.OneAutomaton.{by_same, same_row, same_fields}
use Rattle.expression_theory.specs.Expression.{Tree, Means}
use Rattle.expression_theory.specs.Positions.{positions, PositionWord, StepsTo, IsFinalPosition, IsPositions}
use Rattle.expression_theory.proofs.Exchange.{between}
use Rattle.expression_theory.proofs.Runs.{RunsFrom, positions_accept}

-- a step leads to a position of the expression
pub steps_below : (t : Tree) (p q : ℕ) → StepsTo t p q → q < 1 + length (positions t)
steps_below t zero q (w, h) = (between 1 t q [] w h).1
steps_below t (suc p) q (u, v, h) =
    (between 1 t q (u ++ suc p ∷ []) v
    (subst (PositionWord t) (sym (append_assoc u (suc p ∷ []) (q ∷ v))) h)).1

runs_of : (t : Tree) (k : ℕ) (m : Automaton) → IsPositions t k m → (w : List ℕ) (p : ℕ)
    → AcceptsFrom m w p → RunsFrom t w p
runs_of t k m h [] p f = (h.final p).0 ((accepts_none m h.plain p).0 f)
runs_of t k m h (a ∷ w) p f =
    let (q, b, more) = (accepts_letter m h.plain p a w).0 f in
    let l = (h.step p a q).0 b.1 in
    (q, l.0, l.1, runs_of t k m h w q more)

of_runs : (t : Tree) (k : ℕ) (m : Automaton) → IsPositions t k m → (w : List ℕ) (p : ℕ)
    → RunsFrom t w p → AcceptsFrom m w p
of_runs t k m h [] p f = (accepts_none m h.plain p).1 ((h.final p).1 f)
of_runs t k m h (a ∷ w) p (q, l, e, f) =
    let b = steps_below t p q l in
    let s = h.states in
    (accepts_letter m h.plain p a w).1
    (q, (omega arith, (h.step p a q).1 (l, e)), of_runs t k m h w q f)

-- an expression has one position automaton at most
pub one_positions : (t : Tree) (k : ℕ) (m n : Automaton) → IsPositions t k m → IsPositions t k n
    → m ≡ n
one_positions t k m n h i =
    let states : m.states ≡ n.states = h.states ∙ sym i.states in
    let letters : m.letters ≡ n.letters = h.letters ∙ sym i.letters in
    same_fields m n states letters
    (same_row m.initial n.initial n.states (λ p. p ≡ 0) (h.initials ∙ states) i.initials
    (λ p _. h.initial p) (λ p _. i.initial p))
    (same_row m.finals n.finals n.states (IsFinalPosition t) (h.finals ∙ states) i.finals
    (λ p _. h.final p) (λ p _. i.final p))
    (steps_alike m n h.ordered i.ordered states letters
    (λ p a q. by_same _ _ (h.step p a q) (i.step p a q)))
    (h.plain ∙ sym i.plain)

-- a position automaton accepts exactly the words of its expression
pub accepts_words : (t : Tree) (k : ℕ) (m : Automaton) → IsPositions t k m → (w : List ℕ)
    → Accepts m w ↔ Means t w
accepts_words t k m h w = (to, from)
  where
    to : Accepts m w → Means t w
    to (p, (b, i), f) = (positions_accept t w).0
        (subst (λ p. RunsFrom t w p) ((h.initial p).0 i) (runs_of t k m h w p f))

    from : Means t w → Accepts m w
    from e = let s = h.states in
        (0, (omega arith, (h.initial 0).1 refl), of_runs t k m h w 0 ((positions_accept t w).1 e))
