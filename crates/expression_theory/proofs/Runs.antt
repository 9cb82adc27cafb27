-- The position automaton accepts the words of the expression.
use Rattle.std.proofs.Common.{◌≡◌, ℕ, suc, zero, ◌≤◌, List, [], ◌∷◌, ◌++◌, refl, sym, subst, append_assoc, arith, map, ◌↔◌}
use Rattle.expression_theory.specs.Expression.{Tree, Means}
use Rattle.expression_theory.specs.Positions.{letter_of, PositionWord, Follows, Ends, StepsTo, IsFinalPosition}
use Rattle.expression_theory.proofs.Exchange.{Exchanges, exchanges, between}
use Rattle.expression_theory.proofs.Relabel.{Image, has_positions, from_positions}

-- a run of the position automaton that begins in a state, has the letters of a word and stops in a final state
abbrev pub RunsFrom : Tree → List ℕ → ℕ → Type 0
RunsFrom t [] p = IsFinalPosition t p
RunsFrom t (a ∷ w) p = (q : ℕ) × StepsTo t p q × (letter_of t q ≡ a) × RunsFrom t w q

-- each position of x can follow the one before it, the first one p, and the last one can end
abbrev pub Chain : (List ℕ → Type 0) → ℕ → List ℕ → Type 0
Chain L p [] = Ends L p
Chain L p (q ∷ x) = Follows L p q × Chain L q x

-- a word from a position on is a chain
pub chain_from : (L : List ℕ → Type 0) (p : ℕ) (u x : List ℕ) → L (u ++ p ∷ x) → Chain L p x
chain_from L p u [] h = (u, h)
chain_from L p u (q ∷ x) h =
    ((u, x, h), chain_from L q (u ++ p ∷ []) x (subst L (sym (append_assoc u (p ∷ []) (q ∷ x))) h))

-- a chain from a position of a word makes a word
pub from_chain : (L : List ℕ → Type 0) → Exchanges L → (p : ℕ) (u v x : List ℕ) → L (u ++ p ∷ v)
    → Chain L p x → L (u ++ p ∷ x)
from_chain L ex p u v [] h (u', h') = ex p u v u' [] h h'
from_chain L ex p u v (q ∷ x) h ((u', v', h'), c) =
    subst L (append_assoc u (p ∷ []) (q ∷ x))
    (from_chain L ex q (u ++ p ∷ []) v' x
    (subst L (sym (append_assoc u (p ∷ []) (q ∷ v'))) (ex p u v u' (q ∷ v') h h')) c)

-- no position is 0
positive : (t : Tree) (p : ℕ) (u v : List ℕ) → PositionWord t (u ++ p ∷ v) → 1 ≤ p
positive t p u v h = (between 1 t p u v h).0

-- from a position on, runs and chains are one
run_of : (t : Tree) (p : ℕ) (x : List ℕ) → Chain (PositionWord t) (suc p) x
    → RunsFrom t (map (letter_of t) x) (suc p)
run_of t p [] c = c
run_of t p (zero ∷ x) ((u, v, h), c) =
    absurd (let b : 1 ≤ 0 =
    positive t 0 (u ++ suc p ∷ []) v
    (subst (PositionWord t) (sym (append_assoc u (suc p ∷ []) (zero ∷ v))) h) in omega arith)
run_of t p (suc q ∷ x) (f, c) = (suc q, f, refl, run_of t q x c)

of_run : (t : Tree) (p : ℕ) (w : List ℕ) → RunsFrom t w (suc p) → (x : List ℕ)
    × Chain (PositionWord t) (suc p) x × (map (letter_of t) x ≡ w)
of_run t p [] e = ([], e, refl)
of_run t p (a ∷ w) (zero, (u, v, h), e, r) =
    absurd (let b : 1 ≤ 0 =
    positive t 0 (u ++ suc p ∷ []) v
    (subst (PositionWord t) (sym (append_assoc u (suc p ∷ []) (zero ∷ v))) h) in omega arith)
of_run t p (a ∷ w) (suc q, f, e, r) = by (of_run t q w r)
  where
    by : (x : List ℕ) × Chain (PositionWord t) (suc q) x × (map (letter_of t) x ≡ w) → (x : List ℕ)
        × Chain (PositionWord t) (suc p) x × (map (letter_of t) x ≡ a ∷ w)
    by (x, c, g) = (suc q ∷ x, (f, c), cc)

run_of_positions : (t : Tree) (x : List ℕ) → PositionWord t x → Means t (map (letter_of t) x)
    → RunsFrom t (map (letter_of t) x) 0
run_of_positions t [] h m = m
run_of_positions t (zero ∷ x) h m = absurd (let b : 1 ≤ 0 = positive t 0 [] x h in omega arith)
run_of_positions t (suc p ∷ x) h m =
    (suc p, (x, h), refl, run_of t p x (chain_from (PositionWord t) (suc p) [] x h))

-- each word of the expression has a run
pub accepts_its_words : (t : Tree) (w : List ℕ) → Means t w → RunsFrom t w 0
accepts_its_words t w h = by (has_positions t w h)
  where
    by : Image (letter_of t) (PositionWord t) w → RunsFrom t w 0
    by (x, s, e) = subst (λ w. RunsFrom t w 0) e
        (run_of_positions t x s (subst (Means t) (sym e) h))

-- and only those have one
pub accepts_no_other : (t : Tree) (w : List ℕ) → RunsFrom t w 0 → Means t w
accepts_no_other t [] h = h
accepts_no_other t (a ∷ w) (zero, (v, h), e, r) =
    absurd (let b : 1 ≤ 0 = positive t 0 [] v h in omega arith)
accepts_no_other t (a ∷ w) (suc p, (v, h), e, r) = by (of_run t p w r)
  where
    by : (x : List ℕ) × Chain (PositionWord t) (suc p) x × (map (letter_of t) x ≡ w)
        → Means t (a ∷ w)
    by (x, c, g) =
        let f : map (letter_of t) (suc p ∷ x) ≡ a ∷ w = cc in
        subst (Means t) f (from_positions t (suc p ∷ x)
        (from_chain (PositionWord t) (exchanges 1 t) (suc p) [] v x h c))

-- the law
pub positions_accept : (t : Tree) (w : List ℕ) → RunsFrom t w 0 ↔ Means t w
positions_accept t w = (accepts_no_other t w, accepts_its_words t w)
