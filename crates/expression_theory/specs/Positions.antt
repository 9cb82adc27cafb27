-- The position automaton of an expression (Glushkov). A position is an occurrence of a letter in
-- the expression; the positions are numbered from 1, from the left.
use Rattle.std.specs.Prelude.{◌≡◌, ℕ, zero, suc, ◌+◌, ◌-◌, ◌<◌, ◌≤◌, IsTrue, ◌↔◌, List, [], ◌∷◌, ◌++◌, length, slice_index, All}
use Rattle.language_theory.specs.Automaton.{Automaton, is_initial, is_final, has_step, IsInOrder}
use Rattle.expression_theory.specs.Expression.{Tree, Zero, One, Letter, Or, Cat, Star, Plus, Opt, Means, nodes, most_nodes}

-- the letters at the positions, from the left
abbrev pub positions : Tree → List ℕ
positions Zero = []
positions One = []
positions (Letter a) = a ∷ []
positions (Or s t) = positions s ++ positions t
positions (Cat s t) = positions s ++ positions t
positions (Star t) = positions t
positions (Plus t) = positions t
positions (Opt t) = positions t

-- the tree in which each position is a letter of its own: n, n + 1, ..
abbrev pub numbered : ℕ → Tree → Tree
numbered n Zero = Zero
numbered n One = One
numbered n (Letter a) = Letter n
numbered n (Or s t) = Or (numbered n s) (numbered (n + length (positions s)) t)
numbered n (Cat s t) = Cat (numbered n s) (numbered (n + length (positions s)) t)
numbered n (Star t) = Star (numbered n t)
numbered n (Plus t) = Plus (numbered n t)
numbered n (Opt t) = Opt (numbered n t)

-- the words of the expression in which each position counts as a letter of its own
abbrev pub PositionWord : Tree → List ℕ → Type 0
PositionWord t = Means (numbered 1 t)

-- p can begin a word of the language
abbrev pub Begins : (List ℕ → Type 0) → ℕ → Type 0
Begins L p = (w : List ℕ) × L (p ∷ w)

-- q can follow p in a word of the language
abbrev pub Follows : (List ℕ → Type 0) → ℕ → ℕ → Type 0
Follows L p q = (u v : List ℕ) × L (u ++ p ∷ (q ∷ v))

-- p can end a word of the language
abbrev pub Ends : (List ℕ → Type 0) → ℕ → Type 0
Ends L p = (u : List ℕ) × L (u ++ p ∷ [])

-- the letter at a position
abbrev pub letter_of : Tree → ℕ → ℕ
letter_of t p = slice_index (positions t) (p - 1)

-- a step leads from a state to a position: from 0 to those that can begin a word, from a position
-- to those that can follow it
abbrev pub StepsTo : Tree → ℕ → ℕ → Type 0
StepsTo t zero q = Begins (PositionWord t) q
StepsTo t (suc p) q = Follows (PositionWord t) (suc p) q

-- the positions that can end a word are final, and 0 where the empty word belongs
abbrev pub IsFinalPosition : Tree → ℕ → Type 0
IsFinalPosition t zero = Means t []
IsFinalPosition t (suc p) = Ends (PositionWord t) (suc p)

-- m is the position automaton over k letters: state 0 is the only initial one, and state i is
-- the i-th position from the left; each state has a mark in both rows, the steps stand in order, and
-- there are no empty moves
pub record IsPositions (t : Tree) (k : ℕ) (m : Automaton) : Type 0 where
  pub states : m.states ≡ length (positions t) + 1
  pub letters : m.letters ≡ k
  pub initials : length m.initial ≡ m.states
  pub finals : length m.finals ≡ m.states
  pub initial : (p : ℕ) → IsTrue (is_initial m p) ↔ (p ≡ 0)
  pub final : (p : ℕ) → IsTrue (is_final m p) ↔ IsFinalPosition t p
  pub step : (p a q : ℕ) → IsTrue (has_step m p a q) ↔ (StepsTo t p q × (letter_of t q ≡ a))
  pub ordered : IsInOrder m
  pub plain : m.moves ≡ []

-- the expressions that have a position automaton here: not too many nodes, and letters below k
pub record IsWithin (k : ℕ) (t : Tree) : Type 0 where
  pub small : nodes t ≤ most_nodes
  pub letters : All (λ a. a < k) (positions t)
