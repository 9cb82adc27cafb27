-- The complete deterministic automaton of a table, with the states of it that were seen so far.
use Rattle.std.specs.Prelude.{◌≡◌, ◌<◌, ◌+◌, ◌*◌, ℕ, List, Option, length, slice_index, position, nat_eq, All}
use Rattle.language_theory.specs.Congruence.{moved}
use Rattle.std.proofs.lemmas.Bool.Decides.{Decides-eqb}
use Rattle.std.proofs.Common.{refl, ap, sym, subst, ◌∙◌}
use Rattle.exploration.specs.States.{AreNumbered, IsSameMachine}
use Rattle.exploration.specs.Interning.{AreReached}
use Rattle.exploration.specs.NumberedKeys.{keys_number}

-- the targets of state 0 for each letter, then those of state 1, and so on; the states that were
-- seen, in the order in which they were seen
pub record Table : Type 0 where
  pub states : ℕ
  pub letters : ℕ
  pub start : ℕ
  pub targets : List ℕ
  pub seen : List ℕ

-- the state to which the letter a leads from the state p
abbrev pub image : Table → ℕ → ℕ → ℕ
image t p a = slice_index t.targets (p * t.letters + a)

-- the state to which a word leads from the start
abbrev pub state_of : Table → List ℕ → ℕ
state_of t w = moved (image t) t.start w

-- both words lead from the start to one state
abbrev pub SameState : Table → List ℕ → List ℕ → Type 0
SameState t u v = state_of t u ≡ state_of t v

-- the number of the state to which a word leads, if that state was seen
abbrev pub number_of : Table → List ℕ → Option ℕ
number_of t w = position (nat_eq (state_of t w)) t.seen

-- the table is complete, and the states that were seen are distinct and reached by words
pub record IsTable (t : Table) : Type 0 where
  pub long : length t.targets ≡ t.states * t.letters
  pub within : All (λ p. p < t.states) t.targets
  pub start : t.start < t.states
  pub seen : AreReached nat_eq t.letters (state_of t) t.seen

-- the second is the first with other states seen
abbrev pub IsLater : Table → Table → Type 0
IsLater s t = t ≡ record s { seen = t.seen }

pub later_trans : (r s t : Table) → IsLater r s → IsLater s t → IsLater r t
later_trans r s t e f = f ∙ ap (λ (u : Table). let v : Table = record u { seen = t.seen } in v) e

pub later_keeps : (s t : Table) → IsLater s t
    → IsSameMachine s.letters t.letters (SameState s) (SameState t)
later_keeps s t e = subst (λ (u : Table). IsSameMachine s.letters u.letters (SameState s)
    (SameState u)) (sym e)
    (record { letters = refl; same = record { both = λ u v _ _. (λ h. h, λ h. h) } })

-- the states that were seen are numbered one to one
pub table_numbered : (t : Table) → IsTable t
    → AreNumbered t.letters (SameState t) (number_of t) (length t.seen)
table_numbered t h = keys_number nat_eq Decides-eqb t.letters (state_of t) t.seen h.seen
