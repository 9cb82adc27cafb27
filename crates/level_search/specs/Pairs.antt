-- Pairs of a state of a minimal automaton and a key, numbered as they are first seen.
use Rattle.std.specs.Prelude.{◌≡◌, ◌<◌, ◌&&◌, ℕ, Bool, List, Option, length, slice_index_or, position, nat_eq}
use Rattle.std.proofs.Common.{refl, ap, sym, subst, ◌∙◌, arith}
use Rattle.std.specs.Bool.{Decides}
use Rattle.std.proofs.lemmas.Grind.{common_steps}
use Rattle.language_theory.specs.Automaton.{is_marked}
use Rattle.language_theory.specs.ShortlexGraph.{Graph, node, target, IsGraph}
use Rattle.language_theory.specs.Nerode.{MinimalAutomaton}
use Rattle.exploration.specs.States.{AreNumbered, IsSameMachine}
use Rattle.exploration.specs.Interning.{AreReached}
use Rattle.exploration.specs.NumberedKeys.{keys_number}

-- the minimal automaton, the graph whose nodes are the keys, and the pairs that were seen, in the
-- order in which they were seen
pub record Pairs : Type 0 where
  pub dfa : MinimalAutomaton
  pub keys : Graph
  pub seen : List (ℕ × ℕ)

-- the state and the key of a word
abbrev pub pair_of : Pairs → List ℕ → ℕ × ℕ
pair_of p w = (node p.dfa.graph w, node p.keys w)

-- both words have the same state and the same key
abbrev pub IsOnePair : Pairs → List ℕ → List ℕ → Type 0
IsOnePair p u v = pair_of p u ≡ pair_of p v

-- the pair to which a letter leads
abbrev pub next_pair : Pairs → ℕ × ℕ → ℕ → ℕ × ℕ
next_pair p s a = (target p.dfa.graph s.0 a, target p.keys s.1 a)

abbrev pub pair_eq : ℕ × ℕ → ℕ × ℕ → Bool
pair_eq s t = nat_eq s.0 t.0 && nat_eq s.1 t.1

-- the number of the pair of a word, if that pair was seen
abbrev pub number_of : Pairs → List ℕ → Option ℕ
number_of p w = position (pair_eq (pair_of p w)) p.seen

-- the pair with a number
abbrev pub pair_at : Pairs → ℕ → ℕ × ℕ
pair_at p n = slice_index_or p.seen n (0, 0)

-- whether the words of the pair with a number are recognized
abbrev pub final_at : Pairs → ℕ → Bool
final_at p n = is_marked p.dfa.finals (pair_at p n).0

-- both graphs have the same letters, and the pairs that were seen are distinct pairs of words
pub record ArePairs (p : Pairs) : Type 0 where
  pub states : IsGraph p.dfa.graph
  pub keys : IsGraph p.keys
  pub letters : p.keys.letters ≡ p.dfa.graph.letters
  pub few : p.dfa.graph.letters < 256
  pub finals : length p.dfa.finals ≡ p.dfa.graph.size
  pub seen : AreReached pair_eq p.dfa.graph.letters (pair_of p) p.seen

-- pairs with the same key are both recognized or both not
pub record AreFixedByKeys (p : Pairs) : Type 0 where
  pub fixed : (i j : ℕ) → i < length p.seen → j < length p.seen → (pair_at p i).1 ≡ (pair_at p j).1
      → final_at p i ≡ final_at p j

-- the second is the first with other pairs seen
abbrev pub IsLater : Pairs → Pairs → Type 0
IsLater s t = t ≡ record s { seen = t.seen }

pub later_trans : (r s t : Pairs) → IsLater r s → IsLater s t → IsLater r t
later_trans r s t e f = f ∙ ap (λ (u : Pairs). let v : Pairs = record u { seen = t.seen } in v) e

pub later_keeps : (s t : Pairs) → IsLater s t
    → IsSameMachine s.dfa.graph.letters t.dfa.graph.letters (IsOnePair s) (IsOnePair t)
later_keeps s t e =
    subst (λ (u : Pairs). IsSameMachine s.dfa.graph.letters u.dfa.graph.letters (IsOnePair s)
    (IsOnePair u)) (sym e)
    (record { letters = refl; same = record { both = λ u v _ _. (λ h. h, λ h. h) } })

-- the test of pairs
pub pair_Decides : (s t : ℕ × ℕ) → Decides (pair_eq s t) (s ≡ t)
pair_Decides s t = (λ h. grind (arith, common_steps), λ h. grind (arith, common_steps))

-- the pairs that were seen are numbered one to one
pub pairs_numbered : (p : Pairs) → ArePairs p
    → AreNumbered p.dfa.graph.letters (IsOnePair p) (number_of p) (length p.seen)
pairs_numbered p h = keys_number pair_eq pair_Decides p.dfa.graph.letters (pair_of p) p.seen h.seen
