-- How the elements of the syntactic monoid act on the states of the minimal automaton (Pin: the
-- syntactic monoid is the transition monoid of the minimal automaton).
use Rattle.std.specs.Prelude.{◌≡◌, ◌<◌, ◌≤◌, ℕ, Bool, List, Option, Some, None, length, slice_index}
use Rattle.language_theory.specs.Words.{word_at}
use Rattle.language_theory.specs.Automaton.{is_marked}
use Rattle.language_theory.specs.Congruence.{Syntactic}
use Rattle.language_theory.specs.Nerode.{MinimalAutomaton, IsMinimal, accepted}
use Rattle.language_theory.specs.ShortlexGraph.{Graph, walk, IsFirst}
use Rattle.cayley_tables.specs.declared.limits.TheConstants.{MOST_ELEMENTS}
use Rattle.cayley_tables.specs.CayleyGraphs.{CayleyGraphs, AreGraphsOf}
use Rattle.image_rows.specs.Rows.{row_at}
use Rattle.syntactic_monoid.specs.SyntacticMonoid.{SyntacticMonoid}
use Rattle.syn_words.specs.Alphabet.{most_letters}

-- the state to which the word of element i takes the state p, and the state to which it leads
abbrev pub taken : List (List ℕ) → ℕ → ℕ → ℕ
taken rows i p = slice_index (row_at rows i) p

abbrev pub state_of : List (List ℕ) → ℕ → ℕ
state_of rows i = taken rows i 0

-- each row has a state for each of n states
pub record AreStateRows (n : ℕ) (rows : List (List ℕ)) : Type 0 where
  pub some : 1 ≤ n
  pub few : length rows ≤ MOST_ELEMENTS
  pub long : (i : ℕ) → i < length rows → length (row_at rows i) ≡ n
  pub within : (i p : ℕ) → i < length rows → p < n → taken rows i p < n

-- the mark of an element is that of the state to which its word leads
pub record AreMarksOfStates (rows : List (List ℕ)) (finals marks : List Bool) : Type 0 where
  pub long : length marks ≡ length rows
  pub each : (i : ℕ) → i < length rows → is_marked marks i ≡ is_marked finals (state_of rows i)

-- the words of i and j lead to two states from that to which the word of e leads
abbrev pub Part : List (List ℕ) → ℕ → ℕ → ℕ → Type 0
Part rows i j e = ¬ (taken rows i (state_of rows e) ≡ taken rows j (state_of rows e))

-- of the states to which the word of e leads from p and from q exactly one is final
abbrev pub TellApart : List (List ℕ) → List Bool → ℕ → ℕ → ℕ → Type 0
TellApart rows finals p q e =
    ¬ (is_marked finals (taken rows e p) ≡ is_marked finals (taken rows e q))

-- i is the first number below n for which P holds
pub record IsFirstBelow (n : ℕ) (P : ℕ → Type 0) (i : ℕ) : Type 0 where
  pub within : i < n
  pub holds : P i
  pub first : (j : ℕ) → j < i → ¬ P j

-- the place of the first edge to the root, if there is one
abbrev pub IsReturn : Graph → Option ℕ → Type 0
IsReturn g None = (p : ℕ) → p < length g.targets → ¬ (slice_index g.targets p ≡ 0)
IsReturn g (Some p) = IsFirst g.targets 0 p

-- the graphs of the syntactic monoid of the language of a minimal automaton, with the rows in which
-- its words take the states, and its final states
pub record IsActionOn (d : MinimalAutomaton) (c : CayleyGraphs) (rows : List (List ℕ))
    (finals : List Bool) : Type 0 where
  pub some_letters : 1 ≤ d.graph.letters
  pub few_letters : d.graph.letters ≤ most_letters
  pub minimal : IsMinimal d.graph.letters (accepted d) d
  pub graphs : AreGraphsOf d.graph.letters (Syntactic d.graph.letters (accepted d)) c
  pub same_finals : finals ≡ d.finals
  pub long : length rows ≡ length c.words
  pub each : (i p : ℕ) → i < length c.words → p < d.graph.size
      → taken rows i p ≡ walk d.graph p (word_at c.words i)

-- what ties the rows, the final states and the first return to the monoid
pub record IsActing (m : SyntacticMonoid) (rows : List (List ℕ)) (finals : List Bool)
    (returns : Option ℕ) : Type 0 where
  pub automaton : MinimalAutomaton
  pub action : IsActionOn automaton m.graphs rows finals
  pub marks : AreMarksOfStates rows finals m.accepted
  pub first_return : IsReturn m.graphs.right returns
