-- The syntactic monoid of a source's language.
use Rattle.std.proofs.Common.{◌≡◌, ℕ, List, Option, Some, None, length, refl, sym, subst}
use Rattle.std.specs.Prelude.{IsTrue, IfSome, is_some}
use Rattle.language_theory.specs.Congruence.{Syntactic}
use Rattle.language_theory.specs.Nerode.{MinimalAutomaton, IsMinimal, accepted}
use Rattle.language_theory.specs.Representatives.{HasMoreClasses}
use Rattle.language_theory.proofs.Congruences.{syntactic_agrees}
use Rattle.language_theory.proofs.Representatives.{agreeing_classes}
use Rattle.syntactic_monoid.specs.SyntacticMonoid.{SyntacticMonoid, IsSyntacticMonoid}
use Rattle.syntactic_monoid.proofs.OneMonoid.{monoid_of_agreeing}
use Rattle.automaton_file.specs.FileText.{SourceText, language_of}
use Rattle.report_sections.proofs.Recognised.{accepted_words}
use Rattle.report_outcome.specs.Reports.{HasMoreElements}

module _ (k : ℕ) (L : List ℕ → Type 0) where
  -- the syntactic monoid of what a minimal automaton of L accepts is that of L
  pub monoid_of_minimal : (d : MinimalAutomaton) (m : SyntacticMonoid) → IsMinimal k L d
      → IsSyntacticMonoid k (accepted d) m → IsSyntacticMonoid k L m
  monoid_of_minimal d m minimal is =
      monoid_of_agreeing k (accepted d) L m (accepted_words k L d minimal) is

  -- with as many elements
  more_of_minimal : (d : MinimalAutomaton) (n : ℕ) → IsMinimal k L d
      → HasMoreClasses k (Syntactic k (accepted d)) n → HasMoreClasses k (Syntactic k L) n
  more_of_minimal d n minimal =
      ((agreeing_classes k (Syntactic k (accepted d)) (Syntactic k L)
      (syntactic_agrees k (accepted d) L (accepted_words k L d minimal))).both n).0

  fewer_of_minimal : (d : MinimalAutomaton) (n : ℕ) → IsMinimal k L d
      → HasMoreClasses k (Syntactic k L) n → HasMoreClasses k (Syntactic k (accepted d)) n
  fewer_of_minimal d n minimal =
      ((agreeing_classes k (Syntactic k (accepted d)) (Syntactic k L)
      (syntactic_agrees k (accepted d) L (accepted_words k L d minimal))).both n).1

-- a source's language has more than n elements where its minimal automaton tells so
pub many_elements : (source : SourceText) (d : MinimalAutomaton) (n : ℕ)
    → IsMinimal (length source.letters) (language_of source) d
    → HasMoreClasses d.graph.letters (Syntactic d.graph.letters (accepted d)) n
    → HasMoreElements source n
many_elements source d n minimal more =
    more_of_minimal (length source.letters) (language_of source) d n minimal
    (subst (λ (k : ℕ). HasMoreClasses k (Syntactic k (accepted d)) n) minimal.classes.letters more)

-- and not where it tells that there are not
pub few_elements : (source : SourceText) (d : MinimalAutomaton) (n : ℕ)
    → IsMinimal (length source.letters) (language_of source) d
    → ¬ HasMoreClasses d.graph.letters (Syntactic d.graph.letters (accepted d)) n
    → ¬ HasMoreElements source n
few_elements source d n minimal few more =
    few (subst (λ (k : ℕ). HasMoreClasses k (Syntactic k (accepted d)) n)
    (sym minimal.classes.letters)
    (fewer_of_minimal (length source.letters) (language_of source) d n minimal more))

-- the monoid of what a source's minimal automaton accepts is that of the source's language
pub monoid_of_source : (source : SourceText) (d : MinimalAutomaton) (m : SyntacticMonoid)
    → IsMinimal (length source.letters) (language_of source) d
    → IsSyntacticMonoid d.graph.letters (accepted d) m
    → IsSyntacticMonoid (length source.letters) (language_of source) m
monoid_of_source source d m minimal is =
    monoid_of_minimal (length source.letters) (language_of source) d m minimal
    (subst (λ (k : ℕ). IsSyntacticMonoid k (accepted d) m) minimal.classes.letters is)

-- what holds of a value that is there
pub from_some : {X : Type 0} (P : X → Type 0) (o : Option X) (x : X) → IfSome o P → o ≡ Some x
    → P x
from_some P None x h e = cc
from_some P (Some y) x h e = let same : y ≡ x = cc in subst P same h

pub some_there : {X : Type 0} (o : Option X) → IsTrue (is_some o) → (x : X) × (o ≡ Some x)
some_there None h = cc
some_there (Some x) h = (x, refl)
