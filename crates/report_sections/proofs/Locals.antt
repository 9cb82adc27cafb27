-- What is answered of local submonoids, and the words of its witnesses.
use Rattle.std.proofs.Common.{◌≡◌, ◌↔◌, ◌≤◌, ◌<◌, ℕ, Bool, IsTrue, List, length, sym, subst}
use Rattle.std.specs.Cmp.{both_ways}
use Rattle.language_theory.specs.Congruence.{Syntactic}
use Rattle.language_theory.specs.Representatives.{AreRepresentatives}
use Rattle.language_theory.specs.Words.{Over, word_at}
use Rattle.answers.specs.declared.factors.LtAnswer.{LtAnswer}
use Rattle.answers.specs.declared.factors.LtAnswer.TheVariants as answer
use Rattle.answers.specs.declared.factors.LtKind.{LtKind}
use Rattle.answers.specs.declared.factors.LtKind.TheVariants as kind
use Rattle.answers.specs.declared.factors.LtWitness.{LtWitness}
use Rattle.local_submonoids.specs.Witness.{IsWitnessOf}
use Rattle.locally_testable.specs.Answer.{IsLocalAnswer}
use Rattle.locally_testable.proofs.OneAnswer.{one_local_answer}
use Rattle.syntactic_monoid.specs.SyntacticMonoid.{SyntacticMonoid, IsSyntacticMonoid}
use Rattle.report_text.specs.LocalSection.{IsLocalWitnessOver, IsLocalOver}

module _ (k : ℕ) (L : List ℕ → Type 0) where
  -- one answer, where there is a table exactly within its limit
  pub one_answer_of_tables : (m n : SyntacticMonoid) → m ≡ n → IsSyntacticMonoid k L m
      → (has other : Bool) (most : ℕ) → IsTrue has ↔ (length m.graphs.words ≤ most)
      → IsTrue other ↔ (length n.graphs.words ≤ most) → (last pairs : ℕ) (a b : LtAnswer)
      → IsLocalAnswer k L m.graphs.words has last pairs a
      → IsLocalAnswer k L n.graphs.words other last pairs b → a ≡ b
  one_answer_of_tables m n same is has other most h g last pairs a b x y =
      one_local_answer k L m.graphs.words is.graphs.words has last pairs a b x
      (subst (λ (t : Bool). IsLocalAnswer k L m.graphs.words t last pairs b) (sym tables)
      (subst (λ (o : SyntacticMonoid). IsLocalAnswer k L o.graphs.words other last pairs b)
      (sym same) y))
    where
      g-again : IsTrue other ↔ (length m.graphs.words ≤ most)
      g-again = subst (λ (o : SyntacticMonoid). IsTrue other ↔ (length o.graphs.words ≤ most))
          (sym same) g

      tables : has ≡ other
      tables = both_ways has other (λ t. g-again.1 (h.0 t)) (λ t. h.1 (g-again.0 t))

  module _ (words : List (List ℕ)) (r : AreRepresentatives k (Syntactic k L) words) where
    listed_over : (w : List ℕ) (s : ℕ) → w ≡ word_at words s → s < length words → Over k w
    listed_over w s e l = rw e (r.over s l)

    witness_over : (t : LtKind) (w : LtWitness) → IsWitnessOf t k L words w
        → IsLocalWitnessOver k w
    witness_over kind.Repeat w h = record {
      first = h.context.before.over;
      wall = h.failing.least.over;
      one = listed_over w.y h.s h.y h.repeat.within;
      other = rw h.z tt;
      last = h.context.behind.over;
    }
    witness_over kind.Swap w h = record {
      first = h.context.before.over;
      wall = h.failing.least.over;
      one = listed_over w.y h.s h.y h.swap.within;
      other = listed_over w.z h.t h.z h.swap.other_within;
      last = h.context.behind.over;
    }

    -- the words of an answer are over the letters
    pub local_over : (has : Bool) (last pairs : ℕ) (a : LtAnswer)
        → IsLocalAnswer k L words has last pairs a → IsLocalOver k a
    local_over has last pairs (answer.Yes n) h = tt
    local_over has last pairs (answer.No w) h = witness_over w.kind w h.2
    local_over has last pairs answer.TableLimit h = tt
    local_over has last pairs answer.WorkLimit h = tt
    local_over has last pairs (answer.Wide n) h = tt
    local_over has last pairs (answer.Pairs n) h = tt
    local_over has last pairs (answer.NoneTo n) h = tt
