-- Answers of languages with the same words, and the answer that the parts of a search make.
use Rattle.std.proofs.Common.{◌≡◌, ℕ, ◌≤◌, List, subst, sym, arith}
use Rattle.language_theory.specs.Languages.{HaveSameWords}
use Rattle.language_theory.specs.Congruence.{Syntactic}
use Rattle.language_theory.specs.Nerode.{MinimalAutomaton, IsMinimal, accepted}
use Rattle.language_theory.proofs.Congruences.{syntactic_congruence, syntactic_agrees}
use Rattle.language_theory.proofs.Minimal.{agreeing_minimal}
use Rattle.monoid_theory.specs.Green.{IsRTrivial, IsJTrivial}
use Rattle.monoid_theory.proofs.Agreeing.{j_agrees}
use Rattle.monoid_theory.proofs.FiniteIdeals.{j_trivial_by_sides}
use Rattle.level_search.specs.declared.level.Level.{Level}
use Rattle.level_search.specs.declared.level.Level.TheVariants as level
use Rattle.level_search.specs.Levels.{Suffices}
use Rattle.level_search.proofs.Answering.{answer_agrees, none_suffices}
use Rattle.subword_theory.specs.ShortSubwords.{SameSubwords}
use Rattle.subword_theory.specs.SubwordRows.{width}
use Rattle.syntactic_monoid.specs.SyntacticMonoid.{SyntacticMonoid, recognised, IsSyntactic, IsSyntacticMonoid}
use Rattle.syntactic_monoid.proofs.OneMonoid.{same_words}
use Rattle.answers.specs.declared.subwords.Side.{Side}
use Rattle.answers.specs.declared.subwords.Side.TheVariants.{Right, Left}
use Rattle.answers.specs.declared.subwords.PtWitness.{PtWitness}
use Rattle.answers.specs.declared.subwords.PtAnswer.{PtAnswer}
use Rattle.answers.specs.declared.subwords.PtAnswer.TheVariants as answer
use Rattle.piecewise_testable.specs.Sides.{IsTrivialOn}
use Rattle.piecewise_testable.specs.Witness.{IsWitness}
use Rattle.piecewise_testable.specs.Answers.{IsLevel, IsTrivialAnswer, IsFirstSide, IsRefusal, IsPiecewiseAnswer, IsAlwaysToldApart, answer_of}
use Rattle.piecewise_testable.proofs.Agreeing.{trivial_agrees, witness_agrees}
use Rattle.piecewise_testable.proofs.ToldApart.{not_j_trivial, told_apart}
use Rattle.piecewise_testable.proofs.OneAnswer.{level_is_answer}

-- ---- languages with the same words

turned : (k : ℕ) (L M : List ℕ → Type 0) → HaveSameWords k L M → HaveSameWords k M L
turned k L M a = record { both = λ w o. ((a.both w o).1, (a.both w o).0) }

j_trivial_agrees : (k : ℕ) (L M : List ℕ → Type 0) → HaveSameWords k L M
    → IsJTrivial k (Syntactic k L) → IsJTrivial k (Syntactic k M)
j_trivial_agrees k L M a h =
    let s = syntactic_agrees k L M a in
    record {
      one = λ u v ou ov r. (s.both u v ou ov).0
          (h.one u v ou ov
          (((j_agrees k (Syntactic k L) (Syntactic k M) s).both u v ou ov).1 r));
    }

first_side_agrees : (k : ℕ) (L M : List ℕ → Type 0) → HaveSameWords k L M → (side : Side)
    → IsFirstSide side k (Syntactic k L) → IsFirstSide side k (Syntactic k M)
first_side_agrees k L M a Right h = h
first_side_agrees k L M a Left h =
    trivial_agrees k (Syntactic k L) (Syntactic k M) (syntactic_agrees k L M a) Right h

module _ (k : ℕ) (L M : List ℕ → Type 0) (a : HaveSameWords k L M) (most last : ℕ) where
  trivial_answer_agrees : (l : Level) → IsTrivialAnswer k L most last l
      → IsTrivialAnswer k M most last l
  trivial_answer_agrees l h = (
    j_trivial_agrees k L M a h.0,
    answer_agrees k L M (width k) (λ n. SameSubwords n) most a 0 last l h.1,
  )

  pub piecewise_answer_agrees : (b : PtAnswer) → IsPiecewiseAnswer k L most last b
      → IsPiecewiseAnswer k M most last b
  piecewise_answer_agrees (answer.No w) h = record {
    not_trivial = λ j. h.not_trivial (j_trivial_agrees k M L (turned k L M a) j);
    side = first_side_agrees k L M a w.side h.side;
    witness = witness_agrees k L M a w h.witness;
  }
  piecewise_answer_agrees (answer.Yes n) h = trivial_answer_agrees (level.Yes n) h
  piecewise_answer_agrees (answer.Wide n) h = trivial_answer_agrees (level.Wide n) h
  piecewise_answer_agrees (answer.Pairs n) h = trivial_answer_agrees (level.Pairs n) h
  piecewise_answer_agrees (answer.NoneTo n) h = trivial_answer_agrees (level.NoneTo n) h

-- the minimal automaton of a language is that of what its monoid recognises
pub minimal_fits : (k : ℕ) (L : List ℕ → Type 0) (m : SyntacticMonoid) (d : MinimalAutomaton)
    → IsSyntacticMonoid k L m → IsMinimal k L d
    → IsMinimal m.graphs.right.letters (recognised m) d
minimal_fits k L m d h n =
    subst (λ (i : ℕ). IsMinimal i (recognised m) d) (sym h.graphs.right.letters)
    (agreeing_minimal k L (recognised m) d (same_words k L m h) n)

-- ---- levels that suffice

module _ (k : ℕ) (L : List ℕ → Type 0) (most last n : ℕ) where
  pub no_level_suffices : IsPiecewiseAnswer k L most last (answer.NoneTo n) → (m : ℕ)
      → m ≤ n → ¬ Suffices k L (SameSubwords m)
  no_level_suffices h m l =
      none_suffices k L (width k) (λ i. SameSubwords i) most 0 last n h.1 m (omega arith) l

-- ---- the answer from its parts

-- a witness on the right
pub refused_on_right : (k : ℕ) (L : List ℕ → Type 0) (w : PtWitness) → w.side ≡ Right
    → IsWitness k L w → IsRefusal k L w
refused_on_right k L w e h = record {
  not_trivial = not_j_trivial k L w h;
  side = subst (λ (d : Side). IsFirstSide d k (Syntactic k L)) (sym e) tt;
  witness = h;
}

-- a witness on the left, where there is none on the right
pub refused_on_left : (k : ℕ) (L : List ℕ → Type 0) (w : PtWitness) → w.side ≡ Left
    → IsRTrivial k (Syntactic k L) → IsWitness k L w → IsRefusal k L w
refused_on_left k L w e r h = record {
  not_trivial = not_j_trivial k L w h;
  side = subst (λ (d : Side). IsFirstSide d k (Syntactic k L)) (sym e) r;
  witness = h;
}

-- the answer of a search in the minimal automaton, where there is no witness
pub answer_of_search : (m : SyntacticMonoid) → IsSyntactic m → (d : MinimalAutomaton)
    → IsMinimal m.graphs.right.letters (recognised m) d → (most last : ℕ) (l : Level)
    → IsTrivialOn Right m.graphs.right.letters (Syntactic m.graphs.right.letters (recognised m))
    → IsTrivialOn Left m.graphs.right.letters (Syntactic m.graphs.right.letters (recognised m))
    → IsLevel d.graph.letters (accepted d) most last l
    → IsPiecewiseAnswer m.graphs.right.letters (recognised m) most last (answer_of l)
answer_of_search m h d minimal most last l r t a =
    level_is_answer m.graphs.right.letters (recognised m) most last l (
      j_trivial_by_sides m.graphs.right.letters
          (Syntactic m.graphs.right.letters (recognised m)) m.graphs.words
          (syntactic_congruence m.graphs.right.letters (recognised m)) h.monoid.graphs.words r t,
      answer_agrees m.graphs.right.letters (accepted d) (recognised m)
          (width m.graphs.right.letters) (λ n. SameSubwords n) most
          (record { both = minimal.final }) 0 last l
          (subst (λ (k : ℕ). IsLevel k (accepted d) most last l) minimal.classes.letters a),
    )

-- the witness of an answer is told apart at every level
pub always_apart : (k : ℕ) (L : List ℕ → Type 0) (most last : ℕ) (a : PtAnswer)
    → IsPiecewiseAnswer k L most last a → IsAlwaysToldApart L a
always_apart k L most last (answer.No w) h = λ n. told_apart k L w h.witness n
always_apart k L most last (answer.Yes n) h = tt
always_apart k L most last (answer.Wide n) h = tt
always_apart k L most last (answer.Pairs n) h = tt
always_apart k L most last (answer.NoneTo n) h = tt
