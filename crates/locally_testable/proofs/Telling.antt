-- What the answer tells of the language.
use Rattle.std.proofs.Common.{◌≡◌, ℕ, Bool, true, List}
use Rattle.language_theory.specs.Congruence.{Syntactic}
use Rattle.language_theory.specs.Representatives.{AreRepresentatives}
use Rattle.level_search.proofs.Answering.{none_suffices}
use Rattle.answers.specs.declared.factors.LtAnswer.{LtAnswer}
use Rattle.answers.specs.declared.factors.LtAnswer.TheVariants as answer
use Rattle.factor_keys.specs.Keys.{width, SameKey}
use Rattle.locally_testable.specs.Answer.{IsLocalAnswer, IsSearched, Tells}
use Rattle.locally_testable.proofs.LeastWitnesses.{witness_shows}

module _ (k : ℕ) (L : List ℕ → Type 0) (words : List (List ℕ))
    (r : AreRepresentatives k (Syntactic k L) words) (has_table : Bool) (last most : ℕ) where
  pub answer_tells : (a : LtAnswer) → IsLocalAnswer k L words has_table last most a → Tells k L a
  answer_tells answer.TableLimit h = tt
  answer_tells answer.WorkLimit h = tt
  answer_tells (answer.No w) h = witness_shows k L words r w h.2
  answer_tells (answer.Yes n) h = record {
    suffices = h.1.search.2;
    least = λ m l b. (h.1.search.0.before m l b).fails;
  }
  answer_tells (answer.Wide n) h = tt
  answer_tells (answer.Pairs n) h = tt
  answer_tells (answer.NoneTo n) h = none_suffices k L (width k) SameKey most 1 last n h.1.search

module _ (k : ℕ) (L : List ℕ → Type 0) (words : List (List ℕ)) (has_table : Bool)
    (last most : ℕ) (t : has_table ≡ true) where
  -- the answer of the search, where a table is given and there is no cause for another answer
  pub searched_answer : (a : LtAnswer) → IsSearched k L words last most a
      → IsLocalAnswer k L words has_table last most a
  searched_answer answer.TableLimit h = absurd h.search
  searched_answer answer.WorkLimit h = absurd h.search
  searched_answer (answer.No w) h = absurd h.search
  searched_answer (answer.Yes n) h = (t, h)
  searched_answer (answer.Wide n) h = (t, h)
  searched_answer (answer.Pairs n) h = (t, h)
  searched_answer (answer.NoneTo n) h = (t, h)
