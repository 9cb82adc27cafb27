-- Languages with the same words have the same answer.
use Rattle.std.proofs.Common.{◌≡◌, ℕ, Bool, List}
use Rattle.language_theory.specs.Languages.{HaveSameWords}
use Rattle.language_theory.specs.Congruence.{Syntactic, Agree}
use Rattle.language_theory.specs.Representatives.{AreRepresentatives}
use Rattle.language_theory.proofs.Congruences.{syntactic_agrees}
use Rattle.level_search.specs.declared.level.Level.TheVariants as level
use Rattle.level_search.proofs.Answering.{answer_agrees}
use Rattle.answers.specs.declared.factors.LtAnswer.{LtAnswer}
use Rattle.answers.specs.declared.factors.LtAnswer.TheVariants as answer
use Rattle.factor_keys.specs.Keys.{width, SameKey}
use Rattle.local_submonoids.proofs.Agreeing.{work_again, witness_again, locally_again}
use Rattle.locally_testable.specs.Answer.{HasMuchWork, HasLittleWork, IsFound, IsSearched, IsLocalAnswer}

module _ (k : ℕ) (L M : List ℕ → Type 0) (a : HaveSameWords k L M) (words : List (List ℕ))
    (r : AreRepresentatives k (Syntactic k L) words) where
  agree : Agree k (Syntactic k L) (Syntactic k M)
  agree = syntactic_agrees k L M a

  much_again : HasMuchWork k L words → HasMuchWork k M words
  much_again h = record {
    work = h.work;
    sum = work_again k (Syntactic k L) (Syntactic k M) agree words r.over h.work h.sum;
    much = h.much;
  }

  little_again : HasLittleWork k L words → HasLittleWork k M words
  little_again h = record {
    work = h.work;
    sum = work_again k (Syntactic k L) (Syntactic k M) agree words r.over h.work h.sum;
    little = h.little;
  }

  module _ (has_table : Bool) (last most : ℕ) where
    found_again : (x : LtAnswer) → IsFound k L last most x → IsFound k M last most x
    found_again (answer.Yes n) h =
        answer_agrees k L M (width k) SameKey most a 1 last (level.Yes n) h
    found_again (answer.Wide n) h =
        answer_agrees k L M (width k) SameKey most a 1 last (level.Wide n) h
    found_again (answer.Pairs n) h =
        answer_agrees k L M (width k) SameKey most a 1 last (level.Pairs n) h
    found_again (answer.NoneTo n) h =
        answer_agrees k L M (width k) SameKey most a 1 last (level.NoneTo n) h
    found_again (answer.No w) h = h
    found_again answer.TableLimit h = h
    found_again answer.WorkLimit h = h

    searched_again : (x : LtAnswer) → IsSearched k L words last most x
        → IsSearched k M words last most x
    searched_again x h = record {
      work = little_again h.work;
      local = locally_again k (Syntactic k L) (Syntactic k M) agree h.local;
      search = found_again x h.search;
    }

    pub local_answer_again : (x : LtAnswer) → IsLocalAnswer k L words has_table last most x
        → IsLocalAnswer k M words has_table last most x
    local_answer_again answer.TableLimit h = h
    local_answer_again answer.WorkLimit h = (h.0, much_again h.1)
    local_answer_again (answer.No w) h = (h.0, little_again h.1, witness_again k L M a words r w h.2)
    local_answer_again (answer.Yes n) h = (h.0, searched_again (answer.Yes n) h.1)
    local_answer_again (answer.Wide n) h = (h.0, searched_again (answer.Wide n) h.1)
    local_answer_again (answer.Pairs n) h = (h.0, searched_again (answer.Pairs n) h.1)
    local_answer_again (answer.NoneTo n) h = (h.0, searched_again (answer.NoneTo n) h.1)
