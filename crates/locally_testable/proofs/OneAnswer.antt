-- A language has one answer within given limits.
use Rattle.std.proofs.Common.{◌≡◌, ℕ, Bool, true, false, List, refl, ap, sym, ◌∙◌, arith}
use Rattle.language_theory.specs.Congruence.{Syntactic}
use Rattle.language_theory.specs.Representatives.{AreRepresentatives}
use Rattle.level_search.specs.declared.level.Level.{Level}
use Rattle.level_search.specs.declared.level.Level.TheVariants as level
use Rattle.level_search.specs.Levels.{IsAnswer}
use Rattle.level_search.proofs.Answering.{one_answer}
use Rattle.answers.specs.declared.factors.LtAnswer.{LtAnswer}
use Rattle.answers.specs.declared.factors.LtAnswer.TheVariants as answer
use Rattle.answers.specs.declared.factors.LtWitness.{LtWitness}
use Rattle.factor_keys.specs.Keys.{width, SameKey}
use Rattle.local_submonoids.specs.Witness.{IsWitness}
use Rattle.locally_testable.specs.Answer.{HasMuchWork, HasLittleWork, IsFound, IsSearched, IsLocalAnswer}
use Rattle.local_submonoids.proofs.LeastWitnesses.{witness_fails}
use Rattle.local_submonoids.proofs.OneWitness.{one_work, one_witness}

module _ (k : ℕ) (L : List ℕ → Type 0) (words : List (List ℕ))
    (r : AreRepresentatives k (Syntactic k L) words) where
  little_or_much : HasLittleWork k L words → HasMuchWork k L words → ⊥
  little_or_much a b =
      let e = one_work k L words r a.work b.work a.sum b.sum in
      let l = a.little in
      let m = b.much in
      omega arith

  -- ---- one answer

  module _ (has_table : Bool) (last most : ℕ) where
    -- what the search answers, in the words of the answer
    abbrev as_answer : Level → LtAnswer
    as_answer (level.Yes n) = answer.Yes n
    as_answer (level.Wide n) = answer.Wide n
    as_answer (level.Pairs n) = answer.Pairs n
    as_answer (level.NoneTo n) = answer.NoneTo n

    found_level : (a : LtAnswer) → IsFound k L last most a
        → (n : Level) × (a ≡ as_answer n) × IsAnswer k L (width k) SameKey most 1 last n
    found_level (answer.Yes n) h = (level.Yes n, refl, h)
    found_level (answer.Wide n) h = (level.Wide n, refl, h)
    found_level (answer.Pairs n) h = (level.Pairs n, refl, h)
    found_level (answer.NoneTo n) h = (level.NoneTo n, refl, h)
    found_level (answer.No w) h = absurd h
    found_level answer.TableLimit h = absurd h
    found_level answer.WorkLimit h = absurd h

    one_found : (a b : LtAnswer) → IsFound k L last most a → IsFound k L last most b → a ≡ b
    one_found a b f g =
        let (m, e, h) = found_level a f in
        let (n, d, i) = found_level b g in
        e ∙ (ap as_answer (one_answer k L (width k) SameKey most 1 last m n h i) ∙ sym d)

    -- each answer has one of these causes
    data Cause : LtAnswer → Type 0 where
      no_table : has_table ≡ false → Cause answer.TableLimit
      much : has_table ≡ true → HasMuchWork k L words → Cause answer.WorkLimit
      witnessed : (w : LtWitness) → has_table ≡ true → HasLittleWork k L words
          → IsWitness k L words w → Cause (answer.No w)
      searched : (a : LtAnswer) → has_table ≡ true → IsSearched k L words last most a → Cause a

    cause_of : (a : LtAnswer) → IsLocalAnswer k L words has_table last most a → Cause a
    cause_of answer.TableLimit h = no_table h
    cause_of answer.WorkLimit h = much h.0 h.1
    cause_of (answer.No w) h = witnessed w h.0 h.1 h.2
    cause_of (answer.Yes n) h = searched (answer.Yes n) h.0 h.1
    cause_of (answer.Wide n) h = searched (answer.Wide n) h.0 h.1
    cause_of (answer.Pairs n) h = searched (answer.Pairs n) h.0 h.1
    cause_of (answer.NoneTo n) h = searched (answer.NoneTo n) h.0 h.1

    both_marks : has_table ≡ false → has_table ≡ true → ⊥
    both_marks f t = cc

    one_cause : (a b : LtAnswer) → Cause a → Cause b → a ≡ b
    one_cause _ _ (no_table f) (no_table g) = refl
    one_cause _ _ (no_table f) (much t g) = absurd (both_marks f t)
    one_cause _ _ (no_table f) (witnessed w t l g) = absurd (both_marks f t)
    one_cause _ _ (no_table f) (searched n t g) = absurd (both_marks f t)
    one_cause _ _ (much t f) (no_table g) = absurd (both_marks g t)
    one_cause _ _ (much t f) (much u g) = refl
    one_cause _ _ (much t f) (witnessed w u l g) = absurd (little_or_much l f)
    one_cause _ _ (much t f) (searched n u g) = absurd (little_or_much g.work f)
    one_cause _ _ (witnessed v t l f) (no_table g) = absurd (both_marks g t)
    one_cause _ _ (witnessed v t l f) (much u g) = absurd (little_or_much l g)
    one_cause _ _ (witnessed v t l f) (witnessed w u m g) = ap answer.No (one_witness k L words r v w f g)
    one_cause _ _ (witnessed v t l f) (searched n u g) =
        absurd (witness_fails k L words r v f g.local)
    one_cause _ _ (searched n t f) (no_table g) = absurd (both_marks g t)
    one_cause _ _ (searched n t f) (much u g) = absurd (little_or_much f.work g)
    one_cause _ _ (searched n t f) (witnessed w u l g) =
        absurd (witness_fails k L words r w g f.local)
    one_cause _ _ (searched a t f) (searched b u g) = one_found a b f.search g.search

    pub one_local_answer : (a b : LtAnswer) → IsLocalAnswer k L words has_table last most a
        → IsLocalAnswer k L words has_table last most b → a ≡ b
    one_local_answer a b f g = one_cause a b (cause_of a f) (cause_of b g)
