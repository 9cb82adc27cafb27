-- Whether a language is locally testable: the answer within the limits, and what it tells.
use Rattle.std.specs.Prelude.{◌≡◌, ◌<◌, ◌≤◌, ℕ, Bool, true, false, List, ⊤}
use Rattle.language_theory.specs.Congruence.{Syntactic}
use Rattle.level_search.specs.declared.level.Level.TheVariants as level
use Rattle.level_search.specs.Levels.{Suffices, IsAnswer}
use Rattle.answers.specs.declared.factors.TheConstants.{MOST_WORK}
use Rattle.answers.specs.declared.factors.LtAnswer.{LtAnswer}
use Rattle.answers.specs.declared.factors.LtAnswer.TheVariants as answer
use Rattle.factor_keys.specs.Keys.{width, SameKey}
use Rattle.local_submonoids.specs.LocalSubmonoids.{IsLocallyIdempotentAndCommutative, IsLocalWork}
use Rattle.local_submonoids.specs.Witness.{IsWitness}
use Rattle.locally_testable.specs.Witness.{ShowsNotTestable}

-- What the search through the levels from 1 to `last`, each of which may have `most` pairs, answers
-- for a language L over k letters, in the words of the answer.
abbrev pub IsFound : ℕ → (List ℕ → Type 0) → ℕ → ℕ → LtAnswer → Type 0
IsFound k L last most (answer.Yes n) = IsAnswer k L (width k) SameKey most 1 last (level.Yes n)
IsFound k L last most (answer.Wide n) = IsAnswer k L (width k) SameKey most 1 last (level.Wide n)
IsFound k L last most (answer.Pairs n) = IsAnswer k L (width k) SameKey most 1 last (level.Pairs n)
IsFound k L last most (answer.NoneTo n) =
    IsAnswer k L (width k) SameKey most 1 last (level.NoneTo n)
IsFound k L last most (answer.No w) = ⊥
IsFound k L last most answer.TableLimit = ⊥
IsFound k L last most answer.WorkLimit = ⊥

-- Of a language L over k letters whose syntactic congruence has these representatives.
module _ (k : ℕ) (L : List ℕ → Type 0) (words : List (List ℕ)) where
  -- the local work is greater than its limit
  pub record HasMuchWork : Type 0 where
    pub work : ℕ
    pub sum : IsLocalWork k (Syntactic k L) words work
    pub much : MOST_WORK < work

  -- the local work is within its limit
  pub record HasLittleWork : Type 0 where
    pub work : ℕ
    pub sum : IsLocalWork k (Syntactic k L) words work
    pub little : work ≤ MOST_WORK

  -- the answer of the search, where there is no cause for another one
  pub record IsSearched (last most : ℕ) (found : LtAnswer) : Type 0 where
    pub work : HasLittleWork
    pub local : IsLocallyIdempotentAndCommutative k (Syntactic k L)
    pub search : IsFound k L last most found

  -- The answer: that there is no table of products; else that the local work is too great; else the
  -- witness, where some local submonoid is not idempotent and commutative; else that of the search.
  abbrev pub IsLocalAnswer : Bool → ℕ → ℕ → LtAnswer → Type 0
  IsLocalAnswer has_table last most answer.TableLimit = has_table ≡ false
  IsLocalAnswer has_table last most answer.WorkLimit = (has_table ≡ true) × HasMuchWork
  IsLocalAnswer has_table last most (answer.No w) =
      (has_table ≡ true) × HasLittleWork × IsWitness k L words w
  IsLocalAnswer has_table last most (answer.Yes n) =
      (has_table ≡ true) × IsSearched last most (answer.Yes n)
  IsLocalAnswer has_table last most (answer.Wide n) =
      (has_table ≡ true) × IsSearched last most (answer.Wide n)
  IsLocalAnswer has_table last most (answer.Pairs n) =
      (has_table ≡ true) × IsSearched last most (answer.Pairs n)
  IsLocalAnswer has_table last most (answer.NoneTo n) =
      (has_table ≡ true) × IsSearched last most (answer.NoneTo n)

-- level n suffices, and no smaller level from 1 on does
pub record IsLeastLevel (k : ℕ) (L : List ℕ → Type 0) (n : ℕ) : Type 0 where
  pub suffices : Suffices k L (SameKey n)
  pub least : (m : ℕ) → 1 ≤ m → m < n → ¬ Suffices k L (SameKey m)

-- What an answer tells of the language: the least level that suffices; words that are told apart at
-- every level; that no level up to the last suffices.
abbrev pub Tells : ℕ → (List ℕ → Type 0) → LtAnswer → Type 0
Tells k L (answer.Yes n) = IsLeastLevel k L n
Tells k L (answer.No w) = ShowsNotTestable L w
Tells k L (answer.NoneTo n) = (m : ℕ) → 1 ≤ m → m ≤ n → ¬ Suffices k L (SameKey m)
Tells k L (answer.Wide n) = ⊤
Tells k L (answer.Pairs n) = ⊤
Tells k L answer.TableLimit = ⊤
Tells k L answer.WorkLimit = ⊤
