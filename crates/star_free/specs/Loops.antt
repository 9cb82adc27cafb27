-- What the powers of the elements of a syntactic monoid do: they settle where it is aperiodic
-- (Schützenberger 1965), and else there are words whose powers never settle.
use Rattle.std.specs.Prelude.{◌≡◌, ◌+◌, ◌++◌, ◌↔◌, ℕ, List, IsTrue}
use Rattle.language_theory.specs.Words.{power, word_at}
use Rattle.language_theory.specs.Congruence.{Syntactic}
use Rattle.language_theory.specs.Representatives.{AreRepresentatives}
use Rattle.monoid_theory.specs.Powers.{IsAperiodic, IsFirstLoop, NeverSettle}
use Rattle.monoid_theory.specs.Separation.{IsSeparation}
use Rattle.answers.specs.declared.powers.Loop.{Loop}
use Rattle.star_free.specs.declared.deciding.Powers.{Powers}
use Rattle.star_free.specs.declared.deciding.Powers.TheVariants as powers

-- x is the least word of the first class of the syntactic congruence of L whose period is greater
-- than 1
abbrev pub IsFirstLoopWord : ℕ → (List ℕ → Type 0) → List ℕ → ℕ → ℕ → Type 0
IsFirstLoopWord k L x index period =
    (words : List (List ℕ)) × (e : ℕ) × AreRepresentatives k (Syntactic k L) words
    × IsFirstLoop (Syntactic k L) words e index period × (x ≡ word_at words e)

-- x is the least word of the first class whose period is greater than 1, with its index and period,
-- u and v the least context that separates x^index from x^(index + 1), first_in tells whether
-- u x^index v is a word of L; and so u, x and v never settle for L
pub record IsLoop (k : ℕ) (L : List ℕ → Type 0) (l : Loop) : Type 0 where
  pub word : IsFirstLoopWord k L l.x l.index l.period
  pub context : IsSeparation k L (power l.index l.x) (power (l.index + 1) l.x) l.u l.v
  pub first : IsTrue l.first_in ↔ L (l.u ++ (power l.index l.x ++ l.v))
  pub never : NeverSettle L l.u l.x l.v

-- what the powers do in the syntactic monoid of L
abbrev pub AreDecided : ℕ → (List ℕ → Type 0) → Powers → Type 0
AreDecided k L powers.Aperiodic = IsAperiodic k (Syntactic k L)
AreDecided k L (powers.Loops l) = IsLoop k L l
