-- What the table of a monoid shows, of each language whose syntactic monoid it is.
use Rattle.std.proofs.Common.{◌≡◌, ℕ, ◌<◌, List, Option, Some, None, subst}
use Rattle.std.specs.Prelude.{IfNone}
use Rattle.language_theory.specs.Languages.{HaveSameWords}
use Rattle.language_theory.specs.Congruence.{Syntactic, Agree}
use Rattle.language_theory.specs.Representatives.{AreRepresentatives}
use Rattle.language_theory.proofs.Congruences.{syntactic_agrees}
use Rattle.parallel_table.specs.ProductTables.{ProductTable, IsTableOf}
use Rattle.syntactic_monoid.specs.SyntacticMonoid.{SyntacticMonoid, IsSyntactic, IsSyntacticMonoid, recognised}
use Rattle.syntactic_monoid.proofs.OneMonoid.{right_graph}
use Rattle.answers.specs.declared.factors.LtWitness.{LtWitness}
use Rattle.local_submonoids.specs.LocalSubmonoids.{IsLocalWork, IsLocallyIdempotentAndCommutative}
use Rattle.local_submonoids.specs.Witness.{IsWitness}
use Rattle.local_submonoids.specs.LocalTables.{IsWorkBelow, IsIdempotentAt, HasNoFlaw}
use Rattle.local_submonoids.proofs.Elements.{representatives}
use Rattle.local_submonoids.proofs.FirstFlaws.{no_flaw_anywhere}
use Rattle.local_submonoids.proofs.LocalSizes.{whole_work}
use Rattle.local_submonoids.proofs.Agreeing.{work_again, witness_again, locally_again}

-- what holds where nothing is found
pub when_none : {X P : Type 0} (x : Option X) → x ≡ None → IfNone x P → P
when_none None e h = h
when_none (Some y) e h = cc

module _ (m : SyntacticMonoid) (h : IsSyntactic m) (k : ℕ) (L : List ℕ → Type 0)
    (g : IsSyntacticMonoid k L m) where
  letters : m.graphs.right.letters ≡ k
  letters = (right_graph k L m g).letters

  same_words : HaveSameWords k (recognised m) L
  same_words = record { both = g.accepts }

  agree : Agree k (Syntactic k (recognised m)) (Syntactic k L)
  agree = syntactic_agrees k (recognised m) L same_words

  listed : AreRepresentatives k (Syntactic k (recognised m)) m.graphs.words
  listed =
      subst (λ (n : ℕ). AreRepresentatives n (Syntactic n (recognised m)) m.graphs.words) letters
      (representatives m h)

  pub witness_of_language : (w : LtWitness)
      → IsWitness m.graphs.right.letters (recognised m) m.graphs.words w
      → IsWitness k L m.graphs.words w
  witness_of_language w i =
      witness_again k (recognised m) L same_words m.graphs.words listed w
      (subst (λ (n : ℕ). IsWitness n (recognised m) m.graphs.words w) letters i)

  module _ (t : ProductTable) (p : IsTableOf m.graphs t) where
    pub work_of_language : (work : ℕ) → IsWorkBelow m t t.side work
        → IsLocalWork k (Syntactic k L) m.graphs.words work
    work_of_language work w =
        work_again k (Syntactic k (recognised m)) (Syntactic k L) agree m.graphs.words listed.over
        work
        (subst (λ (n : ℕ). IsLocalWork n (Syntactic n (recognised m)) m.graphs.words work) letters
        (whole_work m h t p work w))

    pub locally_of_language : ((e : ℕ) → e < t.side → IsIdempotentAt m t e → HasNoFlaw t e)
        → IsLocallyIdempotentAndCommutative k (Syntactic k L)
    locally_of_language none =
        locally_again k (Syntactic k (recognised m)) (Syntactic k L) agree
        (subst (λ (n : ℕ). IsLocallyIdempotentAndCommutative n (Syntactic n (recognised m))) letters
        (no_flaw_anywhere m h t p none))
