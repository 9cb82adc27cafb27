-- The witness of least words is a repeat or a swap.
use Rattle.std.proofs.Common.{◌≡◌, ℕ, ◌<◌, List, length, sym, subst}
use Rattle.language_theory.specs.Words.{Over, word_at}
use Rattle.language_theory.specs.Congruence.{Syntactic}
use Rattle.language_theory.specs.Representatives.{AreRepresentatives}
use Rattle.language_theory.proofs.Congruences.{syntactic_congruence}
use Rattle.answers.specs.declared.factors.LtKind.{LtKind}
use Rattle.answers.specs.declared.factors.LtKind.TheVariants as kind
use Rattle.answers.specs.declared.factors.LtWitness.{LtWitness}
use Rattle.local_submonoids.specs.LocalSubmonoids.{IsIdempotentWord, IsLocallyIdempotentAndCommutative}
use Rattle.local_submonoids.specs.Witness.{IsRepeat, IsSwap, IsOfFirstFailing, IsRepeatWitness, IsSwapWitness, IsWitnessOf, IsWitness}
use Rattle.local_submonoids.proofs.LocalWords.{idempotent_moves}

module _ (k : ℕ) (L : List ℕ → Type 0) (words : List (List ℕ))
    (r : AreRepresentatives k (Syntactic k L) words) where
  pub failing_idempotent : (x : List ℕ) → IsOfFirstFailing k L words x
      → IsIdempotentWord k (Syntactic k L) x
  failing_idempotent x h =
      let place = h.failing.idempotent in
      record {
        over = h.least.over;
        some = h.least.holds.0;
        idempotent = idempotent_moves k (Syntactic k L) (syntactic_congruence k L)
            (word_at words h.e) x (r.over h.e place.within) h.least.over h.least.holds.1
            place.idempotent;
      }

  listed_over : (s : ℕ) (y : List ℕ) → s < length words → y ≡ word_at words s → Over k y
  listed_over s y l e = subst (Over k) (sym e) (r.over s l)

  pub is_repeat : (w : LtWitness) → IsRepeatWitness k L words w → IsRepeat k L w.u w.x w.y w.v
  is_repeat w h = record {
    idempotent = failing_idempotent w.x h.failing;
    inner = listed_over h.s w.y h.repeat.within h.y;
    before = h.context.before.over;
    behind = h.context.behind.over;
    separates = h.context.behind.holds;
  }

  pub is_swap : (w : LtWitness) → IsSwapWitness k L words w → IsSwap k L w.u w.x w.y w.z w.v
  is_swap w h = record {
    idempotent = failing_idempotent w.x h.failing;
    first = listed_over h.s w.y h.swap.within h.y;
    second = listed_over h.t w.z h.swap.other_within h.z;
    before = h.context.before.over;
    behind = h.context.behind.over;
    separates = h.context.behind.holds;
  }

  -- a witness shows that some local submonoid is not idempotent and commutative
  failure : (of : LtKind) (w : LtWitness) → IsWitnessOf of k L words w
      → IsLocallyIdempotentAndCommutative k (Syntactic k L) → ⊥
  failure kind.Repeat w h l =
      h.repeat.fails (l.idempotent w.x (failing_idempotent w.x h.failing) (word_at words h.s)
      (r.over h.s h.repeat.within))
  failure kind.Swap w h l =
      h.swap.fails (l.commute w.x (failing_idempotent w.x h.failing) (word_at words h.s)
      (word_at words h.t) (r.over h.s h.swap.within) (r.over h.t h.swap.other_within))

  pub witness_fails : (w : LtWitness) → IsWitness k L words w
      → IsLocallyIdempotentAndCommutative k (Syntactic k L) → ⊥
  witness_fails w = failure w.kind w
