-- The witness of least words is a repeat or a swap, so it tells its two words apart at every level.
use Rattle.std.proofs.Common.{◌≡◌, ◌↔◌, ℕ, ◌≤◌, IsTrue, List}
use Rattle.language_theory.specs.Congruence.{Syntactic}
use Rattle.language_theory.specs.Representatives.{AreRepresentatives}
use Rattle.language_theory.proofs.Congruences.{both_directions, other_direction}
use Rattle.answers.specs.declared.factors.LtKind.{LtKind}
use Rattle.answers.specs.declared.factors.LtKind.TheVariants as kind
use Rattle.answers.specs.declared.factors.LtWitness.{LtWitness}
use Rattle.level_search.specs.Levels.{Suffices}
use Rattle.factor_keys.specs.Keys.{SameKey}
use Rattle.locally_testable.specs.Witness.{AreToldApart, ShowsNotTestable, first_of, second_of}
use Rattle.local_submonoids.specs.Witness.{IsWitnessOf, IsWitness}
use Rattle.local_submonoids.proofs.LeastWitnesses.{is_repeat, is_swap}
use Rattle.locally_testable.proofs.Witnesses.{repeat_tells_apart, swap_tells_apart, repeat_no_level, swap_no_level, one_member, two_member}

module _ (k : ℕ) (L : List ℕ → Type 0) (words : List (List ℕ))
    (r : AreRepresentatives k (Syntactic k L) words) where
  witness_tells_apart : (of : LtKind) (w : LtWitness) → IsWitnessOf of k L words w → (n : ℕ) → 1 ≤ n
      → AreToldApart L n (first_of of n w) (second_of of n w)
  witness_tells_apart kind.Repeat w h n pos =
      repeat_tells_apart k L w.u w.x w.y w.v (is_repeat k L words r w h) n pos
  witness_tells_apart kind.Swap w h n pos =
      swap_tells_apart k L w.u w.x w.y w.z w.v (is_swap k L words r w h) n pos

  witness_first : (of : LtKind) (w : LtWitness) → IsWitnessOf of k L words w → (n : ℕ) → 1 ≤ n
      → IsTrue w.first_in ↔ L (first_of of n w)
  witness_first kind.Repeat w h n pos =
      let i = is_repeat k L words r w h in
      both_directions h.first_in
      (other_direction
      (one_member k L w.u w.x w.v i.before i.behind i.idempotent n pos w.y i.inner))
  witness_first kind.Swap w h n pos =
      let i = is_swap k L words r w h in
      both_directions h.first_in
      (other_direction
      (two_member k L w.u w.x w.v i.before i.behind i.idempotent n pos w.y w.z i.first i.second))

  pub witness_shows : (w : LtWitness) → IsWitness k L words w → ShowsNotTestable L w
  witness_shows w h = record {
    apart = witness_tells_apart w.kind w h;
    first = witness_first w.kind w h;
  }

  -- with a witness no level suffices
  no_level : (of : LtKind) (w : LtWitness) → IsWitnessOf of k L words w → (n : ℕ) → 1 ≤ n
      → ¬ Suffices k L (SameKey n)
  no_level kind.Repeat w h = repeat_no_level k L w.u w.x w.y w.v (is_repeat k L words r w h)
  no_level kind.Swap w h = swap_no_level k L w.u w.x w.y w.z w.v (is_swap k L words r w h)

  pub witness_no_level : (w : LtWitness) → IsWitness k L words w → (n : ℕ) → 1 ≤ n
      → ¬ Suffices k L (SameKey n)
  witness_no_level w = no_level w.kind w
