-- Relations that agree on words over k letters have the same classes and the same idempotents.
use Rattle.std.proofs.Common.{◌↔◌, ℕ, ◌<◌, List, ◌++◌, length, slice_index}
use Rattle.language_theory.specs.Words.{Over, word_at}
use Rattle.language_theory.specs.Congruence.{Agree}
use Rattle.language_theory.proofs.Shortlex.{over_append}
use Rattle.monoid_theory.specs.Green.{IsR, IsL, IsJ, IsH, IsIdempotent}
use Rattle.monoid_theory.proofs.Agreeing.{r_agrees, l_agrees, j_agrees, h_agrees}
use Rattle.green_relations.specs.GreenClasses.{GreenClasses, AreLeastMates, AreGreens}

module _ (k : ℕ) (words : List (List ℕ))
    (o : (i : ℕ) → i < length words → Over k (word_at words i)) where
  pub mates_agree : (relation other : List ℕ → List ℕ → Type 0) (labels : List ℕ)
      → Agree k relation other → AreLeastMates relation words labels
      → AreLeastMates other words labels
  mates_agree relation other labels a h = record {
    long = h.long;
    within = h.within;
    related = λ i hi. (a.both (word_at words (slice_index labels i)) (word_at words i)
        (o (slice_index labels i) (h.within i hi)) (o i hi)).0 (h.related i hi);
    least = λ i m hi hm q. h.least i m hi hm
        ((a.both (word_at words m) (word_at words i) (o m hm) (o i hi)).1 q);
  }

  pub idempotents_agree : (same alike : List ℕ → List ℕ → Type 0) → Agree k same alike → (i : ℕ)
      → i < length words
      → IsIdempotent same (word_at words i) ↔ IsIdempotent alike (word_at words i)
  idempotents_agree same alike a i hi =
      let w = word_at words i in
      a.both (w ++ w) w (over_append k w w (o i hi) (o i hi)) (o i hi)

  pub greens_agree : (same alike : List ℕ → List ℕ → Type 0) (g : GreenClasses)
      → Agree k same alike → AreGreens k same words g → AreGreens k alike words g
  greens_agree same alike g a h = record {
    r = mates_agree (IsR k same) (IsR k alike) g.r (r_agrees k same alike a) h.r;
    l = mates_agree (IsL k same) (IsL k alike) g.l (l_agrees k same alike a) h.l;
    j = mates_agree (IsJ k same) (IsJ k alike) g.j (j_agrees k same alike a) h.j;
    h = mates_agree (IsH k same) (IsH k alike) g.h (h_agrees k same alike a) h.h;
    marks = h.marks;
    idempotent = λ i hi. (
      λ t. (idempotents_agree same alike a i hi).0 ((h.idempotent i hi).0 t),
      λ q. (h.idempotent i hi).1 ((idempotents_agree same alike a i hi).1 q),
    );
  }
