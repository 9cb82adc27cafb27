-- What steps that may meet a limit come to: each value that comes out is right, and where no limit
-- counts some value comes out.
use Rattle.std.proofs.Common.{◌≡◌, refl, subst}
use Rattle.star_free_theory.specs.Construction.{Outcome, bind, depth, done, nodes}

-- what comes out is as Q says, and where M holds something does
pub record Gives {A : Type 0} (M : Type 0) (o : Outcome A) (Q : A → Type 0) : Type 0 where
  pub right : (r : A) → o ≡ done r → Q r
  pub there : M → (r : A) × (o ≡ done r)

pub gives_done : {A : Type 0} (M : Type 0) (a : A) (Q : A → Type 0) → Q a → Gives M (done a) Q
gives_done M a Q q = record {
  right = λ r e. let f : a ≡ r = cc in subst Q f q;
  there = λ m. (a, refl);
}

pub gives_as : {A : Type 0} (M N : Type 0) (o : Outcome A) (Q R : A → Type 0) → (N → M)
    → ((r : A) → Q r → R r) → Gives M o Q → Gives N o R
gives_as M N o Q R f g h = record { right = λ r e. g r (h.right r e); there = λ n. h.there (f n) }

pub gives_bind : {A B : Type 0} (M : Type 0) (o : Outcome A) (f : A → Outcome B) (Q : A → Type 0)
    (R : B → Type 0) → Gives M o Q → ((r : A) → Q r → Gives M (f r) R) → Gives M (bind o f) R
unfolding bind
gives_bind M (done a) f Q R h g = g a (h.right a refl)
gives_bind M depth f Q R h g = record {
  right = λ r e. cc;
  there = λ m. let z = h.there m in
      let e : depth ≡ done z.0 = z.1 in cc;
}
gives_bind M nodes f Q R h g = record {
  right = λ r e. cc;
  there = λ m. let z = h.there m in
      let e : nodes ≡ done z.0 = z.1 in cc;
}
