-- The keys of a level as the states of a machine, which are seen from its start on.
use Rattle.std.specs.Prelude.{◌≡◌, ◌<◌, ℕ, Bool, true, false, List, [], Option, Some, None}
use Rattle.std.proofs.Common.{sym, subst, arith}
use Rattle.exploration.specs.States.{AreNumbered, IsSameMachine}

-- before the start no key counts as seen
abbrev pub count_once : Bool → ℕ → ℕ
count_once true count = count
count_once false count = 0

abbrev pub number_once : Bool → (List ℕ → Option ℕ) → List ℕ → Option ℕ
number_once true number w = number w
number_once false number w = None

-- a quotient is at its level with k letters, and before the start it has seen the empty word's key
-- alone
pub record IsAtLevel (is_sound : Type 0) (k n : ℕ) (same : List ℕ → List ℕ → Type 0)
    (quotient_letters quotient_level : ℕ) (number : List ℕ → Option ℕ) (count : ℕ)
    (is_started : Bool) : Type 0 where
  pub sound : is_sound
  pub letters : quotient_letters ≡ k
  pub level : quotient_level ≡ n
  pub numbered : AreNumbered k same number count
  pub some : 0 < count
  pub one : is_started ≡ false → count ≡ 1
  pub empty : is_started ≡ false → number [] ≡ Some 0

pub keys_numbered : (k : ℕ) (same : List ℕ → List ℕ → Type 0) (number : List ℕ → Option ℕ)
    (count : ℕ) (is_started : Bool) → AreNumbered k same number count
    → AreNumbered k same (number_once is_started number) (count_once is_started count)
keys_numbered k same number count true h = h
keys_numbered k same number count false h = record {
  below = λ w n o e. cc;
  used = λ n l. absurd (omega arith);
  one = λ u v n ou ov e. cc;
}

-- the same letters and level have the same keys
pub same_level : (same : ℕ → ℕ → List ℕ → List ℕ → Type 0) (k l m n : ℕ) → l ≡ k → n ≡ m
    → IsSameMachine k l (same k m) (same l n)
same_level same k l m n e f =
    record {
      letters = e;
      same =
          record {
            both =
                λ u v _ _. (
                  λ h. subst (λ (i : ℕ). same i n u v) (sym e) (subst (λ (i : ℕ). same k i u v) (sym f) h),
                  λ h.
                      subst (λ (i : ℕ). same k i u v) f (subst (λ (i : ℕ). same i n u v) e h),
                );
          };
    }
