-- The law that distinct keys number the states of a machine one to one. It stands here since the
-- law of a trait may cite no file of proofs.
use Rattle.std.specs.Prelude.{◌≡◌, ◌<◌, ℕ, Bool, true, false, cond, List, length, position, Some, None, refl}
use Rattle.std.proofs.Common.{sym, subst, ◌∙◌, arith, get_or, ltb}
use Rattle.std.specs.Bool.{Decides}
use Rattle.std.specs.List.{position_or_len}
use Rattle.std.proofs.lemmas.Bool.{ltb-true}
use Rattle.std.proofs.lemmas.List.Sums.{passes_at_first}
use Rattle.exploration.specs.States.{AreNumbered}
use Rattle.exploration.specs.Interning.{AreReached}

module _ {X : Type 0} (p : X → Bool) (xs : List X) where
  -- the place of the first that passes, in both forms
  pub position_is : (n : ℕ) → position p xs ≡ Some n → (position_or_len p xs ≡ n) × (n < length xs)
  position_is n e = by (ltb (position_or_len p xs) (length xs)) refl e
    where
      by : (b : Bool) → ltb (position_or_len p xs) (length xs) ≡ b
          → cond b (Some (position_or_len p xs)) None ≡ Some n
          → (position_or_len p xs ≡ n) × (n < length xs)
      by true t f = let same : position_or_len p xs ≡ n = cc in
          (same, omega (arith, ltb-true (position_or_len p xs) (length xs) t))
      by false t f = cc

module _ {X : Type 0} (eq : X → X → Bool) (decides : (x y : X) → Decides (eq x y) (x ≡ y)) where
  -- a key that passes a test alone is the one that is found
  pub position_of_one : (xs : List X) (x y : X) (n : ℕ) → position (eq x) xs ≡ Some n
      → position (eq y) xs ≡ Some n → x ≡ y
  position_of_one xs x y n e f =
      let (a, h) = position_is (eq x) xs n e in
      let (b, _) = position_is (eq y) xs n f in
      let at : eq x (get_or xs n x) ≡ true = subst (λ (m : ℕ). eq x (get_or xs m x) ≡ true) a
      (passes_at_first (eq x) xs x (omega arith)) in
      let also : eq y (get_or xs n x) ≡ true =
      subst (λ (m : ℕ). eq y (get_or xs m x) ≡ true) b
      (passes_at_first (eq y) xs x (omega arith)) in
      (decides x (get_or xs n x)).0 at ∙ sym ((decides y (get_or xs n x)).0 also)

  -- the keys number the states
  pub keys_number : (k : ℕ) (state_of : List ℕ → X) (keys : List X) → AreReached eq k state_of keys
      → AreNumbered k (λ u v. state_of u ≡ state_of v) (λ w. position (eq (state_of w)) keys)
      (length keys)
  keys_number k state_of keys h = record {
    below = λ w n o e. (position_is (eq (state_of w)) keys n e).1;
    used = h.reached;
    one = λ u v n ou ov e. (
      λ f. position_of_one keys (state_of u) (state_of v) n e f,
      λ s.
          subst (λ (x : X). position (eq x) keys ≡ Some n) s e,
    );
  }
