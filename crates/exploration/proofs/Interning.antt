-- Keys in the order of insertion number the states of a machine: for every machine that keeps its
-- states in an index set.
use Rattle.std.proofs.Common.{◌≡◌, ℕ, ◌+◌, ◌<◌, ◌≤◌, ◌⊎◌, inl, inr, Bool, true, false, cond, List, [], ◌∷◌, ◌++◌, Some, length, refl, ap, sym, subst, ◌∙◌, arith, length-append, get_or, eqb}
use Rattle.std.specs.Prelude.{position}
use Rattle.std.specs.Bool.{Decides}
use Rattle.std.specs.List.{list_any, position_or_len}
use Rattle.std.proofs.lemmas.Bool.{cases_lt, lt-ltb}
use Rattle.std.proofs.lemmas.List.Sums.{passes_at_first, fails_before_first, prefix_len-le-length}
use Rattle.std.proofs.lemmas.Bool.Decides.{nat_tests}
use Rattle.std.specs.Prelude.{not}
use Rattle.std.proofs.lemmas.List.Folds.{position_or_len_push, list_any_at, Any-from_list_any}
use Rattle.indexmap.specs.IndexSet.{insert_key}
use Rattle.language_theory.specs.Words.{Over}
use Rattle.exploration.specs.States.{IsCounted}
use Rattle.exploration.specs.Interning.{AreReached}
use Rattle.exploration.specs.NumberedKeys.{position_is}

-- a place before the end is the position
position_found : {X : Type 0} (p : X → Bool) (xs : List X) (n : ℕ) → position_or_len p xs ≡ n
    → n < length xs → position p xs ≡ Some n
position_found p xs n e h =
    rw (lt-ltb (position_or_len p xs) (length xs) (omega arith)) (ap (λ (m : ℕ). Some m) e)

module _ {X : Type 0} (p : X → Bool) (xs : List X) where
  -- one that passes is found before the end
  pub any_is_found : list_any p xs ≡ true → position_or_len p xs < length xs
  any_is_found e = by (cases_lt (position_or_len p xs) (length xs))
    where
      by : (position_or_len p xs < length xs) ⊎ (length xs ≤ position_or_len p xs)
          → position_or_len p xs < length xs
      by (inl l) = l
      by (inr l) =
          let (k, x, h, at, passes) = Any-from_list_any p xs e in
          let fails : p (get_or xs k x) ≡ false = fails_before_first p xs k x (omega arith) in
          let same : p (get_or xs k x) ≡ p x = ap p at in
          cc

  -- where none passes, the place is the end
  pub none_is_end : (d : X) → list_any p xs ≡ false → position_or_len p xs ≡ length xs
  none_is_end d e = by (cases_lt (position_or_len p xs) (length xs))
    where
      by : (position_or_len p xs < length xs) ⊎ (length xs ≤ position_or_len p xs)
          → position_or_len p xs ≡ length xs
      by (inl l) = let t : list_any p xs ≡ true =
          list_any_at p xs (position_or_len p xs) d l (passes_at_first p xs d l) in cc
      by (inr l) = omega (arith, prefix_len-le-length (λ x. not (p x)) xs)

  -- what is found stays where it is when a key is put behind
  pub position_push : (y : X) (n : ℕ) → position p xs ≡ Some n → position p (xs ++ y ∷ []) ≡ Some n
  position_push y n e =
      let (a, h) = position_is p xs n e in
      let longer : length (xs ++ y ∷ []) ≡ length xs + 1 = simp length-append in
      let inside : eqb (position_or_len p xs) (length xs) ≡ false = grind (arith, nat_tests) in
      let same : position_or_len p (xs ++ y ∷ []) ≡ n = position_or_len_push p xs y ∙ rw inside a in
      position_found p (xs ++ y ∷ []) n same (omega arith)

  -- what is put behind is found there, if it was not found before
  pub position_at_end : (y : X) → p y ≡ true → position_or_len p xs ≡ length xs
      → position p (xs ++ y ∷ []) ≡ Some (length xs)
  position_at_end y e a =
      let longer : length (xs ++ y ∷ []) ≡ length xs + 1 = simp length-append in
      let outside : eqb (position_or_len p xs) (length xs) ≡ true = grind (arith, nat_tests) in
      let same : position_or_len p (xs ++ y ∷ []) ≡ length xs = position_or_len_push p xs y
      ∙ rw (outside, e) (omega arith) in
      position_found p (xs ++ y ∷ []) (length xs) same (omega arith)

module _ {X : Type 0} (eq : X → X → Bool) (decides : (x y : X) → Decides (eq x y) (x ≡ y)) where
  -- a key that is there already is found, and else it goes last
  insert_cases : (keys : List X) (y : X) → ((list_any (eq y) keys ≡ true)
      × (insert_key eq keys y ≡ keys))
      ⊎ ((list_any (eq y) keys ≡ false) × (insert_key eq keys y ≡ keys ++ y ∷ []))
  insert_cases keys y = by (list_any (eq y) keys) refl
    where
      by : (b : Bool) → list_any (eq y) keys ≡ b
          → ((list_any (eq y) keys ≡ true) × (insert_key eq keys y ≡ keys))
          ⊎ ((list_any (eq y) keys ≡ false) × (insert_key eq keys y ≡ keys ++ y ∷ []))
      by true e = inl (e, ap (λ (b : Bool). cond b keys (keys ++ y ∷ [])) e)
      by false e = inr (e, ap (λ (b : Bool). cond b keys (keys ++ y ∷ [])) e)

  -- each key keeps its number
  pub insert_keeps : (keys : List X) (x y : X) (n : ℕ) → position (eq x) keys ≡ Some n
      → position (eq x) (insert_key eq keys y) ≡ Some n
  insert_keeps keys x y n e = elim (insert_cases keys y) [
    | inl c ↦ rw c.1 e
    | inr c ↦ rw c.1 (position_push (eq x) keys y n e)
  ]

  -- the inserted key has the number that `insert_full` answers
  pub insert_numbers : (keys : List X) (y : X)
      → position (eq y) (insert_key eq keys y) ≡ Some (position_or_len (eq y) keys)
  insert_numbers keys y = elim (insert_cases keys y) [
    | inl c ↦ rw c.1 (position_found (eq y) keys (position_or_len (eq y) keys) refl
        (any_is_found (eq y) keys c.0))
    | inr c ↦ let end = none_is_end (eq y) keys y c.0 in
        rw (c.1, end) (position_at_end (eq y) keys y ((decides y y).1 refl) end)
  ]

  pub insert_counts : (keys : List X) (y : X)
      → IsCounted (length keys) (length (insert_key eq keys y)) (position_or_len (eq y) keys)
  insert_counts keys y = elim (insert_cases keys y) [
    | inl c ↦ inl (any_is_found (eq y) keys c.0, ap length c.1)
    | inr c ↦ let longer : length (keys ++ y ∷ []) ≡ length keys + 1 = simp length-append in
        inr (none_is_end (eq y) keys y c.0, ap length c.1 ∙ longer)
  ]

  -- the keys stay those of states to which words lead
  pub insert_reached : (k : ℕ) (state_of : List ℕ → X) (keys : List X) (y : X) (w : List ℕ)
      → Over k w → state_of w ≡ y → AreReached eq k state_of keys
      → AreReached eq k state_of (insert_key eq keys y)
  insert_reached k state_of keys y w o e h =
      record { reached = λ n hn. by n hn (insert_counts keys y) }
    where
      old : (n : ℕ) → n < length keys
          → (v : List ℕ) × Over k v × (position (eq (state_of v)) (insert_key eq keys y) ≡ Some n)
      old n hn = let (v, ov, f) = h.reached n hn in (v, ov, insert_keeps keys (state_of v) y n f)

      by : (n : ℕ) → n < length (insert_key eq keys y)
          → IsCounted (length keys) (length (insert_key eq keys y)) (position_or_len (eq y) keys)
          → (v : List ℕ) × Over k v × (position (eq (state_of v)) (insert_key eq keys y) ≡ Some n)
      by n hn (inl c) = old n (omega arith)
      by n hn (inr c) = elim (cases_lt n (length keys)) [
        | inl l ↦ old n l
        | inr l ↦ (
          w,
          o,
          subst (λ (x : X). position (eq x) (insert_key eq keys y) ≡ Some n) (sym e)
              (insert_numbers keys y ∙ ap (λ (m : ℕ). Some m) (omega arith)),
        )
      ]
