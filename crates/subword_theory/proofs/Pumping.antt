-- A power with one more piece of its word behind it or before it has the same short subwords.
use Rattle.std.proofs.Common.{ℕ, zero, suc, ◌≤◌, List, [], ◌∷◌, ◌++◌, length, arith}
use Rattle.language_theory.specs.Words.{power, IsSubword, keep, skip}
use Rattle.language_theory.proofs.Deleting.{subword_nil, subword_itself, subword_trans, subword_append}
use Rattle.subword_theory.specs.ShortSubwords.{SameSubwords}
use Rattle.subword_theory.proofs.SameWords.{same_of_subword, same_context}

pub subword_front : (u v : List ℕ) → IsSubword u (u ++ v)
subword_front [] v = subword_nil v
subword_front (a ∷ u) v = keep (subword_front u v)

pub subword_behind : (u v : List ℕ) → IsSubword v (u ++ v)
subword_behind [] v = subword_itself v
subword_behind (a ∷ u) v = skip (subword_behind u v)

-- each letter of z is one of w
pub record HasLettersOf (w z : List ℕ) : Type 0 where
  pub letter : (a : ℕ) → IsSubword (a ∷ []) z → IsSubword (a ∷ []) w

-- a word of at most n letters of w is a subword of w repeated n times
pub power_has : (n : ℕ) (w z : List ℕ) → length z ≤ n → HasLettersOf w z → IsSubword z (power n w)
power_has n w [] l h = subword_nil (power n w)
power_has zero w (a ∷ z) l h = absurd (omega arith)
power_has (suc n) w (a ∷ z) l h =
    subword_append (h.letter a (keep (subword_nil z)))
    (power_has n w z (omega arith) (record { letter = λ b s. h.letter b (skip s) }))

letters_append : (w u v : List ℕ) → HasLettersOf w u → HasLettersOf w v → HasLettersOf w (u ++ v)
letters_append w u v f g = record { letter = at u f }
  where
    at : (u : List ℕ) → HasLettersOf w u → (a : ℕ) → IsSubword (a ∷ []) (u ++ v)
        → IsSubword (a ∷ []) w
    at [] f a h = g.letter a h
    at (b ∷ u) f a (keep h) = f.letter a (keep (subword_nil u))
    at (b ∷ u) f a (skip h) = at u (record { letter = λ c s. f.letter c (skip s) }) a h

letters_of_subword : {u v : List ℕ} (w : List ℕ) → IsSubword u v → HasLettersOf w v
    → HasLettersOf w u
letters_of_subword w h f = record { letter = λ a s. f.letter a (subword_trans s h) }

letters_of_power : (n : ℕ) (w : List ℕ) → HasLettersOf w (power n w)
letters_of_power zero w = record { letter = λ a h. elim h [ ] }
letters_of_power (suc n) w =
    letters_append w w (power n w) (record { letter = λ a h. h }) (letters_of_power n w)

pub power_behind : (n : ℕ) (x y : List ℕ)
    → SameSubwords n (power n (x ++ y)) (power n (x ++ y) ++ x)
power_behind n x y =
    same_of_subword n (power n (x ++ y)) (power n (x ++ y) ++ x)
    (subword_front (power n (x ++ y)) x)
    (λ z l h. power_has n (x ++ y) z l (letters_of_subword (x ++ y) h letters))
  where
    letters : HasLettersOf (x ++ y) (power n (x ++ y) ++ x)
    letters =
        letters_append (x ++ y) (power n (x ++ y)) x (letters_of_power n (x ++ y))
        (record { letter = λ a h. subword_trans h (subword_front x y) })

pub power_before : (n : ℕ) (x y : List ℕ)
    → SameSubwords n (power n (y ++ x)) (x ++ power n (y ++ x))
power_before n x y =
    same_of_subword n (power n (y ++ x)) (x ++ power n (y ++ x))
    (subword_behind x (power n (y ++ x)))
    (λ z l h. power_has n (y ++ x) z l (letters_of_subword (y ++ x) h letters))
  where
    letters : HasLettersOf (y ++ x) (x ++ power n (y ++ x))
    letters =
        letters_append (y ++ x) x (power n (y ++ x))
        (record { letter = λ a h. subword_trans h (subword_behind y x) })
        (letters_of_power n (y ++ x))

-- the same in any context
pub power_behind_in : (n : ℕ) (p x y q : List ℕ)
    → SameSubwords n (p ++ (power n (x ++ y) ++ q)) (p ++ ((power n (x ++ y) ++ x) ++ q))
power_behind_in n p x y q =
    same_context n (power n (x ++ y)) (power n (x ++ y) ++ x) p q (power_behind n x y)

pub power_before_in : (n : ℕ) (p x y q : List ℕ)
    → SameSubwords n (p ++ (power n (y ++ x) ++ q)) (p ++ ((x ++ power n (y ++ x)) ++ q))
power_before_in n p x y q =
    same_context n (power n (y ++ x)) (x ++ power n (y ++ x)) p q (power_before n x y)
