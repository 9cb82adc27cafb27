-- Words over the first k letters: lists of letter numbers (Pin, "Mathematical Foundations of
-- Automata Theory": words, prefixes, factors, subwords, the shortlex order).
use Rattle.std.specs.Prelude.{◌≡◌, ◌<◌, ◌++◌, ℕ, zero, suc, List, [], ◌∷◌, length}
use Rattle.std.specs.Prelude.{slice_index_or}
use Rattle.std.specs.declared.cmp.Ordering.{Ordering}
use Rattle.std.specs.declared.cmp.Ordering.TheVariants.{Less}
use Rattle.std.specs.Ordering.{nat_cmp, ordering_then}
use Rattle.std.specs.Cmp.Lexicographic.{slice_cmp}

-- each letter is below k
abbrev pub Over : ℕ → List ℕ → Type 0
Over k [] = Unit {0}
Over k (a ∷ w) = (a < k) × Over k w

-- w repeated n times
abbrev pub power : ℕ → List ℕ → List ℕ
power zero w = []
power (suc n) w = w ++ power n w

-- w begins with u
abbrev pub IsPrefix : List ℕ → List ℕ → Type 0
IsPrefix u w = (rest : List ℕ) × (u ++ rest ≡ w)

-- u is a run of neighbouring letters of w
abbrev pub IsFactor : List ℕ → List ℕ → Type 0
IsFactor u w = (p q : List ℕ) × (p ++ (u ++ q) ≡ w)

-- the first word is what is left of the second when any letters are deleted
pub data IsSubword : List ℕ → List ℕ → Type 0 where
  done : IsSubword [] []
  keep : {a : ℕ} {u v : List ℕ} → IsSubword u v → IsSubword (a ∷ u) (a ∷ v)
  skip : {a : ℕ} {u v : List ℕ} → IsSubword u v → IsSubword u (a ∷ v)

-- by length, and words of one length by the first letter that differs
abbrev pub shortlex : List ℕ → List ℕ → Ordering
shortlex u v = ordering_then (nat_cmp (length u) (length v)) (slice_cmp nat_cmp u v)

-- u comes before v in shortlex order
infix 40 ◌⊏◌
abbrev pub ◌⊏◌ : List ℕ → List ℕ → Type 0
u ⊏ v = shortlex u v ≡ Less

-- the word at a place of a list of words
abbrev pub word_at : List (List ℕ) → ℕ → List ℕ
word_at words i = slice_index_or words i []
