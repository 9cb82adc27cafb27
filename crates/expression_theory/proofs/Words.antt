-- Words, and languages made of others.
use Rattle.std.proofs.Common.{◌≡◌, ℕ, ◌⊎◌, inl, inr, List, [], ◌∷◌, ◌++◌, refl, ap, sym, subst, ◌∙◌, append_assoc}
use Rattle.expression_theory.specs.Expression.{Concatenation, KleeneStar, nothing, piece}

-- a letter of `x y` is one of x or one of y
abbrev pub Cut : ℕ → (x y u v : List ℕ) → Type 0
Cut p x y u v = ((z : List ℕ) × (x ≡ u ++ p ∷ z) × (z ++ y ≡ v))
    ⊎ ((z : List ℕ) × (y ≡ z ++ p ∷ v) × (x ++ z ≡ u))

cut_further : (p a b : ℕ) (x y u v : List ℕ) → a ≡ b → Cut p x y u v → Cut p (a ∷ x) y (b ∷ u) v
cut_further p a b x y u v e (inl (z, f, g)) = inl (z, cc, g)
cut_further p a b x y u v e (inr (z, f, g)) = inr (z, f, cc)

-- the letter stands in the one part or in the other
pub cut : (p : ℕ) (x y u v : List ℕ) → x ++ y ≡ u ++ p ∷ v → Cut p x y u v
cut p [] y u v e = inr (u, e, refl)
cut p (a ∷ x) y [] v e = inl (x, cc, cc)
cut p (a ∷ x) y (b ∷ u) v e = cut_further p a b x y u v (cc) (cut p x y u v (cc))

-- a word with a letter is not empty
pub not_empty : (p : ℕ) (u v : List ℕ) → u ++ p ∷ v ≡ [] → ⊥
not_empty p [] v e = cc
not_empty p (a ∷ u) v e = cc

-- one word more, also an empty one
pub more : (L : List ℕ → Type 0) (u v : List ℕ) → L u → KleeneStar L v → KleeneStar L (u ++ v)
more L [] v h s = s
more L (a ∷ u) v h s = piece h s

-- the star is closed under concatenation
pub closed : (L : List ℕ → Type 0) (u v : List ℕ) → KleeneStar L u → KleeneStar L v
    → KleeneStar L (u ++ v)
closed L u v nothing t = t
closed L u v (piece {u = x} {v = y} h s) t = rw append_assoc (piece h (closed L y v s t))

-- a letter of a repeated word stands in one of the pieces
abbrev pub Within : (L : List ℕ → Type 0) → ℕ → (u v : List ℕ) → Type 0
Within L p u v = (before x y after : List ℕ) × KleeneStar L before × L (x ++ p ∷ y)
    × KleeneStar L after × (before ++ x ≡ u) × (y ++ after ≡ v)

within_next : (L : List ℕ → Type 0) (p a : ℕ) (x z u v : List ℕ) → L (a ∷ x) → a ∷ (x ++ z) ≡ u
    → Within L p z v → Within L p u v
within_next L p a x z u v h g (before, y, y', after, s, l, t, e, f) = (
  a ∷ (x ++ before),
  y,
  y',
  after,
  piece h s,
  l,
  t,
  ap (λ w. a ∷ w) (append_assoc x before y ∙ ap (λ w. x ++ w) e) ∙ g,
  f,
)

-- a letter of a word of the star stands in a piece
pub within_piece : (L : List ℕ → Type 0) (p : ℕ) (w u v : List ℕ) → w ≡ u ++ p ∷ v → KleeneStar L w
    → Within L p u v
within_piece L p w u v e nothing = absurd (not_empty p u v (sym e))
within_piece L p w u v e (piece {a = a} {u = x} {v = y} h s) =
    by (λ z f. within_piece L p y z v f s) (cut p (a ∷ x) y u v e)
  where
    by : ((z : List ℕ) → y ≡ z ++ p ∷ v → Within L p z v) → Cut p (a ∷ x) y u v → Within L p u v
    by again (inl (z, f, g)) = ([], u, z, y, nothing, subst L f h, s, refl, g)
    by again (inr (z, f, g)) = within_next L p a x z u v h g (again z f)

-- `Concatenation L (KleeneStar L)` and `KleeneStar L` differ in the empty word alone
pub once_or_none : (L : List ℕ → Type 0) (w : List ℕ) → KleeneStar L w
    → (w ≡ []) ⊎ Concatenation L (KleeneStar L) w
once_or_none L w nothing = inl refl
once_or_none L w (piece {a = a} {u = x} {v = y} h s) = inr (a ∷ x, y, h, s, refl)

-- once or more is any number of times
pub from_once : (L : List ℕ → Type 0) (w : List ℕ) → Concatenation L (KleeneStar L) w
    → KleeneStar L w
from_once L w (u, v, h, s, e) = subst (KleeneStar L) e (more L u v h s)
