-- The laws of subwords: they are ordered, go along with concatenation, are what is left when
-- letters are deleted, and are decided.
use Rattle.std.proofs.Common.{◌≡◌, ℕ, ◌≤◌, ◌⊎◌, inl, inr, List, [], ◌∷◌, ◌++◌, length, refl, ap, subst, arith, append-nil}
use Rattle.language_theory.specs.Words.{Over, IsPrefix, IsFactor, IsSubword, done, keep, skip}
use Rattle.language_theory.proofs.Numbers.{equal_or_not}

pub subword_nil : (v : List ℕ) → IsSubword [] v
subword_nil [] = done
subword_nil (a ∷ v) = skip (subword_nil v)

pub subword_itself : (u : List ℕ) → IsSubword u u
subword_itself [] = done
subword_itself (a ∷ u) = keep (subword_itself u)

pub subword_trans : {u v w : List ℕ} → IsSubword u v → IsSubword v w → IsSubword u w
subword_trans h done = h
subword_trans (keep h) (keep g) = keep (subword_trans h g)
subword_trans (skip h) (keep g) = skip (subword_trans h g)
subword_trans h (skip g) = skip (subword_trans h g)

pub subword_tail : {a : ℕ} {u v : List ℕ} → IsSubword (a ∷ u) v → IsSubword u v
subword_tail (keep h) = skip h
subword_tail (skip h) = skip (subword_tail h)

-- first letters taken away on both sides
pub subword_tails : {a b : ℕ} {u v : List ℕ} → IsSubword (a ∷ u) (b ∷ v) → IsSubword u v
subword_tails (keep h) = h
subword_tails (skip h) = subword_tail h

-- a letter that is not the first one is further on
pub subword_further : {a b : ℕ} {u v : List ℕ} → ¬ (a ≡ b) → IsSubword (a ∷ u) (b ∷ v)
    → IsSubword (a ∷ u) v
subword_further n (keep h) = absurd (n refl)
subword_further n (skip h) = h

pub subword_length : {u v : List ℕ} → IsSubword u v → length u ≤ length v
subword_length done = omega arith
subword_length (keep h) = let i = subword_length h in omega arith
subword_length (skip h) = let i = subword_length h in omega arith

pub subword_antisym : {u v : List ℕ} → IsSubword u v → IsSubword v u → u ≡ v
subword_antisym done g = refl
subword_antisym (keep {a = a} h) g =
    ap (λ (t : List ℕ). a ∷ t) (subword_antisym h (subword_tails g))
subword_antisym (skip h) g =
    let i = subword_length h in let j = subword_length g in absurd (omega arith)

pub subword_over : (k : ℕ) {u v : List ℕ} → IsSubword u v → Over k v → Over k u
subword_over k done o = tt
subword_over k (keep h) o = (o.0, subword_over k h o.1)
subword_over k (skip h) o = subword_over k h o.1

pub subword_append : {u v x y : List ℕ} → IsSubword u v → IsSubword x y
    → IsSubword (u ++ x) (v ++ y)
subword_append done g = g
subword_append (keep h) g = keep (subword_append h g)
subword_append (skip h) g = skip (subword_append h g)

-- a subword of x y is one of x and then one of y
pub subword_split : (x y z : List ℕ) → IsSubword z (x ++ y) → (u v : List ℕ) × (u ++ v ≡ z)
    × IsSubword u x × IsSubword v y
subword_split [] y z h = ([], z, refl, done, h)
subword_split (a ∷ x) y z (keep {u = w} h) =
    let (u, v, e, f, g) = subword_split x y w h in
    (a ∷ u, v, ap (λ (t : List ℕ). a ∷ t) e, keep f, g)
subword_split (a ∷ x) y z (skip h) =
    let (u, v, e, f, g) = subword_split x y z h in (u, v, e, skip f, g)

-- a letter is put in
pub subword_insert : (x : List ℕ) (a : ℕ) (y : List ℕ) → IsSubword (x ++ y) (x ++ a ∷ y)
subword_insert [] a y = skip (subword_itself y)
subword_insert (b ∷ x) a y = keep (subword_insert x a y)

-- one letter of w is deleted, and u is still a subword
abbrev pub IsShortened : List ℕ → List ℕ → Type 0
IsShortened u w = (x : List ℕ) × (a : ℕ) × (y : List ℕ) × (x ++ a ∷ y ≡ w) × IsSubword u (x ++ y)

-- a subword is the whole word, or a letter can be deleted
pub subword_deleted : {u w : List ℕ} → IsSubword u w → (u ≡ w) ⊎ IsShortened u w
subword_deleted done = inl refl
subword_deleted (skip {a = a} {v = v} h) = inr ([], a, v, refl, h)
subword_deleted (keep {a = a} {u = u} {v = v} h) = by (subword_deleted h)
  where
    by : (u ≡ v) ⊎ IsShortened u v → (a ∷ u ≡ a ∷ v) ⊎ IsShortened (a ∷ u) (a ∷ v)
    by (inl e) = inl (ap (λ (t : List ℕ). a ∷ t) e)
    by (inr (x, b, y, e, g)) = inr (a ∷ x, b, y, ap (λ (t : List ℕ). a ∷ t) e, keep g)

pub subword_or_not : (u v : List ℕ) → IsSubword u v ⊎ ¬ IsSubword u v
subword_or_not [] v = inl (subword_nil v)
subword_or_not (a ∷ u) [] = inr (λ h. elim h [ ])
subword_or_not (a ∷ u) (b ∷ v) =
    by (equal_or_not a b) (subword_or_not u v) (subword_or_not (a ∷ u) v)
  where
    by : (a ≡ b) ⊎ ¬ (a ≡ b) → IsSubword u v ⊎ ¬ IsSubword u v → IsSubword (a ∷ u) v
        ⊎ ¬ IsSubword (a ∷ u) v → IsSubword (a ∷ u) (b ∷ v) ⊎ ¬ IsSubword (a ∷ u) (b ∷ v)
    by (inl e) (inl h) y = inl (subst (λ (c : ℕ). IsSubword (a ∷ u) (c ∷ v)) e (keep h))
    by (inl e) (inr n) y = inr (λ h. n (subword_tails h))
    by (inr n) x (inl h) = inl (skip h)
    by (inr n) x (inr m) = inr (λ h. m (subword_further n h))

-- ---- prefixes and factors

pub prefix_factor : (u w : List ℕ) → IsPrefix u w → IsFactor u w
prefix_factor u w (v, e) = ([], v, e)

pub factor_subword : (u w : List ℕ) → IsFactor u w → IsSubword u w
factor_subword u w (p, q, e) =
    subst (IsSubword u) e (subword_append (subword_nil p)
    (subst (λ (x : List ℕ). IsSubword x (u ++ q)) (append-nil u)
    (subword_append (subword_itself u) (subword_nil q))))
