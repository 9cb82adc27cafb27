-- The places of words in shortlex order: the words of at most n letters have the places below the
-- width, each its own.
use Rattle.std.proofs.Common.{◌≡◌, ◌⊎◌, inl, inr, ℕ, zero, suc, ◌+◌, ◌-◌, ◌*◌, ◌/◌, ◌%◌, ◌<◌, ◌≤◌, List, [], ◌∷◌, ◌++◌, length, refl, ap, sym, subst, ◌∙◌, arith, length-append}
use Rattle.std.proofs.lemmas.Nat.{div-mul-add, mod-mul-add, mul-add-lt, div-add-mod'}
use Rattle.std.proofs.Math.Nat.{div-lt_iff_lt-mul, mul_comm}
use Rattle.language_theory.specs.Words.{Over}
use Rattle.language_theory.proofs.Shortlex.{over_prefix, over_suffix, over_last, last_letter}
use Rattle.language_theory.proofs.Congruences.{moved_append}
use Rattle.subword_theory.specs.SubwordRows.{width, child, place, parent}

pub place_last : (k : ℕ) (x : List ℕ) (a : ℕ) → place k (x ++ a ∷ []) ≡ child k (place k x) a
place_last k x a = moved_append (child k) 0 x (a ∷ [])

pub width_some : (k n : ℕ) → 1 ≤ width k n
width_some k zero = omega arith
width_some k (suc n) = omega arith

-- what is shown of the empty word, and of each word with a letter behind it, holds of a word
pub by_last_letter : (P : List ℕ → Type 0) → P [] → ((x : List ℕ) (a : ℕ) → P (x ++ a ∷ []))
    → (w : List ℕ) → P w
by_last_letter P none one w = elim (last_letter w) [
  | inl e ↦ subst P (sym e) none
  | inr (x, a, e) ↦ subst P (sym e) (one x a)
]

pub shorter : (x : List ℕ) (a n : ℕ) → length (x ++ a ∷ []) ≤ suc n → length x ≤ n
shorter x a n l = let e = length-append x (a ∷ []) in omega arith

pub letter_of : (k : ℕ) (x : List ℕ) (a : ℕ) → Over k (x ++ a ∷ []) → a < k
letter_of k x a o = (over_suffix k x (a ∷ []) o).0

pub child_within : (k n p a : ℕ) → p < width k n → a < k → child k p a < width k (suc n)
child_within k n p a h l =
    let j = mul-add-lt p k a (width k n) h l in
    let e = mul_comm k (width k n) in
    omega arith

-- the words of at most n letters have places below the width
abbrev IsWithin : ℕ → ℕ → Type 0
IsWithin k n = (x : List ℕ) → Over k x → length x ≤ n → place k x < width k n

within_more : (k n : ℕ) → IsWithin k n → IsWithin k (suc n)
within_more k n within x o l = by (last_letter x)
  where
    by : (x ≡ []) ⊎ ((y : List ℕ) × (b : ℕ) × (x ≡ y ++ b ∷ [])) → place k x < width k (suc n)
    by (inl e) = let z = ap (place k) e in let s = width_some k (suc n) in omega arith
    by (inr (y, b, e)) =
        let oy : Over k (y ++ b ∷ []) = subst (Over k) e o in
        let ly : length (y ++ b ∷ []) ≤ suc n = subst (λ (w : List ℕ). length w ≤ suc n) e l in
        subst (λ (p : ℕ). p < width k (suc n)) (sym (ap (place k) e ∙ place_last k y b))
        (child_within k n (place k y) b
        (within y (over_prefix k y (b ∷ []) oy) (shorter y b n ly)) (letter_of k y b oy))

none_within : (k : ℕ) → IsWithin k zero
none_within k [] o l = omega arith
none_within k (a ∷ x) o l = absurd (omega arith)

place_is_within : (k n : ℕ) → IsWithin k n
place_is_within k zero = none_within k
place_is_within k (suc n) = within_more k n (place_is_within k n)

pub place_within : (k n : ℕ) (x : List ℕ) → Over k x → length x ≤ n → place k x < width k n
place_within k n = place_is_within k n

-- a child has one parent and one letter
pub child_one : (k p q a b : ℕ) → a < k → b < k → child k p a ≡ child k q b → (p ≡ q) × (a ≡ b)
child_one k p q a b l m e =
    let same : p * k + a ≡ q * k + b = omega arith in (
      sym (div-mul-add p k a l) ∙ (ap (λ (i : ℕ). i / k) same ∙ div-mul-add q k b m),
      sym (mod-mul-add p k a l) ∙ (ap (λ (i : ℕ). i % k) same ∙ mod-mul-add q k b m),
    )

pub parent_of_child : (k p a : ℕ) → a < k → parent k (child k p a) ≡ p
parent_of_child k p a l =
    ap (λ (i : ℕ). i / k) (let e : p * k + a + 1 - 1 ≡ p * k + a = omega arith in e)
    ∙ div-mul-add p k a l

-- the empty word has a place of its own
place_none : (k : ℕ) (y : List ℕ) → place k y ≡ 0 → y ≡ []
place_none k y e = by (last_letter y)
  where
    by : (y ≡ []) ⊎ ((v : List ℕ) × (b : ℕ) × (y ≡ v ++ b ∷ [])) → y ≡ []
    by (inl f) = f
    by (inr (v, b, f)) =
        let z : child k (place k v) b ≡ 0 = sym (place_last k v b) ∙ (sym (ap (place k) f) ∙ e) in
        absurd (omega arith)

-- words of at most n letters with one place are equal
abbrev IsOnePlace : ℕ → ℕ → Type 0
IsOnePlace k n =
    (x y : List ℕ) → length x ≤ n → Over k x → Over k y → place k x ≡ place k y → x ≡ y

one_more : (k n : ℕ) → IsOnePlace k n → IsOnePlace k (suc n)
one_more k n one x y l ox oy e = by (last_letter x) (last_letter y)
  where
    by : (x ≡ []) ⊎ ((u : List ℕ) × (a : ℕ) × (x ≡ u ++ a ∷ []))
        → (y ≡ []) ⊎ ((v : List ℕ) × (b : ℕ) × (y ≡ v ++ b ∷ [])) → x ≡ y
    by (inl f) g = f ∙ sym (place_none k y (sym e ∙ ap (place k) f))
    by (inr f) (inl g) = place_none k x (e ∙ ap (place k) g) ∙ sym g
    by (inr (u, a, f)) (inr (v, b, g)) =
        let ou : Over k (u ++ a ∷ []) = subst (Over k) f ox in
        let ov : Over k (v ++ b ∷ []) = subst (Over k) g oy in
        let lu : length u ≤ n =
        shorter u a n (subst (λ (w : List ℕ). length w ≤ suc n) f l) in
        let same : child k (place k u) a ≡ child k (place k v) b =
        sym (place_last k u a) ∙ (sym (ap (place k) f)
        ∙ (e ∙ (ap (place k) g ∙ place_last k v b))) in
        let (p, h) = child_one k (place k u) (place k v) a b (letter_of k u a ou)
        (letter_of k v b ov) same in
        let w : u ≡ v = one u v lu (over_prefix k u (a ∷ []) ou) (over_prefix k v (b ∷ []) ov) p in
        f ∙ (ap (λ (z : List ℕ). z ++ a ∷ []) w ∙ (ap (λ (c : ℕ). v ++ c ∷ []) h ∙ sym g))

none_longer : (k : ℕ) → IsOnePlace k zero
none_longer k [] y l ox oy e = sym (place_none k y (sym e))
none_longer k (a ∷ x) y l ox oy e = absurd (omega arith)

one_place : (k n : ℕ) → IsOnePlace k n
one_place k zero = none_longer k
one_place k (suc n) = one_more k n (one_place k n)

pub place_one : (k : ℕ) (x y : List ℕ) → Over k x → Over k y → place k x ≡ place k y → x ≡ y
place_one k x y = one_place k (length x) x y (omega arith)

-- the word of a place
pub record IsAt (k n p : ℕ) (x : List ℕ) : Type 0 where
  pub over : Over k x
  pub short : length x ≤ n
  pub place : place k x ≡ p

pub word_at_place : (k n p : ℕ) → p < width k n → (x : List ℕ) × IsAt k n p x
word_at_place k n zero l = ([], record { over = tt; short = omega arith; place = refl })
word_at_place k zero (suc p) l = absurd (omega arith)
word_at_place zero (suc n) (suc p) l = absurd (omega arith)
word_at_place (suc k) (suc n) (suc p) l = by (word_at_place (suc k) n (p / suc k) inside)
  where
    inside : p / suc k < width (suc k) n
    inside =
        (div-lt_iff_lt-mul {k = suc k} {x = p} {y = width (suc k) n} (omega arith)).1 (omega arith)

    by : (x : List ℕ) × IsAt (suc k) n (p / suc k) x → (x : List ℕ) × IsAt (suc k) (suc n) (suc p) x
    by (x, h) = (
      x ++ (p % suc k) ∷ [],
      record {
        over = over_last (suc k) x (p % suc k) h.over (omega arith);
        short = (let e = length-append x ((p % suc k) ∷ []) in let s = h.short in omega arith);
        place = place_last (suc k) x (p % suc k)
            ∙ (ap (λ (q : ℕ). child (suc k) q (p % suc k)) h.place
            ∙ (let d = div-add-mod' p (suc k) in omega arith));
      },
    )
