-- Prefixes, suffixes and factors of words that are put together. They stand here since the law of a
-- trait may cite no file of proofs.
use Rattle.std.proofs.Common.{◌≡◌, ◌↔◌, ◌⊎◌, inl, inr, ℕ, zero, suc, ◌+◌, ◌-◌, ◌<◌, ◌≤◌, List, [], ◌∷◌, ◌++◌, length, take, drop, refl, ap, sym, subst, ◌∙◌, arith, append_assoc, length-append}
use Rattle.std.proofs.lemmas.List.{take-append-le, take_all, length-drop, take-append-drop}
use Rattle.language_theory.specs.Words.{IsFactor, power}
use Rattle.factor_keys.specs.Keys.{prefix, suffix}

-- ---- words that begin a word

-- u begins w
abbrev pub Begins : List ℕ → List ℕ → Type 0
Begins u w = (q : List ℕ) × (u ++ q ≡ w)

-- a word that begins a longer word, and is not longer than its front, begins the front
pub begins_front : (u w q : List ℕ) → Begins u (w ++ q) → length u ≤ length w → Begins u w
begins_front [] w q b l = (w, refl)
begins_front (a ∷ u) [] q b l = absurd (omega arith)
begins_front (a ∷ u) (c ∷ w) q (r, e) l =
    let same : a ≡ c = cc in
    let rest : u ++ r ≡ w ++ q = cc in
    let (s, f) = begins_front u w q (r, rest) (omega arith) in
    (s, cc)

-- ---- factors

pub factor_there : (u w : List ℕ) → Begins u w → IsFactor u w
factor_there u w (q, e) = ([], q, e)

pub factor_before : (x u w : List ℕ) → IsFactor x w → IsFactor x (u ++ w)
factor_before x u w (p, q, e) =
    (u ++ p, q, append_assoc u p (x ++ q) ∙ ap (λ (v : List ℕ). u ++ v) e)

pub factor_behind : (x w v : List ℕ) → IsFactor x w → IsFactor x (w ++ v)
factor_behind x w v (p, q, e) = (
  p,
  q ++ v,
  ap (λ (r : List ℕ). p ++ r) (sym (append_assoc x q v))
      ∙ (sym (append_assoc p (x ++ q) v) ∙ ap (λ (r : List ℕ). r ++ v) e),
)

pub factor_short : (x w : List ℕ) → IsFactor x w → length x ≤ length w
factor_short x w (p, q, e) =
    let long : length (p ++ (x ++ q)) ≡ length p + (length x + length q) = simp length-append in
    omega (arith, ap length e)

-- a factor of a word begins it, or is a factor of the word without its first letter
pub factor_cases : (x : List ℕ) (a : ℕ) (w : List ℕ) → IsFactor x (a ∷ w) → Begins x (a ∷ w)
    ⊎ IsFactor x w
factor_cases x a w ([], q, e) = inl (q, e)
factor_cases x a w (b ∷ p, q, e) = inr (p, q, cc)

-- A factor that has at most one letter more than the middle part lies in the first two parts, or in
-- the last two.
pub factor_overlap : (x p s q : List ℕ) → length x ≤ length s + 1 → IsFactor x (p ++ (s ++ q))
    → IsFactor x (p ++ s) ⊎ IsFactor x (s ++ q)
factor_overlap x [] s q l f = inr f
factor_overlap x (a ∷ p) s q l f =
    by (factor_cases x a (p ++ (s ++ q)) f) (factor_overlap x p s q l)
  where
    by : Begins x (a ∷ (p ++ (s ++ q))) ⊎ IsFactor x (p ++ (s ++ q))
        → (IsFactor x (p ++ (s ++ q)) → IsFactor x (p ++ s) ⊎ IsFactor x (s ++ q))
        → IsFactor x (a ∷ (p ++ s)) ⊎ IsFactor x (s ++ q)
    by (inl (r, e)) later =
        let long : length (a ∷ (p ++ s)) ≡ length p + length s + 1 =
        simp length-append (omega arith) in
        let whole : x ++ r ≡ (a ∷ (p ++ s)) ++ q =
        e ∙ ap (λ (w : List ℕ). a ∷ w) (sym (append_assoc p s q)) in
        inl (factor_there x (a ∷ (p ++ s))
        (begins_front x (a ∷ (p ++ s)) q (r, whole) (omega arith)))
    by (inr g) later = elim (later g) [
      | inl h ↦ inl (factor_before x (a ∷ []) (p ++ s) h)
      | inr h ↦ inr h
    ]

pub factor_halves : (x p s q : List ℕ) → length x ≤ length s + 1 → IsFactor x (p ++ (s ++ q))
    ↔ (IsFactor x (p ++ s) ⊎ IsFactor x (s ++ q))
factor_halves x p s q l = (factor_overlap x p s q l, from)
  where
    from : IsFactor x (p ++ s) ⊎ IsFactor x (s ++ q) → IsFactor x (p ++ (s ++ q))
    from (inl h) = subst (IsFactor x) (append_assoc p s q) (factor_behind x (p ++ s) q h)
    from (inr h) = factor_before x p (s ++ q) h

-- ---- prefixes and suffixes

pub prefix_whole : (n : ℕ) (w : List ℕ) → length w ≤ n → prefix n w ≡ w
prefix_whole n w l = take_all n w l

pub suffix_whole : (n : ℕ) (w : List ℕ) → length w ≤ n → suffix n w ≡ w
suffix_whole n w l = let none : length w - n ≡ 0 = omega arith in ap (λ (i : ℕ). drop i w) none

-- the prefix is fixed by a front that is long enough
pub prefix_front : (n : ℕ) (w q : List ℕ) → n ≤ length w → prefix n (w ++ q) ≡ prefix n w
prefix_front n w q l = take-append-le n w q l

drop_front : (p w : List ℕ) (n : ℕ) → drop (length p + n) (p ++ w) ≡ drop n w
drop_front [] w n = let none : 0 + n ≡ n = omega arith in ap (λ (i : ℕ). drop i w) none
drop_front (a ∷ p) w n = let one : suc (length p) + n ≡ suc (length p + n) = omega arith in
    ap (λ (i : ℕ). drop i (a ∷ (p ++ w))) one ∙ drop_front p w n

-- the suffix is fixed by a back that is long enough
pub suffix_back : (n : ℕ) (p w : List ℕ) → n ≤ length w → suffix n (p ++ w) ≡ suffix n w
suffix_back n p w l =
    let more : length (p ++ w) ≡ length p + length w = simp length-append in
    let place : length (p ++ w) - n ≡ length p + (length w - n) = omega arith in
    ap (λ (i : ℕ). drop i (p ++ w)) place ∙ drop_front p w (length w - n)

pub suffix_length : (n : ℕ) (w : List ℕ) → n ≤ length w → length (suffix n w) ≡ n
suffix_length n w l = length-drop (length w - n) w ∙ omega arith

pub suffix_ends : (n : ℕ) (w : List ℕ) → take (length w - n) w ++ suffix n w ≡ w
suffix_ends n w = take-append-drop (length w - n) w

-- ---- powers

pub power_long : (n : ℕ) (x : List ℕ) → 0 < length x → n ≤ length (power n x)
power_long zero x l = omega arith
power_long (suc n) x l = let more : length (x ++ power n x) ≡ length x + length (power n x) =
    simp length-append in let rest = power_long n x l in omega arith
