-- What may come behind a position does not depend on what came before it.
use Rattle.std.proofs.Common.{◌≡◌, ℕ, ◌+◌, ◌<◌, ◌≤◌, ◌⊎◌, inl, inr, List, [], ◌∷◌, ◌++◌, length, length-append, refl, ap, sym, subst, ◌∙◌, append_assoc, arith}
use Rattle.expression_theory.specs.Expression.{Tree, Zero, One, Letter, Or, Cat, Star, Plus, Opt, Means, Concatenation, KleeneStar}
use Rattle.expression_theory.specs.Positions.{positions, numbered}
use Rattle.expression_theory.proofs.Words.{Cut, cut, not_empty, more, closed, Within, within_piece, once_or_none, from_once}

-- two words that share a position may exchange what stands behind it
abbrev pub Exchanges : (List ℕ → Type 0) → Type 0
Exchanges L = (p : ℕ) (u v x y : List ℕ) → L (u ++ p ∷ v) → L (x ++ p ∷ y) → L (u ++ p ∷ y)

-- all positions of the language's words are from n on and below m
abbrev pub Between : ℕ → ℕ → (List ℕ → Type 0) → Type 0
Between n m L = (p : ℕ) (u v : List ℕ) → L (u ++ p ∷ v) → (n ≤ p) × (p < m)

between_joined : (n k m : ℕ) (L M : List ℕ → Type 0) → n ≤ k → k ≤ m → Between n k L → Between k m M
    → Between n m (Concatenation L M)
between_joined n k m L M nk km hL hM p u v (x, y, hx, hy, e) = by (cut p x y u v e)
  where
    by : Cut p x y u v → (n ≤ p) × (p < m)
    by (inl (z, f, g)) = let b = hL p u z (subst L f hx) in (b.0, omega arith)
    by (inr (z, f, g)) = let b = hM p z v (subst M f hy) in (omega arith, b.1)

between_star : (n m : ℕ) (L : List ℕ → Type 0) → Between n m L → Between n m (KleeneStar L)
between_star n m L hL p u v s = by (within_piece L p (u ++ p ∷ v) u v refl s)
  where
    by : Within L p u v → (n ≤ p) × (p < m)
    by (before, x, y, after, s, l, t, e, f) = hL p x y l

-- the place behind both lists
pub ends_at : (n : ℕ) (a b : List ℕ) → (n + length a) + length b ≡ n + length (a ++ b)
ends_at n a b = omega (arith, length-append a b)

-- the positions of the words are those of the tree
pub between : (n : ℕ) (t : Tree) → Between n (n + length (positions t)) (Means (numbered n t))
between n Zero p u v h = absurd h
between n One p u v h = absurd (not_empty p u v h)
between n (Letter a) p [] v h = let e : p ≡ n = cc in (omega arith, omega arith)
between n (Letter a) p (b ∷ u) v h = absurd (not_empty p u v (cc))
between n (Or s t) p u v (inl h) = let b = between n s p u v h in
    (b.0, omega (arith, length-append (positions s) (positions t)))
between n (Or s t) p u v (inr h) = let b = between (n + length (positions s)) t p u v h in
    (omega arith, omega (arith, length-append (positions s) (positions t)))
between n (Cat s t) p u v h =
    between_joined n (n + length (positions s)) (n + length (positions s ++ positions t))
    (Means (numbered n s)) (Means (numbered (n + length (positions s)) t))
    (omega arith) (omega (arith, length-append (positions s) (positions t))) (between n s)
    (subst (λ m. Between (n + length (positions s)) m
    (Means (numbered (n + length (positions s)) t))) (ends_at n (positions s) (positions t))
    (between (n + length (positions s)) t))
    p u v h
between n (Star t) p u v h = between_star n (n + length (positions t)) (Means (numbered n t))
    (between n t) p u v h
between n (Plus t) p u v h =
    between_star n (n + length (positions t)) (Means (numbered n t)) (between n t) p u v
    (from_once (Means (numbered n t)) (u ++ p ∷ v) h)
between n (Opt t) p u v (inl h) = absurd (not_empty p u v h)
between n (Opt t) p u v (inr h) = between n t p u v h

-- the two languages have no position in common
abbrev pub Apart : (L M : List ℕ → Type 0) → Type 0
Apart L M = (p : ℕ) (u v x y : List ℕ) → L (u ++ p ∷ v) → M (x ++ p ∷ y) → ⊥

joined_exchanges : (L M : List ℕ → Type 0) → Exchanges L → Exchanges M → Apart L M
    → Exchanges (Concatenation L M)
joined_exchanges L M hL hM apart p u v x y (a, b, ha, hb, e) (c, d, hc, hd, e') =
    by (cut p a b u v e) (cut p c d x y e')
  where
    by : Cut p a b u v → Cut p c d x y → Concatenation L M (u ++ p ∷ y)
    by (inl (z, f, g)) (inl (z', f', g')) = (
      u ++ p ∷ z',
      d,
      hL p u z x z' (subst L f ha) (subst L f' hc),
      hd,
      append_assoc u (p ∷ z') d
          ∙ ap (λ w. u ++ p ∷ w) g',
    )
    by (inl (z, f, g)) (inr (z', f', g')) = absurd (apart p u z z' y (subst L f ha) (subst M f' hd))
    by (inr (z, f, g)) (inl (z', f', g')) = absurd (apart p x z' z v (subst L f' hc) (subst M f hb))
    by (inr (z, f, g)) (inr (z', f', g')) = (
      a,
      z ++ p ∷ y,
      ha,
      hM p z v z' y (subst M f hb) (subst M f' hd),
      sym (append_assoc a z (p ∷ y)) ∙ ap (λ w. w ++ p ∷ y) g,
    )

star_exchanges : (L : List ℕ → Type 0) → Exchanges L → Exchanges (KleeneStar L)
star_exchanges L hL p u v x y s s' = by (within_piece L p (u ++ p ∷ v) u v refl s)
    (within_piece L p (x ++ p ∷ y) x y refl s')
  where
    by : Within L p u v → Within L p x y → KleeneStar L (u ++ p ∷ y)
    by (b, c, d, a, sb, l, sa, e, f) (b', c', d', a', sb', l', sa', e', f') =
        let joined : KleeneStar L (b ++ ((c ++ p ∷ d') ++ a')) =
        closed L b ((c ++ p ∷ d') ++ a') sb
        (more L (c ++ p ∷ d') a' (hL p c d c' d' l l') sa') in
        subst (KleeneStar L) (ap (λ w. b ++ w) (append_assoc c (p ∷ d') a')
        ∙ sym (append_assoc b c (p ∷ (d' ++ a'))) ∙ ap (λ w. w ++ p ∷ (d' ++ a')) e
        ∙ ap (λ w. u ++ p ∷ w) f') joined

apart : (n : ℕ) (s t : Tree)
    → Apart (Means (numbered n s)) (Means (numbered (n + length (positions s)) t))
apart n s t p u v x y h h' = let b = between n s p u v h in
    let c = between (n + length (positions s)) t p x y h' in omega arith

once_exchanges : (L : List ℕ → Type 0) → Exchanges (KleeneStar L)
    → Exchanges (Concatenation L (KleeneStar L))
once_exchanges L hL p u v x y h h' =
    by (once_or_none L (u ++ p ∷ y)
    (hL p u v x y (from_once L (u ++ p ∷ v) h) (from_once L (x ++ p ∷ y) h')))
  where
    by : (u ++ p ∷ y ≡ []) ⊎ Concatenation L (KleeneStar L) (u ++ p ∷ y)
        → Concatenation L (KleeneStar L) (u ++ p ∷ y)
    by (inl e) = absurd (not_empty p u y e)
    by (inr j) = j

letter_exchanges : (a p : ℕ) (u v x y : List ℕ) → u ++ p ∷ v ≡ a ∷ [] → x ++ p ∷ y ≡ a ∷ []
    → u ++ p ∷ y ≡ a ∷ []
letter_exchanges a p [] v [] y e f = f
letter_exchanges a p (b ∷ u) v x y e f = absurd (not_empty p u v (cc))
letter_exchanges a p u v (b ∷ x) y e f = absurd (not_empty p x y (cc))

-- the words of a tree with numbered positions exchange
pub exchanges : (n : ℕ) (t : Tree) → Exchanges (Means (numbered n t))
exchanges n Zero p u v x y h h' = h
exchanges n One p u v x y h h' = absurd (not_empty p u v h)
exchanges n (Letter a) p u v x y h h' = letter_exchanges n p u v x y h h'
exchanges n (Or s t) p u v x y (inl h) (inl h') = inl (exchanges n s p u v x y h h')
exchanges n (Or s t) p u v x y (inr h) (inr h') =
    inr (exchanges (n + length (positions s)) t p u v x y h h')
exchanges n (Or s t) p u v x y (inl h) (inr h') = absurd (apart n s t p u v x y h h')
exchanges n (Or s t) p u v x y (inr h) (inl h') = absurd (apart n s t p x y u v h' h)
exchanges n (Cat s t) p u v x y h h' =
    joined_exchanges (Means (numbered n s)) (Means (numbered (n + length (positions s)) t))
    (exchanges n s) (exchanges (n + length (positions s)) t) (apart n s t) p u v x y h h'
exchanges n (Star t) p u v x y h h' = star_exchanges (Means (numbered n t))
    (exchanges n t) p u v x y h h'
exchanges n (Plus t) p u v x y h h' =
    once_exchanges (Means (numbered n t)) (star_exchanges (Means (numbered n t)) (exchanges n t)) p
    u v x y h h'
exchanges n (Opt t) p u v x y (inl h) h' = absurd (not_empty p u v h)
exchanges n (Opt t) p u v x y (inr h) (inl h') = absurd (not_empty p x y h')
exchanges n (Opt t) p u v x y (inr h) (inr h') = inr (exchanges n t p u v x y h h')
