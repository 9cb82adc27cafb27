-- What can begin, follow and end a word that is made of others.
use Rattle.std.proofs.Common.{◌≡◌, ℕ, ◌⊎◌, inl, inr, List, [], ◌∷◌, ◌++◌, refl, sym, subst, append_assoc}
use Rattle.std.proofs.lemmas.List.{append-nil}
use Rattle.expression_theory.specs.Expression.{Concatenation, KleeneStar, nothing, piece}
use Rattle.expression_theory.specs.Positions.{Begins, Follows, Ends}
use Rattle.expression_theory.proofs.Words.{Cut, cut, not_empty, more, Within, within_piece, once_or_none}

-- the language has a word
abbrev pub Some : (List ℕ → Type 0) → Type 0
Some L = (w : List ℕ) × L w

nil_parts : (u v : List ℕ) → u ++ v ≡ [] → (u ≡ []) × (v ≡ [])
nil_parts [] v e = (refl, e)
nil_parts (a ∷ u) v e = cc

-- a word of the star that is not empty has a first piece
pub once : (L : List ℕ → Type 0) (p : ℕ) (u v : List ℕ) → KleeneStar L (u ++ p ∷ v)
    → Concatenation L (KleeneStar L) (u ++ p ∷ v)
once L p u v s = by (once_or_none L (u ++ p ∷ v) s)
  where
    by : (u ++ p ∷ v ≡ []) ⊎ Concatenation L (KleeneStar L) (u ++ p ∷ v)
        → Concatenation L (KleeneStar L) (u ++ p ∷ v)
    by (inl e) = absurd (not_empty p u v e)
    by (inr j) = j

-- a word of the language is one of its star
pub single : (L : List ℕ → Type 0) (w : List ℕ) → L w → KleeneStar L w
single L w h = subst (KleeneStar L) (append-nil w) (more L w [] h nothing)

-- both parts of an empty word are empty
pub empty_joined : (L M : List ℕ → Type 0) → Concatenation L M [] → L [] × M []
empty_joined L M (u, v, h, k, e) = let n = nil_parts u v e in (subst L n.0 h, subst M n.1 k)

-- two empty words make one
pub joined_empty : (L M : List ℕ → Type 0) → L [] × M [] → Concatenation L M []
joined_empty L M (h, k) = ([], [], h, k, refl)

-- beginning
abbrev pub BeginsConcatenation : (L M : List ℕ → Type 0) → ℕ → Type 0
BeginsConcatenation L M p = (Some L × Some M) × (Begins L p ⊎ (L [] × Begins M p))

-- what begins a concatenation
pub begins_joined : (L M : List ℕ → Type 0) (p : ℕ) → Begins (Concatenation L M) p
    → BeginsConcatenation L M p
begins_joined L M p (w, ([], v, h, k, e)) = ((([], h), (v, k)), inr (h, (w, subst M e k)))
begins_joined L M p (w, (a ∷ u, v, h, k, e)) =
    (((a ∷ u, h), (v, k)), inl (u, subst (λ b. L (b ∷ u)) (let f : a ≡ p = cc in f) h))

-- and back
pub joined_begins : (L M : List ℕ → Type 0) (p : ℕ) → BeginsConcatenation L M p
    → Begins (Concatenation L M) p
joined_begins L M p ((x, (y, k)), inl (w, h)) = (w ++ y, (p ∷ w, y, h, k, refl))
joined_begins L M p (some, inr (h, (w, k))) = (w, ([], p ∷ w, h, k, refl))

first_piece : (L : List ℕ → Type 0) (p : ℕ) (w : List ℕ) → KleeneStar L (p ∷ w) → Begins L p
first_piece L p w (piece {u = u} h s) = (u, h)

-- what begins a word of the star begins a piece
pub begins_star : (L : List ℕ → Type 0) (p : ℕ) → Begins (KleeneStar L) p → Begins L p
begins_star L p (w, s) = first_piece L p w s

-- and back
pub star_begins : (L : List ℕ → Type 0) (p : ℕ) → Begins L p → Begins (KleeneStar L) p
star_begins L p (w, h) = (w, single L (p ∷ w) h)

-- end
abbrev pub EndsConcatenation : (L M : List ℕ → Type 0) → ℕ → Type 0
EndsConcatenation L M p = (Some L × Some M) × ((M [] × Ends L p) ⊎ Ends M p)

-- what ends a concatenation
pub ends_joined : (L M : List ℕ → Type 0) (p : ℕ) → Ends (Concatenation L M) p
    → EndsConcatenation L M p
ends_joined L M p (u, (x, y, h, k, e)) = by (cut p x y u [] e)
  where
    by : Cut p x y u [] → EndsConcatenation L M p
    by (inl (z, f, g)) =
        let n = nil_parts z y g in
        (((x, h), (y, k)), inl (subst M n.1 k, (u, subst (λ z. L (u ++ p ∷ z)) n.0 (subst L f h))))
    by (inr (z, f, g)) = (((x, h), (y, k)), inr (z, subst M f k))

-- and back
pub joined_ends : (L M : List ℕ → Type 0) (p : ℕ) → EndsConcatenation L M p
    → Ends (Concatenation L M) p
joined_ends L M p (some, inl (k, (u, h))) = (u, (u ++ p ∷ [], [], h, k, append-nil (u ++ p ∷ [])))
joined_ends L M p (((x, h), y), inr (u, k)) =
    (x ++ u, (x, u ++ p ∷ [], h, k, sym (append_assoc x u (p ∷ []))))

-- what ends a word of the star ends a piece
pub ends_star : (L : List ℕ → Type 0) (p : ℕ) → Ends (KleeneStar L) p → Ends L p
ends_star L p (u, s) = by (within_piece L p (u ++ p ∷ []) u [] refl s)
  where
    by : Within L p u [] → Ends L p
    by (b, x, y, a, sb, l, sa, e, f) = (x, subst (λ y. L (x ++ p ∷ y)) (nil_parts y a f).0 l)

-- and back
pub star_ends : (L : List ℕ → Type 0) (p : ℕ) → Ends L p → Ends (KleeneStar L) p
star_ends L p (u, h) = (u, single L (u ++ p ∷ []) h)

-- following
abbrev pub FollowsConcatenation : (L M : List ℕ → Type 0) → (p q : ℕ) → Type 0
FollowsConcatenation L M p q = (Some L × Some M)
    × ((Follows L p q ⊎ Follows M p q) ⊎ (Ends L p × Begins M q))

-- what follows in a concatenation: inside of a part, or across
pub follows_joined : (L M : List ℕ → Type 0) (p q : ℕ) → Follows (Concatenation L M) p q
    → FollowsConcatenation L M p q
follows_joined L M p q (u, v, (x, y, h, k, e)) = (((x, h), (y, k)), by (cut p x y u (q ∷ v) e))
  where
    by : Cut p x y u (q ∷ v) → (Follows L p q ⊎ Follows M p q) ⊎ (Ends L p × Begins M q)
    by (inl ([], f, g)) = inr ((u, subst L f h), (v, subst M g k))
    by (inl (c ∷ z, f, g)) =
        inl (inl (u, z, subst (λ c. L (u ++ p ∷ (c ∷ z))) (let i : c ≡ q = cc in i) (subst L f h)))
    by (inr (z, f, g)) = inl (inr (z, v, subst M f k))

-- and back
pub joined_follows : (L M : List ℕ → Type 0) (p q : ℕ) → FollowsConcatenation L M p q
    → Follows (Concatenation L M) p q
joined_follows L M p q ((x, (y, k)), inl (inl (u, v, h))) =
    (u, v ++ y, (u ++ p ∷ (q ∷ v), y, h, k, append_assoc u (p ∷ (q ∷ v)) y))
joined_follows L M p q (((x, h), y), inl (inr (u, v, k))) =
    (x ++ u, v, (x, u ++ p ∷ (q ∷ v), h, k, sym (append_assoc x u (p ∷ (q ∷ v)))))
joined_follows L M p q (some, inr ((u, h), (v, k))) =
    (u, v, (u ++ p ∷ [], q ∷ v, h, k, append_assoc u (p ∷ []) (q ∷ v)))

-- inside of a piece, or across two
abbrev pub FollowsStar : (L : List ℕ → Type 0) → (p q : ℕ) → Type 0
FollowsStar L p q = Follows L p q ⊎ (Ends L p × Begins L q)

-- what follows in a word of the star
pub follows_star : (L : List ℕ → Type 0) (p q : ℕ) → Follows (KleeneStar L) p q → FollowsStar L p q
follows_star L p q (u, v, s) = by (within_piece L p (u ++ p ∷ (q ∷ v)) u (q ∷ v) refl s)
  where
    by : Within L p u (q ∷ v) → FollowsStar L p q
    by (b, x, [], a, sb, l, sa, e, f) = inr ((x, l), first_piece L q v (subst (KleeneStar L) f sa))
    by (b, x, c ∷ y, a, sb, l, sa, e, f) =
        inl (x, y, subst (λ c. L (x ++ p ∷ (c ∷ y))) (let i : c ≡ q = cc in i) l)

-- and back
pub star_follows : (L : List ℕ → Type 0) (p q : ℕ) → FollowsStar L p q → Follows (KleeneStar L) p q
star_follows L p q (inl (u, v, h)) = (u, v, single L (u ++ p ∷ (q ∷ v)) h)
star_follows L p q (inr ((u, h), (v, k))) = (
  u,
  v,
  subst (KleeneStar L) (append_assoc u (p ∷ []) (q ∷ v))
      (more L (u ++ p ∷ []) (q ∷ v) h (single L (q ∷ v) k)),
)
