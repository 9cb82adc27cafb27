-- Finitely many states: some word over k letters leads to a state with a property that can be
-- tested, or none does.
use Rattle.std.proofs.Common.{◌≡◌, ◌⊎◌, inl, inr, ℕ, zero, suc, ◌<◌, ◌≤◌, List, [], ◌∷◌, ◌++◌, length, take, drop, refl, sym, ap, subst, ◌∙◌, arith, length-append, length-drop}
use Rattle.std.proofs.lemmas.Bool.{cases_lt}
use Rattle.std.proofs.lemmas.List.{take-append-drop, length-take-le}
use Rattle.language_theory.specs.Words.{Over}
use Rattle.language_theory.specs.Congruence.{moved}
use Rattle.language_theory.proofs.Numbers.{least_or_none, pigeonhole}
use Rattle.language_theory.proofs.Shortlex.{strong_induction, over_append, over_prefix, over_suffix}
use Rattle.language_theory.proofs.Congruences.{moved_append, moved_within}
use Rattle.monoid_theory.proofs.Returns.{first_return, IsFirstReturn}

module _ (k m : ℕ) (image : ℕ → ℕ → ℕ) (within : (p a : ℕ) → p < m → a < k → image p a < m)
    (P : ℕ → Type 0) (tell : (p : ℕ) → P p ⊎ ¬ P p) where
  -- a word of at most n letters leads from p to a state with the property
  abbrev Finds : ℕ → ℕ → Type 0
  Finds n p = (w : List ℕ) × Over k w × (length w ≤ n) × P (moved image p w)

  abbrev FindsNone : ℕ → ℕ → Type 0
  FindsNone n p = (w : List ℕ) → Over k w → length w ≤ n → ¬ P (moved image p w)

  no_letter : (p : ℕ) → ¬ P p → FindsNone 0 p
  no_letter p f [] o l = f
  no_letter p f (a ∷ w) o l = absurd (omega arith)

  one_letter : (n p : ℕ) → ¬ P p → ((a : ℕ) → a < k → ¬ Finds n (image p a)) → FindsNone (suc n) p
  one_letter n p f none [] o l = f
  one_letter n p f none (a ∷ w) o l = λ q. none a o.0 (w, o.1, omega arith, q)

  search_words : (n p : ℕ) → Finds n p ⊎ FindsNone n p
  search_words zero p =
      elim (tell p) [ inl h ↦ inl ([], tt, omega arith, h) | inr f ↦ inr (no_letter p f) ]
  search_words (suc n) p = elim (tell p) [
    | inl h ↦ inl ([], tt, omega arith, h)
    | inr f ↦ elim (least_or_none (λ a. Finds n (image p a))
        (λ a. elim (search_words n (image p a))
        [ inl h ↦ inl h | inr g ↦ inr (λ h. g h.0 h.1 h.2 h.3) ]) k) [
          | inl (a, h, (w, o, l, q), before) ↦ inl (a ∷ w, (h, o), omega arith, q)
          | inr none ↦ inr (one_letter n p f none)
        ]
  ]

  -- a word that is longer than there are states can be shortened
  shorter : (p : ℕ) (w : List ℕ) → p < m → Over k w → m < length w → (v : List ℕ) × Over k v
      × (length v < length w) × (moved image p v ≡ moved image p w)
  shorter p w h o long = by (first_return at m inside)
    where
      at : ℕ → ℕ
      at j = moved image p (take j w)

      prefix : (j : ℕ) → Over k (take j w)
      prefix j = over_prefix k (take j w) (drop j w) (subst (Over k) (sym (take-append-drop j w)) o)

      suffix : (j : ℕ) → Over k (drop j w)
      suffix j = over_suffix k (take j w) (drop j w) (subst (Over k) (sym (take-append-drop j w)) o)

      inside : (j : ℕ) → moved image p (take j w) < m
      inside j = moved_within k m image within p (take j w) h (prefix j)

      by : (i j : ℕ) × IsFirstReturn at i j → (v : List ℕ) × Over k v × (length v < length w)
          × (moved image p v ≡ moved image p w)
      by (i, j, r) = (
        take i w ++ drop j w,
        over_append k (take i w) (drop j w) (prefix i) (suffix j),
        less,
        same,
      )
        where
          few : j ≤ m
          few = pigeonhole j m at (λ n l. inside n) r.distinct

          less : length (take i w ++ drop j w) < length w
          less =
              let a = r.before in let b = few in let c : length (take i w) ≡ i =
              length-take-le i w (omega arith) in simp (length-append, length-drop) (omega arith)

          same : moved image p (take i w ++ drop j w) ≡ moved image p w
          same =
              moved_append image p (take i w) (drop j w)
              ∙ (ap (λ (q : ℕ). moved image q (drop j w)) r.meets
              ∙ (sym (moved_append image p (take j w) (drop j w))
              ∙ ap (moved image p) (take-append-drop j w)))

  short_word : (p : ℕ) → p < m → (n : ℕ) → ((l : ℕ) → l < n → (w : List ℕ) → length w ≡ l → Over k w
      → P (moved image p w) → Finds m p) → (w : List ℕ) → length w ≡ n → Over k w
      → P (moved image p w) → Finds m p
  short_word p h n before w e o q = elim (cases_lt m (length w)) [
    | inl l ↦ (let (v, ov, s, f) = shorter p w h o l in before (length v) (omega arith) v refl ov
        (subst P (sym f) q))
    | inr l ↦ (w, o, l, q)
  ]

  pub found_or_none : (p : ℕ) → p < m → ((w : List ℕ) × Over k w × P (moved image p w))
      ⊎ ((w : List ℕ) → Over k w → ¬ P (moved image p w))
  found_or_none p h = elim (search_words m p) [
    | inl (w, o, l, q) ↦ inl (w, o, q)
    | inr f ↦ inr (λ w o q. let (v, ov, l, r) = strong_induction (λ n. (w : List ℕ) → length w ≡ n
        → Over k w → P (moved image p w) → Finds m p) (short_word p h) (length w) w refl o
        q in f v ov l r)
  ]
