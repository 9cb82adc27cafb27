-- What each step of the construction keeps: what holds of a list, and goes on to hold where a node is
-- put behind it of which a letter is one of k, holds of each list that comes out.
use Rattle.std.proofs.Common.{◌≡◌, ℕ, zero, suc, ◌<◌, ◌++◌, Bool, true, false, eqb, List, [], ◌∷◌, inl, inr, refl, arith, length, Option, Some, None}
use Rattle.std.proofs.lemmas.Bool.{cases_Bool}
use Rattle.star_free_theory.specs.declared.nodes.SfNode.{SfNode}
use Rattle.star_free_theory.specs.declared.nodes.SfNode.TheVariants as node
use Rattle.star_free_theory.specs.Instance.{Among}
use Rattle.star_free_theory.specs.Construction.{done, Algebra, Outcome, Task, Treating, bind, chosen, construction, count_from, divisor, each, ends, first_task, free, has, has_room, is_none_left, join, join_all, join_finals, join_pairs, opened, opened_list, opening, or_empty, pairs, place, put, second_task, submonoid, take as taking, treat, treat_ends, treat_first, treat_second, treat_whole, treat_within, when, whole_task, with, without}
use Rattle.star_free_theory.proofs.Gives.{Gives, gives_bind, gives_done}
use Rattle.star_free_theory.proofs.Whole.{among_count}

-- a letter is one of k
abbrev pub IsLetterBelow : ℕ → SfNode → Type 0
IsLetterBelow k (node.Letter a) = a < k
IsLetterBelow k node.Empty = Unit {0}
IsLetterBelow k node.Eps = Unit {0}
IsLetterBelow k (node.Not i) = Unit {0}
IsLetterBelow k (node.Cat i j) = Unit {0}
IsLetterBelow k (node.Or i j) = Unit {0}
IsLetterBelow k (node.And i j) = Unit {0}

module _ (k : ℕ) (m : Option ℕ) (Q : List SfNode → Type 0)
    (push : (xs : List SfNode) (x : SfNode) → IsLetterBelow k x → place x xs ≡ None
    → has_room m (length xs) ≡ true → Q xs → Q (xs ++ x ∷ [])) where
  -- what comes out has what the lists have
  abbrev Keeps : {A : Type 0} → Outcome (List SfNode × A) → Type 0
  Keeps o = Gives ⊥ o (λ r. Q r.0)

  kept_done : {A : Type 0} (r : List SfNode × A) → Q r.0 → Keeps (done r)
  kept_done r l = gives_done ⊥ r (λ z. Q z.0) l

  kept_bind : {A B : Type 0} (o : Outcome (List SfNode × A))
      (f : List SfNode × A → Outcome (List SfNode × B)) → Keeps o
      → ((r : List SfNode × A) → Q r.0 → Keeps (f r)) → Keeps (bind o f)
  kept_bind o f h i = gives_bind ⊥ o f (λ r. Q r.0) (λ r. Q r.0) h i

  kept_put : (s : Option ℕ) (xs : List SfNode) (x : SfNode) → place x xs ≡ s → IsLetterBelow k x
      → Q xs → Keeps (put m s xs x)
  kept_put (Some n) xs x p f l = kept_done (xs, n) l
  kept_put None xs x p f l = elim (cases_Bool (has_room m (length xs))) [
    | inl e ↦ rw e (kept_done (xs ++ x ∷ [], length xs) (push xs x f p e l))
    | inr e ↦ rw e (record { right = λ r f. cc; there = λ n. absurd n })
  ]

  kept_take : (xs : List SfNode) (x : SfNode) → IsLetterBelow k x → Q xs → Keeps (taking m xs x)
  kept_take xs node.Empty f l = kept_put (place node.Empty xs) xs node.Empty refl f l
  kept_take xs node.Eps f l = kept_put (place node.Eps xs) xs node.Eps refl f l
  kept_take xs (node.Letter a) f l = kept_put (place (node.Letter a) xs) xs (node.Letter a) refl f l
  kept_take xs (node.Not i) f l = kept_put (place (node.Not i) xs) xs (node.Not i) refl f l
  kept_take xs (node.Or i j) f l = kept_put (place (node.Or i j) xs) xs (node.Or i j) refl f l
  kept_take xs (node.Cat i j) f l = elim (cases_Bool (eqb i 2)) [
    | inl e ↦ rw e (kept_done (xs, j) l)
    | inr e ↦ elim (cases_Bool (eqb j 2)) [
      | inl g ↦ rw (e, g) (kept_done (xs, i) l)
      | inr g ↦ rw (e, g) (kept_put (place (node.Cat i j) xs) xs (node.Cat i j) refl f l)
    ]
  ]
  kept_take xs (node.And i j) f l = elim (cases_Bool (eqb i 1)) [
    | inl e ↦ rw e (kept_done (xs, j) l)
    | inr e ↦ rw e (kept_put (place (node.And i j) xs) xs (node.And i j) refl f l)
  ]

  kept_each : (f : List SfNode → ℕ → Outcome (List SfNode × ℕ)) (ts : List ℕ)
      → ((ys : List SfNode) (t : ℕ) → Among ts t → Q ys → Keeps (f ys t)) → (E : ℕ → ℕ)
      (xs : List SfNode) → Q xs → Keeps (each f ts E xs)
  kept_each f [] h E xs l = kept_done (xs, E) l
  kept_each f (t ∷ ts) h E xs l =
      kept_bind (f xs t) (λ r. each f ts (with E t r.1) r.0) (h xs t (inl refl) l)
      (λ r k. kept_each f ts (λ ys u i. h ys u (inr i)) (with E t r.1) r.0 k)

  kept_join : (s : Option ℕ) (xs : List SfNode) (j : ℕ) → Q xs → Keeps (join m s xs j)
  kept_join None xs j l = kept_done (xs, j) l
  kept_join (Some i) xs j l = kept_take xs (node.Or i j) tt l

  kept_join_pairs : (f g : ℕ → ℕ) (s : Option ℕ) (ps : List (ℕ × ℕ)) (xs : List SfNode) → Q xs
      → Keeps (join_pairs m f g s ps xs)
  kept_join_pairs f g s [] xs l = kept_done (xs, s) l
  kept_join_pairs f g s (p ∷ ps) xs l =
      kept_bind (taking m xs (node.Cat (f p.0) (g p.1)))
      (λ r. bind (join m s r.0 r.1) (λ o. join_pairs m f g (Some o.1) ps o.0))
      (kept_take xs (node.Cat (f p.0) (g p.1)) tt l)
      (λ r k. kept_bind (join m s r.0 r.1) (λ o. join_pairs m f g (Some o.1) ps o.0)
      (kept_join s r.0 r.1 k) (λ o n. kept_join_pairs f g (Some o.1) ps o.0 n))

  kept_join_all : (f g : ℕ → ℕ) (s : Option ℕ) (ps : List (ℕ × ℕ)) (xs : List SfNode) → Q xs
      → Keeps (join_all m f g s ps xs)
  kept_join_all f g s ps xs l =
      kept_bind (join_pairs m f g s ps xs) (λ r. done (r.0, or_empty r.1))
      (kept_join_pairs f g s ps xs l) (λ r k. kept_done (r.0, or_empty r.1) k)

  kept_free : (alone : Bool) (xs : List SfNode) (n u : ℕ) → Q xs → Keeps (free m alone xs n u)
  kept_free true xs n u l = kept_done (xs, 2) l
  kept_free false xs n u l =
      kept_bind (taking m xs (node.Cat u n))
      (λ x. bind (taking m x.0 (node.Cat x.1 u))
      (λ y. bind (taking m y.0 (node.Not y.1)) (λ z. taking m z.0 (node.And u z.1))))
      (kept_take xs (node.Cat u n) tt l)
      (λ x kx. kept_bind (taking m x.0 (node.Cat x.1 u))
      (λ y. bind (taking m y.0 (node.Not y.1)) (λ z. taking m z.0 (node.And u z.1)))
      (kept_take x.0 (node.Cat x.1 u) tt kx)
      (λ y ky. kept_bind (taking m y.0 (node.Not y.1)) (λ z. taking m z.0 (node.And u z.1))
      (kept_take y.0 (node.Not y.1) tt ky) (λ z kz. kept_take z.0 (node.And u z.1) tt kz)))

  kept_opened : (alone : Bool) (xs : List SfNode) (n u : ℕ) → Q xs → Keeps (opened m alone xs n u)
  kept_opened true xs n u l = kept_done (xs, u) l
  kept_opened false xs n u l =
      kept_bind (taking m xs (node.Cat n u)) (λ w. taking m w.0 (node.Or w.1 2))
      (kept_take xs (node.Cat n u) tt l) (λ w k. kept_take w.0 (node.Or w.1 2) tt k)

  module _ (rec : Treating) (h : (ys : List SfNode) (S : Task) → Q ys → Keeps (rec ys S))
      (T : Task) where
    abbrev alone : Bool
    alone = is_none_left (without (chosen T) T.letters)

    abbrev letter : ℕ
    letter = T.node (chosen T)

    kept_first : (xs : List SfNode) → Q xs → Keeps (treat_first m rec xs T)
    kept_first xs l =
        kept_bind (free m alone xs letter T.universe) (λ u. rec u.0 (first_task T u.1))
        (kept_free alone xs letter T.universe l) (λ u k. h u.0 (first_task T u.1) k)

    kept_second : (E : ℕ → ℕ) (xs : List SfNode) → Q xs → Keeps (treat_second m rec E xs T)
    kept_second E xs l =
        let f : List SfNode → ℕ → Outcome (List SfNode × ℕ) =
        λ ys t. taking m ys (node.Cat letter (E t)) in
        kept_bind (opened m alone xs letter T.universe)
        (λ u. bind (each f (submonoid T) (λ p. 0) u.0)
        (λ c. bind (rec c.0 (second_task T c.1 u.1)) (λ d. done (d.0, (c.1, d.1)))))
        (kept_opened alone xs letter T.universe l)
        (λ u ku. kept_bind (each f (submonoid T) (λ p. 0) u.0)
        (λ c. bind (rec c.0 (second_task T c.1 u.1)) (λ d. done (d.0, (c.1, d.1))))
        (kept_each f (submonoid T) (λ ys t i k. kept_take ys (node.Cat letter (E t)) tt k)
        (λ p. 0) u.0 ku)
        (λ c kc. kept_bind (rec c.0 (second_task T c.1 u.1)) (λ d. done (d.0, (c.1, d.1)))
        (h c.0 (second_task T c.1 u.1) kc) (λ d kd. kept_done (d.0, (c.1, d.1)) kd)))

    kept_ends : (B F : ℕ → ℕ) (xs : List SfNode) → Q xs → Keeps (treat_ends m B F xs T)
    kept_ends B F xs l =
        kept_each
        (λ ys u. join_all m F B None (pairs T.product (divisor T) (submonoid T) u) ys)
        (ends T.product (divisor T) (submonoid T) T.elements)
        (λ ys u i k. kept_join_all F B None (pairs T.product (divisor T) (submonoid T) u) ys k)
        (λ p. 0) xs l

    abbrev whole : ℕ → List (ℕ × ℕ)
    whole p = pairs T.product (submonoid T)
        (ends T.product (divisor T) (submonoid T) T.elements) p

    kept_whole : (E G : ℕ → ℕ) (xs : List SfNode) → Q xs → Keeps (treat_whole m E G xs T)
    kept_whole E G xs l =
        kept_each (λ ys p. join_all m E G (when (has (submonoid T) p) (E p)) (whole p) ys)
        T.elements
        (λ ys p i k. kept_join_all E G (when (has (submonoid T) p) (E p)) (whole p) ys k)
        (λ p. 0) xs l

    kept_treat : (xs : List SfNode) → Q xs → Keeps (treat m rec xs T)
    kept_treat xs l =
        kept_bind (treat_first m rec xs T)
        (λ e. bind (treat_second m rec e.1 e.0 T)
        (λ r. bind (treat_ends m r.1.0 r.1.1 r.0 T) (λ g. treat_whole m e.1 g.1 g.0 T)))
        (kept_first xs l)
        (λ e ke. kept_bind (treat_second m rec e.1 e.0 T)
        (λ r. bind (treat_ends m r.1.0 r.1.1 r.0 T) (λ g. treat_whole m e.1 g.1 g.0 T))
        (kept_second e.1 e.0 ke)
        (λ r kr. kept_bind (treat_ends m r.1.0 r.1.1 r.0 T) (λ g. treat_whole m e.1 g.1 g.0 T)
        (kept_ends r.1.0 r.1.1 r.0 kr) (λ g kg. kept_whole e.1 g.1 g.0 kg)))

  kept_within : (n : ℕ) (xs : List SfNode) (T : Task) → Q xs → Keeps (treat_within m n xs T)
  unfolding treat_within
  kept_within zero xs T l = record { right = λ r e. cc; there = λ k. absurd k }
  kept_within (suc n) xs T l = elim (cases_Bool (eqb (length T.elements) 1)) [
    | inl q ↦ rw (q, treat_within) (kept_done (xs, λ p. T.universe) l)
    | inr q ↦ rw (q, treat_within) (kept_treat (treat_within m n) (kept_within n) T xs l)
  ]

  kept_finals : (E : ℕ → ℕ) (ps : List ℕ) (s : Option ℕ) (xs : List SfNode) → Q xs
      → Keeps (join_finals m E ps s xs)
  kept_finals E [] s xs l = kept_done (xs, s) l
  kept_finals E (p ∷ ps) s xs l =
      kept_bind (join m s xs (E p)) (λ o. join_finals m E ps (Some o.1) o.0)
      (kept_join s xs (E p) l) (λ o k. kept_finals E ps (Some o.1) o.0 k)

  letters_taken : Q opening → Keeps (opened_list m k)
  letters_taken o =
      kept_each (λ ys a. taking m ys (node.Letter a)) (count_from 0 k)
      (λ ys a i l. kept_take ys (node.Letter a)
      (let b = (among_count 0 k a i).1 in omega (arith, b)) l) (λ a. 0) opening o

  pub kept_construction : (n : ℕ) (A : Algebra) (finals : List ℕ) → Q opening
      → (r : List SfNode × ℕ) → construction m n k A finals ≡ done r → Q r.0
  kept_construction n A finals o = all.right
    where
      all : Keeps (construction m n k A finals)
      all = kept_bind (opened_list m k)
          (λ ls. bind (treat_within m n ls.0 (whole_task k A ls.1))
          (λ e. bind (join_finals m e.1 finals None e.0) (λ r. done (r.0, or_empty r.1))))
          (letters_taken o)
          (λ ls kl. kept_bind (treat_within m n ls.0 (whole_task k A ls.1))
          (λ e. bind (join_finals m e.1 finals None e.0) (λ r. done (r.0, or_empty r.1)))
          (kept_within n ls.0 (whole_task k A ls.1) kl)
          (λ e ke. kept_bind (join_finals m e.1 finals None e.0) (λ r. done (r.0, or_empty r.1))
          (kept_finals e.1 finals None e.0 ke) (λ r kr. kept_done (r.0, or_empty r.1) kr)))
