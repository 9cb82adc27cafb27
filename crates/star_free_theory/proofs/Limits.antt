-- What the construction comes to within limits, it comes to without them.
use Rattle.std.proofs.Common.{◌≡◌, ℕ, zero, suc, ◌≤◌, Bool, true, false, eqb, List, [], ◌∷◌, sym}
use Rattle.std.proofs.Common.{subst, ◌∙◌, refl, inl, inr, arith, length, max, Option, Some, None}
use Rattle.std.proofs.lemmas.Bool.{cases_Bool}
use Rattle.star_free_theory.specs.declared.nodes.SfNode.TheVariants as node
use Rattle.star_free_theory.specs.Construction.{done, depth, nodes, Algebra, Outcome, Task, Treating, bind, chosen, construction, count_from, divisor, each, ends, first_task, free, has, has_room, is_none_left, join, join_all, join_finals, join_pairs, nodes, opened, opened_list, opening, or_empty, pairs, place, put, second_task, submonoid, take, treat, treat_ends, treat_first, treat_second, treat_whole, treat_within, when, whole_task, with, without}
use Rattle.star_free_theory.specs.StarFree.{SfNode}

-- where a value comes out of the first, it comes out of the second
pub record Goes {A : Type 0} (o p : Outcome A) : Type 0 where
  pub goes : (r : A) → o ≡ done r → p ≡ done r

goes_self : {A : Type 0} (o : Outcome A) → Goes o o
goes_self o = record { goes = λ r e. e }

goes_bind : {A B : Type 0} (o p : Outcome A) (f g : A → Outcome B) → Goes o p
    → ((r : A) → Goes (f r) (g r)) → Goes (bind o f) (bind p g)
unfolding bind
goes_bind (done a) p f g h i = record
    { goes = λ r e. subst (λ z. bind z g ≡ done r) (sym (h.goes a refl)) ((i a).goes r e) }
goes_bind depth p f g h i = record { goes = λ r e. cc }
goes_bind nodes p f g h i = record { goes = λ r e. cc }

module _ (most : Option ℕ) where
  goes_put : (s : Option ℕ) (xs : List SfNode) (x : SfNode)
      → Goes (put most s xs x) (put None s xs x)
  goes_put (Some n) xs x = goes_self (done (xs, n))
  goes_put None xs x = elim (cases_Bool (has_room most (length xs))) [
    | inl e ↦ rw e (record { goes = λ r f. f })
    | inr e ↦ rw e (record { goes = λ r f. cc })
  ]

  goes_take : (xs : List SfNode) (x : SfNode) → Goes (take most xs x) (take None xs x)
  goes_take xs node.Empty = goes_put (place node.Empty xs) xs node.Empty
  goes_take xs node.Eps = goes_put (place node.Eps xs) xs node.Eps
  goes_take xs (node.Letter a) = goes_put (place (node.Letter a) xs) xs (node.Letter a)
  goes_take xs (node.Not i) = goes_put (place (node.Not i) xs) xs (node.Not i)
  goes_take xs (node.Or i j) = goes_put (place (node.Or i j) xs) xs (node.Or i j)
  goes_take xs (node.Cat i j) = elim (cases_Bool (eqb i 2)) [
    | inl a ↦ rw a (goes_self (done (xs, j)))
    | inr a ↦ elim (cases_Bool (eqb j 2)) [
      | inl b ↦ rw (a, b) (goes_self (done (xs, i)))
      | inr b ↦ rw (a, b) (goes_put (place (node.Cat i j) xs) xs (node.Cat i j))
    ]
  ]
  goes_take xs (node.And i j) = elim (cases_Bool (eqb i 1)) [
    | inl a ↦ rw a (goes_self (done (xs, j)))
    | inr a ↦ rw a (goes_put (place (node.And i j) xs) xs (node.And i j))
  ]

  goes_each : (f g : List SfNode → ℕ → Outcome (List SfNode × ℕ))
      → ((ys : List SfNode) (t : ℕ) → Goes (f ys t) (g ys t))
      → (ts : List ℕ) (E : ℕ → ℕ) (xs : List SfNode) → Goes (each f ts E xs) (each g ts E xs)
  goes_each f g h [] E xs = goes_self (done (xs, E))
  goes_each f g h (t ∷ ts) E xs = goes_bind (f xs t) (g xs t) (λ r. each f ts (with E t r.1) r.0)
      (λ r. each g ts (with E t r.1) r.0) (h xs t) (λ r. goes_each f g h ts (with E t r.1) r.0)

  goes_join : (s : Option ℕ) (xs : List SfNode) (j : ℕ) → Goes (join most s xs j) (join None s xs j)
  goes_join None xs j = goes_self (done (xs, j))
  goes_join (Some i) xs j = goes_take xs (node.Or i j)

  goes_join_pairs : (f g : ℕ → ℕ) (s : Option ℕ) (ps : List (ℕ × ℕ)) (xs : List SfNode)
      → Goes (join_pairs most f g s ps xs) (join_pairs None f g s ps xs)
  goes_join_pairs f g s [] xs = goes_self (done (xs, s))
  goes_join_pairs f g s (p ∷ ps) xs =
      goes_bind (take most xs (node.Cat (f p.0) (g p.1))) (take None xs (node.Cat (f p.0) (g p.1)))
      _ _ (goes_take xs (node.Cat (f p.0) (g p.1)))
      (λ r. goes_bind (join most s r.0 r.1) (join None s r.0 r.1)
      (λ o. join_pairs most f g (Some o.1) ps o.0) (λ o. join_pairs None f g (Some o.1) ps o.0)
      (goes_join s r.0 r.1)
      (λ o. goes_join_pairs f g (Some o.1) ps o.0))

  goes_join_all : (f g : ℕ → ℕ) (s : Option ℕ) (ps : List (ℕ × ℕ)) (xs : List SfNode)
      → Goes (join_all most f g s ps xs) (join_all None f g s ps xs)
  goes_join_all f g s ps xs = goes_bind (join_pairs most f g s ps xs) (join_pairs None f g s ps xs)
      (λ r. done (r.0, or_empty r.1)) (λ r. done (r.0, or_empty r.1)) (goes_join_pairs f g s ps xs)
      (λ r. goes_self (done (r.0, or_empty r.1)))

  goes_free : (b : Bool) (xs : List SfNode) (n u : ℕ)
      → Goes (free most b xs n u) (free None b xs n u)
  goes_free true xs n u = goes_self (done (xs, 2))
  goes_free false xs n u =
      goes_bind (take most xs (node.Cat u n)) (take None xs (node.Cat u n)) _ _
      (goes_take xs (node.Cat u n))
      (λ x. goes_bind (take most x.0 (node.Cat x.1 u)) (take None x.0 (node.Cat x.1 u)) _ _
      (goes_take x.0 (node.Cat x.1 u))
      (λ y. goes_bind (take most y.0 (node.Not y.1)) (take None y.0 (node.Not y.1))
      (λ z. take most z.0 (node.And u z.1)) (λ z. take None z.0 (node.And u z.1))
      (goes_take y.0 (node.Not y.1))
      (λ z. goes_take z.0 (node.And u z.1))))

  goes_opened : (b : Bool) (xs : List SfNode) (n u : ℕ)
      → Goes (opened most b xs n u) (opened None b xs n u)
  goes_opened true xs n u = goes_self (done (xs, u))
  goes_opened false xs n u =
      goes_bind (take most xs (node.Cat n u)) (take None xs (node.Cat n u))
      (λ w. take most w.0 (node.Or w.1 2)) (λ w. take None w.0 (node.Or w.1 2))
      (goes_take xs (node.Cat n u))
      (λ w. goes_take w.0 (node.Or w.1 2))

  module _ (rec more : Treating)
      (h : (ys : List SfNode) (S : Task) → Goes (rec ys S) (more ys S)) where
    goes_first : (xs : List SfNode) (T : Task)
        → Goes (treat_first most rec xs T) (treat_first None more xs T)
    goes_first xs T =
        let flag = is_none_left (without (chosen T) T.letters) in
        goes_bind (free most flag xs (T.node (chosen T)) T.universe)
        (free None flag xs (T.node (chosen T)) T.universe) (λ b. rec b.0 (first_task T b.1))
        (λ b. more b.0 (first_task T b.1)) (goes_free flag xs (T.node (chosen T)) T.universe)
        (λ b. h b.0 (first_task T b.1))

    goes_second : (E : ℕ → ℕ) (xs : List SfNode) (T : Task)
        → Goes (treat_second most rec E xs T) (treat_second None more E xs T)
    goes_second E xs T =
        let flag = is_none_left (without (chosen T) T.letters) in
        let n = T.node (chosen T) in
        let f = λ (ys : List SfNode) (t : ℕ). take most ys (node.Cat n (E t)) in
        let g = λ (ys : List SfNode) (t : ℕ). take None ys (node.Cat n (E t)) in
        goes_bind (opened most flag xs n T.universe) (opened None flag xs n T.universe) _ _
        (goes_opened flag xs n T.universe)
        (λ u. goes_bind (each f (submonoid T) (λ p. 0) u.0) (each g (submonoid T) (λ p. 0) u.0) _ _
        (goes_each f g (λ ys t. goes_take ys (node.Cat n (E t))) (submonoid T) (λ p. 0) u.0)
        (λ b. goes_bind (rec b.0 (second_task T b.1 u.1)) (more b.0 (second_task T b.1 u.1))
        (λ f. done (f.0, (b.1, f.1))) (λ f. done (f.0, (b.1, f.1)))
        (h b.0 (second_task T b.1 u.1))
        (λ f. goes_self (done (f.0, (b.1, f.1))))))

    goes_treat : (xs : List SfNode) (T : Task) → Goes (treat most rec xs T) (treat None more xs T)
    goes_treat xs T =
        goes_bind (treat_first most rec xs T) (treat_first None more xs T) _ _ (goes_first xs T)
        (λ e. goes_bind (treat_second most rec e.1 e.0 T) (treat_second None more e.1 e.0 T) _ _
        (goes_second e.1 e.0 T)
        (λ r. goes_bind (treat_ends most r.1.0 r.1.1 r.0 T) (treat_ends None r.1.0 r.1.1 r.0 T)
        (λ g. treat_whole most e.1 g.1 g.0 T) (λ g. treat_whole None e.1 g.1 g.0 T)
        (goes_each _ _ (λ ys u. goes_join_all r.1.1 r.1.0 None
        (pairs T.product (divisor T) (submonoid T) u) ys)
        (ends T.product (divisor T) (submonoid T) T.elements) (λ p. 0) r.0)
        (λ g. goes_each _ _ (λ ys p. goes_join_all e.1 g.1 (when (has (submonoid T) p) (e.1 p))
        (pairs T.product (submonoid T) (ends T.product (divisor T) (submonoid T) T.elements) p)
        ys) T.elements (λ p. 0) g.0)))

  goes_within : (n m : ℕ) → n ≤ m → (xs : List SfNode) (T : Task)
      → Goes (treat_within most n xs T) (treat_within None m xs T)
  unfolding treat_within
  goes_within zero m l xs T = record { goes = λ r e. cc }
  goes_within (suc n) zero l xs T = absurd (omega arith)
  goes_within (suc n) (suc m) l xs T = elim (cases_Bool (eqb (length T.elements) 1)) [
    | inl q ↦ rw (q, treat_within) (goes_self (done (xs, λ p. T.universe)))
    | inr q ↦ rw (q, treat_within)
        (goes_treat (treat_within most n) (treat_within None m) (goes_within n m (omega arith)) xs
        T)
  ]

  goes_finals : (E : ℕ → ℕ) (ps : List ℕ) (s : Option ℕ) (xs : List SfNode)
      → Goes (join_finals most E ps s xs) (join_finals None E ps s xs)
  goes_finals E [] s xs = goes_self (done (xs, s))
  goes_finals E (p ∷ ps) s xs = goes_bind (join most s xs (E p)) (join None s xs (E p))
      (λ o. join_finals most E ps (Some o.1) o.0) (λ o. join_finals None E ps (Some o.1) o.0)
      (goes_join s xs (E p)) (λ o. goes_finals E ps (Some o.1) o.0)

  pub goes_construction : (n m k : ℕ) (A : Algebra) (finals : List ℕ) → n ≤ m
      → Goes (construction most n k A finals) (construction None m k A finals)
  goes_construction n m k A finals l =
      goes_bind (opened_list most k) (opened_list None k) _ _
      (goes_each (λ ys a. take most ys (node.Letter a)) (λ ys a. take None ys (node.Letter a))
      (λ ys a. goes_take ys (node.Letter a)) (count_from 0 k) (λ a. 0) opening)
      (λ ls. goes_bind (treat_within most n ls.0 (whole_task k A ls.1))
      (treat_within None m ls.0 (whole_task k A ls.1)) _ _
      (goes_within n m l ls.0 (whole_task k A ls.1))
      (λ e. goes_bind (join_finals most e.1 finals None e.0) (join_finals None e.1 finals None e.0)
      (λ r. done (r.0, or_empty r.1)) (λ r. done (r.0, or_empty r.1))
      (goes_finals e.1 finals None e.0)
      (λ r. goes_self (done (r.0, or_empty r.1)))))

-- two lists that come out are one, whatever the limits
pub one_list : (most some : Option ℕ) (n m k : ℕ) (A : Algebra) (finals : List ℕ)
    (r s : List SfNode × ℕ) → construction most n k A finals ≡ done r
    → construction some m k A finals ≡ done s → r ≡ s
one_list most some n m k A finals r s e f =
    let b = max n m in
    let g = (goes_construction most n b k A finals (omega arith)).goes r e in
    let h = (goes_construction some m b k A finals (omega arith)).goes s f in
    let i : done r ≡ done s = sym g ∙ h in
    cc
