-- The functions of the tree compute what can begin, follow and end.
use Rattle.std.proofs.Common.{◌≡◌, ℕ, Bool, true, false, cond, ◌&&◌, ◌||◌, ◌==◌, ◌⊎◌, inl, inr, List, [], ◌∷◌, ◌++◌, refl, ap, sym, ◌∙◌}
use Rattle.std.specs.Bool.{Decides}
use Rattle.std.proofs.lemmas.Bool.Decides.{Decides-at, Decides-like, Decides-and, Decides-or, Decides-eqb}
use Rattle.std.proofs.lemmas.List.Folds.{list_any-append}
use Rattle.expression_theory.specs.Expression.{Tree, Zero, One, Letter, Or, Cat, Star, Plus, Opt, Means, KleeneStar, nothing}
use Rattle.expression_theory.specs.Positions.{Begins, Follows, Ends}
use Rattle.expression_theory.specs.FirstLast.{has_word, has_empty, firsts, lasts, has, follows}
use Rattle.expression_theory.proofs.Words.{not_empty, from_once}
use Rattle.expression_theory.proofs.Parts.{Some, once, single, empty_joined, joined_empty, begins_joined, joined_begins, begins_star, star_begins, ends_joined, joined_ends, ends_star, star_ends, follows_joined, joined_follows, FollowsStar, follows_star, star_follows}

has_append : (xs ys : List ℕ) (p : ℕ) → has (xs ++ ys) p ≡ (has xs p || has ys p)
has_append xs ys p = list_any-append (λ x. x == p) xs ys

has_cond : (b : Bool) (xs : List ℕ) (p : ℕ) → has (cond b xs []) p ≡ (b && has xs p)
has_cond true xs p = refl
has_cond false xs p = refl

has_cat_firsts : (b e : Bool) (xs ys : List ℕ) (p : ℕ)
    → has (cond b (xs ++ cond e ys []) []) p ≡ (b && (has xs p || (e && has ys p)))
has_cat_firsts true e xs ys p = has_append xs (cond e ys []) p
    ∙ ap (λ r. has xs p || r) (has_cond e ys p)
has_cat_firsts false e xs ys p = refl

has_cat_lasts : (b e : Bool) (xs ys : List ℕ) (p : ℕ)
    → has (cond b (cond e xs [] ++ ys) []) p ≡ (b && ((e && has xs p) || has ys p))
has_cat_lasts true e xs ys p = has_append (cond e xs []) ys p
    ∙ ap (λ r. r || has ys p) (has_cond e xs p)
has_cat_lasts false e xs ys p = refl

decides_true : {P : Type 0} → P → Decides true P
decides_true p = (λ e. p, λ q. refl)

decides_false : {P : Type 0} → (P → ⊥) → Decides false P
decides_false h = (λ e. absurd (let f : true ≡ false = sym e in cc), λ q. absurd (h q))

-- whether the language has a word
pub has_word_decides : (t : Tree) → Decides (has_word t) (Some (Means t))
has_word_decides Zero = decides_false (λ (w, h). h)
has_word_decides One = decides_true ([], refl)
has_word_decides (Letter a) = decides_true (a ∷ [], refl)
has_word_decides (Or s t) = Decides-like (has_word s || has_word t) to from
    (Decides-or (has_word s) (has_word t) (has_word_decides s) (has_word_decides t))
  where
    to : Some (Means s) ⊎ Some (Means t) → Some (Means (Or s t))
    to (inl (w, h)) = (w, inl h)
    to (inr (w, h)) = (w, inr h)

    from : Some (Means (Or s t)) → Some (Means s) ⊎ Some (Means t)
    from (w, inl h) = inl (w, h)
    from (w, inr h) = inr (w, h)
has_word_decides (Cat s t) = Decides-like (has_word s && has_word t) to from
    (Decides-and (has_word s) (has_word t) (has_word_decides s) (has_word_decides t))
  where
    to : Some (Means s) × Some (Means t) → Some (Means (Cat s t))
    to ((u, h), (v, k)) = (u ++ v, (u, v, h, k, refl))

    from : Some (Means (Cat s t)) → Some (Means s) × Some (Means t)
    from (w, (u, v, h, k, e)) = ((u, h), (v, k))
has_word_decides (Star t) = decides_true ([], nothing)
has_word_decides (Plus t) = Decides-like (has_word t) to from (has_word_decides t)
  where
    to : Some (Means t) → Some (Means (Plus t))
    to (u, h) = (u ++ [], (u, [], h, nothing, refl))

    from : Some (Means (Plus t)) → Some (Means t)
    from (w, (u, v, h, k, e)) = (u, h)
has_word_decides (Opt t) = decides_true ([], inl refl)

-- whether the language has the empty word
pub has_empty_decides : (t : Tree) → Decides (has_empty t) (Means t [])
has_empty_decides Zero = decides_false (λ h. h)
has_empty_decides One = decides_true refl
has_empty_decides (Letter a) = decides_false (λ e. cc)
has_empty_decides (Or s t) = Decides-or (has_empty s) (has_empty t) (has_empty_decides s)
    (has_empty_decides t)
has_empty_decides (Cat s t) =
    Decides-like (has_empty s && has_empty t) (joined_empty (Means s) (Means t))
    (empty_joined (Means s) (Means t))
    (Decides-and (has_empty s) (has_empty t) (has_empty_decides s) (has_empty_decides t))
has_empty_decides (Star t) = decides_true nothing
has_empty_decides (Plus t) =
    Decides-like (has_empty t) (λ h. ([], [], h, nothing, refl))
    (λ j. (empty_joined (Means t) (KleeneStar (Means t)) j).0) (has_empty_decides t)
has_empty_decides (Opt t) = decides_true (inl refl)

both_decide : (s t : Tree) → Decides (has_word s && has_word t) (Some (Means s) × Some (Means t))
both_decide s t = Decides-and (has_word s) (has_word t) (has_word_decides s) (has_word_decides t)

letter_decides : (a p : ℕ) (P : Type 0) → (a ≡ p → P) → (P → a ≡ p) → Decides ((a == p) || false) P
letter_decides a p P to from = Decides-like ((a == p) || false) by inl_of
    (Decides-or (a == p) false (Decides-eqb a p) (decides_false {P = ⊥} (λ h. h)))
  where
    by : (a ≡ p) ⊎ ⊥ → P
    by (inl e) = to e
    by (inr h) = absurd h

    inl_of : P → (a ≡ p) ⊎ ⊥
    inl_of h = inl (from h)

-- what can begin a word
pub firsts_decide : (t : Tree) (p : ℕ) → Decides (has (firsts t) p) (Begins (Means t) p)
firsts_decide Zero p = decides_false (λ (w, h). h)
firsts_decide One p = decides_false (λ (w, e). cc)
firsts_decide (Letter a) p = letter_decides a p (Begins (Means (Letter a)) p)
    (λ e. ([], ap (λ b. b ∷ []) (sym e))) (λ (w, e). cc)
firsts_decide (Or s t) p =
    Decides-at (has (firsts s ++ firsts t) p) (has (firsts s) p || has (firsts t) p)
    (has_append (firsts s) (firsts t) p)
    (Decides-like (has (firsts s) p || has (firsts t) p) to from
    (Decides-or (has (firsts s) p) (has (firsts t) p) (firsts_decide s p) (firsts_decide t p)))
  where
    to : Begins (Means s) p ⊎ Begins (Means t) p → Begins (Means (Or s t)) p
    to (inl (w, h)) = (w, inl h)
    to (inr (w, h)) = (w, inr h)

    from : Begins (Means (Or s t)) p → Begins (Means s) p ⊎ Begins (Means t) p
    from (w, inl h) = inl (w, h)
    from (w, inr h) = inr (w, h)
firsts_decide (Cat s t) p =
    let some = has_word s && has_word t in
    let early = has_empty s && has (firsts t) p in
    Decides-at (has (firsts (Cat s t)) p) (some && (has (firsts s) p || early))
    (has_cat_firsts some (has_empty s) (firsts s) (firsts t) p)
    (Decides-like (some && (has (firsts s) p || early)) (joined_begins (Means s) (Means t) p)
    (begins_joined (Means s) (Means t) p)
    (Decides-and some (has (firsts s) p || early) (both_decide s t)
    (Decides-or (has (firsts s) p) early (firsts_decide s p)
    (Decides-and (has_empty s) (has (firsts t) p) (has_empty_decides s) (firsts_decide t p)))))
firsts_decide (Star t) p = Decides-like (has (firsts t) p) (star_begins (Means t) p)
    (begins_star (Means t) p) (firsts_decide t p)
firsts_decide (Plus t) p = Decides-like (has (firsts t) p) to from (firsts_decide t p)
  where
    to : Begins (Means t) p → Begins (Means (Plus t)) p
    to (w, h) = (w, once (Means t) p [] w (single (Means t) (p ∷ w) h))

    from : Begins (Means (Plus t)) p → Begins (Means t) p
    from (w, h) = begins_star (Means t) p (w, from_once (Means t) (p ∷ w) h)
firsts_decide (Opt t) p = Decides-like (has (firsts t) p) to from (firsts_decide t p)
  where
    to : Begins (Means t) p → Begins (Means (Opt t)) p
    to (w, h) = (w, inr h)

    from : Begins (Means (Opt t)) p → Begins (Means t) p
    from (w, inl e) = absurd (not_empty p [] w e)
    from (w, inr h) = (w, h)

-- what can end a word
pub lasts_decide : (t : Tree) (p : ℕ) → Decides (has (lasts t) p) (Ends (Means t) p)
lasts_decide Zero p = decides_false (λ (w, h). h)
lasts_decide One p = decides_false (λ (w, e). not_empty p w [] e)
lasts_decide (Letter a) p = letter_decides a p (Ends (Means (Letter a)) p)
    (λ e. ([], ap (λ b. b ∷ []) (sym e))) from
  where
    from : Ends (Means (Letter a)) p → a ≡ p
    from ([], e) = cc
    from (b ∷ u, e) = absurd (not_empty p u [] (cc))
lasts_decide (Or s t) p =
    Decides-at (has (lasts s ++ lasts t) p) (has (lasts s) p || has (lasts t) p)
    (has_append (lasts s) (lasts t) p)
    (Decides-like (has (lasts s) p || has (lasts t) p) to from
    (Decides-or (has (lasts s) p) (has (lasts t) p) (lasts_decide s p) (lasts_decide t p)))
  where
    to : Ends (Means s) p ⊎ Ends (Means t) p → Ends (Means (Or s t)) p
    to (inl (w, h)) = (w, inl h)
    to (inr (w, h)) = (w, inr h)

    from : Ends (Means (Or s t)) p → Ends (Means s) p ⊎ Ends (Means t) p
    from (w, inl h) = inl (w, h)
    from (w, inr h) = inr (w, h)
lasts_decide (Cat s t) p =
    let some = has_word s && has_word t in
    let late = has_empty t && has (lasts s) p in
    Decides-at (has (lasts (Cat s t)) p) (some && (late || has (lasts t) p))
    (has_cat_lasts some (has_empty t) (lasts s) (lasts t) p)
    (Decides-like (some && (late || has (lasts t) p)) (joined_ends (Means s) (Means t) p)
    (ends_joined (Means s) (Means t) p)
    (Decides-and some (late || has (lasts t) p) (both_decide s t)
    (Decides-or late (has (lasts t) p)
    (Decides-and (has_empty t) (has (lasts s) p) (has_empty_decides t) (lasts_decide s p))
    (lasts_decide t p))))
lasts_decide (Star t) p = Decides-like (has (lasts t) p) (star_ends (Means t) p)
    (ends_star (Means t) p) (lasts_decide t p)
lasts_decide (Plus t) p = Decides-like (has (lasts t) p) to from (lasts_decide t p)
  where
    to : Ends (Means t) p → Ends (Means (Plus t)) p
    to (u, h) = (u, once (Means t) p u [] (single (Means t) (u ++ p ∷ []) h))

    from : Ends (Means (Plus t)) p → Ends (Means t) p
    from (u, h) = ends_star (Means t) p (u, from_once (Means t) (u ++ p ∷ []) h)
lasts_decide (Opt t) p = Decides-like (has (lasts t) p) to from (lasts_decide t p)
  where
    to : Ends (Means t) p → Ends (Means (Opt t)) p
    to (u, h) = (u, inr h)

    from : Ends (Means (Opt t)) p → Ends (Means t) p
    from (u, inl e) = absurd (not_empty p u [] e)
    from (u, inr h) = (u, h)

ends_begins : (s t : Tree) (p q : ℕ)
    → Decides (has (lasts s) p && has (firsts t) q) (Ends (Means s) p × Begins (Means t) q)
ends_begins s t p q = Decides-and (has (lasts s) p) (has (firsts t) q) (lasts_decide s p)
    (firsts_decide t q)

-- what can follow what in a word
pub follows_decide : (t : Tree) (p q : ℕ) → Decides (follows t p q) (Follows (Means t) p q)
follows_decide Zero p q = decides_false (λ (u, v, h). h)
follows_decide One p q = decides_false (λ (u, v, e). not_empty p u (q ∷ v) e)
follows_decide (Letter a) p q = decides_false no
  where
    no : Follows (Means (Letter a)) p q → ⊥
    no ([], v, e) = cc
    no (b ∷ u, v, e) = not_empty p u (q ∷ v) (cc)
follows_decide (Or s t) p q =
    Decides-like (follows s p q || follows t p q) to from
    (Decides-or (follows s p q) (follows t p q) (follows_decide s p q) (follows_decide t p q))
  where
    to : Follows (Means s) p q ⊎ Follows (Means t) p q → Follows (Means (Or s t)) p q
    to (inl (u, v, h)) = (u, v, inl h)
    to (inr (u, v, h)) = (u, v, inr h)

    from : Follows (Means (Or s t)) p q → Follows (Means s) p q ⊎ Follows (Means t) p q
    from (u, v, inl h) = inl (u, v, h)
    from (u, v, inr h) = inr (u, v, h)
follows_decide (Cat s t) p q =
    let some = has_word s && has_word t in
    let inside = follows s p q || follows t p q in
    let across = has (lasts s) p && has (firsts t) q in
    Decides-like (some && (inside || across)) (joined_follows (Means s) (Means t) p q)
    (follows_joined (Means s) (Means t) p q)
    (Decides-and some (inside || across) (both_decide s t)
    (Decides-or inside across
    (Decides-or (follows s p q) (follows t p q) (follows_decide s p q) (follows_decide t p q))
    (ends_begins s t p q)))
follows_decide (Star t) p q =
    let across = has (lasts t) p && has (firsts t) q in
    Decides-like (follows t p q || across) (star_follows (Means t) p q) (follows_star (Means t) p q)
    (Decides-or (follows t p q) across (follows_decide t p q) (ends_begins t t p q))
follows_decide (Plus t) p q =
    let across = has (lasts t) p && has (firsts t) q in
    Decides-like (follows t p q || across) to from
    (Decides-or (follows t p q) across (follows_decide t p q) (ends_begins t t p q))
  where
    to : FollowsStar (Means t) p q → Follows (Means (Plus t)) p q
    to f = let r = star_follows (Means t) p q f in (r.0, r.1, once (Means t) p r.0 (q ∷ r.1) r.2)

    from : Follows (Means (Plus t)) p q → FollowsStar (Means t) p q
    from (u, v, h) = follows_star (Means t) p q (u, v, from_once (Means t) (u ++ p ∷ (q ∷ v)) h)
follows_decide (Opt t) p q = Decides-like (follows t p q) to from (follows_decide t p q)
  where
    to : Follows (Means t) p q → Follows (Means (Opt t)) p q
    to (u, v, h) = (u, v, inr h)

    from : Follows (Means (Opt t)) p q → Follows (Means t) p q
    from (u, v, inl e) = absurd (not_empty p u (q ∷ v) e)
    from (u, v, inr h) = (u, v, h)
