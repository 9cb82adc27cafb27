-- Laws on the rewriting rules of a congruence.
use Rattle.std.proofs.Common.{◌≡◌, ◌⊎◌, inl, inr, ℕ, ◌<◌, List, [], ◌∷◌, ◌++◌, length, refl, sym, ap, subst, ◌∙◌, arith, append_assoc, append-nil, length-append}
use Rattle.language_theory.specs.Words.{Over, ◌⊏◌, word_at, IsFactor}
use Rattle.language_theory.specs.Congruence.{IsEquivalence}
use Rattle.language_theory.specs.Representatives.{IsPlaceOf, AreRepresentatives, IsReduced}
use Rattle.monoid_theory.specs.Presentation.{IsRule, AreRules, rule_at, IsReplacement}
use Rattle.language_theory.proofs.Shortlex.{strong_induction, over_append, over_prefix, over_suffix, last_letter, last_letter_is_one, word_equal_or_not, shortlex_trichotomy, shortlex_append_word, shortlex_before}
use Rattle.language_theory.proofs.Representatives.{reduced_is_listed, listed_is_reduced, empty_is_reduced}

module _ (k : ℕ) (same : List ℕ → List ℕ → Type 0) (words : List (List ℕ))
    (e : IsEquivalence k same) (l : AreRepresentatives k same words) where
  -- the list tells the reduced words
  pub reduced_or_not : (w : List ℕ) → Over k w → IsReduced k same w ⊎ ¬ IsReduced k same w
  reduced_or_not w o = by (l.place w o)
    where
      by : (i : ℕ) × IsPlaceOf same words w i → IsReduced k same w ⊎ ¬ IsReduced k same w
      by (i, p) = elim (word_equal_or_not (word_at words i) w) [
        | inl h ↦ inl (subst (IsReduced k same) h (listed_is_reduced k same words l e i p.within))
        | inr n ↦ inr (λ r. let (j, g, h) = reduced_is_listed k same words l w r in
            n (ap (word_at words)
            (sym (p.only j g (subst (λ (v : List ℕ). same v w) (sym h) (e.refl w o)))) ∙ h))
      ]

  -- the left side of a rule is greater than its right side
  pub rule_falls : (left : List ℕ) (right : ℕ) → IsRule k same words left right
      → word_at words right ⊏ left
  rule_falls left right r = elim (shortlex_trichotomy (word_at words right) left) [
    | inl h ↦ h
    | inr (inl h) ↦ absurd (r.unreduced
        (subst (IsReduced k same) h (listed_is_reduced k same words l e right r.place.within)))
    | inr (inr h) ↦ absurd (l.least right left r.place.within r.over r.place.related h)
  ]

  HasRule : List ℕ → Type 0
  HasRule w = (left : List ℕ) × (right : ℕ) × IsRule k same words left right × IsFactor left w

  has_rule_longer : (p w q : List ℕ) → HasRule w → HasRule (p ++ (w ++ q))
  unfolding HasRule
  has_rule_longer p w q (left, right, r, (x, y, f)) = (
    left,
    right,
    r,
    (
      p ++ x,
      y ++ q,
      subst (λ (v : List ℕ). (p ++ x) ++ (left ++ (y ++ q))
          ≡ p ++ (v ++ q)) f grouped,
    ),
  )
    where
      grouped : (p ++ x) ++ (left ++ (y ++ q)) ≡ p ++ ((x ++ (left ++ y)) ++ q)
      grouped = simp append_assoc

  -- a word that is not reduced has the left side of a rule as a factor
  rule_in_word : (n : ℕ) → ((m : ℕ) → m < n → (w : List ℕ) → length w ≡ m → Over k w
      → ¬ IsReduced k same w → HasRule w) → (w : List ℕ) → length w ≡ n → Over k w
      → ¬ IsReduced k same w → HasRule w
  unfolding HasRule
  rule_in_word n shorter [] len o u = absurd (u (empty_is_reduced k same))
  rule_in_word n shorter (b ∷ v) len o u = by (last_letter (b ∷ v)) (reduced_or_not v o.1)
    where
      by : ((b ∷ v) ≡ []) ⊎ ((w : List ℕ) × (a : ℕ) × (b ∷ v ≡ w ++ a ∷ [])) → IsReduced k same v
          ⊎ ¬ IsReduced k same v → HasRule (b ∷ v)
      by (inl f) d = cc
      by (inr (w, a, f)) (inr d) =
          subst HasRule (ap (λ (x : List ℕ). b ∷ x) (append-nil v))
          (has_rule_longer (b ∷ []) v [] (shorter (length v) (omega arith) v refl o.1 d))
      by (inr (w, a, f)) (inl d) = prefix (reduced_or_not w ow)
        where
          ow : Over k w
          ow = over_prefix k w (a ∷ []) (subst (Over k) f o)

          less : length w < n
          less = let q = ap length f in let m = length-append w (a ∷ []) in omega arith

          prefix : IsReduced k same w ⊎ ¬ IsReduced k same w → HasRule (b ∷ v)
          prefix (inr g) =
              subst HasRule (sym f)
              (has_rule_longer [] w (a ∷ []) (shorter (length w) less w refl ow g))
          prefix (inl g) = (
            b ∷ v,
            (l.place (b ∷ v) o).0,
            record {
              over = o;
              unreduced = u;
              prefix =
                  without_last;
              suffix = without_first;
              place = (l.place (b ∷ v) o).1;
            },
            ([], [], append-nil (b ∷ v)),
          )
            where
              without_last : (x : List ℕ) (y : ℕ) → x ++ y ∷ [] ≡ b ∷ v → IsReduced k same x
              without_last x y q =
                  subst (IsReduced k same) (sym ((last_letter_is_one x w y a (q ∙ f)).0)) g

              without_first : (y : ℕ) (x : List ℕ) → y ∷ x ≡ b ∷ v → IsReduced k same x
              without_first y x q = let r : v ≡ x = cc in subst (IsReduced k same) r d

  pub unreduced_has_rule : (w : List ℕ) → Over k w → ¬ IsReduced k same w
      → (left : List ℕ) × (right : ℕ) × IsRule k same words left right × IsFactor left w
  unfolding HasRule
  unreduced_has_rule w =
      strong_induction (λ n. (w : List ℕ) → length w ≡ n → Over k w → ¬ IsReduced k same w
      → HasRule w) rule_in_word (length w) w refl

module _ (k : ℕ) (same : List ℕ → List ℕ → Type 0) (words : List (List ℕ))
    (e : IsEquivalence k same) (l : AreRepresentatives k same words) (rules : List (List ℕ × ℕ))
    (r : AreRules k same words rules) where
  -- a word that is not reduced can be replaced
  pub unreduced_is_replaced : (w : List ℕ) → Over k w → ¬ IsReduced k same w
      → (v : List ℕ) × IsReplacement words rules w v
  unreduced_is_replaced w o u = by (unreduced_has_rule k same words e l w o u)
    where
      by : (left : List ℕ) × (right : ℕ) × IsRule k same words left right × IsFactor left w
          → (v : List ℕ) × IsReplacement words rules w v
      by (left, right, rule, (p, q, f)) = let (n, h, g) = r.all left right rule in (
        p ++ (word_at words (rule_at rules n).1 ++ q),
        record {
          rule = n;
          within = h;
          before = p;
          behind = q;
          holds =
              subst (λ (x : List ℕ). w ≡ p ++ (x ++ q)) (sym (ap (λ (t : List ℕ × ℕ). t.0) g))
              (sym f);
          gives = refl;
        },
      )

  -- a replacement gives a smaller word
  pub replacement_falls : (u v : List ℕ) → IsReplacement words rules u v → v ⊏ u
  replacement_falls u v m =
      rw (m.holds, m.gives) (shortlex_before m.before
      (word_at words (rule_at rules m.rule).1 ++ m.behind)
      ((rule_at rules m.rule).0 ++ m.behind)
      ∙ shortlex_append_word (word_at words (rule_at rules m.rule).1) (rule_at rules m.rule).0
      m.behind (rule_falls k same words e l (rule_at rules m.rule).0 (rule_at rules m.rule).1
      (r.each m.rule m.within)))

module _ (k : ℕ) (same : List ℕ → List ℕ → Type 0) (words : List (List ℕ))
    (l : AreRepresentatives k same words) (rules : List (List ℕ × ℕ))
    (r : AreRules k same words rules) where
  -- a replacement gives a word over the same letters
  pub replacement_over : (u v : List ℕ) → Over k u → IsReplacement words rules u v → Over k v
  replacement_over u v o m =
      let whole = subst (Over k) m.holds o in
      let suffix = over_suffix k m.before ((rule_at rules m.rule).0 ++ m.behind) whole in
      subst (Over k) (sym m.gives)
      (over_append k m.before (word_at words (rule_at rules m.rule).1 ++ m.behind)
      (over_prefix k m.before ((rule_at rules m.rule).0 ++ m.behind) whole)
      (over_append k (word_at words (rule_at rules m.rule).1) m.behind
      (l.over (rule_at rules m.rule).1 (r.each m.rule m.within).place.within)
      (over_suffix k (rule_at rules m.rule).0 m.behind suffix)))
