-- Replacements keep the class of a word, and lead each word to the listed word of its class; the
-- rules are determined.
use Rattle.std.proofs.Common.{◌≡◌, ◌↔◌, ◌⊎◌, inl, inr, ℕ, ◌<◌, List, [], ◌++◌, length, sym, ap, subst, subst₂, ◌∙◌, arith, append_assoc, map}
use Rattle.std.proofs.lemmas.List.{ext_get_or, get_or-map, length-map}
use Rattle.language_theory.specs.Words.{Over, ◌⊏◌, word_at}
use Rattle.language_theory.specs.Congruence.{IsCongruence}
use Rattle.language_theory.specs.Representatives.{IsPlaceOf, AreRepresentatives, IsReduced}
use Rattle.monoid_theory.specs.Presentation.{IsRule, AreRules, rule_at, IsReplacement, Rewrites, unchanged, replaced}
use Rattle.language_theory.proofs.Shortlex.{over_prefix, over_suffix, shortlex_induction}
use Rattle.language_theory.proofs.Representatives.{reduced_is_listed, place_of_related, HasAll, Rises, rising_lists_equal}
use Rattle.language_theory.proofs.Representatives.{place_is_one, place_of_listed}
use Rattle.monoid_theory.proofs.Ideals.{related_between}
use Rattle.monoid_theory.proofs.Rules.{reduced_or_not, unreduced_is_replaced, replacement_falls, replacement_over}

-- rewriting goes on, and goes on inside a longer word
pub rewrites_further : {words : List (List ℕ)} {rules : List (List ℕ × ℕ)} {u v w : List ℕ}
    → Rewrites words rules u v → Rewrites words rules v w → Rewrites words rules u w
rewrites_further unchanged h = h
rewrites_further (replaced m g) h = replaced m (rewrites_further g h)

replaced_between : {words : List (List ℕ)} {rules : List (List ℕ × ℕ)} {u v : List ℕ} (p q : List ℕ)
    → IsReplacement words rules u v → IsReplacement words rules (p ++ (u ++ q)) (p ++ (v ++ q))
replaced_between {words = words} {rules = rules} {u = u} {v = v} p q m = record {
  rule = m.rule;
  within = m.within;
  before = p ++ m.before;
  behind = m.behind ++ q;
  holds = ap (λ (w : List ℕ). p ++ (w ++ q)) m.holds ∙ grouped (rule_at rules m.rule).0;
  gives = ap (λ (w : List ℕ). p ++ (w ++ q)) m.gives
      ∙ grouped (word_at words (rule_at rules m.rule).1);
}
  where
    grouped : (w : List ℕ)
        → p ++ ((m.before ++ (w ++ m.behind)) ++ q) ≡ (p ++ m.before) ++ (w ++ (m.behind ++ q))
    grouped w = simp append_assoc

pub rewrites_between : {words : List (List ℕ)} {rules : List (List ℕ × ℕ)} {u v : List ℕ}
    (p q : List ℕ) → Rewrites words rules u v → Rewrites words rules (p ++ (u ++ q)) (p ++ (v ++ q))
rewrites_between p q unchanged = unchanged
rewrites_between p q (replaced m h) = replaced (replaced_between p q m) (rewrites_between p q h)

module _ (k : ℕ) (same : List ℕ → List ℕ → Type 0) (words : List (List ℕ)) (c : IsCongruence k same)
    (l : AreRepresentatives k same words) (rules : List (List ℕ × ℕ))
    (r : AreRules k same words rules) where
  -- a replacement gives a related word
  pub replacement_related : (u v : List ℕ) → Over k u → IsReplacement words rules u v → same u v
  replacement_related u v o m =
      subst₂ same (sym m.holds) (sym m.gives)
      (related_between k same c left right m.before m.behind rule.over right_over
      (over_prefix k m.before (left ++ m.behind) whole)
      (over_suffix k left m.behind (over_suffix k m.before (left ++ m.behind) whole))
      (c.equivalence.symm right left right_over rule.over rule.place.related))
    where
      left : List ℕ
      left = (rule_at rules m.rule).0

      right : List ℕ
      right = word_at words (rule_at rules m.rule).1

      rule : IsRule k same words (rule_at rules m.rule).0 (rule_at rules m.rule).1
      rule = r.each m.rule m.within

      right_over : Over k (word_at words (rule_at rules m.rule).1)
      right_over = l.over (rule_at rules m.rule).1 rule.place.within

      whole : Over k (m.before ++ ((rule_at rules m.rule).0 ++ m.behind))
      whole = subst (Over k) m.holds o

  -- rewriting keeps the letters and the class
  pub rewriting_related : {u v : List ℕ} → Over k u → Rewrites words rules u v → Over k v × same u v
  rewriting_related {u = u} o unchanged = (o, c.equivalence.refl u o)
  rewriting_related {u = u} {v = w} o (replaced {v = v} m h) =
      let ov = replacement_over k same words l rules r u v o m in
      let (ow, s) = rewriting_related {u = v} {v = w} ov h in
      (ow, c.equivalence.trans u v w o ov ow (replacement_related u v o m) s)

  -- a reduced word is the listed word of its place
  listed_at_place : (w : List ℕ) (i : ℕ) → IsReduced k same w → IsPlaceOf same words w i
      → word_at words i ≡ w
  listed_at_place w i d p = by (reduced_is_listed k same words l w d)
    where
      by : (j : ℕ) × (j < length words) × (word_at words j ≡ w) → word_at words i ≡ w
      by (j, h, e) =
          ap (word_at words) (place_is_one same words w i j p
          (subst (λ (v : List ℕ). IsPlaceOf same words v j) e
          (place_of_listed k same words l c.equivalence j h))) ∙ e

  -- each word is rewritten to the listed word of its class
  pub rewrites_to_listed : (w : List ℕ) → Over k w → (i : ℕ) → IsPlaceOf same words w i
      → Rewrites words rules w (word_at words i)
  rewrites_to_listed =
      shortlex_induction k (λ w. (i : ℕ) → IsPlaceOf same words w i
      → Rewrites words rules w (word_at words i)) step
    where
      step : (w : List ℕ) → Over k w → ((u : List ℕ) → Over k u → u ⊏ w → (i : ℕ)
          → IsPlaceOf same words u i → Rewrites words rules u (word_at words i)) → (i : ℕ)
          → IsPlaceOf same words w i → Rewrites words rules w (word_at words i)
      step w o smaller i p = by (reduced_or_not k same words c.equivalence l w o)
        where
          by : IsReduced k same w ⊎ ¬ IsReduced k same w → Rewrites words rules w (word_at words i)
          by (inl d) = subst (Rewrites words rules w) (sym (listed_at_place w i d p)) unchanged
          by (inr n) = further (unreduced_is_replaced k same words c.equivalence l rules r w o n)
            where
              further : (v : List ℕ) × IsReplacement words rules w v
                  → Rewrites words rules w (word_at words i)
              further (v, m) =
                  let ov = replacement_over k same words l rules r w v o m in
                  replaced m (smaller v ov
                  (replacement_falls k same words c.equivalence l rules r w v m) i
                  (place_of_related k same words l c.equivalence w v i o ov
                  (replacement_related w v o m) p))

  -- words are related exactly where they are rewritten to one listed word
  pub related_by_rewriting : (u v : List ℕ) → Over k u → Over k v → same u v
      ↔ ((i : ℕ) × (i < length words) × Rewrites words rules u (word_at words i)
      × Rewrites words rules v (word_at words i))
  related_by_rewriting u v ou ov = (there, back)
    where
      there : same u v → (i : ℕ) × (i < length words) × Rewrites words rules u (word_at words i)
          × Rewrites words rules v (word_at words i)
      there s =
          let (i, p) = l.place u ou in (
            i,
            p.within,
            rewrites_to_listed u ou i p,
            rewrites_to_listed v ov i
                (place_of_related k same words l c.equivalence u v i ou ov s p),
          )

      back : (i : ℕ) × (i < length words) × Rewrites words rules u (word_at words i)
          × Rewrites words rules v (word_at words i) → same u v
      back (i, h, a, b) =
          let (o, s) = rewriting_related ou a in
          let (p, t) = rewriting_related ov b in
          c.equivalence.trans u (word_at words i) v ou o ov s
          (c.equivalence.symm v (word_at words i) ov o t)

lefts : List (List ℕ × ℕ) → List (List ℕ)
lefts rules = map (λ rule. rule.0) rules

left_at : (rules : List (List ℕ × ℕ)) (n : ℕ) → n < length rules
    → word_at (lefts rules) n ≡ (rule_at rules n).0
unfolding lefts
left_at rules n h = get_or-map (λ (rule : List ℕ × ℕ). rule.0) rules n ([], 0) [] h

lefts_long : (rules : List (List ℕ × ℕ)) → length (lefts rules) ≡ length rules
unfolding lefts
lefts_long rules = simp length-map

module _ (k : ℕ) (same : List ℕ → List ℕ → Type 0) (words : List (List ℕ)) where
  lefts_rise : (rules : List (List ℕ × ℕ)) → AreRules k same words rules → Rises (lefts rules)
  lefts_rise rules r i j h g =
      let long = lefts_long rules in
      subst₂ (λ (u v : List ℕ). u ⊏ v) (sym (left_at rules i (omega arith)))
      (sym (left_at rules j (omega arith))) (r.rise i j h (omega arith))

  lefts_stand : (xs ys : List (List ℕ × ℕ)) → AreRules k same words xs → AreRules k same words ys
      → HasAll (lefts xs) (lefts ys)
  lefts_stand xs ys r s i h =
      let long = lefts_long xs in
      let also = lefts_long ys in
      let (n, g, e) = s.all (rule_at xs i).0 (rule_at xs i).1 (r.each i (omega arith)) in (
        n,
        omega arith,
        left_at ys n g
            ∙ (ap (λ (t : List ℕ × ℕ). t.0) e ∙ sym (left_at xs i (omega arith))),
      )

  -- two lists of the rules are equal
  pub rules_are_one : (xs ys : List (List ℕ × ℕ)) → AreRules k same words xs
      → AreRules k same words ys → xs ≡ ys
  rules_are_one xs ys r s = ext_get_or ([], 0) xs ys long at
    where
      alike : lefts xs ≡ lefts ys
      alike =
          rising_lists_equal (lefts xs) (lefts ys) (lefts_rise xs r) (lefts_rise ys s)
          (lefts_stand xs ys r s) (lefts_stand ys xs s r)

      long : length xs ≡ length ys
      long = sym (lefts_long xs) ∙ (ap length alike ∙ lefts_long ys)

      at : (n : ℕ) → n < length xs → rule_at xs n ≡ rule_at ys n
      at n h =
          by (rule_at xs n) (rule_at ys n) left (r.each n h).place
          (s.each n (let e = long in omega arith)).place
        where
          left : (rule_at xs n).0 ≡ (rule_at ys n).0
          left =
              sym (left_at xs n h) ∙ (ap (λ (w : List (List ℕ)). word_at w n) alike
              ∙ left_at ys n (let e = long in omega arith))

          by : (a b : List ℕ × ℕ) → a.0 ≡ b.0 → IsPlaceOf same words a.0 a.1
              → IsPlaceOf same words b.0 b.1 → a ≡ b
          by (u, i) (v, j) e p q =
              let f : i ≡ j = place_is_one same words v i j
              (subst (λ (w : List ℕ). IsPlaceOf same words w i) e p) q in cc
