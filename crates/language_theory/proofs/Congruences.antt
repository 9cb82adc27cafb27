-- Nerode's equivalence is a right congruence, the syntactic one a congruence, and the coarsest one
-- that respects the language.
use Rattle.std.proofs.Common.{◌≡◌, ℕ, ◌<◌, ◌↔◌, List, [], ◌∷◌, ◌++◌, refl, ap, sym, subst, ◌∙◌, append_assoc, append-nil}
use Rattle.language_theory.specs.Words.{Over}
use Rattle.language_theory.specs.Congruence.{Syntactic, IsEquivalence, IsRightCongruence, IsCongruence, Agree, moved, MapsAlike}
use Rattle.language_theory.specs.Languages.{HaveSameWords}
use Rattle.language_theory.specs.Nerode.{Nerode}
use Rattle.language_theory.proofs.Shortlex.{over_append}

pub both_directions : {P Q R : Type 0} → P ↔ Q → Q ↔ R → P ↔ R
both_directions h g = (λ p. g.0 (h.0 p), λ r. h.1 (g.1 r))

pub other_direction : {P Q : Type 0} → P ↔ Q → Q ↔ P
other_direction h = (h.1, h.0)

-- a congruence is a right congruence
pub right_congruence : (k : ℕ) (same : List ℕ → List ℕ → Type 0) → IsCongruence k same
    → IsRightCongruence k same
right_congruence k same c = record { equivalence = c.equivalence; right = c.right }

-- to agree is an equivalence
pub agree_itself : (k : ℕ) (same : List ℕ → List ℕ → Type 0) → Agree k same same
agree_itself k same = record { both = λ u v ou ov. (λ h. h, λ h. h) }

pub agree_turned : (k : ℕ) (same other : List ℕ → List ℕ → Type 0) → Agree k same other
    → Agree k other same
agree_turned k same other a = record { both = λ u v ou ov. other_direction (a.both u v ou ov) }

pub agree_joined : (k : ℕ) (same other third : List ℕ → List ℕ → Type 0) → Agree k same other
    → Agree k other third → Agree k same third
agree_joined k same other third a b =
    record { both = λ u v ou ov. both_directions (a.both u v ou ov) (b.both u v ou ov) }

module _ (k : ℕ) (L : List ℕ → Type 0) where
  pub nerode_equivalence : IsEquivalence k (Nerode k L)
  nerode_equivalence = record {
    refl = λ u o q p. (λ h. h, λ h. h);
    symm = λ u v ou ov h q p. other_direction (h q p);
    trans = λ u v w ou ov ow h g q p. both_directions (h q p) (g q p);
  }

  pub nerode_right : IsRightCongruence k (Nerode k L)
  nerode_right = record { equivalence = nerode_equivalence; right = right }
    where
      right : (u v w : List ℕ) → Over k u → Over k v → Over k w → Nerode k L u v
          → Nerode k L (u ++ w) (v ++ w)
      right u v w ou ov ow h q p =
          rw (append_assoc u w q, append_assoc v w q) (h (w ++ q) (over_append k w q ow p))

  pub syntactic_equivalence : IsEquivalence k (Syntactic k L)
  syntactic_equivalence = record {
    refl = λ u o p q op oq. (λ h. h, λ h. h);
    symm = λ u v ou ov h p q op oq. other_direction (h p q op oq);
    trans = λ u v w ou ov ow h g p q op oq. both_directions (h p q op oq) (g p q op oq);
  }

  pub syntactic_congruence : IsCongruence k (Syntactic k L)
  syntactic_congruence = record { equivalence = syntactic_equivalence; right = right; left = left }
    where
      right : (u v w : List ℕ) → Over k u → Over k v → Over k w → Syntactic k L u v
          → Syntactic k L (u ++ w) (v ++ w)
      right u v w ou ov ow h p q op oq =
          rw (append_assoc u w q, append_assoc v w q) (h p (w ++ q) op (over_append k w q ow oq))

      left : (u v w : List ℕ) → Over k u → Over k v → Over k w → Syntactic k L u v
          → Syntactic k L (w ++ u) (w ++ v)
      left u v w ou ov ow h p q op oq =
          let to : (x : List ℕ) → p ++ ((w ++ x) ++ q) ≡ (p ++ w) ++ (x ++ q) =
          λ x. simp append_assoc in
          rw (to u, to v) (h (p ++ w) q (over_append k p w op ow) oq)

  pub syntactic_right : IsRightCongruence k (Syntactic k L)
  syntactic_right = right_congruence k (Syntactic k L) syntactic_congruence

  -- words with the same contexts have the same words behind them
  pub syntactic_nerode : (u v : List ℕ) → Syntactic k L u v → Nerode k L u v
  syntactic_nerode u v h q o = h [] q tt o

  -- the language is a union of classes
  pub nerode_respects : (u v : List ℕ) → Nerode k L u v → L u → L v
  nerode_respects u v h l = subst L (append-nil v) ((h [] tt).0 (subst L (sym (append-nil u)) l))

  -- a right congruence that respects the language is contained in Nerode's
  pub nerode_coarsest : (same : List ℕ → List ℕ → Type 0) → IsRightCongruence k same
      → ((u v : List ℕ) → Over k u → Over k v → same u v → L u → L v) → (u v : List ℕ) → Over k u
      → Over k v → same u v → Nerode k L u v
  nerode_coarsest same c f u v ou ov h q o =
      let a = over_append k u q ou o in
      let b = over_append k v q ov o in
      let s = c.right u v q ou ov o h in (
        f (u ++ q) (v ++ q) a b s,
        f (v ++ q) (u ++ q) b a
            (c.equivalence.symm (u ++ q) (v ++ q) a b s),
      )

  -- a congruence that respects the language is contained in the syntactic one
  pub syntactic_coarsest : (same : List ℕ → List ℕ → Type 0) → IsCongruence k same
      → ((u v : List ℕ) → Over k u → Over k v → same u v → L u → L v) → (u v : List ℕ) → Over k u
      → Over k v → same u v → Syntactic k L u v
  syntactic_coarsest same c f u v ou ov h p q op oq =
      let a = over_append k u q ou oq in
      let b = over_append k v q ov oq in
      let x = over_append k p (u ++ q) op a in
      let y = over_append k p (v ++ q) op b in
      let s = c.left (u ++ q) (v ++ q) p a b op (c.right u v q ou ov oq h) in (
        f (p ++ (u ++ q)) (p ++ (v ++ q)) x y s,
        f (p ++ (v ++ q)) (p ++ (u ++ q)) y x
            (c.equivalence.symm (p ++ (u ++ q)) (p ++ (v ++ q)) x y s),
      )

  -- the syntactic congruence is Nerode's equivalence behind each word
  pub syntactic_by_nerode : (u v : List ℕ) → Syntactic k L u v
      ↔ ((p : List ℕ) → Over k p → Nerode k L (p ++ u) (p ++ v))
  syntactic_by_nerode u v = (to, from)
    where
      to : Syntactic k L u v → (p : List ℕ) → Over k p → Nerode k L (p ++ u) (p ++ v)
      to h p op q oq = rw (append_assoc p u q, append_assoc p v q) (h p q op oq)

      from : ((p : List ℕ) → Over k p → Nerode k L (p ++ u) (p ++ v)) → Syntactic k L u v
      from h p q op oq = rw (append_assoc p u q, append_assoc p v q) at (h p op q oq)

-- languages with the same words over k letters have the same equivalences
module _ (k : ℕ) (L M : List ℕ → Type 0) (a : HaveSameWords k L M) where
  pub nerode_agrees : Agree k (Nerode k L) (Nerode k M)
  nerode_agrees = record {
    both = λ u v ou ov. (
      λ h q o. both_directions (other_direction (a.both (u ++ q) (over_append k u q ou o)))
          (both_directions (h q o) (a.both (v ++ q) (over_append k v q ov o))),
      λ h q o. both_directions (a.both (u ++ q) (over_append k u q ou o))
          (both_directions (h q o) (other_direction (a.both (v ++ q) (over_append k v q ov o)))),
    );
  }

  pub syntactic_agrees : Agree k (Syntactic k L) (Syntactic k M)
  syntactic_agrees = record {
    both = λ u v ou ov. (
      λ h p q op oq. both_directions (other_direction (at p u q op ou oq))
          (both_directions (h p q op oq) (at p v q op ov oq)),
      λ h p q op oq. both_directions (at p u q op ou oq)
          (both_directions (h p q op oq) (other_direction (at p v q op ov oq))),
    );
  }
    where
      at : (p w q : List ℕ) → Over k p → Over k w → Over k q → L (p ++ (w ++ q)) ↔ M (p ++ (w ++ q))
      at p w q op ow oq =
          a.both (p ++ (w ++ q)) (over_append k p (w ++ q) op (over_append k w q ow oq))

-- ---- maps of points

pub moved_append : {X : Type 0} (image : X → ℕ → X) (p : X) (u v : List ℕ)
    → moved image p (u ++ v) ≡ moved image (moved image p u) v
moved_append image p [] v = refl
moved_append image p (a ∷ u) v = moved_append image (image p a) u v

-- what each letter keeps, each word keeps
pub moved_keeps : {X : Type 0} (k : ℕ) (image : X → ℕ → X) (P : X → Type 0)
    → ((p : X) (a : ℕ) → P p → a < k → P (image p a)) → (p : X) (w : List ℕ) → P p → Over k w
    → P (moved image p w)
moved_keeps k image P keeps p [] h o = h
moved_keeps k image P keeps p (a ∷ w) h o =
    moved_keeps k image P keeps (image p a) w (keeps p a h o.0) o.1

module _ (k n : ℕ) (image : ℕ → ℕ → ℕ) (within : (p a : ℕ) → p < n → a < k → image p a < n) where
  pub moved_within : (p : ℕ) (w : List ℕ) → p < n → Over k w → moved image p w < n
  moved_within = moved_keeps k image (λ p. p < n) within

  pub maps_alike_congruence : IsCongruence k (MapsAlike n image)
  maps_alike_congruence = record {
    equivalence = record {
      refl = λ u o p h. refl;
      symm = λ u v ou ov s p h. sym (s p h);
      trans =
          λ u v w ou ov ow s t p h. s p h ∙ t p h;
    };
    right = λ u v w ou ov ow s p h. moved_append image p u w
        ∙ (ap (λ q. moved image q w) (s p h) ∙ sym (moved_append image p v w));
    left = λ u v w ou ov ow s p h. moved_append image p w u
        ∙ (s (moved image p w) (moved_within p w h ow) ∙ sym (moved_append image p w v));
  }
