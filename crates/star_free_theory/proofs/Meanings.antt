-- What the nodes of a list denote, as the list grows.
use Rattle.std.proofs.Common.{◌≡◌, ℕ, ◌<◌, Bool, true, false, eqb, List, [], ◌∷◌, ◌++◌, ◌↔◌}
use Rattle.std.proofs.Common.{append_assoc, sym, subst, refl, inl, inr, arith, length, reverse}
use Rattle.std.proofs.lemmas.Bool.{ne_eqb, eq-eqb}
use Rattle.std.proofs.lemmas.List.{append-nil, length-append, reverse-append}
use Rattle.std.proofs.Math.ListN.{length-reverse}
use Rattle.language_theory.specs.Words.{Over}
use Rattle.star_free_theory.specs.declared.nodes.SfNode.TheVariants as node
use Rattle.star_free_theory.specs.Construction.{opening}
use Rattle.star_free_theory.specs.StarFree.{Choice, Denotes, Meaning, Means, SfNode}
use Rattle.star_free_theory.specs.Treating.{Extends, Stands}

module _ (k : ℕ) where
  pub extends_self : (xs : List SfNode) → Extends k xs xs
  extends_self xs = record { longer = omega arith; stays = λ n l w. (λ x. x, λ x. x) }

  pub extends_on : (xs ys zs : List SfNode) → Extends k xs ys → Extends k ys zs → Extends k xs zs
  extends_on xs ys zs e f = record {
    longer = omega (arith, e.longer, f.longer);
    stays = λ n l w. let m : n < length ys = omega (arith, e.longer) in (
      λ x. (e.stays n l w).0 ((f.stays n m w).0 x),
      λ x. (f.stays n m w).1
          ((e.stays n l w).1 x),
    );
  }

  pub stands_later : (xs ys : List SfNode) (n : ℕ) (L : List ℕ → Type 0) → Extends k xs ys
      → Stands k xs n L → Stands k ys n L
  stands_later xs ys n L e s = record {
    there = omega (arith, e.longer, s.there);
    means = λ w. (
      λ x. (s.means w).0 ((e.stays n s.there w).0 x),
      λ x. (e.stays n s.there w).1
          ((s.means w).1 x),
    );
  }

  pub stands_alike : (xs : List SfNode) (n : ℕ) (L K : List ℕ → Type 0) → ((w : List ℕ) → L w ↔ K w)
      → Stands k xs n L → Stands k xs n K
  stands_alike xs n L K f s = record {
    there = s.there;
    means
        = λ w. (λ x. (f w).0 ((s.means w).0 x), λ x. (s.means w).1 ((f w).1 x));
  }

Over-append : (k : ℕ) (u v : List ℕ) → Over k u → Over k v → Over k (u ++ v)
Over-append k [] v h i = i
Over-append k (a ∷ u) v h i = (h.0, Over-append k u v h.1 i)

meaning_over : (k : ℕ) (x : SfNode) (M : ℕ → List ℕ → Type 0)
    → ((n : ℕ) (w : List ℕ) → M n w → Over k w) → (w : List ℕ) → Meaning k x M w → Over k w
meaning_over k node.Empty M f w i = elim i [ ]
meaning_over k node.Eps M f w i = subst (Over k) (sym i) tt
meaning_over k (node.Letter a) M f w i = subst (Over k) (sym i.1) (i.0, tt)
meaning_over k (node.Not i) M f w j = j.0
meaning_over k (node.Cat i j) M f w (u, v, a, b, e) = subst (Over k) e
    (Over-append k u v (f i u a) (f j v b))
meaning_over k (node.Or i j) M f w (inl a) = f i w a
meaning_over k (node.Or i j) M f w (inr a) = f j w a
meaning_over k (node.And i j) M f w a = f i w a.0

choice_over : (b : Bool) (A B C : Type 0) → (A → C) → (B → C) → Choice b A B → C
choice_over true A B C f g x = f x
choice_over false A B C f g x = g x

means_over : (k : ℕ) (xs : List SfNode) (n : ℕ) (w : List ℕ) → Means k xs n w → Over k w
means_over k [] n w i = elim i [ ]
means_over k (x ∷ xs) n w i = choice_over (eqb n (length xs)) (Meaning k x (Means k xs) w)
    (Means k xs n w) (Over k w) (meaning_over k x (Means k xs) (means_over k xs) w)
    (means_over k xs n w) i

-- a node means words over the k letters
pub denotes_over : (k : ℕ) (xs : List SfNode) (n : ℕ) (w : List ℕ) → Denotes k xs n w → Over k w
denotes_over k xs n w i = means_over k (reverse xs) n w i

Means_older : (k : ℕ) (xs : List SfNode) (x : SfNode) (n : ℕ) (w : List ℕ) → n < length xs
    → Means k (x ∷ xs) n w ≡ Means k xs n w
Means_older k xs x n w h = rw (ne_eqb n (length xs) (λ e. omega arith))

Means_newest : (k : ℕ) (xs : List SfNode) (x : SfNode) (w : List ℕ)
    → Means k (x ∷ xs) (length xs) w ≡ Meaning k x (Means k xs) w
Means_newest k xs x w = rw (eq-eqb (length xs) (length xs) refl)

Denotes_older : (k : ℕ) (xs : List SfNode) (x : SfNode) (n : ℕ) (w : List ℕ) → n < length xs
    → Denotes k (xs ++ x ∷ []) n w ≡ Denotes k xs n w
Denotes_older k xs x n w h = rw (reverse-append xs (x ∷ []))
    (Means_older k (reverse xs) x n w (rw (length-reverse xs) h))

Denotes_newest : (k : ℕ) (xs : List SfNode) (x : SfNode) (w : List ℕ)
    → Denotes k (xs ++ x ∷ []) (length xs) w ≡ Meaning k x (Denotes k xs) w
Denotes_newest k xs x w = rw (reverse-append xs (x ∷ []), ← length-reverse xs)
    (Means_newest k (reverse xs) x w)

both_ways : (A B : Type 0) → A ≡ B → A ↔ B
both_ways A B e = (λ x. subst (λ T. T) e x, λ x. subst (λ T. T) (sym e) x)

pub extends_one : (k : ℕ) (xs : List SfNode) (x : SfNode) → Extends k xs (xs ++ x ∷ [])
extends_one k xs x = record {
  longer = rw (length-append xs (x ∷ [])) (omega arith);
  stays = λ n l w. both_ways (Denotes k (xs ++ x ∷ []) n w) (Denotes k xs n w)
      (Denotes_older k xs x n w l);
}

pub stands_one : (k : ℕ) (xs : List SfNode) (x : SfNode)
    → Stands k (xs ++ x ∷ []) (length xs) (Meaning k x (Denotes k xs))
stands_one k xs x = record {
  there = rw (length-append xs (x ∷ [])) (omega arith);
  means = λ w. both_ways (Denotes k (xs ++ x ∷ []) (length xs) w) (Meaning k x (Denotes k xs) w)
      (Denotes_newest k xs x w);
}

pub extends_all : (k : ℕ) (xs ys : List SfNode) → Extends k xs (xs ++ ys)
extends_all k xs [] = subst (Extends k xs) (sym (append-nil xs)) (extends_self k xs)
extends_all k xs (y ∷ ys) = subst (Extends k xs) (append_assoc xs (y ∷ []) ys)
    (extends_on k xs (xs ++ y ∷ []) ((xs ++ y ∷ []) ++ ys) (extends_one k xs y)
    (extends_all k (xs ++ y ∷ []) ys))

pub in_opened : (k n : ℕ) (L : List ℕ → Type 0) → Stands k opening n L → (xs : List SfNode)
    → (rest : List SfNode) × (opening ++ rest ≡ xs) → Stands k xs n L
in_opened k n L s xs o = stands_later k opening xs n L
    (subst (Extends k opening) o.1 (extends_all k opening o.0)) s

pub opening_zero : (k : ℕ) → Stands k opening 0 (λ w. ⊥)
opening_zero k = record { there = omega arith; means = λ w. (λ x. x, λ x. x) }

pub opening_one : (k : ℕ) → Stands k opening 1 (Over k)
opening_one k = record { there = omega arith; means = λ w. (λ x. x.0, λ x. (x, λ y. y)) }

pub opening_two : (k : ℕ) → Stands k opening 2 (λ w. w ≡ [])
opening_two k = record { there = omega arith; means = λ w. (λ x. x, λ x. x) }
