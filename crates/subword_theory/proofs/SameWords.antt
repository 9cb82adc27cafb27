-- Words with the same short subwords: an equivalence that contexts keep.
use Rattle.std.proofs.Common.{◌≡◌, ℕ, ◌+◌, ◌≤◌, List, [], ◌∷◌, ◌++◌, length, sym, subst, arith, length-append}
use Rattle.language_theory.specs.Words.{IsSubword}
use Rattle.language_theory.specs.Congruence.{IsEquivalence, IsCongruence, IsRightCongruence}
use Rattle.language_theory.proofs.Deleting.{subword_nil, subword_itself, subword_trans, subword_antisym, subword_append, subword_split}
use Rattle.subword_theory.specs.ShortSubwords.{SameSubwords}

pub same_refl : (n : ℕ) (u : List ℕ) → SameSubwords n u u
same_refl n u = record { of = λ x l. (λ h. h, λ h. h) }

pub same_symm : {n : ℕ} {u v : List ℕ} → SameSubwords n u v → SameSubwords n v u
same_symm s = record { of = λ x l. ((s.of x l).1, (s.of x l).0) }

pub same_trans : {n : ℕ} {u v w : List ℕ} → SameSubwords n u v → SameSubwords n v w
    → SameSubwords n u w
same_trans s t =
    record {
      of = λ x l. (
        λ h. (t.of x l).0 ((s.of x l).0 h),
        λ h. (s.of x l).1 ((t.of x l).1 h),
      );
    }

pub same_less : (m : ℕ) {n : ℕ} {u v : List ℕ} → m ≤ n → SameSubwords n u v → SameSubwords m u v
same_less m l s = record { of = λ x i. s.of x (omega arith) }

pub same_zero : (u v : List ℕ) → SameSubwords 0 u v
same_zero u v = record { of = λ x l. (λ h. empty x l v, λ h. empty x l u) }
  where
    empty : (x : List ℕ) → length x ≤ 0 → (w : List ℕ) → IsSubword x w
    empty [] l w = subword_nil w
    empty (a ∷ x) l w = absurd (omega arith)

-- words that are no longer than the subwords are equal
pub same_short : (n : ℕ) (u v : List ℕ) → length u ≤ n → length v ≤ n → SameSubwords n u v → u ≡ v
same_short n u v l m s =
    subword_antisym ((s.of u l).0 (subword_itself u)) ((s.of v m).1 (subword_itself v))

-- a subword that has all short subwords of the word
pub same_of_subword : (n : ℕ) (u v : List ℕ) → IsSubword u v
    → ((x : List ℕ) → length x ≤ n → IsSubword x v → IsSubword x u) → SameSubwords n u v
same_of_subword n u v h f = record { of = λ x l. (λ g. subword_trans g h, f x l) }

-- a word between two with the same short subwords has them too
pub same_between : {n : ℕ} {u v w : List ℕ} → IsSubword u v → IsSubword v w → SameSubwords n u w
    → SameSubwords n u v
same_between h g s =
    record {
      of = λ x l. (
        λ i. subword_trans i h,
        λ i. (s.of x l).1 (subword_trans i g),
      );
    }

pub same_append : {n : ℕ} {u v x y : List ℕ} → SameSubwords n u v → SameSubwords n x y
    → SameSubwords n (u ++ x) (v ++ y)
same_append {n} {u} {v} {x} {y} s t =
    record {
      of = λ z l. (half u v x y s t z l, half v u y x (same_symm s) (same_symm t) z l);
    }
  where
    half : (u v x y : List ℕ) → SameSubwords n u v → SameSubwords n x y → (z : List ℕ)
        → length z ≤ n → IsSubword z (u ++ x) → IsSubword z (v ++ y)
    half u v x y s t z l h =
        let (p, q, same, f, g) = subword_split u x z h in
        let m : length p + length q ≤ n =
        subst (λ (i : ℕ). i ≤ n) (length-append p q)
        (subst (λ (w : List ℕ). length w ≤ n) (sym same) l) in
        subst (λ (w : List ℕ). IsSubword w (v ++ y)) same
        (subword_append ((s.of p (omega arith)).0 f) ((t.of q (omega arith)).0 g))

pub same_context : (n : ℕ) (u v p q : List ℕ) → SameSubwords n u v
    → SameSubwords n (p ++ (u ++ q)) (p ++ (v ++ q))
same_context n u v p q s = same_append (same_refl n p) (same_append s (same_refl n q))

pub same_equivalence : (k n : ℕ) → IsEquivalence k (SameSubwords n)
same_equivalence k n = record {
  refl = λ u o. same_refl n u;
  symm = λ u v ou ov s. same_symm s;
  trans = λ u v w ou ov ow s t. same_trans s t;
}

pub same_congruence : (k n : ℕ) → IsCongruence k (SameSubwords n)
same_congruence k n = record {
  equivalence = same_equivalence k n;
  right = λ u v w ou ov ow s. same_append s (same_refl n w);
  left = λ u v w ou ov ow s. same_append (same_refl n w) s;
}

pub same_right_congruence : (k n : ℕ) → IsRightCongruence k (SameSubwords n)
same_right_congruence k n = record {
  equivalence = same_equivalence k n;
  right = λ u v w ou ov ow s. same_append s (same_refl n w);
}
