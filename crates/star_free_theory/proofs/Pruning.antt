-- Pruning keeps what the root denotes.
use Rattle.std.proofs.Common.{◌≡◌, ℕ, zero, suc, ◌+◌, ◌<◌, List, [], ◌∷◌, ◌++◌, ◌↔◌, append_assoc}
use Rattle.std.proofs.Common.{sym, subst, ◌∙◌, ap, refl, inl, inr, arith, length, slice_index}
use Rattle.std.proofs.lemmas.Bool.{cases_lt}
use Rattle.std.proofs.lemmas.List.{length-append}
use Rattle.star_free_theory.specs.declared.nodes.SfNode.TheVariants as node
use Rattle.star_free_theory.specs.Construction.{place}
use Rattle.star_free_theory.specs.Pruning.{itself, IsAt, IsNeeded, IsPruning, IsRenumbered, Names, node_at, part}
use Rattle.star_free_theory.specs.StarFree.{Denotes, IsStarFreeList, Meaning, NameEarlier, NamesBelow, SfNode}
use Rattle.star_free_theory.proofs.Denoting.{denotes_at, earlier_at, earlier_by}
use Rattle.star_free_theory.proofs.Fits.{Concat-more}

-- parts of renumbered nodes

abbrev Alike : ℕ → List SfNode → List SfNode → ℕ → ℕ → Type 0
Alike k xs ys i p = (w : List ℕ) → Denotes k ys p w ↔ Denotes k xs i w

-- a renumbered node means the same where its parts do
meaning_renumbered : (k n : ℕ) (kept : List ℕ) (xs ys : List SfNode) (x y : SfNode)
    → IsRenumbered kept x y → NamesBelow n x
    → ((i p : ℕ) → i < n → IsAt kept p i → Alike k xs ys i p) → (w : List ℕ)
    → Meaning k y (Denotes k ys) w ↔ Meaning k x (Denotes k xs) w
meaning_renumbered k n kept xs ys node.Empty node.Empty r l f w = (λ i. i, λ i. i)
meaning_renumbered k n kept xs ys node.Eps node.Eps r l f w = (λ i. i, λ i. i)
meaning_renumbered k n kept xs ys (node.Letter a) (node.Letter b) r l f w
    = (
      λ i. (subst (λ (z : ℕ). z < k) (sym r) i.0, i.1 ∙ ap (λ (z : ℕ). z ∷ []) (sym r)),
      λ i.
          (subst (λ (z : ℕ). z < k) r i.0, i.1 ∙ ap (λ (z : ℕ). z ∷ []) r),
    )
meaning_renumbered k n kept xs ys (node.Not i) (node.Not p) r l f w = let e = f i p l r w in
    (λ z. (z.0, λ v. z.1 (e.1 v)), λ z. (z.0, λ v. z.1 (e.0 v)))
meaning_renumbered k n kept xs ys (node.Cat i j) (node.Cat p q) r l f w = (
  Concat-more (Denotes k ys p) (Denotes k ys q) (Denotes k xs i) (Denotes k xs j)
      (λ v. (f i p l.0 r.0 v).0) (λ v. (f j q l.1 r.1 v).0) w,
  Concat-more (Denotes k xs i) (Denotes k xs j) (Denotes k ys p) (Denotes k ys q)
      (λ v. (f i p l.0 r.0 v).1) (λ v. (f j q l.1 r.1 v).1) w,
)
meaning_renumbered k n kept xs ys (node.Or i j) (node.Or p q) r l f w = (
  elim [ inl z ↦ inl ((f i p l.0 r.0 w).0 z) | inr z ↦ inr ((f j q l.1 r.1 w).0 z) ],
  elim [ inl z ↦ inl ((f i p l.0 r.0 w).1 z) | inr z ↦ inr ((f j q l.1 r.1 w).1 z) ],
)
meaning_renumbered k n kept xs ys (node.And i j) (node.And p q) r l f w = (
  λ z. ((f i p l.0 r.0 w).0 z.0, (f j q l.1 r.1 w).0 z.1),
  λ z. ((f i p l.0 r.0 w).1 z.0, (f j q l.1 r.1 w).1 z.1),
)
meaning_renumbered k n kept xs ys _ _ r l f w = absurd r

-- a renumbered node names earlier ones where it did
below_renumbered : (n m : ℕ) (kept : List ℕ) (x y : SfNode) → IsRenumbered kept x y → NamesBelow n x
    → ((i p : ℕ) → i < n → IsAt kept p i → p < m) → NamesBelow m y
below_renumbered n m kept node.Empty node.Empty r l f = tt
below_renumbered n m kept node.Eps node.Eps r l f = tt
below_renumbered n m kept (node.Letter a) (node.Letter b) r l f = tt
below_renumbered n m kept (node.Not i) (node.Not p) r l f = f i p l r
below_renumbered n m kept (node.Cat i j) (node.Cat p q) r l f = (f i p l.0 r.0, f j q l.1 r.1)
below_renumbered n m kept (node.Or i j) (node.Or p q) r l f = (f i p l.0 r.0, f j q l.1 r.1)
below_renumbered n m kept (node.And i j) (node.And p q) r l f = (f i p l.0 r.0, f j q l.1 r.1)
below_renumbered n m kept _ _ r l f = absurd r

module _ (xs : List SfNode) (root : ℕ) (kept : List ℕ) (ys : List SfNode) (place : ℕ)
    (s : IsStarFreeList xs root) (h : IsPruning xs root kept ys place) where
  needed_within : (i : ℕ) → IsNeeded xs root i → i < length xs
  needed_within i itself = s.inside
  needed_within i (part {j = j} _ n m) = let l = needed_within j n in
      let e = earlier_at 0 xs j s.earlier l in let b = names_below j (node_at xs j) i e m in
      omega arith
    where
      names_below : (j : ℕ) (x : SfNode) (i : ℕ) → NamesBelow (0 + j) x → Names x i → i < j
      names_below j node.Empty i e m = absurd m
      names_below j node.Eps i e m = absurd m
      names_below j (node.Letter a) i e m = absurd m
      names_below j (node.Not p) i e m = omega arith
      names_below j (node.Cat p q) i e (inl m) = let a = e.0 in omega arith
      names_below j (node.Cat p q) i e (inr m) = let a = e.1 in omega arith
      names_below j (node.Or p q) i e (inl m) = let a = e.0 in omega arith
      names_below j (node.Or p q) i e (inr m) = let a = e.1 in omega arith
      names_below j (node.And p q) i e (inl m) = let a = e.0 in omega arith
      names_below j (node.And p q) i e (inr m) = let a = e.1 in omega arith

  kept_within : (p : ℕ) → p < length kept → slice_index kept p < length xs
  kept_within p l = needed_within (slice_index kept p)
      ((h.needed (slice_index kept p)).1 (p, (l, refl)))

  kept_below : (p : ℕ) → p < length kept
      → NamesBelow (slice_index kept p) (node_at xs (slice_index kept p))
  kept_below p l = let e : 0 + slice_index kept p ≡ slice_index kept p = omega arith in
      subst (λ (m : ℕ). NamesBelow m (node_at xs (slice_index kept p))) e
      (earlier_at 0 xs (slice_index kept p) s.earlier (kept_within p l))

  lower : (p q i : ℕ) → p < length kept → i < slice_index kept p → IsAt kept q i → q < p
  lower p q i l b a = elim (cases_lt q p) [
    | inl j ↦ j
    | inr j ↦ elim (cases_lt p q) [
      | inl m ↦ absurd (let r = h.rises p q m a.0 in let e = a.1 in omega arith)
      | inr m ↦ absurd (let e : p ≡ q = omega arith in
          let f : slice_index kept q ≡ slice_index kept p = ap (slice_index kept) (sym e) in
          let g = a.1 in omega arith)
    ]
  ]

  pub pruned_earlier : NameEarlier 0 ys
  pruned_earlier = earlier_by 0 ys (λ p l.
      let k : p < length kept = let e = h.long in omega arith in
      let z : p ≡ 0 + p = omega arith in
      subst (λ (m : ℕ). NamesBelow m (node_at ys p)) z
      (below_renumbered (slice_index kept p) p kept (node_at xs (slice_index kept p)) (node_at ys p)
      (h.node p k) (kept_below p k) (λ i q b a. lower p q i k b a)))

  pruned_alike : (k b p : ℕ) → p < length kept → slice_index kept p < b
      → Alike k xs ys (slice_index kept p) p
  pruned_alike k zero p l m w = absurd (omega arith)
  pruned_alike k (suc b) p l m w =
      let i = slice_index kept p in
      let one = denotes_at k ys p pruned_earlier (let e = h.long in omega arith) w in
      let two = denotes_at k xs i s.earlier (kept_within p l) w in
      let same = meaning_renumbered k i kept xs ys (node_at xs i) (node_at ys p) (h.node p l)
      (kept_below p l)
      (λ j q c a. subst (λ (z : ℕ). Alike k xs ys z q) a.1
      (pruned_alike k b q a.0 (let e = a.1 in omega arith))) w in
      (λ z. two.1 (same.0 (one.0 z)), λ z. one.1 (same.1 (two.0 z)))

  pub pruned_list : IsStarFreeList ys place
  pruned_list = record {
    earlier = pruned_earlier;
    inside = let e = h.long in let r = h.root_at.0 in
        omega arith;
  }

  pub pruned_denotes : (k : ℕ) (w : List ℕ) → Denotes k ys place w ↔ Denotes k xs root w
  pruned_denotes k w = subst (λ (i : ℕ). Denotes k ys place w ↔ Denotes k xs i w) h.root_at.1
      (pruned_alike k (suc (slice_index kept place)) place h.root_at.0 (omega arith) w)
