-- A node of a list denotes its meaning, where each names earlier ones.
use Rattle.std.proofs.Common.{◌≡◌, ℕ, zero, suc, ◌+◌, ◌<◌, List, [], ◌∷◌, ◌++◌, ◌↔◌, append_assoc, sym, subst, ◌∙◌, ap, refl, ◌⊎◌, inl, inr, arith, length}
use Rattle.std.proofs.lemmas.List.{length-append}
use Rattle.star_free_theory.specs.declared.nodes.SfNode.TheVariants as node
use Rattle.star_free_theory.specs.Pruning.{node_at}
use Rattle.star_free_theory.specs.StarFree.{Denotes, Meaning, NameEarlier, NamesBelow, SfNode}
use Rattle.star_free_theory.specs.Treating.{Extends, Stands}
use Rattle.star_free_theory.proofs.Fits.{Concat-more}
use Rattle.star_free_theory.proofs.Meanings.{extends_all, stands_alike, stands_later, stands_one}

-- what a node means hangs on the nodes that it names
meaning_alike : (k n : ℕ) (x : SfNode) (M N : ℕ → List ℕ → Type 0) → NamesBelow n x
    → ((i : ℕ) → i < n → (w : List ℕ) → M i w ↔ N i w) → (w : List ℕ) → Meaning k x M w
    → Meaning k x N w
meaning_alike k n node.Empty M N l f w i = i
meaning_alike k n node.Eps M N l f w i = i
meaning_alike k n (node.Letter a) M N l f w i = i
meaning_alike k n (node.Not a) M N l f w i = (i.0, λ y. i.1 ((f a l w).1 y))
meaning_alike k n (node.Cat a b) M N l f w i = Concat-more (M a) (M b) (N a) (N b)
    (λ v. (f a l.0 v).0) (λ v. (f b l.1 v).0) w i
meaning_alike k n (node.Or a b) M N l f w (inl i) = inl ((f a l.0 w).0 i)
meaning_alike k n (node.Or a b) M N l f w (inr i) = inr ((f b l.1 w).0 i)
meaning_alike k n (node.And a b) M N l f w i = ((f a l.0 w).0 i.0, (f b l.1 w).0 i.1)

-- a node in a list denotes its meaning
pub head_stands : (k : ℕ) (zs : List SfNode) (y : SfNode) (ys : List SfNode)
    → NamesBelow (length zs) y
    → Stands k (zs ++ y ∷ ys) (length zs) (Meaning k y (Denotes k (zs ++ y ∷ ys)))
head_stands k zs y ys l =
    let all = zs ++ y ∷ ys in
    let g : Extends k zs all = extends_all k zs (y ∷ ys) in
    let h : Extends k (zs ++ y ∷ []) all = subst (Extends k (zs ++ y ∷ []))
    (append_assoc zs (y ∷ []) ys) (extends_all k (zs ++ y ∷ []) ys) in
    let q : Stands k all (length zs) (Meaning k y (Denotes k zs)) = stands_later k (zs ++ y ∷ [])
    all (length zs) (Meaning k y (Denotes k zs)) h (stands_one k zs y) in
    stands_alike k all (length zs) (Meaning k y (Denotes k zs)) (Meaning k y (Denotes k all))
    (λ w. (
      meaning_alike k (length zs) y (Denotes k zs) (Denotes k all) l
          (λ i j v. let r = g.stays i j v in (r.1, r.0)) w,
      meaning_alike k (length zs) y (Denotes k all) (Denotes k zs) l (λ i j v. g.stays i j v) w,
    )) q

-- each node names earlier ones, by its place
pub earlier_at : (n : ℕ) (xs : List SfNode) (p : ℕ) → NameEarlier n xs → p < length xs
    → NamesBelow (n + p) (node_at xs p)
earlier_at n [] p e l = absurd (omega arith)
earlier_at n (x ∷ xs) zero e l = let f : n ≡ n + 0 = omega arith in
    subst (λ (m : ℕ). NamesBelow m x) f e.0
earlier_at n (x ∷ xs) (suc p) e l = let f : suc n + p ≡ n + suc p = omega arith in
    subst (λ (m : ℕ). NamesBelow m (node_at xs p)) f (earlier_at (suc n) xs p e.1 (omega arith))

pub earlier_by : (n : ℕ) (xs : List SfNode)
    → ((p : ℕ) → p < length xs → NamesBelow (n + p) (node_at xs p)) → NameEarlier n xs
earlier_by n [] f = tt
earlier_by n (x ∷ xs) f = (
  let e : n + 0 ≡ n = omega arith in subst (λ (m : ℕ). NamesBelow m x) e (f 0 (omega arith)),
  earlier_by (suc n) xs
      (λ p l. let e : n + suc p ≡ suc n + p = omega arith in
      subst (λ (m : ℕ). NamesBelow m (node_at xs p)) e (f (suc p) (omega arith))),
)

-- a node denotes its meaning
at_place : (k : ℕ) (zs ys : List SfNode) (n m : ℕ) → m ≡ length zs + n → NameEarlier (length zs) ys
    → n < length ys → Stands k (zs ++ ys) m (Meaning k (node_at ys n) (Denotes k (zs ++ ys)))
at_place k zs [] n m d e l = absurd (omega arith)
at_place k zs (y ∷ ys) zero m d e l = let f : m ≡ length zs = omega arith in
    subst (λ (i : ℕ). Stands k (zs ++ y ∷ ys) i (Meaning k y (Denotes k (zs ++ y ∷ ys)))) (sym f)
    (head_stands k zs y ys e.0)
at_place k zs (y ∷ ys) (suc n) m d e l =
    let len = length-append zs (y ∷ []) in
    let f : suc (length zs) ≡ length (zs ++ y ∷ []) = omega arith in
    subst (λ (us : List SfNode). Stands k us m (Meaning k (node_at ys n) (Denotes k us)))
    (append_assoc zs (y ∷ []) ys)
    (at_place k (zs ++ y ∷ []) ys n m (omega arith) (subst (λ (i : ℕ). NameEarlier i ys) f e.1)
    (omega arith))

pub denotes_at : (k : ℕ) (xs : List SfNode) (n : ℕ) → NameEarlier 0 xs → n < length xs
    → (w : List ℕ) → Denotes k xs n w ↔ Meaning k (node_at xs n) (Denotes k xs) w
denotes_at k xs n e l w = (at_place k [] xs n n (omega arith) e l).means w
