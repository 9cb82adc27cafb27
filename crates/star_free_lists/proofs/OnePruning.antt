-- A list has one pruning, and pruning makes no two nodes equal.
use Rattle.std.proofs.Common.{◌≡◌, ◌∙◌, ◌<◌, ℕ, zero, suc, List, [], ◌∷◌, length, slice_index, refl, sym, ap, subst, ◌⊎◌, inl, inr, arith}
use Rattle.std.proofs.lemmas.Bool.{cases_lt}
use Rattle.std.proofs.lemmas.List.{get_or_default, same_lists}
use Rattle.star_free_theory.specs.declared.nodes.SfNode.TheVariants as node
use Rattle.star_free_theory.specs.declared.nodes.SfNode.{SfNode}
use Rattle.star_free_theory.specs.StarFree.{IsStarFreeList}
use Rattle.star_free_theory.specs.Pruning.{IsAt, IsPruning, IsRenumbered, node_at}
use Rattle.star_free_lists.specs.Pruning.{AreDistinct}
use Rattle.star_free_lists.proofs.Needed.{needed_within}

-- rising lists with the same members

abbrev Rises : List ℕ → Type 0
Rises xs = (p q : ℕ) → p < q → q < length xs → slice_index xs p < slice_index xs q

abbrev Within : List ℕ → List ℕ → Type 0
Within xs ys = (i p : ℕ) → IsAt xs p i → (q : ℕ) × IsAt ys q i

head_or_tail : (y : ℕ) (ys : List ℕ) (p i : ℕ) → IsAt (y ∷ ys) p i
    → (y ≡ i) ⊎ ((q : ℕ) × IsAt ys q i × (p ≡ suc q))
head_or_tail y ys zero i a = inl a.1
head_or_tail y ys (suc p) i a = inr (p, (let l = a.0 in omega arith, a.1), refl)

rises_tail : (x : ℕ) (xs : List ℕ) → Rises (x ∷ xs) → Rises xs
rises_tail x xs r p q l m = r (suc p) (suc q) (omega arith) (omega arith)

above_head : (x : ℕ) (xs : List ℕ) → Rises (x ∷ xs) → (p i : ℕ) → IsAt xs p i → x < i
above_head x xs r p i a = let l = a.0 in let e = a.1 in
    let m : x < slice_index xs p = r zero (suc p) (omega arith) (omega arith) in omega arith

-- the head of the second list is not above that of the first
head_below : (x : ℕ) (xs : List ℕ) (y : ℕ) (ys : List ℕ) → Rises (y ∷ ys)
    → Within (x ∷ xs) (y ∷ ys) → (y ≡ x) ⊎ (y < x)
head_below x xs y ys r f = let a = f x zero (omega arith, refl) in
    elim (head_or_tail y ys a.0 x a.1) [
      | inl e ↦ inl e
      | inr b ↦ inr (above_head y ys r b.0 x b.1)
    ]

within_tail : (x : ℕ) (xs : List ℕ) (y : ℕ) (ys : List ℕ) → Rises (x ∷ xs) → x ≡ y
    → Within (x ∷ xs) (y ∷ ys) → Within xs ys
within_tail x xs y ys r e f i p a =
    let b = f i (suc p) (let l = a.0 in omega arith, a.1) in
    elim (head_or_tail y ys b.0 i b.1) [
      | inl g ↦ absurd (let m = above_head x xs r p i a in omega arith)
      | inr c ↦ (c.0, c.1)
    ]

rising_equal : (xs ys : List ℕ) → Rises xs → Rises ys → Within xs ys → Within ys xs → xs ≡ ys
rising_equal [] [] r s f g = refl
rising_equal [] (y ∷ ys) r s f g = absurd (let a = g y zero (omega arith, refl) in
    let l = a.1.0 in omega arith)
rising_equal (x ∷ xs) [] r s f g = absurd (let a = f x zero (omega arith, refl) in
    let l = a.1.0 in omega arith)
rising_equal (x ∷ xs) (y ∷ ys) r s f g =
    let a = head_below x xs y ys s f in
    let b = head_below y ys x xs r g in
    let e : x ≡ y = elim a
    [ inl h ↦ sym h | inr h ↦ elim b [ inl k ↦ k | inr k ↦ absurd (omega arith) ] ] in
    let t : xs ≡ ys = rising_equal xs ys (rises_tail x xs r) (rises_tail y ys s)
    (within_tail x xs y ys r e f) (within_tail y ys x xs s (sym e) g) in
    cc

-- renumbered nodes

at_one : (kept : List ℕ) → Rises kept → (p q i : ℕ) → IsAt kept p i → IsAt kept q i → p ≡ q
at_one kept r p q i a b =
    let e = a.1 in
    let f = b.1 in
    elim (cases_lt p q) [
      | inl l ↦ absurd (let m = r p q l b.0 in omega arith)
      | inr l ↦ elim (cases_lt q p) [
        | inl m ↦ absurd (let n = r q p m a.0 in omega arith)
        | inr m ↦ omega arith
      ]
    ]

renumbered_one : (kept : List ℕ) → Rises kept → (x y z : SfNode) → IsRenumbered kept x y
    → IsRenumbered kept x z → y ≡ z
renumbered_one kept r node.Empty node.Empty node.Empty a b = refl
renumbered_one kept r node.Eps node.Eps node.Eps a b = refl
renumbered_one kept r (node.Letter i) (node.Letter p) (node.Letter q) a b =
    ap node.Letter (sym a ∙ b)
renumbered_one kept r (node.Not i) (node.Not p) (node.Not q) a b =
    ap node.Not (at_one kept r p q i a b)
renumbered_one kept r (node.Cat i j) (node.Cat p q) (node.Cat t u) a b =
    let e = at_one kept r p t i a.0 b.0 in let f = at_one kept r q u j a.1 b.1 in cc
renumbered_one kept r (node.Or i j) (node.Or p q) (node.Or t u) a b =
    let e = at_one kept r p t i a.0 b.0 in let f = at_one kept r q u j a.1 b.1 in cc
renumbered_one kept r (node.And i j) (node.And p q) (node.And t u) a b =
    let e = at_one kept r p t i a.0 b.0 in let f = at_one kept r q u j a.1 b.1 in cc
renumbered_one kept r _ _ _ a b = absurd assumption

at_same : (kept : List ℕ) (p i j : ℕ) → IsAt kept p i → IsAt kept p j → i ≡ j
at_same kept p i j a b = sym a.1 ∙ b.1

renumbered_from : (kept : List ℕ) (x z y : SfNode) → IsRenumbered kept x z
    → IsRenumbered kept y z → x ≡ y
renumbered_from kept node.Empty node.Empty node.Empty a b = refl
renumbered_from kept node.Eps node.Eps node.Eps a b = refl
renumbered_from kept (node.Letter i) (node.Letter q) (node.Letter p) a b =
    ap node.Letter (a ∙ sym b)
renumbered_from kept (node.Not i) (node.Not p) (node.Not j) a b =
    ap node.Not (at_same kept p i j a b)
renumbered_from kept (node.Cat i j) (node.Cat p q) (node.Cat t u) a b =
    let e = at_same kept p i t a.0 b.0 in let f = at_same kept q j u a.1 b.1 in cc
renumbered_from kept (node.Or i j) (node.Or p q) (node.Or t u) a b =
    let e = at_same kept p i t a.0 b.0 in let f = at_same kept q j u a.1 b.1 in cc
renumbered_from kept (node.And i j) (node.And p q) (node.And t u) a b =
    let e = at_same kept p i t a.0 b.0 in let f = at_same kept q j u a.1 b.1 in cc
renumbered_from kept _ _ _ a b = absurd assumption

pub pruned_distinct : (nodes : List SfNode) (root : ℕ) (kept : List ℕ) (pruned : List SfNode)
    (place : ℕ) → IsStarFreeList nodes root → IsPruning nodes root kept pruned place
    → AreDistinct nodes → AreDistinct pruned
pruned_distinct nodes root kept pruned place s h d p q l m e =
    let long = h.long in
    let b : q < length kept = omega arith in
    let a : p < length kept = omega arith in
    let i = slice_index kept p in
    let j = slice_index kept q in
    d i j (h.rises p q l b) (needed_within nodes root s j ((h.needed j).1 (q, (b, refl))))
    (renumbered_from kept (node_at nodes i) (node_at pruned q) (node_at nodes j)
    (subst (IsRenumbered kept (node_at nodes i)) e (h.node p a)) (h.node q b))

pub one_pruning : (nodes : List SfNode) (root : ℕ) (kept others : List ℕ)
    (pruned list : List SfNode) (place number : ℕ) → IsPruning nodes root kept pruned place
    → IsPruning nodes root others list number
    → (kept ≡ others) × (pruned ≡ list) × (place ≡ number)
one_pruning nodes root kept others pruned list place number h g =
    let same : kept ≡ others = rising_equal kept others h.rises g.rises
    (λ i p a. (g.needed i).0 ((h.needed i).1 (p, a)))
    (λ i p a. (h.needed i).0 ((g.needed i).1 (p, a))) in
    let i : IsPruning nodes root kept list number =
    subst (λ (ks : List ℕ). IsPruning nodes root ks list number) (sym same) g in
    let l = h.long in
    let m = i.long in (
      same,
      same_lists pruned list (omega arith) (λ k x b.
          get_or_default pruned k x node.Empty b
          ∙ renumbered_one kept h.rises (node_at nodes (slice_index kept k)) (node_at pruned k)
          (node_at list k) (h.node k (omega arith)) (i.node k (omega arith))
          ∙ sym (get_or_default list k x node.Empty (omega arith))),
      at_one kept h.rises place number root h.root_at i.root_at,
    )
