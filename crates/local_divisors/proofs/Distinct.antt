-- No two nodes of the construction's list are equal.
use Rattle.std.proofs.Common.{◌≡◌, ◌≢◌, ℕ, zero, suc, ◌<◌, ◌≤◌, ◌-◌, ◌++◌, true, List, [], ◌∷◌, length, length-append, Some, None, inl, inr, refl, sym, ap, ◌∙◌, arith}
use Rattle.std.specs.Prelude.{not}
use Rattle.std.specs.List.{position_or_len}
use Rattle.std.proofs.lemmas.Bool.{cases_lt, lt-ltb, eq-eqb}
use Rattle.std.proofs.lemmas.List.{get_or_append_left}
use Rattle.std.proofs.lemmas.List.Sums.{prefix_len_passes}
use Rattle.std.proofs.Math.Seq.{get_or-append_right}
use Rattle.star_free_theory.specs.declared.nodes.SfNode.{SfNode}
use Rattle.star_free_theory.specs.declared.nodes.SfNode.TheVariants as node
use Rattle.star_free_theory.specs.Construction.{Algebra, construction, done, opening, place, same_node}
use Rattle.star_free_theory.specs.Pruning.{node_at}
use Rattle.star_free_lists.specs.Pruning.{AreDistinct}
use Rattle.local_divisors.proofs.Keeping.{kept_construction}

same_self : (x : SfNode) → same_node x x ≡ true
same_self node.Empty = refl
same_self node.Eps = refl
same_self (node.Letter a) = eq-eqb a a refl
same_self (node.Not i) = eq-eqb i i refl
same_self (node.Cat i j) = rw (eq-eqb i i refl, eq-eqb j j refl) refl
same_self (node.Or i j) = rw (eq-eqb i i refl, eq-eqb j j refl) refl
same_self (node.And i j) = rw (eq-eqb i i refl, eq-eqb j j refl) refl

-- a node without a place stands nowhere
past_all : (x : SfNode) (xs : List SfNode) → place x xs ≡ None
    → length xs ≤ position_or_len (same_node x) xs
past_all x xs e = elim (cases_lt (position_or_len (same_node x) xs) (length xs)) [
  | inr l ↦ l
  | inl l ↦ absurd (let f : Some (position_or_len (same_node x) xs) ≡ None =
      sym (rw (lt-ltb (position_or_len (same_node x) xs) (length xs) l) refl) ∙ e in cc)
]

stands_nowhere : (x : SfNode) (xs : List SfNode) (n : ℕ) → place x xs ≡ None → n < length xs
    → node_at xs n ≢ x
stands_nowhere x xs n e l is =
    let long = past_all x xs e in
    let other : not (same_node x (node_at xs n)) ≡ true =
    prefix_len_passes (λ y. not (same_node x y)) xs n node.Empty (omega (arith, l, long)) in
    let same : same_node x (node_at xs n) ≡ true = ap (same_node x) is ∙ same_self x in cc

distinct_push : (xs : List SfNode) (x : SfNode) → place x xs ≡ None → AreDistinct xs
    → AreDistinct (xs ++ x ∷ [])
distinct_push xs x e d p q l m is =
    let long = length-append xs (x ∷ []) in
    let lp : p < length xs = omega (arith, l, m, long) in
    let at_p : node_at (xs ++ x ∷ []) p ≡ node_at xs p =
    get_or_append_left xs (x ∷ []) node.Empty p lp in
    elim (cases_lt q (length xs)) [
      | inl k ↦ d p q l k (sym at_p ∙ is ∙ get_or_append_left xs (x ∷ []) node.Empty q k)
      | inr k ↦ stands_nowhere x xs p e lp (sym at_p ∙ is ∙ last q m k)
    ]
  where
    last : (q : ℕ) → q < length (xs ++ x ∷ []) → length xs ≤ q → node_at (xs ++ x ∷ []) q ≡ x
    last q m k =
        let long = length-append xs (x ∷ []) in
        let none : q - length xs ≡ 0 = omega (arith, m, k, long) in
        get_or-append_right xs (x ∷ []) q node.Empty k
        ∙ ap (node_at (x ∷ [])) none

opening_distinct : AreDistinct opening
opening_distinct zero zero l m e = absurd (omega (arith, l))
opening_distinct zero (suc zero) l m e = cc
opening_distinct zero (suc (suc zero)) l m e = cc
opening_distinct (suc zero) zero l m e = absurd (omega (arith, l))
opening_distinct (suc zero) (suc zero) l m e = absurd (omega (arith, l))
opening_distinct (suc zero) (suc (suc zero)) l m e = cc
opening_distinct (suc (suc p)) q l m e = absurd (omega (arith, l, m))
opening_distinct zero (suc (suc (suc q))) l m e = absurd (omega (arith, m))
opening_distinct (suc zero) (suc (suc (suc q))) l m e = absurd (omega (arith, m))

pub distinct_constructed : (most : ℕ) (n k : ℕ) (A : Algebra) (finals : List ℕ)
    (r : List SfNode × ℕ) → construction (Some most) n k A finals ≡ done r → AreDistinct r.0
distinct_constructed most n k A finals r e =
    kept_construction k (Some most) AreDistinct (λ xs x below new room d. distinct_push xs x new d)
    n A finals opening_distinct r e
