-- The least texts beyond the two limits.
use Rattle.std.proofs.Common.{◌≡◌, ℕ, zero, suc, ◌+◌, ◌<◌, Bool, true, false, cond, inl, Some, None, ◌∷◌, map, get_or, replicate, codes, refl, ap, sym, subst, ◌∙◌, arith, nat_lt, ◌≤◌, ◌-◌}
use Rattle.std.proofs.lemmas.List.{take-replicate, get_or-replicate, length-replicate}
use Rattle.std.proofs.lemmas.Bool.Decides.{Decides-ltb}
use Rattle.expression_theory.specs.Grammar.{Operand, Postfix, Open}
use Rattle.expression_theory.specs.Scan.{Class, Strange, Good, Unexpected, TooLarge, TooDeep, due_from, opens, closes, depth, nodes_from, size_test, failing, failing_after, failing_at, class_of, classes, IsFault, most_open}
use Rattle.expression_theory.specs.Expression.{most_nodes}
use Rattle.expression_theory.specs.declared.signs.Leaf.TheVariants as leaf
use Rattle.expression_theory.specs.declared.signs.Quantifier.TheVariants as quantifier

-- the classes of one byte n times
map_replicate : (f : ℕ → Class) (n b : ℕ) → map f (replicate n b) ≡ replicate n (f b)
map_replicate f zero b = refl
map_replicate f (suc n) b = ap (λ r. f b ∷ r) (map_replicate f n b)

-- n times `(`
due_open : (n : ℕ) → due_from true (replicate n (Good Open)) ≡ true
due_open zero = refl
due_open (suc n) = due_open n

opens_open : (n : ℕ) → opens (replicate n (Good Open)) ≡ n
opens_open zero = refl
opens_open (suc n) = let e = opens_open n in omega arith

closes_open : (n : ℕ) → closes (replicate n (Good Open)) ≡ 0
closes_open zero = refl
closes_open (suc n) = closes_open n

nodes_open : (n : ℕ) → nodes_from true (replicate n (Good Open)) ≡ 0
nodes_open zero = refl
nodes_open (suc n) = let e = nodes_open n in omega arith

behind_open : (i : ℕ) → failing_after (replicate i (Good Open)) (Good Open) ≡ failing true i 0
    (Good Open)
behind_open i =
    let e : depth (replicate i (Good Open)) ≡ i = let f = opens_open i in let g = closes_open i in
    omega arith in
    ap (λ d. failing d (depth (replicate i (Good Open))) (nodes_from true (replicate i (Good Open)))
    (Good Open)) (due_open i)
    ∙ ap (λ o. failing true o (nodes_from true (replicate i (Good Open))) (Good Open)) e
    ∙ ap (λ n. failing true i n (Good Open)) (nodes_open i)

at_open : (n i : ℕ) → i < n → failing_at (replicate n (Good Open)) i ≡ failing true i 0 (Good Open)
at_open n i h =
    ap (λ before. failing_after before (get_or (replicate n (Good Open)) i Strange))
    (take-replicate i n (Good Open) (omega arith))
    ∙ ap (λ c. failing_after (replicate i (Good Open)) c)
    (get_or-replicate n i (Good Open) Strange h)
    ∙ behind_open i

open_fault : IsFault (replicate (most_open + 1) (Good Open)) TooDeep most_open
open_fault = record {
  before = λ i h. at_open (most_open + 1) i (omega arith)
      ∙ ap (λ b. cond b None (Some TooDeep)) ((Decides-ltb i most_open).1 h);
  here = inl (
    let e = length-replicate (most_open + 1) (Good Open) in
        omega arith,
    at_open (most_open + 1) most_open (omega arith),
  );
}

-- one `(` too many
pub too_deep : IsFault (classes (codes "ab") (replicate (most_open + 1) 40)) TooDeep most_open
too_deep = subst (λ cs. IsFault cs TooDeep most_open)
    (sym (map_replicate (class_of (codes "ab")) (most_open + 1) 40)) open_fault

-- n times `*`
due_star : (n : ℕ) → due_from false (replicate n (Good (Postfix quantifier.Star))) ≡ false
due_star zero = refl
due_star (suc n) = due_star n

nodes_star : (n : ℕ) → nodes_from false (replicate n (Good (Postfix quantifier.Star))) ≡ n
nodes_star zero = refl
nodes_star (suc n) = let e = nodes_star n in omega arith

behind_star : (i : ℕ)
    → failing_after (Good (Operand (leaf.Letter 0)) ∷ replicate i (Good (Postfix quantifier.Star)))
    (Good (Postfix quantifier.Star)) ≡ size_test (i + 2)
behind_star i =
    let e : 1 + nodes_from false (replicate i (Good (Postfix quantifier.Star))) + 1 ≡ i + 2 =
    let f = nodes_star i in omega arith in
    ap (λ d. cond d (Some Unexpected)
    (size_test (1 + nodes_from false (replicate i (Good (Postfix quantifier.Star))) + 1)))
    (due_star i)
    ∙ ap size_test e

at_star : (n i : ℕ) → i < n
    → failing_at (Good (Operand (leaf.Letter 0)) ∷ replicate n (Good (Postfix quantifier.Star)))
    (suc i) ≡ size_test (i + 2)
at_star n i h =
    ap (λ before. failing_after (Good (Operand (leaf.Letter 0)) ∷ before)
    (get_or (replicate n (Good (Postfix quantifier.Star))) i Strange))
    (take-replicate i n (Good (Postfix quantifier.Star)) (omega arith))
    ∙ ap (λ c. failing_after
    (Good (Operand (leaf.Letter 0)) ∷ replicate i (Good (Postfix quantifier.Star))) c)
    (get_or-replicate n i (Good (Postfix quantifier.Star)) Strange h)
    ∙ behind_star i

size_small : (n : ℕ) → n ≤ most_nodes → size_test n ≡ None
size_small n h = ap (λ b. cond b (Some TooLarge) None) (ltb_false (nat_lt most_nodes n) refl)
  where
    ltb_false : (b : Bool) → nat_lt most_nodes n ≡ b → nat_lt most_nodes n ≡ false
    ltb_false true e = let f = (Decides-ltb most_nodes n).0 e in absurd (omega arith)
    ltb_false false e = e

star_fault : IsFault
    (Good (Operand (leaf.Letter 0)) ∷ replicate most_nodes (Good (Postfix quantifier.Star)))
    TooLarge most_nodes
star_fault = record {
  before = before;
  here = inl (
    let e = length-replicate most_nodes (Good (Postfix quantifier.Star)) in
        omega arith,
    at_star most_nodes (most_nodes - 1) (omega arith),
  );
}
  where
    before : (i : ℕ) → i < most_nodes
        → failing_at (Good (Operand (leaf.Letter 0)) ∷ replicate most_nodes
        (Good (Postfix quantifier.Star))) i ≡ None
    before zero h = refl
    before (suc i) h = at_star most_nodes i (omega arith) ∙ size_small (i + 2) (omega arith)

-- a, and as many `*` as nodes are allowed
pub too_large : IsFault (classes (codes "ab") (97 ∷ replicate most_nodes 42)) TooLarge most_nodes
too_large =
    subst (λ cs. IsFault cs TooLarge most_nodes)
    (ap (λ r. Good (Operand (leaf.Letter 0)) ∷ r)
    (sym (map_replicate (class_of (codes "ab")) most_nodes 42))) star_fault
