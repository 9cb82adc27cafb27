-- The positions that the functions of the tree give are positions of the tree.
use Rattle.std.proofs.Common.{ℕ, ◌+◌, ◌<◌, ◌≤◌, Bool, true, false, cond, ◌&&◌, List, [], ◌++◌, length, length-append, arith}
use Rattle.std.specs.List.{All}
use Rattle.std.proofs.lemmas.List.Elements.{All-nil, All-cons, All-append}
use Rattle.expression_theory.specs.Expression.{Tree, Zero, One, Letter, Or, Cat, Star, Plus, Opt}
use Rattle.expression_theory.specs.Positions.{positions, numbered}
use Rattle.expression_theory.specs.FirstLast.{has_word, has_empty, firsts, lasts}

all_cond : (P : ℕ → Type 0) (b : Bool) (xs : List ℕ) → All P xs → All P (cond b xs [])
all_cond P true xs h = h
all_cond P false xs h = All-nil P

-- the positions of the left part are below the bound
pub left_fits : (n m : ℕ) (s t : Tree) → n + length (positions s ++ positions t) ≤ m
    → n + length (positions s) ≤ m
left_fits n m s t h = omega (arith, length-append (positions s) (positions t))

-- and those of the right part
pub right_fits : (n m : ℕ) (s t : Tree) → n + length (positions s ++ positions t) ≤ m
    → n + length (positions s) + length (positions t) ≤ m
right_fits n m s t h = omega (arith, length-append (positions s) (positions t))

-- what can begin is a position of the tree
pub firsts_below : (n m : ℕ) (t : Tree) → n + length (positions t) ≤ m
    → All (λ p. p < m) (firsts (numbered n t))
firsts_below n m Zero h = All-nil (λ p. p < m)
firsts_below n m One h = All-nil (λ p. p < m)
firsts_below n m (Letter a) h = All-cons (λ p. p < m) n [] (omega arith) (All-nil (λ p. p < m))
firsts_below n m (Or s t) h =
    All-append (λ p. p < m) (firsts (numbered n s)) (firsts (numbered (n + length (positions s)) t))
    (firsts_below n m s (left_fits n m s t h))
    (firsts_below (n + length (positions s)) m t (right_fits n m s t h))
firsts_below n m (Cat s t) h =
    let r = numbered (n + length (positions s)) t in
    all_cond (λ p. p < m) (has_word (numbered n s) && has_word r)
    (firsts (numbered n s) ++ cond (has_empty (numbered n s)) (firsts r) [])
    (All-append (λ p. p < m) (firsts (numbered n s)) (cond (has_empty (numbered n s)) (firsts r) [])
    (firsts_below n m s (left_fits n m s t h))
    (all_cond (λ p. p < m) (has_empty (numbered n s)) (firsts r)
    (firsts_below (n + length (positions s)) m t (right_fits n m s t h))))
firsts_below n m (Star t) h = firsts_below n m t h
firsts_below n m (Plus t) h = firsts_below n m t h
firsts_below n m (Opt t) h = firsts_below n m t h

-- what can end is a position of the tree
pub lasts_below : (n m : ℕ) (t : Tree) → n + length (positions t) ≤ m
    → All (λ p. p < m) (lasts (numbered n t))
lasts_below n m Zero h = All-nil (λ p. p < m)
lasts_below n m One h = All-nil (λ p. p < m)
lasts_below n m (Letter a) h = All-cons (λ p. p < m) n [] (omega arith) (All-nil (λ p. p < m))
lasts_below n m (Or s t) h =
    All-append (λ p. p < m) (lasts (numbered n s)) (lasts (numbered (n + length (positions s)) t))
    (lasts_below n m s (left_fits n m s t h))
    (lasts_below (n + length (positions s)) m t (right_fits n m s t h))
lasts_below n m (Cat s t) h =
    let r = numbered (n + length (positions s)) t in
    all_cond (λ p. p < m) (has_word (numbered n s) && has_word r)
    (cond (has_empty r) (lasts (numbered n s)) [] ++ lasts r)
    (All-append (λ p. p < m) (cond (has_empty r) (lasts (numbered n s)) []) (lasts r)
    (all_cond (λ p. p < m) (has_empty r) (lasts (numbered n s))
    (lasts_below n m s (left_fits n m s t h)))
    (lasts_below (n + length (positions s)) m t (right_fits n m s t h)))
lasts_below n m (Star t) h = lasts_below n m t h
lasts_below n m (Plus t) h = lasts_below n m t h
lasts_below n m (Opt t) h = lasts_below n m t h
