-- Nodes that are read from the last to the first.
use Rattle.std.proofs.Common.{◌≡◌, ℕ, zero, suc, ◌+◌, ◌-◌, ◌<◌, ◌≤◌, List, [], ◌∷◌, length, take, drop, get_or, reverse, refl, ap, sym, subst, ◌∙◌, arith, length-append}
use Rattle.std.proofs.lemmas.List.{take-append-drop, length-drop, length-reverse}
use Rattle.expression_theory.specs.Expression.{Tree}
use Rattle.expression_theory.specs.Polish.{polish, trees, IsNotation, letters}
use Rattle.expression_theory.proofs.Polish.{trees_of_polish, letters_append, notation_drop, positions_counted}
use Rattle.expression_theory.specs.declared.notation.Node.TheVariants as node
use Rattle.regex_reader.specs.Marks.{Table, widest}
use Rattle.regex_reader.specs.Parts.{IsPart, AreParts, IsEvaluated, HasCombined, CanRead, Summary}
use Rattle.regex_reader.proofs.Combining.{read_on, position_left, count_parts}
use Rattle.expression_theory.specs.declared.notation.Node.{Node}

-- a letter, which takes the next number
pub read_letter : (ns : List Node) (a n : ℕ) (xs ys : List Summary) (m : Table) → CanRead ns n xs m
    → get_or ns 0 node.Zero ≡ node.Letter a
    → ((a : ℕ) (table : Table) → HasCombined (node.Letter a) ((n - 1) + 1) xs table
    (n - 1) ys table)
    → IsEvaluated (trees ns) (n - 1) ys m
read_letter ns a n xs ys m h e c =
    let s = position_left ns n xs m h in
    let f : (n - 1) + 1 ≡ n = omega arith in
    read_on ns (node.Letter a) n (n - 1) xs ys m m h e
    (subst (λ i. HasCombined (node.Letter a) i xs m (n - 1) ys m) f (c a m))

drop_one : (i : ℕ) (ns : List Node) → drop 1 (drop i ns) ≡ drop (i + 1) ns
drop_one zero [] = refl
drop_one zero (n ∷ ns) = refl
drop_one (suc i) [] = let e : suc (i + 1) ≡ suc i + 1 = omega arith in ap (λ k. drop k []) e
drop_one (suc i) (n ∷ ns) = let e : suc (i + 1) ≡ suc i + 1 = omega arith in drop_one i ns
    ∙ ap (λ k. drop k (n ∷ ns)) e

-- the node at the place i can be read where those behind it have been
pub can_read : (ns : List Node) (i n : ℕ) (xs : List Summary) (m : Table) → IsNotation ns
    → m.width ≡ length (letters ns) + 1 → m.width ≤ widest → i < length ns →
    IsEvaluated (trees (drop (i + 1) ns)) n xs m → CanRead (drop i ns) n xs m
can_read ns i n xs m h w k b e =
    let l : length (drop i ns) ≡ length ns - i = length-drop i ns in
    let f : length (letters (take i ns)) + length (letters (drop i ns)) ≡ length (letters ns) =
    sym (ap length (letters_append (take i ns) (drop i ns))
    ∙ length-append (letters (take i ns)) (letters (drop i ns)))
    ∙ ap (λ ms. length (letters ms)) (take-append-drop i ns) in
    record {
      some = omega arith;
      notation = notation_drop i ns h;
      room = omega arith;
      narrow = k;
      behind = subst (λ ms. IsEvaluated (trees ms) n xs m) (sym (drop_one i ns)) e;
    }

-- behind the last node
pub all_read : (ns : List Node) (i n : ℕ) (xs : List Summary) (m : Table) → IsNotation ns
    → m.width ≡ length (letters ns) + 1 → i ≤ 0 → IsEvaluated (trees (drop i ns)) n xs m
    → IsEvaluated (trees ns) 1 xs m
all_read ns i n xs m h w z e =
    let f : IsEvaluated (trees ns) n xs m = subst (λ k. IsEvaluated (trees (drop k ns)) n xs m)
    (let g : i ≡ 0 = omega arith in g) e in
    let s = positions_counted ns h in
    let end = f.end in
    subst (λ k. IsEvaluated (trees ns) k xs m) (let g : n ≡ 1 = omega arith in g) f

-- one part is left, that of the tree
pub one_left : (ns : List Node) (t : Tree) (xs : List Summary) (m : Table) → ns ≡ polish t
    → IsEvaluated (trees ns) 1 xs m → IsEvaluated (t ∷ []) 1 xs m
one_left ns t xs m e h = subst (λ ts. IsEvaluated ts 1 xs m) (ap trees e ∙ trees_of_polish t) h

-- the part that is left is that of the tree
pub left_part : (t : Tree) (xs ys : List Summary) (r : Summary) (m : Table)
    → reverse xs ≡ r ∷ reverse ys → IsEvaluated (t ∷ []) 1 xs m → IsPart 1 t r
left_part t xs ys r m e h = let k : AreParts 1 (t ∷ []) (r ∷ reverse ys) =
    subst (AreParts 1 (t ∷ [])) e h.known in k.0

-- and it is there
pub left_some : (t : Tree) (xs : List Summary) (m : Table) → IsEvaluated (t ∷ []) 1 xs m
    → 1 ≤ length xs
left_some t xs m h = let e : length (reverse xs) ≡ length (t ∷ []) =
    count_parts 1 (t ∷ []) (reverse xs) h.known in omega (arith, length-reverse xs)
