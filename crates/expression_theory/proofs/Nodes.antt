-- The nodes that the scan counts are the nodes of the tree.
use Rattle.std.proofs.Common.{◌≡◌, ℕ, ◌+◌, Bool, true, false, cond, List, [], ◌∷◌, ◌++◌, refl, ap, append_assoc, arith}
use Rattle.std.proofs.Common.{length, length-append, ◌≤◌}
use Rattle.std.proofs.lemmas.List.{append-nil}
use Rattle.expression_theory.specs.Positions.{positions}
use Rattle.expression_theory.specs.Expression.{Tree, Zero, One, Letter, Or, Cat, Star, Plus, Opt, nodes}
use Rattle.expression_theory.specs.Grammar.{Leaf, leaf_tree, Quantifier, applied, Sign, Operand, Bar, Postfix, Open, Close, Level, Atom, Piece, Sequence, Union, Spells, operand, inside, atom, postfix, one_piece, next_piece, one_sequence, next_sequence}
use Rattle.expression_theory.specs.Scan.{Class, Skipped, Unknown, Strange, Good, signs_in, due_by, cost, nodes_from}
use Rattle.expression_theory.specs.declared.signs.Leaf.TheVariants as leaf
use Rattle.expression_theory.specs.declared.signs.Quantifier.TheVariants as quantifier

-- the count over signs alone
abbrev pub counted : Bool → List Sign → ℕ
counted d [] = 0
counted d (s ∷ w) = cost d (Good s) + counted (due_by d (Good s)) w

-- spaces and tabs add no nodes
pub counted_signs : (d : Bool) (cs : List Class) → nodes_from d cs ≡ counted d (signs_in cs)
counted_signs d [] = refl
counted_signs d (Skipped ∷ cs) = let e = counted_signs d cs in omega arith
counted_signs d (Unknown ∷ cs) = let e = counted_signs d cs in omega arith
counted_signs d (Strange ∷ cs) = let e = counted_signs d cs in omega arith
counted_signs d (Good s ∷ cs) = let e = counted_signs (due_by d (Good s)) cs in omega arith

-- the signs w add the nodes of the tree, and one more where they stand behind a piece
abbrev pub Adds : List Sign → Tree → Type 0
Adds w t = (d : Bool) (rest : List Sign)
    → counted d (w ++ rest) ≡ nodes t + cond d 0 1 + counted false rest

leaf_node : (x : Leaf) → nodes (leaf_tree x) ≡ 1
leaf_node leaf.Zero = refl
leaf_node leaf.One = refl
leaf_node (leaf.Letter a) = refl

adds_operand : (x : Leaf) → Adds (Operand x ∷ []) (leaf_tree x)
adds_operand x true rest = let e = leaf_node x in omega arith
adds_operand x false rest = let e = leaf_node x in omega arith

adds_inside : (w : List Sign) (t : Tree) → Adds w t → Adds (Open ∷ (w ++ Close ∷ [])) t
adds_inside w t h true rest = let e = h true (Close ∷ rest) in
    let f = ap (counted true) (append_assoc w (Close ∷ []) rest) in omega arith
adds_inside w t h false rest = let e = h true (Close ∷ rest) in
    let f = ap (counted true) (append_assoc w (Close ∷ []) rest) in omega arith

nodes_applied : (m : Quantifier) (t : Tree) → nodes (applied m t) ≡ nodes t + 1
nodes_applied quantifier.Star t = refl
nodes_applied quantifier.Plus t = refl
nodes_applied quantifier.Opt t = refl

adds_postfix : (w : List Sign) (t : Tree) (m : Quantifier) → Adds w t
    → Adds (w ++ Postfix m ∷ []) (applied m t)
adds_postfix w t m h d rest =
    let e = h d (Postfix m ∷ rest) in
    let f = ap (counted d) (append_assoc w (Postfix m ∷ []) rest) in
    let g = nodes_applied m t in omega arith

adds_next_piece : (u v : List Sign) (s t : Tree) → Adds u s → Adds v t → Adds (u ++ v) (Cat s t)
adds_next_piece u v s t h k d rest =
    let e = h d (v ++ rest) in let f = ap (counted d) (append_assoc u v rest) in
    let g = k false rest in omega arith

adds_next_sequence : (u v : List Sign) (s t : Tree) → Adds u s → Adds v t
    → Adds (u ++ Bar ∷ v) (Or s t)
adds_next_sequence u v s t h k d rest =
    let e = h d (Bar ∷ (v ++ rest)) in let f = ap (counted d) (append_assoc u (Bar ∷ v) rest) in
    let g = k true rest in omega arith

adds : (l : Level) (w : List Sign) (t : Tree) → Spells l w t → Adds w t
adds l w t (operand {x = x}) = adds_operand x
adds l w t (inside {w = v} {t = x} s) = adds_inside v x (adds Union v x s)
adds l w t (atom {w = v} {t = x} s) = adds Atom v x s
adds l w t (postfix {w = v} {t = x} m s) = adds_postfix v x m (adds Piece v x s)
adds l w t (one_piece {w = v} {t = x} s) = adds Piece v x s
adds l w t (next_piece {u = u} {v = v} {s = x} {t = y} s k) =
    adds_next_piece u v x y (adds Sequence u x s) (adds Piece v y k)
adds l w t (one_sequence {w = v} {t = x} s) = adds Sequence v x s
adds l w t (next_sequence {u = u} {v = v} {s = x} {t = y} s k) =
    adds_next_sequence u v x y (adds Union u x s) (adds Sequence v y k)

-- the nodes that are counted are those of the tree
pub nodes_counted : (cs : List Class) (t : Tree) → Spells Union (signs_in cs) t
    → nodes_from true cs ≡ nodes t
nodes_counted cs t s =
    let e = adds Union (signs_in cs) t s true [] in
    let f = ap (counted true) (append-nil (signs_in cs)) in
    let g = counted_signs true cs in
    omega arith

-- a tree has no more positions than nodes
pub positions_within : (t : Tree) → length (positions t) ≤ nodes t
positions_within Zero = omega arith
positions_within One = omega arith
positions_within (Letter a) = omega arith
positions_within (Or s t) = let e = positions_within s in let f = positions_within t in
    omega (arith, length-append (positions s) (positions t))
positions_within (Cat s t) = let e = positions_within s in let f = positions_within t in
    omega (arith, length-append (positions s) (positions t))
positions_within (Star t) = let e = positions_within t in omega arith
positions_within (Plus t) = let e = positions_within t in omega arith
positions_within (Opt t) = let e = positions_within t in omega arith
