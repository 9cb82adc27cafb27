-- What the grammar spells passes the tests of the scan.
use Rattle.std.proofs.Common.{ℕ, suc, Bool, true, false, List, [], ◌∷◌, ◌++◌, refl, sym, subst, append_assoc}
use Rattle.std.proofs.lemmas.List.{append-nil}
use Rattle.expression_theory.specs.Expression.{Tree}
use Rattle.expression_theory.specs.Grammar.{Quantifier, Sign, Bar, Postfix, Open, Close, Level, Atom, Piece, Sequence, Union, Spells, operand, inside, atom, postfix, one_piece, next_piece, one_sequence, next_sequence}
use Rattle.expression_theory.proofs.Passing.{Passes}

-- behind the signs w the scan goes on with no operand due
abbrev pub Lets : List Sign → Type 0
Lets w = (due : Bool) (n : ℕ) (rest : List Sign) → Passes false n rest → Passes due n (w ++ rest)

lets_on : (u v : List Sign) → Lets u → Lets v → Lets (u ++ v)
lets_on u v h k due n rest p = subst (Passes due n) (sym (append_assoc u v rest))
    (h due n (v ++ rest) (k false n rest p))

lets_inside : (w : List Sign) → Lets w → Lets (Open ∷ (w ++ Close ∷ []))
lets_inside w h due n rest p = subst (Passes true (suc n)) (sym (append_assoc w (Close ∷ []) rest))
    (h true (suc n) (Close ∷ rest) (refl, p))

lets_bar : (u v : List Sign) → Lets u → Lets v → Lets (u ++ Bar ∷ v)
lets_bar u v h k due n rest p = subst (Passes due n) (sym (append_assoc u (Bar ∷ v) rest))
    (h due n (Bar ∷ (v ++ rest)) (refl, k true n rest p))

lets_postfix : (w : List Sign) (m : Quantifier) → Lets w → Lets (w ++ Postfix m ∷ [])
lets_postfix w m h due n rest p = subst (Passes due n) (sym (append_assoc w (Postfix m ∷ []) rest))
    (h due n (Postfix m ∷ rest) (refl, p))

lets : (l : Level) (w : List Sign) (t : Tree) → Spells l w t → Lets w
lets l w t operand = λ due n rest p. p
lets l w t (inside {w = v} {t = x} h) = lets_inside v (lets Union v x h)
lets l w t (atom {w = v} {t = x} h) = lets Atom v x h
lets l w t (postfix {w = v} {t = x} m h) = lets_postfix v m (lets Piece v x h)
lets l w t (one_piece {w = v} {t = x} h) = lets Piece v x h
lets l w t (next_piece {u = u} {v = v} {s = x} {t = y} h k) =
    lets_on u v (lets Sequence u x h) (lets Piece v y k)
lets l w t (one_sequence {w = v} {t = x} h) = lets Sequence v x h
lets l w t (next_sequence {u = u} {v = v} {s = x} {t = y} h k) =
    lets_bar u v (lets Union u x h) (lets Sequence v y k)

-- what the grammar spells passes the scan, but for the limits
pub spells_passes : (w : List Sign) (t : Tree) → Spells Union w t → Passes true 0 w
spells_passes w t h = subst (Passes true 0) (append-nil w) (lets Union w t h true 0 [] (refl, refl))
