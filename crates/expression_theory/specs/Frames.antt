-- Reading signs from the left, with a frame for each open parenthesis and one for the whole text.
use Rattle.std.specs.Prelude.{Option, Some, None, List, [], ◌∷◌}
use Rattle.expression_theory.specs.Expression.{Tree, Or, Cat}
use Rattle.expression_theory.specs.Grammar.{leaf_tree, applied, Sign, Operand, Bar, Postfix, Open, Close}

-- the union before the last `|`, the sequence before the last piece, and the last piece, as far
-- as there is any
pub data Frame : Type 0 where
  frame : (alternatives sequence piece : Option Tree) → Frame

-- a sequence, if there is one, and a piece behind it
abbrev pub joined : Option Tree → Tree → Tree
joined None t = t
joined (Some s) t = Cat s t

-- a union, if there is one, or a sequence
abbrev pub either : Option Tree → Tree → Tree
either None t = t
either (Some s) t = Or s t

-- all that a frame holds
abbrev pub whole : Option Tree → Option Tree → Tree → Tree
whole a s p = either a (joined s p)

-- the sequence with the last piece behind it
abbrev pub settle : Option Tree → Option Tree → Option Tree
settle s None = s
settle s (Some p) = Some (joined s p)

-- the frames after one more sign, the innermost first, and None where the sign may not stand there
abbrev pub step : List Frame → Sign → Option (List Frame)
step (frame a s q ∷ fs) (Operand x) = Some (frame a (settle s q) (Some (leaf_tree x)) ∷ fs)
step (frame a s q ∷ fs) Open = Some (frame None None None ∷ (frame a (settle s q) None ∷ fs))
step (frame a s (Some p) ∷ fs) Bar = Some (frame (Some (whole a s p)) None None ∷ fs)
step (frame a s (Some p) ∷ fs) (Postfix m) = Some (frame a s (Some (applied m p)) ∷ fs)
step (frame a s (Some p) ∷ (frame b r None ∷ fs)) Close = Some (frame b r (Some (whole a s p)) ∷ fs)
step fs x = None

-- the next step, where there is one
abbrev pub and_then : Option (List Frame) → (List Frame → Option (List Frame)) → Option (List Frame)
and_then None f = None
and_then (Some fs) f = f fs

-- the frames after all signs
abbrev pub run : List Frame → List Sign → Option (List Frame)
run fs [] = Some fs
run fs (x ∷ xs) = and_then (step fs x) (λ gs. run gs xs)

-- before the first sign
abbrev pub start : List Frame
start = frame None None None ∷ []

-- the tree, where one frame is left and has a piece
abbrev pub finished : Option (List Frame) → Option Tree
finished (Some (frame a s (Some p) ∷ [])) = Some (whole a s p)
finished other = None

-- the tree that is read, if any
abbrev pub tree_read : List Sign → Option Tree
tree_read w = finished (run start w)
