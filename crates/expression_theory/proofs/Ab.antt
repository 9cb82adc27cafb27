-- What is computed of expressions over the letters a = 0 and b = 1.
use Rattle.std.proofs.Common.{◌≡◌, true, Some, [], ◌∷◌, codes, refl}
use Rattle.expression_theory.specs.Expression.{Zero, Letter, Or, Cat, Star}
use Rattle.expression_theory.specs.Positions.{numbered}
use Rattle.expression_theory.specs.FirstLast.{has_empty, firsts, lasts}
use Rattle.expression_theory.specs.Frames.{tree_read}
use Rattle.expression_theory.specs.Scan.{classes, signs_in}

-- in a0|b the position of b alone begins a word
pub dead_firsts : firsts (numbered 1 (Or (Cat (Letter 0) Zero) (Letter 1))) ≡ 2 ∷ []
dead_firsts = refl

-- and it alone ends one
pub dead_lasts : lasts (numbered 1 (Or (Cat (Letter 0) Zero) (Letter 1))) ≡ 2 ∷ []
dead_lasts = refl

-- (ab)* has the empty word
pub star_empty : has_empty (Star (Cat (Letter 0) (Letter 1))) ≡ true
star_empty = refl

-- abb groups to the left
pub abb_read : tree_read (signs_in (classes (codes "ab") (codes "abb")))
    ≡ Some (Cat (Cat (Letter 0) (Letter 1)) (Letter 1))
abb_read = refl
