-- The tree of an expression, without the addresses of its boxes.
use Rattle.std.specs.Prelude.{Option, Some, None, List, map, reverse}
use Rattle.std.specs.Borrow.{Bor}
use Rattle.expression_theory.specs.Expression.{Tree, Zero, One, Letter, Or, Cat, Star, Plus, Opt}
use Rattle.regex_reader.specs.declared.expr.Expr.{Expr}
use Rattle.regex_reader.specs.declared.expr.Expr.TheVariants as expr

-- the tree of an expression
abbrev pub tree_of : Expr → Tree
tree_of expr.Zero = Zero
tree_of expr.One = One
tree_of (expr.Letter a) = Letter a
tree_of (expr.Or' p a q b) = Or (tree_of a) (tree_of b)
tree_of (expr.Cat' p a q b) = Cat (tree_of a) (tree_of b)
tree_of (expr.Star' p a) = Star (tree_of a)
tree_of (expr.Plus' p a) = Plus (tree_of a)
tree_of (expr.Opt' p a) = Opt (tree_of a)

-- the tree, if there is one
abbrev pub tree_in : Option Expr → Option Tree
tree_in None = None
tree_in (Some e) = Some (tree_of e)

-- the trees of the expressions that wait, the last one first
abbrev pub waiting_trees : List (Bor Expr) → List Tree
waiting_trees es = map (λ e. tree_of e.now) (reverse es)
