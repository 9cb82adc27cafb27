-- The grammar of expressions, over signs.
use Rattle.std.specs.Prelude.{List, [], ◌∷◌, ◌++◌}
use Rattle.expression_theory.specs.Expression.{Tree, Zero, One, Letter, Or, Cat, Star, Plus, Opt}
use Rattle.expression_theory.specs.declared.signs.Leaf.TheVariants as leaf
use Rattle.expression_theory.specs.declared.signs.Quantifier.TheVariants as quantifier
-- `0`, `1` and the letters; `*`, `+` and `?`; and all signs: `|` is a bar, and parentheses open and
-- close
pub use Rattle.expression_theory.specs.declared.signs.Leaf.{Leaf}
pub use Rattle.expression_theory.specs.declared.signs.Quantifier.{Quantifier}
pub use Rattle.expression_theory.specs.declared.signs.Sign.{Sign}
pub use Rattle.expression_theory.specs.declared.signs.Sign.TheVariants.{
  Operand,
  Bar,
  Postfix,
  Open,
  Close,
}

-- the tree of a leaf
abbrev pub leaf_tree : Leaf → Tree
leaf_tree leaf.Zero = Zero
leaf_tree leaf.One = One
leaf_tree (leaf.Letter a) = Letter a

-- a tree with a postfix sign behind it
abbrev pub applied : Quantifier → Tree → Tree
applied quantifier.Star t = Star t
applied quantifier.Plus t = Plus t
applied quantifier.Opt t = Opt t

-- the levels of the grammar, from the tightest
pub data Level : Type 0 where
  Atom : Level
  Piece : Level
  Sequence : Level
  Union : Level

-- A union is a sequence, or a union, `|` and a sequence. A sequence is a piece, or a sequence
-- and a piece.
-- A piece is an atom, or a piece and a postfix sign. An atom is a letter, `0`, `1`, or a union
-- in parentheses.
pub data Spells : Level → List Sign → Tree → Type 0 where
  operand : {x : Leaf} → Spells Atom (Operand x ∷ []) (leaf_tree x)
  inside : {w : List Sign} {t : Tree} → Spells Union w t → Spells Atom (Open ∷ (w ++ Close ∷ [])) t
  atom : {w : List Sign} {t : Tree} → Spells Atom w t → Spells Piece w t
  postfix : {w : List Sign} {t : Tree} (m : Quantifier) → Spells Piece w t
      → Spells Piece (w ++ Postfix m ∷ []) (applied m t)
  one_piece : {w : List Sign} {t : Tree} → Spells Piece w t → Spells Sequence w t
  next_piece : {u v : List Sign} {s t : Tree} → Spells Sequence u s → Spells Piece v t
      → Spells Sequence (u ++ v) (Cat s t)
  one_sequence : {w : List Sign} {t : Tree} → Spells Sequence w t → Spells Union w t
  next_sequence : {u v : List Sign} {s t : Tree} → Spells Union u s → Spells Sequence v t
      → Spells Union (u ++ Bar ∷ v) (Or s t)
