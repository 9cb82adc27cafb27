-- What is known of the parts of an expression whose positions are numbered.
use Rattle.std.specs.Prelude.{◌≡◌, ◌+◌, ◌≤◌, ◌<◌, ◌&&◌, ℕ, Bool, true, List, [], ◌∷◌, length, reverse, drop}
use Rattle.std.specs.List.{All}
use Rattle.expression_theory.specs.Expression.{Tree, Cat, Plus}
use Rattle.expression_theory.specs.Positions.{positions, numbered}
use Rattle.expression_theory.specs.FirstLast.{has_word, has_empty, firsts, lasts, has, follows}
use Rattle.expression_theory.specs.Polish.{built, arity, trees, IsNotation, letters, positions_among, follows_among}
use Rattle.regex_reader.specs.Marks.{widest, Table, is_marked}
use Rattle.expression_theory.specs.declared.notation.Node.{Node}

-- What is known of a part of an expression: whether it has a word, and the empty word; whether it
-- is known that each position that can begin a word can follow each that can end one; how many
-- positions it has; and which of them can begin and end a word.
pub record Summary : Type 0 where
  pub has_word : Bool
  pub has_empty : Bool
  pub is_closed : Bool
  pub positions : ℕ
  pub first : List ℕ
  pub last : List ℕ

-- it is known that each position that can begin a word can follow each that can end one
abbrev pub closed : Summary → Summary
closed r = record r { is_closed = true }

-- the empty word is added
abbrev pub with_empty : Summary → Summary
with_empty r = record r { has_word = true; has_empty = true }

-- each position that can begin a word of the tree can follow each that can end one
abbrev pub IsClosed : Tree → Type 0
IsClosed t = (p q : ℕ) → (has (lasts t) p && has (firsts t) q) ≡ true → follows t p q ≡ true

-- r is of the tree t, whose positions are numbered from n on
pub record IsPart (n : ℕ) (t : Tree) (r : Summary) : Type 0 where
  pub word : r.has_word ≡ has_word (numbered n t)
  pub empty : r.has_empty ≡ has_empty (numbered n t)
  pub first : r.first ≡ firsts (numbered n t)
  pub last : r.last ≡ lasts (numbered n t)
  pub positions : r.positions ≡ length (positions t)
  pub closed : r.is_closed ≡ true → IsClosed (numbered n t)

-- of trees whose positions are numbered from n on, one after the other
abbrev pub AreParts : ℕ → List Tree → List Summary → Type 0
AreParts n [] [] = Unit {0}
AreParts n [] (r ∷ rs) = ⊥
AreParts n (t ∷ ts) [] = ⊥
AreParts n (t ∷ ts) (r ∷ rs) = IsPart n t r × AreParts (n + length (positions t)) ts rs

-- the table has what follows what in the trees
abbrev pub IsFollowing : ℕ → List Tree → Table → Type 0
IsFollowing n ts table =
    (p q : ℕ) → p < table.width → q < table.width → is_marked table p q ≡ follows_among n ts p q

-- the parts of the trees, the first one last, and the table of what follows what in them; their
-- positions go up to the table's end
pub record IsEvaluated (ts : List Tree) (n : ℕ) (parts : List Summary)
    (table : Table) : Type 0 where
  pub known : AreParts n ts (reverse parts)
  pub end : n + positions_among ts ≡ table.width
  pub marks : IsFollowing n ts table

-- the first of the nodes can be read where those behind it have been
pub record CanRead (ns : List Node) (n : ℕ) (parts : List Summary) (table : Table) : Type 0 where
  pub some : 0 < length ns
  pub notation : IsNotation ns
  pub room : length (letters ns) < table.width
  pub narrow : table.width ≤ widest
  pub behind : IsEvaluated (trees (drop 1 ns)) n parts table

-- so many of the parts can be put together
pub record CanCombine (count n : ℕ) (parts : List Summary) (table : Table) : Type 0 where
  pub trees : List Tree
  pub many : count ≤ length trees
  pub narrow : table.width ≤ widest
  pub evaluated : IsEvaluated trees n parts table

-- the node has taken its parts
abbrev pub HasCombined : Node → ℕ → List Summary → Table → ℕ → List Summary → Table → Type 0
HasCombined node n old before k new after =
    (ts : List Tree) → arity node ≤ length ts → IsEvaluated ts n old before
    → IsEvaluated (built node ts) k new after

-- the two parts fit into the table
pub record CanJoin (n : ℕ) (left right : Summary) (table : Table) : Type 0 where
  pub narrow : table.width ≤ widest
  pub room : n + left.positions + right.positions ≤ table.width
  pub last : All (λ p. p < table.width) left.last
  pub first : All (λ p. p < table.width) right.first

-- the pairs across are added where both parts have words; else no position of them stands in a word
abbrev pub HasJoined : ℕ → Summary → Summary → Table → Summary → Table → Type 0
HasJoined n left right before joined after =
    (s t : Tree) (ts : List Tree) → IsPart n s left → IsPart (n + length (positions s)) t right
    → IsFollowing n (s ∷ (t ∷ ts)) before →
    IsPart n (Cat s t) joined × IsFollowing n (Cat s t ∷ ts) after

-- the part fits into the table
pub record CanRepeat (part : Summary) (table : Table) : Type 0 where
  pub last : All (λ p. p < table.width) part.last
  pub first : All (λ p. p < table.width) part.first

-- the part is that of once or more, and the pairs across are added
abbrev pub HasRepeated : Summary → Table → Summary → Table → Type 0
HasRepeated part before repeated after =
    (n : ℕ) (t : Tree) (ts : List Tree) → IsPart n t part → IsFollowing n (t ∷ ts) before
    → IsPart n (Plus t) repeated × IsFollowing n (Plus t ∷ ts) after
